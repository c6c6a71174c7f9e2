-- What a run needs of a layout (profile).
use Rattle.std.specs.Prelude.{◌<◌, ◌≤◌, All, length}
use Rattle.mac_parameters.specs.Parameters.{greatest_place}
use Rattle.layout.specs.Limits.{most_bits, most_stations, most_repeaters, most_lost_bits}
use Rattle.mac_parameters.specs.Parameters.{greatest_delay}
use Rattle.mac_parameters.specs.Parameters.{least_delay}
use Rattle.mac_parameters.specs.Parameters.{most_ports}
use Rattle.mac_parameters.specs.Parameters.{least_ports}
use Rattle.layout.specs.declared.lines.Layout.{Layout}

-- How many devices there are and how many bits a run may have, that each tap is on a segment of the layout and at most
-- `greatest_place` half bits from its end, and the ranges of delays in half bits, of ports and of lost bits. A sound
-- layout has all this.
pub record IsRunnable (l : Layout) : Type 0 where
  pub few_stations : length l.stations ≤ most_stations
  pub few_repeaters : length l.repeaters ≤ most_repeaters
  pub short : l.until_bits ≤ most_bits
  pub stations_on : All (λ s. s.segment < length l.segments) l.stations
  pub stations_near : All (λ s. s.at ≤ greatest_place) l.stations
  pub lose : All (λ s. s.lose ≤ most_lost_bits) l.stations
  pub two_ports : All (λ r. least_ports ≤ length r.ports) l.repeaters
  pub few_ports : All (λ r. length r.ports ≤ most_ports) l.repeaters
  pub some_delay : All (λ r. least_delay ≤ r.delay) l.repeaters
  pub short_delay : All (λ r. r.delay ≤ greatest_delay) l.repeaters
  pub ports_on : All (λ r. All (λ p. p.segment < length l.segments) r.ports) l.repeaters
  pub ports_near : All (λ r. All (λ p. p.at ≤ greatest_place) r.ports) l.repeaters
