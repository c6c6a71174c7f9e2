-- The lines of a log, by how they are written (profile). Half bits count from 0.
use Rattle.std.specs.Prelude.{◌≡◌, ℕ, ◌^◌, ◌<◌, ◌≤◌, Bool, true, false, List, IfSome, ⊤}
use Rattle.mac_parameters.specs.Parameters.{most_half_bits}
use Rattle.collision_log.specs.Rows.{row_line}
use Rattle.collision_log.specs.declared.row.Body.{Body}
use Rattle.collision_log.specs.declared.row.Body.TheVariants.{Sent, Collided, GivenUp, Cut, Received, Dropped, Clash, Closed, Opened, Halted}
use Rattle.layout.specs.Sound.{IsName}
use Rattle.log_meter.specs.declared.line.LogLine.{LogLine}

-- the text of a line, with its line feed: that of the row of a device with the line's name
abbrev pub entry_text : LogLine → List ℕ
entry_text l = row_line (record { t = l.t; device = 0; body = l.body }) l.repeater l.name

-- whether what happened is what happens to repeaters: collisions there, and what becomes of their ports
abbrev pub is_of_repeater : Body → Bool
is_of_repeater (Sent frame start attempt) = false
is_of_repeater (Collided frame start attempt hit drawn) = false
is_of_repeater (GivenUp frame start hit) = false
is_of_repeater (Cut frame start attempt hit) = false
is_of_repeater (Received octets) = false
is_of_repeater (Dropped why halves) = false
is_of_repeater Clash = true
is_of_repeater (Closed port) = true
is_of_repeater (Opened port) = true
is_of_repeater (Halted port) = true

-- a number of a line that is no half bit of the run: it has 32 bits
abbrev pub IsLogNumber : ℕ → Type 0
IsLogNumber n = n < 2 ^ 32

-- the numbers of what happened in half bit t are in range, and no sending began later
abbrev pub IsInRange : ℕ → Body → Type 0
IsInRange t (Sent frame start attempt) = IsLogNumber frame × (start ≤ t) × IsLogNumber attempt
IsInRange t (Collided frame start attempt hit drawn) =
    IsLogNumber frame × (start ≤ t) × IsLogNumber attempt × IsLogNumber hit × IsLogNumber drawn
IsInRange t (GivenUp frame start hit) = IsLogNumber frame × (start ≤ t) × IsLogNumber hit
IsInRange t (Cut frame start attempt hit) =
    IsLogNumber frame × (start ≤ t) × IsLogNumber attempt × IfSome hit IsLogNumber
IsInRange t (Received octets) = IsLogNumber octets
IsInRange t (Dropped why halves) = IsLogNumber halves
IsInRange t Clash = ⊤
IsInRange t (Closed port) = IsLogNumber port
IsInRange t (Opened port) = IsLogNumber port
IsInRange t (Halted port) = IsLogNumber port

-- a line of the grammar of logs
pub record IsLogLine (l : LogLine) : Type 0 where
  pub time : l.t ≤ most_half_bits
  pub name : IsName l.name
  pub device : l.repeater ≡ is_of_repeater l.body
  pub numbers : IsInRange l.t l.body
