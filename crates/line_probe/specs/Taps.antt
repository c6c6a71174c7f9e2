-- The words by which taps are named (profile). Devices count from 0, the stations before the repeaters; the ports of a
-- Tap count from 0 and those of a word from 1.
use Rattle.std.specs.Prelude.{◌≡◌, ℕ, ◌+◌, ◌-◌, ◌<◌, ◌≤◌, ◌⊎◌, nat_lt, if◌then◌else◌, Some, List, [], ◌++◌, map, length, slice_get, slice_index_or, codes, decimal}
use Rattle.layout.specs.declared.lines.Layout.{Layout}
use Rattle.layout.specs.declared.lines.RepeaterLine.{RepeaterLine}
use Rattle.layout.specs.declared.ways.Attachment.TheVariants.{Station, Port}
use Rattle.network.specs.Attempts as network
use Rattle.line_probe.specs.declared.tap.Tap.{Tap}

-- the word of the port with this number, counted from 1, of a repeater with this name
abbrev pub word_of_port : List ℕ → ℕ → List ℕ
word_of_port name number = name ++ codes ":" ++ decimal number

-- the word is that of this port, counted from 0, of this repeater
pub record IsPortOf (repeater : RepeaterLine) (port : ℕ) (word : List ℕ) : Type 0 where
  pub within : port < length repeater.ports
  pub named : word ≡ word_of_port repeater.name (port + 1)

-- the word is the name of this station
pub record IsStationWord (l : Layout) (word : List ℕ) (tap : Tap) : Type 0 where
  pub named : slice_get (map (λ s. s.name) l.stations) tap.device ≡ Some word
  pub one_tap : tap.port ≡ 0

-- the word is that of this port of a repeater
pub record IsPortWord (l : Layout) (word : List ℕ) (tap : Tap) : Type 0 where
  pub repeater : RepeaterLine
  pub after_stations : length l.stations ≤ tap.device
  pub device : slice_get l.repeaters (tap.device - length l.stations) ≡ Some repeater
  pub port_of : IsPortOf repeater tap.port word

-- the word names this tap
abbrev pub IsWordOf : Layout → List ℕ → Tap → Type 0
IsWordOf l word tap = IsStationWord l word tap ⊎ IsPortWord l word tap

-- a repeater without ports
abbrev pub no_repeater : RepeaterLine
no_repeater = record { name = []; delay = 0; ports = [] }

-- the layout has this tap
abbrev pub HasTap : Layout → Tap → Type 0
HasTap l tap =
    ((tap.device < length l.stations) × (tap.port ≡ 0))
    ⊎ ((length l.stations ≤ tap.device) × (tap.device - length l.stations < length l.repeaters)
    × (tap.port < length (slice_index_or l.repeaters (tap.device - length l.stations) no_repeater).ports))

-- which tap of all, from 0, this is: those of the stations come first, then those of the ports
abbrev pub tap_number_of : Layout → Tap → ℕ
tap_number_of l tap =
    network.tap_number l
    (if nat_lt tap.device (length l.stations) then Station tap.device
    else Port (tap.device - length l.stations) tap.port)
