-- The ways from station to station, and the ports by which they enter repeaters (profile). Lengths are half bits;
-- stations, repeaters and ports count from 0.
use Rattle.std.specs.Prelude.{◌≢◌, ℕ, ◌+◌, ◌<◌, List, [], ◌∷◌, ◌++◌, length}
use Rattle.layout.specs.declared.lines.Layout.{Layout}
use Rattle.layout.specs.declared.ways.Attachment.{Attachment}
use Rattle.layout.specs.declared.ways.Attachment.TheVariants.{Station, Port}
use Rattle.layout.specs.declared.ways.Way.{Way}
use Rattle.layout.specs.declared.ways.Way.TheVariants as way
use Rattle.layout.specs.Paths.{IsPath, Path, other_way, step_length}
use Rattle.frame_table.specs.declared.routes.WayIn.{WayIn}

-- the entry by a port, n half bits from where the way began
abbrev pub entry_by : Way → Attachment → ℕ → List WayIn
entry_by way.Cable a n = []
entry_by way.Repeater (Station k) n = []
entry_by way.Repeater (Port r p) n = record { repeater = r; port = p; at = n } ∷ []

-- the entries on a walk from tap a over these taps, the first step by this way, where a is n half bits from the start
abbrev pub entries_on : Layout → Way → Attachment → List Attachment → ℕ → List WayIn
entries_on l w a [] n = []
entries_on l w a (t ∷ ts) n = entry_by w a n ++ entries_on l (other_way w) t ts (n + step_length l w a t)

-- the ports by which a path from tap a enters repeaters, in order, each with its distance from a
abbrev pub entries_on_path : Layout → Attachment → Path → List WayIn
entries_on_path l a p = entries_on l p.begins a p.taps 0

-- for any two different stations a and b, routes a b is the path from a to b
abbrev pub AreRoutes : Layout → (ℕ → ℕ → Path) → Type 0
AreRoutes l routes =
    (a b : ℕ) → a < length l.stations → b < length l.stations → a ≢ b
    → IsPath l (Station a) (routes a b) (Station b)
