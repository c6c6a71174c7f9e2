-- The taps of a layout in their order: those of the stations, then those of the ports of each repeater (profile).
-- Stations, repeaters and ports count from 0.
use Rattle.std.specs.Prelude.{ℕ, ◌+◌, List, [], ◌∷◌, ◌++◌, map, length}
use Rattle.std.specs.List.{range_with_len}
use Rattle.layout.specs.declared.lines.Layout.{Layout}
use Rattle.layout.specs.declared.lines.RepeaterLine.{RepeaterLine}
use Rattle.layout.specs.declared.ways.Attachment.{Attachment}
use Rattle.layout.specs.declared.ways.Attachment.TheVariants.{Station, Port}

-- The ports of these repeaters, of which the first has number r.
abbrev pub ports_from : ℕ → List RepeaterLine → List Attachment
ports_from r [] = []
ports_from r (x ∷ xs) = map (Port r) (range_with_len 0 (length x.ports)) ++ ports_from (r + 1) xs

-- All taps of a layout.
abbrev pub taps_in_order : Layout → List Attachment
taps_in_order l = map Station (range_with_len 0 (length l.stations)) ++ ports_from 0 l.repeaters
