-- The lookahead of a layout, and the windows of a run (profile). Half bits, windows, segments, repeaters, ports and
-- taps count from 0; a tap's number is its place among all taps, those of the stations first.
use Rattle.std.specs.Prelude.{ℕ, ◌+◌, ◌-◌, ◌*◌, ◌/◌, ◌==◌, ◌&&◌, not, min, if◌then◌else◌, List, [], ◌∷◌, flat_map, length}
use Rattle.mac_parameters.specs.Distances.{distance}
use Rattle.layout.specs.declared.lines.Layout.{Layout}
use Rattle.layout.specs.declared.lines.PortLine.{PortLine}
use Rattle.layout.specs.declared.lines.RepeaterLine.{RepeaterLine}
use Rattle.layout.specs.Taps.{taps_of}
use Rattle.load_plan.specs.declared.plan.Plan.{Plan}
use Rattle.network.specs.Outputs.{half_bits}

-- The most half bits of a window (profile).
abbrev pub most_lookahead : ℕ
most_lookahead = 4096

-- All ports of a layout's repeaters, in the file's order: the port at place e of these is edge e (profile).
abbrev pub edge_ports : Layout → List PortLine
edge_ports l = flat_map (λ r. r.ports) l.repeaters

-- The half bits from tap p, which is `here`, to the nearest other tap of its segment among these, the first of which
-- is tap q; the most of a window where there is none (profile).
abbrev pub nearest : ℕ → PortLine → ℕ → List PortLine → ℕ
nearest p here q [] = most_lookahead
nearest p here q (x ∷ xs) =
    min (if x.segment == here.segment && not (q == p) then distance here.at x.at else most_lookahead)
    (nearest p here (q + 1) xs)

-- The least, over these ports of a repeater with this delay, of the delay and the way to the nearest other tap among
-- all, at most the most of a window; the first of the ports is tap p (profile).
abbrev pub least_of_ports : List PortLine → ℕ → ℕ → List PortLine → ℕ
least_of_ports all delay p [] = most_lookahead
least_of_ports all delay p (x ∷ xs) = min (delay + nearest p x 0 all) (least_of_ports all delay (p + 1) xs)

-- The least of this over the ports of these repeaters; the first of the ports is tap p (profile).
abbrev pub least_of_repeaters : List PortLine → ℕ → List RepeaterLine → ℕ
least_of_repeaters all p [] = most_lookahead
least_of_repeaters all p (r ∷ rs) =
    min (least_of_ports all r.delay p r.ports) (least_of_repeaters all (p + length r.ports) rs)

-- The half bits of a window: the least, over all ports, of the repeater's delay and the way to the nearest other tap
-- of the port's segment, at most 4,096. A port that is alone on its segment counts as 4,096 (profile).
unfoldable pub lookahead : Layout → ℕ
lookahead l = least_of_repeaters (taps_of l) (length l.stations) l.repeaters

-- How many windows a run has (profile).
abbrev pub windows : Plan → ℕ
windows plan = (half_bits plan + lookahead plan.layout - 1) / lookahead plan.layout

-- The half bit at which window w begins, and that of the end behind the last window (profile).
abbrev pub time : Plan → ℕ → ℕ
time plan w = min (w * lookahead plan.layout) (half_bits plan)

-- The half bits of window w: only the last window may be shorter than the others (profile).
abbrev pub size : Plan → ℕ → ℕ
size plan w = min (lookahead plan.layout) (half_bits plan - w * lookahead plan.layout)
