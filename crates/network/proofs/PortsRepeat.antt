-- What an open port of a repeater hears, each other port that does not rest then emits.
use Rattle.std.proofs.Common.{◌≡◌, ◌≢◌, sym, ◌∙◌, ap, ap₂, subst, ℕ, zero, suc, ◌+◌, ◌<◌, ◌≤◌, Bool, true, false, List, [], ◌∷◌, map, length, length-drop, length-take-le, take, drop, get_or, get_or-take, get_or-drop, Some, arith}
use Rattle.std.specs.List.{flat_map}
use Rattle.std.proofs.lemmas.List.{length-map, get_or_append_left}
use Rattle.std.proofs.lemmas.List.Sums.{sum_by-cons}
use Rattle.std.proofs.lemmas.Option.{none-some, slice_get_within}
use Rattle.manchester_line.specs.declared.Sym.{Sym}
use Rattle.manchester_line.specs.declared.Sym.TheVariants.{Idle}
use Rattle.layout.specs.declared.lines.PortLine.{PortLine}
use Rattle.layout.specs.declared.lines.RepeaterLine.{RepeaterLine}
use Rattle.layout.specs.declared.ways.Attachment.TheVariants.{Station, Port}
use Rattle.layout.specs.declared.ways.Way.TheVariants as way
use Rattle.layout.specs.Paths.{place, IsTap, delay_of}
use Rattle.layout.proofs.Cuts.{has_part}
use Rattle.layout.proofs.Sides.{repeater_number}
use Rattle.load_plan.specs.declared.plan.Plan.{Plan}
use Rattle.port_partition.specs.Guard.{Guard}
use Rattle.repeater_core.specs.Counts.{Choice}
use Rattle.repeater_core.specs.Step.{RepeaterDevice, chosen, decided_by, resting_by}
use Rattle.repeater_core.proofs.Lawful.{length_chosen, signals}
use Rattle.network.specs.Attempts.{port_number, tap_number, IsOpen, IsAwake}
use Rattle.network.specs.Net.{ports_of, net, each_repeater, heard_in, ports_hear}
use Rattle.network.specs.Signals.{RepeatersRepeat}
use Rattle.network.specs.Times.{heard, emitted, decided, earlier, port_delays}
use Rattle.network.proofs.RunnablePlans.{runnable_plan}
use Rattle.network.proofs.DelayLines.{LinesUp, delayed_from_All, all_ports, ports-lined}
use Rattle.network.proofs.AbsoluteTimes.{earlier_at, IsShaped, heard_sizes, shaped, port_emits}
use Rattle.network.proofs.TapNumbers.{read_behind, port_in, port_below, delay_at}

abbrev closed_of : RepeaterDevice → List Bool
closed_of r = map (λ (g : Guard). g.closed) r.guards

abbrev all_closed : List RepeaterDevice → List Bool
all_closed rs = flat_map closed_of rs

abbrev all_resting : List Sym → List RepeaterDevice → List Bool
all_resting hs rs = flat_map (λ (rests : List Bool). rests) (each_repeater resting_by hs rs)

abbrev all_decided : List Sym → List RepeaterDevice → List Sym
all_decided hs rs = flat_map (λ (symbols : List Sym). symbols) (each_repeater decided_by hs rs)

size_resting : (hs : List Sym) (r : RepeaterDevice) → length (resting_by hs r) ≡ length r.counts
size_resting hs r = length-map (chosen hs r) (λ (c : Choice). c.rests) ∙ length_chosen hs r

size_decided : (hs : List Sym) (r : RepeaterDevice) → length (decided_by hs r) ≡ length r.counts
size_decided hs r = length-map (chosen hs r) (λ (c : Choice). c.symbol) ∙ length_chosen hs r

-- what an open port hears is decided for the others that do not rest, wherever its repeater stands among all
row_repeats : (ls : List RepeaterLine) (rs : List RepeaterDevice) (h : List (List Sym)) (hs : List Sym) (r i j : ℕ) (x y : PortLine) → LinesUp ls rs h → ports_of rs ≤ length hs
    → port_in ls r i ≡ Some x → port_in ls r j ≡ Some y → i ≢ j
    → get_or (all_closed rs) (port_number ls r i) true ≡ false → get_or hs (port_number ls r i) Idle ≢ Idle → get_or (all_resting hs rs) (port_number ls r j) true ≡ false
    → get_or (all_decided hs rs) (port_number ls r j) Idle ≢ Idle
row_repeats [] rs h hs r i j x y up m pi pj ne o b a = absurd (none-some x pi)
row_repeats (l ∷ ls) [] h hs r i j x y up m pi pj ne o b a = absurd up
row_repeats (l ∷ ls) (s ∷ rs) h hs zero i j x y up m pi pj ne o b a =
    let g = length s.guards in
    let ears = take g hs in
    let rest = drop g hs in
    let guards : g ≡ length l.ports = up.0.guards in
    let counts : length s.counts ≡ length l.ports = up.0.counts in
    let sum = sum_by-cons (λ (z : RepeaterDevice). length z.guards) s rs in
    let size : length ears ≡ g = length-take-le g hs (omega (arith, m, sum)) in
    let low_i : i < length l.ports = slice_get_within l.ports i x pi in
    let low_j : j < length l.ports = slice_get_within l.ports j y pj in
    let closed : length (closed_of s) ≡ g = length-map s.guards (λ (z : Guard). z.closed) in
    let resting : length (resting_by ears s) ≡ length s.counts = size_resting ears s in
    let decided : length (decided_by ears s) ≡ length s.counts = size_decided ears s in
    let is_open : get_or (closed_of s) i true ≡ false = sym (get_or_append_left (closed_of s) (all_closed rs) true i (omega (arith, closed, guards, low_i))) ∙ o in
    let hears : get_or ears i Idle ≢ Idle = λ e. b (sym (get_or-take g hs i Idle (omega (arith, guards, low_i))) ∙ e) in
    let awake : get_or (resting_by ears s) j true ≡ false = sym (get_or_append_left (resting_by ears s) (all_resting rest rs) true j (omega (arith, resting, counts, low_j))) ∙ a in
    let sends : get_or (decided_by ears s) j Idle ≢ Idle = signals s ears size i j (omega (arith, closed, guards, low_i)) (omega (arith, decided, counts, low_j)) ne is_open hears awake in
    subst (λ z. z ≢ Idle) (sym (get_or_append_left (decided_by ears s) (all_decided rest rs) Idle j (omega (arith, decided, counts, low_j)))) sends
row_repeats (l ∷ ls) (s ∷ rs) h hs (suc r) i j x y up m pi pj ne o b a =
    let g = length s.guards in
    let ears = take g hs in
    let rest = drop g hs in
    let n = length l.ports in
    let p = port_number ls r i in
    let q = port_number ls r j in
    let guards : g ≡ n = up.0.guards in
    let counts : length s.counts ≡ n = up.0.counts in
    let sum = sum_by-cons (λ (z : RepeaterDevice). length z.guards) s rs in
    let more = length-drop g hs in
    let is_open : get_or (all_closed rs) p true ≡ false = sym (read_behind (closed_of s) (all_closed rs) n p true (length-map s.guards (λ (z : Guard). z.closed) ∙ guards)) ∙ o in
    let at : get_or rest p Idle ≡ get_or hs (n + p) Idle = get_or-drop g hs p Idle ∙ ap (λ k. get_or hs (k + p) Idle) guards in
    let hears : get_or rest p Idle ≢ Idle = λ e. b (sym at ∙ e) in
    let awake : get_or (all_resting rest rs) q true ≡ false = sym (read_behind (resting_by ears s) (all_resting rest rs) n q true (size_resting ears s ∙ counts)) ∙ a in
    let sends : get_or (all_decided rest rs) q Idle ≢ Idle =
    row_repeats ls rs (map (drop n) h) rest r i j x y up.1 (omega (arith, m, sum, more)) pi pj ne is_open hears awake in
    subst (λ z. z ≢ Idle) (sym (read_behind (decided_by ears s) (all_decided rest rs) n q Idle (size_decided ears s ∙ counts))) sends

-- through one repeater
through : (plan : Plan) (r i j t : ℕ) (x y : PortLine) → place plan.layout (Port r i) ≡ Some x → place plan.layout (Port r j) ≡ Some y → i ≢ j → IsOpen plan (Port r i) t → IsAwake plan (Port r j) t
    → heard plan (tap_number plan.layout (Port r i)) t ≢ Idle → emitted plan (tap_number plan.layout (Port r j)) (t + delay_of plan.layout (Port r i)) ≢ Idle
through plan r i j t x y px py ne o a busy =
    let l = plan.layout in
    let ls = l.repeaters in
    let n = net plan t in
    let p = port_number ls r i in
    let q = port_number ls r j in
    let away = delay_of l (Port r i) in
    let shape : IsShaped plan n = shaped plan t (delayed_from_All ls (runnable_plan plan).some_delay) in
    let ports : length (ports_hear n) ≡ all_ports ls = (heard_sizes plan t shape).1 in
    let all : ports_of n.repeaters ≡ all_ports ls = ports-lined ls n.repeaters n.decided shape.lines in
    let at : get_or (ports_hear n) p Idle ≡ heard plan (length l.stations + p) t =
    get_or-drop (length n.senders) (heard_in n) p Idle ∙ ap (λ k. get_or (heard_in n) (k + p) Idle) shape.senders in
    let hears : get_or (ports_hear n) p Idle ≢ Idle = λ e. busy (sym at ∙ e) in
    let sends : decided plan q t ≢ Idle = row_repeats ls n.repeaters n.decided (ports_hear n) r i j x y shape.lines (omega (arith, ports, all)) px py ne o hears a in
    let late : get_or (port_delays l) q 0 ≡ away = delay_at ls r j y py in
    let emits : emitted plan (length l.stations + q) (t + away) ≡ decided plan q t =
    port_emits plan (t + away) q (port_below ls r j y py) ∙ ap (λ d. earlier (decided plan q) (t + away) d) late ∙ earlier_at (decided plan q) t away in
    subst (λ s. s ≢ Idle) (sym emits) sends

pub repeats : RepeatersRepeat
repeats plan (Station k) b t step o a busy = absurd (none-some step.part step.from)
repeats plan (Port r i) (Station k) t step o a busy = absurd (none-some step.part step.to)
repeats plan (Port r i) (Port s j) t step o a busy =
    let l = plan.layout in
    let tap_a : IsTap l (Port r i) = has_part l way.Repeater (Port r i) step.part step.from in
    let tap_b : IsTap l (Port s j) = has_part l way.Repeater (Port s j) step.part step.to in
    let same : r ≡ s = repeater_number l r i step.part step.from ∙ sym (repeater_number l s j step.part step.to) in
    let differ : i ≢ j = λ e. step.different (ap₂ (λ n m. Port n m) same e) in
    let back : ℕ → Type 0 = λ m. (place l (Port m j) ≡ Some tap_b.0) → IsAwake plan (Port m j) t → emitted plan (tap_number l (Port m j)) (t + delay_of l (Port r i)) ≢ Idle in
    subst back same (λ py b. through plan r i j t tap_a.0 tap_b.0 tap_a.1 py differ o b busy) tap_b.1 a
