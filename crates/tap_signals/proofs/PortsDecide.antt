-- What is decided for a port is a signal exactly where the mode sends to it and it doesn't rest.
use Rattle.std.proofs.Common.{◌≡◌, ℕ, zero, suc, ◌+◌, ◌<◌, eqb, ◌&&◌, List, [], ◌∷◌, map, length, get_or, Some, sym, ap, ap₂, ◌∙◌, arith}
use Rattle.std.proofs.lemmas.Bool.Decides.{nat_tests}
use Rattle.std.proofs.lemmas.List.{get_or-map}
use Rattle.std.proofs.lemmas.Option.{none-some, slice_get_within}
use Rattle.manchester_line.specs.declared.Sym.{Sym}
use Rattle.manchester_line.specs.declared.Sym.TheVariants as sy
use Rattle.manchester_line.specs.Line.{is_signal}
use Rattle.layout.specs.declared.lines.PortLine.{PortLine}
use Rattle.layout.specs.declared.lines.RepeaterLine.{RepeaterLine}
use Rattle.load_plan.specs.declared.plan.Plan.{Plan}
use Rattle.repeater_core.specs.Counts.{Count, Choice, choice, resting_count}
use Rattle.repeater_core.specs.Laws.{count_at}
use Rattle.repeater_core.specs.Modes.{activity_from, mode_after, wish_of}
use Rattle.repeater_core.specs.SilentParts.{sends_to}
use Rattle.repeater_core.specs.Step.{RepeaterDevice, after, chosen, decided_by, mode_next}
use Rattle.repeater_core.proofs.Lawful.{at_port}
use Rattle.repeater_core.proofs.SendsToOthers.{repeatable, hears_as}
use Rattle.repeater_core.proofs.SteadyCount.{wish_signal}
use Rattle.network.specs.Attempts.{port_number}
use Rattle.network.specs.Times.{decided}
use Rattle.network.proofs.TapNumbers.{port_in}
use Rattle.net_parts.specs.RepeaterParts.{edges_before, edges_in, edges_at, RepeaterState}
use Rattle.net_parts.specs.Standing.{port_hears, repeater_state}
use Rattle.net_parts.proofs.NetworkFacts.{repeater_facts}
use Rattle.net_parts.proofs.RepeaterSteps.{repeaters_go_on, get_or-span, length-span}

choice_sends : (w : Sym) (c : Count) → is_signal (choice w c).symbol ≡ is_signal w && (eqb c.rest 0 && eqb (choice w c).count.rest 0)
choice_sends sy.Idle c = grind (arith, nat_tests)
choice_sends sy.Hi c = grind (arith, nat_tests)
choice_sends sy.Lo c = grind (arith, nat_tests)
choice_sends sy.Clash c = grind (arith, nat_tests)

-- port p of a repeater
port_sends : (hears : List Sym) (r : RepeaterDevice) (p : ℕ) → p < length r.counts →
    is_signal (get_or (decided_by hears r) p sy.Idle)
    ≡ sends_to (after hears r).mode p && (eqb (count_at r.counts p).rest 0 && eqb (count_at (after hears r).counts p).rest 0)
unfolding mode_next chosen
port_sends hears r p l =
    let mode = mode_after r.mode (activity_from 0 r.guards hears) in
    let w = wish_of mode hears p in
    let c = count_at r.counts p in
    let symbol : get_or (decided_by hears r) p sy.Idle ≡ (choice w c).symbol = at_port (λ (x : Choice). x.symbol) mode hears r.counts p sy.Idle l in
    let count : count_at (after hears r).counts p ≡ (choice w c).count = at_port (λ (x : Choice). x.count) mode hears r.counts p (resting_count 0) l in
    ap is_signal symbol ∙ choice_sends w c
    ∙ ap₂ (λ a b. a && (eqb c.rest 0 && b)) (wish_signal mode hears p (repeatable hears r.mode (activity_from 0 r.guards hears) (hears_as 0 r.guards hears)))
    (ap (λ (x : Count). eqb x.rest 0) (sym count))

-- where a port is among all
pub port_facts : (ls : List RepeaterLine) (r p : ℕ) (x : PortLine) → port_in ls r p ≡ Some x → (r < length ls) × ((p < edges_in ls r) × (port_number ls r p ≡ edges_before ls r + p))
port_facts [] r p x h = absurd (none-some x h)
port_facts (y ∷ ls) zero p x h = (omega arith, (slice_get_within y.ports p x h, omega arith))
port_facts (y ∷ ls) (suc r) p x h =
    let rest = port_facts ls r p x h in
    (omega (arith, rest.0), (rest.1.0, omega (arith, rest.1.1)))

-- port p of repeater r of a network
pub port_decides : (plan : Plan) (r p t : ℕ) (x : PortLine) → port_in plan.layout.repeaters r p ≡ Some x →
    is_signal (decided plan (port_number plan.layout.repeaters r p) t)
    ≡ sends_to (repeater_state plan r (suc t)).mode p && (eqb (count_at (repeater_state plan r t).counts p).rest 0 && eqb (count_at (repeater_state plan r (suc t)).counts p).rest 0)
port_decides plan r p t x h =
    let ls = plan.layout.repeaters in
    let at = port_facts ls r p x h in
    let s = repeater_state plan r t in
    let hears = map (λ e. port_hears plan e t) (edges_at plan.layout r) in
    let steps = repeaters_go_on plan r t at.0 in
    let next : after hears s ≡ repeater_state plan r (suc t) = ap (λ (y : RepeaterState). y.repeater) steps.0 in
    let counts : length s.counts ≡ edges_in ls r = (repeater_facts plan).counts r t at.0 in
    let span = length-span (λ (e : ℕ). e) (edges_before ls r) (edges_in ls r) in
    let symbol : get_or (decided_by hears s) p sy.Idle ≡ decided plan (port_number ls r p) t =
    ap (λ (xs : List Sym). get_or xs p sy.Idle) steps.1
    ∙ get_or-map (λ e. decided plan e t) (edges_at plan.layout r) p 0 sy.Idle (omega (arith, at.1.0, span))
    ∙ ap (λ e. decided plan e t) (get_or-span (λ e. e) (edges_before ls r) (edges_in ls r) p 0 at.1.0 ∙ sym at.1.1) in
    ap is_signal (sym symbol) ∙ port_sends hears s p (omega (arith, counts, at.1.0))
    ∙ ap (λ (y : RepeaterDevice). sends_to y.mode p && (eqb (count_at s.counts p).rest 0 && eqb (count_at y.counts p).rest 0)) next
