use Rattle.std.proofs.Common.{◌≡◌, ◌-◌, ◌≤◌, All, List, length, map, sym, subst, ap, ap₂, ◌∙◌, arith}
use Rattle.std.specs.List.{range_with_len}
use Rattle.layout.specs.declared.lines.PortLine.{PortLine}
use Rattle.layout.specs.Taps.{delays_of, taps_of}
use Rattle.mac_parameters.specs.Parameters.{greatest_place}
use Rattle.quiet_state.specs.LastSignals.{reach_over}
use Rattle.net_step.specs.Wires.{new_wire, places_from}
use Rattle.net_step.proofs.StandsForNet.{taps_near, few_taps}
use Rattle.net_step.proofs.WholeNet.{stations_within, whole_silent}
use Rattle.network.proofs.RunnablePlans.{runnable_plan}
use Rattle.net_step.proofs.plain.PlainNet.with_devices.Goals as goal

pub new_segments-requires-clause-few : goal.new_segments-requires-clause-few
new_segments-requires-clause-few c = omega (arith, few_taps c.args.plan.now.layout (runnable_plan c.args.plan.now), ap length (c.deref.ensures.value ∙ c.in_ok-taps.ensures))

pub new_segments-requires-clause-near : goal.new_segments-requires-clause-near
new_segments-requires-clause-near c =
    subst (All (λ (x : PortLine). x.at ≤ greatest_place)) (sym (c.deref.ensures.value ∙ c.in_ok-taps.ensures)) (taps_near c.args.plan.now.layout (runnable_plan c.args.plan.now))

pub idle_symbols-requires : goal.idle_symbols-requires
idle_symbols-requires c =
    let within = stations_within c.args.plan.now.layout in
    omega (arith, within, c.len.ensures, c.in_ok-taps.taps.ok.0, ap length c.in_ok-taps.ensures, c.len-count.ensures)

pub places_of-requires : goal.places_of-requires
places_of-requires c = omega (arith, few_taps c.args.plan.now.layout (runnable_plan c.args.plan.now), ap length (c.deref-2.ensures.value ∙ c.in_ok-taps.ensures))

pub invariant_of-result : goal.invariant_of-result
invariant_of-result c =
    let plan = c.args.plan.now in
    let l = plan.layout in
    let all : c.in_ok-taps.taps.items ≡ taps_of l = c.in_ok-taps.ensures in
    let many : length c.in_ok-taps.taps.items ≡ length (taps_of l) = ap length all in
    let wires : c.in_ok-new_segments.field-0.items ≡ map (new_wire (taps_of l)) (range_with_len 0 (length l.segments)) = c.in_ok-new_segments.ensures ∙ ap₂ (λ n (ts : List PortLine). map (new_wire ts) (range_with_len 0 n)) c.len-3.ensures (c.deref.ensures.value ∙ all) in
    let places : c.in_ok-places_of.field-0.items ≡ places_from 0 (taps_of l) (taps_of l) = c.in_ok-places_of.ensures ∙ ap (λ ts. places_from 0 ts ts) (c.deref-2.ensures.value ∙ all) in
    let reaches : c.in_ok-new.field-0.reaches.items ≡ map (λ x. reach_over x (taps_of l)) (taps_of l) = c.in_ok-new.ensures.reaches ∙ ap (λ (ts : List PortLine). map (λ (x : PortLine). reach_over x ts) ts) (c.deref-3.ensures.value ∙ all) in
    let delays : c.in_ok-new.field-0.delays.items ≡ delays_of l.repeaters = c.in_ok-new.ensures.delays ∙ ap delays_of c.as_slice.ensures in
    let size = c.len.ensures ∙ c.in_ok-taps.taps.ok.0 ∙ many in
    let count = c.len-count.ensures in
    let made = c.in_ok-symbols.ensures in
    let quiet = c.in_ok-events.ensures in
    let ports = ap₂ (λ m n. m - n) size count in
    whole_silent plan _ _ _ _ _ _ _ _ _ (runnable_plan plan) (record { wires = wires; places = places; reaches = reaches; delays = delays; settled = c.in_ok-new.ensures.settled })
    c.requires.senders c.requires.receivers c.requires.captures c.requires.ports (made.heard ∙ size) (made.emitted ∙ count) (made.port_emitted ∙ ports) (made.decided ∙ ports) (made.row ∙ size)
    (quiet.sent ∙ count) (quiet.received ∙ count) (quiet.repeaters ∙ c.len-2.ensures ∙ c.args.relays.ok.0) c.requires.times c.requires.steps

pub returns-clause-silent : goal.returns-clause-silent
returns-clause-silent c =
    let l = c.args.plan.now.layout in
    let all : c.in_ok-taps.taps.items ≡ taps_of l = c.in_ok-taps.ensures in
    let wires : c.in_ok-new_segments.field-0.items ≡ map (new_wire (taps_of l)) (range_with_len 0 (length l.segments)) = c.in_ok-new_segments.ensures ∙ ap₂ (λ n (ts : List PortLine). map (new_wire ts) (range_with_len 0 n)) c.len-3.ensures (c.deref.ensures.value ∙ all) in
    let places : c.in_ok-places_of.field-0.items ≡ places_from 0 (taps_of l) (taps_of l) = c.in_ok-places_of.ensures ∙ ap (λ ts. places_from 0 ts ts) (c.deref-2.ensures.value ∙ all) in
    let reaches : c.in_ok-new.field-0.reaches.items ≡ map (λ x. reach_over x (taps_of l)) (taps_of l) = c.in_ok-new.ensures.reaches ∙ ap (λ (ts : List PortLine). map (λ (x : PortLine). reach_over x ts) ts) (c.deref-3.ensures.value ∙ all) in
    let delays : c.in_ok-new.field-0.delays.items ≡ delays_of l.repeaters = c.in_ok-new.ensures.delays ∙ ap delays_of c.as_slice.ensures in
    record { wires = wires; places = places; reaches = reaches; delays = delays; settled = c.in_ok-new.ensures.settled }
