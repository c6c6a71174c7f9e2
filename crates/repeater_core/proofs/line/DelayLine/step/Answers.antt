use Rattle.std.proofs.Common.{◌≡◌, ◌*◌, length, ap, subst, ◌∙◌, sym, rules}
use Rattle.std.proofs.lemmas.List.{with_items_is}
use Rattle.repeater_core.specs.Delayed.{Delayed, rotated, moved_on, IsRing}
use Rattle.repeater_core.proofs.RingLeaps.{moved_row, stepped_ring}
use Rattle.repeater_core.proofs.NextTurnOfRing.{same_delayed}
use Rattle.repeater_core.proofs.line.DelayLine.step.Goals as goal

pub returns-clause-state : goal.returns-clause-state
returns-clause-state c =
    let q = c.self.inside in
    let n : length c.args.decided.now ≡ q.ports = c.requires.decided_len ∙ sym (ap (λ (d : Delayed). d.ports) c.self.view_is) in
    let len : length c.turn_row.new.slots ≡ q.delay * q.ports = search rules in
    let moved = moved_row q.ports q.delay q.turn _ _ _ _ _ c.args.decided.now n len c.next_turn-self-inside.ensures.next c.deref_mut.ensures.value c.turn_row.ensures.rows in
    same_delayed (ap (rotated (c.next_turn-self-inside.result * q.ports)) (with_items_is q.slots c.turn_row.new.slots (search rules)) ∙ moved) ∙ ap (moved_on c.args.decided.now) c.self.view_is

pub invariant_of-self : goal.invariant_of-self
invariant_of-self c =
    let q = c.self.inside in
    let n : length c.args.decided.now ≡ q.ports = c.requires.decided_len ∙ sym (ap (λ (d : Delayed). d.ports) c.self.view_is) in
    let len : length c.turn_row.new.slots ≡ q.delay * q.ports = search rules in
    let moved = moved_row q.ports q.delay q.turn _ _ _ _ _ c.args.decided.now n len c.next_turn-self-inside.ensures.next c.deref_mut.ensures.value c.turn_row.ensures.rows in
    subst (IsRing q.ports q.delay c.next_turn-self-inside.result c.filled_after-self-inside.result c.alike_where-self-inside.result) (sym (with_items_is q.slots c.turn_row.new.slots (search rules)))
    (stepped_ring q.ports q.delay q.turn c.next_turn-self-inside.result q.filled c.filled_after-self-inside.result q.alike c.alike_where-self-inside.result q.slots.items c.turn_row.new.slots c.args.decided.now c.args.idle
    c.self.invariant len moved c.next_turn-self-inside.ensures.within c.requires.idle c.filled_after-self-inside.ensures c.alike_where-self-inside.ensures)
