use Rattle.std.proofs.Common.{◌≡◌, ◌*◌, ◌<◌, ◌∙◌, true, length, map, take, sym, ap, subst, arith}
use Rattle.std.proofs.lemmas.Grind.{common_steps}
use Rattle.manchester_line.specs.Line.{is_signal}
use Rattle.repeater_core.specs.Delayed.{Delayed, rotated}
use Rattle.repeater_core.proofs.AlikeRows.{next_ring, one_alike}
use Rattle.repeater_core.proofs.RingLeaps.{rotated_len}
use Rattle.repeater_core.proofs.line.DelayLine.alike.Goals as goal

pub loop-row-preserved : goal.loop-row-preserved
loop-row-preserved c =
    let q = c.self.inside in
    let p = q.ports in
    let items = q.slots.items in
    let rows = rotated (q.turn * p) items in
    let i = c.loop-row.invariant in
    let row = c.loop-row.row in
    let below : row < q.delay = omega arith in
    let lr : length rows ≡ q.delay * p = rotated_len (q.turn * p) items ∙ c.self.invariant.slots_len in
    let n : length c.args.front.now ≡ p = c.requires.front_len ∙ sym (ap (λ (d : Delayed). d.ports) c.self.view_is) in
    let yes : c.row_alike.result ≡ true = grind (arith, common_steps) in
    let here = subst (λ xs. map is_signal (take (length c.args.front.now) (rotated (c.loop-row.turn * p) xs)) ≡ map is_signal c.args.front.now) c.deref.ensures.value (c.row_alike.ensures.alike yes) in
    record {
      turn_below = c.next_turn-turn.ensures.within;
      ring = next_ring row p q.delay c.loop-row.turn c.next_turn-turn.result items rows i.turn_below below c.self.invariant.slots_len lr c.next_turn-turn.ensures.next i.ring;
      alike = one_alike row p q.delay c.loop-row.turn (length c.args.front.now) items rows c.args.front.now below lr n i.ring here i.alike;
    }
