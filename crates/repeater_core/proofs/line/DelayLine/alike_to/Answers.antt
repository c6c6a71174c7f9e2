use Rattle.std.proofs.Common.{◌≡◌, ◌+◌, ◌*◌, ◌<◌, ◌≤◌, ℕ, length, map, take, sym, ap, subst, ◌∙◌}
use Rattle.manchester_line.specs.Line.{is_signal}
use Rattle.repeater_core.specs.Delayed.{Delayed, rotated, delayed_row}
use Rattle.repeater_core.proofs.RowsPut.{newest_row}
use Rattle.repeater_core.proofs.line.DelayLine.alike_to.Goals as goal

pub returns-then-row_alike-clause-newest : goal.returns-then-row_alike-clause-newest
returns-then-row_alike-clause-newest c =
    let q = c.self.inside in
    let p = q.ports in
    let last = c.last_turn-newest.result in
    let flags = c.args.flags.now in
    let h = c.self.invariant in
    let n : length flags ≡ p = c.requires ∙ sym (ap (λ (d : Delayed). d.ports) c.self.view_is) in
    let seen = c.row_alike.ensures.alike c.if-row_alike.true in
    let here : map is_signal (take p (rotated (last * p) q.slots.items)) ≡ map is_signal flags =
    subst (λ xs. map is_signal (take p (rotated (last * p) xs)) ≡ map is_signal flags) c.deref.ensures.value
    (subst (λ i. map is_signal (take i (rotated (last * p) c.deref.result.now)) ≡ map is_signal flags) n seen) in
    let newest = newest_row p q.delay last q.turn q.slots.items h.slots_len c.last_turn-newest.ensures.within c.last_turn-newest.ensures.last in
    subst (λ (d : Delayed). (k : ℕ) → k < d.delay → d.delay ≤ k + q.alike → map is_signal (delayed_row k d) ≡ map is_signal flags) c.self.view_is
    (λ k b e. h.newest_alike k b e ∙ ap (map is_signal) newest ∙ here)
