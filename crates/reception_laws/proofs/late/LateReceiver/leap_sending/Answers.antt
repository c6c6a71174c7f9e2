use Rattle.std.proofs.Common.{◌≡◌, ◌+◌, ◌<◌, ◌≤◌, ◌∙◌, ℕ, true, [], take, length, replicate, ap, sym, subst, arith}
use Rattle.std.proofs.lemmas.List.{length-replicate}
use Rattle.manchester_line.specs.declared.Sym.TheVariants.{Idle}
use Rattle.mac_receive.specs.Receiver.{Receiving}
use Rattle.mac_receive.specs.KeptReceiver.{KeptReception, Hears}
use Rattle.reception_laws.proofs.LateReceptions.{goes_on, late_lose, late_most, late_steps, sending_bodies, sent_after, still_hears, unread_length}
use Rattle.reception_laws.proofs.late.LateReceiver.leap_sending.Goals as goal

pub invariant_of-self : goal.invariant_of-self
invariant_of-self c =
    let x = c.self.inside in
    let before = c.self.invariant in
    let k = x.receiver in
    let text = take x.unread x.text.items in
    let m = x.unread + c.args.n in
    let size = unread_length x.text.items x.unread _ before.0 before.1 in
    let steps : k.steps + length text ≡ c.args.self.now.steps = sym (late_steps k text) ∙ ap (λ (y : KeptReception). y.steps) c.self.view_is in
    let more = c.leap_sending.ensures.steps in
    let fits = c.requires in
    let on = goes_on (replicate m Idle) true k c.leap_sending.new.self before.6 (λ r h. c.leap_sending.ensures.state r (replicate m Idle) (length-replicate m Idle) h) in (
      before.0,
      omega arith,
      on.0 ∙ before.2,
      on.1 ∙ before.3,
      before.4,
      before.5,
      on.2,
      λ p. absurd (omega (arith, p)),
      λ i d p. absurd (omega (arith, p)),
      omega (arith, steps, more, fits, size),
    )

pub returns-then-n-gt0-clause-state : goal.returns-then-n-gt0-clause-state
returns-then-n-gt0-clause-state c = λ r heard len h.
    let x = c.self.inside in
    let before = c.self.invariant in
    let k = x.receiver in
    let k' = c.leap_sending.new.self in
    let now = c.args.self.now in
    let text = take x.unread x.text.items in
    let m = x.unread + c.args.n in
    let some : 0 < c.args.n = c.if-n-gt0.true in
    let size = length-replicate m Idle in
    let one = before.6 in
    let on = goes_on (replicate m Idle) true k k' before.6 (λ q p. c.leap_sending.ensures.state q (replicate m Idle) size p) in
    let P : Receiving → Type 0 = λ q. Hears q k' in
    let sent : Hears (record one.0 { deaf = true; halves = [] }) k' =
    subst P (sent_after (replicate m Idle) one.0 (omega (arith, some, size))) (c.leap_sending.ensures.state one.0 (replicate m Idle) size one.1) in
    let lose : k'.lose ≡ now.lose = on.0 ∙ sym (late_lose k text) ∙ ap (λ (y : KeptReception). y.lose) c.self.view_is in
    let most : k'.most ≡ now.most = on.1 ∙ sym (late_most k text) ∙ ap (λ (y : KeptReception). y.most) c.self.view_is in
    subst P (sym (sent_after heard r (omega (arith, some, len)))) (still_hears r now k' true h lose most sent.same_deaf sent.count)

pub returns-else-n-gt0-clause-bodies : goal.returns-else-n-gt0-clause-bodies
returns-else-n-gt0-clause-bodies c = λ r heard. sending_bodies heard r
