use Rattle.std.proofs.Common.{◌≡◌, ◌≢◌, ◌+◌, ◌<◌, ◌≤◌, ◌++◌, ◌∙◌, false, List, take, length, ap, sym, subst, arith, rules}
use Rattle.std.proofs.lemmas.Grind.{common_steps}
use Rattle.std.proofs.lemmas.List.{with_items_is}
use Rattle.std.proofs.lemmas.List.Elements.{All-append}
use Rattle.std.specs.Vec.{with_items}
use Rattle.manchester_line.specs.declared.Sym.{Sym}
use Rattle.manchester_line.specs.declared.Sym.TheVariants.{Idle}
use Rattle.mac_receive.specs.Receiver.{Receiving, receiver_after}
use Rattle.mac_receive.specs.KeptReceiver.{KeptReception, Hears}
use Rattle.reception_laws.specs.LateReceptions.{IsAtRest, with_text}
use Rattle.reception_laws.specs.WholeReceptions.{IsAllSignal}
use Rattle.reception_laws.proofs.LateReceptions.{goes_on, late_more, late_read, late_steps, none_unread, rest_of, signal_bodies, stays_awake, unread_length, unread_rest}
use Rattle.reception_laws.proofs.late.LateReceiver.take.Goals as goal

pub invariant_of-self : goal.invariant_of-self
invariant_of-self c =
    let x = c.self.inside in
    let before = c.self.invariant in
    let k = x.receiver in
    let text = take x.unread x.text.items in
    let some : 0 < k.halves = search rules in
    let none = none_unread k x.unread before.7 some in
    let steps : k.steps + length text ≡ c.args.self.now.steps = sym (late_steps k text) ∙ ap (λ (y : KeptReception). y.steps) c.self.view_is in
    let more = c.take.ensures.steps in
    let fits = c.requires.steps in
    let on = goes_on c.args.piece.now false k c.take.new.self before.6 (λ r h. c.take.ensures.state r h) in (
      before.0,
      before.1,
      on.0 ∙ before.2,
      on.1 ∙ before.3,
      before.4,
      before.5,
      on.2,
      λ p. absurd (omega (arith, p, none)),
      before.8,
      omega (arith, steps, more, fits, none),
    )

pub invariant_of-self-then-piece-len : goal.invariant_of-self-then-piece-len
invariant_of-self-then-piece-len c =
    let x = c.self.inside in
    let before = c.self.invariant in
    let k = x.receiver in
    let u = x.unread in
    let piece = c.args.piece.now in
    let text = take u x.text.items in
    let ys = c.put_aside.new.text in
    let none : k.halves ≡ 0 = grind (arith, common_steps) in
    let awake = ap (λ (y : KeptReception). y.deaf) c.self.view_is ∙ c.requires.awake in
    let rest : IsAtRest k = rest_of k text (unread_rest k x.text.items u before.7) none awake in
    let items = with_items_is x.text ys (search rules) in
    let aside : take (u + length piece) (with_items x.text ys).items ≡ text ++ piece =
    ap (take (u + length piece)) items ∙ c.put_aside.ensures.text ∙ ap (λ (zs : List Sym). take u zs ++ piece) c.deref_mut.ensures.value in
    let size = unread_length x.text.items u _ before.0 before.1 in
    let steps : k.steps + length text ≡ c.args.self.now.steps = sym (late_steps k text) ∙ ap (λ (y : KeptReception). y.steps) c.self.view_is in
    let fits = c.requires.steps in
    let room = c.if-piece-len.true in
    let long = before.0 in
    let few = before.1 in (
      ap length items ∙ c.put_aside.ensures.len ∙ ap length c.deref_mut.ensures.value ∙ before.0,
      grind (arith, common_steps, room, long, few),
      before.2,
      before.3,
      before.4,
      before.5,
      before.6,
      λ p. rest,
      subst IsAllSignal (sym aside) (All-append (λ s. s ≢ Idle) text piece before.8 c.requires.signal),
      omega (arith, steps, fits, size),
    )

pub returns-then-piece-len-clause-state : goal.returns-then-piece-len-clause-state
returns-then-piece-len-clause-state c = λ r h.
    let x = c.self.inside in
    let before = c.self.invariant in
    let k = x.receiver in
    let u = x.unread in
    let piece = c.args.piece.now in
    let text = take u x.text.items in
    let ys = c.put_aside.new.text in
    let none : k.halves ≡ 0 = grind (arith, common_steps) in
    let awake = ap (λ (y : KeptReception). y.deaf) c.self.view_is ∙ c.requires.awake in
    let rest : IsAtRest k = rest_of k text (unread_rest k x.text.items u before.7) none awake in
    let aside : take (u + length piece) (with_items x.text ys).items ≡ text ++ piece =
    ap (take (u + length piece)) (with_items_is x.text ys (search rules)) ∙ c.put_aside.ensures.text ∙ ap (λ (zs : List Sym). take u zs ++ piece) c.deref_mut.ensures.value in
    let P : KeptReception → Type 0 = λ y. Hears r y in
    let Q : List Sym → Type 0 = λ xs. Hears (receiver_after r piece false) (with_text k xs) in
    subst Q (sym aside) (late_more k text piece r rest c.requires.signal (subst P (sym c.self.view_is) h))

pub returns-then-piece-len-clause-bodies : goal.returns-then-piece-len-clause-bodies
returns-then-piece-len-clause-bodies c = λ r h. signal_bodies c.args.piece.now r c.requires.signal

pub take-requires-3-clause-awake : goal.take-requires-3-clause-awake
take-requires-3-clause-awake c =
    let x = c.self.inside in
    let before = c.self.invariant in
    let k = x.receiver in
    let text = take x.unread x.text.items in
    let none : k.halves ≡ 0 = grind (arith, common_steps) in
    let awake = ap (λ (y : KeptReception). y.deaf) c.self.view_is ∙ c.requires.awake in
    let rest : IsAtRest k = rest_of k text (unread_rest k x.text.items x.unread before.7) none awake in
    stays_awake (take x.unread c.deref.result.now) k c.take-2.new.self before.6 rest.hearing (λ r h. c.take-2.ensures.state r h)

pub invariant_of-self-2 : goal.invariant_of-self-2
invariant_of-self-2 c =
    let x = c.self.inside in
    let before = c.self.invariant in
    let k = x.receiver in
    let text = take x.unread x.text.items in
    let steps : k.steps + length text ≡ c.args.self.now.steps = sym (late_steps k text) ∙ ap (λ (y : KeptReception). y.steps) c.self.view_is in
    let read : c.take-2.new.self.steps ≡ k.steps + length text = c.take-2.ensures.steps ∙ ap (λ (ys : List Sym). k.steps + length (take x.unread ys)) c.deref.ensures.value in
    let more = c.take-3.ensures.steps in
    let fits = c.requires.steps in
    let first = goes_on (take x.unread c.deref.result.now) false k c.take-2.new.self before.6 (λ r h. c.take-2.ensures.state r h) in
    let on = goes_on c.args.piece.now false c.take-2.new.self c.take-3.new.self first.2 (λ r h. c.take-3.ensures.state r h) in (
      before.0,
      omega arith,
      on.0 ∙ first.0 ∙ before.2,
      on.1 ∙ first.1 ∙ before.3,
      before.4,
      before.5,
      on.2,
      λ p. absurd (omega (arith, p)),
      λ i d p. absurd (omega (arith, p)),
      omega (arith, steps, read, more, fits),
    )

pub returns-clause-state : goal.returns-clause-state
returns-clause-state c = λ r h.
    let x = c.self.inside in
    let before = c.self.invariant in
    let k = x.receiver in
    let k' = c.take-2.new.self in
    let text = take x.unread x.text.items in
    let none : k.halves ≡ 0 = grind (arith, common_steps) in
    let awake = ap (λ (y : KeptReception). y.deaf) c.self.view_is ∙ c.requires.awake in
    let rest : IsAtRest k = rest_of k text (unread_rest k x.text.items x.unread before.7) none awake in
    let P : KeptReception → Type 0 = λ y. Hears r y in
    let read : (q : Receiving) → Hears q k → Hears (receiver_after q text false) k' =
    λ q p. subst (λ (ys : List Sym). Hears (receiver_after q (take x.unread ys) false) k') c.deref.ensures.value (c.take-2.ensures.state q p) in
    c.take-3.ensures.state r (late_read k k' text r rest before.8 read (subst P (sym c.self.view_is) h))

pub returns-clause-bodies : goal.returns-clause-bodies
returns-clause-bodies c = λ r h. signal_bodies c.args.piece.now r c.requires.signal
