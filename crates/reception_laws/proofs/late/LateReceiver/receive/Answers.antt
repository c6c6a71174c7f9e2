use Rattle.std.proofs.Common.{◌≡◌, ◌≢◌, ◌+◌, ◌<◌, ◌≤◌, ◌∙◌, ℕ, suc, Bool, true, false, List, [], ◌∷◌, take, length, replicate, refl, ap, ap₂, sym, subst, arith, rules}
use Rattle.std.proofs.lemmas.Grind.{common_steps}
use Rattle.manchester_line.specs.declared.Sym.{Sym}
use Rattle.manchester_line.specs.declared.Sym.TheVariants.{Idle}
use Rattle.mac_receive.specs.Receiver.{Receiving, receiver_step, receiver_after}
use Rattle.mac_receive.specs.KeptReceiver.{KeptReception, Hears}
use Rattle.mac_receive.proofs.StepsKeepMeaning.{idle_state}
use Rattle.window_room.specs.NeededRoom.{Covers, Demand, both_demands, reception_demand, receiver_demand}
use Rattle.reception_laws.proofs.LateReceptions.{goes_on, idle_after_all, late_halves, late_lose, late_most, late_steps, no_event, no_need, one_signal, read_whole, signal_bodies, still_hears, unread_length, unread_rest}
use Rattle.reception_laws.proofs.late.LateReceiver.receive.Goals as goal

pub returns-then-sending-clause-state : goal.returns-then-sending-clause-state
returns-then-sending-clause-state c = λ r h.
    let sending : c.args.sending ≡ true = search rules in
    let P : Bool → Type 0 = λ b. Hears (receiver_step r c.args.heard b).state c.leap_sending.new.self in
    subst P (sym sending) (c.leap_sending.ensures.state r (c.args.heard ∷ []) refl h)

pub returns-then-sending-clause-left : goal.returns-then-sending-clause-left
returns-then-sending-clause-left c = λ n other a.
    let one = c.requires.hears in
    no_need one.0 c.args.self.now c.leap_sending.new.self c.args.heard true n other c.args.room.now one.1 (c.leap_sending.ensures.state one.0 (c.args.heard ∷ []) refl one.1) refl a

pub returns-then-is_deaf-clause-state : goal.returns-then-is_deaf-clause-state
returns-then-is_deaf-clause-state c = λ r h.
    let sending : c.args.sending ≡ false = search rules in
    let signal : c.args.heard ≢ Idle = search rules in
    let P : Bool → Type 0 = λ b. Hears (receiver_step r c.args.heard b).state c.leap_deaf.new.self in
    subst P (sym sending) (c.leap_deaf.ensures.state r (c.args.heard ∷ []) (one_signal c.args.heard signal) refl h)

pub returns-then-is_deaf-clause-left : goal.returns-then-is_deaf-clause-left
returns-then-is_deaf-clause-left c = λ n other a.
    let one = c.requires.hears in
    let signal : c.args.heard ≢ Idle = search rules in
    let all = one_signal c.args.heard signal in
    no_need one.0 c.args.self.now c.leap_deaf.new.self c.args.heard false n other c.args.room.now one.1
    (c.leap_deaf.ensures.state one.0 (c.args.heard ∷ []) all refl one.1) (no_event one.0 c.args.heard false (signal_bodies (c.args.heard ∷ []) one.0 all)) a

pub returns-else-is_deaf-clause-left : goal.returns-else-is_deaf-clause-left
returns-else-is_deaf-clause-left c = λ n other a.
    let one = c.requires.hears in
    let signal : c.args.heard ≢ Idle = search rules in
    let all = one_signal c.args.heard signal in
    no_need one.0 c.args.self.now c.take.new.self c.args.heard false n other c.args.room.now one.1
    (c.take.ensures.state one.0 one.1) (no_event one.0 c.args.heard false (signal_bodies (c.args.heard ∷ []) one.0 all)) a

pub invariant_of-self : goal.invariant_of-self
invariant_of-self c =
    let x = c.self-else-ne.inside in
    let before = c.self-else-ne.invariant in
    let k = x.receiver in
    let text = take x.unread x.text.items in
    let size = unread_length x.text.items x.unread _ before.0 before.1 in
    let steps : k.steps + length text ≡ c.args.self.now.steps = sym (late_steps k text) ∙ ap (λ (y : KeptReception). y.steps) c.self-else-ne.view_is in
    let more = c.leap_quiet.ensures.steps in
    let fits = c.requires.steps in
    let on = goes_on (replicate (x.unread + 1) Idle) false k c.leap_quiet.new.self before.6 (λ r h. c.leap_quiet.ensures.state r h) in (
      before.0,
      omega arith,
      on.0 ∙ before.2,
      on.1 ∙ before.3,
      before.4,
      before.5,
      on.2,
      λ p. absurd (omega (arith, p)),
      λ i d p. absurd (omega (arith, p)),
      omega (arith, steps, more, fits, size),
    )

pub returns-then-self-gt0-clause-state : goal.returns-then-self-gt0-clause-state
returns-then-self-gt0-clause-state c = λ r h.
    let x = c.self-else-ne.inside in
    let before = c.self-else-ne.invariant in
    let k = x.receiver in
    let k' = c.leap_quiet.new.self in
    let now = c.args.self.now in
    let text = take x.unread x.text.items in
    let sending : c.args.sending ≡ false = search rules in
    let idle : c.args.heard ≡ Idle = search rules in
    let one = before.6 in
    let on = goes_on (replicate (x.unread + 1) Idle) false k k' before.6 (λ q p. c.leap_quiet.ensures.state q p) in
    let P : Receiving → Type 0 = λ q. Hears q k' in
    let last : x.unread + 1 ≡ suc x.unread = omega arith in
    let rested : Hears (record one.0 { deaf = false; halves = [] }) k' =
    subst P (ap (λ n. receiver_after one.0 (replicate n Idle) false) last ∙ idle_after_all x.unread one.0) (c.leap_quiet.ensures.state one.0 one.1) in
    let lose : k'.lose ≡ now.lose = on.0 ∙ sym (late_lose k text) ∙ ap (λ (y : KeptReception). y.lose) c.self-else-ne.view_is in
    let most : k'.most ≡ now.most = on.1 ∙ sym (late_most k text) ∙ ap (λ (y : KeptReception). y.most) c.self-else-ne.view_is in
    let step : (receiver_step r c.args.heard c.args.sending).state ≡ record r { deaf = false; halves = [] } =
    ap₂ (λ s b. (receiver_step r s b).state) idle sending ∙ idle_state r r.deaf r.halves refl refl in
    subst P (sym step) (still_hears r now k' false h lose most rested.same_deaf rested.count)

pub returns-then-self-gt0-clause-left : goal.returns-then-self-gt0-clause-left
returns-then-self-gt0-clause-left c = λ n other a.
    let x = c.self-else-ne.inside in
    let before = c.self-else-ne.invariant in
    let k = x.receiver in
    let k' = c.leap_quiet.new.self in
    let now = c.args.self.now in
    let text = take x.unread x.text.items in
    let some : 0 < x.unread = grind (arith, common_steps) in
    let one = before.6 in
    let on = goes_on (replicate (x.unread + 1) Idle) false k k' before.6 (λ q p. c.leap_quiet.ensures.state q p) in
    let P : Receiving → Type 0 = λ q. Hears q k' in
    let last : x.unread + 1 ≡ suc x.unread = omega arith in
    let rested : Hears (record one.0 { deaf = false; halves = [] }) k' =
    subst P (ap (λ m. receiver_after one.0 (replicate m Idle) false) last ∙ idle_after_all x.unread one.0) (c.leap_quiet.ensures.state one.0 one.1) in
    let none : k'.halves ≡ 0 = rested.count in
    let most : now.most ≡ x.most = sym (ap (λ (y : KeptReception). y.most) c.self-else-ne.view_is) ∙ late_most k text ∙ before.3 in
    let most' : k'.most ≡ x.most = on.1 ∙ before.3 in
    let at_rest : k.halves ≡ 0 = (before.7 some).none in
    let count : k.halves + length text ≡ now.halves = sym (late_halves k text (unread_rest k x.text.items x.unread before.7)) ∙ ap (λ (y : KeptReception). y.halves) c.self-else-ne.view_is in
    let items : length text ≡ length (take x.unread c.deref.result.now) = ap (λ (ys : List Sym). length (take x.unread ys)) (sym c.deref.ensures.value) in
    let halves : now.halves ≡ length (take x.unread c.deref.result.now) = omega (arith, at_rest, count, items) in
    let Q : Demand → Type 0 = λ d. Covers (both_demands other d) c.args.room.now in
    let R : Demand → Type 0 = λ d. Covers (both_demands other d) c.keep_told.new.room in
    subst R (sym (ap₂ (λ m h. reception_demand m h n) most' none))
    (c.keep_told.ensures.left n other (subst Q (ap₂ (λ m h. reception_demand m h (suc n)) most halves) a))

pub returns-else-self-gt0-clause-left : goal.returns-else-self-gt0-clause-left
returns-else-self-gt0-clause-left c = λ n other a.
    let x = c.self-else-ne.inside in
    let k = x.receiver in
    let none : x.unread ≡ 0 = grind (arith, common_steps) in
    let P : KeptReception → Type 0 = λ y. Covers (both_demands other (receiver_demand (suc n) y)) c.args.room.now in
    let Q : KeptReception → Type 0 = λ y. Covers (both_demands other (receiver_demand n y)) c.receive_one.new.room in
    subst Q (sym (read_whole c.receive_one.new.receiver x.text.items x.unread none))
    (c.receive_one.ensures.left n other (subst P (sym c.self-else-ne.view_is ∙ read_whole k x.text.items x.unread none) a))
