-- The rows of a receiver that hears long signals.
use Rattle.std.proofs.Common.{◌≡◌, ℕ, zero, suc, ◌+◌, ◌*◌, ◌/◌, ◌<◌, ◌≤◌, Bool, true, false, Option, Some, None, List, [], ◌∷◌, length, refl, sym, ap, ◌∙◌, arith, suc-mul, zero-mul}
use Rattle.std.specs.Prelude.{if◌then◌else◌}
use Rattle.std.proofs.lemmas.Nat.{le-div}
use Rattle.std.proofs.lemmas.Option.{none-some}
use Rattle.manchester_line.specs.declared.Sym.{Sym}
use Rattle.manchester_line.specs.declared.Sym.TheVariants.{Idle, Hi, Lo, Clash}
use Rattle.collision_log.specs.declared.row.Body.{Body}
use Rattle.mac_receive.specs.Receiver.{Receiving, receiver_step, with_event, quiet, reception_ended, extended}
use Rattle.window_room.specs.Receptions.{HeardHalf, heard_half, reception_bodies}
use Rattle.window_room.specs.Signals.{signal_after, SignalsAreLong}
use Rattle.window_room.proofs.ReceptionSteps.{Steps, steps}
use Rattle.window_room.proofs.ReceptionBounds.{weigh, Few}

ended_left : (r : Receiving) (hs : List Sym) → r.halves ≡ hs → length (reception_ended r hs).state.halves ≡ 0
ended_left r [] e = ap length e
ended_left r (s ∷ ss) e = refl

idle_left : (r : Receiving) (d : Bool) → length (if d then quiet (record r { deaf = false; halves = [] }) else reception_ended r r.halves).state.halves ≡ 0
idle_left r true = refl
idle_left r false = ended_left r r.halves refl

signal_event : (r : Receiving) (s : Sym) (d : Bool) → (if d then quiet r else extended r s).event ≡ None
signal_event r s true = refl
signal_event r s false = refl

ends_one : (w least u n h most after : ℕ) (e : Option Body) (bodies : List Body) → w ≡ least + 1 → (0 < u → least ≤ u) → (0 < h → 0 < u) → Steps h most after e
    → Few (weigh (λ _. w) bodies) n 0 least → Few (weigh (λ _. w) (with_event e bodies)) (suc n) u least
ends_one w least u n h most after None bodies is long within s f = record { of_halves = omega (arith, f.of_halves); of_cap = omega (arith, f.of_cap) }
ends_one w least u n h most after (Some body) bodies is long within s f =
    let enough : least ≤ u = long (within s.some) in
    record { of_halves = omega (arith, is, enough, f.of_halves); of_cap = omega (arith, is, f.of_halves) }

goes_one : (w least u n : ℕ) (e : Option Body) (bodies : List Body) → e ≡ None → Few (weigh (λ _. w) bodies) n (u + 1) least → Few (weigh (λ _. w) (with_event e bodies)) (suc n) u least
goes_one w least u n None bodies is f = record { of_halves = omega (arith, f.of_halves); of_cap = omega (arith, f.of_cap) }
goes_one w least u n (Some body) bodies is f = absurd (none-some body (sym is))

-- one half bit
one : (w least u : ℕ) (r : Receiving) (s : Sym) (sending : Bool) (hs : List HeardHalf) → w ≡ least + 1 → (s ≡ Idle → 0 < u → least ≤ u) → (0 < length r.halves → 0 < u)
    → ((0 < length (receiver_step r s sending).state.halves → 0 < signal_after u s) → Few (weigh (λ _. w) (reception_bodies (receiver_step r s sending).state hs)) (length hs) (signal_after u s) least)
    → Few (weigh (λ _. w) (reception_bodies r (heard_half sending s ∷ hs))) (suc (length hs)) u least
one w least u r Idle true hs is enough within rest =
    let f = rest (λ p. absurd (omega (arith, p))) in
    goes_one w least u (length hs) None (reception_bodies (receiver_step r Idle true).state hs) refl (record { of_halves = omega (arith, f.of_halves); of_cap = f.of_cap })
one w least u r Idle false hs is enough within rest =
    let none : length (receiver_step r Idle false).state.halves ≡ 0 = idle_left r r.deaf in
    ends_one w least u (length hs) (length r.halves) r.most (length (receiver_step r Idle false).state.halves) (receiver_step r Idle false).event (reception_bodies (receiver_step r Idle false).state hs)
    is (enough refl) within (steps r Idle false).1 (rest (λ p. absurd (omega (arith, p, none))))
one w least u r Hi true hs is enough within rest = goes_one w least u (length hs) None (reception_bodies (receiver_step r Hi true).state hs) refl (rest (λ p. omega arith))
one w least u r Hi false hs is enough within rest = goes_one w least u (length hs) (receiver_step r Hi false).event (reception_bodies (receiver_step r Hi false).state hs) (signal_event r Hi r.deaf) (rest (λ p. omega arith))
one w least u r Lo true hs is enough within rest = goes_one w least u (length hs) None (reception_bodies (receiver_step r Lo true).state hs) refl (rest (λ p. omega arith))
one w least u r Lo false hs is enough within rest = goes_one w least u (length hs) (receiver_step r Lo false).event (reception_bodies (receiver_step r Lo false).state hs) (signal_event r Lo r.deaf) (rest (λ p. omega arith))
one w least u r Clash true hs is enough within rest = goes_one w least u (length hs) None (reception_bodies (receiver_step r Clash true).state hs) refl (rest (λ p. omega arith))
one w least u r Clash false hs is enough within rest = goes_one w least u (length hs) (receiver_step r Clash false).event (reception_bodies (receiver_step r Clash false).state hs) (signal_event r Clash r.deaf) (rest (λ p. omega arith))

-- the rows weigh no more than the half bits
long : (w least u : ℕ) (r : Receiving) (hs : List HeardHalf) → w ≡ least + 1 → SignalsAreLong least u hs → (0 < length r.halves → 0 < u) → Few (weigh (λ _. w) (reception_bodies r hs)) (length hs) u least
long w least u r [] is l within = record { of_halves = omega arith; of_cap = omega arith }
long w least u r (h ∷ hs) is l within =
    one w least u r h.heard h.sending hs is l.0 within (λ next. long w least (signal_after u h.heard) (receiver_step r h.heard h.sending).state hs is l.1 next)

suc-mul' : (n m : ℕ) → suc n * m ≡ m + n * m
suc-mul' n m = suc-mul n m ∙ omega arith

weigh_is : (w : ℕ) (bodies : List Body) → weigh (λ _. w) bodies ≡ length bodies * w
weigh_is w [] = sym (zero-mul w)
weigh_is w (body ∷ bodies) = ap (λ n. w + n) (weigh_is w bodies) ∙ sym (suc-mul' (length bodies) w)

few_of : (c w n : ℕ) → 0 < w → c * w < n + w → c ≤ 1 + n / w
few_of zero w n some l = omega arith
few_of (suc c) w n some l =
    let more : suc c * w ≡ w + c * w = suc-mul' c w in
    let d : c ≤ n / w = le-div c n w some (omega (arith, l, more)) in
    omega (arith, d)

pub long_signals : (r : Receiving) (hs : List HeardHalf) (least u : ℕ) → SignalsAreLong least u hs → (0 < length r.halves → 0 < u) → length (reception_bodies r hs) ≤ 1 + length hs / (least + 1)
long_signals r hs least u l within =
    let f = long (least + 1) least u r hs refl l within in
    few_of (length (reception_bodies r hs)) (least + 1) (length hs) (omega arith) (omega (arith, f.of_cap, weigh_is (least + 1) (reception_bodies r hs)))
