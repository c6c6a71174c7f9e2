-- After a Received the octets that are kept are those of the frame (4.2.4).
use Rattle.std.proofs.Common.{◌≡◌, ℕ, ◌<◌, ◌≤◌, inl, inr, Bool, true, false, Option, Some, None, List, [], ◌∷◌, length, take, refl, sym, ap, ◌∙◌, arith}
use Rattle.std.specs.Prelude.{nat_lt, if◌then◌else◌}
use Rattle.std.proofs.lemmas.Bool.{cases_lt, false≢true}
use Rattle.std.proofs.lemmas.Option.{none-some, same_Some}
use Rattle.std.proofs.lemmas.List.{take_all}
use Rattle.manchester_line.specs.declared.Sym.{Sym}
use Rattle.manchester_line.specs.declared.Sym.TheVariants.{Idle, Hi, Lo, Clash}
use Rattle.manchester_line.specs.Reading.{reading, octets_of_bits, spare_of_bits}
use Rattle.manchester_line.specs.Decoding.{new_decoding, all_pushed}
use Rattle.manchester_line.proofs.DecoderAnswers as told
use Rattle.mac_parameters.specs.Parameters.{most_octets_tagged, shortest_line_text}
use Rattle.frame_layout.specs.Frame.{verdict_of}
use Rattle.frame_layout.specs.declared.verdict.Verdict.{Verdict}
use Rattle.frame_layout.specs.declared.verdict.Verdict.TheVariants.{Good, Fragment, TooLong, FcsError, AlignError}
use Rattle.collision_log.specs.declared.row.Body.{Body}
use Rattle.collision_log.specs.declared.row.Body.TheVariants.{Received, Dropped}
use Rattle.collision_log.specs.declared.row.Why.TheVariants as why
use Rattle.mac_receive.specs.Receiver.{Receiving, receiver_step, left_halves, quiet, reception_ended, extended, judged_row, judged_octets, reading_row, reading_octets}
use Rattle.mac_receive.specs.KeptReceiver.{KeptReception, Hears, kept_octets, stepped}
use Rattle.mac_receive.proofs.RowsOfReceptions.{too_long}

is_received : Body → Bool
is_received (Received n) = true
is_received _ = false

row_good : (v : Verdict) (octets halves n : ℕ) → judged_row v octets halves ≡ Received n → v ≡ Good
unfolding is_received
row_good Good octets halves n h = refl
row_good Fragment octets halves n h = absurd (false≢true (ap is_received h))
row_good TooLong octets halves n h = absurd (false≢true (ap is_received h))
row_good FcsError octets halves n h = absurd (false≢true (ap is_received h))
row_good AlignError octets halves n h = absurd (false≢true (ap is_received h))

spoiled_no : (t : Bool) (halves n : ℕ) → (if t then Dropped why.Fragment halves else Dropped why.Damaged halves) ≡ Received n → ⊥
unfolding is_received
spoiled_no true halves n h = false≢true (ap is_received h)
spoiled_no false halves n h = false≢true (ap is_received h)

is_too_long : Verdict → Bool
is_too_long TooLong = true
is_too_long _ = false

good_fits : (xs : List ℕ) (spare most : ℕ) → most ≤ most_octets_tagged → verdict_of xs spare most ≡ Good → length xs ≤ 1523
unfolding is_too_long
good_fits xs spare most m h =
    elim (cases_lt (length xs) 1524) [
      | inl low ↦ omega (arith, low)
      | inr high ↦ absurd (false≢true (ap is_too_long (sym h ∙ too_long xs spare most (omega (arith, high)) (omega (arith, high, m)))))
    ]

octets_good : (o : Option (List Bool)) (most halves n : ℕ) (kept : List ℕ) → most ≤ most_octets_tagged → ((bits : List Bool) → o ≡ Some bits → kept ≡ take 1523 (octets_of_bits bits)) → reading_row o most halves ≡ Received n → kept ≡ reading_octets o most
octets_good None most halves n kept m k h = absurd (spoiled_no (nat_lt halves shortest_line_text) halves n h)
octets_good (Some bits) most halves n kept m k h =
    let good : verdict_of (octets_of_bits bits) (spare_of_bits bits) most ≡ Good = row_good (verdict_of (octets_of_bits bits) (spare_of_bits bits) most) (length (octets_of_bits bits)) halves n h in
    k bits refl
    ∙ take_all 1523 (octets_of_bits bits) (good_fits (octets_of_bits bits) (spare_of_bits bits) most m good)
    ∙ sym (ap (λ v. judged_octets v (octets_of_bits bits)) good)

idle_octets : (r : Receiving) (k : KeptReception) (n : ℕ) (d : Bool) (hs : List Sym) → r.halves ≡ hs → Hears r k → r.most ≤ most_octets_tagged → (if d then quiet (record r { deaf = false; halves = [] }) else reception_ended r hs).event ≡ Some (Received n) →
    kept_octets k ≡ (if d then quiet (record r { deaf = false; halves = [] }) else reception_ended r hs).octets
idle_octets r k n true hs e h m is = absurd (none-some (Received n) is)
idle_octets r k n false [] e h m is = absurd (none-some (Received n) is)
idle_octets r k n false (s ∷ ss) e h m is =
    let len : length r.halves ≡ length (s ∷ ss) = ap length e in
    let some : 0 < length r.halves = omega (arith, len) in
    octets_good (reading (left_halves r.lose (s ∷ ss))) r.most (length (s ∷ ss)) n (kept_octets k) m
    (λ bits p. told.octets_of (left_halves r.lose (s ∷ ss)) k.decoder bits (h.decodes some ∙ ap (λ xs. all_pushed new_decoding (left_halves r.lose xs)) e) p)
    (same_Some _ (Received n) is)

heard_no : (r : Receiving) (s : Sym) (d : Bool) (n : ℕ) → (if d then quiet r else extended r s).event ≡ Some (Received n) → ⊥
heard_no r s true n is = none-some (Received n) is
heard_no r s false n is = none-some (Received n) is

-- the octets of a frame that was received are kept
pub octets_kept : (r : Receiving) (k : KeptReception) (heard : Sym) (sending : Bool) (n : ℕ) → Hears r k → k.most ≤ most_octets_tagged → (receiver_step r heard sending).event ≡ Some (Received n) → kept_octets (stepped k heard sending) ≡ (receiver_step r heard sending).octets
octets_kept r k heard true n h m is = absurd (none-some (Received n) is)
octets_kept r k Idle false n h m is = idle_octets r k n r.deaf r.halves refl h (omega (arith, m, h.same_most)) is
octets_kept r k Hi false n h m is = absurd (heard_no r Hi r.deaf n is)
octets_kept r k Lo false n h m is = absurd (heard_no r Lo r.deaf n is)
octets_kept r k Clash false n h m is = absurd (heard_no r Clash r.deaf n is)
