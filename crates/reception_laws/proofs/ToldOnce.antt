-- A verdict that was told of a text holds for each receiver that keeps what it would of this text.
use Rattle.std.proofs.Common.{◌≡◌, ℕ, suc, ◌<◌, Bool, true, false, Option, Some, None, List, [], ◌∷◌, length, refl, sym, ap, subst, ◌∙◌, arith}
use Rattle.std.specs.Prelude.{nat_lt, if◌then◌else◌}
use Rattle.std.specs.List.{Contains}
use Rattle.std.specs.Option.{is_none}
use Rattle.std.proofs.lemmas.Bool.{true≢false, false≢true}
use Rattle.std.proofs.lemmas.Option.{same_Some}
use Rattle.manchester_line.specs.declared.Sym.{Sym}
use Rattle.manchester_line.specs.declared.Sym.TheVariants.{Idle, Clash}
use Rattle.manchester_line.specs.Decoding.{Decoding, new_decoding, all_pushed}
use Rattle.manchester_line.specs.Reading.{reading}
use Rattle.manchester_line.proofs.DecoderAnswers.{spoiled_of}
use Rattle.collision_log.specs.declared.row.Body.{Body}
use Rattle.collision_log.specs.declared.row.Body.TheVariants.{Sent, Collided, GivenUp, Cut, Received, Dropped, Closed, Opened, Halted}
use Rattle.collision_log.specs.declared.row.Body.TheVariants as body
use Rattle.collision_log.specs.declared.row.Why.TheVariants as why
use Rattle.mac_parameters.specs.Parameters.{shortest_line_text}
use Rattle.mac_receive.specs.Receiver.{Receiving, Reception, new_receiving, left_halves, quiet, reading_row, reception_ended, receiver_step, receiver_after}
use Rattle.mac_receive.specs.KeptReceiver.{KeptReception, Hears}
use Rattle.mac_receive.proofs.StepsKeepMeaning.{idle_state}
use Rattle.network.specs.Captures.{taken_by}
use Rattle.window_room.specs.NeededRoom.{Covers, Demand, IsDemandWithin, both_demands, event_demand, reception_demand}
use Rattle.window_room.specs.Receptions.{least_reception}
use Rattle.window_room.specs.Rooms.{Room, KeepsRoom}
use Rattle.window_room.proofs.PaidRoom.{paid}
use Rattle.reception_laws.specs.LateReceptions.{IsVerdictFor, text_kept}
use Rattle.reception_laws.specs.WholeReceptions.{IsAllSignal, TextVerdict, row_alone, octets_with, spoiled_row}
use Rattle.reception_laws.proofs.LateReceptions.{hears_alike, text_hears}
use Rattle.reception_laws.proofs.ReceptionsHeard.{with_halves, new_awaits, text_on}
use Rattle.reception_laws.proofs.ShortReceptions.{short_row}
use Rattle.reception_laws.proofs.SpoiledReceptions.{clash_unread}

-- what a new receiver keeps that has heard the text stands for the same receivers
pub heard_hears : (lose most : ℕ) (text : List Sym) (k : KeptReception) (r : Receiving) → IsAllSignal text → Hears (receiver_after (new_receiving lose most) text false) k → Hears r (text_kept lose most text 0) → Hears r k
heard_hears lose most text k r all h is =
    let on : receiver_after (new_receiving lose most) text false ≡ with_halves lose most text = text_on (new_receiving lose most) [] text (new_awaits lose most) all in
    let P : Receiving → Type 0 = λ q. Hears q k in
    hears_alike (with_halves lose most text) r (text_kept lose most text 0) k (text_hears lose most 0 text) (subst P on h) is

ended_short : (r : Receiving) (d : Bool) (hs : List Sym) (n : ℕ) → d ≡ false → n ≡ length hs → 0 < n → n < least_reception → (if d then quiet (record r { deaf = false; halves = [] }) else reception_ended r hs).event ≡ Some (Dropped why.Fragment n)
ended_short r true hs n e l some short = absurd (true≢false e)
ended_short r false [] n e l some short = absurd (omega (arith, l, some))
ended_short r false (s ∷ ss) n e l some short =
    ap Some (short_row r.lose r.most (s ∷ ss) (omega (arith, l, short))) ∙ ap (λ m. Some (Dropped why.Fragment m)) (sym l)

-- a short text has one whatever was heard in it
pub short_verdict : (lose most : ℕ) (text : List Sym) → 0 < length text → length text < least_reception → IsVerdictFor lose most text (row_alone (Dropped why.Fragment (length text)))
short_verdict lose most text some short =
    record {
      event = λ r h. sym (ended_short r r.deaf r.halves (length text) (sym h.same_deaf) h.count some short);
      octets = λ r n h is. let row : Dropped why.Fragment (length text) ≡ Received n = same_Some _ (Received n) is in cc;
      count = λ n is. let row : Dropped why.Fragment (length text) ≡ Received n = same_Some _ (Received n) is in cc;
    }

unread_row : (o : Option (List Bool)) (most n : ℕ) → is_none o ≡ true → reading_row o most n ≡ spoiled_row n
unread_row None most n h = refl
unread_row (Some bits) most n h = absurd (false≢true h)

no_frame : (t : Bool) (n m : ℕ) → (if t then Dropped why.Fragment n else Dropped why.Damaged n) ≡ Received m → ⊥
no_frame true n m e = cc
no_frame false n m e = cc

ended_spoiled : (r : Receiving) (d : Bool) (hs : List Sym) (n : ℕ) → d ≡ false → n ≡ length hs → 0 < n → is_none (reading (left_halves r.lose hs)) ≡ true → (if d then quiet (record r { deaf = false; halves = [] }) else reception_ended r hs).event ≡ Some (spoiled_row n)
ended_spoiled r true hs n e l some unread = absurd (true≢false e)
ended_spoiled r false [] n e l some unread = absurd (omega (arith, l, some))
ended_spoiled r false (s ∷ ss) n e l some unread =
    ap Some (unread_row (reading (left_halves r.lose (s ∷ ss))) r.most (length (s ∷ ss)) unread) ∙ ap (λ m. Some (spoiled_row m)) (sym l)

-- a text with a Clash among the half bits that aren't lost has one whatever else was heard in it
spoiled_left : (lose most : ℕ) (text : List Sym) → 0 < length text → Contains (left_halves lose text) Clash → IsVerdictFor lose most text (row_alone (spoiled_row (length text)))
spoiled_left lose most text some clash =
    let d : Decoding = all_pushed new_decoding (left_halves lose text) in
    let unread : is_none (reading (left_halves lose text)) ≡ true = ap is_none (clash_unread (left_halves lose text) clash) in
    record {
      event = λ r h.
          let same = spoiled_of (left_halves r.lose r.halves) d (h.decodes (omega (arith, h.count, some))) in
          sym (ended_spoiled r r.deaf r.halves (length text) (sym h.same_deaf) h.count some (sym same ∙ spoiled_of (left_halves lose text) d refl ∙ unread));
      octets = λ r n h is. absurd (no_frame (nat_lt (length text) shortest_line_text) (length text) n (same_Some _ (Received n) is));
      count = λ n is. absurd (no_frame (nat_lt (length text) shortest_line_text) (length text) n (same_Some _ (Received n) is));
    }

-- for receivers that lose no bits these are all half bits
pub spoiled_verdict : (lose most : ℕ) (text : List Sym) → lose ≡ 0 → 0 < length text → Contains text Clash → IsVerdictFor lose most text (row_alone (spoiled_row (length text)))
spoiled_verdict lose most text none some clash =
    let P : ℕ → Type 0 = λ l. Contains (left_halves l text) Clash in
    spoiled_left lose most text some (subst P (sym none) clash)

pub octets_of : (e : Option Body) (os : List ℕ) (n : ℕ) → e ≡ Some (Received n) → octets_with e os ≡ os
octets_of e os n is = ap (λ x. octets_with x os) is

taken_one : (t : ℕ) (e : Option Body) (o o' : List ℕ) → ((n : ℕ) → e ≡ Some (Received n) → o ≡ o') → taken_by t e o ≡ taken_by t e o'
taken_one t None o o' same = refl
taken_one t (Some (Sent f s a)) o o' same = refl
taken_one t (Some (Collided f s a h d)) o o' same = refl
taken_one t (Some (GivenUp f s h)) o o' same = refl
taken_one t (Some (Cut f s a h)) o o' same = refl
taken_one t (Some (Received n)) o o' same = ap (taken_by t (Some (Received n))) (same n refl)
taken_one t (Some (Dropped y h)) o o' same = refl
taken_one t (Some body.Clash) o o' same = refl
taken_one t (Some (Closed p)) o o' same = refl
taken_one t (Some (Opened p)) o o' same = refl
taken_one t (Some (Halted p)) o o' same = refl

-- what is captured by it
pub verdict_taken : (lose most t : ℕ) (text : List Sym) (v : TextVerdict) (r : Receiving) → IsVerdictFor lose most text v → Hears r (text_kept lose most text 0) → taken_by t v.event v.octets ≡ taken_by t (receiver_step r Idle false).event (receiver_step r Idle false).octets
verdict_taken lose most t text v r is h =
    taken_one t v.event v.octets (receiver_step r Idle false).octets (λ n e. is.octets r n h e)
    ∙ ap (λ e. taken_by t e (receiver_step r Idle false).octets) (is.event r h)

-- what it needs of the room, and what it leaves
pub verdict_within : (lose most n : ℕ) (text : List Sym) (v : TextVerdict) → IsVerdictFor lose most text v → IsDemandWithin (both_demands (reception_demand most 0 n) (event_demand v.event)) (reception_demand most (length text) (suc n))
verdict_within lose most n text v is =
    let q = with_halves lose most text in
    let none : (receiver_step q Idle false).state.halves ≡ [] = ap (λ (x : Receiving). x.halves) (idle_state q q.deaf q.halves refl refl) in
    let P : ℕ → Type 0 = λ h. IsDemandWithin (both_demands (reception_demand most h n) (event_demand (receiver_step q Idle false).event)) (reception_demand most (length text) (suc n)) in
    let Q : Option Body → Type 0 = λ e. IsDemandWithin (both_demands (reception_demand most 0 n) (event_demand e)) (reception_demand most (length text) (suc n)) in
    subst Q (sym (is.event q (text_hears lose most 0 text))) (subst P (ap length none) (paid q Idle false n))

pub verdict_fits : (lose most : ℕ) (text : List Sym) (v : TextVerdict) (room : Room) → IsVerdictFor lose most text v → Covers (reception_demand most (length text) 1) room → Covers (event_demand v.event) room
verdict_fits lose most text v room is a =
    let w = verdict_within lose most 0 text v is in
    record {
      for_rows = omega (arith, w.fewer_rows, a.for_rows);
      for_frames = omega (arith, w.fewer_frames, a.for_frames);
      for_octets = omega (arith, w.fewer_octets, a.for_octets);
    }

pub verdict_left : (lose most n : ℕ) (text : List Sym) (v : TextVerdict) (other : Demand) (old new : Room) → IsVerdictFor lose most text v → KeepsRoom (event_demand v.event).rows (event_demand v.event).frames (event_demand v.event).octets old new
    → Covers (both_demands other (reception_demand most (length text) (suc n))) old → Covers (both_demands other (reception_demand most 0 n)) new
verdict_left lose most n text v other old new is k a =
    let w = verdict_within lose most n text v is in
    record {
      for_rows = omega (arith, w.fewer_rows, a.for_rows, k.keeps_rows);
      for_frames = omega (arith, w.fewer_frames, a.for_frames, k.keeps_frames);
      for_octets = omega (arith, w.fewer_octets, a.for_octets, k.keeps_octets);
    }
