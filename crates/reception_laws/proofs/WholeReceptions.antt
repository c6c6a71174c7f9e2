-- The laws of receivers that hear a text whole.
use Rattle.std.proofs.Common.{◌≡◌, ℕ, ◌-◌, ◌*◌, ◌<◌, Some, None, List, [], ◌∷◌, length, drop, refl, sym, ap, subst, arith, length-drop}
use Rattle.std.specs.List.{Contains}
use Rattle.manchester_line.specs.declared.Sym.{Sym}
use Rattle.manchester_line.specs.declared.Sym.TheVariants.{Clash}
use Rattle.manchester_line.specs.Reading.{reading}
use Rattle.mac_receive.specs.Receiver.{Receiving, left_halves, reading_row, reading_octets}
use Rattle.mac_receive.proofs.StepsKeepMeaning.{idle_state}
use Rattle.reception_laws.specs.WholeReceptions.{AwaitsReception, TextVerdict, TextIsUnderWay, ShortTextIsFragment, ClashSpoilsText, WholeTextIsTold, IdleEndsReception}
use Rattle.reception_laws.proofs.ReceptionsHeard.{text_under_way, has_verdict, nothing_before, verdict_told, awaits_again}
use Rattle.reception_laws.proofs.ShortReceptions.{short_row, short_octets}
use Rattle.reception_laws.proofs.SpoiledReceptions.{clash_unread}

pub text_is_under_way : TextIsUnderWay
text_is_under_way r text awaited all = text_under_way r text awaited all

pub short_text_is_fragment : ShortTextIsFragment
short_text_is_fragment r text awaited all some short =
    has_verdict r text _ awaited all some (ap Some (short_row r.lose r.most text short)) (short_octets r.lose r.most text short)

-- what is left isn't empty where it has a Clash, and so neither is the text
some_left : (n : ℕ) (text : List Sym) → Contains (drop n text) Clash → 0 < length text
some_left n [] h =
    let some : h.0 < length (drop n (let none : List Sym = [] in none)) = h.1 in
    let len : length (drop n (let none : List Sym = [] in none)) ≡ 0 - n = length-drop n (let none : List Sym = [] in none) in
    absurd (omega (arith, some, len))
some_left n (s ∷ ss) h = omega arith

pub clash_spoils_text : ClashSpoilsText
clash_spoils_text r text awaited all clash =
    let unread : reading (left_halves r.lose text) ≡ None = clash_unread (left_halves r.lose text) clash in
    has_verdict r text _ awaited all (some_left (2 * r.lose) text clash)
    (ap (λ o. Some (reading_row o r.most (length text))) unread)
    (ap (λ o. reading_octets o r.most) unread)

pub whole_text_is_told : WholeTextIsTold
whole_text_is_told r text awaited all =
    record {
      before = nothing_before r text awaited all;
      event = ap (λ (v : TextVerdict). v.event) (verdict_told r text awaited);
      octets = ap (λ (v : TextVerdict). v.octets) (verdict_told r text awaited);
      after = awaits_again r text awaited all;
    }

pub idle_ends_reception : IdleEndsReception
idle_ends_reception r =
    let P : Receiving → Type 0 = AwaitsReception in
    subst P (sym (idle_state r r.deaf r.halves refl refl)) (record { hearing = refl; none = refl })
