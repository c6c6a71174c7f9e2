-- A receiver that awaited a reception and hears a text has its half bits as its reception, and the text alone tells what
-- it makes of them.
use Rattle.std.proofs.Common.{◌≡◌, ℕ, suc, ◌<◌, Bool, false, Some, None, List, [], ◌∷◌, ◌++◌, length, refl, sym, ap, ap₂, subst, ◌∙◌, arith, append_assoc}
use Rattle.std.proofs.lemmas.List.{append-nil}
use Rattle.manchester_line.specs.declared.Sym.{Sym}
use Rattle.manchester_line.specs.declared.Sym.TheVariants.{Idle, Hi, Lo, Clash}
use Rattle.manchester_line.specs.Reading.{reading}
use Rattle.mac_receive.specs.Receiver.{Receiving, Reception, new_receiving, receiver_step, receiver_after, receiver_bodies, with_event, left_halves, reading_row, reading_octets}
use Rattle.reception_laws.specs.WholeReceptions.{IsAllSignal, AwaitsReception, idle_after, TextVerdict, verdict_of_text, HasVerdict}

-- a receiver that isn't deaf, with this reception
abbrev pub with_halves : ℕ → ℕ → List Sym → Receiving
with_halves lose most halves = record { lose = lose; most = most; deaf = false; halves = halves }

hears_signal : (lose most : ℕ) (halves : List Sym) (s : Sym) → (s ≡ Idle → ⊥) → (receiver_step (with_halves lose most halves) s false).state ≡ with_halves lose most (halves ++ s ∷ [])
hears_signal lose most halves Idle h = absurd (h refl)
hears_signal lose most halves Hi h = refl
hears_signal lose most halves Lo h = refl
hears_signal lose most halves Clash h = refl

-- it has each half bit of a text of signals after those that it had
hears_text : (text : List Sym) (lose most : ℕ) (halves : List Sym) → IsAllSignal text → receiver_after (with_halves lose most halves) text false ≡ with_halves lose most (halves ++ text)
hears_text [] lose most halves h = ap (with_halves lose most) (sym (append-nil halves))
hears_text (s ∷ ss) lose most halves h =
    ap (λ r. receiver_after r ss false) (hears_signal lose most halves s (h 0 Idle (omega arith)))
    ∙ hears_text ss lose most (halves ++ s ∷ []) (λ i e p. h (suc i) e (omega (arith, p)))
    ∙ ap (with_halves lose most) (append_assoc halves (s ∷ []) ss)

same_receiving : (lose most : ℕ) (d : Bool) (hs : List Sym) → d ≡ false → hs ≡ [] → ◌≡◌ {A = Receiving} (record { lose = lose; most = most; deaf = d; halves = hs }) (new_receiving lose most)
same_receiving lose most d hs ed eh = rw (ed, eh)

-- a receiver that awaits a reception is as a new one
pub awaits_as_new : (r : Receiving) → AwaitsReception r → r ≡ new_receiving r.lose r.most
awaits_as_new r h = same_receiving r.lose r.most r.deaf r.halves h.hearing h.none

-- the half bits of its reception are those of the text
pub halves_heard : (r : Receiving) (text : List Sym) → AwaitsReception r → IsAllSignal text → receiver_after r text false ≡ with_halves r.lose r.most text
halves_heard r text awaited all = ap (λ x. receiver_after x text false) (awaits_as_new r awaited) ∙ hears_text text r.lose r.most [] all

same_halves : (r : Receiving) (text : List Sym) (d : Bool) → d ≡ false → with_halves r.lose r.most text ≡ record { lose = r.lose; most = r.most; deaf = d; halves = text }
same_halves r text d e = ap (λ t. record (with_halves r.lose r.most text) { deaf = t }) (sym e)

pub text_under_way : (r : Receiving) (text : List Sym) → AwaitsReception r → IsAllSignal text → receiver_after r text false ≡ record r { halves = text }
text_under_way r text awaited all = halves_heard r text awaited all ∙ same_halves r text r.deaf awaited.hearing

pub text_on : (r : Receiving) (text more : List Sym) → AwaitsReception r → IsAllSignal more → receiver_after (record r { halves = text }) more false ≡ record r { halves = text ++ more }
text_on r text more awaited all =
    ap (λ x. receiver_after x more false) (sym (same_halves r text r.deaf awaited.hearing))
    ∙ hears_text more r.lose r.most text all
    ∙ same_halves r (text ++ more) r.deaf awaited.hearing

-- at the Idle after it the reception is judged, and the receiver awaits the next
pub judged_at_idle : (lose most : ℕ) (text : List Sym) → 0 < length text → receiver_step (with_halves lose most text) Idle false ≡ record {
  state = new_receiving lose most;
  event = Some (reading_row (reading (left_halves lose text)) most (length text));
  octets = reading_octets (reading (left_halves lose text)) most;
}
judged_at_idle lose most [] p = absurd (omega (arith, p))
judged_at_idle lose most (s ∷ ss) p = refl

pub idle_heard : (r : Receiving) (text : List Sym) → AwaitsReception r → IsAllSignal text → 0 < length text → idle_after r text ≡ record {
  state = new_receiving r.lose r.most;
  event = Some (reading_row (reading (left_halves r.lose text)) r.most (length text));
  octets = reading_octets (reading (left_halves r.lose text)) r.most;
}
idle_heard r text awaited all some = ap (λ x. receiver_step x Idle false) (halves_heard r text awaited all) ∙ judged_at_idle r.lose r.most text some

pub new_awaits : (lose most : ℕ) → AwaitsReception (new_receiving lose most)
new_awaits lose most = record { hearing = refl; none = refl }

-- the verdict of a text is that of its reading
pub verdict_read : (lose most : ℕ) (text : List Sym) → IsAllSignal text → 0 < length text → verdict_of_text lose most text ≡ record {
  event = Some (reading_row (reading (left_halves lose text)) most (length text));
  octets = reading_octets (reading (left_halves lose text)) most;
}
verdict_read lose most text all some =
    ap (λ (x : Reception). let v : TextVerdict = record { event = x.event; octets = x.octets } in v) (idle_heard (new_receiving lose most) text (new_awaits lose most) all some)

-- what a receiver makes of a text, and that it awaits the next reception then
pub verdict_told : (r : Receiving) (text : List Sym) → AwaitsReception r → ◌≡◌ {A = TextVerdict} (record { event = (idle_after r text).event; octets = (idle_after r text).octets }) (verdict_of_text r.lose r.most text)
verdict_told r text awaited =
    ap (λ (x : Receiving). let v : TextVerdict = record { event = (idle_after x text).event; octets = (idle_after x text).octets } in v) (awaits_as_new r awaited)

pub awaits_again : (r : Receiving) (text : List Sym) → AwaitsReception r → IsAllSignal text → (idle_after r text).state ≡ r
awaits_again r [] awaited all =
    let P : Receiving → Type 0 = λ x. (idle_after x []).state ≡ x in subst P (sym (awaits_as_new r awaited)) refl
awaits_again r (s ∷ ss) awaited all = ap (λ (x : Reception). x.state) (idle_heard r (s ∷ ss) awaited all (omega arith)) ∙ sym (awaits_as_new r awaited)

pub no_event : (lose most : ℕ) (halves : List Sym) (s : Sym) → (s ≡ Idle → ⊥) → (receiver_step (with_halves lose most halves) s false).event ≡ None
no_event lose most halves Idle h = absurd (h refl)
no_event lose most halves Hi h = refl
no_event lose most halves Lo h = refl
no_event lose most halves Clash h = refl

no_rows : (text : List Sym) (lose most : ℕ) (halves : List Sym) → IsAllSignal text → receiver_bodies (with_halves lose most halves) text false ≡ []
no_rows [] lose most halves h = refl
no_rows (s ∷ ss) lose most halves h =
    let signal : s ≡ Idle → ⊥ = h 0 Idle (omega arith) in
    ap₂ with_event (no_event lose most halves s signal)
    (ap (λ r. receiver_bodies r ss false) (hears_signal lose most halves s signal) ∙ no_rows ss lose most (halves ++ s ∷ []) (λ i e p. h (suc i) e (omega (arith, p))))

pub nothing_before : (r : Receiving) (text : List Sym) → AwaitsReception r → IsAllSignal text → receiver_bodies r text false ≡ []
nothing_before r text awaited all = ap (λ x. receiver_bodies x text false) (awaits_as_new r awaited) ∙ no_rows text r.lose r.most [] all

-- a verdict that is that of the text's reading
pub has_verdict : (r : Receiving) (text : List Sym) (v : TextVerdict) → AwaitsReception r → IsAllSignal text → 0 < length text →
    Some (reading_row (reading (left_halves r.lose text)) r.most (length text)) ≡ v.event → reading_octets (reading (left_halves r.lose text)) r.most ≡ v.octets → HasVerdict r text v
has_verdict r text v awaited all some event octets =
    record {
      before = nothing_before r text awaited all;
      event = ap (λ (x : Reception). x.event) (idle_heard r text awaited all some) ∙ event;
      octets = ap (λ (x : Reception). x.octets) (idle_heard r text awaited all some) ∙ octets;
      after = awaits_again r text awaited all;
    }
