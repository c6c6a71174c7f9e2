-- What is kept stands for the receiver of clause 4 after a step, where it did before.
use Rattle.std.proofs.Common.{◌≡◌, ℕ, ◌+◌, ◌*◌, ◌<◌, inl, inr, Bool, true, false, List, [], ◌∷◌, ◌++◌, length, refl, sym, ap, ap₂, subst, ◌∙◌, arith, length-append}
use Rattle.std.specs.Prelude.{if◌then◌else◌}
use Rattle.std.proofs.lemmas.Bool.{cases_lt, true≢false, le-leb, lt-leb}
use Rattle.std.proofs.lemmas.List.{drop-append-le}
use Rattle.std.proofs.Math.Seq.{drop-nil}
use Rattle.std.proofs.Math.ListN.{drop_of_length-le}
use Rattle.std.proofs.Math.Dec.{eqb-suc-zero}
use Rattle.manchester_line.specs.declared.Sym.{Sym}
use Rattle.manchester_line.specs.declared.Sym.TheVariants.{Idle, Hi, Lo, Clash}
use Rattle.manchester_line.specs.Decoding.{Decoding, Decodes, new_decoding, pushed, all_pushed}
use Rattle.manchester_line.proofs.PushedMore.{decodes_next}
use Rattle.mac_receive.specs.Receiver.{Receiving, receiver_step, left_halves, quiet, reception_ended, extended}
use Rattle.mac_receive.specs.KeptReceiver.{KeptReception, Hears, IsReceiver, fresh, decoder_fed, kept_more, stepped}

-- the decoder that goes on was given what is left so far
fresh_decodes : (lose : ℕ) (halves : List Sym) (d : Decoding) → (0 < length halves → Decodes (left_halves lose halves) d) → fresh (length halves) d ≡ all_pushed new_decoding (left_halves lose halves)
fresh_decodes lose [] d h = ap (all_pushed new_decoding) (sym (drop-nil {A = Sym} (2 * lose)))
fresh_decodes lose (s ∷ ss) d h = ap (λ t. if t then new_decoding else d) (eqb-suc-zero (length ss)) ∙ h (omega arith)

decodes_more : (lose : ℕ) (halves : List Sym) (d : Decoding) (s : Sym) → (0 < length halves → Decodes (left_halves lose halves) d) → decoder_fed lose (length halves) d s ≡ all_pushed new_decoding (left_halves lose (halves ++ s ∷ []))
decodes_more lose halves d s h =
    let len : length (halves ++ s ∷ []) ≡ length halves + 1 = length-append halves (s ∷ []) in
    let more : Bool → Decoding = λ t. if t then pushed (fresh (length halves) d) s else fresh (length halves) d in
    elim (cases_lt (length halves) (2 * lose)) [
      | inl low ↦
          ap more (lt-leb (2 * lose) (length halves) low) ∙ fresh_decodes lose halves d h
          ∙ ap (all_pushed new_decoding) (drop_of_length-le halves {i = 2 * lose} (omega (arith, low)) ∙ sym (drop_of_length-le (halves ++ s ∷ []) {i = 2 * lose} (omega (arith, low, len))))
      | inr high ↦
          ap more (le-leb (2 * lose) (length halves) high)
          ∙ decodes_next (left_halves lose halves) (fresh (length halves) d) (pushed (fresh (length halves) d) s) s (fresh_decodes lose halves d h) refl
          ∙ ap (all_pushed new_decoding) (sym (drop-append-le (2 * lose) halves (s ∷ []) high))
    ]

same_receiving : (lose most : ℕ) (d d' : Bool) (hs hs' : List Sym) → d ≡ d' → hs ≡ hs' → ◌≡◌ {A = Receiving} (record { lose = lose; most = most; deaf = d; halves = hs }) (record { lose = lose; most = most; deaf = d'; halves = hs' })
same_receiving lose most d d' hs hs' ed eh = rw (ed, eh)

pub idle_state : (r : Receiving) (d : Bool) (hs : List Sym) → r.deaf ≡ d → r.halves ≡ hs → (if d then quiet (record r { deaf = false; halves = [] }) else reception_ended r hs).state ≡ record r { deaf = false; halves = [] }
idle_state r true hs ed eh = refl
idle_state r false [] ed eh = same_receiving r.lose r.most r.deaf false r.halves [] ed eh
idle_state r false (s ∷ ss) ed eh = same_receiving r.lose r.most r.deaf false [] [] ed refl

heard_next : (r : Receiving) (k : KeptReception) (s : Sym) (d e : Bool) → r.deaf ≡ d → k.deaf ≡ e → Hears r k → Hears (if d then quiet r else extended r s).state (if e then record k { steps = k.steps + 1 } else record (kept_more k s) { steps = k.steps + 1 })
heard_next r k s true true ed ee h = record { same_lose = h.same_lose; same_most = h.same_most; same_deaf = h.same_deaf; count = h.count; decodes = h.decodes }
heard_next r k s false false ed ee h =
    let len : length (r.halves ++ s ∷ []) ≡ length r.halves + 1 = length-append r.halves (s ∷ []) in
    record {
      same_lose = h.same_lose;
      same_most = h.same_most;
      same_deaf = h.same_deaf;
      count = omega (arith, len, h.count);
      decodes = λ _. ap₂ (λ l n. decoder_fed l n k.decoder s) h.same_lose h.count ∙ decodes_more r.lose r.halves k.decoder s h.decodes;
    }
heard_next r k s true false ed ee h = absurd (true≢false (sym ed ∙ sym h.same_deaf ∙ ee))
heard_next r k s false true ed ee h = absurd (true≢false (sym ee ∙ h.same_deaf ∙ ed))

-- what is kept goes on standing for the receiver
pub hears_next : (r : Receiving) (k : KeptReception) (heard : Sym) (sending : Bool) → Hears r k → Hears (receiver_step r heard sending).state (stepped k heard sending)
hears_next r k heard true h = record { same_lose = h.same_lose; same_most = h.same_most; same_deaf = refl; count = refl; decodes = λ p. absurd (omega (arith, p)) }
hears_next r k Idle false h =
    let P : Receiving → Type 0 = λ x. Hears x (stepped k Idle false) in
    subst P (sym (idle_state r r.deaf r.halves refl refl))
    (record { same_lose = h.same_lose; same_most = h.same_most; same_deaf = refl; count = refl; decodes = λ p. absurd (omega (arith, p)) })
hears_next r k Hi false h = heard_next r k Hi r.deaf k.deaf refl refl h
hears_next r k Lo false h = heard_next r k Lo r.deaf k.deaf refl refl h
hears_next r k Clash false h = heard_next r k Clash r.deaf k.deaf refl refl h

-- a receiver that keeps no half bit stands for one, whatever its decoder was given
pub new_receiver : (lose most : ℕ) (deaf : Bool) (d : Decoding) (m : ℕ) → IsReceiver (record { lose = lose; most = most; deaf = deaf; halves = 0; decoder = d; steps = m })
new_receiver lose most deaf d m = (record { lose = lose; most = most; deaf = deaf; halves = [] }, record { same_lose = refl; same_most = refl; same_deaf = refl; count = refl; decodes = λ p. absurd (omega (arith, p)) })

-- and so it does after one more half bit of a reception
pub more_receiver : (k : KeptReception) (s : Sym) (d : Decoding) (m : ℕ) → d ≡ decoder_fed k.lose k.halves k.decoder s → IsReceiver k → IsReceiver (record { lose = k.lose; most = k.most; deaf = k.deaf; halves = k.halves + 1; decoder = d; steps = m })
more_receiver k s d m e h =
    let r : Receiving = h.0 in
    let len : length (r.halves ++ s ∷ []) ≡ length r.halves + 1 = length-append r.halves (s ∷ []) in (
      record r { halves = r.halves ++ s ∷ [] },
      record {
        same_lose = h.1.same_lose;
        same_most = h.1.same_most;
        same_deaf = h.1.same_deaf;
        count = omega (arith, len, h.1.count);
        decodes = λ _. e ∙ ap₂ (λ l n. decoder_fed l n k.decoder s) h.1.same_lose h.1.count ∙ decodes_more r.lose r.halves k.decoder s h.1.decodes;
      },
    )

-- and whatever the number of its steps is, deaf or not
pub same_receiver : (k : KeptReception) (deaf : Bool) (m : ℕ) → IsReceiver k → IsReceiver (record { lose = k.lose; most = k.most; deaf = deaf; halves = k.halves; decoder = k.decoder; steps = m })
same_receiver k deaf m h = (record h.0 { deaf = deaf }, record { same_lose = h.1.same_lose; same_most = h.1.same_most; same_deaf = refl; count = h.1.count; decodes = h.1.decodes })
