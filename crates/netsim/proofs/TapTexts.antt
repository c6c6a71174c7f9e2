-- The text of what several taps hear, written tap by tap: there is one, and a front of it was written.
use Rattle.std.proofs.Common.{◌≡◌, ℕ, ◌+◌, ◌-◌, ◌<◌, ◌≤◌, List, [], ◌∷◌, ◌++◌, take, drop, length, length-append, length-drop, get_or, Option, None, Some, refl, sym, ap, subst, ◌∙◌, inl, inr, append_assoc, arith}
use Rattle.std.proofs.lemmas.Bool.{cases_Bool}
use Rattle.std.proofs.lemmas.List.{append-nil, drop_more, take-append-drop, take-append-le, take_all, take_more}
use Rattle.std.proofs.Math.Seq.{take-append-add, take-append_seam}
use denote.Enum.Bare.{sameb}
use Rattle.manchester_line.specs.contracts.Sym.{the_type}
use Rattle.manchester_line.specs.declared.Sym.{Sym}
use Rattle.load_plan.specs.declared.plan.Plan.{Plan}
use Rattle.line_probe.specs.Bursts.{bursts_of}
use Rattle.line_probe.specs.Heard.{heard_from}
use Rattle.line_probe.specs.RunTexts.{text_of_runs}
use Rattle.line_probe.specs.Runs.{AreRunsOf}
use Rattle.line_probe.specs.declared.run.Run.{Run}
use Rattle.line_probe.specs.declared.tap.Tap.{Tap}
use Rattle.line_probe.proofs.RunsSoFar.{first_run, longer, run_begins, run_goes_on}
use Rattle.line_probe.proofs.SameSymbols.{other_symbols, same_symbols}
use Rattle.report_texts.specs.HeardTexts.{IsTextOfTap, IsTextOfTaps, text_of_bursts, line_of_tap}
use Rattle.run_endings.specs.Writing.{IsCutShort, added}

-- ---- there are runs of all symbols

grown : (from : ℕ) (rest symbols : List Sym) (runs : List Run) (r : Run) → AreRunsOf from symbols (runs ++ r ∷ []) → (all : List Run) × AreRunsOf from (symbols ++ rest) all
grown from [] symbols runs r h = (runs ++ r ∷ [], subst (λ (xs : List Sym). AreRunsOf from xs (runs ++ r ∷ [])) (sym (append-nil symbols)) h)
grown from (s ∷ ss) symbols runs r h =
    let whole : (symbols ++ s ∷ []) ++ ss ≡ symbols ++ s ∷ ss = append_assoc symbols (s ∷ []) ss in
    elim (cases_Bool (sameb the_type s r.symbol)) [
      | inl same ↦
          (let more = grown from ss (symbols ++ s ∷ []) runs (longer r) (run_goes_on from symbols runs r s (same_symbols s r.symbol same) h) in
          (more.0, subst (λ (xs : List Sym). AreRunsOf from xs more.0) whole more.1))
      | inr other ↦
          (let next : Run = record { start = r.start + r.count; count = 1; symbol = s } in
          let more = grown from ss (symbols ++ s ∷ []) (runs ++ r ∷ []) next (run_begins from symbols runs r s (other_symbols s r.symbol other) h) in
          (more.0, subst (λ (xs : List Sym). AreRunsOf from xs more.0) whole more.1))
    ]

some_runs : (from : ℕ) (symbols : List Sym) → (runs : List Run) × AreRunsOf from symbols runs
some_runs from [] = ([], record { joined = tt; maximal = tt; symbols_are = refl })
some_runs from (s ∷ ss) = grown from ss (s ∷ []) [] (record { start = from; count = 1; symbol = s }) (first_run from s)

-- ---- there is a text of what taps hear

some_text : (plan : Plan) (from n : ℕ) (word : List ℕ) (tap : Tap) → (text : List ℕ) × IsTextOfTap plan from n word tap text
some_text plan from n word tap =
    let r = some_runs from (heard_from plan tap from n) in
    (line_of_tap word ++ text_of_runs r.0 ++ text_of_bursts (bursts_of from (heard_from plan tap from n)), record { runs = r.0; right = r.1; is = refl })

some_texts : (plan : Plan) (from n : ℕ) (words : List (List ℕ)) (taps : List Tap) → length taps ≡ length words → (text : List ℕ) × IsTextOfTaps plan from n words taps text
some_texts plan from n [] [] same = ([], refl)
some_texts plan from n [] (tap ∷ taps) same = absurd (omega (arith, same))
some_texts plan from n (word ∷ words) [] same = absurd (omega (arith, same))
some_texts plan from n (word ∷ words) (tap ∷ taps) same =
    let first = some_text plan from n word tap in
    let rest = some_texts plan from n words taps (omega (arith, same)) in
    (first.0 ++ rest.0, (first.0, rest.0, first.1, rest.1, refl))

-- the text of some taps and that of others
texts_append : (plan : Plan) (from n : ℕ) (words ws : List (List ℕ)) (taps ts : List Tap) (done rest : List ℕ) → IsTextOfTaps plan from n words taps done → IsTextOfTaps plan from n ws ts rest
    → IsTextOfTaps plan from n (words ++ ws) (taps ++ ts) (done ++ rest)
texts_append plan from n [] ws [] ts done rest one two = subst (λ (xs : List ℕ). IsTextOfTaps plan from n ws ts (xs ++ rest)) (sym one) two
texts_append plan from n [] ws (tap ∷ taps) ts done rest one two = absurd one
texts_append plan from n (word ∷ words) ws [] ts done rest one two = absurd one
texts_append plan from n (word ∷ words) ws (tap ∷ taps) ts done rest one two =
    (one.0, one.1 ++ rest, one.2, texts_append plan from n words ws taps ts one.1 rest one.3 two, ap (λ (xs : List ℕ). xs ++ rest) one.4 ∙ append_assoc one.0 one.1 rest)

-- ---- what was written

added_nothing : (written : Option (List ℕ)) → written ≡ added [] written
added_nothing None = refl
added_nothing (Some w) = ap Some (sym (append-nil w))

added_twice : (a b : List ℕ) (written : Option (List ℕ)) → added b (added a written) ≡ added (a ++ b) written
added_twice a b None = refl
added_twice a b (Some w) = ap Some (append_assoc w a b)

-- nothing more was written
cut_here : (done rest : List ℕ) (written now : Option (List ℕ)) → now ≡ added done written → 0 < length rest → IsCutShort (done ++ rest) written now
cut_here done rest written now is more =
    (length done, is ∙ ap (λ (xs : List ℕ). added xs written) (sym (take-append_seam done rest)), omega (arith, length-append done rest, more))

-- a front of one more text was written
cut_after : (done one rest : List ℕ) (written mid now : Option (List ℕ)) → mid ≡ added done written → IsCutShort one mid now → IsCutShort (done ++ (one ++ rest)) written now
cut_after done one rest written mid now begun cut =
    let k = cut.0 in
    let le : k ≤ length one = omega (arith, cut.2) in (
      length done + k,
      cut.1 ∙ ap (λ (w : Option (List ℕ)). added (take k one) w) begun ∙ added_twice done (take k one) written
          ∙ ap (λ (xs : List ℕ). added (done ++ xs) written) (sym (take-append-le k one rest le))
          ∙ ap (λ (xs : List ℕ). added xs written) (sym (take-append-add done (one ++ rest) k)),
      omega (arith, length-append done (one ++ rest), length-append one rest, cut.2),
    )

-- so far the texts of the first k of these words were written
pub record IsToldUpTo (plan : Plan) (from n k : ℕ) (words : List (List ℕ)) (taps : List Tap) (written now : Option (List ℕ)) : Type 0 where
  pub done : List ℕ
  pub texts : IsTextOfTaps plan from n (take k words) (take k taps) done
  pub so_far : now ≡ added done written

pub told_none : (plan : Plan) (from n : ℕ) (words : List (List ℕ)) (taps : List Tap) (written : Option (List ℕ)) → IsToldUpTo plan from n 0 words taps written written
told_none plan from n words taps written = record { done = []; texts = refl; so_far = added_nothing written }

single : (plan : Plan) (from n : ℕ) (word : List ℕ) (tap : Tap) (one : List ℕ) → IsTextOfTap plan from n word tap one → IsTextOfTaps plan from n (word ∷ []) (tap ∷ []) one
single plan from n word tap one right = (one, [], right, refl, sym (append-nil one))

-- one text more
pub told_more : (plan : Plan) (from n k : ℕ) (words : List (List ℕ)) (taps : List Tap) (d : Tap) (e one : List ℕ) (written now next : Option (List ℕ)) → k < length words → length taps ≡ length words
    → IsToldUpTo plan from n k words taps written now → IsTextOfTap plan from n (get_or words k e) (get_or taps k d) one → next ≡ added one now → IsToldUpTo plan from n (k + 1) words taps written next
told_more plan from n k words taps d e one written now next lt same told right is =
    let within : k < length taps = omega (arith, lt, same) in
    let both = texts_append plan from n (take k words) (get_or words k e ∷ []) (take k taps) (get_or taps k d ∷ []) told.done one told.texts (single plan from n (get_or words k e) (get_or taps k d) one right) in
    record {
      done = told.done ++ one;
      texts = rw (take_more words k e lt, take_more taps k d within) both;
      so_far = is ∙ ap (λ (w : Option (List ℕ)). added one w) told.so_far ∙ added_twice told.done one written;
    }

-- all of them
pub told_all : (plan : Plan) (from n k : ℕ) (words : List (List ℕ)) (taps : List Tap) (written now : Option (List ℕ)) → length words ≤ k → length taps ≡ length words
    → IsToldUpTo plan from n k words taps written now → (text : List ℕ) × IsTextOfTaps plan from n words taps text × (now ≡ added text written)
told_all plan from n k words taps written now all same told =
    (told.done, rw (take_all k words all, take_all k taps (omega (arith, all, same))) at told.texts, told.so_far)

left_long : (k : ℕ) (words : List (List ℕ)) (taps : List Tap) → length taps ≡ length words → length (drop k taps) ≡ length (drop k words)
left_long k words taps same = length-drop k taps ∙ ap (λ m. m - k) same ∙ sym (length-drop k words)

line_fills : (word runs bursts : List ℕ) → 0 < length (line_of_tap word ++ runs ++ bursts)
unfolding line_of_tap
line_fills word runs bursts = omega arith

-- the texts of some taps are not empty, since each has its line
texts_fill : (plan : Plan) (from n : ℕ) (words ws : List (List ℕ)) (taps ts : List Tap) (word text : List ℕ) (tap : Tap) → words ≡ word ∷ ws → taps ≡ tap ∷ ts → IsTextOfTaps plan from n words taps text → 0 < length text
texts_fill plan from n words ws taps ts word text tap one two right =
    let texts : IsTextOfTaps plan from n (word ∷ ws) (tap ∷ ts) text = rw (one, two) at right in
    let first = line_fills word (text_of_runs texts.2.runs) (text_of_bursts (bursts_of from (heard_from plan tap from n))) in
    let filled : 0 < length texts.0 = subst (λ (xs : List ℕ). 0 < length xs) (sym texts.2.is) first in
    subst (λ (xs : List ℕ). 0 < length xs) (sym texts.4) (omega (arith, length-append texts.0 texts.1, filled))

-- no memory for the next one
pub told_unmade : (plan : Plan) (from n k : ℕ) (words : List (List ℕ)) (taps : List Tap) (d : Tap) (e : List ℕ) (written now : Option (List ℕ)) → k < length words → length taps ≡ length words
    → IsToldUpTo plan from n k words taps written now → (text : List ℕ) × IsTextOfTaps plan from n words taps text × IsCutShort text written now
told_unmade plan from n k words taps d e written now lt same told =
    let within : k < length taps = omega (arith, lt, same) in
    let rest = some_texts plan from n (drop k words) (drop k taps) (left_long k words taps same) in
    let whole = texts_append plan from n (take k words) (drop k words) (take k taps) (drop k taps) told.done rest.0 told.texts rest.1 in
    let more = texts_fill plan from n (drop k words) (drop (k + 1) words) (drop k taps) (drop (k + 1) taps) (get_or words k e) rest.0 (get_or taps k d) (drop_more words k e lt) (drop_more taps k d within) rest.1 in
    (told.done ++ rest.0, rw (take-append-drop k words, take-append-drop k taps) at whole, cut_here told.done rest.0 written now told.so_far more)

-- the next one was cut short
pub told_cut : (plan : Plan) (from n k : ℕ) (words : List (List ℕ)) (taps : List Tap) (d : Tap) (e one : List ℕ) (written mid now : Option (List ℕ)) → k < length words → length taps ≡ length words
    → IsToldUpTo plan from n k words taps written mid → IsTextOfTap plan from n (get_or words k e) (get_or taps k d) one → IsCutShort one mid now → (text : List ℕ) × IsTextOfTaps plan from n words taps text × IsCutShort text written now
told_cut plan from n k words taps d e one written mid now lt same told right cut =
    let within : k < length taps = omega (arith, lt, same) in
    let rest = some_texts plan from n (drop (k + 1) words) (drop (k + 1) taps) (left_long (k + 1) words taps same) in
    let next : IsTextOfTaps plan from n (get_or words k e ∷ drop (k + 1) words) (get_or taps k d ∷ drop (k + 1) taps) (one ++ rest.0) = (one, rest.0, right, rest.1, refl) in
    let left : IsTextOfTaps plan from n (drop k words) (drop k taps) (one ++ rest.0) = rw (drop_more words k e lt, drop_more taps k d within) next in
    let whole = texts_append plan from n (take k words) (drop k words) (take k taps) (drop k taps) told.done (one ++ rest.0) told.texts left in
    (told.done ++ (one ++ rest.0), rw (take-append-drop k words, take-append-drop k taps) at whole, cut_after told.done one rest.0 written mid now told.so_far cut)

-- the same text of the same word
pub text_at : (plan : Plan) (from n : ℕ) (word given : List ℕ) (tap : Tap) (text shown : List ℕ) → word ≡ given → shown ≡ text → IsTextOfTap plan from n word tap text → IsTextOfTap plan from n given tap shown
text_at plan from n word given tap text shown is same right = subst (λ (w : List ℕ). IsTextOfTap plan from n w tap shown) is (subst (λ (t : List ℕ). IsTextOfTap plan from n word tap t) (sym same) right)
