-- What one of several taps hears, of what they all hear half bit by half bit.
use Rattle.std.proofs.Common.{◌≡◌, ℕ, zero, suc, ◌+◌, ◌-◌, ◌*◌, ◌<◌, ◌≤◌, List, [], ◌∷◌, ◌++◌, map, take, drop, length, length-append, length-drop, get_or, refl, sym, ap, subst, ◌∙◌, arith, append_assoc}
use Rattle.std.proofs.lemmas.List.{drop_all, drop_more, take_all, get_or-map, get_or_append_left, length-map}
use Rattle.std.proofs.Math.Seq.{drop-append_seam}
use Rattle.manchester_line.specs.declared.Sym.{Sym}
use Rattle.manchester_line.specs.declared.Sym.TheVariants.{Idle}
use Rattle.load_plan.specs.declared.plan.Plan.{Plan}
use Rattle.line_probe.specs.Heard.{AreProbed, tap_heard, heard_from, rows_of_taps}
use Rattle.line_probe.specs.Runs.{AreRunsOf}
use Rattle.line_probe.specs.declared.run.Run.{Run}
use Rattle.line_probe.specs.declared.tap.Tap.{Tap}

-- the row of half bit t, and those after it
pub rows_next : (plan : Plan) (taps : List Tap) (t to : ℕ) → t < to → rows_of_taps plan taps t (to - t) ≡ map (tap_heard plan t) taps ++ rows_of_taps plan taps (t + 1) (to - (t + 1))
rows_next plan taps t to lt = let e : to - t ≡ suc (to - (t + 1)) = omega arith in ap (rows_of_taps plan taps t) e

-- one more tap of a row
pub row_goes_on : (f : Tap → Sym) (taps : List Tap) (i : ℕ) (d : Tap) (heard new : List Sym) (s : Sym) (rest whole : List Sym) → i < length taps → new ≡ heard ++ s ∷ [] → s ≡ f (get_or taps i d)
    → heard ++ (map f (drop i taps) ++ rest) ≡ whole → new ++ (map f (drop (i + 1) taps) ++ rest) ≡ whole
row_goes_on f taps i d heard new s rest whole lt new_is s_is so_far =
    ap (λ xs. xs ++ (map f (drop (i + 1) taps) ++ rest)) new_is
    ∙ append_assoc heard (s ∷ []) (map f (drop (i + 1) taps) ++ rest)
    ∙ ap (λ x. heard ++ x ∷ (map f (drop (i + 1) taps) ++ rest)) s_is
    ∙ sym (ap (λ ts. heard ++ (map f ts ++ rest)) (drop_more taps i d lt))
    ∙ so_far

-- a whole row
pub row_done : (f : Tap → Sym) (taps : List Tap) (i : ℕ) (heard rest whole : List Sym) → length taps ≤ i → heard ++ (map f (drop i taps) ++ rest) ≡ whole → heard ++ rest ≡ whole
row_done f taps i heard rest whole le so_far = ap (λ ts. heard ++ (map f ts ++ rest)) (sym (drop_all i taps le)) ∙ so_far

-- so far these symbols of the tap were taken out of what all heard, and the rest is left
pub record IsColumn (plan : Plan) (taps : List Tap) (tap from n : ℕ) (d : Tap) (symbols rest : List Sym) : Type 0 where
  pub within : length symbols ≤ n
  pub so_far : symbols ++ heard_from plan (get_or taps tap d) (from + length symbols) (n - length symbols) ≡ heard_from plan (get_or taps tap d) from n
  pub left : rest ≡ rows_of_taps plan taps (from + length symbols) (n - length symbols)

pub no_column : (plan : Plan) (taps : List Tap) (tap from n : ℕ) (d : Tap) (heard : List Sym) → heard ≡ rows_of_taps plan taps from n → IsColumn plan taps tap from n d [] heard
no_column plan taps tap from n d heard is =
    let start : from + 0 ≡ from = omega arith in
    let all : n - 0 ≡ n = omega arith in
    record {
      within = omega arith;
      so_far = ap (λ u. heard_from plan (get_or taps tap d) u (n - 0)) start ∙ ap (heard_from plan (get_or taps tap d) from) all;
      left = is ∙ sym (ap (λ u. rows_of_taps plan taps u (n - 0)) start ∙ ap (rows_of_taps plan taps from) all);
    }

drop_first : (n : ℕ) (xs ys : List Sym) → length xs ≡ n → drop n (xs ++ ys) ≡ ys
drop_first n xs ys e = subst (λ m. drop m (xs ++ ys) ≡ ys) e (drop-append_seam xs ys)

-- one half bit more
pub column_grows : (plan : Plan) (taps : List Tap) (tap from n : ℕ) (d : Tap) (symbols rest after : List Sym) (s : Sym) → tap < length taps → length taps ≤ length rest
    → IsColumn plan taps tap from n d symbols rest → s ≡ get_or rest tap Idle → after ≡ drop (length taps) rest → IsColumn plan taps tap from n d (symbols ++ s ∷ []) after
column_grows plan taps tap from n d symbols rest after s within full h is cut = by_left (n - length symbols) refl
  where
    by_left : (m : ℕ) → n - length symbols ≡ m → IsColumn plan taps tap from n d (symbols ++ s ∷ []) after
    by_left zero e =
        let none : length rest ≡ 0 = ap length (h.left ∙ ap (rows_of_taps plan taps (from + length symbols)) e) in
        absurd (omega (arith, none, full, within))
    by_left (suc m) e =
        let t = from + length symbols in
        let row : List Sym = map (tap_heard plan t) taps in
        let more = rows_of_taps plan taps (t + 1) m in
        let grown : length (symbols ++ s ∷ []) ≡ length symbols + 1 = length-append symbols (s ∷ []) in
        let next : from + length (symbols ++ s ∷ []) ≡ t + 1 = omega (arith, grown) in
        let fewer : n - length (symbols ++ s ∷ []) ≡ m = omega (arith, grown, e) in
        let all : rest ≡ row ++ more = h.left ∙ ap (rows_of_taps plan taps t) e in
        let size : length row ≡ length taps = length-map taps (tap_heard plan t) in
        let own : s ≡ tap_heard plan t (get_or taps tap d) =
        is ∙ ap (λ xs. get_or xs tap Idle) all ∙ get_or_append_left row more Idle tap (omega (arith, within, size)) ∙ get_or-map (tap_heard plan t) taps tap d Idle within in
        record {
          within = omega (arith, grown, e);
          so_far =
              ap (λ u. (symbols ++ s ∷ []) ++ heard_from plan (get_or taps tap d) u (n - length (symbols ++ s ∷ []))) next
              ∙ ap (λ k. (symbols ++ s ∷ []) ++ heard_from plan (get_or taps tap d) (t + 1) k) fewer
              ∙ append_assoc symbols (s ∷ []) (heard_from plan (get_or taps tap d) (t + 1) m)
              ∙ ap (λ x. symbols ++ x ∷ heard_from plan (get_or taps tap d) (t + 1) m) own
              ∙ sym (ap (λ k. symbols ++ heard_from plan (get_or taps tap d) t k) e)
              ∙ h.so_far;
          left =
              cut ∙ ap (drop (length taps)) all ∙ drop_first (length taps) row more size
              ∙ sym (ap (λ u. rows_of_taps plan taps u (n - length (symbols ++ s ∷ []))) next ∙ ap (rows_of_taps plan taps (t + 1)) fewer);
        }

-- with less than a row left, there is none
pub column_done : (plan : Plan) (taps : List Tap) (tap from n : ℕ) (d : Tap) (symbols rest : List Sym) → length rest < length taps → IsColumn plan taps tap from n d symbols rest
    → symbols ≡ heard_from plan (get_or taps tap d) from n
column_done plan taps tap from n d symbols rest short h = by_left (n - length symbols) refl
  where
    append_nil : (xs : List Sym) → xs ≡ xs ++ []
    append_nil [] = refl
    append_nil (x ∷ xs) = ap (λ ys. x ∷ ys) (append_nil xs)

    by_left : (m : ℕ) → n - length symbols ≡ m → symbols ≡ heard_from plan (get_or taps tap d) from n
    by_left zero e = append_nil symbols ∙ sym (ap (λ k. symbols ++ heard_from plan (get_or taps tap d) (from + length symbols) k) e) ∙ h.so_far
    by_left (suc m) e =
        let t = from + length symbols in
        let row : List Sym = map (tap_heard plan t) taps in
        let more = rows_of_taps plan taps (t + 1) m in
        let size : length row ≡ length taps = length-map taps (tap_heard plan t) in
        let full : length rest ≡ length row + length more = ap length (h.left ∙ ap (rows_of_taps plan taps t) e) ∙ length-append row more in
        absurd (omega (arith, full, size, short))

-- one tap more
pub probed_more : (plan : Plan) (from to : ℕ) (taps : List Tap) (lists : List (List Run)) (tap : Tap) (runs : List Run) → AreProbed plan from to taps lists
    → AreRunsOf from (heard_from plan tap from (to - from)) runs → AreProbed plan from to (taps ++ tap ∷ []) (lists ++ runs ∷ [])
probed_more plan from to [] [] tap runs h is = (is, tt)
probed_more plan from to [] (l ∷ ls) tap runs h is = absurd h
probed_more plan from to (x ∷ xs) [] tap runs h is = absurd h
probed_more plan from to (x ∷ xs) (l ∷ ls) tap runs h is = (h.0, probed_more plan from to xs ls tap runs h.1 is)

-- how much so many taps hear in n half bits
pub rows_short : (plan : Plan) (taps : List Tap) (from n : ℕ) → length taps ≤ 16 → length (rows_of_taps plan taps from n) ≤ n * 16
rows_short plan taps from zero few = omega arith
rows_short plan taps from (suc n) few =
    let row : List Sym = map (tap_heard plan from) taps in
    let size : length row ≡ length taps = length-map taps (tap_heard plan from) in
    let both : length (row ++ rows_of_taps plan taps (from + 1) n) ≡ length row + length (rows_of_taps plan taps (from + 1) n) = length-append row (rows_of_taps plan taps (from + 1) n) in
    omega (arith, both, size, few, rows_short plan taps (from + 1) n few)

-- one symbol more, and a row less
pub one_taken : (symbols new rest heard : List Sym) (s : Sym) (taps : ℕ) → new ≡ symbols ++ s ∷ [] → 1 ≤ taps → taps ≤ length rest → length symbols + length rest ≤ length heard
    → length new + length (take (length rest - taps) (drop taps rest)) ≤ length heard
one_taken symbols new rest heard s taps new_is some full h =
    let left : length (drop taps rest) ≡ length rest - taps = length-drop taps rest in
    omega (arith, ap length new_is, length-append symbols (s ∷ []), ap length (take_all (length rest - taps) (drop taps rest) (omega (arith, left))), left, some, full, h)
