-- Rows of what the ports hear, by the classes of their symbols.
use Rattle.std.proofs.Common.{◌≡◌, ◌≢◌, ℕ, zero, suc, ◌+◌, ◌<◌, ◌≤◌, List, [], ◌∷◌, map, take, drop, length, get_or, length-take-le, length-drop, get_or-take, get_or-drop, replicate, refl, sym, subst, ap, ap₂, inl, inr, ◌∙◌, arith}
use Rattle.std.specs.List.{AllByRecursion}
use Rattle.std.proofs.lemmas.Bool.{cases_lt}
use Rattle.std.proofs.lemmas.List.{length-map, get_or-map, get_or_default, get_or_past, same_lists}
use Rattle.manchester_line.specs.declared.Sym.{Sym}
use Rattle.manchester_line.specs.declared.Sym.TheVariants.{Idle}
use Rattle.repeater_core.specs.declared.modes.Mode.{Mode}
use Rattle.repeater_core.specs.declared.modes.Mode.TheVariants as mode
use Rattle.repeater_core.specs.Classes.{class_of, AreHeardAs, IsOfSource, IsSource}
use Rattle.net_parts.specs.declared.parcel.Parcel.{Parcel}
use Rattle.net_parts.specs.Machines.{span}
use Rattle.net_parts.proofs.RepeaterSteps.{length-span, get_or-span}
use Rattle.repeater_engine.specs.KeptRepeaters.{row_brought}
use Rattle.repeater_engine.specs.LeapedHalfBits.{rows_brought, AreOfClasses}

-- what holds of each of so many numbers holds of a span
all_of_span : {X : Type 0} (P : X → Type 0) (f : ℕ → X) (k m : ℕ) → ((j : ℕ) → j < m → P (f (k + j))) → AllByRecursion P (span f k m)
all_of_span P f k zero h = tt
all_of_span P f k (suc m) h =
    let first : k + 0 ≡ k = omega arith in
    (subst_first first (h 0 (omega arith)), all_of_span P f (suc k) m (λ j l. let next : k + suc j ≡ suc k + j = omega arith in subst_first next (h (suc j) (omega arith))))
  where
    subst_first : {a b : ℕ} → a ≡ b → P (f a) → P (f b)
    subst_first e p = subst (λ n. P (f n)) e p

at_span : {X : Type 0} (P : X → Type 0) (f : ℕ → X) (k m j : ℕ) → j < m → AllByRecursion P (span f k m) → P (f (k + j))
at_span P f k zero j l h = absurd (omega arith)
at_span P f k (suc m) zero l h = let first : k ≡ k + 0 = omega arith in subst (λ n. P (f n)) first h.0
at_span P f k (suc m) (suc j) l h = let next : suc k + j ≡ k + suc j = omega arith in subst (λ n. P (f n)) next (at_span P f (suc k) m j (omega arith) h.1)

pub row_classes : (heard : List Sym) (parcels : List Parcel) (k : ℕ) → length heard ≡ length parcels →
    ((p : ℕ) (d : Parcel) → p < length parcels → class_of (get_or (get_or parcels p d).symbols k Idle) ≡ class_of (get_or heard p Idle)) → map class_of (row_brought k parcels) ≡ map class_of heard
row_classes [] [] k e h = refl
row_classes [] (x ∷ xs) k e h = absurd (omega arith)
row_classes (s ∷ ss) [] k e h = absurd (omega arith)
row_classes (s ∷ ss) (x ∷ xs) k e h = ap₂ ◌∷◌ (h 0 x (omega arith)) (row_classes ss xs k (omega arith) (λ p d l. h (suc p) d (omega arith)))

pub class_at : (heard : List Sym) (parcels : List Parcel) (k p : ℕ) (d : Parcel) → p < length parcels → length heard ≡ length parcels → map class_of (row_brought k parcels) ≡ map class_of heard →
    class_of (get_or (get_or parcels p d).symbols k Idle) ≡ class_of (get_or heard p Idle)
class_at heard parcels k p d l e same =
    ap class_of (sym (get_or-map (λ (x : Parcel). get_or x.symbols k Idle) parcels p d Idle l))
    ∙ sym (get_or-map class_of (row_brought k parcels) p Idle Idle (omega (arith, length-map parcels (λ (x : Parcel). get_or x.symbols k Idle))))
    ∙ ap (λ xs. get_or xs p Idle) same
    ∙ get_or-map class_of heard p Idle Idle (omega arith)

-- where they are of the same classes, so are the two symbols of a port
pub one_class : (heard : List Sym) (parcels : List Parcel) (k p : ℕ) (parcel : Parcel) (symbols : List Sym) (s t a b : Sym) → p < length parcels → length heard ≡ length parcels →
    parcel ≡ get_or parcels p parcel → k < length (get_or parcels p parcel).symbols → symbols ≡ parcel.symbols → a ≡ class_of (get_or symbols k s) → b ≡ class_of (get_or heard p t) →
    map class_of (row_brought k parcels) ≡ map class_of heard → a ≡ b
one_class heard parcels k p parcel symbols s t a b l e is long cut first second same =
    let there = ap (λ (x : Parcel). x.symbols) is in
    let at : p < length heard = omega arith in
    first ∙ ap (λ xs. class_of (get_or xs k s)) (cut ∙ there) ∙ ap class_of (get_or_default (get_or parcels p parcel).symbols k s Idle long)
    ∙ class_at heard parcels k p parcel l e same ∙ sym (second ∙ ap class_of (get_or_default heard p t Idle at))

-- rows are of the classes of another where each port's symbols are
pub of_classes : (heard : List Sym) (parcels : List Parcel) (k m : ℕ) → length heard ≡ length parcels →
    ((p j : ℕ) (d : Parcel) → p < length parcels → j < m → class_of (get_or (get_or parcels p d).symbols (k + j) Idle) ≡ class_of (get_or heard p Idle)) → AreOfClasses heard (rows_brought k m parcels)
of_classes heard parcels k m e h =
    all_of_span (λ row. map class_of row ≡ map class_of heard) (λ j. row_brought j parcels) k m (λ j l. row_classes heard parcels (k + j) e (λ p d i. h p j d i l))

pub class_kept : (heard : List Sym) (parcels : List Parcel) (k m p j : ℕ) (d : Parcel) → length heard ≡ length parcels → p < length parcels → j < m → AreOfClasses heard (rows_brought k m parcels) →
    class_of (get_or (get_or parcels p d).symbols (k + j) Idle) ≡ class_of (get_or heard p Idle)
class_kept heard parcels k m p j d e i l h =
    class_at heard parcels (k + j) p d i e (at_span (λ row. map class_of row ≡ map class_of heard) (λ j. row_brought j parcels) k m j l h)

-- each row has a symbol for each port
pub rows_wide : (parcels : List Parcel) (ports k m : ℕ) → length parcels ≡ ports → AllByRecursion (λ row. length row ≡ ports) (rows_brought k m parcels)
rows_wide parcels ports k m e =
    all_of_span (λ row. length row ≡ ports) (λ j. row_brought j parcels) k m (λ j l. length-map parcels (λ (x : Parcel). get_or x.symbols (k + j) Idle) ∙ e)

column_span : (f : ℕ → List Sym) (n k m : ℕ) → map (λ row. get_or row n Idle) (span f k m) ≡ span (λ j. get_or (f j) n Idle) k m
column_span f n k zero = refl
column_span f n k (suc m) = ap (λ ys. get_or (f k) n Idle ∷ ys) (column_span f n (suc k) m)

-- what the parcel of port n brings
pub column_of : (parcels : List Parcel) (n k m : ℕ) (d : Parcel) → n < length parcels → k + m ≤ length (get_or parcels n d).symbols →
    map (λ row. get_or row n Idle) (rows_brought k m parcels) ≡ take m (drop k (get_or parcels n d).symbols)
column_of parcels n k m d l long =
    let ss = (get_or parcels n d).symbols in
    let f : ℕ → List Sym = λ j. row_brought j parcels in
    let rest = length-drop k ss in
    let size : length (take m (drop k ss)) ≡ m = length-take-le m (drop k ss) (omega (arith, rest)) in
    let wide : length (map (λ row. get_or row n Idle) (span f k m)) ≡ m = length-map (span f k m) (λ row. get_or row n Idle) ∙ length-span f k m in
    same_lists (map (λ row. get_or row n Idle) (span f k m)) (take m (drop k ss)) (wide ∙ sym size) (λ j e i.
    let below : j < m = omega (arith, i, wide) in
    ap (λ ys. get_or ys j e) (column_span f n k m)
    ∙ get_or-span (λ j. get_or (f j) n Idle) k m j e below
    ∙ get_or-map (λ (x : Parcel). get_or x.symbols (k + j) Idle) parcels n d Idle l
    ∙ sym (get_or-take m (drop k ss) j e below ∙ get_or-drop k ss j e ∙ reads ss (k + j) e (omega arith)))
  where
    reads : (ss : List Sym) (i : ℕ) (e : Sym) → i < length ss → get_or ss i e ≡ get_or ss i Idle
    reads ss i e h = get_or_default ss i e Idle h

past_row : (xs : List Sym) (n : ℕ) → length xs ≤ n → get_or xs n Idle ≡ Idle
past_row xs n h = get_or_past xs n Idle h

-- no parcel brings anything for a port that there isn't
pub column_past : (parcels : List Parcel) (n k m : ℕ) → length parcels ≤ n → map (λ row. get_or row n Idle) (rows_brought k m parcels) ≡ replicate m Idle
column_past parcels n k zero l = refl
column_past parcels n k (suc m) l =
    let none : get_or (row_brought k parcels) n Idle ≡ Idle = past_row (row_brought k parcels) n (omega (arith, length-map parcels (λ (x : Parcel). get_or x.symbols k Idle))) in
    ap₂ ◌∷◌ none (column_past parcels n (suc k) m l)

source_class : (heard : List Sym) (n : ℕ) (rows : List (List Sym)) → AreOfClasses heard rows → AllByRecursion (λ s. class_of s ≡ class_of (get_or heard n Idle)) (map (λ row. get_or row n Idle) rows)
source_class heard n [] h = tt
source_class heard n (row ∷ rest) h = (at heard row n h.0, source_class heard n rest h.1)
  where
    at : (heard row : List Sym) (n : ℕ) → map class_of row ≡ map class_of heard → class_of (get_or row n Idle) ≡ class_of (get_or heard n Idle)
    at [] [] n e = refl
    at [] (s ∷ ss) n e = absurd (omega (arith, ap length e))
    at (h ∷ hs) [] n e = absurd (omega (arith, ap length e))
    at (h ∷ hs) (s ∷ ss) zero e = ap (λ xs. get_or xs 0 Idle) e
    at (h ∷ hs) (s ∷ ss) (suc n) e = at hs ss n (ap (drop 1) e)

-- what the port that a mode repeats hears in such half bits is of the class of what it hears in the first
pub of_source : (m : Mode) (heard text : List Sym) (rows : List (List Sym)) → AreOfClasses heard rows → IsSource m text rows → IsOfSource m heard text
of_source mode.Idle heard text rows h s = tt
of_source (mode.Repeat n i) heard text rows h s = subst (λ xs. AllByRecursion (λ s. class_of s ≡ class_of (get_or heard n Idle)) xs) s (source_class heard n rows h)
of_source (mode.Extend n i j) heard text rows h s = tt
of_source (mode.RxClash n i) heard text rows h s = tt
of_source (mode.TxClash i) heard text rows h s = tt
of_source (mode.OnePort n i) heard text rows h s = tt

pub heard_as : (m : Mode) (heard text : List Sym) (parcels : List Parcel) (k n : ℕ) → length text ≡ n → AreOfClasses heard (rows_brought k n parcels) → IsSource m text (rows_brought k n parcels) →
    AreHeardAs heard m text (rows_brought k n parcels)
heard_as m heard text parcels k n e h s = record {
  count = length-span (λ j. row_brought j parcels) k n ∙ sym e;
  classes = h;
  source = s;
}

-- the ports below p keep their classes for so long, and one of them no longer, where that is less than may be
pub record KeepFor (parcels : List Parcel) (heard : List Sym) (k most least p : ℕ) : Type 0 where
  pub within : least ≤ most
  pub alike : (q j : ℕ) (d : Parcel) → q < p → j < least → class_of (get_or (get_or parcels q d).symbols (k + j) Idle) ≡ class_of (get_or heard q Idle)
  pub ends : least < most → (q : ℕ) × (q < p) × ((d : Parcel) → class_of (get_or (get_or parcels q d).symbols (k + least) Idle) ≢ class_of (get_or heard q Idle))

module _ (parcels : List Parcel) (heard symbols : List Sym) (k most least p n : ℕ) (parcel : Parcel) (first : Sym)
    (in_it : p < length parcels) (is : parcel ≡ get_or parcels p parcel) (cut : symbols ≡ take least (drop k parcel.symbols)) (long : k + least ≤ length parcel.symbols) (first_is : first ≡ get_or heard p Idle)
    (within : n ≤ length symbols) (alike : (j : ℕ) → j < n → class_of (get_or symbols j Idle) ≡ class_of first) (differs : n < length symbols → class_of (get_or symbols n Idle) ≢ class_of first) where
  size : length symbols ≡ least
  size = let rest = length-drop k parcel.symbols in ap length cut ∙ length-take-le least (drop k parcel.symbols) (omega (arith, rest))

  symbol_is : (q j : ℕ) (d : Parcel) → q ≡ p → j < least → get_or (get_or parcels q d).symbols (k + j) Idle ≡ get_or symbols j Idle
  symbol_is q j d e l =
      ap (λ i. get_or (get_or parcels i d).symbols (k + j) Idle) e
      ∙ ap (λ (x : Parcel). get_or x.symbols (k + j) Idle) (get_or_default parcels p d parcel in_it ∙ sym is)
      ∙ sym (ap (λ xs. get_or xs j Idle) cut ∙ get_or-take least (drop k parcel.symbols) j Idle l ∙ get_or-drop k parcel.symbols j Idle)

  heard_is : (q : ℕ) → q ≡ p → class_of first ≡ class_of (get_or heard q Idle)
  heard_is q e = ap class_of (first_is ∙ ap (λ i. get_or heard i Idle) (sym e))

  -- one port more
  pub next_port : KeepFor parcels heard k most least p → KeepFor parcels heard k most n (p + 1)
  next_port kept = record {
    within = omega (arith, kept.within, size, within);
    alike = λ q j d l i. elim (cases_lt q p) [
      | inl m ↦ kept.alike q j d m (omega (arith, i, size, within))
      | inr m ↦ let same : q ≡ p = omega arith in ap class_of (symbol_is q j d same (omega (arith, i, size, within))) ∙ alike j i ∙ heard_is q same
    ];
    ends = λ less. elim (cases_lt n least) [
      | inl m ↦ (p, omega arith, λ d e. differs (omega (arith, m, size)) (ap class_of (sym (symbol_is p n d refl m)) ∙ e ∙ sym (heard_is p refl)))
      | inr m ↦
          let same : n ≡ least = omega (arith, m, size, within) in
          let end = kept.ends (omega arith) in
          (end.0, omega (arith, end.1), λ d e. end.2 d (ap (λ i. class_of (get_or (get_or parcels end.0 d).symbols (k + i) Idle)) (sym same) ∙ e))
    ];
  }
