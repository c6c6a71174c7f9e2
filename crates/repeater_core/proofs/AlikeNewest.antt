-- The newest rows of a delay line that have signals at the same places.
use Rattle.std.proofs.Common.{◌≡◌, ℕ, suc, ◌+◌, ◌-◌, ◌*◌, ◌<◌, ◌≤◌, Bool, false, cond, eqb, List, [], ◌∷◌, ◌++◌, length, map, take, drop, replicate, get_or, refl, sym, ap, ap₂, subst, ◌∙◌, inl, inr, arith, length-drop, length-take-le, mul-le-mul_right}
use Rattle.std.proofs.lemmas.Bool.{cases_eq, cases_lt}
use Rattle.std.proofs.lemmas.Bool.Decides.{nat_tests}
use Rattle.std.proofs.lemmas.List.{length-map}
use Rattle.std.proofs.lemmas.List.Elements.{All-take, All-drop, recursion_from_All}
use Rattle.std.specs.List.{All, AllByRecursion}
use Rattle.manchester_line.specs.declared.Sym.{Sym}
use Rattle.manchester_line.specs.declared.Sym.TheVariants.{Idle}
use Rattle.manchester_line.specs.Line.{is_signal}
use Rattle.repeater_core.specs.Delayed.{Delayed, moved_on, delayed_row, AreAlikeNewest}
use Rattle.repeater_core.specs.Steady.{texted}
use Rattle.repeater_core.specs.Classes.{line_with}
use Rattle.repeater_core.proofs.DelayRows.{row_on, row_last, moved_len}

-- a line of so many rows and ports
pub record Lined (ports delay : ℕ) (d : Delayed) : Type 0 where
  pub ports_are : d.ports ≡ ports
  pub delay_is : d.delay ≡ delay
  pub rows_len : length d.rows ≡ delay * ports

pub lined_on : (p delay : ℕ) (d : Delayed) (decided : List Sym) → 0 < delay → Lined p delay d → length decided ≡ p → Lined p delay (moved_on decided d)
lined_on p delay d decided some h n = record {
  ports_are = h.ports_are;
  delay_is = h.delay_is;
  rows_len = ap (λ q. length (drop q d.rows ++ decided)) h.ports_are ∙ moved_len p delay d.rows decided some h.rows_len n;
}

pub texted_len : (flags : List Bool) (text : Sym) → length (texted flags text) ≡ length flags
texted_len flags text = length-map flags _

pub lined_with : (p delay : ℕ) (flags : List Bool) (texts : List Sym) (d : Delayed) → 0 < delay → Lined p delay d → length flags ≡ p → Lined p delay (line_with flags texts d)
lined_with p delay flags [] d some h n = h
lined_with p delay flags (t ∷ texts) d some h n = lined_with p delay flags texts (moved_on (texted flags t) d) some (lined_on p delay d (texted flags t) some h (texted_len flags t ∙ n)) n

-- the newest n rows have their signals there
abbrev pub NewestAre : List Bool → ℕ → Delayed → Type 0
NewestAre flags n d = (k : ℕ) → k < d.delay → d.delay ≤ k + n → map is_signal (delayed_row k d) ≡ flags

newest_more : (flags : List Bool) (n : ℕ) (d : Delayed) (decided : List Sym) → 0 < d.delay → length d.rows ≡ d.delay * d.ports → length decided ≡ d.ports → map is_signal decided ≡ flags
    → NewestAre flags n d → NewestAre flags (suc n) (moved_on decided d)
newest_more flags n d decided some len l e h = λ k b c. elim (cases_lt (suc k) d.delay) [
  | inl m ↦ ap (map is_signal) (row_on (suc k) k d.ports d.delay d.rows decided len (omega arith) (omega arith)) ∙ h (suc k) m (omega arith)
  | inr m ↦
      let last : k ≡ d.delay - 1 = omega arith in
      ap (λ i. map is_signal (take d.ports (drop (i * d.ports) (drop d.ports d.rows ++ decided)))) last ∙ ap (map is_signal) (row_last d.ports d.delay d.rows decided some len l) ∙ e
]

-- each of these texts leaves the signals where they are
abbrev pub KeepSignals : List Bool → List Sym → Type 0
KeepSignals flags texts = (k : ℕ) → k < length texts → map is_signal (texted flags (get_or texts k Idle)) ≡ flags

pub newest_with : (flags : List Bool) (n : ℕ) (texts : List Sym) (d : Delayed) → 0 < d.delay → length d.rows ≡ d.delay * d.ports → length flags ≡ d.ports → KeepSignals flags texts
    → NewestAre flags n d → NewestAre flags (n + length texts) (line_with flags texts d)
newest_with flags n [] d some len l a h = let none : n ≡ n + 0 = omega arith in subst (λ m. NewestAre flags m d) none h
newest_with flags n (t ∷ texts) d some len l a h =
    let more : suc n + length texts ≡ n + suc (length texts) = omega arith in
    let row = texted_len flags t ∙ l in
    subst (λ m. NewestAre flags m (line_with flags texts (moved_on (texted flags t) d))) more
    (newest_with flags (suc n) texts (moved_on (texted flags t) d) some (moved_len d.ports d.delay d.rows (texted flags t) some len row) l (λ k b. a (suc k) (omega arith))
    (newest_more flags n d (texted flags t) some len row (a 0 (omega arith)) h))

pub newest_same : (flags : List Bool) (n m : ℕ) (d : Delayed) → m ≤ n → NewestAre flags n d → AreAlikeNewest m d
newest_same flags n m d l h = λ k b c. h k b (omega arith) ∙ sym (h (d.delay - 1) (omega arith) (omega arith))

-- rows of Idle
idle_flags : (xs : List Sym) → AllByRecursion (λ s. s ≡ Idle) xs → map is_signal xs ≡ replicate (length xs) false
idle_flags [] h = refl
idle_flags (x ∷ xs) h = ap₂ ◌∷◌ (ap is_signal h.0) (idle_flags xs h.1)

row_within : (k p delay : ℕ) → k < delay → k * p + p ≤ delay * p
row_within k p delay l = let m : (k + 1) * p ≤ delay * p = mul-le-mul_right p (let a : k + 1 ≤ delay = omega arith in a) in omega arith

idle_row : (k : ℕ) (d : Delayed) → All (λ s. s ≡ Idle) d.rows → length d.rows ≡ d.delay * d.ports → k < d.delay → map is_signal (delayed_row k d) ≡ replicate d.ports false
idle_row k d h len l =
    let room = row_within k d.ports d.delay l in
    let a = length-drop (k * d.ports) d.rows in
    let size : length (delayed_row k d) ≡ d.ports = length-take-le d.ports (drop (k * d.ports) d.rows) (omega arith) in
    idle_flags (delayed_row k d) (recursion_from_All (λ s. s ≡ Idle) (delayed_row k d) (All-take (λ s. s ≡ Idle) d.ports (drop (k * d.ports) d.rows) (All-drop (λ s. s ≡ Idle) (k * d.ports) d.rows h)))
    ∙ ap (λ n. replicate n false) size

pub idle_newest : (n : ℕ) (d : Delayed) → All (λ s. s ≡ Idle) d.rows → length d.rows ≡ d.delay * d.ports → AreAlikeNewest n d
idle_newest n d h len = λ k b c. idle_row k d h len b ∙ sym (idle_row (d.delay - 1) d h len (omega arith))

-- what is known of the newest rows where only the oldest ones may have a signal
pub known_newest : (p delay filled alike : ℕ) (rows : List Sym) → length rows ≡ delay * p → All (λ s. s ≡ Idle) (drop (filled * p) rows) → alike ≡ cond (eqb filled 0) delay 0
    → (alike ≤ delay) × AreAlikeNewest alike (record { ports = p; delay = delay; rows = rows })
known_newest p delay filled alike rows len h e = elim (cases_eq filled 0) [
  | inl z ↦
      let all : alike ≡ delay = grind (arith, nat_tests) in
      let zero_rows : 0 * p ≡ 0 = omega arith in
      let none : filled * p ≡ 0 = ap (λ k. k * p) z ∙ zero_rows in
      (omega arith, idle_newest alike (record { ports = p; delay = delay; rows = rows }) (subst (λ k. All (λ s. s ≡ Idle) (drop k rows)) none h) len)
  | inr nz ↦
      let none : alike ≡ 0 = grind (arith, nat_tests) in
      (omega arith, λ k b c. absurd (omega arith))
]
