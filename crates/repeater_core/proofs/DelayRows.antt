-- The rows of a delay line once another is put in.
use Rattle.std.proofs.Common.{◌≡◌, ℕ, suc, ◌+◌, ◌-◌, ◌*◌, ◌<◌, ◌≤◌, Bool, List, ◌++◌, length, map, take, drop, sym, ap, ◌∙◌, inl, inr, arith, length-drop, length-append, mul-le-mul_right}
use Rattle.std.proofs.lemmas.Bool.{cases_lt}
use Rattle.std.proofs.lemmas.List.{take_all, drop-drop, take-append-le, drop-append-le}
use Rattle.std.proofs.Math.Seq.{drop-append-add}
use Rattle.manchester_line.specs.declared.Sym.{Sym}
use Rattle.manchester_line.specs.Line.{is_signal}
use Rattle.repeater_core.specs.Delayed.{Delayed, moved_on, delayed_row}

pub row_on : (n k p delay : ℕ) (rows decided : List Sym) → length rows ≡ delay * p → k < n → suc n ≤ delay → take p (drop (k * p) (drop p rows ++ decided)) ≡ take p (drop (suc k * p) rows)
row_on n k p delay rows decided len l m =
    let room : (k + 2) * p ≤ delay * p = mul-le-mul_right p (let a : k + 2 ≤ delay = omega arith in a) in
    let a = length-drop p rows in
    let b = length-drop (k * p) (drop p rows) in
    let next : p + k * p ≡ suc k * p = omega arith in
    ap (take p) (drop-append-le (k * p) (drop p rows) decided (omega arith))
    ∙ take-append-le p (drop (k * p) (drop p rows)) decided (omega arith)
    ∙ ap (take p) (drop-drop (k * p) p rows ∙ ap (λ i. drop i rows) next)

-- the newest row is the one that was put in last
pub row_last : (p delay : ℕ) (rows decided : List Sym) → 0 < delay → length rows ≡ delay * p → length decided ≡ p → take p (drop ((delay - 1) * p) (drop p rows ++ decided)) ≡ decided
row_last p delay rows decided some len n =
    let one : delay ≡ delay - 1 + 1 = omega arith in
    let more : (delay - 1) * p + p ≡ (delay - 1 + 1) * p = omega arith in
    let less : (delay - 1) * p + p ≡ delay * p = more ∙ sym (ap (λ k. k * p) one) in
    let b = length-drop p rows in
    let at : (delay - 1) * p ≡ length (drop p rows) + 0 = omega arith in
    ap (λ k. take p (drop k (drop p rows ++ decided))) at ∙ ap (take p) (drop-append-add (drop p rows) decided 0) ∙ take_all p decided (omega arith)

one_row : (p delay : ℕ) → 0 < delay → p ≤ delay * p
one_row p delay some = let m : 1 * p ≤ delay * p = mul-le-mul_right p (let a : 1 ≤ delay = omega arith in a) in omega arith

pub moved_len : (p delay : ℕ) (rows decided : List Sym) → 0 < delay → length rows ≡ delay * p → length decided ≡ p → length (drop p rows ++ decided) ≡ delay * p
moved_len p delay rows decided some len n =
    let a = length-append (drop p rows) decided in
    let b = length-drop p rows in
    let c = one_row p delay some in omega arith

-- the oldest n rows, or all if they are fewer, have their signals there
abbrev pub RowsAre : List Bool → ℕ → Delayed → Type 0
RowsAre flags n d = (k : ℕ) → k < n → k < d.delay → map is_signal (delayed_row k d) ≡ flags

pub rows_on : (flags : List Bool) (n : ℕ) (d : Delayed) (decided : List Sym) → 0 < d.delay → length d.rows ≡ d.delay * d.ports → length decided ≡ d.ports → (d.delay < suc n → map is_signal decided ≡ flags)
    → RowsAre flags (suc n) d → RowsAre flags n (moved_on decided d)
rows_on flags n d decided some len l e h = λ k b c. elim (cases_lt (suc k) d.delay) [
  | inl m ↦ ap (map is_signal) (row_on (suc k) k d.ports d.delay d.rows decided len (omega arith) (omega arith)) ∙ h (suc k) (omega arith) m
  | inr m ↦
      let last : k ≡ d.delay - 1 = omega arith in
      ap (λ i. map is_signal (take d.ports (drop (i * d.ports) (drop d.ports d.rows ++ decided)))) last ∙ ap (map is_signal) (row_last d.ports d.delay d.rows decided some len l) ∙ e (omega arith)
]
