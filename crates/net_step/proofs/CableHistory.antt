-- What a tap was told, after each call of a cable.
use Rattle.std.proofs.Common.{◌≡◌, ◌≢◌, ℕ, suc, ◌+◌, ◌-◌, ◌*◌, ◌<◌, ◌≤◌, inl, inr, List, [], ◌∷◌, ◌++◌, length, get_or, take, set, replicate, refl, ap, ◌∙◌, arith, length-set, length-append, length-take-le, get_or-set_same, get_or-set_other, get_or-take}
use Rattle.std.proofs.lemmas.List.{get_or-append_right, get_or_append_left, get_or-replicate, length-replicate}
use Rattle.std.proofs.lemmas.Bool.{cases_eq}
use Rattle.manchester_line.specs.declared.Sym.{Sym}
use Rattle.manchester_line.specs.declared.Sym.TheVariants.{Idle}
use Rattle.cable_segment.specs.Cable.{CableHistory, told_at, told, advanced}
use Rattle.net_step.specs.Wires.{told_from}

-- an earlier half bit stays
pub told_at-told_earlier : (c : CableHistory) (tap : ℕ) (s : Sym) (b q : ℕ) → tap < length c.positions → told_at (told c c.ahead tap s) (b + 1) q ≡ told_at c (b + 1) q
told_at-told_earlier c tap s b q h =
    get_or-set_other c.rows (c.ahead * length c.positions + tap) ((c.ahead + (b + 1)) * length c.positions + q) s Idle (λ e. omega (arith, e))

pub told_at-told_other : (c : CableHistory) (tap : ℕ) (s : Sym) (q : ℕ) → q ≢ tap → told_at (told c c.ahead tap s) 0 q ≡ told_at c 0 q
told_at-told_other c tap s q h =
    get_or-set_other c.rows (c.ahead * length c.positions + tap) ((c.ahead + 0) * length c.positions + q) s Idle (λ e. h (omega (arith, e)))

pub told_at-told_same : (c : CableHistory) (tap : ℕ) (s : Sym) → c.ahead * length c.positions + tap < length c.rows → told_at (told c c.ahead tap s) 0 tap ≡ s
told_at-told_same c tap s h =
    (let z : c.ahead + 0 ≡ c.ahead = omega arith in ap (λ i. get_or (set c.rows (c.ahead * length c.positions + tap) s) (i * length c.positions + tap) Idle) z) ∙ get_or-set_same c.rows (c.ahead * length c.positions + tap) s Idle h

-- the same after a whole row, whose first tap is k
pub told_at-told_from_earlier : (row : List Sym) (c : CableHistory) (k b q : ℕ) → k + length row ≤ length c.positions → told_at (told_from c k row) (b + 1) q ≡ told_at c (b + 1) q
told_at-told_from_earlier [] c k b q h = refl
told_at-told_from_earlier (s ∷ row) c k b q h =
    told_at-told_from_earlier row (told c c.ahead k s) (k + 1) b q (omega arith) ∙ told_at-told_earlier c k s b q (omega arith)

told_at-told_from_below : (row : List Sym) (c : CableHistory) (k q : ℕ) → q < k → told_at (told_from c k row) 0 q ≡ told_at c 0 q
told_at-told_from_below [] c k q h = refl
told_at-told_from_below (s ∷ row) c k q h =
    told_at-told_from_below row (told c c.ahead k s) (k + 1) q (omega arith) ∙ told_at-told_other c k s q (omega arith)

pub told_at-told_from : (row : List Sym) (c : CableHistory) (k q : ℕ) → k ≤ q → q < k + length row → c.ahead * length c.positions + q < length c.rows → told_at (told_from c k row) 0 q ≡ get_or row (q - k) Idle
told_at-told_from [] c k q h l m = absurd (omega arith)
told_at-told_from (s ∷ row) c k q h l m = elim (cases_eq q k) [
  | inl e ↦ told_at-told_from_below row (told c c.ahead k s) (k + 1) q (omega arith) ∙ ap (told_at (told c c.ahead k s) 0) e ∙ told_at-told_same c k s (omega arith) ∙ (let z : 0 ≡ q - k = omega arith in ap (λ i. get_or (s ∷ row) i Idle) z)
  | inr ne ↦ told_at-told_from row (told c c.ahead k s) (k + 1) q (omega arith) (omega arith) (omega (arith, length-set c.rows (c.ahead * length c.positions + k) s)) ∙ (let e : suc (q - (k + 1)) ≡ q - k = omega arith in ap (λ i. get_or (s ∷ row) i Idle) e)
]

-- one half bit on
pub told_at-advanced : (c : CableHistory) (b q : ℕ) → (c.ahead + (b + 1)) * length c.positions + q < length c.rows → told_at (advanced c) (b + 1) q ≡ told_at c b q
told_at-advanced c b q h =
    let n = length c.positions in
    let front = replicate n Idle in
    get_or-take (length c.rows) (front ++ c.rows) ((c.ahead + (b + 1)) * n + q) Idle h
    ∙ get_or-append_right front c.rows n ((c.ahead + (b + 1)) * n + q) Idle (length-replicate n Idle) (omega arith)
    ∙ (let e : ((c.ahead + (b + 1)) * n + q) - n ≡ (c.ahead + b) * n + q = omega arith in ap (λ i. get_or c.rows i Idle) e)

pub told_at-advanced_now : (c : CableHistory) (q : ℕ) → c.ahead ≡ 0 → q < length c.positions → q < length c.rows → told_at (advanced c) 0 q ≡ Idle
told_at-advanced_now c q z h l =
    let n = length c.positions in
    let front = replicate n Idle in
    ap (λ a. get_or (take (length c.rows) (front ++ c.rows)) ((a + 0) * n + q) Idle) z
    ∙ (let e : (0 + 0) * n + q ≡ q = omega arith in ap (λ i. get_or (take (length c.rows) (front ++ c.rows)) i Idle) e)
    ∙ get_or-take (length c.rows) (front ++ c.rows) q Idle l
    ∙ get_or_append_left front c.rows Idle q (omega (arith, length-replicate n Idle))
    ∙ get_or-replicate n q Idle Idle h

pub positions-told_from : (row : List Sym) (c : CableHistory) (k : ℕ) → (told_from c k row).positions ≡ c.positions
positions-told_from [] c k = refl
positions-told_from (s ∷ row) c k = positions-told_from row (told c c.ahead k s) (k + 1)

pub ahead-told_from : (row : List Sym) (c : CableHistory) (k : ℕ) → (told_from c k row).ahead ≡ c.ahead
ahead-told_from [] c k = refl
ahead-told_from (s ∷ row) c k = ahead-told_from row (told c c.ahead k s) (k + 1)

pub length-rows-told_from : (row : List Sym) (c : CableHistory) (k : ℕ) → length (told_from c k row).rows ≡ length c.rows
length-rows-told_from [] c k = refl
length-rows-told_from (s ∷ row) c k = length-rows-told_from row (told c c.ahead k s) (k + 1) ∙ length-set c.rows (c.ahead * length c.positions + k) s

pub length-rows-advanced : (c : CableHistory) → length (advanced c).rows ≡ length c.rows
length-rows-advanced c = length-take-le (length c.rows) _ (omega (arith, length-append (replicate (length c.positions) Idle) c.rows))
