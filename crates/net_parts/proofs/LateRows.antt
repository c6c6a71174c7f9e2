-- Rows of symbols, and what they say of absolute time.
use Rattle.std.proofs.Common.{◌≡◌, ℕ, zero, suc, ◌+◌, ◌-◌, ◌<◌, ◌≤◌, cond, leb, ltb, true, false, List, [], ◌∷◌, map, length, get_or, inl, inr, refl, sym, ap, ap₂, ◌∙◌, arith}
use Rattle.std.proofs.lemmas.List.{get_or-map}
use Rattle.std.proofs.lemmas.Bool.{cases_lt}
use Rattle.std.proofs.lemmas.Bool.Decides.{nat_tests}
use Rattle.manchester_line.specs.declared.Sym.{Sym}
use Rattle.manchester_line.specs.declared.Sym.TheVariants.{Idle}
use Rattle.network.specs.Net.{emitted_before}
use Rattle.network.specs.Times.{earlier}
use Rattle.net_parts.specs.Machines.{span, rows_before}

pub if_true : {m n : ℕ} (x y : Sym) → m ≤ n → cond (leb m n) x y ≡ x
if_true x y h = grind (arith, nat_tests)

pub if_false : {m n : ℕ} (x y : Sym) → n < m → cond (leb m n) x y ≡ y
if_false x y h = grind (arith, nat_tests)

pub map-map : {X Y Z : Type 0} → (f : Y → Z) (g : X → Y) (xs : List X) → map f (map g xs) ≡ map (λ x. f (g x)) xs
map-map f g [] = refl
map-map f g (x ∷ xs) = ap (λ ys. f (g x) ∷ ys) (map-map f g xs)

pub map_alike : {Y : Type 0} → (f g : ℕ → Y) (xs : List ℕ) → ((i : ℕ) → i < length xs → f (get_or xs i 0) ≡ g (get_or xs i 0)) → map f xs ≡ map g xs
map_alike f g [] e = refl
map_alike f g (x ∷ xs) e = ap₂ ◌∷◌ (e 0 (omega arith)) (map_alike f g xs (λ i l. e (suc i) (omega arith)))

-- a list, element by element
pub span_of : {X : Type 0} → (g : ℕ → X) (h : ℕ → X) (k : ℕ) (es : List ℕ) → ((p m : ℕ) → p < length es → m ≡ k + p → g m ≡ h (get_or es p 0)) → span g k (length es) ≡ map h es
span_of g h k [] e = refl
span_of g h k (x ∷ es) e = ap₂ ◌∷◌ (e 0 k (omega arith) (omega arith)) (span_of g h (suc k) es (λ p m l is. e (suc p) m (omega arith) (omega arith)))

-- what was so many half bits ago, a half bit later
earlier_on : (f : ℕ → Sym) (t b : ℕ) → earlier f t (suc b) ≡ earlier f (suc t) (suc (suc b))
earlier_on f t b = elim (cases_lt b t) [
  | inl within ↦ if_true {m = suc b} {n = t} _ _ (omega arith) ∙ (let e : t - suc b ≡ suc t - suc (suc b) = omega arith in ap f e) ∙ sym (if_true {m = suc (suc b)} {n = suc t} _ _ (omega arith))
  | inr past ↦ if_false {m = suc b} {n = t} _ _ (omega arith) ∙ sym (if_false {m = suc (suc b)} {n = suc t} _ _ (omega arith))
]

before_at : (f : ℕ → ℕ → Sym) (ks : List ℕ) (t b c : ℕ) → c < length ks → emitted_before (rows_before (λ u. map (λ k. f k u) ks) t) (suc b) c ≡ earlier (f (get_or ks c 0)) t (suc b)
before_at f ks zero b c l = sym (if_false {m = suc b} {n = 0} _ _ (omega arith))
before_at f ks (suc t) zero c l =
    get_or-map (λ k. f k t) ks c 0 Idle l ∙ (let e : t ≡ suc t - 1 = omega arith in ap (f (get_or ks c 0)) e) ∙ sym (if_true {m = 1} {n = suc t} _ _ (omega arith))
before_at f ks (suc t) (suc b) c l = before_at f ks t b c l ∙ earlier_on (f (get_or ks c 0)) t b

-- the rows below t of what f says, in absolute time
pub before_is : (f : ℕ → ℕ → Sym) (ks : List ℕ) (t back c : ℕ) → 1 ≤ back → c < length ks → emitted_before (rows_before (λ u. map (λ k. f k u) ks) t) back c ≡ earlier (f (get_or ks c 0)) t back
before_is f ks t zero c h l = absurd (omega arith)
before_is f ks t (suc b) c h l = before_at f ks t b c l

-- what is said alike of each half bit
pub earlier_alike : (f g : ℕ → Sym) (t back : ℕ) → ((v : ℕ) → f v ≡ g v) → earlier f t back ≡ earlier g t back
earlier_alike f g t back e = ap (λ s. cond (leb back t) s Idle) (e (t - back))

ge_ltb : (a b : ℕ) → b ≤ a → ltb a b ≡ false
ge_ltb a b h = grind (arith, nat_tests)

lt_ltb : (a b : ℕ) → a < b → ltb a b ≡ true
lt_ltb a b h = grind (arith, nat_tests)

arrived_early : (f : ℕ → Sym) (L t back delay : ℕ) → L ≤ back + delay → t < back + delay →
    earlier (λ u. cond (ltb u L) Idle (f (u - L))) (suc t) (back + delay + 1 - L) ≡ Idle
arrived_early f L t back delay h early = elim (cases_lt (suc t) (back + delay + 1 - L)) [
  | inl past ↦ if_false {m = back + delay + 1 - L} {n = suc t} _ _ past
  | inr within ↦
      let u = suc t - (back + delay + 1 - L) in
      let none : ltb u L ≡ true = lt_ltb u L (omega arith) in
      if_true {m = back + delay + 1 - L} {n = suc t} _ _ (omega arith) ∙ ap (λ b. cond b Idle (f (u - L))) none
]

early_too : (f : ℕ → Sym) (t back delay : ℕ) → t < back + delay → earlier (λ v. earlier f v delay) t back ≡ Idle
early_too f t back delay early = elim (cases_lt t back) [
  | inl past ↦ if_false {m = back} {n = t} _ _ past
  | inr within ↦ if_true {m = back} {n = t} _ _ (omega arith) ∙ if_false {m = delay} {n = t - back} _ _ (omega arith)
]

-- What comes in L half bits late and is emitted `delay` half bits after it was decided is that which was decided so
-- long ago.
pub arrived_is : (f : ℕ → Sym) (L t back delay : ℕ) → L ≤ back + delay →
    earlier (λ u. cond (ltb u L) Idle (f (u - L))) (suc t) (back + delay + 1 - L) ≡ earlier (λ v. earlier f v delay) t back
arrived_is f L t back delay h = elim (cases_lt t (back + delay)) [
  | inl early ↦ arrived_early f L t back delay h early ∙ sym (early_too f t back delay early)
  | inr late ↦
      let u = suc t - (back + delay + 1 - L) in
      let some : ltb u L ≡ false = ge_ltb u L (omega arith) in
      if_true {m = back + delay + 1 - L} {n = suc t} _ _ (omega arith)
      ∙ ap (λ b. cond b Idle (f (u - L))) some
      ∙ (let e : u - L ≡ t - back - delay = omega arith in ap f e)
      ∙ sym (if_true {m = back} {n = t} _ _ (omega arith) ∙ if_true {m = delay} {n = t - back} _ _ (omega arith))
]
