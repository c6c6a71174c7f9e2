-- Long division with a register of 32 bits, and by octets.
use Rattle.std.proofs.Common.{◌≡◌, ℕ, suc, ◌<◌, ◌≤◌, Bool, true, false, cond, List, [], ◌∷◌, ◌++◌, length, replicate, refl, sym, ap, ap₂, ◌∙◌, arith, length-append}
use Rattle.frame_layout.specs.Division.{xor, plus, generator, divided}

-- the register after a bit: the shifted rest, plus the generator where the first place isn't zero
abbrev pub shifted : List Bool → List Bool
shifted [] = []
shifted (r ∷ rs) = rs ++ false ∷ []

abbrev pub fed : List Bool → Bool → List Bool
fed [] b = []
fed (r ∷ rs) b = cond (xor r b) (plus generator (rs ++ false ∷ [])) (rs ++ false ∷ [])

abbrev pub fed_all : List Bool → List Bool → List Bool
fed_all r [] = r
fed_all r (b ∷ bs) = fed_all (fed r b) bs

xor-false : (b : Bool) → xor b false ≡ b
xor-false true = refl
xor-false false = refl

xor_assoc : (a b c : Bool) → xor a (xor b c) ≡ xor (xor a b) c
xor_assoc true true true = refl
xor_assoc true true false = refl
xor_assoc true false c = refl
xor_assoc false b c = refl

plus_assoc : (a b m : List Bool) → length a ≡ length b → length b ≤ length m → plus a (plus b m) ≡ plus (plus a b) m
plus_assoc [] [] m e h = refl
plus_assoc [] (b ∷ bs) m e h = absurd (omega arith)
plus_assoc (a ∷ as') [] m e h = absurd (omega arith)
plus_assoc (a ∷ as') (b ∷ bs) [] e h = absurd (omega arith)
plus_assoc (a ∷ as') (b ∷ bs) (c ∷ cs) e h = ap₂ ◌∷◌ (xor_assoc a b c) (plus_assoc as' bs cs (omega arith) (omega arith))

-- a zero at the end adds nothing
plus-zero : (r m : List Bool) → length r < length m → plus (r ++ false ∷ []) m ≡ plus r m
plus-zero [] [] h = absurd (omega arith)
plus-zero [] (b ∷ bs) h = refl
plus-zero (r ∷ rs) [] h = absurd (omega arith)
plus-zero (r ∷ rs) (b ∷ bs) h = ap (λ xs. xor r b ∷ xs) (plus-zero rs bs (omega arith))

length-plus : (a b : List Bool) → length a ≤ length b → length (plus a b) ≡ length b
length-plus [] b h = refl
length-plus (a ∷ as') [] h = absurd (omega arith)
length-plus (a ∷ as') (b ∷ bs) h = ap suc (length-plus as' bs (omega arith))

pub length-generator : length generator ≡ 32
unfolding generator
length-generator = refl

pub length-fed : (r : List Bool) (b : Bool) → length r ≡ 32 → length (fed r b) ≡ 32
length-fed [] b h = h
length-fed (r ∷ rs) b h =
    let n : length (rs ++ false ∷ []) ≡ 32 = omega (arith, length-append rs (false ∷ [])) in
    elim (xor r b) as (λ x. length (cond x (plus generator (rs ++ false ∷ [])) (rs ++ false ∷ [])) ≡ 32) [
      | true ↦ length-plus generator (rs ++ false ∷ []) (omega (arith, length-generator)) ∙ n
      | false ↦ n
    ]

-- one place of the division is one step of the register
divided_step : (r : List Bool) (b : Bool) (ms : List Bool) (n : ℕ) → length r ≡ 32 → 32 ≤ length ms → divided (suc n) (plus r (b ∷ ms)) ≡ divided n (plus (fed r b) ms)
divided_step [] b ms n h l = absurd (omega arith)
divided_step (r ∷ rs) b ms n h l =
    elim (xor r b) as (λ x. divided (suc n) (x ∷ plus rs ms) ≡ divided n (plus (cond x (plus generator (rs ++ false ∷ [])) (rs ++ false ∷ [])) ms)) [
      | true ↦ ap (divided n) (ap (plus generator) (sym (plus-zero rs ms (omega arith))) ∙ plus_assoc generator (rs ++ false ∷ []) ms (omega (arith, length-generator, length-append rs (false ∷ []))) (omega (arith, length-append rs (false ∷ []))))
      | false ↦ ap (divided n) (sym (plus-zero rs ms (omega arith)))
    ]

plus-zeros : (r : List Bool) → plus r (replicate (length r) false) ≡ r
plus-zeros [] = refl
plus-zeros (r ∷ rs) = ap₂ ◌∷◌ (xor-false r) (plus-zeros rs)

-- the remainder is what the register has in the end
pub divided_is : (ms r : List Bool) → length r ≡ 32 → divided (length ms) (plus r (ms ++ replicate 32 false)) ≡ fed_all r ms
divided_is [] r h = ap (λ n. plus r (replicate n false)) (sym h) ∙ plus-zeros r
divided_is (b ∷ ms) r h =
    divided_step r b (ms ++ replicate 32 false) (length ms) h (omega (arith, length-append ms (replicate 32 false)))
    ∙ divided_is ms (fed r b) (length-fed r b h)
