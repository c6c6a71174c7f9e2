-- What a tap hears of its segment, where the others are told alike, is what it hears among all taps.
use Rattle.std.proofs.Common.{◌≡◌, ◌≢◌, ℕ, suc, ◌+◌, ◌<◌, Bool, true, false, not, ◌&&◌, cond, eqb, inl, inr, List, [], ◌∷◌, take, length, get_or, refl, sym, ap, ap₂, ◌∙◌, arith}
use Rattle.std.proofs.lemmas.Bool.{cases_eq, eq-eqb, ne_eqb, false≢true}
use Rattle.manchester_line.specs.declared.Sym.{Sym}
use Rattle.manchester_line.specs.declared.Sym.TheVariants.{Idle}
use Rattle.manchester_line.specs.Line.{mix_of}
use Rattle.mac_parameters.specs.Distances.{distance}
use Rattle.cable_segment.specs.Bus.{heard_among}
use Rattle.layout.specs.declared.lines.PortLine.{PortLine}
use Rattle.network.specs.Hearing.{heard_of}
use Rattle.layout.specs.Taps.{positions_on}
use Rattle.network.specs.TapsOnSegments.{count_on}
use Rattle.network.proofs.TapsOnSegments.{count-here, count-there, positions-here, positions-there}

-- a tap of the segment is left out in both ways, or told alike
pick : (t t' b : Bool) (a a' : Sym) → t ≡ t' → b ≡ true → (t' ≡ false → a ≡ a') → cond t Idle a ≡ cond (b && not t') a' Idle
pick t true true a a' e eb ea = ap (λ z. cond z Idle a) e
pick t false true a a' e eb ea = ap (λ z. cond z Idle a) e ∙ ea refl
pick t t' false a a' e eb ea = absurd (false≢true eb)

differ : (p q : ℕ) → eqb p q ≡ false → p ≢ q
differ p q h e = absurd (false≢true (sym h ∙ eq-eqb p q e))

module _ (u v : ℕ → ℕ → Sym) (s q : ℕ) (here d : PortLine) (local : ℕ) (on : here.segment ≡ s) where
  pub hears_alike : (xs : List PortLine) (r p : ℕ) →
      ((i c m : ℕ) → i < length xs → c ≡ r + count_on s (take i xs) → m ≡ p + i → (get_or xs i d).segment ≡ s → eqb c local ≡ eqb m q) →
      ((i c m : ℕ) → i < length xs → c ≡ r + count_on s (take i xs) → m ≡ p + i → (get_or xs i d).segment ≡ s → m ≢ q → u (distance here.at (get_or xs i d).at) c ≡ v (distance here.at (get_or xs i d).at) m) →
      heard_among u local here.at r (positions_on s xs) ≡ heard_of v q here p xs
  hears_alike [] r p tests same = refl
  hears_alike (x ∷ xs) r p tests same = elim (cases_eq x.segment s) [
    | inl e ↦
        ap (heard_among u local here.at r) (positions-here s x xs e)
        ∙ ap₂ mix_of
        (pick (eqb r local) (eqb p q) (eqb x.segment here.segment) (u (distance here.at x.at) r) (v (distance here.at x.at) p)
        (tests 0 r p (omega arith) (omega arith) (omega arith) e) (eq-eqb x.segment here.segment (e ∙ sym on)) (λ away. same 0 r p (omega arith) (omega arith) (omega arith) e (differ p q away)))
        (hears_alike xs (r + 1) (p + 1)
        (λ i c m l ec em es. let one = count-here s x (take i xs) e in tests (suc i) c m (omega arith) (omega (arith, ec, one)) (omega arith) es)
        (λ i c m l ec em es ne. let one = count-here s x (take i xs) e in same (suc i) c m (omega arith) (omega (arith, ec, one)) (omega arith) es ne))
    | inr off ↦
        ap (heard_among u local here.at r) (positions-there s x xs off)
        ∙ hears_alike xs r (p + 1)
        (λ i c m l ec em es. let one = count-there s x (take i xs) off in tests (suc i) c m (omega arith) (omega (arith, ec, one)) (omega arith) es)
        (λ i c m l ec em es ne. let one = count-there s x (take i xs) off in same (suc i) c m (omega arith) (omega (arith, ec, one)) (omega arith) es ne)
        ∙ sym (ap (λ (b : Bool). mix_of (cond (b && not (eqb p q)) (v (distance here.at x.at) p) Idle) (heard_of v q here (p + 1) xs)) (ne_eqb x.segment here.segment (λ same_segment. off (same_segment ∙ on))))
  ]
