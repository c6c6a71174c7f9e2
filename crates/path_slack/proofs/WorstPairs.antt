-- The worst pair of what two sides reach, and of two kinds of pairs.
use Rattle.std.proofs.Common.{◌≡◌, ◌⊎◌, refl, sym, subst, inl, inr, ℕ, ◌+◌, ◌<◌, ◌≤◌, ltb, cond, Option, None, Some, arith}
use Rattle.std.proofs.lemmas.Bool.{cond_both, ltb-true, ltb-false, cases_lt}
use Rattle.path_checker.specs.declared.far.Far.{Far}
use Rattle.path_checker.specs.Far.{IsFarthest}
use Rattle.path_checker.specs.Verdicts.{IsNoLater}
use Rattle.path_slack.specs.declared.worst.FarthestPair.{FarthestPair}
use Rattle.path_slack.specs.Pairs.{pair_over, worse_pair, worse_of, IsWorstPair}

-- the same is the worst of the same pairs
pub worst_same : (Q R : ℕ → ℕ → ℕ → Type 0) → ((a b n : ℕ) → Q a b n → R a b n) → ((a b n : ℕ) → R a b n → Q a b n) → (w : Option FarthestPair) → IsWorstPair Q w → IsWorstPair R w
worst_same Q R to from None h = λ a b n low r. h a b n low (from a b n r)
worst_same Q R to from (Some w) h = (h.0, to w.a w.b w.length h.1, λ a b n low r. h.2 a b n low (from a b n r))

-- n half bits from a to b are no worse than a pair
abbrev pub IsNoWorse : ℕ → ℕ → ℕ → FarthestPair → Type 0
IsNoWorse a b n w = (n < w.length) ⊎ ((n ≡ w.length) × IsNoLater w.a w.b a b)

no_later_on : (a b c d e f : ℕ) → IsNoLater c d a b → IsNoLater e f c d → IsNoLater e f a b
no_later_on a b c d e f (inl x) (inl y) = inl (omega arith)
no_later_on a b c d e f (inl x) (inr (y, z)) = inl (omega arith)
no_later_on a b c d e f (inr (x, u)) (inl y) = inl (omega arith)
no_later_on a b c d e f (inr (x, u)) (inr (y, z)) = inr (omega arith, omega arith)

no_worse_on : (a b n : ℕ) (v w : FarthestPair) → IsNoWorse a b n v → IsNoWorse v.a v.b v.length w → IsNoWorse a b n w
no_worse_on a b n v w (inl low) (inl less) = inl (omega arith)
no_worse_on a b n v w (inl low) (inr (same, later)) = inl (omega arith)
no_worse_on a b n v w (inr (equal, after)) (inl less) = inl (omega arith)
no_worse_on a b n v w (inr (equal, after)) (inr (same, later)) = inr (omega arith, no_later_on a b v.a v.b w.a w.b after later)

module _ (Q R S : ℕ → ℕ → ℕ → Type 0) (left : (a b n : ℕ) → Q a b n → S a b n) (right : (a b n : ℕ) → R a b n → S a b n) (either : (a b n : ℕ) → a < b → S a b n → Q a b n ⊎ R a b n) where
  first_worst : (v w : FarthestPair) → IsWorstPair Q (Some v) → IsWorstPair R (Some w) → IsNoWorse w.a w.b w.length v → IsWorstPair S (Some v)
  first_worst v w q r near = (q.0, left v.a v.b v.length q.1, λ a b n low h. elim (either a b n low h) [ inl k ↦ q.2 a b n low k | inr k ↦ no_worse_on a b n w v (r.2 a b n low k) near ])

  second_worst : (v w : FarthestPair) → IsWorstPair Q (Some v) → IsWorstPair R (Some w) → IsNoWorse v.a v.b v.length w → IsWorstPair S (Some w)
  second_worst v w q r near = (r.0, right w.a w.b w.length r.1, λ a b n low h. elim (either a b n low h) [ inl k ↦ no_worse_on a b n v w (q.2 a b n low k) near | inr k ↦ r.2 a b n low k ])

  level : (v w : FarthestPair) → IsWorstPair Q (Some v) → IsWorstPair R (Some w) → v.length ≡ w.length
      → IsWorstPair S (Some (cond (ltb w.a v.a) w (cond (ltb v.a w.a) v (cond (ltb w.b v.b) w v))))
  level v w q r same =
      cond_both (ltb w.a v.a) w (cond (ltb v.a w.a) v (cond (ltb w.b v.b) w v)) (λ (x : FarthestPair). IsWorstPair S (Some x))
      (λ lower. second_worst v w q r (inr (same, inl (ltb-true w.a v.a lower))))
      (λ most. cond_both (ltb v.a w.a) v (cond (ltb w.b v.b) w v) (λ (x : FarthestPair). IsWorstPair S (Some x))
      (λ less. first_worst v w q r (inr (sym same, inl (ltb-true v.a w.a less))))
      (λ least.
      let low : v.a ≤ w.a = ltb-false w.a v.a most in
      let high : w.a ≤ v.a = ltb-false v.a w.a least in
      cond_both (ltb w.b v.b) w v (λ (x : FarthestPair). IsWorstPair S (Some x))
      (λ lower. second_worst v w q r (let l : w.b < v.b = ltb-true w.b v.b lower in inr (same, inr (omega arith, omega arith))))
      (λ higher. first_worst v w q r (inr (sym same, inr (omega arith, ltb-false w.b v.b higher))))))

  worst_two : (v w : FarthestPair) → IsWorstPair Q (Some v) → IsWorstPair R (Some w) → IsWorstPair S (Some (worse_pair v w))
  worst_two v w q r =
      cond_both (ltb v.length w.length) w (cond (ltb w.length v.length) v (cond (ltb w.a v.a) w (cond (ltb v.a w.a) v (cond (ltb w.b v.b) w v)))) (λ (x : FarthestPair). IsWorstPair S (Some x))
      (λ less. second_worst v w q r (inl (ltb-true v.length w.length less)))
      (λ most. cond_both (ltb w.length v.length) v (cond (ltb w.a v.a) w (cond (ltb v.a w.a) v (cond (ltb w.b v.b) w v))) (λ (x : FarthestPair). IsWorstPair S (Some x))
      (λ more. first_worst v w q r (inl (ltb-true w.length v.length more)))
      (λ least.
      let low : w.length ≤ v.length = ltb-false v.length w.length most in
      let high : v.length ≤ w.length = ltb-false w.length v.length least in
      level v w q r (omega arith)))

  pub worst_both : (v w : Option FarthestPair) → IsWorstPair Q v → IsWorstPair R w → IsWorstPair S (worse_of v w)
  worst_both None None q r = λ a b n low h. elim (either a b n low h) [ inl k ↦ q a b n low k | inr k ↦ r a b n low k ]
  worst_both None (Some w) q r = (r.0, right w.a w.b w.length r.1, λ a b n low h. elim (either a b n low h) [ inl k ↦ absurd (q a b n low k) | inr k ↦ r.2 a b n low k ])
  worst_both (Some v) None q r = (q.0, left v.a v.b v.length q.1, λ a b n low h. elim (either a b n low h) [ inl k ↦ q.2 a b n low k | inr k ↦ absurd (r a b n low k) ])
  worst_both (Some v) (Some w) q r = worst_two v w q r

-- the one station by the one side and the other by the other side
pub record IsOneWay (L R : ℕ → ℕ → Type 0) (a b n : ℕ) : Type 0 where
  pub p : ℕ
  pub q : ℕ
  pub near : L p a
  pub far : R q b
  pub sum : p + q ≡ n

-- two stations by the two sides, either way round
abbrev pub IsByBoth : (ℕ → ℕ → Type 0) → (ℕ → ℕ → Type 0) → ℕ → ℕ → ℕ → Type 0
IsByBoth L R a b n = IsOneWay L R a b n ⊎ IsOneWay L R b a n

one_turned : (L R : ℕ → ℕ → Type 0) (a b n : ℕ) → IsOneWay L R a b n → IsOneWay R L b a n
one_turned L R a b n h =
    let sum : h.p + h.q ≡ n = h.sum in
    record { p = h.q; q = h.p; near = h.far; far = h.near; sum = omega arith }

sides_turned : (L R : ℕ → ℕ → Type 0) (a b n : ℕ) → IsByBoth L R a b n → IsByBoth R L a b n
sides_turned L R a b n h = elim h [ inl one ↦ inr (one_turned L R a b n one) | inr two ↦ inl (one_turned L R b a n two) ]

module _ (L R : ℕ → ℕ → Type 0) where
  least_one_way : (x y : Far) → IsFarthest L (Some x) → IsFarthest R (Some y) → (a b n : ℕ) → IsOneWay L R a b n
      → (n < x.length + y.length) ⊎ ((n ≡ x.length + y.length) × (x.station ≤ a) × (y.station ≤ b))
  least_one_way x y l r a b n h =
      let sum : h.p + h.q ≡ n = h.sum in
      elim (l.1 h.p a h.near) [
        | inl less ↦ elim (r.1 h.q b h.far) [ inl low ↦ inl (omega arith) | inr (same, after) ↦ inl (omega arith) ]
        | inr (equal, over) ↦ elim (r.1 h.q b h.far) [ inl low ↦ inl (omega arith) | inr (same, after) ↦ inr (omega arith, over, after) ]
      ]

  both_low : (x y : Far) → IsFarthest L (Some x) → IsFarthest R (Some y) → x.station < y.station → IsWorstPair (IsByBoth L R) (Some (record { length = x.length + y.length; a = x.station; b = y.station }))
  both_low x y l r low = (
    low,
    inl (record { p = x.length; q = y.length; near = l.0; far = r.0; sum = refl }),
    λ a b n order h.
        elim h [
          | inl one ↦ elim (least_one_way x y l r a b n one) [
            | inl less ↦ inl less
            | inr (same, p, q) ↦ inr (same, elim (cases_lt x.station a) [ inl less ↦ inl less | inr most ↦ inr (omega arith, q) ])
          ]
          | inr two ↦ elim (least_one_way x y l r b a n two) [
            | inl less ↦ inl less
            | inr (same, p, q) ↦ inr (same, inl (omega arith))
          ]
        ],
  )

-- the same, where the station of the second side is the lower one
both_high : (L R : ℕ → ℕ → Type 0) (x y : Far) → IsFarthest L (Some x) → IsFarthest R (Some y) → y.station < x.station → IsWorstPair (IsByBoth L R) (Some (record { length = x.length + y.length; a = y.station; b = x.station }))
both_high L R x y l r low =
    let sum : y.length + x.length ≡ x.length + y.length = omega arith in
    subst (λ (n : ℕ). IsWorstPair (IsByBoth L R) (Some (record { length = n; a = y.station; b = x.station }))) sum
    (worst_same (IsByBoth R L) (IsByBoth L R) (sides_turned R L) (sides_turned L R) (Some (record { length = y.length + x.length; a = y.station; b = x.station })) (both_low R L y x r l low))

module _ (L R : ℕ → ℕ → Type 0) (apart : (p q s : ℕ) → L p s → R q s → ⊥) where
  pub worst_over_both : (x y : Option Far) → IsFarthest L x → IsFarthest R y → IsWorstPair (IsByBoth L R) (pair_over x y)
  worst_over_both None y l r = λ a b n low h. elim h [ inl one ↦ l one.p a one.near | inr two ↦ l two.p b two.near ]
  worst_over_both (Some x) None l r = λ a b n low h. elim h [ inl one ↦ r one.q b one.far | inr two ↦ r two.q a two.far ]
  worst_over_both (Some x) (Some y) l r =
      cond_both (ltb x.station y.station) (record { length = x.length + y.length; a = x.station; b = y.station }) (record { length = x.length + y.length; a = y.station; b = x.station }) (λ (w : FarthestPair). IsWorstPair (IsByBoth L R) (Some w))
      (λ low. both_low L R x y l r (ltb-true x.station y.station low))
      (λ most.
      let high : y.station ≤ x.station = ltb-false x.station y.station most in
      elim (cases_lt y.station x.station) [
        | inl less ↦ both_high L R x y l r less
        | inr least ↦ absurd (apart x.length y.length x.station l.0 (subst (λ (s : ℕ). R y.length s) (let same : y.station ≡ x.station = omega arith in same) r.0))
      ])
