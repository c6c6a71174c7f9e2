-- Parts that are made, make a window one after the other, and hand out what they have.
use Rattle.std.proofs.Common.{◌≡◌, ◌≢◌, ℕ, zero, suc, ◌+◌, ◌-◌, ◌<◌, ◌≤◌, inl, inr, List, [], ◌∷◌, ◌++◌, All, map, set, take, drop, length, get_or, refl, sym, ap, ap₂, ◌∙◌, arith, subst, length-append}
use Rattle.std.proofs.lemmas.List.{map-append, append_assoc, take-append-le, take_all, length-set, get_or-set_same, get_or-set_other, get_or_append_left, get_or-append_right}
use Rattle.std.proofs.lemmas.Bool.{cases_eq, cases_lt}
use Rattle.load_plan.specs.declared.plan.Plan.{Plan}
use Rattle.net_parts.specs.Machines.{span}
use Rattle.net_parts.specs.Parts.{parts}
use Rattle.net_parts.specs.Windows.{windows}
use Rattle.turn_run.specs.PartsInTurn.{IsAtWindow, AreAtWindow, AreBetween}

pub span_both : (k a b : ℕ) → span (λ (u : ℕ). u) k (a + b) ≡ span (λ u. u) k a ++ span (λ u. u) (k + a) b
span_both k zero b = let same : k ≡ k + 0 = omega arith in let none : 0 + b ≡ b = omega arith in ap (span (λ (u : ℕ). u) k) none ∙ ap (λ j. span (λ (u : ℕ). u) j b) same
span_both k (suc a) b =
    let more : suc a + b ≡ suc (a + b) = omega arith in
    let next : suc k + a ≡ k + suc a = omega arith in
    ap (span (λ (u : ℕ). u) k) more ∙ ap (λ us. k ∷ us) (span_both (suc k) a b ∙ ap (λ j. span (λ (u : ℕ). u) (suc k) a ++ span (λ (u : ℕ). u) j b) next)

module _ {S : Type 0} (plan_of : S → Plan) (number at : S → ℕ) (plan : Plan) where
  one_by_one : {X : Type 0} (f : Plan → ℕ → X) (ss : List S) (first w : ℕ) → ((k : ℕ) (d : S) → k < length ss → IsAtWindow plan_of number at plan (first + k) w (get_or ss k d))
      → map (λ s. f (plan_of s) (number s)) ss ≡ map (f plan) (span (λ u. u) first (length ss))
  one_by_one f [] first w each = refl
  one_by_one f (s ∷ ss) first w each =
      let h = each 0 s (omega arith) in
      let same : first + 0 ≡ first = omega arith in
      ap₂ ◌∷◌ (ap₂ f h.0 (h.1 ∙ same)) (one_by_one f ss (suc first) w (λ k d below.
      let next : first + suc k ≡ suc first + k = omega arith in
      subst (λ n. IsAtWindow plan_of number at plan n w (get_or ss k d)) next (each (suc k) d (omega arith))))

  pub handed : {X : Type 0} (f : Plan → ℕ → X) (first count w : ℕ) (ss : List S) → AreAtWindow plan_of number at plan first count w ss
      → map (λ s. f (plan_of s) (number s)) ss ≡ map (f plan) (span (λ u. u) first count)
  handed f first count w ss a = one_by_one f ss first w (λ k d below. a.each k d (let l = a.long in omega (arith, l, below))) ∙ ap (λ n. map (f plan) (span (λ u. u) first n)) a.long

  pub all_finished : (first count w : ℕ) (ss : List S) → w ≡ windows plan → AreAtWindow plan_of number at plan first count w ss → All (λ s. at s ≡ windows (plan_of s)) ss
  all_finished first count w ss last a k d below =
      let h = a.each k d (let l = a.long in omega (arith, l, below)) in
      h.2 ∙ last ∙ sym (ap windows h.0)

  -- one part more is made
  pub one_made : (first n w : ℕ) (ss after : List S) (s : S) → AreAtWindow plan_of number at plan first n w ss → IsAtWindow plan_of number at plan (first + n) w s → after ≡ ss ++ s ∷ []
      → AreAtWindow plan_of number at plan first (n + 1) w after
  one_made first n w ss after s a h e =
      let l = a.long in
      let one = length-append ss (s ∷ []) in
      let long : length after ≡ n + 1 = ap length e ∙ one ∙ omega (arith, l) in
      record {
        long = long;
        each = λ k d below. elim (cases_lt k n) [
          | inl in' ↦ subst (IsAtWindow plan_of number at plan (first + k) w) (sym (ap (λ xs. get_or xs k d) e ∙ get_or_append_left ss (s ∷ []) d k (omega (arith, in', l)))) (a.each k d in')
          | inr out ↦
              let is : k ≡ n = omega (arith, out, below) in
              let zero_left : k - n ≡ 0 = omega (arith, is) in
              let here : get_or after k d ≡ s = ap (λ xs. get_or xs k d) e ∙ get_or-append_right ss (s ∷ []) n k d l out ∙ ap (λ j. get_or (s ∷ []) j d) zero_left in
              subst (IsAtWindow plan_of number at plan (first + k) w) (sym here) (subst (λ j. IsAtWindow plan_of number at plan (first + j) w s) (sym is) h)
        ];
      }

  pub none_made : (first w : ℕ) → AreAtWindow plan_of number at plan first 0 w []
  none_made first w = record { long = refl; each = λ k d below. absurd (omega (arith, below)) }

  -- before a window none has made it, and then one after the other has
  pub none_done : (first count w : ℕ) (ss : List S) → AreAtWindow plan_of number at plan first count w ss → AreBetween plan_of number at plan first count w 0 ss
  none_done first count w ss a = record { long = a.long; made = λ k d none below. absurd (omega (arith, none)); waiting = λ k d low below. a.each k d below }

  pub all_done : (first count w done : ℕ) (ss : List S) → AreBetween plan_of number at plan first count w done ss → count ≤ done → AreAtWindow plan_of number at plan first count (w + 1) ss
  all_done first count w done ss a all = record { long = a.long; each = λ k d below. a.made k d (omega (arith, all, below)) below }

  pub one_done : (first count w done : ℕ) (ss after : List S) (s : S) → AreBetween plan_of number at plan first count w done ss → done < count
      → IsAtWindow plan_of number at plan (first + done) (w + 1) s → after ≡ set ss done s → AreBetween plan_of number at plan first count w (done + 1) after
  one_done first count w done ss after s a in' h e =
      let l = a.long in
      let long : length after ≡ count = ap length e ∙ length-set ss done s ∙ l in
      record {
        long = long;
        made = λ k d low below. elim (cases_eq k done) [
          | inl is ↦
              let here : get_or after k d ≡ s = ap₂ (λ xs j. get_or xs j d) e is ∙ get_or-set_same ss done s d (omega (arith, l, in')) in
              subst (IsAtWindow plan_of number at plan (first + k) (w + 1)) (sym here) (subst (λ j. IsAtWindow plan_of number at plan (first + j) (w + 1) s) (sym is) h)
          | inr ne ↦ subst (IsAtWindow plan_of number at plan (first + k) (w + 1)) (sym (ap (λ xs. get_or xs k d) e ∙ get_or-set_other ss done k s d ne)) (a.made k d (omega (arith, low, ne)) below)
        ];
        waiting = λ k d low below.
            let ne : k ≢ done = λ is. omega (arith, is, low) in
            subst (IsAtWindow plan_of number at plan (first + k) w) (sym (ap (λ xs. get_or xs k d) e ∙ get_or-set_other ss done k s d ne)) (a.waiting k d (omega (arith, low)) below);
      }

-- one part more is handed out, and the others are still to come
pub handed_on : {S X : Type 0} (f : S → X) (items after : List S) (x : S) (xs ys : List X) (y : X) (all : List X) → items ≡ x ∷ after → xs ++ map f items ≡ all → ys ≡ xs ++ y ∷ [] → y ≡ f x
    → ys ++ map f after ≡ all
handed_on f items after x xs ys y all e was more is =
    ap (λ zs. zs ++ map f after) (more ∙ ap (λ z. xs ++ z ∷ []) is)
    ∙ append_assoc xs (f x ∷ []) (map f after)
    ∙ sym (ap (λ ss. xs ++ map f ss) e)
    ∙ was

pub first_and_rest : {S : Type 0} (P : S → Type 0) (items after : List S) (x : S) → items ≡ x ∷ after → All P items → P x × All P after
first_and_rest P items after x e all = let a = subst (All P) e all in (a 0 x (omega arith), λ k d h. a (suc k) d (omega arith))

-- segments and then repeaters are all parts
pub all_parts : {X : Type 0} (f : ℕ → X) (plan : Plan) (before these those : List X) (first : ℕ) → before ≡ [] ++ these → these ≡ map f (span (λ u. u) 0 (length plan.layout.segments))
    → first ≡ length plan.layout.segments → those ≡ map f (span (λ u. u) first (length plan.layout.repeaters)) → before ++ those ≡ map f (span (λ u. u) 0 (parts plan))
all_parts f plan before these those first is segments e repeaters =
    let n = length plan.layout.segments in
    let m = length plan.layout.repeaters in
    let behind : first ≡ 0 + n = omega (arith, e) in
    ap₂ ◌++◌ (is ∙ segments) (repeaters ∙ ap (λ j. map f (span (λ u. u) j m)) behind)
    ∙ sym (ap (map f) (span_both 0 n m) ∙ map-append f (span (λ u. u) 0 n) (span (λ u. u) (0 + n) m))

-- what is written back into a vector through a slice of it is all of it
pub written_back : {S : Type 0} (n : ℕ) (items new : List S) → n ≡ length new → take n (new ++ drop (length new) items) ≡ new
written_back n items new l = take-append-le n new (drop (length new) items) (omega (arith, l)) ∙ take_all n new (omega (arith, l))
