-- Parts that are handed out of a share, and parts in order.
use Rattle.std.proofs.Common.{◌≡◌, ◌≢◌, ℕ, zero, suc, ◌+◌, ◌-◌, ◌<◌, ◌≤◌, Bool, true, false, true≢false, List, [], ◌∷◌, ◌++◌, length, map, take, get_or, refl, sym, ap, ◌∙◌, arith, subst, length-append}
use Rattle.std.specs.Prelude.{Option, Some, None, All, Contains, IsPermutation, swap_remove}
use Rattle.std.proofs.lemmas.List.{get_or_append_left, get_or_default, length-map, take_all}
use Rattle.std.proofs.lemmas.List.Elements.{All-contains, All-map, All-more}
use Rattle.std.proofs.lemmas.List.Sorted.{All-permutation, Contains-permutation, IsPermutation-map, IsPermutation-swap_remove}
use Rattle.std.proofs.lemmas.Map.Made.{Contains-tail}
use Rattle.std.proofs.Math.ListN.{get_or-map}
use Rattle.std.proofs.Math.Seq.{get_or-append_seam}
use Rattle.load_plan.specs.declared.plan.Plan.{Plan}
use Rattle.net_parts.specs.Windows.{windows}
use Rattle.exchange_core.specs.Holdings.{Holding}
use Rattle.exchange_core.specs.Shares.{Rack, part_on, Handed, handed, handed_as, handed_out}
use Rattle.worker_gate.specs.PlannedShares.{IsPlannedRack}
use Rattle.worker_gate.specs.FinishedParts.{IsFinished, AreFinished, HaveFinished}
use Rattle.worker_gate.proofs.KeptPlans.{boxed_as, same_plan}

pub each_snoc : {S : Type 0} (P : ℕ → S → Type 0) (xs : List S) (x : S) → ((k : ℕ) (d : S) → k < length xs → P k (get_or xs k d)) → P (length xs) x
    → (k : ℕ) (d : S) → k < length (xs ++ x ∷ []) → P k (get_or (xs ++ x ∷ []) k d)
each_snoc P [] x all p zero d in' = p
each_snoc P [] x all p (suc k) d in' = absurd (omega arith)
each_snoc P (y ∷ ys) x all p zero d in' = all 0 d (omega arith)
each_snoc P (y ∷ ys) x all p (suc k) d in' = each_snoc (λ j. P (suc j)) ys x (λ j e h. all (suc j) e (omega arith)) p k d (omega arith)

pub one_more : {S : Type 0} (plan_of : S → Plan) (number at : S → ℕ) (plan : Plan) (first k : ℕ) (xs : List S) (x : S) (ys : List S)
    → AreFinished plan_of number at plan first k xs → IsFinished plan_of number at plan (first + k) x → ys ≡ xs ++ x ∷ [] → AreFinished plan_of number at plan first (k + 1) ys
one_more plan_of number at plan first k xs x ys w h e =
    let long : length ys ≡ k + 1 = ap length e ∙ (length-append xs (x ∷ []) ∙ ap (λ n. n + 1) w.long) in
    record {
      long = long;
      each = λ j d below. subst (λ zs. IsFinished plan_of number at plan (first + j) (get_or zs j d)) (sym e)
          (each_snoc (λ i. IsFinished plan_of number at plan (first + i)) xs x
          (λ i d' in'. w.each i d' (let l = w.long in omega (arith, l, in')))
          (subst (λ n. IsFinished plan_of number at plan (first + n) x) (sym w.long) h)
          j d (let l = ap length (sym e) in omega (arith, l, long, below)));
    }

abbrev first_or : Option Handed → List (Option Handed) → Option Handed
first_or d [] = d
first_or d (x ∷ xs) = x

abbrev but_first : List (Option Handed) → List (Option Handed)
but_first [] = []
but_first (x ∷ xs) = xs

abbrev is_handed : Option Handed → Bool
is_handed None = false
is_handed (Some x) = true

abbrev plan_handed : Plan → Option Handed → Plan
plan_handed d None = d
plan_handed d (Some x) = x.plan

-- parts that are handed out of a rack are of the plan of its parts
module _ {S : Type 0} (plan_of : S → Plan) (number at : S → ℕ) (boxed : Option Plan) (r : Rack) (all : IsPlannedRack boxed r) where
  abbrev told : S → Option Handed
  told s = handed_as (plan_of s) (number s) (at s)

  one_planned : (s : S) (u : ℕ) (o : Option Holding) → part_on u r ≡ o → told s ≡ handed o → Some (plan_of s) ≡ boxed
  one_planned s u None is e = absurd (true≢false (ap is_handed e))
  one_planned s u (Some h) is e = ap boxed_as (ap (plan_handed (plan_of s)) e) ∙ all u h is

  each_planned : (ss : List S) (us : List ℕ) → map told ss ≡ map (λ u. handed (part_on u r)) us → (k : ℕ) (d : S) → k < length ss → Some (plan_of (get_or ss k d)) ≡ boxed
  each_planned [] us e k d in' = absurd (omega arith)
  each_planned (s ∷ ss) [] e k d in' = let l = ap length e in absurd (omega (arith, l))
  each_planned (s ∷ ss) (u ∷ us) e zero d in' = one_planned s u (part_on u r) refl (ap (first_or None) e)
  each_planned (s ∷ ss) (u ∷ us) e (suc k) d in' = each_planned ss us (ap but_first e) k d (omega arith)

  pub all_planned : (ss : List S) → map (λ s. handed_as (plan_of s) (number s) (at s)) ss ≡ handed_out r → All (λ s. Some (plan_of s) ≡ boxed) ss
  all_planned ss e = each_planned ss r.order e

-- the last of a list, and those before it
pub all_before : {S : Type 0} (P : S → Type 0) (xs ys : List S) (x : S) → xs ≡ ys ++ x ∷ [] → All P xs → All P ys × P x
all_before P xs ys x e all =
    let l = ap length e ∙ length-append ys (x ∷ []) in (
      (λ k d in'. subst P (ap (λ zs. get_or zs k d) e ∙ get_or_append_left ys (x ∷ []) d k in') (all k d (omega (arith, l, in')))),
      subst P (ap (λ zs. get_or zs (length ys) x) e ∙ get_or-append_seam ys x [] x) (all (length ys) x (omega (arith, l))),
    )

pub finished_of : {S : Type 0} (plan_of : S → Plan) (number at : S → ℕ) (boxed : Option Plan) (plan : Plan) (u : ℕ) (s : S) → Some plan ≡ boxed
    → (Some (plan_of s) ≡ boxed) × (number s ≡ u) × (at s ≡ windows (plan_of s)) → IsFinished plan_of number at plan u s
finished_of plan_of number at boxed plan u s is f = let same = same_plan (plan_of s) plan (f.0 ∙ sym is) in (same, f.1, f.2 ∙ ap windows same)

-- parts of which all have finished, and one is taken out
module _ {S : Type 0} (plan_of : S → Plan) (number at : S → ℕ) where
  pub start_finished : (first count : ℕ) (xs : List S) → HaveFinished plan_of number at first count xs → HaveFinished plan_of number at (first + 0) (count - 0) xs
  start_finished first count xs f = record {
    there = λ k in'. subst (Contains (map number xs)) (let v : first + k ≡ first + 0 + k = omega arith in v) (f.there k (omega (arith, in')));
    past = λ k d in' least most. f.past k d in' (omega (arith, least)) (omega (arith, most));
  }

  pub one_finished : (first count k : ℕ) (xs : List S) → HaveFinished plan_of number at (first + k) (count - k) xs → k < count → HaveFinished plan_of number at (first + k) 1 xs
  one_finished first count k xs f below = record {
    there = λ j in'. f.there j (omega (arith, in', below));
    past = λ i d in' least most. f.past i d in' least (omega (arith, most, below));
  }

  pub rest_finished : (first count k : ℕ) (xs ys : List S) (s : S) → HaveFinished plan_of number at (first + k) (count - k) xs → k < count
      → IsPermutation xs (s ∷ ys) → number s ≡ first + k → HaveFinished plan_of number at (first + (k + 1)) (count - (k + 1)) ys
  rest_finished first count k xs ys s f below same is =
      let all = All-permutation (λ x. first + k ≤ number x → number x < first + k + (count - k) → at x ≡ windows (plan_of x)) xs (s ∷ ys) same f.past in
      record {
        there = λ j in'.
            let next : first + k + (j + 1) ≡ first + (k + 1) + j = omega arith in
            Contains-tail (number s) (map number ys) (first + (k + 1) + j) (λ e. omega (arith, e, is))
            (subst (Contains (map number (s ∷ ys))) next (Contains-permutation (map number xs) (map number (s ∷ ys)) (first + k + (j + 1))
            (IsPermutation-map number xs (s ∷ ys) same) (f.there (j + 1) (omega (arith, in', below)))));
        past = λ i d in' least most. all (suc i) d (omega (arith, in')) (omega (arith, least)) (omega (arith, most, below));
      }

  -- a part that isn't there, and one that lacks a window
  pub not_there : (u : ℕ) (xs : List S) → All (λ s. number s ≢ u) xs → HaveFinished plan_of number at u 1 xs → ⊥
  not_there u xs none f =
      All-contains (λ v. v ≢ u + 0) (map number xs) (u + 0) (All-map (λ v. v ≢ u + 0) number xs (λ k d in' e. none k d in' (omega (arith, e)))) (f.there 0 (omega arith)) refl

  pub not_past : (u i : ℕ) (xs : List S) (s : S) → i < length xs → s ≡ get_or xs i s → number s ≡ u → (at s ≡ windows (plan_of s) → ⊥) → HaveFinished plan_of number at u 1 xs → ⊥
  not_past u i xs s in' is same short f =
      let same' : number (get_or xs i s) ≡ u = ap number (sym is) ∙ same in
      short (subst (λ x. at x ≡ windows (plan_of x)) (sym is) (f.past i s in' (omega (arith, same')) (omega (arith, same'))))

  -- as a search through other things finds and takes them
  module _ {X : Type 0} (f : X → S) (xs old : List X) (kept : xs ≡ old) (i u : ℕ) where
    pub none_left : length xs ≤ i → All (λ y. number (f y) ≢ u) (take i xs) → HaveFinished plan_of number at u 1 (map f old) → ⊥
    none_left past all = not_there u (map f old) (All-map (λ s. number s ≢ u) f old (subst (All (λ y. number (f y) ≢ u)) (take_all i xs past ∙ kept) all))

    module _ (x : X) (within : i < length xs) (at_i : x ≡ get_or xs i x) where
      pub none_more : All (λ y. number (f y) ≢ u) (take i xs) → (number (f x) ≡ u → ⊥) → All (λ y. number (f y) ≢ u) (take (i + 1) xs)
      none_more all other = All-more (λ y. number (f y) ≢ u) xs i x within all (λ e. other (ap (λ z. number (f z)) at_i ∙ e))

      pub same_number : (y : X) → y ≡ get_or xs i y → number (f y) ≡ u → number (f x) ≡ u
      same_number y at_y is = ap (λ z. number (f z)) (at_i ∙ get_or_default xs i x y within ∙ sym at_y) ∙ is

      pub short_at : number (f x) ≡ u → (at (f x) ≡ windows (plan_of (f x)) → ⊥) → HaveFinished plan_of number at u 1 (map f old) → ⊥
      short_at same short all =
          not_past u i (map f xs) (f x) (let m = length-map xs f in omega (arith, m, within)) (ap f at_i ∙ sym (get_or-map f xs i x)) same short
          (subst (λ zs. HaveFinished plan_of number at u 1 (map f zs)) (sym kept) all)

      pub taken_out : (ys : List X) → ys ≡ swap_remove xs i x → IsPermutation (map f old) (f x ∷ map f ys)
      taken_out ys is =
          subst (λ zs. IsPermutation (map f zs) (f x ∷ map f ys)) kept (subst (λ zs. IsPermutation (map f xs) (f x ∷ map f zs)) (sym is)
          (IsPermutation-map f xs (x ∷ swap_remove xs i x) (IsPermutation-swap_remove xs i x within at_i)))

pub none_yet : {S : Type 0} (plan_of : S → Plan) (number at : S → ℕ) (plan : Plan) (first : ℕ) (xs : List S) → xs ≡ [] → AreFinished plan_of number at plan first 0 xs
none_yet plan_of number at plan first xs e = record { long = ap length e; each = λ k d below. absurd (omega (arith, below)) }
