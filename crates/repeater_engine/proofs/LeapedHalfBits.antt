-- The parcels of a repeater in a window, over some of its half bits at once.
use Rattle.std.proofs.Common.{◌≡◌, ℕ, zero, suc, ◌+◌, ◌-◌, ◌<◌, ◌≤◌, true, false, List, [], ◌∷◌, ◌++◌, map, take, drop, length, length-append, get_or, refl, sym, ap, ap₂, ◌∙◌, arith, append_assoc}
use Rattle.std.proofs.Math.Seq.{take-append_seam, drop-append_seam}
use Rattle.std.proofs.lemmas.List.{length-map, get_or-map, get_or-append_right, same_lists}
use Rattle.manchester_line.specs.declared.Sym.{Sym}
use Rattle.manchester_line.specs.declared.Sym.TheVariants.{Idle}
use Rattle.load_plan.specs.declared.plan.Plan.{Plan}
use Rattle.network.specs.Times.{decided}
use Rattle.net_parts.specs.declared.parcel.Parcel.{Parcel}
use Rattle.net_parts.specs.Machines.{span}
use Rattle.net_parts.specs.RepeaterParts.{RepeaterState, repeater_machine, edges_at}
use Rattle.net_parts.specs.Standing.{port_hears, repeater_at}
use Rattle.net_parts.proofs.RepeaterSteps.{length-span, get_or-span, repeaters_go_on}
use Rattle.net_parts.proofs.WindowCuts.{runs, span_alike}
use Rattle.repeater_engine.specs.KeptRepeaters.{parcel_after, parcels_after, row_brought, with_piece}
use Rattle.repeater_engine.specs.LeapedHalfBits.{made_of, rows_brought, HaveRows, ReachFrom}

span_split : {X : Type 0} (f : ℕ → X) (t u a b : ℕ) → u ≡ t + a → span f t (a + b) ≡ span f t a ++ span f u b
span_split f t u zero b e = let same : u ≡ t = omega arith in let none : zero + b ≡ b = omega arith in ap₂ (span f) (sym same) none
span_split f t u (suc a) b e =
    let more : suc a + b ≡ suc (a + b) = omega arith in
    ap (span f t) more ∙ ap (λ xs. f t ∷ xs) (span_split f (suc t) u a b (omega arith))

column_span : (f : ℕ → ℕ → Sym) (es : List ℕ) (p u m : ℕ) → p < length es → map (λ row. get_or row p Idle) (span (λ v. map (λ e. f e v) es) u m) ≡ span (f (get_or es p 0)) u m
column_span f es p u zero h = refl
column_span f es p u (suc m) h = ap₂ ◌∷◌ (get_or-map (λ e. f e u) es p 0 Idle h) (column_span f es p (suc u) m h)

row_of : (f : ℕ → Parcel) (g : ℕ → Sym) (k : ℕ) (es : List ℕ) → ((e : ℕ) → get_or (f e).symbols k Idle ≡ g e) → row_brought k (map f es) ≡ map g es
row_of f g k [] h = refl
row_of f g k (e ∷ es) h = ap₂ ◌∷◌ (h e) (row_of f g k es h)

-- a repeater that stands makes what the network does
pub made_is : (plan : Plan) (i device u m : ℕ) (s : RepeaterState) → i < length plan.layout.repeaters → device ≡ length plan.layout.stations + i → s ≡ repeater_at plan i u →
    made_of device (span (λ v. map (λ e. port_hears plan e v) (edges_at plan.layout i)) u m) s
    ≡ record { state = repeater_at plan i (u + m); rows = span (λ v. map (λ e. decided plan e v) (edges_at plan.layout i)) u m }
made_is plan i device u m s some d is =
    let es = edges_at plan.layout i in
    let comes : ℕ → List Sym = λ v. map (λ e. port_hears plan e v) es in
    let goes : ℕ → List Sym = λ v. map (λ e. decided plan e v) es in
    ap₂ (λ k x. made_of k (span comes u m) x) d is
    ∙ runs (repeater_machine (length plan.layout.stations + i)) (repeater_at plan i) comes goes (λ v. (repeaters_go_on plan i v some).0) (λ v. (repeaters_go_on plan i v some).1) u m

module _ (plan : Plan) (i w t n k m : ℕ) (within : k + m ≤ n) where
  abbrev es : List ℕ
  es = edges_at plan.layout i

  abbrev symbols : ℕ → List Sym
  symbols e = span (decided plan e) t k ++ span (port_hears plan e) (t + k) (n - k)

  length-symbols : (e : ℕ) → length (symbols e) ≡ n
  length-symbols e =
      let sum = length-append (span (decided plan e) t k) (span (port_hears plan e) (t + k) (n - k)) in
      let a = length-span (decided plan e) t k in
      let b = length-span (port_hears plan e) (t + k) (n - k) in
      omega (arith, sum, a, b)

  symbol_heard : (e j : ℕ) → j < m → get_or (symbols e) (k + j) Idle ≡ port_hears plan e (t + k + j)
  symbol_heard e j h =
      let a = length-span (decided plan e) t k in
      let past : k + j - k ≡ j = omega arith in
      get_or-append_right (span (decided plan e) t k) (span (port_hears plan e) (t + k) (n - k)) k (k + j) Idle a (omega arith)
      ∙ ap (λ x. get_or (span (port_hears plan e) (t + k) (n - k)) x Idle) past
      ∙ get_or-span (port_hears plan e) (t + k) (n - k) j Idle (omega arith)

  -- what the parcels bring is what the ports hear
  pub rows_are : rows_brought k m (parcels_after plan i w t n k) ≡ span (λ u. map (λ e. port_hears plan e u) es) (t + k) m
  rows_are =
      span_alike (λ j. row_brought j (parcels_after plan i w t n k)) (λ u. map (λ e. port_hears plan e u) es) k (t + k) m (λ j h.
      row_of (parcel_after plan w t n k) (λ e. port_hears plan e (t + k + j)) (k + j) es (λ e. symbol_heard e j h))

  -- a parcel that gets what is decided in these half bits is one of a later half bit
  parcel_leaps : (e : ℕ) → with_piece k (span (decided plan e) (t + k) m) (parcel_after plan w t n k e) ≡ parcel_after plan w t n (k + m) e
  parcel_leaps e =
      let a = decided plan e in
      let h = port_hears plan e in
      let l = n - (k + m) in
      let piece = span a (t + k) m in
      let old = symbols e in
      let first : take k old ≡ span a t k = ap (λ x. take x old) (sym (length-span a t k)) ∙ take-append_seam (span a t k) (span h (t + k) (n - k)) in
      let left : n - k ≡ m + l = omega arith in
      let both : old ≡ (span a t k ++ span h (t + k) m) ++ span h (t + k + m) l =
      ap (λ x. span a t k ++ span h (t + k) x) left ∙ ap (λ xs. span a t k ++ xs) (span_split h (t + k) (t + k + m) m l refl) ∙ sym (append_assoc (span a t k) (span h (t + k) m) (span h (t + k + m) l)) in
      let sizes : k + length piece ≡ length (span a t k ++ span h (t + k) m) =
      let p = length-span a (t + k) m in let s = length-append (span a t k) (span h (t + k) m) in let x = length-span a t k in let y = length-span h (t + k) m in omega (arith, p, s, x, y) in
      let rest : drop (k + length piece) old ≡ span h (t + k + m) l = ap₂ drop sizes both ∙ drop-append_seam (span a t k ++ span h (t + k) m) (span h (t + k + m) l) in
      let begin : t + k + m ≡ t + (k + m) = omega arith in
      ap (λ ss. let p : Parcel = record { edge = e; window = w; to_repeater = true; symbols = ss; spoiled = false } in p) (
      ap₂ (λ xs ys. xs ++ (piece ++ ys)) first rest
      ∙ sym (append_assoc (span a t k) piece (span h (t + k + m) l))
      ∙ ap₂ (λ xs ys. xs ++ ys) (sym (span_split a t (t + k) k m refl)) (ap (λ u. span h u l) begin))

  -- parcels that get what is decided in these half bits are those of a later half bit
  pub parcels_leap : (old new : List Parcel) → old ≡ parcels_after plan i w t n k → length new ≡ length old → HaveRows k (span (λ u. map (λ e. decided plan e u) es) (t + k) m) old new →
      new ≡ parcels_after plan i w t n (k + m)
  parcels_leap old new was len have =
      let many : length old ≡ length es = ap length was ∙ length-map es (parcel_after plan w t n k) in
      same_lists new (parcels_after plan i w t n (k + m)) (len ∙ many ∙ sym (length-map es (parcel_after plan w t n (k + m)))) (λ p d l.
      let in_it : p < length es = omega (arith, many, len) in
      let e = get_or es p 0 in
      have p d l
      ∙ ap₂ (with_piece k) (column_span (decided plan) es p (t + k) m in_it) (ap (λ ps. get_or ps p d) was ∙ get_or-map (parcel_after plan w t n k) es p 0 d in_it)
      ∙ parcel_leaps e
      ∙ sym (get_or-map (parcel_after plan w t n (k + m)) es p 0 d in_it))

-- the parcels have symbols for the half bits that are left
pub all_reach : (plan : Plan) (i w t n k : ℕ) (parcels : List Parcel) → k ≤ n → parcels ≡ parcels_after plan i w t n k → ReachFrom k (n - k) parcels
all_reach plan i w t n k parcels below is = λ q d l.
    let es = edges_at plan.layout i in
    let in_it : q < length es = omega (arith, l, ap length is, length-map es (parcel_after plan w t n k)) in
    let e = get_or es q 0 in
    let there : get_or parcels q d ≡ parcel_after plan w t n k e = ap (λ ps. get_or ps q d) is ∙ get_or-map (parcel_after plan w t n k) es q 0 d in_it in
    let long : length (get_or parcels q d).symbols ≡ n = ap (λ (p : Parcel). length p.symbols) there ∙ sum e in
    omega (arith, long)
  where
    sum : (e : ℕ) → length (span (decided plan e) t k ++ span (port_hears plan e) (t + k) (n - k)) ≡ n
    sum e =
        let s = length-append (span (decided plan e) t k) (span (port_hears plan e) (t + k) (n - k)) in
        let a = length-span (decided plan e) t k in
        let b = length-span (port_hears plan e) (t + k) (n - k) in
        omega (arith, s, a, b)
