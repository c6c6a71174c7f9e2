-- The parcels of all edges: those of a segment are scattered among them, those of a repeater follow one another.
use Rattle.std.proofs.Common.{◌≡◌, ◌≢◌, ℕ, zero, suc, Bool, true, false, not, ltb, ◌+◌, ◌*◌, ◌-◌, ◌<◌, ◌≤◌, inl, inr, List, [], ◌∷◌, ◌++◌, map, take, drop, length, get_or, refl, sym, ap, ap₂, ◌∙◌, arith, subst, length-append, All}
use Rattle.std.specs.List.{flat_map}
use Rattle.std.proofs.lemmas.List.{length-map, get_or-map, map-append, append_assoc, append-nil, take-append-le, take_all, get_or_append_left, get_or-append_right}
use Rattle.std.proofs.lemmas.Bool.{cases_eq, cases_lt}
use Rattle.std.proofs.lemmas.Bool.Decides.{nat_tests}
use Rattle.layout.specs.declared.lines.PortLine.{PortLine}
use Rattle.layout.specs.declared.lines.RepeaterLine.{RepeaterLine}
use Rattle.load_plan.specs.declared.plan.Plan.{Plan}
use Rattle.load_plan.proofs.PlansAreSound.{sound_of_plan}
use Rattle.network.specs.TapsOnSegments.{count_on, numbers_on}
use Rattle.network.proofs.TapsOnSegments.{numbers-here, numbers-there, number_at, count_below, length-numbers}
use Rattle.net_parts.specs.declared.parcel.Parcel.{Parcel}
use Rattle.net_parts.specs.Machines.{span}
use Rattle.net_parts.specs.RepeaterParts.{edges_before, edges_in}
use Rattle.net_parts.specs.Parts.{edges_of_part, edges_of_kind, is_segment_part}
use Rattle.net_parts.specs.Parcels.{true_parcel, arrived, refilled, next_stamp}
use Rattle.net_parts.specs.Windows.{edge_ports}
use Rattle.net_parts.proofs.EdgeNumbers.{one_more_before, edges_in_it}
use Rattle.turn_run.specs.ParcelsInTurn.{edges, all_parcels, segment_of_edge, AreHalfway, EachStandsOnce, AreExchanged}
use Rattle.turn_run.proofs.PartsOneByOne.{span_both}
use Rattle.mac_parameters.specs.Parameters.{most_ports}

pub length-span : (k n : ℕ) → length (span (λ (e : ℕ). e) k n) ≡ n
length-span k zero = refl
length-span k (suc n) = ap suc (length-span (suc k) n)

pub span_at : (k n i d : ℕ) → i < n → get_or (span (λ (u : ℕ). u) k n) i d ≡ k + i
span_at k zero i d h = absurd (omega (arith, h))
span_at k (suc n) zero d h = omega arith
span_at k (suc n) (suc i) d h = let rest = span_at (suc k) n i d (omega (arith, h)) in omega (arith, rest)

less : (a b : ℕ) → a < b → ltb a b ≡ true
less a b h = grind (arith, nat_tests)

not_less : (a b : ℕ) → b ≤ a → ltb a b ≡ false
not_less a b h = grind (arith, nat_tests)

abbrev pub no_port : PortLine
no_port = record { segment = 0; at = 0 }

-- the edges on a segment
abbrev IsOn : ℕ → ℕ → PortLine → List PortLine → ℕ → Type 0
IsOn s k d xs e = (k ≤ e) × (e < k + length xs) × ((get_or xs (e - k) d).segment ≡ s)

on_later : (s k : ℕ) (d x : PortLine) (xs : List PortLine) (e : ℕ) → IsOn s (k + 1) d xs e → IsOn s k d (x ∷ xs) e
on_later s k d x xs e r =
    let low = r.0 in
    let high = r.1 in
    let z : e - k ≡ suc (e - (k + 1)) = omega (arith, low) in
    (omega (arith, low), omega (arith, high), ap (λ i. (get_or (x ∷ xs) i d).segment) z ∙ r.2)

on_it : (s k : ℕ) (xs : List PortLine) (j : ℕ) (d : PortLine) → j < length (numbers_on s k xs) → IsOn s k d xs (get_or (numbers_on s k xs) j 0)
on_it s k [] j d h = absurd (omega (arith, h))
on_it s k (x ∷ xs) zero d h = elim (cases_eq x.segment s) [
  | inl on ↦
      let z : k - k ≡ 0 = omega arith in
      subst (λ es. IsOn s k d (x ∷ xs) (get_or es 0 0)) (sym (numbers-here s k x xs on)) (omega arith, omega arith, ap (λ i. (get_or (x ∷ xs) i d).segment) z ∙ on)
  | inr off ↦
      let e = numbers-there s k x xs off in
      subst (λ es. IsOn s k d (x ∷ xs) (get_or es 0 0)) (sym e) (on_later s k d x xs _ (on_it s (k + 1) xs 0 d (let l = ap length e in omega (arith, h, l))))
]
on_it s k (x ∷ xs) (suc j) d h = elim (cases_eq x.segment s) [
  | inl on ↦
      let e = numbers-here s k x xs on in
      subst (λ es. IsOn s k d (x ∷ xs) (get_or es (suc j) 0)) (sym e) (on_later s k d x xs _ (on_it s (k + 1) xs j d (let l = ap length e in omega (arith, h, l))))
  | inr off ↦
      let e = numbers-there s k x xs off in
      subst (λ es. IsOn s k d (x ∷ xs) (get_or es (suc j) 0)) (sym e) (on_later s k d x xs _ (on_it s (k + 1) xs (suc j) d (let l = ap length e in omega (arith, h, l))))
]

ascending : (s k : ℕ) (xs : List PortLine) (i j : ℕ) → i < j → j < length (numbers_on s k xs) → get_or (numbers_on s k xs) i 0 < get_or (numbers_on s k xs) j 0
ascending s k [] i j l h = absurd (omega (arith, h))
ascending s k (x ∷ xs) i zero l h = absurd (omega (arith, l))
ascending s k (x ∷ xs) zero (suc j) l h = elim (cases_eq x.segment s) [
  | inl on ↦
      let e = numbers-here s k x xs on in
      let low = (on_it s (k + 1) xs j x (let m = ap length e in omega (arith, h, m))).0 in
      subst (λ es. get_or es 0 0 < get_or es (suc j) 0) (sym e) (omega (arith, low))
  | inr off ↦
      let e = numbers-there s k x xs off in
      subst (λ es. get_or es 0 0 < get_or es (suc j) 0) (sym e) (ascending s (k + 1) xs 0 (suc j) l (let m = ap length e in omega (arith, h, m)))
]
ascending s k (x ∷ xs) (suc i) (suc j) l h = elim (cases_eq x.segment s) [
  | inl on ↦
      let e = numbers-here s k x xs on in
      subst (λ es. get_or es (suc i) 0 < get_or es (suc j) 0) (sym e) (ascending s (k + 1) xs i j (omega (arith, l)) (let m = ap length e in omega (arith, h, m)))
  | inr off ↦
      let e = numbers-there s k x xs off in
      subst (λ es. get_or es (suc i) 0 < get_or es (suc j) 0) (sym e) (ascending s (k + 1) xs (suc i) (suc j) l (let m = ap length e in omega (arith, h, m)))
]

few_on : (s k : ℕ) (xs : List PortLine) → length (numbers_on s k xs) ≤ length xs
few_on s k [] = omega arith
few_on s k (x ∷ xs) = elim (cases_eq x.segment s) [
  | inl on ↦ let m = ap length (numbers-here s k x xs on) in let rest = few_on s (k + 1) xs in omega (arith, m, rest)
  | inr off ↦ let m = ap length (numbers-there s k x xs off) in let rest = few_on s (k + 1) xs in omega (arith, m, rest)
]

abbrev edges_on : Plan → ℕ → List ℕ
edges_on plan s = numbers_on s 0 (edge_ports plan.layout)

pub edges_of_segment : (plan : Plan) (s : ℕ) → s < length plan.layout.segments → edges_of_part plan s ≡ edges_on plan s
edges_of_segment plan s h = ap (λ b. edges_of_kind plan b s) (less s (length plan.layout.segments) h)

pub comes_to_segment : (plan : Plan) (s w : ℕ) → s < length plan.layout.segments → arrived plan s w ≡ map (true_parcel plan false w) (edges_of_part plan s)
comes_to_segment plan s w h = ap (λ b. map (true_parcel plan (not b) w) (edges_of_part plan s)) (less s (length plan.layout.segments) h)

pub goes_from_segment : (plan : Plan) (s w : ℕ) → s < length plan.layout.segments → refilled plan s w ≡ map (true_parcel plan true w) (edges_of_part plan s)
goes_from_segment plan s w h = ap (λ b. map (true_parcel plan b (next_stamp b w)) (edges_of_part plan s)) (less s (length plan.layout.segments) h)

module _ (plan : Plan) (s : ℕ) (is : s < length plan.layout.segments) where
  pub edges_apart : EachStandsOnce (edges_of_part plan s)
  edges_apart i j l h same =
      let e = edges_of_segment plan s is in
      let up = ascending s 0 (edge_ports plan.layout) i j l (let m = ap length e in omega (arith, h, m)) in
      let eq = sym (ap (λ es. get_or es i 0) e) ∙ same ∙ ap (λ es. get_or es j 0) e in
      omega (arith, up, eq)

  pub edge_here : (j : ℕ) → j < length (edges_of_part plan s) → (get_or (edges_of_part plan s) j 0 < edges plan) × (segment_of_edge plan (get_or (edges_of_part plan s) j 0) ≡ s)
  edge_here j h =
      let e = edges_of_segment plan s is in
      let x = on_it s 0 (edge_ports plan.layout) j no_port (let m = ap length e in omega (arith, h, m)) in
      let high = x.1 in
      let z : get_or (edges_on plan s) j 0 - 0 ≡ get_or (edges_on plan s) j 0 = omega arith in
      subst (λ es. (get_or es j 0 < edges plan) × (segment_of_edge plan (get_or es j 0) ≡ s)) (sym e) (omega (arith, high), sym (ap (segment_of_edge plan) z) ∙ x.2)

  pub edges_within : (n : ℕ) → n ≡ edges plan → All (λ e. e < n) (edges_of_part plan s)
  edges_within n size k d h =
      let x = (edge_here k h).0 in
      let z = other_default (edges_of_part plan s) k d 0 h in
      omega (arith, x, z, size)
    where
      other_default : (xs : List ℕ) (i : ℕ) (c d : ℕ) → i < length xs → get_or xs i c ≡ get_or xs i d
      other_default [] i c d l = absurd (omega (arith, l))
      other_default (y ∷ ys) zero c d l = refl
      other_default (y ∷ ys) (suc i) c d l = other_default ys i c d (omega (arith, l))

  pub edges_few : length (edges_of_part plan s) ≤ edges plan
  edges_few = let e = ap length (edges_of_segment plan s is) in let few = few_on s 0 (edge_ports plan.layout) in omega (arith, e, few)

  -- an edge on the segment has a place among its edges
  pub found : (e : ℕ) → e < edges plan → segment_of_edge plan e ≡ s →
      (let j = count_on s (take e (edge_ports plan.layout)) in (j < length (edges_of_part plan s)) × (get_or (edges_of_part plan s) j 0 ≡ e))
  found e h on =
      let ports = edge_ports plan.layout in
      let j = count_on s (take e ports) in
      let x = edges_of_segment plan s is in
      let below = count_below s ports e no_port h on in
      let size = length-numbers s 0 ports in
      let long = ap length x in
      let at = number_at s 0 ports e no_port h on in
      let same : 0 + e ≡ e = omega arith in
      (omega (arith, below, size, long), ap (λ es. get_or es j 0) x ∙ at ∙ same)

  module _ (w : ℕ) (p h p₁ h₁ h₂ p₂ h₃ : List Parcel) (half : AreHalfway plan w s p) (n : ℕ) (all : n ≡ length (edges_of_part plan s))
      (x : AreExchanged (edges_of_part plan s) n p h p₁ h₁) where
    -- what the hand has for the segment
    pub in_hand : (j : ℕ) (d : Parcel) → j < length (edges_of_part plan s) → get_or h₁ j d ≡ true_parcel plan false w (get_or (edges_of_part plan s) j 0)
    in_hand j d l =
        let e = get_or (edges_of_part plan s) j 0 in
        let here = edge_here j l in
        let on = here.1 in
        x.out j d (omega (arith, all, l)) ∙ half.coming e d here.0 (omega (arith, on))

    -- and where it has what the segment gives, that goes back
    pub one_gone : ((j : ℕ) (d : Parcel) → j < length (edges_of_part plan s) → get_or h₂ j d ≡ true_parcel plan true w (get_or (edges_of_part plan s) j 0))
        → AreExchanged (edges_of_part plan s) n p₁ h₂ p₂ h₃ → AreHalfway plan w (s + 1) p₂
    one_gone made y = record {
      many = y.many ∙ x.many ∙ half.many;
      gone = λ e d h' low. elim (cases_eq (segment_of_edge plan e) s) [
        | inl on ↦
            let f = found e h' on in
            let j = count_on s (take e (edge_ports plan.layout)) in
            let in' = f.0 in
            sym (ap (λ i. get_or p₂ i d) f.1) ∙ y.back j d (omega (arith, in', all)) ∙ made j d in' ∙ ap (true_parcel plan true w) f.1
        | inr off ↦ untouched e d off ∙ half.gone e d h' (omega (arith, low, off))
      ];
      coming = λ e d h' low.
          let off : segment_of_edge plan e ≢ s = λ on. omega (arith, on, low) in
          untouched e d off ∙ half.coming e d h' (omega (arith, low));
    }
      where
        untouched : (e : ℕ) (d : Parcel) → segment_of_edge plan e ≢ s → get_or p₂ e d ≡ get_or p e d
        untouched e d off =
            let none : (j : ℕ) → j < n → get_or (edges_of_part plan s) j 0 ≢ e = λ j l same. off (sym (ap (segment_of_edge plan) same) ∙ (edge_here j (omega (arith, l, all))).1) in
            y.others e d none ∙ x.others e d none

-- all on the way to the segments, and all on the way to the repeaters
pub get_all : (plan : Plan) (way : Bool) (w e : ℕ) (d : Parcel) → e < edges plan → get_or (all_parcels plan way w) e d ≡ true_parcel plan way w e
get_all plan way w e d h =
    let size = length-span 0 (edges plan) in
    let at = span_at 0 (edges plan) e 0 h in
    let same : 0 + e ≡ e = omega arith in
    get_or-map (true_parcel plan way w) (span (λ (u : ℕ). u) 0 (edges plan)) e 0 d (omega (arith, size, h)) ∙ ap (true_parcel plan way w) (at ∙ same)

pub length-all : (plan : Plan) (way : Bool) (w : ℕ) → length (all_parcels plan way w) ≡ edges plan
length-all plan way w = length-map (span (λ (u : ℕ). u) 0 (edges plan)) (true_parcel plan way w) ∙ length-span 0 (edges plan)

pub none_gone : (plan : Plan) (w : ℕ) (p : List Parcel) → p ≡ all_parcels plan false w → AreHalfway plan w 0 p
none_gone plan w p is = record {
  many = ap length is ∙ length-all plan false w;
  gone = λ e d h low. absurd (omega (arith, low));
  coming = λ e d h low. ap (λ xs. get_or xs e d) is ∙ get_all plan false w e d h;
}

same_lists : (xs ys : List Parcel) → length xs ≡ length ys → ((i : ℕ) (d : Parcel) → i < length xs → get_or xs i d ≡ get_or ys i d) → xs ≡ ys
same_lists [] [] l each = refl
same_lists [] (y ∷ ys) l each = absurd (omega (arith, l))
same_lists (x ∷ xs) [] l each = absurd (omega (arith, l))
same_lists (x ∷ xs) (y ∷ ys) l each = ap₂ ◌∷◌ (each 0 x (omega arith)) (same_lists xs ys (omega (arith, l)) (λ i d h. each (suc i) d (omega (arith, h))))

pub ports_within : (n : ℕ) (rs : List RepeaterLine) → All (λ r. All (λ (x : PortLine). x.segment < n) r.ports) rs → (e : ℕ) (d : PortLine) → e < length (flat_map (λ (r : RepeaterLine). r.ports) rs)
    → (get_or (flat_map (λ (r : RepeaterLine). r.ports) rs) e d).segment < n
ports_within n [] all e d h = absurd (omega (arith, h))
ports_within n (r ∷ rs) all e d h = elim (cases_lt e (length r.ports)) [
  | inl here ↦
      let at = ap (λ (x : PortLine). x.segment) (get_or_append_left r.ports (flat_map (λ (q : RepeaterLine). q.ports) rs) d e here) in
      let ok = all 0 r (omega arith) e d here in
      omega (arith, at, ok)
  | inr out ↦
      let at = ap (λ (x : PortLine). x.segment) (get_or-append_right r.ports (flat_map (λ (q : RepeaterLine). q.ports) rs) (length r.ports) e d refl out) in
      let size = length-append r.ports (flat_map (λ (q : RepeaterLine). q.ports) rs) in
      let ok = ports_within n rs (λ k q l. all (suc k) q (omega (arith, l))) (e - length r.ports) d (omega (arith, size, h, out)) in
      omega (arith, at, ok)
]

pub all_gone : (plan : Plan) (w done : ℕ) (p : List Parcel) → AreHalfway plan w done p → done ≡ length plan.layout.segments → p ≡ all_parcels plan true w
all_gone plan w done p half all =
    let size = length-all plan true w in
    let sound = sound_of_plan plan in
    let m = half.many in
    same_lists p (all_parcels plan true w) (m ∙ sym size) (λ e d h.
    let in' : e < edges plan = omega (arith, h, m) in
    let on = ports_within (length plan.layout.segments) plan.layout.repeaters (λ k r l i x l'. ((sound.repeaters k r l).ports i x l').segment) e no_port in' in
    half.gone e d in' (omega (arith, on, all)) ∙ sym (get_all plan true w e d in'))

-- the edges of a repeater
not_segment : (plan : Plan) (i : ℕ) → is_segment_part plan (length plan.layout.segments + i) ≡ false
not_segment plan i = not_less (length plan.layout.segments + i) (length plan.layout.segments) (omega arith)

pub edges_of_repeater : (plan : Plan) (u i : ℕ) → u ≡ length plan.layout.segments + i → edges_of_part plan u ≡ span (λ e. e) (edges_before plan.layout.repeaters i) (edges_in plan.layout.repeaters i)
edges_of_repeater plan u i is =
    let rs = plan.layout.repeaters in
    let n = length plan.layout.segments in
    let z : n + i - n ≡ i = omega arith in
    ap (edges_of_part plan) is
    ∙ ap (λ b. edges_of_kind plan b (n + i)) (not_segment plan i)
    ∙ ap (λ j. span (λ (e : ℕ). e) (edges_before rs j) (edges_in rs j)) z

pub comes_to_repeater : (plan : Plan) (u i w : ℕ) → u ≡ length plan.layout.segments + i
    → arrived plan u w ≡ map (true_parcel plan true w) (span (λ e. e) (edges_before plan.layout.repeaters i) (edges_in plan.layout.repeaters i))
comes_to_repeater plan u i w is =
    ap (λ v. map (true_parcel plan (not (is_segment_part plan v)) w) (edges_of_part plan u)) is
    ∙ ap₂ (λ b es. map (true_parcel plan (not b) w) es) (not_segment plan i) (edges_of_repeater plan u i is)

pub goes_from_repeater : (plan : Plan) (u i w : ℕ) → u ≡ length plan.layout.segments + i
    → refilled plan u w ≡ map (true_parcel plan false (w + 1)) (span (λ e. e) (edges_before plan.layout.repeaters i) (edges_in plan.layout.repeaters i))
goes_from_repeater plan u i w is =
    ap (λ v. map (true_parcel plan (is_segment_part plan v) (next_stamp (is_segment_part plan v) w)) (edges_of_part plan u)) is
    ∙ ap₂ (λ b es. map (true_parcel plan b (next_stamp b w)) es) (not_segment plan i) (edges_of_repeater plan u i is)

pub before_more : (rs : List RepeaterLine) (i : ℕ) → i < length rs → edges_before rs (i + 1) ≡ edges_before rs i + edges_in rs i
before_more [] i h = absurd (omega (arith, h))
before_more (r ∷ rs) i h = let a = one_more_before (r ∷ rs) i r h in let b = edges_in_it (r ∷ rs) i r h in omega (arith, a, b)

pub before_most : (rs : List RepeaterLine) (i : ℕ) → edges_before rs i + edges_in rs i ≤ length (flat_map (λ (r : RepeaterLine). r.ports) rs)
before_most [] i = omega arith
before_most (r ∷ rs) zero = let size = length-append r.ports (flat_map (λ (q : RepeaterLine). q.ports) rs) in omega (arith, size)
before_most (r ∷ rs) (suc i) = let size = length-append r.ports (flat_map (λ (q : RepeaterLine). q.ports) rs) in let rest = before_most rs i in omega (arith, size, rest)

pub before_all : (rs : List RepeaterLine) → edges_before rs (length rs) ≡ length (flat_map (λ (r : RepeaterLine). r.ports) rs)
before_all [] = refl
before_all (r ∷ rs) = let size = length-append r.ports (flat_map (λ (q : RepeaterLine). q.ports) rs) in let rest = before_all rs in omega (arith, size, rest)

-- the parcels of the repeaters so far went back, those of the others are still to go
abbrev pub back_to : Plan → ℕ → ℕ → List Parcel
back_to plan w first = map (true_parcel plan false (w + 1)) (span (λ e. e) 0 first) ++ map (true_parcel plan true w) (span (λ e. e) first (edges plan - first))

few_ports : (rs : List RepeaterLine) → All (λ r. length r.ports ≤ most_ports) rs → length (flat_map (λ (r : RepeaterLine). r.ports) rs) ≤ most_ports * length rs
few_ports [] all = omega arith
few_ports (r ∷ rs) all =
    let size = length-append r.ports (flat_map (λ (q : RepeaterLine). q.ports) rs) in
    let one = all 0 r (omega arith) in
    let rest = few_ports rs (λ k q l. all (suc k) q (omega (arith, l))) in
    omega (arith, size, one, rest)

pub few_edges : (plan : Plan) → edges plan ≤ 4096
few_edges plan =
    let sound = sound_of_plan plan in
    let most = sound.repeaters_most in
    let few = few_ports plan.layout.repeaters (λ k r l. (sound.repeaters k r l).ports_most) in
    omega (arith, most, few)

length-back : (plan : Plan) (w first : ℕ) → first ≤ edges plan → length (back_to plan w first) ≡ edges plan
length-back plan w first l =
    let F = true_parcel plan false (w + 1) in
    let T = true_parcel plan true w in
    let a = span (λ (e : ℕ). e) 0 first in
    let b = span (λ (e : ℕ). e) first (edges plan - first) in
    let two = length-append (map F a) (map T b) in
    let one = length-map a F in
    let rest = length-map b T in
    let p = length-span 0 first in
    let q = length-span first (edges plan - first) in
    omega (arith, two, one, rest, p, q, l)

pub none_back : (plan : Plan) (w : ℕ) (p : List Parcel) → p ≡ all_parcels plan true w → p ≡ back_to plan w 0
none_back plan w p is = is ∙ ap (λ n. map (true_parcel plan true w) (span (λ (e : ℕ). e) 0 n)) (omega arith)

pub all_back : (plan : Plan) (w first : ℕ) (p : List Parcel) → p ≡ back_to plan w first → first ≡ edges plan → p ≡ all_parcels plan false (w + 1)
all_back plan w first p is all =
    let z : edges plan - edges plan ≡ 0 = omega arith in
    is ∙ ap (back_to plan w) all ∙ ap (λ n. map (true_parcel plan false (w + 1)) (span (λ (e : ℕ). e) 0 (edges plan)) ++ map (true_parcel plan true w) (span (λ (e : ℕ). e) (edges plan) n)) z ∙ append-nil (all_parcels plan false (w + 1))

take-exact : (n : ℕ) (xs ys : List Parcel) → length xs ≡ n → take n (xs ++ ys) ≡ xs
take-exact n xs ys l = take-append-le n xs ys (omega (arith, l)) ∙ take_all n xs (omega (arith, l))

drop-exact : (n : ℕ) (xs ys : List Parcel) → length xs ≡ n → drop n (xs ++ ys) ≡ ys
drop-exact zero [] ys l = refl
drop-exact zero (x ∷ xs) ys l = absurd (omega (arith, l))
drop-exact (suc n) [] ys l = absurd (omega (arith, l))
drop-exact (suc n) (x ∷ xs) ys l = drop-exact n xs ys (omega (arith, l))

module _ (plan : Plan) (w i u : ℕ) (is : u ≡ length plan.layout.segments + i) (in' : i < length plan.layout.repeaters) (p : List Parcel) (so_far : p ≡ back_to plan w (edges_before plan.layout.repeaters i)) where
  abbrev first : ℕ
  first = edges_before plan.layout.repeaters i

  abbrev count : ℕ
  count = edges_in plan.layout.repeaters i

  pub counted : length (edges_of_part plan u) ≡ count
  counted = ap length (edges_of_repeater plan u i is) ∙ length-span first count

  pub most : first + count ≤ edges plan
  most = before_most plan.layout.repeaters i

  pub long : length p ≡ edges plan
  long = let m = most in ap length so_far ∙ length-back plan w first (omega (arith, m))

  abbrev A : List Parcel
  A = map (true_parcel plan false (w + 1)) (span (λ e. e) 0 first)

  abbrev B : List Parcel
  B = map (true_parcel plan true w) (span (λ e. e) first count)

  abbrev C : List Parcel
  C = map (true_parcel plan true w) (span (λ e. e) (first + count) (edges plan - (first + count)))

  abbrev D : List Parcel
  D = map (true_parcel plan false (w + 1)) (span (λ e. e) first count)

  length-A : length A ≡ first
  length-A = length-map (span (λ (e : ℕ). e) 0 first) (true_parcel plan false (w + 1)) ∙ length-span 0 first

  length-B : length B ≡ count
  length-B = length-map (span (λ (e : ℕ). e) first count) (true_parcel plan true w) ∙ length-span first count

  three : p ≡ A ++ (B ++ C)
  three =
      let m = most in
      let z : edges plan - first ≡ count + (edges plan - (first + count)) = omega (arith, m) in
      so_far
      ∙ ap (λ n. A ++ map (true_parcel plan true w) (span (λ (e : ℕ). e) first n)) z
      ∙ ap (λ es. A ++ map (true_parcel plan true w) es) (span_both first count (edges plan - (first + count)))
      ∙ ap (λ xs. A ++ xs) (map-append (true_parcel plan true w) (span (λ (e : ℕ). e) first count) (span (λ (e : ℕ). e) (first + count) (edges plan - (first + count))))

  before_it : take first p ≡ A
  before_it = ap (take first) three ∙ take-exact first A (B ++ C) length-A

  pub comes : take count (drop first p) ≡ arrived plan u w
  comes = ap (λ xs. take count (drop first xs)) three ∙ ap (take count) (drop-exact first A (B ++ C) length-A) ∙ take-exact count B C length-B ∙ sym (comes_to_repeater plan u i w is)

  behind_it : drop count (drop first p) ≡ C
  behind_it = ap (λ xs. drop count (drop first xs)) three ∙ ap (drop count) (drop-exact first A (B ++ C) length-A) ∙ drop-exact count B C length-B

  pub went : (made after : List Parcel) → made ≡ refilled plan u w → after ≡ take first p ++ (made ++ drop count (drop first p)) → after ≡ back_to plan w (first + count)
  went made after m e =
      let F = true_parcel plan false (w + 1) in
      e
      ∙ ap₂ (λ a c. a ++ (made ++ c)) before_it behind_it
      ∙ ap (λ xs. A ++ (xs ++ C)) (m ∙ goes_from_repeater plan u i w is)
      ∙ sym (append_assoc A D C)
      ∙ ap (λ xs. xs ++ C) (sym (map-append F (span (λ (x : ℕ). x) 0 first) (span (λ (x : ℕ). x) first count)) ∙ ap (map F) (ap (λ k. span (λ (x : ℕ). x) 0 first ++ span (λ (x : ℕ). x) k count) (omega arith) ∙ sym (span_both 0 first count)))
