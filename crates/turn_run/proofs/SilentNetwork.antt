-- A network in which nothing happens for some windows: nothing but Idle goes over any edge.
use Rattle.std.proofs.Common.{◌≡◌, ◌≢◌, ℕ, zero, suc, Bool, true, false, cond, ltb, ◌+◌, ◌*◌, ◌-◌, ◌<◌, ◌≤◌, min, inl, inr, All, List, [], ◌∷◌, ◌++◌, map, take, length, replicate, get_or, refl, sym, ap, ap₂, ◌∙◌, arith, subst, length-append, mul-le-mul_right}
use Rattle.std.specs.List.{flat_map}
use Rattle.std.proofs.lemmas.List.{length-map, get_or-map}
use Rattle.std.proofs.lemmas.Bool.{cases_eq, cases_lt}
use Rattle.std.proofs.lemmas.Bool.Decides.{nat_tests}
use Rattle.mac_parameters.specs.Parameters.{most_half_bits}
use Rattle.manchester_line.specs.declared.Sym.{Sym}
use Rattle.manchester_line.specs.declared.Sym.TheVariants.{Idle}
use Rattle.layout.specs.declared.lines.PortLine.{PortLine}
use Rattle.layout.specs.declared.lines.RepeaterLine.{RepeaterLine}
use Rattle.load_plan.specs.declared.plan.Plan.{Plan}
use Rattle.load_plan.proofs.PlansAreSound.{sound_of_plan}
use Rattle.network.specs.Outputs.{half_bits}
use Rattle.network.proofs.RunnablePlans.{runnable_plan}
use Rattle.network.specs.TapsOnSegments.{count_on}
use Rattle.network.specs.Times.{decided}
use Rattle.net_parts.specs.declared.parcel.Parcel.{Parcel}
use Rattle.net_parts.specs.Machines.{span}
use Rattle.net_parts.specs.Parcels.{true_symbols, true_parcel}
use Rattle.net_parts.specs.Parts.{edges_of_part}
use Rattle.net_parts.specs.RepeaterParts.{edges_before, edges_in}
use Rattle.net_parts.specs.Standing.{arrives, port_hears}
use Rattle.net_parts.specs.Windows.{edge_ports, lookahead, windows}
use Rattle.net_parts.proofs.LateRows.{map-map, map_alike}
use Rattle.net_parts.proofs.RepeaterSteps.{get_or-span}
use Rattle.net_parts.proofs.WindowTimes.{some_lead, begins_in_run}
use Rattle.turn_run.specs.ParcelsInTurn.{edges, all_parcels, segment_of_edge}
use Rattle.turn_run.specs.PartsInTurn.{IsAtWindow, AreAtWindow, IsLater}
use Rattle.turn_run.specs.SilentWindows.{IsIdleOver, StaysIdle, stamped}
use Rattle.turn_run.proofs.ParcelsOnTheirWay.{edge_here, found, edges_of_repeater, before_most, get_all, length-all, length-span, span_at, no_port, ports_within}

pub idle_for_fewer : (comes goes : ℕ → ℕ → Sym) (es : List ℕ) (t n m : ℕ) → m ≤ n → StaysIdle comes goes es t n → StaysIdle comes goes es t m
idle_for_fewer comes goes es t n m few stays k h idle = stays k (omega (arith, h, few)) idle

-- the repeater of an edge
at_repeater : {P : Type 0} (rs : List RepeaterLine) (e : ℕ) → e < length (flat_map (λ (r : RepeaterLine). r.ports) rs)
    → ((i : ℕ) → i < length rs → edges_before rs i ≤ e → e < edges_before rs i + edges_in rs i → P) → P
at_repeater [] e h then = absurd (omega (arith, h))
at_repeater (r ∷ rs) e h then =
    let size = length-append r.ports (flat_map (λ (q : RepeaterLine). q.ports) rs) in
    elim (cases_lt e (length r.ports)) [
      | inl here ↦ then 0 (omega arith) (omega arith) (omega (arith, here))
      | inr out ↦ at_repeater rs (e - length r.ports) (omega (arith, h, size, out)) (λ i in' low high. then (suc i) (omega (arith, in')) (omega (arith, low, out)) (omega (arith, high, out)))
    ]

span_same : {X : Type 0} (f : ℕ → X) (k n : ℕ) (x : X) → ((i : ℕ) → i < n → f (k + i) ≡ x) → span f k n ≡ replicate n x
span_same f k zero x h = refl
span_same f k (suc n) x h =
    ap₂ ◌∷◌ ((let z : k ≡ k + 0 = omega arith in ap f z) ∙ h 0 (omega arith))
    (span_same f (suc k) n x (λ i l. (let z : suc k + i ≡ k + suc i = omega arith in ap f z) ∙ h (suc i) (omega (arith, l))))

less : (a b : ℕ) → a < b → ltb a b ≡ true
less a b h = grind (arith, nat_tests)

not_less : (a b : ℕ) → b ≤ a → ltb a b ≡ false
not_less a b h = grind (arith, nat_tests)

-- nothing but Idle, over all edges of a plan
abbrev AllIdle : Plan → (ℕ → ℕ → Sym) → ℕ → ℕ → Type 0
AllIdle plan f t m = (e j : ℕ) → e < edges plan → j < m → f e (t + j) ≡ Idle

module _ (plan : Plan) (w n : ℕ)
    (segs : (s : ℕ) → s < length plan.layout.segments → StaysIdle (arrives plan (lookahead plan.layout)) (port_hears plan) (edges_of_part plan s) (w * lookahead plan.layout) (n * lookahead plan.layout))
    (reps : (i : ℕ) → i < length plan.layout.repeaters → StaysIdle (port_hears plan) (decided plan) (edges_of_part plan (length plan.layout.segments + i)) (w * lookahead plan.layout) (n * lookahead plan.layout))
    (first : AllIdle plan (arrives plan (lookahead plan.layout)) (w * lookahead plan.layout) (lookahead plan.layout)) where
  abbrev L : ℕ
  L = lookahead plan.layout

  abbrev t : ℕ
  t = w * L

  segment_within : (e : ℕ) → e < edges plan → segment_of_edge plan e < length plan.layout.segments
  segment_within e h =
      let sound = sound_of_plan plan in
      ports_within (length plan.layout.segments) plan.layout.repeaters (λ k r l i x l'. ((sound.repeaters k r l).ports i x l').segment) e no_port h

  heard_from : (m : ℕ) → m ≤ n * L → AllIdle plan (arrives plan L) t m → AllIdle plan (port_hears plan) t m
  heard_from m few come e j h l =
      let s = segment_of_edge plan e in
      let in' = segment_within e h in
      let at = found plan s in' e h refl in
      let p = count_on s (take e (edge_ports plan.layout)) in
      ap (λ x. port_hears plan x (t + j)) (sym at.1)
      ∙ segs s in' m few (λ q i h' l'. come (get_or (edges_of_part plan s) q 0) i (edge_here plan s in' q h').0 l') p j at.0 l

  decided_from : (m : ℕ) → m ≤ n * L → AllIdle plan (port_hears plan) t m → AllIdle plan (decided plan) t m
  decided_from m few hear e j h l = at_repeater plan.layout.repeaters e h (λ i in' low high.
      let rs = plan.layout.repeaters in
      let b = edges_before rs i in
      let c = edges_in rs i in
      let es = edges_of_part plan (length plan.layout.segments + i) in
      let es_are = edges_of_repeater plan (length plan.layout.segments + i) i refl in
      let long : length es ≡ c = ap length es_are ∙ length-span b c in
      let at : (q : ℕ) → q < c → get_or es q 0 ≡ b + q = λ q h'. ap (λ xs. get_or xs q 0) es_are ∙ span_at b c q 0 h' in
      let most = before_most rs i in
      let back : b + (e - b) ≡ e = omega (arith, low) in
      ap (λ x. decided plan x (t + j)) (sym (at (e - b) (omega (arith, low, high)) ∙ back))
      ∙ reps i in' m few (λ q k h' l'.
      let q_in : q < c = omega (arith, h', long) in
      ap (λ x. port_hears plan x (t + k)) (at q q_in) ∙ hear (b + q) k (omega (arith, most, q_in)) l') (e - b) j (omega (arith, low, high, long)) l)

  arrives_next : (m : ℕ) → AllIdle plan (decided plan) t m → AllIdle plan (arrives plan L) t (m + L)
  arrives_next m decide e j h l = elim (cases_lt j L) [
    | inl early ↦ first e j h early
    | inr late ↦
        let u = t + j in
        let past : ltb u L ≡ false = not_less u L (omega (arith, late)) in
        let back : u - L ≡ t + (j - L) = omega (arith, late) in
        ap (λ b. cond b Idle (decided plan e (u - L))) past ∙ ap (decided plan e) back ∙ decide e (j - L) h (omega (arith, late, l))
  ]

  come : (k : ℕ) → k ≤ n → AllIdle plan (arrives plan L) t (k * L + L)
  come zero few = λ e j h l. first e j h (omega (arith, l))
  come (suc k) few =
      let more : suc k * L ≡ k * L + L = (let z : suc k ≡ k + 1 = omega arith in ap (λ x. x * L) z ∙ omega arith) in
      let within : k * L + L ≤ n * L = (let all : suc k * L ≤ n * L = mul-le-mul_right L few in omega (arith, all, more)) in
      let so_far = come k (omega (arith, few)) in
      let next = arrives_next (k * L + L) (decided_from (k * L + L) within (heard_from (k * L + L) within so_far)) in
      λ e j h l. next e j h (omega (arith, l, more))

  pub all_come : AllIdle plan (arrives plan L) t (n * L + L)
  all_come = come n (omega arith)

  pub all_heard : AllIdle plan (port_hears plan) t (n * L)
  all_heard = heard_from (n * L) (omega arith) (λ e j h l. all_come e j h (omega (arith, l)))

  -- what comes to a segment and to a repeater in these windows
  pub comes_to_segments : (s : ℕ) → s < length plan.layout.segments → IsIdleOver (arrives plan L) (edges_of_part plan s) t (n * L)
  comes_to_segments s in' p j h l = all_come (get_or (edges_of_part plan s) p 0) j (edge_here plan s in' p h).0 (omega (arith, l))

  pub comes_to_repeaters : (i : ℕ) → i < length plan.layout.repeaters → IsIdleOver (port_hears plan) (edges_of_part plan (length plan.layout.segments + i)) t (n * L)
  comes_to_repeaters i in' p j h l =
      let rs = plan.layout.repeaters in
      let b = edges_before rs i in
      let c = edges_in rs i in
      let es = edges_of_part plan (length plan.layout.segments + i) in
      let es_are = edges_of_repeater plan (length plan.layout.segments + i) i refl in
      let long : length es ≡ c = ap length es_are ∙ length-span b c in
      let p_in : p < c = omega (arith, h, long) in
      let most = before_most rs i in
      ap (λ x. port_hears plan x (t + j)) (ap (λ xs. get_or xs p 0) es_are ∙ span_at b c p 0 p_in) ∙ all_heard (b + p) j (omega (arith, most, p_in)) l

-- a run has few windows
pub few_windows : (plan : Plan) (v : ℕ) → v < windows plan → v < most_half_bits
few_windows plan v below =
    let L = lookahead plan.layout in
    let lead = some_lead plan in
    let begins = begins_in_run plan v below in
    let short = (runnable_plan plan).short in
    let wide : 1 * v ≤ L * v = mul-le-mul_right v lead in
    omega (arith, begins, short, wide)

-- what a parcel brings to its segment
symbols_of : (plan : Plan) (v e : ℕ) → v < windows plan → true_symbols plan false e v ≡ span (arrives plan (lookahead plan.layout) e) (v * lookahead plan.layout) (lookahead plan.layout)
unfolding true_symbols
symbols_of plan v e below =
    let L = lookahead plan.layout in
    let b = begins_in_run plan v below in
    let many : min L (half_bits plan + L - v * L) ≡ L = omega (arith, b) in
    ap (span (arrives plan L e) (v * L)) many

-- parcels that are idle say so of what comes in
pub first_idle : (plan : Plan) (w : ℕ) (ps : List Parcel) → w < windows plan → ps ≡ all_parcels plan false w → All (λ p. All (λ s. s ≡ Idle) p.symbols) ps
    → AllIdle plan (arrives plan (lookahead plan.layout)) (w * lookahead plan.layout) (lookahead plan.layout)
first_idle plan w ps below are idle e j h l =
    let L = lookahead plan.layout in
    let d = true_parcel plan false w 0 in
    let many = ap length are ∙ length-all plan false w in
    let one : get_or ps e d ≡ true_parcel plan false w e = ap (λ xs. get_or xs e d) are ∙ get_all plan false w e d h in
    let symbols : (get_or ps e d).symbols ≡ span (arrives plan L e) (w * L) L = ap (λ (p : Parcel). p.symbols) one ∙ symbols_of plan w e below in
    let size : length (get_or ps e d).symbols ≡ L = ap length symbols ∙ sizes (arrives plan L e) (w * L) L in
    sym (ap (λ xs. get_or xs j Idle) symbols ∙ get_or-span (arrives plan L e) (w * L) L j Idle l) ∙ idle e d (omega (arith, many, h)) j Idle (omega (arith, size, l))
  where
    sizes : (f : ℕ → Sym) (k n : ℕ) → length (span f k n) ≡ n
    sizes f k zero = refl
    sizes f k (suc n) = ap suc (sizes f (suc k) n)

-- parcels that bring nothing but Idle, with a later stamp
pub stamped_later : (plan : Plan) (w n : ℕ) (ps : List Parcel) → w + n < windows plan → ps ≡ all_parcels plan false w
    → AllIdle plan (arrives plan (lookahead plan.layout)) (w * lookahead plan.layout) (n * lookahead plan.layout + lookahead plan.layout) → map (stamped (w + n)) ps ≡ all_parcels plan false (w + n)
stamped_later plan w n ps below are idle =
    let L = lookahead plan.layout in
    let es = span (λ (e : ℕ). e) 0 (edges plan) in
    let size = length-span 0 (edges plan) in
    ap (map (stamped (w + n))) are
    ∙ map-map (stamped (w + n)) (true_parcel plan false w) es
    ∙ map_alike (λ e. stamped (w + n) (true_parcel plan false w e)) (true_parcel plan false (w + n)) es (λ i h.
    let e = get_or es i 0 in
    let is : e ≡ 0 + i = span_at 0 (edges plan) i 0 (omega (arith, size, h)) in
    let in' : e < edges plan = omega (arith, is, size, h) in
    let now : true_symbols plan false e w ≡ replicate L Idle = symbols_of plan w e (omega (arith, below)) ∙ span_same (arrives plan L e) (w * L) L Idle (λ j l. idle e j in' (omega (arith, l))) in
    let start : (w + n) * L ≡ w * L + n * L = omega arith in
    let later : true_symbols plan false e (w + n) ≡ replicate L Idle =
    symbols_of plan (w + n) e below
    ∙ span_same (arrives plan L e) ((w + n) * L) L Idle (λ j l. (let z : (w + n) * L + j ≡ w * L + (n * L + j) = omega (arith, start) in ap (arrives plan L e) z) ∙ idle e (n * L + j) in' (omega (arith, l))) in
    ap (λ ss. let p : Parcel = record { edge = e; window = w + n; to_repeater = false; symbols = ss; spoiled = false } in p) (now ∙ sym later))

an_element : {S : Type 0} (xs : List S) → 0 < length xs → S
an_element [] h = absurd (omega (arith, h))
an_element (x ∷ xs) h = x

-- parts of a kind, each at window w
module _ {S : Type 0} (plan_of : S → Plan) (number at : S → ℕ) (plan : Plan) (first count w : ℕ) (ss : List S) (are : AreAtWindow plan_of number at plan first count w ss) where
  pub all_running : w < windows plan → All (λ s. at s < windows (plan_of s)) ss
  all_running below k d h =
      let long = are.long in
      let is = are.each k d (omega (arith, h, long)) in
      let here = is.2 in
      let same : windows (plan_of (get_or ss k d)) ≡ windows plan = ap windows is.0 in
      omega (arith, here, same, below)

  module _ (n : ℕ) where
    pub all_within : w + n < windows plan → All (λ s. at s + n < windows (plan_of s)) ss
    all_within below k d h =
        let long = are.long in
        let is = are.each k d (omega (arith, h, long)) in
        let here = is.2 in
        let same : windows (plan_of (get_or ss k d)) ≡ windows plan = ap windows is.0 in
        omega (arith, here, same, below)

    pub all_later : (ss' : List S) → length ss' ≡ length ss → ((k : ℕ) (d : S) → k < length ss' → IsLater plan_of number at n (get_or ss k d) (get_or ss' k d)) → AreAtWindow plan_of number at plan first count (w + n) ss'
    all_later ss' len later =
        let long = are.long in
        record {
          long = len ∙ long;
          each = λ k d h.
              let is = are.each k d h in
              let x = later k d (omega (arith, h, len, long)) in
              (x.0 ∙ is.0, x.1 ∙ is.1, x.2 ∙ ap (λ v. v + n) is.2);
        }

    module _ (comes goes : Plan → ℕ → ℕ → Sym) (f g : ℕ → ℕ → Sym) (comes_is : (e u : ℕ) → comes plan e u ≡ f e u) (goes_is : (e u : ℕ) → goes plan e u ≡ g e u) where
      pub each_stays : All (λ s. StaysIdle (comes (plan_of s)) (goes (plan_of s)) (edges_of_part (plan_of s) (number s)) (at s * lookahead (plan_of s).layout) (n * lookahead (plan_of s).layout)) ss
          → (k : ℕ) → k < count → StaysIdle f g (edges_of_part plan (first + k)) (w * lookahead plan.layout) (n * lookahead plan.layout)
      each_stays all k h m few idle p j in' l =
          let long = are.long in
          let d = an_element ss (omega (arith, h, long)) in
          let s = get_or ss k d in
          let is = are.each k d h in
          let P : Plan → ℕ → ℕ → Type 0 = λ q u v. StaysIdle (comes q) (goes q) (edges_of_part q u) (v * lookahead q.layout) (n * lookahead q.layout) in
          let x : P (plan_of s) (number s) (at s) = all k d (omega (arith, h, long)) in
          let y : P plan (first + k) w = subst (λ q. P q (first + k) w) is.0 (subst (λ u. P (plan_of s) u w) is.1 (subst (λ v. P (plan_of s) (number s) v) is.2 x)) in
          let es = edges_of_part plan (first + k) in
          sym (goes_is (get_or es p 0) (w * lookahead plan.layout + j)) ∙ y m few (λ q i hq hi. comes_is (get_or es q 0) (w * lookahead plan.layout + i) ∙ idle q i hq hi) p j in' l

      pub each_idle : ((k : ℕ) → k < count → IsIdleOver f (edges_of_part plan (first + k)) (w * lookahead plan.layout) (n * lookahead plan.layout))
          → All (λ s. IsIdleOver (comes (plan_of s)) (edges_of_part (plan_of s) (number s)) (at s * lookahead (plan_of s).layout) (n * lookahead (plan_of s).layout)) ss
      each_idle idle k d h =
          let long = are.long in
          let in' : k < count = omega (arith, h, long) in
          let s = get_or ss k d in
          let is = are.each k d in' in
          let P : Plan → ℕ → ℕ → Type 0 = λ q u v. IsIdleOver (comes q) (edges_of_part q u) (v * lookahead q.layout) (n * lookahead q.layout) in
          let y : P plan (first + k) w = λ p j hp l. comes_is (get_or (edges_of_part plan (first + k)) p 0) (w * lookahead plan.layout + j) ∙ idle k in' p j hp l in
          subst (λ v. P (plan_of s) (number s) v) (sym is.2) (subst (λ u. P (plan_of s) u w) (sym is.1) (subst (λ q. P q (first + k) w) (sym is.0) y))

-- a run before window w, of whose parts nothing happens at any in n windows as long as nothing but Idle comes to it, and
-- whose parcels bring nothing else
module _ {S R : Type 0} (plan_s : S → Plan) (number_s at_s : S → ℕ) (comes_s goes_s : Plan → ℕ → ℕ → Sym) (plan_r : R → Plan) (number_r at_r : R → ℕ) (comes_r goes_r : Plan → ℕ → ℕ → Sym) (plan : Plan) (w n : ℕ)
    (arrive : (e u : ℕ) → comes_s plan e u ≡ arrives plan (lookahead plan.layout) e u) (heard : (e u : ℕ) → goes_s plan e u ≡ port_hears plan e u)
    (hear : (e u : ℕ) → comes_r plan e u ≡ port_hears plan e u) (decide : (e u : ℕ) → goes_r plan e u ≡ decided plan e u)
    (ss : List S) (rs : List R) (segments : AreAtWindow plan_s number_s at_s plan 0 (length plan.layout.segments) w ss) (repeaters : AreAtWindow plan_r number_r at_r plan (length plan.layout.segments) (length plan.layout.repeaters) w rs)
    (silent_s : All (λ s. StaysIdle (comes_s (plan_s s)) (goes_s (plan_s s)) (edges_of_part (plan_s s) (number_s s)) (at_s s * lookahead (plan_s s).layout) (n * lookahead (plan_s s).layout)) ss)
    (silent_r : All (λ s. StaysIdle (comes_r (plan_r s)) (goes_r (plan_r s)) (edges_of_part (plan_r s) (number_r s)) (at_r s * lookahead (plan_r s).layout) (n * lookahead (plan_r s).layout)) rs)
    (ps : List Parcel) (below : w < windows plan) (parcels : ps ≡ all_parcels plan false w) (idle : All (λ p. All (λ s. s ≡ Idle) p.symbols) ps) where
  stay_segments : (s : ℕ) → s < length plan.layout.segments → StaysIdle (arrives plan (lookahead plan.layout)) (port_hears plan) (edges_of_part plan s) (w * lookahead plan.layout) (n * lookahead plan.layout)
  stay_segments s h =
      let z : 0 + s ≡ s = omega arith in
      subst (λ u. StaysIdle (arrives plan (lookahead plan.layout)) (port_hears plan) (edges_of_part plan u) (w * lookahead plan.layout) (n * lookahead plan.layout)) z
      (each_stays plan_s number_s at_s plan 0 (length plan.layout.segments) w ss segments n comes_s goes_s (arrives plan (lookahead plan.layout)) (port_hears plan) arrive heard silent_s s h)

  stay_repeaters : (i : ℕ) → i < length plan.layout.repeaters → StaysIdle (port_hears plan) (decided plan) (edges_of_part plan (length plan.layout.segments + i)) (w * lookahead plan.layout) (n * lookahead plan.layout)
  stay_repeaters = each_stays plan_r number_r at_r plan (length plan.layout.segments) (length plan.layout.repeaters) w rs repeaters n comes_r goes_r (port_hears plan) (decided plan) hear decide silent_r

  begins : AllIdle plan (arrives plan (lookahead plan.layout)) (w * lookahead plan.layout) (lookahead plan.layout)
  begins = first_idle plan w ps below parcels idle

  pub idle_segments : All (λ s. IsIdleOver (comes_s (plan_s s)) (edges_of_part (plan_s s) (number_s s)) (at_s s * lookahead (plan_s s).layout) (n * lookahead (plan_s s).layout)) ss
  idle_segments = each_idle plan_s number_s at_s plan 0 (length plan.layout.segments) w ss segments n comes_s goes_s (arrives plan (lookahead plan.layout)) (port_hears plan) arrive heard (λ s h.
      let z : s ≡ 0 + s = omega arith in
      subst (λ u. IsIdleOver (arrives plan (lookahead plan.layout)) (edges_of_part plan u) (w * lookahead plan.layout) (n * lookahead plan.layout)) z (comes_to_segments plan w n stay_segments stay_repeaters begins s h))

  pub idle_repeaters : All (λ s. IsIdleOver (comes_r (plan_r s)) (edges_of_part (plan_r s) (number_r s)) (at_r s * lookahead (plan_r s).layout) (n * lookahead (plan_r s).layout)) rs
  idle_repeaters = each_idle plan_r number_r at_r plan (length plan.layout.segments) (length plan.layout.repeaters) w rs repeaters n comes_r goes_r (port_hears plan) (decided plan) hear decide (comes_to_repeaters plan w n stay_segments stay_repeaters begins)

  pub parcels_later : w + n < windows plan → map (stamped (w + n)) ps ≡ all_parcels plan false (w + n)
  parcels_later last = stamped_later plan w n ps last parcels (all_come plan w n stay_segments stay_repeaters begins)
