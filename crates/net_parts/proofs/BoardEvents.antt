-- Each event keeps the board true.
use Rattle.std.proofs.Common.{◌≡◌, ℕ, zero, suc, true, false, not, cond, eqb, ltb, ◌+◌, ◌-◌, ◌*◌, ◌<◌, ◌≤◌, min, List, [], ◌∷◌, map, replicate, get_or, refl, ap, ap₂, ◌∙◌, sym, arith, subst, true≢false, eqb-true}
use Rattle.std.specs.Prelude.{if◌then◌else◌}
use Rattle.std.specs.List.{AllByRecursion}
use Rattle.std.proofs.lemmas.Bool.Decides.{nat_tests}
use Rattle.manchester_line.specs.declared.Sym.{Sym}
use Rattle.manchester_line.specs.declared.Sym.TheVariants.{Idle}
use Rattle.load_plan.specs.declared.plan.Plan.{Plan}
use Rattle.network.specs.Outputs.{half_bits}
use Rattle.network.specs.Times.{decided}
use Rattle.net_parts.specs.Windows.{lookahead}
use Rattle.net_parts.specs.Machines.{span}
use Rattle.net_parts.specs.Standing.{arrives}
use Rattle.net_parts.specs.Parts.{part_at, run_part, edges_of_part, is_segment_part, Made}
use Rattle.net_parts.specs.Parcels.{true_symbols, next_stamp, brings}
use Rattle.net_parts.specs.Boards.{Board, PartOnBoard, ParcelOnBoard, Mail, Event, Run, Spoil, Post, Take, opening_board, has_edge, place_in, whereabouts_at, IsHere, IsEnabled, refilled_on_board, emptied_on_board, put_at, happens, AreEnabled, board_after, IsTrueBoard}
use Rattle.net_parts.proofs.PartWindows.{parts_go_on}
use Rattle.net_parts.specs.PartLaws.{EverySchedule}

idle_span : (f : ℕ → Sym) (k n m : ℕ) → k + n ≤ m → ((v : ℕ) → v < m → f v ≡ Idle) → span f k n ≡ replicate n Idle
idle_span f k zero m h e = refl
idle_span f k (suc n) m h e = ap₂ ◌∷◌ (e k (omega arith)) (idle_span f (suc k) n m (omega arith) e)

pub opening_symbols : (plan : Plan) (e : ℕ) → replicate (lookahead plan.layout) Idle ≡ true_symbols plan false e 0
unfolding true_symbols
opening_symbols plan e =
    let L = lookahead plan.layout in
    let first : 0 ≡ 0 * L = omega arith in
    let many : L ≡ min L (half_bits plan + L - 0 * L) = omega (arith, first) in
    sym (idle_span (arrives plan L e) 0 L L (omega arith) (λ v h. early v L (decided plan e (v - L)) h)) ∙ ap₂ (span (arrives plan L e)) first many
  where
    early : (v l : ℕ) (s : Sym) → v < l → cond (ltb v l) Idle s ≡ Idle
    early v l s h = grind (arith, nat_tests)

opens : (plan : Plan) → IsTrueBoard plan (opening_board plan)
opens plan = record { parts = λ u h. refl; parcels = λ e h. opening_symbols plan e }

pub among : (P : ℕ → Type 0) (fs : List ℕ) (e : ℕ) → AllByRecursion P fs → has_edge fs e ≡ true → P e
among P [] e all h = absurd (true≢false (sym h))
among P (f ∷ fs) e all h =
    elim (eqb f e) as (λ c. eqb f e ≡ c → (if c then true else has_edge fs e) ≡ true → P e) [
      | true ↦ λ is _. subst P (eqb-true f e is) all.0
      | false ↦ λ _ h'. among P fs e all.1 h'
    ] refl h

-- what is said of each edge, at its place
pub at_place : (f : ℕ → List Sym) (fs : List ℕ) (e : ℕ) → has_edge fs e ≡ true → get_or (map f fs) (place_in fs e) [] ≡ f e
at_place f [] e h = absurd (true≢false (sym h))
at_place f (x ∷ xs) e h =
    elim (eqb x e) as (λ c. eqb x e ≡ c → (if c then true else has_edge xs e) ≡ true → get_or (f x ∷ map f xs) (if c then 0 else place_in xs e + 1) [] ≡ f e) [
      | true ↦ λ is _. ap f (eqb-true x e is)
      | false ↦ λ _ h'. (let z : place_in xs e + 1 ≡ suc (place_in xs e) = omega arith in ap (λ i. get_or (f x ∷ map f xs) i []) z) ∙ at_place f xs e h'
    ] refl h

map_true : (f g : ℕ → List Sym) (P : ℕ → Type 0) (es : List ℕ) → AllByRecursion P es → ((e : ℕ) → P e → f e ≡ g e) → map f es ≡ map g es
map_true f g P [] all h = refl
map_true f g P (e ∷ es) all h = ap₂ ◌∷◌ (h e all.0) (map_true f g P es all.1 h)

parts_put : (plan : Plan) (b : Board) (u : ℕ) (s : PartOnBoard) → IsTrueBoard plan b → (s.lost ≡ false → s.state ≡ part_at plan u s.window)
    → (v : ℕ) → (put_at u s b.part v).lost ≡ false → (put_at u s b.part v).state ≡ part_at plan v (put_at u s b.part v).window
parts_put plan b u s t mine v =
    elim (eqb u v) as (λ c. eqb u v ≡ c → (let q : PartOnBoard = if c then s else b.part v in q.lost ≡ false → q.state ≡ part_at plan v q.window)) [
      | true ↦ λ is l. mine l ∙ ap (λ x. part_at plan x s.window) (eqb-true u v is)
      | false ↦ λ _. t.parts v
    ] refl

parcels_put : (plan : Plan) (b : Board) (e : ℕ) (p : ParcelOnBoard) → IsTrueBoard plan b → (p.spoiled ≡ false → p.symbols ≡ true_symbols plan p.to_repeater e p.window)
    → (d : ℕ) → (put_at e p b.parcel d).spoiled ≡ false → (put_at e p b.parcel d).symbols ≡ true_symbols plan (put_at e p b.parcel d).to_repeater d (put_at e p b.parcel d).window
parcels_put plan b e p t mine d =
    elim (eqb e d) as (λ c. eqb e d ≡ c → (let q : ParcelOnBoard = if c then p else b.parcel d in q.spoiled ≡ false → q.symbols ≡ true_symbols plan q.to_repeater d q.window)) [
      | true ↦ λ is l. mine l ∙ ap (λ x. true_symbols plan p.to_repeater x p.window) (eqb-true e d is)
      | false ↦ λ _. t.parcels d
    ] refl

-- what part u makes where Run is enabled
pub made_true : (plan : Plan) (b : Board) (u : ℕ) → IsTrueBoard plan b → IsEnabled plan b (Run u) →
    run_part plan u (b.part u).window (b.part u).state (map (λ e. (b.parcel e).symbols) (edges_of_part plan u))
    ≡ record { state = part_at plan u ((b.part u).window + 1); symbols = map (λ e. true_symbols plan (is_segment_part plan u) e (next_stamp (is_segment_part plan u) (b.part u).window)) (edges_of_part plan u) }
made_true plan b u t h =
    let w = (b.part u).window in
    let comes : map (λ e. (b.parcel e).symbols) (edges_of_part plan u) ≡ brings plan u w =
    map_true (λ e. (b.parcel e).symbols) (λ e. true_symbols plan (not (is_segment_part plan u)) e w) (λ e. IsHere plan u w (b.parcel e) × ((b.parcel e).spoiled ≡ false)) (edges_of_part plan u) h.0.2
    (λ e p. t.parcels e p.1 ∙ (λ i. true_symbols plan (p.0.1 i) e (p.0.2 i))) in
    ap₂ (run_part plan u w) (t.parts u h.1) comes ∙ parts_go_on plan u w h.0.0 h.0.1

module _ (plan : Plan) where
  steps : (b : Board) (e : Event) → IsTrueBoard plan b → IsEnabled plan b e → IsTrueBoard plan (happens plan b e)
  steps b (Run u) t h =
      let w = (b.part u).window in
      let made = made_true plan b u t h in
      let f = λ (e : ℕ). true_symbols plan (is_segment_part plan u) e (next_stamp (is_segment_part plan u) w) in
      let m = run_part plan u w (b.part u).state (map (λ e. (b.parcel e).symbols) (edges_of_part plan u)) in
      record {
        parts = parts_put plan b u (record { window = w + 1; state = m.state; lost = false }) t (λ _. ap (λ (x : Made). x.state) made);
        parcels = λ e. elim (has_edge (edges_of_part plan u) e) as (λ c. has_edge (edges_of_part plan u) e ≡ c → (let q : ParcelOnBoard = if c then refilled_on_board plan u w (get_or m.symbols (place_in (edges_of_part plan u) e) []) (b.parcel e) else b.parcel e in q.spoiled ≡ false → q.symbols ≡ true_symbols plan q.to_repeater e q.window)) [
          | true ↦ λ is _. ap (λ (x : Made). get_or x.symbols (place_in (edges_of_part plan u) e) []) made ∙ at_place f (edges_of_part plan u) e is
          | false ↦ λ _. t.parcels e
        ] refl;
      }
  steps b (Spoil u) t h = record {
    parts = parts_put plan b u (record { window = (b.part u).window + 1; state = (b.part u).state; lost = true }) t (λ l. absurd (true≢false l));
    parcels = λ e. elim (has_edge (edges_of_part plan u) e) as (λ c. (let q : ParcelOnBoard = if c then emptied_on_board plan u (b.part u).window (b.parcel e) else b.parcel e in q.spoiled ≡ false → q.symbols ≡ true_symbols plan q.to_repeater e q.window)) [
      | true ↦ λ l. absurd (true≢false l)
      | false ↦ t.parcels e
    ];
  }
  steps b (Post e) t h = record { parts = t.parts; parcels = parcels_put plan b e (record (b.parcel e) { spot = Mail }) t (t.parcels e) }
  steps b (Take e) t h = record { parts = t.parts; parcels = parcels_put plan b e (record (b.parcel e) { spot = whereabouts_at (b.parcel e).to_repeater }) t (t.parcels e) }

  pub runs_on : (b : Board) (es : List Event) → IsTrueBoard plan b → AreEnabled plan b es → IsTrueBoard plan (board_after plan b es)
  runs_on b [] t h = t
  runs_on b (e ∷ es) t h = runs_on (happens plan b e) es (steps b e t h.0) h.1

pub every_schedule : EverySchedule
every_schedule plan events h = runs_on plan (opening_board plan) events (opens plan) h
