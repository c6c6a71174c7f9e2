-- Each event leaves a part with its parcels sound.
use Rattle.std.proofs.Common.{◌≡◌, ℕ, zero, suc, ◌+◌, ◌<◌, ◌≤◌, Bool, true, false, not, inl, inr, List, [], ◌∷◌, length, map, replicate, set, get_or, refl, sym, ap, ap₂, ◌∙◌, arith, true≢false}
use Rattle.std.specs.Prelude.{All}
use Rattle.std.proofs.lemmas.Bool.{cases_eq, cases_lt}
use Rattle.std.proofs.lemmas.List.{length-map, length-replicate, get_or-replicate, get_or-set_same, get_or-set_other}
use Rattle.std.proofs.lemmas.List.Elements.{All-set}
use Rattle.std.proofs.Math.ListN.{length-set}
use Rattle.std.proofs.Math.Seq.{map-set_same}
use Rattle.load_plan.specs.declared.plan.Plan.{Plan}
use Rattle.net_parts.specs.declared.parcel.Parcel.{Parcel}
use Rattle.net_parts.specs.Parts.{is_segment_part, edges_of_part, parts}
use Rattle.net_parts.specs.Parcels.{IsTrueParcel, true_symbols, true_parcel, next_stamp, arrived}
use Rattle.net_parts.specs.Boards.{has_edge, place_in}
use Rattle.exchange_core.specs.Holdings.{Holding, IsSoundHolding, IsHoldingReady, IsHoldingClean, edges_of_parcels, place_of_edge, absent_parcel, emptied_parcel, added_segment, added_repeater, reserved_holding, refused_holding, run_holding, spoil_holding, vacate_holding, take_holding}
use Rattle.exchange_core.specs.Shares.{AreParcelsFor}
use Rattle.exchange_core.proofs.EdgesOfParts.{place_within, at_its_place}

pub get_map : {X Y : Type 0} (f : X → Y) (xs : List X) (k : ℕ) (d : X) (z : Y) → k < length xs → get_or (map f xs) k z ≡ f (get_or xs k d)
get_map f [] k d z h = absurd (omega arith)
get_map f (x ∷ xs) zero d z h = refl
get_map f (x ∷ xs) (suc k) d z h = get_map f xs k d z (omega arith)

pub edge_at : (ps : List Parcel) (k : ℕ) (d : Parcel) → k < length ps → get_or (edges_of_parcels ps) k 0 ≡ (get_or ps k d).edge
edge_at ps k d h = get_map (λ (p : Parcel). p.edge) ps k d 0 h

-- parcels that come of edges
pub edges_made : (f : ℕ → Parcel) → ((e : ℕ) → (f e).edge ≡ e) → (es : List ℕ) → edges_of_parcels (map f es) ≡ es
edges_made f same [] = refl
edges_made f same (e ∷ es) = ap₂ ◌∷◌ (same e) (edges_made f same es)

pub all_made : (P : Parcel → Type 0) (f : ℕ → Parcel) → ((e : ℕ) → P (f e)) → (es : List ℕ) → All P (map f es)
all_made P f each [] k d h = absurd (omega arith)
all_made P f each (e ∷ es) zero d h = each e
all_made P f each (e ∷ es) (suc k) d h = all_made P f each es k d (omega arith)

-- parcels that are changed one by one
edges_kept : (f : Parcel → Parcel) → ((p : Parcel) → (f p).edge ≡ p.edge) → (ps : List Parcel) → edges_of_parcels (map f ps) ≡ edges_of_parcels ps
edges_kept f same [] = refl
edges_kept f same (p ∷ ps) = ap₂ ◌∷◌ (same p) (edges_kept f same ps)

all_changed : (P : Parcel → Type 0) (f : Parcel → Parcel) → ((p : Parcel) → P (f p)) → (ps : List Parcel) → All P (map f ps)
all_changed P f each [] k d h = absurd (omega arith)
all_changed P f each (p ∷ ps) zero d h = each p
all_changed P f each (p ∷ ps) (suc k) d h = all_changed P f each ps k d (omega arith)

-- parcels on their way, clean and true are those that come to the part
one_true : (plan : Plan) (way : Bool) (w : ℕ) (p : Parcel) → p.to_repeater ≡ way → p.window ≡ w → p.spoiled ≡ false → IsTrueParcel plan p → p ≡ true_parcel plan way w p.edge
one_true plan way w p a b c t =
    let symbols : p.symbols ≡ true_symbols plan way p.edge w = t c ∙ ap₂ (λ x y. true_symbols plan x p.edge y) a b in
    λ i. record { edge = p.edge; window = b i; to_repeater = a i; symbols = symbols i; spoiled = c i }

all_true : (plan : Plan) (way : Bool) (w : ℕ) (ps : List Parcel) → ((k : ℕ) (d : Parcel) → k < length ps → get_or ps k d ≡ true_parcel plan way w (get_or ps k d).edge) → ps ≡ map (true_parcel plan way w) (edges_of_parcels ps)
all_true plan way w [] each = refl
all_true plan way w (p ∷ ps) each = ap₂ ◌∷◌ (each 0 p (omega arith)) (all_true plan way w ps (λ k d h. each (suc k) d (omega arith)))

pub arrived_is : (h : Holding) → IsSoundHolding h → IsHoldingReady h → IsHoldingClean h → h.parcels ≡ arrived h.plan h.number h.window
arrived_is h s r c =
    let way = not (is_segment_part h.plan h.number) in
    all_true h.plan way h.window h.parcels (λ k d in'. one_true h.plan way h.window (get_or h.parcels k d) (r.1 k d in').0 (r.1 k d in').1 (c k d in') (s.honest k d in'))
    ∙ ap (map (true_parcel h.plan way h.window)) s.edges

many_edges : (h : Holding) → IsSoundHolding h → length h.parcels ≡ length (edges_of_part h.plan h.number)
many_edges h s = sym (length-map h.parcels (λ (p : Parcel). p.edge)) ∙ ap length s.edges

pub place_here : (e : ℕ) (ps : List Parcel) → has_edge (edges_of_parcels ps) e ≡ true → place_in (edges_of_parcels ps) e < length ps
place_here e ps has = let l = place_within (edges_of_parcels ps) e has in let m = length-map ps (λ (p : Parcel). p.edge) in omega (arith, l, m)

pub edge_in_place : (e : ℕ) (ps : List Parcel) (d : Parcel) → has_edge (edges_of_parcels ps) e ≡ true → (get_or ps (place_in (edges_of_parcels ps) e) d).edge ≡ e
edge_in_place e ps d has = sym (edge_at ps (place_in (edges_of_parcels ps) e) d (place_here e ps has)) ∙ at_its_place (edges_of_parcels ps) e 0 has

pub edges_set : (e : ℕ) (ps : List Parcel) (p : Parcel) → p.edge ≡ e → has_edge (edges_of_parcels ps) e ≡ true → edges_of_parcels (set ps (place_in (edges_of_parcels ps) e) p) ≡ edges_of_parcels ps
edges_set e ps p is has = map-set_same (λ (q : Parcel). q.edge) ps (place_in (edges_of_parcels ps) e) p p (is ∙ sym (edge_in_place e ps p has))

pub reserved_sound : (h : Holding) → IsSoundHolding h → IsSoundHolding (reserved_holding h)
reserved_sound h s = record { within = s.within; stands = s.stands; edges = s.edges; places = s.places; honest = s.honest; turned = s.turned }

pub refused_sound : (h : Holding) → IsSoundHolding h → IsSoundHolding (refused_holding h)
refused_sound h s = record { within = s.within; stands = s.stands; edges = s.edges; places = s.places; honest = s.honest; turned = s.turned }

pub run_sound : (h : Holding) → IsSoundHolding h → IsSoundHolding (run_holding h)
run_sound h s =
    let way = is_segment_part h.plan h.number in
    let f = true_parcel h.plan way (next_stamp way h.window) in
    let es = edges_of_part h.plan h.number in
    let many : length (map f es) ≡ length es = length-map es f in
    record {
      within = s.within;
      stands = λ l. ap (λ w. w + 1) (s.stands l);
      edges = edges_made f (λ e. refl) es;
      places = s.places ∙ many_edges h s ∙ sym many;
      honest = all_made (IsTrueParcel h.plan) f (λ e _. refl) es;
      turned = λ k d in' _. ap (λ (p : Parcel). p.to_repeater) (get_map f es k 0 d (omega (arith, many)));
    }

pub spoil_sound : (h : Holding) → IsSoundHolding h → IsSoundHolding (spoil_holding h)
spoil_sound h s =
    let way = is_segment_part h.plan h.number in
    let f = emptied_parcel way (next_stamp way h.window) in
    let many : length (map f h.parcels) ≡ length h.parcels = length-map h.parcels f in
    record {
      within = s.within;
      stands = λ l. absurd (true≢false l);
      edges = edges_kept f (λ p. refl) h.parcels ∙ s.edges;
      places = s.places ∙ sym many;
      honest = all_changed (IsTrueParcel h.plan) f (λ p l. absurd (true≢false l)) h.parcels;
      turned = λ k d in' _. ap (λ (p : Parcel). p.to_repeater) (get_map f h.parcels k d d (omega (arith, many)));
    }

pub vacate_sound : (e : ℕ) (h : Holding) → has_edge (edges_of_parcels h.parcels) e ≡ true → IsSoundHolding h → IsSoundHolding (vacate_holding e h)
vacate_sound e h has s =
    let way = is_segment_part h.plan h.number in
    let k₀ = place_of_edge e h in
    let gone = absent_parcel way e in
    let many : length (set h.parcels k₀ gone) ≡ length h.parcels = length-set h.parcels k₀ gone in
    record {
      within = s.within;
      stands = s.stands;
      edges = edges_set e h.parcels gone refl has ∙ s.edges;
      places = length-set h.away k₀ true ∙ s.places ∙ sym many;
      honest = All-set (IsTrueParcel h.plan) h.parcels k₀ gone (λ l. absurd (true≢false l)) s.honest;
      turned = λ k d in' a. elim (cases_eq k k₀) [
        | inl is ↦ ap (λ (p : Parcel). p.to_repeater) (ap (λ j. get_or (set h.parcels k₀ gone) j d) is ∙ get_or-set_same h.parcels k₀ gone d (place_here e h.parcels has))
        | inr ne ↦ ap (λ (p : Parcel). p.to_repeater) (get_or-set_other h.parcels k₀ k gone d ne) ∙ s.turned k d (omega (arith, many)) (sym (get_or-set_other h.away k₀ k true false ne) ∙ a)
      ];
    }

pub take_sound : (p : Parcel) (h : Holding) → has_edge (edges_of_parcels h.parcels) p.edge ≡ true → IsTrueParcel h.plan p → IsSoundHolding h → IsSoundHolding (take_holding p h)
take_sound p h has honest s =
    let k₀ = place_of_edge p.edge h in
    let many : length (set h.parcels k₀ p) ≡ length h.parcels = length-set h.parcels k₀ p in
    let in-away : k₀ < length h.away = let l = place_here p.edge h.parcels has in let m = s.places in omega (arith, l, m) in
    record {
      within = s.within;
      stands = s.stands;
      edges = edges_set p.edge h.parcels p refl has ∙ s.edges;
      places = length-set h.away k₀ false ∙ s.places ∙ sym many;
      honest = All-set (IsTrueParcel h.plan) h.parcels k₀ p honest s.honest;
      turned = λ k d in' a. elim (cases_eq k k₀) [
        | inl is ↦ absurd (true≢false (sym a ∙ ap (λ j. get_or (set h.away k₀ false) j false) is ∙ get_or-set_same h.away k₀ false false in-away))
        | inr ne ↦ ap (λ (q : Parcel). q.to_repeater) (get_or-set_other h.parcels k₀ k p d ne) ∙ s.turned k d (omega (arith, many)) (sym (get_or-set_other h.away k₀ k false false ne) ∙ a)
      ];
    }

none_away : (n k : ℕ) → get_or (replicate n false) k false ≡ true → ⊥
none_away n k h = elim (cases_lt k n) [
  | inl l ↦ true≢false (sym h ∙ get_or-replicate n k false false l)
  | inr m ↦ true≢false (sym h ∙ past n k m)
]
  where
    past : (n k : ℕ) → n ≤ k → get_or (replicate n false) k false ≡ false
    past zero k m = refl
    past (suc n) zero m = absurd (omega arith)
    past (suc n) (suc k) m = past n k (omega arith)

pub new_segment_sound : (plan : Plan) (u w : ℕ) (ps : List Parcel) → u < parts plan → AreParcelsFor plan u w ps → IsSoundHolding (added_segment plan u w ps)
new_segment_sound plan u w ps in' p = record {
  within = in';
  stands = λ _. refl;
  edges = p.edges;
  places = length-replicate (length ps) false;
  honest = p.honest;
  turned = λ k d _ a. absurd (none_away (length ps) k a);
}

pub new_repeater_sound : (plan : Plan) (u w : ℕ) → u < parts plan → is_segment_part plan u ≡ false → IsSoundHolding (added_repeater plan u w)
new_repeater_sound plan u w in' kind =
    let es = edges_of_part plan u in
    let many : length (map (absent_parcel false) es) ≡ length es = length-map es (absent_parcel false) in
    record {
      within = in';
      stands = λ _. refl;
      edges = edges_made (absent_parcel false) (λ e. refl) es;
      places = length-replicate (length es) true ∙ sym many;
      honest = all_made (IsTrueParcel plan) (absent_parcel false) (λ e l. absurd (true≢false l)) es;
      turned = λ k d l _. ap (λ (p : Parcel). p.to_repeater) (get_map (absent_parcel false) es k 0 d (omega (arith, many))) ∙ sym kind;
    }
