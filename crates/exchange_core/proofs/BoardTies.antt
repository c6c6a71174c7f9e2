-- What a share does with a part and its parcels are the events of a board.
use Rattle.std.proofs.Common.{◌≡◌, ◌≢◌, ℕ, suc, ◌+◌, ◌<◌, Bool, true, false, not, cond, inl, inr, List, [], ◌∷◌, length, map, set, get_or, refl, sym, ap, ap₂, ◌∙◌, arith, subst, true≢false}
use Rattle.std.specs.Prelude.{if◌then◌else◌}
use Rattle.std.specs.List.{AllByRecursion}
use Rattle.std.proofs.lemmas.Bool.{cases_eq, eq-eqb, ne_eqb}
use Rattle.std.proofs.lemmas.List.{length-map, get_or_default, get_or-set_same, get_or-set_other}
use Rattle.std.proofs.Math.ListN.{length-set}
use Rattle.manchester_line.specs.declared.Sym.{Sym}
use Rattle.net_parts.specs.declared.parcel.Parcel.{Parcel}
use Rattle.net_parts.specs.Windows.{windows}
use Rattle.net_parts.specs.Parts.{part_at, is_segment_part, edges_of_part, run_part, Made}
use Rattle.net_parts.specs.Parcels.{true_symbols, true_parcel, next_stamp, brings, takes}
use Rattle.net_parts.specs.Boards.{Board, PartOnBoard, ParcelOnBoard, Whereabouts, Mail, Run, Spoil, whereabouts_at, place_in, has_edge, IsHere, IsReady, IsEnabled, refilled_on_board, emptied_on_board, put_at, happens}
use Rattle.net_parts.proofs.PartWindows.{parts_go_on}
use Rattle.net_parts.proofs.BoardEvents.{at_place}
use Rattle.exchange_core.specs.Holdings.{Holding, IsSoundHolding, IsHoldingReady, IsHoldingClean, edges_of_parcels, place_of_edge, parcel_of_edge, absent_parcel, emptied_parcel, is_here, run_holding, spoil_holding, vacate_holding}
use Rattle.exchange_core.specs.Ties.{Agrees, parcel_on_board, RunIsRun, SpoilIsSpoil, PostIsPost, TakeIsTake}
use Rattle.exchange_core.proofs.EdgesOfParts.{AreApart, has_each, place_of_each, edges_apart}
use Rattle.exchange_core.proofs.SoundHoldings.{get_map, edge_at, place_here, edge_in_place}
use Rattle.exchange_core.proofs.SoundShares.{not_here}

pub put_same : {X : Type 0} (u v : ℕ) (s : X) (f : ℕ → X) → u ≡ v → put_at u s f v ≡ s
put_same u v s f h = ap (λ b. cond b s (f v)) (eq-eqb u v h)

pub put_other : {X : Type 0} (u v : ℕ) (s : X) (f : ℕ → X) → u ≢ v → put_at u s f v ≡ f v
put_other u v s f h = ap (λ b. cond b s (f v)) (ne_eqb u v h)

-- what holds at each parcel's edge holds of all edges
all_edges : (P : ℕ → Type 0) (ps : List Parcel) → ((k : ℕ) (d : Parcel) → k < length ps → P (get_or ps k d).edge) → AllByRecursion P (edges_of_parcels ps)
all_edges P [] f = tt
all_edges P (p ∷ ps) f = (f 0 p (omega arith), all_edges P ps (λ k d in'. f (suc k) d (omega arith)))

map_alike : (f g : ℕ → List Sym) (es : List ℕ) → AllByRecursion (λ e. f e ≡ g e) es → map f es ≡ map g es
map_alike f g [] all = refl
map_alike f g (e ∷ es) all = ap₂ ◌∷◌ all.0 (map_alike f g es all.1)

not_both : (b : Bool) → b ≡ not b → ⊥
not_both true e = true≢false e
not_both false e = true≢false (sym e)

module _ (h : Holding) (b : Board) (s : IsSoundHolding h) (a : Agrees h b) where
  abbrev way : Bool
  way = is_segment_part h.plan h.number

  abbrev es : List ℕ
  es = edges_of_part h.plan h.number

  window_is : (b.part h.number).window ≡ h.window
  window_is = ap (λ (x : PartOnBoard). x.window) a.part

  each_edge : (k : ℕ) (d : Parcel) → k < length h.parcels → (get_or h.parcels k d).edge ≡ get_or es k 0
  each_edge k d in' = sym (edge_at h.parcels k d in') ∙ ap (λ xs. get_or xs k 0) s.edges

  many : length h.parcels ≡ length es
  many = sym (length-map h.parcels (λ (p : Parcel). p.edge)) ∙ ap length s.edges

  mine : (k : ℕ) (d : Parcel) → k < length h.parcels → has_edge es (get_or h.parcels k d).edge ≡ true
  mine k d in' = ap (has_edge es) (each_edge k d in') ∙ has_each es k 0 (let m = many in omega (arith, m, in'))

  module _ (r : IsHoldingReady h) where
    pub here : (k : ℕ) (d : Parcel) → k < length h.parcels → get_or h.away k true ≡ false
    here k d in' = elim (get_or h.away k true) as (λ x. get_or h.away k true ≡ x → x ≡ false) [
      | true ↦ λ is. absurd (not_both way (sym (s.turned k d in' (get_or_default h.away k false true (let p = s.places in omega (arith, p, in')) ∙ is)) ∙ (r.1 k d in').0))
      | false ↦ λ _. refl
    ] refl

    at : (k : ℕ) (d : Parcel) → k < length h.parcels → b.parcel (get_or h.parcels k d).edge ≡ parcel_on_board (whereabouts_at (not way)) (get_or h.parcels k d)
    at k d in' = a.parcels k d in' (here k d in')

    is_on_board : (k : ℕ) (d : Parcel) → k < length h.parcels → IsHere h.plan h.number (b.part h.number).window (b.parcel (get_or h.parcels k d).edge)
    is_on_board k d in' =
        let q = at k d in' in
        (ap (λ (x : ParcelOnBoard). x.spot) q, ap (λ (x : ParcelOnBoard). x.to_repeater) q ∙ (r.1 k d in').0, ap (λ (x : ParcelOnBoard). x.window) q ∙ (r.1 k d in').1 ∙ sym window_is)

    ready_on_board : (also : ParcelOnBoard → Type 0) → ((k : ℕ) (d : Parcel) → k < length h.parcels → also (b.parcel (get_or h.parcels k d).edge)) → IsReady h.plan b h.number also
    ready_on_board also each = (
      s.within,
      subst (λ w. w < windows h.plan) (sym window_is) r.0,
      subst (AllByRecursion (λ e. IsHere h.plan h.number (b.part h.number).window (b.parcel e) × also (b.parcel e))) s.edges
          (all_edges (λ e. IsHere h.plan h.number (b.part h.number).window (b.parcel e) × also (b.parcel e)) h.parcels (λ k d in'. (is_on_board k d in', each k d in'))),
    )

    spot_at : (k : ℕ) (d : Parcel) → k < length h.parcels → (b.parcel (get_or es k 0)).spot ≡ whereabouts_at (not way)
    spot_at k d in' = ap (λ e. (b.parcel e).spot) (sym (each_edge k d in')) ∙ ap (λ (x : ParcelOnBoard). x.spot) (at k d in')

    spoil_agrees : Agrees (spoil_holding h) (happens h.plan b (Spoil h.number))
    spoil_agrees =
        let stamp = next_stamp way h.window in
        let f = emptied_parcel way stamp in
        record {
          part = put_same h.number h.number (record { window = (b.part h.number).window + 1; state = (b.part h.number).state; lost = true }) b.part refl
              ∙ (λ i. record { window = (a.part i).window + 1; state = (a.part i).state; lost = true });
          parcels = λ k d in' _.
              let within : k < length h.parcels = (let m = length-map h.parcels f in omega (arith, m, in')) in
              let p = get_or h.parcels k d in
              let old = b.parcel p.edge in
              let w = (b.part h.number).window in
              let now : (if has_edge es p.edge then emptied_on_board h.plan h.number w old else old) ≡ parcel_on_board (whereabouts_at (not way)) (f p) =
              ap (λ c. cond c (emptied_on_board h.plan h.number w old) old) (mine k d within)
              ∙ (λ i. record { window = next_stamp way (window_is i); to_repeater = way; symbols = []; spoiled = true; spot = (at k d within i).spot }) in
              subst (λ (y : Parcel). (if has_edge es y.edge then emptied_on_board h.plan h.number w (b.parcel y.edge) else b.parcel y.edge) ≡ parcel_on_board (whereabouts_at (not way)) y) (sym (get_map f h.parcels k d d within)) now;
        }

    module _ (c : IsHoldingClean h) (kept : h.lost ≡ false) where
      symbols_at : (k : ℕ) (d : Parcel) → k < length h.parcels → (b.parcel (get_or h.parcels k d).edge).symbols ≡ true_symbols h.plan (not way) (get_or h.parcels k d).edge h.window
      symbols_at k d in' = ap (λ (x : ParcelOnBoard). x.symbols) (at k d in') ∙ s.honest k d in' (c k d in') ∙ ap₂ (λ x w. true_symbols h.plan x (get_or h.parcels k d).edge w) (r.1 k d in').0 (r.1 k d in').1

      comes : map (λ e. (b.parcel e).symbols) es ≡ brings h.plan h.number h.window
      comes = map_alike (λ e. (b.parcel e).symbols) (λ e. true_symbols h.plan (not way) e h.window) es
          (subst (AllByRecursion (λ e. (b.parcel e).symbols ≡ true_symbols h.plan (not way) e h.window)) s.edges (all_edges (λ e. (b.parcel e).symbols ≡ true_symbols h.plan (not way) e h.window) h.parcels symbols_at))

      abbrev made : Made
      made = run_part h.plan h.number (b.part h.number).window (b.part h.number).state (map (λ e. (b.parcel e).symbols) es)

      state_is : (b.part h.number).state ≡ part_at h.plan h.number h.window
      state_is = ap (λ (x : PartOnBoard). x.state) a.part ∙ ap (part_at h.plan h.number) (sym (s.stands kept))

      made_is : made ≡ record { state = part_at h.plan h.number (h.window + 1); symbols = takes h.plan h.number h.window }
      made_is = (λ i. run_part h.plan h.number (window_is i) (state_is i) (comes i)) ∙ parts_go_on h.plan h.number h.window s.within r.0

      run_agrees : Agrees (run_holding h) (happens h.plan b (Run h.number))
      run_agrees =
          let stamp = next_stamp way h.window in
          let f = true_parcel h.plan way stamp in
          let symbols = λ (e : ℕ). true_symbols h.plan way e stamp in
          let w = (b.part h.number).window in
          record {
            part = put_same h.number h.number (record { window = w + 1; state = made.state; lost = false }) b.part refl
                ∙ (λ i. record { window = window_is i + 1; state = (made_is i).state; lost = sym kept i })
                ∙ ap (λ x. record { window = h.window + 1; state = part_at h.plan h.number (x + 1); lost = h.lost }) (s.stands kept);
            parcels = λ k d in' _.
                let in-es : k < length es = (let m = length-map es f in omega (arith, m, in')) in
                let within : k < length h.parcels = (let m = many in omega (arith, m, in-es)) in
                let e = get_or es k 0 in
                let old = b.parcel e in
                let at_e : get_or made.symbols (place_in es e) [] ≡ symbols e = ap (λ (x : Made). get_or x.symbols (place_in es e) []) made_is ∙ at_place symbols es e (has_each es k 0 in-es) in
                let now : (if has_edge es e then refilled_on_board h.plan h.number w (get_or made.symbols (place_in es e) []) old else old) ≡ parcel_on_board (whereabouts_at (not way)) (f e) =
                ap (λ x. cond x (refilled_on_board h.plan h.number w (get_or made.symbols (place_in es e) []) old) old) (has_each es k 0 in-es)
                ∙ (λ i. record { window = next_stamp way (window_is i); to_repeater = way; symbols = at_e i; spoiled = false; spot = spot_at k d within i }) in
                subst (λ (y : Parcel). (if has_edge es y.edge then refilled_on_board h.plan h.number w (get_or made.symbols (place_in es y.edge) []) (b.parcel y.edge) else b.parcel y.edge) ≡ parcel_on_board (whereabouts_at (not way)) y)
                (sym (get_map f es k 0 d in-es)) now;
          }

      run_enabled : IsEnabled h.plan b (Run h.number)
      run_enabled = (ready_on_board (λ p. p.spoiled ≡ false) (λ k d in'. ap (λ (x : ParcelOnBoard). x.spoiled) (at k d in') ∙ c k d in'), ap (λ (x : PartOnBoard). x.lost) a.part ∙ kept)

    spoil_enabled : IsEnabled h.plan b (Spoil h.number)
    spoil_enabled = ready_on_board (λ p. Unit {0}) (λ k d in'. tt)

pub run_is_run : RunIsRun
run_is_run h b s r c kept a = (run_enabled h b s a r c kept, run_agrees h b s a r c kept)

pub spoil_is_spoil : SpoilIsSpoil
spoil_is_spoil h b s r a = (spoil_enabled h b s a r, spoil_agrees h b s a r)

module _ (h : Holding) (b : Board) (s : IsSoundHolding h) (a : Agrees h b) (e : ℕ) (has : has_edge (edges_of_parcels h.parcels) e ≡ true) where
  abbrev spot : Whereabouts
  spot = whereabouts_at (not (is_segment_part h.plan h.number))

  in-place : place_of_edge e h < length h.parcels
  in-place = place_here e h.parcels has

  in-flags : place_of_edge e h < length h.away
  in-flags = let p = s.places in let l = in-place in omega (arith, p, l)

  -- the parcels in other places have other edges
  other_edge : (k : ℕ) (d : Parcel) → k < length h.parcels → k ≢ place_of_edge e h → e ≢ (get_or h.parcels k d).edge
  other_edge k d in' ne same =
      let apart : AreApart (edges_of_parcels h.parcels) = subst AreApart (sym s.edges) (edges_apart h.plan h.number) in
      let within : k < length (edges_of_parcels h.parcels) = (let m = length-map h.parcels (λ (p : Parcel). p.edge) in omega (arith, m, in')) in
      ne (sym (place_of_each (edges_of_parcels h.parcels) k 0 apart within) ∙ ap (place_in (edges_of_parcels h.parcels)) (edge_at h.parcels k d in' ∙ sym same))

  -- the same of the other places, where the parcel in one place is changed
  others_agree : (q : Parcel) (flag : Bool) (now : ParcelOnBoard) (k : ℕ) (d : Parcel) → k < length (set h.parcels (place_of_edge e h) q) → k ≢ place_of_edge e h
      → get_or (set h.away (place_of_edge e h) flag) k true ≡ false
      → put_at e now b.parcel (get_or (set h.parcels (place_of_edge e h) q) k d).edge ≡ parcel_on_board spot (get_or (set h.parcels (place_of_edge e h) q) k d)
  others_agree q flag now k d in' ne away =
      let within : k < length h.parcels = (let m = length-set h.parcels (place_of_edge e h) q in omega (arith, m, in')) in
      let same : get_or (set h.parcels (place_of_edge e h) q) k d ≡ get_or h.parcels k d = get_or-set_other h.parcels (place_of_edge e h) k q d ne in
      ap (λ (p : Parcel). put_at e now b.parcel p.edge) same
      ∙ put_other e (get_or h.parcels k d).edge now b.parcel (other_edge k d within ne)
      ∙ a.parcels k d within (sym (get_or-set_other h.away (place_of_edge e h) k flag true ne) ∙ away)
      ∙ sym (ap (parcel_on_board spot) same)

  pub vacate_agrees : (now : ParcelOnBoard) → Agrees (vacate_holding e h) (record b { parcel = put_at e now b.parcel })
  vacate_agrees now = record {
    part = a.part;
    parcels = λ k d in' away. elim (cases_eq k (place_of_edge e h)) [
      | inl is ↦ absurd (true≢false (sym (ap (λ j. get_or (set h.away (place_of_edge e h) true) j true) is ∙ get_or-set_same h.away (place_of_edge e h) true true in-flags) ∙ away))
      | inr ne ↦ others_agree (absent_parcel (is_segment_part h.plan h.number) e) true now k d in' ne away
    ];
  }

  pub on_board : is_here e h ≡ true → b.parcel e ≡ parcel_on_board spot (parcel_of_edge e h)
  on_board here =
      let d = absent_parcel false e in
      let edge : (parcel_of_edge e h).edge ≡ e = edge_in_place e h.parcels d has in
      sym (ap b.parcel edge) ∙ a.parcels (place_of_edge e h) d in-place (not_true (get_or h.away (place_of_edge e h) true) here)
    where
      not_true : (x : Bool) → not x ≡ true → x ≡ false
      not_true true q = absurd (true≢false (sym q))
      not_true false q = refl

pub post_is_post : PostIsPost
post_is_post e h b s here way a =
    let has : has_edge (edges_of_parcels h.parcels) e ≡ true = elim (has_edge (edges_of_parcels h.parcels) e) as (λ x. has_edge (edges_of_parcels h.parcels) e ≡ x → x ≡ true) [
      | true ↦ λ _. refl
      | false ↦ λ none. absurd (true≢false (sym here ∙ not_here e h s none))
    ] refl in
    let q = on_board h b s a e has here in
    let now : ParcelOnBoard = record (b.parcel e) { spot = Mail } in (
      ap (λ (x : ParcelOnBoard). x.spot) q ∙ ap (λ x. whereabouts_at (not x)) (sym (ap (λ (x : ParcelOnBoard). x.to_repeater) q ∙ way)),
      vacate_agrees h b s a e has now,
      put_same e e now b.parcel refl ∙ (λ i. record (q i) { spot = Mail }),
    )

pub take_is_take : TakeIsTake
take_is_take p h b s has way mail a =
    let k₀ = place_of_edge p.edge h in
    let now : ParcelOnBoard = record (b.parcel p.edge) { spot = whereabouts_at (b.parcel p.edge).to_repeater } in
    let there : now ≡ parcel_on_board (whereabouts_at (not (is_segment_part h.plan h.number))) p =
    (λ i. record (mail i) { spot = whereabouts_at (mail i).to_repeater }) ∙ ap (λ x. parcel_on_board (whereabouts_at x) p) way in (
      ap (λ (x : ParcelOnBoard). x.spot) mail,
      record {
        part = a.part;
        parcels = λ k d in' away. elim (cases_eq k k₀) [
          | inl is ↦ (
              let same : get_or (set h.parcels k₀ p) k d ≡ p = ap (λ j. get_or (set h.parcels k₀ p) j d) is ∙ get_or-set_same h.parcels k₀ p d (in-place h b s a p.edge has) in
              ap (λ (x : Parcel). put_at p.edge now b.parcel x.edge) same ∙ put_same p.edge p.edge now b.parcel refl ∙ there ∙ sym (ap (parcel_on_board (whereabouts_at (not (is_segment_part h.plan h.number)))) same))
          | inr ne ↦ others_agree h b s a p.edge has p false now k d in' ne away
        ];
      },
    )
