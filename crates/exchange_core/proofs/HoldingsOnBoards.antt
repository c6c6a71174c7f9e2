-- What an event leaves of a part that it doesn't change, and how parts stand on the opening board.
use Rattle.std.proofs.Common.{◌≡◌, ◌≢◌, ℕ, zero, suc, ◌+◌, ◌<◌, Bool, true, false, not, cond, [], length, map, replicate, get_or, refl, sym, ap, ◌∙◌, arith, subst, true≢false}
use Rattle.std.proofs.lemmas.List.{length-map}
use Rattle.load_plan.specs.declared.plan.Plan.{Plan}
use Rattle.net_parts.specs.declared.parcel.Parcel.{Parcel}
use Rattle.net_parts.specs.Parts.{is_segment_part, edges_of_part, run_part, Made}
use Rattle.net_parts.specs.Parcels.{true_parcel, arrived}
use Rattle.net_parts.specs.Boards.{Board, ParcelOnBoard, Whereabouts, Segment, Repeater, Mail, Run, Spoil, Post, Take, opening_board, whereabouts_at, place_in, has_edge, refilled_on_board, emptied_on_board, happens}
use Rattle.net_parts.proofs.BoardEvents.{opening_symbols}
use Rattle.exchange_core.specs.Holdings.{Holding, IsSoundHolding, IsHoldingReady, edges_of_parcels, place_of_edge, absent_parcel, is_here, added_segment, added_repeater}
use Rattle.exchange_core.specs.Ties.{Agrees, parcel_on_board}
use Rattle.exchange_core.proofs.EdgesOfParts.{AreApart, place_of_each, one_part, edges_apart}
use Rattle.exchange_core.proofs.SoundHoldings.{get_map, edge_at, place_here}
use Rattle.exchange_core.proofs.SoundShares.{not_here}
use Rattle.exchange_core.proofs.BoardTies.{put_other, here, on_board}

abbrev is_at_repeater : Whereabouts → Bool
is_at_repeater Segment = false
is_at_repeater Repeater = true
is_at_repeater Mail = false

abbrev is_in_mail : Whereabouts → Bool
is_in_mail Segment = false
is_in_mail Repeater = false
is_in_mail Mail = true

at_way : (x : Bool) → is_at_repeater (whereabouts_at x) ≡ x
at_way true = refl
at_way false = refl

same_spot : (x y : Bool) → whereabouts_at x ≡ whereabouts_at y → x ≡ y
same_spot x y e = sym (at_way x) ∙ ap is_at_repeater e ∙ at_way y

never_mail : (x : Bool) → whereabouts_at x ≡ Mail → ⊥
never_mail true e = true≢false (sym (ap is_in_mail e))
never_mail false e = true≢false (sym (ap is_in_mail e))

not_same : (x y : Bool) → not x ≡ not y → x ≡ y
not_same true true e = refl
not_same true false e = absurd (true≢false (sym e))
not_same false true e = absurd (true≢false e)
not_same false false e = refl

-- an edge whose parcel is here is one of the part's
pub has_here : (e : ℕ) (h : Holding) → IsSoundHolding h → is_here e h ≡ true → has_edge (edges_of_parcels h.parcels) e ≡ true
has_here e h s y = elim (has_edge (edges_of_parcels h.parcels) e) as (λ x. has_edge (edges_of_parcels h.parcels) e ≡ x → x ≡ true) [
  | true ↦ λ _. refl
  | false ↦ λ none. absurd (true≢false (sym y ∙ not_here e h s none))
] refl

-- a parcel that isn't away is here
each_here : (h : Holding) → IsSoundHolding h → (k : ℕ) (d : Parcel) → k < length h.parcels → get_or h.away k true ≡ false → is_here (get_or h.parcels k d).edge h ≡ true
each_here h s k d in' away =
    let es = edges_of_parcels h.parcels in
    let apart : AreApart es = subst AreApart (sym s.edges) (edges_apart h.plan h.number) in
    let within : k < length es = (let m = length-map h.parcels (λ (p : Parcel). p.edge) in omega (arith, m, in')) in
    let place : place_in es (get_or h.parcels k d).edge ≡ k = ap (place_in es) (sym (edge_at h.parcels k d in')) ∙ place_of_each es k 0 apart within in
    ap (λ j. not (get_or h.away j true)) place ∙ ap not away

spot_of : (e : ℕ) (h : Holding) (b : Board) → IsSoundHolding h → Agrees h b → is_here e h ≡ true → (b.parcel e).spot ≡ whereabouts_at (not (is_segment_part h.plan h.number))
spot_of e h b s a y = ap (λ (x : ParcelOnBoard). x.spot) (on_board h b s a e (has_here e h s y) y)

-- a parcel is here at one part alone
pub one_place : (e : ℕ) (g h : Holding) (b : Board) → IsSoundHolding g → IsSoundHolding h → g.plan ≡ h.plan → Agrees g b → Agrees h b → is_here e g ≡ true → is_here e h ≡ true → g.number ≡ h.number
one_place e g h b s t same a c x y =
    let kinds : is_segment_part g.plan g.number ≡ is_segment_part h.plan h.number =
    not_same (is_segment_part g.plan g.number) (is_segment_part h.plan h.number)
    (same_spot (not (is_segment_part g.plan g.number)) (not (is_segment_part h.plan h.number)) (sym (spot_of e g b s a x) ∙ spot_of e h b t c y)) in
    one_part h.plan g.number h.number e (ap (λ p. is_segment_part p g.number) (sym same) ∙ kinds)
    (ap (λ p. has_edge (edges_of_part p g.number) e) (sym same) ∙ ap (λ es. has_edge es e) (sym s.edges) ∙ has_here e g s x)
    (ap (λ es. has_edge es e) (sym t.edges) ∙ has_here e h t y)

-- a part whose place on the board and whose parcels here are as before
stays : (g : Holding) (b b' : Board) → IsSoundHolding g → Agrees g b → b'.part g.number ≡ b.part g.number → ((e : ℕ) → is_here e g ≡ true → b'.parcel e ≡ b.parcel e) → Agrees g b'
stays g b b' s a part parcels = record {
  part = part ∙ a.part;
  parcels = λ k d in' away. parcels (get_or g.parcels k d).edge (each_here g s k d in' away) ∙ a.parcels k d in' away;
}

module _ (g h : Holding) (b : Board) (s : IsSoundHolding g) (t : IsSoundHolding h) (same : g.plan ≡ h.plan) (a : Agrees g b) (c : Agrees h b) (ne : g.number ≢ h.number) where
  pub not_both_here : (e : ℕ) → is_here e h ≡ true → is_here e g ≡ false
  not_both_here e y = elim (is_here e g) as (λ x. is_here e g ≡ x → x ≡ false) [
    | true ↦ λ x. absurd (ne (one_place e g h b s t same a c x y))
    | false ↦ λ _. refl
  ] refl

  module _ (r : IsHoldingReady h) where
    none_of : (e : ℕ) → is_here e g ≡ true → has_edge (edges_of_part h.plan h.number) e ≡ false
    none_of e x = elim (has_edge (edges_of_part h.plan h.number) e) as (λ y. has_edge (edges_of_part h.plan h.number) e ≡ y → y ≡ false) [
      | true ↦ λ has. (
          let has' : has_edge (edges_of_parcels h.parcels) e ≡ true = ap (λ es. has_edge es e) t.edges ∙ has in
          let there : is_here e h ≡ true = ap not (here h b t c r (place_of_edge e h) (absent_parcel false e) (place_here e h.parcels has')) in
          absurd (true≢false (sym x ∙ not_both_here e there)))
      | false ↦ λ _. refl
    ] refl

    pub run_stays : Agrees g (happens h.plan b (Run h.number))
    run_stays =
        let w = (b.part h.number).window in
        let es = edges_of_part h.plan h.number in
        let made : Made = run_part h.plan h.number w (b.part h.number).state (map (λ e. (b.parcel e).symbols) es) in
        stays g b (happens h.plan b (Run h.number)) s a
        (put_other h.number g.number (record { window = w + 1; state = made.state; lost = false }) b.part (λ is. ne (sym is)))
        (λ e x. ap (λ y. cond y (refilled_on_board h.plan h.number w (get_or made.symbols (place_in es e) []) (b.parcel e)) (b.parcel e)) (none_of e x))

    pub spoil_stays : Agrees g (happens h.plan b (Spoil h.number))
    spoil_stays =
        let w = (b.part h.number).window in
        stays g b (happens h.plan b (Spoil h.number)) s a
        (put_other h.number g.number (record { window = w + 1; state = (b.part h.number).state; lost = true }) b.part (λ is. ne (sym is)))
        (λ e x. ap (λ y. cond y (emptied_on_board h.plan h.number w (b.parcel e)) (b.parcel e)) (none_of e x))

pub post_stays : (plan : Plan) (g : Holding) (b : Board) (e : ℕ) → IsSoundHolding g → Agrees g b → is_here e g ≡ false → Agrees g (happens plan b (Post e))
post_stays plan g b e s a none = stays g b (happens plan b (Post e)) s a refl
    (λ e' x. put_other e e' (record (b.parcel e) { spot = Mail }) b.parcel (λ is. true≢false (sym x ∙ ap (λ y. is_here y g) (sym is) ∙ none)))

pub take_stays : (plan : Plan) (g : Holding) (b : Board) (e : ℕ) → IsSoundHolding g → Agrees g b → (b.parcel e).spot ≡ Mail → Agrees g (happens plan b (Take e))
take_stays plan g b e s a mail = stays g b (happens plan b (Take e)) s a refl
    (λ e' x. put_other e e' (record (b.parcel e) { spot = whereabouts_at (b.parcel e).to_repeater }) b.parcel
    (λ is. never_mail (not (is_segment_part g.plan g.number)) (sym (spot_of e' g b s a x) ∙ ap (λ y. (b.parcel y).spot) (sym is) ∙ mail)))

-- the opening board
opening_at : (plan : Plan) (e : ℕ) (x : Bool) → x ≡ false → (opening_board plan).parcel e ≡ parcel_on_board (whereabouts_at x) (true_parcel plan x 0 e)
opening_at plan e true is = absurd (true≢false is)
opening_at plan e false is = ap (λ ss. let p : ParcelOnBoard = record { window = 0; to_repeater = false; symbols = ss; spoiled = false; spot = Segment } in p) (opening_symbols plan e)

pub segment_opens : (plan : Plan) (u : ℕ) → is_segment_part plan u ≡ true → Agrees (added_segment plan u 0 (arrived plan u 0)) (opening_board plan)
segment_opens plan u kind = record {
  part = refl;
  parcels = λ k d in' _.
      let way = not (is_segment_part plan u) in
      let es = edges_of_part plan u in
      let within : k < length es = (let m = length-map es (true_parcel plan way 0) in omega (arith, m, in')) in
      subst (λ (p : Parcel). (opening_board plan).parcel p.edge ≡ parcel_on_board (whereabouts_at way) p) (sym (get_map (true_parcel plan way 0) es k 0 d within)) (opening_at plan (get_or es k 0) way (ap not kind));
}

all_away : (n k : ℕ) → get_or (replicate n true) k true ≡ true
all_away zero k = refl
all_away (suc n) zero = refl
all_away (suc n) (suc k) = all_away n k

pub repeater_opens : (plan : Plan) (u : ℕ) → Agrees (added_repeater plan u 0) (opening_board plan)
repeater_opens plan u = record {
  part = refl;
  parcels = λ k d _ at. absurd (true≢false (sym (all_away (length (edges_of_part plan u)) k) ∙ at));
}
