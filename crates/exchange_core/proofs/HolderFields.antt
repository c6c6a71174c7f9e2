-- Each event leaves the fields of a part with its parcels as they belong together.
use Rattle.std.proofs.Common.{◌≡◌, ℕ, Bool, true, false, not, ◌+◌, ◌<◌, List, length, map, set, ap, ap₂, ◌∙◌, sym, subst, true≢false, IsTrue, ◌↔◌, arith}
use Rattle.std.specs.Prelude.{All}
use Rattle.load_plan.specs.declared.plan.Plan.{Plan}
use Rattle.net_parts.specs.declared.parcel.Parcel.{Parcel}
use Rattle.net_parts.specs.Windows.{windows}
use Rattle.net_parts.specs.Parts.{is_segment_part}
use Rattle.net_parts.specs.Parcels.{IsTrueParcel, next_stamp, refilled}
use Rattle.net_parts.specs.Boards.{has_edge}
use Rattle.exchange_core.specs.Holdings.{Holding, IsHoldingReady, IsOnWay, edges_of_parcels, place_of_edge, absent_parcel, emptied_parcel, run_holding, spoil_holding, vacate_holding, take_holding}
use Rattle.exchange_core.specs.Holders.{IsHolder, held_as}
use Rattle.exchange_core.proofs.EdgePlaces.{within_parcels}
use Rattle.exchange_core.proofs.SoundHoldings.{run_sound, spoil_sound, vacate_sound, take_sound}

pub ready_tie : (h : Holding) (n : ℕ) (segment r : Bool) (qs : List Parcel) → n ≡ windows h.plan → segment ≡ is_segment_part h.plan h.number → qs ≡ h.parcels → h.window < n
    → (IsTrue r ↔ All (IsOnWay (not segment) h.window) qs) → IsTrue r ↔ IsHoldingReady h
ready_tie h n segment r qs a b c lt t =
    let same : All (IsOnWay (not segment) h.window) qs ≡ All (IsOnWay (not (is_segment_part h.plan h.number)) h.window) h.parcels = λ i. All (IsOnWay (not (b i)) h.window) (c i) in (
      (λ x. (subst (λ m. h.window < m) a lt, subst (λ (X : Type 0). X) same (t.0 x))),
      (λ q. t.1 (subst (λ (X : Type 0). X) (sym same) q.1)),
    )

module _ (u n : ℕ) (segment room : Bool) (h : Holding) (s : IsHolder u n segment room h) where
  pub holder_run : (plan : Plan) (number at : ℕ) (room' : Bool) (qs : List Parcel) → h.lost ≡ false → plan ≡ h.plan → number ≡ h.number → at ≡ h.at + 1 → qs ≡ refilled h.plan h.number h.at
      → IsHolder u n segment room' (held_as plan number at (h.window + 1) h.lost false false qs h.away)
  holder_run plan number at room' qs kept p m a q =
      let filled : qs ≡ refilled h.plan h.number h.window = q ∙ ap (refilled h.plan h.number) (sym (s.sound.stands kept)) in
      let same : held_as plan number at (h.window + 1) h.lost false false qs h.away ≡ run_holding h = λ i. held_as (p i) (m i) (a i) (h.window + 1) h.lost false false (filled i) h.away in
      subst (IsHolder u n segment room') (sym same) (record { number_is = s.number_is; windows_are = s.windows_are; segment_is = s.segment_is; room_is = λ l. absurd (true≢false (sym l)); sound = run_sound h s.sound })

  pub holder_spoil : (stamp : ℕ) (qs : List Parcel) → stamp ≡ next_stamp (is_segment_part h.plan h.number) h.window → qs ≡ map (emptied_parcel segment stamp) h.parcels
      → IsHolder u n segment room (held_as h.plan h.number h.at (h.window + 1) true false h.reserved qs h.away)
  holder_spoil stamp qs is q =
      let way = is_segment_part h.plan h.number in
      let filled : qs ≡ map (emptied_parcel way (next_stamp way h.window)) h.parcels = q ∙ ap₂ (λ b w. map (emptied_parcel b w) h.parcels) s.segment_is is in
      let same : held_as h.plan h.number h.at (h.window + 1) true false h.reserved qs h.away ≡ spoil_holding h = λ i. held_as h.plan h.number h.at (h.window + 1) true false h.reserved (filled i) h.away in
      subst (IsHolder u n segment room) (sym same) (record { number_is = s.number_is; windows_are = s.windows_are; segment_is = s.segment_is; room_is = s.room_is; sound = spoil_sound h s.sound })

  -- the place of one of its edges is known, by what is seen of it
  module _ (now : Holding) (e k : ℕ) (view : h ≡ now) (has : has_edge (edges_of_parcels now.parcels) e ≡ true) (is : k ≡ place_of_edge e now) where
    pub in_parcels : k < length h.parcels
    in_parcels = within_parcels h now e k view has is

    pub in_away : k < length h.away
    in_away = let l = in_parcels in let m = s.sound.places in omega (arith, l, m)

    -- what lies there is one that is away
    module _ (p : Parcel) (gone : p ≡ absent_parcel segment e) where
      left : held_as h.plan h.number h.at h.window h.lost h.refused h.reserved (set h.parcels k p) (set h.away k true) ≡ vacate_holding e h
      left =
          let here : k ≡ place_of_edge e h = is ∙ ap (place_of_edge e) (sym view) in
          let absent : p ≡ absent_parcel (is_segment_part h.plan h.number) e = gone ∙ ap (λ b. absent_parcel b e) s.segment_is in
          λ i. held_as h.plan h.number h.at h.window h.lost h.refused h.reserved (set h.parcels (here i) (absent i)) (set h.away (here i) true)

      pub vacated_is : held_as h.plan h.number h.at h.window h.lost h.refused h.reserved (set h.parcels k p) (set h.away k true) ≡ vacate_holding e now
      vacated_is = left ∙ ap (vacate_holding e) view

      pub holder_vacate : IsHolder u n segment room (held_as h.plan h.number h.at h.window h.lost h.refused h.reserved (set h.parcels k p) (set h.away k true))
      holder_vacate =
          let there : has_edge (edges_of_parcels h.parcels) e ≡ true = ap (λ (v : Holding). has_edge (edges_of_parcels v.parcels) e) view ∙ has in
          subst (IsHolder u n segment room) (sym left) (record { number_is = s.number_is; windows_are = s.windows_are; segment_is = s.segment_is; room_is = s.room_is; sound = vacate_sound e h there s.sound })

  pub holder_take : (k : ℕ) (p : Parcel) → has_edge (edges_of_parcels h.parcels) p.edge ≡ true → IsTrueParcel h.plan p → k ≡ place_of_edge p.edge h
      → IsHolder u n segment room (held_as h.plan h.number h.at h.window h.lost h.refused h.reserved (set h.parcels k p) (set h.away k false))
  holder_take k p has honest is =
      let same : held_as h.plan h.number h.at h.window h.lost h.refused h.reserved (set h.parcels k p) (set h.away k false) ≡ take_holding p h =
      λ i. held_as h.plan h.number h.at h.window h.lost h.refused h.reserved (set h.parcels (is i) p) (set h.away (is i) false) in
      subst (IsHolder u n segment room) (sym same) (record { number_is = s.number_is; windows_are = s.windows_are; segment_is = s.segment_is; room_is = s.room_is; sound = take_sound p h has honest s.sound })
