-- Each call of a share leaves its parts of the plan of which they are.
use Rattle.std.proofs.Common.{◌≡◌, ℕ, zero, suc, Bool, true, false, List, [], ◌∷◌, get_or, refl, sym, ap, ◌∙◌, subst, true≢false}
use Rattle.std.specs.Prelude.{Option, Some, None, IfSome, if◌then◌else◌}
use Rattle.load_plan.specs.declared.plan.Plan.{Plan}
use Rattle.net_parts.specs.declared.parcel.Parcel.{Parcel}
use Rattle.net_parts.specs.Parcels.{IsTrueParcel, arrived}
use Rattle.exchange_core.specs.Holdings.{Holding, IsHoldingReady, IsHoldingClean, MayBeSpoiled, reserved_holding, refused_holding, run_holding, spoil_holding, vacate_holding, take_holding}
use Rattle.exchange_core.specs.Shares.{Rack, Held, nothing_held, AreParcelsFor, rack_of_way, has_place_for, IsOfPlan, part_on, part_of, is_owned, changed, change, change_on, has_place, change_first, change_edge, may_post, first_with_edge, is_refilled, posted_parcel, post_held, take_held, received, carry_held, take_of_way, add_on, with_segment, with_repeater}
use Rattle.exchange_core.proofs.ChangedRacks.{comes_of, some_same, none_not_some}
use Rattle.exchange_core.proofs.GrownShares.{added_on}
use Rattle.exchange_core.proofs.ShareLaws.{parts_change, parcels_serve}
use Rattle.worker_gate.specs.PlannedShares.{IsPlannedRack, IsPlannedShare, StaysPlanned}

abbrev pub boxed_as : Plan → Option Plan
boxed_as plan = Some plan

-- what a part becomes is of its plan
abbrev KeepsPlan : (Holding → Holding) → Type 0
KeepsPlan f = (h : Holding) → (f h).plan ≡ h.plan

module _ (boxed : Option Plan) where
  of_plan : (g h : Holding) → h.plan ≡ g.plan → Some g.plan ≡ boxed → Some h.plan ≡ boxed
  of_plan g h same was = ap boxed_as same ∙ was

  module _ (f : Holding → Holding) (keeps : KeepsPlan f) where
    rack_changed : (u : ℕ) (r : Rack) → IsPlannedRack boxed r → IsPlannedRack boxed (change_on f u r)
    rack_changed u r all v after is =
        let c = comes_of r f u (λ g h. h.plan ≡ g.plan) v after (λ _ _ _ _. refl) (λ h _. keeps h) is in
        of_plan c.before after c.then_is (all v c.before c.was)

    pub share_changed : (u : ℕ) (s : Held) → IsPlannedShare boxed s → IsPlannedShare boxed (change f u s)
    share_changed u s p = elim (is_owned (part_on u s.segments)) as (λ b. IsPlannedShare boxed (if b then record s { segments = change_on f u s.segments } else record s { repeaters = change_on f u s.repeaters })) [
      | true ↦ record { segments = rack_changed u s.segments p.segments; repeaters = p.repeaters }
      | false ↦ record { segments = p.segments; repeaters = rack_changed u s.repeaters p.repeaters }
    ]

    at_first : (o : Option Holding) (os : List (Option Holding)) → ((v : ℕ) (h : Holding) → get_or (o ∷ os) v None ≡ Some h → Some h.plan ≡ boxed)
        → (v : ℕ) (h : Holding) → get_or (changed f o ∷ os) v None ≡ Some h → Some h.plan ≡ boxed
    at_first None os all zero h is = absurd (none_not_some h is)
    at_first (Some g) os all zero h is = of_plan g h (ap (λ (x : Holding). x.plan) (sym (some_same (f g) h is)) ∙ keeps g) (all 0 g refl)
    at_first None os all (suc v) h is = all (suc v) h is
    at_first (Some g) os all (suc v) h is = all (suc v) h is

    at_later : (o : Option Holding) (os os' : List (Option Holding)) → ((v : ℕ) (h : Holding) → get_or (o ∷ os) v None ≡ Some h → Some h.plan ≡ boxed)
        → ((v : ℕ) (h : Holding) → get_or os' v None ≡ Some h → Some h.plan ≡ boxed)
        → (v : ℕ) (h : Holding) → get_or (o ∷ os') v None ≡ Some h → Some h.plan ≡ boxed
    at_later o os os' all rest zero h is = all 0 h is
    at_later o os os' all rest (suc v) h is = rest v h is

    places_changed : (e : ℕ) (os : List (Option Holding)) → ((v : ℕ) (h : Holding) → get_or os v None ≡ Some h → Some h.plan ≡ boxed)
        → (v : ℕ) (h : Holding) → get_or (change_first f e os) v None ≡ Some h → Some h.plan ≡ boxed
    places_changed e [] all = all
    places_changed e (o ∷ os) all = elim (has_place e o) as (λ b. (v : ℕ) (h : Holding) → get_or (if b then changed f o ∷ os else o ∷ change_first f e os) v None ≡ Some h → Some h.plan ≡ boxed) [
      | true ↦ at_first o os all
      | false ↦ at_later o os (change_first f e os) all (places_changed e os (λ v h is. all (suc v) h is))
    ]

    edge_changed : (e : ℕ) (r : Rack) → IsPlannedRack boxed r → IsPlannedRack boxed (change_edge f e r)
    edge_changed e r all = places_changed e r.places all

  vacated : (e : ℕ) (r : Rack) → IsPlannedRack boxed r → IsPlannedRack boxed (change_edge (vacate_holding e) e r)
  vacated e r all = edge_changed (vacate_holding e) (λ h. refl) e r all

  pub posted : (e : ℕ) (s : Held) → IsPlannedShare boxed s → (s' : Held) → s' ≡ post_held e s → IsPlannedShare boxed s'
  posted e s p s' is = subst (IsPlannedShare boxed) (sym is) (elim (may_post e (first_with_edge e s.segments.places)) as (λ b. IsPlannedShare boxed
      (if b then record s { segments = change_edge (vacate_holding e) e s.segments } else record s { repeaters = change_edge (vacate_holding e) e s.repeaters })) [
        | true ↦ record { segments = vacated e s.segments p.segments; repeaters = p.repeaters }
        | false ↦ record { segments = p.segments; repeaters = vacated e s.repeaters p.repeaters }
      ])

  of_way : (way : Bool) (parcel : Parcel) (s : Held) → IsPlannedShare boxed s → IsPlannedShare boxed (take_of_way way parcel s)
  of_way true parcel s p = record { segments = vacated parcel.edge s.segments p.segments; repeaters = edge_changed (take_holding parcel) (λ h. refl) parcel.edge s.repeaters p.repeaters }
  of_way false parcel s p = record { segments = edge_changed (take_holding parcel) (λ h. refl) parcel.edge s.segments p.segments; repeaters = vacated parcel.edge s.repeaters p.repeaters }

  pub taken : (parcel : Parcel) (s : Held) → IsPlannedShare boxed s → (s' : Held) → s' ≡ take_held parcel s → IsPlannedShare boxed s'
  taken parcel s p s' is = subst (IsPlannedShare boxed) (sym is) (of_way parcel.to_repeater parcel s p)

  come : (parcel : Parcel) (s : Held) → IsPlannedShare boxed s → IsPlannedShare boxed (received parcel s)
  come parcel s p = elim (has_place_for parcel s) as (λ b. IsPlannedShare boxed (if b then take_held parcel s else s)) [
    | true ↦ taken parcel s p (take_held parcel s) refl
    | false ↦ p
  ]

  pub brought : (e : ℕ) (s : Held) → IsPlannedShare boxed s → (s' : Held) → s' ≡ carry_held e s → IsPlannedShare boxed s'
  brought e s p s' is = subst (IsPlannedShare boxed) (sym is) (elim (is_refilled e s) as (λ b. IsPlannedShare boxed (if b then received (posted_parcel e s) (post_held e s) else s)) [
    | true ↦ come (posted_parcel e s) (post_held e s) (posted e s p (post_held e s) refl)
    | false ↦ p
  ])

  rack_grown : (h : Holding) (r : Rack) → Some h.plan ≡ boxed → IsPlannedRack boxed r → IsPlannedRack boxed (add_on h r)
  rack_grown h r of all v g is = added_on h r v g is (Some g.plan ≡ boxed) (λ _ it. of_plan h g (ap (λ (x : Holding). x.plan) it) of) (λ was. all v g was)

  pub segment_added : (h : Holding) (s : Held) → Some h.plan ≡ boxed → IsPlannedShare boxed s → (s' : Held) → s' ≡ with_segment h s → IsPlannedShare boxed s'
  segment_added h s of p s' is = subst (IsPlannedShare boxed) (sym is) (record { segments = rack_grown h s.segments of p.segments; repeaters = p.repeaters })

  pub repeater_added : (h : Holding) (s : Held) → Some h.plan ≡ boxed → IsPlannedShare boxed s → (s' : Held) → s' ≡ with_repeater h s → IsPlannedShare boxed s'
  repeater_added h s of p s' is = subst (IsPlannedShare boxed) (sym is) (record { segments = p.segments; repeaters = rack_grown h s.repeaters of p.repeaters })

-- what the calls of one window leave
pub spoil_stays : (u : ℕ) (s s' : Held) → s' ≡ change spoil_holding u s → StaysPlanned s s'
spoil_stays u s s' is boxed p = subst (IsPlannedShare boxed) (sym is) (share_changed boxed spoil_holding (λ h. refl) u s p)

pub made_stays : (u : ℕ) (s s' s'' : Held) → s' ≡ change reserved_holding u s → s'' ≡ change run_holding u s' → StaysPlanned s s''
made_stays u s s' s'' is is' boxed p =
    let q = subst (IsPlannedShare boxed) (sym is) (share_changed boxed reserved_holding (λ h. refl) u s p) in
    subst (IsPlannedShare boxed) (sym is') (share_changed boxed run_holding (λ h. refl) u s' q)

pub refused_stays : (u : ℕ) (s s' s'' : Held) → s' ≡ change refused_holding u s → s'' ≡ change spoil_holding u s' → StaysPlanned s s''
refused_stays u s s' s'' is is' boxed p =
    let q = subst (IsPlannedShare boxed) (sym is) (share_changed boxed refused_holding (λ h. refl) u s p) in
    subst (IsPlannedShare boxed) (sym is') (share_changed boxed spoil_holding (λ h. refl) u s' q)

-- what is so of a part after a change of it
module _ (f : Holding → Holding) (u : ℕ) (s s' : Held) (is : s' ≡ change f u s) where
  part_after : part_of u s' ≡ changed f (part_of u s)
  part_after = ap (part_of u) is ∙ parts_change f u s

  pub after : (P Q : Holding → Type 0) → ((h : Holding) → P h → Q (f h)) → IfSome (part_of u s) P → IfSome (part_of u s') Q
  after P Q goes p = subst (λ o. IfSome o Q) (sym part_after) (of (part_of u s) p)
    where
      of : (o : Option Holding) → IfSome o P → IfSome (changed f o) Q
      of None p' = tt
      of (Some h) p' = goes h p'

pub clean_reserved : (u : ℕ) (s s' : Held) → s' ≡ change reserved_holding u s → IfSome (part_of u s) IsHoldingClean → IfSome (part_of u s') IsHoldingClean
clean_reserved u s s' is = after reserved_holding u s s' is IsHoldingClean IsHoldingClean (λ h p. p)

pub kept_reserved : (u : ℕ) (s s' : Held) → s' ≡ change reserved_holding u s → IfSome (part_of u s) (λ h. h.lost ≡ false) → IfSome (part_of u s') (λ h. h.lost ≡ false)
kept_reserved u s s' is = after reserved_holding u s s' is (λ h. h.lost ≡ false) (λ h. h.lost ≡ false) (λ h p. p)

pub room_reserved : (u : ℕ) (s s' : Held) → s' ≡ change reserved_holding u s → IfSome (part_of u s) IsHoldingReady → IfSome (part_of u s') (λ h. h.reserved ≡ true)
room_reserved u s s' is = after reserved_holding u s s' is IsHoldingReady (λ h. h.reserved ≡ true) (λ h p. refl)

pub ready_refused : (u : ℕ) (s s' : Held) → s' ≡ change refused_holding u s → IfSome (part_of u s) IsHoldingReady → IfSome (part_of u s') IsHoldingReady
ready_refused u s s' is = after refused_holding u s s' is IsHoldingReady IsHoldingReady (λ h p. p)

pub cause_refused : (u : ℕ) (s s' : Held) → s' ≡ change refused_holding u s → IfSome (part_of u s) IsHoldingReady → IfSome (part_of u s') MayBeSpoiled
cause_refused u s s' is = after refused_holding u s s' is IsHoldingReady MayBeSpoiled (λ h _ none _ _. true≢false none)

-- a part that is lost, or at which a parcel is spoiled, may be given up
pub cause_lost : (o : Option Holding) (lost : Bool) → IfSome o (λ h. lost ≡ h.lost) → lost ≡ true → IfSome o MayBeSpoiled
cause_lost None lost is true' = tt
cause_lost (Some h) lost is true' = λ _ false' _. true≢false (sym true' ∙ is ∙ false')

pub cause_spoiled : (o : Option Holding) → (IfSome o IsHoldingClean → ⊥) → IfSome o MayBeSpoiled
cause_spoiled None not_clean = tt
cause_spoiled (Some h) not_clean = λ _ _ clean. not_clean clean

-- what leaves a share and what comes to it is true for the plan of its parts
pub same_plan : (p q : Plan) → boxed_as p ≡ boxed_as q → p ≡ q
same_plan p q e = cc

of_boxed : (plan : Plan) (s : Held) → IsPlannedShare (boxed_as plan) s → IsOfPlan plan s
of_boxed plan s p true u h is = same_plan h.plan plan (p.segments u h is)
of_boxed plan s p false u h is = same_plan h.plan plan (p.repeaters u h is)

pub true_if_boxed : (boxed : Option Plan) (s : Held) (parcel : Parcel) → IsPlannedShare boxed s → ((plan : Plan) → IsOfPlan plan s → IsTrueParcel plan parcel) → IfSome boxed (λ plan. IsTrueParcel plan parcel)
true_if_boxed None s parcel p honest = tt
true_if_boxed (Some plan) s parcel p honest = honest plan (of_boxed plan s p)

some_place : (e : ℕ) (os : List (Option Holding)) → is_owned (first_with_edge e os) ≡ true → (C : Type 0) → ((v : ℕ) (h : Holding) → get_or os v None ≡ Some h → C) → C
some_place e [] has C k = absurd (true≢false (sym has))
some_place e (o ∷ os) has C k = elim (has_place e o) as (λ b. is_owned (if b then o else first_with_edge e os) ≡ true → C) [
  | true ↦ λ has'. of o has' (λ h is. k 0 h is)
  | false ↦ λ has'. some_place e os has' C (λ v h is. k (suc v) h is)
] has
  where
    of : (o' : Option Holding) → is_owned o' ≡ true → ((h : Holding) → o' ≡ Some h → C) → C
    of None has' k' = absurd (true≢false (sym has'))
    of (Some h) has' k' = k' h refl

pub true_for_all : (boxed : Option Plan) (s : Held) (parcel : Parcel) → IsPlannedShare boxed s → has_place_for parcel s ≡ true → IfSome boxed (λ plan. IsTrueParcel plan parcel)
    → (plan : Plan) → IsOfPlan plan s → IsTrueParcel plan parcel
true_for_all boxed s parcel p has honest plan of =
    elim parcel.to_repeater as (λ way. is_owned (first_with_edge parcel.edge (rack_of_way way s).places) ≡ true → IsTrueParcel plan parcel) [
      | true ↦ λ has'. some_place parcel.edge s.repeaters.places has' (IsTrueParcel plan parcel) (λ v h is.
          subst (λ o. IfSome o (λ plan'. IsTrueParcel plan' parcel)) (sym (p.repeaters v h is) ∙ ap boxed_as (of false v h is)) honest)
      | false ↦ λ has'. some_place parcel.edge s.segments.places has' (IsTrueParcel plan parcel) (λ v h is.
          subst (λ o. IfSome o (λ plan'. IsTrueParcel plan' parcel)) (sym (p.segments v h is) ∙ ap boxed_as (of true v h is)) honest)
    ] has

-- what is added
pub nothing_planned : (boxed : Option Plan) (s : Held) → s ≡ nothing_held → IsPlannedShare boxed s
nothing_planned boxed s is = subst (IsPlannedShare boxed) (sym is) (record { segments = λ u h at. absurd (none_not_some h at); repeaters = λ u h at. absurd (none_not_some h at) })

pub opening_serves : (plan plan' : Plan) (u u' w : ℕ) (ps : List Parcel) → ps ≡ arrived plan' u' 0 → plan ≡ plan' → u' ≡ u → w ≡ 0 → AreParcelsFor plan u w ps
opening_serves plan plan' u u' w ps is same number start =
    subst (AreParcelsFor plan u w) (sym (is ∙ ap (λ p. arrived p u' 0) (sym same) ∙ ap (λ v. arrived plan v 0) number ∙ ap (arrived plan u) (sym start))) (parcels_serve plan u w)

pub same_share : (boxed : Option Plan) (s s' : Held) → IsPlannedShare boxed s → s' ≡ s → IsPlannedShare boxed s'
same_share boxed s s' p is = subst (IsPlannedShare boxed) (sym is) p
