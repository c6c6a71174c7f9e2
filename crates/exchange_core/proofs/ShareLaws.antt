-- What those who call a share need to know of it.
use Rattle.std.proofs.Common.{◌≡◌, ◌≢◌, ℕ, ◌<◌, true, false, not, length, map, refl, sym, ap, ◌∙◌, arith, subst, true≢false}
use Rattle.std.specs.Prelude.{Option, Some, None, IfSome, if◌then◌else◌}
use Rattle.std.proofs.lemmas.List.{length-map}
use Rattle.load_plan.specs.declared.plan.Plan.{Plan}
use Rattle.net_parts.specs.declared.parcel.Parcel.{Parcel}
use Rattle.net_parts.specs.Parts.{is_segment_part, edges_of_part}
use Rattle.net_parts.specs.Parcels.{IsTrueParcel, true_parcel}
use Rattle.exchange_core.specs.Holdings.{Holding, MayBeSpoiled, reserved_holding, refused_holding}
use Rattle.exchange_core.specs.Shares.{Held, nothing_held, part_on, part_of_kind_on, with_segment, with_repeater, IsOfPlan, part_of, owns, is_owned, changed, change, change_on}
use Rattle.exchange_core.specs.Ties.{ParcelsServe, PartsChange}
use Rattle.exchange_core.proofs.SoundHoldings.{get_map, edges_made, all_made}
use Rattle.exchange_core.proofs.ChangedRacks.{comes_of, found_changed, owned_same, none_not_some}
use Rattle.exchange_core.proofs.GrownShares.{added_on, added_other}

pub parcels_serve : ParcelsServe
parcels_serve plan u w =
    let way = not (is_segment_part plan u) in
    let f = true_parcel plan way w in
    let es = edges_of_part plan u in
    let within : (k : ℕ) → k < length (map f es) → k < length es = (λ k in'. let m = length-map es f in omega (arith, m, in')) in
    record {
      edges = edges_made f (λ e. refl) es;
      way = λ k d in'. ap (λ (p : Parcel). p.to_repeater) (get_map f es k 0 d (within k in'));
      stamp = λ k d in'. ap (λ (p : Parcel). p.window) (get_map f es k 0 d (within k in'));
      honest = all_made (IsTrueParcel plan) f (λ e _. refl) es;
    }

pub parts_change : PartsChange
parts_change f u s = elim (is_owned (part_on u s.segments)) as (λ b. is_owned (part_on u s.segments) ≡ b →
    part_of u (if b then record s { segments = change_on f u s.segments } else record s { repeaters = change_on f u s.repeaters }) ≡ changed f (if b then part_on u s.segments else part_on u s.repeaters)) [
      | true ↦ λ is. ap (λ b. if b then part_on u (change_on f u s.segments) else part_on u s.repeaters) (owned_same s.segments f u u ∙ is) ∙ found_changed s.segments f u
      | false ↦ λ is. ap (λ b. if b then part_on u s.segments else part_on u (change_on f u s.repeaters)) is ∙ found_changed s.repeaters f u
    ] refl

-- All parts of a share stay those of one plan.
module _ (plan : Plan) (s : Held) (of : IsOfPlan plan s) where
  pub plan_changed : (f : Holding → Holding) → ((h : Holding) → (f h).plan ≡ h.plan) → (u : ℕ) → IsOfPlan plan (change f u s)
  plan_changed f same u = elim (is_owned (part_on u s.segments)) as (λ b. IsOfPlan plan (if b then record s { segments = change_on f u s.segments } else record s { repeaters = change_on f u s.repeaters })) [
    | true ↦ λ kind v h is. elim kind as (λ k. part_of_kind_on k v (record s { segments = change_on f u s.segments }) ≡ Some h → h.plan ≡ plan) [
      | true ↦ λ is'. (let c = comes_of s.segments f u (λ g g'. g'.plan ≡ g.plan) v h (λ _ _ _ _. refl) (λ g _. same g) is' in c.then_is ∙ of true v c.before c.was)
      | false ↦ λ is'. of false v h is'
    ] is
    | false ↦ λ kind v h is. elim kind as (λ k. part_of_kind_on k v (record s { repeaters = change_on f u s.repeaters }) ≡ Some h → h.plan ≡ plan) [
      | false ↦ λ is'. (let c = comes_of s.repeaters f u (λ g g'. g'.plan ≡ g.plan) v h (λ _ _ _ _. refl) (λ g _. same g) is' in c.then_is ∙ of false v c.before c.was)
      | true ↦ λ is'. of true v h is'
    ] is
  ]

  pub plan_with_segment : (h : Holding) → h.plan ≡ plan → IsOfPlan plan (with_segment h s)
  plan_with_segment h same kind v g is = elim kind as (λ k. part_of_kind_on k v (with_segment h s) ≡ Some g → g.plan ≡ plan) [
    | true ↦ λ is'. added_on h s.segments v g is' (g.plan ≡ plan) (λ _ it. ap (λ (x : Holding). x.plan) it ∙ same) (λ was. of true v g was)
    | false ↦ λ is'. of false v g is'
  ] is

  pub plan_with_repeater : (h : Holding) → h.plan ≡ plan → IsOfPlan plan (with_repeater h s)
  plan_with_repeater h same kind v g is = elim kind as (λ k. part_of_kind_on k v (with_repeater h s) ≡ Some g → g.plan ≡ plan) [
    | false ↦ λ is'. added_on h s.repeaters v g is' (g.plan ≡ plan) (λ _ it. ap (λ (x : Holding). x.plan) it ∙ same) (λ was. of false v g was)
    | true ↦ λ is'. of true v g is'
  ] is

pub plan_of_nothing : (plan : Plan) → IsOfPlan plan nothing_held
plan_of_nothing plan true v g is = absurd (none_not_some g is)
plan_of_nothing plan false v g is = absurd (none_not_some g is)

-- A part that is added is the only one more.
pub unowned_with_segment : (h : Holding) (u : ℕ) (s : Held) → u ≢ h.number → owns u s ≡ false → owns u (with_segment h s) ≡ false
unowned_with_segment h u s ne none = ap (λ o. is_owned (if is_owned o then o else part_on u s.repeaters)) (added_other h s.segments u ne) ∙ none

pub unowned_with_repeater : (h : Holding) (u : ℕ) (s : Held) → u ≢ h.number → owns u s ≡ false → owns u (with_repeater h s) ≡ false
unowned_with_repeater h u s ne none = ap (λ o. is_owned (if is_owned (part_on u s.segments) then part_on u s.segments else o)) (added_other h s.repeaters u ne) ∙ none

-- A part to which room was refused may be given up.
refused_may : (o : Option Holding) → IfSome (changed refused_holding o) MayBeSpoiled
refused_may None = tt
refused_may (Some h) = λ l _ _. true≢false l

pub refused_may_be_spoiled : (u : ℕ) (s s' : Held) → s' ≡ change refused_holding u s → IfSome (part_of u s') MayBeSpoiled
refused_may_be_spoiled u s s' is = subst (λ o. IfSome o MayBeSpoiled) (sym (ap (part_of u) is ∙ parts_change refused_holding u s)) (refused_may (part_of u s))

-- A part to which room was given has it.
reserved_has : (o : Option Holding) → IfSome (changed reserved_holding o) (λ h. h.reserved ≡ true)
reserved_has None = tt
reserved_has (Some h) = refl

pub reserved_has_room : (u : ℕ) (s s' : Held) → s' ≡ change reserved_holding u s → IfSome (part_of u s') (λ h. h.reserved ≡ true)
reserved_has_room u s s' is = subst (λ o. IfSome o (λ h. h.reserved ≡ true)) (sym (ap (part_of u) is ∙ parts_change reserved_holding u s)) (reserved_has (part_of u s))
