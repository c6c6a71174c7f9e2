-- What a share does is what happens to a board that has the whole share.
use Rattle.std.proofs.Common.{◌≡◌, ◌≢◌, ℕ, zero, suc, Bool, true, false, not, cond, List, [], ◌∷◌, get_or, refl, sym, ap, ◌∙◌, arith, subst, true≢false}
use Rattle.std.specs.Prelude.{Option, Some, None, IfSome, ◌&&◌, ◌||◌, if◌then◌else◌}
use Rattle.load_plan.specs.declared.plan.Plan.{Plan}
use Rattle.net_parts.specs.declared.parcel.Parcel.{Parcel}
use Rattle.net_parts.specs.Parts.{is_segment_part, edges_of_part}
use Rattle.net_parts.specs.Parcels.{arrived}
use Rattle.net_parts.specs.Boards.{Board, ParcelOnBoard, Mail, Run, Spoil, Post, Take, opening_board, whereabouts_at, has_edge, IsEnabled, happens}
use Rattle.exchange_core.specs.Holdings.{Holding, IsSoundHolding, IsHoldingReady, IsHoldingClean, parcel_of_edge, is_here, added_segment, added_repeater, reserved_holding, refused_holding, run_holding, spoil_holding, vacate_holding, take_holding}
use Rattle.exchange_core.specs.Shares.{Rack, Held, nothing_held, part_on, part_of, is_owned, owns, changed, change_on, change, has_place, first_with_edge, change_first, change_edge, is_same_way, may_post, parcel_in, posted_parcel, post_held, take_of_way, with_segment, with_repeater, part_of_kind_on, IsOfPlan, IsSoundShare}
use Rattle.exchange_core.specs.Ties.{Agrees, parcel_on_board}
use Rattle.exchange_core.specs.SharesOnBoards.{IsOnBoard, SharesBegin, SharesReserve, SharesRun, SharesSpoil, SharesPost, SharesTake, HaveNoPartInCommon, OthersStay}
use Rattle.exchange_core.proofs.EdgesOfParts.{one_part}
use Rattle.exchange_core.proofs.ChangedRacks.{comes_of, some_same, none_not_some, some_part, without_place}
use Rattle.exchange_core.proofs.SoundShares.{not_here}
use Rattle.exchange_core.proofs.GrownShares.{added_on}
use Rattle.exchange_core.proofs.BoardTies.{vacate_agrees, run_is_run, spoil_is_spoil, post_is_post, take_is_take}
use Rattle.exchange_core.proofs.HoldingsOnBoards.{not_both_here, run_stays, spoil_stays, post_stays, take_stays, segment_opens, repeater_opens}

-- what holds of all parts of a share
abbrev AllHold : (Holding → Type 0) → Held → Type 0
AllHold P s = (kind : Bool) (u : ℕ) (h : Holding) → part_of_kind_on kind u s ≡ Some h → P h

abbrev Fits : Plan → Board → Holding → Type 0
Fits plan b h = (h.plan ≡ plan) × Agrees h b

on_it : (plan : Plan) (s : Held) (b : Board) → AllHold (Fits plan b) s → IsOnBoard plan s b
on_it plan s b all = record { plans = λ k v g is. (all k v g is).0; agree = λ k v g is. (all k v g is).1 }

both_kinds : (P : Holding → Type 0) (s : Held) → ((v : ℕ) (h : Holding) → part_on v s.segments ≡ Some h → P h) → ((v : ℕ) (h : Holding) → part_on v s.repeaters ≡ Some h → P h) → AllHold P s
both_kinds P s f g true v h is = f v h is
both_kinds P s f g false v h is = g v h is

-- one part changes
rack_holds : (P : Holding → Type 0) (r : Rack) (f : Holding → Holding) (u : ℕ) → ((v : ℕ) (h : Holding) → v ≢ u → part_on v r ≡ Some h → P h) → ((h : Holding) → part_on u r ≡ Some h → P (f h))
    → (v : ℕ) (h : Holding) → part_on v (change_on f u r) ≡ Some h → P h
rack_holds P r f u others moves v h is = let c = comes_of r f u (λ _ after. P after) v h others moves is in c.then_is

abbrev change_kind : Bool → (Holding → Holding) → ℕ → Held → Held
change_kind true f u s = record s { segments = change_on f u s.segments }
change_kind false f u s = record s { repeaters = change_on f u s.repeaters }

kind_holds : (P : Holding → Type 0) (kind : Bool) (f : Holding → Holding) (u : ℕ) (s : Held)
    → ((k : Bool) (v : ℕ) (g : Holding) → (k ≡ kind → v ≢ u) → part_of_kind_on k v s ≡ Some g → P g)
    → ((h : Holding) → part_of_kind_on kind u s ≡ Some h → P (f h)) → AllHold P (change_kind kind f u s)
kind_holds P true f u s others moves = both_kinds P (change_kind true f u s)
    (rack_holds P s.segments f u (λ v h ne is. others true v h (λ _. ne) is) moves)
    (λ v h is. others false v h (λ k. absurd (true≢false (sym k))) is)
kind_holds P false f u s others moves = both_kinds P (change_kind false f u s)
    (λ v h is. others true v h (λ k. absurd (true≢false k)) is)
    (rack_holds P s.repeaters f u (λ v h ne is. others false v h (λ _. ne) is) moves)

by_kind : (f : Holding → Holding) (u : ℕ) (s : Held) (x : Bool) → (if x then record s { segments = change_on f u s.segments } else record s { repeaters = change_on f u s.repeaters }) ≡ change_kind x f u s
by_kind f u s true = refl
by_kind f u s false = refl

change_is : (f : Holding → Holding) (u : ℕ) (s : Held) → change f u s ≡ change_kind (is_owned (part_on u s.segments)) f u s
change_is f u s = by_kind f u s (is_owned (part_on u s.segments))

found_by_kind : (u : ℕ) (s : Held) (x : Bool) → (if x then part_on u s.segments else part_on u s.repeaters) ≡ part_of_kind_on x u s
found_by_kind u s true = refl
found_by_kind u s false = refl

part_is : (u : ℕ) (s : Held) → part_of u s ≡ part_of_kind_on (is_owned (part_on u s.segments)) u s
part_is u s = found_by_kind u s (is_owned (part_on u s.segments))

-- the parts of a sound share of one plan
module _ (plan : Plan) (s : Held) (sound : IsSoundShare s) (of : IsOfPlan plan s) where
  other_number : (kind k : Bool) (u v : ℕ) (h g : Holding) → part_of_kind_on kind u s ≡ Some h → part_of_kind_on k v s ≡ Some g → (k ≡ kind → v ≢ u) → g.number ≢ h.number
  other_number kind k u v h g at there ne same =
      let i = sound.each kind u h at in
      let j = sound.each k v g there in
      let plans : g.plan ≡ h.plan = of k v g there ∙ sym (of kind u h at) in
      ne (sym j.kind_is ∙ (λ x. is_segment_part (plans x) (same x)) ∙ i.kind_is) (sym j.number ∙ same ∙ i.number)

  once_of_kind : (kind : Bool) (e u v : ℕ) (g h : Holding) → part_of_kind_on kind u s ≡ Some g → part_of_kind_on kind v s ≡ Some h → has_place e (Some g) ≡ true → has_place e (Some h) ≡ true → u ≡ v
  once_of_kind kind e u v g h at there x y =
      let i = sound.each kind u g at in
      let j = sound.each kind v h there in
      let plans : g.plan ≡ h.plan = of kind u g at ∙ sym (of kind v h there) in
      sym i.number
      ∙ one_part h.plan g.number h.number e (ap (λ p. is_segment_part p g.number) (sym plans) ∙ i.kind_is ∙ sym j.kind_is)
      (ap (λ p. has_edge (edges_of_part p g.number) e) (sym plans) ∙ ap (λ es. has_edge es e) (sym i.sound.edges) ∙ x)
      (ap (λ es. has_edge es e) (sym j.sound.edges) ∙ y)
      ∙ j.number

-- Run and Spoil
module _ (plan : Plan) (s : Held) (b : Board) (sound : IsSoundShare s) (on : IsOnBoard plan s b) (f : Holding → Holding) (u : ℕ) where
  one_changes : (b' : Board) (kind : Bool) (h : Holding) → part_of_kind_on kind u s ≡ Some h
      → ((g : Holding) → IsSoundHolding g → g.plan ≡ h.plan → Agrees g b → g.number ≢ h.number → Agrees g b')
      → (f h).plan ≡ h.plan → Agrees (f h) b' → IsOnBoard plan (change_kind kind f u s) b'
  one_changes b' kind h at others same now = on_it plan (change_kind kind f u s) b' (kind_holds (Fits plan b') kind f u s
      (λ k v g ne is. (
        on.plans k v g is,
        others g (sound.each k v g is).sound (on.plans k v g is ∙ sym (on.plans kind u h at)) (on.agree k v g is)
            (other_number plan s sound on.plans kind k u v h g at is ne),
      ))
      (λ h' is. subst (λ x. Fits plan b' (f x)) (some_same h h' (sym at ∙ is)) (same ∙ on.plans kind u h at, now)))

abbrev IsDone : Plan → (Holding → Holding) → ℕ → Held → Board → (b' : Board) → Type 0 → Type 0
IsDone plan f u s b b' enabled = enabled × IsOnBoard plan (change f u s) b'

if_part : (o : Option Holding) (P : Holding → Type 0) (h : Holding) → o ≡ Some h → IfSome o P → P h
if_part o P h is x = subst (λ y. IfSome y P) is x

pub shares_run : SharesRun
shares_run plan u s b sound on owned ready clean kept = some_part (part_of u s) owned (IsEnabled plan b (Run u) × IsOnBoard plan (change run_holding u s) (happens plan b (Run u))) (λ h is.
    let kind = is_owned (part_on u s.segments) in
    let at : part_of_kind_on kind u s ≡ Some h = sym (part_is u s) ∙ is in
    let i = sound.each kind u h at in
    let r = if_part (part_of u s) IsHoldingReady h is ready in
    let c = if_part (part_of u s) IsHoldingClean h is clean in
    let k = if_part (part_of u s) (λ h. h.lost ≡ false) h is kept in
    let a = on.agree kind u h at in
    let done = run_is_run h b i.sound r c k a in
    let all = one_changes plan s b sound on run_holding u (happens h.plan b (Run h.number)) kind h at (λ g t same d ne. run_stays g h b t i.sound same d a ne r) refl done.1 in (
      subst (λ (x : Plan × ℕ). IsEnabled x.0 b (Run x.1)) (λ j. (on.plans kind u h at j, i.number j)) done.0,
      subst (λ x. IsOnBoard plan x (happens plan b (Run u))) (sym (change_is run_holding u s)) (subst (IsOnBoard plan (change_kind kind run_holding u s)) (λ j. happens (on.plans kind u h at j) b (Run (i.number j))) all),
    ))

pub shares_spoil : SharesSpoil
shares_spoil plan u s b sound on owned ready = some_part (part_of u s) owned (IsEnabled plan b (Spoil u) × IsOnBoard plan (change spoil_holding u s) (happens plan b (Spoil u))) (λ h is.
    let kind = is_owned (part_on u s.segments) in
    let at : part_of_kind_on kind u s ≡ Some h = sym (part_is u s) ∙ is in
    let i = sound.each kind u h at in
    let r = if_part (part_of u s) IsHoldingReady h is ready in
    let a = on.agree kind u h at in
    let done = spoil_is_spoil h b i.sound r a in
    let all = one_changes plan s b sound on spoil_holding u (happens h.plan b (Spoil h.number)) kind h at (λ g t same d ne. spoil_stays g h b t i.sound same d a ne r) refl done.1 in (
      subst (λ (x : Plan × ℕ). IsEnabled x.0 b (Spoil x.1)) (λ j. (on.plans kind u h at j, i.number j)) done.0,
      subst (λ x. IsOnBoard plan x (happens plan b (Spoil u))) (sym (change_is spoil_holding u s)) (subst (IsOnBoard plan (change_kind kind spoil_holding u s)) (λ j. happens (on.plans kind u h at j) b (Spoil (i.number j))) all),
    ))

-- room
same_on_board : (plan : Plan) (u : ℕ) (s : Held) (b : Board) (f : Holding → Holding) → ((h : Holding) → Fits plan b h → Fits plan b (f h)) → IsOnBoard plan s b → IsOnBoard plan (change f u s) b
same_on_board plan u s b f keeps on = subst (λ x. IsOnBoard plan x b) (sym (change_is f u s)) (on_it plan (change_kind (is_owned (part_on u s.segments)) f u s) b
    (kind_holds (Fits plan b) (is_owned (part_on u s.segments)) f u s
    (λ k v g _ is. (on.plans k v g is, on.agree k v g is))
    (λ h is. keeps h (on.plans (is_owned (part_on u s.segments)) u h is, on.agree (is_owned (part_on u s.segments)) u h is))))

pub shares_reserve : SharesReserve
shares_reserve plan u s b on = (
  same_on_board plan u s b reserved_holding (λ h x. (x.0, record { part = x.1.part; parcels = x.1.parcels })) on,
  same_on_board plan u s b refused_holding (λ h x. (x.0, record { part = x.1.part; parcels = x.1.parcels })) on,
)

-- the first part that has an edge changes, and the others haven't the edge
abbrev HaveEdgeOnce : ℕ → List (Option Holding) → Type 0
HaveEdgeOnce e os = (u v : ℕ) (g h : Holding) → get_or os u None ≡ Some g → get_or os v None ≡ Some h → has_place e (Some g) ≡ true → has_place e (Some h) ≡ true → u ≡ v

first_changed : (P : Holding → Type 0) (f : Holding → Holding) (o : Option Holding) (h : Holding) → is_owned o ≡ true → changed f o ≡ Some h → ((g : Holding) → o ≡ Some g → P (f g)) → P h
first_changed P f None h owned is moves = absurd (true≢false (sym owned))
first_changed P f (Some g) h owned is moves = subst P (some_same (f g) h is) (moves g refl)

later_apart : (e : ℕ) (o : Option Holding) (os : List (Option Holding)) → HaveEdgeOnce e (o ∷ os) → has_place e o ≡ true → (v : ℕ) (h : Holding) → get_or os v None ≡ Some h → has_place e (Some h) ≡ false
later_apart e None os once has v h is = absurd (true≢false (sym has))
later_apart e (Some g) os once has v h is = elim (has_place e (Some h)) as (λ x. has_place e (Some h) ≡ x → x ≡ false) [
  | true ↦ λ also. (let z = once 0 (suc v) g h refl is has also in absurd (omega (arith, z)))
  | false ↦ λ _. refl
] refl

once_later : (e : ℕ) (o : Option Holding) (os : List (Option Holding)) → HaveEdgeOnce e (o ∷ os) → HaveEdgeOnce e os
once_later e o os once u v g h a b x y = let z = once (suc u) (suc v) g h a b x y in omega (arith, z)

first_holds : (P : Holding → Type 0) (f : Holding → Holding) (e : ℕ) (os : List (Option Holding)) → HaveEdgeOnce e os
    → ((v : ℕ) (g : Holding) → get_or os v None ≡ Some g → has_place e (Some g) ≡ false → P g)
    → ((v : ℕ) (h : Holding) → get_or os v None ≡ Some h → has_place e (Some h) ≡ true → first_with_edge e os ≡ Some h → P (f h))
    → (v : ℕ) (h : Holding) → get_or (change_first f e os) v None ≡ Some h → P h
first_holds P f e [] once others moves v h is = absurd (none_not_some h is)
first_holds P f e (o ∷ os) once others moves zero h is = elim (has_place e o) as (λ x. has_place e o ≡ x → get_or (if x then changed f o ∷ os else o ∷ change_first f e os) 0 None ≡ Some h → P h) [
  | true ↦ λ has now. first_changed P f o h (without_place e o has) now (λ g was. moves 0 g was (ap (has_place e) (sym was) ∙ has) (ap (λ x. cond x o (first_with_edge e os)) has ∙ was))
  | false ↦ λ none now. others 0 h now (ap (has_place e) (sym now) ∙ none)
] refl is
first_holds P f e (o ∷ os) once others moves (suc v) h is = elim (has_place e o) as (λ x. has_place e o ≡ x → get_or (if x then changed f o ∷ os else o ∷ change_first f e os) (suc v) None ≡ Some h → P h) [
  | true ↦ λ has now. others (suc v) h now (later_apart e o os once has v h now)
  | false ↦ λ none now. first_holds P f e os (once_later e o os once) (λ w g a x. others (suc w) g a x)
      (λ w g a x first. moves (suc w) g a x (ap (λ x. cond x o (first_with_edge e os)) none ∙ first)) v h now
] refl is

edge_free : (e : ℕ) (g : Holding) → IsSoundHolding g → has_place e (Some g) ≡ false → is_here e g ≡ false
edge_free e g t none = not_here e g t none

-- Post
two : (x y : Bool) → (x && y) ≡ true → (x ≡ true) × (y ≡ true)
two true y h = (refl, h)
two false y h = absurd (true≢false (sym h))

one_way : (x y : Bool) → is_same_way x y ≡ true → x ≡ y
one_way true y h = sym h
one_way false true h = absurd (true≢false (sym h))
one_way false false h = refl

posted : (e : ℕ) (o : Option Holding) → may_post e o ≡ true → (C : Type 0) → ((h : Holding) → o ≡ Some h → is_here e h ≡ true → (parcel_of_edge e h).to_repeater ≡ is_segment_part h.plan h.number → C) → C
posted e None may C k = absurd (true≢false (sym may))
posted e (Some h) may C k = let t = two (is_here e h) (is_same_way (parcel_of_edge e h).to_repeater (is_segment_part h.plan h.number)) may in
    k h refl t.0 (one_way (parcel_of_edge e h).to_repeater (is_segment_part h.plan h.number) t.1)

one_of : (x y : Bool) (C : Type 0) → (x || y) ≡ true → (x ≡ true → C) → (x ≡ false → y ≡ true → C) → C
one_of true y C h f g = f refl
one_of false y C h f g = g refl h

abbrev edge_kind : Bool → (Holding → Holding) → ℕ → Held → Held
edge_kind true f e s = record s { segments = change_edge f e s.segments }
edge_kind false f e s = record s { repeaters = change_edge f e s.repeaters }

abbrev first_of_kind : Bool → ℕ → Held → Option Holding
first_of_kind true e s = first_with_edge e s.segments.places
first_of_kind false e s = first_with_edge e s.repeaters.places

edge_holds : (P : Holding → Type 0) (kind : Bool) (f : Holding → Holding) (e : ℕ) (s : Held)
    → ((u v : ℕ) (g h : Holding) → part_of_kind_on kind u s ≡ Some g → part_of_kind_on kind v s ≡ Some h → has_place e (Some g) ≡ true → has_place e (Some h) ≡ true → u ≡ v)
    → ((v : ℕ) (g : Holding) → part_of_kind_on kind v s ≡ Some g → has_place e (Some g) ≡ false → P g)
    → ((v : ℕ) (h : Holding) → part_of_kind_on kind v s ≡ Some h → has_place e (Some h) ≡ true → first_of_kind kind e s ≡ Some h → P (f h))
    → ((k : Bool) (v : ℕ) (g : Holding) → k ≢ kind → part_of_kind_on k v s ≡ Some g → P g) → AllHold P (edge_kind kind f e s)
edge_holds P true f e s once others moves apart = both_kinds P (edge_kind true f e s) (first_holds P f e s.segments.places once others moves) (λ v g is. apart false v g (λ k. true≢false (sym k)) is)
edge_holds P false f e s once others moves apart = both_kinds P (edge_kind false f e s) (λ v g is. apart true v g true≢false is) (first_holds P f e s.repeaters.places once others moves)

first_found : (e : ℕ) (os : List (Option Holding)) (h : Holding) → first_with_edge e os ≡ Some h → (C : Type 0) → ((u : ℕ) → get_or os u None ≡ Some h → C) → C
first_found e [] h is C k = absurd (none_not_some h is)
first_found e (o ∷ os) h is C k = elim (has_place e o) as (λ x. (if x then o else first_with_edge e os) ≡ Some h → C) [
  | true ↦ λ now. k 0 now
  | false ↦ λ later. first_found e os h later C (λ u at. k (suc u) at)
] is

find_first : (kind : Bool) (e : ℕ) (s : Held) (h : Holding) → first_of_kind kind e s ≡ Some h → (C : Type 0) → ((u : ℕ) → part_of_kind_on kind u s ≡ Some h → C) → C
find_first true e s h is C k = first_found e s.segments.places h is C k
find_first false e s h is C k = first_found e s.repeaters.places h is C k

module _ (plan : Plan) (e : ℕ) (s : Held) (b : Board) (sound : IsSoundShare s) (on : IsOnBoard plan s b) where
  post_kind : (kind : Bool) → may_post e (first_of_kind kind e s) ≡ true
      → IsEnabled plan b (Post e) × IsOnBoard plan (edge_kind kind (vacate_holding e) e s) (happens plan b (Post e)) × ((happens plan b (Post e)).parcel e ≡ parcel_on_board Mail (parcel_in e (first_of_kind kind e s)))
  post_kind kind may =
      let b' = happens plan b (Post e) in
      let C = IsEnabled plan b (Post e) × IsOnBoard plan (edge_kind kind (vacate_holding e) e s) b' × (b'.parcel e ≡ parcel_on_board Mail (parcel_in e (first_of_kind kind e s))) in
      posted e (first_of_kind kind e s) may C (λ h is home way. find_first kind e s h is C (λ u at.
      let done : (g : Holding) (v : ℕ) → part_of_kind_on kind v s ≡ Some g → first_of_kind kind e s ≡ Some g → Agrees (vacate_holding e g) b' =
      λ g v there first. (let same = some_same h g (sym is ∙ first) in (post_is_post e g b (sound.each kind v g there).sound (subst (λ x. is_here e x ≡ true) same home) (subst (λ x. (parcel_of_edge e x).to_repeater ≡ is_segment_part x.plan x.number) same way) (on.agree kind v g there)).1) in
      let first = post_is_post e h b (sound.each kind u h at).sound home way (on.agree kind u h at) in (
        first.0,
        on_it plan (edge_kind kind (vacate_holding e) e s) b' (edge_holds (Fits plan b') kind (vacate_holding e) e s
            (once_of_kind plan s sound on.plans kind e)
            (λ v g there none. (on.plans kind v g there, post_stays plan g b e (sound.each kind v g there).sound (on.agree kind v g there) (edge_free e g (sound.each kind v g there).sound none)))
            (λ v g there has found. (on.plans kind v g there, done g v there found))
            (λ k v g other there. (
              on.plans k v g there,
              post_stays plan g b e (sound.each k v g there).sound (on.agree k v g there)
                  (not_both_here g h b (sound.each k v g there).sound (sound.each kind u h at).sound (on.plans k v g there ∙ sym (on.plans kind u h at)) (on.agree k v g there) (on.agree kind u h at)
                  (other_number plan s sound on.plans kind k u v h g at there (λ same. absurd (other same))) e home),
            ))),
        first.2 ∙ sym (ap (λ o. parcel_on_board Mail (parcel_in e o)) is),
      )))

  abbrev by_post : Bool → Held
  by_post x = if x then edge_kind true (vacate_holding e) e s else edge_kind false (vacate_holding e) e s

  abbrev by_parcel : Bool → Parcel
  by_parcel x = if x then parcel_in e (first_of_kind true e s) else parcel_in e (first_of_kind false e s)

  post_done : (x : Bool) → may_post e (first_of_kind true e s) ≡ x
      → IsEnabled plan b (Post e) × IsOnBoard plan (by_post x) (happens plan b (Post e)) × ((happens plan b (Post e)).parcel e ≡ parcel_on_board Mail (by_parcel x))
      → IsEnabled plan b (Post e) × IsOnBoard plan (post_held e s) (happens plan b (Post e)) × ((happens plan b (Post e)).parcel e ≡ parcel_on_board Mail (posted_parcel e s))
  post_done x is d = subst (λ y. IsEnabled plan b (Post e) × IsOnBoard plan (by_post y) (happens plan b (Post e)) × ((happens plan b (Post e)).parcel e ≡ parcel_on_board Mail (by_parcel y))) (sym is) d

pub shares_post : SharesPost
shares_post plan e s b sound on refilled = one_of (may_post e (first_of_kind true e s)) (may_post e (first_of_kind false e s))
    (IsEnabled plan b (Post e) × IsOnBoard plan (post_held e s) (happens plan b (Post e)) × ((happens plan b (Post e)).parcel e ≡ parcel_on_board Mail (posted_parcel e s))) refilled
    (λ may. post_done plan e s b sound on true may (post_kind plan e s b sound on true may))
    (λ none may. post_done plan e s b sound on false none (post_kind plan e s b sound on false may))

-- Take
module _ (plan : Plan) (p : Parcel) (s : Held) (b : Board) (sound : IsSoundShare s) (on : IsOnBoard plan s b) (mail : b.parcel p.edge ≡ parcel_on_board Mail p) where
  abbrev taken : Board
  taken = happens plan b (Take p.edge)

  as_before : (k : Bool) (v : ℕ) (g : Holding) → part_of_kind_on k v s ≡ Some g → Fits plan taken g
  as_before k v g is = (on.plans k v g is, take_stays plan g b p.edge (sound.each k v g is).sound (on.agree k v g is) (ap (λ (x : ParcelOnBoard). x.spot) mail))

  emptied_at : (k : Bool) (v : ℕ) (g : Holding) → part_of_kind_on k v s ≡ Some g → has_place p.edge (Some g) ≡ true → Fits plan taken (vacate_holding p.edge g)
  emptied_at k v g is has = (on.plans k v g is, vacate_agrees g b (sound.each k v g is).sound (on.agree k v g is) p.edge has (record (b.parcel p.edge) { spot = whereabouts_at (b.parcel p.edge).to_repeater }))

  taken_at : (k : Bool) (v : ℕ) (g : Holding) → part_of_kind_on k v s ≡ Some g → has_place p.edge (Some g) ≡ true → p.to_repeater ≡ not k → Fits plan taken (take_holding p g)
  taken_at k v g is has way = (on.plans k v g is, (take_is_take p g b (sound.each k v g is).sound has (way ∙ sym (ap not (sound.each k v g is).kind_is)) mail (on.agree k v g is)).1)

  take_way : (way : Bool) → p.to_repeater ≡ way → IsOnBoard plan (take_of_way way p s) taken
  take_way true way = on_it plan (take_of_way true p s) taken (both_kinds (Fits plan taken) (take_of_way true p s)
      (first_holds (Fits plan taken) (vacate_holding p.edge) p.edge s.segments.places (once_of_kind plan s sound on.plans true p.edge) (λ v g is _. as_before true v g is) (λ v g is has _. emptied_at true v g is has))
      (first_holds (Fits plan taken) (take_holding p) p.edge s.repeaters.places (once_of_kind plan s sound on.plans false p.edge) (λ v g is _. as_before false v g is) (λ v g is has _. taken_at false v g is has way)))
  take_way false way = on_it plan (take_of_way false p s) taken (both_kinds (Fits plan taken) (take_of_way false p s)
      (first_holds (Fits plan taken) (take_holding p) p.edge s.segments.places (once_of_kind plan s sound on.plans true p.edge) (λ v g is _. as_before true v g is) (λ v g is has _. taken_at true v g is has way))
      (first_holds (Fits plan taken) (vacate_holding p.edge) p.edge s.repeaters.places (once_of_kind plan s sound on.plans false p.edge) (λ v g is _. as_before false v g is) (λ v g is has _. emptied_at false v g is has)))

pub shares_take : SharesTake
shares_take plan p s b sound on place mail = (ap (λ (x : ParcelOnBoard). x.spot) mail, take_way plan p s b sound on mail p.to_repeater refl)

-- the opening board
pub shares_begin : SharesBegin
shares_begin plan = (
  record {
    plans = λ kind u h is. absurd (nothing kind u h is);
    agree = λ kind u h is. absurd (nothing kind u h is);
  },
  (λ u s kind on. on_it plan (with_segment (added_segment plan u 0 (arrived plan u 0)) s) (opening_board plan) (both_kinds (Fits plan (opening_board plan)) (with_segment (added_segment plan u 0 (arrived plan u 0)) s)
      (λ v g is. added_on (added_segment plan u 0 (arrived plan u 0)) s.segments v g is (Fits plan (opening_board plan) g)
      (λ _ it. subst (Fits plan (opening_board plan)) (sym it) (refl, segment_opens plan u kind))
      (λ was. (on.plans true v g was, on.agree true v g was)))
      (λ v g is. (on.plans false v g is, on.agree false v g is)))),
  (λ u s kind on. on_it plan (with_repeater (added_repeater plan u 0) s) (opening_board plan) (both_kinds (Fits plan (opening_board plan)) (with_repeater (added_repeater plan u 0) s)
      (λ v g is. (on.plans true v g is, on.agree true v g is))
      (λ v g is. added_on (added_repeater plan u 0) s.repeaters v g is (Fits plan (opening_board plan) g)
      (λ _ it. subst (Fits plan (opening_board plan)) (sym it) (refl, repeater_opens plan u))
      (λ was. (on.plans false v g was, on.agree false v g was))))),
)
  where
    nothing : (kind : Bool) (u : ℕ) (h : Holding) → part_of_kind_on kind u nothing_held ≡ Some h → ⊥
    nothing true u h is = none_not_some h is
    nothing false u h is = none_not_some h is

-- another share
owned_in : (k : Bool) (u : ℕ) (t : Held) (g : Holding) → part_of_kind_on k u t ≡ Some g → owns u t ≡ true
owned_in true u t g is = ap (λ x. is_owned (if x then part_on u t.segments else part_on u t.repeaters)) (ap is_owned is) ∙ ap is_owned is
owned_in false u t g is = either (part_on u t.segments)
  where
    either : (o : Option Holding) → is_owned (if is_owned o then o else part_on u t.repeaters) ≡ true
    either None = ap is_owned is
    either (Some h) = refl

module _ (plan : Plan) (s t : Held) (b : Board) (sound : IsSoundShare s) (also : IsSoundShare t) (apart : HaveNoPartInCommon s t) (on : IsOnBoard plan s b) (of : IsOnBoard plan t b) where
  number_apart : (kind k : Bool) (u v : ℕ) (h g : Holding) → part_of_kind_on kind u s ≡ Some h → part_of_kind_on k v t ≡ Some g → g.number ≢ h.number
  number_apart kind k u v h g at is same =
      let v-is-u : v ≡ u = sym (also.each k v g is).number ∙ same ∙ (sound.each kind u h at).number in
      true≢false (sym (ap (λ w. owns w t) (sym v-is-u) ∙ owned_in k v t g is) ∙ apart u (owned_in kind u s h at))

  same_plan : (kind k : Bool) (u v : ℕ) (h g : Holding) → part_of_kind_on kind u s ≡ Some h → part_of_kind_on k v t ≡ Some g → g.plan ≡ h.plan
  same_plan kind k u v h g at is = of.plans k v g is ∙ sym (on.plans kind u h at)

  run_leaves : (u : ℕ) → owns u s ≡ true → IfSome (part_of u s) IsHoldingReady → IsOnBoard plan t (happens plan b (Run u)) × IsOnBoard plan t (happens plan b (Spoil u))
  run_leaves u owned ready = some_part (part_of u s) owned (IsOnBoard plan t (happens plan b (Run u)) × IsOnBoard plan t (happens plan b (Spoil u))) (λ h is.
      let kind = is_owned (part_on u s.segments) in
      let at : part_of_kind_on kind u s ≡ Some h = sym (part_is u s) ∙ is in
      let i = sound.each kind u h at in
      let r = if_part (part_of u s) IsHoldingReady h is ready in
      let a = on.agree kind u h at in (
        subst (IsOnBoard plan t) (λ j. happens (on.plans kind u h at j) b (Run (i.number j))) (on_it plan t (happens h.plan b (Run h.number))
            (λ k v g there. (of.plans k v g there, run_stays g h b (also.each k v g there).sound i.sound (same_plan kind k u v h g at there) (of.agree k v g there) a (number_apart kind k u v h g at there) r))),
        subst (IsOnBoard plan t) (λ j. happens (on.plans kind u h at j) b (Spoil (i.number j))) (on_it plan t (happens h.plan b (Spoil h.number))
            (λ k v g there. (of.plans k v g there, spoil_stays g h b (also.each k v g there).sound i.sound (same_plan kind k u v h g at there) (of.agree k v g there) a (number_apart kind k u v h g at there) r))),
      ))

  post_leaves_kind : (e : ℕ) (kind : Bool) → may_post e (first_of_kind kind e s) ≡ true → IsOnBoard plan t (happens plan b (Post e))
  post_leaves_kind e kind may = posted e (first_of_kind kind e s) may (IsOnBoard plan t (happens plan b (Post e))) (λ h is home _. find_first kind e s h is (IsOnBoard plan t (happens plan b (Post e))) (λ u at.
      on_it plan t (happens plan b (Post e)) (λ k v g there. (
        of.plans k v g there,
        post_stays plan g b e (also.each k v g there).sound (of.agree k v g there)
            (not_both_here g h b (also.each k v g there).sound (sound.each kind u h at).sound (same_plan kind k u v h g at there) (of.agree k v g there) (on.agree kind u h at) (number_apart kind k u v h g at there) e home),
      ))))

  take_leaves : (e : ℕ) → (b.parcel e).spot ≡ Mail → IsOnBoard plan t (happens plan b (Take e))
  take_leaves e mail = on_it plan t (happens plan b (Take e)) (λ k v g there. (of.plans k v g there, take_stays plan g b e (also.each k v g there).sound (of.agree k v g there) mail))

pub others_stay : OthersStay
others_stay plan s t b sound also apart on of = (
  run_leaves plan s t b sound also apart on of,
  (λ e refilled. one_of (may_post e (first_of_kind true e s)) (may_post e (first_of_kind false e s)) (IsOnBoard plan t (happens plan b (Post e))) refilled
      (λ may. post_leaves_kind plan s t b sound also apart on of e true may)
      (λ _ may. post_leaves_kind plan s t b sound also apart on of e false may)),
  take_leaves plan s t b sound also apart on of,
)
