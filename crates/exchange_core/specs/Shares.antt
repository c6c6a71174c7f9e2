-- What one worker owns, as contracts see it, and what each call makes of it (profile). Parts, edges and windows count
-- from 0.
use Rattle.std.specs.Prelude.{◌≡◌, ◌≢◌, ◌<◌, ◌+◌, ◌-◌, ℕ, Bool, true, false, not, ◌&&◌, ◌||◌, if◌then◌else◌, List, [], ◌∷◌, ◌++◌, map, replicate, length, Option, Some, None, slice_set, slice_index_or}
use Rattle.load_plan.specs.declared.plan.Plan.{Plan}
use Rattle.net_parts.specs.declared.parcel.Parcel.{Parcel}
use Rattle.net_parts.specs.Parts.{is_segment_part, edges_of_part}
use Rattle.net_parts.specs.Parcels.{IsTrueParcel}
use Rattle.net_parts.specs.Boards.{has_edge}
use Rattle.exchange_core.specs.Holdings.{Holding, IsSoundHolding, edges_of_parcels, parcel_of_edge, absent_parcel, is_here, vacate_holding, take_holding}

-- Parts of one kind, each at the place of its number, and their numbers in the order in which they were added
-- (profile).
pub record Rack : Type 0 where
  pub places : List (Option Holding)
  pub order : List ℕ

-- Places and the order of adding as a rack (profile).
abbrev pub rack : List (Option Holding) → List ℕ → Rack
rack places order = record { places = places; order = order }

-- The segments and the repeaters of a share (profile).
pub record Held : Type 0 where
  pub segments : Rack
  pub repeaters : Rack

-- A share without parts (profile).
abbrev pub nothing_held : Held
nothing_held = record { segments = record { places = []; order = [] }; repeaters = record { places = []; order = [] } }

-- The part of this number in a rack (profile).
abbrev pub part_on : ℕ → Rack → Option Holding
part_on u r = slice_index_or r.places u None

-- There is a part (profile).
abbrev pub is_owned : Option Holding → Bool
is_owned None = false
is_owned (Some h) = true

-- A part becomes f of it (profile).
abbrev pub changed : (Holding → Holding) → Option Holding → Option Holding
changed f None = None
changed f (Some h) = Some (f h)

-- The part of this number becomes f of it (profile).
abbrev pub change_on : (Holding → Holding) → ℕ → Rack → Rack
change_on f u r = record r { places = slice_set r.places u (changed f (part_on u r)) }

-- The part of this number in a share, whichever kind it is of (profile).
abbrev pub part_of : ℕ → Held → Option Holding
part_of u s = if is_owned (part_on u s.segments) then part_on u s.segments else part_on u s.repeaters

-- A share has the part of this number (profile).
abbrev pub owns : ℕ → Held → Bool
owns u s = is_owned (part_of u s)

-- The part of this number in a share becomes f of it (profile).
abbrev pub change : (Holding → Holding) → ℕ → Held → Held
change f u s =
    if is_owned (part_on u s.segments) then record s { segments = change_on f u s.segments }
    else record s { repeaters = change_on f u s.repeaters }

-- A part has this edge (profile).
abbrev pub has_place : ℕ → Option Holding → Bool
has_place e None = false
has_place e (Some h) = has_edge (edges_of_parcels h.parcels) e

-- The first of these parts that has this edge: no other of one plan and kind has it (profile).
abbrev pub first_with_edge : ℕ → List (Option Holding) → Option Holding
first_with_edge e [] = None
first_with_edge e (o ∷ os) = if has_place e o then o else first_with_edge e os

-- It becomes f of it (profile).
abbrev pub change_first : (Holding → Holding) → ℕ → List (Option Holding) → List (Option Holding)
change_first f e [] = []
change_first f e (o ∷ os) = if has_place e o then changed f o ∷ os else o ∷ change_first f e os

-- The part in a rack that has this edge becomes f of it (profile).
abbrev pub change_edge : (Holding → Holding) → ℕ → Rack → Rack
change_edge f e r = record r { places = change_first f e r.places }

-- Two ways are the same (profile).
abbrev pub is_same_way : Bool → Bool → Bool
is_same_way true b = b
is_same_way false b = not b

-- A part has the parcel of this edge, and it goes to the other part (profile).
abbrev pub may_post : ℕ → Option Holding → Bool
may_post e None = false
may_post e (Some h) =
    is_here e h && is_same_way (parcel_of_edge e h).to_repeater (is_segment_part h.plan h.number)

-- The parcel of this edge at a part (profile).
abbrev pub parcel_in : ℕ → Option Holding → Parcel
parcel_in e None = absent_parcel false e
parcel_in e (Some h) = parcel_of_edge e h

-- A share has the parcel of this edge, and it goes to the part where it isn't (profile).
abbrev pub is_refilled : ℕ → Held → Bool
is_refilled e s =
    may_post e (first_with_edge e s.segments.places) || may_post e (first_with_edge e s.repeaters.places)

-- That parcel (profile).
abbrev pub posted_parcel : ℕ → Held → Parcel
posted_parcel e s =
    if may_post e (first_with_edge e s.segments.places) then parcel_in e (first_with_edge e s.segments.places)
    else parcel_in e (first_with_edge e s.repeaters.places)

-- A share without that parcel (profile).
abbrev pub post_held : ℕ → Held → Held
post_held e s =
    if may_post e (first_with_edge e s.segments.places) then
    record s { segments = change_edge (vacate_holding e) e s.segments }
    else record s { repeaters = change_edge (vacate_holding e) e s.repeaters }

-- The parts to which this way leads (profile).
abbrev pub rack_of_way : Bool → Held → Rack
rack_of_way true s = s.repeaters
rack_of_way false s = s.segments

-- A share with a parcel at the part to which it goes, and with no other of its edge (profile).
abbrev pub take_of_way : Bool → Parcel → Held → Held
take_of_way true p s = record {
  segments = change_edge (vacate_holding p.edge) p.edge s.segments;
  repeaters = change_edge (take_holding p) p.edge s.repeaters;
}
take_of_way false p s = record {
  segments = change_edge (take_holding p) p.edge s.segments;
  repeaters = change_edge (vacate_holding p.edge) p.edge s.repeaters;
}

-- A share with a parcel that it has taken (profile).
abbrev pub take_held : Parcel → Held → Held
take_held p s = take_of_way p.to_repeater p s

-- Places for at least so many numbers (profile).
abbrev pub widened : ℕ → List (Option Holding) → List (Option Holding)
widened n os = os ++ replicate (n - length os) None

-- A rack with one more part (profile).
abbrev pub add_on : Holding → Rack → Rack
add_on h r = record {
  places = slice_set (widened (h.number + 1) r.places) h.number (Some h);
  order = r.order ++ h.number ∷ [];
}

-- A share with one more segment (profile).
abbrev pub with_segment : Holding → Held → Held
with_segment h s = record s { segments = add_on h s.segments }

-- A share with one more repeater (profile).
abbrev pub with_repeater : Holding → Held → Held
with_repeater h s = record s { repeaters = add_on h s.repeaters }

-- A part as it is handed out: its plan, its number, and the window at which it stands (profile).
pub record Handed : Type 0 where
  pub plan : Plan
  pub number : ℕ
  pub at : ℕ

-- A part of this plan and number that stands at this window (profile).
abbrev pub handed_as : Plan → ℕ → ℕ → Option Handed
handed_as plan u at = Some (record { plan = plan; number = u; at = at })

-- What is handed out for a part of a share (profile).
abbrev pub handed : Option Holding → Option Handed
handed None = None
handed (Some h) = handed_as h.plan h.number h.at

-- What is handed out of a rack, in the order of adding (profile).
abbrev pub handed_out : Rack → List (Option Handed)
handed_out r = map (λ u. handed (part_on u r)) r.order

-- The part of this number in a share among its segments, or else among its repeaters (profile).
abbrev pub part_of_kind_on : Bool → ℕ → Held → Option Holding
part_of_kind_on true u s = part_on u s.segments
part_of_kind_on false u s = part_on u s.repeaters

-- All parts of a share are of this plan (profile).
abbrev pub IsOfPlan : Plan → Held → Type 0
IsOfPlan plan s = (kind : Bool) (u : ℕ) (h : Holding) → part_of_kind_on kind u s ≡ Some h → h.plan ≡ plan

-- No repeater of a share has a parcel of these edges (profile).
abbrev pub HasNoneOf : List ℕ → Held → Type 0
HasNoneOf es s =
    (e u : ℕ) (h : Holding) → has_edge es e ≡ true → part_on u s.repeaters ≡ Some h → is_here e h ≡ false

-- A share has the part to which a parcel goes (profile).
abbrev pub has_place_for : Parcel → Held → Bool
has_place_for p s = is_owned (first_with_edge p.edge (rack_of_way p.to_repeater s).places)

-- A part has this edge, and the edge's parcel, which goes to the other part (profile).
abbrev pub leaves : ℕ → Option Holding → Bool
leaves e o = has_place e o && may_post e o

-- A rack whose part of this number has got a parcel, if it has the parcel's edge (profile).
abbrev pub received_on : Parcel → ℕ → Rack → Rack
received_on p u r = if has_place p.edge (part_on u r) then change_on (take_holding p) u r else r

-- A share with a parcel at the part to which it goes, if that is one of its parts (profile).
abbrev pub received : Parcel → Held → Held
received p s = if has_place_for p s then take_held p s else s

-- A share in which the parcel of this edge, if it is to be posted, went to the part where it wasn't (profile).
abbrev pub carry_held : ℕ → Held → Held
carry_held e s = if is_refilled e s then received (posted_parcel e s) (post_held e s) else s

-- The parcels of part u, in the order of its edges, on the way to it with stamp w, each true or spoiled (profile).
pub record AreParcelsFor (plan : Plan) (u w : ℕ) (ps : List Parcel) : Type 0 where
  pub edges : edges_of_parcels ps ≡ edges_of_part plan u
  pub way : (k : ℕ) (d : Parcel) → k < length ps →
      (slice_index_or ps k d).to_repeater ≡ not (is_segment_part plan u)
  pub stamp : (k : ℕ) (d : Parcel) → k < length ps → (slice_index_or ps k d).window ≡ w
  pub honest : (k : ℕ) (d : Parcel) → k < length ps → IsTrueParcel plan (slice_index_or ps k d)

-- The order of adding has each part of a rack, and none twice (profile).
pub record IsAddedInOrder (r : Rack) : Type 0 where
  pub owned : (i : ℕ) → i < length r.order → is_owned (part_on (slice_index_or r.order i 0) r) ≡ true
  pub apart : (i j : ℕ) → i < j → j < length r.order → slice_index_or r.order i 0 ≢ slice_index_or r.order j 0

-- For each edge the number of the part in a rack that has it (profile).
abbrev pub AreOwners : List ℕ → Rack → Type 0
AreOwners owners r = (e u : ℕ) → has_place e (part_on u r) ≡ true → slice_index_or owners e 0 ≡ u

-- A part at the place of its number among those of its kind (profile).
pub record IsInPlace (kind : Bool) (u : ℕ) (h : Holding) : Type 0 where
  pub number : h.number ≡ u
  pub kind_is : is_segment_part h.plan h.number ≡ kind
  pub sound : IsSoundHolding h

-- What is so of every share: each part is in its place and once in the order of adding, all are of one plan, and there
-- are never two parcels of one edge (profile).
pub record IsSoundShare (s : Held) : Type 0 where
  pub each : (kind : Bool) (u : ℕ) (h : Holding) → part_of_kind_on kind u s ≡ Some h → IsInPlace kind u h
  pub plans : (kind other : Bool) (u v : ℕ) (g h : Holding) → part_of_kind_on kind u s ≡ Some g
      → part_of_kind_on other v s ≡ Some h → g.plan ≡ h.plan
  pub once : (e u v : ℕ) (g h : Holding) → part_on u s.segments ≡ Some g → part_on v s.repeaters ≡ Some h
      → is_here e g ≡ true → is_here e h ≡ true → ⊥
  pub segment_order : IsAddedInOrder s.segments
  pub repeater_order : IsAddedInOrder s.repeaters

-- And for each edge the numbers of its parts are kept (profile).
pub record IsWholeShare (segment_of repeater_of : List ℕ) (s : Held) : Type 0 where
  pub sound : IsSoundShare s
  pub segments_known : AreOwners segment_of s.segments
  pub repeaters_known : AreOwners repeater_of s.repeaters

-- Segments and repeaters as a share (profile).
abbrev pub share_of : Rack → Rack → Held
share_of segments repeaters = record { segments = segments; repeaters = repeaters }
