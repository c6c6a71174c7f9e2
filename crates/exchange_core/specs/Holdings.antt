-- A part with the parcels at it, as contracts see it, and what each event makes of it (profile). Parts, edges, windows
-- and places of parcels count from 0.
use Rattle.std.specs.Prelude.{◌≡◌, ◌<◌, ◌+◌, ℕ, Bool, true, false, not, List, [], map, replicate, length, All, slice_set, slice_index_or}
use Rattle.load_plan.specs.declared.plan.Plan.{Plan}
use Rattle.net_parts.specs.declared.parcel.Parcel.{Parcel}
use Rattle.net_parts.specs.Windows.{windows}
use Rattle.net_parts.specs.Parts.{is_segment_part, edges_of_part, parts}
use Rattle.net_parts.specs.Parcels.{IsTrueParcel, next_stamp, refilled}
use Rattle.net_parts.specs.Boards.{place_in}

-- A part and the places of its parcels: its plan and number; its window, which goes on when it is lost, and the window
-- at which the part itself stands; whether it is lost, whether room was refused in this window, whether there is room;
-- and for each of its edges, in their order, a parcel, and whether it is away, so that an empty one lies in its place
-- (profile).
pub record Holding : Type 0 where
  pub plan : Plan
  pub number : ℕ
  pub window : ℕ
  pub at : ℕ
  pub lost : Bool
  pub refused : Bool
  pub reserved : Bool
  pub parcels : List Parcel
  pub away : List Bool

-- The edges of these parcels (profile).
abbrev pub edges_of_parcels : List Parcel → List ℕ
edges_of_parcels ps = map (λ p. p.edge) ps

-- What lies in the place of a parcel of edge e that is away from a part whose parcels leave by this way (profile).
abbrev pub absent_parcel : Bool → ℕ → Parcel
absent_parcel way e = record { edge = e; window = 0; to_repeater = way; symbols = []; spoiled = true }

-- The place of an edge's parcel (profile).
abbrev pub place_of_edge : ℕ → Holding → ℕ
place_of_edge e h = place_in (edges_of_parcels h.parcels) e

-- The parcel in the place of an edge (profile).
abbrev pub parcel_of_edge : ℕ → Holding → Parcel
parcel_of_edge e h = slice_index_or h.parcels (place_of_edge e h) (absent_parcel false e)

-- An edge's parcel is here (profile).
abbrev pub is_here : ℕ → Holding → Bool
is_here e h = not (slice_index_or h.away (place_of_edge e h) true)

-- A parcel goes by this way, to the repeater or else to the segment, with this stamp (profile).
abbrev pub IsOnWay : Bool → ℕ → Parcel → Type 0
IsOnWay way w p = (p.to_repeater ≡ way) × (p.window ≡ w)

-- The window is one of the run's, and all parcels are on the way to the part with the window's stamp, spoiled or not
-- (profile).
abbrev pub IsHoldingReady : Holding → Type 0
IsHoldingReady h =
    (h.window < windows h.plan) × All (IsOnWay (not (is_segment_part h.plan h.number)) h.window) h.parcels

-- No parcel is spoiled (profile).
abbrev pub IsHoldingClean : Holding → Type 0
IsHoldingClean h = All (λ (p : Parcel). p.spoiled ≡ false) h.parcels

-- The part may be given up for its window: it isn't so that no room was refused in it, the part isn't lost and no
-- parcel is spoiled (profile).
abbrev pub MayBeSpoiled : Holding → Type 0
MayBeSpoiled h = (h.refused ≡ false) → (h.lost ≡ false) → IsHoldingClean h → ⊥

-- What is so of every part with its parcels: it is one of the plan's; while it isn't lost, it stands at its window;
-- the parcels are those of its edges, and each is true or spoiled; and in the place of one that is away lies one that
-- doesn't go to the part (profile).
pub record IsSoundHolding (h : Holding) : Type 0 where
  pub within : h.number < parts h.plan
  pub stands : h.lost ≡ false → h.window ≡ h.at
  pub edges : edges_of_parcels h.parcels ≡ edges_of_part h.plan h.number
  pub places : length h.away ≡ length h.parcels
  pub honest : All (IsTrueParcel h.plan) h.parcels
  pub turned : (k : ℕ) (d : Parcel) → k < length h.parcels → slice_index_or h.away k false ≡ true
      → (slice_index_or h.parcels k d).to_repeater ≡ is_segment_part h.plan h.number

-- A part that is new in a share, with its parcels (profile).
abbrev pub new_holding : Plan → ℕ → ℕ → List Parcel → List Bool → Holding
new_holding plan u w parcels away = record {
  plan = plan;
  number = u;
  window = w;
  at = w;
  lost = false;
  refused = false;
  reserved = false;
  parcels = parcels;
  away = away;
}

-- A segment with all its parcels (profile).
abbrev pub added_segment : Plan → ℕ → ℕ → List Parcel → Holding
added_segment plan u w parcels = new_holding plan u w parcels (replicate (length parcels) false)

-- A repeater, whose parcels are all away (profile).
abbrev pub added_repeater : Plan → ℕ → ℕ → Holding
added_repeater plan u w =
    new_holding plan u w (map (absent_parcel false) (edges_of_part plan u))
    (replicate (length (edges_of_part plan u)) true)

-- Room was made for the window (profile).
abbrev pub reserved_holding : Holding → Holding
reserved_holding h = record h { reserved = true }

-- Room was refused in this window (profile).
abbrev pub refused_holding : Holding → Holding
refused_holding h = record h { refused = true; reserved = false }

-- Run: the part makes its window, and its parcels are refilled, turned and stamped (profile).
abbrev pub run_holding : Holding → Holding
run_holding h = record h {
  window = h.window + 1;
  at = h.at + 1;
  refused = false;
  reserved = false;
  parcels = refilled h.plan h.number h.window;
}

-- A parcel that is turned and stamped without symbols, and spoiled (profile).
abbrev pub emptied_parcel : Bool → ℕ → Parcel → Parcel
emptied_parcel way w p = record { edge = p.edge; window = w; to_repeater = way; symbols = []; spoiled = true }

-- Spoil: the part is lost and stays behind, and its parcels are turned and stamped, without symbols and spoiled
-- (profile).
abbrev pub spoil_holding : Holding → Holding
spoil_holding h = record h {
  window = h.window + 1;
  lost = true;
  refused = false;
  parcels = map
      (emptied_parcel (is_segment_part h.plan h.number) (next_stamp (is_segment_part h.plan h.number) h.window))
      h.parcels;
}

-- Post: the parcel of an edge leaves its place (profile).
abbrev pub vacate_holding : ℕ → Holding → Holding
vacate_holding e h = record h {
  parcels = slice_set h.parcels (place_of_edge e h) (absent_parcel (is_segment_part h.plan h.number) e);
  away = slice_set h.away (place_of_edge e h) true;
}

-- Take: a parcel comes into its place (profile).
abbrev pub take_holding : Parcel → Holding → Holding
take_holding p h = record h {
  parcels = slice_set h.parcels (place_of_edge p.edge h) p;
  away = slice_set h.away (place_of_edge p.edge h) false;
}
