-- What the share's calls have to do with the events of a board (profile). Parts, edges and windows count from 0.
use Rattle.std.specs.Prelude.{◌≡◌, ◌<◌, ℕ, true, false, not, length, slice_index_or}
use Rattle.load_plan.specs.declared.plan.Plan.{Plan}
use Rattle.net_parts.specs.declared.parcel.Parcel.{Parcel}
use Rattle.net_parts.specs.Parts.{part_at, is_segment_part}
use Rattle.net_parts.specs.Parcels.{arrived}
use Rattle.net_parts.specs.Boards.{Board, ParcelOnBoard, Whereabouts, Mail, Run, Spoil, Post, Take, whereabouts_at, has_edge, IsEnabled, happens}
use Rattle.exchange_core.specs.Holdings.{Holding, IsSoundHolding, IsHoldingReady, IsHoldingClean, edges_of_parcels, parcel_of_edge, is_here, run_holding, spoil_holding, vacate_holding, take_holding}
use Rattle.exchange_core.specs.Shares.{Held, AreParcelsFor, part_of, changed, change}

-- A parcel that is at this spot (profile).
abbrev pub parcel_on_board : Whereabouts → Parcel → ParcelOnBoard
parcel_on_board spot p =
    record { window = p.window; to_repeater = p.to_repeater; symbols = p.symbols; spoiled = p.spoiled; spot = spot }

-- A board has a part and the parcels at it as a share has them. The part stands at its own window; while it isn't
-- lost, that is its window (profile).
pub record Agrees (h : Holding) (b : Board) : Type 0 where
  pub part : b.part h.number ≡ record { window = h.window; state = part_at h.plan h.number h.at; lost = h.lost }
  pub parcels : (k : ℕ) (d : Parcel) → k < length h.parcels → slice_index_or h.away k true ≡ false
      → b.parcel (slice_index_or h.parcels k d).edge
      ≡ parcel_on_board (whereabouts_at (not (is_segment_part h.plan h.number))) (slice_index_or h.parcels k d)

-- A part that runs in a share runs on the board (profile).
abbrev pub RunIsRun : Type 0
RunIsRun =
    (h : Holding) (b : Board) → IsSoundHolding h → IsHoldingReady h → IsHoldingClean h → h.lost ≡ false → Agrees h b
    → IsEnabled h.plan b (Run h.number) × Agrees (run_holding h) (happens h.plan b (Run h.number))

-- A part that is given up in a share is given up on the board (profile).
abbrev pub SpoilIsSpoil : Type 0
SpoilIsSpoil =
    (h : Holding) (b : Board) → IsSoundHolding h → IsHoldingReady h → Agrees h b
    → IsEnabled h.plan b (Spoil h.number) × Agrees (spoil_holding h) (happens h.plan b (Spoil h.number))

-- A parcel that leaves its place in a share goes into mail on the board (profile).
abbrev pub PostIsPost : Type 0
PostIsPost =
    (e : ℕ) (h : Holding) (b : Board) → IsSoundHolding h → is_here e h ≡ true
    → (parcel_of_edge e h).to_repeater ≡ is_segment_part h.plan h.number → Agrees h b
    → IsEnabled h.plan b (Post e) × Agrees (vacate_holding e h) (happens h.plan b (Post e))
    × ((happens h.plan b (Post e)).parcel e ≡ parcel_on_board Mail (parcel_of_edge e h))

-- A parcel that comes into its place in a share comes out of mail on the board, where it is so in mail (profile).
abbrev pub TakeIsTake : Type 0
TakeIsTake =
    (p : Parcel) (h : Holding) (b : Board) → IsSoundHolding h → has_edge (edges_of_parcels h.parcels) p.edge ≡ true
    → p.to_repeater ≡ not (is_segment_part h.plan h.number) → b.parcel p.edge ≡ parcel_on_board Mail p → Agrees h b
    → IsEnabled h.plan b (Take p.edge) × Agrees (take_holding p h) (happens h.plan b (Take p.edge))

-- The parcels that come to a part for a window are those with which it is added (profile).
abbrev pub ParcelsServe : Type 0
ParcelsServe = (plan : Plan) (u w : ℕ) → AreParcelsFor plan u w (arrived plan u w)

-- A change of a part of a share is what is then found there (profile).
abbrev pub PartsChange : Type 0
PartsChange = (f : Holding → Holding) (u : ℕ) (s : Held) → part_of u (change f u s) ≡ changed f (part_of u s)
