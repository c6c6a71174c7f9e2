-- The parcels of all edges, each at the place of its edge (profile). Segments, edges and windows count from 0.
use Rattle.std.specs.Prelude.{◌≡◌, ◌<◌, ◌≤◌, ℕ, Bool, true, false, List, map, length, slice_index_or}
use Rattle.load_plan.specs.declared.plan.Plan.{Plan}
use Rattle.net_parts.specs.declared.parcel.Parcel.{Parcel}
use Rattle.net_parts.specs.Machines.{span}
use Rattle.net_parts.specs.Parcels.{true_parcel}
use Rattle.net_parts.specs.Windows.{edge_ports}

-- How many edges a plan has (profile).
abbrev pub edges : Plan → ℕ
edges plan = length (edge_ports plan.layout)

-- The true parcels of all edges, all on this way and with this stamp (profile).
abbrev pub all_parcels : Plan → Bool → ℕ → List Parcel
all_parcels plan way w = map (true_parcel plan way w) (span (λ e. e) 0 (edges plan))

-- The segment of the port of edge e (profile).
abbrev pub segment_of_edge : Plan → ℕ → ℕ
segment_of_edge plan e = (slice_index_or (edge_ports plan.layout) e (record { segment = 0; at = 0 })).segment

-- The true parcels of all edges with stamp w: those of the segments below `done` are on the way to the repeaters, the
-- others to the segments (profile).
pub record AreHalfway (plan : Plan) (w done : ℕ) (parcels : List Parcel) : Type 0 where
  pub many : length parcels ≡ edges plan
  pub gone : (e : ℕ) (d : Parcel) → e < edges plan → segment_of_edge plan e < done →
      slice_index_or parcels e d ≡ true_parcel plan true w e
  pub coming : (e : ℕ) (d : Parcel) → e < edges plan → done ≤ segment_of_edge plan e →
      slice_index_or parcels e d ≡ true_parcel plan false w e

-- Each number of a list stands in it once (profile).
abbrev pub EachStandsOnce : List ℕ → Type 0
EachStandsOnce es = (i j : ℕ) → i < j → j < length es → slice_index_or es i 0 ≡ slice_index_or es j 0 → ⊥

-- The parcels of the first k of these edges have changed places with the first k in the hand (profile).
pub record AreExchanged (es : List ℕ) (k : ℕ) (parcels hand parcels_after hand_after : List Parcel) : Type 0 where
  pub many : length parcels_after ≡ length parcels
  pub room : length hand_after ≡ length hand
  pub out : (j : ℕ) (d : Parcel) → j < k →
      slice_index_or hand_after j d ≡ slice_index_or parcels (slice_index_or es j 0) d
  pub back : (j : ℕ) (d : Parcel) → j < k →
      slice_index_or parcels_after (slice_index_or es j 0) d ≡ slice_index_or hand j d
  pub others : (e : ℕ) (d : Parcel) → ((j : ℕ) → j < k → slice_index_or es j 0 ≡ e → ⊥) →
      slice_index_or parcels_after e d ≡ slice_index_or parcels e d
  pub later : (j : ℕ) (d : Parcel) → k ≤ j → slice_index_or hand_after j d ≡ slice_index_or hand j d
