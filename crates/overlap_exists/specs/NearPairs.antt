-- Two stations near each other on one segment that begin to send in the same half bit, and what comes of it (IEEE
-- 802.3, 4.1.2.2). Half bits, positions and stations count from 0; places and distances are half bits.
use Rattle.std.specs.Prelude.{ℕ, ◌≡◌, ◌+◌, ◌*◌, ◌<◌, ◌≤◌, ◌↔◌, Some, List, [], ◌∷◌, length}
use Rattle.mac_parameters.specs.Distances.{distance}
use Rattle.mac_parameters.specs.Parameters.{interframe_gap, least_frame, preamble_length, shortest_sending}
use Rattle.frame_layout.specs.declared.queue.Ready.{Ready}
use Rattle.layout.specs.declared.lines.Layout.{Layout}
use Rattle.layout.specs.declared.lines.StationLine.{StationLine}
use Rattle.load_plan.specs.declared.plan.Plan.{Plan}
use Rattle.mac_transmit.specs.Attempts.{Attempt}
use Rattle.network.specs.Attempts.{OverlapOpenly}
use Rattle.path_checker.specs.declared.verdict.PathVerdict.{PathVerdict}
use Rattle.path_checker.specs.declared.verdict.PathVerdict.TheVariants.{Within}
use Rattle.path_checker.specs.Verdicts.{IsVerdict}

-- A layout with no repeater and two stations, which are on one segment and d half bits apart: at least one, and fewer
-- than a preamble and start frame delimiter have (3.2.1, 3.2.2).
pub record IsNearPair (l : Layout) (d : ℕ) : Type 0 where
  pub a : StationLine
  pub b : StationLine
  pub stations : l.stations ≡ a ∷ b ∷ []
  pub repeaters : l.repeaters ≡ []
  pub segment : a.segment ≡ b.segment
  pub apart : distance a.at b.at ≡ d
  pub some : 1 ≤ d
  pub short : d < preamble_length

-- A plan of such a layout, in which each station has a frame of at least the least size (minFrameSize, 4.4.2) that is
-- ready in half bit 0; more frames may come after it.
pub record BothAreReady (plan : Plan) (d : ℕ) : Type 0 where
  pub pair : IsNearPair plan.layout d
  pub f : Ready
  pub fs : List Ready
  pub g : Ready
  pub gs : List Ready
  pub queues : plan.queues ≡ (f ∷ fs) ∷ (g ∷ gs) ∷ []
  pub first : f.at ≡ 0
  pub second : g.at ≡ 0
  pub first_text : least_frame ≤ length f.frame
  pub second_text : least_frame ≤ length g.frame

-- A sending that begins in half bit 0 and has its hit at position d, in its preamble or start frame delimiter: it ends
-- with the jam behind these, as the shortest sending there is (4.2.3.2.4).
abbrev pub hit_in_preamble : ℕ → Attempt
hit_in_preamble d = record { start = 0; end = shortest_sending; hit = Some d }

-- In each such plan the first attempts of the two stations overlap over an open path, and each is hit at position d.
abbrev pub NearPairsOverlap : Type 0
NearPairsOverlap =
    (plan : Plan) (d : ℕ) → BothAreReady plan d → OverlapOpenly plan 0 1 (hit_in_preamble d) (hit_in_preamble d)

-- The one verdict on such a layout: its worst round trip is that of its two stations, twice their distance and an
-- interframe gap, and it is less than the slot time (4.4.2).
abbrev pub NearPairsAreWithin : Type 0
NearPairsAreWithin =
    (l : Layout) (d : ℕ) → IsNearPair l d → (v : PathVerdict)
    → IsVerdict l v ↔ (v ≡ Within (2 * d + interframe_gap) 0 1)
