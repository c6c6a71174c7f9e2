-- That what the path checker promises of a layout within the slot time (its clause `detected`; IEEE 802.3, 4.1.2.2)
-- speaks of collisions that there are. Half bits and stations count from 0; places and distances are half bits.
use Rattle.std.specs.Prelude.{ℕ, ◌≡◌, ◌+◌, ◌*◌, ◌<◌, None, Contains, List, [], ◌∷◌}
use Rattle.backoff_draw.specs.Draws.{draw_of}
use Rattle.capture_file.specs.declared.entries.Record.{Record}
use Rattle.collision_log.specs.declared.row.Body.TheVariants.{Collided}
use Rattle.collision_log.specs.declared.row.Row.{Row}
use Rattle.layout.specs.declared.lines.Layout.{Layout}
use Rattle.layout.specs.declared.lines.SendLine.{SendLine}
use Rattle.layout.specs.declared.lines.StationLine.{StationLine}
use Rattle.layout.specs.Sound.{IsSound}
use Rattle.load_plan.specs.Loads.{planned_queues}
use Rattle.load_plan.specs.declared.plan.Plan.{Plan}
use Rattle.mac_parameters.specs.Parameters.{bit_512, interframe_gap, shortest_sending}
use Rattle.mac_transmit.specs.Attempts.{Attempt, IsHitBelow}
use Rattle.network.specs.Attempts.{HasFrames, OverlapOpenly}
use Rattle.network.specs.Outputs.{half_bits, rows}
use Rattle.path_checker.specs.declared.verdict.PathVerdict.{PathVerdict}
use Rattle.path_checker.specs.declared.verdict.PathVerdict.TheVariants.{Within}
use Rattle.path_checker.specs.Propagation.{HasNetworkOf, IsKept}
use Rattle.path_checker.specs.Verdicts.{IsVerdict}
use Rattle.overlap_exists.specs.NearPairs.{BothAreReady, hit_in_preamble}

-- Both sides of the promise that goes with a verdict on a layout: the verdict is right and its promise is kept, the
-- plan has the layout's network, and its attempts x and y, of stations 0 and 1, overlap over an open path; and both of
-- them have a hit before the 512th bit of their sendings begins.
pub record IsDetectedCollision (l : Layout) (v : PathVerdict) (plan : Plan) (x y : Attempt) : Type 0 where
  pub verdict : IsVerdict l v
  pub kept : IsKept l v
  pub network : HasNetworkOf l plan
  pub overlap : OverlapOpenly plan 0 1 x y
  pub first : IsHitBelow x.hit bit_512
  pub second : IsHitBelow y.hit bit_512

-- Of two near stations that both have a frame in half bit 0, in a plan whose queues hold frames, the first attempts are
-- such a collision, under the verdict Within.
abbrev pub NearPairsAreDetected : Type 0
NearPairsAreDetected =
    (plan : Plan) (d : ℕ) → BothAreReady plan d → HasFrames plan
    → IsDetectedCollision plan.layout (Within (2 * d + interframe_gap) 0 1) plan (hit_in_preamble d) (hit_in_preamble d)

-- The row of the first attempt of station k, which was hit at position d: it ends the attempt, the first at the
-- station's first frame, which began in half bit 0, and tells what the station drew for its backoff (4.2.3.2.5).
abbrev pub first_collision : Plan → ℕ → ℕ → Row
first_collision plan k d = record {
  t = shortest_sending;
  device = k;
  body = Collided 1 0 1 d (draw_of plan.layout.seed k 0 1);
}

-- Where the run is longer than such a sending, both rows are among its rows.
abbrev pub NearPairsAreLogged : Type 0
NearPairsAreLogged =
    (plan : Plan) (d : ℕ) → BothAreReady plan d → shortest_sending < half_bits plan
    → Contains (rows plan) (first_collision plan 0 d) × Contains (rows plan) (first_collision plan 1 d)

-- A station on segment 0 with a name of one letter, at a place; it has no load.
abbrev pub near_station : ℕ → ℕ → StationLine
near_station letter at = record { name = letter ∷ []; segment = 0; at = at; load = None; lose = 0 }

-- A send of station k in half bit 0 to all stations: its two addresses and its type (3.2.3 to 3.2.6).
abbrev pub sends_at_once : ℕ → SendLine
sends_at_once k = record {
  station = k;
  at = 0;
  octets = 255 ∷ 255 ∷ 255 ∷ 255 ∷ 255 ∷ 255 ∷ 2 ∷ 0 ∷ 0 ∷ 0 ∷ 0 ∷ k ∷ 8 ∷ 0 ∷ [];
}

-- How far apart the example's stations are.
abbrev pub near_distance : ℕ
near_distance = 10

-- The example: segment x, with station a at the cable's end and station b at that distance, each of which is to send a
-- frame in half bit 0. They stand as stations a and b of examples/collision do.
abbrev pub near_example : Layout
near_example = record {
  format = 1;
  seed = 1;
  until_bits = 10000;
  segments = record { name = 120 ∷ [] } ∷ [];
  stations = near_station 97 0 ∷ near_station 98 near_distance ∷ [];
  repeaters = [];
  sends = sends_at_once 0 ∷ sends_at_once 1 ∷ [];
}

-- The loads of its stations, which have none.
abbrev pub no_loads : List (List Record)
no_loads = [] ∷ [] ∷ []

-- A plan as it is made of the example and no loads, in which the first attempts of the two stations are a collision
-- that is detected, under the verdict Within, with their rows among those of the run. The example is a sound layout.
pub record IsDetectedExample (plan : Plan) : Type 0 where
  pub sound : IsSound near_example
  pub layout : plan.layout ≡ near_example
  pub queues : plan.queues ≡ planned_queues near_example no_loads
  pub detected :
      IsDetectedCollision near_example (Within (2 * near_distance + interframe_gap) 0 1) plan
      (hit_in_preamble near_distance) (hit_in_preamble near_distance)
  pub first_row : Contains (rows plan) (first_collision plan 0 near_distance)
  pub second_row : Contains (rows plan) (first_collision plan 1 near_distance)

-- There is such a plan.
abbrev pub DetectedCollisionsExist : Type 0
DetectedCollisionsExist = (plan : Plan) × IsDetectedExample plan
