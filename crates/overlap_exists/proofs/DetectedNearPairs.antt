-- The collision of two near stations is detected, and the example's plan has one.
use Rattle.std.proofs.Common.{◌+◌, ◌*◌, ◌<◌, [], refl, subst, Contains, arith}
use Rattle.mac_parameters.specs.Parameters.{interframe_gap, shortest_sending}
use Rattle.frame_layout.proofs.Frames.{length-frame_of}
use Rattle.network.specs.Attempts.{HasFrames}
use Rattle.network.specs.Outputs.{half_bits, rows}
use Rattle.network.proofs.FramedQueues.{plans_hold_frames}
use Rattle.network.proofs.LoggedAttempts.{attempts_logged}
use Rattle.path_checker.specs.declared.verdict.PathVerdict.TheVariants.{Within}
use Rattle.path_checker.specs.Propagation.{HasNetworkOf}
use Rattle.path_checker.proofs.AlikeLayouts.{is_kept}
use Rattle.path_checker.proofs.NetworkLaws.{carries, repeats, lawful}
use Rattle.overlap_exists.specs.DetectedCollisions.{NearPairsAreDetected, sends_at_once, near_distance, no_loads, NearPairsAreLogged, DetectedCollisionsExist}
use Rattle.overlap_exists.specs.NearPairs.{BothAreReady, hit_in_preamble}
use Rattle.overlap_exists.proofs.NearPairsOverlap.{near_pairs_overlap, row_0, row_1}
use Rattle.overlap_exists.proofs.NearPairsWithin.{near_verdict}
use Rattle.overlap_exists.proofs.SoundNearExample.{a_station, b_station, near_example_sound, near_plan, ready_of, queues_are}

pub near_pairs_detected : NearPairsAreDetected
near_pairs_detected plan d ready frames =
    let verdict = near_verdict plan.layout d ready.pair in
    let promise = is_kept carries repeats lawful plan.layout (Within (2 * d + interframe_gap) 0 1) verdict in
    let network : HasNetworkOf plan.layout plan = record { segments = refl; stations = refl; repeaters = refl; frames = frames } in
    let overlap = near_pairs_overlap plan d ready in
    let hits = promise plan network 0 1 (hit_in_preamble d) (hit_in_preamble d) overlap in
    record { verdict = verdict; kept = promise; network = network; overlap = overlap; first = hits.0; second = hits.1 }

pub near_pairs_logged : NearPairsAreLogged
near_pairs_logged plan d ready long =
    let overlap = near_pairs_overlap plan d ready in (
      subst (Contains (rows plan)) (row_0 plan d ready) (attempts_logged plan 0 (hit_in_preamble d) overlap.first long),
      subst (Contains (rows plan)) (row_1 plan d ready) (attempts_logged plan 1 (hit_in_preamble d) overlap.second long),
    )

-- the example
near_ready : BothAreReady near_plan near_distance
unfolding near_plan
near_ready = record {
  pair = record {
    a = a_station;
    b = b_station;
    stations = refl;
    repeaters = refl;
    segment = refl;
    apart = refl;
    some = omega arith;
    short = omega arith;
  };
  f = ready_of 0;
  fs = [];
  g = ready_of 1;
  gs = [];
  queues = queues_are;
  first = refl;
  second = refl;
  first_text = omega (arith, length-frame_of (sends_at_once 0).octets);
  second_text = omega (arith, length-frame_of (sends_at_once 1).octets);
}

near_frames : HasFrames near_plan
unfolding near_plan
near_frames = plans_hold_frames near_plan no_loads refl

near_long : shortest_sending < half_bits near_plan
unfolding near_plan
near_long = omega arith

pub collisions_exist : DetectedCollisionsExist
unfolding near_plan
collisions_exist =
    let logged = near_pairs_logged near_plan near_distance near_ready near_long in (
      near_plan,
      record {
        sound = near_example_sound;
        layout = refl;
        queues = refl;
        detected = near_pairs_detected near_plan near_distance near_ready near_frames;
        first_row = logged.0;
        second_row = logged.1;
      },
    )
