-- What the law of detected collisions stands on: verdicts keep what they promise, attempts are logged, and plans hold
-- frames.
use Rattle.layout.specs.declared.lines.Layout.{Layout}
use Rattle.network.proofs.FramedQueues.{plans_hold_frames}
use Rattle.network.proofs.LoggedAttempts.{attempts_logged}
use Rattle.network.specs.Signals.{AttemptsAreLogged, PlansHoldFrames}
use Rattle.path_checker.proofs.AlikeLayouts.{is_kept}
use Rattle.path_checker.proofs.NetworkLaws.{carries, repeats, lawful}
use Rattle.path_checker.specs.Propagation.{IsKept}
use Rattle.path_checker.specs.Verdicts.{IsVerdict}
use Rattle.path_checker.specs.declared.verdict.PathVerdict.{PathVerdict}

pub kept : (l : Layout) (v : PathVerdict) → IsVerdict l v → IsKept l v
kept = is_kept carries repeats lawful

pub logged : AttemptsAreLogged
logged = attempts_logged

pub queues_hold_frames : PlansHoldFrames
queues_hold_frames = plans_hold_frames
