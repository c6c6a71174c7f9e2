use Rattle.std.proofs.Common.{◌≡◌, map, take}
use Rattle.path_slack.specs.Lengthened.{moved_repeater}
use Rattle.path_slack.proofs.lengthen.Piece.moved_repeaters.Given as goal

abbrev pub invariant-loop-repeater : goal.invariant-loop-repeater
invariant-loop-repeater l = l.moved ≡ map (moved_repeater l.self.segment l.self.high l.self.by) (take l.repeater-index l.repeaters)
