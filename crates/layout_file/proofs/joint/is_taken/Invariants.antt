use Rattle.std.proofs.Common.{◌≡◌, map, drop}
use Rattle.std.specs.List.{list_any}
use Rattle.layout_file.specs.JointFaults.{shares_place}
use Rattle.layout_file.specs.Sites.{seen_tap}
use Rattle.layout_file.proofs.joint.is_taken.Given as goal

abbrev pub invariant-loop-other : goal.invariant-loop-other
invariant-loop-other l =
    list_any (shares_place (seen_tap l.tap)) (map seen_tap l.taps) ≡ list_any (shares_place (seen_tap l.tap)) (map seen_tap (drop l.other-index l.taps))
