use Rattle.std.proofs.Common.{◌≡◌, ◌+◌, [], map, take, drop}
use Rattle.layout_file.specs.JointFaults.{first_same}
use Rattle.layout_file.proofs.joint.first_same.Given as goal

abbrev pub invariant-loop-i : goal.invariant-loop-i
invariant-loop-i l =
    first_same [] 1 (map (λ s. s.now) l.names) ≡ first_same (map (λ s. s.now) (take l.i l.names)) (l.row + 1) (map (λ s. s.now) (drop l.i l.names))
