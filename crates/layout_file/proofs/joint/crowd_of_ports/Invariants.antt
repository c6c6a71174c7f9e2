use Rattle.std.proofs.Common.{◌≡◌, ◌+◌, map, drop}
use Rattle.toml.specs.View.{table_view}
use Rattle.layout_file.specs.JointFaults.{crowd_of_ports}
use Rattle.layout_file.proofs.joint.crowd_of_ports.Given as goal

abbrev pub invariant-loop-members : goal.invariant-loop-members
invariant-loop-members l =
    crowd_of_ports 1 (map (λ t. table_view t.now) l.repeaters) ≡ crowd_of_ports (l.row + 1) (map (λ t. table_view t.now) (drop l.members-index l.repeaters))
