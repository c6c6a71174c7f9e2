use Rattle.std.proofs.Common.{◌≡◌, drop}
use Rattle.frame_layout.specs.Division.{bits}
use Rattle.frame_layout.specs.Register.{turned_all}
use Rattle.frame_layout.proofs.check_sequence.fcs.Given as goal

abbrev pub invariant-loop-octet : goal.invariant-loop-octet
invariant-loop-octet l = turned_all l.register (bits (drop l.octet-index l.octets)) ≡ turned_all 4294967295 (bits l.octets)
