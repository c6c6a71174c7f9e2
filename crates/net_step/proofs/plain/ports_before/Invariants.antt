use Rattle.std.proofs.Common.{◌≡◌, ◌*◌, ◌≤◌, take}
use Rattle.network.specs.Net.{ports_of}
use Rattle.net_step.proofs.plain.ports_before.Given as goal
use Rattle.mac_parameters.specs.Parameters.{most_ports}

abbrev pub invariant-loop-relay : goal.invariant-loop-relay
invariant-loop-relay l = record {
  few : l.ports ≤ most_ports * l.relay-index;
  ports : l.ports ≡ ports_of (take l.relay-index l.before);
}
