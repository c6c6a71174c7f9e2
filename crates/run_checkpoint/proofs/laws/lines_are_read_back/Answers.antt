use Rattle.std.proofs.Common.{arith}
use Rattle.run_checkpoint.proofs.GuardsRead.{guard_again, guard_keeps}
use Rattle.run_checkpoint.proofs.OctetsRead.{octets_again}
use Rattle.run_checkpoint.proofs.SenderLines.{sender_again, time_again}
use Rattle.run_checkpoint.proofs.SendersFound.{sender_keeps}
use Rattle.run_checkpoint.proofs.laws.lines_are_read_back.Goals as goal

pub returns-clause-times : goal.returns-clause-times
returns-clause-times c t le = time_again t (omega (arith, le))

pub returns-clause-senders : goal.returns-clause-senders
returns-clause-senders c name queue s is fits = let k = sender_keeps queue s is fits in (sender_again name s k.1, k.0)

pub returns-clause-guards : goal.returns-clause-guards
returns-clause-guards c name port g rest is lt = let k = guard_keeps g rest is lt in (guard_again name port g rest k.1, k.0)

pub returns-clause-octets : goal.returns-clause-octets
returns-clause-octets c octets all = octets_again octets all
