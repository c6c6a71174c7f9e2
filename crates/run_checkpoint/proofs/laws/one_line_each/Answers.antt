use Rattle.std.proofs.Common.{arith}
use Rattle.run_checkpoint.proofs.GuardsRead.{guard_in_range, guard_text}
use Rattle.run_checkpoint.proofs.OctetsFound.{octets_text}
use Rattle.run_checkpoint.proofs.SenderLines.{time_text}
use Rattle.run_checkpoint.proofs.SendersFound.{sender_in_range, sender_text}
use Rattle.run_checkpoint.proofs.laws.one_line_each.Goals as goal

pub returns-clause-times : goal.returns-clause-times
returns-clause-times c line t h le = time_text line t h (omega (arith, le))

pub returns-clause-senders : goal.returns-clause-senders
returns-clause-senders c name line queue s h keeps = let r = sender_in_range queue s keeps in (r.0, sender_text name line s h r.2)

pub returns-clause-guards : goal.returns-clause-guards
returns-clause-guards c name port line g rest h keeps = let r = guard_in_range g rest keeps in (r.0, r.1, guard_text name port line (g, rest) h r.2)

pub returns-clause-octets : goal.returns-clause-octets
returns-clause-octets c line octets h = octets_text line octets h
