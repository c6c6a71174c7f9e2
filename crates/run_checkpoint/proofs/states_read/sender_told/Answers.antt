use Rattle.std.proofs.Common.{arith}
use Rattle.run_checkpoint.specs.SenderLines.{sender_of_line}
use Rattle.run_checkpoint.proofs.SendersFound.{sender_ranges}
use Rattle.run_checkpoint.proofs.states_read.sender_told.Goals as goal

pub defer_told-requires : goal.defer_told-requires
defer_told-requires c = (sender_ranges c.args.frames (sender_of_line c.args.line.now) c.requires).defer

pub overflow_cast-result : goal.overflow_cast-result
overflow_cast-result c = omega (arith, (sender_ranges c.args.frames (sender_of_line c.args.line.now) c.requires).last)

pub overflow_cast-result-2 : goal.overflow_cast-result-2
overflow_cast-result-2 c = omega (arith, (sender_ranges c.args.frames (sender_of_line c.args.line.now) c.requires).fits)

pub overflow_cast-result-3 : goal.overflow_cast-result-3
overflow_cast-result-3 c = omega (arith, (sender_ranges c.args.frames (sender_of_line c.args.line.now) c.requires).drawn)
