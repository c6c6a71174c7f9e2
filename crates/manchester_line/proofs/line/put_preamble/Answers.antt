use Rattle.std.proofs.Common.{arith}
use Rattle.std.proofs.lemmas.List.FromFn.{fill_by_all}
use Rattle.manchester_line.specs.declared.Sym.TheVariants.{Idle}
use Rattle.manchester_line.specs.Line.{preamble, preamble_at}
use Rattle.mac_parameters.specs.Parameters.{preamble_length}
use Rattle.manchester_line.proofs.line.put_preamble.Goals as goal

pub returns : goal.returns
unfolding preamble
returns c = fill_by_all preamble_at c.loop-i.out preamble_length Idle (omega arith) (λ k h. c.loop-i.invariant k (omega arith))
