use Rattle.std.proofs.Common.{rules}
use Rattle.network.specs.Net.{next}
use Rattle.net_step.specs.KeptNet.{IsNextKept, Stands}
use Rattle.net_step.proofs.StandsForNet.{stands_next}
use Rattle.net_step.proofs.plain.PlainNet.step.Goals as goal

pub returns-clause-stands : goal.returns-clause-stands
returns-clause-stands c = λ n s.
    let later : IsNextKept c.args.self.now c.go_on.new.self → Stands (next n) c.go_on.new.self = stands_next n c.args.self.now c.go_on.new.self s in search rules
