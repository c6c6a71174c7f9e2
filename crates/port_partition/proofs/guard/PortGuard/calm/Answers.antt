use Rattle.std.proofs.Common.{◌<◌, sym, subst}
use Rattle.port_partition.specs.Guard.{IsGuard}
use Rattle.port_partition.proofs.GuardsLater.{none_before, some_then}
use Rattle.port_partition.proofs.guard.PortGuard.calm.Goals as goal

pub returns-clause-calm : goal.returns-clause-calm
returns-clause-calm c = λ k l.
    let h = subst IsGuard c.self.view_is c.self.invariant in
    none_before k c.args.hears c.args.clash c.args.emits c.args.self.now c.requires h (subst (λ n. k < n) c.count_calm.ensures l)

pub returns-clause-greatest : goal.returns-clause-greatest
returns-clause-greatest c =
    let h = subst IsGuard c.self.view_is c.self.invariant in
    some_then c.count_calm.result c.args.hears c.args.clash c.args.emits c.args.self.now c.requires h (sym c.count_calm.ensures)
