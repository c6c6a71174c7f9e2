use Rattle.std.proofs.Common.{ltb, rules, of_calls, arith, sym}
use Rattle.std.proofs.lemmas.Fn.{always_returns_same}
use Rattle.std.proofs.lemmas.List.Sorted.{IsPartitionedBy-ltb}
use Rattle.frame_table.specs.declared.ports.Change.{Change}
use Rattle.frame_table.proofs.PortChanges.{IsCountBefore, none_before, last_before}
use Rattle.frame_table.proofs.ports.is_open.Goals as goal

pub returns : goal.returns
returns c =
    let cs = c.args.changes.now in
    let count = c.partition_point-count.result in
    let point : IsCountBefore c.args.t cs count = c.partition_point-count.ensures.partitioned (λ (y : Change). ltb y.t c.args.t) (always_returns_same _ _ _ (λ a r f k. search (rules, of_calls))) (IsPartitionedBy-ltb (λ (y : Change). y.t) cs c.args.t c.requires) in
    sym (last_before c.args.t cs count _ (omega arith) c.partition_point-count.ensures.bound point)

pub returns-then-count-eq0 : goal.returns-then-count-eq0
returns-then-count-eq0 c =
    let cs = c.args.changes.now in
    let count = c.partition_point-count.result in
    let point : IsCountBefore c.args.t cs count = c.partition_point-count.ensures.partitioned (λ (y : Change). ltb y.t c.args.t) (always_returns_same _ _ _ (λ a r f k. search (rules, of_calls))) (IsPartitionedBy-ltb (λ (y : Change). y.t) cs c.args.t c.requires) in
    sym (none_before c.args.t cs count c.if-count-eq0.true point)
