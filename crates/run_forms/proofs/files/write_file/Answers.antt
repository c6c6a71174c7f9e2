use Rattle.std.proofs.Common.{◌+◌, take, inr, rules, arith}
use Rattle.std.proofs.lemmas.List.{take_rest}
use Rattle.outside.specs.declared.store.StoreFail.{StoreFail}
use Rattle.outside.specs.Files.{IsAbsent}
use Rattle.run_endings.proofs.WrittenByPieces.{put-present, put-next}
use Rattle.run_forms.proofs.files.write_file.Goals as goal

pub returns-in_err-count-clause-missing : goal.returns-in_err-count-clause-missing
returns-in_err-count-clause-missing g c =
    λ e. let absent : IsAbsent c.args.name.now (g.S.Store.held c.loop-done.store) = search rules in
    put-present c.args.name.now (take c.loop-done.done c.args.text.now) (g.S.Store.held c.args.store.now) (rw c.loop-done.invariant.1 at absent)

pub returns-then-count-eq0-clause-err : goal.returns-then-count-eq0-clause-err
returns-then-count-eq0-clause-err g c =
    inr (
      c.loop-done.done + c.in_ok-count.count,
      put-next StoreFail c.args.name.now c.args.text.now c.loop-done.done c.in_ok-count.count (g.S.Store.held c.args.store.now) _ _ c.loop-done.invariant.1 (rw take_rest at c.in_ok-count.ensures.held),
      omega arith,
    )

pub loop-done-preserved : goal.loop-done-preserved
loop-done-preserved g c = (
  search rules,
  put-next StoreFail c.args.name.now c.args.text.now c.loop-done.done c.in_ok-count.count (g.S.Store.held c.args.store.now) _ _ c.loop-done.invariant.1 (rw take_rest at c.in_ok-count.ensures.held),
  omega arith,
  omega arith,
)
