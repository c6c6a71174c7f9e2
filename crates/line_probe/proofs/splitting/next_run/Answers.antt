use Rattle.std.proofs.Common.{◌+◌, ◌∷◌, ◌++◌, [], List, sym, subst, ◌∙◌}
use Rattle.line_probe.specs.Runs.{AreRunsOf}
use Rattle.line_probe.specs.declared.run.Run.{Run}
use Rattle.line_probe.proofs.RunsSoFar.{run_begins, run_goes_on}
use Rattle.line_probe.proofs.SameSymbols.{other_symbols, same_symbols}
use Rattle.line_probe.proofs.splitting.next_run.Goals as goal

pub returns-then-eq-clause-runs : goal.returns-then-eq-clause-runs
returns-then-eq-clause-runs c from symbols are =
    run_goes_on from symbols c.args.runs.now c.args.run c.args.symbol (same_symbols c.args.symbol c.args.run.symbol (sym c.eq.ensures ∙ c.if-eq.true)) are

pub returns-clause-runs : goal.returns-clause-runs
returns-clause-runs c from symbols are =
    let next : Run = record { start = c.args.run.start + c.args.run.count; count = 1; symbol = c.args.symbol } in
    subst (λ (rs : List Run). AreRunsOf from (symbols ++ c.args.symbol ∷ []) (rs ++ next ∷ [])) (sym c.in_ok-push.ensures.ok)
    (run_begins from symbols c.args.runs.now c.args.run c.args.symbol (other_symbols c.args.symbol c.args.run.symbol (sym c.eq.ensures ∙ c.if-eq.false)) are)
