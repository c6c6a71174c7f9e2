use Rattle.std.proofs.Common.{◌≡◌, get_or, sym, subst, arith, rules}
use Rattle.std.proofs.lemmas.List.{get_or_read}
use Rattle.tap_lines.specs.TapLines.{no_line, IsIdleFrom}
use Rattle.tap_lines.proofs.lines.are_idle_from.Goals as goal

pub returns-then-not-is_quiet_from-clause-loud : goal.returns-then-not-is_quiet_from-clause-loud
returns-then-not-is_quiet_from-clause-loud c = λ no all.
    let r = c.loop-line.line-index in
    let test = c.loop-line-test.true in
    let line : c.line-item.result ≡ get_or c.args.lines.now r no_line = get_or_read c.args.lines.now r c.line-item.result (omega (arith, test)) c.line-item.is no_line in
    c.is_quiet_from.ensures.loud (search rules) (subst (IsIdleFrom c.args.u) (sym line) (λ v late. all r v (omega (arith, test)) late))
