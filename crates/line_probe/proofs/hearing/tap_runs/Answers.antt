use Rattle.std.proofs.Common.{List, length, ap, subst, ◌∙◌, arith}
use Rattle.std.specs.Prelude.{IfOk}
use Rattle.manchester_line.specs.declared.Sym.{Sym}
use Rattle.line_probe.specs.Runs.{AreRunsOf}
use Rattle.line_probe.proofs.hearing.tap_runs.Goals as goal

pub runs_of-requires : goal.runs_of-requires
runs_of-requires c = omega (arith, c.requires.short, ap length c.as_slice.ensures, ap length c.as_slice-2.ensures, c.in_ok-symbols.ensures.short)

pub returns : goal.returns
returns c plan all n d is many =
    subst (λ (xs : List Sym). IfOk c.runs_of.result (λ runs. AreRunsOf c.args.from xs runs))
    (c.as_slice-2.ensures ∙ c.in_ok-symbols.ensures.heard plan all c.args.from n d (c.as_slice.ensures ∙ is) many) c.runs_of.ensures
