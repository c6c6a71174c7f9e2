use Rattle.std.proofs.Common.{◌≡◌, ◌∷◌, ◌++◌, [], List, length, take, sym, ap, subst, ◌∙◌, arith}
use Rattle.std.proofs.lemmas.List.{take_more, take_all}
use Rattle.manchester_line.specs.declared.Sym.{Sym}
use Rattle.manchester_line.specs.declared.Sym.TheVariants.{Idle}
use Rattle.line_probe.specs.Runs.{AreRunsOf}
use Rattle.line_probe.specs.declared.run.Run.{Run}
use Rattle.line_probe.proofs.RunsSoFar.{first_run}
use Rattle.line_probe.proofs.splitting.runs_of.Goals as goal

pub symbols-init : goal.symbols-init
symbols-init c =
    record {
      runs = subst (λ (rs : List Run). AreRunsOf c.args.from (c.in-Some.first.now ∷ []) (rs ++ record { start = c.args.from; count = 1; symbol = c.in-Some.first.now } ∷ [])) (sym c.new-runs.ensures)
          (first_run c.args.from c.in-Some.first.now);
      ends = omega arith;
    }

pub symbols-preserved : goal.symbols-preserved
symbols-preserved c =
    let i = c.symbols.symbol-index in
    let rest = c.in-Some.rest.now in
    let more = take_more rest i Idle c.symbols-test.true in
    record {
      runs = subst (λ (xs : List Sym). AreRunsOf c.args.from (c.in-Some.first.now ∷ xs) (c.next_run.new.runs ++ c.in_ok-run.run' ∷ [])) (sym more)
          (c.in_ok-run.ensures.runs c.args.from (c.in-Some.first.now ∷ take i rest) c.symbols.invariant.runs);
      ends = omega (arith, c.in_ok-run.ensures.ends, c.symbols.invariant.ends);
    }

pub returns : goal.returns
returns c =
    let all : c.symbols.symbol-index ≡ length c.in-Some.rest.now = omega arith in
    let taken : take c.symbols.symbol-index c.in-Some.rest.now ≡ c.in-Some.rest.now = take_all c.symbols.symbol-index c.in-Some.rest.now (omega (arith, all)) in
    let whole : c.in-Some.first.now ∷ take c.symbols.symbol-index c.in-Some.rest.now ≡ c.args.symbols.now = ap (λ xs. c.in-Some.first.now ∷ xs) taken ∙ sym c.in-Some.ensures.cases.0 in
    subst (λ (rs : List Run). AreRunsOf c.args.from c.args.symbols.now rs) (sym c.in_ok-push.ensures.ok)
    (subst (λ (xs : List Sym). AreRunsOf c.args.from xs (c.symbols.runs ++ c.symbols.run ∷ [])) whole c.symbols.invariant.runs)
