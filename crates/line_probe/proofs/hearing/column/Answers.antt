use Rattle.std.proofs.Common.{◌-◌, List, length, length-drop, drop, take, get_or, refl, sym, ap, subst, ◌∙◌, arith}
use Rattle.std.proofs.lemmas.List.{take_all}
use Rattle.manchester_line.specs.declared.Sym.{Sym}
use Rattle.manchester_line.specs.declared.Sym.TheVariants.{Idle}
use Rattle.line_probe.proofs.Columns.{IsColumn, column_done, column_grows, no_column, one_taken}
use Rattle.line_probe.proofs.hearing.column.Goals as goal

pub loop-rest-init : goal.loop-rest-init
loop-rest-init c =
    record {
      short = omega (arith, ap length c.new-symbols.ensures);
      column = λ plan all from n d is many.
          subst (λ (xs : List Sym). IsColumn plan all c.args.tap from n d xs c.args.heard.now) (sym c.new-symbols.ensures) (no_column plan all c.args.tap from n d c.args.heard.now is);
    }

pub loop-rest-preserved : goal.loop-rest-preserved
loop-rest-preserved c =
    let rest : List Sym = c.loop-rest.rest.now in
    let s : Sym = get_or rest c.args.tap Idle in
    let cut = take_all (length rest - c.args.taps) (drop c.args.taps rest) (omega (arith, length-drop c.args.taps rest)) in
    record {
      short = one_taken c.loop-rest.symbols c.push.new.self rest c.args.heard.now s c.args.taps c.in_ok-push.ensures.ok (omega (arith, c.requires)) c.loop-rest-test.true c.loop-rest.invariant.short;
      column = λ plan all from n d is many.
          subst (λ (xs : List Sym). IsColumn plan all c.args.tap from n d xs (take (length rest - c.args.taps) (drop c.args.taps rest))) (sym c.in_ok-push.ensures.ok)
          (column_grows plan all c.args.tap from n d c.loop-rest.symbols rest (take (length rest - c.args.taps) (drop c.args.taps rest)) s
          (omega (arith, many, c.requires)) (omega (arith, many, c.loop-rest-test.true)) (c.loop-rest.invariant.column plan all from n d is many) refl
          (cut ∙ ap (λ m. drop m rest) (sym many)));
    }

pub returns-clause-heard : goal.returns-clause-heard
returns-clause-heard c plan all from n d is many =
    column_done plan all c.args.tap from n d c.loop-rest.symbols c.loop-rest.rest.now (omega (arith, many, c.loop-rest-test.false)) (c.loop-rest.invariant.column plan all from n d is many)
