use Rattle.std.proofs.Common.{◌≡◌, ◌<◌, ◌-◌, true, sym, ap, ◌∙◌, arith, rules}
use Rattle.std.proofs.lemmas.Bool.Decides.{nat_tests}
use Rattle.tap_lines.specs.TapLines.{TapLine}
use Rattle.tap_lines.proofs.EndsOfSignals.{loud_from, loud_on}
use Rattle.tap_lines.proofs.line.Line.is_quiet_from.Goals as goal

pub returns-else-not-goes_on-clause-loud : goal.returns-else-not-goes_on-clause-loud
returns-else-not-goes_on-clause-loud c = λ no.
    let on : c.goes_on.result ≡ true = search rules in
    loud_on c.args.self.now c.args.u (sym c.goes_on.ensures ∙ on)

pub returns-then-self-u-clause-loud : goal.returns-then-self-u-clause-loud
returns-then-self-u-clause-loud c = λ no.
    let x = c.self.inside in
    let base = ap (λ (k : TapLine). k.base) c.self.view_is in
    let some : 0 < x.written = search rules in
    let late : c.args.u - x.base < x.written = grind (arith, nat_tests, no) in
    loud_from c.args.self.now x.buffer.items x.written x.quiet x.loud c.args.u (sym (ap (λ (k : TapLine). k.symbols) c.self.view_is)) (search rules) (search rules) some (omega (arith, base, late, some))

pub returns-else-self-u-clause-loud : goal.returns-else-self-u-clause-loud
returns-else-self-u-clause-loud c = λ no.
    let x = c.self.inside in
    let base = ap (λ (k : TapLine). k.base) c.self.view_is in
    let some : 0 < x.written = search rules in
    let late : c.args.u < x.base = grind (arith, nat_tests, no) in
    loud_from c.args.self.now x.buffer.items x.written x.quiet x.loud c.args.u (sym (ap (λ (k : TapLine). k.symbols) c.self.view_is)) (search rules) (search rules) some (omega (arith, base, late, some))
