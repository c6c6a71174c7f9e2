use Rattle.std.proofs.Common.{◌≡◌, ℕ, ◌≤◌, ◌+◌, ◌-◌, ◌++◌, take, replicate, sym, ap, ◌∙◌, arith}
use Rattle.manchester_line.specs.declared.Sym.TheVariants.{Idle}
use Rattle.tap_lines.specs.Signals.{class_at}
use Rattle.tap_lines.specs.TapLines.{TapLine, class_back}
use Rattle.tap_lines.proofs.EndsOfSignals.{back_class}
use Rattle.tap_lines.proofs.line.Line.steady_back.Goals as goal
use Rattle.tap_lines.proofs.line.Line.steady_back.Goals.{After-steady_from}

-- what is at a place behind that of t was on the line so many half bits before
text_back : (c : After-steady_from) (j : ℕ) →
    class_at (take c.self.inside.written c.deref.result.now) c.goes_on.result (c.args.t - c.args.back - c.self.inside.base + j) ≡ class_back c.args.self.now (c.args.t + j) c.args.back
text_back c j =
    let x = c.self.inside in
    let l = c.args.self.now in
    let t = c.args.t in
    let back = c.args.back in
    let text = take x.written c.deref.result.now in
    let base : x.base ≡ l.base = ap (λ (k : TapLine). k.base) c.self.view_is in
    let is : l.symbols ≡ text ++ replicate x.quiet Idle = sym (ap (λ (k : TapLine). k.symbols) c.self.view_is) ∙ ap (λ ys. take x.written ys ++ replicate x.quiet Idle) (sym c.deref.ensures.value) in
    let low = c.if-t-back.false in
    let high : l.base ≤ t - back = let z = c.if-t-back-2.false in omega (arith, z, base) in
    ap (λ b. class_at text c.goes_on.result (t - back - b + j)) base
    ∙ ap (λ on. class_at text on (t - back - l.base + j)) c.goes_on.ensures
    ∙ back_class l text x.quiet t back j is low high

pub returns-clause-steady : goal.returns-clause-steady
returns-clause-steady c = λ j h. sym (text_back (goal.at.returns-clause-steady c).After-steady_from j) ∙ c.steady_from.ensures.steady j h

pub returns-clause-longest : goal.returns-clause-longest
returns-clause-longest c = λ less same.
    c.steady_from.ensures.longest less (text_back (goal.at.returns-clause-longest c).After-steady_from c.steady_from.result ∙ same)
