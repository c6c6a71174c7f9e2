use Rattle.std.proofs.Common.{◌≡◌, ◌≢◌, ◌<◌, ◌+◌, ℕ, inl, inr, true, get_or, sym, ap, ◌∙◌, arith}
use Rattle.std.proofs.lemmas.Bool.{cases_lt}
use Rattle.tap_lines.specs.TapLines.{class_back, class_of_line, class_by_lines}
use Rattle.tap_lines.proofs.HeardClasses.{all_idle, by_listed, listed_class, not_true, own_line_class}
use Rattle.tap_lines.proofs.classes.one_signal_ahead.Goals as goal
use Rattle.tap_lines.proofs.classes.one_signal_ahead.Goals.{After-max-longest}

-- what the tap hears of the one whose turn it is
heard : (c : After-max-longest) (u : ℕ) → class_of_line c.args.lookahead u c.args.lines.now c.args.p c.tap-q.result ≡ class_back c.index-lines-q.result u c.back.result
heard c u =
    let test = c.loop-i-test.true in
    let many = c.len-i-end.ensures in
    listed_class c.args.lookahead c.args.far c.args.t c.args.most u c.args.p c.tap-q.result c.loop-i.i c.place-at.result c.back.result c.args.lines.now c.args.loud.now.taps c.index-lines-p.result c.index-lines-q.result
    c.requires.listed (omega (arith, test, many)) c.tap-q.ensures c.if-q-p.false c.index-lines-p.is c.index-lines-q.is c.place-at.ensures c.back.ensures

signals : (c : After-max-longest) (j : ℕ) → j < c.max-longest.result → class_by_lines c.args.lookahead (c.args.t + j) c.args.lines.now c.args.p ≡ true
signals c j h =
    let test = c.loop-i-test.true in
    let many = c.len-i-end.ensures in
    let greater = c.max-longest.ensures in
    elim (cases_lt j c.steady_back.result) [
      | inl before ↦ by_listed c.args.lookahead c.args.far c.args.t c.args.most (c.args.t + j) c.args.p c.tap-q.result c.loop-i.i c.args.lines.now c.args.loud.now.taps c.requires.listed (omega (arith, test, many)) c.tap-q.ensures
          (heard c (c.args.t + j) ∙ c.steady_back.ensures.steady j before)
      | inr behind ↦ c.loop-i.invariant.signals j (omega (arith, h, greater, behind))
    ]

pub returns-then-longest-most-clause-signals : goal.returns-then-longest-most-clause-signals
returns-then-longest-most-clause-signals c = signals (goal.at.returns-then-longest-most-clause-signals c).After-max-longest

pub loop-i-preserved-then-q-p : goal.loop-i-preserved-then-q-p
loop-i-preserved-then-q-p c =
    let inv = c.loop-i.invariant in
    let ns = c.args.loud.now.taps in
    record {
      within = inv.within;
      signals = inv.signals;
      none = λ zero some k h. elim (cases_lt k c.loop-i.i) [
        | inl before ↦ inv.none zero some k before
        | inr now ↦
            let e : c.loop-i.i ≡ k = omega (arith, h, now) in
            own_line_class c.args.lookahead c.args.t c.args.p (get_or ns k 0) c.args.lines.now
            (sym (c.tap-q.ensures ∙ ap (λ x. get_or ns x 0) e) ∙ c.if-q-p.true)
      ];
    }

pub loop-i-preserved : goal.loop-i-preserved
loop-i-preserved c =
    let at = (goal.at.loop-i-preserved c).After-max-longest in
    let t = c.args.t in
    let i = c.loop-i.i in
    let inv = c.loop-i.invariant in
    let few = c.steady_back.ensures.within in
    let within = inv.within in
    let greater = c.max-longest.ensures in
    record {
      within = omega (arith, few, within, greater);
      signals = signals at;
      none = λ zero some k h. elim (cases_lt k i) [
        | inl before ↦ inv.none (omega (arith, zero, greater)) some k before
        | inr now ↦
            let e : i ≡ k = omega (arith, h, now) in
            let at_once : c.steady_back.result ≡ 0 = omega (arith, zero, greater) in
            let place : t + c.steady_back.result ≡ t = omega (arith, at_once) in
            let other : class_back c.index-lines-q.result t c.back.result ≢ true = λ same.
            c.steady_back.ensures.longest (omega (arith, at_once, some)) (ap (λ u. class_back c.index-lines-q.result u c.back.result) place ∙ same) in
            ap (λ x. class_of_line c.args.lookahead t c.args.lines.now c.args.p x) (sym (c.tap-q.ensures ∙ ap (λ x. get_or c.args.loud.now.taps x 0) e))
            ∙ heard at t ∙ not_true (class_back c.index-lines-q.result t c.back.result) other
      ];
    }

pub returns-clause-none : goal.returns-clause-none
returns-clause-none c = λ zero some.
    let ls = c.args.lines.now in
    let ns = c.args.loud.now.taps in
    let test = c.loop-i-test.false in
    let many = c.len-i-end.ensures in
    all_idle c.args.lookahead c.args.t c.args.far c.args.t c.args.p ls ns c.requires.listed.reach c.requires.listed.tap c.requires.listed.loud (omega arith)
    (λ k m. c.loop-i.invariant.none zero some k (omega (arith, m, test, many)))
