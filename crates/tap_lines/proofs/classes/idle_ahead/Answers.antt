use Rattle.std.proofs.Common.{◌≡◌, ◌<◌, ◌+◌, ℕ, inl, inr, length, get_or, sym, ap, ◌∙◌, arith}
use Rattle.std.proofs.lemmas.Bool.{cases_lt}
use Rattle.tap_lines.specs.TapLines.{class_back, class_of_line, class_by_lines}
use Rattle.tap_lines.proofs.HeardClasses.{all_idle, by_listed, listed_class, not_false, own_line_class}
use Rattle.tap_lines.proofs.classes.idle_ahead.Goals as goal

pub loop-i-preserved-then-q-p : goal.loop-i-preserved-then-q-p
loop-i-preserved-then-q-p c =
    let inv = c.loop-i.invariant in
    let ns = c.args.loud.now.taps in
    record {
      within = inv.within;
      so_far = λ k j h m. elim (cases_lt k c.loop-i.i) [
        | inl before ↦ inv.so_far k j before m
        | inr now ↦
            let e : c.loop-i.i ≡ k = omega (arith, h, now) in
            own_line_class c.args.lookahead (c.args.t + j) c.args.p (get_or ns k 0) c.args.lines.now
            (sym (c.tap-q.ensures ∙ ap (λ x. get_or ns x 0) e) ∙ c.if-q-p.true)
      ];
      longest = inv.longest;
    }

pub loop-i-preserved : goal.loop-i-preserved
loop-i-preserved c =
    let ls = c.args.lines.now in
    let ns = c.args.loud.now.taps in
    let i = c.loop-i.i in
    let p = c.args.p in
    let q = c.tap-q.result in
    let L = c.args.lookahead in
    let t = c.args.t in
    let inv = c.loop-i.invariant in
    let old = c.loop-i.idle in
    let new = c.steady_back-idle.result in
    let test = c.loop-i-test.true in
    let many = c.len-i-end.ensures in
    let which = c.tap-q.ensures in
    let in_it : i < length ns = omega (arith, test, many) in
    let fewer = c.steady_back-idle.ensures.within in
    let within = inv.within in
    let back = c.back.result in
    let heard = λ (u : ℕ). listed_class L c.args.far t c.args.most u p q i c.place-at.result back ls ns c.index-lines-p.result c.index-lines-q.result c.requires.listed in_it which c.if-q-p.false c.index-lines-p.is c.index-lines-q.is c.place-at.ensures c.back.ensures in
    record {
      within = omega (arith, fewer, within);
      so_far = λ k j h m. elim (cases_lt k i) [
        | inl before ↦ inv.so_far k j before (omega (arith, m, fewer))
        | inr now ↦
            let e : i ≡ k = omega (arith, h, now) in
            ap (λ x. class_of_line L (t + j) ls p x) (sym (which ∙ ap (λ x. get_or ns x 0) e))
            ∙ heard (t + j) ∙ c.steady_back-idle.ensures.steady j m
      ];
      longest = λ less. elim (cases_lt new old) [
        | inl shorter ↦ by_listed L c.args.far t c.args.most (t + new) p q i ls ns c.requires.listed in_it which
            (heard (t + new) ∙ not_false (class_back c.index-lines-q.result (t + new) back) (c.steady_back-idle.ensures.longest shorter))
        | inr same ↦
            let e : old ≡ new = omega (arith, same, fewer) in
            ap (λ x. class_by_lines L (t + x) ls p) (sym e) ∙ inv.longest (omega (arith, less, e))
      ];
    }

pub returns-clause-idle : goal.returns-clause-idle
returns-clause-idle c = λ j h.
    let ls = c.args.lines.now in
    let ns = c.args.loud.now.taps in
    let test = c.loop-i-test.false in
    let many = c.len-i-end.ensures in
    all_idle c.args.lookahead c.args.t c.args.far (c.args.t + j) c.args.p ls ns c.requires.listed.reach c.requires.listed.tap c.requires.listed.loud (omega arith)
    (λ k m. c.loop-i.invariant.so_far k j (omega (arith, m, test, many)) h)
