use Rattle.std.proofs.Common.{◌≡◌, ◌≢◌, ℕ, ◌+◌, ◌<◌, ◌≤◌, Bool, not, inl, inr, sym, subst, ap, ◌∙◌, arith}
use Rattle.std.proofs.lemmas.Bool.{cases_lt}
use Rattle.tap_lines.specs.TapLines.{class_by_lines}
use Rattle.segment_engine.specs.SteadyPieces.{IsCalmAs}
use Rattle.segment_engine.proofs.apart.watch_from.Goals as goal

-- a class that lasts no longer than it was found to
no_longer : (f : ℕ → Bool) (u n m most : ℕ) (b : Bool) → n ≤ most → ((j : ℕ) → j < n → f (u + j) ≡ b) → (m < most → f (u + m) ≢ b) → n ≤ m
no_longer f u n m most b few same ends = elim (cases_lt m n) [
  | inl less ↦ absurd (ends (omega (arith, less, few)) (same m less))
  | inr all ↦ all
]

pub returns-then-ahead-gt0-clause-now : goal.returns-then-ahead-gt0-clause-now
returns-then-ahead-gt0-clause-now c = λ some.
    let u = c.args.u in
    let first : u + 0 ≡ u = omega arith in
    ap (λ a. class_by_lines c.args.lookahead a c.args.lines.now c.args.p) (sym first) ∙ c.class_ahead-ahead.ensures.steady 0 c.if-ahead-gt0.true ∙ sym c.calm_watch.ensures.carrier

pub returns-then-ahead-gt0-clause-longest : goal.returns-then-ahead-gt0-clause-longest
returns-then-ahead-gt0-clause-longest c = λ n few same calm.
    let f = λ (a : ℕ). class_by_lines c.args.lookahead a c.args.lines.now c.args.p in
    let now = c.calm_watch.ensures.carrier in
    let ahead = c.class_ahead-ahead in
    c.calm_watch.ensures.longest n (no_longer f c.args.u n ahead.result c.args.most c.args.likely few (λ j l. same j l ∙ now) ahead.ensures.longest)
    (subst (λ b. IsCalmAs n b c.args.sender.now) now calm)

pub returns-clause-longest : goal.returns-clause-longest
returns-clause-longest c = λ n few same calm.
    let f = λ (a : ℕ). class_by_lines c.args.lookahead a c.args.lines.now c.args.p in
    let now = c.calm_watch-2.ensures.carrier in
    let ahead = c.class_ahead-other in
    c.calm_watch-2.ensures.longest n (no_longer f c.args.u n ahead.result c.args.most (not c.args.likely) few (λ j l. same j l ∙ now) ahead.ensures.longest)
    (subst (λ b. IsCalmAs n b c.args.sender.now) now calm)
