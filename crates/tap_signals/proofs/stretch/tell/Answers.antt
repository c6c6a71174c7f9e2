use Rattle.std.proofs.Common.{inl, inr, ◌∙◌}
use Rattle.std.proofs.lemmas.Result.{on_ok_weaker}
use Rattle.tap_signals.proofs.StretchesGrow.{inside_after, inside_before, outside, silent_one}
use Rattle.tap_signals.proofs.stretch.tell.Goals as goal

pub returns-then-t-window : goal.returns-then-t-window
returns-then-t-window c = λ f h e. outside f c.args.window.start c.args.window.end c.args.t c.args.stretches.now (inl c.if-t-window.true) h

pub returns-then-window-t : goal.returns-then-window-t
returns-then-window-t c = λ f h e. outside f c.args.window.start c.args.window.end c.args.t c.args.stretches.now (inr c.if-window-t.true) h

pub returns-in_default : goal.returns-in_default
returns-in_default c = λ f h e. silent_one f c.args.window.start c.args.window.end c.args.t c.args.stretches.now (e ∙ c.in_default.is) h

pub returns : goal.returns
returns c = λ f h e.
    let begun = c.if-t-window.false in
    let within = c.if-window-t.false in
    on_ok_weaker c.add.result (inside_after f c.args.window.start c.args.window.end c.args.t _ begun within)
    (c.add.ensures f c.args.window.start (inside_before f c.args.window.start c.args.window.end c.args.t c.args.stretches.now begun within h) (e ∙ c.in-Some.is) begun)
