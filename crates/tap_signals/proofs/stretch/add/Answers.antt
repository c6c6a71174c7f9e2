use Rattle.std.proofs.Common.{refl}
use Rattle.std.proofs.lemmas.Result.{on_ok_weaker}
use Rattle.tap_signals.proofs.StretchesGrow.{first_added, longer_added, next_added}
use Rattle.tap_signals.proofs.stretch.add.Goals as goal

pub returns-in_default : goal.returns-in_default
returns-in_default c = λ f from h e l.
    on_ok_weaker c.push.result (λ is. first_added f from c.args.t c.args.kind c.args.stretches.now c.pop.new.self c.push.new.self (c.in_default.ensures.none.0 refl) c.in_default.ensures.same is l e h) c.push.ensures.ok

pub returns-then-goes_on : goal.returns-then-goes_on
returns-then-goes_on c = λ f from h e l.
    let both = c.goes_on.ensures.0 c.if-goes_on.true in
    on_ok_weaker c.push-then-goes_on.result
    (λ is. longer_added f from c.args.t c.args.kind c.in-Some.last c.args.stretches.now c.pop.new.self c.push-then-goes_on.new.self c.in-Some.ensures.some is both.0 both.1 e h)
    c.push-then-goes_on.ensures.ok

pub returns : goal.returns
returns c = λ f from h e l.
    on_ok_weaker c.push-3.result
    (λ is. next_added f from c.args.t c.args.kind c.in-Some.last c.args.stretches.now c.pop.new.self c.push-2.new.self c.push-3.new.self c.in-Some.ensures.some c.in_ok-push.ensures.ok is
    (λ touch same. let yes = c.goes_on.ensures.1 (touch, same) in let no = c.if-goes_on.false in (cc)) l e h)
    c.push-3.ensures.ok
