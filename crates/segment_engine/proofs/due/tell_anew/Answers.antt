use Rattle.std.proofs.Common.{ℕ, ◌+◌, ◌<◌, ◌≤◌, ◌∷◌, [], replicate, sym, subst, ap, ◌∙◌, arith}
use Rattle.manchester_line.specs.declared.Sym.TheVariants.{Idle}
use Rattle.tap_lines.specs.TapLines.{TapLine, line_extended}
use Rattle.segment_engine.specs.SteadyPieces.{sent_ahead}
use Rattle.segment_engine.specs.StationsApart.{IsAnew}
use Rattle.segment_engine.proofs.AnewLines.{ended_room, said_room, rests_anew, sends_anew}
use Rattle.segment_engine.proofs.due.tell_anew.Goals as goal

pub push-requires : goal.push-requires
push-requires c =
    let begun = c.requires.line.begun in
    let takes = c.requires.line.takes in
    subst (λ (y : TapLine). 0 < y.room) (sym c.set_end.ensures) (ended_room c.args.u 1 c.args.line.now begun (omega (arith, takes)))

pub rest-requires : goal.rest-requires
rest-requires c =
    let begun = c.requires.line.begun in
    let takes = c.requires.line.takes in
    subst (λ (y : TapLine). 1 ≤ y.room) (sym (c.push.ensures ∙ ap (λ y. line_extended y (c.args.said ∷ [])) c.set_end.ensures))
    (said_room c.args.u 1 c.args.said c.args.line.now begun (omega (arith, takes)))

pub go_on_ahead-requires-clause-room : goal.go_on_ahead-requires-clause-room
go_on_ahead-requires-clause-room c =
    let begun = c.requires.line.begun in
    let takes = c.requires.line.takes in
    let few = c.min-most.ensures in
    subst (λ (y : TapLine). c.min-most.result ≤ y.room) (sym (c.push.ensures ∙ ap (λ y. line_extended y (c.args.said ∷ [])) c.set_end.ensures))
    (said_room c.args.u c.min-most.result c.args.said c.args.line.now begun (omega (arith, takes, few)))

pub returns-then-not-is_sending : goal.returns-then-not-is_sending
returns-then-not-is_sending c =
    let u = c.args.u in
    let e = c.args.said in
    let l = c.args.line.now in
    let s = c.args.sender.now in
    let takes = c.requires.line.takes in
    let last = c.requires.in_time in
    let told : ℕ = 18446744073709551615 in
    subst (λ y. IsAnew u told e l y s)
    (sym (c.rest.ensures ∙ ap (λ y. line_extended y (replicate 1 Idle)) (c.push.ensures ∙ ap (λ y. line_extended y (e ∷ [])) c.set_end.ensures)))
    (rests_anew u told e l s c.requires.line.begun (omega (arith, takes)) c.requires.reaches (omega (arith, last)) c.requires.class
    (sym c.is_sending.ensures ∙ c.if-not-is_sending.true))

pub returns : goal.returns
returns c =
    let u = c.args.u in
    let e = c.args.said in
    let l = c.args.line.now in
    let s = c.args.sender.now in
    let n = c.go_on_ahead.result in
    let takes = c.requires.line.takes in
    let within = c.go_on_ahead.ensures.within in
    let few = c.min-most.ensures in
    subst (λ m. IsAnew u (u + 1 + m) e l c.go_on_ahead.new.line s) (sym c.from.ensures)
    (subst (λ y. IsAnew u (u + 1 + n) e l y s)
    (sym (c.go_on_ahead.ensures.line ∙ ap (λ y. line_extended y (sent_ahead s n)) (c.push.ensures ∙ ap (λ y. line_extended y (e ∷ [])) c.set_end.ensures)))
    (sends_anew u n e l s c.requires.line.begun (omega (arith, takes, within, few)) c.requires.reaches c.requires.class c.go_on_ahead.ensures.signal c.go_on_ahead.ensures.lasts))
