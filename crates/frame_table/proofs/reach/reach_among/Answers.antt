use Rattle.std.proofs.Common.{◌≡◌, ◌∙◌, sym, ap, subst, refl, length, Option, IfSome, arith}
use Rattle.frame_table.specs.Led.{IsRoute}
use Rattle.frame_table.specs.Reached.{reach_among}
use Rattle.frame_table.specs.declared.routes.Led.{Led}
use Rattle.frame_table.proofs.ReachSteps.{reach_more, reach_skips}
use Rattle.frame_table.proofs.reach.reach_among.Goals as goal

pub loop-b-init : goal.loop-b-init
loop-b-init c = λ layout lines paths known. refl

pub loop-b-preserved-then-b-a : goal.loop-b-preserved-then-b-a
loop-b-preserved-then-b-a c =
    λ layout lines paths known.
    c.loop-b.invariant layout lines paths known ∙ sym (reach_skips c.args.half_bits layout paths lines c.args.octets c.args.t c.args.a c.loop-b.b c.if-b-a.true)

pub loop-b-preserved : goal.loop-b-preserved
loop-b-preserved c =
    λ layout lines paths known.
    let found : IsRoute layout c.args.a c.loop-b.b c.in-Some.route =
    subst (λ (o : Option Led). IfSome o (IsRoute layout c.args.a c.loop-b.b)) (sym c.index-routes-b.is ∙ c.in-Some.is) (known.led c.loop-b.b c.index-routes-b.result c.loop-b-test.true) in
    c.in_ok-reach.ensures
    ∙ reach_more c.args.half_bits layout lines paths c.args.told.now c.args.a c.args.routes.now c.args.octets c.args.t c.loop-b.b c.in-Some.route c.loop-b.reach known c.loop-b-test.true c.if-b-a.false found (c.loop-b.invariant layout lines paths known)

pub returns : goal.returns
returns c =
    λ layout lines paths known.
    let all : c.loop-b.b ≡ length c.args.routes.now = omega (arith, c.loop-b-test.false) in
    c.loop-b.invariant layout lines paths known ∙ ap (reach_among c.args.half_bits layout paths lines c.args.octets c.args.t c.args.a) all
