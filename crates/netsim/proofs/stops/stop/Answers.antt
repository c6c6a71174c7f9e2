use Rattle.std.proofs.Common.{◌≡◌, None, rules}
use Rattle.program_texts.specs.Texts.{line_of_no_quiet}
use Rattle.netsim.proofs.StopEnds.{first-from, found-first, never-from, stop-ran, stop-unquiet}
use Rattle.netsim.proofs.stops.stop.Goals as goal

pub returns : goal.returns
returns g c =
    stop-ran c.args.layout.now c.args.prefix.now c.args.from c.in_ok-plan.plan c.in-Some.state.t c.args.world.now c.read_plan.new.world c.file_stop.new.world _ c.in_ok-plan.ensures.read c.in_ok-plan.ensures.planned c.in_ok-plan.ensures.free
    (first-from c.in_ok-plan.plan c.from.result c.args.from c.in-Some.state.t c.from.ensures (found-first c.in_ok-plan.plan c.from.result c.in_ok-found.found c.in-Some.state c.in-Some.is c.in_ok-found.ensures.stopped)) c.file_stop.ensures

pub returns-in_default : goal.returns-in_default
returns-in_default g c =
    let none : c.in_ok-found.found ≡ None = search rules in
    let line : c.as_bytes.result.now ≡ line_of_no_quiet = search rules in
    stop-unquiet c.args.layout.now c.args.prefix.now c.args.from c.in_ok-plan.plan c.args.world.now c.read_plan.new.world c.say.new.self c.in_ok-plan.ensures.read c.in_ok-plan.ensures.planned c.in_ok-plan.ensures.free
    (never-from c.in_ok-plan.plan c.from.result c.args.from c.from.ensures (c.in_ok-found.ensures.never none)) c.say.ensures.held c.as_bytes.result.now line c.say.ensures.said
