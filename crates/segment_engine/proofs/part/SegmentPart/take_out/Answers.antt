use Rattle.std.proofs.Common.{ap, ◌∙◌, arith, length}
use Rattle.std.proofs.lemmas.Result.{IfOk-weaker}
use Rattle.net_parts.specs.SegmentParts.{wiring}
use Rattle.net_parts.specs.Standing.{rows_of_devices}
use Rattle.segment_engine.proofs.HandedOut.{rows_handed, captures_handed}
use Rattle.segment_engine.proofs.part.SegmentPart.take_out.Goals as goal

pub hand_out-requires : goal.hand_out-requires
hand_out-requires c = ap length c.deref.ensures.value ∙ c.args.self.stands.goes.stations.senders

pub returns-clause-so_far : goal.returns-clause-so_far
returns-clause-so_far c = λ before.
    let x = c.args.self in
    let plan = x.segment.plan.value in
    let count = x.segment.window_count in
    IfOk-weaker c.hand_out.result _ _ (λ outputs is.
    is ∙ x.stands.goes.logged ∙ ap (λ ks. rows_of_devices plan ks x.state.t) x.segment.station_numbers ∙ ap (rows_of_devices plan (wiring plan.layout x.segment.number).stations) x.at_time)
    (c.hand_out.ensures.so_far (omega (arith, before, count)))

pub returns-clause-rows : goal.returns-clause-rows
returns-clause-rows c = λ last.
    let x = c.args.self in
    let count = x.segment.window_count in
    IfOk-weaker c.hand_out.result _ _ (λ outputs is.
    rows_handed x.segment x.window x.state last x.kept outputs.rows c.deref.result.now (x.last (omega (arith, last, count))) c.deref.ensures.value is)
    (c.hand_out.ensures.rows (omega (arith, last, count)))

pub returns-clause-captures : goal.returns-clause-captures
returns-clause-captures c = λ last.
    let x = c.args.self in
    IfOk-weaker c.hand_out.result _ _ (λ outputs is. captures_handed x.segment x.window x.state last x.kept outputs.captures is)
    c.hand_out.ensures.captures
