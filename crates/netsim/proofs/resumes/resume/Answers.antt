use Rattle.std.proofs.Common.{◌≡◌, rules, Err}
use Rattle.program_texts.specs.Texts.{name_of_state}
use Rattle.run_forms.proofs.RunEnds.{read-twice}
use Rattle.netsim.proofs.StopEnds.{resume-ran, resume-unstated}
use Rattle.netsim.proofs.resumes.resume.Goals as goal

pub returns-in_err-state : goal.returns-in_err-state
returns-in_err-state g c =
    let name : c.as_str.result.now ≡ name_of_state c.args.prefix.now = search rules in
    let end = resume-unstated c.args.layout.now c.args.prefix.now c.as_str.result.now c.in_ok-plan.plan c.args.world.now c.read_plan.new.world c.load_state.new.world c.in_err-state.field-0.0 c.in_ok-plan.ensures.read c.in_ok-plan.ensures.planned
    c.in_ok-plan.ensures.free name c.load_state.ensures.held c.in_err-state.ensures.unstated in
    let stopped : c.from_residual-in_err-state.result ≡ Err c.in_err-state.field-0.0 = search rules in
    rw stopped end

pub returns : goal.returns
returns g c =
    let name : c.as_str.result.now ≡ name_of_state c.args.prefix.now = search rules in
    resume-ran c.args.layout.now c.args.prefix.now c.as_str.result.now c.in_ok-plan.plan c.in_ok-state.state c.args.world.now c.read_plan.new.world c.load_state.new.world c.go_on.new.world _ c.in_ok-plan.ensures.read
    (read-twice c.args.world.now c.read_plan.new.world c.load_state.new.world c.in_ok-plan.ensures.read c.in_ok-state.ensures.read) c.in_ok-plan.ensures.planned c.in_ok-plan.ensures.free name c.in_ok-state.ensures.state c.go_on.ensures
