use Rattle.std.proofs.Common.{rules, ◌≡◌, Err, subst, sym}
use Rattle.run_forms.specs.WrittenBy.{written_by}
use Rattle.run_endings.specs.WrittenNames.{AreNamesFree}
use Rattle.run_forms.proofs.RunEnds.{plan-before, plan-taken, plan-unloaded, read-twice}
use Rattle.run_forms.proofs.plans.read_plan.Goals as goal

pub returns-clause-planned : goal.returns-clause-planned
returns-clause-planned g c =
    let judged = read-twice c.args.world.now c.read_network.new.world c.judge_names.new.world c.in_ok-network.ensures.read c.in_ok-judge_names.ensures.read in
    record { network = c.in_ok-network.network; judged = c.in_ok-network.ensures.judged; is = plan-before c.args.world.now.held c.judge_names.new.world.held c.in_ok-network.network c.in_ok-plan.plan judged.held c.in_ok-plan.ensures.planned }

pub returns-clause-free : goal.returns-clause-free
returns-clause-free g c = subst (λ n. AreNamesFree c.args.layout.now (written_by c.args.written c.args.prefix.now) n) (sym c.in_ok-plan.ensures.planned.layout) c.in_ok-judge_names.ensures.free

pub returns-clause-read : goal.returns-clause-read
returns-clause-read g c =
    read-twice c.args.world.now c.judge_names.new.world c.plan_network.new.world (read-twice c.args.world.now c.read_network.new.world c.judge_names.new.world c.in_ok-network.ensures.read c.in_ok-judge_names.ensures.read) c.in_ok-plan.ensures.read

pub returns-in_err-judge_names-clause-unplanned : goal.returns-in_err-judge_names-clause-unplanned
returns-in_err-judge_names-clause-unplanned g c =
    let end = plan-taken c.args.layout.now (written_by c.args.written c.args.prefix.now) c.in_ok-network.network c.args.world.now c.read_network.new.world c.judge_names.new.world c.in_err-judge_names.field-0.0 c.in_ok-network.ensures.read
    c.in_ok-network.ensures.judged c.judge_names.ensures.held c.in_err-judge_names.ensures.taken in
    let stopped : c.from_residual-in_err-judge_names.result ≡ Err c.in_err-judge_names.field-0.0 = search rules in
    rw stopped end

pub returns-in_err-plan-clause-unplanned : goal.returns-in_err-plan-clause-unplanned
returns-in_err-plan-clause-unplanned g c =
    let judged = read-twice c.args.world.now c.read_network.new.world c.judge_names.new.world c.in_ok-network.ensures.read c.in_ok-judge_names.ensures.read in
    let end = plan-unloaded c.args.layout.now (written_by c.args.written c.args.prefix.now) c.in_ok-network.network c.args.world.now c.judge_names.new.world c.plan_network.new.world c.in_err-plan.field-0.0 judged
    c.in_ok-network.ensures.judged c.in_ok-judge_names.ensures.free c.plan_network.ensures.held c.in_err-plan.ensures.unloaded in
    let stopped : c.from_residual-in_err-plan.result ≡ Err c.in_err-plan.field-0.0 = search rules in
    rw stopped end
