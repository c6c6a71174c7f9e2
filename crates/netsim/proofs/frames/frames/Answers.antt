use Rattle.std.proofs.Common.{rules, ◌≡◌, Err}
use Rattle.run_endings.specs.Endings.{IsPlanned}
use Rattle.netsim.proofs.FrameEnds.{frames-early, frames-tabled, frames-unqueued, frames-untabled}
use Rattle.run_forms.proofs.RunEnds.{plan-before, read-twice}
use Rattle.netsim.proofs.frames.frames.Goals as goal

pub returns-in_err-network : goal.returns-in_err-network
returns-in_err-network g c =
    let end = frames-early c.args.layout.now c.args.log.now c.args.world.now c.read_network.new.world c.in_err-network.field-0.0 c.read_network.ensures.held c.in_err-network.ensures.early in
    search rules

pub returns-in_err-plan : goal.returns-in_err-plan
returns-in_err-plan g c =
    let end = frames-unqueued c.args.layout.now c.args.log.now c.in_ok-network.network c.args.world.now c.read_network.new.world c.plan_network.new.world c.in_err-plan.field-0.0 c.in_ok-network.ensures.read c.in_ok-network.ensures.judged
    c.plan_network.ensures.held c.in_err-plan.ensures.unloaded in
    search rules

pub returns-in_err-lines : goal.returns-in_err-lines
returns-in_err-lines g c =
    let planned : IsPlanned c.args.layout.now c.args.world.now.held c.in_ok-plan.plan = record { network = c.in_ok-network.network; judged = c.in_ok-network.ensures.judged; is = plan-before c.args.world.now.held c.read_network.new.world.held c.in_ok-network.network c.in_ok-plan.plan c.read_network.ensures.held c.in_ok-plan.ensures.planned } in
    let end = frames-untabled c.args.layout.now c.args.log.now c.in_ok-plan.plan c.args.world.now c.plan_network.new.world c.read_lines.new.world c.in_err-lines.field-0.0
    (read-twice c.args.world.now c.read_network.new.world c.plan_network.new.world c.in_ok-network.ensures.read c.in_ok-plan.ensures.read) planned c.read_lines.ensures.held c.in_err-lines.ensures.unmetered in
    let stopped : c.from_residual-in_err-lines.result ≡ Err c.in_err-lines.field-0.0 = search rules in
    rw stopped end

pub returns : goal.returns
returns g c =
    let planned : IsPlanned c.args.layout.now c.args.world.now.held c.in_ok-plan.plan = record { network = c.in_ok-network.network; judged = c.in_ok-network.ensures.judged; is = plan-before c.args.world.now.held c.read_network.new.world.held c.in_ok-network.network c.in_ok-plan.plan c.read_network.ensures.held c.in_ok-plan.ensures.planned } in
    let first = read-twice c.args.world.now c.read_network.new.world c.plan_network.new.world c.in_ok-network.ensures.read c.in_ok-plan.ensures.read in
    frames-tabled c.args.layout.now c.args.log.now c.in_ok-plan.plan c.in_ok-lines.lines c.args.world.now c.plan_network.new.world c.read_lines.new.world c.tabulate.new.world _ first
    (read-twice c.args.world.now c.plan_network.new.world c.read_lines.new.world first c.in_ok-lines.ensures.read) planned c.in_ok-lines.ensures.lines c.tabulate.ensures.held c.tabulate.ensures.told

pub tabulate-requires : goal.tabulate-requires
tabulate-requires g c = c.in_ok-lines.ensures.lines.log_of.log
