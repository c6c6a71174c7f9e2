use Rattle.std.proofs.Common.{rules, ◌≡◌, Err}
use Rattle.netsim.proofs.PictureEnds.{lines_few, picture-drawn, picture-early, picture-unlogged}
use Rattle.run_forms.proofs.RunEnds.{read-twice}
use Rattle.netsim.proofs.picture.picture.Goals as goal

pub returns-in_err-network : goal.returns-in_err-network
returns-in_err-network g c =
    let end = picture-early c.args.layout.now c.args.log.now c.args.from c.args.to c.args.world.now c.read_network.new.world c.in_err-network.field-0.0 c.read_network.ensures.held c.in_err-network.ensures.early in
    search rules

pub returns-in_err-lines : goal.returns-in_err-lines
returns-in_err-lines g c =
    let end = picture-unlogged c.args.layout.now c.args.log.now c.args.from c.args.to c.in_ok-network.network c.args.world.now c.read_network.new.world c.read_lines.new.world c.in_err-lines.field-0.0 c.in_ok-network.ensures.read
    c.in_ok-network.ensures.judged c.read_lines.ensures.held c.in_err-lines.ensures.unmetered in
    let stopped : c.from_residual-in_err-lines.result ≡ Err c.in_err-lines.field-0.0 = search rules in
    rw stopped end

pub returns : goal.returns
returns g c =
    picture-drawn c.args.layout.now c.args.log.now c.args.from c.args.to c.in_ok-network.network c.in_ok-lines.lines c.args.world.now c.read_network.new.world c.read_lines.new.world c.draw.new.world _ c.in_ok-network.ensures.read
    (read-twice c.args.world.now c.read_network.new.world c.read_lines.new.world c.in_ok-network.ensures.read c.in_ok-lines.ensures.read) c.in_ok-network.ensures.judged c.in_ok-lines.ensures.lines c.draw.ensures.held c.draw.ensures.drawn

pub draw-requires-clause-grammar : goal.draw-requires-clause-grammar
draw-requires-clause-grammar g c = c.in_ok-lines.ensures.lines.log_of.log.grammar

pub draw-requires-clause-few : goal.draw-requires-clause-few
draw-requires-clause-few g c = lines_few c.args.log.now _ c.in_ok-lines.lines c.in_ok-lines.ensures.lines
