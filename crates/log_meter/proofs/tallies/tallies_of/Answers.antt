use Rattle.std.proofs.Common.{arith}
use Rattle.log_meter.proofs.TallySteps.{goes_on}
use Rattle.log_meter.proofs.tallies.tallies_of.Goals as goal

pub loop-i-preserved : goal.loop-i-preserved
loop-i-preserved c =
    let on = goes_on c.args.lines.now c.loop-i.i c.index-lines-i.result c.as_str-name.result
    (c.loop-i.row.name.now, c.loop-i.row.count) (c.in_ok-row.row.name.now, c.in_ok-row.row.count) c.loop-i.tallies c.insert.new.self c.tally_at-tally.result c.in_ok-with.field-0
    (omega arith) (omega arith) c.requires c.index-lines-i.is c.as_str-name.ensures c.in_ok-row.ensures c.loop-i.invariant.told c.loop-i.invariant.row
    c.tally_at-tally.ensures c.in_ok-with.ensures c.in_ok-insert.ensures.updates
    in record { told = on.told; row = on.rows; within = omega arith }
