use Rattle.std.proofs.Common.{◌∙◌, arith}
use Rattle.frame_table.specs.declared.told.ToldByLog.{ToldByLog}
use Rattle.frame_table.proofs.ToldSteps.{told_lines, told_ordered}
use Rattle.frame_table.proofs.told.told_by.Goals as goal

pub all_receptions-requires : goal.all_receptions-requires
all_receptions-requires c = omega (arith, c.requires.events, c.len.ensures)

pub returns-clause-told : goal.returns-clause-told
returns-clause-told c =
    let told : ToldByLog = record { receptions = c.in_ok-all_receptions.field-0; ports = c.in_ok-all_ports.field-0 } in
    λ lines same. told_lines c.args.layout.now lines c.args.events.now told (λ k low. c.in_ok-all_receptions.ensures.each k (omega (arith, c.len.ensures))) c.in_ok-all_ports.ensures same

pub returns-clause-order : goal.returns-clause-order
returns-clause-order c =
    let told : ToldByLog = record { receptions = c.in_ok-all_receptions.field-0; ports = c.in_ok-all_ports.field-0 } in
    told_ordered c.args.layout.now c.args.events.now told (c.in_ok-all_receptions.ensures.count ∙ c.len.ensures) (λ k low. c.in_ok-all_receptions.ensures.each k (omega (arith, c.len.ensures))) c.in_ok-all_ports.ensures c.requires.order
