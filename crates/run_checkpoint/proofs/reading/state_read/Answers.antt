use Rattle.std.proofs.Common.{ap, arith, length, map, ◌∙◌}
use Rattle.load_plan.proofs.PlansAreSound.{sound_of_plan}
use Rattle.run_checkpoint.specs.PortNames.{named_port}
use Rattle.run_checkpoint.specs.TextLines.{text_lines}
use Rattle.run_checkpoint.proofs.ReadParts.{few_lines, few_stations, parts, row_line_is, rows_fault, rows_told}
use Rattle.run_checkpoint.proofs.reading.state_read.Goals as goal

pub half_bits-requires : goal.half_bits-requires
half_bits-requires c = (sound_of_plan c.args.plan.now).bits_most

pub judged_senders-requires-clause-room : goal.judged_senders-requires-clause-room
judged_senders-requires-clause-room c = omega (arith, few_stations c.args.plan.now _ c.as_slice-stations.ensures)

pub all_ports-requires : goal.all_ports-requires
all_ports-requires c = sound_of_plan c.args.plan.now

pub overflow_cast-first_port : goal.overflow_cast-first_port
overflow_cast-first_port c = omega (arith, few_stations c.args.plan.now _ c.as_slice-stations.ensures)

pub overflow_add-first_port : goal.overflow_add-first_port
overflow_add-first_port c = omega (arith, few_stations c.args.plan.now _ c.as_slice-stations.ensures)

pub judged_guards-requires : goal.judged_guards-requires
judged_guards-requires c = record { room = omega (arith, few_lines c.args.plan.now _ _ _ c.as_slice-stations.ensures c.as_slice-named.ensures.value c.in_ok-ports.ensures) }

pub overflow_cast-first_row : goal.overflow_cast-first_row
overflow_cast-first_row c = omega (arith, few_lines c.args.plan.now _ _ _ c.as_slice-stations.ensures c.as_slice-named.ensures.value c.in_ok-ports.ensures)

pub overflow_add-first_row : goal.overflow_add-first_row
overflow_add-first_row c = omega (arith, few_lines c.args.plan.now _ _ _ c.as_slice-stations.ensures c.as_slice-named.ensures.value c.in_ok-ports.ensures)

pub judged_entries-requires : goal.judged_entries-requires
judged_entries-requires c = omega (arith, few_lines c.args.plan.now _ _ _ c.as_slice-stations.ensures c.as_slice-named.ensures.value c.in_ok-ports.ensures, c.in_ok-guards.ensures.shorter, c.in_ok-senders.ensures.shorter, c.in-Some.ensures.shorter, c.requires)

pub returns-in-Err : goal.returns-in-Err
returns-in-Err c =
    let plan = c.args.plan.now in
    let ports = ap (map named_port) c.as_slice-named.ensures.value ∙ c.in_ok-ports.ensures in
    rows_fault plan c.args.octets.now (text_lines c.in-Some.rest.now) c.in_ok-t.t c.in_ok-senders.senders c.as_slice-2.result.now (text_lines c.in_ok-senders.rest.now) c.in_ok-guards.guards c.in_ok-guards.rests (text_lines c.in_ok-guards.rest.now) _
    c.in-Err.fault
    (parts plan c.args.octets.now c.in-Some.line.now (text_lines c.in-Some.rest.now) c.half_bits.result c.in_ok-t.t c.as_slice-stations.result.now c.as_slice.result.now c.in_ok-senders.senders (text_lines c.in_ok-senders.rest.now)
    (map named_port c.as_slice-named.result.now) c.in_ok-guards.guards c.in_ok-guards.rests (text_lines c.in_ok-guards.rest.now) c.in-Some.ensures.some c.half_bits.ensures c.in_ok-t.ensures c.as_slice-stations.ensures
    c.as_slice.ensures c.in_ok-senders.ensures.judged ports c.in_ok-guards.ensures.judged)
    c.as_slice-2.ensures (row_line_is plan c.as_slice-stations.result.now c.as_slice-named.result.now c.as_slice-stations.ensures ports) c.in-Err.ensures.judged

pub returns-in-Ok : goal.returns-in-Ok
returns-in-Ok c =
    let plan = c.args.plan.now in
    let ports = ap (map named_port) c.as_slice-named.ensures.value ∙ c.in_ok-ports.ensures in
    rows_told plan c.args.octets.now (text_lines c.in-Some.rest.now) c.in_ok-t.t c.in_ok-senders.senders c.as_slice-2.result.now (text_lines c.in_ok-senders.rest.now) c.in_ok-guards.guards c.in_ok-guards.rests (text_lines c.in_ok-guards.rest.now) _
    c.in-Ok.rows c.in-Ok.captures
    (parts plan c.args.octets.now c.in-Some.line.now (text_lines c.in-Some.rest.now) c.half_bits.result c.in_ok-t.t c.as_slice-stations.result.now c.as_slice.result.now c.in_ok-senders.senders (text_lines c.in_ok-senders.rest.now)
    (map named_port c.as_slice-named.result.now) c.in_ok-guards.guards c.in_ok-guards.rests (text_lines c.in_ok-guards.rest.now) c.in-Some.ensures.some c.half_bits.ensures c.in_ok-t.ensures c.as_slice-stations.ensures
    c.as_slice.ensures c.in_ok-senders.ensures.judged ports c.in_ok-guards.ensures.judged)
    c.as_slice-2.ensures (row_line_is plan c.as_slice-stations.result.now c.as_slice-named.result.now c.as_slice-stations.ensures ports)
    (c.in_ok-senders.ensures.many_told ∙ ap length c.as_slice-stations.ensures) c.in-Ok.ensures.judged
