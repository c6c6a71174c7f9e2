use Rattle.std.proofs.Common.{◌≡◌, ◌+◌, ◌<◌, ◌≤◌, [], length, get_or, ap, ◌∙◌, sym, subst, arith}
use Rattle.std.proofs.lemmas.List.{get_or_read}
use Rattle.std.proofs.lemmas.Option.{same_Some, slice_get-get_or}
use Rattle.mac_parameters.specs.Parameters.{most_ports}
use Rattle.layout.specs.declared.lines.RepeaterLine.{RepeaterLine}
use Rattle.frame_table.specs.Ports.{changes_of}
use Rattle.frame_table.proofs.ToldSteps.{all_changes, ports_more, ports_none}
use Rattle.frame_table.proofs.told.all_ports.Goals as goal

pub loop-r-init : goal.loop-r-init
loop-r-init c = ports_none c.args.layout.now c.args.events.now c.new-ports.result.items c.new-ports.ensures.items

pub overflow_add-stations : goal.overflow_add-stations
overflow_add-stations c = omega (arith, c.requires.sound.stations_most, c.requires.sound.repeaters_most, c.len-stations.ensures, c.len-r-end.ensures)

pub ports_of-requires : goal.ports_of-requires
ports_of-requires c =
    let rows = c.args.layout.now.repeaters in
    let r = c.loop-r.r in
    let row : RepeaterLine = c.get.result.now in
    let low : r < length rows = omega (arith, c.loop-r-test.true, c.len-r-end.ensures) in
    let same : get_or rows r row ≡ row = same_Some (get_or rows r row) row (sym (slice_get-get_or rows r row low) ∙ c.get.ensures) in
    let few : length row.ports ≤ most_ports = subst (λ (x : RepeaterLine). length x.ports ≤ most_ports) same (c.requires.sound.repeaters r row low).ports_most in
    omega (arith, few, c.len-count.ensures)

pub loop-r-preserved : goal.loop-r-preserved
loop-r-preserved c =
    let l = c.args.layout.now in
    let events = c.args.events.now in
    let r = c.loop-r.r in
    let k = c.len-stations.result + r in
    let row : RepeaterLine = c.get.result.now in
    let low : k < length events = omega (arith, c.requires.events, c.loop-r-test.true, c.len-stations.ensures, c.len-r-end.ensures) in
    let same : c.as_slice.result.now ≡ get_or events (length l.stations + r) [] = c.as_slice.ensures ∙ get_or_read events k c.index-events-stations.result low c.index-events-stations.is [] ∙ ap (λ n. get_or events (n + r) []) c.len-stations.ensures in
    ports_more l events r c.loop-r.ports.items c.push.new.self.items row c.in_ok-ports_of.field-0 c.loop-r.invariant c.in_ok-push.ensures.items c.get.ensures
    (c.in_ok-ports_of.ensures.count ∙ c.len-count.ensures) (λ p lt. c.in_ok-ports_of.ensures.each p (omega (arith, c.len-count.ensures)) ∙ ap (changes_of (p + 1)) same)

pub returns : goal.returns
returns c = all_changes c.args.layout.now c.args.events.now c.loop-r.r c.loop-r.ports (omega (arith, c.loop-r-test.false, c.len-r-end.ensures)) c.loop-r.invariant
