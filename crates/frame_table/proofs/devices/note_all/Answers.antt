use Rattle.std.proofs.Common.{ap, ◌∙◌, length, take_all}
use Rattle.frame_table.specs.Devices.{events_of, events_with}
use Rattle.frame_table.proofs.DeviceSteps.{each_more}
use Rattle.frame_table.proofs.devices.note_all.Goals as goal

pub loop-line-preserved : goal.loop-line-preserved
loop-line-preserved c =
    let line = c.line-item.result in
    record {
      count = c.note.auto.events ∙ c.loop-line.invariant.count;
      each =
          each_more c.args.layout.now c.args.lines.now c.loop-line.line-index (length c.args.events.now) line c.loop-line.events c.note.new.events c.loop-line-test.true c.line-item.is c.loop-line.invariant.count c.loop-line.invariant.each
          (c.in_ok-note.ensures ∙ ap (λ d. events_with c.loop-line.events d (record { t = line.t; body = line.body })) c.device_named.ensures);
    }

pub returns : goal.returns
returns c = λ k low. c.loop-line.invariant.each k low ∙ ap (events_of c.args.layout.now k) (take_all c.loop-line.line-index c.args.lines.now c.loop-line-test.false)
