use Rattle.std.proofs.Common.{◌≡◌, ◌+◌, ◌-◌, ◌*◌, ◌≤◌, ◌++◌, length, map, take, drop, sym, ap, ◌∙◌, arith, length-take-le, length-drop}
use Rattle.std.proofs.lemmas.List.{length-map, drop-drop, take-append-drop}
use Rattle.manchester_line.specs.Line.{is_signal}
use Rattle.std.specs.List.{flat_map}
use Rattle.repeater_core.specs.Steady.{texted}
use Rattle.repeater_core.specs.Classes.{line_with}
use Rattle.repeater_core.proofs.RingLeaps.{ring}
use Rattle.repeater_core.proofs.RowsPut.{rows_room, stretch_put, with_both}
use Rattle.repeater_core.proofs.line.put_rows.Goals as goal

pub slice_bounds-write_rows-end : goal.slice_bounds-write_rows-end
slice_bounds-write_rows-end c =
    let i = c.loop-written.invariant in
    let len = i.len in
    let ring = c.requires.ring in
    let below = i.turn_below in
    let room = rows_room c.loop-written.turn c.min-rows.result c.args.delay (length c.args.flags.now) (omega arith) in
    omega arith

pub loop-written-preserved : goal.loop-written-preserved
loop-written-preserved c =
    let i = c.loop-written.invariant in
    let w = c.loop-written.written in
    let rows = c.min-rows.result in
    let p = length c.args.flags.now in
    let flags = map is_signal c.args.flags.now in
    let texts = c.args.texts.now in
    let turn = c.loop-written.turn in
    let below = i.turn_below in
    let within = i.within in
    let left = drop w texts in
    let fits : turn + rows ≤ c.args.delay = omega arith in
    let some : rows ≤ length texts - w = omega arith in
    let size : length (take rows left) ≡ rows = (let d = length-drop w texts in length-take-le rows left (omega arith)) in
    let cut : w + rows - w ≡ rows = omega arith in
    let written = c.write_rows.ensures ∙ ap (λ m. flat_map (texted flags) (take m left)) cut in
    let put = stretch_put p c.args.delay turn c.later_turn-turn.result rows (turn * p + rows * p - turn * p) c.loop-written.slots c.write_rows.new.rows flags (take rows left) (i.len ∙ c.requires.ring) below size fits
    (length-map c.args.flags.now is_signal) c.later_turn-turn.ensures.later (omega arith) written in
    let more : left ≡ take rows left ++ drop (w + rows) texts = sym (take-append-drop rows left) ∙ ap (λ ts. take rows left ++ ts) (drop-drop rows w texts) in
    record {
      len = put.0 ∙ i.len;
      turn_below = c.later_turn-turn.ensures.within;
      within = omega arith;
      left = ap (line_with flags (drop (w + rows) texts)) put.1
          ∙ sym (ap (λ ts. line_with flags ts (ring p c.args.delay turn c.loop-written.slots)) more ∙ with_both flags (take rows left) (drop (w + rows) texts) (ring p c.args.delay turn c.loop-written.slots))
          ∙ i.left;
    }
