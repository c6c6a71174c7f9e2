use Rattle.std.proofs.Common.{ℕ, ◌+◌, ◌++◌, List, length, ap, ◌∙◌, sym, slice_get}
use Rattle.std.proofs.lemmas.Option.{same_Some}
use Rattle.std.proofs.lemmas.Result.{on_ok_weaker}
use Rattle.frame_layout.specs.declared.queue.Ready.{Ready}
use Rattle.layout.specs.declared.lines.StationLine.{StationLine}
use Rattle.load_plan.proofs.PlansAreSound.{sound_of_plan}
use Rattle.frame_table.proofs.TableSteps.{line_made}
use Rattle.frame_table.proofs.table.add_frame.Goals as goal

pub half_bits-half_bits-requires : goal.half_bits-half_bits-requires
half_bits-half_bits-requires c = (sound_of_plan c.args.plan.now).bits_most

pub returns : goal.returns
returns c =
    let plan = c.args.plan.now in
    on_ok_weaker c.add_line.result
    (λ is lines paths s q r known s_is q_is r_is past_is.
    let station = same_Some c.get-2.result.now s (sym c.get-2.ensures ∙ s_is) in
    let queue = same_Some c.get.result.now q (sym c.get.ensures ∙ q_is) in
    let ready = same_Some c.get-ready.result.now r (sym c.get-ready.ensures ∙ ap (λ (x : List Ready). slice_get x c.args.n) queue ∙ r_is) in
    is ∙ ap (λ (x : List ℕ). c.args.text.now ++ x)
    (line_made plan paths lines c.args.a (c.args.n + 1) _ _ _ s r c.get-ready.result.now c.as_str-name.result.now c.args.past.now c.in_ok-reach.reach
    (c.as_str-name.ensures ∙ ap (λ (x : StationLine). x.name) station) (ap (λ m. m + 1) c.from.ensures) ready past_is
    c.half_bits-half_bits.ensures (ap length c.octets.ensures.octets) (c.in_ok-reach.ensures plan.layout lines paths known)))
    c.add_line.ensures
