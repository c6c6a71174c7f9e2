use Rattle.std.proofs.Common.{◌≡◌, ◌≤◌, ap, ◌∙◌, rules}
use Rattle.manchester_line.specs.Line.{is_signal}
use Rattle.mac_transmit.specs.declared.phase.Phase.TheVariants.{Sending}
use Rattle.mac_transmit.specs.Sender.{frame_at}
use Rattle.segment_engine.proofs.SteadyCalm.{emission_is}
use Rattle.segment_engine.proofs.ahead.send_on.Goals as goal

pub returns-clause-signal : goal.returns-clause-signal
returns-clause-signal c = λ j l.
    let s = c.args.sender.now in
    let octets : c.octets.result.now ≡ frame_at s.queue s.place = search rules in
    let phase : s.phase ≡ Sending c.in-Sending.start c.in-Sending.hit = search rules in
    let begun : c.in-Sending.start ≤ c.args.t = search rules in
    ap is_signal (emission_is s c.octets.result.now c.in-Sending.start c.in-Sending.hit c.args.t j octets phase c.requires.time begun)
    ∙ c.send_ahead.ensures.signal j l
