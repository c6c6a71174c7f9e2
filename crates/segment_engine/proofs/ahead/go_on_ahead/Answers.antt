use Rattle.std.proofs.Common.{◌≡◌, false, replicate, sym, ap, ◌∙◌, arith}
use Rattle.manchester_line.specs.declared.Sym.TheVariants.{Idle}
use Rattle.mac_transmit.proofs.CalmEmissions.{calm_sendings_last}
use Rattle.segment_engine.specs.SteadyPieces.{sent_ahead}
use Rattle.tap_lines.specs.TapLines.{line_extended}
use Rattle.segment_engine.proofs.SteadyCalm.{idle_ahead}
use Rattle.segment_engine.proofs.ahead.go_on_ahead.Goals.{then-not-is_sending-via-then-not-is_sending, then-not-is_sending-via-else-not-is_sending+then-count-eq0}
use Rattle.segment_engine.proofs.ahead.go_on_ahead.Goals as goal

pub returns-then-not-is_sending-clause-line : goal.returns-then-not-is_sending-clause-line
returns-then-not-is_sending-clause-line c =
    let s = c.args.sender.now in
    let n = c.args.count in
    let l = c.args.line.now in
    elim c.then-not-is_sending.branch [
      | then-not-is_sending-via-then-not-is_sending w ↦
          c.rest.ensures ∙ ap (line_extended l) (sym (idle_ahead s n (sym c.is_sending.ensures ∙ w.if-not-is_sending.true)))
      | then-not-is_sending-via-else-not-is_sending+then-count-eq0 w ↦
          let none : n ≡ 0 = w.if-count-eq0.true in
          c.rest.ensures ∙ ap (line_extended l) (ap (λ m. replicate m Idle) none ∙ ap (sent_ahead s) (sym none))
    ]

pub returns-clause-lasts : goal.returns-clause-lasts
returns-clause-lasts c = λ sending.
    let number = c.calm.ensures.number in
    let few = c.send_on.ensures.within in
    let least = c.min-most.ensures in
    calm_sendings_last c.args.sender.now false c.send_on.result sending (omega (arith, number, few, least))
