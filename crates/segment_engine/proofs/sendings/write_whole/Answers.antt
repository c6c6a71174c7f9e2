use Rattle.std.proofs.Common.{◌+◌, arith}
use Rattle.segment_engine.proofs.SendingTexts.{text_length, text_signal, front_written}
use Rattle.segment_engine.proofs.sendings.write_whole.Goals as goal

pub returns-clause-count : goal.returns-clause-count
returns-clause-count c =
    let told = c.min-told.ensures in
    let left = c.saturating_sub.ensures in
    let whole = text_length c.args.octets.now in
    omega (arith, told, left, whole)

pub returns-clause-text : goal.returns-clause-text
returns-clause-text c =
    let told = c.min-told.ensures in
    front_written c.args.octets.now c.args.piece.now c.write_text.new.piece c.args.p c.min-told.result (omega (arith, told)) c.write_text.ensures

pub returns-clause-signal : goal.returns-clause-signal
returns-clause-signal c = λ j l.
    let told = c.min-told.ensures in
    let left = c.saturating_sub.ensures in
    text_signal c.args.octets.now (c.args.p + j) (omega (arith, l, told, left))
