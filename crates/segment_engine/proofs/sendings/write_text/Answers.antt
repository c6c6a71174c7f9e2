use Rattle.std.proofs.Common.{◌≤◌, length, arith}
use Rattle.mac_transmit.specs.Sender.{line_at}
use Rattle.segment_engine.proofs.SendingTexts.{header_piece, one_part, two_parts}
use Rattle.segment_engine.proofs.sendings.write_text.Goals as goal

pub returns-then-header-piece : goal.returns-then-header-piece
returns-then-header-piece c =
    let xs = c.args.piece.now in
    let header = c.min-header.result in
    let few = c.min-header.ensures in
    let left = c.saturating_sub.ensures in
    let near : header ≤ length xs = omega (arith, few) in
    two_parts (line_at c.args.octets.now) xs c.write_header.new.piece c.write_body.new.piece c.args.p header near
    (header_piece c.args.octets.now xs c.write_header.new.piece c.args.p header near (omega (arith, few, left)) c.write_header.ensures) c.write_body.ensures

pub returns-else-header-piece : goal.returns-else-header-piece
returns-else-header-piece c =
    let xs = c.args.piece.now in
    let header = c.min-header.result in
    let few = c.min-header.ensures in
    let left = c.saturating_sub.ensures in
    let near : header ≤ length xs = omega (arith, few) in
    one_part (line_at c.args.octets.now) xs c.write_header.new.piece c.args.p header near c.if-header-piece.false
    (header_piece c.args.octets.now xs c.write_header.new.piece c.args.p header near (omega (arith, few, left)) c.write_header.ensures)
