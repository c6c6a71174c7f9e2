use Rattle.std.proofs.Common.{◌≡◌, ◌-◌, ◌*◌, ◌<◌, ◌≤◌, ◌∙◌, length, drop, length-drop, length-take, sym, ap, arith}
use Rattle.std.proofs.Math.ListN.{drop_of_length-le}
use Rattle.std.proofs.lemmas.Grind.{common_steps}
use Rattle.std.proofs.lemmas.List.{take_all}
use Rattle.manchester_line.specs.Decoding.{all_pushed}
use Rattle.mac_parameters.specs.Parameters.{half_bits_a_bit}
use Rattle.mac_receive.specs.KeptReceiver.{fresh}
use Rattle.mac_receive.proofs.WholePieces.{fed_whole}
use Rattle.mac_receive.proofs.receiver.hear_all.Goals as goal

pub returns-then-lost-piece-clause-heard : goal.returns-then-lost-piece-clause-heard
returns-then-lost-piece-clause-heard c =
    let p = c.args.piece.now in
    let some : 0 < length p = omega (arith, c.if-lost-piece.true) in
    let lost : c.saturating_sub-lost.result ≡ half_bits_a_bit * c.args.lose - c.args.halves = c.saturating_sub-lost.ensures in
    let long : length (drop c.saturating_sub-lost.result p) ≡ length p - c.saturating_sub-lost.result = length-drop c.saturating_sub-lost.result p in
    c.push_all.ensures.moved
    ∙ ap (all_pushed c.begin.new.decoder) (take_all (length p - c.saturating_sub-lost.result) (drop c.saturating_sub-lost.result p) (omega (arith, long)))
    ∙ ap (λ d. all_pushed d (drop c.saturating_sub-lost.result p)) c.begin.ensures.begun
    ∙ ap (λ k. all_pushed (fresh c.args.halves c.args.decoder.now) (drop k p)) lost
    ∙ sym (fed_whole c.args.lose c.args.halves c.args.decoder.now p some)

pub returns-then-lost-piece-clause-few : goal.returns-then-lost-piece-clause-few
returns-then-lost-piece-clause-few c =
    let p = c.args.piece.now in
    omega (arith, c.push_all.ensures.halves, length-drop c.saturating_sub-lost.result p, length-take (length p - c.saturating_sub-lost.result) (drop c.saturating_sub-lost.result p), c.begin.ensures.few)

pub returns-else-lost-piece-clause-heard : goal.returns-else-lost-piece-clause-heard
returns-else-lost-piece-clause-heard c =
    let p = c.args.piece.now in
    let some : 0 < length p = grind (arith, common_steps) in
    let lost : c.saturating_sub-lost.result ≡ half_bits_a_bit * c.args.lose - c.args.halves = c.saturating_sub-lost.ensures in
    let whole : length p ≤ half_bits_a_bit * c.args.lose - c.args.halves = omega (arith, lost, c.if-lost-piece.false) in
    c.begin.ensures.begun
    ∙ sym (fed_whole c.args.lose c.args.halves c.args.decoder.now p some ∙ ap (all_pushed (fresh c.args.halves c.args.decoder.now)) (drop_of_length-le p {i = half_bits_a_bit * c.args.lose - c.args.halves} whole))
