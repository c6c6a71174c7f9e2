use Rattle.std.proofs.Common.{◌≡◌, ◌∙◌, length, arith}
use Rattle.frame_layout.proofs.Frames.{padded_is}
use Rattle.frame_layout.proofs.frame.pad.Goals as goal

pub returns-in_ok-extend_from_slice : goal.returns-in_ok-extend_from_slice
returns-in_ok-extend_from_slice c =
    let n : c.len-then-len-lt-LEAST.result ≡ length c.args.octets.now.items = omega (arith, c.len-then-len-lt-LEAST.ensures) in
    c.in_ok-extend_from_slice.ensures.items ∙ padded_is c.args.octets.now.items c.len-then-len-lt-LEAST.result n
