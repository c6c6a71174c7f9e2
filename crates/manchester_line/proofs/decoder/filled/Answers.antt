use Rattle.std.proofs.Common.{◌+◌, ◌*◌, ◌-◌, ◌/◌, ◌%◌, ◌^◌, ◌∙◌, ap₂}
use Rattle.manchester_line.proofs.PutBits.{filled_is}
use Rattle.manchester_line.proofs.decoder.filled.Goals as goal

pub returns : goal.returns
returns c = λ bits l is.
    ap₂ (λ x y. (x * 256 + y) / 2 ^ (8 - c.args.spare) % 256) c.from.ensures c.from-2.ensures
    ∙ filled_is bits c.args.spare c.args.rest c.args.octet c.requires (c.ranges.rest.fits) l is
