use Rattle.std.proofs.Common.{◌≡◌, ◌*◌, ◌-◌, ◌/◌, ◌%◌, ◌^◌, ◌≤◌, ◌∙◌, ap, arith, div-mul-le_self}
use Rattle.manchester_line.proofs.PutBits.{left_over_is}
use Rattle.manchester_line.proofs.decoder.left_over.Goals as goal

pub returns : goal.returns
returns c = λ bits l is.
    let p = 2 ^ (8 - c.args.spare) in
    let kept = c.args.octet / p * p in
    let below : kept ≤ c.args.octet = div-mul-le_self c.args.octet p in
    let same : kept % 4294967296 ≡ kept = omega (arith, below, c.ranges.octet.fits) in
    ap (λ x. x / p * p % 4294967296) c.from.ensures
    ∙ same
    ∙ left_over_is bits c.args.spare c.args.octet c.requires (c.ranges.octet.fits) l is
