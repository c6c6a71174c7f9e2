use Rattle.std.proofs.Common.{◌≡◌, ◌+◌, ap, arith}
use Rattle.net_parts.specs.Windows.{nearest}
use Rattle.net_parts.proofs.NearestTaps.{few_nearest}
use Rattle.net_parts.proofs.timing.nearest_port.Goals as goal

pub loop-k-init : goal.loop-k-init
loop-k-init c =
    let few = few_nearest c.args.tap c.args.here c.args.first c.args.ports.now in
    let z : c.args.first + 0 ≡ c.args.first = omega arith in
    let same = ap (λ j. nearest c.args.tap c.args.here j c.args.ports.now) z in
    record { so_far = omega (arith, few, same); most = omega arith }
