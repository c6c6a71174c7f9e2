use Rattle.std.proofs.Common.{◌≡◌, ◌+◌, ap, arith}
use Rattle.layout.specs.Taps.{taps_of}
use Rattle.net_parts.specs.Windows.{least_of_ports}
use Rattle.net_parts.proofs.NearestTaps.{few_ports}
use Rattle.net_parts.proofs.timing.least_of_ports.Goals as goal

pub loop-k-init : goal.loop-k-init
loop-k-init c =
    let few = few_ports (taps_of c.args.layout.now) c.args.delay c.args.first c.args.ports.now in
    let z : c.args.first + 0 ≡ c.args.first = omega arith in
    let same = ap (λ j. least_of_ports (taps_of c.args.layout.now) c.args.delay j c.args.ports.now) z in
    record { so_far = omega (arith, few, same); most = omega arith }
