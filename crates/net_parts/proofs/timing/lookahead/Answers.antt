use Rattle.std.proofs.Common.{length, ap₂, arith}
use Rattle.std.proofs.lemmas.List.{at_drop_all}
use Rattle.layout.specs.Taps.{taps_of}
use Rattle.net_parts.specs.Windows.{least_of_repeaters, lookahead}
use Rattle.net_parts.proofs.LookaheadLeads.{few_edges, some_lookahead}
use Rattle.net_parts.proofs.timing.lookahead.Goals as goal

pub loop-repeater-init : goal.loop-repeater-init
loop-repeater-init c =
    let l = c.args.layout.now in
    let few = few_edges (taps_of l) (length l.stations) l.repeaters in
    let same = ap₂ (least_of_repeaters (taps_of l)) c.len-tap.ensures c.as_slice-repeaters.ensures in
    let first = c.len-tap.ensures in
    let stations = c.requires.stations_most in
    record { so_far = omega (arith, few, same); most = omega arith; few = omega (arith, stations, first); stations = omega (arith, first) }

pub returns-clause-value : goal.returns-clause-value
unfolding lookahead
returns-clause-value c =
    let over = at_drop_all (least_of_repeaters (taps_of c.args.layout.now) c.loop-repeater.tap) c.as_slice-repeaters.result.now c.loop-repeater.repeater-index c.loop-repeater-test.false in
    let so_far = c.loop-repeater.invariant.so_far in
    let most = c.loop-repeater.invariant.most in
    omega (arith, over, so_far, most)

pub returns-clause-some : goal.returns-clause-some
returns-clause-some c =
    let value = returns-clause-value c in
    let some = some_lookahead c.args.layout.now (λ k d h. (c.requires.repeaters k d h).delay_least) in
    omega (arith, value, some)
