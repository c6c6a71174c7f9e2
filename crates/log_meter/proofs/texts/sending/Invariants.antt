use Rattle.std.proofs.Common.{◌≡◌, sum_by, take}
use Rattle.log_meter.proofs.texts.sending.Given as goal

abbrev pub invariant-loop-station : goal.invariant-loop-station
invariant-loop-station l = l.all ≡ sum_by (λ f. f.tally.half_bits) (take l.station-index l.stations)
