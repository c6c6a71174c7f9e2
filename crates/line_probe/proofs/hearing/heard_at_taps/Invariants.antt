use Rattle.std.proofs.Common.{◌≡◌, ◌+◌, ◌-◌, ◌++◌, drop, map}
use Rattle.network.specs.Net.{net}
use Rattle.net_step.specs.KeptNet.{Stands}
use Rattle.line_probe.specs.Heard.{tap_heard, rows_of_taps}
use Rattle.line_probe.proofs.hearing.heard_at_taps.Given as goal

abbrev pub invariant-probed : goal.invariant-probed
invariant-probed l =
    record {
      time : l.whole.t ≡ l.t;
      stands : Stands (net l.plan l.t) l.whole;
      heard : l.heard ++ rows_of_taps l.plan l.taps l.t (l.to - l.t) ≡ rows_of_taps l.plan l.taps l.from (l.to - l.from);
    }

abbrev pub invariant-taps : goal.invariant-taps
invariant-taps l =
    l.heard ++ (map (tap_heard l.plan l.t) (drop l.tap-index l.taps) ++ rows_of_taps l.plan l.taps (l.t + 1) (l.to - (l.t + 1)))
    ≡ rows_of_taps l.plan l.taps l.from (l.to - l.from)
