use Rattle.std.proofs.Common.{◌≡◌, ◌≤◌, ◌-◌, length}
use Rattle.network.specs.Net.{net}
use Rattle.net_step.specs.KeptNet.{Stands}
use Rattle.tap_signals.specs.Told.{AreListsTold}
use Rattle.tap_signals.proofs.emitting.told_from.Given as goal

abbrev pub invariant-window : goal.invariant-window
invariant-window l = record {
  within : l.t ≤ l.window.end;
  time : l.whole.t ≡ l.t;
  stands : Stands (net l.plan l.t) l.whole;
  rests : length l.rests.items ≡ length l.taps;
  told : AreListsTold l.plan l.taps l.window.start l.window.end l.t l.lists.items;
}

abbrev pub decreases-window : goal.decreases-window
decreases-window l = l.window.end - l.t
