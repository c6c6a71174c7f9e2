use Rattle.std.proofs.Common.{◌≡◌, ◌++◌, drop}
use Rattle.path_slack.proofs.lengthen.copied_sends.Given as goal

abbrev pub invariant-loop-send : goal.invariant-loop-send
invariant-loop-send l = l.sends ≡ l.copy ++ drop l.send-index l.sends
