use Rattle.std.proofs.Common.{◌≡◌, ◌++◌, drop, flat_map}
use Rattle.run_checkpoint.specs.States.{lines_of_senders}
use Rattle.run_checkpoint.proofs.writing.add_senders.Given as goal

abbrev pub invariant-stations : goal.invariant-stations
invariant-stations l =
    l.text ++ flat_map (λ line. line) (lines_of_senders (drop l.k l.stations) (drop l.k l.senders))
    ≡ l.fn.text ++ flat_map (λ line. line) (lines_of_senders l.stations l.senders)
