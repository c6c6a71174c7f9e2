use Rattle.std.proofs.Common.{◌≡◌, ◌+◌, drop, map}
use Rattle.run_checkpoint.specs.Places.{device_from}
use Rattle.run_checkpoint.proofs.places.repeater_named.Given as goal

abbrev pub invariant-repeaters : goal.invariant-repeaters
invariant-repeaters l = device_from l.before l.name (map (λ r. r.name) l.repeaters) ≡ device_from (l.before + l.k) l.name (map (λ r. r.name) (drop l.k l.repeaters))
