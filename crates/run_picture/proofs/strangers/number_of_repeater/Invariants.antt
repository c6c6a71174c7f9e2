use Rattle.std.proofs.Common.{◌≡◌, drop}
use Rattle.std.specs.List.{position_from}
use Rattle.std.specs.Str.{bytes_eq}
use Rattle.run_picture.specs.Strangers.{number_of_repeater}
use Rattle.run_picture.proofs.strangers.number_of_repeater.Given as goal

abbrev pub invariant-repeaters : goal.invariant-repeaters
invariant-repeaters l = position_from (λ r. bytes_eq r.name l.name) l.r (drop l.r l.repeaters) ≡ number_of_repeater l.repeaters l.name
