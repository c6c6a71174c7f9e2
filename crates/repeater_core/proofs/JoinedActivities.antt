-- The active ports of groups of ports together: in whatever order they are joined.
use Rattle.std.proofs.Common.{◌≡◌, refl}
use Rattle.repeater_core.specs.declared.modes.Activity.{Activity}
use Rattle.repeater_core.specs.declared.modes.Activity.TheVariants.{Nobody, One, Several}
use Rattle.repeater_core.specs.Modes.{joined}

pub joined_assoc : (a b c : Activity) → joined (joined a b) c ≡ joined a (joined b c)
joined_assoc Nobody b c = refl
joined_assoc (One n s) Nobody c = refl
joined_assoc (One n s) (One m x) Nobody = refl
joined_assoc (One n s) (One m x) (One k y) = refl
joined_assoc (One n s) (One m x) Several = refl
joined_assoc (One n s) Several c = refl
joined_assoc Several b c = refl

pub joined_nobody : (a : Activity) → joined a Nobody ≡ a
joined_nobody Nobody = refl
joined_nobody (One n s) = refl
joined_nobody Several = refl
