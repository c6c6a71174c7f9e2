-- The constants of the code are the numbers of the definitions.
use Rattle.std.specs.Prelude.{◌≡◌, refl}
use Rattle.repeater_core.specs.declared.limits.TheConstants.{MOST_CALM, JAM_PERIOD}
use Rattle.repeater_core.specs.Limits.{most_calm, jam_period}

most_calm_is : MOST_CALM ≡ most_calm
most_calm_is = refl

jam_period_is : JAM_PERIOD ≡ jam_period
jam_period_is = refl
