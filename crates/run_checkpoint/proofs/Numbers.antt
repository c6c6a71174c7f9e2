-- The constants of the code are the numbers of the definitions.
use Rattle.std.specs.Prelude.{◌≡◌, refl}
use Rattle.run_checkpoint.specs.declared.reading.TheConstants.{MOST_STATE_OCTETS}
use Rattle.run_checkpoint.specs.declared.ranges.TheConstants.{GREATEST_DRAW}
use Rattle.run_checkpoint.specs.declared.fields.TheConstants.{BEYOND_RANGES}
use Rattle.run_checkpoint.specs.Judging.{most_state_octets}
use Rattle.run_checkpoint.specs.Ranges.{greatest_draw}
use Rattle.run_checkpoint.specs.Fields.{beyond_ranges}

most_state_octets_is : MOST_STATE_OCTETS ≡ most_state_octets
most_state_octets_is = refl

greatest_draw_is : GREATEST_DRAW ≡ greatest_draw
greatest_draw_is = refl

beyond_ranges_is : BEYOND_RANGES ≡ beyond_ranges
beyond_ranges_is = refl
