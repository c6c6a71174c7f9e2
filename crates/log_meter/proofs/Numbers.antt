-- The constants of the code are the numbers of the definitions.
use Rattle.std.specs.Prelude.{◌≡◌, refl}
use Rattle.log_meter.specs.declared.log.TheConstants.{MOST_LOG_OCTETS}
use Rattle.log_meter.specs.Logs.{most_log_octets}

most_log_octets_is : MOST_LOG_OCTETS ≡ most_log_octets
most_log_octets_is = refl
