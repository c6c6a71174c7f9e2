-- An example of what is heard by listed taps: two taps are at one place, and a window has 2 half bits. What the first
-- decides, with a delay of 4, the second hears 2 half bits later.
use Rattle.std.proofs.Common.{◌≡◌, zero, suc, [], refl, arith}
use Rattle.manchester_line.specs.declared.Sym.TheVariants.{Hi}
use Rattle.tap_lines.specs.TapLines.{IsReachOf, heard_by_lines}
use Rattle.tap_lines.specs.TapLists.{HearsListed}
use Rattle.tap_lines.proofs.LoudExample.{two_lines, first_alone, first_is_loud, loud_at_one}

two_back : IsReachOf 2 2 two_lines
two_back zero zero h l = omega arith
two_back zero (suc zero) h l = omega arith
two_back (suc zero) zero h l = omega arith
two_back (suc zero) (suc zero) h l = omega arith
two_back (suc (suc p)) r h l = absurd (omega (arith, h))
two_back p (suc (suc r)) h l = absurd (omega (arith, l))

-- from half bit 3 on the second tap may hear what stands on the first one's line from half bit 1 on
pub by_the_first : HearsListed 1 2 2 3 5 two_lines first_alone
by_the_first = record { tap = omega arith; reach = two_back; loud = first_is_loud.idle; in_time = omega arith }

pub hears_high : heard_by_lines 2 3 two_lines 1 ≡ Hi
hears_high = refl

-- so the first tap may not be left out
pub not_by_none : ¬ HearsListed 1 2 2 3 5 two_lines []
not_by_none hears = loud_at_one (hears.loud.others 0 (omega arith) (λ i h. absurd (omega (arith, h))))
