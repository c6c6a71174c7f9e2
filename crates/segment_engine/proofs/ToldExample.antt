-- An example of a line that is told anew from half bit 2 on: where a signal stood on it, Idle does.
use Rattle.std.proofs.Common.{◌≡◌, ℕ, zero, suc, ◌<◌, List, [], ◌∷◌, refl, ap, arith}
use Rattle.std.proofs.lemmas.Bool.{false≢true}
use Rattle.manchester_line.specs.declared.Sym.{Sym}
use Rattle.manchester_line.specs.declared.Sym.TheVariants.{Idle, Hi, Lo}
use Rattle.manchester_line.specs.Line.{is_signal}
use Rattle.tap_lines.specs.TapLines.{TapLine, class_on, symbol_on}
use Rattle.segment_engine.specs.StationsApart.{IsToldAnew}

abbrev line_of : List Sym → TapLine
line_of symbols = record { at = 10; delay = 20; backlog = 30; base = 0; symbols = symbols; room = 50 }

abbrev told : TapLine
told = line_of (Hi ∷ Lo ∷ Hi ∷ [])

abbrev anew : TapLine
anew = line_of (Hi ∷ Lo ∷ Idle ∷ [])

same_before : (a : ℕ) → a < 2 → symbol_on anew a ≡ symbol_on told a
same_before zero h = refl
same_before (suc zero) h = refl
same_before (suc (suc a)) h = absurd (omega (arith, h))

same_classes : (a : ℕ) → a < 2 → class_on anew a ≡ class_on told a
same_classes zero h = refl
same_classes (suc zero) h = refl
same_classes (suc (suc a)) h = absurd (omega (arith, h))

pub from_two : IsToldAnew 2 told anew
from_two = record { place = refl; wait = refl; keeps = refl; begins = refl; size = refl; before = same_before; classes = same_classes }

-- but not from half bit 3 on
pub not_from_three : ¬ IsToldAnew 3 told anew
not_from_three is = false≢true (ap is_signal (is.before 2 (omega arith)))
