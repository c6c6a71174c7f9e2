-- Laws of dumps (profile). Half bits count from 0, and so do taps.
use Rattle.std.specs.Prelude.{◌≡◌, ◌≢◌, ℕ, ◌-◌, ◌*◌, ◌<◌, ◌≤◌, ◌^◌, ◌&&◌, not, true, false, List, [], ◌∷◌, ◌++◌, All, length}
use Rattle.std.specs.List.{AllByRecursion, list_all, list_any}
use Rattle.std.specs.List.Sorted.{IsStrictlyIncreasing}
use Rattle.layout.specs.Sound.{IsSound}
use Rattle.layout.specs.declared.lines.Layout.{Layout}
use Rattle.line_probe.specs.Taps.{IsWordOf}
use Rattle.line_probe.specs.declared.tap.Tap.{Tap}
use Rattle.load_plan.specs.declared.plan.Plan.{Plan}
use Rattle.mac_parameters.specs.Parameters.{nanoseconds_a_half_bit}
use Rattle.manchester_line.specs.declared.Sym.{Sym}
use Rattle.wave_dump.specs.Changes.{changing_half_bits, is_changed, symbol_in}
use Rattle.wave_dump.specs.Dump.{dump_of_waves}
use Rattle.wave_dump.specs.Heard.{all_heard, waves_of_plan}
use Rattle.wave_dump.specs.Reading.{ends_word, is_dollar, read_dump}

-- the half bits whose times a dump tells: the first, those in which something changes, and the one after the last
abbrev pub told_half_bits : ℕ → ℕ → List (List Sym) → List ℕ
told_half_bits from to heard = from ∷ (changing_half_bits from to heard ++ to ∷ [])

-- the times that a dump tells rise strictly
abbrev pub TimesRise : Type 0
TimesRise = (from to : ℕ) (heard : List (List Sym)) → from < to → IsStrictlyIncreasing (told_half_bits from to heard)

-- in each half bit that a dump tells after the first and before the last at least one tap changes
abbrev pub OnlyChangesAreTold : Type 0
OnlyChangesAreTold =
    (from to : ℕ) (heard : List (List Sym))
    → All (λ t. list_any (is_changed from t) heard ≡ true) (changing_half_bits from to heard)

-- a tap of which no change is told after half bit s and up to half bit t hears in t what it hears in s
abbrev pub ValuesLast : Type 0
ValuesLast =
    (from s t : ℕ) (symbols : List Sym) → from ≤ s → s ≤ t
    → ((u : ℕ) → s < u → u ≤ t → is_changed from u symbols ≡ false)
    → symbol_in from symbols t ≡ symbol_in from symbols s

-- a name that stands as one word in a dump: it has octets, and none of them is a blank, a line feed or "$"
pub record IsDumpName (name : List ℕ) : Type 0 where
  pub some : name ≢ []
  pub octets : list_all (λ c. not (ends_word c) && not (is_dollar c)) name ≡ true

-- a reader of the dump of what taps hear gets back their names, for each of them what it hears, and the half bit after
-- that
abbrev pub DumpsAreRead : Type 0
DumpsAreRead =
    (names : List (List ℕ)) (from to : ℕ) (heard : List (List Sym)) → from < to → nanoseconds_a_half_bit * to < 2 ^ 64
    → AllByRecursion IsDumpName names → length names ≡ length heard
    → AllByRecursion (λ symbols. length symbols ≡ to - from) heard
    → read_dump (dump_of_waves names from to heard) ≡ record { names = names; heard = heard; to = to }

-- so does a reader of the dump of what taps hear in the network of a plan
abbrev pub DumpsOfPlansAreRead : Type 0
DumpsOfPlansAreRead =
    (plan : Plan) (names : List (List ℕ)) (taps : List Tap) (from to : ℕ) → from < to
    → nanoseconds_a_half_bit * to < 2 ^ 64 → AllByRecursion IsDumpName names → length names ≡ length taps
    → read_dump (waves_of_plan plan names taps from to)
    ≡ record { names = names; heard = all_heard plan taps from to; to = to }

-- the words by which taps of a layout are named are such names
abbrev pub TapWordsAreNames : Type 0
TapWordsAreNames = (l : Layout) (word : List ℕ) (tap : Tap) → IsSound l → IsWordOf l word tap → IsDumpName word
