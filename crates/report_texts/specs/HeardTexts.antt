-- The texts of what taps hear, told tap by tap (profile). Half bits count from 0; a probe goes from one half bit on to
-- before another.
use Rattle.std.specs.Prelude.{◌≡◌, ◌≤◌, ℕ, ◌+◌, List, [], ◌∷◌, ◌++◌, codes, decimal, flat_map, if◌then◌else◌, length}
use Rattle.mac_parameters.specs.Parameters.{most_half_bits}
use Rattle.line_probe.specs.Bursts.{bursts_of}
use Rattle.line_probe.specs.Heard.{heard_from, rows_of_taps}
use Rattle.line_probe.specs.RunTexts.{text_of_runs}
use Rattle.line_probe.specs.Runs.{AreRunsOf}
use Rattle.line_probe.specs.declared.burst.Burst.{Burst}
use Rattle.line_probe.specs.declared.run.Run.{Run}
use Rattle.line_probe.specs.declared.tap.Tap.{Tap}
use Rattle.manchester_line.specs.declared.Sym.{Sym}
use Rattle.load_plan.specs.declared.plan.Plan.{Plan}

-- the line before what the tap of a word hears
unfoldable pub line_of_tap : List ℕ → List ℕ
line_of_tap word = codes "tap " ++ word ++ codes "\n"

-- what is said of how a burst reads: its whole octets and the bits beyond them, or that it is spoiled
abbrev pub words_of_burst : Burst → List ℕ
words_of_burst burst =
    if burst.spoiled then codes " spoiled\n"
    else codes " octets " ++ decimal burst.octets ++ codes " spare " ++ decimal burst.spare ++ codes "\n"

-- the line of a burst: its first half bit, from 0, how many it has, and how it reads
unfoldable pub line_of_burst : Burst → List ℕ
line_of_burst burst =
    codes "burst " ++ decimal burst.start ++ codes " " ++ decimal burst.halves ++ words_of_burst burst

-- the lines of these bursts
abbrev pub text_of_bursts : List Burst → List ℕ
text_of_bursts bursts = flat_map line_of_burst bursts

-- the text of what the tap of this word hears in so many half bits from this one on: its line, its runs and its bursts
pub record IsTextOfTap (plan : Plan) (from n : ℕ) (word : List ℕ) (tap : Tap) (text : List ℕ) : Type 0 where
  pub runs : List Run
  pub right : AreRunsOf from (heard_from plan tap from n) runs
  pub is : text ≡ line_of_tap word ++ text_of_runs runs ++ text_of_bursts (bursts_of from (heard_from plan tap from n))

-- the text of what the taps of these words hear in so many half bits from this one on, tap by tap
abbrev pub IsTextOfTaps : Plan → ℕ → ℕ → List (List ℕ) → List Tap → List ℕ → Type 0
IsTextOfTaps plan from n [] [] text = text ≡ []
IsTextOfTaps plan from n (word ∷ words) (tap ∷ taps) text =
    (first : List ℕ) × (rest : List ℕ) × IsTextOfTap plan from n word tap first
    × IsTextOfTaps plan from n words taps rest × (text ≡ first ++ rest)
IsTextOfTaps plan from n _ _ text = ⊥

-- these symbols are what so many taps of a plan's network hear from this half bit on, half bit by half bit
pub record AreHeard (symbols : List Sym) (taps from : ℕ) : Type 0 where
  pub plan : Plan
  pub all : List Tap
  pub n : ℕ
  pub are : symbols ≡ rows_of_taps plan all from n
  pub many : length all ≡ taps
  pub within : from + n ≤ most_half_bits
