-- Lists of those taps of a segment whose lines let others hear anything. Taps and half bits count from 0.
use Rattle.std.specs.Prelude.{ℕ, ◌≢◌, ◌+◌, ◌-◌, ◌^◌, ◌<◌, List, length, slice_index_or}
use Rattle.tap_lines.specs.TapLines.{TapLine, no_line, IsIdleFrom, IsReachOf}

-- The numbers of some taps, in a list that was made for so many taps (profile).
pub record TapList : Type 0 where
  pub taps : List ℕ
  -- how many taps there is room for
  pub room : ℕ

-- Tap r isn't one of these taps (profile).
abbrev pub IsLeftOut : ℕ → List ℕ → Type 0
IsLeftOut r ns = (i : ℕ) → i < length ns → slice_index_or ns i 0 ≢ r

-- These are some of the taps with these lines, in rising order, and nothing but Idle stands from half bit u on on the
-- line of each tap that is left out (profile).
pub record AreIdleButFor (u : ℕ) (ls : List TapLine) (ns : List ℕ) : Type 0 where
  pub within : (i : ℕ) → i < length ns → slice_index_or ns i 0 < length ls
  pub rising : (i j : ℕ) → i < j → j < length ns → slice_index_or ns i 0 < slice_index_or ns j 0
  pub others : (r : ℕ) → r < length ls → IsLeftOut r ns → IsIdleFrom u (slice_index_or ls r no_line)

-- These are in rising order just the taps on whose lines something else than Idle stands from half bit u on (profile).
pub record AreLoudTaps (u : ℕ) (ls : List TapLine) (ns : List ℕ) : Type 0 where
  pub idle : AreIdleButFor u ls ns
  pub loud : (i : ℕ) → i < length ns → ¬ IsIdleFrom u (slice_index_or ls (slice_index_or ns i 0) no_line)

-- In the n half bits from t on tap p hears nothing but Idle of each line that isn't one of these taps', since what is
-- further back on a line than `far` half bits reaches no tap, where a window has L half bits; t + n fits a number of 64
-- bits (profile).
pub record HearsListed (p L far t n : ℕ) (ls : List TapLine) (ns : List ℕ) : Type 0 where
  pub tap : p < length ls
  pub reach : IsReachOf far L ls
  pub loud : AreIdleButFor (t - far) ls ns
  pub in_time : t + n < 2 ^ 64
