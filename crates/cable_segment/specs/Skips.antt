-- Which taps of a cable may have symbols other than Idle in the rows that are kept (profile).
use Rattle.std.specs.Prelude.{ℕ, ◌≡◌, ◌+◌, ◌*◌, ◌<◌, ◌≤◌, List, length, slice_index, slice_index_or}
use Rattle.manchester_line.specs.declared.Sym.{Sym}
use Rattle.manchester_line.specs.declared.Sym.TheVariants.{Idle}

-- For each of so many taps, from 0, and behind the last, next has a tap from it on, or the number behind the last: the
-- taps between have Idle in all rows.
pub record Skips (next : List ℕ) (rows : List Sym) (taps : ℕ) : Type 0 where
  pub count : length next ≡ taps + 1
  pub on : (q : ℕ) → q ≤ taps → q ≤ slice_index next q
  pub within : (q : ℕ) → q ≤ taps → slice_index next q ≤ taps
  pub silent : (q j row : ℕ) → q ≤ taps → q ≤ j → j < slice_index next q
      → slice_index_or rows (row * taps + j) Idle ≡ Idle
