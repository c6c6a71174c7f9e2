-- What a cable keeps of the symbols that its taps emitted (profile).
use Rattle.std.specs.Prelude.{ℕ, ◌+◌, ◌*◌, min, List, ◌++◌, length, take, replicate, slice_index_or, slice_set}
use Rattle.manchester_line.specs.declared.Sym.{Sym}
use Rattle.manchester_line.specs.declared.Sym.TheVariants.{Idle}
use Rattle.mac_parameters.specs.Parameters.{greatest_place}

-- the most half bits to come of which a cable keeps a row
abbrev pub most_ahead : ℕ
most_ahead = 4296

-- the rows of the present half bit and of those before it, back to what the farthest tap of the longest cable emitted
abbrev pub rows_back : ℕ
rows_back = greatest_place + 1

-- what a cable was told
pub record CableHistory : Type 0 where
  -- where each tap is, in half bits from the cable's end
  pub positions : List ℕ
  -- how many half bits to come have a row
  pub ahead : ℕ
  -- how many half bits are gone, up to the greatest place
  pub past : ℕ
  -- a row of one symbol for each tap, for each half bit from `ahead` after the present one on, the latest first
  pub rows : List Sym

-- the place among all rows of a tap, from 0, in a row, from 0
abbrev pub symbol_place : CableHistory → ℕ → ℕ → ℕ
symbol_place c row tap = row * length c.positions + tap

-- what a tap was told for the half bit `back` before the present one
abbrev pub told_at : CableHistory → ℕ → ℕ → Sym
told_at c back tap = slice_index_or c.rows (symbol_place c (c.ahead + back) tap) Idle

-- a cable at time 0, when every tap has emitted Idle
abbrev pub silent : List ℕ → ℕ → CableHistory
silent positions ahead =
    record {
      positions = positions;
      ahead = ahead;
      past = 0;
      rows = replicate ((ahead + rows_back) * length positions) Idle;
    }

-- the symbol of a tap in one row is set
abbrev pub told : CableHistory → ℕ → ℕ → Sym → CableHistory
told c row tap s =
    record {
      positions = c.positions;
      ahead = c.ahead;
      past = c.past;
      rows = slice_set c.rows (symbol_place c row tap) s;
    }

-- one half bit on: a row of Idle comes first, and the last row goes
abbrev pub advanced : CableHistory → CableHistory
advanced c =
    record {
      positions = c.positions;
      ahead = c.ahead;
      past = min (c.past + 1) greatest_place;
      rows = take (length c.rows) (replicate (length c.positions) Idle ++ c.rows);
    }
