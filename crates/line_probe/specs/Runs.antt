-- Runs of symbols: maximal stretches of one symbol (profile). Half bits count from 0.
use Rattle.std.specs.Prelude.{◌≡◌, ◌≢◌, ℕ, ◌+◌, ◌≤◌, List, [], ◌∷◌, length, flat_map, replicate, ⊤}
use Rattle.mac_parameters.specs.Parameters.{most_half_bits}
use Rattle.manchester_line.specs.declared.Sym.{Sym}
use Rattle.line_probe.specs.declared.run.Run.{Run}

-- the first of these runs begins in this half bit, each one where the one before ends, and each has a symbol
abbrev pub AreJoined : ℕ → List Run → Type 0
AreJoined from [] = ⊤
AreJoined from (r ∷ rs) = (r.start ≡ from) × (1 ≤ r.count) × AreJoined (from + r.count) rs

-- the first of these runs, if there is one, is of another symbol
abbrev pub BeginsOtherwise : Sym → List Run → Type 0
BeginsOtherwise symbol [] = ⊤
BeginsOtherwise symbol (r ∷ rs) = symbol ≢ r.symbol

-- no two runs that follow each other are of the same symbol
abbrev pub AreMaximal : List Run → Type 0
AreMaximal [] = ⊤
AreMaximal (r ∷ rs) = BeginsOtherwise r.symbol rs × AreMaximal rs

-- the half bit in which the first of these runs begins, and 0 where there is none
abbrev pub first_start : List Run → ℕ
first_start [] = 0
first_start (r ∷ rs) = r.start

-- the symbols of these runs
abbrev pub symbols_of_runs : List Run → List Sym
symbols_of_runs runs = flat_map (λ r. replicate r.count r.symbol) runs

-- these are the runs of these symbols, the first of which is that of this half bit
pub record AreRunsOf (from : ℕ) (symbols : List Sym) (runs : List Run) : Type 0 where
  pub joined : AreJoined from runs
  pub maximal : AreMaximal runs
  pub symbols_are : symbols_of_runs runs ≡ symbols

-- the half bit after the last of these runs, and t where there is none
abbrev pub end_after_runs : ℕ → List Run → ℕ
end_after_runs t [] = t
end_after_runs t (r ∷ rs) = end_after_runs (r.start + r.count) rs

-- these are the runs of some symbols that can be heard in a network, which has at most 2,000,000,000 half bits
pub record AreHeardRuns (runs : List Run) : Type 0 where
  pub from : ℕ
  pub symbols : List Sym
  pub runs_of : AreRunsOf from symbols runs
  pub within : from + length symbols ≤ most_half_bits
