-- Symbols of which the last are signals (clause 7). Places count from 0.
use Rattle.std.specs.Prelude.{ℕ, ◌≡◌, ◌-◌, ◌<◌, ◌≤◌, Bool, true, suc, nat_lt, if◌then◌else◌, List, [], ◌∷◌, length, slice_index_or}
use Rattle.manchester_line.specs.declared.Sym.{Sym}
use Rattle.manchester_line.specs.declared.Sym.TheVariants.{Idle}
use Rattle.manchester_line.specs.Line.{is_signal}

-- The place behind the last signal of these symbols: from there on all are Idle (profile).
abbrev pub signals_end : List Sym → ℕ
signals_end [] = 0
signals_end (s ∷ ss) =
    if nat_lt 0 (signals_end ss) then suc (signals_end ss)
    else if is_signal s then 1
    else 0

-- The last n of these symbols are signals, and at least one where there are any (profile).
pub record EndsInSignals (n : ℕ) (symbols : List Sym) : Type 0 where
  pub few : n ≤ length symbols
  pub some : 0 < length symbols → 0 < n
  pub signals : (i : ℕ) → length symbols - n ≤ i → i < length symbols → is_signal (slice_index_or symbols i Idle) ≡ true

-- Whether a signal is at place i of these symbols: behind their end as `on` says (profile).
abbrev pub class_at : List Sym → Bool → ℕ → Bool
class_at symbols on i = if nat_lt i (length symbols) then is_signal (slice_index_or symbols i Idle) else on
