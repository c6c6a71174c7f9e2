-- What taps hear, and when it changes. A tap is given by the list of the symbols that it hears, the first of them in
-- half bit `from`; half bits count from 0, and so do taps.
use Rattle.std.specs.Prelude.{ℕ, ◌+◌, ◌-◌, Bool, true, false, if◌then◌else◌, List, [], ◌∷◌, ◌++◌, slice_index_or, filter}
use Rattle.std.specs.List.{list_any, range_with_len}
use Rattle.manchester_line.specs.declared.Sym.{Sym}
use Rattle.manchester_line.specs.declared.Sym.TheVariants.{Idle, Hi, Lo, Clash}
use Rattle.wave_dump.specs.Values.{line_of_value}

-- what a tap hears in half bit t
abbrev pub symbol_in : ℕ → List Sym → ℕ → Sym
symbol_in from symbols t = slice_index_or symbols (t - from) Idle

-- whether two symbols differ
abbrev pub do_differ : Sym → Sym → Bool
do_differ Idle Idle = false
do_differ Hi Hi = false
do_differ Lo Lo = false
do_differ Clash Clash = false
do_differ _ _ = true

-- whether a tap hears another symbol in half bit t than in the half bit before
abbrev pub is_changed : ℕ → ℕ → List Sym → Bool
is_changed from t symbols = do_differ (symbol_in from symbols (t - 1)) (symbol_in from symbols t)

-- the half bits after `from` and before `to` in which at least one tap hears another symbol than in the half bit
-- before, in order
abbrev pub changing_half_bits : ℕ → ℕ → List (List Sym) → List ℕ
changing_half_bits from to heard =
    filter (λ t. list_any (is_changed from t) heard) (range_with_len (from + 1) (to - (from + 1)))

-- the values of these taps in half bit t, of which the first is the k-th
abbrev pub all_values : ℕ → ℕ → ℕ → List (List Sym) → List ℕ
all_values from t k [] = []
all_values from t k (symbols ∷ heard) =
    line_of_value k (symbol_in from symbols t) ++ all_values from t (k + 1) heard

-- the values of those of these taps that hear another symbol in half bit t than in the half bit before; the first of
-- the taps is the k-th
abbrev pub changed_values : ℕ → ℕ → ℕ → List (List Sym) → List ℕ
changed_values from t k [] = []
changed_values from t k (symbols ∷ heard) =
    (if is_changed from t symbols then line_of_value k (symbol_in from symbols t) else [])
    ++ changed_values from t (k + 1) heard
