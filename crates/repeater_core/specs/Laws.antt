-- The laws of a repeater's step (clause 9): it repeats, it sends no clash, and what it sends is at least as long as the
-- fragment extension. Ports count from 0.
use Rattle.std.specs.Prelude.{ℕ, ◌≡◌, ◌≢◌, ◌+◌, ◌<◌, ◌≤◌, Bool, true, false, min, List, length, slice_index_or}
use Rattle.std.specs.List.{All}
use Rattle.mac_parameters.specs.Parameters.{fragment_extension}
use Rattle.manchester_line.specs.declared.Sym.{Sym}
use Rattle.manchester_line.specs.declared.Sym.TheVariants as sym
use Rattle.repeater_core.specs.declared.modes.Mode.{Mode}
use Rattle.repeater_core.specs.declared.modes.Mode.TheVariants.{Idle, Repeat, Extend, RxClash, TxClash, OnePort}
use Rattle.repeater_core.specs.Counts.{Count, resting_count}

-- none of these symbols is Clash, which is what a port hears of a collision (profile)
abbrev pub HasNoClash : List Sym → Type 0
HasNoClash ss = All (λ s. s ≢ sym.Clash) ss

-- the mode sends nothing to port q
abbrev pub SendsNothing : Mode → ℕ → Type 0
SendsNothing Idle q = Unit {0}
SendsNothing (Repeat n i) q = q ≡ n
SendsNothing (Extend n i j) q = q ≡ n
SendsNothing (RxClash n i) q = q ≡ n
SendsNothing (TxClash i) q = ⊥
SendsNothing (OnePort n i) q = q ≡ n

-- port n had no output, and that of every other port q, of `run` half bits, has at least `least`
abbrev pub AllBut : ℕ → ℕ → ℕ → ℕ → Type 0
AllBut n least q run = (q ≡ n → run ≡ 0) × (q ≢ n → least ≤ run)

-- what a mode tells of the half bits of the unbroken output to port q, as far as the fragment extension
abbrev pub IsLongFor : Mode → ℕ → ℕ → Type 0
IsLongFor Idle q run = run ≡ 0
IsLongFor (Repeat n i) q run = AllBut n (min (i + 1) fragment_extension) q run
IsLongFor (Extend n i j) q run = AllBut n (min (i + 1) fragment_extension) q run
IsLongFor (RxClash n i) q run = AllBut n (min (i + 1) fragment_extension) q run
IsLongFor (TxClash i) q run = min (i + 1) fragment_extension ≤ run
IsLongFor (OnePort n i) q run = AllBut n fragment_extension q run

-- the counts of port q
abbrev pub count_at : List Count → ℕ → Count
count_at counts q = slice_index_or counts q (resting_count 0)

-- each unbroken output that does not come right after a rest has as many half bits as the mode tells
abbrev pub AreLong : Mode → List Count → Type 0
AreLong mode counts =
    (q : ℕ) → q < length counts → (count_at counts q).after_rest ≡ false → IsLongFor mode q (count_at counts q).run

-- a port that rests has no output (jabber lockup protection)
abbrev pub RestWithoutOutput : List Count → Type 0
RestWithoutOutput counts = (q : ℕ) → 0 < (count_at counts q).rest → (count_at counts q).run ≡ 0

-- for each open port p that hears a signal, what is decided for every other port q that does not rest is not Idle
abbrev pub Repeats : List Bool → List Sym → List Bool → List Sym → Type 0
Repeats closed hears resting decided =
    (p q : ℕ) → p < length closed → q < length decided → p ≢ q
    → slice_index_or closed p true ≡ false → slice_index_or hears p sym.Idle ≢ sym.Idle
    → slice_index_or resting q true ≡ false → slice_index_or decided q sym.Idle ≢ sym.Idle

-- each unbroken output that ends now, and does not come right after a rest, is at least as long as the fragment
-- extension
abbrev pub EndsLong : List Count → List Sym → Type 0
EndsLong counts decided =
    (q : ℕ) → q < length counts → (count_at counts q).after_rest ≡ false → 0 < (count_at counts q).run
    → slice_index_or decided q sym.Idle ≡ sym.Idle → fragment_extension ≤ (count_at counts q).run
