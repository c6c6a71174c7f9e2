-- The lines of a segment's taps, and what the taps hear by them (profile). The taps of a segment are numbered from 0:
-- those of its stations in their order, then those of its ports in the order of edges. Half bits count from 0.
use Rattle.std.specs.Prelude.{ℕ, ◌≡◌, ◌≢◌, ◌+◌, ◌-◌, ◌==◌, ◌<◌, ◌≤◌, Bool, false, ◌||◌, nat_le, nat_lt, if◌then◌else◌, List, [], ◌∷◌, ◌++◌, length, take, drop, min, replicate, slice_index_or}
use Rattle.mac_parameters.specs.Distances.{distance}
use Rattle.manchester_line.specs.declared.Sym.{Sym}
use Rattle.manchester_line.specs.declared.Sym.TheVariants.{Idle}
use Rattle.manchester_line.specs.Line.{mix_of, is_signal}
use Rattle.network.specs.Times.{earlier}
use Rattle.net_parts.specs.Machines.{span}
use Rattle.tap_lines.specs.Signals.{signals_end}

-- The line of a tap that is at a place, in half bits from the segment's end: symbols of half bits one after another,
-- the first of them for half bit `base`. What stands on it for a half bit the tap emits `delay` half bits later, less
-- the half bits of a window. A station's delay here is a window, so that it emits in that very half bit. A port's is
-- its repeater's, since what comes in for it was decided a window before (profile).
pub record TapLine : Type 0 where
  pub at : ℕ
  pub delay : ℕ
  -- how many half bits back it keeps what stands on it: what is further back reaches no other tap
  pub backlog : ℕ
  pub base : ℕ
  pub symbols : List Sym
  -- how many more symbols it takes without memory
  pub room : ℕ

-- A line without symbols, for what is no tap (profile).
abbrev pub no_line : TapLine
no_line = record { at = 0; delay = 0; backlog = 0; base = 0; symbols = []; room = 0 }

-- What stands on a line for half bit u: Idle before its first symbol and behind its last (profile).
abbrev pub symbol_on : TapLine → ℕ → Sym
symbol_on l u = if nat_le l.base u then slice_index_or l.symbols (u - l.base) Idle else Idle

-- How far back on a line, in half bits, is what a tap at a place hears of it, where a window has L half bits (profile).
abbrev pub half_bits_back : ℕ → ℕ → TapLine → ℕ
half_bits_back L at l = distance at l.at + l.delay - L

-- What tap p, at a place, hears of these lines in half bit t, the first of them being that of tap q: the mix of what
-- reaches it of each but its own (clause 8, profile).
abbrev pub heard_of_lines : ℕ → ℕ → ℕ → ℕ → ℕ → List TapLine → Sym
heard_of_lines L t p at q [] = Idle
heard_of_lines L t p at q (l ∷ ls) =
    mix_of (if q == p then Idle else earlier (symbol_on l) t (half_bits_back L at l))
    (heard_of_lines L t p at (q + 1) ls)

-- What tap p hears in half bit t by the lines of all taps (clause 8, profile).
abbrev pub heard_by_lines : ℕ → ℕ → List TapLine → ℕ → Sym
heard_by_lines L t ls p = heard_of_lines L t p (slice_index_or ls p no_line).at 0 ls

-- What tap p hears of tap q's line in half bit t: nothing of its own (clause 8, profile).
abbrev pub heard_of_line : ℕ → ℕ → List TapLine → ℕ → ℕ → Sym
heard_of_line L t ls p q =
    let l = slice_index_or ls q no_line in
    if q == p then Idle
    else earlier (symbol_on l) t (half_bits_back L (slice_index_or ls p no_line).at l)

-- What is further back on a line than `far` half bits reaches no other of the taps with these lines, where a window has
-- L half bits (profile).
abbrev pub IsReachOf : ℕ → ℕ → List TapLine → Type 0
IsReachOf far L ls = (p r : ℕ) → p < length ls → r < length ls →
    half_bits_back L (slice_index_or ls p no_line).at (slice_index_or ls r no_line) ≤ far

-- A line with these symbols at its end (profile).
abbrev pub line_extended : TapLine → List Sym → TapLine
line_extended l ss = record l { symbols = l.symbols ++ ss; room = l.room - length ss }

-- A line after its first k symbols were dropped (profile).
abbrev pub dropped_from : ℕ → TapLine → TapLine
dropped_from k l = record l { base = l.base + k; symbols = drop k l.symbols; room = l.room + k }

-- A line after n half bits in which nothing but Idle stands on it: of these and of what stood on it before it has no
-- more than it keeps (profile).
abbrev pub passed : ℕ → TapLine → TapLine
passed n l =
    let kept = min n l.backlog in
    let rest = dropped_from (min (length l.symbols + n - l.backlog) (length l.symbols)) l in
    line_extended (record rest { base = rest.base + (n - kept) }) (replicate kept Idle)

-- What tap p hears by these lines in the n half bits from t on, where a window has L half bits (clause 8, profile).
abbrev pub heard_for : ℕ → ℕ → ℕ → List TapLine → ℕ → List Sym
heard_for L t n ls p = span (λ u. heard_by_lines L u ls p) t n

-- A line without what stands on it for half bit u and later ones (profile).
abbrev pub line_cut : ℕ → TapLine → TapLine
line_cut u l = record l {
  symbols = take (u - l.base) l.symbols;
  room = l.room + (length l.symbols - (u - l.base));
}

-- A line that ends at half bit u: with Idle up to there, or without what stands on it for half bit u and later ones
-- (profile).
abbrev pub line_ended : ℕ → TapLine → TapLine
line_ended u l =
    if nat_lt (l.base + length l.symbols) u
    then line_extended l (replicate (u - (l.base + length l.symbols)) Idle)
    else line_cut u l

-- A line that has come to half bit u, and has dropped what is further back from there than it keeps (profile).
abbrev pub forgotten : ℕ → TapLine → TapLine
forgotten u l =
    if nat_lt (l.base + length l.symbols) u
    then passed (u - (l.base + length l.symbols)) l
    else dropped_from (u - l.backlog - l.base) l

-- Whether a line goes on with a signal behind its end: as its last symbol is one; else it goes on with Idle (profile).
abbrev pub goes_on : TapLine → Bool
goes_on l = is_signal (slice_index_or l.symbols (length l.symbols - 1) Idle)

-- Whether a signal is on a line in half bit u: where it has ended, as it goes on (profile).
abbrev pub class_on : TapLine → ℕ → Bool
class_on l u = if nat_lt u (l.base + length l.symbols) then is_signal (symbol_on l u) else goes_on l

-- Whether a signal was on a line `back` half bits before half bit t; none before half bit 0 (profile).
abbrev pub class_back : TapLine → ℕ → ℕ → Bool
class_back l t back = if nat_le back t then class_on l (t - back) else false

-- Whether tap p, at a place, hears a signal in half bit t by these lines as they go on, the first of them being that of
-- tap q: of each but its own (clause 8, profile).
abbrev pub class_of_lines : ℕ → ℕ → ℕ → ℕ → ℕ → List TapLine → Bool
class_of_lines L t p at q [] = false
class_of_lines L t p at q (l ∷ ls) =
    (if q == p then false else class_back l t (half_bits_back L at l)) || class_of_lines L t p at (q + 1) ls

-- Whether tap p hears a signal in half bit t by the lines of all taps as they go on (clause 8, profile).
abbrev pub class_by_lines : ℕ → ℕ → List TapLine → ℕ → Bool
class_by_lines L t ls p = class_of_lines L t p (slice_index_or ls p no_line).at 0 ls

-- Whether tap p hears a signal in half bit t of tap q's line as it goes on: none of its own (clause 8, profile).
abbrev pub class_of_line : ℕ → ℕ → List TapLine → ℕ → ℕ → Bool
class_of_line L t ls p q =
    let l = slice_index_or ls q no_line in
    if q == p then false
    else class_back l t (half_bits_back L (slice_index_or ls p no_line).at l)

-- Nothing but Idle stands on a line from half bit u on, and it goes on so (profile).
abbrev pub IsIdleFrom : ℕ → TapLine → Type 0
IsIdleFrom u l = (v : ℕ) → u ≤ v → class_on l v ≡ false

-- What stands on a line `back` half bits before the n half bits from t on is neither before its first symbol nor behind
-- its last signal (profile).
pub record IsWithinSignals (back t n : ℕ) (l : TapLine) : Type 0 where
  pub begun : back + l.base ≤ t
  pub ended : t + n ≤ back + l.base + signals_end l.symbols

-- Nothing but Idle stands on these lines from half bit u on, and they go on so (profile).
abbrev pub AreIdleFrom : ℕ → List TapLine → Type 0
AreIdleFrom u ls = (r v : ℕ) → r < length ls → u ≤ v → class_on (slice_index_or ls r no_line) v ≡ false

-- Nothing but Idle stands on the lines of other taps than q from half bit u on, and they go on so (profile).
abbrev pub AreOthersIdle : ℕ → List TapLine → ℕ → Type 0
AreOthersIdle u ls q =
    (r v : ℕ) → r < length ls → r ≢ q → u ≤ v → class_on (slice_index_or ls r no_line) v ≡ false

-- Tap q is one of those with these lines, and nothing but Idle stands on the lines of the others from half bit u on
-- (profile).
pub record IsOnlySource (u : ℕ) (ls : List TapLine) (q : ℕ) : Type 0 where
  pub within : q < length ls
  pub others : AreOthersIdle u ls q
