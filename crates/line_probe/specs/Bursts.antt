-- Bursts in what a tap hears (profile). Half bits count from 0.
use Rattle.std.specs.Prelude.{◌≡◌, ◌≢◌, ℕ, ◌+◌, ◌≤◌, ◌==◌, ◌&&◌, nat_lt, Bool, not, if◌then◌else◌, Option, None, Some, List, [], ◌∷◌, ◌++◌, length, take, Contains, ⊤, ◌⊎◌}
use Rattle.std.specs.List.{AllByRecursion, prefix_len}
use Rattle.std.specs.Option.{is_none}
use Rattle.manchester_line.specs.Line.{is_signal}
use Rattle.manchester_line.specs.Reading.{octets_of_bits, reading, spare_of_bits}
use Rattle.manchester_line.specs.declared.Sym.{Sym}
use Rattle.manchester_line.specs.declared.Sym.TheVariants.{Idle}
use Rattle.line_probe.specs.declared.burst.Burst.{Burst}

-- the signals in front of these symbols
abbrev pub signals_in_front : List Sym → List Sym
signals_in_front symbols = take (prefix_len is_signal symbols) symbols

-- whether there are any, with Idle after them
abbrev pub has_ended_signals : List Sym → Bool
has_ended_signals symbols =
    nat_lt 0 (length (signals_in_front symbols)) && nat_lt (length (signals_in_front symbols)) (length symbols)

-- how many whole octets a reception has by its reading, and none where it is spoiled
abbrev pub octets_read : Option (List Bool) → ℕ
octets_read None = 0
octets_read (Some bits) = length (octets_of_bits bits)

-- how many bits it has beyond them
abbrev pub spare_read : Option (List Bool) → ℕ
spare_read None = 0
spare_read (Some bits) = spare_of_bits bits

-- the burst of these signals, the first of which is heard in half bit t
abbrev pub burst_of : ℕ → List Sym → Burst
burst_of t signals =
    record {
      start = t;
      halves = length signals;
      spoiled = is_none (reading signals);
      octets = octets_read (reading signals);
      spare = spare_read (reading signals);
    }

-- the burst that begins with the first of these symbols, that of half bit t, where Idle ends it
abbrev pub burst_in_front : ℕ → List Sym → Option Burst
burst_in_front t symbols = if has_ended_signals symbols then Some (burst_of t (signals_in_front symbols)) else None

-- the burst, if there is one, before others
abbrev pub with_burst : Option Burst → List Burst → List Burst
with_burst None bursts = bursts
with_burst (Some burst) bursts = burst ∷ bursts

-- the bursts in these symbols, the first of which is that of half bit t. One can begin wherever the half bit before is
-- Idle; `after_idle` tells whether one can begin in half bit t
abbrev pub bursts_from : ℕ → Bool → List Sym → List Burst
bursts_from t after_idle [] = []
bursts_from t after_idle (s ∷ ss) =
    with_burst (if after_idle then burst_in_front t (s ∷ ss) else None) (bursts_from (t + 1) (not (is_signal s)) ss)

-- the bursts in what a tap hears from half bit `from` on. Nothing was heard before half bit 0
abbrev pub bursts_of : ℕ → List Sym → List Burst
bursts_of from symbols = bursts_from from (from == 0) symbols

-- what is heard before a burst that begins in half bit t: an Idle half bit last, or nothing where t is 0
abbrev pub IsBeforeBurst : ℕ → List Sym → Type 0
IsBeforeBurst t before = (t ≡ 0) ⊎ ((front : List Sym) × (before ≡ front ++ Idle ∷ []))

-- a burst in what a tap hears from half bit `from` on: a maximal stretch of signals, with an Idle half bit after it
pub record IsBurst (from : ℕ) (symbols : List Sym) (burst : Burst) : Type 0 where
  pub before : List Sym
  pub signals : List Sym
  pub after : List Sym
  pub around : symbols ≡ before ++ (signals ++ Idle ∷ after)
  pub begins : IsBeforeBurst (from + length before) before
  pub some : signals ≢ []
  pub all : AllByRecursion (λ s. s ≢ Idle) signals
  pub judged : burst ≡ burst_of (from + length before) signals

-- each burst begins after the one before, and none before half bit t
abbrev pub BeginInOrder : ℕ → List Burst → Type 0
BeginInOrder t [] = ⊤
BeginInOrder t (b ∷ bs) = (t ≤ b.start) × BeginInOrder (b.start + 1) bs

-- all bursts in what a tap hears from half bit `from` on, and nothing else, in order
pub record AreBurstsIn (from : ℕ) (symbols : List Sym) (bursts : List Burst) : Type 0 where
  pub each : AllByRecursion (IsBurst from symbols) bursts
  pub every : (burst : Burst) → IsBurst from symbols burst → Contains bursts burst
  pub order : BeginInOrder from bursts
