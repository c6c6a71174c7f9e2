-- Taps whose places are apart (profile).
use Rattle.std.specs.Prelude.{ℕ, ◌≡◌, ◌≢◌, ◌<◌, List, length, slice_index_or}
use Rattle.layout.specs.declared.lines.PortLine.{PortLine}

-- No two of these taps are at the same place of the same segment.
abbrev pub AreApart : List PortLine → Type 0
AreApart taps =
    (p q : ℕ) (d : PortLine) → p < length taps → q < length taps → p ≢ q
    → (slice_index_or taps p d).segment ≡ (slice_index_or taps q d).segment
    → (slice_index_or taps p d).at ≢ (slice_index_or taps q d).at
