-- What a probe aims at in a network, and what it says where that isn't there (profile). Half bits count from 0; a probe
-- goes from one half bit on to before another.
use Rattle.std.specs.Prelude.{◌≡◌, ◌<◌, ◌≤◌, ◌⊎◌, ℕ, ◌*◌, List, [], ◌∷◌, ◌++◌}
use Rattle.layout.specs.declared.lines.Layout.{Layout}
use Rattle.line_probe.specs.Taps.{IsWordOf}
use Rattle.line_probe.specs.declared.tap.Tap.{Tap}
use Rattle.mac_parameters.specs.Parameters.{half_bits_a_bit}
use Rattle.program_texts.specs.Texts.{line_of_range_fault, line_of_tap_fault}
use Rattle.program_words.specs.declared.words.Report.{Report}

-- these are the taps of the network that these words name, one after the other
abbrev pub AreTapsOf : Layout → List (List ℕ) → List Tap → Type 0
AreTapsOf network [] [] = Unit {0}
AreTapsOf network (word ∷ words) (tap ∷ taps) = IsWordOf network word tap × AreTapsOf network words taps
AreTapsOf network _ _ = ⊥

-- the word names no tap of the network
abbrev pub NamesNoTap : Layout → List ℕ → Type 0
NamesNoTap network word = (tap : Tap) → IsWordOf network word tap → ⊥

-- of these words this one is the first that names no tap
pub record IsFirstUnknown (network : Layout) (words : List (List ℕ)) (word : List ℕ) : Type 0 where
  pub front : List (List ℕ)
  pub rest : List (List ℕ)
  pub is : words ≡ front ++ word ∷ rest
  pub taps : List Tap
  pub named : AreTapsOf network front taps
  pub unknown : NamesNoTap network word

-- how many half bits the run of a network has
abbrev pub half_bits_of : Layout → ℕ
half_bits_of network = half_bits_a_bit * network.until_bits

-- each of these words names a tap of the network, and its run has the half bits before this one
pub record HasAim (network : Layout) (to : ℕ) (words : List (List ℕ)) : Type 0 where
  pub taps : List Tap
  pub named : AreTapsOf network words taps
  pub within : to ≤ half_bits_of network

-- a word names no tap of the network, or its run ends before this half bit
abbrev pub HasNoAim : Layout → ℕ → List (List ℕ) → Type 0
HasNoAim network to words = ((word : List ℕ) × IsFirstUnknown network words word) ⊎ (half_bits_of network < to)

-- this line says what a probe with this report misses in the network: the first word that names no tap, or, where all
-- words name taps, that the run ends before this half bit
abbrev pub IsMissLine : Report → Layout → ℕ → List (List ℕ) → List ℕ → Type 0
IsMissLine told network to words line =
    ((word : List ℕ) × IsFirstUnknown network words word × (line ≡ line_of_tap_fault word))
    ⊎ ((taps : List Tap) × AreTapsOf network words taps × (half_bits_of network < to)
    × (line ≡ line_of_range_fault told))
