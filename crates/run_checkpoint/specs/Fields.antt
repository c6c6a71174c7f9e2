-- Fields in front of octets: numbers of any length, and yes or no. Each reader answers what it found and the octets
-- after it (profile).
use Rattle.std.specs.Prelude.{ℕ, ◌==◌, ◌&&◌, not, Bool, true, false, List, [], ◌∷◌, drop, codes, Option, None, Some, if◌then◌else◌}
use Rattle.std.specs.Char.{is_ascii_digit}
use Rattle.std.specs.List.{prefix_len}
use Rattle.std.specs.Str.{bytes_eq}
use Rattle.text_fields.specs.Reading.{Read, ◌>>=◌, else_read, after_word, decimal_at}

-- the least number of more than 32 bits, as which each longer one is told: it is beyond all ranges of a state's numbers
abbrev pub beyond_ranges : ℕ
beyond_ranges = 4294967296

-- whether a digit other than zero stands in front
abbrev pub begins_number : List ℕ → Bool
begins_number [] = false
begins_number (c ∷ cs) = is_ascii_digit c && not (c == 48)

-- a decimal number without leading zeros, of any length
unfoldable pub long_number_at : List ℕ → Read ℕ
long_number_at octets =
    if begins_number octets then Some (beyond_ranges, drop (prefix_len is_ascii_digit octets) octets) else None

-- a decimal number without leading zeros: its value where that has 32 bits
unfoldable pub any_number_at : List ℕ → Read ℕ
any_number_at octets = else_read (decimal_at octets) (long_number_at octets)

-- a word and a number
unfoldable pub figure_at : List ℕ → List ℕ → Read ℕ
figure_at word octets = after_word word octets >>= any_number_at

-- this answer, where its word was found
abbrev pub truth_found : Bool → Option (List ℕ) → Read Bool
truth_found answer (Some rest) = Some (answer, rest)
truth_found answer None = None

-- yes or no
unfoldable pub yes_or_no_at : List ℕ → Read Bool
yes_or_no_at octets =
    else_read (truth_found true (after_word (codes "yes") octets)) (truth_found false (after_word (codes "no") octets))

-- a word, and yes or no
unfoldable pub truth_at : List ℕ → List ℕ → Read Bool
truth_at word octets = after_word word octets >>= yes_or_no_at

-- what was found in a line, where nothing but the line feed is left of it
abbrev pub whole_line : {A : Type 0} → A → List ℕ → Option A
whole_line x rest = if bytes_eq rest (codes "\n") then Some x else None
