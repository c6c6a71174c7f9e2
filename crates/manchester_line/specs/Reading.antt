-- How the half bits of a reception read as bits and octets (clauses 3 and 7; what spoils a reception is profile).
use Rattle.std.specs.Prelude.{ℕ, ◌+◌, ◌*◌, ◌%◌, Bool, true, false, Option, Some, None, List, [], ◌∷◌, length}
use Rattle.std.specs.Option.{option_map}
use Rattle.manchester_line.specs.declared.Sym.{Sym}
use Rattle.manchester_line.specs.declared.Sym.TheVariants.{Hi, Lo}

-- the bit of a pair of half bits, if it is one (clause 7)
abbrev pub bit_of_pair : Sym → Sym → Option Bool
bit_of_pair Lo Hi = Some true
bit_of_pair Hi Lo = Some false
bit_of_pair _ _ = None

-- a bit before others, where each is one (clause 7)
abbrev pub add_bit : Option Bool → Option (List Bool) → Option (List Bool)
add_bit (Some b) (Some bs) = Some (b ∷ bs)
add_bit _ _ = None

-- the bits of a list of half bits, taken in pairs; none where a pair is no bit or the end is odd (clause 7)
abbrev pub bits_of : List Sym → Option (List Bool)
bits_of [] = Some []
bits_of (a ∷ []) = None
bits_of (a ∷ b ∷ rest) = add_bit (bit_of_pair a b) (bits_of rest)

-- the bits after the first two adjacent 1 bits, where `last` is the bit before these (3.2.2)
abbrev pub after_delimiter : Bool → List Bool → List Bool
after_delimiter last [] = []
after_delimiter true (true ∷ bs) = bs
after_delimiter last (b ∷ bs) = after_delimiter b bs

-- the frame's bits in the half bits of a reception; none where a pair is no bit or the end is odd, which spoils it
abbrev pub reading : List Sym → Option (List Bool)
reading halves = option_map (after_delimiter false) (bits_of halves)

-- the number that a bit stands for, 0 or 1
abbrev pub bit_value : Bool → ℕ
bit_value true = 1
bit_value false = 0

-- what the greatest bit of an octet weighs
abbrev pub top_bit : ℕ
top_bit = 128

-- the octet whose bits are these eight, the least first (3.3)
abbrev pub octet_of : Bool → Bool → Bool → Bool → Bool → Bool → Bool → Bool → ℕ
octet_of a b c d e f g h =
    bit_value a + 2 * bit_value b + 4 * bit_value c + 8 * bit_value d
    + 16 * bit_value e + 32 * bit_value f + 64 * bit_value g + top_bit * bit_value h

-- the whole octets in a list of bits (3.3)
abbrev pub octets_of_bits : List Bool → List ℕ
octets_of_bits (a ∷ b ∷ c ∷ d ∷ e ∷ f ∷ g ∷ h ∷ rest) = octet_of a b c d e f g h ∷ octets_of_bits rest
octets_of_bits _ = []

-- how many bits are left over beyond the whole octets, 0 to 7
abbrev pub spare_of_bits : List Bool → ℕ
spare_of_bits bits = length bits % 8
