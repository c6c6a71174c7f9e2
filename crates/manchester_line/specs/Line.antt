-- The symbols of a line and the line text of a frame (clause 7; what is our own choice says profile).
use Rattle.std.specs.Prelude.{ℕ, zero, suc, ◌-◌, ◌/◌, ◌%◌, Bool, true, false, ◌==◌, ◌||◌, nat_le, if◌then◌else◌, List, [], ◌∷◌, ◌++◌, map}
use Rattle.std.specs.List.{range_with_len, flat_map}
use Rattle.manchester_line.specs.declared.Sym.{Sym}
use Rattle.manchester_line.specs.declared.Sym.TheVariants.{Idle, Hi, Lo, Clash}
use Rattle.mac_parameters.specs.Parameters.{half_bits_a_bit, preamble_length}

-- what is heard where two symbols meet on one cable (profile)
abbrev pub mix_of : Sym → Sym → Sym
mix_of Idle s = s
mix_of Hi Idle = Hi
mix_of Lo Idle = Lo
mix_of Clash Idle = Clash
mix_of _ _ = Clash

-- a symbol is a signal where it is something else than Idle: what clause 4 calls carrier where a station hears it
abbrev pub is_signal : Sym → Bool
is_signal Idle = false
is_signal _ = true

-- half a bit: first the complement of the bit, and second the bit itself (clause 7)
abbrev pub half_at : Bool → Bool → Sym
half_at true false = Lo
half_at true true = Hi
half_at false false = Hi
half_at false true = Lo

-- half bit i, from 0, of the jam: the bits 1, 0, 1, 0 and so on (profile)
abbrev pub jam_at : ℕ → Sym
jam_at i = if (i % 4 == 0) || (i % 4 == 3) then Lo else Hi

-- the bit, from 0, of the preamble with its start frame delimiter at which the two adjacent 1 bits at the end begin
-- (3.2.2)
abbrev pub delimiter_end : ℕ
delimiter_end = preamble_length / half_bits_a_bit - 2

-- half bit i, from 0, of the preamble with its start frame delimiter: alternating bits that begin with 1, and then two
-- bits that are 1 (3.2.1, 3.2.2)
abbrev pub preamble_at : ℕ → Sym
preamble_at i = half_at ((i / 2 % 2 == 0) || nat_le delimiter_end (i / 2)) (i % 2 == 1)

-- all half bits of the preamble with its start frame delimiter (3.2.1, 3.2.2)
unfoldable pub preamble : List Sym
preamble = map preamble_at (range_with_len 0 preamble_length)

-- the half bits of the n least bits of x, the least first (3.3)
abbrev pub bit_halves : ℕ → ℕ → List Sym
bit_halves zero x = []
bit_halves (suc n) x = half_at (x % 2 == 1) false ∷ half_at (x % 2 == 1) true ∷ bit_halves n (x / 2)

-- the half bits of an octet, the least bit first (3.3)
unfoldable pub octet_halves : ℕ → List Sym
octet_halves x = bit_halves 8 x

-- the line text of these octets: the preamble with its start frame delimiter, and then two half bits for each bit
-- (3.1.1, clause 7)
abbrev pub line : List ℕ → List Sym
line octets = preamble ++ flat_map octet_halves octets
