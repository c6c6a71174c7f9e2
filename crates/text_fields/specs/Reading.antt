-- How octets are read from left to right: each reader answers what it found and the octets after it (profile).
use Rattle.std.specs.Prelude.{◌≡◌, ℕ, ◌+◌, ◌-◌, ◌*◌, ◌^◌, ◌==◌, ◌&&◌, nat_le, nat_lt, Bool, List, [], ◌∷◌, take, drop, Option, None, Some, if◌then◌else◌}
use Rattle.std.specs.Char.{is_ascii_digit}
use Rattle.std.specs.List.{prefix_len}
use Rattle.layout.specs.Limits.{longest_name}
use Rattle.layout.specs.NameOctets.{is_name_octet}

-- a thing of this kind, and the octets after it
abbrev pub Read : Type 0 → Type 0
Read A = Option (A × List ℕ)

-- what a reader of the code answers is what is read, with the view of what it answers
abbrev pub IsReading : {X Y : Type 0} → (X → Y) → Option X → Option Y → Type 0
IsReading view (Some x) read = read ≡ Some (view x)
IsReading view None read = read ≡ None

infixl 10 ◌>>=◌
-- the second step, where the first found something
abbrev pub ◌>>=◌ : {A B : Type 0} → Option A → (A → Option B) → Option B
(Some x) >>= f = f x
None >>= f = None

-- the first of two readings that found something
abbrev pub else_read : {A : Type 0} → Option A → Option A → Option A
else_read (Some x) other = Some x
else_read None other = other

-- the octets after a word
abbrev pub after_word : List ℕ → List ℕ → Option (List ℕ)
after_word [] octets = Some octets
after_word (w ∷ ws) [] = None
after_word (w ∷ ws) (o ∷ os) = if o == w then after_word ws os else None

-- the digits ended: their value, where there is one
abbrev pub digits_ended : ℕ → ℕ → List ℕ → Read ℕ
digits_ended value len rest = if nat_lt 0 len then Some (value, rest) else None

-- whether a digit would follow a first digit of zero
abbrev pub follows_zero : ℕ → ℕ → Bool
follows_zero value len = (value == 0) && nat_lt 0 len

-- a number, from the value and the count of the digits that were read so far
unfoldable pub digits_on : ℕ → ℕ → List ℕ → Read ℕ
digits_on value len [] = digits_ended value len []
digits_on value len (b ∷ rest) =
    if is_ascii_digit b then
    if follows_zero value len then None
    else if nat_le (2 ^ 32) (value * 10 + (b - 48)) then None
    else digits_on (value * 10 + (b - 48)) (len + 1) rest
    else digits_ended value len (b ∷ rest)

-- a decimal number without leading zeros that has 32 bits
abbrev pub decimal_at : List ℕ → Read ℕ
decimal_at octets = digits_on 0 0 octets

-- a word and a number
unfoldable pub field_at : List ℕ → List ℕ → Read ℕ
field_at word octets = after_word word octets >>= decimal_at

-- a word and a half bit, the last of which is t
unfoldable pub half_bit_at : ℕ → List ℕ → List ℕ → Read ℕ
half_bit_at t word octets = field_at word octets >>= λ n. if nat_le n.0 t then Some n else None

-- a name of so many octets
abbrev pub name_of_length : ℕ → List ℕ → Read (List ℕ)
name_of_length len octets =
    if nat_le 1 len && nat_le len longest_name then Some (take len octets, drop len octets) else None

-- a name
unfoldable pub name_at : List ℕ → Read (List ℕ)
name_at octets = name_of_length (prefix_len is_name_octet octets) octets
