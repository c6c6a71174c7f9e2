-- Names, loads and frames as texts, which are lists of octets (profile).
use Rattle.std.specs.Prelude.{ℕ, ◌+◌, ◌-◌, ◌*◌, ◌/◌, ◌%◌, Bool, ◌&&◌, ◌||◌, nat_le, ◌==◌, List, [], ◌∷◌, length, if◌then◌else◌}
use Rattle.std.specs.List.{list_all}
use Rattle.mac_parameters.specs.Parameters.{addresses_and_type}
use Rattle.layout.specs.Limits.{longest_name, longest_load}
use Rattle.layout.specs.NameOctets.{is_between, is_name_octet}

-- a name: letters, decimal digits, low lines and hyphens, at least one
unfoldable pub is_name : List ℕ → Bool
is_name s = is_between 1 longest_name (length s) && list_all is_name_octet s

-- the name of a load's capture: octets, at least one and none of them zero
unfoldable pub is_load : List ℕ → Bool
is_load s = is_between 1 longest_load (length s) && list_all (nat_le 1) s

-- a hexadecimal digit of either case
unfoldable pub is_digit : ℕ → Bool
is_digit c = is_between 48 57 c || is_between 97 102 c || is_between 65 70 c

-- what a hexadecimal digit stands for, and 0 of another octet
unfoldable pub digit_of : ℕ → ℕ
digit_of c =
    if is_between 48 57 c then c - 48
    else if is_between 97 102 c then c - 87
    else if is_between 65 70 c then c - 55
    else 0

-- the octets that digits spell, two an octet with the high one first
abbrev pub octets_of_digits : List ℕ → List ℕ
octets_of_digits [] = []
octets_of_digits (high ∷ []) = []
octets_of_digits (high ∷ low ∷ rest) = (16 * digit_of high + digit_of low) ∷ octets_of_digits rest

-- two digits an octet, of no fewer octets than addresses and type have and no more than that many
unfoldable pub is_frame : ℕ → List ℕ → Bool
is_frame most s = is_between addresses_and_type most (length s / 2) && (length s % 2 == 0) && list_all is_digit s
