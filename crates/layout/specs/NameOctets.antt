-- The octets of names (profile).
use Rattle.std.specs.Prelude.{ℕ, Bool, ◌&&◌, ◌||◌, nat_le, ◌==◌}

-- from the first bound to the second
abbrev pub is_between : ℕ → ℕ → ℕ → Bool
is_between least most n = nat_le least n && nat_le n most

-- a letter, a decimal digit, a low line or a hyphen
unfoldable pub is_name_octet : ℕ → Bool
is_name_octet c = is_between 97 122 c || is_between 65 90 c || is_between 48 57 c || (c == 95) || (c == 45)
