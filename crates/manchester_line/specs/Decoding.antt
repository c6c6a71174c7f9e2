-- What a decoder keeps of a reception, half bit by half bit (profile: what it keeps is our own choice).
use Rattle.std.specs.Prelude.{◌≡◌, ℕ, ◌+◌, ◌*◌, ◌/◌, ◌==◌, ◌&&◌, Bool, true, false, if◌then◌else◌, Option, Some, None, List, [], ◌∷◌, ◌++◌, take}
use Rattle.manchester_line.specs.declared.Sym.{Sym}
use Rattle.manchester_line.specs.declared.decoder.TheConstants.{KEPT_OCTETS}
use Rattle.manchester_line.specs.Reading.{bit_of_pair, bit_value, top_bit}

-- what a decoder keeps of the half bits that it was given
pub record Decoding : Type 0 where
  -- how many there were
  pub halves : ℕ
  -- the first half of a bit whose second half is still to come
  pub half : Option Sym
  -- whether a pair was no bit
  pub spoiled : Bool
  -- whether two adjacent 1 bits have come
  pub found : Bool
  -- the latest bit up to these
  pub last : Bool
  -- how many whole octets have come since
  pub count : ℕ
  -- the first KEPT_OCTETS of them, one more than the greatest frame has
  pub octets : List ℕ
  -- how many bits have come since the last whole octet, 0 to 7
  pub spare : ℕ
  -- these bits at the high end of an octet, the latest at the top
  pub rest : ℕ

-- a decoder that was given nothing yet
abbrev pub new_decoding : Decoding
new_decoding =
    record {
      halves = 0;
      half = None;
      spoiled = false;
      found = false;
      last = false;
      count = 0;
      octets = [];
      spare = 0;
      rest = 0;
    }

-- one more bit at the top of an octet
abbrev pub shifted : ℕ → Bool → ℕ
shifted rest b = rest / 2 + top_bit * bit_value b

-- more bits at the top of an octet, in this order
abbrev pub all_shifted : ℕ → List Bool → ℕ
all_shifted rest [] = rest
all_shifted rest (b ∷ bs) = all_shifted (shifted rest b) bs

-- one more whole octet, with no bits after it
abbrev pub octet_kept : Decoding → ℕ → Decoding
octet_kept d octet =
    record d {
      count = d.count + 1;
      octets = take KEPT_OCTETS (d.octets ++ octet ∷ []);
      spare = 0;
      rest = 0;
    }

-- one more bit of the frame
abbrev pub put_bit : Decoding → Bool → Decoding
put_bit d b =
    if d.spare == 7 then octet_kept d (shifted d.rest b)
    else record d { spare = d.spare + 1; rest = shifted d.rest b }

-- more bits of the frame, in this order
abbrev pub all_put : Decoding → List Bool → Decoding
all_put d [] = d
all_put d (b ∷ bs) = all_put (put_bit d b) bs

-- one more bit of the reception, if it is one
abbrev pub take_bit : Decoding → Option Bool → Decoding
take_bit d None = record d { spoiled = true }
take_bit d (Some b) = if d.found then put_bit d b else record d { found = d.last && b; last = b }

-- a half bit after the first half of a bit, if that has come
abbrev pub take_half : Decoding → Option Sym → Sym → Decoding
take_half d None s = record d { half = Some s }
take_half d (Some a) s = take_bit (record d { half = None }) (bit_of_pair a s)

-- one more half bit
abbrev pub pushed : Decoding → Sym → Decoding
pushed d s = take_half (record d { halves = d.halves + 1 }) d.half s

-- more half bits, in this order
abbrev pub all_pushed : Decoding → List Sym → Decoding
all_pushed d [] = d
all_pushed d (s ∷ ss) = all_pushed (pushed d s) ss

-- a decoder that was given these half bits, in this order, since it was new or cleared
abbrev pub Decodes : List Sym → Decoding → Type 0
Decodes halves d = d ≡ all_pushed new_decoding halves
