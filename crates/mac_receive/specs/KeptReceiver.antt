-- What a receiver keeps, and the receiver of clause 4 that it stands for. How it is kept is this project's own choice
-- (profile).
use Rattle.std.specs.Prelude.{◌≡◌, ℕ, ◌+◌, ◌*◌, ◌<◌, ◌==◌, nat_le, Bool, true, false, if◌then◌else◌, List, [], ◌∷◌, length}
use Rattle.manchester_line.specs.declared.Sym.{Sym}
use Rattle.manchester_line.specs.declared.Sym.TheVariants.{Idle}
use Rattle.manchester_line.specs.Decoding.{Decoding, Decodes, new_decoding, pushed}
use Rattle.mac_parameters.specs.Parameters.{half_bits_a_bit}
use Rattle.mac_receive.specs.Receiver.{Receiving, left_halves}

-- what a receiver keeps: a decoder and a number in place of the half bits of a reception
pub record KeptReception : Type 0 where
  -- how many bits are lost at the beginning of each reception (profile)
  pub lose : ℕ
  -- the most octets of a frame before its check sequence (3.2.7)
  pub most : ℕ
  -- whether the receiver is deaf: its own station has sent, and it has heard carrier ever since (profile)
  pub deaf : Bool
  -- how many half bits the reception under way has had; 0 where no reception is under way
  pub halves : ℕ
  -- what was given the half bits of the latest reception that were not lost
  pub decoder : Decoding
  -- how many half bits were stepped and leapt so far
  pub steps : ℕ

-- what is kept stands for this receiver: where a reception is under way, the decoder was given its half bits without
-- the lost ones
pub record Hears (r : Receiving) (k : KeptReception) : Type 0 where
  pub same_lose : k.lose ≡ r.lose
  pub same_most : k.most ≡ r.most
  pub same_deaf : k.deaf ≡ r.deaf
  pub count : k.halves ≡ length r.halves
  pub decodes : 0 < length r.halves → Decodes (left_halves r.lose r.halves) k.decoder

-- what is kept stands for a receiver, whatever its reception under way has heard
abbrev pub IsReceiver : KeptReception → Type 0
IsReceiver k = (r : Receiving) × Hears r k

-- the octets of the frame that was received in the last half bit, with its check sequence, where one was
abbrev pub kept_octets : KeptReception → List ℕ
kept_octets k = k.decoder.octets

-- the decoder that goes on with a reception that has had n half bits so far
abbrev pub fresh : ℕ → Decoding → Decoding
fresh n d = if n == 0 then new_decoding else d

-- a decoder after one more half bit of a reception that has had n so far and whose first `lose` bits are lost
abbrev pub decoder_fed : ℕ → ℕ → Decoding → Sym → Decoding
decoder_fed lose n d s = if nat_le (half_bits_a_bit * lose) n then pushed (fresh n d) s else fresh n d

-- one more half bit of a reception
abbrev pub kept_more : KeptReception → Sym → KeptReception
kept_more k s = record k { halves = k.halves + 1; decoder = decoder_fed k.lose k.halves k.decoder s }

-- after n more half bits no reception is under way
abbrev pub still : KeptReception → Bool → ℕ → KeptReception
still k deaf n = record k { deaf = deaf; halves = 0; steps = k.steps + n }

-- one half bit: the symbol that is heard, and whether the receiver's own station is sending
abbrev pub stepped : KeptReception → Sym → Bool → KeptReception
stepped k heard true = still k true 1
stepped k Idle false = still k false 1
stepped k heard false =
    if k.deaf then record k { steps = k.steps + 1 }
    else record (kept_more k heard) { steps = k.steps + 1 }

-- a decoder after these half bits of a reception that has had n before them and whose first `lose` bits are lost
abbrev pub decoder_fed_all : ℕ → ℕ → Decoding → List Sym → Decoding
decoder_fed_all lose n d [] = d
decoder_fed_all lose n d (s ∷ ss) = decoder_fed_all lose (n + 1) (decoder_fed lose n d s) ss
