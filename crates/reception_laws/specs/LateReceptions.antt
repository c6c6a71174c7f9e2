-- Receivers that put aside what they hear of a reception, and read it when it is over. How that is kept is this
-- project's own choice (profile).
use Rattle.std.specs.Prelude.{◌≡◌, ℕ, ◌+◌, false, Some, List, [], ◌∷◌, length}
use Rattle.manchester_line.specs.declared.Sym.{Sym}
use Rattle.manchester_line.specs.declared.Sym.TheVariants.{Idle}
use Rattle.manchester_line.specs.Decoding.{new_decoding, all_pushed}
use Rattle.collision_log.specs.declared.row.Body.TheVariants.{Received}
use Rattle.mac_receive.specs.Receiver.{Receiving, left_halves, receiver_step}
use Rattle.mac_receive.specs.KeptReceiver.{KeptReception, Hears}
use Rattle.reception_laws.specs.WholeReceptions.{TextVerdict}

-- What is kept stands for a receiver that isn't deaf, with no reception under way (4.2.4, profile).
pub record IsAtRest (k : KeptReception) : Type 0 where
  pub hearing : k.deaf ≡ false
  pub none : k.halves ≡ 0

-- What a receiver keeps that has heard this text as its reception under way, after so many half bits in all: it loses
-- so many bits, and takes frames of so many octets at most before the check sequence (4.2.4, profile).
abbrev pub text_kept : ℕ → ℕ → List Sym → ℕ → KeptReception
text_kept lose most text steps =
    record {
      lose = lose;
      most = most;
      deaf = false;
      halves = length text;
      decoder = all_pushed new_decoding (left_halves lose text);
      steps = steps;
    }

-- What a receiver at rest keeps once it has read this text, one symbol a half bit; without a text it keeps what it had
-- (4.2.4, profile).
abbrev pub with_text : KeptReception → List Sym → KeptReception
with_text k [] = k
with_text k (s ∷ ss) = text_kept k.lose k.most (s ∷ ss) (k.steps + length (s ∷ ss))

-- Each receiver that loses so many bits and takes frames of so many octets has this verdict at the Idle after a
-- reception of which it keeps what it would of this text: the row, with as many octets as it tells, and the octets of a
-- frame that is received (4.2.4).
pub record IsVerdictFor (lose most : ℕ) (text : List Sym) (verdict : TextVerdict) : Type 0 where
  pub event : (r : Receiving) → Hears r (text_kept lose most text 0) →
      verdict.event ≡ (receiver_step r Idle false).event
  pub octets : (r : Receiving) (n : ℕ) → Hears r (text_kept lose most text 0) → verdict.event ≡ Some (Received n) →
      verdict.octets ≡ (receiver_step r Idle false).octets
  pub count : (n : ℕ) → verdict.event ≡ Some (Received n) → length verdict.octets ≡ n
