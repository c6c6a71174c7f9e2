-- What the receptions of a station come to: the numbers of their rows, and what is captured with them.
use Rattle.std.proofs.Common.{◌≡◌, ℕ, ◌+◌, ◌-◌, ◌^◌, ◌<◌, ◌≤◌, Bool, true, false, cond, ltb, Option, Some, None, All, List, [], ◌∷◌, map, take, length, length-append, length-take-le, refl, sym, ap, arith}
use Rattle.std.specs.Prelude.{IfSome, nat_lt}
use Rattle.std.specs.List.{AllByRecursion}
use Rattle.std.proofs.lemmas.Bool.{cond_both, ltb-false}
use Rattle.std.proofs.lemmas.List.Elements.{All-from_recursion, All-take, All-nil, All-cons}
use Rattle.mac_parameters.specs.Parameters.{check_sequence, least_frame, shortest_line_text, most_half_bits}
use Rattle.manchester_line.specs.declared.Sym.{Sym}
use Rattle.manchester_line.specs.declared.Sym.TheVariants.{Idle, Hi, Lo, Clash}
use Rattle.manchester_line.specs.Reading.{bit_value, octet_of, octets_of_bits, reading, spare_of_bits}
use Rattle.frame_layout.specs.Frame.{verdict_of}
use Rattle.frame_layout.specs.declared.verdict.Verdict.{Verdict}
use Rattle.frame_layout.specs.declared.verdict.Verdict.TheVariants.{Good, Fragment, TooLong, FcsError, AlignError}
use Rattle.collision_log.specs.declared.row.Body.{Body}
use Rattle.collision_log.specs.declared.row.Body.TheVariants.{Received, Dropped}
use Rattle.collision_log.specs.declared.row.Why.TheVariants as why
use Rattle.mac_receive.specs.Receiver.{Receiving, Reception, extended, judged_octets, judged_row, left_halves, quiet, reading_octets, reading_row, receiver_step, reception_ended}
use Rattle.network.specs.Captures.{taken_by}
use Rattle.network.specs.declared.outputs.Taken.{Taken}
use Rattle.quiet_state.specs.PlanStates.{HappensToStation, ended_frames, received_sizes, taken_size}

-- what an event ends, and what it receives
abbrev pub ended_by : Option Body → List ℕ
ended_by None = []
ended_by (Some body) = ended_frames body

abbrev pub received_by : ℕ → Option Body → List (ℕ × ℕ)
received_by t None = []
received_by t (Some body) = received_sizes t body

abbrev pub AreOctets : List ℕ → Type 0
AreOctets octets = All (λ octet. octet < 2 ^ 8) octets

abbrev pub HoldsOctets : Taken → Type 0
HoldsOctets x = AreOctets x.octets

-- an event of a receiver with the octets that go with it, in half bit t
pub record IsGiven (most t : ℕ) (event : Option Body) (octets : List ℕ) : Type 0 where
  pub happens : (frames u : ℕ) → IfSome event (HappensToStation frames most u)
  pub ends : ended_by event ≡ []
  pub sizes : received_by t event ≡ map taken_size (taken_by t event octets)
  pub captured : All HoldsOctets (taken_by t event octets)

nothing_given : (most t : ℕ) (octets : List ℕ) → IsGiven most t None octets
nothing_given most t octets = record { happens = λ frames u. tt; ends = refl; sizes = refl; captured = All-nil HoldsOctets }

-- the octets of bits
bit_small : (b : Bool) → bit_value b ≤ 1
bit_small true = omega arith
bit_small false = omega arith

octet_small : (a b c d e f g h : Bool) → octet_of a b c d e f g h < 2 ^ 8
octet_small a b c d e f g h =
    omega (arith, bit_small a, bit_small b, bit_small c, bit_small d, bit_small e, bit_small f, bit_small g, bit_small h)

are_octets : (bs : List Bool) → AllByRecursion (λ octet. octet < 2 ^ 8) (octets_of_bits bs)
are_octets [] = tt
are_octets (a ∷ []) = tt
are_octets (a ∷ b ∷ []) = tt
are_octets (a ∷ b ∷ c ∷ []) = tt
are_octets (a ∷ b ∷ c ∷ d ∷ []) = tt
are_octets (a ∷ b ∷ c ∷ d ∷ e ∷ []) = tt
are_octets (a ∷ b ∷ c ∷ d ∷ e ∷ f ∷ []) = tt
are_octets (a ∷ b ∷ c ∷ d ∷ e ∷ f ∷ g ∷ []) = tt
are_octets (a ∷ b ∷ c ∷ d ∷ e ∷ f ∷ g ∷ h ∷ rest) = (octet_small a b c d e f g h, are_octets rest)

-- a good frame has its size
record HasSize (most : ℕ) (octets : List ℕ) : Type 0 where
  some : least_frame ≤ length octets
  few : length octets ≤ most + check_sequence

good_size : (octets : List ℕ) (spare most : ℕ) → verdict_of octets spare most ≡ Good → HasSize most octets
unfolding verdict_of
good_size octets spare most good =
    judged _ (ltb (length octets) least_frame) (ltb (most + check_sequence) (length octets)) (λ e. ltb-false _ _ e) (λ e. ltb-false _ _ e) good
  where
    judged : (rest : Verdict) (small large : Bool) → (small ≡ false → least_frame ≤ length octets) → (large ≡ false → length octets ≤ most + check_sequence) → cond small Fragment (cond large TooLong rest) ≡ Good → HasSize most octets
    judged rest true large some few is = absurd (cc)
    judged rest false true some few is = absurd (cc)
    judged rest false false some few is = record { some = some refl; few = few refl }

same_size : (t : ℕ) (octets : List ℕ) → least_frame ≤ length octets → (t, length octets) ∷ [] ≡ map taken_size (taken_by t (Some (Received (length octets))) octets)
same_size t octets some =
    let cut : length (take (length octets - check_sequence) octets) ≡ length octets - check_sequence = length-take-le (length octets - check_sequence) octets (omega arith) in
    let whole : length octets ≡ length (take (length octets - check_sequence) octets) + check_sequence = omega (arith, cut, some) in
    ap (λ n. (let one : List (ℕ × ℕ) = (t, n) ∷ [] in one)) whole

judged_given : (most t : ℕ) (v : Verdict) (octets : List ℕ) (halves : ℕ) → halves ≤ most_half_bits → AreOctets octets → (v ≡ Good → HasSize most octets) → IsGiven most t (Some (judged_row v (length octets) halves)) (judged_octets v octets)
judged_given most t Good octets halves short all size =
    let s = size refl in
    record {
      happens = λ frames u. (s.some, s.few);
      ends = refl;
      sizes = same_size t octets s.some;
      captured = All-cons HoldsOctets (record { t = t; octets = take (length octets - check_sequence) octets }) [] (All-take (λ octet. octet < 2 ^ 8) (length octets - check_sequence) octets all) (All-nil HoldsOctets);
    }
judged_given most t Fragment octets halves short all size = record { happens = λ frames u. short; ends = refl; sizes = refl; captured = All-nil HoldsOctets }
judged_given most t TooLong octets halves short all size = record { happens = λ frames u. short; ends = refl; sizes = refl; captured = All-nil HoldsOctets }
judged_given most t FcsError octets halves short all size = record { happens = λ frames u. short; ends = refl; sizes = refl; captured = All-nil HoldsOctets }
judged_given most t AlignError octets halves short all size = record { happens = λ frames u. short; ends = refl; sizes = refl; captured = All-nil HoldsOctets }

reading_given : (most t : ℕ) (read : Option (List Bool)) (halves : ℕ) → halves ≤ most_half_bits → IsGiven most t (Some (reading_row read most halves)) (reading_octets read most)
reading_given most t None halves short =
    cond_both (nat_lt halves shortest_line_text) (Dropped why.Fragment halves) (Dropped why.Damaged halves) (λ body. IsGiven most t (Some body) [])
    (λ _. record { happens = λ frames u. short; ends = refl; sizes = refl; captured = All-nil HoldsOctets })
    (λ _. record { happens = λ frames u. short; ends = refl; sizes = refl; captured = All-nil HoldsOctets })
reading_given most t (Some bits) halves short =
    judged_given most t (verdict_of (octets_of_bits bits) (spare_of_bits bits) most) (octets_of_bits bits) halves short
    (All-from_recursion (λ octet. octet < 2 ^ 8) (octets_of_bits bits) (are_octets bits)) (good_size (octets_of_bits bits) (spare_of_bits bits) most)

-- a half bit of a receiver
pub record IsReception (t : ℕ) (r : Receiving) (x : Reception) : Type 0 where
  pub halves : length x.state.halves ≤ t + 1
  pub given : IsGiven r.most t x.event x.octets

ended_sound : (t : ℕ) (r : Receiving) (hs : List Sym) → t ≤ most_half_bits → hs ≡ r.halves → length hs ≤ t → IsReception t r (reception_ended r hs)
ended_sound t r [] late e short = record { halves = (let same : length r.halves ≡ 0 = ap length (sym e) in omega (arith, same)); given = nothing_given r.most t [] }
ended_sound t r (s ∷ ss) late e short =
    record { halves = omega arith; given = reading_given r.most t (reading (left_halves r.lose (s ∷ ss))) (length (s ∷ ss)) (omega (arith, short, late)) }

quiet_sound : (t : ℕ) (r : Receiving) → length r.halves ≤ t → IsReception t r (quiet r)
quiet_sound t r short = record { halves = omega (arith, short); given = nothing_given r.most t [] }

idle_sound : (t : ℕ) (r : Receiving) → t ≤ most_half_bits → length r.halves ≤ t → IsReception t r (receiver_step r Idle false)
idle_sound t r late short =
    cond_both r.deaf (quiet (record r { deaf = false; halves = [] })) (reception_ended r r.halves) (IsReception t r)
    (λ _. record { halves = omega arith; given = nothing_given r.most t [] }) (λ _. ended_sound t r r.halves late refl short)

carrier_sound : (t : ℕ) (r : Receiving) (s : Sym) → length r.halves ≤ t → IsReception t r (cond r.deaf (quiet r) (extended r s))
carrier_sound t r s short =
    cond_both r.deaf (quiet r) (extended r s) (IsReception t r) (λ _. quiet_sound t r short)
    (λ _. record { halves = (let more = length-append r.halves (s ∷ []) in omega (arith, more, short)); given = nothing_given r.most t [] })

pub reception_sound : (t : ℕ) (r : Receiving) (h : Sym) (sending : Bool) → t ≤ most_half_bits → length r.halves ≤ t → IsReception t r (receiver_step r h sending)
reception_sound t r h true late short = record { halves = omega arith; given = nothing_given r.most t [] }
reception_sound t r Idle false late short = idle_sound t r late short
reception_sound t r Hi false late short = carrier_sound t r Hi short
reception_sound t r Lo false late short = carrier_sound t r Lo short
reception_sound t r Clash false late short = carrier_sound t r Clash short
