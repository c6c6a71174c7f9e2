-- What one half bit does to a reception under way, and what its row then is.
use Rattle.std.proofs.Common.{◌≡◌, ℕ, zero, suc, ◌+◌, ◌*◌, ◌<◌, ◌≤◌, Bool, true, false, Option, Some, None, List, [], ◌∷◌, ◌++◌, length, drop, refl, ap, arith, length-append}
use Rattle.std.specs.Prelude.{nat_lt, if◌then◌else◌}
use Rattle.manchester_line.specs.declared.Sym.{Sym}
use Rattle.manchester_line.specs.declared.Sym.TheVariants.{Idle, Hi, Lo, Clash}
use Rattle.mac_parameters.specs.Parameters.{check_sequence, half_bits_a_bit, least_frame, shortest_line_text}
use Rattle.manchester_line.specs.Reading.{reading, octets_of_bits, spare_of_bits}
use Rattle.frame_layout.specs.Frame.{verdict_of, has_right_fcs}
use Rattle.frame_layout.specs.declared.verdict.Verdict.{Verdict}
use Rattle.frame_layout.specs.declared.verdict.Verdict.TheVariants.{Good, Fragment, TooLong, FcsError, AlignError}
use Rattle.collision_log.specs.declared.row.Body.{Body}
use Rattle.collision_log.specs.declared.row.Body.TheVariants.{Received, Dropped}
use Rattle.collision_log.specs.declared.row.Why.TheVariants as why
use Rattle.mac_receive.specs.Receiver.{Receiving, Reception, receiver_step, left_halves, quiet, reception_ended, extended, judged_row, reading_row}
use Rattle.window_room.proofs.OctetsOfReadings.{Needs, reading_needs}

-- the row of a reception of h half bits: the octets of a frame that is received fit
pub record FrameFits (h most octets : ℕ) : Type 0 where
  pub least : least_frame ≤ octets
  pub few : octets ≤ most + check_sequence
  pub halves : 16 * octets + 4 ≤ h

abbrev pub RowFits : ℕ → ℕ → Body → Type 0
RowFits h most (Received octets) = FrameFits h most octets
RowFits h most _ = Unit {0}

-- a verdict of a frame of so many octets
abbrev Sizes : ℕ → ℕ → Verdict → Type 0
Sizes octets most Good = (least_frame ≤ octets) × (octets ≤ most + check_sequence)
Sizes octets most _ = Unit {0}

sizes_rest : (t u : Bool) (octets most : ℕ) → least_frame ≤ octets → octets ≤ most + check_sequence → Sizes octets most (if t then Good else if u then AlignError else FcsError)
sizes_rest true u octets most a b = (a, b)
sizes_rest false true octets most a b = tt
sizes_rest false false octets most a b = tt

sizes_if : (s l t u : Bool) (octets most : ℕ) → (s ≡ false → least_frame ≤ octets) → (l ≡ false → octets ≤ most + check_sequence) → Sizes octets most (if s then Fragment else if l then TooLong else if t then Good else if u then AlignError else FcsError)
sizes_if true l t u octets most a b = tt
sizes_if false true t u octets most a b = tt
sizes_if false false t u octets most a b = sizes_rest t u octets most (a refl) (b refl)

sizes : (xs : List ℕ) (spare most : ℕ) → Sizes (length xs) most (verdict_of xs spare most)
unfolding verdict_of
sizes xs spare most = sizes_if (nat_lt (length xs) least_frame) (nat_lt (most + check_sequence) (length xs)) (has_right_fcs xs) (nat_lt 0 spare) (length xs) most
    (λ e. grind (arith, e)) (λ e. grind (arith, e))

judged_fits : (v : Verdict) (octets halves most h : ℕ) → Sizes octets most v → (0 < octets → 16 * octets + 4 ≤ h) → RowFits h most (judged_row v octets halves)
judged_fits Good octets halves most h s n = record { least = s.0; few = s.1; halves = n (omega (arith, s.0)) }
judged_fits Fragment octets halves most h s n = tt
judged_fits TooLong octets halves most h s n = tt
judged_fits FcsError octets halves most h s n = tt
judged_fits AlignError octets halves most h s n = tt

spoiled_fits : (t : Bool) (halves most h : ℕ) → RowFits h most (if t then Dropped why.Fragment halves else Dropped why.Damaged halves)
spoiled_fits true halves most h = tt
spoiled_fits false halves most h = tt

row_fits : (o : Option (List Bool)) (most halves h : ℕ) → Needs h o → RowFits h most (reading_row o most halves)
row_fits None most halves h n = spoiled_fits (nat_lt halves shortest_line_text) halves most h
row_fits (Some bits) most halves h n =
    judged_fits (verdict_of (octets_of_bits bits) (spare_of_bits bits) most) (length (octets_of_bits bits)) halves most h
    (sizes (octets_of_bits bits) (spare_of_bits bits) most) n

-- the end of a reception
pub record Ends (h most after : ℕ) (body : Body) : Type 0 where
  pub some : 0 < h
  pub none_left : after ≡ 0
  pub fits : RowFits h most body

-- with what happens, a reception under way goes from h half bits to so many
abbrev pub Steps : ℕ → ℕ → ℕ → Option Body → Type 0
Steps h most after None = after ≤ h + 1
Steps h most after (Some body) = Ends h most after body

abbrev pub StepsTo : Receiving → Reception → Type 0
StepsTo r x = (x.state.most ≡ r.most) × Steps (length r.halves) r.most (length x.state.halves) x.event

length_drop : (n : ℕ) (xs : List Sym) → length (drop n xs) ≤ length xs
length_drop zero xs = omega arith
length_drop (suc n) [] = omega arith
length_drop (suc n) (x ∷ xs) = omega (arith, length_drop n xs)

ended_steps : (r : Receiving) (hs : List Sym) → r.halves ≡ hs → StepsTo r (reception_ended r hs)
ended_steps r [] e = (refl, omega arith)
ended_steps r (s ∷ ss) e =
    let len : length r.halves ≡ suc (length ss) = ap length e in
    let few : length (left_halves r.lose (s ∷ ss)) ≤ suc (length ss) = length_drop (half_bits_a_bit * r.lose) (s ∷ ss) in (
      refl,
      record {
        some = omega (arith, len);
        none_left = refl;
        fits = row_fits (reading (left_halves r.lose (s ∷ ss))) r.most (length (s ∷ ss)) (length r.halves) (reading_needs (left_halves r.lose (s ∷ ss)) (length r.halves) (omega (arith, len, few)));
      },
    )

idle_steps : (r : Receiving) (d : Bool) → StepsTo r (if d then quiet (record r { deaf = false; halves = [] }) else reception_ended r r.halves)
idle_steps r true = (refl, omega arith)
idle_steps r false = ended_steps r r.halves refl

signal_steps : (r : Receiving) (s : Sym) (d : Bool) → StepsTo r (if d then quiet r else extended r s)
signal_steps r s true = (refl, omega arith)
signal_steps r s false = let len : length (r.halves ++ s ∷ []) ≡ length r.halves + 1 = length-append r.halves (s ∷ []) in (refl, omega (arith, len))

pub steps : (r : Receiving) (heard : Sym) (sending : Bool) → StepsTo r (receiver_step r heard sending)
steps r heard true = (refl, omega arith)
steps r Idle false = idle_steps r r.deaf
steps r Hi false = signal_steps r Hi r.deaf
steps r Lo false = signal_steps r Lo r.deaf
steps r Clash false = signal_steps r Clash r.deaf
