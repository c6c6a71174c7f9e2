-- What a sending emits is never Idle, and how long it is.
use Rattle.std.proofs.Common.{◌≡◌, ◌≢◌, ℕ, ◌+◌, ◌*◌, ◌-◌, ◌<◌, ◌≤◌, ltb, Option, Some, None, List, length, inl, inr, arith}
use Rattle.std.proofs.lemmas.Bool.{cond_both, cases_lt, ltb-true}
use Rattle.std.proofs.lemmas.Bool.Decides.{nat_tests}
use Rattle.mac_parameters.specs.Parameters.{half_bits_an_octet, least_frame, preamble_length, shortest_sending}
use Rattle.manchester_line.specs.declared.Sym.TheVariants.{Idle}
use Rattle.manchester_line.specs.Line.{jam_at}
use Rattle.manchester_line.proofs.Levels.{jam_level, level_at}
use Rattle.manchester_line.proofs.Places.{length_line, line_at_preamble, line_at_octet}
use Rattle.mac_transmit.specs.Sender.{line_length, line_at, jam_start, sending_length, symbol_of}
use Rattle.mac_transmit.specs.Attempts.{GoesOn}

-- a hit, if there is one, is below n
abbrev pub IsHitIn : Option ℕ → ℕ → Type 0
IsHitIn None n = Unit {0}
IsHitIn (Some hit) n = hit < n

text_length : (octets : List ℕ) → line_length octets ≡ preamble_length + half_bits_an_octet * length octets
unfolding line_length
text_length octets = length_line octets

jam_least : (hit : ℕ) → preamble_length ≤ jam_start hit
jam_least hit = grind (arith, nat_tests)

pub jam_later : (hit : ℕ) → hit < jam_start hit
jam_later hit = grind (arith, nat_tests)

-- the jam begins at the end of a text of whole bits at the latest
jam_within : (hit n m : ℕ) → hit < n → n ≡ preamble_length + half_bits_an_octet * m → jam_start hit ≤ n
jam_within hit n m l e = grind (arith, nat_tests)

line_busy : (octets : List ℕ) (p : ℕ) → p < line_length octets → line_at octets p ≢ Idle
unfolding line_at
line_busy octets p l =
    let n : line_length octets ≡ preamble_length + half_bits_an_octet * length octets = text_length octets in
    elim (cases_lt p preamble_length) [
      | inl low ↦ (level_at _ _ _ (line_at_preamble octets p low)).0
      | inr high ↦ (level_at _ _ _ (line_at_octet octets p (p - preamble_length) high (omega arith) (omega arith))).0
    ]

pub symbol_busy : (octets : List ℕ) (hit : Option ℕ) (p : ℕ) → IsHitIn hit (line_length octets) → p < sending_length octets hit → symbol_of octets hit p ≢ Idle
symbol_busy octets None p h l = line_busy octets p l
symbol_busy octets (Some hit) p h l =
    cond_both (ltb p (jam_start hit)) (line_at octets p) (jam_at (p - jam_start hit)) (λ s. s ≢ Idle)
    (λ e. line_busy octets p (let w : jam_start hit ≤ line_length octets = jam_within hit (line_length octets) (length octets) h (text_length octets) in (let b : p < jam_start hit = ltb-true p (jam_start hit) e in omega arith)))
    (λ _. (jam_level (p - jam_start hit)).0)

pub length_least : (octets : List ℕ) (hit : Option ℕ) → least_frame ≤ length octets → shortest_sending ≤ sending_length octets hit
length_least octets None text = omega (arith, text_length octets)
length_least octets (Some hit) text = omega (arith, jam_least hit)

pub length_enough : (octets : List ℕ) (hit : Option ℕ) (start end : ℕ) → least_frame ≤ length octets → end ≡ start + sending_length octets hit → GoesOn hit start end
length_enough octets None start end text e = omega (arith, text_length octets)
length_enough octets (Some hit) start end text e = omega (arith, jam_later hit)
