-- The row of a reception, from what the decoder says of it (4.2.4).
use Rattle.std.proofs.Common.{◌≡◌, ℕ, ◌+◌, ◌<◌, ◌≤◌, inl, inr, Bool, true, false, Option, Some, None, List, length, take, refl, sym, ap, ap₂, ◌∙◌, arith, length-take-le}
use Rattle.std.specs.Prelude.{nat_lt, if◌then◌else◌}
use Rattle.std.specs.Option.{is_none}
use Rattle.std.proofs.lemmas.Bool.{cases_lt, false≢true, le-ltb, lt-ltb}
use Rattle.std.proofs.lemmas.List.{take_all}
use Rattle.manchester_line.specs.Reading.{octets_of_bits, spare_of_bits}
use Rattle.frame_layout.specs.Frame.{verdict_of}
use Rattle.mac_parameters.specs.Parameters.{IsMost, most_octets_tagged, shortest_line_text}
use Rattle.frame_layout.specs.declared.verdict.Verdict.TheVariants.{TooLong}
use Rattle.collision_log.specs.declared.row.Body.{Body}
use Rattle.collision_log.specs.declared.row.Body.TheVariants.{Dropped}
use Rattle.collision_log.specs.declared.row.Why.TheVariants as why
use Rattle.mac_receive.specs.Receiver.{judged_row, reading_row}

pub spoiled_row : (o : Option (List Bool)) (most halves : ℕ) → is_none o ≡ true → reading_row o most halves ≡ (if nat_lt halves shortest_line_text then Dropped why.Fragment halves else Dropped why.Damaged halves)
spoiled_row None most halves h = refl
spoiled_row (Some bits) most halves h = absurd (false≢true h)

pub most_is : (most : ℕ) → IsMost most → most ≤ most_octets_tagged
most_is most (inl h) = omega (arith, h)
most_is most (inr h) = omega (arith, h)

pub too_long : (xs : List ℕ) (spare most : ℕ) → 64 ≤ length xs → most + 4 < length xs → verdict_of xs spare most ≡ TooLong
unfolding verdict_of
too_long xs spare most least long = rw (le-ltb (length xs) 64 least, lt-ltb (most + 4) (length xs) long)

-- the octets past 1,523 change no verdict
kept_verdict : (xs : List ℕ) (spare most : ℕ) → IsMost most → verdict_of (take 1523 xs) spare most ≡ verdict_of xs spare most
kept_verdict xs spare most h =
    elim (cases_lt (length xs) 1524) [
      | inl low ↦ ap (λ ys. verdict_of ys spare most) (take_all 1523 xs (omega (arith, low)))
      | inr high ↦
          let len : length (take 1523 xs) ≡ 1523 = length-take-le 1523 xs (omega (arith, high)) in
          let limit : most ≤ most_octets_tagged = most_is most h in
          too_long (take 1523 xs) spare most (omega (arith, len)) (omega (arith, len, limit))
          ∙ sym (too_long xs spare most (omega (arith, high)) (omega (arith, high, limit)))
    ]

pub whole_row : (o : Option (List Bool)) (kept : List ℕ) (spare count most halves : ℕ) (body : Body) → is_none o ≡ false → IsMost most →
    ((bits : List Bool) → o ≡ Some bits → kept ≡ take 1523 (octets_of_bits bits)) →
    ((bits : List Bool) → o ≡ Some bits → spare ≡ spare_of_bits bits) →
    ((bits : List Bool) → o ≡ Some bits → count ≡ length (octets_of_bits bits)) →
    body ≡ judged_row (verdict_of kept spare most) count halves → body ≡ reading_row o most halves
whole_row None kept spare count most halves body h most_ok k s n is = absurd (false≢true (sym h))
whole_row (Some bits) kept spare count most halves body h most_ok k s n is =
    is
    ∙ ap₂ (λ v c. judged_row v c halves)
    (ap₂ (λ xs p. verdict_of xs p most) (k bits refl) (s bits refl) ∙ kept_verdict (octets_of_bits bits) (spare_of_bits bits) most most_ok)
    (n bits refl)
