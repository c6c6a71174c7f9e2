-- The line text of a good frame is received.
use Rattle.std.proofs.Common.{◌≡◌, ◌≢◌, ℕ, ◌+◌, ◌-◌, ◌<◌, ◌≤◌, inl, inr, Bool, false, Option, Some, None, List, length, get_or, refl, sym, ap, ap₂, ◌∙◌, arith, All}
use Rattle.std.specs.Prelude.{◌||◌}
use Rattle.std.specs.Option.{is_none, is_some}
use Rattle.std.proofs.lemmas.Bool.{cases_lt, lt-ltb, le-ltb, false≢true}
use Rattle.std.proofs.lemmas.List.{take_all, get_or_default}
use Rattle.manchester_line.specs.declared.Sym.{Sym}
use Rattle.manchester_line.specs.declared.Sym.TheVariants.{Idle}
use Rattle.manchester_line.specs.declared.decoder.TheConstants.{KEPT_OCTETS}
use Rattle.manchester_line.specs.declared.decoder.Heard.{Heard}
use Rattle.manchester_line.specs.Decoding.{Decoding, new_decoding, all_pushed}
use Rattle.manchester_line.specs.Line.{line}
use Rattle.manchester_line.specs.Reading.{reading, octets_of_bits, spare_of_bits}
use Rattle.manchester_line.proofs.DecoderAnswers.{spoiled_of, count_of, spare_of, octets_of, line_heard, line_octets}
use Rattle.manchester_line.proofs.Levels.{level_at}
use Rattle.manchester_line.proofs.Places.{length_line, line_at_preamble, line_at_octet}
use Rattle.frame_layout.specs.Frame.{verdict_of}
use Rattle.frame_layout.specs.declared.verdict.Verdict.TheVariants.{Good, TooLong}
use Rattle.collision_log.specs.declared.row.Body.TheVariants.{Received}
use Rattle.mac_parameters.specs.Parameters.{IsMost, check_sequence, least_frame, preamble_length}
use Rattle.mac_receive.specs.Receiver.{left_halves, reading_row, reading_octets, judged_row, judged_octets}
use Rattle.reception_laws.specs.WholeReceptions.{IsAllSignal, GoodFrameIsReceived}
use Rattle.reception_laws.proofs.ReceptionsHeard.{has_verdict}

-- all of a line text is a signal
line_signals : (octets : List ℕ) → IsAllSignal (line octets)
line_signals octets = λ i d l.
    let size = length_line octets in
    let signal : get_or (line octets) i Idle ≢ Idle = elim (cases_lt i preamble_length) [
      | inl low ↦ (level_at _ _ _ (line_at_preamble octets i low)).0
      | inr high ↦ (level_at _ _ _ (line_at_octet octets i (i - preamble_length) high (omega (arith, high)) (omega (arith, high, l, size)))).0
    ] in
    λ e. signal (get_or_default (line octets) i Idle d l ∙ e)

some_bits : (o : Option (List Bool)) → is_none o ≡ false → (bits : List Bool) × (o ≡ Some bits)
some_bits None h = absurd (false≢true (sym h))
some_bits (Some bits) h = (bits, refl)

-- what a line text reads as
record Reads (octets : List ℕ) : Type 0 where
  bits : List Bool
  read : reading (line octets) ≡ Some bits
  back : octets_of_bits bits ≡ octets
  whole : spare_of_bits bits ≡ 0

line_reads : (octets : List ℕ) → All (λ x. x < 256) octets → length octets ≤ KEPT_OCTETS → Reads octets
line_reads octets all few =
    let d : Decoding = all_pushed new_decoding (line octets) in
    let heard = line_heard octets d (d.spoiled || is_some d.half) all refl refl in
    let some = some_bits (reading (line octets)) (sym (spoiled_of (line octets) d refl) ∙ ap (λ (h : Heard). h.spoiled) heard) in
    let count : length (octets_of_bits some.0) ≡ length octets = sym (count_of (line octets) d some.0 refl some.1) ∙ ap (λ (h : Heard). h.octets) heard in
    record {
      bits = some.0;
      read = some.1;
      back = sym (take_all KEPT_OCTETS (octets_of_bits some.0) (omega (arith, count, few))) ∙ sym (octets_of (line octets) d some.0 refl some.1) ∙ line_octets octets d all few refl;
      whole = sym (spare_of (line octets) d some.0 refl some.1) ∙ ap (λ (h : Heard). h.spare) heard;
    }

-- a good frame isn't too long
too_long : (octets : List ℕ) (most : ℕ) → least_frame ≤ length octets → most + check_sequence < length octets → verdict_of octets 0 most ≡ TooLong
unfolding verdict_of
too_long octets most enough long = rw (le-ltb (length octets) least_frame enough, lt-ltb (most + check_sequence) (length octets) long)

good_fits : (octets : List ℕ) (most : ℕ) → IsMost most → verdict_of octets 0 most ≡ Good → length octets ≤ KEPT_OCTETS
good_fits octets most is_most good =
    elim (cases_lt (most + check_sequence) (length octets)) [
      | inl long ↦
          let enough : least_frame ≤ length octets = elim is_most [ inl a ↦ omega (arith, a, long) | inr b ↦ omega (arith, b, long) ] in
          let other : Good ≡ TooLong = sym good ∙ too_long octets most enough long in cc
      | inr fits ↦ elim is_most [ inl a ↦ omega (arith, a, fits) | inr b ↦ omega (arith, b, fits) ]
    ]

pub good_frame_is_received : GoodFrameIsReceived
good_frame_is_received r frame awaits lose is_most all good =
    let text : List Sym = line frame in
    let reads : Reads frame = line_reads frame all (good_fits frame r.most is_most good) in
    let size = length_line frame in
    let read : reading (left_halves r.lose text) ≡ Some reads.bits = ap (λ l. reading (left_halves l text)) lose ∙ reads.read in
    let judged : verdict_of (octets_of_bits reads.bits) (spare_of_bits reads.bits) r.most ≡ Good =
    ap₂ (λ os n. verdict_of os n r.most) reads.back reads.whole ∙ good in
    has_verdict r text _ awaits (line_signals frame) (omega (arith, size))
    (ap (λ o. Some (reading_row o r.most (length text))) read
    ∙ ap (λ v. Some (judged_row v (length (octets_of_bits reads.bits)) (length text))) judged
    ∙ ap (λ os. Some (Received (length os))) reads.back)
    (ap (λ o. reading_octets o r.most) read
    ∙ ap (λ v. judged_octets v (octets_of_bits reads.bits)) judged
    ∙ reads.back)
