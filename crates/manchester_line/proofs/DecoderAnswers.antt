-- What a decoder answers, against the reading of the half bits that it was given.
use Rattle.manchester_line.specs.declared.decoder.TheConstants.{KEPT_OCTETS}
use Rattle.std.proofs.Common.{◌≡◌, ℕ, ◌+◌, ◌*◌, ◌<◌, ◌≤◌, Bool, true, false, Option, Some, None, List, length, take, refl, ap, ◌∙◌, All}
use Rattle.std.specs.Prelude.{◌||◌}
use Rattle.std.specs.Option.{is_none, is_some}
use Rattle.std.proofs.lemmas.List.{take_all}
use Rattle.std.proofs.lemmas.Option.{none-some, same_Some}
use Rattle.manchester_line.specs.declared.decoder.Heard.{Heard}
use Rattle.manchester_line.specs.declared.Sym.{Sym}
use Rattle.manchester_line.specs.Line.{line}
use Rattle.manchester_line.specs.Reading.{reading, octets_of_bits, spare_of_bits}
use Rattle.manchester_line.specs.Decoding.{Decoding, new_decoding, all_pushed}
use Rattle.manchester_line.proofs.Reader.{new_reader, all_read, whole}
use Rattle.manchester_line.proofs.ReaderReads.{law}
use Rattle.manchester_line.proofs.Packed.{packed, decoding_is}
use Rattle.manchester_line.proofs.RoundTrip.{reading_line, octets_back, no_spare}
use Rattle.mac_parameters.specs.Parameters.{preamble_length, half_bits_an_octet}
use Rattle.manchester_line.proofs.Places.{length_line}

keeps : (halves : List Sym) (d : Decoding) → d ≡ all_pushed new_decoding halves → d ≡ packed (length halves) (all_read new_reader halves)
keeps halves d h = h ∙ decoding_is halves

pub halves_of : (halves : List Sym) (d : Decoding) → d ≡ all_pushed new_decoding halves → d.halves ≡ length halves
halves_of halves d h = ap (λ k. k.halves) (keeps halves d h)

broken : (half : Option Sym) (spoiled : Bool) (bits : List Bool) → (spoiled || is_some half) ≡ is_none (whole half spoiled bits)
broken None true bits = refl
broken None false bits = refl
broken (Some a) true bits = refl
broken (Some a) false bits = refl

pub spoiled_of : (halves : List Sym) (d : Decoding) → d ≡ all_pushed new_decoding halves → (d.spoiled || is_some d.half) ≡ is_none (reading halves)
spoiled_of halves d h =
    let r = all_read new_reader halves in
    ap (λ k. k.spoiled || is_some k.half) (keeps halves d h) ∙ broken r.half r.spoiled r.bits ∙ ap is_none (law halves)

whole_is : (half : Option Sym) (spoiled : Bool) (xs bits : List Bool) → whole half spoiled xs ≡ Some bits → xs ≡ bits
whole_is None false xs bits h = same_Some xs bits h
whole_is None true xs bits h = absurd (none-some bits h)
whole_is (Some a) spoiled xs bits h = absurd (none-some bits h)

bits_are : (halves : List Sym) (bits : List Bool) → reading halves ≡ Some bits → (all_read new_reader halves).bits ≡ bits
bits_are halves bits h =
    let r = all_read new_reader halves in
    whole_is r.half r.spoiled r.bits bits (law halves ∙ h)

pub count_of : (halves : List Sym) (d : Decoding) (bits : List Bool) → d ≡ all_pushed new_decoding halves → reading halves ≡ Some bits → d.count ≡ length (octets_of_bits bits)
count_of halves d bits h is = ap (λ k. k.count) (keeps halves d h) ∙ ap (λ b. length (octets_of_bits b)) (bits_are halves bits is)

pub spare_of : (halves : List Sym) (d : Decoding) (bits : List Bool) → d ≡ all_pushed new_decoding halves → reading halves ≡ Some bits → d.spare ≡ spare_of_bits bits
spare_of halves d bits h is = ap (λ k. k.spare) (keeps halves d h) ∙ ap spare_of_bits (bits_are halves bits is)

pub octets_of : (halves : List Sym) (d : Decoding) (bits : List Bool) → d ≡ all_pushed new_decoding halves → reading halves ≡ Some bits → d.octets ≡ take KEPT_OCTETS (octets_of_bits bits)
octets_of halves d bits h is = ap (λ k. k.octets) (keeps halves d h) ∙ ap (λ b. take KEPT_OCTETS (octets_of_bits b)) (bits_are halves bits is)

same_heard : (o o' s s' h h' : ℕ) (b b' : Bool) → o ≡ o' → s ≡ s' → b ≡ b' → h ≡ h' → ◌≡◌ {A = Heard} (record { octets = o; spare = s; spoiled = b; halves = h }) (record { octets = o'; spare = s'; spoiled = b'; halves = h' })
same_heard o o' s s' h h' b b' eo es eb eh = rw (eo, es, eb, eh)

-- a line text is read back
pub line_heard : (octets : List ℕ) (d : Decoding) (spoiled : Bool) → All (λ x. x < 256) octets → d ≡ all_pushed new_decoding (line octets) → spoiled ≡ (d.spoiled || is_some d.half) →
    ◌≡◌ {A = Heard} (record { octets = d.count; spare = d.spare; spoiled = spoiled; halves = d.halves }) (record { octets = length octets; spare = 0; spoiled = false; halves = preamble_length + half_bits_an_octet * length octets })
line_heard octets d spoiled all h is =
    same_heard _ _ _ _ _ _ _ _
    (count_of (line octets) d _ h (reading_line octets) ∙ ap length (octets_back octets all))
    (spare_of (line octets) d _ h (reading_line octets) ∙ no_spare octets)
    (is ∙ spoiled_of (line octets) d h ∙ ap is_none (reading_line octets))
    (halves_of (line octets) d h ∙ length_line octets)

pub line_octets : (octets : List ℕ) (d : Decoding) → All (λ x. x < 256) octets → length octets ≤ KEPT_OCTETS → d ≡ all_pushed new_decoding (line octets) → d.octets ≡ octets
line_octets octets d all few h =
    octets_of (line octets) d _ h (reading_line octets) ∙ ap (take KEPT_OCTETS) (octets_back octets all) ∙ take_all KEPT_OCTETS octets few
