-- The octets that a verdict has, from its row: those of a frame that is received, and none otherwise.
use Rattle.std.proofs.Common.{◌≡◌, ℕ, Bool, true, false, Option, Some, None, List, [], ◌∷◌, length, refl, sym, ap, ◌∙◌, arith}
use Rattle.std.specs.Prelude.{nat_lt, if◌then◌else◌}
use Rattle.std.proofs.lemmas.Option.{none-some, same_Some}
use Rattle.manchester_line.specs.declared.Sym.{Sym}
use Rattle.manchester_line.specs.Reading.{reading, octets_of_bits, spare_of_bits}
use Rattle.frame_layout.specs.Frame as frame
use Rattle.frame_layout.specs.declared.verdict.Verdict as judgement
use Rattle.frame_layout.specs.declared.verdict.Verdict.TheVariants.{Good, Fragment, TooLong, FcsError, AlignError}
use Rattle.collision_log.specs.declared.row.Body.{Body}
use Rattle.collision_log.specs.declared.row.Body.TheVariants.{Received, Dropped}
use Rattle.collision_log.specs.declared.row.Why.TheVariants as why
use Rattle.mac_parameters.specs.Parameters.{shortest_line_text}
use Rattle.mac_receive.specs.Receiver.{left_halves, judged_row, judged_octets, reading_row, reading_octets}
use Rattle.reception_laws.specs.WholeReceptions.{IsAllSignal, TextVerdict, verdict_of_text, octets_with}
use Rattle.reception_laws.proofs.ReceptionsHeard.{verdict_read}

judged_with : (v : judgement.Verdict) (octets kept : List ℕ) (halves : ℕ) → ((n : ℕ) → judged_row v (length octets) halves ≡ Received n → kept ≡ judged_octets v octets) → octets_with (Some (judged_row v (length octets) halves)) kept ≡ judged_octets v octets
judged_with Good octets kept halves h = h (length octets) refl
judged_with Fragment octets kept halves h = refl
judged_with TooLong octets kept halves h = refl
judged_with FcsError octets kept halves h = refl
judged_with AlignError octets kept halves h = refl

spoiled_with : (t : Bool) (halves : ℕ) (kept : List ℕ) → octets_with (Some (if t then Dropped why.Fragment halves else Dropped why.Damaged halves)) kept ≡ []
spoiled_with true halves kept = refl
spoiled_with false halves kept = refl

read_with : (o : Option (List Bool)) (most halves : ℕ) (kept : List ℕ) → ((n : ℕ) → reading_row o most halves ≡ Received n → kept ≡ reading_octets o most) → octets_with (Some (reading_row o most halves)) kept ≡ reading_octets o most
read_with None most halves kept h = spoiled_with (nat_lt halves shortest_line_text) halves kept
read_with (Some bits) most halves kept h = judged_with (frame.verdict_of (octets_of_bits bits) (spare_of_bits bits) most) (octets_of_bits bits) kept halves h

-- where a frame is received its octets are those that are kept
pub told_with : (lose most : ℕ) (text : List Sym) (event : Option Body) (kept : List ℕ) → IsAllSignal text → event ≡ (verdict_of_text lose most text).event → ((n : ℕ) → event ≡ Some (Received n) → kept ≡ (verdict_of_text lose most text).octets) → octets_with event kept ≡ (verdict_of_text lose most text).octets
told_with lose most [] event kept all is h = ap (λ e. octets_with e kept) is
told_with lose most (s ∷ ss) event kept all is h =
    let text : List Sym = s ∷ ss in
    let bits : Option (List Bool) = reading (left_halves lose text) in
    let read = verdict_read lose most text all (omega arith) in
    let row : event ≡ Some (reading_row bits most (length text)) = is ∙ ap (λ (v : TextVerdict). v.event) read in
    let octets : (verdict_of_text lose most text).octets ≡ reading_octets bits most = ap (λ (v : TextVerdict). v.octets) read in
    ap (λ e. octets_with e kept) row
    ∙ read_with bits most (length text) kept (λ n e. h n (row ∙ ap Some e) ∙ octets)
    ∙ sym octets

judged_count : (v : judgement.Verdict) (octets : List ℕ) (halves n : ℕ) → judged_row v (length octets) halves ≡ Received n → length (judged_octets v octets) ≡ n
judged_count Good octets halves n h = cc
judged_count Fragment octets halves n h = cc
judged_count TooLong octets halves n h = cc
judged_count FcsError octets halves n h = cc
judged_count AlignError octets halves n h = cc

read_count : (o : Option (List Bool)) (most halves n : ℕ) (t : Bool) → t ≡ nat_lt halves shortest_line_text → reading_row o most halves ≡ Received n → length (reading_octets o most) ≡ n
read_count None most halves n true e h =
    let row : Dropped why.Fragment halves ≡ Received n = ap (λ b. if b then Dropped why.Fragment halves else Dropped why.Damaged halves) e ∙ h in cc
read_count None most halves n false e h =
    let row : Dropped why.Damaged halves ≡ Received n = ap (λ b. if b then Dropped why.Fragment halves else Dropped why.Damaged halves) e ∙ h in cc
read_count (Some bits) most halves n t e h = judged_count (frame.verdict_of (octets_of_bits bits) (spare_of_bits bits) most) (octets_of_bits bits) halves n h

-- the row of a frame that is received counts its octets
pub told_count : (lose most : ℕ) (text : List Sym) (n : ℕ) → IsAllSignal text → (verdict_of_text lose most text).event ≡ Some (Received n) → length (verdict_of_text lose most text).octets ≡ n
told_count lose most [] n all is = absurd (none-some (Received n) is)
told_count lose most (s ∷ ss) n all is =
    let text : List Sym = s ∷ ss in
    let read = verdict_read lose most text all (omega arith) in
    let row : Some (reading_row (reading (left_halves lose text)) most (length text)) ≡ Some (Received n) = sym (ap (λ (v : TextVerdict). v.event) read) ∙ is in
    ap (λ (v : TextVerdict). length v.octets) read
    ∙ read_count (reading (left_halves lose text)) most (length text) n _ refl (same_Some _ (Received n) row)

pub same_verdict : (e e' : Option Body) (o o' : List ℕ) → e ≡ e' → o ≡ o' → ◌≡◌ {A = TextVerdict} (record { event = e; octets = o }) (record { event = e'; octets = o' })
same_verdict e e' o o' he ho = rw (he, ho)
