-- Lengths of frames, and the pad.
use Rattle.std.proofs.Common.{◌≡◌, ℕ, ◌+◌, ◌-◌, ◌≤◌, true, false, nat_lt, List, ◌++◌, length, take, drop, replicate, refl, sym, ap, ◌∙◌, arith, length-append, inl, inr, rules}
use Rattle.std.proofs.lemmas.List.{take-replicate, length-replicate}
use Rattle.std.proofs.lemmas.Slice.Eq.{bytes_eq-Decides}
use Rattle.std.proofs.Math.Seq.{drop-append_seam, take-append_seam}
use Rattle.frame_layout.specs.Division.{fcs_of}
use Rattle.frame_layout.specs.Frame.{padded, frame_of, fcs_octets, has_right_fcs, verdict_of}
use Rattle.mac_parameters.specs.Parameters.{IsMost, check_sequence, greatest_frame, least_frame, least_octets, most_octets_tagged}
use Rattle.frame_layout.specs.declared.verdict.Verdict.TheVariants.{Good}

pub padded_is : (octets : List ℕ) (n : ℕ) → n ≡ length octets → octets ++ take (least_octets - n) (replicate least_octets 0) ≡ padded octets
unfolding padded
padded_is octets n e =
    ap (λ zeros. octets ++ zeros) (take-replicate (least_octets - n) least_octets 0 (omega arith)) ∙ ap (λ k. octets ++ replicate (least_octets - k) 0) e

pub length-padded : (octets : List ℕ) → length (padded octets) ≡ length octets + (least_octets - length octets)
unfolding padded
length-padded octets =
    length-append octets (replicate (least_octets - length octets) 0) ∙ ap (λ n. length octets + n) (length-replicate (least_octets - length octets) 0)

length-fcs_octets : (fcs : ℕ) → length (fcs_octets fcs) ≡ check_sequence
unfolding fcs_octets
length-fcs_octets fcs = refl

pub length-frame_of : (octets : List ℕ) → length (frame_of octets) ≡ length octets + (least_octets - length octets) + check_sequence
unfolding frame_of
length-frame_of octets =
    omega (arith, length-append (padded octets) (fcs_octets (fcs_of (padded octets))), length-padded octets, length-fcs_octets (fcs_of (padded octets)))

pub frame_fits : (octets whole : List ℕ) (most : ℕ) → IsMost most → length octets ≤ most → whole ≡ frame_of octets → (least_frame ≤ length whole) × (length whole ≤ greatest_frame)
frame_fits octets whole most is_most fits e =
    let len : length whole ≡ length octets + (least_octets - length octets) + check_sequence = ap length e ∙ length-frame_of octets in
    let below : most ≤ most_octets_tagged = elim is_most [ inl h ↦ omega arith | inr h ↦ omega arith ] in
    (omega arith, omega arith)

has_right_fcs-parts : (front back : List ℕ) → length back ≡ check_sequence → back ≡ fcs_octets (fcs_of front) → has_right_fcs (front ++ back) ≡ true
unfolding has_right_fcs
has_right_fcs-parts front back four e =
    let whole = front ++ back in
    let n : length whole - check_sequence ≡ length front = omega (arith, length-append front back) in
    let last : drop (length whole - check_sequence) whole ≡ back = ap (λ k. drop k whole) n ∙ drop-append_seam front back in
    let rest : take (length whole - check_sequence) whole ≡ front = ap (λ k. take k whole) n ∙ take-append_seam front back in
    (bytes_eq-Decides (drop (length whole - check_sequence) whole) (fcs_octets (fcs_of (take (length whole - check_sequence) whole)))).1
    (last ∙ e ∙ ap (λ xs. fcs_octets (fcs_of xs)) (sym rest))

has_right_fcs-frame_of : (octets : List ℕ) → has_right_fcs (frame_of octets) ≡ true
unfolding frame_of
has_right_fcs-frame_of octets =
    has_right_fcs-parts (padded octets) (fcs_octets (fcs_of (padded octets))) (length-fcs_octets (fcs_of (padded octets))) refl

verdict_of-good : (octets : List ℕ) (most : ℕ) → least_frame ≤ length octets → length octets ≤ most + check_sequence → has_right_fcs octets ≡ true → verdict_of octets 0 most ≡ Good
unfolding verdict_of
verdict_of-good octets most low high right =
    let not_short : nat_lt (length octets) least_frame ≡ false = search rules in
    let not_long : nat_lt (most + check_sequence) (length octets) ≡ false = search rules in
    rw (not_short, not_long, right) refl

-- a frame is received as good
pub verdict_of-frame_of : (octets : List ℕ) (most : ℕ) → IsMost most → length octets ≤ most → verdict_of (frame_of octets) 0 most ≡ Good
verdict_of-frame_of octets most is_most fits =
    let len = length-frame_of octets in
    let above : least_octets ≤ most = elim is_most [ inl h ↦ omega arith | inr h ↦ omega arith ] in
    verdict_of-good (frame_of octets) most (omega arith) (omega arith) (has_right_fcs-frame_of octets)
