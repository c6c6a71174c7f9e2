-- Frames as lists of octets, in the order in which they are sent, and the judgement of received octets (clause 3).
use Rattle.std.specs.Prelude.{ℕ, ◌+◌, ◌-◌, Bool, List, ◌++◌, length, take, drop, replicate, nat_lt, if◌then◌else◌}
use Rattle.std.specs.Int.{to_le_bytes, w32}
use Rattle.std.specs.Str.{bytes_eq}
use Rattle.frame_layout.specs.Division.{fcs_of}
use Rattle.mac_parameters.specs.Parameters.{check_sequence, least_frame, least_octets}
use Rattle.frame_layout.specs.declared.verdict.Verdict.{Verdict}
use Rattle.frame_layout.specs.declared.verdict.Verdict.TheVariants.{Good, Fragment, TooLong, FcsError, AlignError}

-- the octets, with a pad of zeros after them up to the least that a frame has before its FCS (3.2.8)
unfoldable pub padded : List ℕ → List ℕ
padded octets = octets ++ replicate (least_octets - length octets) 0

-- the octets of an FCS, the low octet first (3.2.9)
unfoldable pub fcs_octets : ℕ → List ℕ
fcs_octets fcs = to_le_bytes w32 fcs

-- the frame of these octets: padded, with the FCS over all of that at the end (3.1.1)
unfoldable pub frame_of : List ℕ → List ℕ
frame_of octets = padded octets ++ fcs_octets (fcs_of (padded octets))

-- whether the last octets, as many as an FCS has, are the FCS of those before them (3.2.9)
unfoldable pub has_right_fcs : List ℕ → Bool
has_right_fcs octets =
    bytes_eq (drop (length octets - check_sequence) octets)
    (fcs_octets (fcs_of (take (length octets - check_sequence) octets)))

-- the judgement of received octets, with the spare bits after the last whole octet, in this order (profile):
-- below the least frame; more than the most octets, without the FCS; the FCS; and spare bits where that is wrong
-- (4.2.4.1.2 has the same faults)
unfoldable pub verdict_of : List ℕ → ℕ → ℕ → Verdict
verdict_of octets spare most =
    if nat_lt (length octets) least_frame then Fragment
    else if nat_lt (most + check_sequence) (length octets) then TooLong
    else if has_right_fcs octets then Good
    else if nat_lt 0 spare then AlignError
    else FcsError
