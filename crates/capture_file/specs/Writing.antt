-- How a capture is written: the lowest octet of a number first, and nanoseconds (the pcap form, version 2.4).
use Rattle.std.specs.Prelude.{◌≡◌, ℕ, ◌*◌, ◌/◌, ◌%◌, ◌^◌, ◌≤◌, ◌<◌, List, [], ◌∷◌, ◌++◌, length}
use Rattle.std.specs.List.{flat_map}
use Rattle.mac_parameters.specs.Parameters.{most_octets_tagged}
use Rattle.byteorder.specs.Endian.{little_bytes}
use Rattle.capture_file.specs.declared.entries.Record.{Record}

-- the header: the first four octets, version 2.4, zone 0, accuracy 0, greatest length 262,144, Ethernet
unfoldable pub header_text : List ℕ
header_text =
    (77 ∷ 60 ∷ 178 ∷ 161 ∷ []) ++ (2 ∷ 0 ∷ 4 ∷ 0 ∷ []) ++ (0 ∷ 0 ∷ 0 ∷ 0 ∷ [])
    ++ (0 ∷ 0 ∷ 0 ∷ 0 ∷ []) ++ (0 ∷ 0 ∷ 4 ∷ 0 ∷ []) ++ (1 ∷ 0 ∷ 0 ∷ 0 ∷ [])

-- a record's header: seconds modulo 2^32, nanoseconds, and the captured and the original length
unfoldable pub record_header : ℕ → ℕ → List ℕ
record_header nanos size =
    little_bytes 4 (nanos / 1000000000 % 2 ^ 32) ++ little_bytes 4 (nanos % 1000000000)
    ++ little_bytes 4 size ++ little_bytes 4 size

-- a record of these octets, at a time in nanoseconds
abbrev pub record_text : ℕ → List ℕ → List ℕ
record_text nanos octets = record_header nanos (length octets) ++ octets

-- the text of a record, whose original length is that of its octets
abbrev pub text_of : Record → List ℕ
text_of r = record_text r.nanos r.octets

-- the text of a capture of these records
abbrev pub capture_text : List Record → List ℕ
capture_text rs = header_text ++ flat_map text_of rs

-- the record of octets that were all kept
abbrev pub whole_record : ℕ → List ℕ → Record
whole_record nanos octets = record { nanos = nanos; original = length octets; octets = octets }

-- what can be written and read back: a time of less than 2^32 seconds, at most the octets of a tagged frame (3.2.7),
-- and all of them kept
pub record IsWritable (r : Record) : Type 0 where
  pub time : r.nanos < 2 ^ 32 * 1000000000
  pub few : length r.octets ≤ most_octets_tagged
  pub kept : r.original ≡ length r.octets
