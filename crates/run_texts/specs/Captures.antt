-- The captures of a run as they are written (profile, where no clause is named). Half bits count from 0.
use Rattle.std.specs.Prelude.{ℕ, ◌*◌, ◌≤◌, List, All, map, length}
use Rattle.mac_parameters.specs.Parameters.{nanoseconds_a_half_bit, most_octets_tagged, most_half_bits}
use Rattle.capture_file.specs.Writing.{capture_text, whole_record}
use Rattle.capture_file.specs.declared.entries.Record.{Record}
use Rattle.network.specs.declared.outputs.Taken.{Taken}

-- The record of a frame that a station received, with the nanoseconds from the start of the run to the half bit in
-- which its reception ended (4.4.2).
abbrev pub record_of : Taken → Record
record_of taken = whole_record (nanoseconds_a_half_bit * taken.t) taken.octets

-- The octets of a station's capture: a record for each frame, in order of time.
unfoldable pub pcap_of_taken : List Taken → List ℕ
pcap_of_taken taken = capture_text (map record_of taken)

-- A frame has at most the octets of the longest tagged frame before its check sequence (3.2.7), and its reception
-- ended in a half bit of the longest run.
pub record IsShort (taken : Taken) : Type 0 where
  pub few : length taken.octets ≤ most_octets_tagged
  pub time : taken.t ≤ most_half_bits

-- All these frames are so.
abbrev pub AreShort : List Taken → Type 0
AreShort taken = All IsShort taken
