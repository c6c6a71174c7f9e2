-- Where there is no crowd, each array has few rows.
use Rattle.std.proofs.Common.{◌≡◌, ℕ, ◌+◌, ◌*◌, ◌≤◌, nat_lt, List, [], ◌∷◌, length, None}
use Rattle.std.specs.List.{All}
use Rattle.std.proofs.lemmas.Bool.{ltb-false}
use Rattle.std.proofs.lemmas.List.Elements.{All-nil, All-cons}
use Rattle.toml.specs.Data.{Members}
use Rattle.layout_file.specs.declared.fault.Key.{Key}
use Rattle.layout_file.specs.declared.fault.Key.TheVariants as key
use Rattle.layout_file.specs.declared.fault.LayoutCode.TheVariants as code
use Rattle.layout_file.specs.declared.fault.Table.TheVariants as table
use Rattle.layout_file.specs.JointFaults.{row_fault, file_fault, crowd_at, crowd_of_ports, crowd_of_bits, first_crowd}
use Rattle.layout.specs.Limits.{most_device_bits, most_segments, most_stations, most_repeaters, most_sends}
use Rattle.mac_parameters.specs.Parameters.{most_ports}
use Rattle.layout_file.specs.RowFaults.{or_else}
use Rattle.layout_file.specs.Tree.{rows_at, number_at}
use Rattle.layout_file.proofs.RowsWithoutFault.{or_else-parts, if-none}

few : (ms : Members) (k : Key) (most : ℕ) → crowd_at ms k most ≡ None → length (rows_at ms k) ≤ most
few ms k most h = ltb-false most (length (rows_at ms k)) (if-none (nat_lt most (length (rows_at ms k))) (file_fault code.TooMany k) None h).0

-- few enough ports
abbrev pub HasFewPorts : Members → Type 0
HasFewPorts ms = length (rows_at ms key.Port) ≤ most_ports

few_ports : (n : ℕ) (rows : List Members) → crowd_of_ports n rows ≡ None → All HasFewPorts rows
few_ports n [] h = All-nil HasFewPorts
few_ports n (ms ∷ rows) h =
    let p = if-none (nat_lt most_ports (length (rows_at ms key.Port))) (row_fault code.TooMany table.Repeater n key.Port) (crowd_of_ports (n + 1) rows) h in
    All-cons HasFewPorts ms rows (ltb-false most_ports (length (rows_at ms key.Port)) p.0) (few_ports (n + 1) rows p.1)

abbrev device_bits : Members → ℕ
device_bits ms = number_at ms key.UntilBits * (length (rows_at ms key.Station) + length (rows_at ms key.Repeater))

few_bits : (ms : Members) → crowd_of_bits ms ≡ None → device_bits ms ≤ most_device_bits
unfolding crowd_of_bits
few_bits ms h = ltb-false most_device_bits (device_bits ms) (if-none (nat_lt most_device_bits (device_bits ms)) (file_fault code.TooMany key.UntilBits) None h).0

pub record FewRows (ms : Members) : Type 0 where
  pub segments : length (rows_at ms key.Segment) ≤ most_segments
  pub stations : length (rows_at ms key.Station) ≤ most_stations
  pub repeaters : length (rows_at ms key.Repeater) ≤ most_repeaters
  pub ports : All HasFewPorts (rows_at ms key.Repeater)
  pub sends : length (rows_at ms key.Send) ≤ most_sends
  pub bits : number_at ms key.UntilBits * (length (rows_at ms key.Station) + length (rows_at ms key.Repeater)) ≤ most_device_bits

pub few_rows : (ms : Members) → first_crowd ms ≡ None → FewRows ms
unfolding first_crowd
few_rows ms h =
    let ports = crowd_of_ports 1 (rows_at ms key.Repeater) in
    let sends = crowd_at ms key.Send most_sends in
    let last = or_else ports (or_else sends (crowd_of_bits ms)) in
    let a = or_else-parts (crowd_at ms key.Segment most_segments) (or_else (crowd_at ms key.Station most_stations) (or_else (crowd_at ms key.Repeater most_repeaters) last)) h in
    let b = or_else-parts (crowd_at ms key.Station most_stations) (or_else (crowd_at ms key.Repeater most_repeaters) last) a.1 in
    let c = or_else-parts (crowd_at ms key.Repeater most_repeaters) last b.1 in
    let d = or_else-parts ports (or_else sends (crowd_of_bits ms)) c.1 in
    let e = or_else-parts sends (crowd_of_bits ms) d.1 in
    record {
      segments = few ms key.Segment most_segments a.0;
      stations = few ms key.Station most_stations b.0;
      repeaters = few ms key.Repeater most_repeaters c.0;
      ports = few_ports 1 (rows_at ms key.Repeater) d.0;
      sends = few ms key.Send most_sends e.0;
      bits = few_bits ms e.1;
    }
