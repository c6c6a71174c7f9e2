use Rattle.std.proofs.Common.{◌≡◌, ◌+◌, ◌*◌, ◌≤◌, ◌++◌, length, take}
use Rattle.capture_file.specs.Captures.{records_in, rest_in}
use Rattle.capture_file.proofs.reading.take_records.Given as goal

-- the records so far and those in the rest are all, and the octets of a record are no fewer than 16
abbrev pub invariant-whole : goal.invariant-whole
invariant-whole l = record {
  records : l.records ++ records_in l.form 0 l.rest ≡ l.initial.records ++ records_in l.form 0 l.octets;
  rest : rest_in l.form 0 l.rest ≡ rest_in l.form 0 l.octets;
  room : 16 * length l.records + length l.rest ≤ 16 * length l.initial.records + length l.octets;
  same : take (length l.initial.records) l.records ≡ l.initial.records;
}

abbrev pub decreases-whole : goal.decreases-whole
decreases-whole l = length l.rest
