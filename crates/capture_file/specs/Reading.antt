-- What a reader keeps of a capture that comes in pieces (profile).
use Rattle.std.specs.Prelude.{◌≡◌, ℕ, ◌+◌, ◌-◌, ◌*◌, ◌<◌, ◌≤◌, Bool, false, nat_lt, nat_le, ◌&&◌, if◌then◌else◌, min, List, [], ◌∷◌, ◌++◌, length, take, drop, Result, Ok, Err}
use Rattle.capture_file.specs.declared.entries.Record.{Record}
use Rattle.capture_file.specs.declared.fault.CaptureFault.{CaptureFault}
use Rattle.capture_file.specs.declared.fault.CaptureFault.TheVariants.{Length, TooLarge, Short, CutRecord}
use Rattle.capture_file.specs.declared.form.Form.{Form}
use Rattle.capture_file.specs.declared.reading.Stage.{Stage}
use Rattle.capture_file.specs.declared.reading.Stage.TheVariants.{Header, Entries, Faulty}
use Rattle.capture_file.specs.declared.reading.Reading.{Reading}
use Rattle.capture_file.specs.Captures.{captured_length, header, is_overlong, is_too_large, is_whole, records_in, rest_in}

-- nothing has come yet
abbrev pub new_reading : Reading
new_reading = record { stage = Header; records = []; rest = [] }

-- a fault stands that no further octets can mend
abbrev pub failed : CaptureFault → Reading
failed fault = record { stage = Faulty fault; records = []; rest = [] }

-- these records are whole and these octets are left after them
abbrev pub ended : Form → List Record → List ℕ → Reading
ended form records rest =
    if is_overlong form rest then failed (Length (length records + 1))
    else record { stage = Entries form; records = records; rest = rest }

-- these octets come after the records so far
unfoldable pub walked : Form → List Record → List ℕ → Reading
walked form records octets = ended form (records ++ records_in form 0 octets) (rest_in form 0 octets)

-- the header said this, and these octets come after it and after the records so far
abbrev pub opened : Result Form CaptureFault → List Record → List ℕ → Reading
opened (Err fault) records octets = record { stage = Faulty fault; records = records; rest = [] }
opened (Ok form) records octets = walked form records octets

-- these octets come after the records so far, and before the header is whole they are all that came
unfoldable pub read_on : Stage → List Record → List ℕ → Reading
read_on (Faulty fault) records octets = record { stage = Faulty fault; records = records; rest = [] }
read_on Header records octets =
    if nat_lt (length octets) 24 then record { stage = Header; records = records; rest = octets }
    else opened (header octets) records (drop 24 octets)
read_on (Entries form) records octets = walked form records octets

-- how many octets of a piece belong to the record whose octets before the piece are these; all of them before the
-- header is whole
abbrev pub octets_lacking : Stage → List ℕ → List ℕ → ℕ
octets_lacking (Faulty fault) rest piece = length piece
octets_lacking Header rest piece = length piece
octets_lacking (Entries form) rest piece =
    if nat_lt (length rest + length piece) 16 then length piece
    else min (16 + captured_length form (rest ++ piece) - length rest) (length piece)

-- these octets are one whole record
abbrev pub is_one_record : Stage → List ℕ → Bool
is_one_record (Faulty fault) octets = false
is_one_record Header octets = false
is_one_record (Entries form) octets = is_whole form octets && nat_le (length octets) (16 + captured_length form octets)

-- After these octets, which came behind the records so far, a capture has come to a reading: to its stage, with its
-- records, and so many octets left, which are the last ones. A record weighs 16 octets, and all weigh no more than
-- before; what is left is less than a record of the most octets, and where something is left the records so far stand
-- in front.
abbrev pub IsReadTo : Reading → List Record → List ℕ → List Record → Stage → ℕ → Type 0
IsReadTo to before octets records stage left =
    (stage ≡ to.stage) × (records ≡ to.records) × (left ≤ length octets)
    × (drop (length octets - left) octets ≡ to.rest)
    × (16 * length records + left ≤ 16 * length before + length octets)
    × (left ≤ 262159)
    × (0 < left → take (length before) records ≡ before)

-- a reader: how many octets came, and 67,108,865 where there were more than a capture may have; and what is
-- kept of them
pub record Reader : Type 0 where
  pub seen : ℕ
  pub reading : Reading

-- a reader to which nothing has come yet
abbrev pub new_reader : Reader
new_reader = record { seen = 0; reading = new_reading }

-- one more piece
unfoldable pub fed : Reader → List ℕ → Reader
fed r piece =
    if is_too_large (r.seen + length piece) then record { seen = 67108865; reading = failed TooLarge }
    else record {
      seen = r.seen + length piece;
      reading = read_on r.reading.stage r.reading.records (r.reading.rest ++ piece);
    }

-- what a reader is after these octets, however they came
pub record Reads (octets : List ℕ) (r : Reader) : Type 0 where
  pub same : r ≡ fed new_reader octets

-- what a reading answers at the end
abbrev pub answer_of : Stage → List Record → List ℕ → Result (List Record) CaptureFault
answer_of (Faulty fault) records rest = Err fault
answer_of Header records rest = Err Short
answer_of (Entries form) records [] = Ok records
answer_of (Entries form) records (x ∷ xs) = Err (CutRecord (length records + 1))
