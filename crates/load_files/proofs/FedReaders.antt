-- A reader of captures that was given a file piece by piece.
use Rattle.std.proofs.Common.{◌≡◌, ℕ, ◌≤◌, ◌<◌, List, take, length, Option, None, Some, option_map, Result, Ok, Err, refl, ap, arith}
use Rattle.std.specs.Prelude.{IfOk, IfErr}
use Rattle.std.proofs.lemmas.List.{take_all}
use Rattle.std.proofs.lemmas.Bool.{le-ltb, lt-ltb}
use Rattle.outside.specs.Files.{Files, file_of}
use Rattle.file_pieces.specs.GivenPieces.{IsGivenFront, IsGivenFrontOf}
use Rattle.capture_file.specs.Captures.{capture_fault}
use Rattle.capture_file.specs.Reading.{Reads}
use Rattle.capture_file.specs.declared.entries.Record.{Record}
use Rattle.capture_file.specs.declared.fault.CaptureFault.{CaptureFault}
use Rattle.capture_file.specs.declared.fault.CaptureFault.TheVariants.{TooLarge}
use Rattle.load_files.specs.Loaded.{IsJudgedLoad, IsLongAs, IsUnloaded, judged_by, judged_load}
use Rattle.load_files.specs.declared.load.Load.{Load}
use Rattle.load_files.specs.declared.load.LoadReader.{LoadReader}
use Rattle.load_files.specs.declared.load.Unloaded.{Unloaded}
use Rattle.load_files.specs.declared.load.Unloaded.TheVariants as unloaded

-- what the reader of a load was given
abbrev pub has_read : LoadReader → List ℕ → Type 0
has_read load octets = Reads octets load.reader

judged_within : (most : ℕ) (octets : List ℕ) (verdict : Result (List Record) CaptureFault) → length octets ≤ most → judged_by (capture_fault octets) octets ≡ verdict → judged_load most octets ≡ verdict
unfolding judged_load
judged_within most octets verdict few judged = rw (le-ltb most (length octets) few) judged

-- what was given, where that is all
all_given : (octets : List ℕ) (seen : ℕ) (load : LoadReader) → length octets ≤ seen → has_read load (take seen octets) → has_read load octets
all_given octets seen load end fed = rw (take_all seen octets end) at fed

judged_of : (most : ℕ) (whole : Option (List ℕ)) (seen : ℕ) (load : LoadReader) (verdict : Result (List Record) CaptureFault) → seen ≤ most → IsGivenFrontOf has_read most whole seen load
    → ((stream : List ℕ) → Reads stream load.reader → judged_by (capture_fault stream) stream ≡ verdict) → option_map (judged_load most) whole ≡ Some verdict
judged_of most None seen load verdict few fed judged = absurd fed
judged_of most (Some octets) seen load verdict few fed judged =
    let end : length octets ≤ seen = omega (arith, few, fed.0) in
    ap Some (judged_within most octets verdict (omega (arith, few, end)) (judged octets (all_given octets seen load end fed.1)))

-- a load that was given whole is judged
judged-whole : (most : ℕ) (name : List ℕ) (held : Option Files) (seen : ℕ) (load : LoadReader) (verdict : Result (List Record) CaptureFault) → seen ≤ most → IsGivenFront has_read most name held seen load
    → ((stream : List ℕ) → Reads stream load.reader → judged_by (capture_fault stream) stream ≡ verdict) → IsJudgedLoad most name held verdict
judged-whole most name None seen load verdict few fed judged = tt
judged-whole most name (Some files) seen load verdict few fed judged = judged_of most (file_of name files) seen load verdict few fed judged

long_of : (most : ℕ) (whole : Option (List ℕ)) (seen : ℕ) (load : LoadReader) → seen ≤ most → IsGivenFrontOf has_read most whole seen load → option_map length whole ≡ Some seen
long_of most None seen load few fed = absurd fed
long_of most (Some octets) seen load few fed = let same : length octets ≡ seen = omega (arith, few, fed.0) in ap Some same

-- and so many octets it has
long-whole : (most : ℕ) (name : List ℕ) (held : Option Files) (seen : ℕ) (load : LoadReader) → seen ≤ most → IsGivenFront has_read most name held seen load → IsLongAs name held seen
long-whole most name None seen load few fed = tt
long-whole most name (Some files) seen load few fed = long_of most (file_of name files) seen load few fed

too_large : (most : ℕ) (octets : List ℕ) → most < length octets → judged_load most octets ≡ Err TooLarge
unfolding judged_load
too_large most octets more = rw (lt-ltb most (length octets) more) refl

over_of : (most : ℕ) (whole : Option (List ℕ)) (seen : ℕ) (load : LoadReader) → most < seen → IsGivenFrontOf has_read most whole seen load → option_map (judged_load most) whole ≡ Some (Err TooLarge)
over_of most None seen load past fed = absurd fed
over_of most (Some octets) seen load past fed = ap Some (too_large most octets (omega (arith, past, fed.0)))

-- a load is too large where more was given than it may have
pub judged-over : (most : ℕ) (name : List ℕ) (held : Option Files) (seen : ℕ) (load : LoadReader) → most < seen → IsGivenFront has_read most name held seen load → IsJudgedLoad most name held (Err TooLarge)
judged-over most name None seen load past fed = tt
judged-over most name (Some files) seen load past fed = over_of most (file_of name files) seen load past fed

-- so a whole load ends
pub whole-records : (most : ℕ) (name : List ℕ) (held : Option Files) (seen : ℕ) (reader : LoadReader) (r : Result Load Unloaded) → seen ≤ most → IsGivenFront has_read most name held seen reader
    → IfOk r (λ load. (load.octets ≡ seen) × ((stream : List ℕ) → Reads stream reader.reader → judged_by (capture_fault stream) stream ≡ Ok load.records)) → IfOk r (λ load. IsJudgedLoad most name held (Ok load.records))
whole-records most name held seen reader (Ok load) few fed whole = judged-whole most name held seen reader (Ok load.records) few fed whole.1
whole-records most name held seen reader (Err u) few fed whole = tt

pub whole-octets : (most : ℕ) (name : List ℕ) (held : Option Files) (seen : ℕ) (reader : LoadReader) (r : Result Load Unloaded) → seen ≤ most → IsGivenFront has_read most name held seen reader
    → IfOk r (λ load. (load.octets ≡ seen) × ((stream : List ℕ) → Reads stream reader.reader → judged_by (capture_fault stream) stream ≡ Ok load.records)) → IfOk r (λ load. IsLongAs name held load.octets)
whole-octets most name held seen reader (Ok load) few fed whole = rw whole.0 (long-whole most name held seen reader few fed)
whole-octets most name held seen reader (Err u) few fed whole = tt

faulty : (most : ℕ) (name : List ℕ) (held : Option Files) (reads risen : ℕ) (u : Unloaded) (f : CaptureFault) → u ≡ unloaded.Fault f → IsJudgedLoad most name held (Err f) → IsUnloaded most name held reads risen u
faulty most name held reads risen u f is judged = rw is judged

pub whole-fault : (most : ℕ) (name : List ℕ) (held : Option Files) (seen reads risen : ℕ) (reader : LoadReader) (r : Result Load Unloaded) → seen ≤ most → IsGivenFront has_read most name held seen reader
    → IfErr r (λ u. (f : CaptureFault) × (u ≡ unloaded.Fault f) × ((stream : List ℕ) → Reads stream reader.reader → judged_by (capture_fault stream) stream ≡ Err f)) → IfErr r (λ u. IsUnloaded most name held reads risen u)
whole-fault most name held seen reads risen reader (Ok load) few fed whole = tt
whole-fault most name held seen reads risen reader (Err u) few fed whole =
    faulty most name held reads risen u whole.0 whole.1 (judged-whole most name held seen reader (Err whole.0) few fed whole.2)
