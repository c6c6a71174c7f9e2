-- What the words of the command line ask for (profile).
use Rattle.std.specs.Prelude.{◌≤◌, ◌<◌, ℕ, ◌+◌, ◌-◌, List, [], ◌∷◌, length, Bool, true, not, ◌&&◌, nat_eq, nat_le, nat_lt, Option, None, Some, option_map, find, decimal, if◌then◌else◌, bytes_eq, codes}
use Rattle.std.specs.List.{ends_with, range_with_len}
use Rattle.mac_parameters.specs.Parameters.{most_half_bits}
use Rattle.layout.specs.Limits.{most_repeaters}
use Rattle.program_words.specs.WordLimits.{most_name, most_probed, most_tap_word, most_taps, most_workers}
use Rattle.program_words.specs.declared.words.Report.{Report}
use Rattle.program_words.specs.declared.words.Report.TheVariants as report
use Rattle.program_words.specs.declared.words.Request.{Request}
use Rattle.program_words.specs.declared.words.Request.TheVariants as request

-- the path verdict of a layout, its slacks, a run with the names of the layout and of what is written, the same on so
-- many workers, a run that stops at or after a half bit with the same names, one that goes on from where such a run
-- stopped, a run of the layout of demo of a number on so many workers, this report of the half bits from one on and
-- before another, over the taps of these words, the figures of a log, the picture of what a log tells of the half bits
-- from one on and before another, what became by a log of each frame of a layout, or a fixed text
pub data Asked : Type 0 where
  Check : (layout : List ℕ) → Asked
  Slack : (layout : List ℕ) → Asked
  Plain : (layout prefix : List ℕ) → Asked
  Run : (layout prefix : List ℕ) (workers : ℕ) → Asked
  Stop : (layout prefix : List ℕ) (from : ℕ) → Asked
  Resume : (layout prefix : List ℕ) → Asked
  Demo : (number workers : ℕ) → Asked
  Probe : (told : Report) (layout : List ℕ) (from to : ℕ) (taps : List (List ℕ)) → Asked
  Meter : (log : List ℕ) → Asked
  Picture : (layout log : List ℕ) (from to : ℕ) → Asked
  Frames : (layout log : List ℕ) → Asked
  Help : Asked
  Version : Asked

-- a name of a file has 1 to 200 octets
abbrev pub is_file_name : List ℕ → Bool
is_file_name word = nat_le 1 (length word) && nat_le (length word) most_name

-- a prefix is a name of a file that doesn't end in a slash, with which its files would have no names
abbrev pub is_prefix : List ℕ → Bool
is_prefix word = is_file_name word && not (ends_with nat_eq word (codes "/"))

-- the number from the first of these to the second that is written so in decimal, without a sign or a leading zero
unfoldable pub number_between : ℕ → ℕ → List ℕ → Option ℕ
number_between least most word = find (λ n. bytes_eq word (decimal n)) (range_with_len least (most + 1 - least))

-- a word for a tap has 1 to 40 octets
abbrev pub is_tap_word : List ℕ → Bool
is_tap_word word = nat_le 1 (length word) && nat_le (length word) most_tap_word

-- words for taps
abbrev pub are_tap_words : List (List ℕ) → Bool
are_tap_words [] = true
are_tap_words (word ∷ words) = is_tap_word word && are_tap_words words

-- what the words after check ask for: LAYOUT
abbrev pub asked_check : List (List ℕ) → Option Asked
asked_check (layout ∷ []) = if is_file_name layout then Some (Check layout) else None
asked_check _ = None

-- what the words after slack ask for: LAYOUT
abbrev pub asked_slack : List (List ℕ) → Option Asked
asked_slack (layout ∷ []) = if is_file_name layout then Some (Slack layout) else None
asked_slack _ = None

-- what the words after plain ask for: LAYOUT PREFIX
abbrev pub asked_plain : List (List ℕ) → Option Asked
asked_plain (layout ∷ prefix ∷ []) =
    if is_file_name layout && is_prefix prefix then Some (Plain layout prefix) else None
asked_plain _ = None

-- what the words after run ask for: LAYOUT PREFIX WORKERS
abbrev pub asked_run : List (List ℕ) → Option Asked
asked_run (layout ∷ prefix ∷ workers ∷ []) =
    if is_file_name layout && is_prefix prefix
    then option_map (Run layout prefix) (number_between 1 most_workers workers)
    else None
asked_run _ = None

-- what the words after stop ask for: LAYOUT PREFIX FROM, with a half bit of the longest run
abbrev pub asked_stop : List (List ℕ) → Option Asked
asked_stop (layout ∷ prefix ∷ from ∷ []) =
    if is_file_name layout && is_prefix prefix
    then option_map (Stop layout prefix) (number_between 0 most_half_bits from)
    else None
asked_stop _ = None

-- what the words after resume ask for: LAYOUT PREFIX
abbrev pub asked_resume : List (List ℕ) → Option Asked
asked_resume (layout ∷ prefix ∷ []) =
    if is_file_name layout && is_prefix prefix then Some (Resume layout prefix) else None
asked_resume _ = None

-- what is asked for by these two numbers, if they are there
abbrev pub asked_numbers : Option ℕ → Option ℕ → Option Asked
asked_numbers (Some number) (Some workers) = Some (Demo number workers)
asked_numbers (Some number) None = None
asked_numbers None workers = None

-- what the words after demo ask for: NUMBER WORKERS
abbrev pub asked_demo : List (List ℕ) → Option Asked
asked_demo (number ∷ workers ∷ []) =
    asked_numbers (number_between 1 most_repeaters number) (number_between 1 most_workers workers)
asked_demo _ = None

-- one half bit comes before another, and at most a million lie between them
abbrev pub is_stretch : ℕ → ℕ → Bool
is_stretch from to = nat_lt from to && nat_le to (from + most_probed)

-- these two half bits, if they are there and are such
abbrev pub stretch_between : Option ℕ → Option ℕ → Option (ℕ × ℕ)
stretch_between (Some from) (Some to) = if is_stretch from to then Some (from, to) else None
stretch_between (Some from) None = None
stretch_between None to = None

-- the two half bits that are written so
abbrev pub stretch_of : List ℕ → List ℕ → Option (ℕ × ℕ)
stretch_of from to = stretch_between (number_between 0 most_half_bits from) (number_between 0 most_half_bits to)

-- there are 1 to 16 words
abbrev pub are_few : List (List ℕ) → Bool
are_few words = nat_le 1 (length words) && nat_le (length words) most_taps

-- what the words after probe or waves ask for: LAYOUT FROM TO TAP .. with 1 to 16 taps
abbrev pub asked_probe : Report → List (List ℕ) → Option Asked
asked_probe told (layout ∷ from ∷ to ∷ taps) =
    if is_file_name layout && are_few taps && are_tap_words taps
    then option_map (λ s. Probe told layout s.0 s.1 taps) (stretch_of from to)
    else None
asked_probe told _ = None

-- what the words after page ask for: LAYOUT FROM TO
abbrev pub asked_page : List (List ℕ) → Option Asked
asked_page (layout ∷ from ∷ to ∷ []) =
    if is_file_name layout
    then option_map (λ s. Probe report.Page layout s.0 s.1 []) (stretch_of from to)
    else None
asked_page _ = None

-- what the words after meter ask for: LOG
abbrev pub asked_meter : List (List ℕ) → Option Asked
asked_meter (log ∷ []) = if is_file_name log then Some (Meter log) else None
asked_meter _ = None

-- what the words after picture ask for: LAYOUT LOG FROM TO
abbrev pub asked_picture : List (List ℕ) → Option Asked
asked_picture (layout ∷ log ∷ from ∷ to ∷ []) =
    if is_file_name layout && is_file_name log
    then option_map (λ s. Picture layout log s.0 s.1) (stretch_of from to)
    else None
asked_picture _ = None

-- what the words after frames ask for: LAYOUT LOG
abbrev pub asked_frames : List (List ℕ) → Option Asked
asked_frames (layout ∷ log ∷ []) =
    if is_file_name layout && is_file_name log then Some (Frames layout log) else None
asked_frames _ = None

-- what the words after --help ask for: none are there
abbrev pub asked_help : List (List ℕ) → Option Asked
asked_help [] = Some Help
asked_help _ = None

-- what the words after --version ask for: none are there
abbrev pub asked_version : List (List ℕ) → Option Asked
asked_version [] = Some Version
asked_version _ = None

-- what a form's first word and the words after it ask for: a row for each form
abbrev pub asked_form : List ℕ → List (List ℕ) → Option Asked
asked_form form words =
    if bytes_eq form (codes "check") then asked_check words
    else if bytes_eq form (codes "slack") then asked_slack words
    else if bytes_eq form (codes "plain") then asked_plain words
    else if bytes_eq form (codes "run") then asked_run words
    else if bytes_eq form (codes "stop") then asked_stop words
    else if bytes_eq form (codes "resume") then asked_resume words
    else if bytes_eq form (codes "demo") then asked_demo words
    else if bytes_eq form (codes "probe") then asked_probe report.Runs words
    else if bytes_eq form (codes "waves") then asked_probe report.Waves words
    else if bytes_eq form (codes "page") then asked_page words
    else if bytes_eq form (codes "meter") then asked_meter words
    else if bytes_eq form (codes "picture") then asked_picture words
    else if bytes_eq form (codes "frames") then asked_frames words
    else if bytes_eq form (codes "--help") then asked_help words
    else if bytes_eq form (codes "--version") then asked_version words
    else None

-- what the words of the command line ask for, without the program's own name
abbrev pub asked : List (List ℕ) → Option Asked
asked (form ∷ words) = asked_form form words
asked [] = None

-- what a request of the program asks for
abbrev pub asked_of : Request → Asked
asked_of (request.Check layout) = Check layout.now
asked_of (request.Slack layout) = Slack layout.now
asked_of (request.Plain layout prefix) = Plain layout.now prefix.now
asked_of (request.Run layout prefix workers) = Run layout.now prefix.now workers
asked_of (request.Stop layout prefix from) = Stop layout.now prefix.now from
asked_of (request.Resume layout prefix) = Resume layout.now prefix.now
asked_of (request.Demo number workers) = Demo number workers
asked_of (request.Probe told layout from to taps) = Probe told layout.now from to taps.now
asked_of (request.Meter log) = Meter log.now
asked_of (request.Picture layout log from to) = Picture layout.now log.now from to
asked_of (request.Frames layout log) = Frames layout.now log.now
asked_of request.Help = Help
asked_of request.Version = Version

-- the numbers of a request are in their ranges
abbrev pub HasNumbersInRange : Request → Type 0
HasNumbersInRange (request.Check layout) = Unit {0}
HasNumbersInRange (request.Slack layout) = Unit {0}
HasNumbersInRange (request.Plain layout prefix) = Unit {0}
HasNumbersInRange (request.Run layout prefix workers) = (1 ≤ workers) × (workers ≤ most_workers)
HasNumbersInRange (request.Stop layout prefix from) = from ≤ most_half_bits
HasNumbersInRange (request.Resume layout prefix) = Unit {0}
HasNumbersInRange (request.Demo number workers) =
    (1 ≤ number) × (number ≤ most_repeaters) × (1 ≤ workers) × (workers ≤ most_workers)
HasNumbersInRange (request.Probe told layout from to taps) =
    (from < to) × (to ≤ from + most_probed) × (to ≤ most_half_bits) × (length taps.now ≤ most_taps)
HasNumbersInRange (request.Meter log) = Unit {0}
HasNumbersInRange (request.Picture layout log from to) = (from < to) × (to ≤ from + most_probed) × (to ≤ most_half_bits)
HasNumbersInRange (request.Frames layout log) = Unit {0}
HasNumbersInRange request.Help = Unit {0}
HasNumbersInRange request.Version = Unit {0}
