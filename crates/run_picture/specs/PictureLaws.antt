-- The laws of pictures (profile).
use Rattle.std.specs.Prelude.{◌≡◌, ◌≤◌, ◌*◌, ◌++◌, ℕ, List, Some, codes, filter, length, map}
use Rattle.std.specs.List.{AllByRecursion}
use Rattle.layout.specs.Sound.{IsSound}
use Rattle.layout.specs.declared.lines.Layout.{Layout}
use Rattle.log_meter.specs.Lines.{IsLogLine, entry_text}
use Rattle.log_meter.specs.Logs.{IsLogOf}
use Rattle.log_meter.specs.declared.line.LogLine.{LogLine}
use Rattle.mac_parameters.specs.Parameters.{nanoseconds_a_half_bit}
use Rattle.run_picture.specs.Markup.{titles_in}
use Rattle.run_picture.specs.Marks.{title_of}
use Rattle.run_picture.specs.Pictures.{picture_of}
use Rattle.run_picture.specs.Sendings.{does_meet}
use Rattle.run_picture.specs.Sizes.{half_bits_a_microsecond, half_bits_a_tenth}

-- the lines that meet the half bits from `from` to below `to`, in their order
abbrev pub lines_of_window : ℕ → ℕ → List LogLine → List LogLine
lines_of_window from to lines = filter (does_meet (record { from = from; to = to })) lines

-- the text is closed, and nothing that means something in XML stands unescaped in it
abbrev pub IsClosedText : List ℕ → Type 0
IsClosedText text = (titles : List (List ℕ)) × (titles_in text ≡ Some titles)

-- a picture is closed, and nothing that means something in XML stands unescaped in it
abbrev pub PicturesAreClosed : Type 0
PicturesAreClosed =
    (l : Layout) (lines : List LogLine) (from to : ℕ) → IsSound l → AllByRecursion IsLogLine lines
    → IsClosedText (picture_of l lines from to)

-- the titles of a picture are the lines of the log that meet its window, without their line feeds, in their order,
-- each once
abbrev pub TitlesAreLines : Type 0
TitlesAreLines =
    (l : Layout) (lines : List LogLine) (from to : ℕ) → IsSound l → AllByRecursion IsLogLine lines
    → titles_in (picture_of l lines from to) ≡ Some (map title_of (lines_of_window from to lines))

-- a line's text in a log is its title and a line feed
abbrev pub LinesAreTitles : Type 0
LinesAreTitles = (line : LogLine) → entry_text line ≡ title_of line ++ codes "\n"

-- a log has no more lines than octets
abbrev pub LinesAreFew : Type 0
LinesAreFew = (octets : List ℕ) (lines : List LogLine) → IsLogOf octets lines → length lines ≤ length octets

-- a microsecond has 1,000 nanoseconds, by the half bits that it has and the nanoseconds that these have
abbrev pub IsAMicrosecond : Type 0
IsAMicrosecond = half_bits_a_microsecond * nanoseconds_a_half_bit ≡ 1000

-- a tenth of a microsecond has 100
abbrev pub IsATenth : Type 0
IsATenth = half_bits_a_tenth * nanoseconds_a_half_bit ≡ 100
