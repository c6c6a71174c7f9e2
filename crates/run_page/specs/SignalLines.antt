-- The lines of a page that tell what the taps of a network emit (profile). Half bits, stations, repeaters and the ports
-- of taps and kinds count from 0; the ports that are written count from 1.
use Rattle.std.specs.Prelude.{ℕ, ◌+◌, List, [], ◌∷◌, ◌++◌, flat_map, slice_get, option_map, unwrap_or, codes, decimal}
use Rattle.layout.specs.declared.lines.Layout.{Layout}
use Rattle.layout.specs.declared.ways.Attachment.{Attachment}
use Rattle.layout.specs.declared.ways.Attachment.TheVariants.{Station, Port}
use Rattle.tap_signals.specs.Taps.{taps_in_order}
use Rattle.tap_signals.specs.declared.kind.SignalKind.{SignalKind}
use Rattle.tap_signals.specs.declared.kind.SignalKind.TheVariants.{Frame, Jam, Repeat, Extend}
use Rattle.tap_signals.specs.declared.stretch.Stretch.{Stretch}

-- The words for what a tap emits. A port that repeats is told with the number, from 1, of the port that hears it.
abbrev pub kind_words : SignalKind → List ℕ
kind_words Frame = codes "frame"
kind_words Jam = codes "jam"
kind_words (Repeat port) = codes "repeat " ++ decimal (port + 1)
kind_words Extend = codes "extend"

-- The name of the station with this number, or no octets where there is none.
abbrev pub station_name : Layout → ℕ → List ℕ
station_name l k = unwrap_or (option_map (λ s. s.name) (slice_get l.stations k)) []

-- The name of the repeater with this number, or no octets where there is none.
abbrev pub repeater_name : Layout → ℕ → List ℕ
repeater_name l r = unwrap_or (option_map (λ r. r.name) (slice_get l.repeaters r)) []

-- The word that names a tap: the station's name, or that of the repeater and, after a colon, the port's number, from 1.
abbrev pub word_of_tap : Layout → Attachment → List ℕ
word_of_tap l (Station k) = station_name l k
word_of_tap l (Port r p) = repeater_name l r ++ codes ":" ++ decimal (p + 1)

-- The line of a stretch of the tap with this word.
unfoldable pub signal_line : List ℕ → Stretch → List ℕ
signal_line word s =
    codes "signal " ++ word ++ codes " " ++ decimal s.start ++ codes " " ++ decimal s.end ++ codes " "
    ++ kind_words s.kind ++ codes "\n"

-- The lines of these taps, each with its own stretches, in order.
abbrev pub lines_of_taps : Layout → List Attachment → List (List Stretch) → List ℕ
lines_of_taps l (tap ∷ taps) (stretches ∷ lists) =
    flat_map (signal_line (word_of_tap l tap)) stretches ++ lines_of_taps l taps lists
lines_of_taps l _ _ = []

-- The lines of what all taps of a layout emit, by a list of stretches for each of them: stations first and then ports,
-- in the layout's order.
abbrev pub signal_lines : Layout → List (List Stretch) → List ℕ
signal_lines l signals = lines_of_taps l (taps_in_order l) signals
