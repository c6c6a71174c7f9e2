-- No octet of the data lines of a page means something in HTML.
use Rattle.std.proofs.Common.{ℕ, ◌+◌, ◌*◌, List, [], ◌∷◌, codes, filter, nat_le, length, refl}
use Rattle.std.specs.List.{flat_map}
use Rattle.std.proofs.lemmas.List.Elements.{recursion_from_All, All-weaker}
use Rattle.collision_log.specs.declared.row.Row.{Row}
use Rattle.layout.specs.Sound.{IsName, IsSound, IsSoundRepeater, IsSoundStation}
use Rattle.layout.specs.declared.lines.Layout.{Layout}
use Rattle.layout.specs.declared.lines.PortLine.{PortLine}
use Rattle.layout.specs.declared.lines.RepeaterLine.{RepeaterLine}
use Rattle.layout.specs.declared.lines.SegmentLine.{SegmentLine}
use Rattle.layout.specs.declared.lines.StationLine.{StationLine}
use Rattle.layout.specs.declared.ways.Attachment.{Attachment}
use Rattle.layout.specs.declared.ways.Attachment.TheVariants.{Station, Port}
use Rattle.mac_parameters.specs.Parameters.{half_bits_a_bit}
use Rattle.run_texts.specs.Texts.{line_of_row}
use Rattle.tap_signals.specs.Taps.{taps_in_order}
use Rattle.tap_signals.specs.declared.kind.SignalKind.{SignalKind}
use Rattle.tap_signals.specs.declared.kind.SignalKind.TheVariants as kind
use Rattle.tap_signals.specs.declared.stretch.Stretch.{Stretch}
use Rattle.run_page.specs.LayoutLines.{layout_lines, place_words, port_line, port_lines, repeater_line, repeater_with_ports, run_line, segment_line, station_line, window_line}
use Rattle.run_page.specs.PageLaws.{NothingIsEscaped}
use Rattle.run_page.specs.Pages.{data_lines}
use Rattle.run_page.specs.RowLines.{is_shown, shown_row}
use Rattle.run_page.specs.SignalLines.{kind_words, lines_of_taps, signal_line, word_of_tap}
use Rattle.run_page.proofs.PlainWords.{IsPlain, all_plain, between, field, joined, name, name_at, nothing, number, row_plain, words}

window_plain : (from to : ℕ) → IsPlain (window_line from to)
unfolding window_line
window_plain from to = joined (field (joined (words (codes "window ") refl) (number from)) (codes " ") refl to) (words (codes "\n") refl)

run_plain : (l : Layout) → IsPlain (run_line l)
unfolding run_line
run_plain l = between (codes "run ") refl (number (half_bits_a_bit * l.until_bits)) (codes "\n") refl

segment_plain : (s : SegmentLine) → IsName s.name → IsPlain (segment_line s)
unfolding segment_line
segment_plain s h = between (codes "segment ") refl (name s.name h) (codes "\n") refl

place_plain : (l : Layout) (segment at : ℕ) → IsSound l → IsPlain (place_words l segment at)
unfolding place_words
place_plain l segment at sound =
    field (name_at (λ s. s.name) l.segments (recursion_from_All (λ s. IsName s.name) l.segments sound.segments) segment) (codes " ") refl at

station_plain : (l : Layout) → IsSound l → (s : StationLine) → IsSoundStation l.format (length l.segments) s → IsPlain (station_line l s)
unfolding station_line
station_plain l sound s h =
    joined (joined (between (codes "station ") refl (name s.name h.name) (codes " ") refl) (place_plain l s.segment s.at sound)) (words (codes "\n") refl)

port_plain : (l : Layout) → IsSound l → (word : List ℕ) → IsName word → (n : ℕ) (port : PortLine) → IsPlain (port_line l word n port)
unfolding port_line
port_plain l sound word h n port =
    joined (joined (joined (field (joined (words (codes "port ") refl) (name word h)) (codes " ") refl n) (words (codes " ") refl)) (place_plain l port.segment port.at sound)) (words (codes "\n") refl)

ports_plain : (l : Layout) → IsSound l → (word : List ℕ) → IsName word → (n : ℕ) (ports : List PortLine) → IsPlain (port_lines l word n ports)
ports_plain l sound word h n [] = nothing
ports_plain l sound word h n (port ∷ ports) = joined (port_plain l sound word h n port) (ports_plain l sound word h (n + 1) ports)

repeater_plain : (l : Layout) → IsSound l → (r : RepeaterLine) → IsSoundRepeater (length l.segments) r → IsPlain (repeater_with_ports l r)
unfolding repeater_line
repeater_plain l sound r h =
    joined (joined (field (joined (words (codes "repeater ") refl) (name r.name h.name)) (codes " ") refl r.delay) (words (codes "\n") refl)) (ports_plain l sound r.name h.name 1 r.ports)

layout_plain : (l : Layout) → IsSound l → IsPlain (layout_lines l)
layout_plain l sound =
    joined (joined
    (all_plain (λ (s : SegmentLine). IsName s.name) segment_line segment_plain l.segments (recursion_from_All (λ s. IsName s.name) l.segments sound.segments))
    (all_plain (IsSoundStation l.format (length l.segments)) (station_line l) (station_plain l sound) l.stations (recursion_from_All (IsSoundStation l.format (length l.segments)) l.stations sound.stations)))
    (all_plain (IsSoundRepeater (length l.segments)) (repeater_with_ports l) (repeater_plain l sound) l.repeaters (recursion_from_All (IsSoundRepeater (length l.segments)) l.repeaters sound.repeaters))

kind_plain : (k : SignalKind) → IsPlain (kind_words k)
kind_plain kind.Frame = words (codes "frame") refl
kind_plain kind.Jam = words (codes "jam") refl
kind_plain (kind.Repeat port) = joined (words (codes "repeat ") refl) (number (port + 1))
kind_plain kind.Extend = words (codes "extend") refl

tap_plain : (l : Layout) → IsSound l → (tap : Attachment) → IsPlain (word_of_tap l tap)
tap_plain l sound (Station k) =
    name_at (λ s. s.name) l.stations (recursion_from_All (λ s. IsName s.name) l.stations (All-weaker (IsSoundStation l.format (length l.segments)) (λ s. IsName s.name) (λ s h. h.name) l.stations sound.stations)) k
tap_plain l sound (Port r p) =
    field (name_at (λ r. r.name) l.repeaters (recursion_from_All (λ r. IsName r.name) l.repeaters (All-weaker (IsSoundRepeater (length l.segments)) (λ r. IsName r.name) (λ r h. h.name) l.repeaters sound.repeaters)) r) (codes ":") refl (p + 1)

signal_plain : (word : List ℕ) → IsPlain word → (s : Stretch) → IsPlain (signal_line word s)
unfolding signal_line
signal_plain word h s =
    joined (joined (joined (field (field (joined (words (codes "signal ") refl) h) (codes " ") refl s.start) (codes " ") refl s.end) (words (codes " ") refl)) (kind_plain s.kind)) (words (codes "\n") refl)

stretches_plain : (word : List ℕ) → IsPlain word → (stretches : List Stretch) → IsPlain (flat_map (signal_line word) stretches)
stretches_plain word h [] = nothing
stretches_plain word h (s ∷ ss) = joined (signal_plain word h s) (stretches_plain word h ss)

taps_plain : (l : Layout) → IsSound l → (taps : List Attachment) (lists : List (List Stretch)) → IsPlain (lines_of_taps l taps lists)
taps_plain l sound [] lists = nothing
taps_plain l sound (tap ∷ taps) [] = nothing
taps_plain l sound (tap ∷ taps) (x ∷ lists) = joined (stretches_plain (word_of_tap l tap) (tap_plain l sound tap) x) (taps_plain l sound taps lists)

shown_plain : (l : Layout) → IsSound l → (row : Row) → IsPlain (shown_row l row)
unfolding shown_row line_of_row
shown_plain l sound row = joined (words (codes "row ") refl) (row_plain l sound row (nat_le (length l.stations) row.device))

rows_plain : (l : Layout) → IsSound l → (told : List Row) → IsPlain (flat_map (shown_row l) told)
rows_plain l sound [] = nothing
rows_plain l sound (row ∷ told) = joined (shown_plain l sound row) (rows_plain l sound told)

lines_plain : (l : Layout) (from to : ℕ) (signals : List (List Stretch)) (told : List Row) → IsSound l → IsPlain (data_lines l from to signals told)
unfolding data_lines
lines_plain l from to signals told sound =
    joined (joined (joined (joined (window_plain from to) (run_plain l)) (layout_plain l sound)) (taps_plain l sound (taps_in_order l) signals)) (rows_plain l sound (filter (is_shown from to) told))

pub nothing_is_escaped : NothingIsEscaped
nothing_is_escaped l from to signals told sound = (lines_plain l from to signals told sound).is
