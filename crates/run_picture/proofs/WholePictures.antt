-- How the reader of XML goes over a whole picture.
use Rattle.std.proofs.Common.{◌≡◌, ℕ, zero, suc, ◌+◌, true, List, [], ◌∷◌, ◌++◌, map, filter, length, codes, refl, ap}
use Rattle.std.specs.List.{AllByRecursion}
use Rattle.std.specs.Prelude.{slice_get, decimal}
use Rattle.std.proofs.lemmas.List.Elements.{recursion_from_All}
use Rattle.layout.specs.NameOctets.{is_name_octet}
use Rattle.layout.specs.Sound.{IsName, IsSound, IsSoundRepeater, IsSoundStation}
use Rattle.layout.specs.declared.lines.Layout.{Layout}
use Rattle.layout.specs.declared.lines.RepeaterLine.{RepeaterLine}
use Rattle.layout.specs.declared.lines.SegmentLine.{SegmentLine}
use Rattle.layout.specs.declared.lines.StationLine.{StationLine}
use Rattle.layout.specs.declared.ways.Attachment.{Attachment}
use Rattle.layout.specs.declared.ways.Attachment.TheVariants.{Station, Port}
use Rattle.log_meter.specs.Lines.{IsLogLine}
use Rattle.log_meter.specs.declared.line.LogLine.{LogLine}
use Rattle.run_picture.specs.Bands.{bands_text, lane_text, name_at_station, name_of_port, name_of_tap}
use Rattle.run_picture.specs.Head.{head, style}
use Rattle.run_picture.specs.Kinds.{drawn_kinds, every_kind}
use Rattle.run_picture.specs.Lanes.{page_of}
use Rattle.run_picture.specs.Markup.{TagReader, is_plain, titles_in, titles_of_reader}
use Rattle.run_picture.specs.Marks.{title_of}
use Rattle.run_picture.specs.PictureLaws.{PicturesAreClosed, TitlesAreLines}
use Rattle.run_picture.specs.Pictures.{picture_on}
use Rattle.run_picture.specs.Sendings.{does_meet}
use Rattle.run_picture.specs.WordRooms.{first_rooms}
use Rattle.run_picture.specs.declared.lanes.Band.{Band}
use Rattle.run_picture.specs.declared.lanes.Page.{Page}
use Rattle.run_picture.specs.declared.window.Window.{Window}
use Rattle.run_picture.proofs.MarkReadings.{between_marks, marks_lead}
use Rattle.run_picture.proofs.PieceReadings.{axis_leads, clip_leads, ground_leads, entries_lead, lane_leads, patterns_lead, segment_leads, size_leads, style_of_sendings_leads, style_of_signs_leads, style_of_words_leads}
use Rattle.run_picture.proofs.Plain.{decimal_plain, name_plain, plain_append}
use Rattle.run_picture.proofs.Readings.{Leads, all_stay, between, fixed, go_on, nothing}

abbrev in_defs : List (List ℕ) → TagReader
in_defs ts = between (codes "defs" ∷ codes "svg" ∷ []) ts

style_leads : (ts : List (List ℕ)) → Leads (between_marks ts) style (between_marks ts)
unfolding style
style_leads ts = go_on (go_on (style_of_words_leads ts) (style_of_sendings_leads ts)) (style_of_signs_leads ts)

head_leads : (ts : List (List ℕ)) (height : ℕ) → Leads (between [] ts) (head height) (between_marks ts)
unfolding head is_name_octet
head_leads ts height =
    go_on (go_on (go_on (go_on (go_on (go_on (size_leads ts height) (style_leads ts))
    (fixed (between_marks ts) (in_defs ts) (codes "<defs>\n") refl)) (patterns_lead ts)) (clip_leads ts height))
    (fixed (in_defs ts) (between_marks ts) (codes "</defs>\n") refl)) (ground_leads ts height)

station_plain : (format segments : ℕ) (ss : List StationLine) → AllByRecursion (IsSoundStation format segments) ss → (k : ℕ) → is_plain (name_at_station (slice_get ss k)) ≡ true
station_plain format segments [] h zero = refl
station_plain format segments [] h (suc k) = refl
station_plain format segments (s ∷ ss) h zero = name_plain s.name h.0.name
station_plain format segments (s ∷ ss) h (suc k) = station_plain format segments ss h.1 k

port_plain : (segments : ℕ) (rs : List RepeaterLine) → AllByRecursion (IsSoundRepeater segments) rs → (r p : ℕ) → is_plain (name_of_port (slice_get rs r) p) ≡ true
port_plain segments [] h zero p = refl
port_plain segments [] h (suc r) p = refl
port_plain segments (row ∷ rs) h zero p =
    plain_append (row.name ++ codes ":") (decimal (p + 1)) (plain_append row.name (codes ":") (name_plain row.name h.0.name) refl) (decimal_plain (p + 1))
port_plain segments (row ∷ rs) h (suc r) p = port_plain segments rs h.1 r p

-- the name of a tap
tap_plain : (l : Layout) → IsSound l → (tap : Attachment) → is_plain (name_of_tap l tap) ≡ true
tap_plain l sound (Station k) =
    station_plain l.format (length l.segments) l.stations (recursion_from_All (IsSoundStation l.format (length l.segments)) l.stations sound.stations) k
tap_plain l sound (Port r p) =
    port_plain (length l.segments) l.repeaters (recursion_from_All (IsSoundRepeater (length l.segments)) l.repeaters sound.repeaters) r p

bands_lead : (ts : List (List ℕ)) (l : Layout) → IsSound l → (segments : List SegmentLine) → AllByRecursion (λ s. IsName s.name) segments → (bands : List Band)
    → Leads (between_marks ts) (bands_text l segments bands) (between_marks ts)
bands_lead ts l sound [] h bands = nothing (between_marks ts)
bands_lead ts l sound (segment ∷ segments) h [] = nothing (between_marks ts)
bands_lead ts l sound (segment ∷ segments) h (band ∷ bands) =
    go_on (go_on (segment_leads ts band.top segment (name_plain segment.name h.0))
    (all_stay (between_marks ts) (lane_text l) band.lanes (λ lane. lane_leads ts l lane (tap_plain l sound lane.tap))))
    (bands_lead ts l sound segments h.1 bands)

picture_leads : (page : Page) (window : Window) (l : Layout) (lines : List LogLine) → IsSound l → AllByRecursion IsLogLine lines
    → Leads (between [] []) (picture_on page window l lines) (between [] (map title_of (filter (does_meet window) lines)))
unfolding is_name_octet
picture_leads page window l lines sound logged =
    let titles : List (List ℕ) = map title_of (filter (does_meet window) lines) in
    go_on (go_on (go_on (go_on (go_on (head_leads [] page.height) (entries_lead [] 0 (drawn_kinds window lines every_kind)))
    (axis_leads [] window page.height))
    (bands_lead [] l sound l.segments (recursion_from_All (λ s. IsName s.name) l.segments sound.segments) page.bands))
    (marks_lead [] (first_rooms l) window l page.bands lines logged))
    (fixed (between_marks titles) (between [] titles) (codes "</svg>\n") refl)

pub titles_are_lines : TitlesAreLines
unfolding titles_in
titles_are_lines l lines from to sound logged =
    ap titles_of_reader (picture_leads (page_of l) (record { from = from; to = to }) l lines sound logged).leads

pub pictures_are_closed : PicturesAreClosed
pictures_are_closed l lines from to sound logged = (_, titles_are_lines l lines from to sound logged)
