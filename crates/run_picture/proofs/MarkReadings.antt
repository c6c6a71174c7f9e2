-- How the reader of XML goes over the marks of a picture, and what titles it finds in them.
use Rattle.std.proofs.Common.{ℕ, ◌+◌, ◌&&◌, Bool, true, false, cond, List, [], ◌∷◌, ◌++◌, map, filter, codes, Some, None, refl, sym, subst, append_assoc, append-nil}
use Rattle.std.specs.List.{AllByRecursion}
use Rattle.std.specs.Prelude.{Option, slice_get, nat_lt}
use Rattle.collision_log.specs.declared.row.Body.{Body}
use Rattle.collision_log.specs.declared.row.Body.TheVariants as body
use Rattle.layout.specs.NameOctets.{is_name_octet}
use Rattle.layout.specs.declared.lines.Layout.{Layout}
use Rattle.layout.specs.declared.lines.PortLine.{PortLine}
use Rattle.layout.specs.declared.ways.Attachment.TheVariants.{Station, Port}
use Rattle.log_meter.specs.Lines.{IsLogLine}
use Rattle.log_meter.specs.declared.line.LogLine.{LogLine}
use Rattle.run_picture.specs.Markup.{TagReader}
use Rattle.run_picture.specs.Marks.{shown, lane_of, lane_shapes, lanes_of_segment, mark, marks_from, port_shapes, reception, repeater_shapes, shapes_at_station, shapes_on_lane, sign_of_port, signs_of_ports, station_shapes, title_of, word_of_drop}
use Rattle.run_picture.specs.Sendings.{does_end, does_meet, hit_sign_at, is_in_window, sending_of, sending_shapes}
use Rattle.run_picture.specs.Signs.{sign}
use Rattle.run_picture.specs.Strangers.{number_of_repeater, number_of_station}
use Rattle.run_picture.specs.Waves.{wave}
use Rattle.run_picture.specs.WordRooms.{has_word, rooms_after}
use Rattle.run_picture.specs.declared.lanes.Band.{Band}
use Rattle.run_picture.specs.declared.lanes.Lane.{Lane}
use Rattle.run_picture.specs.declared.sending.Sending.{Sending}
use Rattle.run_picture.specs.declared.signs.Sign.TheVariants as the_sign
use Rattle.run_picture.specs.declared.window.Window.{Window}
use Rattle.run_picture.proofs.PieceReadings.{bar_leads, sign_leads, wave_leads, word_of_drop_leads}
use Rattle.run_picture.proofs.PlainPieces.{title_plain}
use Rattle.run_picture.proofs.Readings.{Leads, between, fixed, in_title, nothing, plain_in_title, go_on}

-- in a mark, and between marks
abbrev in_mark : List (List ℕ) → TagReader
in_mark ts = between (codes "g" ∷ codes "svg" ∷ []) ts

abbrev pub between_marks : List (List ℕ) → TagReader
between_marks ts = between (codes "svg" ∷ []) ts

-- a text in a mark that leads back into the mark
abbrev Stays : List (List ℕ) → List ℕ → Type 0
Stays ts text = Leads (in_mark ts) text (in_mark ts)

one_of_two : (ts : List (List ℕ)) (b : Bool) (text : List ℕ) → Stays ts text → Stays ts (cond b text [])
one_of_two ts true text h = h
one_of_two ts false text h = nothing (in_mark ts)

shown_stays : {A : Type 0} (ts : List (List ℕ)) (o : Option A) (draw : A → List ℕ) → ((x : A) → Stays ts (draw x)) → Stays ts (shown o draw)
shown_stays ts None draw h = nothing (in_mark ts)
shown_stays ts (Some x) draw h = h x

hit_stays : (ts : List (List ℕ)) (window : Window) (sending : Sending) (hit : Option ℕ) (y : ℕ) → Stays ts (hit_sign_at window sending hit y)
hit_stays ts window sending None y = nothing (in_mark ts)
hit_stays ts window sending (Some hit) y =
    one_of_two ts (nat_lt (sending.start + hit) sending.end && is_in_window window (sending.start + hit)) (sign window the_sign.Hit (sending.start + hit) y)
    (sign_leads ts window the_sign.Hit (sending.start + hit) y)

sending_stays : (ts : List (List ℕ)) (window : Window) (sending : Sending) (lane : Lane) (lanes : List Lane) → Stays ts (sending_shapes window sending lane lanes)
unfolding sending_shapes
sending_stays ts window sending lane lanes =
    go_on (go_on (go_on (wave_leads ts window sending.start lane.at lanes)
    (one_of_two ts (does_end sending.outcome) (wave window sending.end lane.at lanes) (wave_leads ts window sending.end lane.at lanes)))
    (bar_leads ts window sending.outcome sending.start sending.end lane.y))
    (hit_stays ts window sending sending.hit lane.y)

reception_stays : (ts : List (List ℕ)) (worded : Bool) (window : Window) (t y : ℕ) (b : Body) → Stays ts (reception worded window t y b)
reception_stays ts worded window t y (body.Sent frame start attempt) = nothing (in_mark ts)
reception_stays ts worded window t y (body.Collided frame start attempt hit drawn) = nothing (in_mark ts)
reception_stays ts worded window t y (body.GivenUp frame start hit) = nothing (in_mark ts)
reception_stays ts worded window t y (body.Cut frame start attempt hit) = nothing (in_mark ts)
reception_stays ts worded window t y (body.Received octets) = sign_leads ts window the_sign.Received t y
reception_stays ts worded window t y (body.Dropped why halves) = go_on (sign_leads ts window the_sign.Dropped t y) (one_of_two ts worded (word_of_drop window t y why) (word_of_drop_leads ts window t y why))
reception_stays ts worded window t y body.Clash = nothing (in_mark ts)
reception_stays ts worded window t y (body.Closed port) = nothing (in_mark ts)
reception_stays ts worded window t y (body.Opened port) = nothing (in_mark ts)
reception_stays ts worded window t y (body.Halted port) = nothing (in_mark ts)

on_lane_stays : (ts : List (List ℕ)) (worded : Bool) (window : Window) (line : LogLine) (lane : Lane) (lanes : List Lane) (o : Option Sending)
    → Stays ts (shapes_on_lane worded window line lane lanes o)
on_lane_stays ts worded window line lane lanes None = reception_stays ts worded window line.t lane.y line.body
on_lane_stays ts worded window line lane lanes (Some sending) = sending_stays ts window sending lane lanes

station_stays : (ts : List (List ℕ)) (worded : Bool) (window : Window) (l : Layout) (bands : List Band) (line : LogLine) → Stays ts (station_shapes worded window l bands line)
station_stays ts worded window l bands line =
    shown_stays ts (number_of_station l.stations line.name)
    (λ k. shown (slice_get l.stations k) (λ station. shapes_at_station worded window line k (lanes_of_segment bands station.segment)))
    (λ k. shown_stays ts (slice_get l.stations k) (λ station. shapes_at_station worded window line k (lanes_of_segment bands station.segment))
    (λ station. shown_stays ts (lane_of (lanes_of_segment bands station.segment) (Station k))
    (λ lane. lane_shapes worded window line lane (lanes_of_segment bands station.segment))
    (λ lane. on_lane_stays ts worded window line lane (lanes_of_segment bands station.segment) (sending_of line.t line.body))))

port_stays : (ts : List (List ℕ)) (window : Window) (line : LogLine) (lanes : List Lane) (r p : ℕ) → Stays ts (port_shapes window line lanes r p)
port_stays ts window line lanes r p =
    shown_stays ts (sign_of_port line.body (p + 1)) (λ mark. shown (lane_of lanes (Port r p)) (λ lane. sign window mark line.t lane.y))
    (λ mark. shown_stays ts (lane_of lanes (Port r p)) (λ lane. sign window mark line.t lane.y) (λ lane. sign_leads ts window mark line.t lane.y))

ports_stay : (ts : List (List ℕ)) (window : Window) (line : LogLine) (bands : List Band) (r p : ℕ) (ports : List PortLine) → Stays ts (signs_of_ports window line bands r p ports)
ports_stay ts window line bands r p [] = nothing (in_mark ts)
ports_stay ts window line bands r p (port ∷ ports) =
    go_on (port_stays ts window line (lanes_of_segment bands port.segment) r p) (ports_stay ts window line bands r (p + 1) ports)

repeater_stays : (ts : List (List ℕ)) (window : Window) (l : Layout) (bands : List Band) (line : LogLine) → Stays ts (repeater_shapes window l bands line)
repeater_stays ts window l bands line =
    shown_stays ts (number_of_repeater l.repeaters line.name)
    (λ r. shown (slice_get l.repeaters r) (λ repeater. signs_of_ports window line bands r 0 repeater.ports))
    (λ r. shown_stays ts (slice_get l.repeaters r) (λ repeater. signs_of_ports window line bands r 0 repeater.ports)
    (λ repeater. ports_stay ts window line bands r 0 repeater.ports))

either_stays : (ts : List (List ℕ)) (b : Bool) (one two : List ℕ) → Stays ts one → Stays ts two → Stays ts (cond b one two)
either_stays ts true one two h k = h
either_stays ts false one two h k = k

-- a mark adds its title
mark_leads : (ts : List (List ℕ)) (worded : Bool) (window : Window) (l : Layout) (bands : List Band) (line : LogLine) → IsLogLine line
    → Leads (between_marks ts) (mark worded window l bands line) (between_marks (ts ++ title_of line ∷ []))
unfolding mark is_name_octet
mark_leads ts worded window l bands line h =
    let later : List (List ℕ) = ts ++ title_of line ∷ [] in
    go_on (go_on (go_on (go_on (fixed (between_marks ts) (in_title (codes "g" ∷ codes "svg" ∷ []) ts []) (codes "<g><title>") refl)
    (plain_in_title (codes "g" ∷ codes "svg" ∷ []) ts [] (title_of line) (title_plain line h)))
    (fixed (in_title (codes "g" ∷ codes "svg" ∷ []) ts (title_of line)) (in_mark later) (codes "</title>") refl))
    (either_stays later line.repeater (repeater_shapes window l bands line) (station_shapes worded window l bands line)
    (repeater_stays later window l bands line) (station_stays later worded window l bands line)))
    (fixed (in_mark later) (between_marks later) (codes "</g>\n") refl)

-- the titles of these lines, where the first of them meets the window or not
line_leads : (ts : List (List ℕ)) (worded : Bool) (window : Window) (l : Layout) (bands : List Band) (line : LogLine) (lines : List LogLine) (rest : List ℕ) (b : Bool) → IsLogLine line
    → ((later : List (List ℕ)) → Leads (between_marks later) rest (between_marks (later ++ map title_of (filter (does_meet window) lines))))
    → Leads (between_marks ts) (cond b (mark worded window l bands line) [] ++ rest)
    (between_marks (ts ++ map title_of (cond b (line ∷ filter (does_meet window) lines) (filter (does_meet window) lines))))
line_leads ts worded window l bands line lines rest true h more =
    let titles_of_rest : List (List ℕ) = map title_of (filter (does_meet window) lines) in
    subst (λ (titles : List (List ℕ)). Leads (between_marks ts) (mark worded window l bands line ++ rest) (between_marks titles))
    (append_assoc ts (title_of line ∷ []) titles_of_rest)
    (go_on (mark_leads ts worded window l bands line h) (more (ts ++ title_of line ∷ [])))
line_leads ts worded window l bands line lines rest false h more = more ts

-- the marks add the titles of the lines that meet the window, in their order
pub marks_lead : (ts : List (List ℕ)) (rooms : List ℕ) (window : Window) (l : Layout) (bands : List Band) (lines : List LogLine) → AllByRecursion IsLogLine lines
    → Leads (between_marks ts) (marks_from rooms window l bands lines) (between_marks (ts ++ map title_of (filter (does_meet window) lines)))
marks_lead ts rooms window l bands [] h =
    subst (λ (titles : List (List ℕ)). Leads (between_marks ts) [] (between_marks titles)) (sym (append-nil ts)) (nothing (between_marks ts))
marks_lead ts rooms window l bands (line ∷ lines) h =
    line_leads ts (has_word window l rooms line lines) window l bands line lines (marks_from (rooms_after window l rooms line lines) window l bands lines) (does_meet window line) h.0
    (λ later. marks_lead later (rooms_after window l rooms line lines) window l bands lines h.1)
