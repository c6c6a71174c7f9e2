-- What marks draw stands in the picture.
use Rattle.std.proofs.Common.{◌≡◌, ℕ, zero, suc, ◌+◌, ◌<◌, ◌≤◌, Bool, true, false, cond, List, [], ◌∷◌, ◌++◌, codes, Some, None, refl, sym, ap, subst, ◌∙◌, arith, append_assoc, append-nil, length}
use Rattle.std.specs.Prelude.{Option, Contains, slice_get, slice_index_or, nat_le, nat_lt, max, min, decimal}
use Rattle.std.proofs.lemmas.Bool.{and_from, eq-eqb, le-leb, lt-ltb}
use Rattle.collision_log.specs.declared.row.Body.{Body}
use Rattle.collision_log.specs.declared.row.Body.TheVariants as body
use Rattle.layout.specs.declared.lines.Layout.{Layout}
use Rattle.layout.specs.declared.lines.PortLine.{PortLine}
use Rattle.layout.specs.declared.lines.RepeaterLine.{RepeaterLine}
use Rattle.layout.specs.declared.lines.StationLine.{StationLine}
use Rattle.layout.specs.declared.ways.Attachment.TheVariants.{Port}
use Rattle.log_meter.specs.declared.line.LogLine.{LogLine}
use Rattle.run_picture.specs.Axis.{axis}
use Rattle.run_picture.specs.Bands.{bands_text}
use Rattle.run_picture.specs.Elements.{HasInMark, HitsHaveSigns, IsLaneOfStation, PortsHaveSigns, ReceptionsHaveSigns, SendingsHaveBars, TellsOfHit, TellsOfPort, TellsOfReception, TellsOfSending, bar_element, sign_element}
use Rattle.run_picture.specs.Head.{head}
use Rattle.run_picture.specs.Lanes.{page_of}
use Rattle.run_picture.specs.Legend.{legend}
use Rattle.run_picture.specs.Marks.{lane_of, lane_shapes, lanes_of_segment, mark, mark_of_line, marks, marks_from, port_shapes, reception, repeater_shapes, shapes_at_station, shapes_of_line, shapes_on_lane, shown, sign_of_port, signs_of_ports, station_shapes, title_of, word_if}
use Rattle.run_picture.specs.Pictures.{picture_on}
use Rattle.run_picture.specs.Sendings.{does_meet, does_sending_meet, hit_sign, hit_sign_at, is_in_window, last_wave, sending_of, sending_shapes}
use Rattle.run_picture.specs.Signs.{bar, sending_word, sign, sign_word}
use Rattle.run_picture.specs.Times.{x_of}
use Rattle.run_picture.specs.Waves.{wave}
use Rattle.run_picture.specs.WordRooms.{first_rooms, has_word, rooms_after}
use Rattle.run_picture.specs.declared.lanes.Band.{Band}
use Rattle.run_picture.specs.declared.lanes.Lane.{Lane}
use Rattle.run_picture.specs.declared.lanes.Page.{Page}
use Rattle.run_picture.specs.declared.sending.Sending.{Sending}
use Rattle.run_picture.specs.declared.signs.Sign.{Sign}
use Rattle.run_picture.specs.declared.signs.Sign.TheVariants as the_sign
use Rattle.run_picture.specs.declared.window.Window.{Window}

-- this stands in a text
pub record Has (text element : List ℕ) : Type 0 where
  pub before : List ℕ
  pub after : List ℕ
  pub stands : text ≡ before ++ element ++ after

-- a text stands in itself, and where it stands in a part of another it stands in that, too
pub whole : (element : List ℕ) → Has element element
whole element = record { before = []; after = []; stands = sym (append-nil element) }

pub in_first : (a b element : List ℕ) → Has a element → Has (a ++ b) element
in_first a b element h =
    record { before = h.before; after = h.after ++ b; stands = ap (λ xs. xs ++ b) h.stands ∙ append_assoc (h.before ++ element) h.after b }

pub in_second : (a b element : List ℕ) → Has b element → Has (a ++ b) element
in_second a b element h =
    record {
      before = a ++ h.before;
      after = h.after;
      stands = ap (λ xs. a ++ xs) h.stands ∙ sym (append_assoc a (h.before ++ element) h.after) ∙ ap (λ xs. xs ++ h.after) (sym (append_assoc a h.before element));
    }

in_same : (a b element : List ℕ) → a ≡ b → Has a element → Has b element
in_same a b element same h = record { before = h.before; after = h.after; stands = sym same ∙ h.stands }

mark_shown : (worded : Bool) (window : Window) (l : Layout) (bands : List Band) (line : LogLine) → does_meet window line ≡ true
    → mark_of_line worded window l bands line ≡ mark worded window l bands line
mark_shown worded window l bands line meets = ap (λ (b : Bool). cond b (mark worded window l bands line) []) meets

-- the mark of a line stands in a text, with a word or without one
abbrev HasMark : Window → Layout → List Band → LogLine → List ℕ → Type 0
HasMark window l bands line text = (worded : Bool) × Has text (mark worded window l bands line)

-- a line's mark stands among those of all
in_marks : (rooms : List ℕ) (window : Window) (l : Layout) (bands : List Band) (lines : List LogLine) (line : LogLine) (k : ℕ) → k < length lines → slice_index_or lines k line ≡ line
    → does_meet window line ≡ true → HasMark window l bands line (marks_from rooms window l bands lines)
in_marks rooms window l bands [] line k within at meets = absurd (omega arith)
in_marks rooms window l bands (first ∷ lines) line zero within at meets =
    let worded : Bool = has_word window l rooms line lines in
    let one : Has (mark_of_line worded window l bands line) (mark worded window l bands line) =
    in_same _ _ (mark worded window l bands line) (sym (mark_shown worded window l bands line meets)) (whole (mark worded window l bands line)) in (
      worded,
      subst (λ z. Has (marks_from rooms window l bands (z ∷ lines)) (mark worded window l bands line)) (sym at)
          (in_first (mark_of_line worded window l bands line) (marks_from (rooms_after window l rooms line lines) window l bands lines) (mark worded window l bands line) one),
    )
in_marks rooms window l bands (first ∷ lines) line (suc k) within at meets =
    let rest = in_marks (rooms_after window l rooms first lines) window l bands lines line k (omega arith) at meets in
    (rest.0, in_second (mark_of_line (has_word window l rooms first lines) window l bands first) (marks_from (rooms_after window l rooms first lines) window l bands lines) (mark rest.0 window l bands line) rest.1)

-- a line's mark stands in the picture
mark_stands : (page : Page) (window : Window) (l : Layout) (lines : List LogLine) (line : LogLine) → Contains lines line → does_meet window line ≡ true
    → HasMark window l page.bands line (picture_on page window l lines)
mark_stands page window l lines line among meets =
    let front : List ℕ = head page.height ++ legend window lines ++ axis window page.height ++ bands_text l l.segments page.bands in
    let m = in_marks (first_rooms l) window l page.bands lines line among.0 among.1 among.2 meets in (
      m.0,
      in_first (front ++ marks window l page.bands lines) (codes "</svg>\n") (mark m.0 window l page.bands line)
          (in_second front (marks window l page.bands lines) (mark m.0 window l page.bands line) m.1),
    )

-- what stands in the shapes of a line stands in its mark in the picture
in_mark : (page : Page) (window : Window) (l : Layout) (lines : List LogLine) (line : LogLine) (element : List ℕ) → Contains lines line → does_meet window line ≡ true
    → ((worded : Bool) → Has (shapes_of_line worded window l page.bands line) element) → HasInMark (picture_on page window l lines) line element
unfolding mark
in_mark page window l lines line element among meets all =
    let found = mark_stands page window l lines line among meets in
    let m = found.1 in
    let h = all found.0 in
    record {
      front = m.before;
      before = h.before;
      after = h.after;
      rest = m.after;
      stands = m.stands ∙ ap (λ xs. m.before ++ (codes "<g><title>" ++ title_of line ++ codes "</title>" ++ xs ++ codes "</g>\n") ++ m.after) h.stands;
    }

-- a sign with this word and these lines behind its first letter
one_sign : (word : List ℕ) (x y : ℕ) (path : List ℕ)
    → Has (codes "<path class='" ++ word ++ codes "' d='M" ++ decimal x ++ codes " " ++ decimal y ++ (codes "m" ++ path) ++ codes "'/>") (sign_element word x y)
one_sign word x y path =
    let front : List ℕ = codes "<path class='" ++ word ++ codes "' d='M" ++ decimal x ++ codes " " ++ decimal y in
    record { before = []; after = path ++ codes "'/>"; stands = ap (λ xs. xs ++ codes "'/>") (sym (append_assoc front (codes "m") path)) ∙ append_assoc (front ++ codes "m") path (codes "'/>") }

-- where a sign begins
sign_begins : (window : Window) (s : Sign) (t y : ℕ) → Has (sign window s t y) (sign_element (sign_word s) (x_of window t) y)
unfolding sign
sign_begins window the_sign.Hit t y = one_sign (codes "hit") (x_of window t) y (codes "0 -450l-350 -650h700z")
sign_begins window the_sign.Received t y = one_sign (codes "received") (x_of window t) y (codes "-380 0a380 380 0 1 0 760 0a380 380 0 1 0 -760 0z")
sign_begins window the_sign.Dropped t y = one_sign (codes "dropped") (x_of window t) y (codes "-350 -350l700 700m0 -700l-700 700")
sign_begins window the_sign.Clash t y = one_sign (codes "clash") (x_of window t) y (codes "0 -700l170 480h500l-400 300l150 490l-420 -290l-420 290l150 -490l-400 -300h500z")
sign_begins window the_sign.Closed t y = one_sign (codes "closed") (x_of window t) y (codes "-330 -330h660v660h-660z")
sign_begins window the_sign.Opened t y = one_sign (codes "opened") (x_of window t) y (codes "-330 -330h660v660h-660z")
sign_begins window the_sign.Halted t y = one_sign (codes "halted") (x_of window t) y (codes "0 -500l500 500l-500 500l-500 -500z")

-- a station's line draws on its lane
on_lane : (worded : Bool) (window : Window) (l : Layout) (line : LogLine) (lane : Lane) → line.repeater ≡ false → (h : IsLaneOfStation l line.name lane)
    → lane_shapes worded window line lane (lanes_of_segment (page_of l).bands h.station.segment) ≡ shapes_of_line worded window l (page_of l).bands line
on_lane worded window l line lane at h =
    let bands : List Band = (page_of l).bands in
    let lanes : List Lane = lanes_of_segment bands h.station.segment in
    sym (ap (λ (b : Bool). cond b (repeater_shapes window l bands line) (station_shapes worded window l bands line)) at
    ∙ ap (λ (o : Option ℕ). shown o (λ k. shown (slice_get l.stations k) (λ station. shapes_at_station worded window line k (lanes_of_segment bands station.segment)))) h.named
    ∙ ap (λ (o : Option StationLine). shown o (λ station. shapes_at_station worded window line h.number (lanes_of_segment bands station.segment))) h.row
    ∙ ap (λ (o : Option Lane). shown o (λ found. lane_shapes worded window line found lanes)) h.on_segment)

-- a half bit in the window
in_window : (from to t : ℕ) → from ≤ t → t < to → is_in_window (record { from = from; to = to }) t ≡ true
in_window from to t begun before = and_from (nat_le from t) (nat_lt t to) (le-leb from t begun) (lt-ltb t to before)

-- a sending that meets the window
sending_meets : (from to : ℕ) (line : LogLine) (sending : Sending) → sending_of line.t line.body ≡ Some sending → sending.end ≡ line.t → sending.start < to → from ≤ line.t
    → does_meet (record { from = from; to = to }) line ≡ true
sending_meets from to line sending is end begun ended =
    ap (does_sending_meet (record { from = from; to = to }) line.t) is
    ∙ and_from (nat_lt sending.start to) (nat_le from sending.end) (lt-ltb sending.start to begun) (le-leb from sending.end (omega arith))

-- the bar of a sending stands in its shapes
bar_stands : (window : Window) (sending : Sending) (lane : Lane) (lanes : List Lane)
    → Has (sending_shapes window sending lane lanes) (bar_element (sending_word sending.outcome) (x_of window (max sending.start window.from)) (x_of window (min sending.end window.to)) lane.y)
unfolding sending_shapes bar
bar_stands window sending lane lanes =
    let word = sending_word sending.outcome in
    let left = x_of window (max sending.start window.from) in
    let right = x_of window (min sending.end window.to) in
    let waves : List ℕ = wave window sending.start lane.at lanes ++ last_wave window sending lane.at lanes in
    in_first (waves ++ bar_element word left right lane.y) (hit_sign window sending lane.y) (bar_element word left right lane.y)
    (in_second waves (bar_element word left right lane.y) (bar_element word left right lane.y) (whole (bar_element word left right lane.y)))

-- a sending's word, and when it began and ended
record IsDrawnSending (line : LogLine) (word : List ℕ) (start : ℕ) : Type 0 where
  sending : Sending
  is : sending_of line.t line.body ≡ Some sending
  word_is : sending_word sending.outcome ≡ word
  start_is : sending.start ≡ start
  end_is : sending.end ≡ line.t

drawn_sending : (line : LogLine) (b : Body) (word : List ℕ) (start : ℕ) → line.body ≡ b → TellsOfSending b word start → IsDrawnSending line word start
drawn_sending line (body.Sent frame first attempt) word start is h = record { sending = _; is = ap (sending_of line.t) is; word_is = sym h.0; start_is = sym h.1; end_is = refl }
drawn_sending line (body.Collided frame first attempt hit drawn) word start is h = record { sending = _; is = ap (sending_of line.t) is; word_is = sym h.0; start_is = sym h.1; end_is = refl }
drawn_sending line (body.GivenUp frame first hit) word start is h = record { sending = _; is = ap (sending_of line.t) is; word_is = sym h.0; start_is = sym h.1; end_is = refl }
drawn_sending line (body.Cut frame first attempt hit) word start is h = record { sending = _; is = ap (sending_of line.t) is; word_is = sym h.0; start_is = sym h.1; end_is = refl }
drawn_sending line (body.Received octets) word start is h = absurd h
drawn_sending line (body.Dropped why halves) word start is h = absurd h
drawn_sending line body.Clash word start is h = absurd h
drawn_sending line (body.Closed port) word start is h = absurd h
drawn_sending line (body.Opened port) word start is h = absurd h
drawn_sending line (body.Halted port) word start is h = absurd h

pub sendings_have_bars : SendingsHaveBars
sendings_have_bars l lines from to line lane word start among at tells is_lane begun ended =
    let window : Window = record { from = from; to = to } in
    let lanes : List Lane = lanes_of_segment (page_of l).bands is_lane.station.segment in
    let d = drawn_sending line line.body word start refl tells in
    let drawn : Has (sending_shapes window d.sending lane lanes) (bar_element (sending_word d.sending.outcome) (x_of window (max d.sending.start from)) (x_of window (min d.sending.end to)) lane.y) =
    bar_stands window d.sending lane lanes in
    let named : Has (sending_shapes window d.sending lane lanes) (bar_element word (x_of window (max start from)) (x_of window (min line.t to)) lane.y) =
    subst (λ e. Has (sending_shapes window d.sending lane lanes) (bar_element word (x_of window (max start from)) (x_of window (min e to)) lane.y)) d.end_is
    (subst (λ s. Has (sending_shapes window d.sending lane lanes) (bar_element word (x_of window (max s from)) (x_of window (min d.sending.end to)) lane.y)) d.start_is
    (subst (λ w. Has (sending_shapes window d.sending lane lanes) (bar_element w (x_of window (max d.sending.start from)) (x_of window (min d.sending.end to)) lane.y)) d.word_is drawn)) in
    let meets : does_meet window line ≡ true = sending_meets from to line d.sending d.is d.end_is (omega (arith, d.start_is)) ended in
    in_mark (page_of l) window l lines line (bar_element word (x_of window (max start from)) (x_of window (min line.t to)) lane.y) among meets
    (λ worded. in_same _ _ (bar_element word (x_of window (max start from)) (x_of window (min line.t to)) lane.y)
    (sym (ap (shapes_on_lane worded window line lane lanes) d.is) ∙ on_lane worded window l line lane at is_lane) named)

-- when a sending began and ended, and its hit
record IsHitSending (line : LogLine) (t : ℕ) : Type 0 where
  sending : Sending
  hit : ℕ
  is : sending_of line.t line.body ≡ Some sending
  hit_is : sending.hit ≡ Some hit
  t_is : t ≡ sending.start + hit
  end_is : sending.end ≡ line.t

hit_sending : (line : LogLine) (b : Body) (t : ℕ) → line.body ≡ b → TellsOfHit b t → IsHitSending line t
hit_sending line (body.Sent frame first attempt) t is h = absurd h
hit_sending line (body.Collided frame first attempt hit drawn) t is h = record { sending = _; hit = hit; is = ap (sending_of line.t) is; hit_is = refl; t_is = h; end_is = refl }
hit_sending line (body.GivenUp frame first hit) t is h = record { sending = _; hit = hit; is = ap (sending_of line.t) is; hit_is = refl; t_is = h; end_is = refl }
hit_sending line (body.Cut frame first attempt None) t is h = absurd h
hit_sending line (body.Cut frame first attempt (Some hit)) t is h = record { sending = _; hit = hit; is = ap (sending_of line.t) is; hit_is = refl; t_is = h; end_is = refl }
hit_sending line (body.Received octets) t is h = absurd h
hit_sending line (body.Dropped why halves) t is h = absurd h
hit_sending line body.Clash t is h = absurd h
hit_sending line (body.Closed port) t is h = absurd h
hit_sending line (body.Opened port) t is h = absurd h
hit_sending line (body.Halted port) t is h = absurd h

hit_shown : (window : Window) (sending : Sending) (hit y : ℕ) → sending.hit ≡ Some hit → sending.start + hit < sending.end → is_in_window window (sending.start + hit) ≡ true
    → hit_sign window sending y ≡ sign window the_sign.Hit (sending.start + hit) y
hit_shown window sending hit y is before within =
    ap (λ (o : Option ℕ). hit_sign_at window sending o y) is
    ∙ ap (λ (b : Bool). cond b (sign window the_sign.Hit (sending.start + hit) y) [])
    (and_from (nat_lt (sending.start + hit) sending.end) (is_in_window window (sending.start + hit)) (lt-ltb (sending.start + hit) sending.end before) within)

hit_stands : (window : Window) (sending : Sending) (hit : ℕ) (lane : Lane) (lanes : List Lane) → sending.hit ≡ Some hit → sending.start + hit < sending.end → is_in_window window (sending.start + hit) ≡ true
    → Has (sending_shapes window sending lane lanes) (sign_element (codes "hit") (x_of window (sending.start + hit)) lane.y)
unfolding sending_shapes
hit_stands window sending hit lane lanes is before within =
    in_second (wave window sending.start lane.at lanes ++ last_wave window sending lane.at lanes ++ bar window sending.outcome sending.start sending.end lane.y) (hit_sign window sending lane.y)
    (sign_element (codes "hit") (x_of window (sending.start + hit)) lane.y)
    (in_same _ _ (sign_element (codes "hit") (x_of window (sending.start + hit)) lane.y) (sym (hit_shown window sending hit lane.y is before within)) (sign_begins window the_sign.Hit (sending.start + hit) lane.y))

pub hits_have_signs : HitsHaveSigns
hits_have_signs l lines from to line lane t among at tells is_lane before begun within =
    let window : Window = record { from = from; to = to } in
    let lanes : List Lane = lanes_of_segment (page_of l).bands is_lane.station.segment in
    let d = hit_sending line line.body t refl tells in
    let drawn : Has (sending_shapes window d.sending lane lanes) (sign_element (codes "hit") (x_of window (d.sending.start + d.hit)) lane.y) =
    hit_stands window d.sending d.hit lane lanes d.hit_is (omega (arith, d.t_is, d.end_is)) (in_window from to (d.sending.start + d.hit) (omega (arith, d.t_is)) (omega (arith, d.t_is))) in
    let meets : does_meet window line ≡ true = sending_meets from to line d.sending d.is d.end_is (omega (arith, d.t_is)) (omega arith) in
    in_mark (page_of l) window l lines line (sign_element (codes "hit") (x_of window t) lane.y) among meets
    (λ worded. in_same _ _ (sign_element (codes "hit") (x_of window t) lane.y)
    (sym (ap (shapes_on_lane worded window line lane lanes) d.is) ∙ on_lane worded window l line lane at is_lane)
    (subst (λ u. Has (sending_shapes window d.sending lane lanes) (sign_element (codes "hit") (x_of window u) lane.y)) (sym d.t_is) drawn))

-- a line that tells of no sending meets the window where its half bit is in it
line_meets : (from to : ℕ) (line : LogLine) → sending_of line.t line.body ≡ None → from ≤ line.t → line.t < to → does_meet (record { from = from; to = to }) line ≡ true
line_meets from to line is begun before = ap (does_sending_meet (record { from = from; to = to }) line.t) is ∙ in_window from to line.t begun before

-- a reception's sign stands in its shapes
record IsDrawnReception (window : Window) (line : LogLine) (word : List ℕ) (y : ℕ) : Type 0 where
  none : sending_of line.t line.body ≡ None
  drawn : (worded : Bool) → Has (reception worded window line.t y line.body) (sign_element word (x_of window line.t) y)

drawn_reception : (window : Window) (line : LogLine) (b : Body) (word : List ℕ) (y : ℕ) → b ≡ line.body → TellsOfReception b word → IsDrawnReception window line word y
drawn_reception window line (body.Sent frame first attempt) word y is h = absurd h
drawn_reception window line (body.Collided frame first attempt hit drawn) word y is h = absurd h
drawn_reception window line (body.GivenUp frame first hit) word y is h = absurd h
drawn_reception window line (body.Cut frame first attempt hit) word y is h = absurd h
drawn_reception window line (body.Received octets) word y is h =
    record {
      none = ap (sending_of line.t) (sym is);
      drawn = λ worded. subst (λ b. Has (reception worded window line.t y b) (sign_element word (x_of window line.t) y)) is
          (subst (λ w. Has (sign window the_sign.Received line.t y) (sign_element w (x_of window line.t) y)) (sym h) (sign_begins window the_sign.Received line.t y));
    }
drawn_reception window line (body.Dropped why halves) word y is h =
    record {
      none = ap (sending_of line.t) (sym is);
      drawn = λ worded. subst (λ b. Has (reception worded window line.t y b) (sign_element word (x_of window line.t) y)) is
          (subst (λ w. Has (reception worded window line.t y (body.Dropped why halves)) (sign_element w (x_of window line.t) y)) (sym h)
          (in_first (sign window the_sign.Dropped line.t y) (word_if worded window line.t y why) (sign_element (codes "dropped") (x_of window line.t) y) (sign_begins window the_sign.Dropped line.t y)));
    }
drawn_reception window line body.Clash word y is h = absurd h
drawn_reception window line (body.Closed port) word y is h = absurd h
drawn_reception window line (body.Opened port) word y is h = absurd h
drawn_reception window line (body.Halted port) word y is h = absurd h

pub receptions_have_signs : ReceptionsHaveSigns
receptions_have_signs l lines from to line lane word among at tells is_lane begun before =
    let window : Window = record { from = from; to = to } in
    let lanes : List Lane = lanes_of_segment (page_of l).bands is_lane.station.segment in
    let d = drawn_reception window line line.body word lane.y refl tells in
    in_mark (page_of l) window l lines line (sign_element word (x_of window line.t) lane.y) among (line_meets from to line d.none begun before)
    (λ worded. in_same _ _ (sign_element word (x_of window line.t) lane.y)
    (sym (ap (shapes_on_lane worded window line lane lanes) d.none) ∙ on_lane worded window l line lane at is_lane) (d.drawn worded))

-- the sign of a port
record IsDrawnPort (line : LogLine) (number : ℕ) (word : List ℕ) : Type 0 where
  none : sending_of line.t line.body ≡ None
  sign_is : Sign
  shows : sign_of_port line.body number ≡ Some sign_is
  word_is : sign_word sign_is ≡ word

drawn_port : (line : LogLine) (b : Body) (number : ℕ) (word : List ℕ) → line.body ≡ b → TellsOfPort b number word → IsDrawnPort line number word
drawn_port line (body.Sent frame first attempt) number word is h = absurd h
drawn_port line (body.Collided frame first attempt hit drawn) number word is h = absurd h
drawn_port line (body.GivenUp frame first hit) number word is h = absurd h
drawn_port line (body.Cut frame first attempt hit) number word is h = absurd h
drawn_port line (body.Received octets) number word is h = absurd h
drawn_port line (body.Dropped why halves) number word is h = absurd h
drawn_port line body.Clash number word is h =
    record { none = ap (sending_of line.t) is; sign_is = the_sign.Clash; shows = ap (λ b. sign_of_port b number) is; word_is = sym h }
drawn_port line (body.Closed port) number word is h =
    record {
      none = ap (sending_of line.t) is;
      sign_is = the_sign.Closed;
      shows = ap (λ b. sign_of_port b number) is ∙ ap (λ (b : Bool). cond b (Some the_sign.Closed) None) (eq-eqb port number h.0);
      word_is = sym h.1;
    }
drawn_port line (body.Opened port) number word is h =
    record {
      none = ap (sending_of line.t) is;
      sign_is = the_sign.Opened;
      shows = ap (λ b. sign_of_port b number) is ∙ ap (λ (b : Bool). cond b (Some the_sign.Opened) None) (eq-eqb port number h.0);
      word_is = sym h.1;
    }
drawn_port line (body.Halted port) number word is h =
    record {
      none = ap (sending_of line.t) is;
      sign_is = the_sign.Halted;
      shows = ap (λ b. sign_of_port b number) is ∙ ap (λ (b : Bool). cond b (Some the_sign.Halted) None) (eq-eqb port number h.0);
      word_is = sym h.1;
    }

-- what is drawn for one port stands in what is drawn for all
one_port : (window : Window) (line : LogLine) (bands : List Band) (r q p : ℕ) (ports : List PortLine) (port : PortLine) (element : List ℕ) → slice_get ports p ≡ Some port
    → Has (port_shapes window line (lanes_of_segment bands port.segment) r (q + p)) element → Has (signs_of_ports window line bands r q ports) element
one_port window line bands r q zero [] port element at h = cc at
one_port window line bands r q (suc p) [] port element at h = cc at
one_port window line bands r q zero (first ∷ ports) port element at h =
    let same : first ≡ port = cc at in
    let place : q + 0 ≡ q = omega arith in
    in_first (port_shapes window line (lanes_of_segment bands first.segment) r q) (signs_of_ports window line bands r (q + 1) ports) element
    (subst (λ (f : PortLine). Has (port_shapes window line (lanes_of_segment bands f.segment) r q) element) (sym same)
    (subst (λ (j : ℕ). Has (port_shapes window line (lanes_of_segment bands port.segment) r j) element) place h))
one_port window line bands r q (suc p) (first ∷ ports) port element at h =
    let place : q + suc p ≡ q + 1 + p = omega arith in
    in_second (port_shapes window line (lanes_of_segment bands first.segment) r q) (signs_of_ports window line bands r (q + 1) ports) element
    (one_port window line bands r (q + 1) p ports port element at
    (subst (λ (j : ℕ). Has (port_shapes window line (lanes_of_segment bands port.segment) r j) element) place h))

pub ports_have_signs : PortsHaveSigns
ports_have_signs l lines from to line p lane word among at tells is_lane begun before =
    let window : Window = record { from = from; to = to } in
    let bands : List Band = (page_of l).bands in
    let lanes : List Lane = lanes_of_segment bands is_lane.port.segment in
    let r = is_lane.number in
    let d = drawn_port line line.body (p + 1) word refl tells in
    let element : List ℕ = sign_element word (x_of window line.t) lane.y in
    let shape : port_shapes window line lanes r p ≡ sign window d.sign_is line.t lane.y =
    ap (λ (o : Option Sign). shown o (λ s. shown (lane_of lanes (Port r p)) (λ found. sign window s line.t found.y))) d.shows
    ∙ ap (λ (o : Option Lane). shown o (λ found. sign window d.sign_is line.t found.y)) is_lane.on_segment in
    let drawn : Has (port_shapes window line lanes r p) element =
    in_same _ _ element (sym shape) (subst (λ w. Has (sign window d.sign_is line.t lane.y) (sign_element w (x_of window line.t) lane.y)) d.word_is (sign_begins window d.sign_is line.t lane.y)) in
    let all : (worded : Bool) → signs_of_ports window line bands r 0 is_lane.repeater.ports ≡ shapes_of_line worded window l bands line =
    λ worded. sym (ap (λ (b : Bool). cond b (repeater_shapes window l bands line) (station_shapes worded window l bands line)) at
    ∙ ap (λ (o : Option ℕ). shown o (λ k. shown (slice_get l.repeaters k) (λ repeater. signs_of_ports window line bands k 0 repeater.ports))) is_lane.named
    ∙ ap (λ (o : Option RepeaterLine). shown o (λ repeater. signs_of_ports window line bands r 0 repeater.ports)) is_lane.row) in
    let first : p ≡ 0 + p = omega arith in
    in_mark (page_of l) window l lines line element among (line_meets from to line d.none begun before)
    (λ worded. in_same _ _ element (all worded) (one_port window line bands r 0 p is_lane.repeater.ports is_lane.port element is_lane.port_row
    (subst (λ (j : ℕ). Has (port_shapes window line lanes r j) element) first drawn)))
