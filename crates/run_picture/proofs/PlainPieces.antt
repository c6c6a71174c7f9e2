-- Pieces of a picture in which no octet means something in XML.
use Rattle.std.proofs.Common.{◌≡◌, ℕ, ◌+◌, ◌-◌, ◌*◌, ◌/◌, Bool, true, false, cond, List, [], ◌∷◌, ◌++◌, length, codes, Some, None, refl}
use Rattle.std.specs.Prelude.{decimal, nat_lt, Option}
use Rattle.mac_parameters.specs.Distances.{distance}
use Rattle.collision_log.specs.Rows.{body_text, device_word, hit_text, why_text}
use Rattle.collision_log.specs.declared.row.Body.{Body}
use Rattle.collision_log.specs.declared.row.Body.TheVariants as body
use Rattle.collision_log.specs.declared.row.Why.{Why}
use Rattle.collision_log.specs.declared.row.Why.TheVariants as why
use Rattle.log_meter.specs.Lines.{IsLogLine}
use Rattle.log_meter.specs.declared.line.LogLine.{LogLine}
use Rattle.run_picture.specs.Bands.{letters_word}
use Rattle.run_picture.specs.Legend.{ending_name, kind_name, kind_path, kind_word, sign_entry, sign_name}
use Rattle.run_picture.specs.Markup.{is_plain}
use Rattle.run_picture.specs.Marks.{title_of}
use Rattle.run_picture.specs.Signs.{sending_word, sign_path, sign_word}
use Rattle.run_picture.specs.Sizes.{longest_large_name, plot_width}
use Rattle.run_picture.specs.Times.{place_of_time, x_of}
use Rattle.run_picture.specs.Waves.{point_of_wave, points_of_wave}
use Rattle.run_picture.specs.declared.kinds.ShapeKind.{ShapeKind}
use Rattle.run_picture.specs.declared.kinds.ShapeKind.TheVariants.{Bar, Front, Point}
use Rattle.run_picture.specs.declared.lanes.Lane.{Lane}
use Rattle.run_picture.specs.declared.signs.Outcome.{Outcome}
use Rattle.run_picture.specs.declared.signs.Outcome.TheVariants as outcome
use Rattle.run_picture.specs.declared.signs.Sign.{Sign}
use Rattle.run_picture.specs.declared.signs.Sign.TheVariants as the_sign
use Rattle.run_picture.specs.declared.window.Window.{Window}
use Rattle.run_picture.proofs.Plain.{decimal_plain, name_plain, plain_append}

pub sign_word_plain : (mark : Sign) → is_plain (sign_word mark) ≡ true
sign_word_plain the_sign.Hit = refl
sign_word_plain the_sign.Received = refl
sign_word_plain the_sign.Dropped = refl
sign_word_plain the_sign.Clash = refl
sign_word_plain the_sign.Closed = refl
sign_word_plain the_sign.Opened = refl
sign_word_plain the_sign.Halted = refl

pub sign_path_plain : (mark : Sign) → is_plain (sign_path mark) ≡ true
sign_path_plain the_sign.Hit = refl
sign_path_plain the_sign.Received = refl
sign_path_plain the_sign.Dropped = refl
sign_path_plain the_sign.Clash = refl
sign_path_plain the_sign.Closed = refl
sign_path_plain the_sign.Opened = refl
sign_path_plain the_sign.Halted = refl

pub sending_word_plain : (outcome : Outcome) → is_plain (sending_word outcome) ≡ true
sending_word_plain outcome.Sent = refl
sending_word_plain outcome.Collided = refl
sending_word_plain outcome.GivenUp = refl
sending_word_plain outcome.Cut = refl

pub kind_word_plain : (kind : ShapeKind) → is_plain (kind_word kind) ≡ true
kind_word_plain (Bar ending) = sending_word_plain ending
kind_word_plain Front = refl
kind_word_plain (Point mark) = sign_word_plain mark

ending_name_plain : (ending : Outcome) → is_plain (ending_name ending) ≡ true
ending_name_plain outcome.Sent = refl
ending_name_plain outcome.Collided = refl
ending_name_plain outcome.GivenUp = refl
ending_name_plain outcome.Cut = refl

sign_name_plain : (mark : Sign) → is_plain (sign_name mark) ≡ true
sign_name_plain the_sign.Hit = refl
sign_name_plain the_sign.Received = refl
sign_name_plain the_sign.Dropped = refl
sign_name_plain the_sign.Clash = refl
sign_name_plain the_sign.Closed = refl
sign_name_plain the_sign.Opened = refl
sign_name_plain the_sign.Halted = refl

pub kind_name_plain : (kind : ShapeKind) → is_plain (kind_name kind) ≡ true
kind_name_plain (Bar ending) = ending_name_plain ending
kind_name_plain Front = refl
kind_name_plain (Point mark) = sign_name_plain mark

sign_entry_plain : (mark : Sign) → is_plain (sign_entry mark) ≡ true
sign_entry_plain the_sign.Hit = refl
sign_entry_plain the_sign.Received = refl
sign_entry_plain the_sign.Dropped = refl
sign_entry_plain the_sign.Clash = refl
sign_entry_plain the_sign.Closed = refl
sign_entry_plain the_sign.Opened = refl
sign_entry_plain the_sign.Halted = refl

pub kind_path_plain : (kind : ShapeKind) → is_plain (kind_path kind) ≡ true
kind_path_plain (Bar ending) = refl
kind_path_plain Front = refl
kind_path_plain (Point mark) = sign_entry_plain mark

long_plain : (b : Bool) → is_plain (cond b (codes " long") []) ≡ true
long_plain true = refl
long_plain false = refl

pub letters_plain : (name : List ℕ) → is_plain (letters_word name) ≡ true
letters_plain name = long_plain (nat_lt longest_large_name (length name))

pub why_plain : (why : Why) → is_plain (why_text why) ≡ true
why_plain why.Fragment = refl
why_plain why.TooLong = refl
why_plain why.FcsError = refl
why_plain why.AlignError = refl
why_plain why.Damaged = refl

signed_plain : (b : Bool) (m n : ℕ) → is_plain (cond b (codes "-" ++ decimal m) (decimal n)) ≡ true
signed_plain true m n = plain_append (codes "-") (decimal m) refl (decimal_plain m)
signed_plain false m n = decimal_plain n

place_plain : (window : Window) (t : ℕ) → is_plain (place_of_time window t) ≡ true
unfolding place_of_time
place_plain window t = signed_plain (nat_lt t window.from) (plot_width * (window.from - t) / (window.to - window.from)) (x_of window t)

point_plain : (window : Window) (t at : ℕ) (lane : Lane) → is_plain (point_of_wave window t at lane) ≡ true
unfolding point_of_wave
point_plain window t at lane =
    plain_append (place_of_time window (t + distance lane.at at) ++ codes "," ++ decimal lane.y) (codes " ")
    (plain_append (place_of_time window (t + distance lane.at at) ++ codes ",") (decimal lane.y)
    (plain_append (place_of_time window (t + distance lane.at at)) (codes ",") (place_plain window (t + distance lane.at at)) refl) (decimal_plain lane.y)) refl

pub points_plain : (window : Window) (t at : ℕ) (lanes : List Lane) → is_plain (points_of_wave window t at lanes) ≡ true
points_plain window t at [] = refl
points_plain window t at (lane ∷ lanes) =
    plain_append (point_of_wave window t at lane) (points_of_wave window t at lanes) (point_plain window t at lane) (points_plain window t at lanes)

-- a word and a number after plain octets
field_plain : (front word : List ℕ) (n : ℕ) → is_plain front ≡ true → is_plain word ≡ true → is_plain (front ++ word ++ decimal n) ≡ true
field_plain front word n one two = plain_append (front ++ word) (decimal n) (plain_append front word one two) (decimal_plain n)

hit_plain : (hit : Option ℕ) → is_plain (hit_text hit) ≡ true
hit_plain None = refl
hit_plain (Some hit) = decimal_plain hit

body_plain : (b : Body) → is_plain (body_text b) ≡ true
body_plain (body.Sent frame start attempt) =
    field_plain (codes "sent frame " ++ decimal frame ++ codes " start " ++ decimal start) (codes " attempt ") attempt
    (field_plain (codes "sent frame " ++ decimal frame) (codes " start ") start (plain_append (codes "sent frame ") (decimal frame) refl (decimal_plain frame)) refl) refl
body_plain (body.Collided frame start attempt hit drawn) =
    let one = plain_append (codes "collided frame ") (decimal frame) refl (decimal_plain frame) in
    let two = field_plain (codes "collided frame " ++ decimal frame) (codes " start ") start one refl in
    let three = field_plain (codes "collided frame " ++ decimal frame ++ codes " start " ++ decimal start) (codes " attempt ") attempt two refl in
    let four = field_plain (codes "collided frame " ++ decimal frame ++ codes " start " ++ decimal start ++ codes " attempt " ++ decimal attempt) (codes " hit ") hit three refl in
    field_plain (codes "collided frame " ++ decimal frame ++ codes " start " ++ decimal start ++ codes " attempt " ++ decimal attempt ++ codes " hit " ++ decimal hit) (codes " draw ") drawn four refl
body_plain (body.GivenUp frame start hit) =
    field_plain (codes "given_up frame " ++ decimal frame ++ codes " start " ++ decimal start) (codes " hit ") hit
    (field_plain (codes "given_up frame " ++ decimal frame) (codes " start ") start (plain_append (codes "given_up frame ") (decimal frame) refl (decimal_plain frame)) refl) refl
body_plain (body.Cut frame start attempt hit) =
    let one = plain_append (codes "cut frame ") (decimal frame) refl (decimal_plain frame) in
    let two = field_plain (codes "cut frame " ++ decimal frame) (codes " start ") start one refl in
    let three = field_plain (codes "cut frame " ++ decimal frame ++ codes " start " ++ decimal start) (codes " attempt ") attempt two refl in
    plain_append (codes "cut frame " ++ decimal frame ++ codes " start " ++ decimal start ++ codes " attempt " ++ decimal attempt ++ codes " hit ") (hit_text hit)
    (plain_append (codes "cut frame " ++ decimal frame ++ codes " start " ++ decimal start ++ codes " attempt " ++ decimal attempt) (codes " hit ") three refl) (hit_plain hit)
body_plain (body.Received octets) = plain_append (codes "received octets ") (decimal octets) refl (decimal_plain octets)
body_plain (body.Dropped w halves) =
    field_plain (codes "dropped " ++ why_text w) (codes " halves ") halves (plain_append (codes "dropped ") (why_text w) refl (why_plain w)) refl
body_plain body.Clash = refl
body_plain (body.Closed port) = plain_append (codes "closed port ") (decimal port) refl (decimal_plain port)
body_plain (body.Opened port) = plain_append (codes "opened port ") (decimal port) refl (decimal_plain port)
body_plain (body.Halted port) = plain_append (codes "halted port ") (decimal port) refl (decimal_plain port)

device_plain : (repeater : Bool) → is_plain (device_word repeater) ≡ true
device_plain true = refl
device_plain false = refl

-- a line of the log
pub title_plain : (line : LogLine) → IsLogLine line → is_plain (title_of line) ≡ true
unfolding title_of
title_plain line h =
    let one = plain_append (decimal line.t) (codes " ") (decimal_plain line.t) refl in
    let two = plain_append (decimal line.t ++ codes " ") (device_word line.repeater) one (device_plain line.repeater) in
    let three = plain_append (decimal line.t ++ codes " " ++ device_word line.repeater) line.name two (name_plain line.name h.name) in
    let four = plain_append (decimal line.t ++ codes " " ++ device_word line.repeater ++ line.name) (codes " ") three refl in
    plain_append (decimal line.t ++ codes " " ++ device_word line.repeater ++ line.name ++ codes " ") (body_text line.body) four (body_plain line.body)
