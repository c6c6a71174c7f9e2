-- How the reader of XML goes over the elements of a picture.
use Rattle.std.proofs.Common.{◌≡◌, ℕ, ◌+◌, ◌-◌, ◌/◌, ◌%◌, ◌==◌, Bool, true, false, cond, List, [], ◌∷◌, ◌++◌, codes, refl}
use Rattle.std.specs.List.{range_with_len}
use Rattle.std.specs.Prelude.{decimal}
use Rattle.collision_log.specs.Rows.{why_text}
use Rattle.collision_log.specs.declared.row.Why.{Why}
use Rattle.layout.specs.NameOctets.{is_name_octet}
use Rattle.layout.specs.declared.lines.Layout.{Layout}
use Rattle.layout.specs.declared.lines.SegmentLine.{SegmentLine}
use Rattle.run_picture.specs.Axis.{axis, microseconds, tick, tick_at, tick_step, words_of_axis}
use Rattle.run_picture.specs.Bands.{lane_text, letters_word, name_of_device, name_of_tap, segment_text}
use Rattle.run_picture.specs.Head.{clip_of_plot, ground, pattern_of, patterns, size_of_picture, style_of_sendings, style_of_signs, style_of_words}
use Rattle.run_picture.specs.Legend.{entries, entry_name, entry_shape, entry_x, entry_y, kind_name, kind_path, kind_word}
use Rattle.run_picture.specs.Markup.{is_plain}
use Rattle.run_picture.specs.Marks.{word_of_drop}
use Rattle.run_picture.specs.Signs.{bar, left_of_bar, right_of_bar, sending_word, sign, sign_path, sign_word}
use Rattle.run_picture.specs.Sizes.{half_bits_a_microsecond, half_bits_a_tenth}
use Rattle.run_picture.specs.Times.{x_of}
use Rattle.run_picture.specs.Waves.{is_seen, points_of_wave, seen_wave, wave}
use Rattle.run_picture.specs.declared.kinds.ShapeKind.{ShapeKind}
use Rattle.run_picture.specs.declared.lanes.Lane.{Lane}
use Rattle.run_picture.specs.declared.signs.Outcome.{Outcome}
use Rattle.run_picture.specs.declared.signs.Sign.{Sign}
use Rattle.run_picture.specs.declared.window.Window.{Window}
use Rattle.run_picture.proofs.PlainPieces.{kind_name_plain, kind_path_plain, kind_word_plain, letters_plain, points_plain, sending_word_plain, sign_path_plain, sign_word_plain, why_plain}
use Rattle.run_picture.proofs.Readings.{Leads, all_stay, between, fixed, in_value, nothing, number_between, number_in_value, plain_between, plain_in_value, go_on}

pub style_of_words_leads : (ts : List (List ℕ)) → Leads (between (codes "svg" ∷ []) ts) style_of_words (between (codes "style" ∷ codes "svg" ∷ []) ts)
unfolding style_of_words is_name_octet
style_of_words_leads ts = fixed (between (codes "svg" ∷ []) ts) (between (codes "style" ∷ codes "svg" ∷ []) ts) style_of_words refl

pub style_of_sendings_leads : (ts : List (List ℕ)) → Leads (between (codes "style" ∷ codes "svg" ∷ []) ts) style_of_sendings (between (codes "style" ∷ codes "svg" ∷ []) ts)
unfolding style_of_sendings is_name_octet
style_of_sendings_leads ts = fixed (between (codes "style" ∷ codes "svg" ∷ []) ts) (between (codes "style" ∷ codes "svg" ∷ []) ts) style_of_sendings refl

pub style_of_signs_leads : (ts : List (List ℕ)) → Leads (between (codes "style" ∷ codes "svg" ∷ []) ts) style_of_signs (between (codes "svg" ∷ []) ts)
unfolding style_of_signs is_name_octet
style_of_signs_leads ts = fixed (between (codes "style" ∷ codes "svg" ∷ []) ts) (between (codes "svg" ∷ []) ts) style_of_signs refl

pub patterns_lead : (ts : List (List ℕ)) → Leads (between (codes "defs" ∷ codes "svg" ∷ []) ts) patterns (between (codes "defs" ∷ codes "svg" ∷ []) ts)
unfolding patterns pattern_of is_name_octet
patterns_lead ts = fixed (between (codes "defs" ∷ codes "svg" ∷ []) ts) (between (codes "defs" ∷ codes "svg" ∷ []) ts) patterns refl

pub words_of_axis_leads : (ts : List (List ℕ)) → Leads (between (codes "svg" ∷ []) ts) words_of_axis (between (codes "svg" ∷ []) ts)
unfolding words_of_axis is_name_octet
words_of_axis_leads ts = fixed (between (codes "svg" ∷ []) ts) (between (codes "svg" ∷ []) ts) words_of_axis refl

pub size_leads : (ts : List (List ℕ)) (height : ℕ) → Leads (between [] ts) (size_of_picture height) (between (codes "svg" ∷ []) ts)
unfolding size_of_picture is_name_octet
size_leads ts height =
    go_on (go_on (fixed (between [] ts) (in_value [] ts (codes "svg")) (codes "<svg xmlns='http://www.w3.org/2000/svg' version='1.1' width='100%' viewBox='-26000 0 133000 ") refl)
    (number_in_value [] ts (codes "svg") height))
    (fixed (in_value [] ts (codes "svg")) (between (codes "svg" ∷ []) ts) (codes "'>\n") refl)

pub clip_leads : (ts : List (List ℕ)) (height : ℕ) → Leads (between (codes "defs" ∷ codes "svg" ∷ []) ts) (clip_of_plot height) (between (codes "defs" ∷ codes "svg" ∷ []) ts)
unfolding clip_of_plot is_name_octet
clip_leads ts height =
    go_on (go_on (fixed (between (codes "defs" ∷ codes "svg" ∷ []) ts) (in_value (codes "clipPath" ∷ codes "defs" ∷ codes "svg" ∷ []) ts (codes "path")) (codes "<clipPath id='plot'><path d='M0 0H100000V") refl)
    (number_in_value (codes "clipPath" ∷ codes "defs" ∷ codes "svg" ∷ []) ts (codes "path") height))
    (fixed (in_value (codes "clipPath" ∷ codes "defs" ∷ codes "svg" ∷ []) ts (codes "path")) (between (codes "defs" ∷ codes "svg" ∷ []) ts) (codes "H0z'/></clipPath>\n") refl)

pub ground_leads : (ts : List (List ℕ)) (height : ℕ) → Leads (between (codes "svg" ∷ []) ts) (ground height) (between (codes "svg" ∷ []) ts)
unfolding ground is_name_octet
ground_leads ts height =
    go_on (go_on (fixed (between (codes "svg" ∷ []) ts) (in_value (codes "svg" ∷ []) ts (codes "path")) (codes "<path d='M-26000 0h133000v") refl)
    (number_in_value (codes "svg" ∷ []) ts (codes "path") height))
    (fixed (in_value (codes "svg" ∷ []) ts (codes "path")) (between (codes "svg" ∷ []) ts) (codes "h-133000z' fill='#ffffff'/>\n") refl)

entry_shape_leads : (ts : List (List ℕ)) (n : ℕ) (kind : ShapeKind) → Leads (between (codes "svg" ∷ []) ts) (entry_shape n kind) (between (codes "svg" ∷ []) ts)
unfolding entry_shape is_name_octet
entry_shape_leads ts n kind =
    go_on (go_on (go_on (go_on (go_on (go_on (go_on (fixed (between (codes "svg" ∷ []) ts) (in_value (codes "svg" ∷ []) ts (codes "path")) (codes "<path class='") refl)
    (plain_in_value (codes "svg" ∷ []) ts (codes "path") (kind_word kind) (kind_word_plain kind)))
    (fixed (in_value (codes "svg" ∷ []) ts (codes "path")) (in_value (codes "svg" ∷ []) ts (codes "path")) (codes "' d='M-26000 0m") refl))
    (number_in_value (codes "svg" ∷ []) ts (codes "path") (entry_x n)))
    (fixed (in_value (codes "svg" ∷ []) ts (codes "path")) (in_value (codes "svg" ∷ []) ts (codes "path")) (codes " ") refl))
    (number_in_value (codes "svg" ∷ []) ts (codes "path") (entry_y n)))
    (plain_in_value (codes "svg" ∷ []) ts (codes "path") (kind_path kind) (kind_path_plain kind)))
    (fixed (in_value (codes "svg" ∷ []) ts (codes "path")) (between (codes "svg" ∷ []) ts) (codes "'/>") refl)

entry_name_leads : (ts : List (List ℕ)) (n : ℕ) (kind : ShapeKind) → Leads (between (codes "svg" ∷ []) ts) (entry_name n kind) (between (codes "svg" ∷ []) ts)
unfolding entry_name is_name_octet
entry_name_leads ts n kind =
    go_on (go_on (go_on (go_on (go_on (go_on (fixed (between (codes "svg" ∷ []) ts) (in_value (codes "svg" ∷ []) ts (codes "text")) (codes "<text x='-26000' dx='") refl)
    (number_in_value (codes "svg" ∷ []) ts (codes "text") (entry_x n + 1700)))
    (fixed (in_value (codes "svg" ∷ []) ts (codes "text")) (in_value (codes "svg" ∷ []) ts (codes "text")) (codes "' y='") refl))
    (number_in_value (codes "svg" ∷ []) ts (codes "text") (entry_y n)))
    (fixed (in_value (codes "svg" ∷ []) ts (codes "text")) (between (codes "text" ∷ codes "svg" ∷ []) ts) (codes "' dy='500'>") refl))
    (plain_between (codes "text" ∷ codes "svg" ∷ []) ts (kind_name kind) refl (kind_name_plain kind)))
    (fixed (between (codes "text" ∷ codes "svg" ∷ []) ts) (between (codes "svg" ∷ []) ts) (codes "</text>\n") refl)

pub entries_lead : (ts : List (List ℕ)) (n : ℕ) (kinds : List ShapeKind) → Leads (between (codes "svg" ∷ []) ts) (entries n kinds) (between (codes "svg" ∷ []) ts)
entries_lead ts n [] = nothing (between (codes "svg" ∷ []) ts)
entries_lead ts n (kind ∷ kinds) = go_on (go_on (entry_shape_leads ts n kind) (entry_name_leads ts n kind)) (entries_lead ts (n + 1) kinds)

tenths_lead : (ts : List (List ℕ)) (rest : ℕ) (b : Bool) → Leads (between (codes "text" ∷ codes "svg" ∷ []) ts) (cond b [] (codes "." ++ decimal (rest / half_bits_a_tenth))) (between (codes "text" ∷ codes "svg" ∷ []) ts)
tenths_lead ts rest true = nothing (between (codes "text" ∷ codes "svg" ∷ []) ts)
tenths_lead ts rest false = go_on (fixed (between (codes "text" ∷ codes "svg" ∷ []) ts) (between (codes "text" ∷ codes "svg" ∷ []) ts) (codes ".") refl) (number_between (codes "text" ∷ codes "svg" ∷ []) ts (rest / half_bits_a_tenth) refl)

pub microseconds_lead : (ts : List (List ℕ)) (t : ℕ) → Leads (between (codes "text" ∷ codes "svg" ∷ []) ts) (microseconds t) (between (codes "text" ∷ codes "svg" ∷ []) ts)
unfolding microseconds is_name_octet
microseconds_lead ts t =
    go_on (number_between (codes "text" ∷ codes "svg" ∷ []) ts (t / half_bits_a_microsecond) refl)
    (tenths_lead ts (t % half_bits_a_microsecond) (t % half_bits_a_microsecond == 0))

pub tick_leads : (ts : List (List ℕ)) (window : Window) (height t : ℕ) → Leads (between (codes "svg" ∷ []) ts) (tick window height t) (between (codes "svg" ∷ []) ts)
unfolding tick is_name_octet
tick_leads ts window height t =
    go_on (go_on (go_on (go_on (go_on (go_on (go_on (go_on (go_on (go_on (go_on (go_on (fixed (between (codes "svg" ∷ []) ts) (in_value (codes "svg" ∷ []) ts (codes "path")) (codes "<path class='line' d='M") refl)
    (number_in_value (codes "svg" ∷ []) ts (codes "path") (x_of window t)))
    (fixed (in_value (codes "svg" ∷ []) ts (codes "path")) (in_value (codes "svg" ∷ []) ts (codes "path")) (codes " 7700V") refl))
    (number_in_value (codes "svg" ∷ []) ts (codes "path") height))
    (fixed (in_value (codes "svg" ∷ []) ts (codes "path")) (in_value (codes "svg" ∷ []) ts (codes "text")) (codes "'/><text class='tick' x='") refl))
    (number_in_value (codes "svg" ∷ []) ts (codes "text") (x_of window t)))
    (fixed (in_value (codes "svg" ∷ []) ts (codes "text")) (between (codes "text" ∷ codes "svg" ∷ []) ts) (codes "' y='5700'>") refl))
    (microseconds_lead ts t))
    (fixed (between (codes "text" ∷ codes "svg" ∷ []) ts) (in_value (codes "svg" ∷ []) ts (codes "text")) (codes "</text><text class='tick' x='") refl))
    (number_in_value (codes "svg" ∷ []) ts (codes "text") (x_of window t)))
    (fixed (in_value (codes "svg" ∷ []) ts (codes "text")) (between (codes "text" ∷ codes "svg" ∷ []) ts) (codes "' y='7200'>") refl))
    (number_between (codes "text" ∷ codes "svg" ∷ []) ts t refl))
    (fixed (between (codes "text" ∷ codes "svg" ∷ []) ts) (between (codes "svg" ∷ []) ts) (codes "</text>\n") refl)

tick_at_leads : (ts : List (List ℕ)) (window : Window) (height t : ℕ) (b : Bool) → Leads (between (codes "svg" ∷ []) ts) (cond b (tick window height t) []) (between (codes "svg" ∷ []) ts)
tick_at_leads ts window height t true = tick_leads ts window height t
tick_at_leads ts window height t false = nothing (between (codes "svg" ∷ []) ts)

pub axis_leads : (ts : List (List ℕ)) (window : Window) (height : ℕ) → Leads (between (codes "svg" ∷ []) ts) (axis window height) (between (codes "svg" ∷ []) ts)
axis_leads ts window height =
    go_on (words_of_axis_leads ts)
    (all_stay (between (codes "svg" ∷ []) ts) (tick_at window height (tick_step (window.to - window.from))) (range_with_len window.from (window.to + 1 - window.from))
    (λ t. tick_at_leads ts window height t (t % tick_step (window.to - window.from) == 0)))

pub lane_leads : (ts : List (List ℕ)) (l : Layout) (lane : Lane) (named : is_plain (name_of_tap l lane.tap) ≡ true) → Leads (between (codes "svg" ∷ []) ts) (lane_text l lane) (between (codes "svg" ∷ []) ts)
unfolding lane_text is_name_octet
lane_leads ts l lane named =
    go_on (go_on (go_on (go_on (go_on (go_on (go_on (go_on (go_on (go_on (go_on (go_on (fixed (between (codes "svg" ∷ []) ts) (in_value (codes "svg" ∷ []) ts (codes "path")) (codes "<path class='lane' d='M0 ") refl)
    (number_in_value (codes "svg" ∷ []) ts (codes "path") lane.y))
    (fixed (in_value (codes "svg" ∷ []) ts (codes "path")) (in_value (codes "svg" ∷ []) ts (codes "text")) (codes "h100000'/><text class='name") refl))
    (plain_in_value (codes "svg" ∷ []) ts (codes "text") (letters_word (name_of_device l lane.tap)) (letters_plain (name_of_device l lane.tap))))
    (fixed (in_value (codes "svg" ∷ []) ts (codes "text")) (in_value (codes "svg" ∷ []) ts (codes "text")) (codes "' x='-4400' y='") refl))
    (number_in_value (codes "svg" ∷ []) ts (codes "text") lane.y))
    (fixed (in_value (codes "svg" ∷ []) ts (codes "text")) (between (codes "text" ∷ codes "svg" ∷ []) ts) (codes "' dy='500'>") refl))
    (plain_between (codes "text" ∷ codes "svg" ∷ []) ts (name_of_tap l lane.tap) refl named))
    (fixed (between (codes "text" ∷ codes "svg" ∷ []) ts) (in_value (codes "svg" ∷ []) ts (codes "text")) (codes "</text><text class='place' x='-600' y='") refl))
    (number_in_value (codes "svg" ∷ []) ts (codes "text") lane.y))
    (fixed (in_value (codes "svg" ∷ []) ts (codes "text")) (between (codes "text" ∷ codes "svg" ∷ []) ts) (codes "' dy='400'>") refl))
    (number_between (codes "text" ∷ codes "svg" ∷ []) ts lane.at refl))
    (fixed (between (codes "text" ∷ codes "svg" ∷ []) ts) (between (codes "svg" ∷ []) ts) (codes "</text>\n") refl)

pub segment_leads : (ts : List (List ℕ)) (y : ℕ) (segment : SegmentLine) (named : is_plain segment.name ≡ true) → Leads (between (codes "svg" ∷ []) ts) (segment_text y segment) (between (codes "svg" ∷ []) ts)
unfolding segment_text is_name_octet
segment_leads ts y segment named =
    go_on (go_on (go_on (go_on (go_on (go_on (fixed (between (codes "svg" ∷ []) ts) (in_value (codes "svg" ∷ []) ts (codes "text")) (codes "<text class='segment") refl)
    (plain_in_value (codes "svg" ∷ []) ts (codes "text") (letters_word segment.name) (letters_plain segment.name)))
    (fixed (in_value (codes "svg" ∷ []) ts (codes "text")) (in_value (codes "svg" ∷ []) ts (codes "text")) (codes "' x='-25500' y='") refl))
    (number_in_value (codes "svg" ∷ []) ts (codes "text") y))
    (fixed (in_value (codes "svg" ∷ []) ts (codes "text")) (between (codes "text" ∷ codes "svg" ∷ []) ts) (codes "' dy='500'>segment ") refl))
    (plain_between (codes "text" ∷ codes "svg" ∷ []) ts segment.name refl named))
    (fixed (between (codes "text" ∷ codes "svg" ∷ []) ts) (between (codes "svg" ∷ []) ts) (codes "</text>\n") refl)

pub sign_leads : (ts : List (List ℕ)) (window : Window) (mark : Sign) (t y : ℕ) → Leads (between (codes "g" ∷ codes "svg" ∷ []) ts) (sign window mark t y) (between (codes "g" ∷ codes "svg" ∷ []) ts)
unfolding sign is_name_octet
sign_leads ts window mark t y =
    go_on (go_on (go_on (go_on (go_on (go_on (go_on (fixed (between (codes "g" ∷ codes "svg" ∷ []) ts) (in_value (codes "g" ∷ codes "svg" ∷ []) ts (codes "path")) (codes "<path class='") refl)
    (plain_in_value (codes "g" ∷ codes "svg" ∷ []) ts (codes "path") (sign_word mark) (sign_word_plain mark)))
    (fixed (in_value (codes "g" ∷ codes "svg" ∷ []) ts (codes "path")) (in_value (codes "g" ∷ codes "svg" ∷ []) ts (codes "path")) (codes "' d='M") refl))
    (number_in_value (codes "g" ∷ codes "svg" ∷ []) ts (codes "path") (x_of window t)))
    (fixed (in_value (codes "g" ∷ codes "svg" ∷ []) ts (codes "path")) (in_value (codes "g" ∷ codes "svg" ∷ []) ts (codes "path")) (codes " ") refl))
    (number_in_value (codes "g" ∷ codes "svg" ∷ []) ts (codes "path") y))
    (plain_in_value (codes "g" ∷ codes "svg" ∷ []) ts (codes "path") (sign_path mark) (sign_path_plain mark)))
    (fixed (in_value (codes "g" ∷ codes "svg" ∷ []) ts (codes "path")) (between (codes "g" ∷ codes "svg" ∷ []) ts) (codes "'/>") refl)

pub bar_leads : (ts : List (List ℕ)) (window : Window) (outcome : Outcome) (start end y : ℕ) → Leads (between (codes "g" ∷ codes "svg" ∷ []) ts) (bar window outcome start end y) (between (codes "g" ∷ codes "svg" ∷ []) ts)
unfolding bar is_name_octet
bar_leads ts window outcome start end y =
    go_on (go_on (go_on (go_on (go_on (go_on (go_on (go_on (go_on (go_on (fixed (between (codes "g" ∷ codes "svg" ∷ []) ts) (in_value (codes "g" ∷ codes "svg" ∷ []) ts (codes "path")) (codes "<path class='") refl)
    (plain_in_value (codes "g" ∷ codes "svg" ∷ []) ts (codes "path") (sending_word outcome) (sending_word_plain outcome)))
    (fixed (in_value (codes "g" ∷ codes "svg" ∷ []) ts (codes "path")) (in_value (codes "g" ∷ codes "svg" ∷ []) ts (codes "path")) (codes "' d='M") refl))
    (number_in_value (codes "g" ∷ codes "svg" ∷ []) ts (codes "path") (left_of_bar window start)))
    (fixed (in_value (codes "g" ∷ codes "svg" ∷ []) ts (codes "path")) (in_value (codes "g" ∷ codes "svg" ∷ []) ts (codes "path")) (codes " ") refl))
    (number_in_value (codes "g" ∷ codes "svg" ∷ []) ts (codes "path") y))
    (fixed (in_value (codes "g" ∷ codes "svg" ∷ []) ts (codes "path")) (in_value (codes "g" ∷ codes "svg" ∷ []) ts (codes "path")) (codes "m0 -450H") refl))
    (number_in_value (codes "g" ∷ codes "svg" ∷ []) ts (codes "path") (right_of_bar window end)))
    (fixed (in_value (codes "g" ∷ codes "svg" ∷ []) ts (codes "path")) (in_value (codes "g" ∷ codes "svg" ∷ []) ts (codes "path")) (codes "v900H") refl))
    (number_in_value (codes "g" ∷ codes "svg" ∷ []) ts (codes "path") (left_of_bar window start)))
    (fixed (in_value (codes "g" ∷ codes "svg" ∷ []) ts (codes "path")) (between (codes "g" ∷ codes "svg" ∷ []) ts) (codes "z'/>") refl)

pub seen_wave_leads : (ts : List (List ℕ)) (window : Window) (t at : ℕ) (lanes : List Lane) → Leads (between (codes "g" ∷ codes "svg" ∷ []) ts) (seen_wave window t at lanes) (between (codes "g" ∷ codes "svg" ∷ []) ts)
unfolding seen_wave is_name_octet
seen_wave_leads ts window t at lanes =
    go_on (go_on (fixed (between (codes "g" ∷ codes "svg" ∷ []) ts) (in_value (codes "g" ∷ codes "svg" ∷ []) ts (codes "polyline")) (codes "<polyline class='wave' points='") refl)
    (plain_in_value (codes "g" ∷ codes "svg" ∷ []) ts (codes "polyline") (points_of_wave window t at lanes) (points_plain window t at lanes)))
    (fixed (in_value (codes "g" ∷ codes "svg" ∷ []) ts (codes "polyline")) (between (codes "g" ∷ codes "svg" ∷ []) ts) (codes "'/>") refl)

wave_leads_if : (ts : List (List ℕ)) (window : Window) (t at : ℕ) (lanes : List Lane) (b : Bool) → Leads (between (codes "g" ∷ codes "svg" ∷ []) ts) (cond b (seen_wave window t at lanes) []) (between (codes "g" ∷ codes "svg" ∷ []) ts)
wave_leads_if ts window t at lanes true = seen_wave_leads ts window t at lanes
wave_leads_if ts window t at lanes false = nothing (between (codes "g" ∷ codes "svg" ∷ []) ts)

pub wave_leads : (ts : List (List ℕ)) (window : Window) (t at : ℕ) (lanes : List Lane) → Leads (between (codes "g" ∷ codes "svg" ∷ []) ts) (wave window t at lanes) (between (codes "g" ∷ codes "svg" ∷ []) ts)
wave_leads ts window t at lanes = wave_leads_if ts window t at lanes (is_seen window t)

pub word_of_drop_leads : (ts : List (List ℕ)) (window : Window) (t y : ℕ) (why : Why) → Leads (between (codes "g" ∷ codes "svg" ∷ []) ts) (word_of_drop window t y why) (between (codes "g" ∷ codes "svg" ∷ []) ts)
unfolding word_of_drop is_name_octet
word_of_drop_leads ts window t y why =
    go_on (go_on (go_on (go_on (go_on (go_on (fixed (between (codes "g" ∷ codes "svg" ∷ []) ts) (in_value (codes "g" ∷ codes "svg" ∷ []) ts (codes "text")) (codes "<text class='word' x='") refl)
    (number_in_value (codes "g" ∷ codes "svg" ∷ []) ts (codes "text") (x_of window t)))
    (fixed (in_value (codes "g" ∷ codes "svg" ∷ []) ts (codes "text")) (in_value (codes "g" ∷ codes "svg" ∷ []) ts (codes "text")) (codes "' y='") refl))
    (number_in_value (codes "g" ∷ codes "svg" ∷ []) ts (codes "text") y))
    (fixed (in_value (codes "g" ∷ codes "svg" ∷ []) ts (codes "text")) (between (codes "text" ∷ codes "g" ∷ codes "svg" ∷ []) ts) (codes "' dx='600' dy='-450'>") refl))
    (plain_between (codes "text" ∷ codes "g" ∷ codes "svg" ∷ []) ts (why_text why) refl (why_plain why)))
    (fixed (between (codes "text" ∷ codes "g" ∷ codes "svg" ∷ []) ts) (between (codes "g" ∷ codes "svg" ∷ []) ts) (codes "</text>") refl)
