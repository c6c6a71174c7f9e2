-- The legend of a picture: an entry for each kind of shape that its marks have (profile). Heights are hundredths of a
-- pixel from the top, widths hundredths of a pixel from the picture's left edge.
use Rattle.std.specs.Prelude.{ℕ, ◌+◌, ◌*◌, ◌/◌, ◌%◌, List, [], ◌∷◌, ◌++◌, codes, decimal}
use Rattle.log_meter.specs.declared.line.LogLine.{LogLine}
use Rattle.run_picture.specs.Kinds.{drawn_kinds, every_kind}
use Rattle.run_picture.specs.Signs.{sending_word, sign_path, sign_word}
use Rattle.run_picture.specs.Sizes.{entries_a_row, entry_height, entry_width}
use Rattle.run_picture.specs.declared.kinds.ShapeKind.{ShapeKind}
use Rattle.run_picture.specs.declared.kinds.ShapeKind.TheVariants.{Bar, Front, Point}
use Rattle.run_picture.specs.declared.signs.Outcome.{Outcome}
use Rattle.run_picture.specs.declared.signs.Outcome.TheVariants as outcome
use Rattle.run_picture.specs.declared.signs.Sign.{Sign}
use Rattle.run_picture.specs.declared.signs.Sign.TheVariants as the_sign
use Rattle.run_picture.specs.declared.window.Window.{Window}

-- the word by which the style names a kind; waves are cut at the plot's edge, and a front of the legend isn't
abbrev pub kind_word : ShapeKind → List ℕ
kind_word (Bar ending) = sending_word ending
kind_word Front = codes "front"
kind_word (Point mark) = sign_word mark

-- what a legend says of how a sending ended
abbrev pub ending_name : Outcome → List ℕ
ending_name outcome.Sent = codes "sent"
ending_name outcome.Collided = codes "collided"
ending_name outcome.GivenUp = codes "given up"
ending_name outcome.Cut = codes "cut"

-- what a legend says of a sign
abbrev pub sign_name : Sign → List ℕ
sign_name the_sign.Hit = codes "collision heard"
sign_name the_sign.Received = codes "received"
sign_name the_sign.Dropped = codes "dropped"
sign_name the_sign.Clash = codes "clash"
sign_name the_sign.Closed = codes "port closed"
sign_name the_sign.Opened = codes "port opened"
sign_name the_sign.Halted = codes "port halted"

-- what a legend says of a kind
abbrev pub kind_name : ShapeKind → List ℕ
kind_name (Bar ending) = ending_name ending
kind_name Front = codes "wave front"
kind_name (Point mark) = sign_name mark

-- the lines of a sign in a legend, where the triangle of a hit stands on its place and not above it
abbrev pub sign_entry : Sign → List ℕ
sign_entry the_sign.Hit = codes "m0 300l-350 -650h700z"
sign_entry the_sign.Received = sign_path the_sign.Received
sign_entry the_sign.Dropped = sign_path the_sign.Dropped
sign_entry the_sign.Clash = sign_path the_sign.Clash
sign_entry the_sign.Closed = sign_path the_sign.Closed
sign_entry the_sign.Opened = sign_path the_sign.Opened
sign_entry the_sign.Halted = sign_path the_sign.Halted

-- the lines of a kind in a legend: a short bar, two fronts from one place, or the sign
abbrev pub kind_path : ShapeKind → List ℕ
kind_path (Bar ending) = codes "m-1200 -450h2400v900h-2400z"
kind_path Front = codes "m-600 0l1200 -700m-1200 700l1200 700"
kind_path (Point mark) = sign_entry mark

-- how far right the shape of the n-th entry stands, from 0
abbrev pub entry_x : ℕ → ℕ
entry_x n = 1700 + entry_width * (n % entries_a_row)

-- how far down it stands
abbrev pub entry_y : ℕ → ℕ
entry_y n = 1400 + entry_height * (n / entries_a_row)

-- the shape of an entry
unfoldable pub entry_shape : ℕ → ShapeKind → List ℕ
entry_shape n kind =
    codes "<path class='" ++ kind_word kind ++ codes "' d='M-26000 0m" ++ decimal (entry_x n) ++ codes " "
    ++ decimal (entry_y n) ++ kind_path kind ++ codes "'/>"

-- what stands beside it
unfoldable pub entry_name : ℕ → ShapeKind → List ℕ
entry_name n kind =
    codes "<text x='-26000' dx='" ++ decimal (entry_x n + 1700) ++ codes "' y='" ++ decimal (entry_y n)
    ++ codes "' dy='500'>" ++ kind_name kind ++ codes "</text>\n"

-- the n-th entry
abbrev pub entry : ℕ → ShapeKind → List ℕ
entry n kind = entry_shape n kind ++ entry_name n kind

-- the entries of these kinds, of which the first is the n-th
abbrev pub entries : ℕ → List ShapeKind → List ℕ
entries n [] = []
entries n (kind ∷ kinds) = entry n kind ++ entries (n + 1) kinds

-- the legend of a picture of these lines
abbrev pub legend : Window → List LogLine → List ℕ
legend window lines = entries 0 (drawn_kinds window lines every_kind)
