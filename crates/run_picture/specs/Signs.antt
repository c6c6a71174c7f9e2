-- Signs of what happens in one half bit, and the bars of sendings (profile). Half bits count from 0; heights are
-- hundredths of a pixel from the top.
use Rattle.std.specs.Prelude.{ℕ, max, min, List, ◌++◌, codes, decimal}
use Rattle.run_picture.specs.Times.{x_of}
use Rattle.run_picture.specs.declared.signs.Outcome.{Outcome}
use Rattle.run_picture.specs.declared.signs.Outcome.TheVariants as outcome
use Rattle.run_picture.specs.declared.signs.Sign.{Sign}
use Rattle.run_picture.specs.declared.signs.Sign.TheVariants as the_sign
use Rattle.run_picture.specs.declared.window.Window.{Window}

-- the word by which the style names a sign
abbrev pub sign_word : Sign → List ℕ
sign_word the_sign.Hit = codes "hit"
sign_word the_sign.Received = codes "received"
sign_word the_sign.Dropped = codes "dropped"
sign_word the_sign.Clash = codes "clash"
sign_word the_sign.Closed = codes "closed"
sign_word the_sign.Opened = codes "opened"
sign_word the_sign.Halted = codes "halted"

-- the lines of a sign, from its place on: for a hit a triangle above its place, for a reception a circle, for one that
-- was dropped a cross, for a collision a star, for a port a square, and for one that was halted a square on its corner
abbrev pub sign_path : Sign → List ℕ
sign_path the_sign.Hit = codes "m0 -450l-350 -650h700z"
sign_path the_sign.Received = codes "m-380 0a380 380 0 1 0 760 0a380 380 0 1 0 -760 0z"
sign_path the_sign.Dropped = codes "m-350 -350l700 700m0 -700l-700 700"
sign_path the_sign.Clash = codes "m0 -700l170 480h500l-400 300l150 490l-420 -290l-420 290l150 -490l-400 -300h500z"
sign_path the_sign.Closed = codes "m-330 -330h660v660h-660z"
sign_path the_sign.Opened = codes "m-330 -330h660v660h-660z"
sign_path the_sign.Halted = codes "m0 -500l500 500l-500 500l-500 -500z"

-- a sign at half bit t on the lane that lies so far down
unfoldable pub sign : Window → Sign → ℕ → ℕ → List ℕ
sign window mark t y =
    codes "<path class='" ++ sign_word mark ++ codes "' d='M" ++ decimal (x_of window t) ++ codes " " ++ decimal y
    ++ sign_path mark ++ codes "'/>"

-- the word by which the style names how a sending ended
abbrev pub sending_word : Outcome → List ℕ
sending_word outcome.Sent = codes "sent"
sending_word outcome.Collided = codes "collided"
sending_word outcome.GivenUp = codes "given_up"
sending_word outcome.Cut = codes "cut"

-- where the bar of a sending begins, which is cut at the window's edges
abbrev pub left_of_bar : Window → ℕ → ℕ
left_of_bar window start = x_of window (max start window.from)

-- where it ends
abbrev pub right_of_bar : Window → ℕ → ℕ
right_of_bar window end = x_of window (min end window.to)

-- the bar of a sending from half bit `start` to below half bit `end`, cut at the window's edges, on the lane that lies
-- so far down
unfoldable pub bar : Window → Outcome → ℕ → ℕ → ℕ → List ℕ
bar window outcome start end y =
    codes "<path class='" ++ sending_word outcome ++ codes "' d='M" ++ decimal (left_of_bar window start)
    ++ codes " " ++ decimal y ++ codes "m0 -450H" ++ decimal (right_of_bar window end) ++ codes "v900H"
    ++ decimal (left_of_bar window start) ++ codes "z'/>"
