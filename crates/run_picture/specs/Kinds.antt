-- The kinds of shapes that the marks of a picture have (profile). Half bits count from 0.
use Rattle.std.specs.Prelude.{◌&&◌, ◌||◌, Bool, true, false, List, [], ◌∷◌, filter, Option, None, Some}
use Rattle.std.specs.List.{list_any}
use Rattle.collision_log.specs.declared.row.Body.{Body}
use Rattle.collision_log.specs.declared.row.Body.TheVariants.{Sent, Collided, GivenUp, Cut, Received, Dropped, Clash, Closed, Opened, Halted}
use Rattle.log_meter.specs.declared.line.LogLine.{LogLine}
use Rattle.run_picture.specs.Sendings.{does_end, does_meet, is_hit_heard, sending_of}
use Rattle.run_picture.specs.Waves.{is_seen}
use Rattle.run_picture.specs.declared.kinds.ShapeKind.{ShapeKind}
use Rattle.run_picture.specs.declared.kinds.ShapeKind.TheVariants.{Bar, Front, Point}
use Rattle.run_picture.specs.declared.sending.Sending.{Sending}
use Rattle.run_picture.specs.declared.signs.Outcome.{Outcome}
use Rattle.run_picture.specs.declared.signs.Outcome.TheVariants as outcome
use Rattle.run_picture.specs.declared.signs.Sign.{Sign}
use Rattle.run_picture.specs.declared.signs.Sign.TheVariants as the_sign
use Rattle.run_picture.specs.declared.window.Window.{Window}

-- whether what happened is a sending that ended so
abbrev pub is_sending_of : Outcome → Body → Bool
is_sending_of outcome.Sent (Sent frame start attempt) = true
is_sending_of outcome.Collided (Collided frame start attempt hit drawn) = true
is_sending_of outcome.GivenUp (GivenUp frame start hit) = true
is_sending_of outcome.Cut (Cut frame start attempt hit) = true
is_sending_of _ _ = false

-- whether what happened has this sign in its own half bit
abbrev pub has_sign : Sign → Body → Bool
has_sign the_sign.Received (Received octets) = true
has_sign the_sign.Dropped (Dropped why halves) = true
has_sign the_sign.Clash Clash = true
has_sign the_sign.Closed (Closed port) = true
has_sign the_sign.Opened (Opened port) = true
has_sign the_sign.Halted (Halted port) = true
has_sign _ _ = false

-- whether a wave of a sending that is one can be in the window
abbrev pub has_front : Window → Option Sending → Bool
has_front window None = false
has_front window (Some sending) =
    is_seen window sending.start || (does_end sending.outcome && is_seen window sending.end)

-- whether the hit of a sending that is one is in the window and before its end
abbrev pub has_hit : Window → Option Sending → Bool
has_hit window None = false
has_hit window (Some sending) = is_hit_heard window sending sending.hit

-- whether the mark of a line has a shape of this kind, where the line meets the window
abbrev pub has_shape : Window → LogLine → ShapeKind → Bool
has_shape window line (Bar ending) = is_sending_of ending line.body
has_shape window line Front = has_front window (sending_of line.t line.body)
has_shape window line (Point the_sign.Hit) = has_hit window (sending_of line.t line.body)
has_shape window line (Point the_sign.Received) = has_sign the_sign.Received line.body
has_shape window line (Point the_sign.Dropped) = has_sign the_sign.Dropped line.body
has_shape window line (Point the_sign.Clash) = has_sign the_sign.Clash line.body
has_shape window line (Point the_sign.Closed) = has_sign the_sign.Closed line.body
has_shape window line (Point the_sign.Opened) = has_sign the_sign.Opened line.body
has_shape window line (Point the_sign.Halted) = has_sign the_sign.Halted line.body

-- whether a line has a mark with a shape of this kind
abbrev pub does_draw : Window → LogLine → ShapeKind → Bool
does_draw window line kind = does_meet window line && has_shape window line kind

-- whether one of these lines has
abbrev pub is_drawn : Window → List LogLine → ShapeKind → Bool
is_drawn window lines kind = list_any (λ line. does_draw window line kind) lines

-- every kind, in the order of the legend
abbrev pub every_kind : List ShapeKind
every_kind =
    Bar outcome.Sent ∷ Bar outcome.Collided ∷ Bar outcome.GivenUp ∷ Bar outcome.Cut ∷ Front ∷ Point the_sign.Hit
    ∷ Point the_sign.Received ∷ Point the_sign.Dropped ∷ Point the_sign.Clash ∷ Point the_sign.Closed
    ∷ Point the_sign.Opened ∷ Point the_sign.Halted ∷ []

-- those of these kinds of which a picture of these lines has a shape
abbrev pub drawn_kinds : Window → List LogLine → List ShapeKind → List ShapeKind
drawn_kinds window lines kinds = filter (is_drawn window lines) kinds
