-- Sendings, as lines of a log tell them (profile). Half bits count from 0; heights are hundredths of a pixel from the
-- top.
use Rattle.std.specs.Prelude.{ℕ, ◌+◌, nat_le, nat_lt, ◌&&◌, Bool, true, false, if◌then◌else◌, List, [], ◌++◌, Option, None, Some}
use Rattle.collision_log.specs.declared.row.Body.{Body}
use Rattle.collision_log.specs.declared.row.Body.TheVariants.{Sent, Collided, GivenUp, Cut}
use Rattle.log_meter.specs.declared.line.LogLine.{LogLine}
use Rattle.run_picture.specs.Signs.{bar, sign}
use Rattle.run_picture.specs.Waves.{wave}
use Rattle.run_picture.specs.declared.lanes.Lane.{Lane}
use Rattle.run_picture.specs.declared.sending.Sending.{Sending}
use Rattle.run_picture.specs.declared.signs.Outcome.{Outcome}
use Rattle.run_picture.specs.declared.signs.Outcome.TheVariants as outcome
use Rattle.run_picture.specs.declared.signs.Sign.TheVariants.{Hit}
use Rattle.run_picture.specs.declared.window.Window.{Window}

-- the sending that a line of half bit t tells of
abbrev pub sending_of : ℕ → Body → Option Sending
sending_of t (Sent frame start attempt) =
    Some (record { outcome = outcome.Sent; start = start; end = t; hit = None })
sending_of t (Collided frame start attempt hit drawn) =
    Some (record { outcome = outcome.Collided; start = start; end = t; hit = Some hit })
sending_of t (GivenUp frame start hit) =
    Some (record { outcome = outcome.GivenUp; start = start; end = t; hit = Some hit })
sending_of t (Cut frame start attempt hit) =
    Some (record { outcome = outcome.Cut; start = start; end = t; hit = hit })
sending_of t _ = None

-- whether half bit t is in the window
abbrev pub is_in_window : Window → ℕ → Bool
is_in_window window t = nat_le window.from t && nat_lt t window.to

-- whether this sending meets the window, or where there is none, half bit t does
abbrev pub does_sending_meet : Window → ℕ → Option Sending → Bool
does_sending_meet window t None = is_in_window window t
does_sending_meet window t (Some sending) = nat_lt sending.start window.to && nat_le window.from sending.end

-- whether a line meets the window
abbrev pub does_meet : Window → LogLine → Bool
does_meet window line = does_sending_meet window line.t (sending_of line.t line.body)

-- whether a sending ended before the run did
abbrev pub does_end : Outcome → Bool
does_end outcome.Cut = false
does_end _ = true

-- whether a hit in half bit t is in the window and before the end of its sending
abbrev pub is_heard : Window → Sending → ℕ → Bool
is_heard window sending t = nat_lt t sending.end && is_in_window window t

-- the sign of a hit that came so many half bits after the start of a sending, if it is in the window and before the
-- sending's end
abbrev pub hit_sign_at : Window → Sending → Option ℕ → ℕ → List ℕ
hit_sign_at window sending None y = []
hit_sign_at window sending (Some hit) y =
    if is_heard window sending (sending.start + hit) then sign window Hit (sending.start + hit) y else []

-- whether a hit that came so many half bits after the start of a sending, if it had one, is in the window and before
-- the sending's end
abbrev pub is_hit_heard : Window → Sending → Option ℕ → Bool
is_hit_heard window sending None = false
is_hit_heard window sending (Some hit) = is_heard window sending (sending.start + hit)

-- the sign of what a sending heard
abbrev pub hit_sign : Window → Sending → ℕ → List ℕ
hit_sign window sending y = hit_sign_at window sending sending.hit y

-- the wave of a sending's end, if it ended
abbrev pub last_wave : Window → Sending → ℕ → List Lane → List ℕ
last_wave window sending at lanes = if does_end sending.outcome then wave window sending.end at lanes else []

-- the waves, the bar and the hit of a sending of the station on this lane, one of those of its segment
unfoldable pub sending_shapes : Window → Sending → Lane → List Lane → List ℕ
sending_shapes window sending lane lanes =
    wave window sending.start lane.at lanes ++ last_wave window sending lane.at lanes
    ++ bar window sending.outcome sending.start sending.end lane.y ++ hit_sign window sending lane.y
