-- What a log tells of a frame of a station (profile). Frames count from 1, half bits from 0.
use Rattle.std.specs.Prelude.{ℕ, zero, suc, ◌+◌, Bool, if◌then◌else◌, List, [], Option, None, Some, count_by, slice_index_or, slice_set}
use Rattle.std.specs.Option.{option_or}
use Rattle.collision_log.specs.declared.row.Body.{Body}
use Rattle.collision_log.specs.declared.row.Body.TheVariants as body
use Rattle.frame_table.specs.Devices.{is_number}
use Rattle.frame_table.specs.Found.{first_found, last_found}
use Rattle.frame_table.specs.declared.events.Event.{Event}
use Rattle.frame_table.specs.declared.history.End.{End}
use Rattle.frame_table.specs.declared.history.History.{History}
use Rattle.frame_table.specs.declared.history.Outcome.TheVariants.{Sent, GivenUp, Cut}

-- the frame that a sending is of
abbrev pub frame_named : Body → Option ℕ
frame_named (body.Sent frame start attempt) = Some frame
frame_named (body.Collided frame start attempt hit drawn) = Some frame
frame_named (body.GivenUp frame start hit) = Some frame
frame_named (body.Cut frame start attempt hit) = Some frame
frame_named _ = None

-- the half bit in which a sending began
abbrev pub sending_start : Body → ℕ
sending_start (body.Sent frame start attempt) = start
sending_start (body.Collided frame start attempt hit drawn) = start
sending_start (body.GivenUp frame start hit) = start
sending_start (body.Cut frame start attempt hit) = start
sending_start _ = 0

-- what became of the frame of a sending that ended in half bit t; after a collision a further attempt may come
abbrev pub end_of : ℕ → Body → Option End
end_of t (body.Sent frame start attempt) = Some (record { t = t; outcome = Sent })
end_of t (body.GivenUp frame start hit) = Some (record { t = t; outcome = GivenUp })
end_of t (body.Cut frame start attempt hit) = Some (record { t = t; outcome = Cut })
end_of t _ = None

-- whether this is a sending of frame n
abbrev pub is_attempt : ℕ → Event → Bool
is_attempt n e = is_number n (frame_named e.body)

-- when a sending of frame n began
abbrev pub start_at : ℕ → Event → Option ℕ
start_at n e = if is_attempt n e then Some (sending_start e.body) else None

-- what became of frame n
abbrev pub end_at : ℕ → Event → Option End
end_at n e = if is_attempt n e then end_of e.t e.body else None

-- what a station's events tell of frame n: when its first and its last attempt began, its end, and how many attempts
-- there were
abbrev pub history : ℕ → List Event → History
history n events =
    record {
      first = first_found (start_at n) events;
      start = last_found (start_at n) events;
      end = last_found (end_at n) events;
      attempts = count_by (is_attempt n) events;
    }

-- a history with one more attempt
abbrev pub with_attempt : History → Event → History
with_attempt h e =
    record {
      first = option_or h.first (Some (sending_start e.body));
      start = Some (sending_start e.body);
      end = option_or (end_of e.t e.body) h.end;
      attempts = h.attempts + 1;
    }

-- the histories of frames from frame 1 on, with one more attempt of a frame, where there is one
abbrev pub histories_with : List History → Option ℕ → Event → List History
histories_with histories None e = histories
histories_with histories (Some zero) e = histories
histories_with histories (Some (suc k)) e =
    slice_set histories k (with_attempt (slice_index_or histories k (history 0 [])) e)
