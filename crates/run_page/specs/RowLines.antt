-- The lines of a page that are lines of the run's log (profile). Half bits and devices count from 0.
use Rattle.std.specs.Prelude.{ℕ, nat_le, nat_lt, ◌&&◌, Bool, List, ◌++◌, length, filter, flat_map, codes, Option, None, Some}
use Rattle.collision_log.specs.declared.row.Body.{Body}
use Rattle.collision_log.specs.declared.row.Body.TheVariants.{Sent, Collided, GivenUp, Cut}
use Rattle.collision_log.specs.declared.row.Row.{Row}
use Rattle.layout.specs.Sound.{device_names}
use Rattle.layout.specs.declared.lines.Layout.{Layout}
use Rattle.run_texts.specs.Texts.{line_of_row}

-- The half bit in which the sending began that a row with this body tells of, if it tells of one.
abbrev pub start_of_sending : Body → Option ℕ
start_of_sending (Sent frame start attempt) = Some start
start_of_sending (Collided frame start attempt hit drawn) = Some start
start_of_sending (GivenUp frame start hit) = Some start
start_of_sending (Cut frame start attempt hit) = Some start
start_of_sending _ = None

-- Whether what a row of half bit t tells meets the half bits from `from` to below `to`: a sending that began in this
-- half bit, or else what happened in half bit t alone.
abbrev pub reaches_window : ℕ → ℕ → ℕ → Option ℕ → Bool
reaches_window from to t (Some start) = nat_lt start to && nat_le from t
reaches_window from to t None = nat_le from t && nat_lt t to

-- Whether a row is shown by a page of the half bits from `from` to below `to`.
abbrev pub is_shown : ℕ → ℕ → Row → Bool
is_shown from to row = reaches_window from to row.t (start_of_sending row.body)

-- The line of a row: its line in the log, after a word.
unfoldable pub shown_row : Layout → Row → List ℕ
shown_row l row = codes "row " ++ line_of_row (device_names l) (length l.stations) row

-- The lines of those of these rows that are shown, in their order.
abbrev pub shown_rows : Layout → ℕ → ℕ → List Row → List ℕ
shown_rows l from to rows = flat_map (shown_row l) (filter (is_shown from to) rows)
