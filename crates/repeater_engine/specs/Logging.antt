-- Rows that come to those of a part (profile). Half bits and devices count from 0.
use Rattle.std.specs.Prelude.{◌≡◌, ℕ, ◌+◌, ◌≤◌, List, ◌++◌, length}
use Rattle.collision_log.specs.declared.row.Body.{Body}
use Rattle.network.specs.Rows.{rows_of_bodies}
use Rattle.window_room.specs.Rooms.{Room}

-- The rows of what happened in half bit t at device k came to the end, and took no more room than they are (profile).
pub record Logs (t k : ℕ) (bodies : List Body) (old new : Room) : Type 0 where
  pub rows : new.rows ≡ old.rows ++ rows_of_bodies t k bodies
  pub captures : new.captures ≡ old.captures
  pub room : old.row_room ≤ new.row_room + length bodies
