-- The rows of a window and those before it (profile).
use Rattle.std.specs.Prelude.{ℕ, List}
use Rattle.collision_log.specs.declared.row.Row.{Row}

-- Rows in their order, and the room for more of them (profile).
pub record KeptRows : Type 0 where
  pub rows : List Row
  -- how many more rows there is room for
  pub room : ℕ
  -- how many rows still lie in the room of a window
  pub fresh : ℕ
