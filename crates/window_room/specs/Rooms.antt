-- Rows and captures of a part of the network, and the room that there is for more of them (profile). Stations count
-- from 0 among the stations of the part.
use Rattle.std.specs.Prelude.{◌≡◌, ℕ, ◌+◌, ◌≤◌, List, [], ◌++◌, slice_index_or, slice_set}
use Rattle.collision_log.specs.declared.row.Row.{Row}
use Rattle.network.specs.declared.outputs.Taken.{Taken}

-- The captures of stations after these frames come to the end of what station k captured (profile).
abbrev pub captures_with : ℕ → List Taken → List (List Taken) → List (List Taken)
captures_with k taken captures = slice_set captures k (slice_index_or captures k [] ++ taken)

-- The rows so far, in order, and what each station captured (profile).
pub record Room : Type 0 where
  pub rows : List Row
  pub captures : List (List Taken)
  -- how many more rows, frames, and octets of frames there is room for
  pub row_room : ℕ
  pub frame_room : ℕ
  pub octet_room : ℕ
  -- how many rows and frames still lie in the room of a window
  pub fresh_rows : ℕ
  pub fresh_frames : ℕ

-- There is room for at least so many rows, frames, and octets of frames (profile).
pub record RoomFor (rows frames octets : ℕ) (r : Room) : Type 0 where
  pub for_rows : rows ≤ r.row_room
  pub for_frames : frames ≤ r.frame_room
  pub for_octets : octets ≤ r.octet_room

-- Nothing came to the rows and captures, and nothing of them was lost (profile).
pub record SameLists (old new : Room) : Type 0 where
  pub same_rows : new.rows ≡ old.rows
  pub same_captures : new.captures ≡ old.captures

-- At most so much of the room was taken: so many rows, frames, and octets of frames (profile).
pub record KeepsRoom (rows frames octets : ℕ) (old new : Room) : Type 0 where
  pub keeps_rows : old.row_room ≤ new.row_room + rows
  pub keeps_frames : old.frame_room ≤ new.frame_room + frames
  pub keeps_octets : old.octet_room ≤ new.octet_room + octets

-- All rows and frames are in the lists that are handed out (profile).
pub record IsSettled (r : Room) : Type 0 where
  pub no_fresh_rows : r.fresh_rows ≡ 0
  pub no_fresh_frames : r.fresh_frames ≡ 0
