-- The frames of a window, whose octets lie one after the other, and the captures that they come to (profile).
use Rattle.std.specs.Prelude.{ℕ, ◌≤◌, ◌<◌, List, [], ◌∷◌, slice_range}
use Rattle.network.specs.declared.outputs.Taken.{Taken}
use Rattle.window_room.specs.Rooms.{captures_with}
use Rattle.window_room.specs.declared.frames.Mark.{Mark}

-- The frame whose octets lie at a mark (profile).
abbrev pub frame_marked : List ℕ → Mark → Taken
frame_marked octets mark = record { t = mark.t; octets = slice_range octets mark.start mark.end }

-- A mark lies within so many octets, and is of one of so many stations (profile).
pub record IsMark (octets stations : ℕ) (mark : Mark) : Type 0 where
  pub forward : mark.start ≤ mark.end
  pub within : mark.end ≤ octets
  pub station : mark.station < stations

-- The captures after those of the marked frames, the first one first (profile).
abbrev pub captures_marked : List ℕ → List Mark → List (List Taken) → List (List Taken)
captures_marked octets [] captures = captures
captures_marked octets (mark ∷ marks) captures =
    captures_marked octets marks (captures_with mark.station (frame_marked octets mark ∷ []) captures)

-- The captures of the frames of a window and of those before it, and the room for more (profile).
pub record KeptFrames : Type 0 where
  pub captures : List (List Taken)
  -- how many more frames and octets there is room for
  pub frame_room : ℕ
  pub octet_room : ℕ
  -- how many frames still lie in the room of a window
  pub fresh : ℕ
