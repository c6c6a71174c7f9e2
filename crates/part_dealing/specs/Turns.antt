-- The turns of a worker's parts (profile). Parts, segments and places count from 0.
use Rattle.std.specs.Prelude.{ℕ, ◌+◌, nat_lt, Bool, List}
use Rattle.std.specs.List.{position_or_len}
use Rattle.part_dealing.specs.declared.duties.Duty.{Duty}

-- The place of the turn of a part with this last segment: before the first part whose last segment is a later one, or
-- behind all (profile).
abbrev pub turn_place : ℕ → List Duty → ℕ
turn_place last turns = position_or_len (λ (d : Duty). nat_lt last d.last) turns

-- A part with its last segment, and with so many outlets from place `first` on. It is at the border where one of them
-- leads to another worker (profile).
abbrev pub duty_with : ℕ → ℕ → ℕ → ℕ → Bool → Duty
duty_with part last first count border =
    record { part = part; last = last; first = first; end = first + count; border = border }
