-- The guard of a repeater's port, half bit by half bit: the port's partition, after collisions in a row or a long
-- one, and its reconnection, after a clean run. All here is profile, in the manner of the auto-partition of clause 9.
use Rattle.std.specs.Prelude.{ℕ, ◌+◌, ◌≤◌, ◌≡◌, Bool, true, false, ◌==◌, ◌||◌, ◌&&◌, not, min, if◌then◌else◌}
use Rattle.mac_parameters.specs.Parameters.{partition_in_a_row, partition_collision, reconnection}
use Rattle.port_partition.specs.declared.guard.GuardEvent.{GuardEvent}
use Rattle.port_partition.specs.declared.guard.GuardEvent.TheVariants as event

-- whether the port is closed (partitioned), whether it opens (is connected again) once it hears nothing, whether the
-- activity under way had a collision, the collisions in a row, and the half bits of the collision and of the clean run
-- under way
pub record Guard : Type 0 where
  pub closed : Bool
  pub mend : Bool
  pub struck : Bool
  pub in_row : ℕ
  pub clash_run : ℕ
  pub clean_run : ℕ

-- how far each count goes, and that only a closed port may open
pub record IsGuard (g : Guard) : Type 0 where
  pub row_at_most : g.in_row ≤ partition_in_a_row
  pub clash_at_most : g.clash_run ≤ partition_collision
  pub clean_at_most : g.clean_run ≤ reconnection
  pub mend_if_closed : g.mend ≡ true → g.closed ≡ true

-- the guard of an open port that had no collision
abbrev pub new_guard : Guard
new_guard = record { closed = false; mend = false; struck = false; in_row = 0; clash_run = 0; clean_run = 0 }

-- whether the port opens in a half bit in which it hears something or not: a closed port that may does so where it
-- hears nothing
abbrev pub opens : Guard → Bool → Bool
opens g hears = g.closed && g.mend && not hears

-- the guard after the reconnection, where there is one
abbrev pub reopened : Guard → Bool → Guard
reopened g hears = if opens g hears then record g { closed = false; mend = false; in_row = 0 } else g

-- the collisions in a row, counted with the one under way
abbrev pub row_with : Guard → ℕ
row_with g = if g.struck then g.in_row else min (g.in_row + 1) partition_in_a_row

-- the half bits of the collision under way, counted with this one
abbrev pub clash_with : Guard → ℕ
clash_with g = min (g.clash_run + 1) partition_collision

-- whether a half bit of a collision closes an open port: that of the last collision of the longest row, or the last of
-- the longest collision
abbrev pub closes : Guard → Bool
closes g = not g.closed && (row_with g == partition_in_a_row || clash_with g == partition_collision)

-- the guard after a half bit of a collision
abbrev pub after_clash : Guard → Guard
after_clash g = record {
  closed = g.closed || closes g;
  mend = false;
  struck = true;
  in_row = row_with g;
  clash_run = clash_with g;
  clean_run = 0;
}

-- the half bits of the clean run under way, counted with this one
abbrev pub clean_with : Guard → ℕ
clean_with g = min (g.clean_run + 1) reconnection

-- the guard after a half bit without a collision, in which the port hears or emits something, or neither; a clean run
-- that is long enough for the reconnection ends the row, and lets a closed port open
abbrev pub after_clean : Guard → Bool → Guard
after_clean g busy =
    if not busy then record g { struck = false; clash_run = 0; clean_run = 0 }
    else if clean_with g == reconnection
    then record g { mend = g.closed; in_row = 0; clash_run = 0; clean_run = reconnection }
    else record g { clash_run = 0; clean_run = clean_with g }

-- the guard after a half bit in which the port hears something, has a collision, and emits something, or not
abbrev pub guard_after : Guard → Bool → Bool → Bool → Guard
guard_after g hears clash emits =
    let opened = reopened g hears in if clash then after_clash opened else after_clean opened (hears || emits)

-- what a half bit in which the port hears something, and has a collision, or not, does to it
abbrev pub event_of : Guard → Bool → Bool → GuardEvent
event_of g hears clash =
    if opens g hears then event.Opened
    else if clash && closes (reopened g hears) then event.Closed
    else event.None
