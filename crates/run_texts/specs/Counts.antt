-- What the devices of a plan count over the rows of a run (profile). Devices count from 0, the stations before the
-- repeaters.
use Rattle.std.specs.Prelude.{ℕ, ◌+◌, ◌≤◌, ◌==◌, List, [], ◌∷◌, ◌++◌, All, filter, length, replicate}
use Rattle.std.specs.List.{sum_by}
use Rattle.collision_log.specs.Counters.{no_counts, with_row, left_of}
use Rattle.collision_log.specs.declared.counters.Counters.{Counters}
use Rattle.collision_log.specs.declared.row.Row.{Row}
use Rattle.frame_layout.specs.declared.queue.Ready.{Ready}
use Rattle.load_plan.specs.declared.plan.Plan.{Plan}
use Rattle.load_plan.specs.declared.plan.Skips.{Skips}
use Rattle.run_texts.specs.declared.totals.Sums.{Sums}

-- What a station counts before its run: the frames of its queue, and the records that did not come into it.
abbrev pub station_counts : List Ready → Skips → Counters
station_counts queue skips =
    record no_counts { queued = length queue; short = skips.short; long = skips.long; snapped = skips.snapped }

-- What these stations count before their run, by their queues and the records that did not come into them.
abbrev pub stations_counts : List (List Ready) → List Skips → List Counters
stations_counts (q ∷ qs) (s ∷ ss) = station_counts q s ∷ stations_counts qs ss
stations_counts _ _ = []

-- What the devices of a plan count before its run: the stations, then the repeaters.
unfoldable pub first_counts : Plan → List Counters
first_counts plan = stations_counts plan.queues plan.skips ++ replicate (length plan.layout.repeaters) no_counts

-- The counts of a device after these rows of its own.
abbrev pub counts_after : Counters → List Row → Counters
counts_after counts [] = counts
counts_after counts (row ∷ rows) = counts_after (with_row counts row.body) rows

-- Those of these rows that are of device k.
abbrev pub rows_of_device : ℕ → List Row → List Row
rows_of_device k rows = filter (λ row. row.device == k) rows

-- The counts of the devices from k on after these rows of all devices.
abbrev pub all_counts_after : ℕ → List Counters → List Row → List Counters
all_counts_after k [] rows = []
all_counts_after k (c ∷ cs) rows = counts_after c (rows_of_device k rows) ∷ all_counts_after (k + 1) cs rows

-- What the devices of a plan count over the rows of its run.
unfoldable pub counts_of : Plan → List Row → List Counters
counts_of plan rows = all_counts_after 0 (first_counts plan) rows

-- The frames that a device sent, with those that it gave up for excessive collisions, are no more than were queued
-- (4.2.3.2.5).
abbrev pub AreLeft : List Counters → Type 0
AreLeft counts = All (λ c. c.sent + c.given_up ≤ c.queued) counts

-- How many receptions were dropped, for whatever cause.
abbrev pub dropped_of : Counters → ℕ
dropped_of c = c.fragment + c.too_long + c.fcs + c.align + c.damaged

-- The sums over all devices.
unfoldable pub totals : List Counters → Sums
totals cs = record {
  sent = sum_by (λ c. c.sent) cs;
  collided = sum_by (λ c. c.collided) cs;
  late = sum_by (λ c. c.late) cs;
  given_up = sum_by (λ c. c.given_up) cs;
  cut = sum_by (λ c. c.cut) cs;
  left = sum_by left_of cs;
  received = sum_by (λ c. c.received) cs;
  dropped = sum_by dropped_of cs;
  clash = sum_by (λ c. c.clash) cs;
  closed = sum_by (λ c. c.closed) cs;
  opened = sum_by (λ c. c.opened) cs;
}
