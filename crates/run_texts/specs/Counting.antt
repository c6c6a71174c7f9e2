-- Counting row by row, and adding device by device (profile). Devices count from 0.
use Rattle.std.specs.Prelude.{ℕ, ◌+◌, ◌==◌, List, [], ◌∷◌, All, if◌then◌else◌}
use Rattle.collision_log.specs.Counters.{RowsAtMost, with_row, left_of}
use Rattle.collision_log.specs.declared.counters.Counters.{Counters}
use Rattle.collision_log.specs.declared.row.Row.{Row}
use Rattle.run_texts.specs.Counts.{dropped_of}
use Rattle.run_texts.specs.declared.totals.Sums.{Sums}

-- No device has counted more than n rows of one kind.
abbrev pub AreAtMost : List Counters → ℕ → Type 0
AreAtMost counts n = All (λ c. RowsAtMost c n) counts

-- The counts of the devices from k on with one more row, which counts at its own device.
abbrev pub counted : ℕ → List Counters → Row → List Counters
counted k [] row = []
counted k (c ∷ cs) row = (if row.device == k then with_row c row.body else c) ∷ counted (k + 1) cs row

-- The sums with the counts of one more device.
abbrev pub with_counts : Sums → Counters → Sums
with_counts sums c = record {
  sent = sums.sent + c.sent;
  collided = sums.collided + c.collided;
  late = sums.late + c.late;
  given_up = sums.given_up + c.given_up;
  cut = sums.cut + c.cut;
  left = sums.left + left_of c;
  received = sums.received + c.received;
  dropped = sums.dropped + dropped_of c;
  clash = sums.clash + c.clash;
  closed = sums.closed + c.closed;
  opened = sums.opened + c.opened;
}
