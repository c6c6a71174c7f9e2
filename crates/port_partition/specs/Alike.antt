-- Half bits alike, in each of which a port hears something, has a collision, and emits something, or not, as in the
-- others, and for how many of them nothing happens to it (profile, in the manner of the auto-partition of clause 9).
use Rattle.std.specs.Prelude.{ℕ, ◌-◌, ◌<◌, ◌≡◌, Bool, ◌==◌, ◌||◌, not, max, if◌then◌else◌}
use Rattle.std.specs.Fn.{iterate}
use Rattle.mac_parameters.specs.Parameters.{partition_in_a_row, partition_collision, reconnection}
use Rattle.port_partition.specs.declared.guard.GuardEvent.TheVariants as event
use Rattle.port_partition.specs.declared.guard.TheConstants.{FOREVER}
use Rattle.port_partition.specs.Guard.{Guard, guard_after, event_of, row_with}

-- the guard after n half bits alike
abbrev pub guard_later : Bool → Bool → Bool → ℕ → Guard → Guard
guard_later hears clash emits n g = iterate (λ g. guard_after g hears clash emits) n g

-- nothing happens to the port in n half bits alike: it is neither partitioned nor connected again
abbrev pub HasNoEvent : Bool → Bool → Bool → ℕ → Guard → Type 0
HasNoEvent hears clash emits n g =
    (k : ℕ) → k < n → event_of (guard_later hears clash emits k g) hears clash ≡ event.None

-- the number that stands for all half bits to come
abbrev pub forever : ℕ
forever = FOREVER

-- the half bits alike before the first in which something happens to the port, or `forever`
abbrev pub guard_calm : Bool → Bool → Bool → Guard → ℕ
guard_calm hears clash emits g =
    if clash then
    (if g.closed then forever else if row_with g == partition_in_a_row then 0
    else partition_collision - 1 - g.clash_run)
    else if hears || not g.closed then forever
    else if g.mend then 0
    else if emits then max 1 (reconnection - g.clean_run)
    else forever
