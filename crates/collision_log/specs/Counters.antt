-- The counters of a device and their text (profile; what they count is named as in clause 4.2).
use Rattle.std.specs.Prelude.{ℕ, ◌+◌, ◌-◌, ◌≤◌, Bool, List, ◌++◌, decimal, codes, nat_le, if◌then◌else◌}
use Rattle.mac_parameters.specs.Parameters.{slot_time}
use Rattle.collision_log.specs.Rows.{device_word}
use Rattle.collision_log.specs.declared.counters.Counters.{Counters}
use Rattle.collision_log.specs.declared.row.Body.{Body}
use Rattle.collision_log.specs.declared.row.Body.TheVariants.{Sent, Collided, GivenUp, Cut, Received, Dropped, Clash, Closed, Opened, Halted}
use Rattle.collision_log.specs.declared.row.Why.{Why}
use Rattle.collision_log.specs.declared.row.Why.TheVariants.{Fragment, TooLong, FcsError, AlignError, Damaged}

-- all counts are 0
abbrev pub no_counts : Counters
no_counts = record {
  queued = 0;
  short = 0;
  long = 0;
  snapped = 0;
  sent = 0;
  collided = 0;
  late = 0;
  given_up = 0;
  cut = 0;
  received = 0;
  fragment = 0;
  too_long = 0;
  fcs = 0;
  align = 0;
  damaged = 0;
  clash = 0;
  closed = 0;
  opened = 0;
  halted = 0;
}

-- 1 for a late collision: one that is heard at half bit `hit` of the sending, from 0, at or after the slot time (4.4.2)
abbrev pub late_count : ℕ → ℕ
late_count hit = if nat_le slot_time hit then 1 else 0

-- the counters after one more reception that was dropped, by what was wrong with it
abbrev pub with_dropped : Counters → Why → Counters
with_dropped counters Fragment = record counters { fragment = counters.fragment + 1 }
with_dropped counters TooLong = record counters { too_long = counters.too_long + 1 }
with_dropped counters FcsError = record counters { fcs = counters.fcs + 1 }
with_dropped counters AlignError = record counters { align = counters.align + 1 }
with_dropped counters Damaged = record counters { damaged = counters.damaged + 1 }

-- the counters after one more row
abbrev pub with_row : Counters → Body → Counters
with_row counters (Sent frame start attempt) = record counters { sent = counters.sent + 1 }
with_row counters (Collided frame start attempt hit drawn) =
    record counters { collided = counters.collided + 1; late = counters.late + late_count hit }
with_row counters (GivenUp frame start hit) =
    record counters {
      collided = counters.collided + 1;
      late = counters.late + late_count hit;
      given_up = counters.given_up + 1;
    }
with_row counters (Cut frame start attempt hit) = record counters { cut = counters.cut + 1 }
with_row counters (Received octets) = record counters { received = counters.received + 1 }
with_row counters (Dropped why halves) = with_dropped counters why
with_row counters Clash = record counters { clash = counters.clash + 1 }
with_row counters (Closed port) = record counters { closed = counters.closed + 1 }
with_row counters (Opened port) = record counters { opened = counters.opened + 1 }
with_row counters (Halted port) = record counters { halted = counters.halted + 1 }

-- no count of rows is above n
pub record RowsAtMost (counters : Counters) (n : ℕ) : Type 0 where
  pub at_most_sent : counters.sent ≤ n
  pub at_most_collided : counters.collided ≤ n
  pub at_most_late : counters.late ≤ n
  pub at_most_given_up : counters.given_up ≤ n
  pub at_most_cut : counters.cut ≤ n
  pub at_most_received : counters.received ≤ n
  pub at_most_fragment : counters.fragment ≤ n
  pub at_most_too_long : counters.too_long ≤ n
  pub at_most_fcs : counters.fcs ≤ n
  pub at_most_align : counters.align ≤ n
  pub at_most_damaged : counters.damaged ≤ n
  pub at_most_clash : counters.clash ≤ n
  pub at_most_closed : counters.closed ≤ n
  pub at_most_opened : counters.opened ≤ n
  pub at_most_halted : counters.halted ≤ n

-- the frames that are neither sent nor given up for excessive collisions
abbrev pub left_of : Counters → ℕ
left_of counters = counters.queued - counters.sent - counters.given_up

-- the words of a station's queue: the frames in it, and the records that didn't come into it
abbrev pub queue_words : Counters → List ℕ
queue_words counters =
    codes " queued " ++ decimal counters.queued ++ codes " short " ++ decimal counters.short
    ++ codes " long " ++ decimal counters.long ++ codes " snapped " ++ decimal counters.snapped

-- the words of what a station sent
abbrev pub sending_words : Counters → List ℕ
sending_words counters =
    codes " sent " ++ decimal counters.sent ++ codes " collided " ++ decimal counters.collided
    ++ codes " late " ++ decimal counters.late ++ codes " given_up " ++ decimal counters.given_up
    ++ codes " cut " ++ decimal counters.cut ++ codes " left " ++ decimal (left_of counters)

-- the words of what a station received
abbrev pub receiving_words : Counters → List ℕ
receiving_words counters =
    codes " received " ++ decimal counters.received ++ codes " fragment " ++ decimal counters.fragment
    ++ codes " too_long " ++ decimal counters.too_long ++ codes " fcs " ++ decimal counters.fcs
    ++ codes " align " ++ decimal counters.align ++ codes " damaged " ++ decimal counters.damaged

-- the words of what a repeater did: collisions, and partition, reconnection and jabber lockup protection of ports
abbrev pub repeating_words : Counters → List ℕ
repeating_words counters =
    codes " clash " ++ decimal counters.clash ++ codes " closed " ++ decimal counters.closed
    ++ codes " opened " ++ decimal counters.opened ++ codes " halted " ++ decimal counters.halted

-- what a repeater or a station counts
abbrev pub counters_words : Counters → Bool → List ℕ
counters_words counters repeater =
    if repeater then repeating_words counters
    else queue_words counters ++ sending_words counters ++ receiving_words counters

-- the line of the counters of a repeater or a station with this name
abbrev pub counters_line : Counters → Bool → List ℕ → List ℕ
counters_line counters repeater name = device_word repeater ++ name ++ counters_words counters repeater ++ codes "\n"
