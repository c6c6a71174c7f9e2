-- Queues as lists of frames with the half bits, from 0, from which on they may be sent (profile).
use Rattle.std.specs.Prelude.{ℕ, ◌≤◌, ◌-◌, List, length, slice_get}
use Rattle.std.specs.List.Sorted.{IsNonDecreasingBy}
use Rattle.std.specs.Option.{ForSome}
use Rattle.frame_layout.specs.declared.queue.Ready.{Ready}

-- the last frame of the queue, where there is one, isn't ready later than this half bit
abbrev pub IsNotBelowLast : List Ready → ℕ → Type 0
IsNotBelowLast queue at = ForSome (slice_get queue (length queue - 1)) (λ last. last.at ≤ at)

-- no frame is ready later than one after it
abbrev pub IsInOrder : List Ready → Type 0
IsInOrder queue = IsNonDecreasingBy (λ ready. ready.at) queue
