-- The line of a sender or of a port that is missing.
use Rattle.std.proofs.Common.{◌≡◌, ℕ, zero, suc, ◌<◌, List, [], ◌∷◌, drop, map, length, Err, refl, arith}
use Rattle.frame_layout.specs.declared.queue.Ready.{Ready}
use Rattle.layout.specs.declared.lines.StationLine.{StationLine}
use Rattle.mac_transmit.specs.declared.state.SenderState.{SenderState}
use Rattle.port_partition.specs.Guard.{Guard}
use Rattle.run_checkpoint.specs.Judging.{judged_guards, judged_senders}
use Rattle.run_checkpoint.specs.PortNames.{named_port}
use Rattle.run_checkpoint.specs.declared.fault.StateFault.TheVariants as fault
use Rattle.run_checkpoint.specs.declared.places.PortName.{PortName}

pub sender_missing : (n : ℕ) (told : List SenderState) (k : ℕ) (stations : List StationLine) (queues : List (List Ready)) → k < length stations → length queues ≡ length stations
    → judged_senders n told (drop k stations) (drop k queues) [] ≡ Err (fault.BadLine n)
sender_missing n told k [] queues lt many = absurd (omega (arith, lt))
sender_missing n told k (s ∷ ss) [] lt many = absurd (omega (arith, many))
sender_missing n told zero (s ∷ ss) (q ∷ qs) lt many = refl
sender_missing n told (suc k) (s ∷ ss) (q ∷ qs) lt many = sender_missing n told k ss qs (omega (arith, lt)) (omega (arith, many))

pub guard_missing : (n : ℕ) (gs : List Guard) (rs : List ℕ) (k : ℕ) (ports : List PortName) → k < length ports → judged_guards n gs rs (map named_port (drop k ports)) [] ≡ Err (fault.BadLine n)
guard_missing n gs rs k [] lt = absurd (omega (arith, lt))
guard_missing n gs rs zero (p ∷ ps) lt = refl
guard_missing n gs rs (suc k) (p ∷ ps) lt = guard_missing n gs rs k ps (omega (arith, lt))
