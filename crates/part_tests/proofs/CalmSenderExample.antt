-- An example of a sender that waits: its one frame may be sent from half bit 2 on, so nothing happens in half bits 0
-- and 1 where its station hears Idle, and something happens in half bit 2.
use Rattle.std.proofs.Common.{◌≡◌, false, [], ◌∷◌, refl, arith}
use Rattle.frame_layout.specs.declared.frame.Frame.{Frame}
use Rattle.manchester_line.specs.declared.Sym.TheVariants.{Idle}
use Rattle.mac_transmit.specs.Calm.{AreCalm, calm_of, change_in}
use Rattle.mac_transmit.specs.Sender.{Sender, new_sender, ready_at, sender_step, finished, event_from, promoted, deferring, is_free, sending_started, emitting}
use Rattle.net_step.specs.CalmNets.{WaitsFor}

-- a sender with this one frame in its queue
abbrev one_frame : Frame → Sender
one_frame frame = new_sender (record { at = 2; frame = frame } ∷ []) (record { seed = 1; station = 0; made = 0 })

calm_for_two : (frame : Frame) → calm_of (one_frame frame) false ≡ 2
unfolding change_in ready_at
calm_for_two frame = refl

calm_in_two : (frame : Frame) → AreCalm (one_frame frame) (Idle ∷ Idle ∷ [])
unfolding sender_step finished event_from promoted deferring is_free sending_started emitting ready_at
calm_in_two frame =
    (record { no_event = refl; same_phase = refl }, (record { no_event = refl; same_phase = refl }, tt))

pub waits_for_two : (frame : Frame) → WaitsFor 2 (one_frame frame)
waits_for_two frame =
    record { not_sending = refl; number = omega (arith, calm_for_two frame); calm = calm_in_two frame }

pub not_for_three : (frame : Frame) → WaitsFor 3 (one_frame frame) → ⊥
not_for_three frame waits = absurd (omega (arith, calm_for_two frame, waits.number))
