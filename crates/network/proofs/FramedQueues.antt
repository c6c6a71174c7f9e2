-- The queues of plans hold frames.
use Rattle.std.proofs.Common.{ℕ, ◌+◌, ◌≤◌, max, All, List, [], ◌∷◌, ◌++◌, length, sym, subst, arith}
use Rattle.std.proofs.lemmas.List.Elements.{All-nil, All-cons}
use Rattle.mac_parameters.specs.Parameters.{least_frame}
use Rattle.capture_file.specs.declared.entries.Record.{Record}
use Rattle.frame_layout.specs.declared.queue.Ready.{Ready}
use Rattle.frame_layout.specs.Frame.{frame_of}
use Rattle.frame_layout.proofs.Frames.{length-frame_of}
use Rattle.layout.specs.declared.lines.SendLine.{SendLine}
use Rattle.load_plan.specs.Loads.{Offer, raised, offers_of_load, offers_of_sends, queue_of_load, queues_from, planned_queues, start_of, most_of}
use Rattle.mac_transmit.specs.Attempts.{AreFrames}
use Rattle.network.specs.Signals.{PlansHoldFrames}

-- a frame has at least the octets of the least frame
frame_is_long : (octets : List ℕ) → least_frame ≤ length (frame_of octets)
frame_is_long octets = omega (arith, length-frame_of octets)

raised_frames : (last : ℕ) (offers : List Offer) → AreFrames (raised last offers)
raised_frames last [] = All-nil (λ (r : Ready). least_frame ≤ length r.frame)
raised_frames last (o ∷ os) =
    let next : Ready = record { at = max last o.at; frame = frame_of o.octets } in
    All-cons (λ (r : Ready). least_frame ≤ length r.frame) next (raised (max last o.at) os) (frame_is_long o.octets) (raised_frames (max last o.at) os)

queue_frames : (start most : ℕ) (sends : List SendLine) (station : ℕ) (rs : List Record) → AreFrames (queue_of_load start most sends station rs)
unfolding queue_of_load
queue_frames start most sends station rs = raised_frames 0 (offers_of_load start most rs ++ offers_of_sends station sends)

queues_frames : (start most : ℕ) (sends : List SendLine) (station : ℕ) (loads : List (List Record)) → All AreFrames (queues_from start most sends station loads)
queues_frames start most sends station [] = All-nil AreFrames
queues_frames start most sends station (rs ∷ rss) =
    All-cons AreFrames (queue_of_load start most sends station rs) (queues_from start most sends (station + 1) rss) (queue_frames start most sends station rs)
    (queues_frames start most sends (station + 1) rss)

pub plans_hold_frames : PlansHoldFrames
unfolding planned_queues
plans_hold_frames plan loads e = subst (All AreFrames) (sym e) (queues_frames (start_of loads) (most_of plan.layout) plan.layout.sends 0 loads)
