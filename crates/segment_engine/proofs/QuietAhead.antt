-- For how long nothing happens on a segment on whose lines nothing is that still reaches a tap.
use Rattle.std.proofs.Common.{◌≡◌, ℕ, ◌+◌, ◌-◌, ◌<◌, ◌≤◌, All, false, length, get_or, sym, subst, ◌∙◌, arith}
use Rattle.manchester_line.specs.Decoding.{new_decoding}
use Rattle.mac_receive.specs.KeptReceiver.{KeptReception}
use Rattle.mac_transmit.specs.Sender.{Sender, is_sending}
use Rattle.network.specs.Attempts.{sender_at}
use Rattle.tap_lines.specs.TapLines.{AreIdleFrom}
use Rattle.segment_engine.specs.declared.apart.Watch.{Watch}
use Rattle.segment_engine.specs.declared.running.Running.{Running}
use Rattle.segment_engine.specs.declared.segment.Segment.{Segment}
use Rattle.segment_engine.specs.QuietHalfBits.{AreAtRest, IsCalmFor, IsQuietFor}
use Rattle.segment_engine.specs.RunningStates.{GoesOnAt}
use Rattle.segment_engine.specs.SteadyPieces.{IsCalmAs}
use Rattle.segment_engine.proofs.CalmLater.{calm_fewer}
use Rattle.segment_engine.proofs.QuietStations.{no_class}

a_watch : Watch
a_watch = record { since = 0; until = 0; carrier = false; told = 0 }

a_kept : KeptReception
a_kept = record { lose = 0; most = 0; deaf = false; halves = 0; decoder = new_decoding; steps = 0 }

module _ (of : Segment) (a : Running) (at : GoesOnAt of a.t a) (silent : AreIdleFrom (a.t - a.far) a.lines.items) (n : ℕ) where
  a_sender : Sender
  a_sender = sender_at of.plan.value 0 0

  -- where no watch ends before
  module _ (some : 0 < n) (until : (i : ℕ) (w : Watch) → i < length a.watches.items → a.t + n ≤ (get_or a.watches.items i w).until) where
    until_at : (i : ℕ) (w : Watch) → i < length of.stations.items → a.t + n ≤ (get_or a.watches.items i w).until
    until_at i w h = let many = at.stations.watches in until i w (omega (arith, h, many))

    carrier_off : (i : ℕ) (w : Watch) → i < length of.stations.items → (get_or a.watches.items i w).carrier ≡ false
    carrier_off i w h =
        let one = at.stations.each i w a_sender a_kept h in
        let taps = at.stations.taps in
        let late = until_at i w h in
        sym (one.behind.steady a.t one.since (omega (arith, late, some))) ∙ no_class of a a.t at silent a.t i (omega arith) (omega (arith, h, taps))

    not_sending : (i : ℕ) (s : Sender) → i < length of.stations.items → is_sending (get_or a.senders.items i s).phase ≡ false
    not_sending i s h =
        let one = at.stations.each i a_watch s a_kept h in
        let taps = at.stations.taps in
        sym (one.behind.goes a.t one.since) ∙ silent i a.t (omega (arith, h, taps)) (omega arith)

    pub quiet_by_watches : IsQuietFor n a
    quiet_by_watches = record {
      lines = silent;
      idle = λ i w h early. let many = at.stations.senders in carrier_off i w (omega (arith, h, many));
      senders = λ i w s h.
          let many = at.stations.senders in
          let in_it : i < length of.stations.items = omega (arith, h, many) in
          let late = until_at i w in_it in
          let x = get_or a.watches.items i w in
          let b = (at.stations.each i w s a_kept in_it).behind in
          let calm : IsCalmAs (x.until - x.since) false (get_or a.senders.items i s) = subst (λ c. IsCalmAs (x.until - x.since) c (get_or a.senders.items i s)) (carrier_off i w in_it) b.calm in
          record {
            not_sending = not_sending i s in_it;
            calm = calm_fewer (a.t + n - x.since) (x.until - x.since) false (get_or a.senders.items i s) (omega (arith, late)) calm;
          };
      receivers = λ i k h.
          let many = at.stations.receivers in
          let in_it : i < length of.stations.items = omega (arith, h, many) in
          let late = until_at i a_watch in_it in
          let early = (at.stations.each i a_watch a_sender k in_it).since in
          at.still i a_watch a_sender k in_it (omega (arith, late, early, some)) (carrier_off i a_watch in_it) (not_sending i a_sender in_it);
    }

  -- where all stand before the present half bit, and none of them is due before
  pub quiet_by_senders : a.from ≡ a.t → All (IsCalmFor n) a.senders.items → AreAtRest a.receivers.items → IsQuietFor n a
  quiet_by_senders settled calm rest = record {
    lines = silent;
    idle = λ i w h early.
        let many = at.stations.senders in
        let from = (at.stations.each i w a_sender a_kept (omega (arith, h, many))).behind.from_start in
        absurd (omega (arith, early, from, settled));
    senders = λ i w s h.
        let many = at.stations.senders in
        let one = at.stations.each i w s a_kept (omega (arith, h, many)) in
        let from = one.behind.from_start in
        let early = one.since in
        let left : n ≡ a.t + n - (get_or a.watches.items i w).since = omega (arith, from, early, settled) in
        subst (λ j. IsCalmFor j (get_or a.senders.items i s)) left (calm i s h);
    receivers = rest;
  }

-- no watch ends before the present half bit
pub until_now : (of : Segment) (a : Running) → GoesOnAt of a.t a → (i : ℕ) (w : Watch) → i < length a.watches.items → a.t ≤ (get_or a.watches.items i w).until
until_now of a at i w h = let many = at.stations.watches in (at.stations.each i w (sender_at of.plan.value 0 0) a_kept (omega (arith, h, many))).until

-- where all stand before the present half bit
module _ (of : Segment) (a : Running) (front : ℕ) (at : GoesOnAt of front a) (settled : a.from ≡ a.t) where
  pub times_now : All (λ (s : Sender). s.t ≡ a.t) a.senders.items
  times_now = λ i s h.
      let many = at.stations.senders in
      let one = at.stations.each i a_watch s a_kept (omega (arith, h, many)) in
      let from = one.behind.from_start in
      let early = one.since in
      let time = one.behind.time in
      omega (arith, from, early, time, settled)

  pub steps_now : All (λ (k : KeptReception). k.steps ≡ a.t) a.receivers.items
  steps_now = λ i k h.
      let many = at.stations.receivers in
      let one = at.stations.each i a_watch (sender_at of.plan.value 0 0) k (omega (arith, h, many)) in
      let from = one.behind.from_start in
      let early = one.since in
      let steps = one.behind.steps in
      omega (arith, from, early, steps, settled)

  pub calm_for_now : (n : ℕ) → IsQuietFor n a → All (IsCalmFor n) a.senders.items
  calm_for_now n quiet = λ i s h.
      let many = at.stations.senders in
      let one = at.stations.each i a_watch s a_kept (omega (arith, h, many)) in
      let from = one.behind.from_start in
      let early = one.since in
      let left : a.t + n - (get_or a.watches.items i a_watch).since ≡ n = omega (arith, from, early, settled) in
      subst (λ j. IsCalmFor j (get_or a.senders.items i s)) left (quiet.senders i a_watch s h)
