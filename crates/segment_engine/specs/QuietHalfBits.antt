-- Half bits in which nothing happens on a segment: all lines are Idle, no station sends or begins to, and no reception
-- is under way (profile). Half bits and taps count from 0.
use Rattle.std.specs.Prelude.{ℕ, ◌≡◌, ◌<◌, ◌≤◌, ◌+◌, ◌-◌, All, false, List, length, replicate, slice_index, slice_index_or}
use Rattle.manchester_line.specs.declared.Sym.TheVariants.{Idle}
use Rattle.load_plan.specs.declared.plan.Plan.{Plan}
use Rattle.net_parts.specs.Windows.{lookahead}
use Rattle.net_parts.specs.Standing.{arrives, port_hears}
use Rattle.mac_receive.specs.KeptReceiver.{KeptReception, Hears}
use Rattle.mac_receive.specs.Receiver.{Receiving, receiver_after}
use Rattle.mac_transmit.specs.Calm.{after_all}
use Rattle.mac_transmit.specs.Sender.{Sender, is_sending}
use Rattle.segment_engine.specs.declared.apart.Watch.{Watch}
use Rattle.segment_engine.specs.declared.running.Running.{Running}
use Rattle.segment_engine.specs.SteadyPieces.{IsCalmAs}
use Rattle.tap_lines.specs.TapLines.{AreIdleFrom}

-- A sender doesn't send, and nothing happens to it in n half bits in which its station hears Idle (profile).
pub record IsCalmFor (n : ℕ) (s : Sender) : Type 0 where
  pub not_sending : is_sending s.phase ≡ false
  pub calm : IsCalmAs n false s

-- No reception is under way at these receivers (profile).
abbrev pub AreAtRest : List KeptReception → Type 0
AreAtRest ks = All (λ k. k.halves ≡ 0) ks

-- Nothing happens on a segment in the next n half bits, since nothing but Idle still reaches a tap: nothing happens to
-- a station that stands behind up to their end, as it hears Idle (profile).
pub record IsQuietFor (n : ℕ) (a : Running) : Type 0 where
  pub lines : AreIdleFrom (a.t - a.far) a.lines.items
  pub idle : (i : ℕ) (w : Watch) → i < length a.senders.items →
      (slice_index_or a.watches.items i w).since < a.t → (slice_index_or a.watches.items i w).carrier ≡ false
  pub senders : (i : ℕ) (w : Watch) (s : Sender) → i < length a.senders.items →
      IsCalmFor (a.t + n - (slice_index_or a.watches.items i w).since) (slice_index_or a.senders.items i s)
  pub receivers : AreAtRest a.receivers.items

-- A station that stood before half bit t has gone over n half bits of Idle, in which nothing happened to it: its watch,
-- its sender before and after, and its receiver before and after (profile).
pub record HasLeapt (t n : ℕ) (w : Watch) (s s' : Sender) (k k' : KeptReception) : Type 0 where
  pub since : w.since ≡ t + n
  pub until : w.until ≡ t + n
  pub told : t + n ≤ w.told
  pub state : s' ≡ after_all s (replicate n Idle)
  pub phase : s'.phase ≡ s.phase
  pub time : s'.t ≡ t + n
  pub receiver : (r : Receiving) → Hears r k → Hears (receiver_after r (replicate n Idle) false) k'
  pub steps : k'.steps ≡ t + n

-- Idle comes in for the ports of these edges in the n half bits from t on (profile).
abbrev pub ComeInIdle : Plan → List ℕ → ℕ → ℕ → Type 0
ComeInIdle plan es t n =
    (p j : ℕ) → p < length es → j < n → arrives plan (lookahead plan.layout) (slice_index es p) (t + j) ≡ Idle

-- The ports of these edges hear Idle, which goes out, in the n half bits from t on (profile).
abbrev pub GoOutIdle : Plan → List ℕ → ℕ → ℕ → Type 0
GoOutIdle plan es t n =
    (p j : ℕ) → p < length es → j < n → port_hears plan (slice_index es p) (t + j) ≡ Idle
