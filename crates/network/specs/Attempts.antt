-- The attempts of the stations in the network of a plan, the paths between them, and which of them overlap (profile).
-- Half bits count from 0, and so do stations, repeaters and their ports.
use Rattle.std.specs.Prelude.{ℕ, zero, suc, ◌≡◌, ◌≢◌, ◌+◌, ◌<◌, ◌≤◌, ◌⊎◌, true, false, min, max, All, Bool, List, [], ◌∷◌, map, flat_map, length, slice_index_or}
use Rattle.layout.specs.declared.lines.Layout.{Layout}
use Rattle.layout.specs.declared.lines.RepeaterLine.{RepeaterLine}
use Rattle.layout.specs.declared.ways.Attachment.{Attachment}
use Rattle.layout.specs.declared.ways.Attachment.TheVariants.{Station, Port}
use Rattle.layout.specs.Paths.{Path, IsPath, length_of}
use Rattle.load_plan.specs.declared.plan.Plan.{Plan}
use Rattle.mac_transmit.specs.Attempts.{Attempt, IsSending, Finishes, AreFrames}
use Rattle.mac_transmit.specs.Sender.{Sender, new_sender}
use Rattle.repeater_core.specs.Step.{resting_by}
use Rattle.network.specs.Net.{Net, net, each_repeater, ports_hear}

-- Whether each port of all is partitioned before the half bit, the ports of one repeater after those of the one before
-- (clause 9, as the profile has it).
abbrev pub closed_in : Net → List Bool
closed_in n = flat_map (λ r. map (λ g. g.closed) r.guards) n.repeaters

-- Whether each port of all rests in the half bit, by jabber lockup protection, in the same order (clause 9, as the
-- profile has it).
abbrev pub resting_in : Net → List Bool
resting_in n = flat_map (λ rests. rests) (each_repeater resting_by (ports_hear n) n.repeaters)

-- Which port of all, from 0, is port p of repeater r, both counted from 0.
abbrev pub port_number : List RepeaterLine → ℕ → ℕ → ℕ
port_number [] r p = p
port_number (x ∷ xs) zero p = p
port_number (x ∷ xs) (suc r) p = length x.ports + port_number xs r p

-- Which tap of all, from 0, this is: those of the stations come first, then those of the ports.
abbrev pub tap_number : Layout → Attachment → ℕ
tap_number l (Station k) = k
tap_number l (Port r p) = length l.stations + port_number l.repeaters r p

-- Before half bit t the tap is no port that is partitioned: a station's tap never is (clause 9).
abbrev pub IsOpen : Plan → Attachment → ℕ → Type 0
IsOpen plan (Station k) t = Unit {0}
IsOpen plan (Port r p) t =
    slice_index_or (closed_in (net plan t)) (port_number plan.layout.repeaters r p) true ≡ false

-- In half bit t the tap is no port that rests: a station's tap never is.
abbrev pub IsAwake : Plan → Attachment → ℕ → Type 0
IsAwake plan (Station k) t = Unit {0}
IsAwake plan (Port r p) t =
    slice_index_or (resting_in (net plan t)) (port_number plan.layout.repeaters r p) true ≡ false

-- Each tap of a path is open, and rests in none, from half bit `from` to half bit `to`, both counted with.
abbrev pub IsOpenPath : Plan → ℕ → ℕ → Path → Type 0
IsOpenPath plan from to path =
    All (λ tap. (t : ℕ) → from ≤ t → t ≤ to → IsOpen plan tap t × IsAwake plan tap t) path.taps

-- The sender of station k before half bit t.
abbrev pub sender_at : Plan → ℕ → ℕ → Sender
sender_at plan k t =
    slice_index_or (net plan t).senders k (new_sender [] (record { seed = 0; station = 0; made = 0 }))

-- An attempt of station k in the network of a plan: its sender ends it in half bit a.end (4.2.8).
pub record IsAttempt (plan : Plan) (k : ℕ) (a : Attempt) : Type 0 where
  pub station : k < length plan.layout.stations
  pub finishes : Finishes (sender_at plan k a.end) a

-- Attempts x and y of two stations that are d half bits apart overlap: the one station is sending when a signal of the
-- other comes to it (4.1.2.2).
abbrev pub Overlap : ℕ → Attempt → Attempt → Type 0
Overlap d x y =
    ((t : ℕ) × (IsSending x t × IsSending y (t + d))) ⊎ ((t : ℕ) × (IsSending y t × IsSending x (t + d)))

-- Two attempts of different stations a and b that overlap over an open path: its ports are open from the earlier start
-- to the time that a signal needs after the later one.
pub record OverlapOpenly (plan : Plan) (a b : ℕ) (x y : Attempt) : Type 0 where
  pub different : a ≢ b
  pub first : IsAttempt plan a x
  pub second : IsAttempt plan b y
  pub path : Path
  pub leads : IsPath plan.layout (Station a) path (Station b)
  pub overlap : Overlap (length_of plan.layout (Station a) path) x y
  pub clear :
      IsOpenPath plan (min x.start y.start) (max x.start y.start + length_of plan.layout (Station a) path) path

-- All queues of a plan hold frames of at least the least size (3.2.8).
abbrev pub HasFrames : Plan → Type 0
HasFrames plan = All AreFrames plan.queues
