-- What a segment as a part keeps of its state (profile).
use Rattle.std.specs.Prelude.{◌≡◌, Bool, true, false, [], map}
use Rattle.network.specs.Attempts.{sender_at}
use Rattle.net_parts.specs.Standing.{receiver_at}
use Rattle.net_parts.specs.Parts.{PartState, OfSegment, OfRepeater}
use Rattle.net_parts.specs.SegmentParts.{SegmentState}
use Rattle.segment_engine.specs.declared.running.Running.{Running}
use Rattle.segment_engine.specs.declared.segment.Segment.{Segment}
use Rattle.segment_engine.specs.StationsApart.{StandAllApart}

-- Whether the state is a segment's (profile).
abbrev pub is_segment_state : PartState → Bool
is_segment_state (OfSegment state) = true
is_segment_state (OfRepeater state) = false

-- The state of a segment, and an empty one where it isn't a segment's (profile).
abbrev pub segment_state : PartState → SegmentState
segment_state (OfSegment state) = state
segment_state (OfRepeater state) =
    record { t = 0; senders = []; receivers = []; own = []; arrived = []; rows = []; captures = [] }

-- What is kept stands for a part's state, which is a segment's: the half bit, its rows and captures, and the senders
-- and receivers of its stations, behind which these stand (profile).
pub record KeepsSegment (of : Segment) (a : Running) (p : PartState) : Type 0 where
  pub kind : is_segment_state p ≡ true
  pub time : a.t ≡ (segment_state p).t
  pub behind : StandAllApart of a.from a.t a.lines.items a.watches.items a.senders.items a.receivers.items
  pub senders : (segment_state p).senders ≡ map (λ k. sender_at of.plan.value k a.t) of.stations.items
  pub receivers : (segment_state p).receivers ≡ map (λ k. receiver_at of.plan.value k a.t) of.stations.items
  pub rows : a.room.rows ≡ (segment_state p).rows
  pub captures : a.room.captures ≡ (segment_state p).captures
