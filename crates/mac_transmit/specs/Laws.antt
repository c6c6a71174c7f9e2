-- The laws of a sender's step (IEEE 802.3, 4.2.3 and 4.4.2), and what a sender counts for them, half bit by half bit.
use Rattle.std.specs.Prelude.{ℕ, ◌≡◌, ◌+◌, ◌<◌, ◌≤◌, Bool, true, false, Option, Some, None}
use Rattle.mac_parameters.specs.Parameters.{shortest_line_text, shortest_sending}
use Rattle.collision_log.specs.declared.row.Body.{Body}
use Rattle.collision_log.specs.declared.row.Body.TheVariants.{Sent, Collided, GivenUp}
use Rattle.mac_transmit.specs.declared.phase.Phase.{Phase}
use Rattle.mac_transmit.specs.declared.phase.Phase.TheVariants.{Sending}

-- The half bit in which the last sending ended, after half bit t, which gave this event if any: every event of a step
-- is the end of a sending.
abbrev pub end_after : Option ℕ → ℕ → Option Body → Option ℕ
end_after last t None = last
end_after last t (Some event) = Some t

-- The first of the half bits one after another, up to t, in which the station had carrier, given that first one before
-- t and whether it has carrier in t; it is t + 1, and there are none, where it heard Idle in t.
abbrev pub carrier_after : ℕ → ℕ → Bool → ℕ
carrier_after from t true = from
carrier_after from t false = t + 1

-- A sending that a phase shows began in half bit t.
abbrev pub StartsAt : ℕ → Phase → Type 0
StartsAt t (Sending start hit) = start ≡ t
StartsAt t _ = ⊥

-- The last sending, if one ended, ended at least so many half bits before t.
abbrev pub IsAway : Option ℕ → ℕ → ℕ → Type 0
IsAway None gap t = Unit {0}
IsAway (Some last_end) gap t = last_end + gap ≤ t

-- A sending that ended at t had at least 192 half bits (preamble, start frame delimiter and jam, 4.2.3.2.4), and one
-- without a hit at least 1,152 (minFrameSize, 4.4.2). One with a hit went on past it.
abbrev pub IsLongEnough : ℕ → Option Body → Type 0
IsLongEnough t (Some (Sent frame start attempt)) = start + shortest_line_text ≤ t
IsLongEnough t (Some (Collided frame start attempt hit drawn)) = (start + shortest_sending ≤ t) × (start + hit < t)
IsLongEnough t (Some (GivenUp frame start hit)) = (start + shortest_sending ≤ t) × (start + hit < t)
IsLongEnough t _ = Unit {0}
