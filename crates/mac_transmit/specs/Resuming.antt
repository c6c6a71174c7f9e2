-- Senders that are stopped and go on later (profile).
use Rattle.std.specs.Prelude.{ℕ, ◌<◌, ◌≤◌, None, List, length}
use Rattle.mac_parameters.specs.Parameters.{attempt_limit, interframe_gap, last_backoff, most_draws}
use Rattle.frame_layout.specs.declared.queue.Ready.{Ready}
use Rattle.backoff_draw.specs.Draws.{Drawing}
use Rattle.mac_transmit.specs.declared.deference.Defer.{Defer}
use Rattle.mac_transmit.specs.declared.deference.Defer.TheVariants.{Watch, Busy, Gap}
use Rattle.mac_transmit.specs.declared.phase.Phase.{Phase}
use Rattle.mac_transmit.specs.declared.phase.Phase.TheVariants.{Rest, Waiting, Sending, Backoff}
use Rattle.mac_transmit.specs.declared.state.SenderState.{SenderState}
use Rattle.mac_transmit.specs.Sender.{Sender}

-- the state of a sender, from which it can go on, given a half bit, its queue and its draws
abbrev pub state_of : Sender → SenderState
state_of s = record { phase = s.phase; defer = s.defer; attempt = s.attempt; place = s.place; drawn = s.draws.made }

-- a sender before half bit t that goes on from a state: no sending ended yet, and nothing was heard
abbrev pub resumed_sender : List Ready → Drawing → ℕ → SenderState → Sender
resumed_sender queue draws t state = record {
  queue = queue;
  draws = draws;
  t = t;
  place = state.place;
  phase = state.phase;
  defer = state.defer;
  attempt = state.attempt;
  last_end = None;
  carrier_from = t;
}

-- No sending is under way, a sender that waits or backs off has a frame to send, and a backoff ends by half bit
-- 2,100,000,000.
abbrev pub IsPhaseIn : List Ready → ℕ → Phase → Type 0
IsPhaseIn queue place Rest = Unit {0}
IsPhaseIn queue place Waiting = place < length queue
IsPhaseIn queue place (Sending start hit) = ⊥
IsPhaseIn queue place (Backoff until) = (place < length queue) × (until ≤ last_backoff)

-- of a gap, 1 to 192 half bits have gone
abbrev pub IsDeferIn : Defer → Type 0
IsDeferIn Watch = Unit {0}
IsDeferIn (Busy was) = Unit {0}
IsDeferIn (Gap k was) = (1 ≤ k) × (k ≤ interframe_gap)

-- what is asked of a state to go on from with a queue
pub record IsStateOf (queue : List Ready) (state : SenderState) : Type 0 where
  pub place : state.place ≤ length queue
  pub phase : IsPhaseIn queue state.place state.phase
  pub defer : IsDeferIn state.defer
  pub first : 1 ≤ state.attempt
  pub last : state.attempt ≤ attempt_limit
  pub drawn : state.drawn ≤ most_draws
