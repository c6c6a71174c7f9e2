-- Half bits that a repeater puts aside, to make them at once later: those in which it is known to be steady, sends what
-- the port that it repeats hears, and each port hears on in its class (profile, for the modes of clause 9). Half bits
-- and ports count from 0.
use Rattle.std.specs.Prelude.{◌≡◌, ℕ, ◌+◌, ◌-◌, ◌<◌, ◌≤◌, List, length, map, take, slice_set}
use Rattle.mac_parameters.specs.Parameters.{preamble_length}
use Rattle.manchester_line.specs.declared.Sym.{Sym}
use Rattle.manchester_line.specs.Line.{is_signal}
use Rattle.repeater_core.specs.declared.modes.Mode.{Mode}
use Rattle.repeater_core.specs.declared.modes.Mode.TheVariants.{Repeat}
use Rattle.repeater_core.specs.Classes.{after_rows, IsOfSource}
use Rattle.repeater_core.specs.Limits.{most_calm}
use Rattle.repeater_core.specs.Steady.{IsSteady}
use Rattle.repeater_core.specs.Step.{emitted_by, decided_by}
use Rattle.net_parts.specs.declared.parcel.Parcel.{Parcel}
use Rattle.net_parts.specs.RepeaterParts.{RepeaterState}
use Rattle.repeater_engine.specs.KeptRepeaters.{KeptRepeater}
use Rattle.repeater_engine.specs.LeapedHalfBits.{rows_brought, AreOfClasses}

-- The mode repeats one of the ports, past the preamble and start frame delimiter: what is sent is what that port hears
-- (profile).
abbrev pub RepeatsLevels : List Sym → Mode → Type 0
RepeatsLevels heard (Repeat n i) = (preamble_length ≤ i) × (n < length heard)
RepeatsLevels heard _ = ⊥

-- What the ports hear in a half bit in which the port that the mode repeats hears s, and each other what it has in
-- `heard` (profile).
abbrev pub row_hearing : Mode → List Sym → Sym → List Sym
row_hearing (Repeat n i) heard s = slice_set heard n s
row_hearing _ heard s = heard

-- A repeater after as many such half bits as the text has symbols, which that port hears. None of them brings a row
-- (profile).
abbrev pub state_later : List Sym → List Sym → RepeaterState → RepeaterState
state_later heard text s = record {
  t = s.t + length text;
  repeater = after_rows (map (row_hearing s.repeater.mode heard) text) s.repeater;
  rows = s.rows;
}

-- The same of what is kept of a repeater (profile).
abbrev pub kept_later : List Sym → KeptRepeater → KeptRepeater
kept_later text kept =
    record kept { state = state_later kept.heard text kept.state; steady = kept.steady - length text }

-- The ports that have a signal in `decided` are those that are sent one in the steady half bits that lie ahead, and
-- each port emits a symbol (profile).
pub record SendsAlike (kept : KeptRepeater) : Type 0 where
  pub decides : map is_signal kept.decided ≡ map is_signal (decided_by kept.heard kept.state.repeater)
  pub emits : length (emitted_by kept.state.repeater) ≡ length kept.state.repeater.guards

-- That is so where steady half bits lie ahead (profile).
abbrev pub KnowsSending : KeptRepeater → Type 0
KnowsSending kept = 0 < kept.steady → SendsAlike kept

-- Some half bits are put aside in which the port that is repeated heard this text, of its class (profile).
pub record IsPutAside (kept : KeptRepeater) (text : List Sym) : Type 0 where
  pub repeats : RepeatsLevels kept.heard kept.state.repeater.mode
  pub source : IsOfSource kept.state.repeater.mode kept.heard text

-- A repeater that stands behind by `late` half bits, all of them steady, with the text of those that are put aside,
-- after which it has its ports still; there are as many places for it, and for what is sent in them, as may be put
-- aside (profile).
pub record HasPutAside (kept : KeptRepeater) (late : ℕ) (text sent : List Sym) : Type 0 where
  pub sending : KnowsSending kept
  pub within : late ≤ kept.steady
  pub aside : 0 < late → IsPutAside kept (take late text)
  pub ports :
      length (kept_later (take late text) kept).state.repeater.guards ≡ length kept.state.repeater.guards
  pub few : late ≤ most_calm
  pub hearing : length text ≡ most_calm
  pub sending_room : length sent ≡ most_calm

-- A repeater that stands behind by `late` half bits stays steady over the m half bits of a window from k on too, in
-- which each port hears on in its class, and it sends what the port that it repeats hears (profile).
pub record GoesOnSteadily (late k m : ℕ) (parcels : List Parcel) (kept : KeptRepeater) : Type 0 where
  pub within : late + m ≤ kept.steady
  pub steady : IsSteady kept.heard kept.state.repeater (late + m)
  pub repeats : RepeatsLevels kept.heard kept.state.repeater.mode
  pub alike : AreOfClasses kept.heard (rows_brought k m parcels)
