-- How far ways from a station have come (profile). Lengths are half bits; stations, repeaters and ports count from 0.
use Rattle.std.specs.Prelude.{◌≡◌, ℕ, ◌+◌, ◌<◌, List, [], ◌∷◌, ◌++◌, length, true, is_some, IfSome, None, Option, slice_index_or}
use Rattle.layout.specs.Among.{IsAmong}
use Rattle.layout.specs.declared.lines.Layout.{Layout}
use Rattle.layout.specs.declared.ways.Attachment.{Attachment}
use Rattle.layout.specs.declared.ways.Attachment.TheVariants.{Station}
use Rattle.layout.specs.declared.ways.Way.{Way}
use Rattle.layout.specs.declared.ways.Way.TheVariants as way
use Rattle.layout.specs.Paths.{IsStep, IsWalk, other_way, step_length, walk_length}
use Rattle.path_checker.specs.Far.{IsStop}
use Rattle.path_checker.specs.declared.stops.Stop.{Stop}
use Rattle.frame_table.specs.Ways.{entries_on, entry_by}
use Rattle.frame_table.specs.declared.routes.Led.{Led}

-- the way of the step after a walk over these taps that begins by this way
abbrev pub way_after : Way → List Attachment → Way
way_after w [] = w
way_after w (t ∷ ts) = way_after (other_way w) ts

-- the layout has the tap to which a way leads
abbrev pub StandsThere : Layout → Led → Type 0
StandsThere l led = IsStop l led.stop

-- a walk from station a leads there, is so long and enters repeaters so, and its next step is by this way
pub record IsLed (l : Layout) (a : ℕ) (w : Way) (led : Led) : Type 0 where
  pub stands : IsStop l led.stop
  pub taps : List Attachment
  pub leads : IsWalk l way.Cable (Station a) taps led.stop.tap
  pub next : way_after way.Cable taps ≡ w
  pub long : walk_length l way.Cable (Station a) taps ≡ led.length
  pub met : entries_on l way.Cable (Station a) taps 0 ≡ led.entries

-- with a further step to a tap
abbrev pub gone_on : Layout → Way → Led → Stop → Led
gone_on l w from to =
    record {
      stop = to;
      length = from.length + step_length l w from.stop.tap to.tap;
      entries = from.entries ++ entry_by w from.stop.tap from.length;
    }

-- a way from station a to station b
pub record IsRoute (l : Layout) (a b : ℕ) (led : Led) : Type 0 where
  pub to : led.stop.tap ≡ Station b
  pub is : IsLed l a way.Repeater led

-- each way that is there leads from station a to the station that has its place
abbrev pub AreLed : Layout → ℕ → List (Option Led) → Type 0
AreLed l a routes =
    (b : ℕ) (d : Option Led) → b < length routes → IfSome (slice_index_or routes b d) (IsRoute l a b)

-- a way to station b is there
abbrev pub IsFound : List (Option Led) → ℕ → Type 0
IsFound routes b = is_some (slice_index_or routes b None) ≡ true

-- one of these ways leads to tap q
pub record HasCome (ways : List Led) (q : Attachment) : Type 0 where
  pub led : Led
  pub among : IsAmong led ways
  pub to : led.stop.tap ≡ q

-- nothing is left out where a step along a cable has come to tap p: the way to the station that stands there is found,
-- if it is one of the first so many, and one of these ways leads to each tap that a repeater joins to p
pub record IsSearched
    (l : Layout) (count : ℕ) (routes : List (Option Led)) (ways : List Led) (p : Attachment) :
    Type 0 where
  pub station : (b : ℕ) → p ≡ Station b → b < count → IsFound routes b
  pub behind : (q : Attachment) → IsStep l way.Repeater p q → HasCome ways q
