-- An example of half bits that are put aside: a repeater of two ports with a delay of one half bit, which repeats its
-- first port past the start frame delimiter, before half bit 900.
use Rattle.std.proofs.Common.{◌≡◌, ℕ, zero, suc, ◌<◌, true, false, List, [], ◌∷◌, map, replicate, get_or, refl, sym, ap, arith}
use Rattle.std.proofs.lemmas.Bool.{false≢true}
use Rattle.std.specs.Fn.{iterate}
use Rattle.manchester_line.specs.declared.Sym.{Sym}
use Rattle.manchester_line.specs.declared.Sym.TheVariants as sym
use Rattle.manchester_line.specs.Line.{is_signal}
use Rattle.port_partition.specs.Guard.{new_guard}
use Rattle.repeater_core.specs.declared.modes.Mode.TheVariants.{Repeat}
use Rattle.repeater_core.specs.Counts.{resting_count}
use Rattle.repeater_core.specs.Step.{RepeaterDevice, mode_next, chosen, after, emitted_by, decided_by}
use Rattle.repeater_core.specs.Steady.{IsSteadyStep}
use Rattle.net_parts.specs.declared.parcel.Parcel.{Parcel}
use Rattle.repeater_engine.specs.KeptRepeaters.{KeptRepeater}
use Rattle.repeater_engine.specs.PutAside.{state_later, GoesOnSteadily, IsPutAside}

abbrev levels : List Sym
levels = sym.Hi ∷ sym.Idle ∷ []

abbrev repeating : RepeaterDevice
repeating = record {
  mode = Repeat 0 150;
  guards = replicate 2 new_guard;
  counts = resting_count 0 ∷ record { run = 151; rest = 0; after_rest = false } ∷ [];
  line = record { ports = 2; delay = 1; rows = sym.Idle ∷ sym.Hi ∷ [] };
}

abbrev kept : KeptRepeater
kept = record {
  device = 4;
  state = record { t = 900; repeater = repeating; rows = [] };
  room = 0;
  heard = levels;
  steady = 2;
  decided = sym.Idle ∷ sym.Hi ∷ [];
}

abbrev brings : Sym → Parcel
brings s = record { edge = 0; window = 0; to_repeater = true; symbols = s ∷ []; spoiled = false }

still : (k : ℕ) → k < 2 → IsSteadyStep levels (map is_signal (emitted_by repeating)) (map is_signal (decided_by levels repeating)) (iterate (after levels) k repeating)
unfolding chosen mode_next
still zero h = record { mode = refl; emits = refl; decides = refl; none_closes = refl; none_opens = refl; none_halted = refl }
still (suc zero) h = record { mode = refl; emits = refl; decides = refl; none_closes = refl; none_opens = refl; none_halted = refl }
still (suc (suc k)) h = absurd (omega (arith, h))

-- a half bit is put aside in which the first port heard the other level
pub one_aside : IsPutAside kept (sym.Lo ∷ [])
one_aside = record { repeats = (omega arith, omega arith); source = (refl, tt) }

-- one half bit later it stands, and has no more rows
pub no_rows_later : (state_later levels (sym.Lo ∷ []) kept.state).rows ≡ []
no_rows_later = refl

-- a window of one half bit more may be, in which the first port hears a level and the second nothing
pub goes_on : GoesOnSteadily 1 0 1 (brings sym.Lo ∷ brings sym.Idle ∷ []) kept
goes_on = record { within = omega arith; steady = still; repeats = (omega arith, omega arith); alike = (refl, tt) }

-- but not where the second hears one as well
pub collides : ¬ GoesOnSteadily 1 0 1 (brings sym.Lo ∷ brings sym.Hi ∷ []) kept
collides g = false≢true (ap (λ xs. is_signal (get_or xs 1 sym.Idle)) (sym g.alike.0))
