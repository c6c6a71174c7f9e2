-- An example of what lines say of half bits below 1, where a window has 20 half bits: of a station that emits Idle in
-- half bit 0, and of a port 30 half bits away whose repeater has a delay of 25.
use Rattle.std.proofs.Common.{◌≡◌, ℕ, zero, suc, ◌+◌, ◌-◌, ◌<◌, ◌≤◌, List, [], ◌∷◌, get_or, refl, sym, ap, ◌∙◌, arith}
use Rattle.std.proofs.lemmas.Bool.{false≢true}
use Rattle.manchester_line.specs.declared.Sym.TheVariants.{Idle, Hi}
use Rattle.manchester_line.specs.Line.{is_signal}
use Rattle.mac_parameters.specs.Distances.{distance}
use Rattle.load_plan.specs.declared.plan.Plan.{Plan}
use Rattle.network.specs.Times.{emitted}
use Rattle.net_parts.specs.SegmentParts.{Wiring}
use Rattle.tap_lines.specs.TapLines.{TapLine, class_on, no_line, symbol_on}
use Rattle.segment_engine.specs.KnownLines.{KnowLines}

abbrev wired : Wiring
wired = record { stations = 0 ∷ []; edges = 0 ∷ []; delays = 25 ∷ []; positions = 0 ∷ 30 ∷ [] }

abbrev new_line : ℕ → ℕ → ℕ → TapLine
new_line at delay backlog = record { at = at; delay = delay; backlog = backlog; base = 0; symbols = []; room = backlog + 20 }

-- nothing stands on them yet
abbrev lines : List TapLine
lines = new_line 0 20 30 ∷ new_line 30 25 35 ∷ []

station_delay : (r : ℕ) → r < 1 → (get_or lines r no_line).delay ≡ 20
station_delay zero h = refl
station_delay (suc r) h = absurd (omega (arith, h))

port_delay : (p : ℕ) → p < 1 → (get_or lines (1 + p) no_line).delay ≡ get_or (25 ∷ []) p 0
port_delay zero h = refl
port_delay (suc p) h = absurd (omega (arith, h))

both_begin : (r : ℕ) → r < 2 → (get_or lines r no_line).base ≤ 1 - (get_or lines r no_line).backlog
both_begin zero h = omega arith
both_begin (suc zero) h = omega arith
both_begin (suc (suc r)) h = absurd (omega (arith, h))

both_near : (p r : ℕ) → p < 2 → r < 2 →
    distance (get_or wired.positions p 0) (get_or wired.positions r 0) + (get_or lines r no_line).delay - 20
    ≤ (get_or lines r no_line).backlog
both_near zero zero h l = omega arith
both_near zero (suc zero) h l = omega arith
both_near (suc zero) zero h l = omega arith
both_near (suc zero) (suc zero) h l = omega arith
both_near (suc (suc p)) r h l = absurd (omega (arith, h))
both_near p (suc (suc r)) h l = absurd (omega (arith, l))

said_first : (plan : Plan) → emitted plan 0 0 ≡ Idle → (r u : ℕ) → r < 1 → (get_or lines r no_line).base ≤ u → u < 1 →
    symbol_on (get_or lines r no_line) u ≡ emitted plan (get_or wired.stations r 0) u
said_first plan idle zero zero h b l = sym idle
said_first plan idle zero (suc u) h b l = absurd (omega (arith, l))
said_first plan idle (suc r) u h b l = absurd (omega (arith, h))

no_signals : (r u : ℕ) → r < 1 → u < 1 → class_on (get_or lines r no_line) u ≡ is_signal (symbol_on (get_or lines r no_line) u)
no_signals zero zero h l = refl
no_signals zero (suc u) h l = absurd (omega (arith, l))
no_signals (suc r) u h l = absurd (omega (arith, h))

pub know_idle : (plan : Plan) → emitted plan 0 0 ≡ Idle → KnowLines plan wired 20 1 0 lines
know_idle plan idle = record {
  many = refl;
  places = refl;
  no_delays = station_delay;
  delays = port_delay;
  begins = both_begin;
  near = both_near;
  emissions = said_first plan idle;
  arrivals = λ p u h b l. absurd (omega (arith, l));
  classes = no_signals;
  port_classes = λ p u h l. absurd (omega (arith, l));
}

-- of a station that emits a signal they don't say so
pub not_of_a_signal : (plan : Plan) → emitted plan 0 0 ≡ Hi → ¬ KnowLines plan wired 20 1 0 lines
not_of_a_signal plan high know =
    false≢true (ap is_signal (know.emissions 0 0 (omega arith) (omega arith) (omega arith) ∙ high))
