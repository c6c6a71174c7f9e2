-- Pieces of several half bits in which every station of a segment hears something all the time, or Idle all the
-- time, and nothing happens at any of them (profile). Half bits, segments, taps and places among a segment's
-- stations or edges count from 0.
use Rattle.std.specs.Prelude.{ℕ, suc, ◌≡◌, ◌+◌, ◌-◌, ◌<◌, ◌≤◌, nat_lt, Bool, if◌then◌else◌, length, slice_index}
use Rattle.manchester_line.specs.declared.Sym.{Sym}
use Rattle.manchester_line.specs.Line.{is_signal}
use Rattle.cable_segment.specs.Bus.{heard_at}
use Rattle.load_plan.specs.declared.plan.Plan.{Plan}
use Rattle.mac_transmit.specs.Calm.{calm_of}
use Rattle.mac_transmit.specs.Emissions.{emission_by}
use Rattle.network.specs.Attempts.{sender_at}
use Rattle.network.specs.Times.{heard, emitted, earlier}
use Rattle.net_parts.specs.Windows.{lookahead}
use Rattle.net_parts.specs.SegmentParts.{Wiring, wiring}
use Rattle.net_parts.specs.Standing.{arrives, port_hears}

-- What tap r of a segment emitted `back` half bits before half bit u, where L is the lookahead: a station by its
-- line, a port by what came in for it, both in absolute time (profile).
abbrev pub told_by_lines : Plan → Wiring → ℕ → (ℕ → ℕ → Sym) → ℕ → ℕ → ℕ → Sym
told_by_lines plan w L line u back r =
    if nat_lt r (length w.stations) then earlier (line r) u back
    else (
    let port = r - length w.stations in
    earlier (arrives plan L (slice_index w.edges port)) (suc u) (back + slice_index w.delays port + 1 - L))

-- What tap r hears in half bit u by these lines (profile).
abbrev pub hears_by_lines : Plan → Wiring → ℕ → (ℕ → ℕ → Sym) → ℕ → ℕ → Sym
hears_by_lines plan w L line u r = heard_at (told_by_lines plan w L line u) w.positions r

-- Lines of the stations of a segment, told ahead by m half bits from t on: below t they are what was emitted, and
-- from t on every sending goes on. By these lines station r hears something in each of the m half bits where
-- `carrier r` says so, and else Idle in each, and it is calm for as long (profile).
pub record IsSteadyPiece (plan : Plan) (w : Wiring) (L : ℕ) (line : ℕ → ℕ → Sym)
    (carrier : ℕ → Bool) (t m : ℕ) : Type 0 where
  pub told : (r u : ℕ) → r < length w.stations → u < t → line r u ≡ emitted plan (slice_index w.stations r) u
  pub goes_on : (r j : ℕ) → r < length w.stations → j < m →
      (let s = sender_at plan (slice_index w.stations r) t in line r (t + j) ≡ emission_by s j s.phase)
  pub steady : (r j : ℕ) → r < length w.stations → j < m →
      is_signal (hears_by_lines plan w L line (t + j) r) ≡ carrier r
  pub calm : (r : ℕ) → r < length w.stations → m ≤ calm_of (sender_at plan (slice_index w.stations r) t) (carrier r)

-- What lines say ahead in this way comes true, and so does what stations and ports hear by them (profile).
abbrev pub PiecesComeTrue : Type 0
PiecesComeTrue =
    (plan : Plan) (s t m : ℕ) (line : ℕ → ℕ → Sym) (carrier : ℕ → Bool) →
    let w = wiring plan.layout s in
    let L = lookahead plan.layout in
    let by_lines = hears_by_lines plan w L line in
    IsSteadyPiece plan w L line carrier t m →
    ((r u : ℕ) → r < length w.stations → u < t + m → emitted plan (slice_index w.stations r) u ≡ line r u)
    × ((r j : ℕ) → r < length w.stations → j < m →
    heard plan (slice_index w.stations r) (t + j) ≡ by_lines (t + j) r)
    × ((p j : ℕ) → p < length w.edges → j < m →
    port_hears plan (slice_index w.edges p) (t + j) ≡ by_lines (t + j) (length w.stations + p))
