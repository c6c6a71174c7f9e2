-- The network in absolute time (profile). Half bits and taps count from 0; the stations' taps come first, then those of
-- the ports.
use Rattle.std.specs.Prelude.{ℕ, ◌-◌, nat_le, if◌then◌else◌, List, flat_map, length, replicate, slice_index_or}
use Rattle.manchester_line.specs.declared.Sym.{Sym}
use Rattle.manchester_line.specs.declared.Sym.TheVariants.{Idle}
use Rattle.layout.specs.declared.lines.Layout.{Layout}
use Rattle.load_plan.specs.declared.plan.Plan.{Plan}
use Rattle.network.specs.Net.{net, heard_in, emitted_in, decided_in}

-- What tap q hears in half bit u.
abbrev pub heard : Plan → ℕ → ℕ → Sym
heard plan q u = slice_index_or (heard_in (net plan u)) q Idle

-- What tap q emits in half bit u.
abbrev pub emitted : Plan → ℕ → ℕ → Sym
emitted plan q u = slice_index_or (emitted_in (net plan u)) q Idle

-- What is decided in half bit u for port e of all ports, counted from 0.
abbrev pub decided : Plan → ℕ → ℕ → Sym
decided plan e u = slice_index_or (decided_in (net plan u)) e Idle

-- What f says of the half bit that is `back` half bits before half bit t, and Idle where that is before half bit 0.
abbrev pub earlier : (ℕ → Sym) → ℕ → ℕ → Sym
earlier f t back = if nat_le back t then f (t - back) else Idle

-- The delay of each port of all in half bits, which is that of its repeater.
abbrev pub port_delays : Layout → List ℕ
port_delays l = flat_map (λ r. replicate (length r.ports) r.delay) l.repeaters
