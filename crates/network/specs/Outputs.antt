-- What a run of a plan gives: its rows and captures (profile). Half bits, stations and devices count from 0.
use Rattle.std.specs.Prelude.{ℕ, ◌+◌, ◌*◌, List, [], ◌∷◌, ◌++◌}
use Rattle.mac_parameters.specs.Parameters.{half_bits_a_bit}
use Rattle.collision_log.specs.declared.row.Row.{Row}
use Rattle.load_plan.specs.declared.plan.Plan.{Plan}
use Rattle.mac_transmit.specs.Sender.{Sender, cut_of}
use Rattle.network.specs.declared.outputs.Taken.{Taken}
use Rattle.network.specs.Net.{net}
use Rattle.network.specs.Rows.{row_of}

-- How many half bits a run has, two for each bit of its length.
abbrev pub half_bits : Plan → ℕ
half_bits plan = half_bits_a_bit * plan.layout.until_bits

-- The rows at the end t of a run, of the stations from k on whose sending is under way.
abbrev pub cut_rows : ℕ → ℕ → List Sender → List Row
cut_rows t k [] = []
cut_rows t k (s ∷ ss) = row_of t k (cut_of s) ++ cut_rows t (k + 1) ss

-- The rows of the whole run, in order of t, then device, then the device's own order.
unfoldable pub rows : Plan → List Row
rows plan = (net plan (half_bits plan)).rows ++ cut_rows (half_bits plan) 0 (net plan (half_bits plan)).senders

-- For each station the frames that it received in the run, in order of time, without their frame check sequences.
unfoldable pub captures : Plan → List (List Taken)
captures plan = (net plan (half_bits plan)).captures
