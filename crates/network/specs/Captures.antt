-- What stations capture of what they receive (profile).
use Rattle.std.specs.Prelude.{ℕ, ◌-◌, List, [], ◌∷◌, ◌++◌, length, take, Option, Some}
use Rattle.mac_parameters.specs.Parameters.{check_sequence}
use Rattle.collision_log.specs.declared.row.Body.{Body}
use Rattle.collision_log.specs.declared.row.Body.TheVariants.{Received}
use Rattle.network.specs.declared.outputs.Taken.{Taken}

-- What a station captures of a reception that ends at half bit t, counted from 0: a frame that it received, without its
-- frame check sequence (3.2.9), and nothing of anything else.
abbrev pub taken_by : ℕ → Option Body → List ℕ → List Taken
taken_by t (Some (Received n)) octets = record { t = t; octets = take (length octets - check_sequence) octets } ∷ []
taken_by t _ octets = []

-- The captures of all stations after half bit t, by the event of each receiver and the octets that it read: what each
-- captures comes to the end of what it had.
abbrev pub captured : ℕ → List (Option Body) → List (List ℕ) → List (List Taken) → List (List Taken)
captured t (e ∷ es) (o ∷ os) (c ∷ cs) = (c ++ taken_by t e o) ∷ captured t es os cs
captured t _ _ _ = []
