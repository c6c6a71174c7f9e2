-- Captures of one station beside those of others.
use Rattle.std.proofs.Common.{◌≡◌, ℕ, zero, suc, ◌<◌, List, [], ◌∷◌, ◌++◌, length, ap, arith, append-nil}
use Rattle.std.specs.Prelude.{slice_index_or}
use Rattle.std.proofs.lemmas.List.{length-set}
use Rattle.network.specs.declared.outputs.Taken.{Taken}
use Rattle.window_room.specs.Rooms.{captures_with}

pub same_captures : (k : ℕ) (cs : List (List Taken)) → k < length cs → captures_with k [] cs ≡ cs
same_captures k [] l = absurd (omega (arith, l))
same_captures zero (c ∷ cs) l = ap (λ x. x ∷ cs) (append-nil c)
same_captures (suc k) (c ∷ cs) l = ap (λ x. c ∷ x) (same_captures k cs (omega (arith, l)))

pub length_with : (k : ℕ) (xs : List Taken) (cs : List (List Taken)) → length (captures_with k xs cs) ≡ length cs
length_with k xs cs = length-set cs k (slice_index_or cs k [] ++ xs)
