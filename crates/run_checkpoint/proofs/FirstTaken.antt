-- The first frame of a station is taken away.
use Rattle.std.proofs.Common.{◌≡◌, ℕ, ◌<◌, List, drop, length, map, set, get_or, slice_get, Some, ap, ◌∙◌, refl}
use Rattle.std.specs.Option.{option_map}
use Rattle.std.proofs.lemmas.List.{map-set}
use Rattle.std.proofs.lemmas.Option.{slice_get-get_or, slice_get-map}
use denote.Ref.{Bor}
use Rattle.network.specs.declared.outputs.Taken.{Taken}
use Rattle.run_checkpoint.specs.Entries.{after_first}

pub first_taken : (ws : List (Bor (List Taken))) (k : ℕ) (v d : Bor (List Taken)) → k < length ws → v.now ≡ drop 1 (get_or ws k d).now
    → map (λ taken. taken.now) (set ws k v) ≡ set (map (λ taken. taken.now) ws) k (after_first (slice_get (map (λ taken. taken.now) ws) k))
first_taken ws k v d lt is =
    let now : Bor (List Taken) → List Taken = λ taken. taken.now in
    let at : slice_get (map now ws) k ≡ Some (get_or ws k d).now = slice_get-map now ws k ∙ ap (option_map now) (slice_get-get_or ws k d lt) in
    map-set now ws k v ∙ rw (at, is) refl
