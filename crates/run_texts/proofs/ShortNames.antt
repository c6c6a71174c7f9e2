-- The names of the devices of a sound layout are short.
use Rattle.std.proofs.Common.{inl, inr, ℕ, ◌<◌, ◌≤◌, List, [], map, length, get_or, All, subst, lit≤, Bor}
use Rattle.std.proofs.lemmas.List.{get_or-map, length-map}
use Rattle.std.specs.Prelude.{slice_get, unwrap_or}
use Rattle.std.proofs.lemmas.List.Elements.{All-map, All-append}
use Rattle.std.proofs.lemmas.Option.{slice_get_cases}
use Rattle.layout.specs.Sound.{IsSound, device_names}
use Rattle.layout.specs.declared.lines.Layout.{Layout}

pub short_names : (layout : Layout) → IsSound layout → All (λ name. length name ≤ 32) (device_names layout)
short_names layout sound =
    let P : List ℕ → Type 0 = λ name. length name ≤ 32 in
    All-append P (map (λ s. s.name) layout.stations) (map (λ r. r.name) layout.repeaters)
    (All-map P (λ s. s.name) layout.stations (λ k d lt. (sound.stations k d lt).name.most))
    (All-map P (λ r. r.name) layout.repeaters (λ k d lt. (sound.repeaters k d lt).name.most))

-- a device's name is short where all names are
pub short_name : (names : List (List ℕ)) (k : ℕ) → All (λ name. length name ≤ 32) names → length (unwrap_or (slice_get names k) []) ≤ 32
short_name names k short =
    elim (slice_get_cases names k).1 [
      | inl (x, lt, is, same) ↦ rw is (rw same at (short k x lt))
      | inr (past, none) ↦ rw none (lit≤ tt)
    ]

-- each of the names is short
pub short_at : (names : List (Bor (List ℕ))) (k : ℕ) (d : Bor (List ℕ)) → All (λ name. length name ≤ 32) (map (λ name. name.now) names) → k < length names → length (get_or names k d).now ≤ 32
short_at names k d short lt =
    let name_of : Bor (List ℕ) → List ℕ = λ name. name.now in
    let within : k < length (map name_of names) = rw (length-map names name_of) lt in
    subst (λ name. length name ≤ 32) (get_or-map name_of names k d [] lt) (short k [] within)
