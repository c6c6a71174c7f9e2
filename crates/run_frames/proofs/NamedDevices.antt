-- The line of a row names the row's device.
use Rattle.std.proofs.Common.{◌≡◌, ◌≢◌, ℕ, zero, suc, ◌+◌, ◌<◌, false, cond, leb, Some, List, [], ◌∷◌, length, get_or, refl, ap, ◌∙◌, inl, inr, arith}
use Rattle.std.specs.List.{AllPairs, position_from}
use Rattle.std.specs.Str.{bytes_eq}
use Rattle.std.proofs.lemmas.Bool.{cases_lt, false_from_ne_true, le-leb, lt-leb, lt-ltb}
use Rattle.std.proofs.lemmas.Option.{unwrap_or-slice_get}
use Rattle.std.proofs.lemmas.Slice.Eq.{bytes_eq-Decides}
use Rattle.collision_log.specs.declared.row.Row.{Row}
use Rattle.layout.specs.Sound.{IsSound, device_names}
use Rattle.layout.specs.declared.lines.Layout.{Layout}
use Rattle.log_meter.specs.LoggedRows.{IsLoggable, logged_line}
use Rattle.frame_table.specs.Devices.{device_named, of_kind, place_of_name}

-- the first of different names that is name k is that name itself
first_place : (names : List (List ℕ)) (i k m : ℕ) (d : List ℕ) → AllPairs (λ a b. a ≢ b) names → k < length names → m ≡ i + k → position_from (λ n. bytes_eq n (get_or names k d)) i names ≡ Some m
first_place [] i k m d differ lt at = absurd (omega (arith, lt))
first_place (x ∷ xs) i zero m d differ lt at =
    let same : i ≡ m = omega (arith, at) in
    ap (λ b. cond b (Some i) (position_from (λ n. bytes_eq n x) (i + 1) xs)) ((bytes_eq-Decides x x).1 refl) ∙ ap Some same
first_place (x ∷ xs) i (suc k) m d differ lt at =
    let name : List ℕ = get_or xs k d in
    let other : bytes_eq x name ≡ false = false_from_ne_true (bytes_eq x name) (λ e. differ 0 (suc k) d (omega arith) lt ((bytes_eq-Decides x name).0 e)) in
    ap (λ b. cond b (Some i) (position_from (λ n. bytes_eq n name) (i + 1) xs)) other
    ∙ first_place xs (i + 1) k m d (λ a b e l w. differ (suc a) (suc b) e (omega (arith, l)) (omega (arith, w))) (omega (arith, lt)) (omega (arith, at))

of_its_kind : (stations k : ℕ) → of_kind stations (leb stations k) (Some k) ≡ Some k
of_its_kind stations k = elim (cases_lt k stations) [
  | inl lt ↦ rw (lt-leb stations k lt, lt-ltb k stations lt) refl
  | inr le ↦ rw (le-leb stations k le) refl
]

-- the device that the line of a row names
pub row_named : (l : Layout) (row : Row) → IsSound l → IsLoggable l row → device_named l (logged_line l row) ≡ Some row.device
row_named l row sound h =
    ap (λ name. of_kind (length l.stations) (leb (length l.stations) row.device) (place_of_name (device_names l) name)) (unwrap_or-slice_get (device_names l) row.device [])
    ∙ ap (of_kind (length l.stations) (leb (length l.stations) row.device)) (first_place (device_names l) 0 row.device row.device [] sound.device_names h.device (omega arith))
    ∙ of_its_kind (length l.stations) row.device
