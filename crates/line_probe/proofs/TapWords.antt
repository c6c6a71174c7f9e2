-- When a word is the name of a station, or that of a repeater's port.
use Rattle.std.proofs.Common.{◌≡◌, ◌≢◌, ℕ, ◌+◌, ◌-◌, ◌<◌, ◌≤◌, ◌&&◌, Bool, true, false, List, [], ◌∷◌, ◌++◌, map, length, get_or, refl, sym, ap, ap₂, subst, ◌∙◌, arith, inl, inr, Some, append_assoc}
use Rattle.std.specs.Fmt.{decimal}
use Rattle.std.specs.Option.{option_map}
use Rattle.std.specs.Prelude.{slice_get}
use Rattle.std.specs.Str.{bytes_eq}
use Rattle.std.proofs.lemmas.Bool.{cases_Bool, cases_lt, eq-eqb}
use Rattle.std.proofs.lemmas.List.{append_cancel_left, length-map}
use Rattle.std.proofs.lemmas.Option.{get_or_from_slice_get, same_Some, slice_get-get_or, slice_get-map, slice_get_within}
use Rattle.std.proofs.lemmas.Slice.Eq.{bytes_eq-Decides}
use Rattle.layout.specs.declared.lines.RepeaterLine.{RepeaterLine}
use Rattle.layout.specs.declared.lines.StationLine.{StationLine}
use Rattle.layout.specs.declared.lines.Layout.{Layout}
use Rattle.line_probe.specs.Taps.{IsPortOf, IsPortWord, word_of_port}
use Rattle.line_probe.specs.declared.tap.Tap.{Tap}

abbrev pub station_names : List StationLine → List (List ℕ)
station_names stations = map (λ (s : StationLine). s.name) stations

name_there : (stations : List StationLine) (k : ℕ) (d : StationLine) → k < length stations → slice_get (station_names stations) k ≡ Some (get_or stations k d).name
name_there stations k d lt = slice_get-map (λ (s : StationLine). s.name) stations k ∙ ap (option_map (λ (s : StationLine). s.name)) (slice_get-get_or stations k d lt)

pub name_at : (stations : List StationLine) (k : ℕ) (d : StationLine) (given word : List ℕ) → k < length stations → given ≡ (get_or stations k d).name → bytes_eq given word ≡ true
    → slice_get (station_names stations) k ≡ Some word
name_at stations k d given word lt is same = name_there stations k d lt ∙ ap Some (sym is ∙ (bytes_eq-Decides given word).0 same)

pub other_name_at : (stations : List StationLine) (k : ℕ) (d : StationLine) (given word : List ℕ) → k < length stations → given ≡ (get_or stations k d).name → bytes_eq given word ≡ false
    → slice_get (station_names stations) k ≡ Some word → ⊥
other_name_at stations k d given word lt is other h =
    let e : given ≡ word = is ∙ same_Some _ _ (sym (name_there stations k d lt) ∙ h) in
    cc (sym other, (bytes_eq-Decides given word).1 e)

pub past_names : (stations : List StationLine) (k : ℕ) (word : List ℕ) → length stations ≤ k → slice_get (station_names stations) k ≡ Some word → ⊥
past_names stations k word past h =
    let within : k < length (station_names stations) = slice_get_within (station_names stations) k word h in
    omega (arith, within, length-map stations (λ (s : StationLine). s.name), past)

-- ---- the words of ports

differ : (xs ys : List ℕ) → (xs ≡ ys → ⊥) → false ≡ bytes_eq xs ys
differ xs ys apart =
    elim (cases_Bool (bytes_eq xs ys)) [
      | inl same ↦ absurd (apart ((bytes_eq-Decides xs ys).0 same))
      | inr other ↦ sym other
    ]

-- a word by its parts
parts : (name : List ℕ) (number : ℕ) → word_of_port name number ≡ name ++ (58 ∷ decimal number)
parts name number = append_assoc name (58 ∷ []) (decimal number)

pub no_name : (word name given : List ℕ) (number : ℕ) → given ≡ name → ((rest : List ℕ) → word ≢ given ++ rest) → false ≡ bytes_eq word (word_of_port name number)
no_name word name given number is none =
    differ word (word_of_port name number) (λ e. none (58 ∷ decimal number) (e ∙ parts name number ∙ ap (λ xs. xs ++ (58 ∷ decimal number)) (sym is)))

pub no_colon : (word name given rest : List ℕ) (number : ℕ) → given ≡ name → word ≡ given ++ rest → ((more : List ℕ) → rest ≢ (58 ∷ []) ++ more) → false ≡ bytes_eq word (word_of_port name number)
no_colon word name given rest number is begins none =
    differ word (word_of_port name number)
    (λ e. none (decimal number) (append_cancel_left name rest (58 ∷ decimal number) (ap (λ xs. xs ++ rest) (sym is) ∙ sym begins ∙ e ∙ parts name number)))

bytes_front : (xs a b : List ℕ) → bytes_eq (xs ++ a) (xs ++ b) ≡ bytes_eq a b
bytes_front [] a b = refl
bytes_front (x ∷ xs) a b = ap (λ t. t && bytes_eq (xs ++ a) (xs ++ b)) (eq-eqb x x refl) ∙ bytes_front xs a b

pub numbers_compared : (word name given rest more digits : List ℕ) (number : ℕ) (r : Bool) → given ≡ name → word ≡ given ++ rest → rest ≡ (58 ∷ []) ++ more → digits ≡ decimal number → r ≡ bytes_eq more digits
    → r ≡ bytes_eq word (word_of_port name number)
numbers_compared word name given rest more digits number r is begins colon digits_are compared =
    let left : word ≡ name ++ (58 ∷ more) = begins ∙ ap₂ (λ xs ys. xs ++ ys) is colon in
    compared ∙ ap (bytes_eq more) digits_are ∙ sym (bytes_front (name ++ 58 ∷ []) more (decimal number))
    ∙ ap (λ xs. bytes_eq xs (word_of_port name number)) (append_assoc name (58 ∷ []) more ∙ sym left)

-- ---- the repeaters so far

pub none_so_far : (l : Layout) (word : List ℕ) (r : ℕ) (d : RepeaterLine) → ((tap : Tap) → tap.device < length l.stations + r → IsPortWord l word tap → ⊥)
    → ((port : ℕ) → IsPortOf (get_or l.repeaters r d) port word → ⊥) → (tap : Tap) → tap.device < length l.stations + (r + 1) → IsPortWord l word tap → ⊥
none_so_far l word r d before here tap lt h =
    elim (cases_lt tap.device (length l.stations + r)) [
      | inl old ↦ before tap old h
      | inr now ↦
          let at : tap.device - length l.stations ≡ r = omega arith in
          let is : get_or l.repeaters r d ≡ h.repeater = get_or_from_slice_get l.repeaters r h.repeater d (ap (slice_get l.repeaters) (sym at) ∙ h.device) in
          here tap.port (subst (λ (x : RepeaterLine). IsPortOf x tap.port word) (sym is) h.port_of)
    ]

pub none_at_all : (l : Layout) (word : List ℕ) (r : ℕ) → length l.repeaters ≤ r → ((tap : Tap) → tap.device < length l.stations + r → IsPortWord l word tap → ⊥) → (tap : Tap) → IsPortWord l word tap → ⊥
none_at_all l word r all none tap h =
    let within : tap.device - length l.stations < length l.repeaters = slice_get_within l.repeaters (tap.device - length l.stations) h.repeater h.device in
    none tap (omega (arith, within, h.after_stations, all)) h
