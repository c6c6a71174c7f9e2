-- A walk comes to each tap at most once, and a sound layout has at most 5,120 taps.
use Rattle.std.proofs.Common.{◌≡◌, ◌≢◌, refl, ap, subst, inl, inr, ℕ, zero, suc, ◌+◌, ◌*◌, ◌<◌, ◌≤◌, List, [], ◌∷◌, map, length, Some, slice_get, arith}
use Rattle.std.proofs.lemmas.Bool.{cases_eq}
use Rattle.std.proofs.lemmas.List.{length-map}
use Rattle.std.proofs.lemmas.Option.{slice_get_within}
use Rattle.layout.specs.Limits.{most_stations, most_repeaters}
use Rattle.layout.specs.declared.lines.Layout.{Layout}
use Rattle.layout.specs.declared.lines.StationLine.{StationLine}
use Rattle.layout.specs.declared.ways.Attachment.{Attachment}
use Rattle.layout.specs.declared.ways.Attachment.TheVariants.{Station, Port}
use Rattle.layout.specs.declared.ways.Way.{Way}
use Rattle.layout.specs.Paths.{IsTap, other_way, IsWalk}
use Rattle.layout.specs.Taps.{tap_of}
use Rattle.layout.specs.Sound.{IsSound, IsSoundRepeater}
use Rattle.layout.proofs.Cuts.{Avoids, leaves, mapped, has_part}
use Rattle.layout.proofs.Sides.{IsPortOf, port_of}
use Rattle.layout.proofs.SoundTaps.{sound_repeater, sound_cuts}
use Rattle.path_checker.specs.Far.{HasRoom}

-- none of these numbers is n
abbrev Lacks : ℕ → List ℕ → Type 0
Lacks n [] = Unit {0}
Lacks n (x ∷ xs) = (x ≢ n) × Lacks n xs

abbrev AreApart : List ℕ → Type 0
AreApart [] = Unit {0}
AreApart (x ∷ xs) = Lacks x xs × AreApart xs

abbrev AreBelow : ℕ → List ℕ → Type 0
AreBelow n [] = Unit {0}
AreBelow n (x ∷ xs) = (x < n) × AreBelow n xs

-- these numbers but for n, of which one may be
record IsWithout (n : ℕ) (xs ys : List ℕ) : Type 0 where
  apart : AreApart ys
  below : AreBelow n ys
  most : length xs ≤ suc (length ys)
  lacking : (m : ℕ) → Lacks m xs → Lacks m ys
  whole : Lacks n xs → length xs ≡ length ys

less_below : (n : ℕ) (xs : List ℕ) → AreBelow (suc n) xs → Lacks n xs → AreBelow n xs
less_below n [] below lacks = tt
less_below n (x ∷ xs) below lacks =
    let low : x < suc n = below.0 in
    let ne : x ≢ n = lacks.0 in
    (omega arith, less_below n xs below.1 lacks.1)

without : (n : ℕ) (xs : List ℕ) → AreApart xs → AreBelow (suc n) xs → (ys : List ℕ) × IsWithout n xs ys
without n [] apart below = ([], record { apart = tt; below = tt; most = omega arith; lacking = λ m h. h; whole = λ h. refl })
without n (x ∷ xs) apart below =
    let rest : (ys : List ℕ) × IsWithout n xs ys = without n xs apart.1 below.1 in
    elim (cases_eq x n) [
      | inl same ↦
          let none : Lacks n xs = subst (λ (m : ℕ). Lacks m xs) same apart.0 in (
            xs,
            record {
              apart = apart.1;
              below = less_below n xs below.1 none;
              most = omega arith;
              lacking = λ m h. h.1;
              whole = λ h. absurd (h.0 same);
            },
          )
      | inr unlike ↦
          let low : x < suc n = below.0 in
          let most : length xs ≤ suc (length rest.0) = rest.1.most in (
            x ∷ rest.0,
            record {
              apart = (rest.1.lacking x apart.0, rest.1.apart);
              below = (omega arith, rest.1.below);
              most = omega arith;
              lacking = λ m h. (h.0, rest.1.lacking m h.1);
              whole = λ h. ap (λ (k : ℕ). suc k) (rest.1.whole h.1);
            },
          )
    ]

-- there are at most n different numbers below n
few : (n : ℕ) (xs : List ℕ) → AreApart xs → AreBelow n xs → length xs ≤ n
few zero [] apart below = omega arith
few zero (x ∷ xs) apart below = absurd (let low : x < 0 = below.0 in omega arith)
few (suc n) xs apart below =
    let rest : (ys : List ℕ) × IsWithout n xs ys = without n xs apart below in
    let low : length rest.0 ≤ n = few n rest.0 rest.1.apart rest.1.below in
    let most : length xs ≤ suc (length rest.0) = rest.1.most in
    omega arith

-- a number for each tap of a sound layout
abbrev number_of : Attachment → ℕ
number_of (Station k) = k
number_of (Port r p) = most_stations + 32 * r + p

-- a tap whose numbers are in range
abbrev pub IsLow : Attachment → Type 0
IsLow (Station k) = k < most_stations
IsLow (Port r p) = (r < most_repeaters) × (p < 32)

low_number : (t : Attachment) → IsLow t → number_of t < 5120
low_number (Station k) low = omega arith
low_number (Port r p) low = let a : r < most_repeaters = low.0 in let b : p < 32 = low.1 in omega arith

pub sound_low : (l : Layout) → IsSound l → (t : Attachment) → IsTap l t → IsLow t
sound_low l sound (Station k) is =
    let found : (s : StationLine) × (slice_get l.stations k ≡ Some s) = mapped tap_of (slice_get l.stations k) is.0 is.1 in
    let low : k < length l.stations = slice_get_within l.stations k found.0 found.1 in
    let most : length l.stations ≤ most_stations = sound.stations_most in
    omega arith
sound_low l sound (Port r p) is =
    let found : IsPortOf l.repeaters r p is.0 = port_of l r p is.0 is.1 in
    let row : IsSoundRepeater (length l.segments) found.row = sound_repeater l sound r found.row found.of_row in
    let low : r < length l.repeaters = slice_get_within l.repeaters r found.row found.of_row in
    let port : p < length found.row.ports = slice_get_within found.row.ports p is.0 found.of_port in
    let most : length l.repeaters ≤ most_repeaters = sound.repeaters_most in
    let ports : length found.row.ports ≤ 32 = row.ports_most in
    (omega arith, omega arith)

same_number : (a b : Attachment) → IsLow a → IsLow b → number_of a ≡ number_of b → a ≡ b
same_number (Station k) (Station j) x y e = ap (λ (n : ℕ). Station n) e
same_number (Station k) (Port s q) x y e = absurd (let z : q < 32 = y.1 in omega arith)
same_number (Port r p) (Station j) x y e = absurd (let z : p < 32 = x.1 in omega arith)
same_number (Port r p) (Port s q) x y e =
    let a : p < 32 = x.1 in
    let b : q < 32 = y.1 in
    let same : r ≡ s = omega arith in
    let also : p ≡ q = omega arith in
    let done : Port r p ≡ Port s q = cc in
    done

abbrev AreLow : List Attachment → Type 0
AreLow [] = Unit {0}
AreLow (t ∷ ts) = IsLow t × AreLow ts

abbrev numbers : List Attachment → List ℕ
numbers ts = map number_of ts

numbers_lack : (a : Attachment) (ts : List Attachment) → IsLow a → AreLow ts → Avoids a ts → Lacks (number_of a) (numbers ts)
numbers_lack a [] x low avoids = tt
numbers_lack a (t ∷ ts) x low avoids = (λ e. avoids.0 (same_number t a low.0 x e), numbers_lack a ts x low.1 avoids.1)

numbers_below : (ts : List Attachment) → AreLow ts → AreBelow 5120 (numbers ts)
numbers_below [] low = tt
numbers_below (t ∷ ts) low = (low_number t low.0, numbers_below ts low.1)

walk_low_taps : (l : Layout) → IsSound l → (w : Way) (a : Attachment) (ts : List Attachment) (b : Attachment) → IsWalk l w a ts b → AreLow ts
walk_low_taps l sound w a [] b walk = tt
walk_low_taps l sound w a (t ∷ ts) b walk = (sound_low l sound t (has_part l w t walk.0.part walk.0.to), walk_low_taps l sound (other_way w) t ts b walk.1)

walk_apart : (l : Layout) → IsSound l → (w : Way) (a : Attachment) (ts : List Attachment) (b : Attachment) → IsWalk l w a ts b → AreApart (numbers ts)
walk_apart l sound w a [] b walk = tt
walk_apart l sound w a (t ∷ ts) b walk =
    let tap : IsTap l t = has_part l w t walk.0.part walk.0.to in
    let low : AreLow ts = walk_low_taps l sound (other_way w) t ts b walk.1 in
    let off : Avoids t ts = leaves l (sound_cuts l sound) (other_way w) t ts b tap walk.1 in
    (numbers_lack t ts (sound_low l sound t tap) low off, walk_apart l sound (other_way w) t ts b walk.1)

pub walk_short : (l : Layout) → IsSound l → (w : Way) (a : Attachment) (ts : List Attachment) (b : Attachment) → IsWalk l w a ts b → length ts ≤ 5120
walk_short l sound w a ts b walk =
    let most : length (numbers ts) ≤ 5120 = few 5120 (numbers ts) (walk_apart l sound w a ts b walk) (numbers_below ts (walk_low_taps l sound w a ts b walk)) in
    rw length-map at most

pub has_room : (l : Layout) → IsSound l → (w : Way) (a : Attachment) → HasRoom l w a 5120
has_room l sound w a = record { most = λ ts b walk. walk_short l sound w a ts b walk }
