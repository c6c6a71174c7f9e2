-- The taps of a layout in their order are taps of the layout.
use Rattle.std.proofs.Common.{◌≡◌, ℕ, zero, suc, ◌+◌, ◌<◌, ◌≤◌, List, [], ◌∷◌, ◌++◌, map, length, drop, get_or, Some, refl, sym, ap, ap₂, subst, ◌∙◌, arith, append_assoc}
use Rattle.std.specs.List.{AllByRecursion, range_with_len}
use Rattle.std.specs.Prelude.{slice_get, option_map, option_and_then}
use Rattle.std.proofs.lemmas.List.{append-nil, at_drop_more, drop_all}
use Rattle.layout.specs.declared.lines.Layout.{Layout}
use Rattle.layout.specs.declared.lines.RepeaterLine.{RepeaterLine}
use Rattle.layout.specs.declared.ways.Attachment.{Attachment}
use Rattle.layout.specs.declared.ways.Attachment.TheVariants.{Station, Port}
use Rattle.layout.specs.Paths.{IsTap}
use Rattle.layout.specs.Taps.{tap_of}
use Rattle.tap_signals.specs.Taps.{ports_from, taps_in_order}

some_at : {X : Type 0} (xs : List X) (k : ℕ) → k < length xs → (x : X) × (slice_get xs k ≡ Some x)
some_at [] k l = absurd (omega (arith, l))
some_at (x ∷ xs) zero l = (x, refl)
some_at (x ∷ xs) (suc k) l = some_at xs k (omega (arith, l))

all_of_both : {X : Type 0} (P : X → Type 0) (xs ys : List X) → AllByRecursion P xs → AllByRecursion P ys → AllByRecursion P (xs ++ ys)
all_of_both P [] ys h g = g
all_of_both P (x ∷ xs) ys h g = (h.0, all_of_both P xs ys h.1 g)

pub one_of_all : {X : Type 0} (P : X → Type 0) (xs : List X) (k : ℕ) (d : X) → AllByRecursion P xs → k < length xs → P (get_or xs k d)
one_of_all P [] k d h l = absurd (omega (arith, l))
one_of_all P (x ∷ xs) zero d h l = h.0
one_of_all P (x ∷ xs) (suc k) d h l = one_of_all P xs k d h.1 (omega (arith, l))

stations_are : (l : Layout) (a n : ℕ) → a + n ≤ length l.stations → AllByRecursion (IsTap l) (map Station (range_with_len a n))
stations_are l a zero h = tt
stations_are l a (suc n) h =
    let here = some_at l.stations a (omega (arith, h)) in
    ((tap_of here.0, ap (option_map tap_of) here.1), stations_are l (a + 1) n (omega (arith, h)))

ports_are : (l : Layout) (r : ℕ) (x : RepeaterLine) → slice_get l.repeaters r ≡ Some x → (a n : ℕ) → a + n ≤ length x.ports → AllByRecursion (IsTap l) (map (Port r) (range_with_len a n))
ports_are l r x is a zero h = tt
ports_are l r x is a (suc n) h =
    let here = some_at x.ports a (omega (arith, h)) in
    ((here.0, ap (option_and_then (λ (row : RepeaterLine). slice_get row.ports a)) is ∙ here.1), ports_are l r x is (a + 1) n (omega (arith, h)))

all_ports_are : (l : Layout) (r : ℕ) (xs : List RepeaterLine) → ((j i : ℕ) (y : RepeaterLine) → i ≡ r + j → slice_get xs j ≡ Some y → slice_get l.repeaters i ≡ Some y) → AllByRecursion (IsTap l) (ports_from r xs)
all_ports_are l r [] h = tt
all_ports_are l r (x ∷ xs) h =
    all_of_both (IsTap l) (map (Port r) (range_with_len 0 (length x.ports))) (ports_from (r + 1) xs)
    (ports_are l r x (h 0 r x (omega arith) refl) 0 (length x.ports) (omega arith))
    (all_ports_are l (r + 1) xs (λ j i y e is. h (suc j) i y (omega (arith, e)) is))

pub taps_are : (l : Layout) → AllByRecursion (IsTap l) (taps_in_order l)
taps_are l =
    all_of_both (IsTap l) (map Station (range_with_len 0 (length l.stations))) (ports_from 0 l.repeaters) (stations_are l 0 (length l.stations) (omega arith))
    (all_ports_are l 0 l.repeaters (λ j i y e is. let same : j ≡ i = omega (arith, e) in subst (λ m. slice_get l.repeaters m ≡ Some y) same is))

-- the taps in their order, as they are put into a list
pub all_stations : (l : Layout) (n : ℕ) (rs : List RepeaterLine) (taps : List Attachment) → n ≡ length l.stations → rs ≡ l.repeaters → taps ≡ map Station (range_with_len 0 n)
    → taps ++ ports_from 0 rs ≡ taps_in_order l
all_stations l n rs taps many repeaters is = ap₂ (λ (xs ys : List Attachment). xs ++ ys) (is ∙ ap (λ m. map Station (range_with_len 0 m)) many) (ap (ports_from 0) repeaters)

pub ports_more : (l : Layout) (rs : List RepeaterLine) (r : ℕ) (d : RepeaterLine) (taps more : List Attachment) (n : ℕ) → r < length rs → n ≡ length (get_or rs r d).ports
    → more ≡ taps ++ map (Port r) (range_with_len 0 n) → taps ++ ports_from r (drop r rs) ≡ taps_in_order l → more ++ ports_from (r + 1) (drop (r + 1) rs) ≡ taps_in_order l
ports_more l rs r d taps more n lt many is all =
    ap (λ (xs : List Attachment). xs ++ ports_from (r + 1) (drop (r + 1) rs)) (is ∙ ap (λ m. taps ++ map (Port r) (range_with_len 0 m)) many)
    ∙ append_assoc taps (map (Port r) (range_with_len 0 (length (get_or rs r d).ports))) (ports_from (r + 1) (drop (r + 1) rs))
    ∙ sym (ap (λ (xs : List Attachment). taps ++ xs) (at_drop_more (ports_from r) rs r d lt)) ∙ all

pub no_more_ports : (l : Layout) (rs : List RepeaterLine) (r : ℕ) (taps : List Attachment) → length rs ≤ r → taps ++ ports_from r (drop r rs) ≡ taps_in_order l → taps ≡ taps_in_order l
no_more_ports l rs r taps over all =
    let none : drop r rs ≡ [] = drop_all r rs over in
    sym (append-nil taps) ∙ sym (ap (λ (xs : List RepeaterLine). taps ++ ports_from r xs) none) ∙ all
