-- No two taps of demo share a place.
use Rattle.std.proofs.Common.{◌≡◌, ◌≢◌, ℕ, zero, suc, ◌+◌, ◌-◌, ◌*◌, ◌/◌, ◌%◌, ◌==◌, ◌<◌, ◌≤◌, All, List, [], ◌∷◌, ◌++◌, map, flat_map, if◌then◌else◌, slice_index_or, refl, ap, arith}
use Rattle.std.specs.List.{range_with_len}
use Rattle.std.proofs.lemmas.List.Elements.{All-nil, All-cons, All-map}
use Rattle.std.proofs.lemmas.List.Kept.{AllPairs-cons}
use Rattle.layout.specs.declared.lines.PortLine.{PortLine}
use Rattle.layout.specs.declared.lines.RepeaterLine.{RepeaterLine}
use Rattle.layout.specs.Sound.{AreDifferent}
use Rattle.layout.specs.Taps.{tap_of}
use Rattle.demo_layout.specs.Demo.{demo_station, demo_port_in, demo_port_out, demo_repeater}
use Rattle.demo_layout.proofs.DifferentItems.{all_in_range, all_mapped, all_of_pieces, different_by, different_both}

place_of : (m : ℕ) → m < 4 → slice_index_or (10 ∷ 20 ∷ 30 ∷ 50 ∷ []) m 0 ≡ 10 * (m + 1) + 10 * (m / 3)
place_of zero low = refl
place_of (suc zero) low = refl
place_of (suc (suc zero)) low = refl
place_of (suc (suc (suc zero))) low = refl
place_of (suc (suc (suc (suc m)))) low = absurd (omega arith)

pub station_at : (s : ℕ) → (demo_station s).at ≡ 10 * (s % 4 + 1) + 10 * (s % 4 / 3)
station_at s = place_of (s % 4) (omega arith)

place_of_in : (m : ℕ) → m < 2 → (if m == 1 then 40 else 60) ≡ 60 - 20 * m
place_of_in zero low = refl
place_of_in (suc zero) low = refl
place_of_in (suc (suc m)) low = absurd (omega arith)

pub port_in_at : (k : ℕ) → (demo_port_in k).at ≡ 60 - 20 * (k % 2)
port_in_at k = place_of_in (k % 2) (omega arith)

-- another segment or another place
apart : (p q : PortLine) → (p.segment ≡ q.segment → p.at ≡ q.at → ⊥) → p ≢ q
apart p q h e = h (ap (λ (t : PortLine). t.segment) e) (ap (λ (t : PortLine). t.at) e)

abbrev pub ports_of : ℕ → ℕ → List PortLine
ports_of a n = flat_map (λ (r : RepeaterLine). r.ports) (map demo_repeater (range_with_len a n))

-- what holds of both ports of each repeater
pub all_ports : (P : PortLine → Type 0) (a n : ℕ) → ((k : ℕ) → a ≤ k → k < a + n → P (demo_port_in k) × P (demo_port_out k)) → All P (ports_of a n)
all_ports P a n h =
    all_of_pieces P (λ (r : RepeaterLine). r.ports) (map demo_repeater (range_with_len a n))
    (All-map (λ (r : RepeaterLine). All P r.ports) demo_repeater (range_with_len a n)
    (all_in_range (λ k. All P (demo_repeater k).ports) a n (λ k low high.
    All-cons P (demo_port_in k) (demo_port_out k ∷ []) (h k low high).0 (All-cons P (demo_port_out k) [] (h k low high).1 (All-nil P)))))

ports_apart : (a n : ℕ) → 1 ≤ a → AreDifferent (ports_of a n)
ports_apart a zero some = λ i j d less within. absurd (omega arith)
ports_apart a (suc n) some =
    let next : List PortLine = ports_of (a + 1) n in
    AllPairs-cons (λ p q. p ≢ q) (demo_port_in a) (demo_port_out a ∷ next)
    (All-cons (λ q. demo_port_in a ≢ q) (demo_port_out a) next (apart (demo_port_in a) (demo_port_out a) (λ _ at. omega (arith, at, port_in_at a)))
    (all_ports (λ q. demo_port_in a ≢ q) (a + 1) n (λ k low _. (
      apart (demo_port_in a) (demo_port_in k) (λ same at. omega (arith, some, low, same, at, port_in_at a, port_in_at k)),
      apart (demo_port_in a) (demo_port_out k) (λ _ at. omega (arith, at, port_in_at a)),
    ))))
    (AllPairs-cons (λ p q. p ≢ q) (demo_port_out a) next
    (all_ports (λ q. demo_port_out a ≢ q) (a + 1) n (λ k low _. (
      apart (demo_port_out a) (demo_port_in k) (λ _ at. omega (arith, at, port_in_at k)),
      apart (demo_port_out a) (demo_port_out k) (λ same _. omega (arith, low, same)),
    )))
    (ports_apart (a + 1) n (omega arith)))

-- the taps of the stations and the ports
pub different_taps : (n count : ℕ) → AreDifferent (map tap_of (map demo_station (range_with_len 0 count)) ++ ports_of 1 n)
different_taps n count =
    different_both (map tap_of (map demo_station (range_with_len 0 count))) (ports_of 1 n)
    (different_by tap_of demo_station 0 count (λ j k less _.
    apart (tap_of (demo_station j)) (tap_of (demo_station k)) (λ same at. omega (arith, less, same, at, station_at j, station_at k))))
    (ports_apart 1 n (omega arith))
    (all_mapped (λ p. All (λ q. p ≢ q) (ports_of 1 n)) tap_of demo_station 0 count (λ s _ _.
    all_ports (λ q. tap_of (demo_station s) ≢ q) 1 n (λ k _ _. (
      apart (tap_of (demo_station s)) (demo_port_in k) (λ _ at. omega (arith, at, station_at s, port_in_at k)),
      apart (tap_of (demo_station s)) (demo_port_out k) (λ _ at. omega (arith, at, station_at s)),
    ))))
