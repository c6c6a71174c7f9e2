-- The layout of demo is sound.
use Rattle.std.proofs.Common.{◌≡◌, ◌≢◌, ℕ, ◌+◌, ◌*◌, ◌/◌, ◌%◌, ◌<◌, ◌≤◌, ◌==◌, All, List, [], ◌∷◌, ◌++◌, decimal, map, length, length-append, refl, inl, ap, ◌∙◌, arith}
use Rattle.std.specs.List.{range_with_len}
use Rattle.std.proofs.Math.Nat.{mod-lt}
use Rattle.std.proofs.lemmas.List.Concat.{length-flat_map}
use Rattle.std.proofs.lemmas.List.Elements.{All-nil, All-cons, All-map}
use Rattle.std.proofs.lemmas.List.FromFn.{length-range_with_len, length-map-range_with_len}
use Rattle.std.proofs.lemmas.List.Sums.{sum_by-le}
use Rattle.mac_parameters.specs.Parameters.{addresses_and_type, most_octets}
use Rattle.layout.specs.declared.lines.RepeaterLine.{RepeaterLine}
use Rattle.layout.specs.declared.lines.SegmentLine.{SegmentLine}
use Rattle.layout.specs.declared.lines.SendLine.{SendLine}
use Rattle.layout.specs.declared.lines.StationLine.{StationLine}
use Rattle.layout.specs.Limits.{most_repeaters, most_sends}
use Rattle.layout.specs.Sound.{IsName, IsSoundPort, IsSoundRepeater, IsSoundSend, IsSoundStation, IsSound, AreDifferent}
use Rattle.demo_layout.specs.Demo.{demo_of, demo_segment, demo_station, demo_port_in, demo_port_out, demo_repeater, demo_length, demo_octets, demo_send, demo_sends_of, demo_sends}
use Rattle.demo_layout.proofs.DifferentItems.{all_in_range, all_mapped, all_of_pieces, different_by, different_both}
use Rattle.demo_layout.proofs.NamesOfDemo.{name_with, names_differ, letters_differ}
use Rattle.demo_layout.proofs.TapsOfDemo.{station_at, port_in_at, different_taps}
use Rattle.demo_layout.proofs.TreeOfDemo.{demo_loops, demo_joined}

long_octets : (s j : ℕ) → length (demo_octets s j) ≡ addresses_and_type + demo_length s j
long_octets s j =
    let head : List ℕ = 255 ∷ 255 ∷ 255 ∷ 255 ∷ 255 ∷ 255 ∷ 2 ∷ 0 ∷ 0 ∷ 0 ∷ s / 256 ∷ s % 256 ∷ 8 ∷ 0 ∷ [] in
    let rest : List ℕ = map (λ i. (i + s + j) % 256) (range_with_len addresses_and_type (demo_length s j)) in
    length-append head rest
    ∙ ap (λ n. addresses_and_type + n) (length-map-range_with_len (λ i. (i + s + j) % 256) addresses_and_type (demo_length s j))

sound_send : (n count s j : ℕ) → n ≤ most_repeaters → count ≡ 4 * (n + 1) → s < 4 * (n + 1) → j < 20 → IsSoundSend 1 count (demo_send s j)
sound_send n count s j few many station number =
    let long : length (demo_octets s j) ≡ addresses_and_type + demo_length s j = long_octets s j in
    let short : demo_length s j < 1501 = mod-lt (97 * s + 131 * j) (omega arith) in
    let most : most_octets (1 == 2) ≡ addresses_and_type + 1500 = refl in
    record {
      station = omega (arith, many, station);
      at = omega arith;
      least = omega (arith, long);
      most = omega (arith, long, short, most);
    }

sound_sends : (n count : ℕ) → n ≤ most_repeaters → count ≡ 4 * (n + 1) → All (IsSoundSend 1 count) (demo_sends n)
sound_sends n count few many =
    let P : SendLine → Type 0 = IsSoundSend 1 count in
    all_of_pieces P demo_sends_of (range_with_len 0 (4 * (n + 1)))
    (all_in_range (λ s. All P (demo_sends_of s)) 0 (4 * (n + 1)) (λ s _ h.
    All-map P (demo_send s) (range_with_len 0 20) (all_in_range (λ j. P (demo_send s j)) 0 20 (λ j _ m.
    sound_send n count s j few many (omega arith) (omega arith)))))

few_sends : (n : ℕ) → n ≤ most_repeaters → length (demo_sends n) ≤ most_sends
few_sends n few =
    let stations : List ℕ = range_with_len 0 (4 * (n + 1)) in
    let all : All (λ s. length (demo_sends_of s) ≤ 20) stations =
    all_in_range (λ s. length (demo_sends_of s) ≤ 20) 0 (4 * (n + 1)) (λ s _ _. omega (arith, length-map-range_with_len (demo_send s) 0 20)) in
    omega (arith, length-flat_map demo_sends_of stations, sum_by-le (λ s. length (demo_sends_of s)) 20 stations all, length-range_with_len 0 (4 * (n + 1)))

-- rows, where there are n + 1 segments
sound_station : (n count s : ℕ) → n ≤ most_repeaters → count ≡ n + 1 → s < 4 * (n + 1) → IsSoundStation 1 count (demo_station s)
sound_station n count s few many low = record {
  name = name_with 115 s (omega arith) (omega arith) (omega arith);
  segment = omega arith;
  at = omega (arith, station_at s);
  load = tt;
  lose = omega arith;
  lose_of_one = λ _. refl;
}

sound_repeater : (n count k : ℕ) → n ≤ most_repeaters → count ≡ n + 1 → k ≤ n → IsSoundRepeater count (demo_repeater k)
sound_repeater n count k few many low = record {
  name = name_with 114 k (omega arith) (omega arith) (omega arith);
  delay_least = omega arith;
  delay_most = omega arith;
  ports_least = omega arith;
  ports_most = omega arith;
  ports =
      All-cons (IsSoundPort count) (demo_port_in k) (demo_port_out k ∷ []) (record { segment = omega arith; at = omega (arith, port_in_at k) })
      (All-cons (IsSoundPort count) (demo_port_out k) [] (record { segment = omega arith; at = omega arith }) (All-nil (IsSoundPort count)));
}

different_segments : (n : ℕ) → n ≤ most_repeaters → AreDifferent (map (λ (s : SegmentLine). s.name) (map demo_segment (range_with_len 0 (n + 1))))
different_segments n few =
    different_by (λ (s : SegmentLine). s.name) demo_segment 0 (n + 1) (λ j k less low. names_differ 103 j k less (omega (arith, few, low)))

different_devices : (n : ℕ) → n ≤ most_repeaters
    → AreDifferent (map (λ (s : StationLine). s.name) (map demo_station (range_with_len 0 (4 * (n + 1)))) ++ map (λ (r : RepeaterLine). r.name) (map demo_repeater (range_with_len 1 n)))
different_devices n few =
    let stations : List (List ℕ) = map (λ (s : StationLine). s.name) (map demo_station (range_with_len 0 (4 * (n + 1)))) in
    let repeaters : List (List ℕ) = map (λ (r : RepeaterLine). r.name) (map demo_repeater (range_with_len 1 n)) in
    different_both stations repeaters
    (different_by (λ (s : StationLine). s.name) demo_station 0 (4 * (n + 1)) (λ j k less low. names_differ 115 j k less (omega (arith, few, low))))
    (different_by (λ (r : RepeaterLine). r.name) demo_repeater 1 n (λ j k less low. names_differ 114 j k less (omega (arith, few, low))))
    (all_mapped (λ a. All (λ b. a ≢ b) repeaters) (λ (s : StationLine). s.name) demo_station 0 (4 * (n + 1)) (λ s _ _.
    all_mapped (λ b. (demo_station s).name ≢ b) (λ (r : RepeaterLine). r.name) demo_repeater 1 n (λ k _ _.
    letters_differ 115 114 (decimal s) (decimal k) (λ e. omega (arith, e)))))

pub sound_demo : (n : ℕ) → n ≤ most_repeaters → IsSound (demo_of n)
unfolding demo_of
sound_demo n few =
    let segments : length (map demo_segment (range_with_len 0 (n + 1))) ≡ n + 1 = length-map-range_with_len demo_segment 0 (n + 1) in
    let stations : length (map demo_station (range_with_len 0 (4 * (n + 1)))) ≡ 4 * (n + 1) = length-map-range_with_len demo_station 0 (4 * (n + 1)) in
    let repeaters : length (map demo_repeater (range_with_len 1 n)) ≡ n = length-map-range_with_len demo_repeater 1 n in
    record {
      format = inl refl;
      seed = omega (arith, few);
      bits_least = omega arith;
      bits_most = omega arith;
      device_bits = omega (arith, few, stations, repeaters);
      segments_least = omega (arith, segments);
      segments_most = omega (arith, few, segments);
      stations_most = omega (arith, few, stations);
      repeaters_most = omega (arith, few, repeaters);
      sends_most = few_sends n few;
      segments =
          All-map (λ (s : SegmentLine). IsName s.name) demo_segment (range_with_len 0 (n + 1)) (all_in_range (λ k. IsName (demo_segment k).name) 0 (n + 1) (λ k _ low.
          name_with 103 k (omega arith) (omega arith) (omega (arith, few, low))));
      stations =
          All-map (IsSoundStation 1 _) demo_station (range_with_len 0 (4 * (n + 1))) (all_in_range (λ s. IsSoundStation 1 _ (demo_station s)) 0 (4 * (n + 1)) (λ s _ low.
          sound_station n _ s few segments (omega (arith, low))));
      repeaters =
          All-map (IsSoundRepeater _) demo_repeater (range_with_len 1 n) (all_in_range (λ k. IsSoundRepeater _ (demo_repeater k)) 1 n (λ k _ low.
          sound_repeater n _ k few segments (omega (arith, low))));
      sends = sound_sends n _ few stations;
      segment_names = different_segments n few;
      device_names = different_devices n few;
      taps = different_taps n (4 * (n + 1));
      tree = record {
        loops = demo_loops n _ _ (omega (arith, segments, repeaters)) segments;
        joined = λ s low. demo_joined n _ _ s (omega (arith, segments, repeaters)) segments (omega (arith, segments, low));
      };
    }
