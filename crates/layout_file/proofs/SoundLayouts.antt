-- A layout without a fault is sound.
use Rattle.std.proofs.Common.{◌≡◌, ◌⊎◌, ℕ, zero, suc, ◌/◌, ◌%◌, ◌≤◌, ◌==◌, Bool, true, false, ◌&&◌, List, [], ◌∷◌, ◌++◌, map, length, get_or, Option, None, Some, Ok, refl, subst, sym, ap, ◌∙◌, inl, inr, arith}
use Rattle.std.specs.List.{list_all}
use Rattle.std.proofs.lemmas.Bool.{and_parts, cases_Bool}
use Rattle.std.proofs.lemmas.List.{length-map}
use Rattle.std.proofs.lemmas.List.Elements.{All-map}
use Rattle.toml.specs.Data.{Members}
use Rattle.layout_file.specs.declared.fault.Key.TheVariants as key
use Rattle.layout_file.specs.declared.rules.Shape.TheVariants as shape
use Rattle.layout_file.specs.Faults.{around_of, first_fault, document, is_too_long, judged_tree, judged_document, judged}
use Rattle.layout_file.specs.declared.fault.LayoutFault.{LayoutFault}
use Rattle.layout.specs.declared.lines.Layout.{Layout}
use Rattle.layout_file.specs.JointFaults.{first_same, first_same_name, same_segment_fault, same_device_fault}
use Rattle.layout_file.specs.Lines.{segment_of, station_of, port_of, repeater_of, send_of, layout_of}
use Rattle.layout_file.specs.FaultNames.{name_of_key}
use Rattle.layout_file.specs.RowFaults.{Around}
use Rattle.layout_file.specs.Rules.{lose_rules, rules_of}
use Rattle.mac_parameters.specs.Parameters.{greatest_place, addresses_and_type, most_octets, most_half_bits}
use Rattle.layout.specs.Limits.{greatest_seed, most_bits, most_lost_bits}
use Rattle.mac_parameters.specs.Parameters.{greatest_delay}
use Rattle.mac_parameters.specs.Parameters.{least_delay}
use Rattle.mac_parameters.specs.Parameters.{least_ports}
use Rattle.layout.specs.Sound.{IsName, IsSoundStation, IsSoundPort, IsSoundRepeater, IsSoundSend, AreDifferent, IsSound}
use Rattle.layout_file.specs.TextValues.{is_digit, is_frame}
use Rattle.layout.specs.NameOctets.{is_between}
use Rattle.layout_file.specs.Tree.{held, rows_at, text_at, number_at, names_of, has_stranger}
use Rattle.layout_file.proofs.RowsWithoutFault.{Clean, CleanRepeater, CleanRows, Faultless, faultless, clean_rows, or_else-parts, map-none}
use Rattle.layout_file.proofs.NoCrowds.{HasFewPorts, FewRows, few_rows}
use Rattle.layout_file.proofs.KeysWithoutFault.{EachHolds, clean_holds, clean_keys, between, whole, whole_or_none, name, load, segment_name, station_name, frame, rows}
use Rattle.layout_file.proofs.NamesOfRows.{place_within, length-names_of, length-octets_of, unlisted_key, names_different}
use Rattle.layout_file.proofs.TapsDiffer.{HasSegment, taps_different}
use Rattle.layout_file.proofs.TreesWithoutLoop.{tree}

one_or_two : (n : ℕ) → 1 ≤ n → n ≤ 2 → (n ≡ 1) ⊎ (n ≡ 2)
one_or_two zero least most = absurd (omega arith)
one_or_two (suc zero) least most = inl refl
one_or_two (suc (suc zero)) least most = inr refl
one_or_two (suc (suc (suc n))) least most = absurd (omega arith)

lose_within : (around : Around) (two : Bool) (ms : Members) → EachHolds around ms (lose_rules two) → has_stranger (rules_of two shape.Station) ms ≡ false → number_at ms key.LoseBits ≤ most_lost_bits
lose_within around true ms h keys = whole_or_none around key.LoseBits 0 most_lost_bits (held ms key.LoseBits) h.0
lose_within around false ms h keys = rw (unlisted_key (rules_of false shape.Station) (name_of_key key.LoseBits) ms refl keys) (omega arith)

lose_none : (two : Bool) (ms : Members) → two ≡ false → has_stranger (rules_of two shape.Station) ms ≡ false → number_at ms key.LoseBits ≡ 0
lose_none true ms e keys = absurd (cc)
lose_none false ms e keys = rw (unlisted_key (rules_of false shape.Station) (name_of_key key.LoseBits) ms refl keys) refl

sound_station : (around : Around) (format segments : ℕ) (ms : Members) → around.two ≡ (format == 2) → length around.segments ≡ segments → Clean around shape.Station ms → IsSoundStation format segments (station_of around.segments ms)
unfolding station_of
sound_station around format segments ms two count clean =
    let h = clean_holds around shape.Station ms clean in
    let keys = clean_keys around shape.Station ms clean in
    record {
      name = name around key.Name (held ms key.Name) h.0;
      segment = rw (← count) (place_within around.segments (text_at ms key.Segment) (segment_name around key.Segment (held ms key.Segment) h.1.0));
      at = (whole around key.At 0 greatest_place (held ms key.At) h.1.1.0).1;
      load = load around key.Load (held ms key.Load) h.1.1.1.0;
      lose = lose_within around around.two ms h.1.1.1.1 keys;
      lose_of_one = λ one. lose_none around.two ms (two ∙ ap (λ n. n == 2) one) keys;
    }

sound_port : (around : Around) (segments : ℕ) (ms : Members) → length around.segments ≡ segments → Clean around shape.Port ms → IsSoundPort segments (port_of around.segments ms)
unfolding port_of
sound_port around segments ms count clean =
    let h = clean_holds around shape.Port ms clean in
    record {
      segment = rw (← count) (place_within around.segments (text_at ms key.Segment) (segment_name around key.Segment (held ms key.Segment) h.0));
      at = (whole around key.At 0 greatest_place (held ms key.At) h.1.0).1;
    }

sound_repeater : (around : Around) (segments : ℕ) (ms : Members) → length around.segments ≡ segments → CleanRepeater around ms → HasFewPorts ms → IsSoundRepeater segments (repeater_of around.segments ms)
unfolding repeater_of
sound_repeater around segments ms count clean most =
    let h = clean_holds around shape.Repeater ms clean.row in
    let delay = whole around key.Delay least_delay greatest_delay (held ms key.Delay) h.1.0 in
    let ports = rows_at ms key.Port in
    record {
      name = name around key.Name (held ms key.Name) h.0;
      delay_least = delay.0;
      delay_most = delay.1;
      ports_least = rw (length-map ports (port_of around.segments)) (rows around key.Port least_ports (held ms key.Port) h.1.1.0);
      ports_most = rw (length-map ports (port_of around.segments)) most;
      ports = All-map (IsSoundPort segments) (port_of around.segments) ports (λ k d within. sound_port around segments _ count (clean.ports k d within));
    }

framed : (most : ℕ) (s : List ℕ) → is_frame most s ≡ true → (addresses_and_type ≤ length s / 2) × (length s / 2 ≤ most)
unfolding is_frame
framed most s h =
    let p = and_parts (is_between addresses_and_type most (length s / 2) && (length s % 2 == 0)) (list_all is_digit s) h in
    between addresses_and_type most (length s / 2) (and_parts (is_between addresses_and_type most (length s / 2)) (length s % 2 == 0) p.0).0

sound_send : (around : Around) (format stations : ℕ) (ms : Members) → around.two ≡ (format == 2) → length around.stations ≡ stations → Clean around shape.Send ms → IsSoundSend format stations (send_of around.stations ms)
unfolding send_of
sound_send around format stations ms two count clean =
    let h = clean_holds around shape.Send ms clean in
    let f = framed (most_octets around.two) (text_at ms key.Octets) (frame around key.Octets (most_octets around.two) (held ms key.Octets) h.1.1.0) in
    record {
      station = rw (← count) (place_within around.stations (text_at ms key.Station) (station_name around key.Station (held ms key.Station) h.0));
      at = (whole around key.At 0 most_half_bits (held ms key.At) h.1.0).1;
      least = rw (length-octets_of (text_at ms key.Octets)) f.0;
      most = rw (length-octets_of (text_at ms key.Octets), ← two) f.1;
    }

names-segments : (rows : List Members) → map (λ s. s.name) (map segment_of rows) ≡ names_of rows
names-segments [] = refl
names-segments (ms ∷ rows) = ap (λ l. text_at ms key.Name ∷ l) (names-segments rows)

names-stations : (segments : List (List ℕ)) (rows : List Members) → map (λ s. s.name) (map (station_of segments) rows) ≡ names_of rows
unfolding station_of
names-stations segments [] = refl
names-stations segments (ms ∷ rows) = ap (λ l. text_at ms key.Name ∷ l) (names-stations segments rows)

names-repeaters : (segments : List (List ℕ)) (rows : List Members) → map (λ r. r.name) (map (repeater_of segments) rows) ≡ names_of rows
unfolding repeater_of
names-repeaters segments [] = refl
names-repeaters segments (ms ∷ rows) = ap (λ l. text_at ms key.Name ∷ l) (names-repeaters segments rows)

-- names of segments differ, and so do names of devices
record NamesDiffer (ms : Members) : Type 0 where
  segments : AreDifferent (names_of (rows_at ms key.Segment))
  devices : AreDifferent (names_of (rows_at ms key.Station) ++ names_of (rows_at ms key.Repeater))

names_differ : (ms : Members) → first_same_name ms ≡ None → NamesDiffer ms
unfolding first_same_name
names_differ ms h =
    let segments = names_of (rows_at ms key.Segment) in
    let stations = names_of (rows_at ms key.Station) in
    let devices = stations ++ names_of (rows_at ms key.Repeater) in
    let p = or_else-parts _ _ h in
    record {
      segments = names_different segments (map-none same_segment_fault (first_same [] 1 segments) p.0);
      devices = names_different devices (map-none (same_device_fault (length stations)) (first_same [] 1 devices) p.1);
    }

sound_segment : (around : Around) (ms : Members) → Clean around shape.Segment ms → IsName (segment_of ms).name
sound_segment around ms clean = name around key.Name (held ms key.Name) (clean_holds around shape.Segment ms clean).0

has_segment : (around : Around) (ms : Members) → Clean around shape.Port ms → HasSegment around.segments ms
has_segment around ms clean = segment_name around key.Segment (held ms key.Segment) (clean_holds around shape.Port ms clean).0

has_station_segment : (around : Around) (ms : Members) → Clean around shape.Station ms → HasSegment around.segments ms
has_station_segment around ms clean = segment_name around key.Segment (held ms key.Segment) (clean_holds around shape.Station ms clean).1.0

sound_parts : (ms : Members) → Faultless ms → CleanRows ms → FewRows ms → NamesDiffer ms → IsSound (layout_of ms)
unfolding layout_of around_of
sound_parts ms free clean few different =
    let around = around_of ms in
    let h = clean_holds around shape.File ms clean.file in
    let format = whole around key.Format 1 2 (held ms key.Format) h.0 in
    let seed = whole around key.Seed 0 greatest_seed (held ms key.Seed) h.1.0 in
    let bits = whole around key.UntilBits 1 most_bits (held ms key.UntilBits) h.1.1.0 in
    let segments = rows_at ms key.Segment in
    let stations = rows_at ms key.Station in
    let repeaters = rows_at ms key.Repeater in
    let sends = rows_at ms key.Send in
    let names = names_of segments in
    let few_segments : length (map segment_of segments) ≡ length segments = length-map segments segment_of in
    let few_stations : length (map (station_of names) stations) ≡ length stations = length-map stations (station_of names) in
    let few_repeaters : length (map (repeater_of names) repeaters) ≡ length repeaters = length-map repeaters (repeater_of names) in
    let few_sends : length (map (send_of (names_of stations)) sends) ≡ length sends = length-map sends (send_of (names_of stations)) in
    let segment_count : length names ≡ length (map segment_of segments) = length-names_of segments ∙ sym few_segments in
    let station_count : length (names_of stations) ≡ length (map (station_of names) stations) = length-names_of stations ∙ sym few_stations in
    record {
      format = one_or_two (number_at ms key.Format) format.0 format.1;
      seed = seed.1;
      bits_least = bits.0;
      bits_most = bits.1;
      device_bits = rw (few_stations, few_repeaters) few.bits;
      segments_least = rw few_segments (rows around key.Segment 1 (held ms key.Segment) h.1.1.1.0);
      segments_most = rw few_segments few.segments;
      stations_most = rw few_stations few.stations;
      repeaters_most = rw few_repeaters few.repeaters;
      sends_most = rw few_sends few.sends;
      segments = All-map (λ s. IsName s.name) segment_of segments (λ k d within. sound_segment around (get_or segments k d) (clean.segments k d within));
      stations = All-map (IsSoundStation (number_at ms key.Format) (length (map segment_of segments))) (station_of names) stations
          (λ k d within. sound_station around (number_at ms key.Format) (length (map segment_of segments)) _ refl segment_count (clean.stations k d within));
      repeaters = All-map (IsSoundRepeater (length (map segment_of segments))) (repeater_of names) repeaters
          (λ k d within. sound_repeater around (length (map segment_of segments)) _ segment_count (clean.repeaters k d within) (few.ports k d within));
      sends = All-map (IsSoundSend (number_at ms key.Format) (length (map (station_of names) stations))) (send_of (names_of stations)) sends
          (λ k d within. sound_send around (number_at ms key.Format) (length (map (station_of names) stations)) _ refl station_count (clean.sends k d within));
      segment_names = rw (names-segments segments) different.segments;
      device_names = rw (names-stations names stations, names-repeaters names repeaters) different.devices;
      taps = taps_different names ms free.taken (λ k d within. has_station_segment around (get_or stations k d) (clean.stations k d within))
          (λ k d within j e inside. has_segment around (get_or (rows_at (get_or repeaters k d) key.Port) j e) ((clean.repeaters k d within).ports j e inside));
      tree = tree ms free.graph;
    }

pub sound : (ms : Members) → first_fault ms ≡ None → IsSound (layout_of ms)
sound ms h =
    let free = faultless ms h in
    sound_parts ms free (clean_rows ms free) (few_rows ms free.crowds) (names_differ ms free.same)

tree_sound : (ms : Members) (fault : Option LayoutFault) (l : Layout) → first_fault ms ≡ fault → judged_tree ms fault ≡ Ok l → IsSound l
tree_sound ms None l none h =
    let e : layout_of ms ≡ l = cc in
    subst IsSound e (sound ms none)
tree_sound ms (Some f) l none h = absurd (cc)

document_sound : (o : Option Members) (l : Layout) → judged_document o ≡ Ok l → IsSound l
document_sound None l h = absurd (cc)
document_sound (Some ms) l h = tree_sound ms (first_fault ms) l refl h

-- the same of the layout that octets are
pub judged_sound : (bytes : List ℕ) (l : Layout) → judged bytes ≡ Ok l → IsSound l
unfolding judged
judged_sound bytes l h =
    elim (cases_Bool (is_too_long bytes)) [
      | inl long ↦ let e = rw long at h in absurd (cc)
      | inr short ↦ document_sound (document bytes) l (rw short at h)
    ]
