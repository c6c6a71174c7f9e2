-- Taps at different places: first as the file names their segments, then by the segments' numbers.
use Rattle.std.proofs.Common.{◌≡◌, ◌≢◌, ℕ, zero, suc, ◌+◌, ◌<◌, true, false, ◌&&◌, ◌==◌, List, [], ◌∷◌, ◌++◌, map, length, get_or, None, refl, sym, ap, ap₂, ◌∙◌, arith, inl, inr, bytes_eq, append_assoc, append-nil}
use Rattle.std.specs.List.{All}
use Rattle.std.proofs.lemmas.Bool.{and_from, or_parts, eq-eqb, true≢false, cases_Bool}
use Rattle.std.proofs.lemmas.List.{get_or-map, length-map, map-append}
use Rattle.std.proofs.lemmas.List.Elements.{All-nil, All-append, All-map, All-head, All-tail}
use Rattle.std.proofs.lemmas.List.Quantifiers.{all_pairs_push}
use Rattle.std.proofs.lemmas.Slice.Eq.{bytes_eq-Decides}
use Rattle.toml.specs.Data.{Members}
use Rattle.layout_file.specs.declared.fault.Key.TheVariants as key
use Rattle.layout_file.specs.declared.fault.LayoutCode.TheVariants as code
use Rattle.layout_file.specs.declared.rules.Shape.TheVariants as shape
use Rattle.layout_file.specs.JointFaults.{NamedTap, named_tap, has_tap, is_tap_at, is_taken, takes_tap, first_taken}
use Rattle.layout_file.specs.Lines.{place_of, station_of, port_of, repeater_of}
use Rattle.layout_file.specs.RowFaults.{is_among}
use Rattle.std.specs.List.{flat_map}
use Rattle.layout.specs.declared.lines.PortLine.{PortLine}
use Rattle.layout.specs.declared.lines.RepeaterLine.{RepeaterLine}
use Rattle.layout.specs.Sound.{AreDifferent}
use Rattle.layout.specs.Taps.{tap_of}
use Rattle.layout_file.specs.Spots.{Spot, spots_of_rows, ports, repeaters, spots, fault}
use Rattle.layout_file.specs.Tree.{rows_at, text_at, number_at}
use Rattle.layout_file.proofs.RowsWithoutFault.{if-none}
use Rattle.layout_file.proofs.NamesOfRows.{place_there}
use Rattle.layout_file.proofs.TapsOfTables.{named_taps, named_taps-append}

not_there : (segment : List ℕ) (at : ℕ) (s : Spot) → has_tap s.shape ≡ true → is_tap_at segment at s ≡ false → named_tap s.members ≢ record { segment = segment; at = at }
not_there segment at s tap free = λ e.
    let text = (bytes_eq-Decides (text_at s.members key.Segment) segment).1 (ap (λ n. n.segment) e) in
    let number = eq-eqb (number_at s.members key.At) at (ap (λ n. n.at) e) in
    let front = and_from (has_tap s.shape) (bytes_eq (text_at s.members key.Segment) segment) tap text in
    true≢false (sym (and_from (has_tap s.shape && bytes_eq (text_at s.members key.Segment) segment) (number_at s.members key.At == at) front number) ∙ free)

-- none of these taps stands where the tap x does
abbrev AreApart : NamedTap → List NamedTap → Type 0
AreApart x xs = (k : ℕ) (d : NamedTap) → k < length xs → get_or xs k d ≢ x

apart-cons : (x y : NamedTap) (ys : List NamedTap) → y ≢ x → AreApart x ys → AreApart x (y ∷ ys)
apart-cons x y ys first rest zero d within = first
apart-cons x y ys first rest (suc k) d within = rest k d (omega arith)

none_taken : (segment : List ℕ) (at : ℕ) (ss : List Spot) → is_taken segment at ss ≡ false → AreApart (record { segment = segment; at = at }) (named_taps ss)
none_taken segment at [] h = λ k d within. absurd (omega arith)
none_taken segment at (s ∷ ss) h =
    let p = or_parts (is_tap_at segment at s) (is_taken segment at ss) h in
    let rest = none_taken segment at ss p.1 in
    elim (cases_Bool (has_tap s.shape)) [
      | inl tap ↦ rw tap (apart-cons (record { segment = segment; at = at }) (named_tap s.members) (named_taps ss) (not_there segment at s tap p.0) rest)
      | inr none ↦ rw none rest
    ]

one_more : (earlier : List Spot) (s : Spot) → takes_tap earlier s ≡ false → AreDifferent (named_taps earlier) → AreDifferent (named_taps (earlier ++ s ∷ []))
one_more earlier s free before =
    elim (cases_Bool (has_tap s.shape)) [
      | inl tap ↦
          let untaken : is_taken (text_at s.members key.Segment) (number_at s.members key.At) earlier ≡ false = rw tap at free in
          rw (named_taps-append earlier (s ∷ []), tap)
          (all_pairs_push (λ a b. a ≢ b) (named_taps earlier) (named_tap s.members) before (none_taken (text_at s.members key.Segment) (number_at s.members key.At) earlier untaken))
      | inr none ↦ rw (named_taps-append earlier (s ∷ []), none, append-nil) before
    ]

different_from : (earlier ss : List Spot) → first_taken earlier ss ≡ None → AreDifferent (named_taps earlier) → AreDifferent (named_taps (earlier ++ ss))
different_from earlier [] h before = rw append-nil before
different_from earlier (s ∷ ss) h before =
    let p = if-none (takes_tap earlier s) (fault code.TapTaken s key.At) (first_taken (earlier ++ s ∷ []) ss) h in
    rw (← append_assoc earlier (s ∷ []) ss) (different_from (earlier ++ s ∷ []) ss p.1 (one_more earlier s p.0 before))

-- the taps of the repeaters' ports
abbrev pub named_ports : List Members → List NamedTap
named_ports [] = []
named_ports (ms ∷ rows) = map named_tap (rows_at ms key.Port) ++ named_ports rows

no_segment_tap : (n : ℕ) (rows : List Members) → named_taps (spots_of_rows shape.Segment n rows) ≡ []
no_segment_tap n [] = refl
no_segment_tap n (ms ∷ rows) = no_segment_tap (n + 1) rows

no_send_tap : (n : ℕ) (rows : List Members) → named_taps (spots_of_rows shape.Send n rows) ≡ []
no_send_tap n [] = refl
no_send_tap n (ms ∷ rows) = no_send_tap (n + 1) rows

station_taps : (n : ℕ) (rows : List Members) → named_taps (spots_of_rows shape.Station n rows) ≡ map named_tap rows
station_taps n [] = refl
station_taps n (ms ∷ rows) = ap (λ l. named_tap ms ∷ l) (station_taps (n + 1) rows)

port_taps : (n p : ℕ) (rows : List Members) → named_taps (ports n p rows) ≡ map named_tap rows
port_taps n p [] = refl
port_taps n p (ms ∷ rows) = ap (λ l. named_tap ms ∷ l) (port_taps n (p + 1) rows)

repeater_taps : (n : ℕ) (rows : List Members) → named_taps (repeaters n rows) ≡ named_ports rows
repeater_taps n [] = refl
repeater_taps n (ms ∷ rows) =
    let s : Spot = record { shape = shape.Repeater; row = n; port = 0; members = ms } in
    named_taps-append (s ∷ ports n 1 (rows_at ms key.Port)) (repeaters (n + 1) rows)
    ∙ ap₂ (λ a b. a ++ b) (port_taps n 1 (rows_at ms key.Port)) (repeater_taps (n + 1) rows)

named_spots : (ms : Members) → named_taps (spots ms) ≡ map named_tap (rows_at ms key.Station) ++ named_ports (rows_at ms key.Repeater)
unfolding spots
named_spots ms =
    let s : Spot = record { shape = shape.File; row = 0; port = 0; members = ms } in
    let a : List Spot = spots_of_rows shape.Segment 1 (rows_at ms key.Segment) in
    let b : List Spot = spots_of_rows shape.Station 1 (rows_at ms key.Station) in
    let c : List Spot = repeaters 1 (rows_at ms key.Repeater) in
    let d : List Spot = spots_of_rows shape.Send 1 (rows_at ms key.Send) in
    named_taps-append ((((s ∷ []) ++ a) ++ b) ++ c) d
    ∙ ap (λ l. named_taps ((((s ∷ []) ++ a) ++ b) ++ c) ++ l) (no_send_tap 1 (rows_at ms key.Send))
    ∙ append-nil (named_taps ((((s ∷ []) ++ a) ++ b) ++ c))
    ∙ named_taps-append (((s ∷ []) ++ a) ++ b) c
    ∙ ap₂ (λ x y. x ++ y)
    (named_taps-append ((s ∷ []) ++ a) b ∙ ap₂ (λ x y. x ++ y) (no_segment_tap 1 (rows_at ms key.Segment)) (station_taps 1 (rows_at ms key.Station)))
    (repeater_taps 1 (rows_at ms key.Repeater))

-- the same tap by its segment's number
abbrev tap_at : List (List ℕ) → NamedTap → PortLine
tap_at segments n = record { segment = place_of segments n.segment; at = n.at }

abbrev IsAmong : List (List ℕ) → NamedTap → Type 0
IsAmong segments n = is_among n.segment segments ≡ true

same_named : (segments : List (List ℕ)) (a b : NamedTap) → IsAmong segments a → IsAmong segments b → tap_at segments a ≡ tap_at segments b → a ≡ b
same_named segments a b there here e =
    let places : place_of segments a.segment ≡ place_of segments b.segment = ap (λ t. t.segment) e in
    let names = sym (place_there segments a.segment there) ∙ ap (λ p. get_or segments p []) places ∙ place_there segments b.segment here in
    let numbers : a.at ≡ b.at = ap (λ t. t.at) e in
    ap₂ (λ n at. record { segment = n; at = at }) names numbers

different_taps : (segments : List (List ℕ)) (ns : List NamedTap) → All (IsAmong segments) ns → AreDifferent ns → AreDifferent (map (tap_at segments) ns)
different_taps segments ns among different i j d less within =
    let none : NamedTap = record { segment = []; at = 0 } in
    let last : j < length ns = rw length-map at within in
    let first : i < length ns = omega arith in
    λ e. different i j none less last
    (same_named segments (get_or ns i none) (get_or ns j none) (among i none first) (among j none last)
    (sym (get_or-map (tap_at segments) ns i none d first) ∙ e ∙ get_or-map (tap_at segments) ns j none d last))

stations_by_number : (segments : List (List ℕ)) (rows : List Members) → map tap_of (map (station_of segments) rows) ≡ map (tap_at segments) (map named_tap rows)
unfolding station_of
stations_by_number segments [] = refl
stations_by_number segments (ms ∷ rows) = ap (λ l. tap_at segments (named_tap ms) ∷ l) (stations_by_number segments rows)

ports_by_number : (segments : List (List ℕ)) (rows : List Members) → map (port_of segments) rows ≡ map (tap_at segments) (map named_tap rows)
unfolding port_of
ports_by_number segments [] = refl
ports_by_number segments (ms ∷ rows) = ap (λ l. tap_at segments (named_tap ms) ∷ l) (ports_by_number segments rows)

repeaters_by_number : (segments : List (List ℕ)) (rows : List Members) → flat_map (λ (r : RepeaterLine). r.ports) (map (repeater_of segments) rows) ≡ map (tap_at segments) (named_ports rows)
unfolding repeater_of
repeaters_by_number segments [] = refl
repeaters_by_number segments (ms ∷ rows) =
    ap₂ (λ a b. a ++ b) (ports_by_number segments (rows_at ms key.Port)) (repeaters_by_number segments rows)
    ∙ sym (map-append (tap_at segments) (map named_tap (rows_at ms key.Port)) (named_ports rows))

-- the row's segment is one of these
abbrev pub HasSegment : List (List ℕ) → Members → Type 0
HasSegment segments ms = is_among (text_at ms key.Segment) segments ≡ true

ports_among : (segments : List (List ℕ)) (rows : List Members) → All (λ ms. All (HasSegment segments) (rows_at ms key.Port)) rows → All (IsAmong segments) (named_ports rows)
ports_among segments [] h = All-nil (IsAmong segments)
ports_among segments (ms ∷ rows) h =
    let P : Members → Type 0 = λ m. All (HasSegment segments) (rows_at m key.Port) in
    All-append (IsAmong segments) (map named_tap (rows_at ms key.Port)) (named_ports rows)
    (All-map (IsAmong segments) named_tap (rows_at ms key.Port) (All-head P ms rows h))
    (ports_among segments rows (All-tail P ms rows h))

pub taps_different : (segments : List (List ℕ)) (ms : Members) → first_taken [] (spots ms) ≡ None → All (HasSegment segments) (rows_at ms key.Station)
    → All (λ r. All (HasSegment segments) (rows_at r key.Port)) (rows_at ms key.Repeater)
    → AreDifferent (map tap_of (map (station_of segments) (rows_at ms key.Station)) ++ flat_map (λ (r : RepeaterLine). r.ports) (map (repeater_of segments) (rows_at ms key.Repeater)))
taps_different segments ms free of_stations of_ports =
    let s = map named_tap (rows_at ms key.Station) in
    let r = named_ports (rows_at ms key.Repeater) in
    let all : AreDifferent (s ++ r) = rw (named_spots ms) at (different_from [] (spots ms) free (λ i j d less within. absurd (omega arith))) in
    let among : All (IsAmong segments) (s ++ r) = All-append (IsAmong segments) s r (All-map (IsAmong segments) named_tap (rows_at ms key.Station) of_stations) (ports_among segments (rows_at ms key.Repeater) of_ports) in
    rw (stations_by_number segments (rows_at ms key.Station), repeaters_by_number segments (rows_at ms key.Repeater), ← map-append (tap_at segments) s r)
    (different_taps segments (s ++ r) among all)
