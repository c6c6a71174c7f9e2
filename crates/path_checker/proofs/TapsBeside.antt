-- The lists of a network have just the taps of each segment and of each repeater.
use Rattle.std.proofs.Common.{◌≡◌, refl, sym, ◌∙◌, ap, subst, inl, inr, ℕ, zero, suc, ◌+◌, ◌<◌, ◌≤◌, ◌==◌, true, false, List, [], ◌∷◌, ◌++◌, map, length, Option, None, Some, slice_get, arith}
use Rattle.std.specs.Option.{option_map, unwrap_or}
use Rattle.std.proofs.lemmas.Bool.{cases_Bool, cases_lt}
use Rattle.std.proofs.lemmas.Bool.Decides.{Decides-eqb}
use Rattle.std.proofs.lemmas.Option.{same_Some, slice_get-map, slice_get-get_or, slice_get_past}
use Rattle.layout.specs.declared.lines.Layout.{Layout}
use Rattle.layout.specs.declared.lines.PortLine.{PortLine}
use Rattle.layout.specs.declared.lines.RepeaterLine.{RepeaterLine}
use Rattle.layout.specs.declared.lines.StationLine.{StationLine}
use Rattle.layout.specs.declared.ways.Attachment.{Attachment}
use Rattle.layout.specs.declared.ways.Attachment.TheVariants.{Station, Port}
use Rattle.layout.specs.declared.ways.Way.{Way}
use Rattle.layout.specs.declared.ways.Way.TheVariants as way
use Rattle.layout.specs.Among.{IsAmong}
use Rattle.layout.specs.Joined.{counted_up}
use Rattle.layout.specs.Paths.{place, part_by, IsStep}
use Rattle.layout.specs.Taps.{tap_of}
use Rattle.layout.specs.Sound.{IsSound}
use Rattle.layout.proofs.Cuts.{mapped}
use Rattle.layout.proofs.ItemsOfLists.{among_left, among_right, among_cases}
use Rattle.layout.proofs.Joins.{counted-at, length-counted}
use Rattle.layout.proofs.Sides.{IsPortOf, port_of, port_placed, repeater_number}
use Rattle.layout.proofs.SoundTaps.{sound_stands}
use Rattle.path_checker.specs.declared.stops.Network.{Network}
use Rattle.path_checker.specs.declared.stops.Stop.{Stop}
use Rattle.path_checker.specs.Far.{IsStop}
use Rattle.path_checker.specs.Stops.{station_stop, port_stop, station_stops, port_stops, repeater_stops, all_stops, stops_on, repeater_lists, IsNetworkOf, list_at, ports_at, stops_by}

station_among : (n k j : ℕ) (ss : List StationLine) (s : StationLine) → slice_get ss j ≡ Some s → n ≡ k + j → IsAmong (station_stop n s) (station_stops k ss)
station_among n k j [] s h at = absurd (cc)
station_among n k zero (x ∷ xs) s h at =
    let same : x ≡ s = cc in
    let e : k ≡ n = omega arith in
    inl (rw (same, e) refl)
station_among n k (suc j) (x ∷ xs) s h at = inr (station_among n (k + 1) j xs s h (omega arith))

station_found : (k : ℕ) (ss : List StationLine) (g : Stop) → IsAmong g (station_stops k ss) → (j : ℕ) × (s : StationLine) × (slice_get ss j ≡ Some s) × (station_stop (k + j) s ≡ g)
station_found k [] g h = absurd h
station_found k (x ∷ xs) g h =
    elim h [
      | inl e ↦ let z : k + 0 ≡ k = omega arith in (zero, x, refl, rw z e)
      | inr later ↦
          let found : (j : ℕ) × (s : StationLine) × (slice_get xs j ≡ Some s) × (station_stop (k + 1 + j) s ≡ g) = station_found (k + 1) xs g later in
          let z : k + suc found.0 ≡ k + 1 + found.0 = omega arith in
          (suc found.0, found.1, found.2, rw z found.3)
    ]

port_among : (r n k j : ℕ) (ps : List PortLine) (p : PortLine) → slice_get ps j ≡ Some p → n ≡ k + j → IsAmong (port_stop r n p) (port_stops r k ps)
port_among r n k j [] p h at = absurd (cc)
port_among r n k zero (x ∷ xs) p h at =
    let same : x ≡ p = cc in
    let e : k ≡ n = omega arith in
    inl (rw (same, e) refl)
port_among r n k (suc j) (x ∷ xs) p h at = inr (port_among r n (k + 1) j xs p h (omega arith))

port_found : (r k : ℕ) (ps : List PortLine) (g : Stop) → IsAmong g (port_stops r k ps) → (j : ℕ) × (p : PortLine) × (slice_get ps j ≡ Some p) × (port_stop r (k + j) p ≡ g)
port_found r k [] g h = absurd h
port_found r k (x ∷ xs) g h =
    elim h [
      | inl e ↦ let z : k + 0 ≡ k = omega arith in (zero, x, refl, rw z e)
      | inr later ↦
          let found : (j : ℕ) × (p : PortLine) × (slice_get xs j ≡ Some p) × (port_stop r (k + 1 + j) p ≡ g) = port_found r (k + 1) xs g later in
          let z : k + suc found.0 ≡ k + 1 + found.0 = omega arith in
          (suc found.0, found.1, found.2, rw z found.3)
    ]

repeater_among : (r n i j : ℕ) (rows : List RepeaterLine) (row : RepeaterLine) (p : PortLine) → slice_get rows i ≡ Some row → slice_get row.ports j ≡ Some p → n ≡ r + i → IsAmong (port_stop n j p) (repeater_stops r rows)
repeater_among r n i j [] row p h k at = absurd (cc)
repeater_among r n zero j (x ∷ xs) row p h k at =
    let same : row ≡ x = cc in
    let e : n ≡ r = omega arith in
    let first : slice_get x.ports j ≡ Some p = subst (λ (y : RepeaterLine). slice_get y.ports j ≡ Some p) same k in
    rw e (among_left (port_stop r j p) (port_stops r 0 x.ports) (repeater_stops (r + 1) xs) (port_among r j 0 j x.ports p first (omega arith)))
repeater_among r n (suc i) j (x ∷ xs) row p h k at =
    among_right (port_stop n j p) (port_stops r 0 x.ports) (repeater_stops (r + 1) xs) (repeater_among (r + 1) n i j xs row p h k (omega arith))

-- a port of these repeaters
record IsPortStop (r : ℕ) (rows : List RepeaterLine) (g : Stop) : Type 0 where
  i : ℕ
  j : ℕ
  line : PortLine
  of : IsPortOf rows i j line
  is : port_stop (r + i) j line ≡ g

repeater_found : (r : ℕ) (rows : List RepeaterLine) (g : Stop) → IsAmong g (repeater_stops r rows) → IsPortStop r rows g
repeater_found r [] g h = absurd h
repeater_found r (x ∷ xs) g h =
    elim (among_cases g (port_stops r 0 x.ports) (repeater_stops (r + 1) xs) h) [
      | inl first ↦
          let found : (j : ℕ) × (p : PortLine) × (slice_get x.ports j ≡ Some p) × (port_stop r (0 + j) p ≡ g) = port_found r 0 x.ports g first in
          let z : r + 0 ≡ r = omega arith in
          let y : 0 + found.0 ≡ found.0 = omega arith in
          record { i = zero; j = found.0; line = found.1; of = record { row = x; of_row = refl; of_port = found.2 }; is = rw z (rw y at found.3) }
      | inr later ↦
          let found : IsPortStop (r + 1) xs g = repeater_found (r + 1) xs g later in
          let z : r + suc found.i ≡ r + 1 + found.i = omega arith in
          record { i = suc found.i; j = found.j; line = found.line; of = record { row = found.of.row; of_row = found.of.of_row; of_port = found.of.of_port }; is = rw z found.is }
    ]

-- each of the layout's taps, and no other
all_among : (l : Layout) (t : Attachment) (line : PortLine) → place l t ≡ Some line → IsAmong (record { tap = t; segment = line.segment; at = line.at }) (all_stops l)
unfolding all_stops
all_among l (Station k) line h =
    let found : (s : StationLine) × (slice_get l.stations k ≡ Some s) = mapped tap_of (slice_get l.stations k) line h in
    let same : tap_of found.0 ≡ line = same_Some (tap_of found.0) line (sym (ap (option_map tap_of) found.1) ∙ h) in
    subst (λ (p : PortLine). IsAmong (record { tap = Station k; segment = p.segment; at = p.at }) (station_stops 0 l.stations ++ repeater_stops 0 l.repeaters)) same
    (among_left (station_stop k found.0) (station_stops 0 l.stations) (repeater_stops 0 l.repeaters) (station_among k 0 k l.stations found.0 found.1 (omega arith)))
all_among l (Port r q) line h =
    let found : IsPortOf l.repeaters r q line = port_of l r q line h in
    among_right (port_stop r q line) (station_stops 0 l.stations) (repeater_stops 0 l.repeaters) (repeater_among 0 r r q l.repeaters found.row line found.of_row found.of_port (omega arith))

all_found : (l : Layout) (g : Stop) → IsAmong g (all_stops l) → IsStop l g
unfolding all_stops
all_found l g h =
    elim (among_cases g (station_stops 0 l.stations) (repeater_stops 0 l.repeaters) h) [
      | inl station ↦
          let found : (j : ℕ) × (s : StationLine) × (slice_get l.stations j ≡ Some s) × (station_stop (0 + j) s ≡ g) = station_found 0 l.stations g station in
          let z : 0 + found.0 ≡ found.0 = omega arith in
          subst (IsStop l) (rw z at found.3) (ap (option_map tap_of) found.2)
      | inr port ↦
          let found : IsPortStop 0 l.repeaters g = repeater_found 0 l.repeaters g port in
          let z : 0 + found.i ≡ found.i = omega arith in
          subst (IsStop l) (rw z at found.is) (port_placed l found.i found.j found.line found.of)
    ]

on_among : (g : Stop) (n : ℕ) (all : List Stop) → IsAmong g all → g.segment ≡ n → IsAmong g (stops_on all n)
on_among g n [] h e = absurd h
on_among g n (x ∷ xs) h e =
    elim (cases_Bool (x.segment == n)) [
      | inl equal ↦ rw equal (elim h [ inl same ↦ inl same | inr later ↦ inr (on_among g n xs later e) ])
      | inr unlike ↦ rw unlike (elim h [
        | inl same ↦
            let at : (x.segment == n) ≡ true = (Decides-eqb x.segment n).1 (ap (λ (s : Stop). s.segment) same ∙ e) in
            let wrong : false ≡ true = sym unlike ∙ at in
            cc
        | inr later ↦ on_among g n xs later e
      ])
    ]

on_found : (g : Stop) (n : ℕ) (all : List Stop) → IsAmong g (stops_on all n) → IsAmong g all × (g.segment ≡ n)
on_found g n [] h = absurd h
on_found g n (x ∷ xs) h =
    elim (cases_Bool (x.segment == n)) [
      | inl equal ↦ elim (rw equal at h) [
        | inl same ↦ (inl same, ap (λ (s : Stop). s.segment) (sym same) ∙ (Decides-eqb x.segment n).0 equal)
        | inr later ↦ let found = on_found g n xs later in (inr found.0, found.1)
      ]
      | inr unlike ↦ let found = on_found g n xs (rw unlike at h) in (inr found.0, found.1)
    ]

list_at-counted : (f : ℕ → List Stop) (count n : ℕ) → n < count → list_at (map f (counted_up count)) n ≡ f n
list_at-counted f count n low =
    let within : n < length (counted_up count) = rw length-counted low in
    rw (slice_get-map f (counted_up count) n, slice_get-get_or (counted_up count) n 0 within, counted-at count n 0 low) refl

list_at-past : (f : ℕ → List Stop) (count n : ℕ) → count ≤ n → list_at (map f (counted_up count)) n ≡ []
list_at-past f count n high =
    let past : slice_get (map f (counted_up count)) n ≡ None = slice_get-map f (counted_up count) n ∙ ap (option_map f) (slice_get_past (counted_up count) n (rw (length-counted count) high)) in
    ap (λ (o : Option (List Stop)). unwrap_or o []) past

repeater_lists-at : (r n i : ℕ) (rows : List RepeaterLine) (row : RepeaterLine) → slice_get rows i ≡ Some row → n ≡ r + i → slice_get (repeater_lists r rows) i ≡ Some (port_stops n 0 row.ports)
repeater_lists-at r n i [] row h at = absurd (cc)
repeater_lists-at r n zero (x ∷ xs) row h at =
    let same : x ≡ row = cc in
    let e : r ≡ n = omega arith in
    rw (same, e) refl
repeater_lists-at r n (suc i) (x ∷ xs) row h at = repeater_lists-at (r + 1) n i xs row h (omega arith)

-- a tap beside another: it stands where it says, and both are of one part
pub record IsBeside (l : Layout) (w : Way) (a : Attachment) (g : Stop) : Type 0 where
  pub stands : IsStop l g
  pub part : ℕ
  pub from : part_by l w a ≡ Some part
  pub to : part_by l w g.tap ≡ Some part

module _ (l : Layout) (n : Network) (sound : IsSound l) (net : IsNetworkOf l n) where
  cable_list : (s : Stop) → IsStop l s → list_at n.segments s.segment ≡ stops_on (all_stops l) s.segment
  cable_list s stands = rw net.segments (list_at-counted (stops_on (all_stops l)) (length l.segments) s.segment (sound_stands l sound s.tap _ stands))

  -- each tap of a segment's list is on the segment, and each tap on the segment is in the list
  pub segment_each : (segment : ℕ) (g : Stop) → IsAmong g (list_at n.segments segment) → IsStop l g × (part_by l way.Cable g.tap ≡ Some segment)
  segment_each segment g among =
      let here : IsAmong g (list_at (map (stops_on (all_stops l)) (counted_up (length l.segments))) segment) = subst (λ (lists : List (List Stop)). IsAmong g (list_at lists segment)) net.segments among in
      elim (cases_lt segment (length l.segments)) [
        | inl low ↦
            let found : IsAmong g (all_stops l) × (g.segment ≡ segment) = on_found g segment (all_stops l) (subst (IsAmong g) (list_at-counted (stops_on (all_stops l)) (length l.segments) segment low) here) in
            let is : IsStop l g = all_found l g found.0 in
            (is, rw (is, found.1) refl)
        | inr high ↦ absurd (subst (IsAmong g) (list_at-past (stops_on (all_stops l)) (length l.segments) segment high) here)
      ]

  pub segment_all : (segment : ℕ) (t : Attachment) → part_by l way.Cable t ≡ Some segment → (s : Stop) × IsAmong s (list_at n.segments segment) × (s.tap ≡ t)
  segment_all segment t on =
      let there : (x : PortLine) × (place l t ≡ Some x) = mapped (λ (p : PortLine). p.segment) (place l t) segment on in
      let same : there.0.segment ≡ segment = same_Some there.0.segment segment (sym (ap (option_map (λ (p : PortLine). p.segment)) there.1) ∙ on) in
      let s : Stop = record { tap = t; segment = there.0.segment; at = there.0.at } in
      let among : IsAmong s (stops_on (all_stops l) there.0.segment) = on_among s there.0.segment (all_stops l) (all_among l t there.0 there.1) refl in
      let listed : IsAmong s (list_at n.segments there.0.segment) = subst (IsAmong s) (sym (cable_list s there.1)) among in
      (s, subst (λ (m : ℕ). IsAmong s (list_at n.segments m)) same listed, refl)

  port_list : (r p : ℕ) (line : PortLine) → place l (Port r p) ≡ Some line → (row : RepeaterLine) × (slice_get l.repeaters r ≡ Some row) × (list_at n.repeaters r ≡ port_stops r 0 row.ports)
  port_list r p line h =
      let found : IsPortOf l.repeaters r p line = port_of l r p line h in
      let e : slice_get (repeater_lists 0 l.repeaters) r ≡ Some (port_stops r 0 found.row.ports) = repeater_lists-at 0 r r l.repeaters found.row found.of_row (omega arith) in
      (found.row, found.of_row, rw (net.repeaters, e) refl)

  ports_found : (t : Attachment) (line : PortLine) (g : Stop) → place l t ≡ Some line → IsAmong g (ports_at n t) → IsBeside l way.Repeater t g
  ports_found (Station k) line g h among = absurd among
  ports_found (Port r p) line g h among =
      let at : (row : RepeaterLine) × (slice_get l.repeaters r ≡ Some row) × (list_at n.repeaters r ≡ port_stops r 0 row.ports) = port_list r p line h in
      let here : IsAmong g (port_stops r 0 at.0.ports) = subst (IsAmong g) at.2 among in
      let found : (j : ℕ) × (q : PortLine) × (slice_get at.0.ports j ≡ Some q) × (port_stop r (0 + j) q ≡ g) = port_found r 0 at.0.ports g here in
      let z : 0 + found.0 ≡ found.0 = omega arith in
      let stands : place l (Port r found.0) ≡ Some found.1 = port_placed l r found.0 found.1 (record { row = at.0; of_row = at.1; of_port = found.2 }) in
      let is : IsBeside l way.Repeater (Port r p) (port_stop r found.0 found.1) = record { stands = stands; part = r; from = rw h refl; to = rw stands refl } in
      subst (IsBeside l way.Repeater (Port r p)) (rw z at found.3) is

  pub beside_found : (w : Way) (s g : Stop) → IsStop l s → IsAmong g (stops_by n w s) → IsBeside l w s.tap g
  beside_found way.Cable s g stands among =
      let found : IsAmong g (all_stops l) × (g.segment ≡ s.segment) = on_found g s.segment (all_stops l) (subst (IsAmong g) (cable_list s stands) among) in
      let is : IsStop l g = all_found l g found.0 in
      record { stands = is; part = s.segment; from = rw stands refl; to = rw (is, found.1) refl }
  beside_found way.Repeater s g stands among = ports_found s.tap _ g stands among

  ports_among : (t g : Attachment) (line : PortLine) → place l t ≡ Some line → IsStep l way.Repeater t g → (s : Stop) × IsAmong s (ports_at n t) × (s.tap ≡ g)
  ports_among (Station k) g line h step = let none : None ≡ Some step.part = step.from in absurd (cc)
  ports_among (Port r p) (Station k) line h step = let none : None ≡ Some step.part = step.to in absurd (cc)
  ports_among (Port r p) (Port t q) line h step =
      let at : (row : RepeaterLine) × (slice_get l.repeaters r ≡ Some row) × (list_at n.repeaters r ≡ port_stops r 0 row.ports) = port_list r p line h in
      let same : t ≡ r = repeater_number l t q step.part step.to ∙ sym (repeater_number l r p step.part step.from) in
      let there : (x : PortLine) × (place l (Port t q) ≡ Some x) = mapped (λ _. t) (place l (Port t q)) step.part step.to in
      let here : place l (Port r q) ≡ Some there.0 = subst (λ (m : ℕ). place l (Port m q) ≡ Some there.0) same there.1 in
      let found : IsPortOf l.repeaters r q there.0 = port_of l r q there.0 here in
      let row : found.row ≡ at.0 = same_Some found.row at.0 (sym found.of_row ∙ at.1) in
      let line_at : slice_get at.0.ports q ≡ Some there.0 = subst (λ (x : RepeaterLine). slice_get x.ports q ≡ Some there.0) row found.of_port in
      let among : IsAmong (port_stop r q there.0) (port_stops r 0 at.0.ports) = port_among r q 0 q at.0.ports there.0 line_at (omega arith) in
      (port_stop r q there.0, subst (IsAmong (port_stop r q there.0)) (sym at.2) among, ap (λ (m : ℕ). Port m q) (sym same))

  pub beside_among : (w : Way) (s : Stop) (g : Attachment) → IsStop l s → IsStep l w s.tap g → (x : Stop) × IsAmong x (stops_by n w s) × (x.tap ≡ g)
  beside_among way.Cable s g stands step =
      let there : (x : PortLine) × (place l g ≡ Some x) = mapped (λ (p : PortLine). p.segment) (place l g) step.part step.to in
      let number : there.0.segment ≡ step.part = same_Some there.0.segment step.part (sym (ap (option_map (λ (p : PortLine). p.segment)) there.1) ∙ step.to) in
      let own : s.segment ≡ step.part = same_Some s.segment step.part (sym (ap (option_map (λ (p : PortLine). p.segment)) stands) ∙ step.from) in
      let x : Stop = record { tap = g; segment = there.0.segment; at = there.0.at } in
      let among : IsAmong x (stops_on (all_stops l) s.segment) = on_among x s.segment (all_stops l) (all_among l g there.0 there.1) (number ∙ sym own) in
      (x, subst (IsAmong x) (sym (cable_list s stands)) among, refl)
  beside_among way.Repeater s g stands step = ports_among s.tap g _ stands step
