-- Each tap of a segment hears in the part what it hears in the network.
use Rattle.std.proofs.Common.{◌≡◌, ◌≢◌, ℕ, suc, ◌+◌, ◌-◌, ◌<◌, ◌≤◌, cond, eqb, ltb, inl, inr, List, map, take, length, length-append, get_or, sym, ap, ap₂, ◌∙◌, arith}
use Rattle.std.proofs.lemmas.List.{length-map, get_or-map, get_or_append_left, get_or-append_right}
use Rattle.std.proofs.lemmas.Bool.{cases_lt, cases_order}
use Rattle.std.proofs.lemmas.Bool.Decides.{nat_tests}
use Rattle.manchester_line.specs.declared.Sym.{Sym}
use Rattle.mac_parameters.specs.Distances.{distance}
use Rattle.cable_segment.specs.Bus.{heard_among, heard_at}
use Rattle.layout.specs.declared.lines.Layout.{Layout}
use Rattle.layout.specs.declared.lines.PortLine.{PortLine}
use Rattle.load_plan.specs.declared.plan.Plan.{Plan}
use Rattle.layout.specs.Taps.{tap_of, taps_of, positions_on}
use Rattle.network.specs.Net.{emitted_before}
use Rattle.network.specs.Times.{heard, emitted, decided, earlier, port_delays}
use Rattle.network.specs.TapsOnSegments.{count_on}
use Rattle.net_parts.specs.Windows.{edge_ports}
use Rattle.net_parts.specs.Machines.{span, rows_before}
use Rattle.net_parts.specs.SegmentParts.{Wiring, wiring, told_on}
use Rattle.net_parts.specs.Standing.{arrives, port_hears}
use Rattle.net_parts.specs.PartLaws.{IsLead}
use Rattle.net_parts.proofs.NetworkFacts.{StationFacts}
use Rattle.network.proofs.HearingOnSegments.{hears_alike}
use Rattle.network.proofs.TapsOnSegments.{position_at, number_at, count_below, length-numbers, same_number}
use Rattle.net_parts.proofs.LateRows.{before_is, earlier_alike, arrived_is, span_of}
use Rattle.net_parts.proofs.StationNumbers.{numbered, count-left, count-right}

some_way : (a b : ℕ) → a ≢ b → 1 ≤ distance a b
some_way a b ne = elim (cases_order a b) [
  | inl e ↦ absurd (ne e)
  | inr less ↦ elim less [ inl l ↦ omega arith | inr l ↦ omega arith ]
]

test_true : (a b : ℕ) (x y : Sym) → a < b → cond (ltb a b) x y ≡ x
test_true a b x y h = grind (arith, nat_tests)

test_false : (a b : ℕ) (x y : Sym) → b ≤ a → cond (ltb a b) x y ≡ y
test_false a b x y h = grind (arith, nat_tests)

-- told back r: what tap r of segment s emitted `back` half bits before half bit t
module _ (plan : Plan) (facts : StationFacts plan) (L s t : ℕ) (lead : IsLead plan.layout L) (told : ℕ → ℕ → Sym)
    (stations_told : (r back : ℕ) → r < length (wiring plan.layout s).stations → 1 ≤ back → told back r ≡ earlier (emitted plan (get_or (wiring plan.layout s).stations r 0)) t back)
    (ports_told : (p back : ℕ) → p < length (wiring plan.layout s).edges → L ≤ back + get_or (wiring plan.layout s).delays p 0 →
    told back (length (wiring plan.layout s).stations + p) ≡ earlier (arrives plan L (get_or (wiring plan.layout s).edges p 0)) (suc t) (back + get_or (wiring plan.layout s).delays p 0 + 1 - L)) where
  abbrev l : Layout
  l = plan.layout

  abbrev xs : List PortLine
  xs = map tap_of l.stations

  abbrev ys : List PortLine
  ys = edge_ports l

  abbrev w : Wiring
  w = wiring l s

  abbrev many : ℕ
  many = length l.stations

  size : length xs ≡ many
  size = length-map l.stations tap_of

  all_sizes : length (taps_of l) ≡ many + length ys
  all_sizes = let sum = length-append xs ys in omega (arith, size, sum)

  -- what another tap of the segment is told to have emitted
  told_alike : (m back c : ℕ) (d : PortLine) → m < length (taps_of l) → (get_or (taps_of l) m d).segment ≡ s → c ≡ count_on s (take m (taps_of l)) → 1 ≤ back →
      ((e : ℕ) → m ≡ many + e → L ≤ back + get_or (port_delays l) e 0) → told back c ≡ earlier (emitted plan m) t back
  told_alike m back c d h on is some far = elim (cases_lt m many) [
    | inl station ↦
        let at : get_or xs m d ≡ get_or (taps_of l) m d = sym (get_or_append_left xs ys d m (omega (arith, size))) in
        let on_x : (get_or xs m d).segment ≡ s = ap (λ (x : PortLine). x.segment) at ∙ on in
        let c_is : c ≡ count_on s (take m xs) = is ∙ count-left s xs ys m (omega (arith, size)) in
        let below : count_on s (take m xs) < length (positions_on s xs) = count_below s xs m d (omega (arith, size)) on_x in
        let all_on : length w.stations ≡ length (positions_on s xs) = length-numbers s 0 xs in
        let number : get_or w.stations c 0 ≡ m = ap (λ j. get_or w.stations j 0) c_is ∙ number_at s 0 xs m d (omega (arith, size)) on_x ∙ omega arith in
        stations_told c back (omega (arith, c_is, below, all_on)) some ∙ ap (λ j. earlier (emitted plan j) t back) number
    | inr port ↦
        let e = m - many in
        let in_ys : e < length ys = omega (arith, all_sizes) in
        let at : get_or ys e d ≡ get_or (taps_of l) m d = sym (get_or-append_right xs ys many m d size port) in
        let on_y : (get_or ys e d).segment ≡ s = ap (λ (x : PortLine). x.segment) at ∙ on in
        let before : c ≡ length w.stations + count_on s (take e ys) = is ∙ count-right s 0 xs ys e m (omega (arith, size)) in
        let p = c - length w.stations in
        let p_is : p ≡ count_on s (take e ys) = omega (arith, before) in
        let below : count_on s (take e ys) < length (positions_on s ys) = count_below s ys e d in_ys on_y in
        let all_on : length w.edges ≡ length (positions_on s ys) = length-numbers s 0 ys in
        let number : get_or w.edges p 0 ≡ e = ap (λ j. get_or w.edges j 0) p_is ∙ number_at s 0 ys e d in_ys on_y ∙ omega arith in
        let delay : get_or w.delays p 0 ≡ get_or (port_delays l) e 0 = get_or-map (λ j. get_or (port_delays l) j 0) w.edges p 0 0 (omega (arith, p_is, below, all_on)) ∙ ap (λ j. get_or (port_delays l) j 0) number in
        let lag = get_or (port_delays l) e 0 in
        let enough : L ≤ back + lag = far e (omega arith) in
        (let port_of : c ≡ length w.stations + p = omega (arith, before) in ap (told back) port_of)
        ∙ ports_told p back (omega (arith, p_is, below, all_on)) (omega (arith, delay, enough))
        ∙ ap₂ (λ j x. earlier (arrives plan L j) (suc t) (back + x + 1 - L)) number delay
        ∙ arrived_is (decided plan e) L t back lag enough
        ∙ sym (earlier_alike (emitted plan (many + e)) (λ v. earlier (decided plan e) v lag) t back (λ v. facts.late v e in_ys))
        ∙ (let same : many + e ≡ m = omega arith in ap (λ j. earlier (emitted plan j) t back) same)
  ]

  -- a tap of the segment, by its number among all
  hears_there : (q c : ℕ) (d : PortLine) → q < length (taps_of l) → (get_or (taps_of l) q d).segment ≡ s → c ≡ count_on s (take q (taps_of l)) → heard_at told w.positions c ≡ heard plan q t
  hears_there q c d h on is =
      let all = taps_of l in
      let here = get_or all q d in
      ap (λ j. heard_at told w.positions j) is
      ∙ ap (λ at. heard_among told (count_on s (take q all)) at 0 w.positions) (position_at s all q d h on)
      ∙ hears_alike told (λ back m. earlier (emitted plan m) t back) s q here d (count_on s (take q all)) on all 0 0
      (λ i a m le ea em es.
      let number : a ≡ count_on s (take i all) = omega (arith, ea) in
      let same : i ≡ m = omega (arith, em) in
      ap (λ z. eqb z (count_on s (take q all))) number ∙ same_number s all i q d le h es on ∙ ap (λ z. eqb z q) same)
      (λ i a m le ea em es ne.
      let same : i ≡ m = omega (arith, em) in
      let in_all : m < length all = omega (arith, same, le) in
      let other : (get_or all m d).segment ≡ s = ap (λ j. (get_or all j d).segment) (sym same) ∙ es in
      let way = distance here.at (get_or all i d).at in
      let some : 1 ≤ way = some_way here.at (get_or all i d).at (facts.apart q i d h le (λ z. ne (sym same ∙ sym z)) (on ∙ sym es)) in
      told_alike m way a d in_all other (omega (arith, ea) ∙ ap (λ j. count_on s (take j all)) same) some
      (λ e is_port.
      let in_ys : e < length ys = omega (arith, all_sizes, in_all) in
      let port : get_or all i d ≡ get_or ys e d = get_or-append_right xs ys many i d size (omega (arith, same)) ∙ (let z : i - many ≡ e = omega (arith, same) in ap (λ j. get_or ys j d) z) in
      let far = lead e q d in_ys h (λ z. ne (is_port ∙ sym z)) (on ∙ sym es ∙ ap (λ (x : PortLine). x.segment) port) in
      let same_way : distance here.at (get_or ys e d).at ≡ way = ap (λ (x : PortLine). distance here.at x.at) (sym port) in
      omega (arith, far, same_way)))
      ∙ sym (facts.hears t q d h)

  nowhere : PortLine
  nowhere = record { segment = 0; at = 0 }

  pub station_hears : (r m : ℕ) → r < length w.stations → m ≡ r → heard_at told w.positions m ≡ heard plan (get_or w.stations r 0) t
  station_hears r m h e =
      let is = numbered s 0 xs r nowhere h in
      let i = is.i in
      let in_xs = is.within in
      let at : get_or (taps_of l) i nowhere ≡ get_or xs i nowhere = get_or_append_left xs ys nowhere i in_xs in
      let place : m ≡ count_on s (take i (taps_of l)) = omega (arith, e, is.before) ∙ sym (count-left s xs ys i (omega (arith, in_xs))) in
      let number : i ≡ get_or w.stations r 0 = omega (arith, is.number) in
      hears_there i m nowhere (omega (arith, in_xs, size, all_sizes)) (ap (λ (x : PortLine). x.segment) at ∙ is.on) place ∙ ap (λ j. heard plan j t) number

  pub port_hears_so : (p m : ℕ) → p < length w.edges → m ≡ length w.stations + p → heard_at told w.positions m ≡ port_hears plan (get_or w.edges p 0) t
  port_hears_so p m h e =
      let is = numbered s 0 ys p nowhere h in
      let i = is.i in
      let in_ys = is.within in
      let q = many + i in
      let minus : q - many ≡ i = omega arith in
      let at : get_or (taps_of l) q nowhere ≡ get_or ys i nowhere = get_or-append_right xs ys many q nowhere size (omega arith) ∙ ap (λ j. get_or ys j nowhere) minus in
      let place : m ≡ count_on s (take q (taps_of l)) = omega (arith, e, is.before) ∙ sym (count-right s 0 xs ys i q (omega (arith, size))) in
      let number : i ≡ get_or w.edges p 0 = omega (arith, is.number) in
      hears_there q m nowhere (omega (arith, in_ys, all_sizes)) (ap (λ (x : PortLine). x.segment) at ∙ is.on) place ∙ ap (λ j. port_hears plan j t) number

-- by rows
module _ (plan : Plan) (facts : StationFacts plan) (L s t : ℕ) (lead : IsLead plan.layout L) where
  abbrev wires : Wiring
  wires = wiring plan.layout s

  abbrev own : List (List Sym)
  own = rows_before (λ u. map (λ k. emitted plan k u) wires.stations) t

  abbrev arrived : List (List Sym)
  arrived = rows_before (λ u. map (λ e. arrives plan L e u) wires.edges) (suc t)

  by_stations : (r back : ℕ) → r < length wires.stations → 1 ≤ back → told_on wires L own arrived back r ≡ earlier (emitted plan (get_or wires.stations r 0)) t back
  by_stations r back h some = test_true r (length wires.stations) _ _ h ∙ before_is (emitted plan) wires.stations t back r some h

  by_ports : (p back : ℕ) → p < length wires.edges → L ≤ back + get_or wires.delays p 0 →
      told_on wires L own arrived back (length wires.stations + p) ≡ earlier (arrives plan L (get_or wires.edges p 0)) (suc t) (back + get_or wires.delays p 0 + 1 - L)
  by_ports p back h far =
      let at : length wires.stations + p - length wires.stations ≡ p = omega arith in
      test_false (length wires.stations + p) (length wires.stations) _ _ (omega arith)
      ∙ ap (λ j. emitted_before arrived (back + get_or wires.delays j 0 + 1 - L) j) at
      ∙ before_is (arrives plan L) wires.edges (suc t) (back + get_or wires.delays p 0 + 1 - L) p (omega arith) h

  pub stations_hear : span (λ r. heard_at (told_on wires L own arrived) wires.positions r) 0 (length wires.stations) ≡ map (λ k. heard plan k t) wires.stations
  stations_hear = span_of _ _ 0 wires.stations (λ r m h e. station_hears plan facts L s t lead (told_on wires L own arrived) by_stations by_ports r m h (omega (arith, e)))

  pub ports_hear : span (λ r. heard_at (told_on wires L own arrived) wires.positions r) (length wires.stations) (length wires.edges) ≡ map (λ e. port_hears plan e t) wires.edges
  ports_hear = span_of _ _ (length wires.stations) wires.edges (λ p m h e. port_hears_so plan facts L s t lead (told_on wires L own arrived) by_stations by_ports p m h e)
