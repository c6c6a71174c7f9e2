-- What a segment's taps hear by its lines is what they hear in the network.
use Rattle.std.proofs.Common.{◌≡◌, ℕ, suc, ◌+◌, ◌-◌, ◌<◌, ◌≤◌, cond, eqb, leb, ltb, inl, inr, List, [], ◌∷◌, map, length, get_or, refl, sym, subst, ap, ap₂, ◌∙◌, arith}
use Rattle.std.proofs.lemmas.List.{get_or-map, length-map}
use Rattle.std.proofs.lemmas.Bool.{cases_lt}
use Rattle.std.proofs.lemmas.Bool.Decides.{nat_tests}
use Rattle.manchester_line.specs.declared.Sym.{Sym}
use Rattle.manchester_line.specs.declared.Sym.TheVariants.{Idle}
use Rattle.manchester_line.specs.Line.{mix_of}
use Rattle.mac_parameters.specs.Distances.{distance}
use Rattle.cable_segment.specs.Bus.{heard_among, heard_at}
use Rattle.load_plan.specs.declared.plan.Plan.{Plan}
use Rattle.network.specs.Times.{heard, emitted, earlier}
use Rattle.net_parts.specs.SegmentParts.{Wiring, wiring}
use Rattle.net_parts.specs.Standing.{arrives, port_hears}
use Rattle.net_parts.specs.CalmPieces.{told_by_lines}
use Rattle.net_parts.specs.PartLaws.{IsLead}
use Rattle.net_parts.proofs.NetworkFacts.{StationFacts}
use Rattle.net_parts.proofs.LateRows.{if_true, if_false}
use Rattle.net_parts.proofs.SegmentHearing.{station_hears, port_hears_so}
use Rattle.tap_lines.specs.TapLines.{TapLine, no_line, symbol_on, half_bits_back, heard_of_lines, heard_by_lines}
use Rattle.segment_engine.specs.KnownLines.{KnowLines}

test_true : {X : Type 0} (a b : ℕ) (x y : X) → a < b → cond (ltb a b) x y ≡ x
test_true a b x y h = grind (arith, nat_tests)

test_false : {X : Type 0} (a b : ℕ) (x y : X) → b ≤ a → cond (ltb a b) x y ≡ y
test_false a b x y h = grind (arith, nat_tests)

-- one half bit later it was as much longer ago
earlier_more : (f : ℕ → Sym) (t back : ℕ) → earlier f t back ≡ earlier f (suc t) (back + 1)
earlier_more f t back = elim (cases_lt t back) [
  | inl early ↦ if_false {m = back} {n = t} _ _ early ∙ sym (if_false {m = back + 1} {n = suc t} _ _ (omega arith))
  | inr there ↦
      let same : t - back ≡ suc t - (back + 1) = omega arith in
      if_true {m = back} {n = t} _ _ there ∙ ap f same ∙ sym (if_true {m = back + 1} {n = suc t} _ _ (omega arith))
]

-- the mix over lines is the mix over taps
mixed_alike : (L t p at q : ℕ) (told : ℕ → ℕ → Sym) (ls : List TapLine) →
    ((i r : ℕ) → i < length ls → r ≡ q + i → earlier (symbol_on (get_or ls i no_line)) t (half_bits_back L at (get_or ls i no_line)) ≡ told (distance at (get_or ls i no_line).at) r) →
    heard_of_lines L t p at q ls ≡ heard_among told p at q (map (λ (l : TapLine). l.at) ls)
mixed_alike L t p at q told [] same = refl
mixed_alike L t p at q told (l ∷ ls) same =
    ap₂ mix_of
    (ap (λ s. cond (eqb q p) Idle s) (same 0 q (omega arith) (omega arith)))
    (mixed_alike L t p at (q + 1) told ls (λ i r h e. same (suc i) r (omega arith) (omega (arith, e))))

-- what a line says of so many half bits before
said_before : (f : ℕ → Sym) (l : TapLine) (t back end : ℕ) → l.base ≤ t - l.backlog → ((u : ℕ) → l.base ≤ u → u < end → symbol_on l u ≡ f u) → back ≤ l.backlog → (back ≤ t → t - back < end) → earlier (symbol_on l) t back ≡ earlier f t back
said_before f l t back end begins says near below = elim (cases_lt t back) [
  | inl early ↦ if_false {m = back} {n = t} _ _ early ∙ sym (if_false {m = back} {n = t} _ _ early)
  | inr there ↦ if_true {m = back} {n = t} _ _ there ∙ says (t - back) (omega (arith, begins, near)) (below there) ∙ sym (if_true {m = back} {n = t} _ _ there)
]

module _ (plan : Plan) (facts : StationFacts plan) (L s t front : ℕ) (lead : IsLead plan.layout L) (ls : List TapLine)
    (are : KnowLines plan (wiring plan.layout s) L t front ls) (front_ahead : t < front) where
  abbrev w : Wiring
  w = wiring plan.layout s

  abbrev n : ℕ
  n = length w.stations

  line_of : ℕ → TapLine
  line_of r = get_or ls r no_line

  truth : ℕ → ℕ → Sym
  truth r u = emitted plan (get_or w.stations r 0) u

  -- what the lines say where a tap is near enough, and else what is so
  told : ℕ → ℕ → Sym
  told back r = cond (leb (back + (line_of r).delay - L) (line_of r).backlog) (earlier (symbol_on (line_of r)) t (back + (line_of r).delay - L)) (told_by_lines plan w L truth t back r)

  stations_told : (r back : ℕ) → r < n → 1 ≤ back → told back r ≡ earlier (emitted plan (get_or w.stations r 0)) t back
  unfolding told line_of truth
  stations_told r back h some = elim (cases_lt (get_or ls r no_line).backlog (back + (get_or ls r no_line).delay - L)) [
    | inl far ↦ if_false {m = back + (get_or ls r no_line).delay - L} {n = (get_or ls r no_line).backlog} _ _ far ∙ test_true r n _ _ h
    | inr close ↦
        let e : back + L - L ≡ back = omega arith in
        let wait = are.no_delays r h in
        if_true {m = back + (get_or ls r no_line).delay - L} {n = (get_or ls r no_line).backlog} _ _ close
        ∙ ap (λ d. earlier (symbol_on (get_or ls r no_line)) t (back + d - L)) (are.no_delays r h)
        ∙ ap (earlier (symbol_on (get_or ls r no_line)) t) e
        ∙ said_before (emitted plan (get_or w.stations r 0)) (get_or ls r no_line) t back t (are.begins r (let m = are.many in omega (arith, h, m))) (λ u low high. are.emissions r u h low high) (omega (arith, close, wait)) (λ there. omega (arith, some, there))
  ]

  ports_told : (p back : ℕ) → p < length w.edges → L ≤ back + get_or w.delays p 0 →
      told back (n + p) ≡ earlier (arrives plan L (get_or w.edges p 0)) (suc t) (back + get_or w.delays p 0 + 1 - L)
  unfolding told line_of truth
  ports_told p back h far = elim (cases_lt (get_or ls (n + p) no_line).backlog (back + (get_or ls (n + p) no_line).delay - L)) [
    | inl away ↦
        let at : n + p - n ≡ p = omega arith in
        if_false {m = back + (get_or ls (n + p) no_line).delay - L} {n = (get_or ls (n + p) no_line).backlog} _ _ away
        ∙ test_false (n + p) n _ _ (omega arith)
        ∙ ap (λ j. earlier (arrives plan L (get_or w.edges j 0)) (suc t) (back + get_or w.delays j 0 + 1 - L)) at
    | inr close ↦
        let d = get_or w.delays p 0 in
        let wait = are.delays p h in
        let e : back + d - L + 1 ≡ back + d + 1 - L = omega (arith, far) in
        let in_reach : back + d - L ≤ (get_or ls (n + p) no_line).backlog = omega (arith, close, wait) in
        if_true {m = back + (get_or ls (n + p) no_line).delay - L} {n = (get_or ls (n + p) no_line).backlog} _ _ close
        ∙ ap (λ x. earlier (symbol_on (get_or ls (n + p) no_line)) t (back + x - L)) (are.delays p h)
        ∙ said_before (arrives plan L (get_or w.edges p 0)) (get_or ls (n + p) no_line) t (back + d - L) front (are.begins (n + p) (let m = are.many in omega (arith, h, m))) (λ u low high. are.arrivals p u h low high) in_reach (λ there. omega (arith, front_ahead))
        ∙ earlier_more (arrives plan L (get_or w.edges p 0)) t (back + d - L)
        ∙ ap (earlier (arrives plan L (get_or w.edges p 0)) (suc t)) e
  ]

  places_size : length ls ≡ length w.positions
  places_size = sym (length-map ls (λ (l : TapLine). l.at)) ∙ ap length are.places

  place_at : (i : ℕ) → i < length ls → (get_or ls i no_line).at ≡ get_or w.positions i 0
  place_at i h = sym (get_or-map (λ (l : TapLine). l.at) ls i no_line 0 h) ∙ ap (λ xs. get_or xs i 0) are.places

  -- what a tap hears by the lines
  by_bus : (p : ℕ) → p < length ls → heard_by_lines L t ls p ≡ heard_at told w.positions p
  unfolding told line_of
  by_bus p h =
      let at = (get_or ls p no_line).at in
      mixed_alike L t p at 0 told ls (λ i r l e.
      let d = distance at (get_or ls i no_line).at in
      let x = get_or ls i no_line in
      let way : d ≡ distance (get_or w.positions p 0) (get_or w.positions i 0) = ap₂ distance (place_at p h) (place_at i l) in
      let close = are.near p i (omega (arith, h, places_size)) l in
      let same : r ≡ i = omega (arith, e) in
      sym (ap (told d) same ∙ if_true {m = d + x.delay - L} {n = x.backlog} _ _ (subst (λ k. k + x.delay - L ≤ x.backlog) (sym way) close)))
      ∙ ap (λ xs. heard_among told p at 0 xs) are.places
      ∙ ap (λ x. heard_among told p x 0 w.positions) (place_at p h)

  -- that is what each station, and each port, hears
  pub station_by_lines : (r : ℕ) → r < n → heard plan (get_or w.stations r 0) t ≡ heard_by_lines L t ls r
  station_by_lines r h =
      let many = are.many in
      sym (by_bus r (omega (arith, many, h)) ∙ station_hears plan facts L s t lead told stations_told ports_told r r h (omega arith))

  pub port_by_lines : (p : ℕ) → p < length w.edges → port_hears plan (get_or w.edges p 0) t ≡ heard_by_lines L t ls (n + p)
  port_by_lines p h =
      let many = are.many in
      sym (by_bus (n + p) (omega (arith, many, h)) ∙ port_hears_so plan facts L s t lead told stations_told ports_told p (n + p) h (omega arith))
