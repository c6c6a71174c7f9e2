-- Parts stand in the network, window by window.
use Rattle.std.proofs.Common.{◌≡◌, ℕ, ◌+◌, ◌-◌, ◌*◌, ◌<◌, ◌≤◌, min, Bool, true, false, not, cond, ltb, List, [], ◌∷◌, map, length, inl, inr, refl, sym, ap, ap₂, ◌∙◌, arith}
use Rattle.std.proofs.lemmas.Bool.{cases_lt}
use Rattle.std.proofs.lemmas.Bool.Decides.{nat_tests}
use Rattle.manchester_line.specs.declared.Sym.{Sym}
use Rattle.manchester_line.specs.declared.Sym.TheVariants.{Idle}
use Rattle.load_plan.specs.declared.plan.Plan.{Plan}
use Rattle.network.specs.Outputs.{half_bits}
use Rattle.network.specs.Times.{decided}
use Rattle.net_parts.specs.Windows.{lookahead, windows, time, size}
use Rattle.net_parts.specs.Machines.{span, Ran, run_rows, columns, parcels_of}
use Rattle.net_parts.specs.SegmentParts.{wiring, SegmentState, segment_machine}
use Rattle.net_parts.specs.RepeaterParts.{RepeaterState, repeater_machine}
use Rattle.net_parts.specs.Standing.{arrives, port_hears, segment_at, repeater_at}
use Rattle.net_parts.specs.Parts.{OfSegment, OfRepeater, Made, is_segment_part, parts, repeater_number, device_of, edges_of_kind, part_of_kind, part_at, run_part}
use Rattle.net_parts.specs.Parcels.{true_symbols, next_stamp}
use Rattle.net_parts.proofs.NetworkFacts.{StationFacts, station_facts}
use Rattle.net_parts.proofs.NetworkFacts.{RepeaterFacts, repeater_facts}
use Rattle.net_parts.specs.PartLaws.{PartsGoOn}
use Rattle.net_parts.proofs.LookaheadLeads.{leads}
use Rattle.net_parts.proofs.SegmentSteps.{segment_truth}
use Rattle.net_parts.proofs.RepeaterSteps.{repeater_steps, repeater_gives}
use Rattle.net_parts.proofs.WindowCuts.{span_alike, columns_of, parcels_are, runs}
use Rattle.net_parts.proofs.WindowTimes.{begins_in_run}

abbrev symbols_of_kind : Plan → Bool → ℕ → ℕ → List Sym
symbols_of_kind plan true e w = span (port_hears plan e) (w * lookahead plan.layout) (size plan w)
symbols_of_kind plan false e w = span (arrives plan (lookahead plan.layout) e) (w * lookahead plan.layout) (min (lookahead plan.layout) (half_bits plan + lookahead plan.layout - w * lookahead plan.layout))

module _ (plan : Plan) (facts : StationFacts plan) (ports : RepeaterFacts plan) (u w : ℕ) (below : u < parts plan) (some : w < windows plan) where
  abbrev L : ℕ
  L = lookahead plan.layout

  abbrev H : ℕ
  H = half_bits plan

  starts : time plan w ≡ w * L
  starts = let b = begins_in_run plan w some in omega (arith, b)

  next_time : w * L + size plan w ≡ time plan (w + 1)
  next_time = let b = begins_in_run plan w some in omega (arith, b)

  at_segment : run_part plan u w (part_of_kind plan true u (time plan w)) (map (λ e. symbols_of_kind plan false e w) (edges_of_kind plan true u)) ≡ record { state = part_of_kind plan true u (time plan (w + 1)); symbols = map (λ e. symbols_of_kind plan true e w) (edges_of_kind plan true u) }
  unfolding run_part
  at_segment =
      let es = edges_of_kind plan true u in
      let n = size plan w in
      let m = segment_machine (wiring plan.layout u) L in
      let at = segment_at plan L (wiring plan.layout u) in
      let lead = leads plan.layout in
      let comes = λ (v : ℕ). map (λ e. arrives plan L e v) es in
      let goes = λ (v : ℕ). map (λ e. port_hears plan e v) es in
      let b = begins_in_run plan w some in
      let cols : columns (map (λ e. symbols_of_kind plan false e w) es) n ≡ span comes (w * L) n = columns_of (arrives plan L) (w * L) n (min L (H + L - w * L)) es (omega arith) in
      let all : run_rows m (span comes (w * L) n) (at (w * L)) ≡ record { state = at (w * L + n); rows = span goes (w * L) n } =
      runs m at comes goes (λ t. (segment_truth plan facts L u t lead).0) (λ t. (segment_truth plan facts L u t lead).1) (w * L) n in
      let both : run_rows m (columns (map (λ e. symbols_of_kind plan false e w) es) n) (at (time plan w)) ≡ record { state = at (time plan (w + 1)); rows = span goes (w * L) n } =
      ap₂ (run_rows m) cols (ap at starts) ∙ all ∙ ap (λ v. record { state = at v; rows = span goes (w * L) n }) next_time in
      ap (λ (r : Ran SegmentState). let x : Made = record { state = OfSegment r.state; symbols = parcels_of (length es) r.rows } in x) both
      ∙ ap (λ ss. let x : Made = record { state = OfSegment (at (time plan (w + 1))); symbols = ss } in x) (parcels_are (port_hears plan) es (w * L) n)

  is_repeater : is_segment_part plan u ≡ false → repeater_number plan u < length plan.layout.repeaters
  is_repeater e = let l : length plan.layout.segments ≤ u = not_less u (length plan.layout.segments) e in omega (arith, below, l)
    where
      not_less : (a b : ℕ) → ltb a b ≡ false → b ≤ a
      not_less a b h = elim (cases_lt a b) [ inl l ↦ grind (arith, nat_tests) | inr m ↦ m ]

  later : (e : ℕ) → span (decided plan e) (w * L) (size plan w) ≡ symbols_of_kind plan false e (w + 1)
  later e =
      let b = begins_in_run plan w some in
      let first : (w + 1) * L ≡ w * L + L = omega arith in
      let many : size plan w ≡ min L (H + L - (w + 1) * L) = omega (arith, first) in
      span_alike (decided plan e) (arrives plan L e) (w * L) ((w + 1) * L) (size plan w) (λ k h.
      let past : ltb ((w + 1) * L + k) L ≡ false = ge_ltb ((w + 1) * L + k) L (omega (arith, first)) in
      let back : (w + 1) * L + k - L ≡ w * L + k = omega (arith, first) in
      ap (decided plan e) (sym back) ∙ sym (ap (λ c. cond c Idle (decided plan e ((w + 1) * L + k - L))) past))
      ∙ ap (span (arrives plan L e) ((w + 1) * L)) many
    where
      ge_ltb : (a b : ℕ) → b ≤ a → ltb a b ≡ false
      ge_ltb a b h = grind (arith, nat_tests)

  at_repeater : is_segment_part plan u ≡ false → run_part plan u w (part_of_kind plan false u (time plan w)) (map (λ e. symbols_of_kind plan true e w) (edges_of_kind plan false u)) ≡ record { state = part_of_kind plan false u (time plan (w + 1)); symbols = map (λ e. symbols_of_kind plan false e (w + 1)) (edges_of_kind plan false u) }
  unfolding run_part
  at_repeater is =
      let es = edges_of_kind plan false u in
      let i = repeater_number plan u in
      let in_it : i < length plan.layout.repeaters = is_repeater is in
      let n = size plan w in
      let m = repeater_machine (device_of plan u) in
      let at = repeater_at plan i in
      let comes = λ (v : ℕ). map (λ e. port_hears plan e v) es in
      let goes = λ (v : ℕ). map (λ e. decided plan e v) es in
      let cols : columns (map (λ e. symbols_of_kind plan true e w) es) n ≡ span comes (w * L) n = columns_of (port_hears plan) (w * L) n n es (omega arith) in
      let all : run_rows m (span comes (w * L) n) (at (w * L)) ≡ record { state = at (w * L + n); rows = span goes (w * L) n } =
      runs m at comes goes (λ t. repeater_steps plan facts ports i t in_it) (λ t. repeater_gives plan facts ports i t in_it) (w * L) n in
      let both : run_rows m (columns (map (λ e. symbols_of_kind plan true e w) es) n) (at (time plan w)) ≡ record { state = at (time plan (w + 1)); rows = span goes (w * L) n } =
      ap₂ (run_rows m) cols (ap at starts) ∙ all ∙ ap (λ v. record { state = at v; rows = span goes (w * L) n }) next_time in
      ap (λ (r : Ran RepeaterState). let x : Made = record { state = OfRepeater r.state; symbols = parcels_of (length es) r.rows } in x) both
      ∙ ap (λ ss. let x : Made = record { state = OfRepeater (at (time plan (w + 1))); symbols = ss } in x) (parcels_are (decided plan) es (w * L) n ∙ each_later es)
    where
      each_later : (es : List ℕ) → map (λ e. span (decided plan e) (w * L) (size plan w)) es ≡ map (λ e. symbols_of_kind plan false e (w + 1)) es
      each_later [] = refl
      each_later (e ∷ es) = ap₂ ◌∷◌ (later e) (each_later es)

  pub by_kind : (b : Bool) → is_segment_part plan u ≡ b → run_part plan u w (part_of_kind plan b u (time plan w)) (map (λ e. true_symbols plan (not b) e w) (edges_of_kind plan b u))
      ≡ record { state = part_of_kind plan b u (time plan (w + 1)); symbols = map (λ e. true_symbols plan b e (next_stamp b w)) (edges_of_kind plan b u) }
  unfolding true_symbols
  by_kind true e = at_segment
  by_kind false e = at_repeater e

pub parts_go_on : PartsGoOn
unfolding part_at
parts_go_on plan u w below some = by_kind plan (station_facts plan) (repeater_facts plan) u w below some (is_segment_part plan u) refl
