-- What is told ahead of a piece in which every station is calm comes true, half bit by half bit.
use Rattle.std.proofs.Common.{◌≡◌, ℕ, zero, suc, ◌+◌, ◌-◌, ◌<◌, ◌≤◌, Bool, cond, ltb, inl, inr, length, get_or, refl, sym, subst, ap, ◌∙◌, arith}
use Rattle.std.proofs.lemmas.Bool.{cases_lt}
use Rattle.std.proofs.lemmas.Bool.Decides.{nat_tests}
use Rattle.manchester_line.specs.declared.Sym.{Sym}
use Rattle.manchester_line.specs.declared.Sym.TheVariants.{Idle}
use Rattle.manchester_line.specs.Line.{is_signal}
use Rattle.load_plan.specs.declared.plan.Plan.{Plan}
use Rattle.mac_transmit.specs.Sender.{sender_step}
use Rattle.mac_transmit.specs.Calm.{after_all, AllHeardAs, calm_of}
use Rattle.mac_transmit.specs.Emissions.{emission_by, CalmSendersEmit}
use Rattle.mac_transmit.proofs.CalmEmissions.{calm_senders_emit}
use Rattle.network.specs.Attempts.{sender_at}
use Rattle.network.specs.Times.{heard, emitted, earlier}
use Rattle.net_parts.specs.Windows.{lookahead}
use Rattle.net_parts.specs.Machines.{span}
use Rattle.net_parts.specs.SegmentParts.{Wiring, wiring}
use Rattle.net_parts.specs.Standing.{arrives, port_hears}
use Rattle.net_parts.specs.PartLaws.{IsLead}
use Rattle.net_parts.specs.CalmPieces.{told_by_lines, hears_by_lines, IsSteadyPiece, PiecesComeTrue}
use Rattle.net_parts.proofs.NetworkFacts.{StationFacts, station_facts}
use Rattle.net_parts.proofs.LookaheadLeads.{leads}
use Rattle.net_parts.proofs.SegmentHearing.{station_hears, port_hears_so}
use Rattle.net_parts.proofs.RepeaterSteps.{length-span, get_or-span}
use Rattle.net_parts.proofs.SegmentSteps.{below}

test_true : (a b : ℕ) (x y : Sym) → a < b → cond (ltb a b) x y ≡ x
test_true a b x y h = grind (arith, nat_tests)

test_false : (a b : ℕ) (x y : Sym) → b ≤ a → cond (ltb a b) x y ≡ y
test_false a b x y h = grind (arith, nat_tests)

-- what is said alike of each half bit before this one
earlier_below : (f g : ℕ → Sym) (u back : ℕ) → 1 ≤ back → ((v : ℕ) → v < u → f v ≡ g v) → earlier f u back ≡ earlier g u back
earlier_below f g u back some same = elim (cases_lt u back) [
  | inl past ↦ none f past ∙ sym (none g past)
  | inr within ↦ there f within ∙ same (u - back) (omega arith) ∙ sym (there g within)
]
  where
    none : (h : ℕ → Sym) → u < back → earlier h u back ≡ Idle
    none h l = grind (arith, nat_tests)

    there : (h : ℕ → Sym) → back ≤ u → earlier h u back ≡ h (u - back)
    there h l = grind (arith, nat_tests)

module _ (plan : Plan) (facts : StationFacts plan) (L s : ℕ) (lead : IsLead plan.layout L) where
  abbrev w : Wiring
  w = wiring plan.layout s

  -- lines that are right before half bit u let hear what is heard in it
  module _ (line : ℕ → ℕ → Sym) (u : ℕ) (right : (r v : ℕ) → r < length w.stations → v < u → line r v ≡ emitted plan (get_or w.stations r 0) v) where
    by_stations : (r back : ℕ) → r < length w.stations → 1 ≤ back → told_by_lines plan w L line u back r ≡ earlier (emitted plan (get_or w.stations r 0)) u back
    by_stations r back h some = test_true r (length w.stations) _ _ h ∙ earlier_below (line r) (emitted plan (get_or w.stations r 0)) u back some (λ v l. right r v h l)

    by_ports : (p back : ℕ) → p < length w.edges → L ≤ back + get_or w.delays p 0 →
        told_by_lines plan w L line u back (length w.stations + p) ≡ earlier (arrives plan L (get_or w.edges p 0)) (suc u) (back + get_or w.delays p 0 + 1 - L)
    by_ports p back h far =
        let at : length w.stations + p - length w.stations ≡ p = omega arith in
        test_false (length w.stations + p) (length w.stations) _ _ (omega arith)
        ∙ ap (λ j. earlier (arrives plan L (get_or w.edges j 0)) (suc u) (back + get_or w.delays j 0 + 1 - L)) at

    pub station_hears_so : (r : ℕ) → r < length w.stations → hears_by_lines plan w L line u r ≡ heard plan (get_or w.stations r 0) u
    station_hears_so r h = station_hears plan facts L s u lead (told_by_lines plan w L line u) by_stations by_ports r r h refl

    pub port_hears_line : (p : ℕ) → p < length w.edges → hears_by_lines plan w L line u (length w.stations + p) ≡ port_hears plan (get_or w.edges p 0) u
    port_hears_line p h = port_hears_so plan facts L s u lead (told_by_lines plan w L line u) by_stations by_ports p (length w.stations + p) h refl

  -- a sender after several half bits
  runs_on : (k j t : ℕ) → k < length plan.layout.stations → sender_at plan k (t + j) ≡ after_all (sender_at plan k t) (span (heard plan k) t j)
  runs_on k zero t h = let e : t + 0 ≡ t = omega arith in ap (sender_at plan k) e
  runs_on k (suc j) t h =
      let e : t + suc j ≡ suc t + j = omega arith in
      ap (sender_at plan k) e ∙ runs_on k j (suc t) h ∙ ap (λ x. after_all x (span (heard plan k) (suc t) j)) (facts.steps k t h)

  module _ (emits : CalmSendersEmit) (t m : ℕ) (line : ℕ → ℕ → Sym) (carrier : ℕ → Bool) (piece : IsSteadyPiece plan w L line carrier t m) where
    -- lines that were right so far
    abbrev AreRight : ℕ → Type 0
    AreRight u = (r v : ℕ) → r < length w.stations → v < u → line r v ≡ emitted plan (get_or w.stations r 0) v

    heard_as : (j : ℕ) → j < m → AreRight (t + j) → (r i : ℕ) → r < length w.stations → i ≤ j → is_signal (heard plan (get_or w.stations r 0) (t + i)) ≡ carrier r
    heard_as j h right r i hr hi =
        ap is_signal (sym (station_hears_so line (t + i) (λ q v l b. right q v l (omega arith)) r hr)) ∙ piece.steady r i hr (omega arith)

    comes_true : (j : ℕ) → j < m → AreRight (t + j) → (r : ℕ) → r < length w.stations → line r (t + j) ≡ emitted plan (get_or w.stations r 0) (t + j)
    comes_true j h right r hr =
        let k = get_or w.stations r 0 in
        let station : k < length plan.layout.stations = below plan facts L s t lead r hr in
        let s0 = sender_at plan k t in
        let hs = span (heard plan k) t j in
        let size : length hs ≡ j = length-span (heard plan k) t j in
        let all : AllHeardAs (carrier r) hs = λ i d l.
        let in_it : i < j = omega (arith, l, size) in
        ap is_signal (get_or-span (heard plan k) t j i d in_it) ∙ heard_as j h right r i hr (omega arith) in
        let enough : length hs < calm_of s0 (carrier r) = let c = piece.calm r hr in omega (arith, c, h, size) in
        piece.goes_on r j hr h
        ∙ ap (λ i. emission_by s0 i s0.phase) (sym size)
        ∙ sym (emits s0 (carrier r) hs (heard plan k (t + j)) all (heard_as j h right r j hr (omega arith)) enough)
        ∙ ap (λ x. (sender_step x (heard plan k (t + j))).emitted) (sym (runs_on k j t station))
        ∙ sym (facts.emits k (t + j) station)

    right_to : (j : ℕ) → j ≤ m → AreRight (t + j)
    right_to zero h r v hr l = piece.told r v hr (omega arith)
    right_to (suc j) h r v hr l = elim (cases_lt v (t + j)) [
      | inl before ↦ right_to j (omega arith) r v hr before
      | inr now ↦ let e : t + j ≡ v = omega arith in subst (λ u. line r u ≡ emitted plan (get_or w.stations r 0) u) e (comes_true j (omega arith) (right_to j (omega arith)) r hr)
    ]

    pub emitted_so : (r u : ℕ) → r < length w.stations → u < t + m → emitted plan (get_or w.stations r 0) u ≡ line r u
    emitted_so r u hr l = sym (right_to m (omega arith) r u hr l)

    pub heard_so : (r j : ℕ) → r < length w.stations → j < m → heard plan (get_or w.stations r 0) (t + j) ≡ hears_by_lines plan w L line (t + j) r
    heard_so r j hr h = sym (station_hears_so line (t + j) (right_to j (omega arith)) r hr)

    pub ports_hear_so : (p j : ℕ) → p < length w.edges → j < m → port_hears plan (get_or w.edges p 0) (t + j) ≡ hears_by_lines plan w L line (t + j) (length w.stations + p)
    ports_hear_so p j hp h = sym (port_hears_line line (t + j) (right_to j (omega arith)) p hp)

pub pieces_come_true : PiecesComeTrue
pieces_come_true plan s t m line carrier piece =
    let facts = station_facts plan in
    let L = lookahead plan.layout in
    let lead = leads plan.layout in
    let emits = calm_senders_emit in
    (emitted_so plan facts L s lead emits t m line carrier piece, heard_so plan facts L s lead emits t m line carrier piece, ports_hear_so plan facts L s lead emits t m line carrier piece)
