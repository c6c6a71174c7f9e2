-- What a part has at the end of a run, with the Cut rows of its stations, is its share of the whole run.
use Rattle.std.proofs.Common.{◌≡◌, ℕ, suc, ◌+◌, ◌-◌, ◌%◌, ◌<◌, ◌≤◌, Bool, true, false, ◌||◌, inl, inr, List, [], ◌∷◌, ◌++◌, map, length, get_or, refl, sym, ap, ap₂, ◌∙◌, arith}
use Rattle.std.proofs.lemmas.Bool.{cases_eq, eq-eqb, ne_eqb}
use Rattle.std.proofs.lemmas.List.{length-map}
use Rattle.std.proofs.lemmas.Nat.{div-add-mod', mod_below}
use Rattle.collision_log.specs.declared.row.Row.{Row}
use Rattle.layout.specs.declared.lines.PortLine.{PortLine}
use Rattle.layout.specs.Taps.{tap_of}
use Rattle.load_plan.specs.declared.plan.Plan.{Plan}
use Rattle.mac_transmit.specs.Sender.{Sender, cut_of}
use Rattle.network.specs.Attempts.{sender_at}
use Rattle.network.specs.Net.{net}
use Rattle.network.specs.Outputs.{rows, captures, half_bits, cut_rows}
use Rattle.network.specs.Rows.{row_of}
use Rattle.network.specs.TapsOnSegments.{numbers_on}
use Rattle.network.proofs.StationAttempts.{no_sender}
use Rattle.network.proofs.TapsOnSegments.{numbers-here, numbers-there}
use Rattle.net_parts.specs.Windows.{lookahead, windows, time}
use Rattle.net_parts.specs.Standing.{is_one_of}
use Rattle.net_parts.specs.Parts.{is_segment_part, part_of_kind, part_at, device_of}
use Rattle.net_parts.specs.OutputsOfParts.{devices_of_kind, stations_of_kind, cut_rows_on, rows_handed_out, captures_handed_out}
use Rattle.net_parts.specs.PartLaws.{PartsHandOut}
use Rattle.net_parts.proofs.NetworkFacts.{station_facts}
use Rattle.net_parts.proofs.WindowTimes.{some_lead}
use Rattle.net_parts.proofs.StationRows.{of_devices, filter-two, kept, dropped, beyond, append_none}

-- of the stations from k on, the Cut rows of those of the segment
cut_on : (s t k : ℕ) (xs : List PortLine) (ks : List ℕ) (ss : List Sender) → length ss ≡ length xs → ((j : ℕ) → k ≤ j → is_one_of j ks ≡ is_one_of j (numbers_on s k xs)) →
    (F : ℕ → Sender) → ((i j : ℕ) → i < length xs → j ≡ k + i → get_or ss i no_sender ≡ F j) →
    of_devices ks (cut_rows t k ss) ≡ cut_rows_on t (numbers_on s k xs) (map F (numbers_on s k xs))
cut_on s t k [] ks [] le same F h = refl
cut_on s t k [] ks (x ∷ ss) le same F h = absurd (omega arith)
cut_on s t k (x ∷ xs) ks [] le same F h = absurd (omega arith)
cut_on s t k (x ∷ xs) ks (a ∷ ss) le same F h =
    let p = λ (row : Row). is_one_of row.device ks in
    let one : a ≡ F k = h 0 k (omega arith) (omega arith) in
    let split = filter-two p (row_of t k (cut_of a)) (cut_rows t (k + 1) ss) in
    elim (cases_eq x.segment s) [
      | inl on ↦
          let here = numbers-here s k x xs on in
          let ns = numbers_on s (k + 1) xs in
          let among : is_one_of k ks ≡ true = same k (omega arith) ∙ ap (is_one_of k) here ∙ ap (λ b. b || is_one_of k ns) (eq-eqb k k refl) in
          let rest = cut_on s t (k + 1) xs ks ss (omega arith)
          (λ j l. same j (omega arith) ∙ ap (is_one_of j) here ∙ ap (λ b. b || is_one_of j ns) (ne_eqb j k (λ z. omega (arith, z)))) F
          (λ i j l z. h (suc i) j (omega arith) (omega arith)) in
          split ∙ ap₂ (λ a b. a ++ b) (kept ks t k (cut_of a) among ∙ ap (λ x. row_of t k (cut_of x)) one) rest
          ∙ sym (ap (λ ms. cut_rows_on t ms (map F ms)) here)
      | inr off ↦
          let there = numbers-there s k x xs off in
          let among : is_one_of k ks ≡ false = same k (omega arith) ∙ ap (is_one_of k) there ∙ beyond s (k + 1) xs k (omega arith) in
          let rest = cut_on s t (k + 1) xs ks ss (omega arith) (λ j l. same j (omega arith) ∙ ap (is_one_of j) there) F
          (λ i j l z. h (suc i) j (omega arith) (omega arith)) in
          split ∙ ap₂ (λ a b. a ++ b) (dropped ks t k (cut_of a) among) rest ∙ sym (ap (λ ms. cut_rows_on t ms (map F ms)) there)
    ]

-- a repeater has no Cut row
no_cut : (d t k : ℕ) (ss : List Sender) → k + length ss ≤ d → of_devices (d ∷ []) (cut_rows t k ss) ≡ []
no_cut d t k [] h = refl
no_cut d t k (s ∷ ss) h =
    let p = λ (row : Row). is_one_of row.device (d ∷ []) in
    let other : is_one_of k (d ∷ []) ≡ false = ap (λ b. b || false) (ne_eqb k d (λ z. omega (arith, z))) in
    filter-two p (row_of t k (cut_of s)) (cut_rows t (k + 1) ss)
    ∙ ap₂ (λ a b. a ++ b) (dropped (d ∷ []) t k (cut_of s) other) (no_cut d t (k + 1) ss (omega arith))

module _ (plan : Plan) where
  abbrev L : ℕ
  L = lookahead plan.layout

  abbrev H : ℕ
  H = half_bits plan

  -- all windows together are the run
  all_windows : time plan (windows plan) ≡ H
  all_windows =
      let some : 1 ≤ L = some_lead plan in
      let n = H + L - 1 in
      let whole = div-add-mod' n L in
      let left : n % L < L = mod_below n L some in
      omega (arith, some, whole, left)

  as_part : (u : ℕ) (b : Bool) → rows_handed_out plan u (part_of_kind plan b u H) ≡ of_devices (devices_of_kind plan b u) (rows plan)
  unfolding rows
  as_part u true =
      let xs = map tap_of plan.layout.stations in
      let ks = numbers_on u 0 xs in
      let many = length-map plan.layout.stations tap_of in
      let senders = (station_facts plan).senders H in
      let same : (i j : ℕ) → i < length xs → j ≡ 0 + i → get_or (net plan H).senders i no_sender ≡ sender_at plan j H =
      λ i j l z. let e : i ≡ j = omega (arith, z) in ap (λ m. get_or (net plan H).senders m no_sender) e in
      sym (filter-two (λ (row : Row). is_one_of row.device ks) (net plan H).rows (cut_rows H 0 (net plan H).senders)
      ∙ ap (λ zs. of_devices ks (net plan H).rows ++ zs) (cut_on u H 0 xs ks (net plan H).senders (omega (arith, many, senders)) (λ j l. refl) (λ k. sender_at plan k H) same))
  as_part u false =
      let d = device_of plan u in
      let senders = (station_facts plan).senders H in
      sym (filter-two (λ (row : Row). is_one_of row.device (d ∷ [])) (net plan H).rows (cut_rows H 0 (net plan H).senders)
      ∙ ap (λ zs. of_devices (d ∷ []) (net plan H).rows ++ zs) (no_cut d H 0 (net plan H).senders (omega (arith, senders)))
      ∙ append_none (of_devices (d ∷ []) (net plan H).rows))

  as_captured : (u : ℕ) (b : Bool) → captures_handed_out (part_of_kind plan b u H) ≡ map (λ k. get_or (captures plan) k []) (stations_of_kind plan b u)
  unfolding captures
  as_captured u true = refl
  as_captured u false = refl

pub parts_hand_out : PartsHandOut
unfolding part_at
parts_hand_out plan u below = (
  ap (λ t. rows_handed_out plan u (part_of_kind plan (is_segment_part plan u) u t)) (all_windows plan) ∙ as_part plan u (is_segment_part plan u),
  ap (λ t. captures_handed_out (part_of_kind plan (is_segment_part plan u) u t)) (all_windows plan) ∙ as_captured plan u (is_segment_part plan u),
)
