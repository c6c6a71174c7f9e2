-- The rows of a half bit in which stations are due.
use Rattle.std.proofs.Common.{◌≡◌, ℕ, zero, suc, ◌+◌, List, [], ◌∷◌, ◌++◌, map, length, get_or, Option, None, ◌<◌, refl, sym, subst, ap, ap₂, ◌∙◌, arith, append_assoc}
use Rattle.std.proofs.lemmas.List.{append-nil}
use Rattle.manchester_line.specs.declared.Sym.{Sym}
use Rattle.manchester_line.specs.Line.{is_signal}
use Rattle.collision_log.specs.declared.row.Body.{Body}
use Rattle.load_plan.specs.declared.plan.Plan.{Plan}
use Rattle.mac_receive.specs.Receiver.{Receiving, Reception, receiver_step}
use Rattle.mac_transmit.specs.Sender.{Sender, SendOutcome, sender_step}
use Rattle.network.specs.Attempts.{sender_at}
use Rattle.network.specs.Net.{sendings, receptions}
use Rattle.network.specs.Rows.{row_of}
use Rattle.network.specs.Times.{heard, emitted}
use Rattle.net_parts.specs.Windows.{lookahead}
use Rattle.net_parts.specs.SegmentParts.{SegmentState, Wiring, rows_on, segment_step, stations_hear_on, wiring}
use Rattle.net_parts.specs.Standing.{arrives, receiver_at, rows_of_devices, segment_at}
use Rattle.net_parts.proofs.NetworkFacts.{station_facts}
use Rattle.net_parts.proofs.LookaheadLeads.{leads}
use Rattle.net_parts.proofs.SegmentHearing.{stations_hear}
use Rattle.net_parts.proofs.SegmentSteps.{segments_go_on}
use Rattle.net_parts.proofs.DeviceSteps.{sendings_of, receptions_of}
use Rattle.net_parts.proofs.LateRows.{map-map}
use Rattle.segment_engine.specs.declared.segment.Segment.{Segment}
use Rattle.segment_engine.specs.StationPasses.{receptions_by, rows_heard}
use Rattle.segment_engine.specs.StationsApart.{heard_reception, number_on, rows_of_both, sent_event}

-- the rows of one station more in front
both_more : (t k : ℕ) (ks : List ℕ) (f g : ℕ → Option Body) (n : ℕ) →
    rows_of_both t (k ∷ ks) f g (suc n) ≡ (row_of t k (f 0) ++ row_of t k (g 0)) ++ rows_of_both t ks (λ i. f (suc i)) (λ i. g (suc i)) n
both_more t k ks f g zero = sym (append-nil (row_of t k (f 0) ++ row_of t k (g 0)))
both_more t k ks f g (suc n) =
    let first = row_of t k (f 0) ++ row_of t k (g 0) in
    let rest = rows_of_both t ks (λ i. f (suc i)) (λ i. g (suc i)) n in
    let sent = row_of t (get_or ks n 0) (f (suc n)) in
    let received = row_of t (get_or ks n 0) (g (suc n)) in
    ap (λ xs. (xs ++ sent) ++ received) (both_more t k ks f g n)
    ∙ ap (λ xs. xs ++ received) (append_assoc first rest sent)
    ∙ append_assoc first (rest ++ sent) received

-- the rows of stations one after another
rows_both : (t : ℕ) (ks : List ℕ) (f g : ℕ → Option Body) →
    rows_on t ks (map f ks) (map g ks) ≡ rows_of_both t ks (λ i. f (get_or ks i 0)) (λ i. g (get_or ks i 0)) (length ks)
rows_both t [] f g = refl
rows_both t (k ∷ ks) f g =
    ap (λ xs. (row_of t k (f k) ++ row_of t k (g k)) ++ xs) (rows_both t ks f g)
    ∙ sym (both_more t k ks (λ i. f (get_or (k ∷ ks) i 0)) (λ i. g (get_or (k ∷ ks) i 0)) (length ks))

-- no rows where nothing happens at any station
pub rows_of_nothing : (t : ℕ) (ks : List ℕ) (f g : ℕ → Option Body) (n : ℕ) → ((i : ℕ) → i < n → (f i ≡ None) × (g i ≡ None)) → rows_of_both t ks f g n ≡ []
rows_of_nothing t ks f g zero h = refl
rows_of_nothing t ks f g (suc n) h =
    let k = get_or ks n 0 in
    let last = h n (omega arith) in
    ap (λ xs. (xs ++ row_of t k (f n)) ++ row_of t k (g n)) (rows_of_nothing t ks f g n (λ i l. h i (omega (arith, l))))
    ∙ ap₂ (λ a b. row_of t k a ++ row_of t k b) last.0 last.1

first_row : List (List Sym) → List Sym
first_row [] = []
first_row (r ∷ rs) = r

module _ (plan : Plan) (s u : ℕ) where
  abbrev L : ℕ
  L = lookahead plan.layout

  abbrev w : Wiring
  w = wiring plan.layout s

  abbrev ks : List ℕ
  ks = w.stations

  abbrev hs : List Sym
  hs = map (λ k. heard plan k u) ks

  abbrev ss : List Sender
  ss = map (λ k. sender_at plan k u) ks

  abbrev rs : List Receiving
  rs = map (λ k. receiver_at plan k u) ks

  abbrev now : SegmentState
  now = segment_at plan L w u

  abbrev comes : List Sym
  comes = map (λ e. arrives plan L e u) w.edges

  truth : segment_step w L comes now ≡ segment_at plan L w (suc u)
  truth = (segments_go_on plan s u).0

  heard_so : hs ≡ stations_hear_on w L comes now
  heard_so = sym (stations_hear plan (station_facts plan) L s u (leads plan.layout))

  -- what the stations do by what they hear
  emissions : map (λ (o : SendOutcome). o.emitted) (sendings hs ss) ≡ map (λ k. emitted plan k u) ks
  unfolding first_row
  emissions = ap (λ a. map (λ (o : SendOutcome). o.emitted) (sendings a ss)) heard_so ∙ ap (λ (x : SegmentState). first_row x.own) truth

  rows_heard_now : rows_of_devices plan ks u ++ rows_heard u ks hs ss rs ≡ rows_of_devices plan ks (suc u)
  rows_heard_now = ap (λ a. rows_of_devices plan ks u ++ rows_heard u ks a ss rs) heard_so ∙ ap (λ (x : SegmentState). x.rows) truth

  sent : ℕ → Option Body
  sent k = sent_event plan k u

  received : ℕ → Option Body
  received k = (heard_reception plan k u).event

  pub rows_by : rows_of_devices plan ks (suc u) ≡ rows_of_devices plan ks u ++ rows_of_both u ks (λ i. sent_event plan (get_or ks i 0) u) (λ i. (heard_reception plan (get_or ks i 0) u).event) (length ks)
  unfolding sent received
  rows_by =
      let sends : map (λ (o : SendOutcome). o.event) (sendings hs ss) ≡ map sent ks =
      ap (map (λ (o : SendOutcome). o.event)) (sendings_of (λ k. heard plan k u) (λ k. sender_at plan k u) ks) ∙ map-map (λ (o : SendOutcome). o.event) (λ k. sender_step (sender_at plan k u) (heard plan k u)) ks in
      let receives : map (λ (r : Reception). r.event) (receptions_by hs ss rs) ≡ map received ks =
      ap (λ xs. map (λ (r : Reception). r.event) (receptions hs xs rs)) emissions
      ∙ ap (map (λ (r : Reception). r.event)) (receptions_of (λ k. heard plan k u) (λ k. emitted plan k u) (λ k. receiver_at plan k u) ks)
      ∙ map-map (λ (r : Reception). r.event) (λ k. receiver_step (receiver_at plan k u) (heard plan k u) (is_signal (emitted plan k u))) ks in
      sym rows_heard_now
      ∙ ap₂ (λ a b. rows_of_devices plan ks u ++ rows_on u ks a b) sends receives
      ∙ ap (λ xs. rows_of_devices plan ks u ++ xs) (rows_both u ks sent received)

rows_of_all : (of : Segment) (u : ℕ) → rows_of_devices of.plan.value of.stations.items (suc u)
    ≡ rows_of_devices of.plan.value of.stations.items u ++ rows_of_both u of.stations.items (λ i. sent_event of.plan.value (number_on of i) u)
    (λ i. (heard_reception of.plan.value (number_on of i) u).event) (length of.stations.items)
rows_of_all of u =
    let plan = of.plan.value in
    let P : List ℕ → Type 0 = λ xs. rows_of_devices plan xs (suc u) ≡ rows_of_devices plan xs u ++ rows_of_both u xs (λ i. sent_event plan (get_or xs i 0) u) (λ i. (heard_reception plan (get_or xs i 0) u).event) (length xs) in
    subst P (sym of.station_numbers) (rows_by plan of.number u)

-- the rows of half bit u, of the senders and of the receivers
pub rows_next : (plan : Plan) (of : Segment) (u : ℕ) → of.plan.value ≡ plan → rows_of_devices plan of.stations.items (u + 1)
    ≡ rows_of_devices plan of.stations.items u ++ rows_of_both u of.stations.items (λ i. sent_event plan (number_on of i) u)
    (λ i. (heard_reception plan (number_on of i) u).event) (length of.stations.items)
rows_next plan of u is =
    let next : u + 1 ≡ suc u = omega arith in
    let P : Plan → Type 0 = λ x. rows_of_devices x of.stations.items (suc u)
    ≡ rows_of_devices x of.stations.items u ++ rows_of_both u of.stations.items (λ i. sent_event x (number_on of i) u) (λ i. (heard_reception x (number_on of i) u).event) (length of.stations.items) in
    ap (rows_of_devices plan of.stations.items) next ∙ subst P is (rows_of_all of u)
