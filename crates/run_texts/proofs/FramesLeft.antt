-- In a network no sender ends more frames than its queue has.
use Rattle.std.proofs.Common.{◌≡◌, ℕ, zero, suc, ◌+◌, ◌-◌, ◌<◌, ◌≤◌, Option, None, List, [], ◌∷◌, ◌++◌, map, length, get_or, refl, sym, ap, subst, ◌∙◌, inl, inr, arith}
use Rattle.std.specs.Prelude.{replicate}
use Rattle.std.proofs.lemmas.Bool.{cases_lt}
use Rattle.std.proofs.lemmas.List.{get_or_past, length-map}
use Rattle.std.proofs.lemmas.List.Elements.{All-cons, All-nil}
use Rattle.manchester_line.specs.declared.Sym.{Sym}
use Rattle.manchester_line.specs.declared.Sym.TheVariants.{Idle}
use Rattle.frame_layout.specs.declared.queue.Ready.{Ready}
use Rattle.collision_log.specs.Counters.{no_counts}
use Rattle.collision_log.specs.declared.counters.Counters.{Counters}
use Rattle.collision_log.specs.declared.row.Body.{Body}
use Rattle.collision_log.specs.declared.row.Row.{Row}
use Rattle.load_plan.specs.declared.plan.Plan.{Plan}
use Rattle.load_plan.specs.declared.plan.Skips.{Skips}
use Rattle.mac_transmit.specs.Sender.{Sender, SendOutcome, new_sender, sender_step}
use Rattle.network.specs.Net.{Net, each_repeater, net, new_senders, next, ports_hear, receptions_in, sendings, sendings_in, stations_emit, stations_hear}
use Rattle.network.specs.Rows.{repeater_rows, repeater_bodies, rows_of}
use Rattle.network.specs.Outputs.{cut_rows, half_bits, rows}
use Rattle.run_texts.specs.Counts.{AreLeft, all_counts_after, counts_of, first_counts, station_counts, stations_counts}
use Rattle.run_texts.proofs.EndedFrames.{counts_end, cuts_calm, ended_of, ends, ends-append, ends_at, receptions_calm, repeaters_quiet}
use Rattle.run_texts.proofs.PlacesInQueues.{IsStanding, Rises, place_within, sender_rises}

events : List SendOutcome → List (Option Body)
events outcomes = map (λ o. o.event) outcomes

no_sender : Sender
no_sender = new_sender [] (record { seed = 0; station = 0; made = 0 })

-- a sender with this queue whose frames so many ended
pub record Holds (frames : List Ready) (many : ℕ) (s : Sender) : Type 0 where
  pub queue : s.queue ≡ frames
  pub ended : many ≤ s.place
  pub stands : IsStanding s

within : (queue : List Ready) (ended : ℕ) (s : Sender) → Holds queue ended s → ended ≤ length queue
within queue ended s h = omega (arith, place_within s.place (length s.queue) s.phase h.stands, h.ended, ap length h.queue)

-- what stays so in a network: of no device more frames ended than its queue has, and of a station no more than its
-- sender's place
pub record AllHold (queues : List (List Ready)) (n : Net) : Type 0 where
  pub few : (i : ℕ) → ends i n.rows ≤ length (get_or queues i [])
  pub stand : (i : ℕ) (d : Sender) → i < length n.senders → Holds (get_or queues i []) (ends i n.rows) (get_or n.senders i d)

new_holds : (seed k : ℕ) (queues : List (List Ready)) (i : ℕ) (d : Sender) → i < length (new_senders seed k queues) → Holds (get_or queues i []) 0 (get_or (new_senders seed k queues) i d)
new_holds seed k [] i d lt = absurd (omega arith)
new_holds seed k (q ∷ qs) zero d lt = record { queue = refl; ended = omega arith; stands = omega arith }
new_holds seed k (q ∷ qs) (suc i) d lt = new_holds seed (k + 1) qs i d (omega arith)

-- the outcome of the i-th sender
record Comes (hs : List Sym) (ss : List Sender) (i : ℕ) (d : Sender) : Type 0 where
  there : i < length ss
  event : get_or (map (λ (o : SendOutcome). o.event) (sendings hs ss)) i None ≡ (sender_step (get_or ss i d) (get_or hs i Idle)).event
  state : get_or (map (λ (o : SendOutcome). o.state) (sendings hs ss)) i d ≡ (sender_step (get_or ss i d) (get_or hs i Idle)).state

comes : (hs : List Sym) (ss : List Sender) (i : ℕ) (d : Sender) → i < length (sendings hs ss) → Comes hs ss i d
comes [] ss i d lt = absurd (omega arith)
comes (h ∷ hs) [] i d lt = absurd (omega arith)
comes (h ∷ hs) (s ∷ ss) zero d lt = record { there = omega arith; event = refl; state = refl }
comes (h ∷ hs) (s ∷ ss) (suc i) d lt = let r = comes hs ss i d (omega arith) in record { there = omega (arith, r.there); event = r.event; state = r.state }

-- what ended so far and in the half bit, by the event of the sender
one_more : (i : ℕ) (n : Net) → ends i (next n).rows ≤ ends i n.rows + ended_of (get_or (map (λ o. o.event) (sendings_in n)) i None)
one_more i n =
    let es = map (λ o. o.event) (sendings_in n) in
    let rs = map (λ r. r.event) (receptions_in n) in
    let stations = rows_of n.t 0 es rs in
    let repeaters = repeater_rows n.t (length n.senders) (each_repeater repeater_bodies (ports_hear n) n.repeaters) in
    let all : ends i (n.rows ++ (stations ++ repeaters)) ≡ ends i n.rows + ends i (stations ++ repeaters) = ends-append i n.rows (stations ++ repeaters) in
    let both : ends i (stations ++ repeaters) ≡ ends i stations + ends i repeaters = ends-append i stations repeaters in
    let few : ends i stations ≤ ended_of (get_or es i None) = ends_at n.t 0 i i es rs (omega arith) (receptions_calm (stations_hear n) (stations_emit n) n.receivers) in
    let none : ends i repeaters ≡ 0 = repeaters_quiet n.t (length n.senders) i (ports_hear n) n.repeaters in
    omega (arith, all, both, few, none)

grows : (queue : List Ready) (e more : ℕ) (s r : Sender) (event : Option Body) → Holds queue e s → Rises s (ended_of event) r → more ≤ e + ended_of event → Holds queue more r
grows queue e more s r event h rise le = record { queue = rise.queue ∙ h.queue; ended = omega (arith, rise.place, h.ended, le); stands = rise.stands }

stand_next : (queues : List (List Ready)) (n : Net) → AllHold queues n → (i : ℕ) (d : Sender) → i < length (sendings_in n) → Holds (get_or queues i []) (ends i (next n).rows) (get_or (next n).senders i d)
stand_next queues n h i d lt =
    let c = comes (stations_hear n) n.senders i d lt in
    let s = get_or n.senders i d in
    let heard = get_or (stations_hear n) i Idle in
    let before = h.stand i d c.there in
    let le : ends i (next n).rows ≤ ends i n.rows + ended_of (sender_step s heard).event = subst (λ e. ends i (next n).rows ≤ ends i n.rows + ended_of e) c.event (one_more i n) in
    subst (Holds (get_or queues i []) (ends i (next n).rows)) (sym c.state)
    (grows (get_or queues i []) (ends i n.rows) (ends i (next n).rows) s (sender_step s heard).state (sender_step s heard).event before (sender_rises s heard before.stands) le)

pub all_next : (queues : List (List Ready)) (n : Net) → AllHold queues n → AllHold queues (next n)
all_next queues n h = record {
  few = λ i. elim (cases_lt i (length (sendings_in n))) [
    | inl lt ↦ within (get_or queues i []) (ends i (next n).rows) _ (stand_next queues n h i no_sender lt)
    | inr le ↦ past i le
  ];
  stand = λ i d lt. stand_next queues n h i d (subst (λ m. i < m) (length-map (sendings_in n) (λ o. o.state)) lt);
}
  where
    past : (i : ℕ) → length (sendings_in n) ≤ i → ends i (next n).rows ≤ length (get_or queues i [])
    past i le =
        let es = map (λ o. o.event) (sendings_in n) in
        let none : get_or es i None ≡ None = get_or_past es i None (rw (length-map (sendings_in n) (λ o. o.event)) le) in
        let more : ends i (next n).rows ≤ ends i n.rows + ended_of None = subst (λ e. ends i (next n).rows ≤ ends i n.rows + ended_of e) none (one_more i n) in
        omega (arith, more, h.few i)

all_hold : (plan : Plan) (t : ℕ) → AllHold plan.queues (net plan t)
all_hold plan zero = record { few = λ i. omega arith; stand = λ i d lt. new_holds plan.layout.seed 0 plan.queues i d lt }
all_hold plan (suc t) = all_next plan.queues (net plan t) (all_hold plan t)

-- of no device more frames end in a run than its queue has
pub few_end : (plan : Plan) (i : ℕ) → ends i (rows plan) ≤ length (get_or plan.queues i [])
unfolding rows
few_end plan i =
    let n = net plan (half_bits plan) in
    let cut = cut_rows (half_bits plan) 0 n.senders in
    omega (arith, ends-append i n.rows cut, cuts_calm (half_bits plan) 0 i n.senders, (all_hold plan (half_bits plan)).few i)

abbrev pub IsLeft : Counters → Type 0
IsLeft c = c.sent + c.given_up ≤ c.queued

repeaters_left : (k n : ℕ) (rows : List Row) → ((i : ℕ) → k ≤ i → ends i rows ≡ 0) → AreLeft (all_counts_after k (replicate n no_counts) rows)
repeaters_left k zero rows none = All-nil IsLeft
repeaters_left k (suc n) rows none =
    let e = counts_end k no_counts rows in
    All-cons IsLeft _ _ (omega (arith, e.0, e.1, none k (omega arith))) (repeaters_left (k + 1) n rows (λ i le. none i (omega arith)))

pub stations_left : (k n : ℕ) (qs : List (List Ready)) (ss : List Skips) (rows : List Row) → length ss ≡ length qs → ((i j : ℕ) → i ≡ k + j → ends i rows ≤ length (get_or qs j []))
    → AreLeft (all_counts_after k (stations_counts qs ss ++ replicate n no_counts) rows)
stations_left k n [] ss rows same few = repeaters_left k n rows (λ i le. past i le)
  where
    past : (i : ℕ) → k ≤ i → ends i rows ≡ 0
    past i le = omega (arith, few i (i - k) (omega arith))
stations_left k n (q ∷ qs) [] rows same few = absurd (omega arith)
stations_left k n (q ∷ qs) (s ∷ ss) rows same few =
    let e = counts_end k (station_counts q s) rows in
    All-cons IsLeft _ _ (omega (arith, e.0, e.1, few k 0 (omega arith))) (stations_left (k + 1) n qs ss rows (omega arith) (λ i j at. few i (suc j) (omega arith)))

-- of no device more frames are sent and given up than were queued
pub frames_are_left : (plan : Plan) → AreLeft (counts_of plan (rows plan))
unfolding counts_of first_counts
frames_are_left plan =
    let same : length plan.skips ≡ length plan.queues = omega (arith, plan.queued, plan.counted) in
    stations_left 0 (length plan.layout.repeaters) plan.queues plan.skips (rows plan) same (λ i j at. subst (λ m. ends i (rows plan) ≤ length (get_or plan.queues m [])) (at_zero i j at) (few_end plan i))
  where
    at_zero : (i j : ℕ) → i ≡ 0 + j → i ≡ j
    at_zero i j at = omega arith
