-- The network in absolute time.
use Rattle.std.proofs.Common.{◌≡◌, ◌≢◌, ℕ, zero, suc, ◌+◌, ◌-◌, ◌<◌, ◌≤◌, false, not, ◌&&◌, cond, leb, eqb, inl, inr, List, [], ◌∷◌, map, replicate, length, length-append, length-take-le, length-drop, get_or, refl, sym, ap, ap₂, ◌∙◌, arith}
use Rattle.std.specs.List.{flat_map}
use Rattle.std.proofs.lemmas.List.{get_or_past, get_or_append_left, get_or-append_right, get_or-replicate, length-replicate, length-map}
use Rattle.std.proofs.lemmas.Bool.{cases_lt, cases_eq, cases_order, eq-eqb, ne_eqb}
use Rattle.std.proofs.lemmas.Bool.Decides.{nat_tests}
use Rattle.manchester_line.specs.declared.Sym.{Sym}
use Rattle.manchester_line.specs.declared.Sym.TheVariants.{Idle}
use Rattle.manchester_line.specs.Line.{mix_of}
use Rattle.mac_parameters.specs.Distances.{distance}
use Rattle.frame_layout.specs.declared.queue.Ready.{Ready}
use Rattle.layout.specs.declared.lines.PortLine.{PortLine}
use Rattle.layout.specs.declared.lines.RepeaterLine.{RepeaterLine}
use Rattle.load_plan.specs.declared.plan.Plan.{Plan}
use Rattle.mac_transmit.specs.Sender.{Sender, SendOutcome}
use Rattle.repeater_core.specs.Step.{emitted_by}
use Rattle.network.specs.Hearing.{heard_of, heard_by}
use Rattle.layout.specs.Taps.{taps_of, tap_of}
use Rattle.network.specs.Net.{Net, net, next, new_net, new_senders, emitted_before, heard_in, stations_hear, ports_hear, stations_emit, sendings, sendings_in, emitted_in, decided_in}
use Rattle.network.specs.Times.{heard, emitted, decided, earlier, port_delays}
use Rattle.network.proofs.RunnablePlans.{runnable_plan, apart_plan}
use Rattle.network.proofs.DelayLines.{LinesUp, AllDelayed, delayed_from_All, all_ports, ports-lined, lines_next, lines_new, lines_emit, delays}

if_true : {m n : ℕ} (x y : Sym) → m ≤ n → cond (leb m n) x y ≡ x
if_true x y h = grind (arith, nat_tests)

if_false : {m n : ℕ} (x y : Sym) → n < m → cond (leb m n) x y ≡ y
if_false x y h = grind (arith, nat_tests)

-- what is said of half bit t, so many half bits later
pub earlier_at : (f : ℕ → Sym) (t back : ℕ) → earlier f (t + back) back ≡ f t
earlier_at f t back = let same : t + back - back ≡ t = omega arith in if_true {m = back} {n = t + back} (f (t + back - back)) Idle (omega arith) ∙ ap f same

-- a history g that each half bit puts the row f before
module _ (f : Net → List Sym) (g : Net → List (List Sym)) (start : (plan : Plan) → g (new_net plan) ≡ []) (more : (n : Net) → g (next n) ≡ f n ∷ g n) where
  length-history : (plan : Plan) (t : ℕ) → length (g (net plan t)) ≡ t
  length-history plan zero = ap length (start plan)
  length-history plan (suc t) = ap length (more (net plan t)) ∙ ap suc (length-history plan t)

  history_at : (plan : Plan) (t b : ℕ) → b < t → get_or (g (net plan t)) b [] ≡ f (net plan (t - suc b))
  history_at plan zero b h = absurd (omega arith)
  history_at plan (suc t) zero h = ap (λ rows. get_or rows 0 []) (more (net plan t)) ∙ (let e : t ≡ suc t - 1 = omega arith in ap (λ u. f (net plan u)) e)
  history_at plan (suc t) (suc b) h = ap (λ rows. get_or rows (suc b) []) (more (net plan t)) ∙ history_at plan t b (omega arith) ∙ (let e : t - suc b ≡ suc t - suc (suc b) = omega arith in ap (λ u. f (net plan u)) e)

  pub before_is : (plan : Plan) (t back q : ℕ) → 1 ≤ back → emitted_before (g (net plan t)) back q ≡ earlier (λ u. get_or (f (net plan u)) q Idle) t back
  before_is plan t zero q h = absurd (omega arith)
  before_is plan t (suc b) q h = elim (cases_lt b t) [
    | inl within ↦ ap (λ row. get_or row q Idle) (history_at plan t b within) ∙ sym (if_true {m = suc b} {n = t} _ _ within)
    | inr past ↦ ap (λ row. get_or row q Idle) (get_or_past (g (net plan t)) b [] (omega (arith, length-history plan t))) ∙ sym (if_false {m = suc b} {n = t} _ _ (omega arith))
  ]

-- what was emitted `back` half bits before half bit t was emitted in half bit t - back, and so for what was decided
pub emitted_before_is : (plan : Plan) (t back q : ℕ) → 1 ≤ back → emitted_before (net plan t).emitted back q ≡ earlier (emitted plan q) t back
emitted_before_is = before_is emitted_in (λ n. n.emitted) (λ plan. refl) (λ n. refl)

pub decided_before_is : (plan : Plan) (t back e : ℕ) → 1 ≤ back → emitted_before (net plan t).decided back e ≡ earlier (decided plan e) t back
decided_before_is = before_is decided_in (λ n. n.decided) (λ plan. refl) (λ n. refl)

taps_stay : (plan : Plan) (t : ℕ) → (net plan t).taps ≡ taps_of plan.layout
taps_stay plan zero = refl
taps_stay plan (suc t) = taps_stay plan t

heard_by_at : (told : ℕ → ℕ → Sym) (all xs : List PortLine) (k i m : ℕ) (d : PortLine) → i < length xs → m ≡ k + i → get_or (heard_by told all k xs) i Idle ≡ heard_of told m (get_or xs i d) 0 all
heard_by_at told all [] k i m d h e = absurd (omega arith)
heard_by_at told all (x ∷ xs) k zero m d h e = let same : k ≡ m = omega arith in ap (λ j. heard_of told j x 0 all) same
heard_by_at told all (x ∷ xs) k (suc i) m d h e = heard_by_at told all xs (k + 1) i m d (omega arith) (omega arith)

apart : (a b : ℕ) → (a ≡ b → ⊥) → 1 ≤ distance a b
apart a b ne = elim (cases_order a b) [
  | inl e ↦ absurd (ne e)
  | inr less ↦ elim less [ inl l ↦ omega arith | inr l ↦ omega arith ]
]

-- what is told alike of the other taps of a segment is heard alike
pub heard_of_alike : (told told' : ℕ → ℕ → Sym) (p : ℕ) (here d : PortLine) (q : ℕ) (xs : List PortLine) →
    ((i m : ℕ) → i < length xs → m ≡ q + i → m ≢ p → (get_or xs i d).segment ≡ here.segment → told (distance here.at (get_or xs i d).at) m ≡ told' (distance here.at (get_or xs i d).at) m) →
    heard_of told p here q xs ≡ heard_of told' p here q xs
heard_of_alike told told' p here d q [] same = refl
heard_of_alike told told' p here d q (x ∷ xs) same =
    ap₂ mix_of one (heard_of_alike told told' p here d (q + 1) xs (λ i m l e. same (suc i) m (omega arith) (omega arith)))
  where
    one : cond (eqb x.segment here.segment && not (eqb q p)) (told (distance here.at x.at) q) Idle ≡ cond (eqb x.segment here.segment && not (eqb q p)) (told' (distance here.at x.at) q) Idle
    one = elim (cases_eq x.segment here.segment) [
      | inl on ↦ elim (cases_eq q p) [
        | inl itself ↦
            let off : (eqb x.segment here.segment && not (eqb q p)) ≡ false = ap₂ (λ b e. b && not e) (eq-eqb x.segment here.segment on) (eq-eqb q p itself) in
            ap (λ b. cond b (told (distance here.at x.at) q) Idle) off ∙ sym (ap (λ b. cond b (told' (distance here.at x.at) q) Idle) off)
        | inr other ↦ ap (λ s. cond (eqb x.segment here.segment && not (eqb q p)) s Idle) (same 0 q (omega arith) (omega arith) other on)
      ]
      | inr not_on ↦
          let off : (eqb x.segment here.segment && not (eqb q p)) ≡ false = ap (λ b. b && not (eqb q p)) (ne_eqb x.segment here.segment not_on) in
          ap (λ b. cond b (told (distance here.at x.at) q) Idle) off ∙ sym (ap (λ b. cond b (told' (distance here.at x.at) q) Idle) off)
    ]

-- what a tap hears in half bit t, by what the others emitted
pub heard_is : (plan : Plan) (t p : ℕ) (d : PortLine) → p < length (taps_of plan.layout) →
    heard plan p t ≡ heard_of (λ back q. earlier (emitted plan q) t back) p (get_or (taps_of plan.layout) p d) 0 (taps_of plan.layout)
heard_is plan t p d h =
    let away = apart_plan plan in
    let all = taps_of plan.layout in
    let n = net plan t in
    let told = emitted_before n.emitted in
    ap (λ ts. get_or (heard_by told ts 0 ts) p Idle) (taps_stay plan t)
    ∙ heard_by_at told all all 0 p p d h (omega arith)
    ∙ heard_of_alike told (λ back q. earlier (emitted plan q) t back) p (get_or all p d) d 0 all
    (λ i m l e ne on.
    let at : m ≡ i = omega arith in
    emitted_before_is plan t (distance (get_or all p d).at (get_or all i d).at) m (apart (get_or all p d).at (get_or all i d).at (away p i d h l (λ pi. ne (at ∙ sym pi)) (sym on))))

length-heard_by : (told : ℕ → ℕ → Sym) (all : List PortLine) (k : ℕ) (xs : List PortLine) → length (heard_by told all k xs) ≡ length xs
length-heard_by told all k [] = refl
length-heard_by told all k (x ∷ xs) = ap suc (length-heard_by told all (k + 1) xs)

length-sendings : (hs : List Sym) (ss : List Sender) → length ss ≤ length hs → length (sendings hs ss) ≡ length ss
length-sendings hs [] h = none hs
  where
    none : (xs : List Sym) → length (sendings xs []) ≡ 0
    none [] = refl
    none (x ∷ xs) = refl
length-sendings [] (s ∷ ss) h = absurd (omega arith)
length-sendings (x ∷ hs) (s ∷ ss) h = ap suc (length-sendings hs ss (omega arith))

length-new_senders : (seed k : ℕ) (qs : List (List Ready)) → length (new_senders seed k qs) ≡ length qs
length-new_senders seed k [] = refl
length-new_senders seed k (q ∷ qs) = ap suc (length-new_senders seed (k + 1) qs)

-- one sender for each station, and repeaters whose lines are those of the decisions
pub record IsShaped (plan : Plan) (n : Net) : Type 0 where
  pub senders : length n.senders ≡ length plan.layout.stations
  pub lines : LinesUp plan.layout.repeaters n.repeaters n.decided

-- the stations' part of all taps, and the rest
pub heard_sizes : (plan : Plan) (t : ℕ) → IsShaped plan (net plan t) → (length (net plan t).senders ≤ length (heard_in (net plan t))) × (length (ports_hear (net plan t)) ≡ all_ports plan.layout.repeaters)
heard_sizes plan t shape =
    let n = net plan t in
    let l = plan.layout in
    let senders = shape.senders in
    let all : length (heard_in n) ≡ length (taps_of l) = length-heard_by (emitted_before n.emitted) n.taps 0 n.taps ∙ ap length (taps_stay plan t) in
    let sum = length-append (map tap_of l.stations) (flat_map (λ (r : RepeaterLine). r.ports) l.repeaters) in
    let stations = length-map l.stations tap_of in
    (omega (arith, senders, all, sum, stations), omega (arith, length-drop (length n.senders) (heard_in n), senders, all, sum, stations))

pub sends_all : (plan : Plan) (t : ℕ) → IsShaped plan (net plan t) → length (sendings_in (net plan t)) ≡ length (net plan t).senders
sends_all plan t shape =
    let n = net plan t in
    let fits = (heard_sizes plan t shape).0 in
    length-sendings (stations_hear n) n.senders (omega (arith, length-take-le (length n.senders) (heard_in n) fits))

pub shaped : (plan : Plan) (t : ℕ) → AllDelayed plan.layout.repeaters → IsShaped plan (net plan t)
shaped plan zero late = record { senders = length-new_senders plan.layout.seed 0 plan.queues ∙ plan.queued; lines = lines_new plan.layout.repeaters }
shaped plan (suc t) late =
    let n = net plan t in
    let before = shaped plan t late in
    let ports = (heard_sizes plan t before).1 in
    record {
      senders = length-map (sendings_in n) (λ (o : SendOutcome). o.state) ∙ sends_all plan t before ∙ before.senders;
      lines = lines_next plan.layout.repeaters n.repeaters n.decided (ports_hear n) late before.lines (omega (arith, ports, ports-lined plan.layout.repeaters n.repeaters n.decided before.lines));
    }

some_delay : (ls : List RepeaterLine) (e : ℕ) → AllDelayed ls → e < all_ports ls → 1 ≤ get_or (delays ls) e 0
some_delay [] e late h = absurd (omega arith)
some_delay (l ∷ ls) e late h =
    let n = length l.ports in
    let few : length (replicate n l.delay) ≡ n = length-replicate n l.delay in
    let is_back = late.0.1 in
    let sum = length-append l.ports (flat_map (λ (x : RepeaterLine). x.ports) ls) in
    elim (cases_lt e n) [
      | inl own_port ↦
          let here : get_or (delays (l ∷ ls)) e 0 ≡ l.delay = get_or_append_left (replicate n l.delay) (delays ls) 0 e (omega (arith, own_port, few)) ∙ get_or-replicate n e l.delay 0 own_port in
          omega (arith, here, is_back)
      | inr other ↦
          let there : get_or (delays (l ∷ ls)) e 0 ≡ get_or (delays ls) (e - n) 0 = get_or-append_right (replicate n l.delay) (delays ls) n e 0 few other in
          let rest = some_delay ls (e - n) late.1 (omega (arith, h, other, sum)) in
          omega (arith, there, rest)
    ]

-- what a port emits in half bit t was decided as many half bits earlier as its repeater's delay says
pub port_emits : (plan : Plan) (t e : ℕ) → e < all_ports plan.layout.repeaters →
    emitted plan (length plan.layout.stations + e) t ≡ earlier (decided plan e) t (get_or (port_delays plan.layout) e 0)
port_emits plan t e h =
    let n = net plan t in
    let ls = plan.layout.repeaters in
    let s = length plan.layout.stations in
    let late = delayed_from_All ls (runnable_plan plan).some_delay in
    let shape = shaped plan t late in
    let stations : length (stations_emit n) ≡ s = length-map (sendings_in n) (λ (o : SendOutcome). o.emitted) ∙ sends_all plan t shape ∙ shape.senders in
    let place : s + e - s ≡ e = omega arith in
    get_or-append_right (stations_emit n) (flat_map emitted_by n.repeaters) s (s + e) Idle stations (omega arith)
    ∙ ap (λ i. get_or (flat_map emitted_by n.repeaters) i Idle) place
    ∙ lines_emit ls n.repeaters n.decided e late shape.lines h
    ∙ decided_before_is plan t (get_or (port_delays plan.layout) e 0) e (some_delay ls e late h)
