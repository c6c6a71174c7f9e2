-- Networks that go on from a state, and to the end of a run.
use Rattle.std.proofs.Common.{◌≡◌, ℕ, zero, suc, ◌+◌, ◌-◌, ◌≤◌, List, [], ◌∷◌, ◌++◌, map, drop, sum_by, replicate, length, length-append, length-drop, length-take-le, refl, sym, subst, ap, ap₂, ◌∙◌, arith}
use Rattle.std.specs.List.{flat_map}
use Rattle.std.proofs.lemmas.List.{length-replicate}
use Rattle.std.proofs.lemmas.List.Sums.{sum_by-cons}
use Rattle.collision_log.specs.declared.row.Row.{Row}
use Rattle.layout.specs.Taps.{delays_of}
use Rattle.layout.specs.declared.lines.RepeaterLine.{RepeaterLine}
use Rattle.load_plan.specs.declared.plan.Plan.{Plan}
use Rattle.mac_transmit.specs.Sender.{Sender}
use Rattle.port_partition.specs.Guard.{Guard, new_guard}
use Rattle.network.specs.Net.{Net, net, new_repeater, next}
use Rattle.network.specs.Outputs.{captures, cut_rows, half_bits, rows}
use Rattle.quiet_state.specs.LastSignals.{line_delays}
use Rattle.quiet_state.specs.Resumed.{captures_from, captures_to, later_net, net_of, resumed_repeaters, rows_from, rows_to}
use Rattle.quiet_state.specs.declared.state.NetState.{NetState}
use Rattle.net_step.specs.KeptNet.{KeptNet, Stands}

-- the ports of new repeaters
pub new_ports : (ls : List RepeaterLine) → map (λ r. length r.guards) (map new_repeater ls) ≡ map (λ l. length l.ports) ls
new_ports [] = refl
new_ports (l ∷ ls) = ap₂ ◌∷◌ (length-replicate (length l.ports) new_guard) (new_ports ls)

-- the ports of repeaters that go on
pub resumed_ports : (ls : List RepeaterLine) (gs : List Guard) (ws : List ℕ) → length gs ≡ sum_by (λ l. length l.ports) ls
    → map (λ r. length r.guards) (resumed_repeaters ls gs ws) ≡ map (λ l. length l.ports) ls
resumed_ports [] gs ws e = refl
resumed_ports (l ∷ ls) gs ws e =
    let sum = sum_by-cons (λ (x : RepeaterLine). length x.ports) l ls in
    ap₂ ◌∷◌ (length-take-le (length l.ports) gs (omega (arith, e, sum)))
    (resumed_ports ls (drop (length l.ports) gs) (drop (length l.ports) ws) (length-drop (length l.ports) gs ∙ omega (arith, e, sum)))

-- the delays of new repeaters
pub new_delays : (ls : List RepeaterLine) → line_delays (map new_repeater ls) ≡ delays_of ls
new_delays [] = refl
new_delays (l ∷ ls) = ap₂ (λ (xs ys : List ℕ). xs ++ ys) (ap (λ n. replicate n l.delay) (length-replicate (length l.ports) new_guard)) (new_delays ls)

-- the delays of repeaters that go on
pub resumed_delays : (ls : List RepeaterLine) (gs : List Guard) (ws : List ℕ) → length gs ≡ sum_by (λ l. length l.ports) ls
    → line_delays (resumed_repeaters ls gs ws) ≡ delays_of ls
resumed_delays [] gs ws e = refl
resumed_delays (l ∷ ls) gs ws e =
    let sum = sum_by-cons (λ (x : RepeaterLine). length x.ports) l ls in
    ap₂ (λ (xs ys : List ℕ). xs ++ ys) (ap (λ n. replicate n l.delay) (length-take-le (length l.ports) gs (omega (arith, e, sum))))
    (resumed_delays ls (drop (length l.ports) gs) (drop (length l.ports) ws) (length-drop (length l.ports) gs ∙ omega (arith, e, sum)))

pub many_delays : (ls : List RepeaterLine) → length (flat_map (λ l. replicate (length l.ports) l.delay) ls) ≡ sum_by (λ l. length l.ports) ls
many_delays [] = refl
many_delays (l ∷ ls) =
    length-append (replicate (length l.ports) l.delay) (flat_map (λ (x : RepeaterLine). replicate (length x.ports) x.delay) ls)
    ∙ ap₂ (λ m n. m + n) (length-replicate (length l.ports) l.delay) (many_delays ls)
    ∙ sym (sum_by-cons (λ (x : RepeaterLine). length x.ports) l ls)

-- one half bit more
pub later_more : (n : Net) (from t : ℕ) → from ≤ t → next (later_net n (t - from)) ≡ later_net n (t + 1 - from)
later_more n from t h = let more : suc (t - from) ≡ t + 1 - from = omega arith in ap (later_net n) more

-- at the end
at_end : (n : Net) (first last : KeptNet) (half_bits : ℕ) → Stands n first → Stands (later_net n (half_bits - first.t)) last → Stands (later_net n (half_bits - n.t)) last
at_end n first last half_bits st h = subst (λ m. Stands (later_net n (half_bits - m)) last) st.time h

pub rows_at_end : (n : Net) (first last : KeptNet) (half_bits : ℕ) → Stands n first → Stands (later_net n (half_bits - first.t)) last → last.t ≡ half_bits
    → last.rows ++ cut_rows last.t 0 last.senders ≡ rows_to half_bits n
rows_at_end n first last half_bits st h e =
    let end = at_end n first last half_bits st h in
    ap₂ (λ (xs ys : List Row). xs ++ ys) end.rows (ap₂ (λ m (ss : List Sender). cut_rows m 0 ss) e end.senders)

pub captures_at_end : (n : Net) (first last : KeptNet) (half_bits : ℕ) → Stands n first → Stands (later_net n (half_bits - first.t)) last → last.captures ≡ captures_to half_bits n
captures_at_end n first last half_bits st h = let end = at_end n first last half_bits st h in end.captures

-- what a run that goes on from a state gives
pub rows_are_from : (plan : Plan) (s : NetState) → rows_to (half_bits plan) (net_of plan s) ≡ rows_from plan s
unfolding rows_from
rows_are_from plan s = refl

pub captures_are_from : (plan : Plan) (s : NetState) → captures_to (half_bits plan) (net_of plan s) ≡ captures_from plan s
unfolding captures_from
captures_are_from plan s = refl

-- the network of a plan itself
pub later_of_plan : (plan : Plan) (t : ℕ) → later_net (net plan 0) t ≡ net plan t
later_of_plan plan zero = refl
later_of_plan plan (suc t) = ap next (later_of_plan plan t)

pub at_time : (plan : Plan) (k : KeptNet) (t from to : ℕ) → from ≡ 0 → t ≡ to → Stands (later_net (net plan 0) (t - from)) k → Stands (net plan to) k
at_time plan k t from to begin same h =
    let is : t - from ≡ to = omega (arith, begin, same) in
    subst (λ (n : Net). Stands n k) (ap (later_net (net plan 0)) is ∙ later_of_plan plan to) h

-- a leap or a step, and what comes after it
pub later_sum : (n : Net) (a b : ℕ) → later_net (later_net n a) b ≡ later_net n (a + b)
later_sum n a zero = let none : a ≡ a + 0 = omega arith in ap (later_net n) none
later_sum n a (suc b) = ap next (later_sum n a b) ∙ (let more : suc (a + b) ≡ a + suc b = omega arith in ap (later_net n) more)

pub later_on : (n : Net) (k : KeptNet) (from t to : ℕ) → from ≤ t → t ≤ to → Stands (later_net (later_net n (t - from)) (to - t)) k → Stands (later_net n (to - from)) k
later_on n k from t to l m h =
    let sum : t - from + (to - t) ≡ to - from = omega (arith, l, m) in
    subst (λ (x : Net). Stands x k) (later_sum n (t - from) (to - t) ∙ ap (later_net n) sum) h

-- m half bits after half bit t
pub later_by : (n : Net) (k : KeptNet) (t m now : ℕ) → now ≡ t → Stands (later_net n m) k → Stands (later_net n (now + m - t)) k
later_by n k t m now same h = let is : m ≡ now + m - t = omega (arith, same) in subst (λ u. Stands (later_net n u) k) is h

-- what the run of a plan gives
pub rows_of_plan : (plan : Plan) (k : KeptNet) → Stands (net plan (half_bits plan)) k → k.t ≡ half_bits plan → k.rows ++ cut_rows k.t 0 k.senders ≡ rows plan
unfolding rows
rows_of_plan plan k st e = ap₂ (λ (xs ys : List Row). xs ++ ys) st.rows (ap₂ (λ m (ss : List Sender). cut_rows m 0 ss) e st.senders)

pub captures_of_plan : (plan : Plan) (k : KeptNet) → Stands (net plan (half_bits plan)) k → k.captures ≡ captures plan
unfolding captures
captures_of_plan plan k st = st.captures
