-- Repeaters that go on from a quiet half bit are as they were, but for what bears on nothing.
use Rattle.std.proofs.Common.{◌≡◌, ℕ, zero, suc, ◌+◌, ◌*◌, ◌<◌, false, eqb, All, List, [], ◌∷◌, ◌++◌, map, take, drop, replicate, length, length-append, get_or, get_or-take, get_or-drop, refl, sym, subst, ap, ap₂, ◌∙◌, arith}
use Rattle.std.specs.List.{flat_map, AllByRecursion}
use Rattle.std.proofs.lemmas.Bool.{cond_both}
use Rattle.std.proofs.lemmas.List.{length-map, length-replicate, get_or-replicate, get_or_append_left, get_or-append-add, replicate-append-replicate, ext_get_or, take_at, drop_at}
use Rattle.std.proofs.lemmas.List.Elements.{All-head, All-tail}
use Rattle.manchester_line.specs.declared.Sym.{Sym}
use Rattle.manchester_line.specs.declared.Sym.TheVariants.{Idle}
use Rattle.layout.specs.declared.lines.RepeaterLine.{RepeaterLine}
use Rattle.load_plan.specs.declared.plan.Plan.{Plan}
use Rattle.port_partition.specs.Guard.{Guard}
use Rattle.repeater_core.specs.declared.modes.Mode.TheVariants as mode
use Rattle.repeater_core.specs.Counts.{Count, Choice, choice, choice_awake, choices_from, resting_count}
use Rattle.repeater_core.specs.Delayed.{Delayed}
use Rattle.repeater_core.specs.Step.{RepeaterDevice, after, chosen, resumed_state}
use Rattle.network.specs.Net.{net, each_repeater, new_repeater, ports_hear}
use Rattle.network.proofs.DelayLines.{IsLined, LinesUp, row_before, lined, delays}
use Rattle.quiet_state.specs.Resumed.{resumed_repeaters}
use Rattle.quiet_state.proofs.BareRepeaters.{bare_count, bare_state, joined_bare}

-- in mode Idle no output is under way
abbrev HasNoRun : Count → Type 0
HasNoRun c = c.run ≡ 0

abbrev RestsWhereIdle : RepeaterDevice → Type 0
RestsWhereIdle r = r.mode ≡ mode.Idle → AllByRecursion HasNoRun r.counts

no_run : (c : Count) → (choice Idle c).count.run ≡ 0
no_run c = cond_both (eqb c.rest 0) (choice_awake Idle c) _ (λ (x : Choice). x.count.run ≡ 0) (λ _. refl) (λ _. refl)

no_runs : (hs : List Sym) (q : ℕ) (cs : List Count) → AllByRecursion HasNoRun (map (λ x. x.count) (choices_from mode.Idle hs q cs))
no_runs hs q [] = tt
no_runs hs q (c ∷ cs) = (no_run c, no_runs hs (q + 1) cs)

rests_after : (hs : List Sym) (r : RepeaterDevice) → RestsWhereIdle (after hs r)
unfolding chosen
rests_after hs r = λ e. subst (λ m. AllByRecursion HasNoRun (map (λ x. x.count) (choices_from m hs 0 r.counts))) (sym e) (no_runs hs 0 r.counts)

all_rest_after : (hs : List Sym) (rs : List RepeaterDevice) → AllByRecursion RestsWhereIdle (each_repeater after hs rs)
all_rest_after hs [] = tt
all_rest_after hs (r ∷ rs) = (rests_after (take (length r.guards) hs) r, all_rest_after (drop (length r.guards) hs) rs)

new_counts : (n : ℕ) → AllByRecursion HasNoRun (replicate n (resting_count 0))
new_counts zero = tt
new_counts (suc n) = (refl, new_counts n)

new_rest : (ls : List RepeaterLine) → AllByRecursion RestsWhereIdle (map new_repeater ls)
new_rest [] = tt
new_rest (l ∷ ls) = (λ _. new_counts (length l.ports), new_rest ls)

all_rest : (plan : Plan) (t : ℕ) → AllByRecursion RestsWhereIdle (net plan t).repeaters
all_rest plan zero = new_rest plan.layout.repeaters
all_rest plan (suc t) = all_rest_after (ports_hear (net plan t)) (net plan t).repeaters

-- each has its delay
abbrev pub AreLate : List RepeaterLine → List RepeaterDevice → Type 0
AreLate [] [] = Unit {0}
AreLate (l ∷ ls) (r ∷ rs) = (r.line.delay ≡ l.delay) × AreLate ls rs
AreLate _ _ = ⊥

new_late : (ls : List RepeaterLine) → AreLate ls (map new_repeater ls)
new_late [] = tt
new_late (l ∷ ls) = (refl, new_late ls)

late_after : (ls : List RepeaterLine) (rs : List RepeaterDevice) (hs : List Sym) → AreLate ls rs → AreLate ls (each_repeater after hs rs)
late_after [] [] hs h = tt
late_after [] (r ∷ rs) hs h = absurd h
late_after (l ∷ ls) [] hs h = absurd h
late_after (l ∷ ls) (r ∷ rs) hs h = (h.0, late_after ls rs (drop (length r.guards) hs) h.1)

pub late : (plan : Plan) (t : ℕ) → AreLate plan.layout.repeaters (net plan t).repeaters
late plan zero = new_late plan.layout.repeaters
late plan (suc t) = late_after plan.layout.repeaters (net plan t).repeaters (ports_hear (net plan t)) (late plan t)

-- the decisions that are still to be emitted are Idle
abbrev pub NoneIsComing : List RepeaterLine → List (List Sym) → Type 0
NoneIsComing ls h = (e b : ℕ) → e < length (delays ls) → b < get_or (delays ls) e 0 → get_or (get_or h b []) e Idle ≡ Idle

row_idle : (n : ℕ) (h : List (List Sym)) (b e : ℕ) → e < n → get_or (get_or h b []) e Idle ≡ Idle → get_or (row_before n (map (take n) h) b) e Idle ≡ Idle
row_idle n [] b e l k = get_or-replicate n e Idle Idle l
row_idle n (row ∷ h) zero e l k = get_or-take n row e Idle l ∙ k
row_idle n (row ∷ h) (suc b) e l k = row_idle n h b e l k

row_long : (n : ℕ) (own : List (List Sym)) (b : ℕ) → All (λ row. length row ≡ n) own → length (row_before n own b) ≡ n
row_long n [] b a = length-replicate n Idle
row_long n (row ∷ own) zero a = All-head (λ (x : List Sym). length x ≡ n) row own a
row_long n (row ∷ own) (suc b) a = row_long n own b (All-tail (λ (x : List Sym). length x ≡ n) row own a)

idle_row : (n : ℕ) (xs : List Sym) → length xs ≡ n → ((e : ℕ) → e < n → get_or xs e Idle ≡ Idle) → xs ≡ replicate n Idle
idle_row n xs l same =
    ext_get_or Idle xs (replicate n Idle) (l ∙ sym (length-replicate n Idle)) (λ e m. let in_it : e < n = omega (arith, l, m) in same e in_it ∙ sym (get_or-replicate n e Idle Idle in_it))

idle_line : (n d : ℕ) (h : List (List Sym)) → All (λ row. length row ≡ n) (map (take n) h) → ((e b : ℕ) → e < n → b < d → get_or (get_or h b []) e Idle ≡ Idle) → lined n (map (take n) h) d ≡ replicate (d * n) Idle
idle_line n zero h a same = let z : 0 ≡ zero * n = omega arith in ap (λ m. replicate m Idle) z
idle_line n (suc d) h a same =
    let own = map (take n) h in
    let more : n + d * n ≡ suc d * n = omega arith in
    ap₂ (λ (xs ys : List Sym). xs ++ ys)
    (idle_row n (row_before n own d) (row_long n own d a) (λ e l. row_idle n h d e l (same e d l (omega arith))))
    (idle_line n d h a (λ e b l m. same e b l (omega arith)))
    ∙ replicate-append-replicate n (d * n) Idle ∙ ap (λ m. replicate m Idle) more

abbrev no_symbols : List Sym
no_symbols = []

drop_nothing : (n : ℕ) → drop n no_symbols ≡ no_symbols
drop_nothing zero = refl
drop_nothing (suc n) = refl

dropped_row : (n : ℕ) (h : List (List Sym)) (b : ℕ) → get_or (map (drop n) h) b [] ≡ drop n (get_or h b [])
dropped_row n [] b = sym (drop_nothing n)
dropped_row n (row ∷ h) zero = refl
dropped_row n (row ∷ h) (suc b) = dropped_row n h b

delays_long : (l : RepeaterLine) (ls : List RepeaterLine) → length (delays (l ∷ ls)) ≡ length l.ports + length (delays ls)
delays_long l ls = length-append (replicate (length l.ports) l.delay) (delays ls) ∙ ap (λ n. n + length (delays ls)) (length-replicate (length l.ports) l.delay)

own_coming : (l : RepeaterLine) (ls : List RepeaterLine) (h : List (List Sym)) → NoneIsComing (l ∷ ls) h → (e b : ℕ) → e < length l.ports → b < l.delay → get_or (get_or h b []) e Idle ≡ Idle
own_coming l ls h q e b in_it soon =
    let n = length l.ports in
    let many = delays_long l ls in
    let few : length (replicate n l.delay) ≡ n = length-replicate n l.delay in
    let by : get_or (delays (l ∷ ls)) e 0 ≡ l.delay = get_or_append_left (replicate n l.delay) (delays ls) 0 e (omega (arith, in_it, few)) ∙ get_or-replicate n e l.delay 0 in_it in
    q e b (omega (arith, in_it, many)) (omega (arith, soon, by))

other_coming : (l : RepeaterLine) (ls : List RepeaterLine) (h : List (List Sym)) → NoneIsComing (l ∷ ls) h → NoneIsComing ls (map (drop (length l.ports)) h)
other_coming l ls h q e b in_it soon =
    let n = length l.ports in
    let many = delays_long l ls in
    let at : get_or (delays (l ∷ ls)) (n + e) 0 ≡ get_or (delays ls) e 0 =
    (let few = length-replicate n l.delay in subst (λ m. get_or (delays (l ∷ ls)) (m + e) 0 ≡ get_or (delays ls) e 0) few (get_or-append-add (replicate n l.delay) (delays ls) e 0)) in
    ap (λ row. get_or row e Idle) (dropped_row n h b) ∙ get_or-drop n (get_or h b []) e Idle ∙ q (n + e) b (omega (arith, in_it, many)) (omega (arith, soon, at))

-- one repeater
counts_alike : (cs : List Count) → AllByRecursion HasNoRun cs → map bare_count cs ≡ map bare_count (map resting_count (map (λ c. c.rest) cs))
counts_alike [] h = refl
counts_alike (c ∷ cs) h =
    ap₂ (λ (x : Count) xs. x ∷ xs) (ap (λ n. (let x : Count = record { run = n; rest = c.rest; after_rest = false } in x)) h.0) (counts_alike cs h.1)

joined_line : (d : Delayed) (ports delay : ℕ) (rows : List Sym) → d.ports ≡ ports → d.delay ≡ delay → d.rows ≡ rows → d ≡ record { ports = ports; delay = delay; rows = rows }
joined_line d ports delay rows p l r =
    ap₂ (λ a b. (let x : Delayed = record { ports = a; delay = b; rows = d.rows } in x)) p l ∙ ap (λ xs. (let x : Delayed = record { ports = ports; delay = delay; rows = xs } in x)) r

one_alike : (l : RepeaterLine) (ls : List RepeaterLine) (r : RepeaterDevice) (h : List (List Sym)) → IsLined l r (map (take (length l.ports)) h) → NoneIsComing (l ∷ ls) h → r.mode ≡ mode.Idle → r.line.delay ≡ l.delay → RestsWhereIdle r → bare_state r ≡ bare_state (resumed_state l.delay r.guards (map (λ c. c.rest) r.counts))
one_alike l ls r h is q m d rests =
    let n = length l.ports in
    let many : length r.guards ≡ n = is.guards in
    joined_bare r (resumed_state l.delay r.guards (map (λ c. c.rest) r.counts)) m refl (counts_alike r.counts (rests m))
    (joined_line r.line (length r.guards) l.delay (replicate (l.delay * length r.guards) Idle) (is.ports ∙ sym many) d
    (is.rows ∙ idle_line n l.delay h is.wide (own_coming l ls h q) ∙ ap (λ k. replicate (l.delay * k) Idle) (sym many)))

-- and all of them
all_alike : (ls : List RepeaterLine) (rs : List RepeaterDevice) (h : List (List Sym)) → LinesUp ls rs h → NoneIsComing ls h → All (λ r. r.mode ≡ mode.Idle) rs → AreLate ls rs → AllByRecursion RestsWhereIdle rs →
    map bare_state rs ≡ map bare_state (resumed_repeaters ls (flat_map (λ r. r.guards) rs) (flat_map (λ r. map (λ c. c.rest) r.counts) rs))
all_alike [] [] h up q m d rests = refl
all_alike [] (r ∷ rs) h up q m d rests = absurd up
all_alike (l ∷ ls) [] h up q m d rests = absurd up
all_alike (l ∷ ls) (r ∷ rs) h up q m d rests =
    let n = length l.ports in
    let gs : List Guard = flat_map (λ r. r.guards) rs in
    let ns : List ℕ = flat_map (λ r. map (λ c. c.rest) r.counts) rs in
    let own : List ℕ = map (λ c. c.rest) r.counts in
    let is = up.0 in
    let many : length own ≡ n = length-map r.counts (λ (c : Count). c.rest) ∙ is.counts in
    let first : bare_state r ≡ bare_state (resumed_state l.delay (take n (r.guards ++ gs)) (take n (own ++ ns))) =
    one_alike l ls r h is q (All-head (λ (x : RepeaterDevice). x.mode ≡ mode.Idle) r rs m) d.0 rests.0
    ∙ ap₂ (λ (a : List Guard) (b : List ℕ). bare_state (resumed_state l.delay a b)) (sym (take_at r.guards gs n is.guards)) (sym (take_at own ns n many)) in
    let others : map bare_state rs ≡ map bare_state (resumed_repeaters ls (drop n (r.guards ++ gs)) (drop n (own ++ ns))) =
    all_alike ls rs (map (drop n) h) up.1 (other_coming l ls h q) (All-tail (λ (x : RepeaterDevice). x.mode ≡ mode.Idle) r rs m) d.1 rests.1
    ∙ ap₂ (λ (a : List Guard) (b : List ℕ). map bare_state (resumed_repeaters ls a b)) (sym (drop_at r.guards gs n is.guards)) (sym (drop_at own ns n many)) in
    ap₂ (λ (x : RepeaterDevice) xs. x ∷ xs) first others

pub repeaters_resumed : (plan : Plan) (t : ℕ) → LinesUp plan.layout.repeaters (net plan t).repeaters (net plan t).decided → NoneIsComing plan.layout.repeaters (net plan t).decided → All (λ r. r.mode ≡ mode.Idle) (net plan t).repeaters →
    map bare_state (net plan t).repeaters ≡ map bare_state (resumed_repeaters plan.layout.repeaters (flat_map (λ r. r.guards) (net plan t).repeaters) (flat_map (λ r. map (λ c. c.rest) r.counts) (net plan t).repeaters))
repeaters_resumed plan t up q m =
    all_alike plan.layout.repeaters (net plan t).repeaters (net plan t).decided up q m (late plan t) (all_rest plan t)
