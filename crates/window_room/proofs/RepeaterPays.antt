-- The rows of a repeater are paid by its half bits.
use Rattle.std.proofs.Common.{◌≡◌, ℕ, suc, ◌+◌, ◌*◌, ◌/◌, ◌≤◌, Bool, true, false, ◌&&◌, ◌||◌, not, eqb, ltb, List, [], ◌∷◌, ◌++◌, length, refl, subst, ◌∙◌, ◌-◌, arith, length-append, suc-mul}
use Rattle.std.specs.Prelude.{min, map, if◌then◌else◌}
use Rattle.std.proofs.lemmas.Bool.{cond_both, eqb-true}
use Rattle.std.proofs.Math.Nat.{min-le_right}
use Rattle.mac_parameters.specs.Parameters.{fragment_extension, jabber_limit, jabber_rest, reconnection}
use Rattle.manchester_line.specs.declared.Sym.{Sym}
use Rattle.manchester_line.specs.declared.Sym.TheVariants as sym
use Rattle.manchester_line.specs.Line.{is_signal}
use Rattle.collision_log.specs.declared.row.Body.{Body}
use Rattle.collision_log.specs.declared.row.Body.TheVariants as body
use Rattle.port_partition.specs.declared.guard.GuardEvent.{GuardEvent}
use Rattle.port_partition.specs.declared.guard.GuardEvent.TheVariants as event
use Rattle.port_partition.specs.Guard.{Guard, guard_after, event_of, closes, after_clash, after_clean, clean_with}
use Rattle.repeater_core.specs.declared.modes.Mode.{Mode}
use Rattle.repeater_core.specs.declared.modes.Mode.TheVariants.{Idle, Repeat, Extend, RxClash, TxClash, OnePort}
use Rattle.repeater_core.specs.declared.modes.Activity.{Activity}
use Rattle.repeater_core.specs.declared.modes.Activity.TheVariants.{Nobody, One, Several}
use Rattle.repeater_core.specs.Limits.{counts_end}
use Rattle.repeater_core.specs.Modes.{mode_after, next_count, is_tx_clash, wish_of, activity_from, begun, repeated}
use Rattle.repeater_core.specs.Counts.{Count, Choice, choice, choice_awake, choices_from}
use Rattle.repeater_core.specs.Step.{RepeaterDevice, after, chosen, collides, emitted_by, guards_after, guard_events, mode_next}
use Rattle.network.specs.Rows.{happened, guard_bodies, port_bodies, repeater_bodies}
use Rattle.window_room.specs.RepeaterRows.{guard_turn, spent_by_guard, spent_by_count, spent_by_mode, guard_rows_left, halt_rows_left, repeater_rows_left, repeater_window_rows}

abbrev one_if : Bool → ℕ
one_if true = 1
one_if false = 0

abbrev one_for : GuardEvent → ℕ
one_for event.None = 0
one_for event.Closed = 1
one_for event.Opened = 1

abbrev guard : Bool → Bool → Bool → ℕ → ℕ → ℕ → Guard
guard cl m st ir cr cn = record { closed = cl; mend = m; struck = st; in_row = ir; clash_run = cr; clean_run = cn }

-- a port's half bit without a collision
clean_pays : (cl m st : Bool) (ir cr cn : ℕ) (busy : Bool) → spent_by_guard (after_clean (guard cl m st ir cr cn) busy) ≤ spent_by_guard (guard cl m st ir cr cn) + 1
clean_pays false m st ir cr cn false = omega arith
clean_pays true true st ir cr cn false = omega arith
clean_pays true false st ir cr cn false = grind arith
clean_pays cl m st ir cr cn true =
    let g = guard cl m st ir cr cn in
    cond_both (eqb (clean_with g) reconnection)
    (record g { mend = g.closed; in_row = 0; clash_run = 0; clean_run = reconnection }) (record g { clash_run = 0; clean_run = clean_with g })
    (λ x. spent_by_guard x ≤ spent_by_guard g + 1)
    (λ e. full cl m (eqb-true (clean_with g) reconnection e)) (λ _. more cl m)
  where
    full : (cl m : Bool) → min (cn + 1) reconnection ≡ reconnection → spent_by_guard (guard cl cl st 0 0 reconnection) ≤ spent_by_guard (guard cl m st ir cr cn) + 1
    full false m e = omega arith
    full true true e = omega arith
    full true false e = grind (arith, e)

    more : (cl m : Bool) → spent_by_guard (guard cl m st ir 0 (min (cn + 1) reconnection)) ≤ spent_by_guard (guard cl m st ir cr cn) + 1
    more false m = omega arith
    more true true = omega arith
    more true false = grind arith

-- a port's half bit with a collision
clash_pays : (cl m st : Bool) (ir cr cn : ℕ) → guard_turn * one_if (closes (guard cl m st ir cr cn)) + spent_by_guard (after_clash (guard cl m st ir cr cn)) ≤ spent_by_guard (guard cl m st ir cr cn) + 1
clash_pays true m st ir cr cn = grind arith
clash_pays false m st ir cr cn = opened (closes (guard false m st ir cr cn))
  where
    opened : (c : Bool) → guard_turn * one_if c + (if (false || c) then (if false then reconnection else min 0 reconnection) else guard_turn) ≤ guard_turn + 1
    opened true = grind arith
    opened false = omega arith

-- a port that is not connected again
shut_pays : (g : Guard) (clash busy : Bool) → guard_turn * one_for (if (clash && closes g) then event.Closed else event.None) + spent_by_guard (if clash then after_clash g else after_clean g busy) ≤ spent_by_guard g + 1
shut_pays g false busy = omega (arith, clean_pays g.closed g.mend g.struck g.in_row g.clash_run g.clean_run busy)
shut_pays g true busy = at (closes g) (clash_pays g.closed g.mend g.struck g.in_row g.clash_run g.clean_run)
  where
    at : (c : Bool) → guard_turn * one_if c + spent_by_guard (after_clash g) ≤ spent_by_guard g + 1 → guard_turn * one_for (if c then event.Closed else event.None) + spent_by_guard (after_clash g) ≤ spent_by_guard g + 1
    at true l = l
    at false l = l

-- the ports' guards
events_count : List GuardEvent → ℕ
events_count [] = 0
events_count (e ∷ es) = one_for e + events_count es

port_pays : (g : Guard) (h c e : Bool) → guard_turn * one_for (event_of g h c) + spent_by_guard (guard_after g h c e) ≤ spent_by_guard g + 1
port_pays g h c e = by_opening g.closed g.mend h
  where
    shut : (g : Guard) (h : Bool) → guard_turn * one_for (if (c && closes g) then event.Closed else event.None) + spent_by_guard (if c then after_clash g else after_clean g (h || e)) ≤ spent_by_guard g + 1
    shut g h = shut_pays g c (h || e)

    by_opening : (cl m h : Bool)
        → (let x = record g { closed = cl; mend = m } in guard_turn * one_for (event_of x h c) + spent_by_guard (guard_after x h c e) ≤ spent_by_guard x + 1)
    by_opening false m h = shut (record g { closed = false; mend = m }) h
    by_opening true false h = shut (record g { closed = true; mend = false }) h
    by_opening true true true = shut (record g { closed = true; mend = true }) true
    by_opening true true false = omega (arith, shut (record g { closed = false; mend = false; in_row = 0 }) false)

port_step : (n s s' x : ℕ) → guard_turn * x + s' ≤ s + 1 → (n + s') / guard_turn + x ≤ (suc n + s) / guard_turn
port_step n s s' x l = omega (arith, l)

guards_left : (n : ℕ) (gs : List Guard) (hs es : List Sym) → guard_rows_left n (guards_after gs hs es) + events_count (guard_events gs hs es) ≤ guard_rows_left (suc n) gs
unfolding events_count
guards_left n [] hs es = omega arith
guards_left n (g ∷ gs) [] es = omega arith
guards_left n (g ∷ gs) (h ∷ hs) [] = omega arith
guards_left n (g ∷ gs) (h ∷ hs) (e ∷ es) =
    let x : ℕ = one_for (event_of g (is_signal h) (collides h e)) in
    let s : ℕ = spent_by_guard (guard_after g (is_signal h) (collides h e) (is_signal e)) in
    let ih : guard_rows_left n (guards_after gs hs es) + events_count (guard_events gs hs es) ≤ guard_rows_left (suc n) gs = guards_left n gs hs es in
    let one : (n + s) / guard_turn + x ≤ (suc n + spent_by_guard g) / guard_turn = port_step n (spent_by_guard g) s x (port_pays g (is_signal h) (collides h e) (is_signal e)) in
    sums (guard_rows_left n (guards_after gs hs es)) (events_count (guard_events gs hs es)) (guard_rows_left (suc n) gs) ((n + s) / guard_turn) x ((suc n + spent_by_guard g) / guard_turn) ih one
  where
    sums : (a b c d e f : ℕ) → a + b ≤ c → d + e ≤ f → (d + a) + (e + b) ≤ f + c
    sums a b c d e f x y = omega (arith, x, y)

-- the ports' counts
flags_count : List Bool → ℕ
flags_count [] = 0
flags_count (b ∷ bs) = one_if b + flags_count bs

abbrev CountPays : Count → Choice → Type 0
CountPays c x = jabber_limit * one_if x.halted + spent_by_count x.count ≤ spent_by_count c + 1

wished_pays : (s : Sym) (c : Count) → CountPays c (if eqb c.run jabber_limit then record { symbol = sym.Idle; rests = true; halted = true; count = record { run = 0; rest = jabber_rest - 1; after_rest = true } } else record { symbol = s; rests = false; halted = false; count = record { run = c.run + 1; rest = 0; after_rest = c.after_rest } })
wished_pays s c =
    cond_both (eqb c.run jabber_limit)
    (record { symbol = sym.Idle; rests = true; halted = true; count = record { run = 0; rest = jabber_rest - 1; after_rest = true } })
    (record { symbol = s; rests = false; halted = false; count = record { run = c.run + 1; rest = 0; after_rest = c.after_rest } })
    (CountPays c) (λ e. let f : c.run ≡ jabber_limit = eqb-true c.run jabber_limit e in grind (arith, f)) (λ _. grind arith)

awake_pays : (s : Sym) (c : Count) → CountPays c (choice_awake s c)
awake_pays sym.Idle c = grind arith
awake_pays sym.Hi c = wished_pays sym.Hi c
awake_pays sym.Lo c = wished_pays sym.Lo c
awake_pays sym.Clash c = wished_pays sym.Clash c

count_pays : (s : Sym) (c : Count) → CountPays c (choice s c)
count_pays s c =
    cond_both (eqb c.rest 0) (choice_awake s c) (record { symbol = sym.Idle; rests = true; halted = false; count = record { run = 0; rest = c.rest - 1; after_rest = true } })
    (CountPays c) (λ _. awake_pays s c) (λ _. grind arith)

count_step : (n s s' x : ℕ) → jabber_limit * x + s' ≤ s + 1 → (n + s') / jabber_limit + x ≤ (suc n + s) / jabber_limit
count_step n s s' x l = omega (arith, l)

counts_left : (n : ℕ) (m : Mode) (hs : List Sym) (q : ℕ) (cs : List Count)
    → halt_rows_left n (map (λ c. c.count) (choices_from m hs q cs)) + flags_count (map (λ c. c.halted) (choices_from m hs q cs)) ≤ halt_rows_left (suc n) cs
unfolding flags_count
counts_left n m hs q [] = omega arith
counts_left n m hs q (c ∷ cs) =
    let x : Choice = choice (wish_of m hs q) c in
    let ih : _ = counts_left n m hs (q + 1) cs in
    sums (halt_rows_left n (map (λ c. c.count) (choices_from m hs (q + 1) cs))) (flags_count (map (λ c. c.halted) (choices_from m hs (q + 1) cs))) (halt_rows_left (suc n) cs)
    ((n + spent_by_count x.count) / jabber_limit) (one_if x.halted) ((suc n + spent_by_count c) / jabber_limit) ih
    (count_step n (spent_by_count c) (spent_by_count x.count) (one_if x.halted) (count_pays (wish_of m hs q) c))
  where
    sums : (a b c d e f : ℕ) → a + b ≤ c → d + e ≤ f → (d + a) + (e + b) ≤ f + c
    sums a b c d e f x y = omega (arith, x, y)

-- the mode
abbrev ModePays : Mode → Mode → Type 0
ModePays m x = fragment_extension * one_if (is_tx_clash x && not (is_tx_clash m)) + spent_by_mode x ≤ spent_by_mode m + 1

next_few : (i : ℕ) → min (next_count i) fragment_extension ≤ min i fragment_extension + 1
next_few i =
    cond_both (eqb (i + 1) counts_end) fragment_extension (i + 1) (λ x. min x fragment_extension ≤ min i fragment_extension + 1)
    (λ e. let f : i + 1 ≡ counts_end = eqb-true (i + 1) counts_end e in grind (arith, f)) (λ _. grind arith)

next_late : (i : ℕ) → ltb (next_count i) fragment_extension ≡ false → fragment_extension ≤ min i fragment_extension + 1
next_late i e = late (next_count i) (min i fragment_extension) (next_few i) e
  where
    late : (x y : ℕ) → min x fragment_extension ≤ y + 1 → ltb x fragment_extension ≡ false → fragment_extension ≤ y + 1
    late x y l e = grind (arith, l, e)

begun_pays : (n : ℕ) (s : Sym) → ModePays Idle (begun n s)
begun_pays n sym.Idle = omega arith
begun_pays n sym.Hi = omega arith
begun_pays n sym.Lo = omega arith
begun_pays n sym.Clash = omega arith

repeated_pays : (n i : ℕ) (s : Sym) → ModePays (Repeat n i) (repeated n i s)
repeated_pays n i sym.Idle = omega arith
repeated_pays n i sym.Hi = omega arith
repeated_pays n i sym.Lo = omega arith
repeated_pays n i sym.Clash = omega arith

mode_pays : (m : Mode) (a : Activity) → ModePays m (mode_after m a)
mode_pays Idle Nobody = omega arith
mode_pays Idle (One n s) = begun_pays n s
mode_pays Idle Several = grind arith
mode_pays (Repeat n i) Nobody = cond_both (ltb (next_count i) fragment_extension) (Extend n (next_count i) 0) Idle (ModePays (Repeat n i)) (λ _. omega arith) (λ _. omega arith)
mode_pays (Repeat n i) (One m s) = cond_both (eqb m n) (repeated n i s) (TxClash 0) (ModePays (Repeat n i)) (λ _. repeated_pays n i s) (λ _. grind arith)
mode_pays (Repeat n i) Several = grind arith
mode_pays (Extend n i j) Nobody = cond_both (ltb (next_count i) fragment_extension) (Extend n (next_count i) (j + 1)) Idle (ModePays (Extend n i j)) (λ _. omega arith) (λ _. omega arith)
mode_pays (Extend n i j) (One m s) = cond_both (eqb m n) (RxClash n 0) (TxClash 0) (ModePays (Extend n i j)) (λ _. omega arith) (λ _. grind arith)
mode_pays (Extend n i j) Several = grind arith
mode_pays (RxClash n i) Nobody = cond_both (ltb (next_count i) fragment_extension) (RxClash n (next_count i)) Idle (ModePays (RxClash n i)) (λ _. omega arith) (λ _. omega arith)
mode_pays (RxClash n i) (One m s) = cond_both (eqb m n) (RxClash n (next_count i)) (TxClash 0) (ModePays (RxClash n i)) (λ _. omega arith) (λ _. grind arith)
mode_pays (RxClash n i) Several = grind arith
mode_pays (TxClash i) Nobody = cond_both (ltb (next_count i) fragment_extension) (TxClash (next_count i)) Idle (ModePays (TxClash i)) (λ _. omega (arith, next_few i)) (λ e. omega (arith, next_late i e))
mode_pays (TxClash i) (One n s) = cond_both (ltb (next_count i) fragment_extension) (TxClash (next_count i)) (OnePort n 0) (ModePays (TxClash i)) (λ _. omega (arith, next_few i)) (λ e. omega (arith, next_late i e))
mode_pays (TxClash i) Several = omega (arith, next_few i)
mode_pays (OnePort n i) Nobody = omega arith
mode_pays (OnePort n i) (One m s) = cond_both (eqb m n) (OnePort n (next_count i)) (TxClash 0) (ModePays (OnePort n i)) (λ _. omega arith) (λ _. grind arith)
mode_pays (OnePort n i) Several = grind arith

mode_step : (n s s' x : ℕ) → fragment_extension * x + s' ≤ s + 1 → (n + s') / fragment_extension + x ≤ (suc n + s) / fragment_extension
mode_step n s s' x l = omega (arith, l)

-- how many rows there are
length_happened : (b : Bool) (x : Body) → length (happened b x) ≡ one_if b
length_happened true x = refl
length_happened false x = refl

length_guard : (p : ℕ) (e : GuardEvent) → length (guard_bodies p e) ≡ one_for e
length_guard p event.None = refl
length_guard p event.Closed = refl
length_guard p event.Opened = refl

ports_few : (p : ℕ) (bs : List Bool) (es : List GuardEvent) → length (port_bodies p bs es) ≤ flags_count bs + events_count es
unfolding flags_count events_count
ports_few p [] es = omega arith
ports_few p (b ∷ bs) [] = omega arith
ports_few p (b ∷ bs) (e ∷ es) =
    omega (
      arith,
      ports_few (p + 1) bs es,
      length-append (happened b (body.Halted p)) (guard_bodies p e ++ port_bodies (p + 1) bs es),
      length-append (guard_bodies p e) (port_bodies (p + 1) bs es),
      length_happened b (body.Halted p),
      length_guard p e,
    )

total : (a b c d e f x y z l : ℕ) → a + x ≤ d → b + y ≤ e → c + z ≤ f → l ≤ x + (z + y) → (a + (b + c)) + l ≤ d + (e + f)
total a b c d e f x y z l p q r m = omega (arith, p, q, r, m)

pub repeater_pays : (r : RepeaterDevice) (hs : List Sym) (n : ℕ) → repeater_rows_left n (after hs r) + length (repeater_bodies hs r) ≤ repeater_rows_left (suc n) r
unfolding mode_next chosen
repeater_pays r hs n =
    let m : Mode = mode_after r.mode (activity_from 0 r.guards hs) in
    let cs : List Choice = choices_from m hs 0 r.counts in
    let es : List GuardEvent = guard_events r.guards hs (emitted_by r) in
    let bs : List Bool = map (λ c. c.halted) cs in
    let clash : Bool = is_tx_clash m && not (is_tx_clash r.mode) in
    let few : length (happened clash body.Clash ++ port_bodies 1 bs es) ≤ one_if clash + (flags_count bs + events_count es) =
    omega (arith, length-append (happened clash body.Clash) (port_bodies 1 bs es), length_happened clash body.Clash, ports_few 1 bs es) in
    total _ _ _ _ _ _ (one_if clash) (events_count es) (flags_count bs) _
    (mode_step n (spent_by_mode r.mode) (spent_by_mode m) (one_if clash) (mode_pays r.mode (activity_from 0 r.guards hs)))
    (guards_left n r.guards hs (emitted_by r)) (counts_left n m hs 0 r.counts) few

-- any state
suc-mul' : (n m : ℕ) → suc n * m ≡ m + n * m
suc-mul' n m = suc-mul n m ∙ omega arith

few_guard : (g : Guard) → spent_by_guard g ≤ reconnection
few_guard g = at g.closed g.mend
  where
    at : (cl m : Bool) → (if cl then (if m then reconnection else min g.clean_run reconnection) else guard_turn) ≤ reconnection
    at true true = omega arith
    at true false = min-le_right g.clean_run reconnection
    at false m = omega arith

any_guards : (n x : ℕ) (gs : List Guard) → 2 + n / guard_turn ≤ x → guard_rows_left n gs ≤ length gs * x
any_guards n x [] l = omega arith
any_guards n x (g ∷ gs) l =
    let m : suc (length gs) * x ≡ x + length gs * x = suc-mul' (length gs) x in
    let one : (n + spent_by_guard g) / guard_turn ≤ 2 + n / guard_turn = omega (arith, few_guard g) in
    let ih : guard_rows_left n gs ≤ length gs * x = any_guards n x gs l in
    omega (arith, m, one, ih, l)

any_counts : (n x : ℕ) (cs : List Count) → 1 + n / jabber_limit ≤ x → halt_rows_left n cs ≤ length cs * x
any_counts n x [] l = omega arith
any_counts n x (c ∷ cs) l =
    let m : suc (length cs) * x ≡ x + length cs * x = suc-mul' (length cs) x in
    let one : (n + spent_by_count c) / jabber_limit ≤ 1 + n / jabber_limit = omega (arith, min-le_right c.run jabber_limit) in
    let ih : halt_rows_left n cs ≤ length cs * x = any_counts n x cs l in
    omega (arith, m, one, ih, l)

few_mode : (m : Mode) → spent_by_mode m ≤ fragment_extension
few_mode Idle = omega arith
few_mode (Repeat n i) = omega arith
few_mode (Extend n i j) = omega arith
few_mode (RxClash n i) = omega arith
few_mode (TxClash i) = min-le_right i fragment_extension
few_mode (OnePort n i) = omega arith

pub any_repeater : (r : RepeaterDevice) (n : ℕ) → length r.counts ≡ length r.guards → repeater_rows_left n r ≤ repeater_window_rows (length r.guards) n
any_repeater r n e =
    let clashes : (n + spent_by_mode r.mode) / fragment_extension ≤ 1 + n / fragment_extension = omega (arith, few_mode r.mode) in
    let guards : guard_rows_left n r.guards ≤ length r.guards * (2 + n / guard_turn) = any_guards n (2 + n / guard_turn) r.guards (omega arith) in
    let counts : halt_rows_left n r.counts ≤ length r.counts * (1 + n / jabber_limit) = any_counts n (1 + n / jabber_limit) r.counts (omega arith) in
    sums _ _ _ _ _ _ clashes guards (subst (λ k. halt_rows_left n r.counts ≤ k * (1 + n / jabber_limit)) e counts)
  where
    sums : (a b c d f g : ℕ) → a ≤ d → b ≤ f → c ≤ g → a + (b + c) ≤ d + (f + g)
    sums a b c d f g x y z = omega (arith, x, y, z)
