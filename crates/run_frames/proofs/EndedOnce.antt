-- In the rows of a run no frame of a device ends twice.
use Rattle.std.proofs.Common.{◌≡◌, ℕ, zero, suc, ◌+◌, ◌<◌, ◌≤◌, cond, eqb, Option, Some, None, List, [], ◌∷◌, ◌++◌, map, length, get_or, take, drop, refl, sym, ap, subst, ◌∙◌, inl, inr, arith}
use Rattle.std.specs.List.{AllByRecursion}
use Rattle.std.proofs.lemmas.Bool.{cases_eq, cases_lt, cond_both, eq-eqb, ne_eqb}
use Rattle.manchester_line.specs.declared.Sym.{Sym}
use Rattle.collision_log.specs.declared.row.Body.{Body}
use Rattle.collision_log.specs.declared.row.Row.{Row}
use Rattle.load_plan.specs.declared.plan.Plan.{Plan}
use Rattle.mac_receive.specs.Receiver.{Reception}
use Rattle.mac_transmit.specs.Sender.{Sender, cut_of}
use Rattle.repeater_core.specs.Step.{RepeaterDevice}
use Rattle.network.specs.Attempts.{sender_at}
use Rattle.network.specs.Net.{each_repeater, net, ports_hear, receptions_in, stations_emit, stations_hear}
use Rattle.network.specs.Outputs.{cut_rows, half_bits, rows}
use Rattle.network.specs.Rows.{repeater_bodies, repeater_rows, row_of, rows_of, rows_of_bodies}
use Rattle.run_texts.proofs.EndedFrames.{ended_of}
use Rattle.run_frames.proofs.FramelessRows.{IsAtRepeater, NamesNone, receptions_frameless, repeater_there}
use Rattle.run_frames.proofs.NumberedFrames.{cut_of_frame, ends_frame, frame_ended, frameless_ends, one_at_most, step_of_frame}
use Rattle.run_frames.proofs.StationRuns.{cut_at, cuts_in, event_at, event_in, events_in, no_cut_past, no_event_past, place_next}

-- how many of the rows end frame n of device k
abbrev pub times_ended : ℕ → ℕ → List Row → ℕ
times_ended n k [] = 0
times_ended n k (row ∷ rows) = cond (eqb row.device k) (ends_frame n row.body) 0 + times_ended n k rows

times-append : (n k : ℕ) (xs ys : List Row) → times_ended n k (xs ++ ys) ≡ times_ended n k xs + times_ended n k ys
times-append n k [] ys = omega arith
times-append n k (x ∷ xs) ys = omega (arith, times-append n k xs ys)

-- ---- the rows of a half bit

row_here : (n t k i : ℕ) (e : Option Body) → i ≡ k → times_ended n i (row_of t k e) ≡ frame_ended n e
row_here n t k i None same = refl
row_here n t k i (Some body) same = ap (λ b. cond b (ends_frame n body) 0 + 0) (eq-eqb k i (omega arith)) ∙ omega arith

row_elsewhere : (n t k i : ℕ) (e : Option Body) → (k ≡ i → ⊥) → times_ended n i (row_of t k e) ≡ 0
row_elsewhere n t k i None ne = refl
row_elsewhere n t k i (Some body) ne = ap (λ b. cond b (ends_frame n body) 0 + 0) (ne_eqb k i ne)

row_frameless : (n t k i : ℕ) (e : Option Body) → NamesNone e → times_ended n i (row_of t k e) ≡ 0
row_frameless n t k i None none = refl
row_frameless n t k i (Some body) none =
    let ends : ends_frame n body ≡ 0 = frameless_ends n body none in
    cond_both (eqb k i) (ends_frame n body) 0 (λ m. m + 0 ≡ 0) (λ _. omega (arith, ends)) (λ _. omega arith)

parts : (n t k i : ℕ) (e r : Option Body) (es rs : List (Option Body)) → times_ended n i (rows_of t k (e ∷ es) (r ∷ rs)) ≡ times_ended n i (row_of t k e) + times_ended n i (row_of t k r) + times_ended n i (rows_of t (k + 1) es rs)
parts n t k i e r es rs =
    times-append n i (row_of t k e ++ row_of t k r) (rows_of t (k + 1) es rs)
    ∙ ap (λ m. m + times_ended n i (rows_of t (k + 1) es rs)) (times-append n i (row_of t k e) (row_of t k r))

rows_after : (n t k i : ℕ) (es rs : List (Option Body)) → i < k → times_ended n i (rows_of t k es rs) ≡ 0
rows_after n t k i [] rs lt = refl
rows_after n t k i (e ∷ es) [] lt = refl
rows_after n t k i (e ∷ es) (r ∷ rs) lt =
    let no : k ≡ i → ⊥ = λ same. omega arith in
    parts n t k i e r es rs ∙ omega (arith, row_elsewhere n t k i e no, row_elsewhere n t k i r no, rows_after n t (k + 1) i es rs (omega arith))

-- of the rows of stations at most the event of the station's own sender ends a frame of it
rows_at : (n t k i j : ℕ) (es rs : List (Option Body)) → i ≡ k + j → AllByRecursion NamesNone rs → times_ended n i (rows_of t k es rs) ≤ frame_ended n (get_or es j None)
rows_at n t k i j [] rs at none = omega arith
rows_at n t k i j (e ∷ es) [] at none = omega arith
rows_at n t k i zero (e ∷ es) (r ∷ rs) at none =
    rw (parts n t k i e r es rs) (omega (arith, row_here n t k i e (omega arith), row_frameless n t k i r none.0, rows_after n t (k + 1) i es rs (omega arith)))
rows_at n t k i (suc j) (e ∷ es) (r ∷ rs) at none =
    rw (parts n t k i e r es rs) (omega (arith, row_elsewhere n t k i e (λ same. omega arith), row_frameless n t k i r none.0, rows_at n t (k + 1) i j es rs (omega arith) none.1))

bodies_frameless : (n t k i ports : ℕ) (bs : List Body) → AllByRecursion (IsAtRepeater ports) bs → times_ended n i (rows_of_bodies t k bs) ≡ 0
bodies_frameless n t k i ports [] h = refl
bodies_frameless n t k i ports (b ∷ bs) h =
    let ends : ends_frame n b ≡ 0 = frameless_ends n b h.0.frameless in
    let rest : times_ended n i (rows_of_bodies t k bs) ≡ 0 = bodies_frameless n t k i ports bs h.1 in
    cond_both (eqb k i) (ends_frame n b) 0 (λ m. m + times_ended n i (rows_of_bodies t k bs) ≡ 0) (λ _. omega (arith, ends, rest)) (λ _. omega (arith, rest))

-- no row of a repeater ends a frame
repeaters_frameless : (n t k i : ℕ) (hears : List Sym) (rs : List RepeaterDevice) → times_ended n i (repeater_rows t k (each_repeater repeater_bodies hears rs)) ≡ 0
repeaters_frameless n t k i hears [] = refl
repeaters_frameless n t k i hears (r ∷ rs) =
    let here = take (length r.guards) hears in
    let rest = drop (length r.guards) hears in
    times-append n i (rows_of_bodies t k (repeater_bodies here r)) (repeater_rows t (k + 1) (each_repeater repeater_bodies rest rs))
    ∙ omega (arith, bodies_frameless n t k i (length r.guards) (repeater_bodies here r) (repeater_there (length r.guards) here r (omega arith)), repeaters_frameless n t (k + 1) i rest rs)

-- a half bit ends a frame of a device at most by the event of its sender
one_more : (plan : Plan) (n i t : ℕ) → times_ended n i (net plan (suc t)).rows ≤ times_ended n i (net plan t).rows + frame_ended n (get_or (events_in plan t) i None)
one_more plan n i t =
    let at = net plan t in
    let es = events_in plan t in
    let rs = map (λ (r : Reception). r.event) (receptions_in at) in
    let stations = rows_of at.t 0 es rs in
    let repeaters = repeater_rows at.t (length at.senders) (each_repeater repeater_bodies (ports_hear at) at.repeaters) in
    let all : times_ended n i (at.rows ++ (stations ++ repeaters)) ≡ times_ended n i at.rows + times_ended n i (stations ++ repeaters) = times-append n i at.rows (stations ++ repeaters) in
    let both : times_ended n i (stations ++ repeaters) ≡ times_ended n i stations + times_ended n i repeaters = times-append n i stations repeaters in
    let few : times_ended n i stations ≤ frame_ended n (get_or es i None) = rows_at n at.t 0 i i es rs (omega arith) (receptions_frameless (stations_hear at) (stations_emit at) at.receivers) in
    let none : times_ended n i repeaters ≡ 0 = repeaters_frameless n at.t (length at.senders) i (ports_hear at) at.repeaters in
    omega (arith, all, both, few, none)

cuts_after : (n t k i : ℕ) (ss : List Sender) → i < k → times_ended n i (cut_rows t k ss) ≡ 0
cuts_after n t k i [] lt = refl
cuts_after n t k i (s ∷ ss) lt =
    times-append n i (row_of t k (cut_of s)) (cut_rows t (k + 1) ss)
    ∙ omega (arith, row_elsewhere n t k i (cut_of s) (λ same. omega arith), cuts_after n t (k + 1) i ss (omega arith))

-- the end of the run ends a frame of a device at most by what it cuts off of its sender
cuts_among : (n t k i j : ℕ) (ss : List Sender) → i ≡ k + j → times_ended n i (cut_rows t k ss) ≤ frame_ended n (get_or (map cut_of ss) j None)
cuts_among n t k i j [] at = omega arith
cuts_among n t k i zero (s ∷ ss) at =
    rw (times-append n i (row_of t k (cut_of s)) (cut_rows t (k + 1) ss)) (omega (arith, row_here n t k i (cut_of s) (omega arith), cuts_after n t (k + 1) i ss (omega arith)))
cuts_among n t k i (suc j) (s ∷ ss) at =
    rw (times-append n i (row_of t k (cut_of s)) (cut_rows t (k + 1) ss))
    (omega (arith, row_elsewhere n t k i (cut_of s) (λ same. omega arith), cuts_among n t (k + 1) i j ss (omega arith)))

-- ---- the whole run

-- frame n ended so many times: at most once, and not at all where a sender at this place hasn't come to it
record IsBehind (n place many : ℕ) : Type 0 where
  once : many ≤ 1
  ahead : place < n → many ≡ 0

steps : (n place more many ends : ℕ) → IsBehind n place many → more ≤ 1 → ends ≤ many + cond (eqb (place + 1) n) more 0 → IsBehind n (place + more) ends
steps n place more many ends h one le = elim (cases_eq (place + 1) n) [
  | inl same ↦ (
      let here : cond (eqb (place + 1) n) more 0 ≡ more = ap (λ b. cond b more 0) (eq-eqb (place + 1) n same) in
      let none : many ≡ 0 = h.ahead (omega (arith, same)) in
      record { once = omega (arith, le, here, none, one); ahead = λ lt. omega (arith, lt, same, le, here, none) }
      )
  | inr other ↦ (
      let here : cond (eqb (place + 1) n) more 0 ≡ 0 = ap (λ b. cond b more 0) (ne_eqb (place + 1) n other) in
      record { once = omega (arith, le, here, h.once); ahead = λ lt. (let none : many ≡ 0 = h.ahead (omega (arith, lt)) in omega (arith, le, here, none)) }
      )
]

behind : (plan : Plan) (n k t : ℕ) → k < length plan.layout.stations → IsBehind n (sender_at plan k t).place (times_ended n k (net plan t).rows)
behind plan n k zero l = record { once = omega arith; ahead = λ lt. refl }
behind plan n k (suc t) l =
    let place = (sender_at plan k t).place in
    let ends = times_ended n k (net plan (suc t)).rows in
    let before = times_ended n k (net plan t).rows in
    let named : frame_ended n (get_or (events_in plan t) k None) ≡ cond (eqb (place + 1) n) (ended_of (event_in plan k t)) 0 =
    ap (frame_ended n) (event_at plan k t l) ∙ step_of_frame n (sender_at plan k t) _ in
    let le : ends ≤ before + cond (eqb (place + 1) n) (ended_of (event_in plan k t)) 0 = omega (arith, one_more plan n k t, named) in
    subst (λ p. IsBehind n p ends) (sym (place_next plan k t l))
    (steps n place (ended_of (event_in plan k t)) before ends (behind plan n k t l) (one_at_most (event_in plan k t)) le)

none_past : (plan : Plan) (n i t : ℕ) → length plan.layout.stations ≤ i → times_ended n i (net plan t).rows ≡ 0
none_past plan n i zero le = refl
none_past plan n i (suc t) le =
    let none : frame_ended n (get_or (events_in plan t) i None) ≡ 0 = ap (frame_ended n) (no_event_past plan i t le) in
    omega (arith, one_more plan n i t, none, none_past plan n i t le)

-- in a whole run a frame of a device ends at most once
pub ended_once : (plan : Plan) (n i : ℕ) → times_ended n i (rows plan) ≤ 1
unfolding rows
ended_once plan n i =
    let h = half_bits plan in
    let at = net plan h in
    let cut = cut_rows h 0 at.senders in
    let all : times_ended n i (at.rows ++ cut) ≡ times_ended n i at.rows + times_ended n i cut = times-append n i at.rows cut in
    let few : times_ended n i cut ≤ frame_ended n (get_or (cuts_in plan h) i None) = cuts_among n h 0 i i at.senders (omega arith) in
    elim (cases_lt i (length plan.layout.stations)) [
      | inl lt ↦ (
          let place = (sender_at plan i h).place in
          let told = behind plan n i h lt in
          let named : frame_ended n (get_or (cuts_in plan h) i None) ≡ frame_ended n (cut_of (sender_at plan i h)) = ap (frame_ended n) (cut_at plan i h lt) in
          let of_place : frame_ended n (cut_of (sender_at plan i h)) ≤ cond (eqb (place + 1) n) 1 0 = cut_of_frame n (sender_at plan i h) in
          (steps n place 1 (times_ended n i at.rows) (times_ended n i (at.rows ++ cut)) told (omega arith) (omega (arith, all, few, named, of_place))).once
          )
      | inr past ↦ (
          let none : frame_ended n (get_or (cuts_in plan h) i None) ≡ 0 = ap (frame_ended n) (no_cut_past plan i h past) in
          omega (arith, all, few, none, none_past plan n i h past)
          )
    ]
