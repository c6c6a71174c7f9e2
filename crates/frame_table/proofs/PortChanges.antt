-- The state of a port, by its changes in order.
use Rattle.std.proofs.Common.{◌≡◌, ℕ, zero, suc, ◌+◌, ◌-◌, ◌<◌, ◌≤◌, Bool, true, false, cond, refl, sym, ap, ◌∙◌, List, [], ◌∷◌, ◌++◌, length, get_or, take, drop, Option, None, Some, unwrap_or, append-nil, arith, eqb, ltb, take-append-drop, length-drop}
use Rattle.std.specs.Option.{option_or}
use Rattle.std.specs.List.{cons_option}
use Rattle.std.specs.List.Sorted.{IsNonDecreasingBy, IsPartitionPoint}
use Rattle.std.proofs.lemmas.List.{take_more, get_or-drop}
use Rattle.std.proofs.lemmas.List.Elements.{filter_map-append}
use Rattle.collision_log.specs.declared.row.Body.{Body}
use Rattle.collision_log.specs.declared.row.Body.TheVariants as body
use Rattle.frame_table.specs.Devices.{RisesFrom}
use Rattle.frame_table.specs.Found.{last_found}
use Rattle.frame_table.specs.Ports.{change_by, changes_of, is_open, state_before}
use Rattle.frame_table.specs.declared.events.Event.{Event}
use Rattle.frame_table.specs.declared.ports.Change.{Change}
use Rattle.frame_table.proofs.DeviceSteps.{rises_kept}
use Rattle.frame_table.proofs.FoundLast.{last_append, last_none, last_push}

-- ---- the changes of a port are in order

above : {X : Type 0} (at : X → ℕ) (t : ℕ) (xs : List X) (k : ℕ) (d : X) → RisesFrom at t xs → k < length xs → t ≤ at (get_or xs k d)
above at t [] k d h lt = absurd (omega arith)
above at t (x ∷ xs) zero d h lt = h.0
above at t (x ∷ xs) (suc k) d h lt = let more : at x ≤ at (get_or xs k d) = above at (at x) xs k d h.1 (omega arith) in omega (arith, h.0, more)

pub never_falls : {X : Type 0} (at : X → ℕ) (t : ℕ) (xs : List X) → RisesFrom at t xs → IsNonDecreasingBy at xs
never_falls at t [] h i j d le lt = absurd (omega arith)
never_falls at t (x ∷ xs) h zero zero d le lt = omega arith
never_falls at t (x ∷ xs) h zero (suc j) d le lt = above at (at x) xs j d h.1 (omega arith)
never_falls at t (x ∷ xs) h (suc i) zero d le lt = absurd (omega arith)
never_falls at t (x ∷ xs) h (suc i) (suc j) d le lt = never_falls at (at x) xs h.1 i j d (omega arith) (omega arith)

port_time : (b : Bool) (c d : Change) (n : ℕ) → cond b (Some c) None ≡ Some d → c.t ≡ n → d.t ≡ n
port_time true c d n e is = let same : c ≡ d = cc in ap (λ (x : Change). x.t) (sym same) ∙ is
port_time false c d n e is = absurd (cc)

change_time : (p t : ℕ) (b : Body) (c : Change) → change_by p t b ≡ Some c → c.t ≡ t
change_time p t (body.Sent frame start attempt) c e = absurd (cc)
change_time p t (body.Collided frame start attempt hit drawn) c e = absurd (cc)
change_time p t (body.GivenUp frame start hit) c e = absurd (cc)
change_time p t (body.Cut frame start attempt hit) c e = absurd (cc)
change_time p t (body.Received octets) c e = absurd (cc)
change_time p t (body.Dropped why halves) c e = absurd (cc)
change_time p t body.Clash c e = absurd (cc)
change_time p t (body.Closed port) c e = port_time (eqb port p) (record { t = t; open_after = false }) c t e refl
change_time p t (body.Opened port) c e = port_time (eqb port p) (record { t = t; open_after = true }) c t e refl
change_time p t (body.Halted port) c e = absurd (cc)

pub changes_rise : (p : ℕ) (events : List Event) → RisesFrom (λ e. e.t) 0 events → IsNonDecreasingBy (λ c. c.t) (changes_of p events)
changes_rise p events h =
    never_falls (λ (c : Change). c.t) 0 (changes_of p events)
    (rises_kept (λ (e : Event). e.t) (λ (c : Change). c.t) (λ e. change_by p e.t e.body) (λ e c is. change_time p e.t e.body c is) 0 events h)

-- ---- the changes by one more event

changes_next : (p : ℕ) (events : List Event) (i : ℕ) (d : Event) → i < length events
    → changes_of p (take (i + 1) events) ≡ changes_of p (take i events) ++ changes_of p (get_or events i d ∷ [])
changes_next p events i d low =
    ap (changes_of p) (take_more events i d low) ∙ filter_map-append (λ e. change_by p e.t e.body) (take i events) (get_or events i d ∷ [])

pub changes_none : (p : ℕ) (events : List Event) (i : ℕ) (d : Event) (o : Option Change) → i < length events → o ≡ change_by p (get_or events i d).t (get_or events i d).body → o ≡ None
    → changes_of p (take (i + 1) events) ≡ changes_of p (take i events)
changes_none p events i d o low is none =
    let no_more : changes_of p (get_or events i d ∷ []) ≡ [] = ap (λ x. cons_option x []) (sym is ∙ none) in
    changes_next p events i d low ∙ ap (λ cs. changes_of p (take i events) ++ cs) no_more ∙ append-nil (changes_of p (take i events))

pub changes_some : (p : ℕ) (events : List Event) (i : ℕ) (d : Event) (o : Option Change) (c : Change) → i < length events → o ≡ change_by p (get_or events i d).t (get_or events i d).body → o ≡ Some c
    → changes_of p (take (i + 1) events) ≡ changes_of p (take i events) ++ c ∷ []
changes_some p events i d o c low is some =
    let one_more : changes_of p (get_or events i d ∷ []) ≡ c ∷ [] = ap (λ x. cons_option x []) (sym is ∙ some) in
    changes_next p events i d low ∙ ap (λ cs. changes_of p (take i events) ++ cs) one_more

-- ---- the last change before a half bit

-- which of these changes came before half bit t: the first so many
abbrev pub IsCountBefore : ℕ → List Change → ℕ → Type 0
IsCountBefore t cs i = IsPartitionPoint (λ (c : Change). ltb c.t t ≡ true) (λ (c : Change). ltb c.t t ≡ false) cs i

later_none : (t : ℕ) (cs : List Change) (i : ℕ) → IsCountBefore t cs i → last_found (state_before t) (drop i cs) ≡ None
later_none t cs i parted =
    last_none (state_before t) (drop i cs) (λ k d lt.
    let long : length (drop i cs) ≡ length cs - i = length-drop i cs in
    let at : get_or (drop i cs) k d ≡ get_or cs (i + k) d = get_or-drop i cs k d in
    let late : ltb (get_or cs (i + k) d).t t ≡ false = parted.1 (i + k) d (omega arith) (omega arith) in
    ap (state_before t) at ∙ rw late refl)

earlier : (t : ℕ) (cs : List Change) (i : ℕ) → IsCountBefore t cs i → last_found (state_before t) cs ≡ last_found (state_before t) (take i cs)
earlier t cs i parted =
    ap (last_found (state_before t)) (sym (take-append-drop i cs)) ∙ last_append (state_before t) (take i cs) (drop i cs)
    ∙ ap (λ o. option_or o (last_found (state_before t) (take i cs))) (later_none t cs i parted)

pub none_before : (t : ℕ) (cs : List Change) (i : ℕ) → i ≡ 0 → IsCountBefore t cs i → is_open t cs ≡ true
none_before t cs i none parted = ap (λ o. unwrap_or o true) (earlier t cs i parted ∙ ap (λ n. last_found (state_before t) (take n cs)) none)

pub last_before : (t : ℕ) (cs : List Change) (i : ℕ) (d : Change) → 0 < i → i ≤ length cs → IsCountBefore t cs i → is_open t cs ≡ (get_or cs (i - 1) d).open_after
last_before t cs i d some within parted =
    let c : Change = get_or cs (i - 1) d in
    let after : i - 1 + 1 ≡ i = omega arith in
    let front : take i cs ≡ take (i - 1) cs ++ c ∷ [] = ap (λ n. take n cs) (sym after) ∙ take_more cs (i - 1) d (omega arith) in
    let early : ltb c.t t ≡ true = parted.0 (i - 1) d (omega arith) (omega arith) in
    let state : state_before t c ≡ Some c.open_after = rw early refl in
    ap (λ o. unwrap_or o true) (earlier t cs i parted ∙ ap (last_found (state_before t)) front ∙ last_push (state_before t) (take (i - 1) cs) c ∙ ap (λ o. option_or o (last_found (state_before t) (take (i - 1) cs))) state)
