-- Rows of one kind at a place of a repeater are apart: each half bit that has one pays for it with the waits that
-- follow.
use Rattle.std.proofs.Common.{◌≡◌, ℕ, suc, ◌+◌, ◌-◌, ◌*◌, ◌<◌, ◌≤◌, sum_by, Bool, true, false, not, ◌&&◌, List, [], ◌∷◌, ◌++◌, map, length, length-append, refl, sym, subst, ap, ◌∙◌, arith}
use Rattle.std.proofs.lemmas.Bool.{false≢true}
use Rattle.std.proofs.lemmas.Bool.Decides.{nat_tests}
use Rattle.std.proofs.lemmas.List.Sums.{sum_by-cons}
use Rattle.std.proofs.lemmas.List.{length-map}
use Rattle.manchester_line.specs.declared.Sym.{Sym}
use Rattle.manchester_line.specs.declared.Sym.TheVariants as sy
use Rattle.collision_log.specs.declared.row.Body.TheVariants.{Clash, Halted}
use Rattle.manchester_line.specs.Line.{is_signal}
use Rattle.port_partition.specs.declared.guard.GuardEvent.{GuardEvent}
use Rattle.port_partition.specs.declared.guard.GuardEvent.TheVariants as event
use Rattle.port_partition.specs.Guard.{Guard, guard_after, event_of}
use Rattle.repeater_core.specs.declared.modes.Mode.{Mode}
use Rattle.repeater_core.specs.declared.modes.Activity.{Activity}
use Rattle.repeater_core.specs.Counts.{Count, Choice, choice, choices_from}
use Rattle.repeater_core.specs.Modes.{activity_from, mode_after, is_tx_clash, wish_of}
use Rattle.repeater_core.specs.Step.{RepeaterDevice, mode_next, chosen, emitted_by, decided_by, after, collides, guards_after, guard_events, clash_begins, closed_mask, opened_mask, halted_mask}
use Rattle.repeater_core.specs.declared.repeater.RepeaterEvents.{RepeaterEvents}
use Rattle.repeater_core.proofs.Lawful.{length_chosen}
use Rattle.network.proofs.PortFlags.{step_told}
use Rattle.network.specs.Rows.{told_bodies, happened, guard_bodies, port_bodies, repeater_bodies}
use Rattle.repeater_engine.specs.RowWaits.{rows_apart, clash_wait, halt_wait, guard_wait, waits, row_places, HasRowRoom}

added : (r rs all w ws waits v vs later n : ℕ) → all ≡ r + rs → waits ≡ w + ws → later ≡ v + vs → rows_apart * r + w ≤ v + 1 → rows_apart * rs + ws ≤ vs + n → rows_apart * all + waits ≤ later + suc n
added r rs all w ws waits v vs later n a b c h k = omega arith

paid : (all c h e wm wc wg vm vc vg n counts : ℕ) → counts ≡ n → all ≤ c + (h + e) → rows_apart * c + wm ≤ vm + 1 → rows_apart * h + wc ≤ vc + counts → rows_apart * e + wg ≤ vg + n →
    rows_apart * all + (wm + (wc + wg)) ≤ (vm + (vc + vg)) + row_places n
paid all c h e wm wc wg vm vc vg n counts same few pm pc pg = omega arith

abbrev guard : Bool → Bool → Bool → ℕ → ℕ → ℕ → Guard
guard closed mend struck in_row clash_run clean_run = record { closed = closed; mend = mend; struck = struck; in_row = in_row; clash_run = clash_run; clean_run = clean_run }

abbrev Pays : Guard → Bool → Bool → Bool → Type 0
Pays g hears clash emits = rows_apart * length (guard_bodies 1 (event_of g hears clash)) + guard_wait g ≤ guard_wait (guard_after g hears clash emits) + 1

mend_pays : (struck : Bool) (in_row clash_run clean_run : ℕ) (emits : Bool) → Pays (guard true true struck in_row clash_run clean_run) false false emits
mend_pays struck in_row clash_run clean_run emits = grind (arith, nat_tests)

closed_pays : (struck : Bool) (in_row clash_run clean_run : ℕ) (hears clash emits : Bool) → Pays (guard true false struck in_row clash_run clean_run) hears clash emits
closed_pays struck in_row clash_run clean_run hears clash emits = grind (arith, nat_tests)

open_pays : (mend struck : Bool) (in_row clash_run clean_run : ℕ) (hears clash emits : Bool) → Pays (guard false mend struck in_row clash_run clean_run) hears clash emits
open_pays mend struck in_row clash_run clean_run hears clash emits = grind (arith, nat_tests)

heard_pays : (struck : Bool) (in_row clash_run clean_run : ℕ) (clash emits : Bool) → Pays (guard true true struck in_row clash_run clean_run) true clash emits
heard_pays struck in_row clash_run clean_run clash emits = grind (arith, nat_tests)

guard_pays : (closed mend struck : Bool) (in_row clash_run clean_run : ℕ) (hears clash emits : Bool) → (hears ≡ false → clash ≡ false) → Pays (guard closed mend struck in_row clash_run clean_run) hears clash emits
guard_pays true true struck in_row clash_run clean_run true clash emits h = heard_pays struck in_row clash_run clean_run clash emits
guard_pays true true struck in_row clash_run clean_run false clash emits h =
    subst (λ c. Pays (guard true true struck in_row clash_run clean_run) false c emits) (sym (h refl)) (mend_pays struck in_row clash_run clean_run emits)
guard_pays true false struck in_row clash_run clean_run hears clash emits h = closed_pays struck in_row clash_run clean_run hears clash emits
guard_pays false mend struck in_row clash_run clean_run hears clash emits h = open_pays mend struck in_row clash_run clean_run hears clash emits

unheard : (h e : Sym) → is_signal h ≡ false → collides h e ≡ false
unheard sy.Idle e s = refl
unheard sy.Hi e s = absurd (false≢true (sym s))
unheard sy.Lo e s = absurd (false≢true (sym s))
unheard sy.Clash e s = absurd (false≢true (sym s))

port_pays : (g : Guard) (h e : Sym) → Pays g (is_signal h) (collides h e) (is_signal e)
port_pays g h e = guard_pays g.closed g.mend g.struck g.in_row g.clash_run g.clean_run (is_signal h) (collides h e) (is_signal e) (unheard h e)

-- how many rows an event of a guard gives
abbrev event_rows : GuardEvent → ℕ
event_rows e = length (guard_bodies 1 e)

guards_pay : (gs : List Guard) (hs es : List Sym) → length hs ≡ length gs → length es ≡ length gs →
    rows_apart * sum_by event_rows (guard_events gs hs es) + sum_by guard_wait gs ≤ sum_by guard_wait (guards_after gs hs es) + length gs
guards_pay [] hs es lh le = omega arith
guards_pay (g ∷ gs) [] es lh le = absurd (omega arith)
guards_pay (g ∷ gs) (h ∷ hs) [] lh le = absurd (omega arith)
guards_pay (g ∷ gs) (h ∷ hs) (e ∷ es) lh le =
    let first = port_pays g h e in
    let rest = guards_pay gs hs es (omega arith) (omega arith) in
    let event = event_of g (is_signal h) (collides h e) in
    let later = guard_after g (is_signal h) (collides h e) (is_signal e) in
    added (event_rows event) (sum_by event_rows (guard_events gs hs es)) (sum_by event_rows (event ∷ guard_events gs hs es))
    (guard_wait g) (sum_by guard_wait gs) (sum_by guard_wait (g ∷ gs))
    (guard_wait later) (sum_by guard_wait (guards_after gs hs es)) (sum_by guard_wait (later ∷ guards_after gs hs es)) (length gs)
    (sum_by-cons event_rows event (guard_events gs hs es)) (sum_by-cons guard_wait g gs) (sum_by-cons guard_wait later (guards_after gs hs es)) first rest

-- a port's counts
choice_pays : (wished : Sym) (c : Count) → rows_apart * length (happened (choice wished c).halted (Halted 1)) + halt_wait c ≤ halt_wait (choice wished c).count + 1
choice_pays wished c = grind (arith, nat_tests)

-- how many rows a halt gives
abbrev halt_rows : Bool → ℕ
halt_rows b = length (happened b (Halted 1))

choices_pay : (mode : Mode) (hs : List Sym) (q : ℕ) (cs : List Count) →
    rows_apart * sum_by halt_rows (map (λ (c : Choice). c.halted) (choices_from mode hs q cs)) + sum_by halt_wait cs ≤ sum_by halt_wait (map (λ (c : Choice). c.count) (choices_from mode hs q cs)) + length cs
choices_pay mode hs q [] = omega arith
choices_pay mode hs q (c ∷ cs) =
    let x = choice (wish_of mode hs q) c in
    let first = choice_pays (wish_of mode hs q) c in
    let rest = choices_pay mode hs (q + 1) cs in
    let xs = choices_from mode hs (q + 1) cs in
    let halts = map (λ (c : Choice). c.halted) xs in
    let counts = map (λ (c : Choice). c.count) xs in
    added (halt_rows x.halted) (sum_by halt_rows halts) (sum_by halt_rows (x.halted ∷ halts))
    (halt_wait c) (sum_by halt_wait cs) (sum_by halt_wait (c ∷ cs))
    (halt_wait x.count) (sum_by halt_wait counts) (sum_by halt_wait (x.count ∷ counts)) (length cs)
    (sum_by-cons halt_rows x.halted halts) (sum_by-cons halt_wait c cs) (sum_by-cons halt_wait x.count counts) first rest

-- the mode
mode_pays : (m : Mode) (a : Activity) → rows_apart * length (happened (is_tx_clash (mode_after m a) && not (is_tx_clash m)) Clash) + clash_wait m ≤ clash_wait (mode_after m a) + 1
mode_pays m a = grind (arith, nat_tests)

event_rows_are : (port : ℕ) (e : GuardEvent) → length (guard_bodies port e) ≡ event_rows e
event_rows_are port event.None = refl
event_rows_are port event.Closed = refl
event_rows_are port event.Opened = refl

halt_rows_are : (port : ℕ) (b : Bool) → length (happened b (Halted port)) ≡ halt_rows b
halt_rows_are port true = refl
halt_rows_are port false = refl

ports_rows : (port : ℕ) (hs : List Bool) (es : List GuardEvent) → length (port_bodies port hs es) ≤ sum_by halt_rows hs + sum_by event_rows es
ports_rows port [] es = omega arith
ports_rows port (h ∷ hs) [] = omega arith
ports_rows port (h ∷ hs) (e ∷ es) =
    let rest = ports_rows (port + 1) hs es in
    let a = halt_rows_are port h in
    let b = event_rows_are port e in
    let outer = length-append (happened h (Halted port)) (guard_bodies port e ++ port_bodies (port + 1) hs es) in
    let inner = length-append (guard_bodies port e) (port_bodies (port + 1) hs es) in
    let halts = sum_by-cons halt_rows h hs in
    let events = sum_by-cons event_rows e es in
    omega (arith, rest, a, b, outer, inner, halts, events)

-- a repeater, in a half bit
pub rows_pay : (heard : List Sym) (s : RepeaterDevice) → length heard ≡ length s.guards → length (emitted_by s) ≡ length s.guards → length s.counts ≡ length s.guards →
    rows_apart * length (repeater_bodies heard s) + waits s ≤ waits (after heard s) + row_places (length s.guards)
unfolding mode_next chosen
rows_pay heard s lh le lc =
    let m = mode_pays s.mode (activity_from 0 s.guards heard) in
    let c = choices_pay (mode_next heard s) heard 0 s.counts in
    let g = guards_pay s.guards heard (emitted_by s) lh le in
    let halts = map (λ (c : Choice). c.halted) (chosen heard s) in
    let events = guard_events s.guards heard (emitted_by s) in
    let ports = ports_rows 1 halts events in
    let sum = length-append (happened (clash_begins heard s) Clash) (port_bodies 1 halts events) in
    paid (length (repeater_bodies heard s)) (length (happened (clash_begins heard s) Clash)) (sum_by halt_rows halts) (sum_by event_rows events)
    (clash_wait s.mode) (sum_by halt_wait s.counts) (sum_by guard_wait s.guards)
    (clash_wait (mode_next heard s)) (sum_by halt_wait (map (λ (c : Choice). c.count) (chosen heard s))) (sum_by guard_wait (guards_after s.guards heard (emitted_by s)))
    (length s.guards) (length s.counts) lc (omega (arith, ports, sum)) m c g

halts_wait : (cs : List Count) → sum_by halt_wait cs ≤ (rows_apart - 1) * length cs
halts_wait [] = omega arith
halts_wait (c ∷ cs) = let rest = halts_wait cs in let sum = sum_by-cons halt_wait c cs in omega (arith, rest, sum)

guards_wait : (gs : List Guard) → sum_by guard_wait gs ≤ (rows_apart - 1) * length gs
guards_wait [] = omega arith
guards_wait (g ∷ gs) = let rest = guards_wait gs in let sum = sum_by-cons guard_wait g gs in let most = guard_most g in omega (arith, rest, sum, most)
  where
    guard_most : (g : Guard) → guard_wait g ≤ rows_apart - 1
    guard_most g = grind (arith, nat_tests)

clash_most : (m : Mode) → clash_wait m ≤ rows_apart - 1
clash_most m = grind arith

-- no wait is longer than the half bits between two rows
waits_most : (s : RepeaterDevice) (ports : ℕ) → length s.guards ≡ ports → length s.counts ≡ ports → waits s ≤ (rows_apart - 1) * row_places ports
waits_most s ports lg lc =
    let m = clash_most s.mode in
    let c = halts_wait s.counts in
    let g = guards_wait s.guards in
    omega (arith, m, c, g, lg, lc)

pub length-guards_after : (gs : List Guard) (hs es : List Sym) → length hs ≡ length gs → length es ≡ length gs → length (guards_after gs hs es) ≡ length gs
length-guards_after [] hs es lh le = refl
length-guards_after (g ∷ gs) [] es lh le = absurd (omega arith)
length-guards_after (g ∷ gs) (h ∷ hs) [] lh le = absurd (omega arith)
length-guards_after (g ∷ gs) (h ∷ hs) (e ∷ es) lh le = ap suc (length-guards_after gs hs es (omega arith) (omega arith))

pub length-guard_events : (gs : List Guard) (hs es : List Sym) → length hs ≡ length gs → length es ≡ length gs → length (guard_events gs hs es) ≡ length gs
length-guard_events [] hs es lh le = refl
length-guard_events (g ∷ gs) [] es lh le = absurd (omega arith)
length-guard_events (g ∷ gs) (h ∷ hs) [] lh le = absurd (omega arith)
length-guard_events (g ∷ gs) (h ∷ hs) (e ∷ es) lh le = ap suc (length-guard_events gs hs es (omega arith) (omega arith))

room_for : (p m left room rows w w' : ℕ) → left ≡ m + 1 → p * (left + (rows_apart - 1)) < rows_apart * (room + 1) + w → rows_apart * rows + w ≤ w' + p → w' ≤ (rows_apart - 1) * p → rows ≤ room
room_for p m left room rows w w' e h pays most =
    let more : p * (m + 1 + (rows_apart - 1)) < rows_apart * (room + 1) + w = subst (λ l. p * (l + (rows_apart - 1)) < rows_apart * (room + 1) + w) e h in
    omega (arith, more)

room_left : (p m left room room' rows w w' : ℕ) → left ≡ m + 1 → p * (left + (rows_apart - 1)) < rows_apart * (room + 1) + w → rows_apart * rows + w ≤ w' + p → room ≤ room' + rows → p * (m + (rows_apart - 1)) < rows_apart * (room' + 1) + w'
room_left p m left room room' rows w w' e h pays kept =
    let more : p * (m + 1 + (rows_apart - 1)) < rows_apart * (room + 1) + w = subst (λ l. p * (l + (rows_apart - 1)) < rows_apart * (room + 1) + w) e h in
    omega (arith, more)

-- what a half bit of a repeater is known by: what its ports heard, emitted and were sent
pub record HalfBit (heard emitted decided : List Sym) (ports : ℕ) (r s : RepeaterDevice) : Type 0 where
  pub heard_len : length heard ≡ ports
  pub emitted_len : length emitted ≡ ports
  pub decided_len : length decided ≡ ports
  pub guards_len : length r.guards ≡ ports
  pub emits : emitted ≡ emitted_by r
  pub decides : decided ≡ decided_by heard r
  pub state : s ≡ after heard r

module _ (heard emitted decided : List Sym) (ports : ℕ) (r s : RepeaterDevice) (half : HalfBit heard emitted decided ports r s) where
  counts_len : length r.counts ≡ ports
  counts_len = sym (length_chosen heard r) ∙ sym (length-map (chosen heard r) (λ (c : Choice). c.symbol)) ∙ ap length (sym half.decides) ∙ half.decided_len

  emitted_so : length (emitted_by r) ≡ ports
  emitted_so = ap length (sym half.emits) ∙ half.emitted_len

  pays : rows_apart * length (repeater_bodies heard r) + waits r ≤ waits s + row_places ports
  pays =
      let a = half.guards_len in
      let b = rows_pay heard r (half.heard_len ∙ sym a) (emitted_so ∙ sym a) (counts_len ∙ sym a) in
      subst (λ (x : RepeaterDevice). rows_apart * length (repeater_bodies heard r) + waits r ≤ waits x + row_places ports) (sym half.state)
      (subst (λ n. rows_apart * length (repeater_bodies heard r) + waits r ≤ waits (after heard r) + row_places n) a b)

  most : waits s ≤ (rows_apart - 1) * row_places ports
  most =
      let a = half.guards_len in
      let guards = length-guards_after r.guards heard (emitted_by r) (half.heard_len ∙ sym a) (emitted_so ∙ sym a) ∙ a in
      let counts = length-map (chosen heard r) (λ (c : Choice). c.count) ∙ length_chosen heard r ∙ counts_len in
      subst (λ (x : RepeaterDevice). waits x ≤ (rows_apart - 1) * row_places ports) (sym half.state) (waits_most (after heard r) ports guards counts)

  -- there is room for its rows, and room is left for those of the half bits after it
  pub rows_fit : (k n room : ℕ) → k < n → HasRowRoom ports (n - k) room r → length (repeater_bodies heard r) ≤ room
  rows_fit k n room l h = room_for (row_places ports) (n - (k + 1)) (n - k) room (length (repeater_bodies heard r)) (waits r) (waits s) (omega arith) h pays most

  pub room_stays : (k n room room' : ℕ) → k < n → HasRowRoom ports (n - k) room r → room ≤ room' + length (repeater_bodies heard r) → HasRowRoom ports (n - (k + 1)) room' s
  room_stays k n room room' l h kept = room_left (row_places ports) (n - (k + 1)) (n - k) room room' (length (repeater_bodies heard r)) (waits r) (waits s) (omega arith) h pays kept

-- the same by what its step answered
pub record Stepped (heard emitted decided : List Sym) (ports : ℕ) (r s : RepeaterDevice) (e : RepeaterEvents) : Type 0 where
  pub half : HalfBit heard emitted decided ports r s
  pub clash : e.clash ≡ clash_begins heard r
  pub closed : e.closed ≡ closed_mask heard r
  pub opened : e.opened ≡ opened_mask heard r
  pub halted : e.halted ≡ halted_mask heard r

module _ (heard emitted decided : List Sym) (ports : ℕ) (r s : RepeaterDevice) (e : RepeaterEvents) (step : Stepped heard emitted decided ports r s e) where
  pub told : told_bodies ports e ≡ repeater_bodies heard r
  told = let h = step.half in step_told heard emitted decided r ports e h.heard_len h.emitted_len h.decided_len h.guards_len h.emits h.decides step.clash step.closed step.opened step.halted

  among : (k n room : ℕ) → HasRowRoom (length r.guards) (n - k) room r → HasRowRoom ports (n - k) room r
  among k n room h = subst (λ p. HasRowRoom p (n - k) room r) step.half.guards_len h

  pub told_fit : (k n room : ℕ) → k < n → HasRowRoom (length r.guards) (n - k) room r → length (told_bodies ports e) ≤ room
  told_fit k n room l h =
      let fits = rows_fit heard emitted decided ports r s step.half k n room l (among k n room h) in
      omega (arith, ap length told, fits)

  pub told_stay : (k n room room' : ℕ) → k < n → length s.guards ≡ length r.guards → HasRowRoom (length r.guards) (n - k) room r → room ≤ room' + length (told_bodies ports e) → HasRowRoom (length s.guards) (n - (k + 1)) room' s
  told_stay k n room room' l same h kept =
      let less : room ≤ room' + length (repeater_bodies heard r) = omega (arith, ap length told, kept) in
      subst (λ p. HasRowRoom p (n - (k + 1)) room' s) (sym (same ∙ step.half.guards_len))
      (room_stays heard emitted decided ports r s step.half k n room room' l (among k n room h) less)
