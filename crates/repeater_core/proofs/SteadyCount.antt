-- As many half bits are steady as the mode, the ports, the guards and the delay line tell.
use Rattle.std.proofs.Common.{◌≡◌, ℕ, zero, suc, ◌+◌, ◌-◌, ◌*◌, ◌^◌, ◌<◌, ◌≤◌, min, Bool, true, false, not, cond, ltb, eqb, ◌&&◌, List, [], ◌∷◌, length, map, take, drop, get_or, refl, sym, ap, ap₂, subst, ◌∙◌, arith}
use Rattle.std.proofs.lemmas.Bool.Decides.{nat_tests}
use Rattle.std.proofs.lemmas.List.{length-map}
use Rattle.std.specs.Fn.{iterate}
use Rattle.mac_parameters.specs.Parameters.{jabber_limit, preamble_length}
use Rattle.manchester_line.specs.declared.Sym.{Sym}
use Rattle.manchester_line.specs.declared.Sym.TheVariants as sy
use Rattle.manchester_line.specs.Line.{is_signal, preamble_at, jam_at}
use Rattle.manchester_line.proofs.Levels.{IsLevel, jam_level, half_level}
use Rattle.port_partition.specs.declared.guard.GuardEvent.{GuardEvent}
use Rattle.port_partition.specs.declared.guard.GuardEvent.TheVariants as event
use Rattle.port_partition.specs.Guard.{Guard, event_of}
use Rattle.port_partition.specs.Alike.{HasNoEvent}
use Rattle.repeater_core.specs.declared.modes.Mode.{Mode}
use Rattle.repeater_core.specs.declared.modes.Mode.TheVariants.{Idle, Repeat, Extend, RxClash, TxClash, OnePort}
use Rattle.repeater_core.specs.declared.modes.Activity.{Activity}
use Rattle.repeater_core.specs.declared.modes.Activity.TheVariants.{Nobody, One}
use Rattle.repeater_core.specs.Limits.{most_calm}
use Rattle.repeater_core.specs.Modes.{activity_from, joined, mode_after, wish_of}
use Rattle.repeater_core.specs.Counts.{Count, Choice, choice, choice_awake, choices_from}
use Rattle.repeater_core.specs.SilentParts.{sends_to}
use Rattle.repeater_core.specs.Step.{RepeaterDevice, IsState, mode_next, chosen, after, emitted_by, decided_by, is_closing, is_opening, mask_from}
use Rattle.repeater_core.specs.Delayed.{Delayed}
use Rattle.repeater_core.specs.Steady.{mode_on, mode_steady, port_steady, ports_steady, sent_from, IsSteadyStep, IsSteady, Kind, kind_of, kinds_of, at_each, guard_by, count_by, HaveNoEvents}
use Rattle.repeater_core.proofs.SendsToOthers.{choose, IsRepeatable, repeatable, hears_as, carrier}
use Rattle.repeater_core.proofs.CalmIsExact.{length_emitted}
use Rattle.repeater_core.proofs.SteadyHalfBits.{each_length, steady_once}
use Rattle.repeater_core.proofs.SteadyLeap.{kind_is}
use Rattle.repeater_core.proofs.SteadyState.{events_by, events_by_kind, state_after, length_decided}
use Rattle.repeater_core.proofs.DelayRows.{RowsAre, rows_on}

-- the mode
mode_stays : (m : Mode) (a : Activity) → 0 < mode_steady m a → mode_after m a ≡ mode_on m
mode_stays m a l = grind (arith, nat_tests)

mode_falls : (n : ℕ) (m : Mode) (a : Activity) → suc n ≤ mode_steady m a → n ≤ mode_steady (mode_on m) a
mode_falls n m a l = grind (arith, nat_tests)

pub sends_same : (m : Mode) (q : ℕ) → sends_to (mode_on m) q ≡ sends_to m q
sends_same Idle q = refl
sends_same (Repeat n i) q = refl
sends_same (Extend n i j) q = refl
sends_same (RxClash n i) q = refl
sends_same (TxClash i) q = refl
sends_same (OnePort n i) q = refl

ports_same : (m : Mode) (q : ℕ) (cs : List Count) → ports_steady (mode_on m) q cs ≡ ports_steady m q cs
ports_same m q [] = refl
ports_same m q (c ∷ cs) = ap₂ min (ap (λ b. port_steady b c) (sends_same m q)) (ports_same m (q + 1) cs)

-- the counts
port_falls : (n : ℕ) (s : Bool) (c : Count) → suc n ≤ port_steady s c → n ≤ port_steady s (count_by (s && eqb c.rest 0) c)
port_falls n s c l = grind (arith, nat_tests)

flag_same : (n : ℕ) (s : Bool) (c : Count) → suc (suc n) ≤ port_steady s c → s && eqb (count_by (s && eqb c.rest 0) c).rest 0 ≡ s && eqb c.rest 0
flag_same n s c l = grind (arith, nat_tests)

class_awake : (w : Sym) (c : Count) → 0 < jabber_limit - c.run → (is_signal (choice_awake w c).symbol ≡ is_signal w) × ((choice_awake w c).halted ≡ false)
class_awake sy.Idle c l = (refl, refl)
class_awake sy.Hi c l = choose (λ (x : Choice). (is_signal x.symbol ≡ true) × (x.halted ≡ false)) (eqb c.run jabber_limit) _ _ (λ e. absurd (grind (arith, nat_tests))) (λ e. (refl, refl))
class_awake sy.Lo c l = choose (λ (x : Choice). (is_signal x.symbol ≡ true) × (x.halted ≡ false)) (eqb c.run jabber_limit) _ _ (λ e. absurd (grind (arith, nat_tests))) (λ e. (refl, refl))
class_awake sy.Clash c l = choose (λ (x : Choice). (is_signal x.symbol ≡ true) × (x.halted ≡ false)) (eqb c.run jabber_limit) _ _ (λ e. absurd (grind (arith, nat_tests))) (λ e. (refl, refl))

class_idle : (c : Count) → (is_signal (choice_awake sy.Idle c).symbol ≡ false) × ((choice_awake sy.Idle c).halted ≡ false)
class_idle c = (refl, refl)

open_awake : (s : Bool) (w : Sym) (c : Count) → is_signal w ≡ s → 0 < port_steady s c → c.rest ≡ 0 → (is_signal (choice_awake w c).symbol ≡ s) × ((choice_awake w c).halted ≡ false)
open_awake false sy.Idle c e l z = (refl, refl)
open_awake false sy.Hi c e l z = absurd (cc)
open_awake false sy.Lo c e l z = absurd (cc)
open_awake false sy.Clash c e l z = absurd (cc)
open_awake true w c e l z =
    let pos : 0 < jabber_limit - c.run = grind (arith, nat_tests) in
    let x = class_awake w c pos in (x.0 ∙ e, x.1)

pub class_choice : (s : Bool) (w : Sym) (c : Count) → is_signal w ≡ s → 0 < port_steady s c → (is_signal (choice w c).symbol ≡ s && eqb c.rest 0) × ((choice w c).halted ≡ false)
class_choice s w c e l = choose (λ (x : Choice). (is_signal x.symbol ≡ s && eqb c.rest 0) × (x.halted ≡ false)) (eqb c.rest 0) (choice_awake w c) _
    (λ z. let y = open_awake s w c e l (let n : c.rest ≡ 0 = grind (arith, nat_tests) in n) in (y.0 ∙ sym (ap (λ b. s && b) z ∙ and_true' s), y.1))
    (λ z. (sym (ap (λ b. s && b) z ∙ and_false' s), refl))
  where
    and_true' : (s : Bool) → s && true ≡ s
    and_true' true = refl
    and_true' false = refl

    and_false' : (s : Bool) → s && false ≡ false
    and_false' true = refl
    and_false' false = refl

-- what is sent to each port
pub decides_flags : (m next : Mode) (hears : List Sym) (q : ℕ) (cs : List Count) → ((q : ℕ) → is_signal (wish_of next hears q) ≡ sends_to m q) → 0 < ports_steady m q cs
    → map is_signal (map (λ c. c.symbol) (choices_from next hears q cs)) ≡ sent_from m q cs
decides_flags m next hears q [] w l = refl
decides_flags m next hears q (c ∷ cs) w l =
    ap₂ ◌∷◌ (class_choice (sends_to m q) (wish_of next hears q) c (w q) (omega arith)).0 (decides_flags m next hears (q + 1) cs w (omega arith))

none_halted : (m next : Mode) (hears : List Sym) (q p : ℕ) (cs : List Count) → ((q : ℕ) → is_signal (wish_of next hears q) ≡ sends_to m q) → 0 < ports_steady m q cs
    → mask_from p (map (λ c. c.halted) (choices_from next hears q cs)) ≡ 0
none_halted m next hears q p [] w l = refl
none_halted m next hears q p (c ∷ cs) w l =
    let here = ap (λ b. cond b (2 ^ p) 0) (class_choice (sends_to m q) (wish_of next hears q) c (w q) (omega arith)).1 in
    let rest = none_halted m next hears (q + 1) (p + 1) cs w (omega arith) in omega arith

ports_fall : (n : ℕ) (m : Mode) (q : ℕ) (cs : List Count) → suc n ≤ ports_steady m q cs → n ≤ ports_steady m q (at_each count_by (sent_from m q cs) cs)
ports_fall n m q [] l = omega arith
ports_fall n m q (c ∷ cs) l =
    let a = port_falls n (sends_to m q) c (omega arith) in
    let b = ports_fall n m (q + 1) cs (omega arith) in omega arith

flags_same : (n : ℕ) (m : Mode) (q : ℕ) (cs : List Count) → suc (suc n) ≤ ports_steady m q cs → sent_from (mode_on m) q (at_each count_by (sent_from m q cs) cs) ≡ sent_from m q cs
flags_same n m q [] l = refl
flags_same n m q (c ∷ cs) l =
    ap₂ ◌∷◌ (ap (λ s. s && eqb (count_by (sends_to m q && eqb c.rest 0) c).rest 0) (sends_same m q) ∙ flag_same n (sends_to m q) c (omega arith)) (flags_same n m (q + 1) cs (omega arith))

pub wish_signal : (m : Mode) (hears : List Sym) (q : ℕ) → IsRepeatable hears m → is_signal (wish_of m hears q) ≡ sends_to m q
wish_signal Idle hears q h = refl
wish_signal (Repeat n i) hears q h =
    let text = cond (ltb i preamble_length) (preamble_at i) (get_or hears n sy.Idle) in
    let level : IsLevel text = choose IsLevel (ltb i preamble_length) (preamble_at i) (get_or hears n sy.Idle) (λ _. half_level _ _) (λ _. h) in
    choose (λ s. is_signal s ≡ not (eqb q n)) (eqb q n) sy.Idle text (λ e. sym (ap not e)) (λ e. carrier text level.0 ∙ sym (ap not e))
wish_signal (Extend n i j) hears q h = choose (λ s. is_signal s ≡ not (eqb q n)) (eqb q n) sy.Idle (jam_at j) (λ e. sym (ap not e)) (λ e. carrier (jam_at j) (jam_level j).0 ∙ sym (ap not e))
wish_signal (RxClash n i) hears q h = choose (λ s. is_signal s ≡ not (eqb q n)) (eqb q n) sy.Idle (jam_at i) (λ e. sym (ap not e)) (λ e. carrier (jam_at i) (jam_level i).0 ∙ sym (ap not e))
wish_signal (TxClash i) hears q h = carrier (jam_at i) (jam_level i).0
wish_signal (OnePort n i) hears q h = choose (λ s. is_signal s ≡ not (eqb q n)) (eqb q n) sy.Idle (jam_at i) (λ e. sym (ap not e)) (λ e. carrier (jam_at i) (jam_level i).0 ∙ sym (ap not e))

-- the guards
abbrev pub CalmBy : ℕ → List Kind → List Guard → Type 0
CalmBy n (k ∷ ks) (g ∷ gs) = HasNoEvent k.hears k.clash k.emits n g × CalmBy n ks gs
CalmBy n [] gs = Unit {0}
CalmBy n (k ∷ ks) [] = Unit {0}

pub calm_by : (n : ℕ) (hs es : List Sym) (gs : List Guard) → length hs ≡ length gs → length es ≡ length gs → HaveNoEvents n hs es gs → CalmBy n (kinds_of hs (map is_signal es)) gs
calm_by n [] es gs l m h = tt
calm_by n (x ∷ hs) [] gs l m h = tt
calm_by n (x ∷ hs) (e ∷ es) [] l m h = tt
calm_by n (x ∷ hs) (e ∷ es) (g ∷ gs) l m h =
    (subst (λ y. HasNoEvent y.hears y.clash y.emits n g) (sym (kind_is x e)) (h 0 (omega arith)), calm_by n hs es gs (omega arith) (omega arith) (λ q b. h (suc q) (omega arith)))

calm_falls : (n : ℕ) (ks : List Kind) (gs : List Guard) → CalmBy (suc n) ks gs → CalmBy n ks (at_each guard_by ks gs)
calm_falls n [] gs h = tt
calm_falls n (k ∷ ks) [] h = tt
calm_falls n (k ∷ ks) (g ∷ gs) h = (λ i l. h.0 (suc i) (omega arith), calm_falls n ks gs h.1)

none_told : (tells : GuardEvent → Bool) → tells event.None ≡ false → (n p : ℕ) (ks : List Kind) (gs : List Guard) → CalmBy (suc n) ks gs → mask_from p (map tells (events_by ks gs)) ≡ 0
none_told tells e n p [] gs h = refl
none_told tells e n p (k ∷ ks) [] h = refl
none_told tells e n p (k ∷ ks) (g ∷ gs) h =
    let here = ap (λ x. cond (tells x) (2 ^ p) 0) (h.0 0 (omega arith)) ∙ ap (λ b. cond b (2 ^ p) 0) e in
    let rest = none_told tells e n (p + 1) ks gs h.1 in omega arith

closed_same : (k : Kind) (g : Guard) → event_of g k.hears k.clash ≡ event.None → (guard_by k g).closed ≡ g.closed
closed_same k g e = grind (arith, nat_tests)

pub active_same : (n k : ℕ) (hs : List Sym) (bs : List Bool) (gs : List Guard) → length hs ≡ length gs → length bs ≡ length gs → CalmBy (suc n) (kinds_of hs bs) gs
    → activity_from k (at_each guard_by (kinds_of hs bs) gs) hs ≡ activity_from k gs hs
active_same n k [] bs [] l m h = refl
active_same n k (x ∷ hs) bs [] l m h = absurd (omega arith)
active_same n k [] bs (g ∷ gs) l m h = absurd (omega arith)
active_same n k (x ∷ hs) [] (g ∷ gs) l m h = absurd (omega arith)
active_same n k (x ∷ hs) (b ∷ bs) (g ∷ gs) l m h =
    ap₂ joined (ap (λ c. cond (not c && is_signal x) (One k x) Nobody) (closed_same (kind_of x b) g (h.0 0 (omega arith))))
    (active_same n (k + 1) hs bs gs (omega arith) (omega arith) h.1)

-- what the count of steady half bits rests on
pub record Fits (hears : List Sym) (emitting : List Bool) (a : Activity) (n : ℕ) (r : RepeaterDevice) : Type 0 where
  pub state : IsState r
  pub hears_len : length hears ≡ length r.guards
  pub emits_len : length emitting ≡ length r.guards
  pub active : activity_from 0 r.guards hears ≡ a
  pub mode_fits : n ≤ mode_steady r.mode a
  pub ports : n ≤ ports_steady r.mode 0 r.counts
  pub guards : CalmBy n (kinds_of hears emitting) r.guards
  pub rows : RowsAre emitting n r.line
  pub past : r.line.delay < n → sent_from r.mode 0 r.counts ≡ emitting

fits_mode : (hears : List Sym) (emitting : List Bool) (a : Activity) (n : ℕ) (r : RepeaterDevice) → Fits hears emitting a (suc n) r → mode_next hears r ≡ mode_on r.mode
unfolding mode_next
fits_mode hears emitting a n r f = ap (mode_after r.mode) f.active ∙ mode_stays r.mode a (let m = f.mode_fits in omega arith)

fits_wish : (hears : List Sym) (emitting : List Bool) (a : Activity) (n : ℕ) (r : RepeaterDevice) → Fits hears emitting a (suc n) r → (q : ℕ) → is_signal (wish_of (mode_on r.mode) hears q) ≡ sends_to r.mode q
unfolding mode_next
fits_wish hears emitting a n r f = λ q.
    let m : mode_after r.mode (activity_from 0 r.guards hears) ≡ mode_on r.mode = fits_mode hears emitting a n r f in
    wish_signal (mode_on r.mode) hears q (subst (IsRepeatable hears) m (repeatable hears r.mode (activity_from 0 r.guards hears) (hears_as 0 r.guards hears))) ∙ sends_same r.mode q

fits_emits : (hears : List Sym) (emitting : List Bool) (a : Activity) (n : ℕ) (r : RepeaterDevice) → Fits hears emitting a (suc n) r → map is_signal (emitted_by r) ≡ emitting
fits_emits hears emitting a n r f =
    let none : 0 * r.line.ports ≡ 0 = omega arith in
    let some = f.state.some_delay in
    ap (λ i. map is_signal (take r.line.ports (drop i r.line.rows))) (sym none) ∙ f.rows 0 (omega arith) (omega arith)

fits_step : (hears : List Sym) (emitting : List Bool) (a : Activity) (n : ℕ) (r : RepeaterDevice) → Fits hears emitting a (suc n) r → IsSteadyStep hears emitting (sent_from r.mode 0 r.counts) r
unfolding chosen
fits_step hears emitting a n r f =
    let m = fits_mode hears emitting a n r f in
    let e = fits_emits hears emitting a n r f in
    let w = fits_wish hears emitting a n r f in
    let some : 0 < ports_steady r.mode 0 r.counts = (let p = f.ports in omega arith) in
    let events = events_by_kind r.guards hears (emitted_by r) ∙ ap (λ bs. events_by (kinds_of hears bs) r.guards) e in
    record {
      mode = m;
      emits = e;
      decides = ap (λ x. map is_signal (map (λ c. c.symbol) (choices_from x hears 0 r.counts))) m ∙ decides_flags r.mode (mode_on r.mode) hears 0 r.counts w some;
      none_closes = ap (λ xs. mask_from 0 (map is_closing xs)) events ∙ none_told is_closing refl n 0 (kinds_of hears emitting) r.guards f.guards;
      none_opens = ap (λ xs. mask_from 0 (map is_opening xs)) events ∙ none_told is_opening refl n 0 (kinds_of hears emitting) r.guards f.guards;
      none_halted = ap (λ x. mask_from 0 (map (λ c. c.halted) (choices_from x hears 0 r.counts))) m ∙ none_halted r.mode (mode_on r.mode) hears 0 0 r.counts w some;
    }

kinds_fit : (hs : List Sym) (bs : List Bool) → length bs ≡ length hs → length (kinds_of hs bs) ≡ length hs
kinds_fit [] bs l = refl
kinds_fit (h ∷ hs) [] l = absurd (omega arith)
kinds_fit (h ∷ hs) (b ∷ bs) l = ap suc (kinds_fit hs bs (omega arith))

line_next : (hears : List Sym) (emitting : List Bool) (a : Activity) (n : ℕ) (r : RepeaterDevice) → Fits hears emitting a (suc n) r → RowsAre emitting n (after hears r).line
line_next hears emitting a n r f =
    let some = f.state.some_delay in
    rows_on emitting n r.line (decided_by hears r) (omega arith) (f.state.rows_len ∙ ap (λ p. r.line.delay * p) (sym f.state.line_ports)) (length_decided r hears f.state ∙ sym f.state.line_ports)
    (λ l. (fits_step hears emitting a n r f).decides ∙ f.past l) f.rows

flags_next : (n : ℕ) (m : Mode) (q : ℕ) (cs : List Count) → 0 < n → suc n ≤ ports_steady m q cs → sent_from (mode_on m) q (at_each count_by (sent_from m q cs) cs) ≡ sent_from m q cs
flags_next zero m q cs some l = absurd (omega arith)
flags_next (suc n) m q cs some l = flags_same n m q cs l

fits_next : (hears : List Sym) (emitting : List Bool) (a : Activity) (n : ℕ) (r : RepeaterDevice) → Fits hears emitting a (suc n) r → Fits hears emitting a n (after hears r)
fits_next hears emitting a n r f =
    let flags = sent_from r.mode 0 r.counts in
    let once = steady_once hears emitting flags r (fits_step hears emitting a n r f) in
    let kinds = kinds_of hears emitting in
    let gs : length (at_each guard_by kinds r.guards) ≡ length r.guards = each_length guard_by kinds r.guards (kinds_fit hears emitting (f.emits_len ∙ sym f.hears_len) ∙ f.hears_len) in
    subst (λ x. Fits hears emitting a n x) (sym once) (record {
      state = subst IsState once (state_after r hears f.state f.hears_len);
      hears_len = f.hears_len ∙ sym gs;
      emits_len = f.emits_len ∙ sym gs;
      active = active_same n 0 hears emitting r.guards f.hears_len f.emits_len f.guards ∙ f.active;
      mode_fits = mode_falls n r.mode a f.mode_fits;
      ports = subst (λ x. n ≤ x) (sym (ports_same r.mode 0 (at_each count_by flags r.counts))) (ports_fall n r.mode 0 r.counts f.ports);
      guards = calm_falls n kinds r.guards f.guards;
      rows = subst (λ (d : Delayed). RowsAre emitting n d) (ap (λ (x : RepeaterDevice). x.line) once) (line_next hears emitting a n r f);
      past = λ l. flags_next n r.mode 0 r.counts (omega arith) f.ports ∙ f.past (omega arith);
    })

fits_steady : (n : ℕ) (hears : List Sym) (emitting flags : List Bool) (a : Activity) (r : RepeaterDevice) → flags ≡ sent_from r.mode 0 r.counts → Fits hears emitting a n r
    → (k : ℕ) → k < n → IsSteadyStep hears emitting flags (iterate (after hears) k r)
fits_steady zero hears emitting flags a r e f k l = absurd (omega arith)
fits_steady (suc n) hears emitting flags a r e f zero l = subst (λ bs. IsSteadyStep hears emitting bs r) (sym e) (fits_step hears emitting a n r f)
fits_steady (suc zero) hears emitting flags a r e f (suc k) l = absurd (omega arith)
fits_steady (suc (suc n)) hears emitting flags a r e f (suc k) l =
    let once = steady_once hears emitting (sent_from r.mode 0 r.counts) r (fits_step hears emitting a (suc n) r f) in
    fits_steady (suc n) hears emitting flags a (after hears r)
    (e ∙ sym (flags_same n r.mode 0 r.counts f.ports) ∙ sym (ap (λ (x : RepeaterDevice). sent_from x.mode 0 x.counts) once))
    (fits_next hears emitting a (suc n) r f) k (omega arith)

pub steady_for : (n : ℕ) (hears : List Sym) (a : Activity) (r : RepeaterDevice) → Fits hears (map is_signal (emitted_by r)) a n r → IsSteady hears r n
steady_for zero hears a r f = λ k l. absurd (omega arith)
steady_for (suc n) hears a r f =
    fits_steady (suc n) hears (map is_signal (emitted_by r)) (map is_signal (decided_by hears r)) a r (fits_step hears (map is_signal (emitted_by r)) a n r f).decides f

-- from what the parts tell
pub fits : (n : ℕ) (hears es : List Sym) (r : RepeaterDevice) → IsState r → length hears ≡ length r.guards → es ≡ emitted_by r → n ≤ mode_steady r.mode (activity_from 0 r.guards hears) → n ≤ ports_steady r.mode 0 r.counts
    → HaveNoEvents n hears es r.guards → RowsAre (map is_signal es) n r.line → (r.line.delay < n → sent_from r.mode 0 r.counts ≡ map is_signal es) → IsSteady hears r n
fits n hears es r h l e m p g rows past =
    steady_for n hears (activity_from 0 r.guards hears) r (record {
      state = h;
      hears_len = l;
      emits_len = length-map (emitted_by r) is_signal ∙ length_emitted r h;
      active = refl;
      mode_fits = m;
      ports = p;
      guards = calm_by n hears (emitted_by r) r.guards l (length_emitted r h) (subst (λ xs. HaveNoEvents n hears xs r.guards) e g);
      rows = subst (λ xs. RowsAre (map is_signal xs) n r.line) e rows;
      past = λ k. past k ∙ ap (map is_signal) e;
    })

pub ports_most : (m : Mode) (q : ℕ) (cs : List Count) → ports_steady m q cs ≤ most_calm
ports_most m q [] = omega arith
ports_most m q (c ∷ cs) = let h = ports_most m (q + 1) cs in omega arith
