-- Half bits that are steady by the classes of what is heard: rows of the same classes do the same, but for the text
-- that is sent.
use Rattle.std.proofs.Common.{◌≡◌, ℕ, zero, suc, ◌+◌, ◌*◌, ◌<◌, ◌≤◌, Bool, true, false, not, cond, ltb, eqb, ◌&&◌, List, [], ◌∷◌, ◌++◌, length, map, take, drop, set, get_or, refl, sym, ap, ap₂, subst, ◌∙◌, arith, inl, inr}
use Rattle.std.proofs.lemmas.Bool.{cases_lt}
use Rattle.std.proofs.lemmas.Bool.Decides.{nat_tests}
use Rattle.std.proofs.lemmas.List.{length-map, take-map, drop-map, map-append, get_or-set_same}
use Rattle.std.specs.List.{AllByRecursion}
use Rattle.std.specs.Fn.{iterate}
use Rattle.mac_parameters.specs.Parameters.{preamble_length, jabber_limit}
use Rattle.manchester_line.specs.declared.Sym.{Sym}
use Rattle.manchester_line.specs.declared.Sym.TheVariants as sy
use Rattle.manchester_line.proofs.Levels.{IsLevel}
use Rattle.manchester_line.specs.Line.{is_signal, preamble_at}
use Rattle.port_partition.specs.Guard.{Guard}
use Rattle.repeater_core.specs.declared.modes.Mode.{Mode}
use Rattle.repeater_core.specs.declared.modes.Mode.TheVariants.{Idle, Repeat, Extend, RxClash, TxClash, OnePort}
use Rattle.repeater_core.specs.declared.modes.Activity.{Activity}
use Rattle.repeater_core.specs.declared.modes.Activity.TheVariants.{Nobody, One, Several}
use Rattle.repeater_core.specs.Modes.{joined, activity_at, activity_from, mode_after, next_count, wish_of}
use Rattle.repeater_core.specs.Counts.{Count, choice, choices_from}
use Rattle.repeater_core.specs.Delayed.{Delayed, moved_on}
use Rattle.repeater_core.specs.Step.{RepeaterDevice, IsState, mode_next, chosen, after, emitted_by, decided_by, guard_events, is_closing, is_opening, mask_from}
use Rattle.repeater_core.specs.Steady.{mode_on, IsSteadyStep, IsSteady, sent_text, texted, Kind, kind_of, kinds_of, at_each, guard_by, count_by}
use Rattle.repeater_core.specs.Classes.{class_of, after_rows, text_for, texts_after, line_with, IsSource, IsOfSource, AreHeardAs, AreSteadyRows, DecideTexts, EmitRows}
use Rattle.repeater_core.proofs.SteadyHalfBits.{each_later, steady_once}
use Rattle.repeater_core.proofs.SteadyState.{events_by, events_by_kind, kinds_length, state_after, ports_after, length_decided, texts_at}
use Rattle.repeater_core.proofs.SendsToOthers.{IsRepeatable}
use Rattle.repeater_core.proofs.CalmIsExact.{same_state, length_emitted}
use Rattle.repeater_core.proofs.SteadyMost.{repeats}
use Rattle.repeater_core.proofs.DelayRows.{row_on}

-- the classes of what is heard
signal_class : (s : Sym) → is_signal (class_of s) ≡ is_signal s
signal_class sy.Idle = refl
signal_class sy.Hi = refl
signal_class sy.Lo = refl
signal_class sy.Clash = refl

by_class : (s t : Sym) → class_of s ≡ class_of t → is_signal s ≡ is_signal t
by_class s t e = sym (signal_class s) ∙ ap is_signal e ∙ signal_class t

abbrev classed : Activity → Activity
classed Nobody = Nobody
classed (One n s) = One n (class_of s)
classed Several = Several

joined_classed : (a b : Activity) → classed (joined a b) ≡ joined (classed a) (classed b)
joined_classed Nobody b = refl
joined_classed (One n s) Nobody = refl
joined_classed (One n s) (One m t) = refl
joined_classed (One n s) Several = refl
joined_classed Several b = refl

one_classed : (b : Bool) (n : ℕ) (s : Sym) → classed (cond b (One n s) Nobody) ≡ cond b (One n (class_of s)) Nobody
one_classed true n s = refl
one_classed false n s = refl

activity_classed : (k : ℕ) (gs : List Guard) (ss : List Sym) → classed (activity_from k gs ss) ≡ activity_from k gs (map class_of ss)
activity_classed k [] ss = refl
activity_classed k (g ∷ gs) [] = refl
activity_classed k (g ∷ gs) (s ∷ ss) =
    joined_classed (activity_at k g s) (activity_from (k + 1) gs ss)
    ∙ ap₂ joined (one_classed (not g.closed && is_signal s) k s ∙ ap (λ b. cond (not g.closed && b) (One k (class_of s)) Nobody) (sym (signal_class s))) (activity_classed (k + 1) gs ss)

mode_classed : (m : Mode) (a : Activity) → mode_after m (classed a) ≡ mode_after m a
mode_classed m Nobody = refl
mode_classed m Several = refl
mode_classed m (One n sy.Idle) = refl
mode_classed m (One n sy.Hi) = refl
mode_classed m (One n sy.Clash) = refl
mode_classed Idle (One n sy.Lo) = refl
mode_classed (Repeat p i) (One n sy.Lo) = refl
mode_classed (Extend p i j) (One n sy.Lo) = refl
mode_classed (RxClash p i) (One n sy.Lo) = refl
mode_classed (TxClash i) (One n sy.Lo) = refl
mode_classed (OnePort p i) (One n sy.Lo) = refl

active_like : (m : Mode) (k : ℕ) (gs : List Guard) (xs ys : List Sym) → map class_of xs ≡ map class_of ys → mode_after m (activity_from k gs xs) ≡ mode_after m (activity_from k gs ys)
active_like m k gs xs ys e =
    sym (mode_classed m (activity_from k gs xs)) ∙ ap (mode_after m) (activity_classed k gs xs ∙ ap (activity_from k gs) e ∙ sym (activity_classed k gs ys)) ∙ mode_classed m (activity_from k gs ys)

kind_classed : (h : Sym) (e : Bool) → kind_of (class_of h) e ≡ kind_of h e
kind_classed sy.Idle e = refl
kind_classed sy.Hi e = refl
kind_classed sy.Lo e = refl
kind_classed sy.Clash e = refl

kinds_classed : (hs : List Sym) (es : List Bool) → kinds_of (map class_of hs) es ≡ kinds_of hs es
kinds_classed [] es = refl
kinds_classed (h ∷ hs) [] = refl
kinds_classed (h ∷ hs) (e ∷ es) = ap₂ ◌∷◌ (kind_classed h e) (kinds_classed hs es)

kinds_like : (xs ys : List Sym) (es : List Bool) → map class_of xs ≡ map class_of ys → kinds_of xs es ≡ kinds_of ys es
kinds_like xs ys es e = sym (kinds_classed xs es) ∙ ap (λ zs. kinds_of zs es) e ∙ kinds_classed ys es

heard_class : (n : ℕ) (xs : List Sym) → class_of (get_or xs n sy.Idle) ≡ get_or (map class_of xs) n sy.Idle
heard_class n [] = refl
heard_class zero (x ∷ xs) = refl
heard_class (suc n) (x ∷ xs) = heard_class n xs

flag_text : (a b : Bool) (p x y : Sym) → is_signal x ≡ is_signal y → is_signal (cond a sy.Idle (cond b p x)) ≡ is_signal (cond a sy.Idle (cond b p y))
flag_text true b p x y e = refl
flag_text false true p x y e = refl
flag_text false false p x y e = e

wish_like : (m : Mode) (xs ys : List Sym) (q : ℕ) → map class_of xs ≡ map class_of ys → is_signal (wish_of m xs q) ≡ is_signal (wish_of m ys q)
wish_like Idle xs ys q e = refl
wish_like (Repeat n i) xs ys q e =
    flag_text (eqb q n) (ltb i preamble_length) (preamble_at i) (get_or xs n sy.Idle) (get_or ys n sy.Idle)
    (by_class (get_or xs n sy.Idle) (get_or ys n sy.Idle) (heard_class n xs ∙ ap (λ zs. get_or zs n sy.Idle) e ∙ sym (heard_class n ys)))
wish_like (Extend n i j) xs ys q e = refl
wish_like (RxClash n i) xs ys q e = refl
wish_like (TxClash i) xs ys q e = refl
wish_like (OnePort n i) xs ys q e = refl

-- what is decided
choice_signal : (w : Sym) (c : Count) → is_signal (choice w c).symbol ≡ is_signal w && (eqb c.rest 0 && not (eqb c.run jabber_limit))
choice_signal sy.Idle c = grind (arith, nat_tests)
choice_signal sy.Hi c = grind (arith, nat_tests)
choice_signal sy.Lo c = grind (arith, nat_tests)
choice_signal sy.Clash c = grind (arith, nat_tests)

choice_halted : (w : Sym) (c : Count) → (choice w c).halted ≡ is_signal w && (eqb c.rest 0 && eqb c.run jabber_limit)
choice_halted sy.Idle c = grind (arith, nat_tests)
choice_halted sy.Hi c = grind (arith, nat_tests)
choice_halted sy.Lo c = grind (arith, nat_tests)
choice_halted sy.Clash c = grind (arith, nat_tests)

symbols_like : (m : Mode) (xs ys : List Sym) (q : ℕ) (cs : List Count) → map class_of xs ≡ map class_of ys
    → map is_signal (map (λ c. c.symbol) (choices_from m xs q cs)) ≡ map is_signal (map (λ c. c.symbol) (choices_from m ys q cs))
symbols_like m xs ys q [] e = refl
symbols_like m xs ys q (c ∷ cs) e =
    ap₂ ◌∷◌ (choice_signal (wish_of m xs q) c ∙ ap (λ b. b && (eqb c.rest 0 && not (eqb c.run jabber_limit))) (wish_like m xs ys q e) ∙ sym (choice_signal (wish_of m ys q) c))
    (symbols_like m xs ys (q + 1) cs e)

halted_like : (m : Mode) (xs ys : List Sym) (q : ℕ) (cs : List Count) → map class_of xs ≡ map class_of ys
    → map (λ c. c.halted) (choices_from m xs q cs) ≡ map (λ c. c.halted) (choices_from m ys q cs)
halted_like m xs ys q [] e = refl
halted_like m xs ys q (c ∷ cs) e =
    ap₂ ◌∷◌ (choice_halted (wish_of m xs q) c ∙ ap (λ b. b && (eqb c.rest 0 && eqb c.run jabber_limit)) (wish_like m xs ys q e) ∙ sym (choice_halted (wish_of m ys q) c))
    (halted_like m xs ys (q + 1) cs e)

-- two repeaters that differ by nothing but the levels of what is not yet emitted
pub record Like (r x : RepeaterDevice) : Type 0 where
  pub mode_same : x.mode ≡ r.mode
  pub guards_same : x.guards ≡ r.guards
  pub counts_same : x.counts ≡ r.counts
  pub ports_same : x.line.ports ≡ r.line.ports
  pub flags_same : map is_signal x.line.rows ≡ map is_signal r.line.rows

pub like_self : (r : RepeaterDevice) → Like r r
like_self r = record { mode_same = refl; guards_same = refl; counts_same = refl; ports_same = refl; flags_same = refl }

mode_like : (hears row : List Sym) (r x : RepeaterDevice) → Like r x → map class_of row ≡ map class_of hears → mode_next row x ≡ mode_next hears r
unfolding mode_next
mode_like hears row r x k e = ap₂ (λ m gs. mode_after m (activity_from 0 gs row)) k.mode_same k.guards_same ∙ active_like r.mode 0 r.guards row hears e

emitted_like : (r x : RepeaterDevice) → Like r x → map is_signal (emitted_by x) ≡ map is_signal (emitted_by r)
emitted_like r x k = sym (take-map is_signal x.line.ports x.line.rows) ∙ ap₂ take k.ports_same k.flags_same ∙ take-map is_signal r.line.ports r.line.rows

decided_like : (hears row : List Sym) (r x : RepeaterDevice) → Like r x → map class_of row ≡ map class_of hears → map is_signal (decided_by row x) ≡ map is_signal (decided_by hears r)
unfolding chosen
decided_like hears row r x k e =
    ap₂ (λ m cs. map is_signal (map (λ c. c.symbol) (choices_from m row 0 cs))) (mode_like hears row r x k e) k.counts_same ∙ symbols_like (mode_next hears r) row hears 0 r.counts e

halts_like : (hears row : List Sym) (r x : RepeaterDevice) → Like r x → map class_of row ≡ map class_of hears → map (λ c. c.halted) (chosen row x) ≡ map (λ c. c.halted) (chosen hears r)
unfolding chosen
halts_like hears row r x k e =
    ap₂ (λ m cs. map (λ c. c.halted) (choices_from m row 0 cs)) (mode_like hears row r x k e) k.counts_same ∙ halted_like (mode_next hears r) row hears 0 r.counts e

events_like : (hears row : List Sym) (r x : RepeaterDevice) → Like r x → map class_of row ≡ map class_of hears → guard_events x.guards row (emitted_by x) ≡ guard_events r.guards hears (emitted_by r)
events_like hears row r x k e =
    events_by_kind x.guards row (emitted_by x) ∙ ap₂ (λ gs bs. events_by (kinds_of row bs) gs) k.guards_same (emitted_like r x k)
    ∙ ap (λ ks. events_by ks r.guards) (kinds_like row hears (map is_signal (emitted_by r)) e) ∙ sym (events_by_kind r.guards hears (emitted_by r))

pub step_like : (hears row : List Sym) (emitting deciding : List Bool) (r x : RepeaterDevice) → Like r x → map class_of row ≡ map class_of hears → IsSteadyStep hears emitting deciding r → IsSteadyStep row emitting deciding x
step_like hears row emitting deciding r x k e s =
    let events = events_like hears row r x k e in
    record {
      mode = mode_like hears row r x k e ∙ s.mode ∙ ap mode_on (sym k.mode_same);
      emits = emitted_like r x k ∙ s.emits;
      decides = decided_like hears row r x k e ∙ s.decides;
      none_closes = ap (λ xs. mask_from 0 (map is_closing xs)) events ∙ s.none_closes;
      none_opens = ap (λ xs. mask_from 0 (map is_opening xs)) events ∙ s.none_opens;
      none_halted = ap (mask_from 0) (halts_like hears row r x k e) ∙ s.none_halted;
    }

flags_moved : (xs ys ds es : List Sym) (p q : ℕ) → p ≡ q → map is_signal xs ≡ map is_signal ys → map is_signal ds ≡ map is_signal es → map is_signal (drop p xs ++ ds) ≡ map is_signal (drop q ys ++ es)
flags_moved xs ys ds es p q e f g =
    map-append is_signal (drop p xs) ds ∙ ap₂ ◌++◌ (sym (drop-map is_signal p xs) ∙ ap₂ drop e f ∙ drop-map is_signal q ys) g ∙ sym (map-append is_signal (drop q ys) es)

pub after_like : (hears row : List Sym) (emitting deciding : List Bool) (r x : RepeaterDevice) → Like r x → map class_of row ≡ map class_of hears → IsSteadyStep hears emitting deciding r → Like (after hears r) (after row x)
after_like hears row emitting deciding r x k e s =
    let then = steady_once row emitting deciding x (step_like hears row emitting deciding r x k e s) in
    let first = steady_once hears emitting deciding r s in
    record {
      mode_same = mode_like hears row r x k e;
      guards_same = ap (λ (y : RepeaterDevice). y.guards) then ∙ ap₂ (λ ks gs. at_each guard_by ks gs) (kinds_like row hears emitting e) k.guards_same ∙ sym (ap (λ (y : RepeaterDevice). y.guards) first);
      counts_same = ap (λ (y : RepeaterDevice). y.counts) then ∙ ap (at_each count_by deciding) k.counts_same ∙ sym (ap (λ (y : RepeaterDevice). y.counts) first);
      ports_same = k.ports_same;
      flags_same = flags_moved x.line.rows r.line.rows (decided_by row x) (decided_by hears r) x.line.ports r.line.ports k.ports_same k.flags_same (decided_like hears row r x k e);
    }

-- rows of the same classes
abbrev pub OfClasses : List Sym → List (List Sym) → Type 0
OfClasses hears rows = AllByRecursion (λ row. map class_of row ≡ map class_of hears) rows

pub steps_rows : (rows : List (List Sym)) (hears : List Sym) (emitting deciding : List Bool) (r x : RepeaterDevice) → Like r x → OfClasses hears rows
    → ((k : ℕ) → k < length rows → IsSteadyStep hears emitting deciding (iterate (after hears) k r))
    → (k : ℕ) → k < length rows → IsSteadyStep (get_or rows k []) emitting deciding (after_rows (take k rows) x)
steps_rows [] hears emitting deciding r x y a s k l = absurd (omega arith)
steps_rows (row ∷ rows) hears emitting deciding r x y a s zero l = step_like hears row emitting deciding r x y a.0 (s 0 (omega arith))
steps_rows (row ∷ rows) hears emitting deciding r x y a s (suc k) l =
    steps_rows rows hears emitting deciding (after hears r) (after row x) (after_like hears row emitting deciding r x y a.0 (s 0 (omega arith))) a.1 (λ i m. s (suc i) (omega arith)) k (omega arith)

text_is : (m : Mode) (s : Sym) (heard row : List Sym) (rows : List (List Sym)) → IsSource m (s ∷ heard) (row ∷ rows) → sent_text (mode_on m) row ≡ text_for (mode_on m) s
text_is Idle s heard row rows e = refl
text_is (Repeat n i) s heard row rows e = ap (λ y. cond (ltb (next_count i) preamble_length) (preamble_at (next_count i)) y) (ap (λ zs. get_or zs 0 sy.Idle) e)
text_is (Extend n i j) s heard row rows e = refl
text_is (RxClash n i) s heard row rows e = refl
text_is (TxClash i) s heard row rows e = refl
text_is (OnePort n i) s heard row rows e = refl

source_on : (m : Mode) (s : Sym) (heard row : List Sym) (rows : List (List Sym)) → IsSource m (s ∷ heard) (row ∷ rows) → IsSource (mode_on m) heard rows
source_on Idle s heard row rows e = tt
source_on (Repeat n i) s heard row rows e = ap (drop 1) e
source_on (Extend n i j) s heard row rows e = tt
source_on (RxClash n i) s heard row rows e = tt
source_on (TxClash i) s heard row rows e = tt
source_on (OnePort n i) s heard row rows e = tt

-- the state after n half bits that are steady by their classes, part by part
abbrev pub rows_later : List Sym → List Bool → List Bool → List Sym → ℕ → RepeaterDevice → RepeaterDevice
rows_later hears emitting deciding heard n r = record {
  mode = iterate mode_on n r.mode;
  guards = iterate (at_each guard_by (kinds_of hears emitting)) n r.guards;
  counts = iterate (at_each count_by deciding) n r.counts;
  line = line_with deciding (texts_after r.mode heard) r.line;
}

-- and after one, in which the port that is repeated hears s
abbrev row_parts : List Sym → List Bool → List Bool → Sym → RepeaterDevice → RepeaterDevice
row_parts hears emitting deciding s r = record {
  mode = mode_on r.mode;
  guards = at_each guard_by (kinds_of hears emitting) r.guards;
  counts = at_each count_by deciding r.counts;
  line = moved_on (texted deciding (text_for (mode_on r.mode) s)) r.line;
}

abbrev row_by : List Kind → List Bool → Sym → RepeaterDevice → RepeaterDevice
row_by kinds deciding text r = record {
  mode = mode_on r.mode;
  guards = at_each guard_by kinds r.guards;
  counts = at_each count_by deciding r.counts;
  line = moved_on (texted deciding text) r.line;
}

row_once : (hears row heard : List Sym) (rows : List (List Sym)) (s : Sym) (emitting deciding : List Bool) (x : RepeaterDevice) → map class_of row ≡ map class_of hears → IsSource x.mode (s ∷ heard) (row ∷ rows)
    → IsSteadyStep row emitting deciding x → after row x ≡ row_parts hears emitting deciding s x
row_once hears row heard rows s emitting deciding x e src step =
    steady_once row emitting deciding x step
    ∙ ap₂ (λ ks t. row_by ks deciding t x) (kinds_like row hears emitting e) (text_is x.mode s heard row rows src)

pub rows_are : (rows : List (List Sym)) (heard hears : List Sym) (emitting deciding : List Bool) (r x : RepeaterDevice) → Like r x → length rows ≡ length heard → OfClasses hears rows → IsSource x.mode heard rows
    → ((k : ℕ) → k < length rows → IsSteadyStep hears emitting deciding (iterate (after hears) k r)) → after_rows rows x ≡ rows_later hears emitting deciding heard (length rows) x
rows_are [] [] hears emitting deciding r x y n a src s = refl
rows_are [] (h ∷ heard) hears emitting deciding r x y n a src s = absurd (omega arith)
rows_are (row ∷ rows) [] hears emitting deciding r x y n a src s = absurd (omega arith)
rows_are (row ∷ rows) (h ∷ heard) hears emitting deciding r x y n a src s =
    let first = s 0 (omega arith) in
    let step = step_like hears row emitting deciding r x y a.0 first in
    rows_are rows heard hears emitting deciding (after hears r) (after row x) (after_like hears row emitting deciding r x y a.0 first) (omega arith) a.1
    (subst (λ m. IsSource m heard rows) (sym step.mode) (source_on x.mode h heard row rows src)) (λ k l. s (suc k) (omega arith))
    ∙ ap (rows_later hears emitting deciding heard (length rows)) (row_once hears row heard rows h emitting deciding x a.0 src step)

pub texts_rows : (rows : List (List Sym)) (heard hears : List Sym) (emitting deciding : List Bool) (r x : RepeaterDevice) → Like r x → length rows ≡ length heard → OfClasses hears rows → IsSource x.mode heard rows
    → ((k : ℕ) → k < length rows → IsSteadyStep hears emitting deciding (iterate (after hears) k r))
    → (k : ℕ) → k < length rows → decided_by (get_or rows k []) (after_rows (take k rows) x) ≡ texted deciding (get_or (texts_after x.mode heard) k sy.Idle)
texts_rows [] heard hears emitting deciding r x y n a src s k l = absurd (omega arith)
texts_rows (row ∷ rows) [] hears emitting deciding r x y n a src s k l = absurd (omega arith)
texts_rows (row ∷ rows) (h ∷ heard) hears emitting deciding r x y n a src s zero l =
    let step = step_like hears row emitting deciding r x y a.0 (s 0 (omega arith)) in
    texts_at 0 x row ∙ ap₂ texted step.decides (ap (λ m. sent_text m row) step.mode ∙ text_is x.mode h heard row rows src)
texts_rows (row ∷ rows) (h ∷ heard) hears emitting deciding r x y n a src s (suc k) l =
    let first = s 0 (omega arith) in
    let step = step_like hears row emitting deciding r x y a.0 first in
    texts_rows rows heard hears emitting deciding (after hears r) (after row x) (after_like hears row emitting deciding r x y a.0 first) (omega arith) a.1
    (subst (λ m. IsSource m heard rows) (sym step.mode) (source_on x.mode h heard row rows src)) (λ i m. s (suc i) (omega arith)) k (omega arith)
    ∙ ap (λ m. texted deciding (get_or (texts_after m heard) k sy.Idle)) step.mode

row_length : (row hears : List Sym) → map class_of row ≡ map class_of hears → length row ≡ length hears
row_length row hears e = sym (length-map row class_of) ∙ ap length e ∙ length-map hears class_of

pub emits_rows : (rows : List (List Sym)) (hears : List Sym) (r : RepeaterDevice) → IsState r → length hears ≡ length r.guards → OfClasses hears rows
    → (k : ℕ) → k < length rows → k < r.line.delay → emitted_by (after_rows (take k rows) r) ≡ take r.line.ports (drop (k * r.line.ports) r.line.rows)
emits_rows [] hears r h l a k b d = absurd (omega arith)
emits_rows (row ∷ rows) hears r h l a zero b d = let none : 0 * r.line.ports ≡ 0 = omega arith in ap (λ i. take r.line.ports (drop i r.line.rows)) (sym none)
emits_rows (row ∷ rows) hears r h l a (suc k) b d =
    let n : length row ≡ length r.guards = row_length row hears a.0 ∙ l in
    emits_rows rows hears (after row r) (state_after r row h n) (l ∙ sym (ports_after r row h n)) a.1 k (omega arith) (omega arith)
    ∙ row_on (suc k) k r.line.ports r.line.delay r.line.rows (decided_by row r) (h.rows_len ∙ ap (λ p. r.line.delay * p) (sym h.line_ports)) (omega arith) (omega arith)

pub state_rows : (rows : List (List Sym)) (hears : List Sym) (r : RepeaterDevice) → IsState r → length hears ≡ length r.guards → OfClasses hears rows → IsState (after_rows rows r)
state_rows [] hears r h l a = h
state_rows (row ∷ rows) hears r h l a =
    let n : length row ≡ length r.guards = row_length row hears a.0 ∙ l in
    state_rows rows hears (after row r) (state_after r row h n) (l ∙ sym (ports_after r row h n)) a.1

pub ports_rows : (rows : List (List Sym)) (hears : List Sym) (r : RepeaterDevice) → IsState r → length hears ≡ length r.guards → OfClasses hears rows → length (after_rows rows r).guards ≡ length r.guards
ports_rows [] hears r h l a = refl
ports_rows (row ∷ rows) hears r h l a =
    let n : length row ≡ length r.guards = row_length row hears a.0 ∙ l in
    ports_rows rows hears (after row r) (state_after r row h n) (l ∙ sym (ports_after r row h n)) a.1 ∙ ports_after r row h n

-- rows in which the port that is repeated hears these symbols
class_set : (n : ℕ) (xs : List Sym) (s : Sym) → class_of s ≡ class_of (get_or xs n sy.Idle) → map class_of (set xs n s) ≡ map class_of xs
class_set zero [] s e = refl
class_set (suc n) [] s e = refl
class_set zero (x ∷ xs) s e = ap (λ c. c ∷ map class_of xs) e
class_set (suc n) (x ∷ xs) s e = ap (λ cs. class_of x ∷ cs) (class_set n xs s e)

same_rows : (heard hears : List Sym) → OfClasses hears (map (λ s. hears) heard)
same_rows [] hears = tt
same_rows (s ∷ heard) hears = (refl, same_rows heard hears)

set_rows : (n : ℕ) (heard hears : List Sym) → AllByRecursion (λ s. class_of s ≡ class_of (get_or hears n sy.Idle)) heard → OfClasses hears (map (λ s. set hears n s) heard)
set_rows n [] hears a = tt
set_rows n (s ∷ heard) hears a = (class_set n hears s a.0, set_rows n heard hears a.1)

set_source : (n : ℕ) (heard hears : List Sym) → n < length hears → map (λ row. get_or row n sy.Idle) (map (λ s. set hears n s) heard) ≡ heard
set_source n [] hears l = refl
set_source n (s ∷ heard) hears l = ap₂ ◌∷◌ (get_or-set_same hears n s sy.Idle l) (set_source n heard hears l)

beyond : (n : ℕ) (xs : List Sym) → length xs ≤ n → get_or xs n sy.Idle ≡ sy.Idle
beyond n [] l = refl
beyond zero (x ∷ xs) l = absurd (omega arith)
beyond (suc n) (x ∷ xs) l = beyond n xs (omega arith)

level_within : (n : ℕ) (hears : List Sym) → IsLevel (get_or hears n sy.Idle) → n < length hears
level_within n hears h = elim (cases_lt n (length hears)) [
  | inl l ↦ l
  | inr l ↦ absurd (h.0 (beyond n hears l))
]

heard_rows : (m : Mode) (hears heard : List Sym) → IsRepeatable hears (mode_on m) → IsOfSource m hears heard → (rows : List (List Sym)) × AreHeardAs hears m heard rows
heard_rows Idle hears heard h o = (map (λ s. hears) heard, record { count = length-map heard _; classes = same_rows heard hears; source = tt })
heard_rows (Repeat n i) hears heard h o = (map (λ s. set hears n s) heard, record { count = length-map heard _; classes = set_rows n heard hears o; source = set_source n heard hears (level_within n hears h) })
heard_rows (Extend n i j) hears heard h o = (map (λ s. hears) heard, record { count = length-map heard _; classes = same_rows heard hears; source = tt })
heard_rows (RxClash n i) hears heard h o = (map (λ s. hears) heard, record { count = length-map heard _; classes = same_rows heard hears; source = tt })
heard_rows (TxClash i) hears heard h o = (map (λ s. hears) heard, record { count = length-map heard _; classes = same_rows heard hears; source = tt })
heard_rows (OnePort n i) hears heard h o = (map (λ s. hears) heard, record { count = length-map heard _; classes = same_rows heard hears; source = tt })

-- the state after steady half bits, from its parts
abbrev pub later_by : List Sym → List Sym → RepeaterDevice → RepeaterDevice
later_by hears heard r = rows_later hears (map is_signal (emitted_by r)) (map is_signal (decided_by hears r)) heard (length heard) r

pub state_is : (rows : List (List Sym)) (hears heard : List Sym) (r : RepeaterDevice) → IsSteady hears r (length heard) → AreHeardAs hears r.mode heard rows → later_by hears heard r ≡ after_rows rows r
state_is rows hears heard r s a =
    let n = a.count in
    sym (rows_are rows heard hears (map is_signal (emitted_by r)) (map is_signal (decided_by hears r)) r r (like_self r) n a.classes a.source (λ k l. s k (omega arith))
    ∙ ap (λ n. rows_later hears (map is_signal (emitted_by r)) (map is_signal (decided_by hears r)) heard n r) n)

pub steps_are : (rows : List (List Sym)) (hears heard : List Sym) (r : RepeaterDevice) → IsSteady hears r (length heard) → AreHeardAs hears r.mode heard rows
    → AreSteadyRows rows (map is_signal (emitted_by r)) (map is_signal (decided_by hears r)) r
steps_are rows hears heard r s a =
    let n = a.count in
    steps_rows rows hears (map is_signal (emitted_by r)) (map is_signal (decided_by hears r)) r r (like_self r) a.classes (λ k l. s k (omega arith))

pub decisions_are : (rows : List (List Sym)) (hears heard texts : List Sym) (r : RepeaterDevice) → texts ≡ texts_after r.mode heard → IsSteady hears r (length heard) → AreHeardAs hears r.mode heard rows
    → DecideTexts rows (map is_signal (decided_by hears r)) texts r
decisions_are rows hears heard texts r e s a = λ k l.
    let n = a.count in
    texts_rows rows heard hears (map is_signal (emitted_by r)) (map is_signal (decided_by hears r)) r r (like_self r) n a.classes a.source (λ k l. s k (omega arith)) k l
    ∙ ap (λ ts. texted (map is_signal (decided_by hears r)) (get_or ts k sy.Idle)) (sym e)

pub emissions_are : (rows : List (List Sym)) (hears heard : List Sym) (r : RepeaterDevice) → IsState r → length hears ≡ length r.guards → AreHeardAs hears r.mode heard rows → EmitRows rows r
emissions_are rows hears heard r h l a = emits_rows rows hears r h l a.classes

-- what is sent is a signal in each of them, or in none
pub texts_alike : (hears heard : List Sym) (r : RepeaterDevice) → IsState r → length hears ≡ length r.guards → 0 < length heard → IsOfSource r.mode hears heard → IsSteady hears r (length heard)
    → (k : ℕ) → k < length heard → map is_signal (texted (map is_signal (decided_by hears r)) (get_or (texts_after r.mode heard) k sy.Idle)) ≡ map is_signal (decided_by hears r)
texts_alike hears heard r h l some o s = λ k b.
    let x = heard_rows r.mode hears heard (subst (IsRepeatable hears) (s 0 some).mode (repeats hears r)) o in
    let n = x.1.count in
    let c : k < length x.0 = omega arith in
    ap (map is_signal) (sym (decisions_are x.0 hears heard (texts_after r.mode heard) r refl s x.1 k c)) ∙ (steps_are x.0 hears heard r s x.1 k c).decides

pub later_state : (hears heard : List Sym) (r : RepeaterDevice) → IsState r → length hears ≡ length r.guards → 0 < length heard → IsOfSource r.mode hears heard → IsSteady hears r (length heard) → IsState (later_by hears heard r)
later_state hears heard r h l some o s =
    let x = heard_rows r.mode hears heard (subst (IsRepeatable hears) (s 0 some).mode (repeats hears r)) o in
    subst IsState (sym (state_is x.0 hears heard r s x.1)) (state_rows x.0 hears r h l x.1.classes)

pub leapt_classes : (hears heard : List Sym) (r : RepeaterDevice) (mode : Mode) (guards : List Guard) (counts : List Count) (line : Delayed) → IsState r → length hears ≡ length r.guards
    → mode ≡ iterate mode_on (length heard) r.mode → guards ≡ at_each (λ x g. iterate (guard_by x) (length heard) g) (kinds_of hears (map is_signal (emitted_by r))) r.guards
    → counts ≡ at_each (λ x c. iterate (count_by x) (length heard) c) (map is_signal (decided_by hears r)) r.counts → line ≡ line_with (map is_signal (decided_by hears r)) (texts_after r.mode heard) r.line
    → ◌≡◌ {A = RepeaterDevice} (record { mode = mode; guards = guards; counts = counts; line = line }) (later_by hears heard r)
leapt_classes hears heard r mode guards counts line h l m g c e =
    let emitting = map is_signal (emitted_by r) in
    let deciding = map is_signal (decided_by hears r) in
    same_state (record { mode = mode; guards = guards; counts = counts; line = line }) (later_by hears heard r) m
    (g ∙ sym (each_later guard_by (length heard) (kinds_of hears emitting) r.guards (kinds_length hears (emitted_by r) (length_emitted r h ∙ sym l) ∙ l)))
    (c ∙ sym (each_later count_by (length heard) deciding r.counts (length-map (decided_by hears r) is_signal ∙ length_decided r hears h ∙ sym h.counts_len)))
    e

-- no half bits
pub no_rows : (rows : List (List Sym)) (r : RepeaterDevice) → length rows ≡ 0 → r ≡ after_rows rows r
no_rows [] r n = refl
no_rows (row ∷ rows) r n = absurd (omega arith)

pub no_texts : (m : Mode) (heard sent : List Sym) → length sent ≡ length heard → length heard ≡ 0 → sent ≡ texts_after m heard
no_texts m [] [] l n = refl
no_texts m [] (s ∷ sent) l n = absurd (omega arith)
no_texts m (s ∷ heard) sent l n = absurd (omega arith)
