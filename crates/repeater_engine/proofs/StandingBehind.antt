-- A repeater that stands behind: the rows of half bits that are put aside, its state after them, and what is decided in
-- a window in which it goes on steadily.
use Rattle.std.proofs.Common.{◌≡◌, ℕ, zero, suc, ◌+◌, ◌<◌, ◌≤◌, Bool, List, [], ◌∷◌, ◌++◌, length, length-append, length-take-le, length-drop, append_assoc, map, take, drop, set, get_or, refl, sym, ap, ap₂, subst, ◌∙◌, arith}
use Rattle.std.proofs.lemmas.Bool.Decides.{nat_tests}
use Rattle.std.proofs.Math.Seq.{take-append_seam}
use Rattle.std.proofs.lemmas.List.{length-map, map-append, get_or-set_same, take-take}
use Rattle.std.specs.Fn.{iterate}
use Rattle.std.specs.List.{AllByRecursion}
use Rattle.manchester_line.specs.declared.Sym.{Sym}
use Rattle.manchester_line.specs.declared.Sym.TheVariants.{Idle}
use Rattle.manchester_line.specs.Line.{is_signal}
use Rattle.repeater_core.specs.declared.modes.Mode.{Mode}
use Rattle.repeater_core.specs.declared.modes.Mode.TheVariants as mode
use Rattle.repeater_core.specs.Classes.{class_of, after_rows, texts_after, AreHeardAs, AreSteadyRows, IsOfSource, IsSource}
use Rattle.repeater_core.specs.Counts.{Choice}
use Rattle.repeater_core.specs.Steady.{mode_on, texted, IsSteady, IsSteadyStep}
use Rattle.repeater_core.specs.Step.{RepeaterDevice, after, chosen, emitted_by, decided_by}
use Rattle.repeater_core.proofs.Lawful.{length_chosen}
use Rattle.repeater_core.proofs.LaterTexts.{texts_heard}
use Rattle.repeater_core.proofs.SteadinessLasts.{lasts}
use Rattle.repeater_core.proofs.SteadyRows.{Like, like_self, step_like, after_like, state_is, steps_are, decisions_are}
use Rattle.net_parts.specs.RepeaterParts.{RepeaterState}
use Rattle.repeater_engine.specs.KeptRepeaters.{KeptRepeater}
use Rattle.repeater_engine.specs.LeapedHalfBits.{made_of, AreOfClasses}
use Rattle.repeater_engine.specs.PutAside.{row_hearing, state_later, IsPutAside, RepeatsLevels, SendsAlike}
use Rattle.repeater_engine.specs.RowWaits.{HasRowRoom}
use Rattle.repeater_engine.proofs.ClassesOfRows.{of_source}
use Rattle.repeater_engine.proofs.SteadyRuns.{HasPorts, ports_last, steady_run, room_lasts, decided_run}

class_set : (n : ℕ) (xs : List Sym) (s : Sym) → class_of s ≡ class_of (get_or xs n Idle) → map class_of (set xs n s) ≡ map class_of xs
class_set zero [] s e = refl
class_set (suc n) [] s e = refl
class_set zero (x ∷ xs) s e = ap (λ c. c ∷ map class_of xs) e
class_set (suc n) (x ∷ xs) s e = ap (λ cs. class_of x ∷ cs) (class_set n xs s e)

set_rows : (n : ℕ) (text heard : List Sym) → AllByRecursion (λ s. class_of s ≡ class_of (get_or heard n Idle)) text → AreOfClasses heard (map (λ s. set heard n s) text)
set_rows n [] heard a = tt
set_rows n (s ∷ text) heard a = (class_set n heard s a.0, set_rows n text heard a.1)

set_source : (n : ℕ) (text heard : List Sym) → n < length heard → map (λ row. get_or row n Idle) (map (λ s. set heard n s) text) ≡ text
set_source n [] heard l = refl
set_source n (s ∷ text) heard l = ap₂ ◌∷◌ (get_or-set_same heard n s Idle l) (set_source n text heard l)

-- the rows of half bits that are put aside are heard as they must be
pub aside_as : (m : Mode) (heard text : List Sym) → RepeatsLevels heard m → IsOfSource m heard text → AreHeardAs heard m text (map (row_hearing m heard) text)
aside_as mode.Idle heard text r o = absurd r
aside_as (mode.Repeat n i) heard text r o = record { count = length-map text _; classes = set_rows n text heard o; source = set_source n text heard r.1 }
aside_as (mode.Extend n i j) heard text r o = absurd r
aside_as (mode.RxClash n i) heard text r o = absurd r
aside_as (mode.TxClash i) heard text r o = absurd r
aside_as (mode.OnePort n i) heard text r o = absurd r

-- what was heard in those that are put aside is of its class, where there are none too
pub text_aside : (kept : KeptRepeater) (late : ℕ) (text : List Sym) → RepeatsLevels kept.heard kept.state.repeater.mode → (0 < late → IsPutAside kept (take late text)) → IsOfSource kept.state.repeater.mode kept.heard (take late text)
text_aside kept zero text r h = none kept.state.repeater.mode kept.heard r
  where
    none : (m : Mode) (heard : List Sym) → RepeatsLevels heard m → IsOfSource m heard []
    none mode.Idle heard r = absurd r
    none (mode.Repeat n i) heard r = tt
    none (mode.Extend n i j) heard r = absurd r
    none (mode.RxClash n i) heard r = absurd r
    none (mode.TxClash i) heard r = absurd r
    none (mode.OnePort n i) heard r = absurd r
text_aside kept (suc late) text r h = (h (omega arith)).source

on_repeats : (m : Mode) (heard : List Sym) → RepeatsLevels heard m → RepeatsLevels heard (mode_on m)
on_repeats mode.Idle heard r = absurd r
on_repeats (mode.Repeat n i) heard r = (let far = r.0 in grind (arith, nat_tests), r.1)
on_repeats (mode.Extend n i j) heard r = absurd r
on_repeats (mode.RxClash n i) heard r = absurd r
on_repeats (mode.TxClash i) heard r = absurd r
on_repeats (mode.OnePort n i) heard r = absurd r

later_repeats : (k : ℕ) (m : Mode) (heard : List Sym) → RepeatsLevels heard m → RepeatsLevels heard (iterate mode_on k m)
later_repeats zero m heard r = r
later_repeats (suc k) m heard r = later_repeats k (mode_on m) heard (on_repeats m heard r)

on_source : (m : Mode) (text : List Sym) (rows : List (List Sym)) → IsSource m text rows → IsSource (mode_on m) text rows
on_source mode.Idle text rows s = tt
on_source (mode.Repeat n i) text rows s = s
on_source (mode.Extend n i j) text rows s = tt
on_source (mode.RxClash n i) text rows s = tt
on_source (mode.TxClash i) text rows s = tt
on_source (mode.OnePort n i) text rows s = tt

later_source : (k : ℕ) (m : Mode) (text : List Sym) (rows : List (List Sym)) → IsSource m text rows → IsSource (iterate mode_on k m) text rows
later_source zero m text rows s = s
later_source (suc k) m text rows s = later_source k (mode_on m) text rows (on_source m text rows s)

text_sent : (m : Mode) (heard text : List Sym) → RepeatsLevels heard m → text ≡ texts_after m text
text_sent mode.Idle heard text r = absurd r
text_sent (mode.Repeat n i) heard text r = sym (texts_heard text n i r.0)
text_sent (mode.Extend n i j) heard text r = absurd r
text_sent (mode.RxClash n i) heard text r = absurd r
text_sent (mode.TxClash i) heard text r = absurd r
text_sent (mode.OnePort n i) heard text r = absurd r

after_append : (xs ys : List (List Sym)) (r : RepeaterDevice) → after_rows (xs ++ ys) r ≡ after_rows ys (after_rows xs r)
after_append [] ys r = refl
after_append (x ∷ xs) ys r = after_append xs ys (after x r)

classes_wide : (heard : List Sym) (ports : ℕ) (rows : List (List Sym)) → length heard ≡ ports → AreOfClasses heard rows → AllByRecursion (λ row. length row ≡ ports) rows
classes_wide heard ports [] e h = tt
classes_wide heard ports (row ∷ rows) e h = (sym (length-map row class_of) ∙ ap length h.0 ∙ length-map heard class_of ∙ e, classes_wide heard ports rows e h.1)

next_step : (rows : List (List Sym)) (heard : List Sym) (emitting deciding : List Bool) (r x : RepeaterDevice) → Like r x → AreOfClasses heard rows
    → ((j : ℕ) → j ≤ length rows → IsSteadyStep heard emitting deciding (iterate (after heard) j r)) → IsSteadyStep heard emitting deciding (after_rows rows x)
next_step [] heard emitting deciding r x y a s = step_like heard heard emitting deciding r x y refl (s 0 (omega arith))
next_step (row ∷ rows) heard emitting deciding r x y a s =
    next_step rows heard emitting deciding (after heard r) (after row x) (after_like heard row emitting deciding r x y a.0 (s 0 (omega arith))) a.1 (λ j l. s (suc j) (omega arith))

-- the half bit after steady ones, of as many, is as the first of them
pub still_steady : (heard : List Sym) (rows : List (List Sym)) (r : RepeaterDevice) (n : ℕ) → AreOfClasses heard rows → length rows < n → IsSteady heard r n
    → IsSteadyStep heard (map is_signal (emitted_by r)) (map is_signal (decided_by heard r)) (after_rows rows r)
still_steady heard rows r n a l s = next_step rows heard (map is_signal (emitted_by r)) (map is_signal (decided_by heard r)) r r (like_self r) a (λ j m. s j (omega (arith, l, m)))

-- which ports are sent a signal stays known over steady half bits
pub sends_on : (new : KeptRepeater) (heard : List Sym) (r : RepeaterDevice) (rows : List (List Sym)) (n : ℕ) → new.state.repeater ≡ after_rows rows r → new.heard ≡ heard → length new.state.repeater.guards ≡ length r.guards
    → map is_signal new.decided ≡ map is_signal (decided_by heard r) → length (emitted_by r) ≡ length r.guards → AreOfClasses heard rows → length rows < n → IsSteady heard r n → SendsAlike new
sends_on new heard r rows n is same ports flags wide a l s =
    let step = still_steady heard rows r n a l s in
    record {
      decides = flags ∙ sym step.decides ∙ ap₂ (λ hs (x : RepeaterDevice). map is_signal (decided_by hs x)) (sym same) (sym is);
      emits = ap (λ (x : RepeaterDevice). length (emitted_by x)) is ∙ sym (length-map (emitted_by (after_rows rows r)) is_signal) ∙ ap length step.emits ∙ length-map (emitted_by r) is_signal ∙ wide ∙ sym ports;
    }

all_append : (f : Sym → Sym) (c : Sym) (xs ys : List Sym) → AllByRecursion (λ s. f s ≡ c) xs → AllByRecursion (λ s. f s ≡ c) ys → AllByRecursion (λ s. f s ≡ c) (xs ++ ys)
all_append f c [] ys a b = b
all_append f c (x ∷ xs) ys a b = (a.0, all_append f c xs ys a.1 b)

-- what was heard goes on in its class
pub heard_on : (m : Mode) (heard xs ys : List Sym) → RepeatsLevels heard m → IsOfSource m heard xs → IsOfSource m heard ys → IsOfSource m heard (xs ++ ys)
heard_on mode.Idle heard xs ys r a b = absurd r
heard_on (mode.Repeat n i) heard xs ys r a b = all_append class_of (class_of (get_or heard n Idle)) xs ys a b
heard_on (mode.Extend n i j) heard xs ys r a b = absurd r
heard_on (mode.RxClash n i) heard xs ys r a b = absurd r
heard_on (mode.TxClash i) heard xs ys r a b = absurd r
heard_on (mode.OnePort n i) heard xs ys r a b = absurd r

-- a list that is written over from its beginning is as long as before
pub length_written : (n : ℕ) (new old : List Sym) → n ≡ length old → length (take n (new ++ drop (length new) old)) ≡ n
length_written n new old e =
    let rest = length-drop (length new) old in
    length-take-le n (new ++ drop (length new) old) (omega (arith, e, rest, length-append new (drop (length new) old)))

-- the text of half bits that are put aside, once more of them are
pub text_on : (n late m : ℕ) (t piece post rest : List Sym) → late ≤ length t → length piece ≡ m → late + m ≤ n → take (late + m) (take n ((take late t ++ (piece ++ post)) ++ rest)) ≡ take late t ++ piece
text_on n late m t piece post rest l e w =
    let begun = take late t in
    let sizes : late + m ≡ length (begun ++ piece) = omega (arith, length-append begun piece, length-take-le late t l, e) in
    let cut = ap (λ xs. xs ++ rest) (sym (append_assoc begun piece post)) ∙ append_assoc (begun ++ piece) post rest in
    take-take (late + m) n ((begun ++ (piece ++ post)) ++ rest) w ∙ ap₂ take sizes cut ∙ take-append_seam (begun ++ piece) (post ++ rest)

-- a repeater that stands behind by the half bits of `text`, and goes on steadily over these rows
module _ (kept : KeptRepeater) (text piece : List Sym) (rows : List (List Sym)) (hearing : length kept.heard ≡ length kept.state.repeater.guards) (deciding : length kept.decided ≡ length kept.state.repeater.guards) (sends : SendsAlike kept)
    (steady : IsSteady kept.heard kept.state.repeater (length text + length piece)) (repeats : RepeatsLevels kept.heard kept.state.repeater.mode) (before : IsOfSource kept.state.repeater.mode kept.heard text)
    (count : length rows ≡ length piece) (classes : AreOfClasses kept.heard rows) (source : IsSource kept.state.repeater.mode piece rows) where
  abbrev r : RepeaterDevice
  r = kept.state.repeater

  abbrev ports : ℕ
  ports = length r.guards

  abbrev aside : List (List Sym)
  aside = map (row_hearing r.mode kept.heard) text

  abbrev there : RepeaterDevice
  there = after_rows aside r

  heard_aside : AreHeardAs kept.heard r.mode text aside
  heard_aside = aside_as r.mode kept.heard text repeats before

  steady_aside : IsSteady kept.heard r (length text)
  steady_aside = λ k l. steady k (omega (arith, l))

  steady_there : IsSteady kept.heard there (length piece)
  steady_there = lasts kept.heard kept.heard aside r (length piece) heard_aside.classes refl (λ k l. steady k (omega (arith, l, heard_aside.count)))

  mode_there : there.mode ≡ iterate mode_on (length text) r.mode
  mode_there = ap (λ (x : RepeaterDevice). x.mode) (sym (state_is aside kept.heard text r steady_aside heard_aside))

  repeats_there : RepeatsLevels kept.heard there.mode
  repeats_there = subst (λ m. RepeatsLevels kept.heard m) (sym mode_there) (later_repeats (length text) r.mode kept.heard repeats)

  as_there : (ws : List (List Sym)) → length ws ≡ length piece → AreOfClasses kept.heard ws → IsSource r.mode piece ws → AreHeardAs kept.heard there.mode piece ws
  as_there ws e c s = record { count = e; classes = c; source = subst (λ m. IsSource m piece ws) (sym mode_there) (later_source (length text) r.mode piece ws s) }

  brought : AreHeardAs kept.heard there.mode piece rows
  brought = as_there rows count classes source

  abbrev later : List (List Sym)
  later = map (row_hearing r.mode kept.heard) piece

  -- rows that are put aside do the same as those that were brought
  after_both : after_rows (map (row_hearing r.mode kept.heard) (text ++ piece)) r ≡ after_rows rows there
  after_both =
      let heard_so = aside_as r.mode kept.heard piece repeats (of_source r.mode kept.heard piece rows classes source) in
      ap (λ xs. after_rows xs r) (map-append (row_hearing r.mode kept.heard) text piece) ∙ after_append aside later r
      ∙ sym (state_is later kept.heard piece there steady_there (as_there later heard_so.count heard_so.classes heard_so.source)) ∙ state_is rows kept.heard piece there steady_there brought

  steps : AreSteadyRows rows (map is_signal (emitted_by there)) (map is_signal (decided_by kept.heard there)) there
  steps = steps_are rows kept.heard piece there steady_there brought

  has_ports : HasPorts ports r
  has_ports = record {
    guards = refl;
    counts = sym (length_chosen kept.heard r) ∙ sym (length-map (chosen kept.heard r) (λ (x : Choice). x.symbol)) ∙ sym (length-map (decided_by kept.heard r) is_signal) ∙ ap length (sym sends.decides) ∙ length-map kept.decided is_signal ∙ deciding;
  }

  ports_there : HasPorts ports there
  ports_there = ports_last ports (map is_signal (emitted_by r)) (map is_signal (decided_by kept.heard r)) (length-map (emitted_by r) is_signal ∙ sends.emits) aside r has_ports
      (classes_wide kept.heard ports aside hearing heard_aside.classes) (steps_are aside kept.heard text r steady_aside heard_aside)

  module _ (some : 0 < length piece) where
    step_there : IsSteadyStep kept.heard (map is_signal (emitted_by r)) (map is_signal (decided_by kept.heard r)) there
    step_there = still_steady kept.heard aside r (length text + length piece) heard_aside.classes (omega (arith, some, heard_aside.count)) steady

    wide : length (map is_signal (emitted_by there)) ≡ ports
    wide = ap length step_there.emits ∙ length-map (emitted_by r) is_signal ∙ sends.emits

    long : AllByRecursion (λ row. length row ≡ ports) rows
    long = classes_wide kept.heard ports rows hearing classes

    -- its state after them
    pub state_on : (device : ℕ) → state_later kept.heard (text ++ piece) kept.state ≡ (made_of device rows (state_later kept.heard text kept.state)).state
    state_on device =
        let time : kept.state.t + length (text ++ piece) ≡ kept.state.t + length text + length rows = omega (arith, length-append text piece, count) in
        ap₂ (λ (u : ℕ) (x : RepeaterDevice). let s : RepeaterState = record { t = u; repeater = x; rows = kept.state.rows } in s) time after_both
        ∙ sym (steady_run ports (map is_signal (emitted_by there)) (map is_signal (decided_by kept.heard there)) wide device rows (state_later kept.heard text kept.state) ports_there long steps)

    -- what is decided in them
    pub rows_on : (device : ℕ) → (made_of device rows (state_later kept.heard text kept.state)).rows ≡ map (texted (map is_signal kept.decided)) piece
    rows_on device =
        decided_run device rows (map is_signal (decided_by kept.heard there)) piece (state_later kept.heard text kept.state) (sym count)
        (decisions_are rows kept.heard piece piece there (text_sent there.mode kept.heard piece repeats_there) steady_there brought)
        ∙ ap (λ bs. map (texted bs) piece) (step_there.decides ∙ sym sends.decides)

    pub ports_on : length (state_later kept.heard (text ++ piece) kept.state).repeater.guards ≡ length (state_later kept.heard text kept.state).repeater.guards
    ports_on =
        ap (λ (x : RepeaterDevice). length x.guards) after_both
        ∙ (ports_last ports (map is_signal (emitted_by there)) (map is_signal (decided_by kept.heard there)) wide rows there ports_there long steps).guards ∙ sym ports_there.guards

    -- the room for rows serves the half bits that are left
    pub room_on : (left later room : ℕ) → left ≡ later + length piece → HasRowRoom (length (state_later kept.heard text kept.state).repeater.guards) left room (state_later kept.heard text kept.state).repeater
        → HasRowRoom (length (state_later kept.heard (text ++ piece) kept.state).repeater.guards) later room (state_later kept.heard (text ++ piece) kept.state).repeater
    room_on left later room e h =
        let given = subst (λ n. HasRowRoom n left room there) ports_there.guards h in
        let lasts = room_lasts ports (map is_signal (emitted_by there)) (map is_signal (decided_by kept.heard there)) wide rows there ports_there long steps left later room (e ∙ ap (λ n. later + n) (sym count)) given in
        subst (λ (x : RepeaterDevice). HasRowRoom (length x.guards) later room x) (sym after_both)
        (subst (λ n. HasRowRoom n later room (after_rows rows there)) (sym (ap (λ (x : RepeaterDevice). length x.guards) (sym after_both) ∙ ports_on ∙ ports_there.guards)) lasts)
