-- What the leaps of a port's counts, of guards and of the delay line need, from the half bits being steady.
use Rattle.std.proofs.Common.{◌≡◌, ◌≢◌, ℕ, zero, suc, ◌+◌, ◌-◌, ◌<◌, ◌≤◌, Bool, true, false, List, [], ◌∷◌, ◌++◌, length, map, take, drop, set, get_or, length-drop, refl, sym, ap, ap₂, subst, ◌∙◌, arith, inl, inr}
use Rattle.std.proofs.lemmas.Bool.{cases_lt}
use Rattle.std.proofs.lemmas.Grind.{common_steps}
use Rattle.std.proofs.lemmas.List.{drop-drop}
use Rattle.std.specs.Fn.{iterate}
use Rattle.manchester_line.specs.declared.Sym.{Sym}
use Rattle.manchester_line.specs.declared.Sym.TheVariants as sy
use Rattle.manchester_line.specs.Line.{is_signal}
use Rattle.port_partition.specs.Guard.{Guard, new_guard}
use Rattle.port_partition.specs.Alike.{guard_later, HasNoEvent}
use Rattle.repeater_core.specs.Step.{collides}
use Rattle.mac_parameters.specs.Parameters.{jabber_limit}
use Rattle.repeater_core.specs.Counts.{Count, resting_count}
use Rattle.repeater_core.specs.SilentParts.{silent_count}
use Rattle.repeater_core.specs.Steady.{Kind, kind_of, kinds_of, at_each, guard_by, count_by, IsSentFor, AreSentFor, HaveNoEvents}

run_more : (n : ℕ) (c : Count) → c.rest ≡ 0 → iterate (count_by true) n c ≡ record { run = c.run + n; rest = 0; after_rest = c.after_rest }
run_more zero c z = sym (let e : c.run + 0 ≡ c.run = omega arith in ap₂ (λ a b. record { run = a; rest = b; after_rest = c.after_rest }) e (sym z))
run_more (suc n) c z = run_more n (count_by true c) refl ∙ (let e : c.run + 1 + n ≡ c.run + suc n = omega arith in ap (λ a. record { run = a; rest = 0; after_rest = c.after_rest }) e)

pub run_for : (n : ℕ) (c : Count) → c.rest ≡ 0 → iterate (count_by true) n c ≡ record { run = c.run + n; rest = c.rest; after_rest = c.after_rest }
run_for n c z = run_more n c z ∙ ap (λ b. record { run = c.run + n; rest = b; after_rest = c.after_rest }) (sym z)

pub not_sent_for : (n : ℕ) (c : Count) → iterate (count_by false) n c ≡ iterate silent_count n c
not_sent_for zero c = refl
not_sent_for (suc n) c = not_sent_for n (silent_count c)

pub run_fits : (n run : ℕ) → ((k : ℕ) → k < n → run + k ≢ jabber_limit) → run ≤ jabber_limit → run + n ≤ jabber_limit
run_fits n run h l = elim (cases_lt jabber_limit (run + n)) [
  | inl m ↦ absurd (h (jabber_limit - run) (omega arith) (omega arith))
  | inr m ↦ m
]

-- an element behind which two lists are the same
pub same_at : {A : Type 0} (i : ℕ) (old new : List A) (d e : A) → i < length old → drop i new ≡ drop i old → get_or new i d ≡ get_or old i e
same_at zero [] new d e l p = absurd (omega arith)
same_at (suc i) [] new d e l p = absurd (omega arith)
same_at zero (x ∷ old) [] d e l p = absurd (let n : 0 ≡ suc (length old) = ap length p in omega arith)
same_at zero (x ∷ old) (y ∷ new) d e l p = ap (λ zs. get_or zs 0 d) p
same_at (suc i) (x ∷ old) [] d e l p = absurd (let n : 0 ≡ length (drop i old) = ap length p in let m = length-drop i old in omega arith)
same_at (suc i) (x ∷ old) (y ∷ new) d e l p = same_at i old new d e (omega arith) p

pub sent_at : (n k : ℕ) (sent : Bool) (ds : List Sym) (old new : List Count) (s : Sym) (c : Count)
    → k < length old → k < length ds → drop k new ≡ drop k old → AreSentFor n ds old → sent ≡ is_signal (get_or ds k s) → IsSentFor n sent (get_or new k c)
sent_at n k sent ds old new s c l m p h e =
    let a : get_or ds k s ≡ get_or ds k sy.Idle = same_at k ds ds s sy.Idle m refl in
    let b : get_or new k c ≡ get_or old k (resting_count 0) = same_at k old new c (resting_count 0) l p in
    subst (λ x. IsSentFor n sent x) (sym b) (subst (λ x. IsSentFor n x (get_or old k (resting_count 0))) (sym (e ∙ ap is_signal a)) (h k l))

pub no_event_at : (n k : ℕ) (h b e : Bool) (hs es : List Sym) (old new : List Guard) (s t : Sym) (g : Guard)
    → k < length old → k < length hs → k < length es → drop k new ≡ drop k old → HaveNoEvents n hs es old
    → h ≡ is_signal (get_or hs k s) → b ≡ collides (get_or hs k s) (get_or es k t) → e ≡ is_signal (get_or es k t) → HasNoEvent h b e n (get_or new k g)
no_event_at n k h b e hs es old new s t g l lh le p all eh eb ee =
    let ha : get_or hs k s ≡ get_or hs k sy.Idle = same_at k hs hs s sy.Idle lh refl in
    let ea : get_or es k t ≡ get_or es k sy.Idle = same_at k es es t sy.Idle le refl in
    let ga : get_or new k g ≡ get_or old k new_guard = same_at k old new g new_guard l p in
    subst (λ x. HasNoEvent h b e n x) (sym ga)
    (subst (λ x. HasNoEvent x b e n (get_or old k new_guard)) (sym (eh ∙ ap is_signal ha))
    (subst (λ x. HasNoEvent (is_signal (get_or hs k sy.Idle)) x e n (get_or old k new_guard)) (sym (eb ∙ ap₂ collides ha ea))
    (subst (λ x. HasNoEvent (is_signal (get_or hs k sy.Idle)) (collides (get_or hs k sy.Idle) (get_or es k sy.Idle)) x n (get_or old k new_guard)) (sym (ee ∙ ap is_signal ea))
    (all k l))))

-- one guard more has leapt
put_each : (f : Kind → Guard → Guard) (k : ℕ) (hs es : List Sym) (xs : List Guard) (new : Guard) (s t : Sym) (d : Guard) → k < length xs → length hs ≡ length xs → length es ≡ length xs
    → new ≡ f (kind_of (get_or hs k s) (is_signal (get_or es k t))) (get_or xs k d)
    → take (suc k) (set xs k new) ++ at_each f (kinds_of (drop (suc k) hs) (map is_signal (drop (suc k) es))) (drop (suc k) (set xs k new)) ≡ take k xs ++ at_each f (kinds_of (drop k hs) (map is_signal (drop k es))) (drop k xs)
put_each f k hs es [] new s t d l m o e = absurd (omega arith)
put_each f k [] es (x ∷ xs) new s t d l m o e = absurd (omega arith)
put_each f k (h ∷ hs) [] (x ∷ xs) new s t d l m o e = absurd (omega arith)
put_each f zero (h ∷ hs) (y ∷ es) (x ∷ xs) new s t d l m o e = ap (λ z. z ∷ at_each f (kinds_of hs (map is_signal es)) xs) e
put_each f (suc k) (h ∷ hs) (y ∷ es) (x ∷ xs) new s t d l m o e = ap (λ zs. x ∷ zs) (put_each f k hs es xs new s t d (omega arith) (omega arith) (omega arith) e)

pub kind_is : (h e : Sym) → kind_of h (is_signal e) ≡ record { hears = is_signal h; clash = collides h e; emits = is_signal e }
kind_is sy.Idle e = refl
kind_is sy.Hi e = refl
kind_is sy.Lo e = refl
kind_is sy.Clash e = refl

pub guard_put : (n k m : ℕ) (h b e : Bool) (hs es : List Sym) (xs ys : List Guard) (new : Guard) (s t : Sym) (d : Guard) → m ≡ suc k → k < length xs → length hs ≡ length xs → length es ≡ length xs
    → h ≡ is_signal (get_or hs k s) → b ≡ collides (get_or hs k s) (get_or es k t) → e ≡ is_signal (get_or es k t) → new ≡ guard_later h b e n (get_or xs k d)
    → take k xs ++ at_each (λ k g. iterate (guard_by k) n g) (kinds_of (drop k hs) (map is_signal (drop k es))) (drop k xs) ≡ ys
    → take m (set xs k new) ++ at_each (λ k g. iterate (guard_by k) n g) (kinds_of (drop m hs) (map is_signal (drop m es))) (drop m (set xs k new)) ≡ ys
guard_put n k m h b e hs es xs ys new s t d is l lh le eh eb ee en before =
    let g = get_or xs k d in
    let kind : kind_of (get_or hs k s) (is_signal (get_or es k t)) ≡ record { hears = h; clash = b; emits = e } =
    kind_is (get_or hs k s) (get_or es k t) ∙ sym (ap (λ x. record { hears = x; clash = b; emits = e }) eh ∙ ap (λ x. record { hears = is_signal (get_or hs k s); clash = x; emits = e }) eb ∙ ap (λ x. record { hears = is_signal (get_or hs k s); clash = collides (get_or hs k s) (get_or es k t); emits = x }) ee) in
    let value : new ≡ iterate (guard_by (kind_of (get_or hs k s) (is_signal (get_or es k t)))) n g = en ∙ sym (ap (λ x. iterate (guard_by x) n g) kind) in
    subst (λ m. take m (set xs k new) ++ at_each (λ k g. iterate (guard_by k) n g) (kinds_of (drop m hs) (map is_signal (drop m es))) (drop m (set xs k new)) ≡ ys) (sym is)
    (put_each (λ k g. iterate (guard_by k) n g) k hs es xs new s t d l lh le value ∙ before)

pub guard_behind : (i : ℕ) (old new : List Guard) (g : Guard) → drop i new ≡ drop i old → drop (i + 1) (set new i g) ≡ drop (i + 1) old
guard_behind i old new g e =
    let kept : drop (i + 1) (set new i g) ≡ drop (i + 1) new = grind (arith, common_steps) in
    kept ∙ sym (drop-drop 1 i new) ∙ ap (drop 1) e ∙ drop-drop 1 i old

pub told_at : (n k : ℕ) (h b e : Bool) (hs es : List Sym) (gs : List Guard) (s t : Sym) (g : Guard)
    → k < length gs → k < length hs → k < length es → h ≡ is_signal (get_or hs k s) → b ≡ collides (get_or hs k s) (get_or es k t) → e ≡ is_signal (get_or es k t) → HasNoEvent h b e n (get_or gs k g)
    → HasNoEvent (is_signal (get_or hs k sy.Idle)) (collides (get_or hs k sy.Idle) (get_or es k sy.Idle)) (is_signal (get_or es k sy.Idle)) n (get_or gs k new_guard)
told_at n k h b e hs es gs s t g l lh le eh eb ee told =
    let ha : get_or hs k s ≡ get_or hs k sy.Idle = same_at k hs hs s sy.Idle lh refl in
    let ea : get_or es k t ≡ get_or es k sy.Idle = same_at k es es t sy.Idle le refl in
    let ga : get_or gs k g ≡ get_or gs k new_guard = same_at k gs gs g new_guard l refl in
    subst (λ x. HasNoEvent (is_signal (get_or hs k sy.Idle)) (collides (get_or hs k sy.Idle) (get_or es k sy.Idle)) (is_signal (get_or es k sy.Idle)) n x) ga
    (subst (λ x. HasNoEvent (is_signal (get_or hs k sy.Idle)) (collides (get_or hs k sy.Idle) (get_or es k sy.Idle)) x n (get_or gs k g)) (ee ∙ ap is_signal ea)
    (subst (λ x. HasNoEvent (is_signal (get_or hs k sy.Idle)) x e n (get_or gs k g)) (eb ∙ ap₂ collides ha ea)
    (subst (λ x. HasNoEvent x b e n (get_or gs k g)) (eh ∙ ap is_signal ha) told)))

pub back_at : (n k : ℕ) (h b e : Bool) (hs es : List Sym) (gs : List Guard) (s t : Sym) (g : Guard)
    → k < length gs → k < length hs → k < length es → h ≡ is_signal (get_or hs k s) → b ≡ collides (get_or hs k s) (get_or es k t) → e ≡ is_signal (get_or es k t)
    → HasNoEvent (is_signal (get_or hs k sy.Idle)) (collides (get_or hs k sy.Idle) (get_or es k sy.Idle)) (is_signal (get_or es k sy.Idle)) n (get_or gs k new_guard)
    → HasNoEvent h b e n (get_or gs k g)
back_at n k h b e hs es gs s t g l lh le eh eb ee told =
    let ha : get_or hs k s ≡ get_or hs k sy.Idle = same_at k hs hs s sy.Idle lh refl in
    let ea : get_or es k t ≡ get_or es k sy.Idle = same_at k es es t sy.Idle le refl in
    let ga : get_or gs k g ≡ get_or gs k new_guard = same_at k gs gs g new_guard l refl in
    subst (λ x. HasNoEvent x b e n (get_or gs k g)) (sym (eh ∙ ap is_signal ha))
    (subst (λ x. HasNoEvent (is_signal (get_or hs k sy.Idle)) x e n (get_or gs k g)) (sym (eb ∙ ap₂ collides ha ea))
    (subst (λ x. HasNoEvent (is_signal (get_or hs k sy.Idle)) (collides (get_or hs k sy.Idle) (get_or es k sy.Idle)) x n (get_or gs k g)) (sym (ee ∙ ap is_signal ea))
    (subst (λ x. HasNoEvent (is_signal (get_or hs k sy.Idle)) (collides (get_or hs k sy.Idle) (get_or es k sy.Idle)) (is_signal (get_or es k sy.Idle)) n x) (sym ga) told)))
