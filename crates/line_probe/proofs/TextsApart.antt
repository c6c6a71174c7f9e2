-- Octets are the text of one list of runs at most, and have one first fault.
use Rattle.std.proofs.Common.{◌≡◌, ℕ, ◌+◌, List, [], ◌∷◌, ◌++◌, length, refl, sym, ap, subst, ◌∙◌, arith, inl, inr, Some, None, Ok, Err, append_assoc}
use Rattle.std.specs.Prelude.{IfSome, Option, Result, ◌≢◌, ◌⊎◌}
use Rattle.std.specs.List.{AllByRecursion}
use Rattle.std.proofs.lemmas.Grind.{flat_map-append}
use Rattle.std.proofs.lemmas.List.{append-nil, append_cancel_left}
use Rattle.line_probe.specs.ReadBack.{AreTold, BeginsAtEnd, FollowOn, GoesOnAlike, HasOtherSymbol, IsBadRunAt, IsGapAt, AreJudgedRuns, IsRunAt, IsSameAt, IsTextOf, IsToldRun, AreUnlessMemory, LeavesGap, last_run}
use Rattle.line_probe.specs.RunTexts.{line_of_run, text_of_runs}
use Rattle.line_probe.specs.declared.fault.RunsFault.{RunsFault}
use Rattle.line_probe.specs.declared.fault.RunsFault.TheVariants as fault
use Rattle.line_probe.specs.declared.run.Run.{Run}
use Rattle.line_probe.proofs.FoundRuns.{line_is_shorter, lines_apart}

-- a line has octets
some_octets : (r : Run) (more : List ℕ) → [] ≢ line_of_run r ++ more
some_octets r more e = absurd (omega (arith, line_is_shorter [] r more e))

-- the run follows the one before
record Follows (before : Option Run) (r : Run) : Type 0 where
  next : BeginsAtEnd before r
  other : HasOtherSymbol before r

-- the line of no run that follows stands in front
abbrev Stuck : Option Run → List ℕ → Type 0
Stuck before octets = (r : Run) (more : List ℕ) → IsToldRun r → Follows before r → octets ≢ line_of_run r ++ more

-- the runs of two texts before what is no further run are the same
same_front : (before : Option Run) (f g : List Run) (x y : List ℕ) → AllByRecursion IsToldRun f → AllByRecursion IsToldRun g → FollowOn before f → FollowOn before g
    → text_of_runs f ++ x ≡ text_of_runs g ++ y → Stuck (last_run before f) x → Stuck (last_run before g) y → f ≡ g
same_front before [] [] x y tf tg of og e sx sy = refl
same_front before [] (s ∷ ss) x y tf tg of og e sx sy =
    absurd (sx s (text_of_runs ss ++ y) tg.0 (record { next = og.0; other = og.1 }) (e ∙ append_assoc (line_of_run s) (text_of_runs ss) y))
same_front before (r ∷ rs) [] x y tf tg of og e sx sy =
    absurd (sy r (text_of_runs rs ++ x) tf.0 (record { next = of.0; other = of.1 }) (sym e ∙ append_assoc (line_of_run r) (text_of_runs rs) x))
same_front before (r ∷ rs) (s ∷ ss) x y tf tg of og e sx sy =
    let a = lines_apart r s (text_of_runs rs ++ x) (text_of_runs ss ++ y) tf.0 tg.0 (sym (append_assoc (line_of_run r) (text_of_runs rs) x) ∙ (e ∙ append_assoc (line_of_run s) (text_of_runs ss) y)) in
    let order = subst (λ (z : Run). FollowOn (Some z) ss) (sym a.0) og.2 in
    let stuck = subst (λ (z : Run). Stuck (last_run (Some z) ss) y) (sym a.0) sy in
    let tails = same_front (Some r) rs ss x y tf.1 tg.1 of.2 order a.1 sx stuck in
    rw (a.0, tails) refl

-- octets as the text of runs and what is no further run
record Split (octets : List ℕ) (front : List Run) (tail : List ℕ) : Type 0 where
  told : AreTold front
  text : octets ≡ text_of_runs front ++ tail
  stuck : Stuck (last_run None front) tail

-- there is one such text
one_split : (octets : List ℕ) (f g : List Run) (x y : List ℕ) → Split octets f x → Split octets g y → (f ≡ g) × (x ≡ y)
one_split octets f g x y s r =
    let e = sym s.text ∙ r.text in
    let fronts = same_front None f g x y s.told.each r.told.each s.told.order r.told.order e s.stuck r.stuck in
    (fronts, append_cancel_left (text_of_runs f) x y (e ∙ ap (λ (h : List Run). text_of_runs h ++ y) (sym fronts)))

split_text : (octets : List ℕ) (runs : List Run) → IsTextOf octets runs → Split octets runs []
split_text octets runs is =
    record { told = is.told; text = is.text ∙ sym (append-nil (text_of_runs runs)); stuck = λ r more told follows e. some_octets r more e }

split_bad : (octets : List ℕ) (n : ℕ) (is : IsBadRunAt n octets) → Split octets is.front is.rest
split_bad octets n is = record { told = is.told; text = is.text; stuck = λ r more told follows. is.bad r more told }

-- a run that follows leaves no gap
no_gap : (before : Option Run) (r : Run) → LeavesGap before r → Follows before r → ⊥
no_gap None r gap follows = gap
no_gap (Some p) r gap follows = gap follows.next

-- nor does it go on
no_same : (before : Option Run) (r : Run) → GoesOnAlike before r → Follows before r → ⊥
no_same None r same follows = same
no_same (Some p) r same follows = follows.other same.1

-- a run leaves a gap or goes on, and not both
gap_or_same : (before : Option Run) (r : Run) → LeavesGap before r → GoesOnAlike before r → ⊥
gap_or_same None r gap same = gap
gap_or_same (Some p) r gap same = gap same.0

split_run : (So : Option Run → Run → Type 0) (octets : List ℕ) (n : ℕ) → ((before : Option Run) (r : Run) → So before r → Follows before r → ⊥)
    → (is : IsRunAt So n octets) → Split octets is.front (line_of_run is.run ++ is.rest)
split_run So octets n never is =
    record {
      told = is.told;
      text = is.text;
      stuck = λ r more told follows e.
          let a = lines_apart is.run r is.rest more is.line told e in
          absurd (never (last_run None is.front) is.run is.so (subst (Follows (last_run None is.front)) (sym a.0) follows));
    }

split_gap : (octets : List ℕ) (n : ℕ) (is : IsGapAt n octets) → Split octets is.front (line_of_run is.run ++ is.rest)
split_gap octets n is = split_run LeavesGap octets n no_gap is

split_same : (octets : List ℕ) (n : ℕ) (is : IsSameAt n octets) → Split octets is.front (line_of_run is.run ++ is.rest)
split_same octets n is = split_run GoesOnAlike octets n no_same is

-- lines after the same runs have the same number
same_number : (f g : List Run) (n m : ℕ) → f ≡ g → n ≡ length f + 1 → m ≡ length g + 1 → n ≡ m
same_number f g n m same left right = left ∙ (ap (λ (h : List Run). length h + 1) same ∙ sym right)

-- the text of runs has no line that is none
text_or_bad : (octets : List ℕ) (f : List Run) (n : ℕ) → IsTextOf octets f → IsBadRunAt n octets → ⊥
text_or_bad octets f n a b = b.more (sym (one_split octets f b.front [] b.rest (split_text octets f a) (split_bad octets n b)).1)

-- nor another fault
text_or_run : (So : Option Run → Run → Type 0) (octets : List ℕ) (f : List Run) (n : ℕ) → ((before : Option Run) (r : Run) → So before r → Follows before r → ⊥)
    → IsTextOf octets f → IsRunAt So n octets → ⊥
text_or_run So octets f n never a b = some_octets b.run b.rest (one_split octets f b.front [] (line_of_run b.run ++ b.rest) (split_text octets f a) (split_run So octets n never b)).1

bad_or_run : (So : Option Run → Run → Type 0) (octets : List ℕ) (m n : ℕ) → ((before : Option Run) (r : Run) → So before r → Follows before r → ⊥)
    → IsBadRunAt m octets → IsRunAt So n octets → ⊥
bad_or_run So octets m n never a b = a.bad b.run b.rest b.line (one_split octets a.front b.front a.rest (line_of_run b.run ++ b.rest) (split_bad octets m a) (split_run So octets n never b)).1

-- the same run stands after the same runs
run_or_run : (octets : List ℕ) (n m : ℕ) → IsGapAt n octets → IsSameAt m octets → ⊥
run_or_run octets n m a b =
    let same = one_split octets a.front b.front (line_of_run a.run ++ a.rest) (line_of_run b.run ++ b.rest) (split_gap octets n a) (split_same octets m b) in
    let runs = lines_apart a.run b.run a.rest b.rest a.line b.line same.1 in
    gap_or_same (last_run None a.front) a.run a.so
    (subst (λ (z : Run). GoesOnAlike (last_run None a.front) z) (sym runs.0) (subst (λ (h : List Run). GoesOnAlike (last_run None h) b.run) (sym same.0) b.so))

one_judgement : (octets : List ℕ) (r s : Result (List Run) RunsFault) → AreJudgedRuns octets r → AreJudgedRuns octets s → r ≡ s
one_judgement octets (Ok f) (Ok g) a b = ap Ok (one_split octets f g [] [] (split_text octets f a) (split_text octets g b)).0
one_judgement octets (Ok f) (Err (fault.BadLine m)) a b = absurd (text_or_bad octets f m a b)
one_judgement octets (Ok f) (Err (fault.Gap m)) a b = absurd (text_or_run LeavesGap octets f m no_gap a b)
one_judgement octets (Ok f) (Err (fault.Same m)) a b = absurd (text_or_run GoesOnAlike octets f m no_same a b)
one_judgement octets (Ok f) (Err fault.OutOfMemory) a b = absurd b
one_judgement octets (Err (fault.BadLine n)) (Ok g) a b = absurd (text_or_bad octets g n b a)
one_judgement octets (Err (fault.BadLine n)) (Err (fault.BadLine m)) a b =
    let same = one_split octets a.front b.front a.rest b.rest (split_bad octets n a) (split_bad octets m b) in
    let number : n ≡ m = same_number a.front b.front n m same.0 a.number b.number in
    rw number refl
one_judgement octets (Err (fault.BadLine n)) (Err (fault.Gap m)) a b = absurd (bad_or_run LeavesGap octets n m no_gap a b)
one_judgement octets (Err (fault.BadLine n)) (Err (fault.Same m)) a b = absurd (bad_or_run GoesOnAlike octets n m no_same a b)
one_judgement octets (Err (fault.BadLine n)) (Err fault.OutOfMemory) a b = absurd b
one_judgement octets (Err (fault.Gap n)) (Ok g) a b = absurd (text_or_run LeavesGap octets g n no_gap b a)
one_judgement octets (Err (fault.Gap n)) (Err (fault.BadLine m)) a b = absurd (bad_or_run LeavesGap octets m n no_gap b a)
one_judgement octets (Err (fault.Gap n)) (Err (fault.Gap m)) a b =
    let same = one_split octets a.front b.front (line_of_run a.run ++ a.rest) (line_of_run b.run ++ b.rest) (split_gap octets n a) (split_gap octets m b) in
    let number : n ≡ m = same_number a.front b.front n m same.0 a.number b.number in
    rw number refl
one_judgement octets (Err (fault.Gap n)) (Err (fault.Same m)) a b = absurd (run_or_run octets n m a b)
one_judgement octets (Err (fault.Gap n)) (Err fault.OutOfMemory) a b = absurd b
one_judgement octets (Err (fault.Same n)) (Ok g) a b = absurd (text_or_run GoesOnAlike octets g n no_same b a)
one_judgement octets (Err (fault.Same n)) (Err (fault.BadLine m)) a b = absurd (bad_or_run GoesOnAlike octets m n no_same b a)
one_judgement octets (Err (fault.Same n)) (Err (fault.Gap m)) a b = absurd (run_or_run octets m n b a)
one_judgement octets (Err (fault.Same n)) (Err (fault.Same m)) a b =
    let same = one_split octets a.front b.front (line_of_run a.run ++ a.rest) (line_of_run b.run ++ b.rest) (split_same octets n a) (split_same octets m b) in
    let number : n ≡ m = same_number a.front b.front n m same.0 a.number b.number in
    rw number refl
one_judgement octets (Err (fault.Same n)) (Err fault.OutOfMemory) a b = absurd b
one_judgement octets (Err fault.OutOfMemory) s a b = absurd a

pub told_snoc : (rs : List Run) (r : Run) → AllByRecursion IsToldRun rs → IsToldRun r → AllByRecursion IsToldRun (rs ++ r ∷ [])
told_snoc [] r all one = (one, tt)
told_snoc (s ∷ ss) r all one = (all.0, told_snoc ss r all.1 one)

-- the last of runs that lines may tell is one
pub last_is_told : (before : Option Run) (rs : List Run) → IfSome before IsToldRun → AllByRecursion IsToldRun rs → IfSome (last_run before rs) IsToldRun
last_is_told before [] h all = h
last_is_told before (s ∷ ss) h all = last_is_told (Some s) ss all.0 all.1

pub order_snoc : (before : Option Run) (rs : List Run) (r : Run) → FollowOn before rs → BeginsAtEnd (last_run before rs) r → HasOtherSymbol (last_run before rs) r → FollowOn before (rs ++ r ∷ [])
order_snoc before [] r order next other = (next, other, tt)
order_snoc before (s ∷ ss) r order next other = (order.0, order.1, order_snoc (Some s) ss r order.2 next other)

pub last_snoc : (before : Option Run) (rs : List Run) (r : Run) → last_run before (rs ++ r ∷ []) ≡ Some r
last_snoc before [] r = refl
last_snoc before (s ∷ ss) r = last_snoc (Some s) ss r

pub text_snoc : (rs : List Run) (r : Run) (rest : List ℕ) → text_of_runs (rs ++ r ∷ []) ++ rest ≡ text_of_runs rs ++ (line_of_run r ++ rest)
text_snoc rs r rest =
    ap (λ (xs : List ℕ). xs ++ rest) (flat_map-append line_of_run rs (r ∷ []) ∙ ap (λ (xs : List ℕ). text_of_runs rs ++ xs) (append-nil (line_of_run r)))
    ∙ append_assoc (text_of_runs rs) (line_of_run r) rest

-- an answer other than want of memory is the only one
pub only_judgement : (octets : List ℕ) (r : Result (List Run) RunsFault) → (r ≡ Err fault.OutOfMemory) ⊎ AreJudgedRuns octets r
    → (judged : Result (List Run) RunsFault) → AreJudgedRuns octets judged → AreUnlessMemory r judged
only_judgement octets r (inl memory) judged h = inr memory
only_judgement octets r (inr is) judged h = inl (one_judgement octets r judged is h)
