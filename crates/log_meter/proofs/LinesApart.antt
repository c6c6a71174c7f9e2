-- No line of the grammar begins another, so octets are read as one log at most, and have one first fault.
use Rattle.std.proofs.Common.{◌≡◌, ℕ, ◌+◌, ◌<◌, ◌≤◌, List, [], ◌∷◌, ◌++◌, length, drop, refl, sym, ap, subst, ◌∙◌, arith, inl, inr, Some, None, Ok, Err, append_assoc, length-append}
use Rattle.std.specs.Prelude.{Result, ◌≢◌, ◌⊎◌, codes}
use Rattle.std.specs.List.{AllByRecursion}
use Rattle.std.proofs.lemmas.Grind.{flat_map-append}
use Rattle.std.proofs.lemmas.List.{append-nil, append_cancel_left}
use Rattle.std.proofs.lemmas.Option.{none-some, same_Some}
use Rattle.log_meter.specs.Lines.{IsLogLine, entry_text}
use Rattle.log_meter.specs.Logs.{HasNoLine, IsBadAt, IsFallingAt, IsJudgedLog, IsLog, IsLogOf, IsUnlessMemory, NeverFalls, last_half_bit, log_text}
use Rattle.text_fields.specs.Reading.{after_word}
use Rattle.log_meter.specs.Reading.{log_line_at}
use Rattle.log_meter.specs.declared.fault.LogFault.{LogFault}
use Rattle.log_meter.specs.declared.fault.LogFault.TheVariants as fault
use Rattle.log_meter.specs.declared.line.LogLine.{LogLine}
use Rattle.text_fields.proofs.FoundFields.{word_text}
use Rattle.log_meter.proofs.WholeLines.{bare_line, line_again, line_found}

-- a line and its line feed, before more octets
feed_onto : (l : LogLine) (more : List ℕ) → entry_text l ++ more ≡ bare_line l ++ 10 ∷ more
feed_onto l more = append_assoc (bare_line l) (codes "\n") more

-- a line in front is read
pub front_is_read : (octets : List ℕ) (l : LogLine) (more : List ℕ) → IsLogLine l → octets ≡ entry_text l ++ more → log_line_at octets ≡ Some (l, 10 ∷ more)
front_is_read octets l more grammar e = ap log_line_at (e ∙ feed_onto l more) ∙ line_again l (10 ∷ more) grammar refl

-- a line that was read with its line feed
pub record IsFed (octets : List ℕ) (l : LogLine) (rest : List ℕ) : Type 0 where
  pub grammar : IsLogLine l
  pub text : octets ≡ entry_text l ++ rest
  pub shorter : length rest < length octets

pub feed_found : (octets : List ℕ) (l : LogLine) (after rest : List ℕ) → log_line_at octets ≡ Some (l, after) → after_word (codes "\n") after ≡ Some rest → IsFed octets l rest
feed_found octets l after rest found feed =
    let b = line_found octets (l, after) found in
    let whole = b.text ∙ ap (λ ys. bare_line l ++ ys) (word_text (codes "\n") after rest feed) in
    record {
      grammar = b.grammar;
      text = whole ∙ sym (feed_onto l rest);
      shorter = omega (arith, ap length whole, length-append (bare_line l) (10 ∷ rest));
    }

pub no_line_read : (octets : List ℕ) → log_line_at octets ≡ None → HasNoLine octets
no_line_read octets none l more grammar e = none-some (l, 10 ∷ more) (sym none ∙ front_is_read octets l more grammar e)

pub no_feed_read : (octets : List ℕ) (m : LogLine) (after : List ℕ) → log_line_at octets ≡ Some (m, after) → after_word (codes "\n") after ≡ None → HasNoLine octets
no_feed_read octets m after found none l more grammar e =
    let same = same_Some _ _ (sym found ∙ front_is_read octets l more grammar e) in
    let rest : after ≡ 10 ∷ more = ap (λ (p : LogLine × List ℕ). p.1) same in
    none-some more (sym none ∙ ap (after_word (codes "\n")) rest)

-- no line begins another
pub apart : (l m : LogLine) (x y : List ℕ) → IsLogLine l → IsLogLine m → entry_text l ++ x ≡ entry_text m ++ y → (l ≡ m) × (x ≡ y)
apart l m x y gl gm e =
    let same = same_Some _ _ (sym (front_is_read (entry_text l ++ x) l x gl refl) ∙ front_is_read (entry_text l ++ x) m y gm e) in
    (ap (λ (p : LogLine × List ℕ). p.0) same, ap (λ (p : LogLine × List ℕ). drop 1 p.1) same)

-- a line has octets
pub some_octets : (l : LogLine) (more : List ℕ) → [] ≢ entry_text l ++ more
some_octets l more e = absurd (omega (arith, ap length (e ∙ feed_onto l more), length-append (bare_line l) (10 ∷ more)))

-- no line of half bit t or later stands in front
abbrev Stuck : ℕ → List ℕ → Type 0
Stuck t octets = (l : LogLine) (more : List ℕ) → IsLogLine l → t ≤ l.t → octets ≢ entry_text l ++ more

-- the lines of two logs before what is no further line are the same
same_front : (t : ℕ) (f g : List LogLine) (x y : List ℕ) → AllByRecursion IsLogLine f → AllByRecursion IsLogLine g → NeverFalls t f → NeverFalls t g
    → log_text f ++ x ≡ log_text g ++ y → Stuck (last_half_bit t f) x → Stuck (last_half_bit t g) y → f ≡ g
same_front t [] [] x y gf gg of og e sx sy = refl
same_front t [] (m ∷ ms) x y gf gg of og e sx sy = absurd (sx m (log_text ms ++ y) gg.0 og.0 (e ∙ append_assoc (entry_text m) (log_text ms) y))
same_front t (l ∷ ls) [] x y gf gg of og e sx sy = absurd (sy l (log_text ls ++ x) gf.0 of.0 (sym e ∙ append_assoc (entry_text l) (log_text ls) x))
same_front t (l ∷ ls) (m ∷ ms) x y gf gg of og e sx sy =
    let a = apart l m (log_text ls ++ x) (log_text ms ++ y) gf.0 gg.0 (sym (append_assoc (entry_text l) (log_text ls) x) ∙ (e ∙ append_assoc (entry_text m) (log_text ms) y)) in
    let order = subst (λ (z : LogLine). NeverFalls z.t ms) (sym a.0) og.1 in
    let stuck = subst (λ (z : LogLine). Stuck (last_half_bit z.t ms) y) (sym a.0) sy in
    let tails = same_front l.t ls ms x y gf.1 gg.1 of.1 order a.1 sx stuck in
    rw (a.0, tails) refl

-- octets as a log and what is no further line
record Split (octets : List ℕ) (front : List LogLine) (tail : List ℕ) : Type 0 where
  log : IsLog front
  text : octets ≡ log_text front ++ tail
  stuck : Stuck (last_half_bit 0 front) tail

-- there is one such log
one_split : (octets : List ℕ) (f g : List LogLine) (x y : List ℕ) → Split octets f x → Split octets g y → (f ≡ g) × (x ≡ y)
one_split octets f g x y s r =
    let e = sym s.text ∙ r.text in
    let fronts = same_front 0 f g x y s.log.grammar r.log.grammar s.log.order r.log.order e s.stuck r.stuck in
    (fronts, append_cancel_left (log_text f) x y (e ∙ ap (λ (h : List LogLine). log_text h ++ y) (sym fronts)))

split_log : (octets : List ℕ) (lines : List LogLine) → IsLogOf octets lines → Split octets lines []
split_log octets lines is =
    record { log = is.log; text = is.text ∙ sym (append-nil (log_text lines)); stuck = λ l more g le e. some_octets l more e }

split_bad : (octets : List ℕ) (n : ℕ) (is : IsBadAt n octets) → Split octets is.front is.rest
split_bad octets n is = record { log = is.log; text = is.text; stuck = λ l more g le. is.bad l more g }

split_falling : (octets : List ℕ) (n : ℕ) (is : IsFallingAt n octets) → Split octets is.front (entry_text is.line ++ is.rest)
split_falling octets n is =
    record {
      log = is.log;
      text = is.text;
      stuck = λ l more g le e.
          let a = apart is.line l is.rest more is.grammar g e in
          let t : is.line.t ≡ l.t = ap (λ (z : LogLine). z.t) a.0 in
          absurd (omega (arith, is.falls));
    }

pub one_judgement : (octets : List ℕ) (r s : Result (List LogLine) LogFault) → IsJudgedLog octets r → IsJudgedLog octets s → r ≡ s
one_judgement octets (Ok f) (Ok g) a b = ap Ok (one_split octets f g [] [] (split_log octets f a) (split_log octets g b)).0
one_judgement octets (Ok f) (Err (fault.BadLine n)) a b =
    absurd (b.more (sym (one_split octets f b.front [] b.rest (split_log octets f a) (split_bad octets n b)).1))
one_judgement octets (Ok f) (Err (fault.Order n)) a b =
    absurd (some_octets b.line b.rest (one_split octets f b.front [] (entry_text b.line ++ b.rest) (split_log octets f a) (split_falling octets n b)).1)
one_judgement octets (Err (fault.BadLine n)) (Ok g) a b =
    absurd (a.more (one_split octets a.front g a.rest [] (split_bad octets n a) (split_log octets g b)).1)
one_judgement octets (Err (fault.BadLine n)) (Err (fault.BadLine m)) a b =
    let same = one_split octets a.front b.front a.rest b.rest (split_bad octets n a) (split_bad octets m b) in
    let number : n ≡ m = a.number ∙ (ap (λ (f : List LogLine). length f + 1) same.0 ∙ sym b.number) in
    rw number refl
one_judgement octets (Err (fault.BadLine n)) (Err (fault.Order m)) a b =
    absurd (a.bad b.line b.rest b.grammar (one_split octets a.front b.front a.rest (entry_text b.line ++ b.rest) (split_bad octets n a) (split_falling octets m b)).1)
one_judgement octets (Err (fault.Order n)) (Ok g) a b =
    absurd (some_octets a.line a.rest (sym (one_split octets a.front g (entry_text a.line ++ a.rest) [] (split_falling octets n a) (split_log octets g b)).1))
one_judgement octets (Err (fault.Order n)) (Err (fault.BadLine m)) a b =
    absurd (b.bad a.line a.rest a.grammar (sym (one_split octets a.front b.front (entry_text a.line ++ a.rest) b.rest (split_falling octets n a) (split_bad octets m b)).1))
one_judgement octets (Err (fault.Order n)) (Err (fault.Order m)) a b =
    let same = one_split octets a.front b.front (entry_text a.line ++ a.rest) (entry_text b.line ++ b.rest) (split_falling octets n a) (split_falling octets m b) in
    let number : n ≡ m = a.number ∙ (ap (λ (f : List LogLine). length f + 1) same.0 ∙ sym b.number) in
    rw number refl
one_judgement octets (Err fault.TooLarge) s a b = absurd a
one_judgement octets (Err fault.OutOfMemory) s a b = absurd a
one_judgement octets (Ok f) (Err fault.TooLarge) a b = absurd b
one_judgement octets (Ok f) (Err fault.OutOfMemory) a b = absurd b
one_judgement octets (Err (fault.BadLine n)) (Err fault.TooLarge) a b = absurd b
one_judgement octets (Err (fault.BadLine n)) (Err fault.OutOfMemory) a b = absurd b
one_judgement octets (Err (fault.Order n)) (Err fault.TooLarge) a b = absurd b
one_judgement octets (Err (fault.Order n)) (Err fault.OutOfMemory) a b = absurd b

pub grammar_snoc : (ls : List LogLine) (l : LogLine) → AllByRecursion IsLogLine ls → IsLogLine l → AllByRecursion IsLogLine (ls ++ l ∷ [])
grammar_snoc [] l all one = (one, tt)
grammar_snoc (m ∷ ms) l all one = (all.0, grammar_snoc ms l all.1 one)

pub order_snoc : (t : ℕ) (ls : List LogLine) (l : LogLine) → NeverFalls t ls → last_half_bit t ls ≤ l.t → NeverFalls t (ls ++ l ∷ [])
order_snoc t [] l order le = (le, tt)
order_snoc t (m ∷ ms) l order le = (order.0, order_snoc m.t ms l order.1 le)

pub last_snoc : (t : ℕ) (ls : List LogLine) (l : LogLine) → last_half_bit t (ls ++ l ∷ []) ≡ l.t
last_snoc t [] l = refl
last_snoc t (m ∷ ms) l = last_snoc m.t ms l

pub text_snoc : (ls : List LogLine) (l : LogLine) (rest : List ℕ) → log_text (ls ++ l ∷ []) ++ rest ≡ log_text ls ++ (entry_text l ++ rest)
text_snoc ls l rest =
    ap (λ (xs : List ℕ). xs ++ rest) (flat_map-append entry_text ls (l ∷ []) ∙ ap (λ (xs : List ℕ). log_text ls ++ xs) (append-nil (entry_text l)))
    ∙ append_assoc (log_text ls) (entry_text l) rest

-- an answer other than want of memory is the only one
pub only_judgement : (octets : List ℕ) (r : Result (List LogLine) LogFault) → (r ≡ Err fault.OutOfMemory) ⊎ IsJudgedLog octets r
    → (judged : Result (List LogLine) LogFault) → IsJudgedLog octets judged → IsUnlessMemory r judged
only_judgement octets r (inl memory) judged h = inr memory
only_judgement octets r (inr is) judged h = inl (one_judgement octets r judged is h)
