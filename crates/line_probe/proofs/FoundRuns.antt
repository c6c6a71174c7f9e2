-- The line of a run that was read is the text of what it was read as, and the line of a run is read back.
use Rattle.std.proofs.Common.{◌≡◌, ℕ, ◌<◌, List, [], ◌++◌, length, refl, sym, ap, subst, ◌∙◌, arith, Some, None, Bor, append_assoc, length-append}
use Rattle.std.specs.Fmt.{decimal}
use Rattle.std.specs.Prelude.{Option, IfNone, IfSome, codes, nat_le}
use Rattle.std.proofs.lemmas.Bool.{le-leb, leb-true}
use Rattle.std.proofs.lemmas.Option.{same_Some, cond_some, none-some}
use Rattle.mac_parameters.specs.Parameters.{most_half_bits}
use Rattle.manchester_line.specs.declared.Sym.{Sym}
use Rattle.manchester_line.specs.declared.Sym.TheVariants.{Idle, Hi, Lo, Clash}
use Rattle.line_probe.specs.ReadBack.{HasNoRunLine, IsToldRun}
use Rattle.text_fields.specs.Reading.{IsReading, Read, after_word, else_read, half_bit_at}
use Rattle.line_probe.specs.Reading.{run_at, symbol_at, symbol_found}
use Rattle.line_probe.specs.RunTexts.{line_of_run, word_of_symbol}
use Rattle.line_probe.specs.declared.run.Run.{Run}
use Rattle.text_fields.proofs.FoundFields.{bind_some, half_bit_again, half_bit_text, word_text}

-- the line of a run before more octets
abbrev pub run_onto : Run → List ℕ → List ℕ
run_onto r more = decimal r.start ++ (codes " " ++ (decimal r.count ++ (codes " " ++ (word_of_symbol r.symbol ++ (codes "\n" ++ more)))))

pub run_onto_is : (r : Run) (more : List ℕ) → line_of_run r ++ more ≡ run_onto r more
run_onto_is r more =
    let start = decimal r.start in
    let count = decimal r.count in
    let word = word_of_symbol r.symbol in
    append_assoc ((((start ++ codes " ") ++ count) ++ codes " ") ++ word) (codes "\n") more
    ∙ append_assoc (((start ++ codes " ") ++ count) ++ codes " ") word (codes "\n" ++ more)
    ∙ append_assoc ((start ++ codes " ") ++ count) (codes " ") (word ++ (codes "\n" ++ more))
    ∙ append_assoc (start ++ codes " ") count (codes " " ++ (word ++ (codes "\n" ++ more)))
    ∙ append_assoc start (codes " ") (count ++ (codes " " ++ (word ++ (codes "\n" ++ more))))

-- a symbol that was found by this word
by_word : (symbol : Sym) (octets : List ℕ) (a : Option (List ℕ)) (found : Sym) (rest : List ℕ)
    → after_word (codes " " ++ word_of_symbol symbol) octets ≡ a → symbol_found symbol a ≡ Some (found, rest) → octets ≡ codes " " ++ (word_of_symbol found ++ rest)
by_word symbol octets None found rest e h = cc h
by_word symbol octets (Some tail) found rest e h =
    let same = same_Some _ _ h in
    let text = word_text (codes " " ++ word_of_symbol symbol) octets tail e ∙ append_assoc (codes " ") (word_of_symbol symbol) tail in
    rw (← ap (λ (p : Sym × List ℕ). p.0) same, ← ap (λ (p : Sym × List ℕ). p.1) same) text

-- what one of two readings found
one_of : (a b : Read Sym) (y : Sym × List ℕ) (P : Type 0) → else_read a b ≡ Some y → (a ≡ Some y → P) → (b ≡ Some y → P) → P
one_of (Some x) b y P h first second = first h
one_of None b y P h first second = second h

symbol_text : (octets : List ℕ) (symbol : Sym) (rest : List ℕ) → symbol_at octets ≡ Some (symbol, rest) → octets ≡ codes " " ++ (word_of_symbol symbol ++ rest)
unfolding symbol_at
symbol_text octets symbol rest h =
    one_of _ _ (symbol, rest) _ h (by_word Idle octets _ symbol rest refl)
    (λ h2. one_of _ _ (symbol, rest) _ h2 (by_word Hi octets _ symbol rest refl)
    (λ h3. one_of _ _ (symbol, rest) _ h3 (by_word Lo octets _ symbol rest refl) (by_word Clash octets _ symbol rest refl)))

symbol_again : (symbol : Sym) (rest : List ℕ) → symbol_at (codes " " ++ (word_of_symbol symbol ++ rest)) ≡ Some (symbol, rest)
unfolding symbol_at
symbol_again Idle rest = refl
symbol_again Hi rest = refl
symbol_again Lo rest = refl
symbol_again Clash rest = refl

-- the line of a run, before the rest
pub record IsRunBefore (octets : List ℕ) (r : Run) (rest : List ℕ) : Type 0 where
  pub told : IsToldRun r
  pub text : octets ≡ line_of_run r ++ rest

pub run_found : (octets : List ℕ) (y : Run × List ℕ) → run_at octets ≡ Some y → IsRunBefore octets y.0 y.1
unfolding run_at
run_found octets y h =
    let start = bind_some (half_bit_at most_half_bits [] octets) _ y h in
    let count = bind_some (half_bit_at most_half_bits (codes " ") start.0.1) _ y start.2 in
    let symbol = bind_some (symbol_at count.0.1) _ y count.2 in
    let feed = bind_some (after_word (codes "\n") symbol.0.1) _ y symbol.2 in
    let r : Run = record { start = start.0.0; count = count.0.0; symbol = symbol.0.0 } in
    let test = cond_some (nat_le 1 count.0.0) (r, feed.0) y feed.2 in
    let a = half_bit_text most_half_bits [] octets start.0.0 start.0.1 start.1 in
    let b = half_bit_text most_half_bits (codes " ") start.0.1 count.0.0 count.0.1 count.1 in
    let c = symbol_text count.0.1 symbol.0.0 symbol.0.1 symbol.1 in
    let d = word_text (codes "\n") symbol.0.1 feed.0 feed.1 in
    let text : octets ≡ run_onto r feed.0 = rw (← d, ← c, ← b.0) a.0 in
    let before : IsRunBefore octets r feed.0 =
    record {
      told = record { start = a.1; some = leb-true 1 count.0.0 test.0; count = b.1 };
      text = text ∙ sym (run_onto_is r feed.0);
    } in
    subst (λ (p : Run × List ℕ). IsRunBefore octets p.0 p.1) test.1 before

onto_again : (r : Run) (more : List ℕ) → IsToldRun r → run_at (run_onto r more) ≡ Some (r, more)
unfolding run_at
onto_again r more h =
    let rest2 = codes " " ++ (word_of_symbol r.symbol ++ (codes "\n" ++ more)) in
    let rest1 = codes " " ++ (decimal r.count ++ rest2) in
    rw (
      half_bit_again most_half_bits [] r.start rest1 h.start (omega (arith, h.start)) refl,
      half_bit_again most_half_bits (codes " ") r.count rest2 h.count (omega (arith, h.count)) refl,
      symbol_again r.symbol (codes "\n" ++ more),
      le-leb 1 r.count h.some,
    ) refl

pub run_again : (r : Run) (more : List ℕ) → IsToldRun r → run_at (line_of_run r ++ more) ≡ Some (r, more)
run_again r more h = ap run_at (run_onto_is r more) ∙ onto_again r more h

-- the octets after the line of a run are fewer
pub line_is_shorter : (octets : List ℕ) (r : Run) (rest : List ℕ) → octets ≡ line_of_run r ++ rest → length rest < length octets
line_is_shorter octets r rest e =
    let front = (((decimal r.start ++ codes " ") ++ decimal r.count) ++ codes " ") ++ word_of_symbol r.symbol in
    omega (arith, ap length e, length-append (line_of_run r) rest, length-append front (codes "\n"))

pub no_run_read : (octets : List ℕ) → run_at octets ≡ None → HasNoRunLine octets
no_run_read octets none r more told e = none-some (r, more) (sym none ∙ (ap run_at e ∙ run_again r more told))

-- no line begins another
pub lines_apart : (r s : Run) (x y : List ℕ) → IsToldRun r → IsToldRun s → line_of_run r ++ x ≡ line_of_run s ++ y → (r ≡ s) × (x ≡ y)
lines_apart r s x y tr ts e =
    let same = same_Some _ _ (sym (run_again r x tr) ∙ (ap run_at e ∙ run_again s y ts)) in
    (ap (λ (p : Run × List ℕ). p.0) same, ap (λ (p : Run × List ℕ). p.1) same)

-- what the reader of a line answers
pub answer_told : (octets : List ℕ) (r : Option (Run × Bor (List ℕ))) → IsReading (λ x. (x.0, x.1.now)) r (run_at octets) → IfSome r (λ x. IsToldRun x.0)
answer_told octets None h = tt
answer_told octets (Some x) h = (run_found octets (x.0, x.1.now) h).told

pub answer_text : (octets : List ℕ) (r : Option (Run × Bor (List ℕ))) → IsReading (λ x. (x.0, x.1.now)) r (run_at octets) → IfSome r (λ x. octets ≡ line_of_run x.0 ++ x.1.now)
answer_text octets None h = tt
answer_text octets (Some x) h = (run_found octets (x.0, x.1.now) h).text

pub answer_shorter : (octets : List ℕ) (r : Option (Run × Bor (List ℕ))) → IsReading (λ x. (x.0, x.1.now)) r (run_at octets) → IfSome r (λ x. length x.1.now < length octets)
answer_shorter octets None h = tt
answer_shorter octets (Some x) h = line_is_shorter octets x.0 x.1.now (run_found octets (x.0, x.1.now) h).text

pub answer_none : (octets : List ℕ) (r : Option (Run × Bor (List ℕ))) → IsReading (λ x. (x.0, x.1.now)) r (run_at octets) → IfNone r (HasNoRunLine octets)
answer_none octets None h = no_run_read octets h
answer_none octets (Some x) h = tt
