-- A record that is put together from two pieces.
use Rattle.std.proofs.Common.{◌≡◌, ℕ, ◌+◌, ◌≤◌, true, List, [], ◌∷◌, ◌++◌, append_assoc, length, length-append, take, drop, inl, inr, subst, sym, ap, ap₂, ◌∙◌, arith, length-take}
use Rattle.std.specs.Prelude.{◌-◌, ◌<◌, min, nat_lt}
use Rattle.std.proofs.lemmas.Bool.{cases_Bool, cases_lt}
use Rattle.std.proofs.lemmas.Bool.Decides.{nat_tests}
use Rattle.std.proofs.lemmas.List.{append-nil, drop_all, take_all, take-append-drop, take-take, take_at}
use Rattle.capture_file.specs.declared.entries.Record.{Record}
use Rattle.capture_file.specs.declared.form.Form.{Form}
use Rattle.capture_file.specs.declared.reading.Stage.TheVariants.{Entries}
use Rattle.capture_file.specs.Captures.{captured_length, is_whole, record_at, records_in, rest_in}
use Rattle.capture_file.specs.Reading.{octets_lacking, read_on, walked}
use Rattle.capture_file.proofs.Walk.{captured-append, records_step, rest_step}
use Rattle.capture_file.proofs.Stream.{joined}

-- these octets are one whole record
one_record : (form : Form) (octets : List ℕ) → is_whole form octets ≡ true → length octets ≤ 16 + captured_length form octets → records_in form 0 octets ≡ record_at form octets ∷ []
one_record form octets h fits =
    records_step form octets h ∙ ap (λ xs. record_at form octets ∷ records_in form 0 xs) (drop_all (16 + captured_length form octets) octets fits)

none_left : (form : Form) (octets : List ℕ) → is_whole form octets ≡ true → length octets ≤ 16 + captured_length form octets → rest_in form 0 octets ≡ []
none_left form octets h fits =
    rest_step form octets h ∙ ap (λ xs. rest_in form 0 xs) (drop_all (16 + captured_length form octets) octets fits)

walked_one : (form : Form) (rs : List Record) (octets piece : List ℕ) → is_whole form octets ≡ true → length octets ≤ 16 + captured_length form octets → walked form (rs ++ record_at form octets ∷ []) piece ≡ walked form rs (octets ++ piece)
walked_one form rs octets piece h fits =
    sym (joined form rs octets piece ∙ ap₂ (λ more rest. walked form (rs ++ more) (rest ++ piece)) (one_record form octets h fits) (none_left form octets h fits))

-- what comes behind one whole record is read on behind it
pub joined_is : (form : Form) (rs : List Record) (octets piece : List ℕ) → is_whole form octets ≡ true → length octets ≤ 16 + captured_length form octets → read_on (Entries form) (rs ++ record_at form octets ∷ []) piece ≡ read_on (Entries form) rs (octets ++ piece)
unfolding read_on
joined_is form rs octets piece h fits = walked_one form rs octets piece h fits

-- a front of a front
pub front_of_front : {A : Type 0} (a b c : List A) → take (length a) b ≡ a → take (length b) c ≡ b → take (length a) c ≡ a
front_of_front {A} a b c f g =
    let short : length a ≤ length b = omega (arith, ap (length {A = A}) f, length-take (length a) b) in
    sym (take-take (length a) (length b) c short) ∙ ap (take (length a)) g ∙ f

-- how long a record is whose header may stand in the rest and in the piece in part
record FrontOf (rest piece : List ℕ) (front : List ℕ) : Type 0 where
  pub behind : List ℕ
  pub whole : 16 ≤ length front
  pub same : front ++ behind ≡ rest ++ piece

said_in_front : (form : Form) (rest piece front : List ℕ) → FrontOf rest piece front → captured_length form front ≡ captured_length form (rest ++ piece)
said_in_front form rest piece front f = sym (captured-append form front f.behind f.whole) ∙ ap (captured_length form) f.same

front_of_both : (rest piece : List ℕ) (lent : ℕ) → length rest ≤ 16 → lent ≡ min (length piece) (16 - length rest) → 16 ≤ length rest + length piece → FrontOf rest piece (rest ++ take lent piece)
front_of_both rest piece lent few e h = record {
  behind = drop lent piece;
  whole = omega (arith, few, e, h, length-append rest (take lent piece), length-take lent piece);
  same = append_assoc rest (take lent piece) (drop lent piece) ∙ ap (λ xs. rest ++ xs) (take-append-drop lent piece);
}

front_of_rest : (rest piece : List ℕ) → 16 ≤ length rest → FrontOf rest piece (take 16 rest ++ [])
front_of_rest rest piece h = record {
  behind = drop 16 rest ++ piece;
  whole = omega (arith, h, length-append (take 16 rest) [], length-take 16 rest);
  same =
      ap (λ xs. xs ++ (drop 16 rest ++ piece)) (append-nil (take 16 rest))
      ∙ sym (append_assoc (take 16 rest) (drop 16 rest) piece)
      ∙ ap (λ xs. xs ++ piece) (take-append-drop 16 rest);
}

front_is : (rest piece : List ℕ) (kept lent : ℕ) → kept ≡ min (length rest) 16 → lent ≡ min (length piece) (16 - kept) → 16 ≤ length rest + length piece → FrontOf rest piece (take kept rest ++ take lent piece)
front_is rest piece kept lent e f h =
    elim (cases_lt (length rest) 16) [
      | inl less ↦
          let all : kept ≡ length rest = omega (arith, e, less) in
          subst (λ (xs : List ℕ). FrontOf rest piece (xs ++ take lent piece)) (sym (take_all kept rest (omega (arith, all))))
          (front_of_both rest piece lent (omega (arith, less)) (omega (arith, all, f)) h)
      | inr more ↦
          let front : kept ≡ 16 = omega (arith, e, more) in
          let none : lent ≡ 0 = omega (arith, front, f) in
          rw (front, none) (front_of_rest rest piece more)
    ]

-- so it is where the octets of both stand in a place of 16, with others behind them
pub said_in_place : (form : Form) (rest piece : List ℕ) (kept lent : ℕ) (a b more others : List ℕ) → kept ≡ min (length rest) 16 → lent ≡ min (length piece) (16 - kept) → a ≡ take kept rest → b ≡ take lent piece → 16 ≤ length rest + length piece → captured_length form (take kept (a ++ more) ++ (b ++ others)) ≡ captured_length form (rest ++ piece)
said_in_place form rest piece kept lent a b more others e f is_a is_b h =
    let size : length a ≡ kept = ap (length {A = ℕ}) is_a ∙ omega (arith, e, length-take kept rest) in
    let front = front_is rest piece kept lent e f h in
    ap (λ xs. captured_length form (xs ++ (b ++ others))) (take_at a more kept size)
    ∙ ap (captured_length form) (sym (append_assoc a b others))
    ∙ ap₂ (λ xs ys. captured_length form ((xs ++ ys) ++ others)) is_a is_b
    ∙ captured-append form (take kept rest ++ take lent piece) others front.whole
    ∙ said_in_front form rest piece (take kept rest ++ take lent piece) front

count_short : (a b x : ℕ) → a + b < 16 → min (min (16 + x) 18446744073709551615 - a) b ≡ b
count_short a b x h = omega (arith, h)

count_long : (a b x : ℕ) → a + b ≤ 67108864 → min (min (16 + x) 18446744073709551615 - a) b ≡ min (16 + x - a) b
count_long a b x h = omega (arith, h)

-- how many octets are lacking, where a number says how long the record is once its header is whole
pub lacking_is : (form : Form) (rest piece : List ℕ) (x : ℕ) → length rest + length piece ≤ 67108864 → (16 ≤ length rest + length piece → x ≡ captured_length form (rest ++ piece)) → min (min (16 + x) 18446744073709551615 - length rest) (length piece) ≡ octets_lacking (Entries form) rest piece
lacking_is form rest piece x h says =
    elim (cases_Bool (nat_lt (length rest + length piece) 16)) [
      | inl s ↦
          let short : length rest + length piece < 16 = grind (arith, nat_tests) in
          rw s (count_short (length rest) (length piece) x short)
      | inr s ↦
          let enough : 16 ≤ length rest + length piece = grind (arith, nat_tests) in
          rw s (count_long (length rest) (length piece) x h ∙ ap (λ y. min (16 + y - length rest) (length piece)) (says enough))
    ]
