-- What is written is read back.
use Rattle.std.proofs.Common.{◌≡◌, ℕ, ◌+◌, ◌*◌, ◌/◌, ◌%◌, ◌^◌, ◌<◌, ◌≤◌, true, false, List, [], ◌∷◌, ◌++◌, length, take, drop, refl, sym, subst, ap, ap₂, ◌∙◌, arith, append_assoc, length-append, None, Result, Ok, Err}
use Rattle.std.specs.Prelude.{nat_lt, OnOk}
use Rattle.std.specs.List.{flat_map, AllByRecursion}
use Rattle.std.proofs.lemmas.Bool.Decides.{nat_tests}
use Rattle.std.proofs.lemmas.List.{append-nil, drop_at, flat_map_more, take_at}
use Rattle.byteorder.specs.Endian.{little_bytes}
use Rattle.byteorder.specs.Numbers.{little_number-reads_back}
use Rattle.capture_file.specs.declared.entries.Record.{Record}
use Rattle.capture_file.specs.declared.form.Form.{Form}
use Rattle.capture_file.specs.declared.form.Order.TheVariants.{Little}
use Rattle.capture_file.specs.declared.form.Fraction.TheVariants.{Nanoseconds}
use Rattle.capture_file.specs.Captures.{capture_fault, captured_length, fault_after, field, form_by, header, is_too_large, is_whole, number, record_at, records, records_after, records_in, rest_fault, rest_in}
use Rattle.capture_file.specs.Writing.{IsWritable, capture_text, header_text, record_header, record_text, text_of, whole_record}
use Rattle.capture_file.proofs.Walk.{header-append, is_whole-parts, records_step, rest_step}

-- the form that is written
abbrev written : Form
written = record { order = Little; fraction = Nanoseconds }

length-header_text : length header_text ≡ 24
unfolding header_text
length-header_text = refl

header-header_text : header header_text ≡ Ok written
unfolding header header_text form_by number
header-header_text = refl

-- the fields of a record's text
length-record_header : (nanos size : ℕ) → length (record_header nanos size) ≡ 16
unfolding record_header
length-record_header nanos size = refl

seconds_read : (nanos size : ℕ) (more : List ℕ) → field Little 4 0 (record_header nanos size ++ more) ≡ nanos / 1000000000 % 2 ^ 32
unfolding record_header number
seconds_read nanos size more = little_number-reads_back 4 (nanos / 1000000000 % 2 ^ 32) (little_bytes 4 (nanos % 1000000000) ++ little_bytes 4 size ++ little_bytes 4 size ++ more) (omega arith)

fraction_read : (nanos size : ℕ) (more : List ℕ) → field Little 4 4 (record_header nanos size ++ more) ≡ nanos % 1000000000
unfolding record_header number
fraction_read nanos size more = little_number-reads_back 4 (nanos % 1000000000) (little_bytes 4 size ++ little_bytes 4 size ++ more) (omega arith)

captured_read : (nanos size : ℕ) (more : List ℕ) → size < 2 ^ 32 → field Little 4 8 (record_header nanos size ++ more) ≡ size
unfolding record_header number
captured_read nanos size more h = little_number-reads_back 4 size (little_bytes 4 size ++ more) (omega (arith, h))

original_read : (nanos size : ℕ) (more : List ℕ) → size < 2 ^ 32 → field Little 4 12 (record_header nanos size ++ more) ≡ size
unfolding record_header number
original_read nanos size more h = little_number-reads_back 4 size more (omega (arith, h))

same_record : (r : Record) (a b : ℕ) (xs : List ℕ) → a ≡ r.nanos → b ≡ r.original → xs ≡ r.octets → ◌≡◌ {A = Record} (record { nanos = a; original = b; octets = xs }) r
same_record r a b xs e f g = rw (e, f, g) refl

time_read : (nanos s f : ℕ) → nanos < 2 ^ 32 * 1000000000 → s ≡ nanos / 1000000000 % 2 ^ 32 → f ≡ nanos % 1000000000 → s * 1000000000 + f * 1 ≡ nanos
time_read nanos s f h e g = rw (e, g) (omega (arith, h))

-- a record's text is followed by what follows
text_split : (r : Record) (more : List ℕ) → text_of r ++ more ≡ record_header r.nanos (length r.octets) ++ (r.octets ++ more)
text_split r more = append_assoc (record_header r.nanos (length r.octets)) r.octets more

-- what is known of a record's text with more behind it
record IsRead (r : Record) (xs more : List ℕ) : Type 0 where
  whole : is_whole written xs ≡ true
  first : record_at written xs ≡ r
  behind : drop (16 + captured_length written xs) xs ≡ more

drop_header : (nanos size : ℕ) (more : List ℕ) → drop 16 (record_header nanos size ++ more) ≡ more
drop_header nanos size more = drop_at (record_header nanos size) more 16 (length-record_header nanos size)

length_text : (r : Record) (more : List ℕ) → length (record_header r.nanos (length r.octets) ++ (r.octets ++ more)) ≡ 16 + length r.octets + length more
length_text r more =
    omega (arith, length-append (record_header r.nanos (length r.octets)) (r.octets ++ more), length-append r.octets more, length-record_header r.nanos (length r.octets))

drop_text : (r : Record) (more : List ℕ) → drop (16 + length r.octets) (record_header r.nanos (length r.octets) ++ (r.octets ++ more)) ≡ more
drop_text r more =
    let len = length-record_header r.nanos (length r.octets) in
    let both : length (record_header r.nanos (length r.octets) ++ r.octets) ≡ 16 + length r.octets = omega (arith, len, length-append (record_header r.nanos (length r.octets)) r.octets) in
    ap (drop (16 + length r.octets)) (sym (append_assoc (record_header r.nanos (length r.octets)) r.octets more))
    ∙ drop_at (record_header r.nanos (length r.octets) ++ r.octets) more (16 + length r.octets) both

read_text : (r : Record) (more : List ℕ) → IsWritable r → IsRead r (record_header r.nanos (length r.octets) ++ (r.octets ++ more)) more
read_text r more w =
    let n = length r.octets in
    let xs = record_header r.nanos n ++ (r.octets ++ more) in
    let fits : n < 2 ^ 32 = omega (arith, w.few) in
    let size = captured_read r.nanos n (r.octets ++ more) fits in
    let original = original_read r.nanos n (r.octets ++ more) fits in
    let seconds = seconds_read r.nanos n (r.octets ++ more) in
    let fraction = fraction_read r.nanos n (r.octets ++ more) in
    let len = length_text r more in
    record {
      whole = is_whole-parts written xs (record { header = omega (arith, len); few = omega (arith, size, w.few); room = omega (arith, size, len) });
      first = same_record r _ _ _
          (time_read r.nanos _ _ w.time seconds fraction)
          (original ∙ sym w.kept)
          (ap₂ take size (drop_header r.nanos n (r.octets ++ more)) ∙ take_at r.octets more n refl);
      behind = ap (λ k. drop (16 + k) xs) size ∙ drop_text r more;
    }

-- the records and the rest of texts, one after the other
record AreRead (rs : List Record) (xs : List ℕ) : Type 0 where
  records : records_in written 0 xs ≡ rs
  rest : rest_in written 0 xs ≡ []

one_more : (r : Record) (rs : List Record) (xs more : List ℕ) → IsRead r xs more → AreRead rs more → AreRead (r ∷ rs) xs
one_more r rs xs more one others =
    record {
      records = records_step written xs one.whole ∙ ap₂ (λ a b. a ∷ b) one.first (ap (records_in written 0) one.behind ∙ others.records);
      rest = rest_step written xs one.whole ∙ ap (rest_in written 0) one.behind ∙ others.rest;
    }

texts_read : (rs : List Record) → AllByRecursion IsWritable rs → AreRead rs (flat_map text_of rs)
texts_read [] h = record { records = refl; rest = refl }
texts_read (r ∷ rs) h =
    let more = flat_map text_of rs in
    let P : List ℕ → Type 0 = λ xs. AreRead (r ∷ rs) xs in
    subst P (sym (text_split r more)) (one_more r rs _ more (read_text r more h.0) (texts_read rs h.1))

-- the header of a written capture
header_read : (more : List ℕ) → header (header_text ++ more) ≡ Ok written
header_read more = header-append header_text more (omega (arith, length-header_text)) ∙ header-header_text

behind_header : (more : List ℕ) → drop 24 (header_text ++ more) ≡ more
behind_header more = drop_at header_text more 24 length-header_text

pub records_written : (rs : List Record) → AllByRecursion IsWritable rs → records (capture_text rs) ≡ rs
unfolding records
records_written rs h =
    let more = flat_map text_of rs in
    ap₂ records_after (header_read more) (behind_header more) ∙ (texts_read rs h).records

not_large : (n : ℕ) → n ≤ 67108864 → is_too_large n ≡ false
unfolding is_too_large
not_large n h = grind (arith, nat_tests)

fault_none : (rs : List Record) (xs : List ℕ) → AreRead rs xs → fault_after (Ok written) xs ≡ None
fault_none rs xs h = ap (rest_fault written (length (records_in written 0 xs) + 1)) h.rest

pub fault_written : (rs : List Record) → AllByRecursion IsWritable rs → length (capture_text rs) ≤ 67108864 → capture_fault (capture_text rs) ≡ None
unfolding capture_fault
fault_written rs h n =
    let more = flat_map text_of rs in
    let large : is_too_large (length (capture_text rs)) ≡ false = not_large (length (capture_text rs)) n in
    let long : nat_lt (length (capture_text rs)) 24 ≡ false = grind (arith, nat_tests, length-append header_text more, length-header_text) in
    rw (large, long) (ap₂ fault_after (header_read more) (behind_header more) ∙ fault_none rs more (texts_read rs h))

-- one more record at the end
pub capture_text_none : header_text ≡ capture_text []
capture_text_none = sym (append-nil header_text)

capture_text-push : (rs : List Record) (r : Record) → capture_text rs ++ text_of r ≡ capture_text (rs ++ r ∷ [])
capture_text-push rs r =
    append_assoc header_text (flat_map text_of rs) (text_of r)
    ∙ ap (λ xs. header_text ++ xs) (flat_map_more text_of [] rs r ∙ refl)

pub written_on_ok : {T E : Type 0} (res : Result T E) (nanos : ℕ) (octets old new : List ℕ) → OnOk res (new ≡ old ++ record_text nanos octets) → OnOk res ((rs : List Record) → old ≡ capture_text rs → new ≡ capture_text (rs ++ whole_record nanos octets ∷ []))
written_on_ok (Ok x) nanos octets old new e = λ rs h. e ∙ ap (λ xs. xs ++ record_text nanos octets) h ∙ capture_text-push rs (whole_record nanos octets)
written_on_ok (Err x) nanos octets old new e = tt
