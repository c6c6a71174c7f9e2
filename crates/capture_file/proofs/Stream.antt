-- A stream that comes in pieces is read as the whole stream is.
use Rattle.std.proofs.Common.{◌≡◌, ℕ, ◌+◌, ◌≤◌, inl, inr, true, false, List, [], ◌∷◌, ◌++◌, length, drop, refl, sym, ap, ap₂, ◌∙◌, arith, append_assoc, length-append, Option, Some, None, Result, Ok, Err}
use Rattle.std.specs.Prelude.{nat_lt, if◌then◌else◌, OnOk, IfOk, IfErr}
use Rattle.std.proofs.lemmas.Bool.{cases_Bool}
use Rattle.std.proofs.lemmas.Bool.Decides.{nat_tests}
use Rattle.std.proofs.lemmas.List.{append-nil, drop-append-le}
use Rattle.capture_file.specs.declared.entries.Record.{Record}
use Rattle.capture_file.specs.declared.fault.CaptureFault.{CaptureFault}
use Rattle.capture_file.specs.declared.fault.CaptureFault.TheVariants.{Length, TooLarge, CutRecord}
use Rattle.capture_file.specs.declared.form.Form.{Form}
use Rattle.capture_file.specs.declared.reading.Stage.TheVariants.{Header, Entries}
use Rattle.capture_file.specs.declared.reading.Reading.{Reading}
use Rattle.capture_file.specs.Captures.{capture_fault, fault_after, header, is_overlong, is_too_large, records, records_after, records_in, rest_after, rest_fault, rest_in, rest_of, unless_long}
use Rattle.capture_file.specs.Reading.{Reader, Reads, answer_of, ended, failed, fed, new_reader, opened, read_on, walked}
use Rattle.capture_file.proofs.Walk.{goes_on, header-append, records_stop, rest_stop, stays_long}

-- a reading that is gone on with
abbrev gone_on : Reading → List ℕ → Reading
gone_on k piece = read_on k.stage k.records (k.rest ++ piece)

ended_long : (form : Form) (rs : List Record) (rest : List ℕ) → is_overlong form rest ≡ true → ended form rs rest ≡ failed (Length (length rs + 1))
ended_long form rs rest h = rw h refl

ended_open : (form : Form) (rs : List Record) (rest : List ℕ) → is_overlong form rest ≡ false → ended form rs rest ≡ record { stage = Entries form; records = rs; rest = rest }
ended_open form rs rest h = rw h refl

-- the records so far and the rest, with more octets after them
pub joined : (form : Form) (rs : List Record) (octets piece : List ℕ) → walked form rs (octets ++ piece) ≡ walked form (rs ++ records_in form 0 octets) (rest_in form 0 octets ++ piece)
unfolding walked
joined form rs octets piece =
    let g = goes_on form octets piece in
    let later = records_in form 0 (rest_in form 0 octets ++ piece) in
    ap₂ (ended form) (ap (λ more. rs ++ more) g.records ∙ sym (append_assoc rs (records_in form 0 octets) later)) g.rest

walked_is : (form : Form) (rs : List Record) (octets : List ℕ) → walked form rs octets ≡ ended form (rs ++ records_in form 0 octets) (rest_in form 0 octets)
unfolding walked
walked_is form rs octets = refl

-- nothing more comes after a record that is too long
walked_long : (form : Form) (rs : List Record) (rest piece : List ℕ) → is_overlong form rest ≡ true → walked form rs (rest ++ piece) ≡ failed (Length (length rs + 1))
walked_long form rs rest piece h =
    let s = stays_long form rest piece h in
    walked_is form rs (rest ++ piece)
    ∙ ap₂ (ended form) (ap (λ more. rs ++ more) (records_stop form (rest ++ piece) s.whole) ∙ append-nil rs) (rest_stop form (rest ++ piece) s.whole)
    ∙ ended_long form rs (rest ++ piece) s.long

gone_on-failed : (fault : CaptureFault) (piece : List ℕ) → gone_on (failed fault) piece ≡ failed fault
unfolding read_on
gone_on-failed fault piece = refl

gone_on-open : (form : Form) (rs : List Record) (rest piece : List ℕ) → gone_on (record { stage = Entries form; records = rs; rest = rest }) piece ≡ walked form rs (rest ++ piece)
unfolding read_on
gone_on-open form rs rest piece = refl

gone_on-ended : (form : Form) (rs : List Record) (rest piece : List ℕ) → gone_on (ended form rs rest) piece ≡ walked form rs (rest ++ piece)
gone_on-ended form rs rest piece =
    elim (cases_Bool (is_overlong form rest)) [
      | inl h ↦ ap (λ k. gone_on k piece) (ended_long form rs rest h) ∙ gone_on-failed (Length (length rs + 1)) piece ∙ sym (walked_long form rs rest piece h)
      | inr h ↦ ap (λ k. gone_on k piece) (ended_open form rs rest h) ∙ gone_on-open form rs rest piece
    ]

gone_on-walked : (form : Form) (rs : List Record) (octets piece : List ℕ) → gone_on (walked form rs octets) piece ≡ walked form rs (octets ++ piece)
gone_on-walked form rs octets piece =
    ap (λ k. gone_on k piece) (walked_is form rs octets)
    ∙ gone_on-ended form (rs ++ records_in form 0 octets) (rest_in form 0 octets) piece
    ∙ sym (joined form rs octets piece)

gone_on-opened : (head : Result Form CaptureFault) (octets piece : List ℕ) → gone_on (opened head [] octets) piece ≡ opened head [] (octets ++ piece)
gone_on-opened (Err fault) octets piece = gone_on-failed fault piece
gone_on-opened (Ok form) octets piece = gone_on-walked form [] octets piece

-- the reading of all octets of a stream
short_reading : (stream : List ℕ) → nat_lt (length stream) 24 ≡ true → read_on Header [] stream ≡ record { stage = Header; records = []; rest = stream }
unfolding read_on
short_reading stream h = rw h refl

open_reading : (stream : List ℕ) → nat_lt (length stream) 24 ≡ false → read_on Header [] stream ≡ opened (header stream) [] (drop 24 stream)
unfolding read_on
open_reading stream h = rw h refl

gone_on-header : (stream piece : List ℕ) → gone_on (record { stage = Header; records = []; rest = stream }) piece ≡ read_on Header [] (stream ++ piece)
gone_on-header stream piece = refl

gone_on-stream : (stream piece : List ℕ) → gone_on (read_on Header [] stream) piece ≡ read_on Header [] (stream ++ piece)
gone_on-stream stream piece =
    elim (cases_Bool (nat_lt (length stream) 24)) [
      | inl h ↦ ap (λ k. gone_on k piece) (short_reading stream h) ∙ gone_on-header stream piece
      | inr h ↦
          let whole : 24 ≤ length stream = grind (arith, nat_tests) in
          let longer : nat_lt (length (stream ++ piece)) 24 ≡ false = grind (arith, nat_tests, length-append stream piece) in
          ap (λ k. gone_on k piece) (open_reading stream h)
          ∙ gone_on-opened (header stream) (drop 24 stream) piece
          ∙ sym (open_reading (stream ++ piece) longer ∙ ap₂ (λ head octets. opened head [] octets) (header-append stream piece whole) (drop-append-le 24 stream piece whole))
    ]

-- how many octets there are, and what is kept of them
fed_large : (r : Reader) (piece : List ℕ) → is_too_large (r.seen + length piece) ≡ true → fed r piece ≡ record { seen = 67108865; reading = failed TooLarge }
unfolding fed
fed_large r piece h = rw h refl

fed_small : (r : Reader) (piece : List ℕ) → is_too_large (r.seen + length piece) ≡ false → fed r piece ≡ record { seen = r.seen + length piece; reading = gone_on r.reading piece }
unfolding fed
fed_small r piece h = rw h refl

large_more : (m n : ℕ) → is_too_large m ≡ true → is_too_large (m + n) ≡ true
unfolding is_too_large
large_more m n h = grind (arith, nat_tests)

small_less : (m n : ℕ) → is_too_large (m + n) ≡ false → is_too_large m ≡ false
unfolding is_too_large
small_less m n h = grind (arith, nat_tests)

large_full : (n : ℕ) → is_too_large (67108865 + n) ≡ true
unfolding is_too_large
large_full n = grind (arith, nat_tests)

-- a reader that was given the whole stream at once
of_large : (stream : List ℕ) → is_too_large (length stream) ≡ true → fed new_reader stream ≡ record { seen = 67108865; reading = failed TooLarge }
of_large stream h = let e : 0 + length stream ≡ length stream = omega arith in fed_large new_reader stream (ap is_too_large e ∙ h)

same_reader : (a b : ℕ) (k l : Reading) → a ≡ b → k ≡ l → ◌≡◌ {A = Reader} (record { seen = a; reading = k }) (record { seen = b; reading = l })
same_reader a b k l e f = rw (e, f) refl

of_small : (stream : List ℕ) → is_too_large (length stream) ≡ false → fed new_reader stream ≡ record { seen = length stream; reading = read_on Header [] stream }
of_small stream h =
    let e : 0 + length stream ≡ length stream = omega arith in
    fed_small new_reader stream (ap is_too_large e ∙ h) ∙ same_reader _ _ _ _ e refl

-- the second piece of a stream
fed_more : (stream piece : List ℕ) → fed (fed new_reader stream) piece ≡ fed new_reader (stream ++ piece)
fed_more stream piece =
    let len = length-append stream piece in
    elim (cases_Bool (is_too_large (length stream))) [
      | inl h ↦
          let more : is_too_large (length (stream ++ piece)) ≡ true = ap is_too_large len ∙ large_more (length stream) (length piece) h in
          ap (λ r. fed r piece) (of_large stream h)
          ∙ fed_large (record { seen = 67108865; reading = failed TooLarge }) piece (large_full (length piece))
          ∙ sym (of_large (stream ++ piece) more)
      | inr h ↦ elim (cases_Bool (is_too_large (length stream + length piece))) [
        | inl m ↦
            ap (λ r. fed r piece) (of_small stream h)
            ∙ fed_large (record { seen = length stream; reading = read_on Header [] stream }) piece m
            ∙ sym (of_large (stream ++ piece) (ap is_too_large len ∙ m))
        | inr m ↦
            ap (λ r. fed r piece) (of_small stream h)
            ∙ fed_small (record { seen = length stream; reading = read_on Header [] stream }) piece m
            ∙ same_reader _ _ _ _ (sym len) (gone_on-stream stream piece)
            ∙ sym (of_small (stream ++ piece) (ap is_too_large len ∙ m))
      ]
    ]

fed_nil : fed new_reader [] ≡ new_reader
unfolding fed read_on is_too_large
fed_nil = refl

pub reads_none : (r : Reader) → r ≡ new_reader → Reads [] r
reads_none r e = record { same = e ∙ sym fed_nil }

reads_more : (stream piece : List ℕ) (r s : Reader) → s ≡ fed r piece → Reads stream r → Reads (stream ++ piece) s
reads_more stream piece r s e h = record { same = e ∙ ap (λ x. fed x piece) h.same ∙ fed_more stream piece }

-- what the rest and the answer of a reading are
rest_ended : (form : Form) (rs : List Record) (rest : List ℕ) → (ended form rs rest).rest ≡ unless_long form rest
rest_ended form rs rest = elim (is_overlong form rest) as (λ b. (if b then failed (Length (length rs + 1)) else record { stage = Entries form; records = rs; rest = rest }).rest ≡ (if b then [] else rest)) [ true ↦ refl | false ↦ refl ]

rest_opened : (head : Result Form CaptureFault) (octets : List ℕ) → (opened head [] octets).rest ≡ rest_after head octets
unfolding walked
rest_opened (Err fault) octets = refl
rest_opened (Ok form) octets = rest_ended form (records_in form 0 octets) (rest_in form 0 octets)

rest_of_stream : (stream : List ℕ) → (fed new_reader stream).reading.rest ≡ rest_of stream
unfolding rest_of
rest_of_stream stream =
    elim (cases_Bool (is_too_large (length stream))) [
      | inl h ↦ rw h (ap (λ (r : Reader). r.reading.rest) (of_large stream h))
      | inr h ↦ elim (cases_Bool (nat_lt (length stream) 24)) [
        | inl s ↦ rw (h, s) (ap (λ (r : Reader). r.reading.rest) (of_small stream h) ∙ ap (λ (k : Reading). k.rest) (short_reading stream s))
        | inr s ↦ rw (h, s) (ap (λ (r : Reader). r.reading.rest) (of_small stream h) ∙ ap (λ (k : Reading). k.rest) (open_reading stream s) ∙ rest_opened (header stream) (drop 24 stream))
      ]
    ]

pub rest_is : (stream : List ℕ) (r : Reader) → Reads stream r → r.reading.rest ≡ rest_of stream
rest_is stream r h = ap (λ (x : Reader). x.reading.rest) h.same ∙ rest_of_stream stream

-- the answer to a capture: its first fault, or its records
told : Option CaptureFault → List Record → Result (List Record) CaptureFault
told None rs = Ok rs
told (Some fault) rs = Err fault

answer : Reading → Result (List Record) CaptureFault
answer k = answer_of k.stage k.records k.rest

not_long_nil : (form : Form) → is_overlong form [] ≡ false
unfolding is_overlong
not_long_nil form = refl

answer_ended : (form : Form) (rs : List Record) (rest : List ℕ) → answer (ended form rs rest) ≡ told (rest_fault form (length rs + 1) rest) rs
unfolding told answer
answer_ended form rs [] = ap answer (ended_open form rs [] (not_long_nil form))
answer_ended form rs (x ∷ xs) = elim (is_overlong form (x ∷ xs)) as (λ b. answer (if b then failed (Length (length rs + 1)) else record { stage = Entries form; records = rs; rest = x ∷ xs }) ≡ told (if b then Some (Length (length rs + 1)) else Some (CutRecord (length rs + 1))) rs) [ true ↦ refl | false ↦ refl ]

answer_opened : (head : Result Form CaptureFault) (octets : List ℕ) → answer (opened head [] octets) ≡ told (fault_after head octets) (records_after head octets)
unfolding walked told answer
answer_opened (Err fault) octets = refl
answer_opened (Ok form) octets = answer_ended form (records_in form 0 octets) (rest_in form 0 octets)

answer_of_stream : (stream : List ℕ) → answer (fed new_reader stream).reading ≡ told (capture_fault stream) (records stream)
unfolding capture_fault records told answer
answer_of_stream stream =
    elim (cases_Bool (is_too_large (length stream))) [
      | inl h ↦ rw h (ap (λ (r : Reader). answer r.reading) (of_large stream h))
      | inr h ↦ elim (cases_Bool (nat_lt (length stream) 24)) [
        | inl s ↦ rw (h, s) (ap (λ (r : Reader). answer r.reading) (of_small stream h) ∙ ap answer (short_reading stream s))
        | inr s ↦ rw (h, s) (ap (λ (r : Reader). answer r.reading) (of_small stream h) ∙ ap answer (open_reading stream s) ∙ answer_opened (header stream) (drop 24 stream))
      ]
    ]

told_ok : (fault : Option CaptureFault) (rs xs : List Record) → told fault rs ≡ Ok xs → (fault ≡ None) × (xs ≡ rs)
unfolding told
told_ok None rs xs h = (refl, cc)
told_ok (Some fault) rs xs h = cc

told_err : (fault : Option CaptureFault) (rs : List Record) (f : CaptureFault) → told fault rs ≡ Err f → fault ≡ Some f
unfolding told
told_err None rs f h = cc
told_err (Some fault) rs f h = cc

answer_is_records : (stream : List ℕ) (r : Reader) (rs : List Record) → Reads stream r → answer_of r.reading.stage r.reading.records r.reading.rest ≡ Ok rs → (capture_fault stream ≡ None) × (rs ≡ records stream)
unfolding answer
answer_is_records stream r rs h a = told_ok (capture_fault stream) (records stream) rs (sym (answer_of_stream stream) ∙ sym (ap (λ (x : Reader). answer x.reading) h.same) ∙ a)

answer_is_fault : (stream : List ℕ) (r : Reader) (f : CaptureFault) → Reads stream r → answer_of r.reading.stage r.reading.records r.reading.rest ≡ Err f → capture_fault stream ≡ Some f
unfolding answer
answer_is_fault stream r f h a = told_err (capture_fault stream) (records stream) f (sym (answer_of_stream stream) ∙ sym (ap (λ (x : Reader). answer x.reading) h.same) ∙ a)

-- the same of a call's result
pub reads_on_ok : {T E : Type 0} (res : Result T E) (piece : List ℕ) (r s : Reader) → OnOk res (s ≡ fed r piece) → OnOk res ((stream : List ℕ) → Reads stream r → Reads (stream ++ piece) s)
reads_on_ok (Ok x) piece r s e = λ stream h. reads_more stream piece r s e h
reads_on_ok (Err x) piece r s e = tt

pub end_sound : (res : Result (List Record) CaptureFault) (r : Reader) → res ≡ answer_of r.reading.stage r.reading.records r.reading.rest → IfOk res (λ rs. (stream : List ℕ) → Reads stream r → capture_fault stream ≡ None)
end_sound (Ok rs) r e = λ stream h. (answer_is_records stream r rs h (sym e)).0
end_sound (Err f) r e = tt

pub end_records : (res : Result (List Record) CaptureFault) (r : Reader) → res ≡ answer_of r.reading.stage r.reading.records r.reading.rest → IfOk res (λ rs. (stream : List ℕ) → Reads stream r → rs ≡ records stream)
end_records (Ok rs) r e = λ stream h. (answer_is_records stream r rs h (sym e)).1
end_records (Err f) r e = tt

pub end_fault : (res : Result (List Record) CaptureFault) (r : Reader) → res ≡ answer_of r.reading.stage r.reading.records r.reading.rest → IfErr res (λ f. (stream : List ℕ) → Reads stream r → capture_fault stream ≡ Some f)
end_fault (Ok rs) r e = tt
end_fault (Err f) r e = λ stream h. answer_is_fault stream r f h (sym e)
