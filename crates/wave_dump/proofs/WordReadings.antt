-- How the reader of dumps goes over words and lines.
use Rattle.std.proofs.Common.{◌≡◌, ◌≢◌, ℕ, ◌+◌, ◌-◌, ◌*◌, ◌/◌, ◌%◌, ◌<◌, ◌≤◌, ◌^◌, ◌==◌, ◌&&◌, not, Bool, true, false, cond, List, [], ◌∷◌, ◌++◌, map, codes, None, refl, sym, ap, ◌∙◌, arith, append_assoc, append-nil}
use Rattle.std.specs.Prelude.{decimal}
use Rattle.std.specs.List.{list_all}
use Rattle.std.proofs.lemmas.Bool.{and_parts, ne_eqb, not-true}
use Rattle.std.proofs.lemmas.Fmt.{decimal_by_steps}
use Rattle.std.proofs.lemmas.List.Folds.{list_all-append}
use Rattle.std.proofs.lemmas.List.Sums.{fold-append}
use Rattle.mac_parameters.specs.Parameters.{nanoseconds_a_half_bit}
use Rattle.manchester_line.specs.declared.Sym.{Sym}
use Rattle.manchester_line.specs.declared.Sym.TheVariants.{Idle, Hi, Lo, Clash}
use Rattle.wave_dump.specs.Dump.{line_of_variable}
use Rattle.wave_dump.specs.Reading.{Declared, NoCommand, OpenCommand, Passed, TapReader, WordReader, after_declaration, after_dump_octet, after_dump_octets, after_half_bits, after_symbol, after_dump_word, ends_command, ends_word, is_dollar, number_of_digits}
use Rattle.wave_dump.specs.WaveLaws.{IsDumpName}
use Rattle.wave_dump.specs.Values.{code_of_tap, line_of_time, line_of_value}

-- from reader r these octets lead to reader s
pub record Leads (r : WordReader) (octets : List ℕ) (s : WordReader) : Type 0 where
  pub leads : after_dump_octets r octets ≡ s

-- a text that computes
pub fixed : (r s : WordReader) (a : List ℕ) → after_dump_octets r a ≡ s → Leads r a s
fixed r s a h = record { leads = h }

-- one text after the other
pub go_on : {r s t : WordReader} {a b : List ℕ} → Leads r a s → Leads s b t → Leads r (a ++ b) t
go_on {r} {s} {t} {a} {b} one two =
    record { leads = fold-append after_dump_octet r a b ∙ ap (λ q. after_dump_octets q b) one.leads ∙ two.leads }

-- a reader in a word, and between words
abbrev pub in_word : List ℕ → OpenCommand → List TapReader → ℕ → WordReader
in_word word command taps now = record { word = word; command = command; taps = taps; now = now }

abbrev pub between : OpenCommand → List TapReader → ℕ → WordReader
between command taps now = in_word [] command taps now

-- no octet of a text ends a word
abbrev pub Goes : List ℕ → Type 0
Goes w = list_all (λ c. not (ends_word c)) w ≡ true

pub letters : (command : OpenCommand) (taps : List TapReader) (now : ℕ) (u w : List ℕ) → Goes w → Leads (in_word u command taps now) w (in_word (u ++ w) command taps now)
letters command taps now u [] h = record { leads = ap (λ x. in_word x command taps now) (sym (append-nil u)) }
letters command taps now u (c ∷ w) h =
    let parts = and_parts (not (ends_word c)) (list_all (λ d. not (ends_word d)) w) h in
    let r : WordReader = in_word u command taps now in
    record {
      leads = ap (λ (b : Bool). after_dump_octets (cond b (after_dump_word r u) (in_word (u ++ c ∷ []) command taps now)) w) (not-true (ends_word c) parts.0)
          ∙ (letters command taps now (u ++ c ∷ []) w parts.1).leads
          ∙ ap (λ x. in_word x command taps now) (append_assoc u (c ∷ []) w);
    }

-- a name's octets end no word, and its first is no dollar
name_first : (c : ℕ) (cs : List ℕ) → list_all (λ d. not (ends_word d) && not (is_dollar d)) (c ∷ cs) ≡ true → is_dollar c ≡ false
name_first c cs h =
    not-true (is_dollar c) (and_parts (not (ends_word c)) (not (is_dollar c)) (and_parts (not (ends_word c) && not (is_dollar c)) (list_all (λ d. not (ends_word d) && not (is_dollar d)) cs) h).0).1

pub name_goes : (w : List ℕ) → list_all (λ d. not (ends_word d) && not (is_dollar d)) w ≡ true → Goes w
name_goes [] h = refl
name_goes (c ∷ cs) h =
    let parts = and_parts (not (ends_word c) && not (is_dollar c)) (list_all (λ d. not (ends_word d) && not (is_dollar d)) cs) h in
    let one = (and_parts (not (ends_word c)) (not (is_dollar c)) parts.0).0 in
    cc (one, name_goes cs parts.1)

no_end : (c : ℕ) (cs : List ℕ) → is_dollar c ≡ false → ends_command (c ∷ cs) ≡ false
no_end c cs h = cc h

-- a blank after a name in a command that tells nothing of taps
pub passed_blank : (taps : List TapReader) (now : ℕ) (w : List ℕ) → IsDumpName w → Leads (in_word w Passed taps now) (32 ∷ []) (between Passed taps now)
passed_blank taps now [] h = absurd (h.some refl)
passed_blank taps now (c ∷ cs) h =
    record { leads = ap (λ (b : Bool). cond b (between NoCommand taps now) (between Passed taps now)) (no_end c cs (name_first c cs h.octets)) }

-- a blank after a name in a declaration
declared_blank : (taps : List TapReader) (now : ℕ) (words : List (List ℕ)) (w : List ℕ) → w ≢ [] → ends_command w ≡ false
    → Leads (in_word w (Declared words) taps now) (32 ∷ []) (between (Declared (words ++ w ∷ [])) taps now)
declared_blank taps now words [] some h = absurd (some refl)
declared_blank taps now words (c ∷ cs) some h =
    record { leads = ap (λ (b : Bool). cond b (after_declaration (between NoCommand taps now) words) (between (Declared (words ++ (c ∷ cs) ∷ [])) taps now)) h }

-- the digits of a number are a name, and are read as the number
record IsRead (n : ℕ) (digits : List ℕ) : Type 0 where
  some : digits ≢ []
  octets : list_all (λ d. not (ends_word d) && not (is_dollar d)) digits ≡ true
  number : number_of_digits digits ≡ n

digit_is_name : (d : ℕ) → d < 10 → (not (ends_word (48 + d)) && not (is_dollar (48 + d))) ≡ true
digit_is_name d h =
    let e1 : ((48 + d) == 32) ≡ false = ne_eqb (48 + d) 32 (λ e. omega arith) in
    let e2 : ((48 + d) == 10) ≡ false = ne_eqb (48 + d) 10 (λ e. omega arith) in
    let e3 : ((48 + d) == 36) ≡ false = ne_eqb (48 + d) 36 (λ e. omega arith) in
    rw (e1, e2, e3) refl

one_digit : (n : ℕ) → n < 10 → IsRead n ((48 + n) ∷ [])
one_digit n h = record { some = λ e. cc e; octets = rw (digit_is_name n h) refl; number = omega arith }

some_more : (a : List ℕ) (c : ℕ) → a ++ c ∷ [] ≢ []
some_more [] c e = cc e
some_more (x ∷ a) c e = cc e

more_digits : (n : ℕ) (ds : List ℕ) → 10 ≤ n → IsRead (n / 10) ds → IsRead n (ds ++ (48 + n % 10) ∷ [])
more_digits n ds h r =
    let last : (not (ends_word (48 + n % 10)) && not (is_dollar (48 + n % 10))) ≡ true = digit_is_name (n % 10) (omega arith) in
    let both = fold-append (λ m digit. m * 10 + (digit - 48)) 0 ds ((48 + n % 10) ∷ []) in
    record {
      some = some_more ds (48 + n % 10);
      octets = list_all-append (λ d. not (ends_word d) && not (is_dollar d)) ds ((48 + n % 10) ∷ []) ∙ cc (r.octets, last);
      number = both ∙ ap (λ m. m * 10 + (48 + n % 10 - 48)) r.number ∙ omega arith;
    }

digits_read : (n : ℕ) → n < 2 ^ 64 → IsRead n (decimal n)
digits_read n h = decimal_by_steps IsRead one_digit more_digits n h

some_with : (a b : List ℕ) → a ≢ [] → a ++ b ≢ []
some_with [] b h e = h refl
some_with (x ∷ a) b h e = cc e

pub more_of_name : (a b : List ℕ) → IsDumpName a → list_all (λ d. not (ends_word d) && not (is_dollar d)) b ≡ true → IsDumpName (a ++ b)
more_of_name a b h more =
    record { some = some_with a b h.some; octets = list_all-append (λ d. not (ends_word d) && not (is_dollar d)) a b ∙ cc (h.octets, more) }

pub number_is_name : (n : ℕ) → n < 2 ^ 64 → IsDumpName (decimal n)
number_is_name n h = let r = digits_read n h in record { some = r.some; octets = r.octets }

half_bit_read : (t : ℕ) → nanoseconds_a_half_bit * t < 2 ^ 64 → number_of_digits (decimal (nanoseconds_a_half_bit * t)) / nanoseconds_a_half_bit ≡ t
half_bit_read t h = ap (λ n. n / nanoseconds_a_half_bit) (digits_read (nanoseconds_a_half_bit * t) h).number ∙ omega arith

-- the line of a time
pub time_leads : (taps : List TapReader) (now t : ℕ) → nanoseconds_a_half_bit * t < 2 ^ 64
    → Leads (between NoCommand taps now) (line_of_time t) (between NoCommand (map (after_half_bits (t - now)) taps) t)
unfolding line_of_time
time_leads taps now t h =
    let digits : List ℕ = decimal (nanoseconds_a_half_bit * t) in
    go_on (go_on (fixed (between NoCommand taps now) (in_word (35 ∷ []) NoCommand taps now) (codes "#") refl)
    (letters NoCommand taps now (35 ∷ []) digits (name_goes digits (digits_read (nanoseconds_a_half_bit * t) h).octets)))
    (record { leads = ap (λ u. between NoCommand (map (after_half_bits (u - now)) taps) u) (half_bit_read t h) })

code_goes : (k : ℕ) → Goes (code_of_tap k)
unfolding code_of_tap
code_goes k =
    let e1 : ((33 + k) == 32) ≡ false = ne_eqb (33 + k) 32 (λ e. omega arith) in
    let e2 : ((33 + k) == 10) ≡ false = ne_eqb (33 + k) 10 (λ e. omega arith) in
    rw (e1, e2) refl

-- the line of a value
pub value_leads : (taps : List TapReader) (now k : ℕ) (symbol : Sym)
    → Leads (between NoCommand taps now) (line_of_value k symbol) (between NoCommand (map (after_symbol (code_of_tap k) symbol) taps) now)
unfolding line_of_value code_of_tap
value_leads taps now k Idle =
    go_on (go_on (fixed (between NoCommand taps now) (in_word (codes "z") NoCommand taps now) (codes "z") refl)
    (letters NoCommand taps now (codes "z") (code_of_tap k) (code_goes k))) (fixed _ (between NoCommand (map (after_symbol (code_of_tap k) Idle) taps) now) (codes "\n") refl)
value_leads taps now k Hi =
    go_on (go_on (fixed (between NoCommand taps now) (in_word (codes "1") NoCommand taps now) (codes "1") refl)
    (letters NoCommand taps now (codes "1") (code_of_tap k) (code_goes k))) (fixed _ (between NoCommand (map (after_symbol (code_of_tap k) Hi) taps) now) (codes "\n") refl)
value_leads taps now k Lo =
    go_on (go_on (fixed (between NoCommand taps now) (in_word (codes "0") NoCommand taps now) (codes "0") refl)
    (letters NoCommand taps now (codes "0") (code_of_tap k) (code_goes k))) (fixed _ (between NoCommand (map (after_symbol (code_of_tap k) Lo) taps) now) (codes "\n") refl)
value_leads taps now k Clash =
    go_on (go_on (fixed (between NoCommand taps now) (in_word (codes "x") NoCommand taps now) (codes "x") refl)
    (letters NoCommand taps now (codes "x") (code_of_tap k) (code_goes k))) (fixed _ (between NoCommand (map (after_symbol (code_of_tap k) Clash) taps) now) (codes "\n") refl)

-- a tap of which only the declaration was read
abbrev pub new_tap : ℕ → List ℕ → TapReader
new_tap k name = record { code = code_of_tap k; name = name; symbol = None; symbols = [] }

abbrev pub new_taps : ℕ → List (List ℕ) → List TapReader
new_taps k [] = []
new_taps k (name ∷ names) = new_tap k name ∷ new_taps (k + 1) names

code_some : (k : ℕ) → code_of_tap k ≢ []
unfolding code_of_tap
code_some k e = cc e

and_false : (b : Bool) → (b && false) ≡ false
and_false true = refl
and_false false = refl

code_no_end : (k : ℕ) → ends_command (code_of_tap k) ≡ false
unfolding code_of_tap
code_no_end k = and_false ((33 + k) == 36)

name_no_end : (w : List ℕ) → IsDumpName w → ends_command w ≡ false
name_no_end [] h = absurd (h.some refl)
name_no_end (c ∷ cs) h = no_end c cs (name_first c cs h.octets)

-- the line of a declaration
pub variable_leads : (taps : List TapReader) (now k : ℕ) (name : List ℕ) → IsDumpName name
    → Leads (between NoCommand taps now) (line_of_variable k name) (between NoCommand (taps ++ new_tap k name ∷ []) now)
unfolding line_of_variable
variable_leads taps now k name h =
    let words : List (List ℕ) = codes "wire" ∷ codes "1" ∷ [] in
    let more : List (List ℕ) = codes "wire" ∷ codes "1" ∷ code_of_tap k ∷ [] in
    let all : List (List ℕ) = codes "wire" ∷ codes "1" ∷ code_of_tap k ∷ name ∷ [] in
    go_on (go_on (go_on (go_on (fixed (between NoCommand taps now) (between (Declared words) taps now) (codes "$var wire 1 ") refl)
    (letters (Declared words) taps now [] (code_of_tap k) (code_goes k)))
    (declared_blank taps now words (code_of_tap k) (code_some k) (code_no_end k)))
    (letters (Declared more) taps now [] name (name_goes name h.octets)))
    (go_on (declared_blank taps now more name h.some (name_no_end name h))
    (fixed (between (Declared all) taps now) (between NoCommand (taps ++ new_tap k name ∷ []) now) (codes "$end\n") refl))
