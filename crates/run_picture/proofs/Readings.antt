-- How the reader of XML goes over pieces of texts.
use Rattle.std.proofs.Common.{◌≡◌, ℕ, ◌==◌, ◌||◌, not, Bool, true, false, cond, List, [], ◌∷◌, ◌++◌, flat_map, codes, Some, None, refl, sym, ap, ◌∙◌, append_assoc, append-nil}
use Rattle.std.specs.Prelude.{decimal, Option}
use Rattle.std.proofs.lemmas.List.Sums.{fold-append}
use Rattle.std.proofs.lemmas.Bool.{and_parts, not-true, true≢false}
use Rattle.run_picture.specs.Markup.{TagReader, Begun, Between, StartTag, Value, after_next_octet, after_octet_at, after_word_octet, after_octets, is_in_title, is_markup, is_plain}
use Rattle.run_picture.proofs.Plain.{decimal_plain}

-- from reader r these octets lead to reader s
pub record Leads (r : TagReader) (octets : List ℕ) (s : TagReader) : Type 0 where
  pub leads : after_octets (Some r) octets ≡ Some s

-- a text that computes
pub fixed : (r s : TagReader) (a : List ℕ) → after_octets (Some r) a ≡ Some s → Leads r a s
fixed r s a h = record { leads = h }

-- one text after the other
pub go_on : {r s t : TagReader} {a b : List ℕ} → Leads r a s → Leads s b t → Leads r (a ++ b) t
go_on {r} {s} {t} {a} {b} one two =
    record { leads = fold-append after_next_octet (Some r) a b ∙ ap (λ o. after_octets o b) one.leads ∙ two.leads }

-- outside of titles, between tags
abbrev pub between : List (List ℕ) → List (List ℕ) → TagReader
between elements titles = record { elements = elements; words = []; titles = titles; standing = Between }

-- outside of titles, in an attribute's value
abbrev pub in_value : List (List ℕ) → List (List ℕ) → List ℕ → TagReader
in_value elements titles name = record { elements = elements; words = []; titles = titles; standing = Value name }

-- in a title
abbrev pub in_title : List (List ℕ) → List (List ℕ) → List ℕ → TagReader
in_title elements titles words = record { elements = codes "title" ∷ elements; words = words; titles = titles; standing = Between }

pub nothing : (r : TagReader) → Leads r [] r
nothing r = record { leads = refl }

-- an octet that means nothing in XML is none of the five that do
plain_first : (c : ℕ) (cs : List ℕ) → is_plain (c ∷ cs) ≡ true → is_markup c ≡ false
plain_first c cs h = not-true (is_markup c) (and_parts (not (is_markup c)) (is_plain cs) h).0

plain_rest : (c : ℕ) (cs : List ℕ) → is_plain (c ∷ cs) ≡ true → is_plain cs ≡ true
plain_rest c cs h = (and_parts (not (is_markup c)) (is_plain cs) h).1

or_parts : (a b : Bool) → (a || b) ≡ false → (a ≡ false) × (b ≡ false)
or_parts true b h = absurd (true≢false h)
or_parts false b h = (refl, h)

-- so it isn't an apostrophe, nor a left angle
not_apostrophe : (c : ℕ) → is_markup c ≡ false → (c == 39) ≡ false
not_apostrophe c h = (or_parts ((c == 60) || (c == 62) || (c == 38)) (c == 39) (or_parts ((c == 60) || (c == 62) || (c == 38) || (c == 39)) (c == 34) h).0).1

not_left_angle : (c : ℕ) → is_markup c ≡ false → (c == 60) ≡ false
not_left_angle c h =
    let four = (or_parts ((c == 60) || (c == 62) || (c == 38) || (c == 39)) (c == 34) h).0 in
    let three = (or_parts ((c == 60) || (c == 62) || (c == 38)) (c == 39) four).0 in
    (or_parts (c == 60) (c == 62) (or_parts ((c == 60) || (c == 62)) (c == 38) three).0).0

-- one plain octet in a value
octet_in_value : (es ts : List (List ℕ)) (name : List ℕ) (c : ℕ) → is_markup c ≡ false → after_next_octet (Some (in_value es ts name)) c ≡ Some (in_value es ts name)
octet_in_value es ts name c h =
    let r : TagReader = in_value es ts name in
    ap (λ (b : Bool). cond b (Some (record r { standing = StartTag name })) (cond (is_markup c) None (Some r))) (not_apostrophe c h)
    ∙ ap (λ (b : Bool). cond b None (Some r)) h

-- one plain octet between tags
octet_between : (r : TagReader) (c : ℕ) → r.standing ≡ Between → is_markup c ≡ false → after_octet_at Between r c ≡ Some (after_word_octet r c)
octet_between r c at h =
    ap (λ (b : Bool). cond b (Some (record r { standing = Begun })) (cond (is_markup c) None (Some (after_word_octet r c)))) (not_left_angle c h)
    ∙ ap (λ (b : Bool). cond b None (Some (after_word_octet r c))) h

-- a plain text in a value
pub plain_in_value : (es ts : List (List ℕ)) (name w : List ℕ) → is_plain w ≡ true → Leads (in_value es ts name) w (in_value es ts name)
plain_in_value es ts name [] h = nothing (in_value es ts name)
plain_in_value es ts name (c ∷ w) h =
    record {
      leads = ap (λ (o : Option TagReader). after_octets o w) (octet_in_value es ts name c (plain_first c w h))
          ∙ (plain_in_value es ts name w (plain_rest c w h)).leads;
    }

-- a plain text between tags, outside of titles
pub plain_between : (es ts : List (List ℕ)) (w : List ℕ) → is_in_title es ≡ false → is_plain w ≡ true → Leads (between es ts) w (between es ts)
plain_between es ts [] out h = nothing (between es ts)
plain_between es ts (c ∷ w) out h =
    let r : TagReader = between es ts in
    record {
      leads = ap (λ (o : Option TagReader). after_octets o w)
          (octet_between r c refl (plain_first c w h) ∙ ap (λ (b : Bool). Some (cond b (record r { words = r.words ++ c ∷ [] }) r)) out)
          ∙ (plain_between es ts w out (plain_rest c w h)).leads;
    }

-- a plain text in a title
pub plain_in_title : (es ts : List (List ℕ)) (words w : List ℕ) → is_plain w ≡ true → Leads (in_title es ts words) w (in_title es ts (words ++ w))
plain_in_title es ts words [] h = record { leads = ap (λ (x : List ℕ). Some (in_title es ts x)) (sym (append-nil words)) }
plain_in_title es ts words (c ∷ w) h =
    record {
      leads = ap (λ (o : Option TagReader). after_octets o w) (octet_between (in_title es ts words) c refl (plain_first c w h))
          ∙ (plain_in_title es ts (words ++ c ∷ []) w (plain_rest c w h)).leads
          ∙ ap (λ (x : List ℕ). Some (in_title es ts x)) (append_assoc words (c ∷ []) w);
    }

-- a number in a value, and between tags
pub number_in_value : (es ts : List (List ℕ)) (name : List ℕ) (n : ℕ) → Leads (in_value es ts name) (decimal n) (in_value es ts name)
number_in_value es ts name n = plain_in_value es ts name (decimal n) (decimal_plain n)

pub number_between : (es ts : List (List ℕ)) (n : ℕ) → is_in_title es ≡ false → Leads (between es ts) (decimal n) (between es ts)
number_between es ts n out = plain_between es ts (decimal n) out (decimal_plain n)

-- texts that lead back to where they begin, one after the other
pub all_stay : {A : Type 0} (r : TagReader) (f : A → List ℕ) (xs : List A) → ((x : A) → Leads r (f x) r) → Leads r (flat_map f xs) r
all_stay r f [] h = nothing r
all_stay r f (x ∷ xs) h = go_on (h x) (all_stay r f xs h)
