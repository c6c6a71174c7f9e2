-- The half bits of a whole octet, read at once, and half bits that are pushed one after the other.
use Rattle.std.proofs.Common.{◌≡◌, ℕ, suc, ◌+◌, ◌*◌, ◌<◌, ◌≤◌, Bool, true, false, Option, Some, None, List, [], ◌∷◌, ◌++◌, length, take, drop, drop-cons, get_or, refl, sym, ap, ◌∙◌, arith}
use Rattle.std.proofs.lemmas.List.{drop-drop, drop_all, take-append-drop, take_all}
use Rattle.std.specs.Prelude.{◌&&◌}
use Rattle.std.specs.Option.{option_map, is_some}
use Rattle.manchester_line.specs.declared.Sym.{Sym}
use Rattle.manchester_line.specs.declared.Sym.TheVariants.{Idle}
use Rattle.manchester_line.specs.Reading.{bit_of_pair, add_bit, bits_of}
use Rattle.manchester_line.specs.Decoding.{Decoding, new_decoding, all_shifted, shifted, pushed, all_pushed}

pub all_pushed-append : (xs ys : List Sym) (d : Decoding) → all_pushed d (xs ++ ys) ≡ all_pushed (all_pushed d xs) ys
all_pushed-append [] ys d = refl
all_pushed-append (x ∷ xs) ys d = all_pushed-append xs ys (pushed d x)

pub decodes_more : (halves piece : List Sym) (d e : Decoding) → d ≡ all_pushed new_decoding halves → e ≡ all_pushed d piece → e ≡ all_pushed new_decoding (halves ++ piece)
decodes_more halves piece d e h m = m ∙ ap (λ x. all_pushed x piece) h ∙ sym (all_pushed-append halves piece new_decoding)

-- a bit in front is the first that is shifted in
pub shifted_first : (rest : ℕ) (b : Bool) (o : Option (List Bool)) → option_map (all_shifted rest) (add_bit (Some b) o) ≡ option_map (all_shifted (shifted rest b)) o
shifted_first rest b None = refl
shifted_first rest b (Some bs) = refl

pub no_bit : (rest : ℕ) (o : Option (List Bool)) → option_map (all_shifted rest) (add_bit None o) ≡ None
no_bit rest None = refl
no_bit rest (Some bs) = refl

-- so many half bits on in a piece
pub piece_on : (piece : List Sym) (at n : ℕ) (d e : Decoding) → e ≡ all_pushed d (take n (drop at piece)) → all_pushed e (drop (at + n) piece) ≡ all_pushed d (drop at piece)
piece_on piece at n d e h =
    ap (λ x. all_pushed x (drop (at + n) piece)) h
    ∙ ap (all_pushed (all_pushed d (take n (drop at piece)))) (sym (drop-drop n at piece))
    ∙ sym (all_pushed-append (take n (drop at piece)) (drop n (drop at piece)) d)
    ∙ ap (all_pushed d) (take-append-drop n (drop at piece))

-- a first half bit, and those after it
pub first_half : (piece : List Sym) (n : ℕ) (d e f : Decoding) → length piece ≡ n + 1 → e ≡ pushed d (get_or piece 0 Idle) → f ≡ all_pushed e (take n (drop 1 piece)) → f ≡ all_pushed d piece
first_half [] n d e f l h is = absurd (omega (arith, l))
first_half (s ∷ ss) n d e f l h is = is ∙ ap (all_pushed e) (take_all n ss (omega (arith, l))) ∙ ap (λ x. all_pushed x ss) h

-- a last half bit
pub last_half : (piece : List Sym) (at n : ℕ) (d e : Decoding) → e ≡ all_pushed d (take n (drop at piece)) → length piece ≡ at + n + 1 → pushed e (get_or piece (at + n) Idle) ≡ all_pushed d (drop at piece)
last_half piece at n d e h l =
    ap (λ xs. all_pushed e (get_or piece (at + n) Idle ∷ xs)) (sym (drop_all (suc (at + n)) piece (omega arith)))
    ∙ ap (all_pushed e) (sym (drop-cons piece (at + n) Idle (omega arith)))
    ∙ piece_on piece at n d e h

-- the pair of half bits in front
pub pair_at : (hs : List Sym) (j : ℕ) → 2 * j + 1 < length hs → drop (2 * j) hs ≡ get_or hs (2 * j) Idle ∷ get_or hs (2 * j + 1) Idle ∷ drop (2 * (j + 1)) hs
pair_at hs j h =
    drop-cons hs (2 * j) Idle (omega arith)
    ∙ ap (λ xs. get_or hs (2 * j) Idle ∷ xs)
    ((let e : suc (2 * j) ≡ 2 * j + 1 = omega arith in ap (λ i. drop i hs) e)
    ∙ drop-cons hs (2 * j + 1) Idle h
    ∙ (let e : suc (2 * j + 1) ≡ 2 * (j + 1) = omega arith in ap (λ i. get_or hs (2 * j + 1) Idle ∷ drop i hs) e))

-- what has come of an octet, if each pair so far is a bit
abbrev pub if_whole : Bool → Option ℕ → Option ℕ
if_whole true o = o
if_whole false o = None

pair_on : (whole : Bool) (octet rest : ℕ) (p : Option Bool) (o : Option (List Bool)) → ((b : Bool) → p ≡ Some b → octet ≡ shifted rest b)
    → if_whole (whole && is_some p) (option_map (all_shifted octet) o) ≡ if_whole whole (option_map (all_shifted rest) (add_bit p o))
pair_on true octet rest None o is = sym (no_bit rest o)
pair_on false octet rest None o is = refl
pair_on true octet rest (Some b) o is = ap (λ k. option_map (all_shifted k) o) (is b refl) ∙ sym (shifted_first rest b o)
pair_on false octet rest (Some b) o is = refl

-- one pair on
pub shift_step : (hs : List Sym) (j octet rest : ℕ) (whole : Bool) (o : Option ℕ) → 2 * j + 1 < length hs
    → ((b : Bool) → bit_of_pair (get_or hs (2 * j) Idle) (get_or hs (2 * j + 1) Idle) ≡ Some b → octet ≡ shifted rest b)
    → if_whole whole (option_map (all_shifted rest) (bits_of (drop (2 * j) hs))) ≡ o
    → if_whole (whole && is_some (bit_of_pair (get_or hs (2 * j) Idle) (get_or hs (2 * j + 1) Idle))) (option_map (all_shifted octet) (bits_of (drop (2 * (j + 1)) hs))) ≡ o
shift_step hs j octet rest whole o h is e =
    pair_on whole octet rest (bit_of_pair (get_or hs (2 * j) Idle) (get_or hs (2 * j + 1) Idle)) (bits_of (drop (2 * (j + 1)) hs)) is
    ∙ ap (λ xs. if_whole whole (option_map (all_shifted rest) (bits_of xs))) (sym (pair_at hs j h))
    ∙ e

-- all pairs are shifted in
pub shift_end : (hs : List Sym) (j rest : ℕ) (whole : Bool) (o : Option ℕ) → length hs ≤ 2 * j → if_whole whole (option_map (all_shifted rest) (bits_of (drop (2 * j) hs))) ≡ o → if_whole whole (Some rest) ≡ o
shift_end hs j rest whole o h is = sym (ap (λ xs. if_whole whole (option_map (all_shifted rest) (bits_of xs))) (drop_all (2 * j) hs h)) ∙ is
