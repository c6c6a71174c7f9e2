-- What is written of a line text, bit by bit and octet by octet.
use Rattle.std.proofs.Common.{◌≡◌, ℕ, suc, ◌+◌, ◌-◌, ◌*◌, ◌/◌, ◌%◌, ◌<◌, ◌≤◌, true, false, eqb, List, [], ◌∷◌, ◌++◌, length, get_or, take, drop, set, sym, ap, ap₂, ◌∙◌, arith, append_assoc, length-set}
use Rattle.std.proofs.lemmas.List.{take_more_set, take_more, flat_map_more, take_all, append-nil, drop-drop}
use Rattle.std.proofs.lemmas.Slice.{take-put_mid, drop-put_mid}
use borrow.Rule.Slice.PartMut.{put_mid}
use Rattle.manchester_line.specs.declared.Sym.{Sym}
use Rattle.manchester_line.specs.Line.{half_at, bit_halves, preamble, octet_halves, line}
use Rattle.mac_parameters.specs.Parameters.{half_bits_an_octet}

-- two writes, one after the other
take_two_set : (xs : List Sym) (i : ℕ) (a b : Sym) → i + 1 < length xs → take (i + 1 + 1) (set (set xs i a) (i + 1) b) ≡ take i xs ++ a ∷ b ∷ []
take_two_set xs i a b h =
    take_more_set (set xs i a) (i + 1) b (omega (arith, length-set xs i a))
    ∙ ap (λ ys. ys ++ b ∷ []) (take_more_set xs i a (omega arith))
    ∙ append_assoc (take i xs) (a ∷ []) (b ∷ [])

-- one more bit
pub halves_step : (out : List Sym) (j rest n : ℕ) (a b : Sym) → 2 * j + 1 < length out → 8 - j ≡ suc n → a ≡ half_at (eqb (rest % 2) 1) false → b ≡ half_at (eqb (rest % 2) 1) true →
    take (2 * (j + 1)) (set (set out (2 * j) a) (2 * j + 1) b) ++ bit_halves (8 - (j + 1)) (rest / 2) ≡ take (2 * j) out ++ bit_halves (8 - j) rest
halves_step out j rest n a b h e ea eb =
    let two : 2 * (j + 1) ≡ 2 * j + 1 + 1 = omega arith in
    let less : 8 - (j + 1) ≡ n = omega arith in
    ap₂ (λ i m. take i (set (set out (2 * j) a) (2 * j + 1) b) ++ bit_halves m (rest / 2)) two less
    ∙ ap (λ ys. ys ++ bit_halves n (rest / 2)) (take_two_set out (2 * j) a b h)
    ∙ append_assoc (take (2 * j) out) (a ∷ b ∷ []) (bit_halves n (rest / 2))
    ∙ ap₂ (λ x y. take (2 * j) out ++ x ∷ y ∷ bit_halves n (rest / 2)) ea eb
    ∙ ap (λ m. take (2 * j) out ++ bit_halves m rest) (sym e)

-- one more octet
pub line_step : (octets : List ℕ) (i : ℕ) → i < length octets → line (take i octets) ++ octet_halves (get_or octets i 0) ≡ line (take (i + 1) octets)
line_step octets i h = flat_map_more octet_halves preamble (take i octets) (get_or octets i 0) ∙ ap line (sym (take_more octets i 0 h))

pub halves_all : (out : List Sym) (j rest n x : ℕ) → length out ≡ 2 * n → j ≡ n → take (2 * j) out ++ bit_halves (n - j) rest ≡ bit_halves n x → out ≡ bit_halves n x
halves_all out j rest n x l e h =
    let none : n - j ≡ 0 = omega arith in
    sym (take_all (2 * j) out (omega arith)) ∙ sym (append-nil (take (2 * j) out)) ∙ ap (λ m. take (2 * j) out ++ bit_halves m rest) (sym none) ∙ h

-- what is written and what is left, an octet on
pub text_step : (octets : List ℕ) (out new : List Sym) (at i x n : ℕ) → n ≡ at + half_bits_an_octet → at + half_bits_an_octet ≤ length out → length new ≡ n - at → i < length octets → x ≡ get_or octets i 0 → new ≡ octet_halves x → take at out ≡ line (take i octets) → take n (put_mid at (n - at) out new) ≡ line (take (i + 1) octets)
text_step octets out new at i x n m room len h e is text =
    take-put_mid at (n - at) out new n (omega arith) (omega arith)
    ∙ ap₂ ◌++◌ text (is ∙ ap octet_halves e)
    ∙ line_step octets i h

pub rest_step : (out new first : List Sym) (at n : ℕ) → n ≡ at + half_bits_an_octet → at + half_bits_an_octet ≤ length out → length new ≡ n - at → drop at out ≡ drop at first → drop n (put_mid at (n - at) out new) ≡ drop n first
rest_step out new first at n m room len rest =
    drop-put_mid at (n - at) out new n (omega arith) (omega arith) len
    ∙ ap (λ i. drop i out) m ∙ sym (drop-drop half_bits_an_octet at out) ∙ ap (drop half_bits_an_octet) rest ∙ drop-drop half_bits_an_octet at first ∙ ap (λ i. drop i first) (sym m)
