-- What is written of a sending, symbol by symbol and octet by octet.
use Rattle.std.proofs.Common.{◌≡◌, ◌≢◌, ℕ, suc, ◌+◌, ◌-◌, ◌*◌, ◌/◌, ◌%◌, ◌^◌, ◌<◌, ◌≤◌, true, false, eqb, inl, inr, None, List, [], ◌∷◌, ◌++◌, length, take, drop, set, get_or, get_or-set_same, length-set, length-append, length-drop, length-take-le, append_assoc, refl, sym, subst, ap, ap₂, ◌∙◌, arith}
use Rattle.std.proofs.lemmas.List.{get_or-set_other, get_or_default, same_lists, take_more_set, take_all, take_at, drop_all, drop-drop, append-nil}
use Rattle.std.proofs.lemmas.Bool.{cases_lt}
use Rattle.std.proofs.lemmas.Slice.{take-put_mid}
use borrow.Rule.Slice.PartMut.{put_mid, same_len_mid}
use Rattle.mac_parameters.specs.Parameters.{half_bits_an_octet, preamble_length}
use Rattle.manchester_line.specs.declared.Sym.{Sym}
use Rattle.manchester_line.specs.declared.Sym.TheVariants.{Idle, Hi, Lo, Clash}
use Rattle.manchester_line.specs.Line.{is_signal, half_at, preamble_at, bit_halves, octet_halves, line}
use Rattle.manchester_line.proofs.Places.{length_line, length_octet_halves, octet_halves_at, line_at_preamble, line_at_octet}
use Rattle.mac_transmit.specs.Sender.{line_at, line_length}
use Rattle.mac_transmit.proofs.SignalSendings.{symbol_busy}
use Rattle.net_parts.specs.Machines.{span}
use Rattle.net_parts.proofs.RepeaterSteps.{length-span, get_or-span}
use Rattle.tap_lines.proofs.Spans.{span_two}
use Rattle.tap_lines.proofs.LinesAhead.{span_alike}

-- two writes, one after the other
take_two_set : (xs : List Sym) (i : ℕ) (a b : Sym) → i + 1 < length xs → take (i + 1 + 1) (set (set xs i a) (i + 1) b) ≡ take i xs ++ a ∷ b ∷ []
take_two_set xs i a b h =
    take_more_set (set xs i a) (i + 1) b (omega (arith, length-set xs i a))
    ∙ ap (λ ys. ys ++ b ∷ []) (take_more_set xs i a (omega arith))
    ∙ append_assoc (take i xs) (a ∷ []) (b ∷ [])

-- one more bit
pub halves_step : (out : List Sym) (j rest n : ℕ) (a b : Sym) → 2 * j + 1 < length out → 8 - j ≡ suc n → a ≡ half_at (eqb (rest % 2) 1) false → b ≡ half_at (eqb (rest % 2) 1) true →
    take (2 * (j + 1)) (set (set out (2 * j) a) (2 * j + 1) b) ++ bit_halves (8 - (j + 1)) (rest / 2) ≡ take (2 * j) out ++ bit_halves (8 - j) rest
halves_step out j rest n a b h e ea eb =
    let two : 2 * (j + 1) ≡ 2 * j + 1 + 1 = omega arith in
    let less : 8 - (j + 1) ≡ n = omega arith in
    ap₂ (λ i m. take i (set (set out (2 * j) a) (2 * j + 1) b) ++ bit_halves m (rest / 2)) two less
    ∙ ap (λ ys. ys ++ bit_halves n (rest / 2)) (take_two_set out (2 * j) a b h)
    ∙ append_assoc (take (2 * j) out) (a ∷ b ∷ []) (bit_halves n (rest / 2))
    ∙ ap₂ (λ x y. take (2 * j) out ++ x ∷ y ∷ bit_halves n (rest / 2)) ea eb
    ∙ ap (λ m. take (2 * j) out ++ bit_halves m rest) (sym e)

pub halves_all : (out : List Sym) (j rest n x : ℕ) → length out ≡ 2 * n → j ≡ n → take (2 * j) out ++ bit_halves (n - j) rest ≡ bit_halves n x → out ≡ bit_halves n x
halves_all out j rest n x l e h =
    let none : n - j ≡ 0 = omega arith in
    sym (take_all (2 * j) out (omega arith)) ∙ sym (append-nil (take (2 * j) out)) ∙ ap (λ m. take (2 * j) out ++ bit_halves m rest) (sym none) ∙ h

-- a piece in which each place has its symbol, from position p on
pub all_written : (f : ℕ → Sym) (xs : List Sym) (p n : ℕ) → length xs ≡ n → ((i : ℕ) → i < n → get_or xs i Idle ≡ f (p + i)) → xs ≡ span f p n
all_written f xs p n len all =
    same_lists xs (span f p n) (len ∙ sym (length-span f p n)) (λ i d l.
    let in_it : i < n = omega (arith, l, len) in
    get_or_default xs i d Idle l ∙ all i in_it ∙ sym (get_or-span f p n i d in_it))

-- one more symbol
pub one_more : (f : ℕ → Sym) (xs : List Sym) (p j : ℕ) (s : Sym) → j < length xs → s ≡ f (p + j) → ((i : ℕ) → i < j → get_or xs i Idle ≡ f (p + i)) → (i : ℕ) → i < j + 1 → get_or (set xs j s) i Idle ≡ f (p + i)
one_more f xs p j s h is all i l = elim (cases_lt i j) [
  | inl before ↦ get_or-set_other xs j i s Idle (λ e. omega (arith, e, before)) ∙ all i before
  | inr now ↦
      let e : j ≡ i = omega (arith, l, now) in
      subst (λ z. get_or (set xs j s) z Idle ≡ f (p + z)) e (get_or-set_same xs j s Idle h ∙ is)
]

pub line_symbol : (octets : List ℕ) (p : ℕ) (s : Sym) → s ≡ get_or (line octets) p Idle → s ≡ line_at octets p
unfolding line_at
line_symbol octets p s h = h

pub text_length : (octets : List ℕ) → line_length octets ≡ preamble_length + half_bits_an_octet * length octets
unfolding line_length
text_length octets = length_line octets

-- the preamble is the front of each text
pub header_text : (octets : List ℕ) (p n : ℕ) → n ≤ preamble_length - p → span preamble_at p n ≡ span (line_at octets) p n
unfolding line_at
header_text octets p n h = span_alike preamble_at (line_at octets) p p n (λ i l. sym (line_at_preamble octets (p + i) (omega (arith, l, h))))

pub header_piece : (octets : List ℕ) (xs a : List Sym) (p i : ℕ) → i ≤ length xs → i ≤ preamble_length - p → a ≡ span preamble_at p (length (take i xs)) → a ≡ span (line_at octets) p (length (take i xs))
header_piece octets xs a p i h l ea =
    let len = length-take-le i xs h in
    ea ∙ header_text octets p (length (take i xs)) (omega (arith, len, l))

-- an octet's half bits stand in the text
octet_text : (octets : List ℕ) (p k : ℕ) → p ≡ preamble_length + half_bits_an_octet * k → k < length octets → octet_halves (get_or octets k 0) ≡ span (line_at octets) p half_bits_an_octet
unfolding line_at
octet_text octets p k e h = all_written (line_at octets) (octet_halves (get_or octets k 0)) p half_bits_an_octet (length_octet_halves (get_or octets k 0)) (λ i l.
    let j : ℕ = half_bits_an_octet * k + i in
    let place : j / half_bits_an_octet ≡ k = omega (arith, l) in
    let bit : j % half_bits_an_octet ≡ i = omega (arith, l) in
    let half : j % 2 ≡ i % 2 = omega arith in
    octet_halves_at (get_or octets k 0) i l
    ∙ ap₂ (λ a b. half_at (eqb (get_or octets a 0 / 2 ^ (b / 2) % 2) 1) (eqb (i % 2) 1)) (sym place) (sym bit)
    ∙ ap (λ a. half_at (eqb (get_or octets (j / half_bits_an_octet) 0 / 2 ^ (j % half_bits_an_octet / 2) % 2) 1) (eqb a 1)) (sym half)
    ∙ sym (line_at_octet octets (p + i) j (omega (arith, e)) (omega (arith, e)) (omega (arith, h, l))))

-- one more octet of a piece
pub octet_more : (octets : List ℕ) (xs new : List Sym) (p at k m : ℕ) → p + at ≡ preamble_length + half_bits_an_octet * k → k < length octets → at ≤ length xs → m ≡ at + half_bits_an_octet →
    new ≡ octet_halves (get_or octets k 0) → take at xs ≡ span (line_at octets) p at → take m (put_mid at (m - at) xs new) ≡ span (line_at octets) p m
octet_more octets xs new p at k m e h l more is text =
    let f = line_at octets in
    let size : length new ≡ half_bits_an_octet = ap length is ∙ length_octet_halves (get_or octets k 0) in
    take-put_mid at (m - at) xs new m (omega (arith, size, more)) l
    ∙ ap₂ ◌++◌ text (is ∙ octet_text octets (p + at) k e h)
    ∙ sym (span_two f p at half_bits_an_octet)
    ∙ ap (span f p) (sym more)

-- a write to the rest of a piece
put_rest : (k m : ℕ) (xs ys : List Sym) → length xs ≤ k + m → put_mid k m xs ys ≡ take k xs ++ ys
put_rest k m xs ys h =
    ap (λ zs. take k xs ++ (ys ++ zs)) (drop-drop m k xs ∙ drop_all (k + m) xs h)
    ∙ ap (λ zs. take k xs ++ zs) (append-nil ys)

pub length_put : (k m : ℕ) (xs ys : List Sym) → k + m ≤ length xs → length ys ≡ m → length (put_mid k m xs ys) ≡ length xs
length_put k m xs ys h size = same_len_mid k m xs ys (size ∙ sym (length-take-le m (drop k xs) (let d = length-drop k xs in omega (arith, d, h))))

-- the front of a piece is written
front_size : (f : ℕ → Sym) (xs a : List Sym) (p i : ℕ) → i ≤ length xs → a ≡ span f p (length (take i xs)) → length (a ++ drop i xs) ≡ length xs
front_size f xs a p i h ea =
    let size_a = ap length ea ∙ length-span f p (length (take i xs)) ∙ length-take-le i xs h in
    let sum = length-append a (drop i xs) in
    let rest = length-drop i xs in
    omega (arith, sum, size_a, rest, h)

front_text : (f : ℕ → Sym) (xs a : List Sym) (p i : ℕ) → i ≤ length xs → a ≡ span f p (length (take i xs)) → take i (a ++ drop i xs) ≡ span f p i
front_text f xs a p i h ea =
    let len = length-take-le i xs h in
    take_at a (drop i xs) i (ap length ea ∙ length-span f p (length (take i xs)) ∙ len) ∙ ea ∙ ap (span f p) len

-- a piece is written up to place i, and then up to place k
more_text : (f : ℕ → Sym) (xs b : List Sym) (p i k : ℕ) → i ≤ k → k ≤ length xs → take i xs ≡ span f p i → b ≡ span f (p + i) (length (take (k - i) (drop i xs))) → take k (put_mid i (k - i) xs b) ≡ span f p k
more_text f xs b p i k h l text eb =
    let d = length-drop i xs in
    let size : length (take (k - i) (drop i xs)) ≡ k - i = length-take-le (k - i) (drop i xs) (omega (arith, d, h, l)) in
    let size_b : length b ≡ k - i = ap length eb ∙ length-span f (p + i) (length (take (k - i) (drop i xs))) ∙ size in
    let whole : i + (k - i) ≡ k = omega (arith, h) in
    take-put_mid i (k - i) xs b k (omega (arith, h, size_b)) (omega (arith, h, l))
    ∙ ap₂ ◌++◌ text (eb ∙ ap (span f (p + i)) size)
    ∙ sym (span_two f p i (k - i))
    ∙ ap (span f p) whole

-- and then up to its end
rest_text : (f : ℕ → Sym) (xs b : List Sym) (p k : ℕ) → k ≤ length xs → take k xs ≡ span f p k → b ≡ span f (p + k) (length (take (length xs - k) (drop k xs))) → put_mid k (length xs - k) xs b ≡ span f p (length xs)
rest_text f xs b p k h text eb =
    let d = length-drop k xs in
    let size : length (take (length xs - k) (drop k xs)) ≡ length xs - k = length-take-le (length xs - k) (drop k xs) (omega (arith, d)) in
    let whole : k + (length xs - k) ≡ length xs = omega (arith, h) in
    put_rest k (length xs - k) xs b (omega (arith, h))
    ∙ ap₂ ◌++◌ text (eb ∙ ap (span f (p + k)) size)
    ∙ sym (span_two f p k (length xs - k))
    ∙ ap (span f p) whole

-- a piece written in two parts, and in three
pub two_parts : (f : ℕ → Sym) (xs a b : List Sym) (p i : ℕ) → i ≤ length xs → a ≡ span f p (length (take i xs)) →
    b ≡ span f (p + i) (length (take (length (a ++ drop i xs) - i) (drop i (a ++ drop i xs)))) → put_mid i (length (a ++ drop i xs) - i) (a ++ drop i xs) b ≡ span f p (length xs)
two_parts f xs a b p i h ea eb =
    let size = front_size f xs a p i h ea in
    rest_text f (a ++ drop i xs) b p i (omega (arith, size, h)) (front_text f xs a p i h ea) eb ∙ ap (span f p) size

pub three_parts : (f : ℕ → Sym) (xs a b c : List Sym) (p i k : ℕ) → i ≤ k → k ≤ length xs → a ≡ span f p (length (take i xs)) → b ≡ span f (p + i) (length (take (k - i) (drop i (a ++ drop i xs)))) →
    c ≡ span f (p + k) (length (take (length (put_mid i (k - i) (a ++ drop i xs) b) - k) (drop k (put_mid i (k - i) (a ++ drop i xs) b)))) →
    put_mid k (length (put_mid i (k - i) (a ++ drop i xs) b) - k) (put_mid i (k - i) (a ++ drop i xs) b) c ≡ span f p (length xs)
three_parts f xs a b c p i k h l ea eb ec =
    let first = a ++ drop i xs in
    let second = put_mid i (k - i) first b in
    let near : i ≤ length xs = omega (arith, h, l) in
    let size : length first ≡ length xs = front_size f xs a p i near ea in
    let size_b = ap length eb ∙ length-span f (p + i) (length (take (k - i) (drop i first))) in
    let len : length second ≡ length xs = same_len_mid i (k - i) first b size_b ∙ size in
    rest_text f second c p k (omega (arith, len, l)) (more_text f first b p i k h (omega (arith, size, l)) (front_text f xs a p i near ea) eb) ec ∙ ap (span f p) len

-- the front is all of the piece
pub one_part : (f : ℕ → Sym) (xs a : List Sym) (p i : ℕ) → i ≤ length xs → length (a ++ drop i xs) ≤ i → a ≡ span f p (length (take i xs)) → a ++ drop i xs ≡ span f p (length xs)
one_part f xs a p i h l ea =
    let size = front_size f xs a p i h ea in
    let all : i ≡ length xs = omega (arith, size, h, l) in
    sym (take_all i (a ++ drop i xs) l) ∙ front_text f xs a p i h ea ∙ ap (span f p) all

-- what is no Idle is a signal
pub signal : (s : Sym) → s ≢ Idle → is_signal s ≡ true
signal Idle h = absurd (h refl)
signal Hi h = refl
signal Lo h = refl
signal Clash h = refl

pub text_signal : (octets : List ℕ) (p : ℕ) → p < preamble_length + half_bits_an_octet * length octets → is_signal (line_at octets p) ≡ true
text_signal octets p h = signal (line_at octets p) (symbol_busy octets None p tt (omega (arith, h, text_length octets)))

-- the front of a piece, as positions from p on
pub front_written : (octets : List ℕ) (xs a : List Sym) (p k : ℕ) → k ≤ length xs → a ≡ span (line_at octets) p (length (take k xs)) → take k (a ++ drop k xs) ≡ span (λ j. line_at octets (p + j)) 0 k
front_written octets xs a p k h is =
    front_text (line_at octets) xs a p k h is
    ∙ span_alike (line_at octets) (λ j. line_at octets (p + j)) p 0 k (λ i l. let e : p + i ≡ p + (0 + i) = omega arith in ap (line_at octets) e)
