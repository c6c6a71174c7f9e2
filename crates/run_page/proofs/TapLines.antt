-- The lines of taps, of which a loop makes one after the other, and of taps that are told in two parts.
use Rattle.std.proofs.Common.{◌≡◌, ℕ, suc, ◌+◌, ◌-◌, ◌<◌, ◌≤◌, List, [], ◌∷◌, ◌++◌, get_or, take, drop, length, map, refl, sym, ap, ◌∙◌, arith, append_assoc, length-append}
use Rattle.std.specs.List.{flat_map, range_with_len}
use Rattle.std.proofs.lemmas.List.{at_drop_more, length-drop, length-map}
use Rattle.std.proofs.lemmas.List.FromFn.{length-range_with_len}
use Rattle.layout.specs.declared.lines.Layout.{Layout}
use Rattle.layout.specs.declared.lines.RepeaterLine.{RepeaterLine}
use Rattle.layout.specs.declared.ways.Attachment.{Attachment}
use Rattle.layout.specs.declared.ways.Attachment.TheVariants.{Port}
use Rattle.tap_signals.specs.Taps.{ports_from}
use Rattle.tap_signals.specs.declared.stretch.Stretch.{Stretch}
use Rattle.run_page.specs.SignalLines.{lines_of_taps, signal_line, word_of_tap}

next_tap : (l : Layout) (f : ℕ → Attachment) (lists : List (List Stretch)) (k : ℕ) → k < length lists
    → lines_of_taps l (map f (range_with_len k (length lists - k))) (drop k lists)
    ≡ flat_map (signal_line (word_of_tap l (f k))) (get_or lists k []) ++ lines_of_taps l (map f (range_with_len (k + 1) (length lists - (k + 1)))) (drop (k + 1) lists)
next_tap l f lists k within =
    let left : length lists - k ≡ suc (length lists - (k + 1)) = omega arith in
    ap (λ (n : ℕ). lines_of_taps l (map f (range_with_len k n)) (drop k lists)) left
    ∙ at_drop_more (lines_of_taps l (map f (range_with_len k (suc (length lists - (k + 1)))))) lists k [] within

-- one tap more
pub tap_added : (l : Layout) (f : ℕ → Attachment) (lists : List (List Stretch)) (k : ℕ) (stretches : List Stretch) (start old new : List ℕ) → k < length lists → stretches ≡ get_or lists k []
    → new ≡ old ++ flat_map (signal_line (word_of_tap l (f k))) stretches
    → old ++ lines_of_taps l (map f (range_with_len k (length lists - k))) (drop k lists) ≡ start
    → new ++ lines_of_taps l (map f (range_with_len (k + 1) (length lists - (k + 1)))) (drop (k + 1) lists) ≡ start
tap_added l f lists k stretches start old new within is made so_far =
    let rest : List ℕ = lines_of_taps l (map f (range_with_len (k + 1) (length lists - (k + 1)))) (drop (k + 1) lists) in
    let line : List Stretch → List ℕ = λ xs. flat_map (signal_line (word_of_tap l (f k))) xs in
    ap (λ xs. xs ++ rest) (made ∙ ap (λ xs. old ++ line xs) is)
    ∙ append_assoc old (line (get_or lists k [])) rest
    ∙ ap (λ xs. old ++ xs) (sym (next_tap l f lists k within))
    ∙ so_far

no_lists : (l : Layout) (taps : List Attachment) → lines_of_taps l taps [] ≡ []
no_lists l [] = refl
no_lists l (tap ∷ taps) = refl

split_taps : (l : Layout) (a b : List Attachment) (lists : List (List Stretch))
    → lines_of_taps l (a ++ b) lists ≡ lines_of_taps l a (take (length a) lists) ++ lines_of_taps l b (drop (length a) lists)
split_taps l [] b [] = refl
split_taps l [] b (x ∷ lists) = refl
split_taps l (tap ∷ a) b [] = sym (no_lists l b)
split_taps l (tap ∷ a) b (x ∷ lists) =
    ap (λ xs. flat_map (signal_line (word_of_tap l tap)) x ++ xs) (split_taps l a b lists)
    ∙ sym (append_assoc (flat_map (signal_line (word_of_tap l tap)) x) (lines_of_taps l a (take (length a) lists)) (lines_of_taps l b (drop (length a) lists)))

length-taps : (f : ℕ → Attachment) (n : ℕ) → length (map f (range_with_len 0 n)) ≡ n
length-taps f n = length-map (range_with_len 0 n) f ∙ length-range_with_len 0 n

-- there are enough lists for the first taps, and as many more as there are other taps
pub enough : (f : ℕ → Attachment) (n : ℕ) (more : List Attachment) (lists : List (List Stretch)) → length lists ≡ length (map f (range_with_len 0 n) ++ more) → n ≤ length lists
enough f n more lists many = omega (arith, many, length-append (map f (range_with_len 0 n)) more, length-taps f n)

pub others : (f : ℕ → Attachment) (n : ℕ) (more : List Attachment) (lists rest : List (List Stretch)) → rest ≡ drop n lists → length lists ≡ length (map f (range_with_len 0 n) ++ more) → length rest ≡ length more
others f n more lists rest is many = omega (arith, many, ap length is, length-drop n lists, length-append (map f (range_with_len 0 n)) more, length-taps f n)

-- the lines of the first taps were made, and those of the other ones are left
pub taps_added : (l : Layout) (f : ℕ → Attachment) (n : ℕ) (more : List Attachment) (lists first rest : List (List Stretch)) (start old new : List ℕ) → first ≡ take n lists → rest ≡ drop n lists → length first ≡ n
    → new ≡ old ++ lines_of_taps l (map f (range_with_len 0 (length first))) first
    → old ++ lines_of_taps l (map f (range_with_len 0 n) ++ more) lists ≡ start
    → new ++ lines_of_taps l more rest ≡ start
taps_added l f n more lists first rest start old new first_is rest_is many made so_far =
    let taps : List Attachment = map f (range_with_len 0 n) in
    let whole : lines_of_taps l (taps ++ more) lists ≡ lines_of_taps l taps (take n lists) ++ lines_of_taps l more (drop n lists) =
    split_taps l taps more lists ∙ ap (λ (k : ℕ). lines_of_taps l taps (take k lists) ++ lines_of_taps l more (drop k lists)) (length-taps f n) in
    let new_is : new ≡ old ++ lines_of_taps l taps (take n lists) =
    made ∙ ap (λ (k : ℕ). old ++ lines_of_taps l (map f (range_with_len 0 k)) first) many ∙ ap (λ xs. old ++ lines_of_taps l taps xs) first_is in
    ap (λ xs. xs ++ lines_of_taps l more rest) new_is
    ∙ ap (λ xs. (old ++ lines_of_taps l taps (take n lists)) ++ lines_of_taps l more xs) rest_is
    ∙ append_assoc old (lines_of_taps l taps (take n lists)) (lines_of_taps l more (drop n lists))
    ∙ ap (λ xs. old ++ xs) (sym whole)
    ∙ so_far

-- the ports of the r-th repeater come before those of the next ones
pub next_repeater : (r : ℕ) (rs : List RepeaterLine) (d : RepeaterLine) → r < length rs
    → ports_from r (drop r rs) ≡ map (Port r) (range_with_len 0 (length (get_or rs r d).ports)) ++ ports_from (r + 1) (drop (r + 1) rs)
next_repeater r rs d within = at_drop_more (ports_from r) rs r d within
