-- Lines that are extended and slide.
use Rattle.std.proofs.Common.{◌≡◌, ℕ, zero, suc, min, ◌+◌, ◌-◌, ◌<◌, ◌≤◌, List, [], ◌∷◌, ◌++◌, replicate, take, drop, length, length-append, length-drop, length-take-le, get_or, sym, ap, ◌∙◌, arith}
use Rattle.std.proofs.lemmas.List.{length-replicate, drop-replicate, same_lists, get_or-take, get_or-drop}
use Rattle.manchester_line.specs.declared.Sym.{Sym}
use Rattle.manchester_line.specs.declared.Sym.TheVariants.{Idle}
use Rattle.tap_lines.specs.TapLines.{TapLine, dropped_from}

-- what is dropped of symbols with Idle behind them
drop_both : (k : ℕ) (xs ys : List Sym) → drop k (xs ++ ys) ≡ drop k xs ++ drop (k - length xs) ys
drop_both zero xs ys = let e : 0 ≡ 0 - length xs = omega arith in ap (λ n. xs ++ drop n ys) e
drop_both (suc k) [] ys = let e : suc k ≡ suc k - 0 = omega arith in ap (λ n. drop n ys) e
drop_both (suc k) (x ∷ xs) ys = let e : k - length xs ≡ suc k - suc (length xs) = omega arith in drop_both k xs ys ∙ ap (λ n. drop k xs ++ drop n ys) e

-- a line whose Idle at its end isn't written, after its first symbols were dropped
pub dropped_unwritten : (at delay backlog base room q q' gone : ℕ) (xs xs' : List Sym) → xs' ≡ drop gone xs → q' ≡ q - (gone - min gone (length xs)) → (room' : ℕ) → room' ≡ room + gone →
    ◌≡◌ {A = TapLine} (record { at = at; delay = delay; backlog = backlog; base = base + gone; symbols = xs' ++ replicate q' Idle; room = room' })
    (dropped_from gone (record { at = at; delay = delay; backlog = backlog; base = base; symbols = xs ++ replicate q Idle; room = room }))
dropped_unwritten at delay backlog base room q q' gone xs xs' rest left room' more =
    let few : q - (gone - length xs) ≡ q' = omega (arith, left) in
    let symbols : xs' ++ replicate q' Idle ≡ drop gone (xs ++ replicate q Idle) =
    ap (λ ys. ys ++ replicate q' Idle) rest
    ∙ ap (λ m. drop gone xs ++ replicate m Idle) (sym few)
    ∙ ap (λ ys. drop gone xs ++ ys) (sym (drop-replicate (gone - length xs) q Idle))
    ∙ sym (drop_both gone xs (replicate q Idle)) in
    (λ i. record { at = at; delay = delay; backlog = backlog; base = base + gone; symbols = symbols i; room = more i })

-- how many symbols it has
pub unwritten_size : (q : ℕ) (xs : List Sym) → length (xs ++ replicate q Idle) ≡ length xs + q
unwritten_size q xs = length-append xs (replicate q Idle) ∙ ap (λ m. length xs + m) (length-replicate q Idle)

-- a buffer whose written symbols have moved to its front, but for the first of them
pub moved_front : (old new : List Sym) (w first gone : ℕ) → w ≤ length old → first ≡ min gone w → length new ≡ length old →
    ((k : ℕ) (d : Sym) → k < w - first → get_or new k d ≡ get_or old (first + k) d) → take (w - first) new ≡ drop gone (take w old)
moved_front old new w first gone within is len moved =
    let n = w - first in
    let size = length-take-le n new (omega (arith, within, len)) in
    let long = length-take-le w old within in
    let short = length-drop gone (take w old) in
    same_lists (take n new) (drop gone (take w old)) (omega (arith, size, short, long, is)) (λ j d h.
    let in_it : j < n = omega (arith, h, size) in
    let there : gone + j < w = omega (arith, in_it, is) in
    let e : first + j ≡ gone + j = omega (arith, in_it, is) in
    get_or-take n new j d in_it
    ∙ moved j d in_it
    ∙ ap (λ i. get_or old i d) e
    ∙ sym (get_or-take w old (gone + j) d there)
    ∙ sym (get_or-drop gone (take w old) j d))
