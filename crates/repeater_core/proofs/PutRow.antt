-- A row that is put into a ring symbol by symbol.
use Rattle.std.proofs.Common.{◌≡◌, ℕ, zero, suc, ◌+◌, ◌<◌, Bool, true, false, cond, ◌++◌, [], ◌∷◌, List, length, map, take, drop, set, get_or, refl, sym, ap, ◌∙◌, append_assoc, arith}
use Rattle.std.proofs.lemmas.Grind.{common_steps, take-set_at}
use Rattle.std.proofs.lemmas.List.{take_more, drop-drop, length-map}
use Rattle.std.proofs.lemmas.List.Elements.{All-from_recursion}
use Rattle.std.specs.List.{All, AllByRecursion}
use Rattle.manchester_line.specs.declared.Sym.{Sym}
use Rattle.manchester_line.specs.declared.Sym.TheVariants.{Idle}
use Rattle.manchester_line.specs.Line.{is_signal}
use Rattle.repeater_core.specs.Steady.{texted}

pub put_one : (h k : ℕ) (old new ds : List Sym) → h + k < length new → k < length ds → take (h + k) new ≡ take h old ++ take k ds
    → take (h + (k + 1)) (set new (h + k) (get_or ds k Idle)) ≡ take h old ++ take (k + 1) ds
put_one h k old new ds l m e =
    take-set_at new (h + k) (h + (k + 1)) (get_or ds k Idle) (omega arith) l ∙ ap (λ xs. xs ++ get_or ds k Idle ∷ []) e
    ∙ append_assoc (take h old) (take k ds) (get_or ds k Idle ∷ []) ∙ ap (λ xs. take h old ++ xs) (sym (take_more ds k Idle m))

rest_left : (i : ℕ) (old new : List Sym) (s : Sym) → drop i new ≡ drop i old → drop (i + 1) (set new i s) ≡ drop (i + 1) old
rest_left i old new s e =
    let kept : drop (i + 1) (set new i s) ≡ drop (i + 1) new = grind (arith, common_steps) in
    kept ∙ sym (drop-drop 1 i new) ∙ ap (drop 1) e ∙ drop-drop 1 i old

pub leave_rest : (h k : ℕ) (old new : List Sym) (s : Sym) → drop (h + k) new ≡ drop (h + k) old → drop (h + (k + 1)) (set new (h + k) s) ≡ drop (h + (k + 1)) old
leave_rest h k old new s e =
    let more : h + (k + 1) ≡ h + k + 1 = omega arith in
    ap (λ n. drop n (set new (h + k) s)) more ∙ rest_left (h + k) old new s e ∙ sym (ap (λ n. drop n old) more)

pub text_put : (k : ℕ) (flags : List Sym) (text d : Sym) → k < length flags → get_or (texted (map is_signal flags) text) k Idle ≡ cond (is_signal (get_or flags k d)) text Idle
text_put k [] text d l = absurd (omega arith)
text_put zero (x ∷ flags) text d l = refl
text_put (suc k) (x ∷ flags) text d l = text_put k flags text d (omega arith)

pub texted_length : (flags : List Sym) (text : Sym) → length (texted (map is_signal flags) text) ≡ length flags
texted_length flags text = length-map (map is_signal flags) _ ∙ length-map flags is_signal

idle_either : (b : Bool) (text : Sym) → text ≡ Idle → cond b text Idle ≡ Idle
idle_either true text e = e
idle_either false text e = refl

idle_texts : (bs : List Bool) (text : Sym) → text ≡ Idle → AllByRecursion (λ s. s ≡ Idle) (texted bs text)
idle_texts [] text e = tt
idle_texts (b ∷ bs) text e = (idle_either b text e, idle_texts bs text e)

pub all_idle_texts : (bs : List Bool) (text : Sym) → text ≡ Idle → All (λ s. s ≡ Idle) (texted bs text)
all_idle_texts bs text e = All-from_recursion (λ s. s ≡ Idle) (texted bs text) (idle_texts bs text e)
