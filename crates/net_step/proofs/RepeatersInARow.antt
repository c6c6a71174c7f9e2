-- The repeaters' steps, one after another, with their ports.
use Rattle.std.proofs.Common.{◌≡◌, ℕ, ◌+◌, ◌-◌, ◌<◌, ◌≤◌, List, [], ◌∷◌, ◌++◌, length, length-take-le, get_or, take, drop, set, sym, ap, ap₂, ◌∙◌, arith, append_assoc, refl}
use Rattle.std.specs.List.{flat_map}
use Rattle.std.proofs.lemmas.List.{at_drop_more, drop-drop, drop-set-lt, take_more_set}
use Rattle.std.proofs.lemmas.List.Sums.{sum_by-drop_more}
use Rattle.std.proofs.lemmas.Slice.{take-put_mid}
use borrow.Rule.Slice.PartMut.{put_mid}
use Rattle.manchester_line.specs.declared.Sym.{Sym}
use Rattle.repeater_core.specs.declared.repeater.RepeaterEvents.{RepeaterEvents}
use Rattle.repeater_core.specs.Step.{RepeaterDevice}
use Rattle.network.specs.Net.{each_repeater, ports_of}
use Rattle.net_step.specs.KeptNet.{all_told}
use Rattle.network.specs.Rows.{told_bodies}

-- the repeaters from k on, whose ports begin at `from`
pub each_more : {X : Type 0} (f : List Sym → RepeaterDevice → X) (heard : List Sym) (rs : List RepeaterDevice) (from k : ℕ) (r : RepeaterDevice) → k < length rs → r ≡ get_or rs k r →
    each_repeater f (drop from heard) (drop k rs) ≡ f (take (length r.guards) (drop from heard)) r ∷ each_repeater f (drop (from + length r.guards) heard) (drop (k + 1) rs)
each_more f heard rs from k r h e =
    at_drop_more (each_repeater f (drop from heard)) rs k r h
    ∙ ap (λ (x : RepeaterDevice). f (take (length x.guards) (drop from heard)) x ∷ each_repeater f (drop (length x.guards) (drop from heard)) (drop (k + 1) rs)) (sym e)
    ∙ ap (λ hs. f (take (length r.guards) (drop from heard)) r ∷ each_repeater f hs (drop (k + 1) rs)) (drop-drop (length r.guards) from heard)

pub ports_more : (rs : List RepeaterDevice) (k : ℕ) (r : RepeaterDevice) → k < length rs → r ≡ get_or rs k r → ports_of (drop k rs) ≡ length r.guards + ports_of (drop (k + 1) rs)
ports_more rs k r h e =
    sum_by-drop_more (λ (x : RepeaterDevice). length x.guards) rs k r h ∙ ap (λ (x : RepeaterDevice). length x.guards + ports_of (drop (k + 1) rs)) (sym e)

lines_more : (g : RepeaterDevice → List Sym) (rs : List RepeaterDevice) (k : ℕ) (r : RepeaterDevice) → k < length rs → r ≡ get_or rs k r → flat_map g (drop k rs) ≡ g r ++ flat_map g (drop (k + 1) rs)
lines_more g rs k r h e = at_drop_more (flat_map g) rs k r h ∙ ap (λ (x : RepeaterDevice). g x ++ flat_map g (drop (k + 1) rs)) (sym e)

-- one repeater more of those whose steps gave `before`
pub each_step : {X : Type 0} (f : List Sym → RepeaterDevice → X) (heard : List Sym) (rs : List RepeaterDevice) (before now : List X) (x : X) (from k n : ℕ) (r new : RepeaterDevice) → k < length rs → r ≡ get_or rs k r → n ≡ from + length r.guards →
    now ≡ before ++ x ∷ [] → x ≡ f (take (n - from) (drop from heard)) r →
    now ++ each_repeater f (drop n heard) (drop (k + 1) (set rs k new)) ≡ before ++ each_repeater f (drop from heard) (drop k rs)
each_step f heard rs before now x from k n r new h e m en ex =
    let place : n - from ≡ length r.guards = omega arith in
    let is : x ≡ f (take (length r.guards) (drop from heard)) r = ex ∙ ap (λ j. f (take j (drop from heard)) r) place in
    ap₂ (λ ys zs. ys ++ zs) en (ap₂ (each_repeater f) (ap (λ i. drop i heard) m) (drop-set-lt (k + 1) rs k new (omega arith)))
    ∙ append_assoc before (x ∷ []) (each_repeater f (drop (from + length r.guards) heard) (drop (k + 1) rs))
    ∙ ap (λ y. before ++ y ∷ each_repeater f (drop (from + length r.guards) heard) (drop (k + 1) rs)) is
    ∙ ap (λ ys. before ++ ys) (sym (each_more f heard rs from k r h e))

pub lines_step : (g : RepeaterDevice → List Sym) (emitted out : List Sym) (rs : List RepeaterDevice) (from k n : ℕ) (r new : RepeaterDevice) → k < length rs → r ≡ get_or rs k r → n ≡ from + length out → from ≤ length emitted → out ≡ g r →
    take n (put_mid from (n - from) emitted out) ++ flat_map g (drop (k + 1) (set rs k new)) ≡ take from emitted ++ flat_map g (drop k rs)
lines_step g emitted out rs from k n r new h e m fits is =
    ap₂ (λ xs ys. xs ++ flat_map g ys) (take-put_mid from (n - from) emitted out n m fits) (drop-set-lt (k + 1) rs k new (omega arith))
    ∙ append_assoc (take from emitted) out _
    ∙ ap (λ xs. take from emitted ++ (xs ++ flat_map g (drop (k + 1) rs))) is
    ∙ ap (λ xs. take from emitted ++ xs) (sym (lines_more g rs k r h e))

-- what is decided for the ports of one repeater more
pub decided_step : (f : List Sym → RepeaterDevice → List Sym) (heard row out : List Sym) (rs : List RepeaterDevice) (from k n : ℕ) (r new : RepeaterDevice) → k < length rs → r ≡ get_or rs k r → n ≡ from + length r.guards → length out ≡ length r.guards → from ≤ length row →
    out ≡ f (take (n - from) (drop from heard)) r →
    take n (put_mid from (n - from) row out) ++ flat_map (λ symbols. symbols) (each_repeater f (drop n heard) (drop (k + 1) (set rs k new)))
    ≡ take from row ++ flat_map (λ symbols. symbols) (each_repeater f (drop from heard) (drop k rs))
decided_step f heard row out rs from k n r new h e m many fits ex =
    let place : n - from ≡ length r.guards = omega arith in
    let is : out ≡ f (take (length r.guards) (drop from heard)) r = ex ∙ ap (λ j. f (take j (drop from heard)) r) place in
    let rest = each_repeater f (drop (from + length r.guards) heard) (drop (k + 1) rs) in
    ap₂ (λ (xs : List Sym) (ys : List (List Sym)). xs ++ flat_map (λ (symbols : List Sym). symbols) ys) (take-put_mid from (n - from) row out n (omega (arith, m, many)) fits)
    (ap₂ (each_repeater f) (ap (λ i. drop i heard) m) (drop-set-lt (k + 1) rs k new (omega arith)))
    ∙ append_assoc (take from row) out _
    ∙ ap (λ (xs : List Sym). take from row ++ (xs ++ flat_map (λ (symbols : List Sym). symbols) rest)) is
    ∙ ap (λ (ys : List (List Sym)). take from row ++ flat_map (λ (symbols : List Sym). symbols) ys) (sym (each_more f heard rs from k r h e))

-- what happens at one repeater more
all_told-snoc : (rs : List RepeaterDevice) (es : List RepeaterEvents) (r : RepeaterDevice) (e : RepeaterEvents) → length rs ≡ length es → all_told (rs ++ r ∷ []) (es ++ e ∷ []) ≡ all_told rs es ++ told_bodies (length r.guards) e ∷ []
all_told-snoc [] [] r e l = refl
all_told-snoc [] (y ∷ es) r e l = absurd (omega arith)
all_told-snoc (x ∷ rs) [] r e l = absurd (omega arith)
all_told-snoc (x ∷ rs) (y ∷ es) r e l = ap (λ bs. told_bodies (length x.guards) y ∷ bs) (all_told-snoc rs es r e (omega arith))

pub all_told-more : (rs : List RepeaterDevice) (es : List RepeaterEvents) (k : ℕ) (r : RepeaterDevice) (e : RepeaterEvents) → k < length rs → k < length es →
    all_told (take (k + 1) (set rs k r)) (take (k + 1) (set es k e)) ≡ all_told (take k rs) (take k es) ++ told_bodies (length r.guards) e ∷ []
all_told-more rs es k r e lr le =
    ap₂ all_told (take_more_set rs k r lr) (take_more_set es k e le) ∙ all_told-snoc (take k rs) (take k es) r e (omega (arith, length-take-le k rs (omega arith), length-take-le k es (omega arith)))
