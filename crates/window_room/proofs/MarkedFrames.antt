-- What a frame more leaves of the frames before it.
use Rattle.std.proofs.Common.{◌≡◌, ℕ, zero, suc, ◌+◌, ◌-◌, ◌<◌, ◌≤◌, List, [], ◌∷◌, ◌++◌, length, take, drop, refl, sym, ap, subst, ◌∙◌, arith, All}
use Rattle.std.specs.Prelude.{slice_range, slice_index_or}
use Rattle.std.proofs.lemmas.List.{take-append-le, take_all, drop-append-le, length-drop, length-set}
use Rattle.std.proofs.lemmas.List.Elements.{All-push}
use Rattle.std.proofs.Math.Seq.{drop-append_seam}
use Rattle.network.specs.declared.outputs.Taken.{Taken}
use Rattle.window_room.specs.Rooms.{captures_with}
use Rattle.window_room.specs.FreshFrames.{frame_marked, captures_marked, IsMark}
use Rattle.window_room.specs.declared.frames.Mark.{Mark}

same_slice : (xs ys : List ℕ) (s e : ℕ) → s ≤ e → e ≤ length xs → slice_range (xs ++ ys) s e ≡ slice_range xs s e
same_slice xs ys s e a b =
    ap (take (e - s)) (drop-append-le s xs ys (omega (arith, a, b)))
    ∙ take-append-le (e - s) (drop s xs) ys (omega (arith, b, length-drop s xs))

last_slice : (xs ys : List ℕ) (s e : ℕ) → s ≡ length xs → e ≡ length xs + length ys → slice_range (xs ++ ys) s e ≡ ys
last_slice xs ys s e a b =
    ap (λ l. take (e - s) l) (ap (λ n. drop n (xs ++ ys)) a ∙ drop-append_seam xs ys)
    ∙ take_all (e - s) ys (omega (arith, a, b))

pub length_marked : (octets : List ℕ) (ms : List Mark) (cs : List (List Taken)) → length (captures_marked octets ms cs) ≡ length cs
length_marked octets [] cs = refl
length_marked octets (m ∷ ms) cs =
    length_marked octets ms (captures_with m.station (frame_marked octets m ∷ []) cs)
    ∙ length-set cs m.station (slice_index_or cs m.station [] ++ frame_marked octets m ∷ [])

marked_more : (xs ys : List ℕ) (n : ℕ) (ms : List Mark) (m : Mark) (cs : List (List Taken)) → All (IsMark (length xs) n) ms → m.start ≡ length xs → m.end ≡ length xs + length ys
    → captures_marked (xs ++ ys) (ms ++ m ∷ []) cs ≡ captures_with m.station (record { t = m.t; octets = ys } ∷ []) (captures_marked xs ms cs)
marked_more xs ys n [] m cs all s e = ap (λ o. captures_with m.station (record { t = m.t; octets = o } ∷ []) cs) (last_slice xs ys m.start m.end s e)
marked_more xs ys n (x ∷ ms) m cs all s e =
    let is : IsMark (length xs) n x = all 0 x (omega arith) in
    ap (λ o. captures_marked (xs ++ ys) (ms ++ m ∷ []) (captures_with x.station (record { t = x.t; octets = o } ∷ []) cs)) (same_slice xs ys x.start x.end is.forward is.within)
    ∙ marked_more xs ys n ms m (captures_with x.station (frame_marked xs x ∷ []) cs) (λ i d p. all (suc i) d (omega (arith, p))) s e

-- the same, where some of the marks are done
marked_after : (xs ys : List ℕ) (n : ℕ) (ms : List Mark) (m : Mark) (cs : List (List Taken)) (done : ℕ) → done ≤ length ms → All (IsMark (length xs) n) ms → m.start ≡ length xs → m.end ≡ length xs + length ys
    → captures_marked (xs ++ ys) (drop done (ms ++ m ∷ [])) cs ≡ captures_with m.station (record { t = m.t; octets = ys } ∷ []) (captures_marked xs (drop done ms) cs)
marked_after xs ys n ms m cs zero l all s e = marked_more xs ys n ms m cs all s e
marked_after xs ys n [] m cs (suc done) l all s e = absurd (omega (arith, l))
marked_after xs ys n (x ∷ ms) m cs (suc done) l all s e = marked_after xs ys n ms m cs done (omega (arith, l)) (λ i d p. all (suc i) d (omega (arith, p))) s e

pub captures_more : (xs ys : List ℕ) (n : ℕ) (ms : List Mark) (m : Mark) (cs : List (List Taken)) (done : ℕ) (xs' : List ℕ) (ms' : List Mark) (old : List (List Taken)) → done ≤ length ms → All (IsMark (length xs) n) ms
    → m.start ≡ length xs → m.end ≡ length xs + length ys → xs' ≡ xs ++ ys → ms' ≡ ms ++ m ∷ [] → captures_marked xs (drop done ms) cs ≡ old
    → captures_marked xs' (drop done ms') cs ≡ captures_with m.station (record { t = m.t; octets = ys } ∷ []) old
captures_more xs ys n ms m cs done xs' ms' old l all s e a b c =
    ap (λ x. captures_marked x (drop done ms') cs) a ∙ ap (λ x. captures_marked (xs ++ ys) (drop done x) cs) b
    ∙ marked_after xs ys n ms m cs done l all s e ∙ ap (captures_with m.station (record { t = m.t; octets = ys } ∷ [])) c

-- the marks lie within more octets, and so does one more
pub marks_more : (len len' n : ℕ) (ms : List Mark) (m : Mark) (ms' : List Mark) → len ≤ len' → All (IsMark len n) ms → IsMark len' n m → ms' ≡ ms ++ m ∷ [] → All (IsMark len' n) ms'
marks_more len len' n ms m ms' l all is e =
    subst (All (IsMark len' n)) (sym e)
    (All-push (IsMark len' n) ms m (λ i d p. let x : IsMark len n (slice_index_or ms i d) = all i d p in record { forward = x.forward; within = omega (arith, l, x.within); station = x.station }) is)

pub station_within : (octets : List ℕ) (ms : List Mark) (cs : List (List Taken)) (old : List (List Taken)) (k : ℕ) → captures_marked octets ms cs ≡ old → k < length old → k < length cs
station_within octets ms cs old k e l = omega (arith, l, ap length e, length_marked octets ms cs)
