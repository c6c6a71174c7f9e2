-- Both of two attempts that overlap over an open path are hit.
use Rattle.std.proofs.Common.{◌≡◌, ◌≢◌, subst, ℕ, ◌+◌, ◌*◌, ◌-◌, ◌<◌, ◌≤◌, min, max, Option, Some, None, inl, inr, arith}
use Rattle.std.proofs.lemmas.Bool.{cases_lt}
use Rattle.mac_parameters.specs.Parameters.{slot_time, interframe_gap, bit_512, shortest_line_text, shortest_sending}
use Rattle.manchester_line.specs.declared.Sym.{Sym}
use Rattle.manchester_line.specs.declared.Sym.TheVariants.{Idle}
use Rattle.layout.specs.declared.ways.Attachment.TheVariants.{Station}
use Rattle.layout.specs.Paths.{length_of}
use Rattle.load_plan.specs.declared.plan.Plan.{Plan}
use Rattle.mac_transmit.specs.Attempts.{Attempt, IsHitBy, IsHitBelow, GoesOn, IsLawful}
use Rattle.network.specs.Attempts.{Overlap, OverlapOpenly, HasFrames}
use Rattle.network.specs.Signals.{CablesCarry, RepeatersRepeat, StationAttemptsAreLawful}
use Rattle.network.specs.Times.{heard, emitted}
use Rattle.path_checker.specs.Propagation.{ArePaired, EarlyStart, LateStart}
use Rattle.path_checker.proofs.WavesOnWalks.{waves, waves_back}

same_time : (f : ℕ → Sym) (t u : ℕ) → t ≡ u → f t ≢ Idle → f u ≢ Idle
same_time f t u e h = subst (λ (v : ℕ). f v ≢ Idle) e h

hit_later : (hit : Option ℕ) (p q : ℕ) → p ≤ q → IsHitBy hit p → IsHitBy hit q
hit_later None p q l h = h
hit_later (Some hit) p q l h = omega arith

hit_below : (hit : Option ℕ) (p q : ℕ) → p < q → IsHitBy hit p → IsHitBelow hit q
hit_below None p q l h = h
hit_below (Some hit) p q l h = omega arith

below_more : (hit : Option ℕ) (p q : ℕ) → p ≤ q → IsHitBelow hit p → IsHitBelow hit q
below_more None p q l h = h
below_more (Some hit) p q l h = omega arith

-- an attempt that is over before position p, at which no line text is over, has a hit by then
over_by : (hit : Option ℕ) (start end p : ℕ) → GoesOn hit start end → end ≤ start + p → p < shortest_line_text → IsHitBy hit p
over_by None start end p h l m = absurd (omega arith)
over_by (Some hit) start end p h l m = omega arith

-- an attempt whose station hears something at a position has a hit by then, over or not
hit_at : (emits hears : ℕ → Sym) (a : Attempt) → IsLawful emits hears a → (p : ℕ) → p < shortest_line_text → hears (a.start + p) ≢ Idle → IsHitBy a.hit p
hit_at emits hears a s p l h = elim (cases_lt (a.start + p) a.end) [ inl going ↦ s.heeds p going h | inr over ↦ over_by a.hit a.start a.end p s.goes_on over l ]

overlap_swapped : (d : ℕ) (x y : Attempt) → Overlap d x y → Overlap d y x
overlap_swapped d x y (inl h) = inr h
overlap_swapped d x y (inr h) = inl h

-- where y starts after the wave of x has come, x is still sending d half bits before
still_sending : (d : ℕ) (x y : Attempt) → Overlap d x y → (t : ℕ) → t + d ≤ y.start → t < x.end
still_sending d x y (inl (u, h)) t l = omega (arith, h.0.1, h.1.0)
still_sending d x y (inr (u, h)) t l = omega (arith, h.0.0, h.1.1)

-- two attempts, d half bits apart, of which x does not start after y; the waves of x between the two starts come to y,
-- and the wave of y's start comes to x
module _
    (ex hx ey hy : ℕ → Sym) (d : ℕ) (x y : Attempt) (sx : IsLawful ex hx x) (sy : IsLawful ey hy y) (short : 2 * d + interframe_gap < slot_time) (first : x.start ≤ y.start)
    (there : (t : ℕ) → x.start ≤ t → t ≤ y.start → ex t ≢ Idle → hy (t + d) ≢ Idle) (back : ey y.start ≢ Idle → hx (y.start + d) ≢ Idle) where
  y_is_heard : (p : ℕ) → p < shortest_line_text → x.start + p ≡ y.start + d → IsHitBy x.hit p
  y_is_heard p l e =
      let long : y.start + shortest_sending ≤ y.end = sy.long in
      hit_at ex hx x sx p l (same_time hx (y.start + d) (x.start + p) (omega arith) (back (sy.busy y.start (omega arith, omega arith))))

  early : y.start ≤ x.start + d → IsHitBy y.hit d × IsHitBy x.hit (2 * d)
  early close =
      let p = y.start + d - x.start in
      let q = x.start + d - y.start in
      let long : x.start + shortest_sending ≤ x.end = sx.long in
      let come : hy (x.start + d) ≢ Idle = there x.start (omega arith) first (sx.busy x.start (omega arith, omega arith)) in
      let hears : hy (y.start + q) ≢ Idle = same_time hy (x.start + d) (y.start + q) (omega arith) come in
      (hit_later y.hit q d (omega arith) (hit_at ey hy y sy q (omega arith) hears), hit_later x.hit p (2 * d) (omega arith) (y_is_heard p (omega arith) (omega arith)))

  late : x.start + d < y.start → Overlap d x y → (y.start < x.start + d + interframe_gap) × IsHitBy y.hit 0 × IsHitBelow x.hit (2 * d + interframe_gap)
  late far over =
      let come = λ (t : ℕ) (l : x.start + d ≤ t) (m : t ≤ y.start). there (t - d) (omega arith) (omega arith) (sx.busy (t - d) (omega arith, still_sending d x y over (t - d) (omega arith))) in
      let hears = λ (t : ℕ) (l : x.start + d ≤ t) (m : t ≤ y.start). same_time hy (t - d + d) t (omega arith) (come t l m) in
      let deaf = sy.deaf (x.start + d) far hears in
      let gap : y.start < x.start + d + interframe_gap = omega (arith, deaf) in
      let p = y.start + d - x.start in
      let now : hy (y.start + 0) ≢ Idle = same_time hy y.start (y.start + 0) (omega arith) (hears y.start (omega arith) (omega arith)) in
      (gap, hit_at ey hy y sy 0 (omega arith) now, hit_below x.hit p (2 * d + interframe_gap) (omega arith) (y_is_heard p (omega arith) (omega arith)))

  in_order : Overlap d x y → IsHitBelow x.hit bit_512 × IsHitBelow y.hit bit_512
  in_order over = elim (cases_lt (x.start + d) y.start) [
    | inl far ↦
        let h : (y.start < x.start + d + interframe_gap) × IsHitBy y.hit 0 × IsHitBelow x.hit (2 * d + interframe_gap) = late far over in
        (below_more x.hit (2 * d + interframe_gap) bit_512 (omega arith) h.2, hit_below y.hit 0 bit_512 (omega arith) h.1)
    | inr close ↦
        let h : IsHitBy y.hit d × IsHitBy x.hit (2 * d) = early close in
        (hit_below x.hit (2 * d) bit_512 (omega arith) h.1, hit_below y.hit d bit_512 (omega arith) h.0)
  ]

module _ (carries : CablesCarry) (repeats : RepeatersRepeat) (lawful : StationAttemptsAreLawful) where
  -- the waves of a pair, both ways
  there :
      (plan : Plan) (a b d : ℕ) (x y : Attempt) → ArePaired plan a b d x y → (t : ℕ) → x.start ≤ t → t ≤ y.start
      → emitted plan a t ≢ Idle → heard plan b (t + d) ≢ Idle
  there plan a b d x y h t l m s =
      let long : length_of plan.layout (Station a) h.path ≡ d = h.long in
      same_time (heard plan b) (t + length_of plan.layout (Station a) h.path) (t + d) (omega arith)
      (waves carries repeats plan a b h.path h.different h.leads x.start (y.start + d) h.clear t l (omega arith) s)

  back : (plan : Plan) (a b d : ℕ) (x y : Attempt) → ArePaired plan a b d x y → emitted plan b y.start ≢ Idle → heard plan a (y.start + d) ≢ Idle
  back plan a b d x y h s =
      let long : length_of plan.layout (Station a) h.path ≡ d = h.long in
      same_time (heard plan a) (y.start + length_of plan.layout (Station a) h.path) (y.start + d) (omega arith)
      (waves_back carries repeats plan a b h.path h.different h.leads x.start (y.start + d) h.clear y.start h.in_order (omega arith) s)

  pub early_start : EarlyStart
  early_start plan a b d x y h close =
      early (emitted plan a) (heard plan a) (emitted plan b) (heard plan b) d x y (lawful plan h.frames a x h.first) (lawful plan h.frames b y h.second) h.short h.in_order
      (there plan a b d x y h) (back plan a b d x y h) close

  pub late_start : LateStart
  late_start plan a b d x y h far over =
      late (emitted plan a) (heard plan a) (emitted plan b) (heard plan b) d x y (lawful plan h.frames a x h.first) (lawful plan h.frames b y h.second) h.short h.in_order
      (there plan a b d x y h) (back plan a b d x y h) far over

  -- a round trip below the slot time, and the starts in either order
  pub both_detected :
      (plan : Plan) → HasFrames plan → (a b : ℕ) (x y : Attempt) (h : OverlapOpenly plan a b x y) → 2 * length_of plan.layout (Station a) h.path + interframe_gap < slot_time
      → IsHitBelow x.hit bit_512 × IsHitBelow y.hit bit_512
  both_detected plan frames a b x y h short =
      let d = length_of plan.layout (Station a) h.path in
      let from = min x.start y.start in
      let to = max x.start y.start + d in
      let sx : IsLawful (emitted plan a) (heard plan a) x = lawful plan frames a x h.first in
      let sy : IsLawful (emitted plan b) (heard plan b) y = lawful plan frames b y h.second in
      elim (cases_lt y.start x.start) [
        | inl second ↦
            let both : IsHitBelow y.hit bit_512 × IsHitBelow x.hit bit_512 =
            in_order (emitted plan b) (heard plan b) (emitted plan a) (heard plan a) d y x sy sx short (omega arith)
            (λ t l m s. waves_back carries repeats plan a b h.path h.different h.leads from to h.clear t (omega arith) (omega arith) s)
            (λ s. waves carries repeats plan a b h.path h.different h.leads from to h.clear x.start (omega arith) (omega arith) s)
            (overlap_swapped d x y h.overlap) in
            (both.1, both.0)
        | inr first ↦
            in_order (emitted plan a) (heard plan a) (emitted plan b) (heard plan b) d x y sx sy short first
            (λ t l m s. waves carries repeats plan a b h.path h.different h.leads from to h.clear t (omega arith) (omega arith) s)
            (λ s. waves_back carries repeats plan a b h.path h.different h.leads from to h.clear y.start (omega arith) (omega arith) s) h.overlap
      ]
