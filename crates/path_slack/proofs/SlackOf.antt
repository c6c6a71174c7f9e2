-- The greatest lengthening that passes, and what stops it, by the worst pair of those whose paths are crossed.
use Rattle.std.proofs.Common.{◌≡◌, ◌≢◌, refl, sym, subst, inl, inr, ℕ, ◌+◌, ◌*◌, ◌<◌, ◌≤◌, ◌↔◌, Option, None, Some, arith}
use Rattle.std.proofs.lemmas.Bool.{cases_lt}
use Rattle.mac_parameters.specs.Parameters.{slot_time, interframe_gap}
use Rattle.layout.specs.declared.lines.Layout.{Layout}
use Rattle.layout.specs.declared.ways.Attachment.{Attachment}
use Rattle.layout.specs.declared.ways.Attachment.TheVariants.{Station}
use Rattle.layout.specs.declared.ways.Way.{Way}
use Rattle.layout.specs.Paths.{IsDistance}
use Rattle.layout.specs.Sound.{IsSound}
use Rattle.path_checker.specs.declared.verdict.PathVerdict.TheVariants.{Over}
use Rattle.path_checker.specs.Verdicts.{IsRoundTrip, IsVerdict}
use Rattle.path_slack.specs.declared.slack.Limit.{Limit}
use Rattle.path_slack.specs.declared.worst.FarthestPair.{FarthestPair}
use Rattle.path_slack.specs.Crossings.{IsCrossed}
use Rattle.path_slack.specs.Lengthened.{KeepsBounds}
use Rattle.path_slack.specs.Pairs.{IsWorstPair}
use Rattle.path_slack.specs.Slacks.{IsOverlong, IsStoppedBy, IsSlack, IsReckoned}
use Rattle.path_slack.proofs.Growth.{IsGrowth, IsGrown, grown, crossed_distance, crossed_longer, crossed_back}
use Rattle.path_slack.proofs.Verdicts.{second_within}

module _ (l : Layout) (v : Way) (part : ℕ) (C : Attachment → Attachment → Type 0) (m : ℕ → Layout) (sound : IsSound l) (g : (x : ℕ) → IsGrowth l (m x) x v part C) (short : IsOverlong l → ⊥) where
  -- in l each trip is short
  trip_short : (a b n : ℕ) → a ≢ b → IsDistance l (Station a) (Station b) n → 2 * n + interframe_gap < slot_time
  trip_short a b n ne d =
      elim (cases_lt (2 * n + interframe_gap) slot_time) [
        | inl low ↦ low
        | inr high ↦ absurd (short (record { a = a; b = b; different = ne; trip = 2 * n + interframe_gap; has = record { distance = n; apart = d; sum = refl }; most = high }))
      ]

  -- no crossed pair is farther apart than the worst one
  none_crossed : IsWorstPair (IsCrossed l v C) None → (a b n : ℕ) → a ≢ b → IsCrossed l v C a b n → ⊥
  none_crossed is a b n ne h =
      elim (cases_lt a b) [
        | inl low ↦ is a b n low h
        | inr high ↦ is b a n (omega arith) (crossed_back l (m 0) 0 v part C sound (g 0) a b n h)
      ]

  crossed_most : (w : FarthestPair) → IsWorstPair (IsCrossed l v C) (Some w) → (a b n : ℕ) → a ≢ b → IsCrossed l v C a b n → n ≤ w.length
  crossed_most w is a b n ne h =
      elim (cases_lt a b) [
        | inl low ↦ elim (is.2 a b n low h) [ inl less ↦ omega arith | inr (same, later) ↦ omega arith ]
        | inr high ↦ elim (is.2 b a n (omega arith) (crossed_back l (m 0) 0 v part C sound (g 0) a b n h)) [ inl less ↦ omega arith | inr (same, later) ↦ omega arith ]
      ]

  -- where each crossed pair's trip is short with its path x longer, all trips are
  short_by : (x : ℕ) → ((a b n : ℕ) → a ≢ b → IsCrossed l v C a b n → 2 * (n + x) + interframe_gap < slot_time) → IsOverlong (m x) → ⊥
  short_by x small over =
      let is_grown : IsGrown l (m x) x v part C sound (g x) over.a over.b over.has.distance = grown l (m x) x v part C sound (g x) over.a over.b over.has.distance over.different over.has.apart in
      let low : 2 * is_grown.short + interframe_gap < slot_time = trip_short over.a over.b is_grown.short over.different is_grown.apart in
      let sum : over.trip ≡ 2 * over.has.distance + interframe_gap = over.has.sum in
      let most : slot_time ≤ over.trip = over.most in
      elim is_grown.grown [
        | inl same ↦ omega arith
        | inr (longer, crossed) ↦
            let still : 2 * (is_grown.short + x) + interframe_gap < slot_time = small over.a over.b is_grown.short over.different crossed in
            omega arith
      ]

  no_crossed_short : (x : ℕ) → IsWorstPair (IsCrossed l v C) None → IsOverlong (m x) → ⊥
  no_crossed_short x is over = short_by x (λ a b n ne h. absurd (none_crossed is a b n ne h)) over

  grown_short : (x : ℕ) (w : FarthestPair) → IsWorstPair (IsCrossed l v C) (Some w) → 2 * (w.length + x) + interframe_gap < slot_time → IsOverlong (m x) → ⊥
  grown_short x w is fits over = short_by x (λ a b n ne h. let bound : n ≤ w.length = crossed_most w is a b n ne h in omega arith) over

  worst_trip : (x : ℕ) (w : FarthestPair) → IsWorstPair (IsCrossed l v C) (Some w) → IsRoundTrip (m x) w.a w.b (2 * (w.length + x) + interframe_gap)
  worst_trip x w is = record { distance = w.length + x; apart = crossed_longer l (m x) x v part C sound (g x) w.a w.b w.length is.1; sum = refl }

  grown_long : (x : ℕ) (w : FarthestPair) → IsWorstPair (IsCrossed l v C) (Some w) → slot_time ≤ 2 * (w.length + x) + interframe_gap → IsOverlong (m x)
  grown_long x w is long =
      let low : w.a < w.b = is.0 in
      record { a = w.a; b = w.b; different = (λ e. omega arith); trip = 2 * (w.length + x) + interframe_gap; has = worst_trip x w is; most = long }

  -- where the worst pair is too far apart it is the verdict's
  is_over : (x : ℕ) (w : FarthestPair) → IsWorstPair (IsCrossed l v C) (Some w) → slot_time ≤ 2 * (w.length + x) + interframe_gap → IsVerdict (m x) (Over (2 * (w.length + x) + interframe_gap) w.a w.b)
  is_over x w is long =
      let low : w.a < w.b = is.0 in (
        record {
          pair = (low, second_within (m x) w.a w.b (w.length + x) (λ e. omega arith) (crossed_longer l (m x) x v part C sound (g x) w.a w.b w.length is.1));
          has = worst_trip x w is;
          greatest = λ a b rt ne trip.
              let is_grown : IsGrown l (m x) x v part C sound (g x) a b trip.distance = grown l (m x) x v part C sound (g x) a b trip.distance ne trip.apart in
              let small : 2 * is_grown.short + interframe_gap < slot_time = trip_short a b is_grown.short ne is_grown.apart in
              let sum : rt ≡ 2 * trip.distance + interframe_gap = trip.sum in
              elim is_grown.grown [
                | inl same ↦ omega arith
                | inr (longer, crossed) ↦ (let bound : is_grown.short ≤ w.length = crossed_most w is a b is_grown.short ne crossed in omega arith)
              ];
          first = λ a b pair trip.
              let order : a < b = pair.0 in
              let ne : a ≢ b = (λ e. omega arith) in
              let is_grown : IsGrown l (m x) x v part C sound (g x) a b trip.distance = grown l (m x) x v part C sound (g x) a b trip.distance ne trip.apart in
              let small : 2 * is_grown.short + interframe_gap < slot_time = trip_short a b is_grown.short ne is_grown.apart in
              let sum : 2 * (w.length + x) + interframe_gap ≡ 2 * trip.distance + interframe_gap = trip.sum in
              elim is_grown.grown [
                | inl same ↦ absurd (omega arith)
                | inr (longer, crossed) ↦ elim (is.2 a b is_grown.short order crossed) [ inl less ↦ absurd (omega arith) | inr (level, later) ↦ later ]
              ];
        },
        long,
      )

  module _ (room : ℕ) (fits : (x : ℕ) → KeepsBounds (m x) ↔ (x ≤ room)) where
    free_slack : (s : ℕ × Limit) → IsWorstPair (IsCrossed l v C) None → IsReckoned room None s → IsSlack l m (Some s)
    free_slack s is h = (
      short,
      λ x. (
        λ passes. (let low : x ≤ room = (fits x).0 passes.bounds in let same : s.0 ≡ room = h.0 in omega arith),
        λ low. record { bounds = (fits x).1 (let same : s.0 ≡ room = h.0 in omega arith); short = no_crossed_short x is },
      ),
      subst (IsStoppedBy (m (s.0 + 1))) (sym h.1) (
        (λ keeps. (let low : s.0 + 1 ≤ room = (fits (s.0 + 1)).0 keeps in let same : s.0 ≡ room = h.0 in omega arith)),
        no_crossed_short (s.0 + 1) is,
      ),
    )

    held_slack : (w : FarthestPair) (s : ℕ × Limit) → IsWorstPair (IsCrossed l v C) (Some w) → IsReckoned room (Some w) s → IsSlack l m (Some s)
    held_slack w s is h =
        let low : s.0 ≤ room = h.0 in
        let small : 2 * (w.length + s.0) + interframe_gap < slot_time = h.1 in (
          short,
          λ x. (
            λ passes.
                elim (cases_lt s.0 x) [
                  | inr most ↦ most
                  | inl more ↦ elim h.2 [
                    | inl pair ↦
                        let long : slot_time ≤ 2 * (w.length + s.0 + 1) + interframe_gap = pair.1 in
                        absurd (passes.short (grown_long x w is (omega arith)))
                    | inr bound ↦
                        let same : s.0 ≡ room = bound.1 in
                        let within : x ≤ room = (fits x).0 passes.bounds in
                        absurd (omega arith)
                  ]
                ],
            λ most. record { bounds = (fits x).1 (omega arith); short = grown_short x w is (omega arith) },
          ),
          elim h.2 [
            | inl pair ↦
                let long : slot_time ≤ 2 * (w.length + s.0 + 1) + interframe_gap = pair.1 in
                subst (IsStoppedBy (m (s.0 + 1))) (sym pair.0) (2 * (w.length + (s.0 + 1)) + interframe_gap, is_over (s.0 + 1) w is (omega arith))
            | inr bound ↦
                let same : s.0 ≡ room = bound.1 in
                let still : 2 * (w.length + s.0 + 1) + interframe_gap < slot_time = bound.2 in
                subst (IsStoppedBy (m (s.0 + 1))) (sym bound.0) (
                  (λ keeps. (let within : s.0 + 1 ≤ room = (fits (s.0 + 1)).0 keeps in omega arith)),
                  grown_short (s.0 + 1) w is (omega arith),
                )
          ],
        )

    pub is_slack : (worst : Option FarthestPair) (s : ℕ × Limit) → IsWorstPair (IsCrossed l v C) worst → IsReckoned room worst s → IsSlack l m (Some s)
    is_slack None s is h = free_slack s is h
    is_slack (Some w) s is h = held_slack w s is h

  -- the worst pair's trip is short
  pub worst_short : (worst : Option FarthestPair) (w : FarthestPair) → IsWorstPair (IsCrossed l v C) worst → worst ≡ Some w → 2 * w.length + interframe_gap < slot_time
  worst_short worst w is e =
      let here : IsWorstPair (IsCrossed l v C) (Some w) = subst (IsWorstPair (IsCrossed l v C)) e is in
      let low : w.a < w.b = here.0 in
      trip_short w.a w.b w.length (λ same. omega arith) (crossed_distance l (m 0) 0 v part C sound (g 0) w.a w.b w.length here.1)
