-- The gaps of a layout in order, one segment after the other.
use Rattle.std.proofs.Common.{◌≡◌, sym, ◌∙◌, subst, inl, inr, ℕ, ◌+◌, ◌<◌, ◌≤◌, List, [], ◌∷◌, ◌++◌, length, length-append, get_or, None, Some, arith}
use Rattle.std.specs.List.{Any}
use Rattle.std.proofs.lemmas.Bool.{cases_lt, cases_order}
use Rattle.std.proofs.lemmas.List.{get_or_append_left}
use Rattle.std.proofs.lemmas.List.Elements.{All-push, All-weaker, All-nil}
use Rattle.std.proofs.lemmas.List.Quantifiers.{Any-push, all_pairs_push}
use Rattle.layout.specs.declared.lines.Layout.{Layout}
use Rattle.layout.specs.Sound.{IsSound}
use Rattle.layout.proofs.SoundTaps.{sound_stands}
use Rattle.path_slack.specs.declared.slack.GapSlack.{GapSlack}
use Rattle.path_slack.specs.Slacks.{HasTapAt, IsGap, IsBefore, IsOfGap, AreGaps, IsGapBelow, AreGapsBelow, IsFirstPlace}

any_more : (P : GapSlack → Type 0) (xs : List GapSlack) (y : GapSlack) → Any P xs → Any P (xs ++ y ∷ [])
any_more P xs y h =
    let low : h.0 < length xs = h.2 in
    let count : length (xs ++ y ∷ []) ≡ length xs + length (y ∷ []) = length-append xs (y ∷ []) in
    (h.0, h.1, omega arith, get_or_append_left xs (y ∷ []) h.1 h.0 low ∙ h.3, h.4)

pub gaps_none : (l : Layout) → AreGapsBelow l 0 0 []
gaps_none l = record {
  each = All-nil (λ g. IsGap l g.segment g.low g.high);
  below = All-nil (λ g. IsGapBelow 0 0 g.segment g.high);
  order = λ i j d low within. absurd (omega arith);
  all = λ n low high gap below. absurd (elim below [ inl less ↦ omega arith | inr (same, under) ↦ omega arith ]);
}

module _ (l : Layout) (segment : ℕ) where
  below_first : (k n high : ℕ) → IsGapBelow segment 0 n high → IsGapBelow segment k n high
  below_first k n high (inl less) = inl less
  below_first k n high (inr (same, under)) = absurd (omega arith)

  below_later : (k j n high : ℕ) → k ≤ j → IsGapBelow segment k n high → IsGapBelow segment j n high
  below_later k j n high most (inl less) = inl less
  below_later k j n high most (inr (same, under)) = inr (same, omega arith)

  below_next : (k n high : ℕ) → IsGapBelow segment k n high → IsGapBelow (segment + 1) 0 n high
  below_next k n high (inl less) = inl (omega arith)
  below_next k n high (inr (same, under)) = inl (omega arith)

  on_segment : (n at : ℕ) → n ≡ segment → HasTapAt l n at → HasTapAt l segment at
  on_segment n at same has = subst (λ (i : ℕ). HasTapAt l i at) same has

  -- below the first tap there is no gap
  pub gaps_begin : (first : ℕ) (gs : List GapSlack) → AreGapsBelow l segment 0 gs → IsFirstPlace l segment 0 (Some first) → AreGapsBelow l segment (first + 1) gs
  gaps_begin first gs h is = record {
    each = h.each;
    below = All-weaker (λ (g : GapSlack). IsGapBelow segment 0 g.segment g.high) (λ (g : GapSlack). IsGapBelow segment (first + 1) g.segment g.high) (λ g b. below_first (first + 1) g.segment g.high b) gs h.below;
    order = h.order;
    all = λ n low high gap below.
        elim below [
          | inl less ↦ h.all n low high gap (inl less)
          | inr (same, under) ↦
              let least : first ≤ low = is.2 low (omega arith) (on_segment n low same gap.bottom) in
              let order : low < high = gap.order in
              absurd (omega arith)
        ];
  }

  -- one more gap
  module _ (low high : ℕ) (gs : List GapSlack) (e : GapSlack) (has : HasTapAt l segment low) (is : IsFirstPlace l segment (low + 1) (Some high)) (h : AreGapsBelow l segment (low + 1) gs) (e_is : IsOfGap segment low high e) where
    new_gap : IsGap l segment low high
    new_gap = record {
      bottom = has;
      top = is.0;
      order = (let over : low + 1 ≤ high = is.1 in omega arith);
      empty = λ at over under there. (let least : high ≤ at = is.2 at (omega arith) there in omega arith);
    }

    entry_gap : IsGap l e.segment e.low e.high
    entry_gap = rw (e_is.0, e_is.1, e_is.2) new_gap

    before_entry : (k : ℕ) (d : GapSlack) → k < length gs → IsBefore (get_or gs k d) e
    before_entry k d within =
        let gap : IsGap l (get_or gs k d).segment (get_or gs k d).low (get_or gs k d).high = h.each k d within in
        let order : (get_or gs k d).low < (get_or gs k d).high = gap.order in
        let s : e.segment ≡ segment = e_is.0 in
        let b : e.low ≡ low = e_is.1 in
        elim (h.below k d within) [
          | inl less ↦ inl (omega arith)
          | inr (same, under) ↦ inr (same ∙ sym s, omega arith)
        ]

    of_new : (n lo hi : ℕ) → n ≡ segment → lo ≡ low → hi ≡ high → Any (IsOfGap n lo hi) (gs ++ e ∷ [])
    of_new n lo hi a b c = Any-push (IsOfGap n lo hi) gs e (e_is.0 ∙ sym a, e_is.1 ∙ sym b, e_is.2 ∙ sym c)

    all_here : (n lo hi : ℕ) → IsGap l n lo hi → n ≡ segment → hi < high + 1 → Any (IsOfGap n lo hi) (gs ++ e ∷ [])
    all_here n lo hi gap same under =
        let order : lo < hi = gap.order in
        elim (cases_lt hi (low + 1)) [
          | inl old ↦ any_more (IsOfGap n lo hi) gs e (h.all n lo hi gap (inr (same, old)))
          | inr over ↦
              let least : high ≤ hi = is.2 hi over (on_segment n hi same gap.top) in
              elim (cases_order lo low) [
                | inl level ↦ of_new n lo hi same level (omega arith)
                | inr (inl less) ↦ absurd (gap.empty low less (omega arith) (subst (λ (i : ℕ). HasTapAt l i low) (sym same) has))
                | inr (inr more) ↦ (let top : high ≤ lo = is.2 lo (omega arith) (on_segment n lo same gap.bottom) in absurd (omega arith))
              ]
        ]

    pub gaps_more : AreGapsBelow l segment (high + 1) (gs ++ e ∷ [])
    gaps_more =
        let over : low + 1 ≤ high = is.1 in
        let s : e.segment ≡ segment = e_is.0 in
        let t : e.high ≡ high = e_is.2 in
        record {
          each = All-push (λ (g : GapSlack). IsGap l g.segment g.low g.high) gs e h.each entry_gap;
          below = All-push (λ (g : GapSlack). IsGapBelow segment (high + 1) g.segment g.high) gs e
              (All-weaker (λ (g : GapSlack). IsGapBelow segment (low + 1) g.segment g.high) (λ (g : GapSlack). IsGapBelow segment (high + 1) g.segment g.high) (λ g b. below_later (low + 1) (high + 1) g.segment g.high (omega arith) b) gs h.below)
              (inr (s, omega arith));
          order = all_pairs_push IsBefore gs e h.order before_entry;
          all = λ n lo hi gap below.
              elim below [
                | inl less ↦ any_more (IsOfGap n lo hi) gs e (h.all n lo hi gap (inl less))
                | inr (same, under) ↦ all_here n lo hi gap same under
              ];
        }

  -- above the last tap there is no gap
  pub gaps_end : (k : ℕ) (gs : List GapSlack) → AreGapsBelow l segment k gs → IsFirstPlace l segment k None → AreGapsBelow l (segment + 1) 0 gs
  gaps_end k gs h none = record {
    each = h.each;
    below = All-weaker (λ (g : GapSlack). IsGapBelow segment k g.segment g.high) (λ (g : GapSlack). IsGapBelow (segment + 1) 0 g.segment g.high) (λ g b. below_next k g.segment g.high b) gs h.below;
    order = h.order;
    all = λ n low high gap below.
        elim below [
          | inr (same, under) ↦ absurd (omega arith)
          | inl less ↦ elim (cases_lt n segment) [
            | inl earlier ↦ h.all n low high gap (inl earlier)
            | inr here ↦
                let same : n ≡ segment = omega arith in
                elim (cases_lt high k) [
                  | inl under ↦ h.all n low high gap (inr (same, under))
                  | inr over ↦ absurd (none high over (on_segment n high same gap.top))
                ]
          ]
        ];
  }

pub gaps_all : (l : Layout) → IsSound l → (k : ℕ) (gs : List GapSlack) → length l.segments ≤ k → AreGapsBelow l k 0 gs → AreGaps l gs
gaps_all l sound k gs all h = record {
  each = h.each;
  order = h.order;
  all = λ n low high gap.
      let on : n < length l.segments = sound_stands l sound gap.bottom.tap (record { segment = n; at = low }) gap.bottom.stands in
      h.all n low high gap (inl (omega arith));
}
