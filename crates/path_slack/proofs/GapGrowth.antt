-- A layout with a longer piece of cable has longer steps over the piece, and where its last tap still fits it keeps the
-- bounds.
use Rattle.std.proofs.Common.{◌≡◌, ◌⊎◌, refl, sym, ◌∙◌, ap, subst, inl, inr, ℕ, ◌+◌, ◌-◌, ◌<◌, ◌≤◌, ◌↔◌, Option, Some, arith}
use Rattle.std.specs.Option.{option_map, unwrap_or}
use Rattle.std.proofs.lemmas.Bool.{cases_eq, cases_lt, le-leb, lt-leb, eq-eqb, ne_eqb}
use Rattle.std.proofs.lemmas.Option.{same_Some}
use Rattle.mac_parameters.specs.Distances.{distance}
use Rattle.mac_parameters.specs.Parameters.{greatest_place, greatest_delay}
use Rattle.layout.specs.declared.lines.Layout.{Layout}
use Rattle.layout.specs.declared.lines.PortLine.{PortLine}
use Rattle.layout.specs.declared.ways.Attachment.{Attachment}
use Rattle.layout.specs.declared.ways.Way.TheVariants as way
use Rattle.layout.specs.Paths.{place, part_by, IsStep, at_of, step_length}
use Rattle.layout.specs.Sound.{IsSound}
use Rattle.layout.proofs.Cuts.{mapped}
use Rattle.layout.proofs.SoundTaps.{sound_place, delay_low}
use Rattle.path_slack.specs.Crossings.{OverPiece}
use Rattle.path_slack.specs.Lengthened.{moved_place, moved_port, lengthened_gap, KeepsBounds}
use Rattle.path_slack.specs.Slacks.{HasTapAt, IsLastPlace}
use Rattle.path_slack.proofs.Growth.{IsGrowth}
use Rattle.path_slack.proofs.LongerGaps.{place_moved, same_part, same_delay}

moved_up : (segment high x at : ℕ) → high ≤ at → moved_place segment high x segment at ≡ at + x
moved_up segment high x at up = rw (eq-eqb segment segment refl, le-leb high at up) refl

moved_down : (segment high x at : ℕ) → at < high → moved_place segment high x segment at ≡ at
moved_down segment high x at down = rw (eq-eqb segment segment refl, lt-leb high at down) refl

moved_off : (segment high x n at : ℕ) → (n ≡ segment → ⊥) → moved_place segment high x n at ≡ at
moved_off segment high x n at ne = rw (ne_eqb n segment ne) refl

at_moved : (l : Layout) (segment high x : ℕ) (t : Attachment) (n : ℕ) → part_by l way.Cable t ≡ Some n → at_of (lengthened_gap l segment high x) t ≡ moved_place segment high x n (at_of l t)
at_moved l segment high x t n on =
    let line : (p : PortLine) × (place l t ≡ Some p) = mapped (λ (p : PortLine). p.segment) (place l t) n on in
    let same : line.0.segment ≡ n = same_Some line.0.segment n (sym (ap (option_map (λ (p : PortLine). p.segment)) line.1) ∙ on) in
    let at : at_of l t ≡ line.0.at = ap (λ (o : Option PortLine). unwrap_or (option_map (λ (p : PortLine). p.at) o) 0) line.1 in
    let moved : at_of (lengthened_gap l segment high x) t ≡ moved_place segment high x line.0.segment line.0.at = ap (λ (o : Option PortLine). unwrap_or (option_map (λ (p : PortLine). p.at) o) 0) (place_moved l segment high x t ∙ ap (option_map (moved_port segment high x)) line.1) in
    moved ∙ ap (λ (m : ℕ). moved_place segment high x m line.0.at) same ∙ ap (moved_place segment high x n) (sym at)

both_up : (a b x : ℕ) → distance (a + x) (b + x) ≡ distance a b
both_up a b x = omega arith

wider : (a b x k : ℕ) → a < k → k ≤ b → distance a (b + x) ≡ distance a b + x
wider a b x k low up = omega arith

wider_back : (a b x k : ℕ) → b < k → k ≤ a → distance (a + x) b ≡ distance a b + x
wider_back a b x k low up = omega arith

module _ (l : Layout) (segment high x : ℕ) where
  moved_step : (a b : Attachment) (n : ℕ) → part_by l way.Cable a ≡ Some n → part_by l way.Cable b ≡ Some n → step_length (lengthened_gap l segment high x) way.Cable a b ≡ distance (moved_place segment high x n (at_of l a)) (moved_place segment high x n (at_of l b))
  moved_step a b n on too =
      ap (λ (i : ℕ). distance i (at_of (lengthened_gap l segment high x) b)) (at_moved l segment high x a n on)
      ∙ ap (λ (i : ℕ). distance (moved_place segment high x n (at_of l a)) i) (at_moved l segment high x b n too)

  at_both : (a b i j : ℕ) → moved_place segment high x segment a ≡ i → moved_place segment high x segment b ≡ j → distance (moved_place segment high x segment a) (moved_place segment high x segment b) ≡ distance i j
  at_both a b i j e f = ap (λ (k : ℕ). distance k (moved_place segment high x segment b)) e ∙ ap (λ (k : ℕ). distance i k) f

  piece_longer : (a b : Attachment) → IsStep l way.Cable a b → OverPiece l segment high a b → step_length (lengthened_gap l segment high x) way.Cable a b ≡ step_length l way.Cable a b + x
  piece_longer a b step over =
      let too : part_by l way.Cable b ≡ Some segment = step.to ∙ sym step.from ∙ over.0 in
      elim over.1 [
        | inl rises ↦
            moved_step a b segment over.0 too
            ∙ at_both (at_of l a) (at_of l b) (at_of l a) (at_of l b + x) (moved_down segment high x (at_of l a) rises.0) (moved_up segment high x (at_of l b) rises.1)
            ∙ wider (at_of l a) (at_of l b) x high rises.0 rises.1
        | inr falls ↦
            moved_step a b segment over.0 too
            ∙ at_both (at_of l a) (at_of l b) (at_of l a + x) (at_of l b) (moved_up segment high x (at_of l a) falls.1) (moved_down segment high x (at_of l b) falls.0)
            ∙ wider_back (at_of l a) (at_of l b) x high falls.0 falls.1
      ]

  on_piece : (a b : Attachment) → IsStep l way.Cable a b → part_by l way.Cable a ≡ Some segment → (OverPiece l segment high a b → ⊥) → step_length (lengthened_gap l segment high x) way.Cable a b ≡ step_length l way.Cable a b
  on_piece a b step on not =
      let too : part_by l way.Cable b ≡ Some segment = step.to ∙ sym step.from ∙ on in
      elim (cases_lt (at_of l a) high) [
        | inl a_down ↦ elim (cases_lt (at_of l b) high) [
          | inl b_down ↦ moved_step a b segment on too ∙ at_both (at_of l a) (at_of l b) (at_of l a) (at_of l b) (moved_down segment high x (at_of l a) a_down) (moved_down segment high x (at_of l b) b_down)
          | inr b_up ↦ absurd (not (on, inl (a_down, b_up)))
        ]
        | inr a_up ↦ elim (cases_lt (at_of l b) high) [
          | inl b_down ↦ absurd (not (on, inr (b_down, a_up)))
          | inr b_up ↦
              moved_step a b segment on too
              ∙ at_both (at_of l a) (at_of l b) (at_of l a + x) (at_of l b + x) (moved_up segment high x (at_of l a) a_up) (moved_up segment high x (at_of l b) b_up)
              ∙ both_up (at_of l a) (at_of l b) x
        ]
      ]

  piece_same : (a b : Attachment) → IsStep l way.Cable a b → (OverPiece l segment high a b → ⊥) → step_length (lengthened_gap l segment high x) way.Cable a b ≡ step_length l way.Cable a b
  piece_same a b step not =
      elim (cases_eq step.part segment) [
        | inl same ↦ on_piece a b step (step.from ∙ ap (λ (n : ℕ). Some n) same) not
        | inr ne ↦
            moved_step a b step.part step.from step.to
            ∙ ap (λ (k : ℕ). distance k (moved_place segment high x step.part (at_of l b))) (moved_off segment high x step.part (at_of l a) ne)
            ∙ ap (λ (k : ℕ). distance (at_of l a) k) (moved_off segment high x step.part (at_of l b) ne)
      ]

  decide_on : (a b : Attachment) → part_by l way.Cable a ≡ Some segment → OverPiece l segment high a b ⊎ (OverPiece l segment high a b → ⊥)
  decide_on a b on =
      elim (cases_lt (at_of l a) high) [
        | inl a_down ↦ elim (cases_lt (at_of l b) high) [
          | inl b_down ↦ inr (λ over. elim over.1 [ inl r ↦ (let up : high ≤ at_of l b = r.1 in omega arith) | inr f ↦ (let up : high ≤ at_of l a = f.1 in omega arith) ])
          | inr b_up ↦ inl (on, inl (a_down, b_up))
        ]
        | inr a_up ↦ elim (cases_lt (at_of l b) high) [
          | inl b_down ↦ inl (on, inr (b_down, a_up))
          | inr b_up ↦ inr (λ over. elim over.1 [ inl r ↦ (let low : at_of l a < high = r.0 in omega arith) | inr f ↦ (let low : at_of l b < high = f.0 in omega arith) ])
        ]
      ]

  decide_piece : (a b : Attachment) → IsStep l way.Cable a b → OverPiece l segment high a b ⊎ (OverPiece l segment high a b → ⊥)
  decide_piece a b step =
      elim (cases_eq step.part segment) [
        | inl same ↦ decide_on a b (step.from ∙ ap (λ (n : ℕ). Some n) same)
        | inr ne ↦ inr (λ over. ne (same_Some step.part segment (sym step.from ∙ over.0)))
      ]

  pub gap_growth : IsGrowth l (lengthened_gap l segment high x) x way.Cable segment (OverPiece l segment high)
  gap_growth = record {
    parts = λ w t. same_part l segment high x w t;
    decide = decide_piece;
    on = λ a b over. over.0;
    back = λ a b step over. (step.to ∙ sym step.from ∙ over.0, elim over.1 [ inl r ↦ inr r | inr f ↦ inl f ]);
    longer = piece_longer;
    same = piece_same;
    others = λ a b. same_delay l segment high x a;
  }

moved_most : (segment high x n at last : ℕ) → at ≤ greatest_place → last + x ≤ greatest_place → (n ≡ segment → at ≤ last) → moved_place segment high x n at ≤ greatest_place
moved_most segment high x n at last low fits least =
    elim (cases_eq n segment) [
      | inl same ↦
          let under : at ≤ last = least same in
          elim (cases_lt at high) [
            | inl down ↦ subst (λ (m : ℕ). moved_place segment high x m at ≤ greatest_place) (sym same) (rw (moved_down segment high x at down) low)
            | inr up ↦ subst (λ (m : ℕ). moved_place segment high x m at ≤ greatest_place) (sym same) (rw (moved_up segment high x at up) (omega arith))
          ]
      | inr ne ↦ rw (moved_off segment high x n at ne) low
    ]

module _ (l : Layout) (segment high last x : ℕ) (sound : IsSound l) (is_last : IsLastPlace l segment last) (has : HasTapAt l segment high) (above : 1 ≤ high) where
  old_place : (t : Attachment) (p : PortLine) → place (lengthened_gap l segment high x) t ≡ Some p → (q : PortLine) × (place l t ≡ Some q) × (moved_port segment high x q ≡ p)
  old_place t p h =
      let moved : option_map (moved_port segment high x) (place l t) ≡ Some p = sym (place_moved l segment high x t) ∙ h in
      let found : (q : PortLine) × (place l t ≡ Some q) = mapped (moved_port segment high x) (place l t) p moved in
      (found.0, found.1, same_Some (moved_port segment high x found.0) p (sym (ap (option_map (moved_port segment high x)) found.1) ∙ moved))

  on_last : (q : PortLine) (t : Attachment) → place l t ≡ Some q → q.segment ≡ segment → q.at ≤ last
  on_last q t stands same = is_last.least q.at (record { tap = t; stands = stands ∙ ap (λ (n : ℕ). Some (let p : PortLine = record { segment = n; at = q.at } in p)) same })

  kept : x ≤ greatest_place - last → last ≤ greatest_place → KeepsBounds (lengthened_gap l segment high x)
  kept fits top = record {
    places = λ t p h.
        let old : (q : PortLine) × (place l t ≡ Some q) × (moved_port segment high x q ≡ p) = old_place t p h in
        let low : old.0.at ≤ greatest_place = (sound_place l sound t old.0 old.1).at in
        subst (λ (y : PortLine). y.at ≤ greatest_place) old.2 (moved_most segment high x old.0.segment old.0.at last low (omega arith) (on_last old.0 t old.1));
    delays = λ t. subst (λ (n : ℕ). n ≤ greatest_delay) (sym (same_delay l segment high x t)) (delay_low l sound t);
  }

  has_last : HasTapAt l segment last
  has_last =
      let most : high ≤ last = is_last.least high has in
      elim is_last.has [ inl there ↦ there | inr none ↦ absurd (omega arith) ]

  last_low : last ≤ greatest_place
  last_low = (sound_place l sound has_last.tap (record { segment = segment; at = last }) has_last.stands).at

  bounded : KeepsBounds (lengthened_gap l segment high x) → x ≤ greatest_place - last
  bounded keeps =
      let most : high ≤ last = is_last.least high has in
      let there : place (lengthened_gap l segment high x) has_last.tap ≡ Some (moved_port segment high x (record { segment = segment; at = last })) = place_moved l segment high x has_last.tap ∙ ap (option_map (moved_port segment high x)) has_last.stands in
      let low : moved_place segment high x segment last ≤ greatest_place = keeps.places has_last.tap (moved_port segment high x (record { segment = segment; at = last })) there in
      let sum : last + x ≤ greatest_place = subst (λ (n : ℕ). n ≤ greatest_place) (moved_up segment high x last most) low in
      omega arith

  pub gap_fits : KeepsBounds (lengthened_gap l segment high x) ↔ (x ≤ greatest_place - last)
  gap_fits = (bounded, λ fits. kept fits last_low)
