-- A layout with a slower repeater has longer steps through it, and keeps the bounds where the delay does.
use Rattle.std.proofs.Common.{◌≡◌, ◌⊎◌, refl, sym, ◌∙◌, ap, subst, inl, inr, ℕ, ◌+◌, ◌-◌, ◌≤◌, ◌↔◌, Option, None, Some, slice_get, arith}
use Rattle.std.specs.Option.{option_map, unwrap_or}
use Rattle.std.proofs.lemmas.Bool.{cases_eq}
use Rattle.std.proofs.lemmas.Option.{same_Some}
use Rattle.mac_parameters.specs.Distances.{distance}
use Rattle.mac_parameters.specs.Parameters.{greatest_delay}
use Rattle.layout.specs.declared.lines.Layout.{Layout}
use Rattle.layout.specs.declared.lines.PortLine.{PortLine}
use Rattle.layout.specs.declared.lines.RepeaterLine.{RepeaterLine}
use Rattle.layout.specs.declared.ways.Attachment.{Attachment}
use Rattle.layout.specs.declared.ways.Attachment.TheVariants.{Station, Port}
use Rattle.layout.specs.declared.ways.Way.TheVariants as way
use Rattle.layout.specs.Paths.{part_by, IsStep, at_of, delay_of}
use Rattle.layout.specs.Sound.{IsSound}
use Rattle.layout.proofs.Sides.{repeater_number}
use Rattle.layout.proofs.SoundTaps.{sound_place, sound_repeater, delay_low}
use Rattle.path_slack.specs.Crossings.{ThroughRepeater}
use Rattle.path_slack.specs.Lengthened.{lengthened_delay, KeepsBounds}
use Rattle.path_slack.proofs.Growth.{IsGrowth}
use Rattle.path_slack.proofs.LongerDelays.{place_kept, same_part, delay_kept, delay_grown, delay_fits}

module _ (l : Layout) (n x : ℕ) (row : RepeaterLine) (is_row : slice_get l.repeaters n ≡ Some row) where
  slower : (a : Attachment) → part_by l way.Repeater a ≡ Some n → delay_of (lengthened_delay l n x) a ≡ delay_of l a + x
  slower (Station k) h = absurd (let none : None ≡ Some n = h in cc)
  slower (Port r p) h =
      let same : r ≡ n = repeater_number l r p n h in
      subst (λ (q : ℕ). delay_of (lengthened_delay l n x) (Port q p) ≡ delay_of l (Port q p) + x) (sym same) (delay_grown l n x p row is_row)

  as_slow : (a : Attachment) (m : ℕ) → part_by l way.Repeater a ≡ Some m → (part_by l way.Repeater a ≡ Some n → ⊥) → delay_of (lengthened_delay l n x) a ≡ delay_of l a
  as_slow (Station k) m h not = refl
  as_slow (Port r p) m h not =
      let same : r ≡ m = repeater_number l r p m h in
      delay_kept l n x r p (λ e. not (h ∙ ap (λ (q : ℕ). Some q) (sym same ∙ e)))

  decide_row : (a b : Attachment) → IsStep l way.Repeater a b → ThroughRepeater l n a b ⊎ (ThroughRepeater l n a b → ⊥)
  decide_row a b step =
      elim (cases_eq step.part n) [
        | inl same ↦ inl (step.from ∙ ap (λ (q : ℕ). Some q) same)
        | inr ne ↦ inr (λ over. ne (same_Some step.part n (sym step.from ∙ over)))
      ]

  same_at : (a : Attachment) → at_of (lengthened_delay l n x) a ≡ at_of l a
  same_at a = ap (λ (o : Option PortLine). unwrap_or (option_map (λ (p : PortLine). p.at) o) 0) (place_kept l n x a)

  pub delay_growth : IsGrowth l (lengthened_delay l n x) x way.Repeater n (ThroughRepeater l n)
  delay_growth = record {
    parts = λ w t. same_part l n x w t;
    decide = decide_row;
    on = λ a b over. over;
    back = λ a b step over. step.to ∙ sym step.from ∙ over;
    longer = λ a b step over. slower a over;
    same = λ a b step not. as_slow a step.part step.from not;
    others = λ a b. ap (λ (i : ℕ). distance i (at_of (lengthened_delay l n x) b)) (same_at a) ∙ ap (λ (i : ℕ). distance (at_of l a) i) (same_at b);
  }

  delays_kept : IsSound l → row.delay + x ≤ greatest_delay → (t : Attachment) → delay_of (lengthened_delay l n x) t ≤ greatest_delay
  delays_kept sound fits (Station k) = delay_low l sound (Station k)
  delays_kept sound fits (Port r p) =
      elim (cases_eq r n) [
        | inl same ↦
            let own : delay_of l (Port n p) ≡ row.delay = ap (λ (o : Option RepeaterLine). unwrap_or (option_map (λ (y : RepeaterLine). y.delay) o) 0) is_row in
            let grown : delay_of (lengthened_delay l n x) (Port n p) ≡ delay_of l (Port n p) + x = delay_grown l n x p row is_row in
            let low : delay_of (lengthened_delay l n x) (Port n p) ≤ greatest_delay = omega arith in
            subst (λ (q : ℕ). delay_of (lengthened_delay l n x) (Port q p) ≤ greatest_delay) (sym same) low
        | inr ne ↦ subst (λ (i : ℕ). i ≤ greatest_delay) (sym (delay_kept l n x r p ne)) (delay_low l sound (Port r p))
      ]

  pub delay_bound : IsSound l → KeepsBounds (lengthened_delay l n x) ↔ (x ≤ greatest_delay - row.delay)
  delay_bound sound = (
    λ keeps. (let low : row.delay + x ≤ greatest_delay = delay_fits l n x keeps row is_row in omega arith),
    λ fits.
        let most : row.delay ≤ greatest_delay = (sound_repeater l sound n row is_row).delay_most in
        record {
          places = λ t p h. (sound_place l sound t p (sym (place_kept l n x t) ∙ h)).at;
          delays = delays_kept sound (omega arith);
        },
  )
