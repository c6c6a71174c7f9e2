-- A repeater of a plan is one of its parts, by its number, and stands where the plan's part of that number does
-- (profile). Repeaters, parts, windows and half bits count from 0.
use Rattle.std.specs.Prelude.{◌≡◌, ℕ, ◌+◌, ◌<◌, ◌≤◌, false, length}
use Rattle.std.proofs.Common.{ltb, sym, ap, ◌∙◌, arith}
use Rattle.std.proofs.lemmas.Bool.Decides.{nat_tests}
use Rattle.load_plan.specs.declared.plan.Plan.{Plan}
use Rattle.net_parts.specs.RepeaterParts.{RepeaterState, edges_at}
use Rattle.net_parts.specs.Standing.{repeater_at}
use Rattle.net_parts.specs.Parts.{OfRepeater, is_segment_part, parts, part_at, part_of_kind, edges_of_part, edges_of_kind, repeater_number}
use Rattle.net_parts.specs.Windows.{time}

not_less : (a b : ℕ) → b ≤ a → ltb a b ≡ false
not_less a b h = grind (arith, nat_tests)

module _ (plan : Plan) (u i : ℕ) (is : u ≡ length plan.layout.segments + i) where
  pub not_segment : is_segment_part plan u ≡ false
  not_segment = not_less u (length plan.layout.segments) (omega (arith, is))

  pub is_number : repeater_number plan u ≡ i
  is_number = omega (arith, is)

  pub is_one_part : i < length plan.layout.repeaters → u < parts plan
  is_one_part some = omega (arith, is, some)

  pub edges_at_part : edges_of_part plan u ≡ edges_at plan.layout i
  edges_at_part = ap (λ b. edges_of_kind plan b u) not_segment ∙ ap (edges_at plan.layout) is_number

  pub part_stands : (w : ℕ) (s : RepeaterState) → s ≡ repeater_at plan i (time plan w) → OfRepeater s ≡ part_at plan u w
  unfolding part_at
  part_stands w s stands =
      ap OfRepeater stands
      ∙ ap (λ j. OfRepeater (repeater_at plan j (time plan w))) (sym is_number)
      ∙ ap (λ b. part_of_kind plan b u (time plan w)) (sym not_segment)
