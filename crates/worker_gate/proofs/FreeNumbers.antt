-- Numbers of which a share has no part, while parts are added in their order.
use Rattle.std.proofs.Common.{◌≡◌, ℕ, ◌+◌, ◌≤◌, Bool, false, refl, ap, ◌∙◌, arith}
use Rattle.std.specs.Prelude.{Option, if◌then◌else◌}
use Rattle.exchange_core.specs.Holdings.{Holding}
use Rattle.exchange_core.specs.Shares.{Held, nothing_held, is_owned, owns, part_on, with_segment, with_repeater}
use Rattle.exchange_core.proofs.GrownShares.{added_other}
use Rattle.worker_gate.specs.PlannedShares.{HasNoneFrom}

-- one of two places has a part
abbrev is_either : Option Holding → Option Holding → Bool
is_either a b = is_owned (if is_owned a then a else b)

pub nothing_from : (first : ℕ) (s : Held) → s ≡ nothing_held → HasNoneFrom first s
nothing_from first s is = record { none = λ u _. ap (owns u) is ∙ refl }

pub later_from : (first later : ℕ) (s : Held) → HasNoneFrom first s → first ≤ later → HasNoneFrom later s
later_from first later s f most = record { none = λ u least. f.none u (omega (arith, most, least)) }

pub same_from : (first : ℕ) (s s' : Held) → HasNoneFrom first s → s' ≡ s → HasNoneFrom first s'
same_from first s s' f is = record { none = λ u least. ap (owns u) is ∙ f.none u least }

pub free_from : (first u : ℕ) (s : Held) → HasNoneFrom first s → u ≡ first → owns u s ≡ false
free_from first u s f is = f.none u (omega (arith, is))

pub segment_from : (h : Holding) (base i : ℕ) (s s' : Held) → s' ≡ with_segment h s → h.number ≡ base + i → HasNoneFrom (base + i) s → HasNoneFrom (base + (i + 1)) s'
segment_from h base i s s' is number f = record {
  none = λ u least. ap (owns u) is
      ∙ ap (λ o. is_either o (part_on u s.repeaters)) (added_other h s.segments u (λ e. omega (arith, e, number, least)))
      ∙ f.none u (omega (arith, least));
}

pub repeater_from : (h : Holding) (base i : ℕ) (s s' : Held) → s' ≡ with_repeater h s → h.number ≡ base + i → HasNoneFrom (base + i) s → HasNoneFrom (base + (i + 1)) s'
repeater_from h base i s s' is number f = record {
  none = λ u least. ap (owns u) is
      ∙ ap (is_either (part_on u s.segments)) (added_other h s.repeaters u (λ e. omega (arith, e, number, least)))
      ∙ f.none u (omega (arith, least));
}
