-- What a sound layout gives to a run.
use Rattle.std.proofs.Common.{◌≡◌, ℕ, inl, inr, get_or, sym}
use Rattle.std.proofs.lemmas.Bool.{cases_order}
use Rattle.layout.specs.declared.lines.Layout.{Layout}
use Rattle.layout.specs.declared.lines.PortLine.{PortLine}
use Rattle.layout.specs.Sound as sound
use Rattle.load_plan.specs.declared.plan.Plan.{Plan}
use Rattle.load_plan.proofs.PlansAreSound.{sound_of_plan}
use Rattle.network.specs.Runnable.{IsRunnable}
use Rattle.layout.specs.Taps.{taps_of}
use Rattle.network.specs.Apart.{AreApart}

runnable : (l : Layout) → sound.IsSound l → IsRunnable l
runnable l s = record {
  few_stations = s.stations_most;
  few_repeaters = s.repeaters_most;
  short = s.bits_most;
  stations_on = λ k d h. (s.stations k d h).segment;
  stations_near = λ k d h. (s.stations k d h).at;
  lose = λ k d h. (s.stations k d h).lose;
  two_ports = λ k d h. (s.repeaters k d h).ports_least;
  few_ports = λ k d h. (s.repeaters k d h).ports_most;
  some_delay = λ k d h. (s.repeaters k d h).delay_least;
  short_delay = λ k d h. (s.repeaters k d h).delay_most;
  ports_on = λ k d h. λ i e m. ((s.repeaters k d h).ports i e m).segment;
  ports_near = λ k d h. λ i e m. ((s.repeaters k d h).ports i e m).at;
}

-- what each plan's layout gives
pub runnable_plan : (plan : Plan) → IsRunnable plan.layout
runnable_plan plan = runnable plan.layout (sound_of_plan plan)

-- two taps that have the same segment and place are one
apart : (l : Layout) → sound.IsSound l → AreApart (taps_of l)
apart l s = λ p q d hp hq ne segment at.
    let same : get_or (taps_of l) p d ≡ get_or (taps_of l) q d = same_tap segment at in
    elim (cases_order p q) [
      | inl e ↦ ne e
      | inr order ↦ elim order [
        | inl less ↦ s.taps p q d less hq same
        | inr more ↦ s.taps q p d more hp (sym same)
      ]
    ]
  where
    same_tap : {s s' a a' : ℕ} → s ≡ s' → a ≡ a' → ◌≡◌ {A = PortLine} (record { segment = s; at = a }) (record { segment = s'; at = a' })
    same_tap e f = cc

pub apart_plan : (plan : Plan) → AreApart (taps_of plan.layout)
apart_plan plan = apart plan.layout (sound_of_plan plan)
