-- From the two ends of a step no station is reached by the other way.
use Rattle.std.proofs.Common.{◌≡◌, sym, ap, inl, inr, ℕ, ◌∷◌}
use Rattle.layout.specs.declared.lines.Layout.{Layout}
use Rattle.layout.specs.declared.ways.Attachment.{Attachment}
use Rattle.layout.specs.declared.ways.Attachment.TheVariants.{Station}
use Rattle.layout.specs.declared.ways.Way.{Way}
use Rattle.layout.specs.declared.ways.Way.TheVariants as way
use Rattle.layout.specs.Paths.{IsStep, other_way, Path}
use Rattle.layout.specs.Sound.{IsSound}
use Rattle.layout.proofs.Cuts.{same_tap, never_round, paths_same}
use Rattle.layout.proofs.SoundTaps.{sound_cuts}
use Rattle.path_checker.specs.Far.{IsReach}

apart_ways : (v : Way) → v ≡ other_way v → ⊥
apart_ways way.Cable e = cc
apart_ways way.Repeater e = cc

pub no_round : (l : Layout) → IsSound l → (w : Way) (near far : Attachment) (p q s : ℕ) → IsStep l w near far → IsReach l (other_way w) near p s → IsReach l (other_way w) far q s → ⊥
no_round l sound w near far p q s step before after =
    elim (same_tap near (Station s)) [
      | inl same ↦ never_round l (sound_cuts l sound) w near far after.taps (Station s) (step, after.leads) (sym same)
      | inr ne ↦
          let first : Path = record { begins = w; taps = far ∷ after.taps } in
          let second : Path = record { begins = other_way w; taps = before.taps } in
          let one : first ≡ second = paths_same l (sound_cuts l sound) near (Station s) ne first second (step, after.leads) before.leads in
          apart_ways w (ap (λ (x : Path). x.begins) one)
    ]
