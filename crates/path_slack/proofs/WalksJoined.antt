-- Two walks that begin at the ends of a step make one path, either way round.
use Rattle.std.proofs.Common.{◌≡◌, refl, subst, ℕ, ◌+◌, List, ◌∷◌, arith}
use Rattle.layout.specs.declared.lines.Layout.{Layout}
use Rattle.layout.specs.declared.ways.Attachment.{Attachment}
use Rattle.layout.specs.declared.ways.Way.{Way}
use Rattle.layout.specs.Paths.{IsStep, other_way, IsWalk, step_length, walk_length, IsDistance}
use Rattle.layout.proofs.WalksBack.{step_back, step_length-back, back, distance_back}
use Rattle.path_slack.specs.Crossings.{IsCrossed}

pub joined : (l : Layout) (w : Way) (near far a b : Attachment) (rs us : List Attachment) → IsStep l w near far → IsWalk l (other_way w) near rs a → IsWalk l (other_way w) far us b
    → IsDistance l a b (walk_length l (other_way w) near rs + step_length l w near far + walk_length l (other_way w) far us)
joined l w near far a b rs us step before after =
    let there : IsDistance l b a (walk_length l (other_way w) near rs + walk_length l w near (far ∷ us)) = back l w a near rs (far ∷ us) b (walk_length l (other_way w) near rs) (walk_length l w near (far ∷ us)) before refl (step, after) refl in
    let sum : walk_length l (other_way w) near rs + walk_length l w near (far ∷ us) ≡ walk_length l (other_way w) near rs + step_length l w near far + walk_length l (other_way w) far us = omega arith in
    distance_back l b a (walk_length l (other_way w) near rs + step_length l w near far + walk_length l (other_way w) far us) (subst (λ (x : ℕ). IsDistance l b a x) sum there)

unfoldable pub crossed_turned : (l : Layout) (v : Way) (C : Attachment → Attachment → Type 0) → ((a b : Attachment) → IsStep l v a b → C a b → C b a) → (a b n : ℕ) → IsCrossed l v C a b n → IsCrossed l v C b a n
crossed_turned l v C turn a b n h =
    let same : step_length l v h.near h.far ≡ step_length l v h.far h.near = step_length-back l v h.near h.far h.step in
    let sum : h.before + step_length l v h.near h.far + h.after ≡ n = h.sum in
    record {
      near = h.far;
      far = h.near;
      step = step_back l v h.near h.far h.step;
      over = turn h.near h.far h.step h.over;
      before = h.after;
      after = h.before;
      start = h.finish;
      finish = h.start;
      sum = omega arith;
    }
