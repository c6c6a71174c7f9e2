use Rattle.std.proofs.Common.{◌≡◌, List, [], ◌∷◌, map, get_or, sym, ap, ◌∙◌}
use Rattle.std.proofs.Math.ListN.{get_or-map}
use Rattle.worker_gate.proofs.threads.live.Goals as goal
use Rattle.worker_gate.proofs.threads.live.Goals.{then-not-is_refused, else-not-is_refused}

-- where there is one, and no f of one changes, f of it doesn't
f_of_one : {X Y : Type 0} (f : X → Y) (old new : List X) (x : X) → map f new ≡ map f old → old ≡ x ∷ [] → f (get_or new 0 x) ≡ f x
f_of_one f old new x same is = sym (get_or-map f new 0 x) ∙ ap (λ ms. get_or ms 0 (f x)) (same ∙ ap (map f) is)

pub returns-clause-windows : goal.returns-clause-windows
returns-clause-windows g c = elim c.if-not-is_refused.branch [
  | then-not-is_refused w ↦ ap (λ k. k.windows) w.kit-is
      ∙ f_of_one (λ k. k.windows) w.from_mut.result.now w.work.new.kits c.args.kit w.work.ensures.windows w.from_mut.ensures.value
  | else-not-is_refused w ↦ ap (λ k. k.windows) w.kit-is
]

pub returns-clause-duties : goal.returns-clause-duties
returns-clause-duties g c = elim c.if-not-is_refused.branch [
  | then-not-is_refused w ↦ ap (λ k. k.duties) w.kit-is
      ∙ f_of_one (λ k. k.duties) w.from_mut.result.now w.work.new.kits c.args.kit w.work.ensures.duties w.from_mut.ensures.value
  | else-not-is_refused w ↦ ap (λ k. k.duties) w.kit-is
]
