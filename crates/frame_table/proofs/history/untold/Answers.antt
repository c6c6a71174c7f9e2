use Rattle.std.proofs.Common.{◌≡◌, ◌+◌, ℕ, [], ap, length, arith}
use Rattle.std.proofs.lemmas.List.{length_push}
use Rattle.frame_table.specs.Histories.{history}
use Rattle.frame_table.specs.declared.history.History.{History}
use Rattle.frame_table.proofs.ToldSteps.{each_at}
use Rattle.frame_table.proofs.history.untold.Goals as goal

pub loop-k-preserved : goal.loop-k-preserved
loop-k-preserved c =
    let old = c.loop-k.histories.items in
    let new = c.push.new.self.items in
    let pushed = c.in_ok-push.ensures.items in
    record {
      count = omega (arith, ap length pushed, length_push old c.new.result, c.loop-k.invariant.count);
      each = λ k d lt.
          each_at (λ (j : ℕ) (h : History). h ≡ history (j + 1) []) d old new c.new.result c.loop-k._k c.loop-k.invariant.count pushed (λ j low. c.loop-k.invariant.each j d low) (c.new.ensures (c.loop-k._k + 1)) k lt;
    }
