use Rattle.std.proofs.lemmas.Result.{on_ok_weaker}
use Rattle.run_picture.specs.Head.{patterns}
use Rattle.run_picture.proofs.Joined.{joined_4}
use Rattle.run_picture.proofs.head.add_patterns.Goals as goal

pub returns : goal.returns
unfolding patterns
returns c =
    on_ok_weaker c.add_pattern-4.result
    (λ e. joined_4 c.args.text.now _ _ _ _
    c.add_pattern.new.text c.add_pattern-2.new.text c.add_pattern-3.new.text c.add_pattern-4.new.text
    c.in_ok-add_pattern.ensures c.in_ok-add_pattern-2.ensures c.in_ok-add_pattern-3.ensures e)
    c.add_pattern-4.ensures
