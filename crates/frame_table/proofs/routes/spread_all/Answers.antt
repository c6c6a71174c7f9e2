use Rattle.std.proofs.Common.{[], inl, inr, length, ℕ, ◌∙◌, subst, sym, take_all}
use Rattle.std.proofs.lemmas.List.Elements.{All-nil, All-same}
use Rattle.layout.specs.Among.{IsAmong}
use Rattle.layout.specs.Paths.{IsStep}
use Rattle.layout.specs.declared.ways.Way.TheVariants as way
use Rattle.path_checker.specs.Far.{IsStop}
use Rattle.frame_table.specs.Led.{IsSearched, IsLed, StandsThere}
use Rattle.frame_table.specs.declared.routes.Led.{Led}
use Rattle.frame_table.proofs.WaysFound.{among_taken, done_on}
use Rattle.frame_table.proofs.routes.spread_all.Goals as goal

pub loop-head-init : goal.loop-head-init
loop-head-init c =
    let l = c.args.layout.now in
    record {
      routes = λ a led before. before;
      next = λ a led. All-same (IsLed l a way.Cable) c.new-next.result.items [] c.new-next.ensures.items (All-nil (IsLed l a way.Cable));
      stand = All-same (StandsThere l) c.new-next.result.items [] c.new-next.ensures.items (All-nil (StandsThere l));
      kept = λ b h. h;
      done = λ h p among step. absurd among;
    }

pub spread-requires-clause-head : goal.spread-requires-clause-head
spread-requires-clause-head c = subst (λ (x : Led). IsStop c.args.layout.now x.stop) (sym c.head-item.is) (c.requires.heads c.loop-head.head-index c.head-item.result c.loop-head-test.true)

pub loop-head-preserved : goal.loop-head-preserved
loop-head-preserved c =
    let l = c.args.layout.now in
    let head = c.head-item.result in
    let k = c.loop-head.head-index in
    let n = length c.args.routes.now in
    record {
      routes = λ a led before. c.in_ok-spread.ensures.routes a (subst (IsLed l a way.Cable) (sym c.head-item.is) (led k head c.loop-head-test.true)) (c.loop-head.invariant.routes a led before);
      next = λ a led. c.in_ok-spread.ensures.next a (subst (IsLed l a way.Cable) (sym c.head-item.is) (led k head c.loop-head-test.true)) (c.loop-head.invariant.next a led);
      stand = c.in_ok-spread.ensures.stand c.loop-head.invariant.stand;
      kept = λ b h. c.in_ok-spread.ensures.kept b (c.loop-head.invariant.kept b h);
      done = λ h p among step.
          elim (among_taken h c.args.heads.now k head c.loop-head-test.true among) [
            | inl early ↦ done_on l n c.loop-head.routes c.spread.new.routes c.loop-head.next.items c.spread.new.next.items p c.in_ok-spread.ensures.kept c.in_ok-spread.ensures.come (c.loop-head.invariant.done h p early step)
            | inr same ↦
                subst (λ (m : ℕ). IsSearched l m c.spread.new.routes c.spread.new.next.items p) c.loop-head.auto.routes
                (c.in_ok-spread.ensures.done p (subst (λ (x : Led). IsStep l way.Cable x.stop.tap p) (sym (c.head-item.is ∙ same)) step))
          ];
    }

pub returns-clause-done : goal.returns-clause-done
returns-clause-done c = λ h p among step. c.loop-head.invariant.done h p (subst (λ xs. IsAmong h xs) (sym (take_all c.loop-head.head-index c.args.heads.now c.loop-head-test.false)) among) step
