use Rattle.std.proofs.Common.{◌≡◌, false, sym, subst, ◌∙◌, true≢false}
use Rattle.exchange_core.specs.Holdings.{added_repeater}
use Rattle.exchange_core.specs.Shares.{Held, share_of, owns, IsOfPlan, IsWholeShare}
use Rattle.exchange_core.proofs.SoundHoldings.{new_repeater_sound}
use Rattle.exchange_core.proofs.GrownShares.{MayAdd, learnt_whole, grown_whole, none_at_new}
use Rattle.exchange_core.proofs.share.Share.add_repeater.Given.{Over}
use Rattle.exchange_core.proofs.share.Share.add_repeater.Goals.{After-learn}
use Rattle.exchange_core.proofs.share.Share.add_repeater.Goals as goal

may : (g : Over) (c : After-learn g) → MayAdd false (share_of c.self.inside.segments c.self.inside.repeaters) (added_repeater (g.R.Part.plan c.args.part) (g.R.Part.number c.args.part) (g.R.Part.at c.args.part))
may g c =
    let laws = g.met.R.Part g.world.𝓛 g.world.𝓜 g.world.𝓡 ((λ s x. x), (λ x. x), (λ x. x), λ x. x) in
    record {
      sound = new_repeater_sound (g.R.Part.plan c.args.part) (g.R.Part.number c.args.part) (g.R.Part.at c.args.part) (laws.within c.args.part) c.requires.kind;
      kind_is = c.requires.kind;
      plan = subst (IsOfPlan (g.R.Part.plan c.args.part)) (sym c.self.view_is) c.requires.plan;
      fresh = subst (λ (v : Held). owns (g.R.Part.number c.args.part) v ≡ false) (sym c.self.view_is) c.requires.fresh;
    }

learnt : (g : Over) (c : After-learn g) → IsWholeShare c.self.inside.segment_spots.parts.items c.learn.new.self.parts.items (share_of c.self.inside.segments c.self.inside.repeaters)
learnt g c = learnt_whole false _ _ _ _ c.self.invariant _ (may g c) c.edges.result.now c.learn.new.self.parts.items c.edges.ensures c.learn.ensures.others

pub invariant_of-self : goal.invariant_of-self
invariant_of-self g c = learnt g (goal.at.invariant_of-self g c).After-learn

pub invariant_of-self-in_err-holder : goal.invariant_of-self-in_err-holder
invariant_of-self-in_err-holder g c = learnt g (goal.at.invariant_of-self-in_err-holder g c).After-learn

pub invariant_of-self-2 : goal.invariant_of-self-2
invariant_of-self-2 g c =
    grown_whole false _ _ _ _ c.self.invariant _ (may g (goal.at.invariant_of-self-2 g c).After-learn) c.edges.result.now c.learn.new.self.parts.items c.edges.ensures c.learn.ensures.others
    c.add.result c.in_ok-holder.holder c.add.new.self c.in_ok-holder.ensures (λ k in'. c.in_ok-learn.ensures.mine k in' ∙ c.part.ensures)
    (λ e v other here _ _. true≢false (sym here ∙ none_at_new (g.R.Part.plan c.args.part) (g.R.Part.number c.args.part) (g.R.Part.at c.args.part) e))
    c.add.ensures.ok c.add.ensures.err
