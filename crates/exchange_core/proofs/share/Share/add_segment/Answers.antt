use Rattle.std.proofs.Common.{◌≡◌, true, false, sym, subst, ◌∙◌}
use Rattle.net_parts.specs.Parts.{edges_of_part}
use Rattle.exchange_core.specs.Holdings.{added_segment}
use Rattle.exchange_core.specs.Shares.{Held, share_of, owns, IsOfPlan, HasNoneOf, IsWholeShare}
use Rattle.exchange_core.proofs.SoundHoldings.{new_segment_sound}
use Rattle.exchange_core.proofs.GrownShares.{MayAdd, learnt_whole, grown_whole, none_elsewhere}
use Rattle.exchange_core.proofs.share.Share.add_segment.Given.{Over}
use Rattle.exchange_core.proofs.share.Share.add_segment.Goals.{After-learn}
use Rattle.exchange_core.proofs.share.Share.add_segment.Goals as goal

may : (g : Over) (c : After-learn g) → MayAdd true (share_of c.self.inside.segments c.self.inside.repeaters) (added_segment (g.S.Part.plan c.args.part) (g.S.Part.number c.args.part) (g.S.Part.at c.args.part) c.args.parcels)
may g c =
    let laws = g.met.S.Part g.world.𝓛 g.world.𝓜 g.world.𝓡 ((λ s x. x), (λ x. x), (λ x. x), λ x. x) in
    record {
      sound = new_segment_sound (g.S.Part.plan c.args.part) (g.S.Part.number c.args.part) (g.S.Part.at c.args.part) c.args.parcels (laws.within c.args.part) c.requires.parcels;
      kind_is = c.requires.kind;
      plan = subst (IsOfPlan (g.S.Part.plan c.args.part)) (sym c.self.view_is) c.requires.plan;
      fresh = subst (λ (v : Held). owns (g.S.Part.number c.args.part) v ≡ false) (sym c.self.view_is) c.requires.fresh;
    }

learnt : (g : Over) (c : After-learn g) → IsWholeShare c.learn.new.self.parts.items c.self.inside.repeater_spots.parts.items (share_of c.self.inside.segments c.self.inside.repeaters)
learnt g c = learnt_whole true _ _ _ _ c.self.invariant _ (may g c) c.edges.result.now c.learn.new.self.parts.items c.edges.ensures c.learn.ensures.others

pub invariant_of-self : goal.invariant_of-self
invariant_of-self g c = learnt g (goal.at.invariant_of-self g c).After-learn

pub invariant_of-self-in_err-holder : goal.invariant_of-self-in_err-holder
invariant_of-self-in_err-holder g c = learnt g (goal.at.invariant_of-self-in_err-holder g c).After-learn

pub invariant_of-self-2 : goal.invariant_of-self-2
invariant_of-self-2 g c =
    let p = may g (goal.at.invariant_of-self-2 g c).After-learn in
    grown_whole true _ _ _ _ c.self.invariant _ p c.edges.result.now c.learn.new.self.parts.items c.edges.ensures c.learn.ensures.others
    c.add.result c.in_ok-holder.holder c.add.new.self c.in_ok-holder.ensures (λ k in'. c.in_ok-learn.ensures.mine k in' ∙ c.part.ensures)
    (none_elsewhere (added_segment (g.S.Part.plan c.args.part) (g.S.Part.number c.args.part) (g.S.Part.at c.args.part) c.args.parcels) (share_of c.self.inside.segments c.self.inside.repeaters) p.sound
    (subst (HasNoneOf (edges_of_part (g.S.Part.plan c.args.part) (g.S.Part.number c.args.part))) (sym c.self.view_is) c.requires.once))
    c.add.ensures.ok c.add.ensures.err
