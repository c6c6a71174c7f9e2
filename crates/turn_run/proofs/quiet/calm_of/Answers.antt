use Rattle.std.proofs.Common.{◌≡◌, ℕ, ◌*◌, ◌≤◌, get_or, inl, inr, sym, subst, ◌∙◌, arith, mul-le-mul_right}
use Rattle.std.proofs.lemmas.List.{get_or_read}
use Rattle.std.proofs.lemmas.Bool.{cases_lt}
use Rattle.net_parts.specs.Parts.{edges_of_part}
use Rattle.net_parts.specs.Windows.{lookahead}
use Rattle.turn_run.specs.SilentWindows.{StaysIdle}
use Rattle.turn_run.proofs.SilentNetwork.{idle_for_fewer}
use Rattle.turn_run.proofs.quiet.calm_of.Goals as goal

pub loop-part-preserved : goal.loop-part-preserved
loop-part-preserved g c =
    let calm = c.loop-part.calm in
    let more = c.quiet_windows-calm.result in
    let fewer : more ≤ calm = c.quiet_windows-calm.ensures.within in
    let part = c.part-item.result in
    let test = c.loop-part-test.true in
    let is = λ (d : g.row.K.Denot). get_or_read c.args.parts.now c.loop-part.part-index part (omega (arith, test)) c.part-item.is d in
    record {
      within = let w = c.loop-part.invariant.within in omega (arith, fewer, w);
      among = omega (arith, test);
      are_calm = λ q d n h some few. elim (cases_lt q c.loop-part.part-index) [
        | inl before ↦ c.loop-part.invariant.are_calm q d n before some (omega (arith, few, fewer))
        | inr now ↦
            let e : c.loop-part.part-index ≡ q = omega (arith, h, now) in
            subst (λ k. g.K.PartKind.calm (get_or c.args.parts.now k d) n) e (subst (λ s. g.K.PartKind.calm s n) (is d) (c.quiet_windows-calm.ensures.calm n some few))
      ];
      silent = λ q d h.
          let P = λ (m : ℕ) (s : g.row.K.Denot). (let plan = g.K.Part.plan s in
          StaysIdle (g.K.PartKind.comes plan) (g.K.PartKind.goes plan) (edges_of_part plan (g.K.Part.number s)) (g.K.Part.at s * lookahead plan.layout) (m * lookahead plan.layout)) in
          elim (cases_lt q c.loop-part.part-index) [
            | inl before ↦
                let s = get_or c.args.parts.now q d in
                let plan = g.K.Part.plan s in
                idle_for_fewer (g.K.PartKind.comes plan) (g.K.PartKind.goes plan) (edges_of_part plan (g.K.Part.number s)) (g.K.Part.at s * lookahead plan.layout) (calm * lookahead plan.layout) (more * lookahead plan.layout)
                (mul-le-mul_right (lookahead plan.layout) fewer) (c.loop-part.invariant.silent q d before)
            | inr now ↦
                let e : c.loop-part.part-index ≡ q = omega (arith, h, now) in
                subst (λ k. P more (get_or c.args.parts.now k d)) e (subst (P more) (is d) c.quiet_windows-calm.ensures.silent)
          ];
    }

pub returns-clause-silent : goal.returns-clause-silent
returns-clause-silent g c = λ k d h.
    let over = c.loop-part-test.false in
    let end = c.loop-part.invariant.among in
    c.loop-part.invariant.silent k d (omega (arith, h, over, end))
