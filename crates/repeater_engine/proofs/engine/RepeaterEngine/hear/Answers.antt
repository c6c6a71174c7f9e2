use Rattle.std.proofs.Common.{◌≡◌, ℕ, List, [], ◌++◌, length, map, take, drop, sym, subst, ap, ◌∙◌, arith, rules}
use Rattle.std.proofs.Math.Seq.{take-append_seam}
use Rattle.std.proofs.lemmas.Bool.Decides.{nat_tests}
use Rattle.manchester_line.specs.declared.Sym.{Sym}
use Rattle.repeater_core.specs.Classes.{class_of}
use Rattle.repeater_core.specs.Steady.{IsSteady}
use Rattle.repeater_core.proofs.SteadinessLasts.{lasts}
use Rattle.repeater_engine.specs.KeptRepeaters.{row_brought}
use Rattle.repeater_engine.proofs.engine.RepeaterEngine.hear.Goals.{then-most-self, else-most-self}
use Rattle.repeater_engine.proofs.engine.RepeaterEngine.hear.Goals as goal

-- a list that is written over from its beginning
overwritten : (n : ℕ) (new old : List Sym) → n ≡ length new → take n (new ++ drop (length new) old) ≡ new
overwritten n new old e = ap (λ m. take m (new ++ drop (length new) old)) e ∙ take-append_seam new (drop (length new) old)

pub invariant_of-self : goal.invariant_of-self
invariant_of-self c =
    let i = c.self.invariant in
    let heard = c.self.inside.heard.items in
    let r = c.self.inside.repeater in
    let new = c.hear_all.new.heard in
    let row = row_brought c.args.k c.args.parcels.now in
    let is : take c.self.inside.heard.len (new ++ drop (length new) heard) ≡ new = overwritten c.self.inside.heard.len new heard (search rules) in
    let classes : map class_of row ≡ map class_of heard = elim c.if-most-self.branch [
      | then-most-self w ↦ w.heard_alike-stays.ensures.alike (sym w.stays-is ∙ c.if-stays.true) ∙ ap (map class_of) w.deref.ensures.value
      | else-most-self w ↦ absurd (let yes = sym w.stays-is ∙ c.if-stays.true in grind (arith, nat_tests))
    ] in (
      record {
        guards = i.0.guards;
        few = i.0.few;
        emitting = i.0.emitting;
        deciding = i.0.deciding;
        sending = i.0.sending;
        no_captures = i.0.no_captures;
      },
      record {
        hearing = search rules;
        stays_steady = subst (λ xs. IsSteady xs r c.self.inside.steady) (sym (is ∙ c.hear_all.ensures))
            (lasts heard row [] r c.self.inside.steady tt classes (λ j l. i.1.stays_steady j (omega arith)));
      },
    )
