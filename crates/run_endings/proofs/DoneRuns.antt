-- What a form that checks or runs a network leaves where it is done.
use Rattle.std.proofs.Common.{◌≡◌, ℕ, List, inl, inr}
use Rattle.layout.specs.declared.lines.Layout.{Layout}
use Rattle.run_endings.specs.declared.endings.Ending.{Ending}
use Rattle.run_endings.specs.declared.endings.Ending.TheVariants as ending
use Rattle.run_endings.specs.Endings.{IsEarly, IsPlainEnd, IsRun, IsTakenEnd, IsTellingEnd, IsUnloadedSaid}
use Rattle.run_endings.specs.Moments.{Moment}
use Rattle.run_endings.specs.Done.{IsRunDone, IsTellingDone}
use Rattle.run_endings.specs.WrittenNames.{RunOf}
use Rattle.run_endings.proofs.WaysOfEnding.{by_way}

-- an ending that comes neither early nor of want of memory is that of a run
pub run_of : (layout prefix : List ℕ) (before after : Moment) (e : Ending) → (IsEarly layout before after e → ⊥) → ((network : Layout) → IsTakenEnd layout (RunOf prefix) network before after e → ⊥) → ((network : Layout) → IsUnloadedSaid network before after e → ⊥) → (e ≡ ending.Memory → ⊥)
    → IsPlainEnd layout prefix before after e → IsRun layout prefix before after e
run_of layout prefix before after e early taken unloaded memory h =
    by_way (IsRun layout prefix before after e) layout prefix before after e (λ one. absurd (early one)) (λ two. absurd (taken two.network two.said)) (λ three. absurd (unloaded three.network three.said)) (λ unrun. absurd (memory unrun.0)) (λ run. run) h

held_of : (layout prefix : List ℕ) (before after : Moment) → IsRun layout prefix before after ending.Done → IsRunDone layout prefix before after
held_of layout prefix before after run =
    elim run.filed [
      | inl all ↦ record { plan = run.plan; planned = run.planned; files = all.0; summary = all.1.0; summed = all.1.1; written = all.1.2 }
      | inr some ↦ absurd some
    ]

-- a run was done
pub run_done : (layout prefix : List ℕ) (before after : Moment) → IsPlainEnd layout prefix before after ending.Done → IsRunDone layout prefix before after
run_done layout prefix before after h = held_of layout prefix before after (run_of layout prefix before after ending.Done (λ early. early) (λ network said. said) (λ network said. said) (λ e. cc) h)

-- a form that only tells of a layout was done
pub telling_done : (Tells : Layout → List ℕ → Type 0) (layout : List ℕ) (before after : Moment) → IsTellingEnd Tells layout before after ending.Done → IsTellingDone Tells layout before after
telling_done Tells layout before after h =
    elim h.1 [
      | inl early ↦ absurd early
      | inr told ↦ record { network = told.network; judged = told.judged; text = told.text; right = told.right; written = told.written; held = h.0 }
    ]
