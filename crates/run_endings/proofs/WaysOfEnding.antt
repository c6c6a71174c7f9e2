-- The ending of a status, and what comes of every way in which a form ends.
use Rattle.std.proofs.Common.{◌≡◌, ℕ, zero, suc, List, refl, inl, inr}
use Rattle.run_endings.specs.Answers.{status_of}
use Rattle.run_endings.specs.declared.endings.Ending.{Ending}
use Rattle.run_endings.specs.declared.endings.Ending.TheVariants as ending
use Rattle.run_endings.specs.Endings.{IsEarly, IsLoadEnd, IsPlainEnd, IsRun, IsTaken, IsUnrun}
use Rattle.run_endings.specs.Moments.{Moment}
use Rattle.run_endings.specs.WrittenNames.{RunOf}

-- the ending of a status
abbrev pub ending_at : ℕ → Ending
ending_at zero = ending.Done
ending_at (suc zero) = ending.Words
ending_at (suc (suc zero)) = ending.Layout
ending_at (suc (suc (suc zero))) = ending.Load
ending_at (suc (suc (suc (suc zero)))) = ending.Read
ending_at (suc (suc (suc (suc (suc zero))))) = ending.Write
ending_at (suc (suc (suc (suc (suc (suc zero)))))) = ending.Memory
ending_at (suc (suc (suc (suc (suc (suc (suc zero))))))) = ending.Probe
ending_at (suc (suc (suc (suc (suc (suc (suc (suc zero)))))))) = ending.Log
ending_at (suc (suc (suc (suc (suc (suc (suc (suc (suc zero))))))))) = ending.Unquiet
ending_at (suc (suc (suc (suc (suc (suc (suc (suc (suc (suc zero)))))))))) = ending.State
ending_at (suc (suc (suc (suc (suc (suc (suc (suc (suc (suc (suc zero))))))))))) = ending.Stranger
ending_at (suc (suc (suc (suc (suc (suc (suc (suc (suc (suc (suc (suc n)))))))))))) = ending.Output

pub at_status : (e : Ending) → ending_at (status_of e) ≡ e
at_status ending.Done = refl
at_status ending.Words = refl
at_status ending.Layout = refl
at_status ending.Load = refl
at_status ending.Read = refl
at_status ending.Write = refl
at_status ending.Memory = refl
at_status ending.Probe = refl
at_status ending.Log = refl
at_status ending.Stranger = refl
at_status ending.Unquiet = refl
at_status ending.State = refl
at_status ending.Output = refl

-- what comes of each of the five ways in which a form that writes the files of a run ends comes of its end
pub by_way : (X : Type 0) (layout prefix : List ℕ) (before after : Moment) (e : Ending) → (IsEarly layout before after e → X) → (IsTaken layout (RunOf prefix) before after e → X) → (IsLoadEnd layout (RunOf prefix) before after e → X) → (IsUnrun before after e → X) → (IsRun layout prefix before after e → X)
    → IsPlainEnd layout prefix before after e → X
by_way X layout prefix before after e early taken unloaded unrun run h =
    elim h [
      | inl none ↦ elim none [ inl one ↦ early one.0 | inr later ↦ elim later [ inl two ↦ taken two.0 | inr last ↦ elim last [ inl three ↦ unloaded three.0 | inr four ↦ unrun four ] ] ]
      | inr ran ↦ run ran
    ]
