-- What a sound layout keeps is one fact: any two proofs of it are equal, so a plan's layout is sound as it stands.
use Rattle.std.proofs.Common.{◌≡◌, ℕ, ◌⊎◌, inl, inr, false, Option, Some, None, List, [], ◌∷◌, ◌++◌, ap, arith}
use Rattle.std.proofs.Math.Logic.{∥∥₁_elim}
use Rattle.std.proofs.Math.Bool.{Bool-set}
use Rattle.std.proofs.Math.Nat.{ℕ_set}
use Rattle.std.specs.Prelude.{IfSome}
use Rattle.std.specs.Coded.{×_prop, Unit-prop, le_prop}
use Rattle.layout.specs.declared.edge.Edge.{Edge}
use Rattle.layout.specs.declared.lines.Layout.{Layout}
use Rattle.layout.specs.Joined.{is_joined}
use Rattle.layout.specs.Networks.{CloseNoLoop}
use Rattle.layout.specs.Sound.{IsLoad, IsSound}
use Rattle.load_plan.specs.declared.plan.Plan.{Plan}

two_formats : (n : ℕ) → IsProp ((n ≡ 1) ⊎ (n ≡ 2))
two_formats n (inl a) (inl b) = ap inl (ℕ_set n 1 a b)
two_formats n (inr a) (inr b) = ap inr (ℕ_set n 2 a b)
two_formats n (inl a) (inr b) = absurd (omega (arith, a, b))
two_formats n (inr a) (inl b) = absurd (omega (arith, a, b))

loops_prop : (parts : ℕ) (before es : List Edge) → IsProp (CloseNoLoop parts before es)
loops_prop parts before [] = Unit-prop
loops_prop parts before (e ∷ es) = ×_prop (Bool-set (is_joined parts before e.from e.to) false) (loops_prop parts (before ++ e ∷ []) es)

load_prop : (load : Option (List ℕ)) → IsProp (IfSome load IsLoad)
load_prop None = Unit-prop
load_prop (Some s) = hlevel le_prop

sound_prop : (l : Layout) → IsProp (IsSound l)
sound_prop l = hlevel (le_prop, ℕ_set, Bool-set, two_formats, loops_prop, load_prop)

-- a plan's layout is sound
pub sound_of_plan : (plan : Plan) → IsSound plan.layout
sound_of_plan plan = ∥∥₁_elim plan.sound (sound_prop plan.layout) (λ h. h)
