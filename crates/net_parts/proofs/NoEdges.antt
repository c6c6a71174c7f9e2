-- A part without edges gets no parcels.
use Rattle.std.proofs.Common.{◌≡◌, ℕ, List, [], ◌∷◌, length, refl, ◌∙◌, arith}
use Rattle.std.specs.Prelude.{not}
use Rattle.std.proofs.lemmas.List.{length-map}
use Rattle.load_plan.specs.declared.plan.Plan.{Plan}
use Rattle.net_parts.specs.Parcels.{arrived, true_parcel}
use Rattle.net_parts.specs.Parts.{edges_of_part, is_segment_part}

none_of : {X : Type 0} (xs : List X) → length xs ≡ 0 → [] ≡ xs
none_of [] h = refl
none_of (x ∷ xs) h = absurd (omega (arith, h))

pub none_arrive : (plan : Plan) (u w : ℕ) → length (edges_of_part plan u) ≡ 0 → [] ≡ arrived plan u w
none_arrive plan u w h = none_of (arrived plan u w) (length-map (edges_of_part plan u) (true_parcel plan (not (is_segment_part plan u)) w) ∙ h)
