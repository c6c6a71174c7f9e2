-- Where two taps have one path they have one distance.
use Rattle.std.proofs.Common.{refl, sym, ◌∙◌, ap, ℕ}
use Rattle.layout.specs.declared.lines.Layout.{Layout}
use Rattle.layout.specs.declared.ways.Attachment.{Attachment}
use Rattle.layout.specs.Networks.{IsTree}
use Rattle.layout.specs.Paths.{Path, IsPath, length_of, IsDistance, HasOnePath, HasOneDistance}
use Rattle.layout.proofs.Cuts.{paths_same}
use Rattle.layout.proofs.PathsOverEdges.{some_path}
use Rattle.layout.specs.Paths.{StandsOnSegments}
use Rattle.layout.proofs.Sides.{tree_has_cuts}

pub one_path_of : (l : Layout) → StandsOnSegments l → IsTree l → HasOnePath l
one_path_of l stands tree = record { some = some_path l stands tree; same = paths_same l (tree_has_cuts l stands tree) }

distance_by : (l : Layout) (a b : Attachment) → (p : Path) × IsPath l a p b → (n : ℕ) × IsDistance l a b n
distance_by l a b (p, leads) = (length_of l a p, record { path = p; leads = leads; long = refl })

pub one_distance_of : (l : Layout) → HasOnePath l → HasOneDistance l
one_distance_of l one = record {
  some = λ a b at_a at_b ne. distance_by l a b (one.some a b at_a at_b ne);
  same = λ a b ne m n x y. sym x.long ∙ ap (λ (p : Path). length_of l a p) (one.same a b ne x.path y.path x.leads y.leads) ∙ y.long;
}
