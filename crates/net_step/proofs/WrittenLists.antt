-- Lists that a pass wrote over whole.
use Rattle.std.proofs.Common.{◌≡◌, ℕ, List, length, ap, ◌∙◌, arith}
use Rattle.std.specs.Vec.{with_items}
use Rattle.std.proofs.lemmas.List.{with_items_is}
use Rattle.std.specs.declared.vec.Vec.{Vec}

-- what the pass left is all that is in it
pub written_over : {X Z : Type 0} (v : Vec X Z) (old new : List X) → length new ≡ length old → old ≡ v.items → (with_items v new).items ≡ new
written_over v old new kept is = let same = ap length is in let all = v.ok.0 in with_items_is v new (omega (arith, kept, same, all))

-- and it has as many entries as before
pub still_many : {X Z : Type 0} (v : Vec X Z) (old new seen : List X) (n : ℕ) → length new ≡ length old → old ≡ v.items → seen ≡ (with_items v new).items → length v.items ≡ n → length seen ≡ n
still_many v old new seen n kept is sees many = ap length (sees ∙ written_over v old new kept is) ∙ kept ∙ ap length is ∙ many

pub same_items : {X Z : Type 0} (v w : Vec X Z) → v ≡ w → v.items ≡ w.items
same_items {X = X} {Z = Z} v w e = ap (λ (x : Vec X Z). x.items) e
