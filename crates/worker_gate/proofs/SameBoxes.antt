-- Endpoints of the same boxes.
use Rattle.std.proofs.Common.{◌≡◌, ℕ, ◌+◌, ◌<◌, List, [], ◌∷◌, ◌++◌, length, map, take, get_or, sym, ap, ap₂, ◌∙◌}
use Rattle.std.proofs.lemmas.List.{map-append, take_more}
use Rattle.std.proofs.Math.ListN.{get_or-map}

-- one more endpoint, of the next box
pub one_more_end : {X Y Z : Type 0} (f : X → Z) (g : Y → Z) (ends more : List X) (boxes first : List Y) (i : ℕ) (p : X) (b : Y)
    → i < length first → map f ends ≡ map g (take i first) → map g boxes ≡ map g first → f p ≡ g (get_or boxes i b)
    → more ≡ ends ++ p ∷ [] → map f more ≡ map g (take (i + 1) first)
one_more_end f g ends more boxes first i p b within old same to is =
    let there : g (get_or boxes i b) ≡ g (get_or first i b) = sym (get_or-map g boxes i b) ∙ ap (λ ms. get_or ms i (g b)) same ∙ get_or-map g first i b in
    ap (map f) is ∙ map-append f ends (p ∷ []) ∙ ap₂ (λ ms m. ms ++ m ∷ []) old (to ∙ there)
    ∙ sym (map-append g (take i first) (get_or first i b ∷ [])) ∙ ap (map g) (sym (take_more first i b within))
