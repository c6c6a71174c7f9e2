-- The tables of an array, taken from the front one by one.
use Rattle.std.proofs.Common.{Bool, not, ◌||◌, string_bytes, ◌≡◌, ℕ, List, [], ◌∷◌, drop, Option, refl, ap}
use Rattle.toml.specs.Data.{Members}
use Rattle.std.specs.Map.{keys_of}
use Rattle.std.specs.List.{list_any}
use Rattle.toml.specs.View.{items_view, members_view}
use Rattle.toml.specs.declared.value.Value.{Value}
use Rattle.toml.proofs.Views.{Entry}
use Rattle.layout_file.specs.Tree.{tables, is_listed, has_stranger}
use Rattle.layout_file.specs.declared.rules.Rule.{Rule}

-- the tables from the item at i on
abbrev pub tables_from : List Value → ℕ → Option (List Members)
tables_from vs i = tables (items_view (drop i vs))

abbrev pub has_stranger_in : List Rule → List Entry → Bool
has_stranger_in rules es = has_stranger rules (members_view es)

-- the keys of a map are the names of its members
pub stranger-keys : (rules : List Rule) (es : List Entry) → has_stranger rules (members_view es) ≡ list_any (λ k. not (is_listed rules (string_bytes k))) (keys_of es)
stranger-keys rules [] = refl
stranger-keys rules (e ∷ es) = ap (λ b. not (is_listed rules (string_bytes e.0)) || b) (stranger-keys rules es)
