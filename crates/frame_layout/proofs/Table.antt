-- Each entry of the table is eight steps of its octet.
use Rattle.std.proofs.Common.{◌≡◌, ℕ, ◌<◌, map, get_or, refl, ap, ◌∙◌, arith}
use Rattle.std.specs.Fn.{iterate}
use Rattle.std.specs.List.{range_with_len}
use Rattle.std.proofs.lemmas.List.FromFn.{get_or-map-range_with_len}
use Rattle.frame_layout.specs.declared.check_sequence.TheConstants.{TABLE}
use Rattle.frame_layout.specs.Register.{turned}

table_is_made : TABLE ≡ map (iterate turned 8) (range_with_len 0 256)
table_is_made = refl

pub table_at : (i : ℕ) → i < 256 → get_or TABLE i 0 ≡ iterate turned 8 i
table_at i h = ap (λ xs. get_or xs i 0) table_is_made ∙ get_or-map-range_with_len (iterate turned 8) 0 256 i i 0 h (omega arith)
