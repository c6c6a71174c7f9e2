use Rattle.std.proofs.Common.{◌≡◌, ◌≤◌, ℕ, List, drop, length, map}
use Rattle.std.specs.BTreeMap.{get_by}
use Rattle.std.specs.Cmp.Lexicographic.{slice_cmp}
use Rattle.std.specs.List.{position_from}
use Rattle.std.specs.Ordering.{nat_cmp}
use Rattle.std.specs.Str.{bytes_eq}
use Rattle.frame_table.proofs.devices.places_of.Given as goal

abbrev pub invariant-loop-i : goal.invariant-loop-i
invariant-loop-i l = record {
  placed : (name : List ℕ) → get_by (λ k. slice_cmp nat_cmp name k.now) l.places ≡ position_from (λ x. bytes_eq x name) l.i (drop l.i (map (λ n. n.now) l.names));
  within : l.i ≤ length l.names;
}

abbrev pub decreases-loop-i : goal.decreases-loop-i
decreases-loop-i l = l.i
