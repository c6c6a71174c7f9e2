use Rattle.std.proofs.Common.{◌≡◌, ◌≤◌, ◌<◌, ℕ, map, take, get_or, length}
use Rattle.std.specs.Prelude.{None, vec_len, vec_capacity}
use Rattle.exchange_core.specs.Shares.{handed, handed_as}
use Rattle.exchange_core.proofs.lane.PartsOfKind.into_parts.Given as goal

abbrev pub invariant-loop-part : goal.invariant-loop-part
invariant-loop-part g l = record {
  told : map (λ p. handed_as (g.P.Part.plan p) (g.P.Part.number p) (g.P.Part.at p)) l.spare.items ≡ map (λ u. handed (get_or l.initial.places.items u None)) (take l.part-index l.numbers);
  rest : (k : ℕ) → l.part-index ≤ k → k < length l.numbers → get_or l.places.items (get_or l.numbers k 0) None ≡ get_or l.initial.places.items (get_or l.numbers k 0) None;
  count : vec_len l.spare ≡ l.part-index;
  room : length l.numbers ≤ vec_capacity l.spare;
}
