use Rattle.std.proofs.Common.{◌≡◌, ◌≤◌, ◌+◌, true, ap, ◌∙◌, sym, arith, ◌++◌, ◌∷◌, []}
use Rattle.std.specs.Prelude.{None, vec_len, vec_capacity, is_ok, if◌then◌else◌}
use Rattle.exchange_core.specs.Shares.{widened}
use Rattle.exchange_core.proofs.HandedParts.{answered, widened_more}
use Rattle.exchange_core.proofs.lane.widen.Goals as goal

pub loop-places-preserved : goal.loop-places-preserved
loop-places-preserved g c =
    let old = c.loop-places.places in
    let new = c.push.new.self in
    let inv = c.loop-places.invariant in
    let some = inv.some in
    let room = inv.room in
    let below = c.loop-places-test.true in
    let counted = c.len-in-loop-places.ensures in
    let ok : is_ok c.push.result ≡ true = answered c.push.result (vec_capacity old ≤ vec_len old) c.push.ensures.full (λ h. omega (arith, h, room, below, counted)) in
    let items : new.items ≡ old.items ++ None ∷ [] = c.push.ensures.items ∙ ap (λ b. if b then old.items ++ None ∷ [] else old.items) ok in
    let many : vec_len new ≡ vec_len old + 1 = c.push.ensures.len ∙ ap (λ b. if b then vec_len old + 1 else vec_len old) ok in
    let wide = c.push.ensures.capacity in
    record {
      same = items ∙ ap (λ os. os ++ None ∷ []) inv.same ∙ widened_more (vec_len old) c.reserve.new.self.items some ∙ ap (λ n. widened n c.reserve.new.self.items) (sym many);
      some = omega (arith, some, many);
      few = omega (arith, many, below, counted);
      room = omega (arith, room, wide);
    }
