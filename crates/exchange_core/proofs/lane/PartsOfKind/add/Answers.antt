use Rattle.std.proofs.Common.{◌≡◌, ◌≤◌, ◌+◌, ◌++◌, ◌∷◌, [], true, ap, ◌∙◌, arith, set}
use Rattle.std.specs.Prelude.{Some, vec_len, vec_capacity, is_ok, if◌then◌else◌}
use Rattle.exchange_core.specs.Shares.{rack, widened, add_on}
use Rattle.exchange_core.proofs.HandedParts.{answered}
use Rattle.exchange_core.proofs.lane.PartsOfKind.add.Goals as goal

pub returns-clause-ok : goal.returns-clause-ok
returns-clause-ok g c =
    let s = c.self.inside in
    let h = c.args.holder in
    let n = c.number-number.result in
    let num : n ≡ h.number = c.number-number.ensures in
    let old = c.reserve.new.self in
    let room = c.in_ok-reserve.ensures.ok in
    let ok : is_ok c.push.result ≡ true = answered c.push.result (vec_capacity old ≤ vec_len old) c.push.ensures.full (λ x. omega (arith, x, room)) in
    let order : c.push.new.self.items ≡ s.order.items ++ h.number ∷ [] =
    c.push.ensures.items ∙ ap (λ b. if b then old.items ++ n ∷ [] else old.items) ok ∙ (λ i. c.reserve.ensures.items i ++ num i ∷ []) in
    let wide : c.widen.new.places.items ≡ widened (h.number + 1) s.places.items = c.in_ok-widen.ensures.ok ∙ ap (λ k. widened (k + 1) s.places.items) num in
    (λ i. rack (set (wide i) (num i) (Some h)) (order i)) ∙ ap (add_on h) c.self.view_is
