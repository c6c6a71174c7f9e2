use Rattle.std.proofs.Common.{◌+◌, ◌/◌, ◌%◌, [], ◌∷◌, refl}
use Rattle.mac_parameters.specs.Parameters.{addresses_and_type}
use Rattle.demo_layout.proofs.RowsInOrder.{one_item_more}
use Rattle.demo_layout.proofs.sent_frames.octets.Goals as goal

pub loop-k-preserved : goal.loop-k-preserved
loop-k-preserved c =
    let s = c.args.station in
    let j = c.args.j in
    one_item_more (255 ∷ 255 ∷ 255 ∷ 255 ∷ 255 ∷ 255 ∷ 2 ∷ 0 ∷ 0 ∷ 0 ∷ s / 256 ∷ s % 256 ∷ 8 ∷ 0 ∷ []) (λ i. (i + s + j) % 256) addresses_and_type
    c.loop-k.k (addresses_and_type + c.loop-k.k) c.loop-k.octets _ _ refl c.in_ok-push.ensures.ok refl c.loop-k.invariant
