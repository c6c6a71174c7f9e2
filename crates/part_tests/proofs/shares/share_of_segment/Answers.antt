use Rattle.std.proofs.Common.{◌≡◌, sym, subst, ◌∙◌}
use Rattle.net_parts.specs.Parcels.{arrived}
use Rattle.exchange_core.specs.Shares.{AreParcelsFor}
use Rattle.exchange_core.proofs.ShareLaws.{parcels_serve}
use Rattle.part_tests.proofs.shares.share_of_segment.Goals as goal

pub add_segment-requires-clause-parcels : goal.add_segment-requires-clause-parcels
add_segment-requires-clause-parcels c κs =
    let f = c.in_ok-part in
    let same : c.in_ok-parcels.parcels ≡ arrived f.part.plan.value f.part.number f.part.window =
    c.in_ok-parcels.ensures ∙ sym (λ i. arrived (f.ensures.plan i) (f.ensures.number i) (f.ensures.window i)) in
    subst (AreParcelsFor f.part.plan.value f.part.number f.part.window) (sym same)
    (parcels_serve f.part.plan.value f.part.number f.part.window)
