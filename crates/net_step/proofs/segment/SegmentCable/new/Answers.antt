use Rattle.std.proofs.Common.{◌≡◌, ◌≤◌, All, length, sym, subst, ap, ◌∙◌, arith}
use Rattle.cable_segment.specs.Cable.{CableHistory}
use Rattle.mac_parameters.specs.Parameters.{greatest_place}
use Rattle.net_step.specs.Wires.{cable_places}
use Rattle.layout.specs.Taps.{positions_on}
use Rattle.network.specs.TapsOnSegments.{numbers_on}
use Rattle.net_step.proofs.CablePlaces.{near_positions, places_fit, numbers_fit}
use Rattle.net_step.proofs.segment.SegmentCable.new.Goals as goal

pub cable_places-requires : goal.cable_places-requires
cable_places-requires c = subst (All (λ p. p ≤ greatest_place)) (sym c.in_ok-places_on.ensures) (near_positions c.args.segment c.args.taps.now c.requires.near)

pub invariant_of-result : goal.invariant_of-result
invariant_of-result c =
    let s = c.args.segment in
    let all = c.args.taps.now in
    let places : c.in_ok-new.field-0.positions ≡ cable_places (positions_on s all) =
    ap (λ (w : CableHistory). w.positions) c.in_ok-new.ensures ∙ c.deref.ensures.value ∙ c.in_ok-places.ensures.places ∙ ap cable_places c.in_ok-places_on.ensures in
    let numbers : c.in_ok-numbers_on.field-0.items ≡ numbers_on s 0 all = c.in_ok-numbers_on.ensures in
    let many = ap length places in
    (omega (arith, ap length numbers, many, numbers_fit s all), omega (arith, many, places_fit s 4294967296 all (omega arith) c.requires.few))
