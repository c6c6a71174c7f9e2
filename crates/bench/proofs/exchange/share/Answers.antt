use Rattle.std.proofs.Common.{◌≡◌, ◌∙◌, ℕ, true, false, nat_lt, ◌<◌, ◌≤◌, length, ap, arith, sym, subst}
use denote.Param.Send.{sendable}
use Rattle.std.proofs.lemmas.Bool.Decides.{nat_tests}
use Rattle.load_plan.specs.declared.plan.Plan.{Plan}
use Rattle.net_parts.specs.Parcels.{arrived}
use Rattle.net_parts.specs.Parts.{is_segment_part}
use Rattle.exchange_core.specs.Shares.{AreParcelsFor, IsOfPlan, nothing_held, with_segment}
use Rattle.exchange_core.specs.Holdings.{added_segment}
use Rattle.exchange_core.proofs.ShareLaws.{parcels_serve}
use Rattle.exchange_core.proofs.SharesOnBoards.{shares_begin}
use Rattle.turn_run.proofs.Crossings.{segment_part_send, repeater_part_send}
use Rattle.bench.proofs.exchange.share.Goals as goal

less : (b : ℕ) → 0 < b → nat_lt 0 b ≡ true
less b h = grind (arith, nat_tests)

not_less : (a b : ℕ) → b ≤ a → nat_lt a b ≡ false
not_less a b h = grind (arith, nat_tests)

pub new-share-requires-send-S : goal.new-share-requires-send-S
new-share-requires-send-S c κs = search (sendable, segment_part_send) depth 12

pub new-share-requires-send-R : goal.new-share-requires-send-R
new-share-requires-send-R c κs = search (sendable, repeater_part_send) depth 12

pub add_segment-requires-send-S : goal.add_segment-requires-send-S
add_segment-requires-send-S c κs = search (sendable, segment_part_send) depth 12

pub add_segment-requires-send-R : goal.add_segment-requires-send-R
add_segment-requires-send-R c κs = search (sendable, repeater_part_send) depth 12

pub add_repeater-requires-send-S : goal.add_repeater-requires-send-S
add_repeater-requires-send-S c κs = search (sendable, segment_part_send) depth 12

pub add_repeater-requires-send-R : goal.add_repeater-requires-send-R
add_repeater-requires-send-R c κs = search (sendable, repeater_part_send) depth 12

pub add_segment-requires-clause-parcels : goal.add_segment-requires-clause-parcels
add_segment-requires-clause-parcels c κs =
    let s = c.in_ok-segment.segment in
    let f = c.in_ok-segment.ensures in
    let same : c.in_ok-parcels.parcels ≡ arrived s.segment.plan.value s.segment.number s.window =
    c.in_ok-parcels.ensures ∙ sym (λ i. arrived (f.plan i) (f.number i) (f.at i)) in
    subst (AreParcelsFor s.segment.plan.value s.segment.number s.window) (sym same) (parcels_serve s.segment.plan.value s.segment.number s.window)

pub add_repeater-requires-clause-plan : goal.add_repeater-requires-clause-plan
add_repeater-requires-clause-plan c κs =
    let plan = c.args.plan.now in
    let f = c.in_ok-segment.ensures in
    let some : is_segment_part plan 0 ≡ true = less (length plan.layout.segments) (omega (arith, c.if-len-ne2.false, c.len.ensures)) in
    let whole : c.add_segment.new.self ≡ with_segment (added_segment plan 0 0 (arrived plan 0 0)) nothing_held =
    c.in_ok-add_segment.ensures.ok ∙ (λ i. with_segment (added_segment (f.plan i) (f.number i) (f.at i) (c.in_ok-parcels.ensures i)) (c.new-share.ensures i)) in
    let begun = shares_begin plan in
    λ kind u h it. subst (IsOfPlan plan) (sym whole) (begun.1 0 nothing_held some begun.0).plans kind u h it ∙ sym c.in_ok-repeater.ensures.plan

pub add_repeater-requires-clause-kind : goal.add_repeater-requires-clause-kind
add_repeater-requires-clause-kind c κs =
    let made = c.in_ok-repeater.repeater in
    let number = c.in_ok-repeater.ensures.number in
    let many = ap (λ (p : Plan). length p.layout.segments) c.in_ok-repeater.ensures.plan in
    not_less made.part (length made.plan.value.layout.segments) (omega (arith, number, many))
