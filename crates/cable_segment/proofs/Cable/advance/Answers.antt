use Rattle.std.proofs.Common.{◌≡◌, ◌++◌, ◌+◌, ◌-◌, length, sym, ap, ap₂, ◌∙◌, rules, arith, take, drop, replicate}
use Rattle.std.proofs.lemmas.List.{with_items_is}
use Rattle.std.specs.Vec.{with_items}
use Rattle.manchester_line.specs.declared.Sym.TheVariants.{Idle}
use Rattle.cable_segment.specs.Cable.{advanced}
use Rattle.cable_segment.proofs.Skipping.{skips_same, skips_on}
use Rattle.cable_segment.proofs.Window.{length-window, same_told}
use Rattle.cable_segment.proofs.Cable.advance.Goals as goal

pub returns : goal.returns
returns c =
    let q = c.self.inside in
    let moved = c.slide-self-inside in
    let len : length moved.new.slots ≡ q.slots.len = search rules in
    let n : c.len-taps.result ≡ length q.positions.items = search rules in
    let whole = with_items_is q.slots moved.new.slots len in
    let span = length-window q.slots.items q.start q.span (search rules) in
    let window = take q.span (drop q.start q.slots.items) in
    let rows : take q.span (drop moved.result (with_items q.slots moved.new.slots).items) ≡ take (length window) (replicate (length q.positions.items) Idle ++ window) = cc (moved.ensures.rows, c.deref_mut.ensures.value) in
    same_told q.positions.items q.ahead _ _ _ _ c.min-self-inside.ensures rows ∙ ap advanced c.self.view_is

pub relist-requires-clause-skips : goal.relist-requires-clause-skips
relist-requires-clause-skips c =
    let q = c.self.inside in
    let moved = c.slide-self-inside in
    let len : length moved.new.slots ≡ q.slots.len = search rules in
    let n : c.len-taps.result ≡ length q.positions.items = search rules in
    let whole = with_items_is q.slots moved.new.slots len in
    let window = take q.span (drop q.start q.slots.items) in
    let before : c.deref_mut.result.now ≡ q.slots.items = search rules in
    let slots : c.deref.result.now ≡ moved.new.slots = c.deref.ensures.value ∙ whole in
    let next : q.next.items ≡ c.deref_mut-2.result.now = sym c.deref_mut-2.ensures.value in
    let span : moved.result + q.span - moved.result ≡ q.span = omega arith in
    let rows : take (moved.result + q.span - moved.result) (drop moved.result c.deref.result.now) ≡ take q.span (replicate (length q.positions.items) Idle ++ window) =
    ap₂ (λ k xs. take k (drop moved.result xs)) span slots
    ∙ moved.ensures.rows
    ∙ ap₂ (λ k xs. take q.span (replicate k Idle ++ take q.span (drop q.start xs))) n before in
    skips_same next (sym rows) (sym n) (skips_on q.next.items window (length q.positions.items) q.span c.self.invariant.7)

pub invariant_of-self : goal.invariant_of-self
invariant_of-self c =
    let q = c.self.inside in
    let i = c.self.invariant in
    let moved = c.slide-self-inside in
    let len : length moved.new.slots ≡ q.slots.len = search rules in
    let n : c.len-taps.result ≡ length q.positions.items = search rules in
    let whole = with_items_is q.slots moved.new.slots len in
    let size = ap length whole in
    let before : c.deref_mut.result.now ≡ q.slots.items = search rules in
    let old : length c.deref_mut.result.now ≡ length q.slots.items = ap length before in
    let len_next : length c.relist.new.next ≡ q.next.len = search rules in
    let span : moved.result + q.span - moved.result ≡ q.span = omega arith in (
      i.0,
      i.1,
      i.2,
      omega (arith, c.min-self-inside.ensures),
      i.4,
      omega (arith, size, moved.ensures.within),
      omega (arith, size, moved.ensures.len, old, i.6),
      skips_same (sym (with_items_is q.next c.relist.new.next len_next)) (ap₂ (λ k xs. take k (drop moved.result xs)) span c.deref.ensures.value) n c.relist.ensures,
    )
