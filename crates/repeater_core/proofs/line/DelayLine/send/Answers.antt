use Rattle.std.proofs.Common.{◌≡◌, ◌+◌, ◌*◌, ◌<◌, ◌≤◌, ℕ, length, map, sym, ap, subst, ◌∙◌, rules, arith}
use Rattle.std.proofs.lemmas.List.{with_items_is, length-map}
use Rattle.manchester_line.specs.Line.{is_signal}
use Rattle.repeater_core.specs.Delayed.{Delayed, rotated, delayed_row, IsRing}
use Rattle.repeater_core.specs.Classes.{line_with}
use Rattle.repeater_core.proofs.NextTurnOfRing.{same_delayed}
use Rattle.repeater_core.proofs.RingLeaps.{ring}
use Rattle.repeater_core.proofs.RowsPut.{idle_ring, sent_line, sent_ring, IsSent}
use Rattle.repeater_core.proofs.line.DelayLine.send.Goals.{After-put_rows-self-inside}
use Rattle.repeater_core.proofs.line.DelayLine.send.Goals as goal

pub returns-then-self-eq0 : goal.returns-then-self-eq0
returns-then-self-eq0 c =
    let q = c.self.inside in
    let flags = map is_signal c.args.flags.now in
    let n : length flags ≡ q.ports = length-map c.args.flags.now is_signal ∙ c.requires.flags_len ∙ sym (ap (λ (d : Delayed). d.ports) c.self.view_is) in
    sym (ap (line_with flags c.args.texts.now) (sym c.self.view_is)
    ∙ idle_ring q.ports q.delay q.turn q.filled q.alike q.slots.items flags c.args.texts.now c.self.invariant c.if-self-eq0.true n (c.requires.idle c.if-idle.true) ∙ c.self.view_is)

ports_fit : (c : After-put_rows-self-inside) → length c.args.flags.now ≡ c.self.inside.ports
ports_fit c = c.requires.flags_len ∙ sym (ap (λ (d : Delayed). d.ports) c.self.view_is)

flags_fit : (c : After-put_rows-self-inside) → length (map is_signal c.args.flags.now) ≡ c.self.inside.ports
flags_fit c = length-map c.args.flags.now is_signal ∙ ports_fit c

slots_fit : (c : After-put_rows-self-inside) → length c.put_rows-self-inside.new.slots ≡ c.self.inside.delay * c.self.inside.ports
slots_fit c = search rules

ring_is : (c : After-put_rows-self-inside) →
    let q = c.self.inside in
    ring q.ports q.delay c.put_rows-self-inside.result c.put_rows-self-inside.new.slots ≡ line_with (map is_signal c.args.flags.now) c.args.texts.now (ring q.ports q.delay q.turn q.slots.items)
ring_is c =
    let q = c.self.inside in
    sent_line q.ports q.delay q.turn c.put_rows-self-inside.result q.filled q.alike (length c.args.flags.now) c.saturating_sub.result q.slots.items c.deref_mut.result.now c.put_rows-self-inside.new.slots
    (map is_signal c.args.flags.now) c.args.texts.now c.self.invariant (slots_fit c) (flags_fit c) (ports_fit c) c.deref_mut.ensures.value c.saturating_sub.ensures c.put_rows-self-inside.ensures.rows

pub invariant_of-self : goal.invariant_of-self
invariant_of-self c =
    let at = (goal.at.invariant_of-self c).After-put_rows-self-inside in
    let q = c.self.inside in
    let ys = c.put_rows-self-inside.new.slots in
    let flags = map is_signal c.args.flags.now in
    let texts = c.args.texts.now in
    let newest = subst (λ (d : Delayed). (k : ℕ) → k < d.delay → d.delay ≤ k + c.alike_to-alike.result → map is_signal (delayed_row k d) ≡ flags) (sym c.self.view_is) c.alike_to-alike.ensures.newest in
    let sent : IsSent flags texts c.alike_to-alike.result c.args.idle (ring q.ports q.delay q.turn q.slots.items) = record { flags_len = flags_fit at; keeps = c.requires.alike; newest = newest; silent = c.requires.idle } in
    subst (IsRing q.ports q.delay c.put_rows-self-inside.result c.filled_after-self-inside.result c.min-self-inside.result) (sym (with_items_is q.slots ys (search rules)))
    (sent_ring q.ports q.delay q.turn c.put_rows-self-inside.result q.filled c.filled_after-self-inside.result q.alike c.min-self-inside.result c.alike_to-alike.result q.slots.items ys flags texts c.args.idle
    c.self.invariant (slots_fit at) sent c.put_rows-self-inside.ensures.within (ring_is at) c.filled_after-self-inside.ensures (omega arith) (omega arith))

pub returns : goal.returns
returns c =
    let q = c.self.inside in
    same_delayed (ap (rotated (c.put_rows-self-inside.result * q.ports)) (with_items_is q.slots c.put_rows-self-inside.new.slots (search rules))) ∙ ring_is (goal.at.returns c).After-put_rows-self-inside
    ∙ ap (line_with (map is_signal c.args.flags.now) c.args.texts.now) c.self.view_is
