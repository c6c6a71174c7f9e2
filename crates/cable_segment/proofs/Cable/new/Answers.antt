use Rattle.std.proofs.Common.{◌≡◌, ◌+◌, ◌*◌, length, ap, ◌∙◌, arith, rules, replicate, take, drop}
use Rattle.std.proofs.lemmas.List.{take-replicate, drop-replicate}
use Rattle.manchester_line.specs.declared.Sym.TheVariants.{Idle}
use Rattle.cable_segment.specs.Cable.{rows_back}
use Rattle.cable_segment.proofs.Window.{same_places}
use Rattle.cable_segment.proofs.Cable.new.Goals as goal

pub returns : goal.returns
returns c =
    let n = c.in_ok-span.span in
    let slots : c.in_ok-slots.slots.items ≡ replicate c.in_ok-room.room Idle = search rules in
    let positions : c.in_ok-to_vec.field-0.items ≡ c.args.positions.now = search rules in
    let size : n ≡ (c.args.ahead + rows_back) * length c.args.positions.now = search rules in
    let room : c.in_ok-room.room ≡ n + n = search rules in
    let rest : drop n (replicate (n + n) Idle) ≡ replicate n Idle = drop-replicate n (n + n) Idle ∙ ap (λ k. replicate k Idle) (omega arith) in
    let rows : take n (drop n c.in_ok-slots.slots.items) ≡ replicate n Idle = rw (slots, room, rest) (take-replicate n n Idle (omega arith)) in
    same_places positions (rows ∙ ap (λ k. replicate k Idle) size)
