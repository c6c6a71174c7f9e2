use Rattle.std.proofs.Common.{◌++◌, ◌∷◌, [], List, map, sym, ap, ◌∙◌, append_assoc, arith}
use Rattle.std.specs.List.{range_with_len}
use Rattle.std.proofs.lemmas.List.FromFn.{map-range_with_len_more}
use Rattle.layout.specs.declared.ways.Attachment.{Attachment}
use Rattle.layout.specs.declared.ways.Attachment.TheVariants.{Port}
use Rattle.tap_signals.proofs.taps.add_ports.Goals as goal

pub loop-port-preserved : goal.loop-port-preserved
loop-port-preserved c =
    let old = c.args.taps.now.items in
    let port = c.loop-port.port in
    c.in_ok-push.ensures.items
    ∙ ap (λ (ts : List Attachment). ts ++ Port c.args.repeater port ∷ []) c.loop-port.invariant
    ∙ append_assoc old (map (Port c.args.repeater) (range_with_len 0 port)) (Port c.args.repeater port ∷ [])
    ∙ sym (ap (λ (ts : List Attachment). old ++ ts) (map-range_with_len_more (Port c.args.repeater) 0 port port (omega arith)))
