use Rattle.std.proofs.Common.{◌≡◌, true, false, ap, sym, subst, ◌∙◌, map, length, replicate, arith}
use Rattle.std.proofs.lemmas.List.{length-map}
use Rattle.net_parts.specs.Parts.{edges_of_part}
use Rattle.exchange_core.specs.Holdings.{absent_parcel, new_holding, IsSoundHolding}
use Rattle.exchange_core.proofs.SoundHoldings.{new_repeater_sound}
use Rattle.exchange_core.proofs.holder.Holder.repeater.Goals as goal

pub new-requires-clause-sound : goal.new-requires-clause-sound
new-requires-clause-sound g c κs within =
    let laws = g.met.P.Part g.world.𝓛 g.world.𝓜 g.world.𝓡 ((λ s x. x), (λ x. x), (λ x. x), λ x. x) in
    let plan = g.P.Part.plan c.args.part in
    let u = g.P.Part.number c.args.part in
    let es = edges_of_part plan u in
    let parcels : c.in_ok-parcels.parcels.items ≡ map (absent_parcel false) es = c.in_ok-parcels.ensures ∙ ap (map (absent_parcel false)) c.edges.ensures in
    let long : length c.in_ok-parcels.parcels.items ≡ length es = ap length parcels ∙ length-map es (absent_parcel false) in
    let count : c.len.result ≡ length es = let e = c.len.ensures in omega (arith, e, long) in
    let away : c.in_ok-away.away.items ≡ replicate (length es) true = c.in_ok-away.ensures.items_if_clones_equal (λ y e. e) ∙ ap (λ n. replicate n true) count in
    subst IsSoundHolding (sym (λ i. new_holding plan u (g.P.Part.at c.args.part) (parcels i) (away i))) (new_repeater_sound plan u (g.P.Part.at c.args.part) (laws.within c.args.part) c.requires)
