use Rattle.std.proofs.Common.{ℕ, ◌<◌, ◌++◌, ◌∷◌, [], false, map, replicate, take, length, get_or, sym, ap, ap₂, ◌∙◌, arith}
use Rattle.std.proofs.lemmas.List.{take_more, map-append}
use Rattle.manchester_line.specs.declared.Sym.TheVariants.{Idle}
use Rattle.load_plan.specs.declared.plan.Plan.{Plan}
use Rattle.net_parts.specs.declared.parcel.Parcel.{Parcel}
use Rattle.net_parts.specs.Windows.{lookahead}
use Rattle.net_parts.specs.Parcels.{true_parcel}
use Rattle.net_parts.proofs.EdgeNumbers.{opening_is}
use Rattle.net_parts.proofs.edges.paced_opening.Goals as goal

pub loop-k-preserved : goal.loop-k-preserved
loop-k-preserved c =
    let plan = c.args.plan.now in
    let es = c.in_ok-edges.edges in
    let k = c.loop-k.k in
    let edge = ap (λ xs. get_or xs k 0) c.as_slice.ensures in
    let in_it : k < length es = let n = c.len-k-end.ensures in let t = c.loop-k-test.true in omega (arith, n, t) in
    let parcel =
    c.in_ok-opening_parcel.ensures
    ∙ ap₂ (λ (e n : ℕ). let p : Parcel = record { edge = e; window = 0; to_repeater = false; symbols = replicate n Idle; spoiled = false } in p) edge (c.args.pace.now.window_length ∙ ap (λ (p : Plan). lookahead p.layout) c.requires.pace)
    ∙ opening_is plan (get_or es k 0) in
    c.in_ok-push.ensures.ok
    ∙ ap₂ (λ ps p. ps ++ p ∷ []) c.loop-k.invariant parcel
    ∙ sym (map-append (true_parcel plan false 0) (take k es) (get_or es k 0 ∷ []))
    ∙ sym (ap (map (true_parcel plan false 0)) (take_more es k 0 in_it))
