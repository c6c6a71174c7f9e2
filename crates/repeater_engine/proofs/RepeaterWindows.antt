-- A repeater in a window, half bit by half bit.
use Rattle.std.proofs.Common.{◌≡◌, ℕ, ◌+◌, ◌<◌, List, ◌++◌, length, sym, ap, ap₂, ◌∙◌}
use Rattle.manchester_line.specs.declared.Sym.{Sym}
use Rattle.collision_log.specs.declared.row.Body.{Body}
use Rattle.collision_log.specs.declared.row.Row.{Row}
use Rattle.load_plan.specs.declared.plan.Plan.{Plan}
use Rattle.repeater_core.specs.Step.{RepeaterDevice, after}
use Rattle.network.specs.Rows.{rows_of_bodies, repeater_bodies}
use Rattle.net_parts.specs.RepeaterParts.{RepeaterState, repeater_step, edges_before, edges_in, edges_at}
use Rattle.net_parts.specs.Standing.{repeater_at}
use Rattle.net_parts.proofs.NetworkFacts.{repeater_facts}
use Rattle.net_parts.proofs.RepeaterSteps.{length-span}

-- a half bit of a repeater, by its parts
pub stepped : (device t : ℕ) (row heard : List Sym) (r s : RepeaterDevice) (rows rows' : List Row) (bodies : List Body) → heard ≡ row → s ≡ after heard r → bodies ≡ repeater_bodies heard r → rows' ≡ rows ++ rows_of_bodies t device bodies →
    ◌≡◌ {A = RepeaterState} (record { t = t + 1; repeater = s; rows = rows' }) (repeater_step device row (record { t = t; repeater = r; rows = rows }))
stepped device t row heard r s rows rows' bodies e state told log =
    let made : RepeaterState → RepeaterState → Type 0 = λ a b. a ≡ b in
    ap₂ (λ (x : RepeaterDevice) (ys : List Row). let m : RepeaterState = record { t = t + 1; repeater = x; rows = ys } in m)
    (state ∙ ap (λ hs. after hs r) e)
    (log ∙ ap (λ bs. rows ++ rows_of_bodies t device bs) (told ∙ ap (λ hs. repeater_bodies hs r) e))

-- a repeater that stands has a guard for each of its edges
pub guards_of : (plan : Plan) (i t : ℕ) (s : RepeaterState) → i < length plan.layout.repeaters → s ≡ repeater_at plan i t → length s.repeater.guards ≡ length (edges_at plan.layout i)
guards_of plan i t s some is =
    ap (λ (x : RepeaterState). length x.repeater.guards) is ∙ (repeater_facts plan).guards i t some
    ∙ sym (length-span (λ (e : ℕ). e) (edges_before plan.layout.repeaters i) (edges_in plan.layout.repeaters i))
