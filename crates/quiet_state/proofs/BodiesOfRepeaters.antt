-- What happens at the repeaters of a network in a half bit.
use Rattle.std.proofs.Common.{◌≡◌, ℕ, zero, suc, ◌+◌, ◌<◌, ◌≤◌, Bool, true, false, Some, List, [], ◌∷◌, ◌++◌, map, take, drop, length, get_or, refl, ◌∙◌, arith}
use Rattle.std.specs.Prelude.{slice_get}
use Rattle.std.specs.List.{AllByRecursion}
use Rattle.std.proofs.lemmas.List.{length-map}
use Rattle.manchester_line.specs.declared.Sym.{Sym}
use Rattle.collision_log.specs.declared.row.Body.{Body}
use Rattle.collision_log.specs.declared.row.Body.TheVariants.{Clash, Halted}
use Rattle.layout.specs.declared.lines.RepeaterLine.{RepeaterLine}
use Rattle.port_partition.specs.declared.guard.GuardEvent.{GuardEvent}
use Rattle.port_partition.specs.declared.guard.GuardEvent.TheVariants as event
use Rattle.repeater_core.specs.Counts.{Choice}
use Rattle.repeater_core.specs.Step.{RepeaterDevice, chosen, clash_begins, emitted_by, guard_events}
use Rattle.repeater_core.proofs.Lawful.{length_chosen}
use Rattle.network.specs.Net.{each_repeater}
use Rattle.network.specs.Rows.{guard_bodies, happened, port_bodies, repeater_bodies}
use Rattle.network.proofs.DelayLines.{LinesUp}
use Rattle.quiet_state.specs.PlanStates.{HappensToRepeater}
use Rattle.quiet_state.proofs.OwnRows.{recursion_append}

happens_if : (ports : ℕ) (b : Bool) (body : Body) → HappensToRepeater ports body → AllByRecursion (HappensToRepeater ports) (happened b body)
happens_if ports true body h = (h, tt)
happens_if ports false body h = tt

guards_happen : (ports port : ℕ) (e : GuardEvent) → 1 ≤ port → port ≤ ports → AllByRecursion (HappensToRepeater ports) (guard_bodies port e)
guards_happen ports port event.None l m = tt
guards_happen ports port event.Closed l m = ((l, m), tt)
guards_happen ports port event.Opened l m = ((l, m), tt)

ports_happen : (ports port : ℕ) (hs : List Bool) (es : List GuardEvent) → 1 ≤ port → port + length hs ≤ ports + 1 → AllByRecursion (HappensToRepeater ports) (port_bodies port hs es)
ports_happen ports port [] es l m = tt
ports_happen ports port (h ∷ hs) [] l m = tt
ports_happen ports port (h ∷ hs) (e ∷ es) l m =
    recursion_append (HappensToRepeater ports) (happened h (Halted port)) (guard_bodies port e ++ port_bodies (port + 1) hs es) (happens_if ports h (Halted port) (l, omega arith))
    (recursion_append (HappensToRepeater ports) (guard_bodies port e) (port_bodies (port + 1) hs es) (guards_happen ports port e l (omega arith)) (ports_happen ports (port + 1) hs es (omega arith) (omega arith)))

bodies_happen : (ports : ℕ) (heard : List Sym) (r : RepeaterDevice) → length r.counts ≡ ports → AllByRecursion (HappensToRepeater ports) (repeater_bodies heard r)
bodies_happen ports heard r many =
    let hs = map (λ (c : Choice). c.halted) (chosen heard r) in
    let es = guard_events r.guards heard (emitted_by r) in
    let all : length hs ≡ ports = length-map (chosen heard r) (λ (c : Choice). c.halted) ∙ length_chosen heard r ∙ many in
    recursion_append (HappensToRepeater ports) (happened (clash_begins heard r) Clash) (port_bodies 1 hs es) (happens_if ports (clash_begins heard r) Clash tt)
    (ports_happen ports 1 hs es (omega arith) (omega (arith, all)))

-- what happens at the repeater of this number
pub record HappenAt (ls : List RepeaterLine) (i : ℕ) (bodies : List Body) : Type 0 where
  pub line : RepeaterLine
  pub is_line : slice_get ls i ≡ Some line
  pub happen : AllByRecursion (HappensToRepeater (length line.ports)) bodies

pub repeaters_happen : (ls : List RepeaterLine) (rs : List RepeaterDevice) (h : List (List Sym)) (heard : List Sym) (i : ℕ) → LinesUp ls rs h → i < length (each_repeater repeater_bodies heard rs) → HappenAt ls i (get_or (each_repeater repeater_bodies heard rs) i [])
repeaters_happen [] [] h heard i up l = absurd (omega arith)
repeaters_happen [] (r ∷ rs) h heard i up l = absurd up
repeaters_happen (x ∷ ls) [] h heard i up l = absurd up
repeaters_happen (x ∷ ls) (r ∷ rs) h heard zero up l =
    record { line = x; is_line = refl; happen = bodies_happen (length x.ports) (take (length r.guards) heard) r up.0.counts }
repeaters_happen (x ∷ ls) (r ∷ rs) h heard (suc i) up l =
    let rest : HappenAt ls i (get_or (each_repeater repeater_bodies (drop (length r.guards) heard) rs) i []) = repeaters_happen ls rs (map (drop (length x.ports)) h) (drop (length r.guards) heard) i up.1 (omega arith) in
    record { line = rest.line; is_line = rest.is_line; happen = rest.happen }
