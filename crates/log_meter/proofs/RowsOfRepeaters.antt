-- What a repeater does in a half bit of a run has numbers in range.
use Rattle.std.proofs.Common.{◌≡◌, ℕ, ◌+◌, ◌<◌, ◌≤◌, ◌^◌, Bool, true, false, List, [], ◌∷◌, ◌++◌, map, length, refl, arith}
use Rattle.std.specs.List.{AllByRecursion}
use Rattle.mac_parameters.specs.Parameters.{most_ports}
use Rattle.manchester_line.specs.declared.Sym.{Sym}
use Rattle.port_partition.specs.declared.guard.GuardEvent.{GuardEvent}
use Rattle.port_partition.specs.declared.guard.GuardEvent.TheVariants as event
use Rattle.port_partition.specs.Guard.{Guard}
use Rattle.collision_log.specs.declared.row.Body.{Body}
use Rattle.collision_log.specs.declared.row.Body.TheVariants.{Clash, Halted}
use Rattle.repeater_core.specs.Step.{RepeaterDevice, after, chosen, clash_begins, emitted_by, guard_events, guards_after}
use Rattle.network.specs.Rows.{guard_bodies, happened, port_bodies, repeater_bodies}
use Rattle.log_meter.specs.Lines.{IsInRange, is_of_repeater}

-- what happens to a repeater in half bit t, with numbers in range
pub record IsRepeaterBody (t : ℕ) (body : Body) : Type 0 where
  pub kind : is_of_repeater body ≡ true
  pub numbers : IsInRange t body

-- a repeater with no more ports than there may be
abbrev pub HasFewPorts : RepeaterDevice → Type 0
HasFewPorts r = length r.guards ≤ most_ports

guards_stay : (gs : List Guard) (hs es : List Sym) → length (guards_after gs hs es) ≤ length gs
guards_stay [] hs es = omega arith
guards_stay (g ∷ gs) [] es = omega arith
guards_stay (g ∷ gs) (h ∷ hs) [] = omega arith
guards_stay (g ∷ gs) (h ∷ hs) (e ∷ es) = omega (arith, guards_stay gs hs es)

pub repeater_goes_on : (hears : List Sym) (r : RepeaterDevice) → HasFewPorts r → HasFewPorts (after hears r)
repeater_goes_on hears r h = omega (arith, h, guards_stay r.guards hears (emitted_by r))

few_events : (gs : List Guard) (hs es : List Sym) → length (guard_events gs hs es) ≤ length gs
few_events [] hs es = omega arith
few_events (g ∷ gs) [] es = omega arith
few_events (g ∷ gs) (h ∷ hs) [] = omega arith
few_events (g ∷ gs) (h ∷ hs) (e ∷ es) = omega (arith, few_events gs hs es)

pub all_append : {X : Type 0} (P : X → Type 0) (xs ys : List X) → AllByRecursion P xs → AllByRecursion P ys → AllByRecursion P (xs ++ ys)
all_append P [] ys a b = b
all_append P (x ∷ xs) ys a b = (a.0, all_append P xs ys a.1 b)

happened_in_range : (t : ℕ) (so : Bool) (body : Body) → IsRepeaterBody t body → AllByRecursion (IsRepeaterBody t) (happened so body)
happened_in_range t true body h = (h, tt)
happened_in_range t false body h = tt

guard_in_range : (t port : ℕ) (e : GuardEvent) → port < 2 ^ 32 → AllByRecursion (IsRepeaterBody t) (guard_bodies port e)
guard_in_range t port event.None h = tt
guard_in_range t port event.Closed h = (record { kind = refl; numbers = h }, tt)
guard_in_range t port event.Opened h = (record { kind = refl; numbers = h }, tt)

ports_in_range : (t port : ℕ) (hs : List Bool) (es : List GuardEvent) → port + length es ≤ most_ports + 1 → AllByRecursion (IsRepeaterBody t) (port_bodies port hs es)
ports_in_range t port [] [] few = tt
ports_in_range t port [] (e ∷ es) few = tt
ports_in_range t port (h ∷ hs) [] few = tt
ports_in_range t port (h ∷ hs) (e ∷ es) few =
    let small : port < 2 ^ 32 = omega (arith, few) in
    all_append (IsRepeaterBody t) (happened h (Halted port)) (guard_bodies port e ++ port_bodies (port + 1) hs es)
    (happened_in_range t h (Halted port) (record { kind = refl; numbers = small }))
    (all_append (IsRepeaterBody t) (guard_bodies port e) (port_bodies (port + 1) hs es)
    (guard_in_range t port e small) (ports_in_range t (port + 1) hs es (omega (arith, few))))

pub repeater_in_range : (t : ℕ) (hears : List Sym) (r : RepeaterDevice) → HasFewPorts r → AllByRecursion (IsRepeaterBody t) (repeater_bodies hears r)
repeater_in_range t hears r h =
    let es = guard_events r.guards hears (emitted_by r) in
    let hs : List Bool = map (λ c. c.halted) (chosen hears r) in
    all_append (IsRepeaterBody t) (happened (clash_begins hears r) Clash) (port_bodies 1 hs es)
    (happened_in_range t (clash_begins hears r) Clash (record { kind = refl; numbers = tt }))
    (ports_in_range t 1 hs es (omega (arith, h, few_events r.guards hears (emitted_by r))))
