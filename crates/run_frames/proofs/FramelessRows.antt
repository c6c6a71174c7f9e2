-- What receivers and repeaters do names no frame, and of the ports of a repeater it names those that are there.
use Rattle.std.proofs.Common.{◌≡◌, ℕ, ◌+◌, ◌≤◌, Bool, true, false, cond, ltb, Option, Some, None, List, [], ◌∷◌, ◌++◌, map, length, refl, arith}
use Rattle.std.specs.Prelude.{IfSome}
use Rattle.std.specs.List.{AllByRecursion}
use Rattle.std.proofs.lemmas.Bool.{and_from, cond_both, le-leb}
use Rattle.mac_parameters.specs.Parameters.{shortest_line_text}
use Rattle.manchester_line.specs.declared.Sym.{Sym}
use Rattle.manchester_line.specs.declared.Sym.TheVariants as sym
use Rattle.manchester_line.specs.Line.{is_signal}
use Rattle.manchester_line.specs.Reading.{reading, octets_of_bits, spare_of_bits}
use Rattle.frame_layout.specs.Frame.{verdict_of}
use Rattle.frame_layout.specs.declared.verdict.Verdict.{Verdict}
use Rattle.frame_layout.specs.declared.verdict.Verdict.TheVariants.{Good, Fragment, TooLong, FcsError, AlignError}
use Rattle.collision_log.specs.declared.row.Body.{Body}
use Rattle.collision_log.specs.declared.row.Body.TheVariants.{Dropped, Clash, Halted}
use Rattle.collision_log.specs.declared.row.Why.TheVariants as why
use Rattle.mac_receive.specs.Receiver.{Receiving, Reception, extended, judged_row, left_halves, quiet, reading_row, receiver_step, reception_ended}
use Rattle.port_partition.specs.declared.guard.GuardEvent.{GuardEvent}
use Rattle.port_partition.specs.declared.guard.GuardEvent.TheVariants as event
use Rattle.port_partition.specs.Guard.{Guard}
use Rattle.repeater_core.specs.Step.{RepeaterDevice, chosen, clash_begins, emitted_by, guard_events}
use Rattle.network.specs.Net.{receptions}
use Rattle.network.specs.Rows.{guard_bodies, happened, port_bodies, repeater_bodies}
use Rattle.log_meter.proofs.RowsOfRepeaters.{all_append}
use Rattle.frame_table.specs.Histories.{frame_named}
use Rattle.frame_table.specs.Unplanned.{is_counted, port_named}

-- it names no frame
abbrev pub NamesNoFrame : Body → Type 0
NamesNoFrame b = frame_named b ≡ None

-- nothing happens, or something that names no frame
abbrev pub NamesNone : Option Body → Type 0
NamesNone e = IfSome e NamesNoFrame

-- ---- receivers

judged : (v : Verdict) (octets halves : ℕ) → NamesNoFrame (judged_row v octets halves)
judged Good octets halves = refl
judged Fragment octets halves = refl
judged TooLong octets halves = refl
judged FcsError octets halves = refl
judged AlignError octets halves = refl

read : (o : Option (List Bool)) (most halves : ℕ) → NamesNoFrame (reading_row o most halves)
read None most halves = cond_both (ltb halves shortest_line_text) (Dropped why.Fragment halves) (Dropped why.Damaged halves) NamesNoFrame (λ _. refl) (λ _. refl)
read (Some bits) most halves = judged (verdict_of (octets_of_bits bits) (spare_of_bits bits) most) (length (octets_of_bits bits)) halves

ended : (r : Receiving) (halves : List Sym) → NamesNone (reception_ended r halves).event
ended r [] = tt
ended r (s ∷ ss) = read (reading (left_halves r.lose (s ∷ ss))) r.most (length (s ∷ ss))

idle : (deaf : Bool) (r : Receiving) → NamesNone (Reception.event (cond deaf (quiet (record r { deaf = false; halves = [] })) (reception_ended r r.halves)))
idle true r = tt
idle false r = ended r r.halves

loud : (deaf : Bool) (r : Receiving) (s : Sym) → NamesNone (Reception.event (cond deaf (quiet r) (extended r s)))
loud true r s = tt
loud false r s = tt

received : (r : Receiving) (heard : Sym) (sending : Bool) → NamesNone (receiver_step r heard sending).event
received r sym.Idle true = tt
received r sym.Hi true = tt
received r sym.Lo true = tt
received r sym.Clash true = tt
received r sym.Idle false = idle r.deaf r
received r sym.Hi false = loud r.deaf r sym.Hi
received r sym.Lo false = loud r.deaf r sym.Lo
received r sym.Clash false = loud r.deaf r sym.Clash

-- no event of a receiver names a frame
pub receptions_frameless : (hs es : List Sym) (rs : List Receiving) → AllByRecursion NamesNone (map (λ (r : Reception). r.event) (receptions hs es rs))
receptions_frameless [] es rs = tt
receptions_frameless (h ∷ hs) [] rs = tt
receptions_frameless (h ∷ hs) (e ∷ es) [] = tt
receptions_frameless (h ∷ hs) (e ∷ es) (r ∷ rs) = (received r h (is_signal e), receptions_frameless hs es rs)

-- ---- repeaters

-- what happens at a repeater of so many ports names no frame, and a port only from 1 to so many
pub record IsAtRepeater (ports : ℕ) (body : Body) : Type 0 where
  pub frameless : NamesNoFrame body
  pub counted : is_counted ports (port_named body) ≡ true

-- a number from 1 to the most
pub counted : (most n : ℕ) → 1 ≤ n → n ≤ most → is_counted most (Some n) ≡ true
counted most n least le = and_from _ _ (le-leb 1 n least) (le-leb n most le)

few_events : (gs : List Guard) (hs es : List Sym) → length (guard_events gs hs es) ≤ length gs
few_events [] hs es = omega arith
few_events (g ∷ gs) [] es = omega arith
few_events (g ∷ gs) (h ∷ hs) [] = omega arith
few_events (g ∷ gs) (h ∷ hs) (e ∷ es) = omega (arith, few_events gs hs es)

happened_there : (ports : ℕ) (so : Bool) (body : Body) → IsAtRepeater ports body → AllByRecursion (IsAtRepeater ports) (happened so body)
happened_there ports true body h = (h, tt)
happened_there ports false body h = tt

guard_there : (ports port : ℕ) (e : GuardEvent) → is_counted ports (Some port) ≡ true → AllByRecursion (IsAtRepeater ports) (guard_bodies port e)
guard_there ports port event.None h = tt
guard_there ports port event.Closed h = (record { frameless = refl; counted = h }, tt)
guard_there ports port event.Opened h = (record { frameless = refl; counted = h }, tt)

ports_there : (ports port : ℕ) (hs : List Bool) (es : List GuardEvent) → 1 ≤ port → port + length es ≤ ports + 1 → AllByRecursion (IsAtRepeater ports) (port_bodies port hs es)
ports_there ports port [] [] least few = tt
ports_there ports port [] (e ∷ es) least few = tt
ports_there ports port (h ∷ hs) [] least few = tt
ports_there ports port (h ∷ hs) (e ∷ es) least few =
    let within : is_counted ports (Some port) ≡ true = counted ports port least (omega (arith, few)) in
    all_append (IsAtRepeater ports) (happened h (Halted port)) (guard_bodies port e ++ port_bodies (port + 1) hs es)
    (happened_there ports h (Halted port) (record { frameless = refl; counted = within }))
    (all_append (IsAtRepeater ports) (guard_bodies port e) (port_bodies (port + 1) hs es)
    (guard_there ports port e within) (ports_there ports (port + 1) hs es (omega arith) (omega (arith, few))))

-- what happens at a repeater with no more guards than it has ports
pub repeater_there : (ports : ℕ) (hears : List Sym) (r : RepeaterDevice) → length r.guards ≤ ports → AllByRecursion (IsAtRepeater ports) (repeater_bodies hears r)
repeater_there ports hears r few =
    let es = guard_events r.guards hears (emitted_by r) in
    let hs : List Bool = map (λ c. c.halted) (chosen hears r) in
    all_append (IsAtRepeater ports) (happened (clash_begins hears r) Clash) (port_bodies 1 hs es)
    (happened_there ports (clash_begins hears r) Clash (record { frameless = refl; counted = refl }))
    (ports_there ports 1 hs es (omega arith) (omega (arith, few, few_events r.guards hears (emitted_by r))))
