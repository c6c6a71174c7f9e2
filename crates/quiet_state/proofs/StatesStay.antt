-- A network that begins from a state has that state, and is quiet.
use Rattle.std.proofs.Common.{◌≡◌, ℕ, ◌+◌, false, eqb, List, [], ◌∷◌, ◌++◌, map, take, drop, length, length-drop, refl, ap, ap₂, ◌∙◌, arith}
use Rattle.std.specs.List.{flat_map, AllByRecursion}
use Rattle.std.proofs.lemmas.List.{take-append-drop}
use Rattle.std.proofs.lemmas.List.Elements.{All-from_recursion}
use Rattle.mac_parameters.specs.Parameters.{most_octets}
use Rattle.frame_layout.specs.declared.queue.Ready.{Ready}
use Rattle.layout.specs.declared.lines.RepeaterLine.{RepeaterLine}
use Rattle.mac_transmit.specs.declared.phase.Phase.{Phase}
use Rattle.mac_transmit.specs.declared.phase.Phase.TheVariants.{Rest, Waiting, Sending, Backoff}
use Rattle.mac_transmit.specs.declared.state.SenderState.{SenderState}
use Rattle.mac_transmit.specs.Resuming.{IsPhaseIn, state_of}
use Rattle.mac_transmit.specs.Sender.{Sender, is_sending}
use Rattle.port_partition.specs.Guard.{Guard}
use Rattle.repeater_core.specs.declared.modes.Mode.TheVariants as mode
use Rattle.repeater_core.specs.Counts.{Count, resting_count}
use Rattle.repeater_core.specs.Step.{RepeaterDevice}
use Rattle.collision_log.specs.declared.row.Row.{Row}
use Rattle.network.specs.declared.outputs.Taken.{Taken}
use Rattle.network.proofs.DelayLines.{delays}
use Rattle.quiet_state.specs.Laws.{StatesAreKept}
use Rattle.quiet_state.specs.PlanStates.{AreStatesOf}
use Rattle.quiet_state.specs.Quiet.{IsStill}
use Rattle.quiet_state.specs.Resumed.{net_of, resumed_senders, resumed_repeaters}
use Rattle.quiet_state.specs.declared.state.NetState.{NetState}
use Rattle.quiet_state.proofs.QuietNets.{all_still}
use Rattle.quiet_state.proofs.ResumableStates.{delays_long}

-- two states of which each part is the same
pub same_state : (t u : ℕ) (a b : List SenderState) (g h : List Guard) (p q : List ℕ) (r s : List Row) (c d : List (List Taken)) → t ≡ u → a ≡ b → g ≡ h → p ≡ q → r ≡ s → c ≡ d →
    (let x : NetState = record { t = t; senders = a; guards = g; rests = p; rows = r; captures = c } in x) ≡ record { t = u; senders = b; guards = h; rests = q; rows = s; captures = d }
same_state t u a b g h p q r s c d et ea eg ep er ec =
    ap₂ (λ x y. (let z : NetState = record { t = x; senders = y; guards = g; rests = p; rows = r; captures = c } in z)) et ea
    ∙ ap₂ (λ x y. (let z : NetState = record { t = u; senders = b; guards = x; rests = y; rows = r; captures = c } in z)) eg ep
    ∙ ap₂ (λ x y. (let z : NetState = record { t = u; senders = b; guards = h; rests = q; rows = x; captures = y } in z)) er ec

-- the senders
senders_stay : (seed t k : ℕ) (qs : List (List Ready)) (ss : List SenderState) → AreStatesOf qs ss → map state_of (resumed_senders seed t k qs ss) ≡ ss
senders_stay seed t k [] [] h = refl
senders_stay seed t k [] (s ∷ ss) h = absurd h
senders_stay seed t k (q ∷ qs) [] h = absurd h
senders_stay seed t k (q ∷ qs) (s ∷ ss) h = ap (λ xs. s ∷ xs) (senders_stay seed t (k + 1) qs ss h.1)

not_sending : (q : List Ready) (place : ℕ) (p : Phase) → IsPhaseIn q place p → is_sending p ≡ false
not_sending q place Rest h = refl
not_sending q place Waiting h = refl
not_sending q place (Sending start hit) h = absurd h
not_sending q place (Backoff until) h = refl

none_sends : (seed t k : ℕ) (qs : List (List Ready)) (ss : List SenderState) → AreStatesOf qs ss → AllByRecursion (λ s. is_sending s.phase ≡ false) (resumed_senders seed t k qs ss)
none_sends seed t k [] [] h = tt
none_sends seed t k [] (s ∷ ss) h = absurd h
none_sends seed t k (q ∷ qs) [] h = absurd h
none_sends seed t k (q ∷ qs) (s ∷ ss) h = (not_sending q s.place s.phase h.0.phase, none_sends seed t (k + 1) qs ss h.1)

-- the ports
empty : {X : Type 0} (xs : List X) → length xs ≡ 0 → [] ≡ xs
empty [] e = refl
empty (x ∷ xs) e = absurd (omega arith)

guards_stay : (ls : List RepeaterLine) (gs : List Guard) (rests : List ℕ) → length gs ≡ length (delays ls) → flat_map (λ r. r.guards) (resumed_repeaters ls gs rests) ≡ gs
guards_stay [] gs rests e = empty gs e
guards_stay (l ∷ ls) gs rests e =
    let n = length l.ports in
    let long = delays_long l ls in
    ap (λ xs. take n gs ++ xs) (guards_stay ls (drop n gs) (drop n rests) (omega (arith, length-drop n gs, long, e))) ∙ take-append-drop n gs

rests_back : (xs : List ℕ) → map (λ c. c.rest) (map resting_count xs) ≡ xs
rests_back [] = refl
rests_back (x ∷ xs) = ap (λ ys. x ∷ ys) (rests_back xs)

rests_stay : (ls : List RepeaterLine) (gs : List Guard) (rests : List ℕ) → length rests ≡ length (delays ls) → flat_map (λ r. map (λ c. c.rest) r.counts) (resumed_repeaters ls gs rests) ≡ rests
rests_stay [] gs rests e = empty rests e
rests_stay (l ∷ ls) gs rests e =
    let n = length l.ports in
    let long = delays_long l ls in
    ap₂ (λ (xs ys : List ℕ). xs ++ ys) (rests_back (take n rests)) (rests_stay ls (drop n gs) (drop n rests) (omega (arith, length-drop n rests, long, e))) ∙ take-append-drop n rests

all_idle : (ls : List RepeaterLine) (gs : List Guard) (rests : List ℕ) → AllByRecursion (λ r. r.mode ≡ mode.Idle) (resumed_repeaters ls gs rests)
all_idle [] gs rests = tt
all_idle (l ∷ ls) gs rests = (refl, all_idle ls (drop (length l.ports) gs) (drop (length l.ports) rests))

pub states_are_kept : StatesAreKept
states_are_kept plan s h =
    let n = net_of plan s in (
      same_state s.t s.t (map state_of n.senders) s.senders (flat_map (λ (r : RepeaterDevice). r.guards) n.repeaters) s.guards (flat_map (λ (r : RepeaterDevice). map (λ (c : Count). c.rest) r.counts) n.repeaters) s.rests s.rows s.rows s.captures s.captures
          refl (senders_stay plan.layout.seed s.t 0 plan.queues s.senders h.senders) (guards_stay plan.layout.repeaters s.guards s.rests h.guards_many) (rests_stay plan.layout.repeaters s.guards s.rests h.rests_many) refl refl,
      record {
        senders = All-from_recursion (λ (x : Sender). is_sending x.phase ≡ false) n.senders (none_sends plan.layout.seed s.t 0 plan.queues s.senders h.senders);
        receivers = All-from_recursion IsStill n.receivers (all_still (most_octets (eqb plan.layout.format 2)) plan.layout.stations);
        repeaters = All-from_recursion (λ (x : RepeaterDevice). x.mode ≡ mode.Idle) n.repeaters (all_idle plan.layout.repeaters s.guards s.rests);
        cables = λ q d l. tt;
        delays = λ e l. tt;
      },
    )
