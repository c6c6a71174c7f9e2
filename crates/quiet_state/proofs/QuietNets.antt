-- A network that stops in a quiet half bit goes on from its state as it would have gone on.
use Rattle.std.proofs.Common.{◌≡◌, ℕ, zero, suc, ◌+◌, ◌-◌, ◌≤◌, false, leb, eqb, List, [], ◌∷◌, ◌++◌, map, refl, sym, subst, ap, ap₂, ◌∙◌, arith}
use Rattle.std.specs.List.{AllByRecursion}
use Rattle.std.proofs.lemmas.Bool.{cond_both, leb-true}
use Rattle.std.proofs.lemmas.List.Elements.{All-from_recursion}
use Rattle.mac_parameters.specs.Parameters.{most_octets}
use Rattle.manchester_line.specs.declared.Sym.{Sym}
use Rattle.manchester_line.specs.declared.Sym.TheVariants.{Idle}
use Rattle.collision_log.specs.declared.row.Row.{Row}
use Rattle.frame_layout.specs.declared.queue.Ready.{Ready}
use Rattle.layout.specs.Taps.{taps_of}
use Rattle.layout.specs.declared.lines.PortLine.{PortLine}
use Rattle.layout.specs.declared.lines.RepeaterLine.{RepeaterLine}
use Rattle.layout.specs.declared.lines.StationLine.{StationLine}
use Rattle.load_plan.specs.declared.plan.Plan.{Plan}
use Rattle.load_plan.proofs.PlansAreSound.{sound_of_plan}
use Rattle.mac_transmit.specs.Resuming.{state_of}
use Rattle.mac_transmit.specs.Sender.{Sender, is_sending}
use Rattle.repeater_core.specs.declared.modes.Mode.TheVariants as mode
use Rattle.repeater_core.specs.Step.{RepeaterDevice}
use Rattle.network.specs.Net.{Net, net, next, new_net, new_senders, new_receiver, new_repeater, emitted_before}
use Rattle.network.specs.Outputs.{half_bits, cut_rows, rows, captures}
use Rattle.network.specs.Times.{emitted, decided, earlier}
use Rattle.network.proofs.AbsoluteTimes.{emitted_before_is, decided_before_is}
use Rattle.network.proofs.StationAttempts.{shape_of}
use Rattle.quiet_state.specs.Laws.{ResumedRowsAreWhole, ResumedCapturesAreWhole, RunsBeginQuiet, RunsGoOn}
use Rattle.quiet_state.specs.Quiet.{IsQuiet, IsStill}
use Rattle.quiet_state.specs.Resumed.{resumed_senders, state_at, net_of, net_from, later_net, end_net, rows_from, captures_from}
use Rattle.quiet_state.proofs.AlikeNets.{Alike, IsAudible, next_alike}
use Rattle.quiet_state.proofs.BareSenders.{bare_sender, cut_rows_bare}
use Rattle.quiet_state.proofs.ResumedRepeaters.{NoneIsComing, repeaters_resumed}
use Rattle.quiet_state.proofs.ResumedStations.{senders_resumed, receivers_resumed}

pub taps_stay : (plan : Plan) (t : ℕ) → (net plan t).taps ≡ taps_of plan.layout
taps_stay plan zero = refl
taps_stay plan (suc t) = taps_stay plan t

pub time_is : (plan : Plan) (t : ℕ) → (net plan t).t ≡ t
time_is plan zero = refl
time_is plan (suc t) = let more : t + 1 ≡ suc t = omega arith in ap (λ n. n + 1) (time_is plan t) ∙ more

-- what was Idle before half bit t
earlier_idle : (f : ℕ → Sym) (t back : ℕ) → (back ≤ t → f (t - back) ≡ Idle) → earlier f t back ≡ Idle
earlier_idle f t back h = cond_both (leb back t) (f (t - back)) Idle (λ s. s ≡ Idle) (λ e. h (leb-true back t e)) (λ _. refl)

pub nothing_before : (b q : ℕ) → emitted_before [] b q ≡ Idle
nothing_before zero q = refl
nothing_before (suc b) q = refl

pub told_in : (plan : Plan) (t p q back : ℕ) (d : PortLine) → IsQuiet plan t → IsAudible (taps_of plan.layout) p q back d → emitted_before (net plan t).emitted back q ≡ Idle
told_in plan t p q zero d k h = refl
told_in plan t p q (suc b) d k h =
    let near = h.near in
    emitted_before_is plan t (suc b) q (omega arith)
    ∙ earlier_idle (emitted plan q) t (suc b) (λ l.
    k.cables p q (t - suc b) d h.hearer h.emitter (λ e. h.other (sym e)) (sym h.segment) (omega arith) (omega (arith, near, l)))

pub none_coming : (plan : Plan) (t : ℕ) → IsQuiet plan t → NoneIsComing plan.layout.repeaters (net plan t).decided
none_coming plan t k e b in_it soon =
    decided_before_is plan t (suc b) e (omega arith)
    ∙ earlier_idle (decided plan e) t (suc b) (λ l. k.delays e (t - suc b) in_it (omega arith) (omega (arith, soon, l)))

-- the network that begins from the state
begins_alike : (plan : Plan) (t : ℕ) → IsQuiet plan t → Alike (net plan t) (net_of plan (state_at plan t))
begins_alike plan t k = record {
  taps = taps_stay plan t;
  time = refl;
  senders =
      senders_resumed plan t
      ∙ ap (λ u. map bare_sender (resumed_senders plan.layout.seed u 0 plan.queues (map state_of (net plan t).senders))) (sym (time_is plan t));
  receivers = receivers_resumed plan t k.receivers;
  repeaters = repeaters_resumed plan t (shape_of plan t).lines (none_coming plan t k) k.repeaters;
  told = λ p q back d h. told_in plan t p q back d k (subst (λ ts. IsAudible ts p q back d) (taps_stay plan t) h) ∙ sym (nothing_before back q);
  rows = refl;
  captures = refl;
}

pub goes_alike : (plan : Plan) (t k u : ℕ) → IsQuiet plan t → u ≡ t + k → Alike (net plan u) (net_from plan (state_at plan t) k)
goes_alike plan t zero u q e =
    let same : t ≡ u = omega arith in subst (λ v. Alike (net plan v) (net_of plan (state_at plan t))) same (begins_alike plan t q)
goes_alike plan t (suc k) zero q e = absurd (omega arith)
goes_alike plan t (suc k) (suc u) q e = next_alike (net plan u) (net_from plan (state_at plan t) k) (goes_alike plan t k u q (omega arith))

pub ends_alike : (plan : Plan) (t : ℕ) → IsQuiet plan t → Alike (net plan (half_bits plan)) (end_net (half_bits plan) (net_of plan (state_at plan t)))
ends_alike plan t q =
    let within = q.within in
    let now = time_is plan t in
    goes_alike plan t (half_bits plan - (net plan t).t) (half_bits plan) q (omega (arith, within, now))

pub resumed_rows : ResumedRowsAreWhole
unfolding rows rows_from
resumed_rows plan t q =
    let a = ends_alike plan t q in
    let n = net plan (half_bits plan) in
    let m = end_net (half_bits plan) (net_of plan (state_at plan t)) in
    sym (ap₂ (λ (xs ys : List Row). xs ++ ys) a.rows
    (cut_rows_bare (half_bits plan) 0 n.senders ∙ ap (cut_rows (half_bits plan) 0) a.senders ∙ sym (cut_rows_bare (half_bits plan) 0 m.senders)))

pub resumed_captures : ResumedCapturesAreWhole
unfolding captures captures_from
resumed_captures plan t q = sym (ends_alike plan t q).captures

-- the network itself goes on so
goes_on : (plan : Plan) (t k u : ℕ) → u ≡ t + k → later_net (net plan t) k ≡ net plan u
goes_on plan t zero u e = let same : t ≡ u = omega arith in ap (net plan) same
goes_on plan t (suc k) zero e = absurd (omega arith)
goes_on plan t (suc k) (suc u) e = ap next (goes_on plan t k u (omega arith))

goes_to_end : (plan : Plan) (t : ℕ) → t ≤ half_bits plan → end_net (half_bits plan) (net plan t) ≡ net plan (half_bits plan)
goes_to_end plan t l = let now = time_is plan t in goes_on plan t (half_bits plan - (net plan t).t) (half_bits plan) (omega (arith, l, now))

pub runs_go_on : RunsGoOn
unfolding rows captures
runs_go_on plan t l = (
  ap (λ (n : Net). n.rows ++ cut_rows (half_bits plan) 0 n.senders) (goes_to_end plan t l),
  ap (λ (n : Net). n.captures) (goes_to_end plan t l),
)

-- the first half bit
none_sends : (seed k : ℕ) (qs : List (List Ready)) → AllByRecursion (λ (s : Sender). is_sending s.phase ≡ false) (new_senders seed k qs)
none_sends seed k [] = tt
none_sends seed k (q ∷ qs) = (refl, none_sends seed (k + 1) qs)

pub all_still : (most : ℕ) (ss : List StationLine) → AllByRecursion IsStill (map (new_receiver most) ss)
all_still most [] = tt
all_still most (s ∷ ss) = (record { awake = refl; no_reception = refl }, all_still most ss)

all_idle : (ls : List RepeaterLine) → AllByRecursion (λ (r : RepeaterDevice). r.mode ≡ mode.Idle) (map new_repeater ls)
all_idle [] = tt
all_idle (l ∷ ls) = (refl, all_idle ls)

pub begins_quiet : RunsBeginQuiet
begins_quiet plan =
    let some = (sound_of_plan plan).bits_least in
    let n = new_net plan in
    record {
      within = omega (arith, some);
      senders = All-from_recursion (λ (s : Sender). is_sending s.phase ≡ false) n.senders (none_sends plan.layout.seed 0 plan.queues);
      receivers = All-from_recursion IsStill n.receivers (all_still (most_octets (eqb plan.layout.format 2)) plan.layout.stations);
      repeaters = All-from_recursion (λ (r : RepeaterDevice). r.mode ≡ mode.Idle) n.repeaters (all_idle plan.layout.repeaters);
      cables = λ p q u d hp hq ne on before. absurd (omega arith);
      delays = λ e u in_it before. absurd (omega arith);
    }
