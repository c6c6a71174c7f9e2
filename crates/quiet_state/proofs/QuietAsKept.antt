-- A half bit is quiet exactly where what is kept tells so.
use Rattle.std.proofs.Common.{◌≡◌, ◌≢◌, ℕ, zero, suc, ◌+◌, ◌-◌, ◌<◌, ◌≤◌, Bool, true, false, cond, Some, List, [], ◌∷◌, ◌++◌, replicate, length, length-append, get_or, refl, sym, subst, ap, ap₂, ◌∙◌, arith}
use Rattle.std.proofs.lemmas.Bool.{cond_both}
use Rattle.manchester_line.specs.declared.Sym.{Sym}
use Rattle.manchester_line.specs.declared.Sym.TheVariants.{Idle, Hi, Lo, Clash}
use Rattle.manchester_line.specs.Line.{is_signal}
use Rattle.mac_parameters.specs.Distances.{distance}
use Rattle.layout.specs.Taps.{taps_of}
use Rattle.layout.specs.declared.lines.PortLine.{PortLine}
use Rattle.layout.specs.declared.lines.RepeaterLine.{RepeaterLine}
use Rattle.load_plan.specs.declared.plan.Plan.{Plan}
use Rattle.mac_receive.specs.Receiver.{Receiving, Reception, quiet, extended, reception_ended, receiver_step}
use Rattle.repeater_core.specs.Step.{RepeaterDevice}
use Rattle.network.specs.Net.{net}
use Rattle.network.specs.Outputs.{half_bits}
use Rattle.network.specs.Times.{emitted, decided, earlier, port_delays}
use Rattle.network.proofs.AbsoluteTimes.{emitted_before_is, decided_before_is, earlier_at}
use Rattle.network.proofs.DelayLines.{LinesUp, delays}
use Rattle.network.proofs.StationAttempts.{shape_of}
use Rattle.quiet_state.specs.Laws.{QuietIsAsKept, LastSignalsGoOn, StillAfterSilence, StillAsKept}
use Rattle.quiet_state.specs.LastSignals.{last_signal, reach_over, IsOverBy, line_delays, IsQuietAsKept}
use Rattle.quiet_state.specs.Quiet.{IsQuiet, IsStill, CablesAreQuiet, DelaysAreQuiet}
use Rattle.quiet_state.proofs.AlikeNets.{IsAudible}
use Rattle.quiet_state.proofs.QuietNets.{taps_stay, time_is, told_in, none_coming}
use Rattle.quiet_state.proofs.ResumedRepeaters.{AreLate, late}
use Rattle.quiet_state.proofs.SignalsOver.{at_back, is_over, over_none, within_reach, farthest}

pub many_emitted : (plan : Plan) (t : ℕ) → length (net plan t).emitted ≡ t
many_emitted plan zero = refl
many_emitted plan (suc t) = ap suc (many_emitted plan t)

pub many_decided : (plan : Plan) (t : ℕ) → length (net plan t).decided ≡ t
many_decided plan zero = refl
many_decided plan (suc t) = ap suc (many_decided plan t)

-- what is still to be heard of each tap, over its whole reach
abbrev pub CablesAreOver : ℕ → List PortLine → List (List Sym) → Type 0
CablesAreOver t taps rows = (q : ℕ) (d : PortLine) → q < length taps → IsOverBy t (reach_over (get_or taps q d) taps) (last_signal t rows q)

not_itself : (taps : List PortLine) (p q : ℕ) (d : PortLine) → 0 < distance (get_or taps p d).at (get_or taps q d).at → q ≢ p
not_itself taps p q d l e =
    let same : distance (get_or taps p d).at (get_or taps q d).at ≡ distance (get_or taps p d).at (get_or taps p d).at = ap (λ k. distance (get_or taps p d).at (get_or taps k d).at) e in
    absurd (omega (arith, l, same))

pub cables_over : (t : ℕ) (taps : List PortLine) (rows : List (List Sym)) → length rows ≤ t → ((p q b : ℕ) (d : PortLine) → IsAudible taps p q (suc b) d → at_back rows b q ≡ Idle) → CablesAreOver t taps rows
cables_over t taps rows few none q d l =
    is_over t q (reach_over (get_or taps q d) taps) rows few (λ b soon.
    let f = farthest (get_or taps q d) taps d (omega arith) in
    let far = f.far in
    none f.tap q b d (record {
      hearer = f.low;
      emitter = l;
      other = not_itself taps f.tap q d (omega (arith, far, soon));
      segment = sym f.segment;
      near = omega (arith, far, soon);
    }))

pub cables_none : (t : ℕ) (taps : List PortLine) (rows : List (List Sym)) → length rows ≤ t → CablesAreOver t taps rows → (p q b : ℕ) (d : PortLine) → IsAudible taps p q (suc b) d → at_back rows b q ≡ Idle
cables_none t taps rows few over p q b d h =
    let within = within_reach (get_or taps q d) taps p d h.hearer (sym h.segment) in
    let near = h.near in
    over_none t q (reach_over (get_or taps q d) taps) rows few (over q d h.emitter) b (omega (arith, within, near))

-- the delays of the ports
delays_are : (ls : List RepeaterLine) (rs : List RepeaterDevice) (h : List (List Sym)) → LinesUp ls rs h → AreLate ls rs → line_delays rs ≡ delays ls
delays_are [] [] h up l = refl
delays_are [] (r ∷ rs) h up l = absurd up
delays_are (x ∷ ls) [] h up l = absurd up
delays_are (x ∷ ls) (r ∷ rs) h up l =
    ap₂ (λ (xs ys : List ℕ). xs ++ ys) (ap₂ (λ n k. replicate n k) up.0.guards l.0) (delays_are ls rs _ up.1 l.1)

pub same_delays : (plan : Plan) (t : ℕ) → line_delays (net plan t).repeaters ≡ port_delays plan.layout
same_delays plan t = delays_are plan.layout.repeaters (net plan t).repeaters (net plan t).decided (shape_of plan t).lines (late plan t)

abbrev pub DelaysAreOver : ℕ → List ℕ → List (List Sym) → Type 0
DelaysAreOver t ds rows = (e : ℕ) → e < length ds → IsOverBy t (get_or ds e 0) (last_signal t rows e)

-- from a quiet half bit
kept_tells : (plan : Plan) (t : ℕ) → IsQuiet plan t → IsQuietAsKept (net plan t)
kept_tells plan t k =
    let n = net plan t in
    let none : (p q b : ℕ) (d : PortLine) → IsAudible (taps_of plan.layout) p q (suc b) d → at_back n.emitted b q ≡ Idle = λ p q b d h. told_in plan t p q (suc b) d k h in
    let sent = many_emitted plan t in
    let chosen = many_decided plan t in
    let cables : CablesAreOver t (taps_of plan.layout) n.emitted = cables_over t (taps_of plan.layout) n.emitted (omega (arith, sent)) none in
    let delays : DelaysAreOver t (port_delays plan.layout) n.decided =
    λ e l. is_over t e (get_or (port_delays plan.layout) e 0) n.decided (omega (arith, chosen)) (λ b soon. none_coming plan t k e b l soon) in
    record {
      senders = k.senders;
      receivers = k.receivers;
      repeaters = k.repeaters;
      cables = subst (λ u. CablesAreOver u n.taps n.emitted) (sym (time_is plan t)) (subst (λ ts. CablesAreOver t ts n.emitted) (sym (taps_stay plan t)) cables);
      delays = subst (λ u. DelaysAreOver u (line_delays n.repeaters) n.decided) (sym (time_is plan t)) (subst (λ ds. DelaysAreOver t ds n.decided) (sym (same_delays plan t)) delays);
    }

-- to a quiet half bit
in_time : (f : ℕ → Sym) (t u b : ℕ) → u + suc b ≡ t → earlier f t (suc b) ≡ f u
in_time f t u b e = subst (λ v. earlier f v (suc b) ≡ f u) e (earlier_at f u (suc b))

tells_quiet : (plan : Plan) (t : ℕ) → t < half_bits plan → IsQuietAsKept (net plan t) → IsQuiet plan t
tells_quiet plan t within k =
    let n = net plan t in
    let sent = many_emitted plan t in
    let chosen = many_decided plan t in
    let over : CablesAreOver t (taps_of plan.layout) n.emitted = subst (λ ts. CablesAreOver t ts n.emitted) (taps_stay plan t) (subst (λ u. CablesAreOver u n.taps n.emitted) (time_is plan t) k.cables) in
    let done : DelaysAreOver t (port_delays plan.layout) n.decided = subst (λ ds. DelaysAreOver t ds n.decided) (same_delays plan t) (subst (λ u. DelaysAreOver u (line_delays n.repeaters) n.decided) (time_is plan t) k.delays) in
    let none = cables_none t (taps_of plan.layout) n.emitted (omega (arith, sent)) over in
    let cables : CablesAreQuiet plan t =
    λ p q u d hp hq ne on before late.
    let ago : u + suc (t - suc u) ≡ t = omega (arith, before) in
    sym (emitted_before_is plan t (suc (t - suc u)) q (omega arith) ∙ in_time (emitted plan q) t u (t - suc u) ago)
    ∙ none p q (t - suc u) d (record { hearer = hp; emitter = hq; other = λ e. ne (sym e); segment = sym on; near = omega (arith, late, before) }) in
    let delays : DelaysAreQuiet plan t =
    λ e u l before late.
    let ago : u + suc (t - suc u) ≡ t = omega (arith, before) in
    sym (decided_before_is plan t (suc (t - suc u)) e (omega arith) ∙ in_time (decided plan e) t u (t - suc u) ago)
    ∙ over_none t e (get_or (port_delays plan.layout) e 0) n.decided (omega (arith, chosen)) (done e l) (t - suc u) (omega (arith, late, before)) in
    record {
      within = within;
      senders = k.senders;
      receivers = k.receivers;
      repeaters = k.repeaters;
      cables = cables;
      delays = delays;
    }

pub quiet_as_kept : QuietIsAsKept
quiet_as_kept plan t within = (kept_tells plan t, tells_quiet plan t within)

-- half bit by half bit
pub last_signals_go_on : LastSignalsGoOn
last_signals_go_on t q row rows =
    let same : t + 1 - 1 ≡ t = omega arith in
    ap (λ u. cond (is_signal (get_or row q Idle)) (Some u) (last_signal u rows q)) same

never_still : {A : Type 0} (r : Receiving) → r.deaf ≡ true → IsStill r → A
never_still r e h = absurd (let both : true ≡ false = sym e ∙ h.awake in cc)

longer : (hs : List Sym) (s : Sym) → hs ++ s ∷ [] ≡ [] → ⊥
longer hs s e = let more = length-append hs (s ∷ []) in let none : length (hs ++ s ∷ []) ≡ 0 = ap length e in omega (arith, more, none)

ended_still : (r : Receiving) (hs : List Sym) → hs ≡ r.halves → r.deaf ≡ false → IsStill (reception_ended r hs).state
ended_still r [] e a = record { awake = a; no_reception = sym e }
ended_still r (s ∷ ss) e a = record { awake = a; no_reception = refl }

idle_still : (r : Receiving) → IsStill (receiver_step r Idle false).state
idle_still r =
    cond_both r.deaf (quiet (record r { deaf = false; halves = [] })) (reception_ended r r.halves) (λ (x : Reception). IsStill x.state)
    (λ _. record { awake = refl; no_reception = refl }) (λ e. ended_still r r.halves refl e)

carrier_hears : (r : Receiving) (s : Sym) → IsStill (cond r.deaf (quiet r) (extended r s)).state → ⊥
carrier_hears r s =
    cond_both r.deaf (quiet r) (extended r s) (λ (x : Reception). IsStill x.state → ⊥)
    (λ e h. never_still r e h) (λ _ h. longer r.halves s h.no_reception)

still_as : (r : Receiving) (h : Sym) (b : Bool) → IsStill (receiver_step r h b).state → (h ≡ Idle) × (b ≡ false)
still_as r h true k = absurd (let both : true ≡ false = k.awake in cc)
still_as r Idle false k = (refl, refl)
still_as r Hi false k = absurd (carrier_hears r Hi k)
still_as r Lo false k = absurd (carrier_hears r Lo k)
still_as r Clash false k = absurd (carrier_hears r Clash k)

pub still_after_silence : StillAfterSilence
still_after_silence r h b = (still_as r h b, λ e. subst (λ s. IsStill (receiver_step r s b).state) (sym e.0) (subst (λ x. IsStill (receiver_step r Idle x).state) (sym e.1) (idle_still r)))

-- what is kept of a receiver
no_halves : (hs : List Sym) → length hs ≡ 0 → hs ≡ []
no_halves [] e = refl
no_halves (s ∷ ss) e = absurd (omega arith)

pub still_as_kept : StillAsKept
still_as_kept r k h = (
  λ still. (h.same_deaf ∙ still.awake, h.count ∙ ap length still.no_reception),
  λ kept. record { awake = sym h.same_deaf ∙ kept.0; no_reception = no_halves r.halves (sym h.count ∙ kept.1) },
)
