-- What a tap emits is known from its device, where what it emits was decided.
use Rattle.std.proofs.Common.{◌≡◌, ℕ, suc, ◌+◌, ◌-◌, ◌<◌, Bool, true, false, cond, leb, eqb, ◌&&◌, inl, inr, map, length, get_or, None, Some, refl, sym, ap, ap₂, subst, ◌∙◌, arith}
use Rattle.std.proofs.lemmas.Bool.Decides.{nat_tests}
use Rattle.std.proofs.lemmas.Bool.{cases_lt}
use Rattle.std.proofs.lemmas.List.{length-map}
use Rattle.std.proofs.lemmas.Option.{none-some, slice_get-map, slice_get_within}
use Rattle.std.specs.Prelude.{slice_get, option_map}
use Rattle.manchester_line.specs.declared.Sym.{Sym}
use Rattle.manchester_line.specs.declared.Sym.TheVariants.{Idle, Hi, Lo, Clash}
use Rattle.manchester_line.specs.Line.{is_signal}
use Rattle.layout.specs.declared.lines.Layout.{Layout}
use Rattle.layout.specs.declared.lines.PortLine.{PortLine}
use Rattle.layout.specs.declared.ways.Attachment.{Attachment}
use Rattle.layout.specs.declared.ways.Attachment.TheVariants.{Station, Port}
use Rattle.layout.specs.Paths.{IsTap, delay_of}
use Rattle.layout.specs.Taps.{tap_of}
use Rattle.load_plan.specs.declared.plan.Plan.{Plan}
use Rattle.mac_transmit.specs.declared.phase.Phase.{Phase}
use Rattle.mac_transmit.specs.declared.phase.Phase.TheVariants as phase
use Rattle.mac_transmit.specs.Sender.{is_sending, jam_start}
use Rattle.repeater_core.specs.declared.modes.Mode.{Mode}
use Rattle.repeater_core.specs.declared.modes.Mode.TheVariants as mode
use Rattle.repeater_core.specs.Laws.{count_at}
use Rattle.repeater_core.specs.SilentParts.{sends_to}
use Rattle.network.specs.Attempts.{port_number, tap_number, sender_at}
use Rattle.network.specs.Times.{emitted, decided, earlier, port_delays}
use Rattle.network.proofs.AbsoluteTimes.{earlier_at, port_emits}
use Rattle.network.proofs.TapNumbers.{delay_at, port_below}
use Rattle.net_parts.specs.Standing.{repeater_state}
use Rattle.tap_signals.specs.declared.kind.SignalKind.{SignalKind}
use Rattle.tap_signals.specs.declared.kind.SignalKind.TheVariants as kind
use Rattle.tap_signals.specs.Kinds.{sent_kind, kind_of_mode, kind_if_signal, kind_emitted, decided_kind}
use Rattle.tap_signals.specs.Laws.{RestIsIdle}
use Rattle.tap_signals.proofs.PortsDecide.{port_decides}
use Rattle.net_parts.proofs.SendersEmit.{station_sends}

-- where a tap emits Idle
none_where_idle : (plan : Plan) (tap : Attachment) (t : ℕ) → emitted plan (tap_number plan.layout tap) t ≡ Idle → kind_emitted plan tap t ≡ None
none_where_idle plan tap t e = ap (λ s. cond (is_signal s) (kind_if_signal plan tap t) None) e

-- the stations
pub station_below : (l : Layout) (k : ℕ) (x : PortLine) → option_map tap_of (slice_get l.stations k) ≡ Some x → k < length l.stations
station_below l k x h =
    let within = slice_get_within (map tap_of l.stations) k x (slice_get-map tap_of l.stations k ∙ h) in
    omega (arith, within, length-map l.stations tap_of)

sent_where : (t : ℕ) (p : Phase) → cond (is_sending p) (sent_kind t p) None ≡ sent_kind t p
sent_where t phase.Rest = refl
sent_where t phase.Waiting = refl
sent_where t (phase.Sending start hit) = refl
sent_where t (phase.Backoff until) = refl

pub station_kind : (plan : Plan) (k t : ℕ) → k < length plan.layout.stations → kind_emitted plan (Station k) t ≡ sent_kind t (sender_at plan k (t + 1)).phase
station_kind plan k t l =
    let more : suc t ≡ t + 1 = omega arith in
    ap (λ b. cond b (sent_kind t (sender_at plan k (t + 1)).phase) None) (station_sends plan k t l ∙ ap (λ u. is_sending (sender_at plan k u).phase) more)
    ∙ sent_where t (sender_at plan k (t + 1)).phase

-- the ports
port_emits_later : (plan : Plan) (r p t : ℕ) → IsTap plan.layout (Port r p) →
    emitted plan (tap_number plan.layout (Port r p)) (t + delay_of plan.layout (Port r p)) ≡ decided plan (port_number plan.layout.repeaters r p) t
port_emits_later plan r p t tap =
    let ls = plan.layout.repeaters in
    let q = port_number ls r p in
    let away = delay_of plan.layout (Port r p) in
    let late : get_or (port_delays plan.layout) q 0 ≡ away = delay_at ls r p tap.0 tap.1 in
    port_emits plan (t + away) q (port_below ls r p tap.0 tap.1) ∙ ap (λ d. earlier (decided plan q) (t + away) d) late ∙ earlier_at (decided plan q) t away

pub port_kind : (plan : Plan) (r p t : ℕ) → IsTap plan.layout (Port r p) →
    kind_emitted plan (Port r p) (t + delay_of plan.layout (Port r p))
    ≡ decided_kind (repeater_state plan r (t + 1)).mode (count_at (repeater_state plan r t).counts p).rest (count_at (repeater_state plan r (t + 1)).counts p).rest p
port_kind plan r p t tap =
    let away = delay_of plan.layout (Port r p) in
    let more : suc t ≡ t + 1 = omega arith in
    let back : t + away - away + 1 ≡ t + 1 = omega arith in
    let signal = ap is_signal (port_emits_later plan r p t tap) ∙ port_decides plan r p t tap.0 tap.1 in
    ap (λ b. cond b (kind_of_mode (repeater_state plan r (t + away - away + 1)).mode) None) signal
    ∙ ap₂ (λ u v. cond (sends_to (repeater_state plan r u).mode p && (eqb (count_at (repeater_state plan r t).counts p).rest 0 && eqb (count_at (repeater_state plan r u).counts p).rest 0)) (kind_of_mode (repeater_state plan r v).mode) None) more back

too_early : (f : ℕ → Sym) (t back : ℕ) → t < back → earlier f t back ≡ Idle
too_early f t back l = grind (arith, nat_tests)

port_idle : (plan : Plan) (r p t : ℕ) → IsTap plan.layout (Port r p) → t < delay_of plan.layout (Port r p) → emitted plan (tap_number plan.layout (Port r p)) t ≡ Idle
port_idle plan r p t tap l =
    let ls = plan.layout.repeaters in
    let q = port_number ls r p in
    let late : get_or (port_delays plan.layout) q 0 ≡ delay_of plan.layout (Port r p) = delay_at ls r p tap.0 tap.1 in
    port_emits plan t q (port_below ls r p tap.0 tap.1) ∙ ap (λ d. earlier (decided plan q) t d) late ∙ too_early (decided plan q) t (delay_of plan.layout (Port r p)) l

-- before anything that was decided for it can be emitted, a tap emits nothing
pub early_none : (plan : Plan) (tap : Attachment) (t : ℕ) → IsTap plan.layout tap → t < delay_of plan.layout tap → kind_emitted plan tap t ≡ None
early_none plan (Station k) t tap l = absurd (omega (arith, l))
early_none plan (Port r p) t tap l = none_where_idle plan (Port r p) t (port_idle plan r p t tap l)

-- where nothing is emitted by a station or decided for a port
pub silent_none : (plan : Plan) (tap : Attachment) (t : ℕ) → IsTap plan.layout tap → ((q : ℕ) → emitted plan q t ≡ Idle) → ((e : ℕ) → decided plan e t ≡ Idle)
    → kind_emitted plan tap (t + delay_of plan.layout tap) ≡ None
silent_none plan (Station k) t tap none undecided =
    let now : t ≡ t + 0 = omega arith in
    subst (λ u. kind_emitted plan (Station k) u ≡ None) now (none_where_idle plan (Station k) t (none k))
silent_none plan (Port r p) t tap none undecided =
    none_where_idle plan (Port r p) (t + delay_of plan.layout (Port r p)) (port_emits_later plan r p t tap ∙ undecided (port_number plan.layout.repeaters r p))

-- a tap that emits no kind of signal emits Idle
not_signal : (s : Sym) → is_signal s ≡ false → s ≡ Idle
not_signal Idle e = refl
not_signal Hi e = absurd (cc)
not_signal Lo e = absurd (cc)
not_signal Clash e = absurd (cc)

if_none : (b : Bool) (x : SignalKind) → cond b (Some x) None ≡ None → b ≡ false
if_none true x e = absurd (none-some x (sym e))
if_none false x e = refl

not_sending : (t : ℕ) (p : Phase) → sent_kind t p ≡ None → is_sending p ≡ false
not_sending t phase.Rest e = refl
not_sending t phase.Waiting e = refl
not_sending t (phase.Sending start None) e = absurd (none-some kind.Frame (sym e))
not_sending t (phase.Sending start (Some hit)) e = absurd (some_kind (leb (jam_start hit) (t - start)) e)
  where
    some_kind : (b : Bool) → cond b (Some kind.Jam) (Some kind.Frame) ≡ None → ⊥
    some_kind true h = none-some kind.Jam (sym h)
    some_kind false h = none-some kind.Frame (sym h)
not_sending t (phase.Backoff until) e = refl

not_sent : (m : Mode) (p : ℕ) (b : Bool) → cond (sends_to m p && b) (kind_of_mode m) None ≡ None → (sends_to m p && b) ≡ false
not_sent mode.Idle p b e = refl
not_sent (mode.Repeat n i) p b e = if_none (sends_to (mode.Repeat n i) p && b) (kind.Repeat n) e
not_sent (mode.Extend n i j) p b e = if_none (sends_to (mode.Extend n i j) p && b) kind.Extend e
not_sent (mode.RxClash n i) p b e = if_none (sends_to (mode.RxClash n i) p && b) kind.Jam e
not_sent (mode.TxClash i) p b e = if_none (sends_to (mode.TxClash i) p && b) kind.Jam e
not_sent (mode.OnePort n i) p b e = if_none (sends_to (mode.OnePort n i) p && b) kind.Jam e

port_rests : (plan : Plan) (r p t : ℕ) → IsTap plan.layout (Port r p) → kind_emitted plan (Port r p) (t + delay_of plan.layout (Port r p)) ≡ None
    → emitted plan (tap_number plan.layout (Port r p)) (t + delay_of plan.layout (Port r p)) ≡ Idle
port_rests plan r p t tap none =
    let more : suc t ≡ t + 1 = omega arith in
    let q = port_number plan.layout.repeaters r p in
    let rests = eqb (count_at (repeater_state plan r t).counts p).rest 0 && eqb (count_at (repeater_state plan r (t + 1)).counts p).rest 0 in
    let signal : is_signal (decided plan q t) ≡ (sends_to (repeater_state plan r (t + 1)).mode p && rests) =
    port_decides plan r p t tap.0 tap.1
    ∙ ap (λ u. sends_to (repeater_state plan r u).mode p && (eqb (count_at (repeater_state plan r t).counts p).rest 0 && eqb (count_at (repeater_state plan r u).counts p).rest 0)) more in
    port_emits_later plan r p t tap
    ∙ not_signal (decided plan q t) (signal ∙ not_sent (repeater_state plan r (t + 1)).mode p rests (sym (port_kind plan r p t tap) ∙ none))

pub rest_is_idle : RestIsIdle
rest_is_idle plan (Station k) t tap none =
    let below = station_below plan.layout k tap.0 tap.1 in
    let more : suc t ≡ t + 1 = omega arith in
    not_signal (emitted plan k t)
    (station_sends plan k t below ∙ ap (λ u. is_sending (sender_at plan k u).phase) more ∙ not_sending t (sender_at plan k (t + 1)).phase (sym (station_kind plan k t below) ∙ none))
rest_is_idle plan (Port r p) t tap none =
    let away = delay_of plan.layout (Port r p) in
    elim (cases_lt t away) [
      | inl early ↦ port_idle plan r p t tap early
      | inr late ↦
          let same : t ≡ t - away + away = omega (arith, late) in
          subst (λ u. emitted plan (tap_number plan.layout (Port r p)) u ≡ Idle) (sym same)
          (port_rests plan r p (t - away) tap (subst (λ u. kind_emitted plan (Port r p) u ≡ None) same none))
    ]
