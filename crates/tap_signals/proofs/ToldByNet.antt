-- What a network that is stepped tells of its taps is what they emit.
use Rattle.std.proofs.Common.{◌≡◌, ℕ, zero, suc, ◌+◌, ◌-◌, ◌<◌, ◌≤◌, max, min, All, List, [], map, length, set, get_or, get_or-set_same, inl, inr, Option, None, Some, sym, ap, ap₂, subst, ◌∙◌, arith}
use Rattle.std.specs.List.{AllByRecursion}
use Rattle.std.specs.Prelude.{slice_get, option_map, unwrap_or}
use Rattle.std.proofs.lemmas.List.{get_or-map, get_or-set_other, get_or_default}
use Rattle.std.proofs.lemmas.Bool.{cases_lt}
use Rattle.std.proofs.lemmas.Option.{get_or_from_slice_get, slice_get-get_or, slice_get_within}
use Rattle.mac_parameters.specs.Parameters.{greatest_delay}
use Rattle.layout.specs.declared.lines.Layout.{Layout}
use Rattle.layout.specs.declared.lines.RepeaterLine.{RepeaterLine}
use Rattle.layout.specs.declared.ways.Attachment.{Attachment}
use Rattle.layout.specs.declared.ways.Attachment.TheVariants.{Station, Port}
use Rattle.layout.specs.Paths.{IsTap, delay_of}
use Rattle.load_plan.specs.declared.plan.Plan.{Plan}
use Rattle.mac_transmit.specs.Sender.{Sender}
use Rattle.repeater_core.specs.Laws.{count_at}
use Rattle.repeater_core.specs.Step.{RepeaterDevice, new_state}
use Rattle.network.specs.Attempts.{sender_at}
use Rattle.network.specs.Net.{net, next}
use Rattle.network.proofs.RunnablePlans.{runnable_plan}
use Rattle.network.proofs.StationAttempts.{no_sender}
use Rattle.quiet_state.specs.Resumed.{later_net}
use Rattle.net_parts.specs.RepeaterParts.{edges_in}
use Rattle.net_parts.specs.Standing.{repeater_state}
use Rattle.net_parts.proofs.NetworkFacts.{station_facts, repeater_facts}
use Rattle.net_step.specs.CalmNets.{IsSilentHalfBit}
use Rattle.net_step.specs.KeptNet.{KeptNet, Stands}
use Rattle.tap_signals.specs.declared.kind.SignalKind.{SignalKind}
use Rattle.tap_signals.specs.declared.stretch.Stretch.{Stretch}
use Rattle.tap_signals.specs.Kinds.{sent_kind, kind_emitted, decided_kind}
use Rattle.tap_signals.specs.Signals.{AreSignals, first_seen}
use Rattle.tap_signals.specs.Stretches.{AreStretches, AreStretchesTo}
use Rattle.tap_signals.specs.Taps.{taps_in_order}
use Rattle.tap_signals.specs.Told.{AreListsTold, HasDevice, TellsKinds, kept_repeater, kept_sender, kind_told, rest_told}
use Rattle.tap_signals.proofs.KindsKnown.{early_none, port_kind, silent_none, station_below, station_kind}
use Rattle.tap_signals.proofs.PortsDecide.{port_facts}
use Rattle.tap_signals.proofs.StretchesGrow.{nothing_yet, silent_many}
use Rattle.tap_signals.proofs.TapsOfLayout.{one_of_all, taps_are}

-- the taps in their order
pub all_are_taps : (l : Layout) (taps : List Attachment) → taps ≡ taps_in_order l → All (IsTap l) taps
all_are_taps l taps e = λ i d lt. one_of_all (IsTap l) taps i d (subst (λ (ts : List Attachment). AllByRecursion (IsTap l) ts) (sym e) (taps_are l)) lt

-- the devices
same_repeater : (plan : Plan) (t r : ℕ) (n : KeptNet) → Stands (net plan t) n → kept_repeater n r ≡ repeater_state plan r t
same_repeater plan t r n stands = ap (λ (rs : List RepeaterDevice). get_or rs r (new_state 0 0)) stands.repeaters

same_sender : (plan : Plan) (t k : ℕ) (n : KeptNet) → Stands (net plan t) n → kept_sender n k ≡ sender_at plan k t
same_sender plan t k n stands = ap (λ (ss : List Sender). get_or ss k no_sender) stands.senders

has_device : (plan : Plan) (t : ℕ) (n : KeptNet) (tap : Attachment) → Stands (net plan t) n → IsTap plan.layout tap → HasDevice n tap
has_device plan t n (Station k) stands tap =
    let below = station_below plan.layout k tap.0 tap.1 in
    let many = ap length stands.senders in
    let all = (station_facts plan).senders t in
    omega (arith, below, many, all)
has_device plan t n (Port r p) stands tap =
    let at = port_facts plan.layout.repeaters r p tap.0 tap.1 in
    let many = ap length stands.repeaters in
    let all = (repeater_facts plan).many t in
    let guards : length (kept_repeater n r).guards ≡ edges_in plan.layout.repeaters r =
    ap (λ (s : RepeaterDevice). length s.guards) (same_repeater plan t r n stands) ∙ (repeater_facts plan).guards r t at.0 in
    (omega (arith, at.0, many, all), omega (arith, at.1.0, guards))

pub all_have_devices : (plan : Plan) (t : ℕ) (n : KeptNet) (taps : List Attachment) → Stands (net plan t) n → All (IsTap plan.layout) taps → All (HasDevice n) taps
all_have_devices plan t n taps stands are = λ i d l. has_device plan t n (get_or taps i d) stands (are i d l)

-- what is told of a tap after a half bit
pub told_kind : (plan : Plan) (t : ℕ) (old new : KeptNet) (tap : Attachment) → Stands (net plan t) old → Stands (net plan (t + 1)) new → IsTap plan.layout tap
    → kind_told new tap (rest_told old tap) t ≡ kind_emitted plan tap (t + delay_of plan.layout tap)
told_kind plan t old new (Station k) before after tap =
    let at_once : t ≡ t + 0 = omega arith in
    ap (λ (s : Sender). sent_kind t s.phase) (same_sender plan (t + 1) k new after)
    ∙ sym (station_kind plan k t (station_below plan.layout k tap.0 tap.1))
    ∙ ap (kind_emitted plan (Station k)) at_once
told_kind plan t old new (Port r p) before after tap =
    ap₂ (λ (x y : RepeaterDevice). decided_kind y.mode (count_at x.counts p).rest (count_at y.counts p).rest p) (same_repeater plan t r old before) (same_repeater plan (t + 1) r new after)
    ∙ sym (port_kind plan r p t tap)

pub tells_kinds : (plan : Plan) (t : ℕ) (old new : KeptNet) (taps : List Attachment) (rests : List ℕ) → Stands (net plan t) old → Stands (net plan (t + 1)) new → All (IsTap plan.layout) taps
    → rests ≡ map (rest_told old) taps → TellsKinds plan new taps rests t
tells_kinds plan t old new taps rests before after are is = λ k d lt.
    let tap = get_or taps k d in
    let rest : get_or rests k 0 ≡ rest_told old tap = ap (λ (xs : List ℕ). get_or xs k 0) is ∙ get_or-map (rest_told old) taps k d 0 lt in
    ap (λ rested. kind_told new tap rested t) rest ∙ told_kind plan t old new tap before after (are k d lt)

-- many half bits in which nothing is emitted
later_of_net : (plan : Plan) (t n : ℕ) → later_net (net plan t) n ≡ net plan (t + n)
later_of_net plan t zero = let same : t ≡ t + 0 = omega arith in ap (net plan) same
later_of_net plan t (suc n) = ap next (later_of_net plan t n) ∙ (let more : suc (t + n) ≡ t + suc n = omega arith in ap (net plan) more)

pub stands_later : (plan : Plan) (k : KeptNet) (t later now : ℕ) → now ≡ t → t ≤ later → Stands (later_net (net plan t) (later - now)) k → Stands (net plan later) k
stands_later plan k t later now same l h =
    let at : t + (later - now) ≡ later = omega (arith, same, l) in
    subst (λ n. Stands n k) (later_of_net plan t (later - now) ∙ ap (net plan) at) h

pub stands_still : (plan : Plan) (k : KeptNet) (t later now : ℕ) → now ≡ t → t ≤ later → later ≤ t → Stands (later_net (net plan t) (later - now)) k → Stands (net plan t) k
stands_still plan k t later now same l m h =
    let at : later ≡ t = omega (arith, l, m) in
    subst (λ u. Stands (net plan u) k) at (stands_later plan k t later now same l h)

one_silent : (plan : Plan) (tap : Attachment) (t : ℕ) → IsTap plan.layout tap → IsSilentHalfBit (net plan t) → kind_emitted plan tap (t + delay_of plan.layout tap) ≡ None
one_silent plan tap t is silent = silent_none plan tap t is silent.emits silent.decides

pub told_silent : (plan : Plan) (taps : List Attachment) (from to t later now : ℕ) (lists : List (List Stretch)) → now ≡ t → t ≤ later → All (IsTap plan.layout) taps
    → ((i : ℕ) → i < later - now → IsSilentHalfBit (later_net (net plan t) i)) → AreListsTold plan taps from to t lists → AreListsTold plan taps from to later lists
told_silent plan taps from to t later now lists same l are silent told = record {
  many = told.many;
  each = λ k d lt.
      let tap = get_or taps k d in
      let away = delay_of plan.layout tap in
      let n = later - now in
      let all : t + away + n ≡ later + away = omega (arith, same, l) in
      subst (λ u. AreStretchesTo (kind_emitted plan tap) from to u (get_or lists k [])) all
      (silent_many (kind_emitted plan tap) from to (t + away) n (get_or lists k [])
      (λ i below. let at : t + i + away ≡ t + away + i = omega arith in
      subst (λ u. kind_emitted plan tap u ≡ None) at (one_silent plan tap (t + i) (are k d lt) (subst IsSilentHalfBit (later_of_net plan t i) (silent i below))))
      (told.each k d lt));
}

-- before the first half bit that can be of use
pub delay_most : (plan : Plan) (tap : Attachment) → IsTap plan.layout tap → delay_of plan.layout tap ≤ greatest_delay
delay_most plan (Station k) tap = omega arith
delay_most plan (Port r p) tap =
    let none : RepeaterLine = record { name = []; delay = 0; ports = [] } in
    let ls = plan.layout.repeaters in
    let at = port_facts ls r p tap.0 tap.1 in
    let is : delay_of plan.layout (Port r p) ≡ (get_or ls r none).delay = ap (λ o. unwrap_or (option_map (λ (x : RepeaterLine). x.delay) o) 0) (slice_get-get_or ls r none at.0) in
    let most = (runnable_plan plan).short_delay r none at.0 in
    omega (arith, is, most)

pub told_first : (plan : Plan) (taps : List Attachment) (from to begin : ℕ) (lists : List (List Stretch)) → All (IsTap plan.layout) taps → begin ≡ from - greatest_delay
    → length lists ≡ length taps → ((k : ℕ) → get_or lists k [] ≡ []) → AreListsTold plan taps from to begin lists
told_first plan taps from to begin lists are first many none = record {
  many = many;
  each = λ k d lt.
      let tap = get_or taps k d in
      let away = delay_of plan.layout tap in
      let most = delay_most plan tap (are k d lt) in
      subst (λ ss. AreStretchesTo (kind_emitted plan tap) from to (begin + away) ss) (sym (none k))
      (nothing_yet (kind_emitted plan tap) from to (begin + away) (λ u l m. early_none plan tap u (are k d lt) (omega (arith, l, m, first, most))));
}

-- at the end
pub told_all : (plan : Plan) (from start to : ℕ) (taps : List Attachment) (lists signals : List (List Stretch)) → taps ≡ taps_in_order plan.layout → start ≡ first_seen from → start < to
    → signals ≡ lists → AreListsTold plan taps start to to lists → AreSignals plan from to signals
told_all plan from start to taps lists signals in_order first l same told = record {
  many = ap length same ∙ told.many ∙ ap length in_order;
  each = λ k tap is.
      let here : slice_get taps k ≡ Some tap = ap (λ (ts : List Attachment). slice_get ts k) in_order ∙ is in
      let lt : k < length taps = slice_get_within taps k tap here in
      let read : get_or taps k tap ≡ tap = get_or_from_slice_get taps k tap tap here in
      let away = delay_of plan.layout tap in
      let old : AreStretchesTo (kind_emitted plan tap) start to (to + away) (get_or lists k []) =
      subst (λ (x : Attachment). AreStretchesTo (kind_emitted plan x) start to (to + delay_of plan.layout x) (get_or lists k [])) read (told.each k tap lt) in
      let end : max start (min (to + away) to) ≡ to = omega (arith, l) in
      subst (λ (xs : List (List Stretch)). AreStretches (kind_emitted plan tap) (first_seen from) to (get_or xs k [])) (sym same)
      (subst (λ s. AreStretches (kind_emitted plan tap) s to (get_or lists k [])) first
      (subst (λ u. AreStretches (kind_emitted plan tap) start u (get_or lists k [])) end old));
}

-- one half bit more for one tap
pub one_told : (plan : Plan) (taps : List Attachment) (from to t k : ℕ) (lists : List (List Stretch)) (new : List Stretch) → k < length taps → length lists ≡ length taps
    → ((q : ℕ) (d : Attachment) → q < k → AreStretchesTo (kind_emitted plan (get_or taps q d)) from to (t + 1 + delay_of plan.layout (get_or taps q d)) (get_or lists q []))
    → ((d : Attachment) → AreStretchesTo (kind_emitted plan (get_or taps k d)) from to (t + 1 + delay_of plan.layout (get_or taps k d)) new)
    → (q : ℕ) (d : Attachment) → q < k + 1 → AreStretchesTo (kind_emitted plan (get_or taps q d)) from to (t + 1 + delay_of plan.layout (get_or taps q d)) (get_or (set lists k new) q [])
one_told plan taps from to t k lists new lt many done now q d l = elim (cases_lt q k) [
  | inl before ↦
      subst (AreStretchesTo (kind_emitted plan (get_or taps q d)) from to (t + 1 + delay_of plan.layout (get_or taps q d)))
      (sym (get_or-set_other lists k q new [] (λ e. omega (arith, e, before)))) (done q d before)
  | inr here ↦
      let e : k ≡ q = omega (arith, l, here) in
      let in_it : k < length lists = omega (arith, lt, many) in
      subst (λ i. AreStretchesTo (kind_emitted plan (get_or taps i d)) from to (t + 1 + delay_of plan.layout (get_or taps i d)) (get_or (set lists k new) i [])) e
      (subst (AreStretchesTo (kind_emitted plan (get_or taps k d)) from to (t + 1 + delay_of plan.layout (get_or taps k d))) (sym (get_or-set_same lists k new [] in_it)) (now d))
]

pub tap_told : (plan : Plan) (taps : List Attachment) (n : KeptNet) (rested : List ℕ) (from to t k : ℕ) (lists : List (List Stretch)) (old new : List Stretch) (away : ℕ) (kind : Option SignalKind)
    → k < length taps → length lists ≡ length taps → old ≡ get_or lists k old
    → away ≡ delay_of plan.layout (get_or taps k (Station 0)) → kind ≡ kind_told n (get_or taps k (Station 0)) (get_or rested k 0) t → TellsKinds plan n taps rested t
    → ((d : Attachment) → k ≤ k → k < length taps → AreStretchesTo (kind_emitted plan (get_or taps k d)) from to (t + delay_of plan.layout (get_or taps k d)) (get_or lists k []))
    → ((f : ℕ → Option SignalKind) → AreStretchesTo f from to (t + away) old → f (t + away) ≡ kind → AreStretchesTo f from to (t + away + 1) new)
    → (d : Attachment) → AreStretchesTo (kind_emitted plan (get_or taps k d)) from to (t + 1 + delay_of plan.layout (get_or taps k d)) new
tap_told plan taps n rested from to t k lists old new away kind lt many is late told tells left goes d =
    let tap = get_or taps k (Station 0) in
    let f = kind_emitted plan tap in
    let in_it : k < length lists = omega (arith, lt, many) in
    let here : get_or lists k [] ≡ old = get_or_default lists k [] old in_it ∙ sym is in
    let before : AreStretchesTo f from to (t + away) old =
    subst (λ u. AreStretchesTo f from to (t + u) old) (sym late) (subst (AreStretchesTo f from to (t + delay_of plan.layout tap)) here (left (Station 0) (omega arith) lt)) in
    let emits : f (t + away) ≡ kind = ap (λ u. f (t + u)) late ∙ sym (tells k (Station 0) lt) ∙ sym told in
    let at : t + away + 1 ≡ t + 1 + delay_of plan.layout tap = omega (arith, late) in
    let after : AreStretchesTo f from to (t + 1 + delay_of plan.layout tap) new = subst (λ u. AreStretchesTo f from to u new) at (goes f before emits) in
    subst (λ (x : Attachment). AreStretchesTo (kind_emitted plan x) from to (t + 1 + delay_of plan.layout x) new) (get_or_default taps k (Station 0) d lt) after
