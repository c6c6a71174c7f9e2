-- A network that went on from a quiet half bit is stopped in the same half bits, with the same states, as if it had
-- never been stopped.
use Rattle.std.proofs.Common.{◌≡◌, ℕ, zero, suc, ◌+◌, ◌<◌, ◌≤◌, false, All, List, [], ◌∷◌, ◌++◌, map, replicate, length, get_or, refl, sym, subst, ap, ap₂, ◌∙◌, arith}
use Rattle.std.specs.List.{flat_map, AllByRecursion}
use Rattle.std.proofs.lemmas.List.Elements.{All-from_recursion, recursion_from_All}
use Rattle.std.proofs.lemmas.Simd.{map-map}
use Rattle.manchester_line.specs.declared.Sym.{Sym}
use Rattle.manchester_line.specs.declared.Sym.TheVariants.{Idle}
use Rattle.layout.specs.declared.lines.PortLine.{PortLine}
use Rattle.layout.specs.Taps.{taps_of}
use Rattle.load_plan.specs.declared.plan.Plan.{Plan}
use Rattle.mac_transmit.specs.Resuming.{state_of}
use Rattle.mac_transmit.specs.Sender.{Sender, is_sending}
use Rattle.repeater_core.specs.declared.modes.Mode.TheVariants as mode
use Rattle.repeater_core.specs.Counts.{Count}
use Rattle.repeater_core.specs.Step.{RepeaterDevice, decided_by}
use Rattle.network.specs.Net.{Net, net, next, decided_in}
use Rattle.network.specs.Times.{port_delays}
use Rattle.quiet_state.specs.Laws.{ResumedStatesAreTheSame, ResumedQuietIsTheSame}
use Rattle.quiet_state.specs.LastSignals.{IsQuietAsKept, line_delays}
use Rattle.quiet_state.specs.Quiet.{IsQuiet, IsStill}
use Rattle.quiet_state.specs.Resumed.{net_guards, later_net, net_from, net_of, net_state, net_rests, state_at}
use Rattle.quiet_state.proofs.AlikeNets.{Alike, IsAudible, each_alike}
use Rattle.quiet_state.proofs.BareRepeaters.{bare_count, bare_state, decided_bare}
use Rattle.quiet_state.proofs.BareSenders.{bare_sender}
use Rattle.quiet_state.proofs.QuietAsKept.{CablesAreOver, DelaysAreOver, cables_none, cables_over, many_decided, many_emitted, quiet_as_kept, same_delays}
use Rattle.quiet_state.proofs.QuietNets.{goes_alike, none_coming, taps_stay, time_is}
use Rattle.quiet_state.proofs.SignalsOver.{at_back, is_over, over_none}
use Rattle.quiet_state.proofs.StatesStay.{same_state}

-- the states of alike networks
states_bare : (ss : List Sender) → map state_of ss ≡ map state_of (map bare_sender ss)
states_bare ss = sym (map-map state_of bare_sender ss)

guards_bare : (rs : List RepeaterDevice) → flat_map (λ r. r.guards) rs ≡ flat_map (λ r. r.guards) (map bare_state rs)
guards_bare [] = refl
guards_bare (r ∷ rs) = ap (λ xs. r.guards ++ xs) (guards_bare rs)

rests_bare : (rs : List RepeaterDevice) → flat_map (λ r. map (λ c. c.rest) r.counts) rs ≡ flat_map (λ r. map (λ c. c.rest) r.counts) (map bare_state rs)
rests_bare [] = refl
rests_bare (r ∷ rs) = ap₂ (λ (xs ys : List ℕ). xs ++ ys) (sym (map-map (λ (c : Count). c.rest) bare_count r.counts)) (rests_bare rs)

delays_bare : (rs : List RepeaterDevice) → line_delays rs ≡ line_delays (map bare_state rs)
delays_bare [] = refl
delays_bare (r ∷ rs) = ap (λ xs. replicate (length r.guards) r.line.delay ++ xs) (delays_bare rs)

same_states : (n m : Net) → Alike n m → net_state n ≡ net_state m
same_states n m a =
    same_state n.t m.t (map state_of n.senders) (map state_of m.senders) (net_guards n) (net_guards m) (net_rests n) (net_rests m) n.rows m.rows n.captures m.captures a.time
    (states_bare n.senders ∙ ap (map state_of) a.senders ∙ sym (states_bare m.senders))
    (guards_bare n.repeaters ∙ ap (flat_map (λ (r : RepeaterDevice). r.guards)) a.repeaters ∙ sym (guards_bare m.repeaters))
    (rests_bare n.repeaters ∙ ap (flat_map (λ (r : RepeaterDevice). map (λ (c : Count). c.rest) r.counts)) a.repeaters ∙ sym (rests_bare m.repeaters)) a.rows a.captures

pub resumed_states : ResumedStatesAreTheSame
resumed_states plan t k q = sym (same_states (net plan (t + k)) (net_from plan (state_at plan t) k) (goes_alike plan t k (t + k) q refl))

-- what was decided and is still to be emitted
abbrev DecidedAlike : List ℕ → Net → Net → Type 0
DecidedAlike ds n m = (e b : ℕ) → e < length ds → b < get_or ds e 0 → at_back n.decided b e ≡ at_back m.decided b e

decided_alike : (n m : Net) → Alike n m → decided_in n ≡ decided_in m
decided_alike n m a = ap (flat_map (λ (symbols : List Sym). symbols)) (each_alike decided_by decided_bare n m a)

decided_next : (ds : List ℕ) (n m : Net) → Alike n m → DecidedAlike ds n m → DecidedAlike ds (next n) (next m)
decided_next ds n m a h e zero in_it soon = ap (λ row. get_or row e Idle) (decided_alike n m a)
decided_next ds n m a h e (suc b) in_it soon = h e b in_it (omega arith)

decided_goes : (plan : Plan) (t k u : ℕ) → IsQuiet plan t → u ≡ t + k → DecidedAlike (port_delays plan.layout) (net plan u) (net_from plan (state_at plan t) k)
decided_goes plan t zero u q e =
    let same : t ≡ u = omega arith in
    subst (λ v. DecidedAlike (port_delays plan.layout) (net plan v) (net_of plan (state_at plan t))) same (λ i b in_it soon. none_coming plan t q i b in_it soon)
decided_goes plan t (suc k) zero q e = absurd (omega arith)
decided_goes plan t (suc k) (suc u) q e =
    decided_next (port_delays plan.layout) (net plan u) (net_from plan (state_at plan t) k) (goes_alike plan t k u q (omega arith)) (decided_goes plan t k u q (omega arith))

-- what holds of devices without what is kept for the laws alone
onto_map : {X Y : Type 0} (P : Y → Type 0) (f : X → Y) (xs : List X) → AllByRecursion (λ x. P (f x)) xs → AllByRecursion P (map f xs)
onto_map P f [] h = tt
onto_map P f (x ∷ xs) h = (h.0, onto_map P f xs h.1)

from_map : {X Y : Type 0} (P : Y → Type 0) (f : X → Y) (xs : List X) → AllByRecursion P (map f xs) → AllByRecursion (λ x. P (f x)) xs
from_map P f [] h = tt
from_map P f (x ∷ xs) h = (h.0, from_map P f xs h.1)

abbrev Rests : Sender → Type 0
Rests s = is_sending s.phase ≡ false

abbrev Idles : RepeaterDevice → Type 0
Idles r = r.mode ≡ mode.Idle

senders_rest : (ss us : List Sender) → map bare_sender ss ≡ map bare_sender us → All Rests ss → All Rests us
senders_rest ss us e h =
    All-from_recursion Rests us (from_map Rests bare_sender us (subst (AllByRecursion Rests) e (onto_map Rests bare_sender ss (recursion_from_All Rests ss h))))

repeaters_idle : (rs us : List RepeaterDevice) → map bare_state rs ≡ map bare_state us → All Idles rs → All Idles us
repeaters_idle rs us e h =
    All-from_recursion Idles us (from_map Idles bare_state us (subst (AllByRecursion Idles) e (onto_map Idles bare_state rs (recursion_from_All Idles rs h))))

-- two networks at half bit u with these taps and delays
record AreTwo (u : ℕ) (taps : List PortLine) (ds : List ℕ) (n m : Net) : Type 0 where
  n_time : n.t ≡ u
  m_time : m.t ≡ u
  n_taps : n.taps ≡ taps
  m_taps : m.taps ≡ taps
  n_delays : line_delays n.repeaters ≡ ds
  m_delays : line_delays m.repeaters ≡ ds
  n_emitted : length n.emitted ≤ u
  m_emitted : length m.emitted ≤ u
  n_decided : length n.decided ≤ u
  m_decided : length m.decided ≤ u
  senders : map bare_sender n.senders ≡ map bare_sender m.senders
  receivers : n.receivers ≡ m.receivers
  repeaters : map bare_state n.repeaters ≡ map bare_state m.repeaters
  told : (p q b : ℕ) (d : PortLine) → IsAudible taps p q (suc b) d → at_back n.emitted b q ≡ at_back m.emitted b q
  decided : DecidedAlike ds n m

turned : (u : ℕ) (taps : List PortLine) (ds : List ℕ) (n m : Net) → AreTwo u taps ds n m → AreTwo u taps ds m n
turned u taps ds n m h = record {
  n_time = h.m_time;
  m_time = h.n_time;
  n_taps = h.m_taps;
  m_taps = h.n_taps;
  n_delays = h.m_delays;
  m_delays = h.n_delays;
  n_emitted = h.m_emitted;
  m_emitted = h.n_emitted;
  n_decided = h.m_decided;
  m_decided = h.n_decided;
  senders = sym h.senders;
  receivers = sym h.receivers;
  repeaters = sym h.repeaters;
  told = λ p q b d a. sym (h.told p q b d a);
  decided = λ e b l s. sym (h.decided e b l s);
}

kept_alike : (u : ℕ) (taps : List PortLine) (ds : List ℕ) (n m : Net) → AreTwo u taps ds n m → IsQuietAsKept n → IsQuietAsKept m
kept_alike u taps ds n m h k =
    let over : CablesAreOver u taps n.emitted = subst (λ ts. CablesAreOver u ts n.emitted) h.n_taps (subst (λ v. CablesAreOver v n.taps n.emitted) h.n_time k.cables) in
    let done : DelaysAreOver u ds n.decided = subst (λ xs. DelaysAreOver u xs n.decided) h.n_delays (subst (λ v. DelaysAreOver v (line_delays n.repeaters) n.decided) h.n_time k.delays) in
    let none = cables_none u taps n.emitted h.n_emitted over in
    let cables : CablesAreOver u taps m.emitted = cables_over u taps m.emitted h.m_emitted (λ p q b d a. sym (h.told p q b d a) ∙ none p q b d a) in
    let delays : DelaysAreOver u ds m.decided =
    λ e l. is_over u e (get_or ds e 0) m.decided h.m_decided (λ b soon. sym (h.decided e b l soon) ∙ over_none u e (get_or ds e 0) n.decided h.n_decided (done e l) b soon) in
    record {
      senders = senders_rest n.senders m.senders h.senders k.senders;
      receivers = subst (All IsStill) h.receivers k.receivers;
      repeaters = repeaters_idle n.repeaters m.repeaters h.repeaters k.repeaters;
      cables = subst (λ v. CablesAreOver v m.taps m.emitted) (sym h.m_time) (subst (λ ts. CablesAreOver u ts m.emitted) (sym h.m_taps) cables);
      delays = subst (λ v. DelaysAreOver v (line_delays m.repeaters) m.decided) (sym h.m_time) (subst (λ xs. DelaysAreOver u xs m.decided) (sym h.m_delays) delays);
    }

many_since : (n : Net) (k : ℕ) → n.emitted ≡ [] → length (later_net n k).emitted ≡ k
many_since n zero e = ap length e
many_since n (suc k) e = ap suc (many_since n k e)

many_chosen : (n : Net) (k : ℕ) → n.decided ≡ [] → length (later_net n k).decided ≡ k
many_chosen n zero e = ap length e
many_chosen n (suc k) e = ap suc (many_chosen n k e)

two_nets : (plan : Plan) (t k : ℕ) → IsQuiet plan t → AreTwo (t + k) (taps_of plan.layout) (port_delays plan.layout) (net plan (t + k)) (net_from plan (state_at plan t) k)
two_nets plan t k q =
    let u = t + k in
    let n = net plan u in
    let m = net_from plan (state_at plan t) k in
    let a : Alike n m = goes_alike plan t k u q refl in
    let delays : line_delays n.repeaters ≡ port_delays plan.layout = same_delays plan u in
    let sent = many_since (net_of plan (state_at plan t)) k refl in
    let chosen = many_chosen (net_of plan (state_at plan t)) k refl in
    let all_sent = many_emitted plan u in
    let all_chosen = many_decided plan u in
    record {
      n_time = time_is plan u;
      m_time = sym a.time ∙ time_is plan u;
      n_taps = taps_stay plan u;
      m_taps = sym a.taps ∙ taps_stay plan u;
      n_delays = delays;
      m_delays = delays_bare m.repeaters ∙ ap line_delays (sym a.repeaters) ∙ sym (delays_bare n.repeaters) ∙ delays;
      n_emitted = omega (arith, all_sent);
      m_emitted = omega (arith, sent);
      n_decided = omega (arith, all_chosen);
      m_decided = omega (arith, chosen);
      senders = a.senders;
      receivers = a.receivers;
      repeaters = a.repeaters;
      told = λ p i b d h. a.told p i (suc b) d (subst (λ ts. IsAudible ts p i (suc b) d) (sym (taps_stay plan u)) h);
      decided = decided_goes plan t k u q refl;
    }

pub resumed_quiet : ResumedQuietIsTheSame
resumed_quiet plan t k q within =
    let u = t + k in
    let n = net plan u in
    let m = net_from plan (state_at plan t) k in
    let two = two_nets plan t k q in
    let both = quiet_as_kept plan u within in (
      λ h. kept_alike u (taps_of plan.layout) (port_delays plan.layout) n m two (both.0 h),
      λ h. both.1 (kept_alike u (taps_of plan.layout) (port_delays plan.layout) m n (turned u (taps_of plan.layout) (port_delays plan.layout) n m two) h),
    )
