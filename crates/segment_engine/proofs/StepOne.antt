-- One half bit of a station that is due: what its line has then and later, and what holds of it before the next.
use Rattle.std.proofs.Common.{◌≡◌, ℕ, suc, ◌+◌, ◌-◌, ◌<◌, ◌⊎◌, Bool, true, false, inl, inr, Option, Some, None, IfNone, List, ◌++◌, length, get_or, sym, ap, ap₂, subst, ◌∙◌, arith}
use Rattle.std.proofs.lemmas.Bool.{cases_lt, cases_Bool}
use Rattle.manchester_line.specs.declared.Sym.{Sym}
use Rattle.manchester_line.specs.Line.{is_signal}
use Rattle.collision_log.specs.declared.row.Row.{Row}
use Rattle.load_plan.specs.declared.plan.Plan.{Plan}
use Rattle.mac_receive.specs.KeptReceiver.{KeptReception, Hears}
use Rattle.mac_receive.specs.Receiver.{Receiving, receiver_step}
use Rattle.mac_transmit.specs.declared.phase.Phase.{Phase}
use Rattle.mac_transmit.specs.Sender.{Sender, sender_step, is_sending}
use Rattle.mac_transmit.specs.Emissions.{IsSendingFor, emission_by}
use Rattle.network.specs.declared.outputs.Taken.{Taken}
use Rattle.network.specs.Attempts.{sender_at}
use Rattle.network.specs.Captures.{taken_by}
use Rattle.network.specs.Rows.{row_of}
use Rattle.network.specs.Times.{heard, emitted}
use Rattle.net_parts.specs.Standing.{receiver_at}
use Rattle.net_parts.proofs.DeviceSteps.{receiver_next}
use Rattle.net_parts.proofs.NetworkFacts.{station_facts}
use Rattle.net_parts.proofs.SendersEmit.{station_sends}
use Rattle.tap_lines.specs.TapLines.{TapLine, no_line, symbol_on, class_on}
use Rattle.window_room.specs.NeededRoom.{Demand, Covers, both_demands, receiver_demand, sender_demand}
use Rattle.window_room.specs.Rooms.{Room, captures_with}
use Rattle.segment_engine.specs.declared.apart.Watch.{Watch}
use Rattle.segment_engine.specs.declared.segment.Segment.{Segment}
use Rattle.segment_engine.specs.SteadyPieces.{IsCalmAs}
use Rattle.segment_engine.specs.StationsApart.{StandsBehind, StandsApart, IsAnew, TellsOn, behind_demand, heard_reception, number_on, sent_event}
use Rattle.segment_engine.proofs.SteadyCalm.{emits_idle, no_calm}
use Rattle.segment_engine.proofs.SendersStep.{same_sending, same_emits, same_lasts, silent_emits}
use Rattle.segment_engine.proofs.StationsLater.{station}

pub if_none_map : (o : Option ℕ) (P Q : Type 0) → (P → Q) → IfNone o P → IfNone o Q
if_none_map None P Q f h = f h
if_none_map (Some n) P Q f h = tt

-- phases by the values that were read of them
pub keeps : (was now : Phase) (s s' : Sender) → was ≡ s.phase → now ≡ s'.phase → (now ≡ was) ⊎ ((is_sending was ≡ false) × (is_sending now ≡ false)) →
    (s'.phase ≡ s.phase) ⊎ ((is_sending s.phase ≡ false) × (is_sending s'.phase ≡ false))
keeps was now s s' a b h = elim h [
  | inl same ↦ inl (sym b ∙ same ∙ a)
  | inr silent ↦ inr (sym (ap is_sending a) ∙ silent.0, sym (ap is_sending b) ∙ silent.1)
]

module _ (plan : Plan) (x p L t u : ℕ) (ls : List TapLine) (w : Watch) (s s' : Sender) (k : KeptReception) (h : Sym)
    (behind : StandsBehind plan x p L t ls w s k) (since : w.since ≡ u) (sent : s' ≡ (sender_step s h).state) where
  abbrev l : TapLine
  l = get_or ls p no_line

  -- the sender goes on with the same sending, or with none
  abbrev Keeps : Type 0
  Keeps = (s'.phase ≡ s.phase) ⊎ ((is_sending s.phase ≡ false) × (is_sending s'.phase ≡ false))

  sending_same : is_sending s.phase ≡ true → Keeps → s'.phase ≡ s.phase
  sending_same on kept = elim kept [
    | inl same ↦ same
    | inr silent ↦ absurd (let no : true ≡ false = sym on ∙ silent.0 in cc)
  ]

  silent_same : is_sending s.phase ≡ false → Keeps → is_sending s'.phase ≡ false
  silent_same off kept = elim kept [
    | inl same ↦ ap is_sending same ∙ off
    | inr silent ↦ silent.1
  ]

  silent_then : is_sending s'.phase ≡ false → is_sending (sender_step s h).state.phase ≡ false
  silent_then off = sym (ap (λ (y : Sender). is_sending y.phase) sent) ∙ off

  -- so many half bits are left of a sending
  left : u < w.told → is_sending s.phase ≡ true → IsSendingFor s (suc (w.told - (u + 1))) s.phase
  left told on =
      let size : w.told - w.since ≡ suc (w.told - (u + 1)) = omega (arith, since, told) in
      subst (λ n. IsSendingFor s n s.phase) size (behind.lasts on)

  line_at : (j a : ℕ) → a ≡ u + j → a < w.told → symbol_on l a ≡ emission_by s j s.phase
  line_at j a at high =
      let there : w.since + j ≡ a = omega (arith, at, since) in
      ap (symbol_on l) (sym there) ∙ behind.line j (omega (arith, there, high))

  signal_at : (j a : ℕ) → a ≡ u + j → a < w.told → is_signal (emission_by s j s.phase) ≡ is_sending s.phase
  signal_at j a at high = behind.signal j (omega (arith, at, since, high))

  tells_sending : u < w.told → is_sending s.phase ≡ true → s'.phase ≡ s.phase → TellsOn u w.told l s'
  tells_sending told on same =
      let before : (sender_step s h).state.phase ≡ s.phase = sym (ap (λ (y : Sender). y.phase) sent) ∙ same in
      let later : (j : ℕ) → emission_by s' j s'.phase ≡ emission_by s (suc j) s.phase =
      λ j. ap (λ (y : Sender). emission_by y j y.phase) sent ∙ same_sending s h j on before in
      record {
        from = omega (arith, told);
        line = λ j high. line_at (suc j) (u + 1 + j) (omega arith) high ∙ sym (later j);
        signal = λ j high. ap is_signal (later j) ∙ signal_at (suc j) (u + 1 + j) (omega arith) high ∙ sym (ap is_sending same);
        goes = λ a late. behind.goes a (omega (arith, since, late)) ∙ ap is_sending (sym same);
        lasts = λ still. subst (λ (y : Sender). IsSendingFor y (w.told - (u + 1)) y.phase) (sym sent) (same_lasts s h (w.told - (u + 1)) on before (left told on));
      }

  tells_silent : u < w.told → is_sending s.phase ≡ false → is_sending s'.phase ≡ false → TellsOn u w.told l s'
  tells_silent told off then = record {
    from = omega (arith, told);
    line = λ j high. line_at (suc j) (u + 1 + j) (omega arith) high ∙ emits_idle s (suc j) s.phase off ∙ sym (emits_idle s' j s'.phase then);
    signal = λ j high. ap is_signal (emits_idle s' j s'.phase then) ∙ sym then;
    goes = λ a late. behind.goes a (omega (arith, since, late)) ∙ off ∙ sym then;
    lasts = λ still. absurd (let no : true ≡ false = sym still ∙ then in cc);
  }

  pub tells_on : u < w.told → Keeps → TellsOn u w.told l s'
  tells_on told kept = elim (cases_Bool (is_sending s.phase)) [
    | inl on ↦ tells_sending told on (sending_same on kept)
    | inr off ↦ tells_silent told off (silent_same off kept)
  ]

  pub emits_on : u < w.told → Keeps → (sender_step s h).emitted ≡ symbol_on l u
  emits_on told kept =
      let has = line_at 0 u (omega arith) told in
      elim (cases_Bool (is_sending s.phase)) [
        | inl on ↦ same_emits s h (w.told - (u + 1)) (left told on) ∙ sym has
        | inr off ↦ silent_emits s h (silent_then (silent_same off kept)) ∙ sym (has ∙ emits_idle s 0 s.phase off)
      ]

  -- its class in half bit u, where it isn't told anew
  pub class_on_now : u < w.told → class_on l u ≡ is_signal (symbol_on l u)
  class_on_now told =
      let first : u + 0 ≡ u = omega arith in
      behind.goes u (omega (arith, since))
      ∙ sym (ap is_signal (line_at 0 u (sym first) told) ∙ signal_at 0 u (sym first) told)

  -- where it is told anew, and the station sends if it did, the line has a signal where it had one
  pub alike_anew : (told : ℕ) (e : Sym) (l' : TapLine) → is_signal e ≡ is_sending s'.phase → is_sending s.phase ≡ is_sending s'.phase → IsAnew u told e l l' s' →
      (a : ℕ) → class_on l' a ≡ class_on l a
  alike_anew told e l' said same anew a = elim (cases_lt a u) [
    | inl before ↦ anew.same.classes a before
    | inr from ↦
        let old : class_on l a ≡ is_sending s.phase = behind.goes a (omega (arith, since, from)) in
        elim (cases_lt u a) [
          | inl later ↦ anew.tells.goes a (omega (arith, later)) ∙ sym same ∙ sym old
          | inr now ↦
              let at : u ≡ a = omega (arith, now, from) in
              ap (class_on l') (sym at) ∙ anew.class ∙ said ∙ sym same ∙ sym old
        ]
  ]

-- Station p of a segment in half bit u, in which it is due, hears h and emits e.
pub record StepsOne (of : Segment) (t u p : ℕ) (ls : List TapLine) (w : Watch) (s s' : Sender) (k : KeptReception) (h e : Sym) : Type 0 where
  pub apart : StandsApart of t u p ls w s k
  pub since : w.since ≡ u
  pub on : p < length of.stations.items
  pub hears : heard of.plan.value (number_on of p) u ≡ h
  pub sent : s' ≡ (sender_step s h).state
  pub said : e ≡ (sender_step s h).emitted

module _ (of : Segment) (t u p : ℕ) (ls : List TapLine) (w : Watch) (s s' : Sender) (k : KeptReception) (h e : Sym)
    (one : StepsOne of t u p ls w s s' k h e) where
  abbrev plan : Plan
  plan = of.plan.value

  abbrev x : ℕ
  x = number_on of p

  there : x < length plan.layout.stations
  there =
      let numbers = of.station_numbers in
      subst (λ (ks : List ℕ). get_or ks p 0 < length plan.layout.stations) (sym numbers) (station plan of.number p (let e = ap length numbers in let on = one.on in omega (arith, e, on)))

  sender_now : s ≡ sender_at plan x u
  sender_now = one.apart.behind.sender ∙ ap (sender_at plan x) one.since

  pub hears_now : Hears (receiver_at plan x u) k
  hears_now = subst (λ a. Hears (receiver_at plan x a) k) one.since one.apart.behind.receiver

  pub said_now : emitted plan x u ≡ e
  said_now = (station_facts plan).emits x u there ∙ ap₂ (λ a b. (sender_step a b).emitted) (sym sender_now) one.hears ∙ sym one.said

  next : suc u ≡ u + 1
  next = omega arith

  sender_next : s' ≡ sender_at plan x (u + 1)
  sender_next =
      one.sent ∙ ap₂ (λ a b. (sender_step a b).state) sender_now (sym one.hears) ∙ sym ((station_facts plan).steps x u there) ∙ ap (sender_at plan x) next

  heard_next : (receiver_step (receiver_at plan x u) h (is_signal e)).state ≡ receiver_at plan x (u + 1)
  heard_next =
      ap₂ (λ a b. (receiver_step (receiver_at plan x u) a (is_signal b)).state) (sym one.hears) (sym said_now)
      ∙ sym (receiver_next plan (station_facts plan) x u there)
      ∙ ap (receiver_at plan x) next

  -- what it emits is a signal where it sends after it
  pub sends_so : is_signal e ≡ is_sending s'.phase
  sends_so =
      ap is_signal (sym said_now) ∙ station_sends plan x u there ∙ ap (λ (y : Sender). is_sending y.phase) (ap (sender_at plan x) next ∙ sym sender_next)

  -- before the next half bit it stands, and is to be looked at
  pub stands_on : (ls' : List TapLine) (k' : KeptReception) (c : Bool) (told : ℕ) → s'.t ≡ u + 1 → k'.steps ≡ u + 1 →
      ((r : Receiving) → Hears r k → Hears (receiver_step r h (is_signal e)).state k') → TellsOn u told (get_or ls' p no_line) s' →
      StandsApart of t (u + 1) p ls' (record { since = u + 1; until = u + 1; carrier = c; told = told }) s' k'
  stands_on ls' k' c told time steps receives tells =
      let start = one.apart.behind.from_start in
      let since = one.since in
      let nothing : u + 1 - (u + 1) ≡ 0 = omega arith in
      record {
        behind = record {
          from_start = omega (arith, start, since);
          ordered = omega arith;
          within = tells.from;
          sender = sender_next;
          receiver = subst (λ r. Hears r k') heard_next (receives (receiver_at plan x u) hears_now);
          time = time;
          steps = steps;
          calm = subst (λ n. IsCalmAs n c s') (sym nothing) (no_calm c s');
          steady = λ a low high. absurd (omega (arith, low, high));
          line = tells.line;
          signal = tells.signal;
          goes = tells.goes;
          lasts = tells.lasts;
        };
        since = omega arith;
        until = omega arith;
        within = omega arith;
        still = λ early. absurd (omega (arith, early));
      }

  -- its rows
  pub rows_one : (device : ℕ) (rows rows' : List Row) → device ≡ x →
      rows' ≡ (rows ++ row_of u device (sender_step s h).event) ++ row_of u device (receiver_step (receiver_at plan x u) h (is_signal e)).event →
      rows' ≡ (rows ++ row_of u x (sent_event plan x u)) ++ row_of u x (heard_reception plan x u).event
  rows_one device rows rows' number is =
      let r = receiver_at plan x u in
      is
      ∙ ap (λ d. (rows ++ row_of u d (sender_step s h).event) ++ row_of u d (receiver_step r h (is_signal e)).event) number
      ∙ ap₂ (λ a b. (rows ++ row_of u x (sender_step a b).event) ++ row_of u x (receiver_step r b (is_signal e)).event) sender_now (sym one.hears)
      ∙ ap (λ b. (rows ++ row_of u x (sent_event plan x u)) ++ row_of u x (receiver_step r (heard plan x u) (is_signal b)).event) (sym said_now)

  -- and what it captures
  pub captures_one : (captures captures' : List (List Taken)) →
      captures' ≡ captures_with p (taken_by u (receiver_step (receiver_at plan x u) h (is_signal e)).event (receiver_step (receiver_at plan x u) h (is_signal e)).octets) captures →
      captures' ≡ captures_with p (taken_by u (heard_reception plan x u).event (heard_reception plan x u).octets) captures
  captures_one captures captures' is =
      let r = receiver_at plan x u in
      is
      ∙ ap₂ (λ a b. captures_with p (taken_by u (receiver_step r a (is_signal b)).event (receiver_step r a (is_signal b)).octets) captures) (sym one.hears) (sym said_now)

-- the room that is left
pub left_one : (a u : ℕ) (other : Demand) (w : Watch) (s s' : Sender) (k k' : KeptReception) (room room' : Room) → w.since ≡ u → u < a →
    ((n : ℕ) (beside : Demand) → Covers (both_demands beside (both_demands (sender_demand (suc n) s) (receiver_demand (suc n) k))) room →
    Covers (both_demands beside (both_demands (sender_demand n s') (receiver_demand n k'))) room') →
    Covers (both_demands other (behind_demand a w s k)) room →
    Covers (both_demands other (both_demands (sender_demand (a - (u + 1)) s') (receiver_demand (a - (u + 1)) k'))) room'
left_one a u other w s s' k k' room room' since later left covers =
    let size : a - w.since ≡ suc (a - (u + 1)) = omega (arith, since, later) in
    left (a - (u + 1)) other (subst (λ m. Covers (both_demands other (both_demands (sender_demand m s) (receiver_demand m k))) room) size covers)
