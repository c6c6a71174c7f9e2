use Rattle.std.proofs.Common.{◌≡◌, ℕ, suc, ◌+◌, ◌-◌, ◌<◌, ◌∷◌, ◌++◌, true, false, inl, inr, List, [], length, None, refl, sym, subst, ap, ap₂, ◌∙◌, arith, rules}
use Rattle.std.proofs.lemmas.Bool.{cases_lt}
use Rattle.std.proofs.lemmas.List.{get_or_read}
use Rattle.manchester_line.specs.declared.Sym.{Sym}
use Rattle.manchester_line.specs.declared.Sym.TheVariants.{Idle}
use Rattle.manchester_line.specs.Line.{is_signal}
use Rattle.load_plan.specs.declared.plan.Plan.{Plan}
use Rattle.mac_receive.specs.KeptReceiver.{KeptReception, Hears}
use Rattle.mac_receive.specs.Receiver.{Reception, receiver_after, receiver_step}
use Rattle.mac_transmit.specs.Calm.{AllHeardAs, AreOverBefore, after_all, change_in}
use Rattle.mac_transmit.specs.Sender.{Sender}
use Rattle.network.specs.Captures.{taken_by}
use Rattle.network.specs.Rows.{row_of}
use Rattle.network.specs.Times.{heard, emitted}
use Rattle.net_parts.specs.Standing.{receiver_at}
use Rattle.tap_lines.specs.TapLines.{TapLine, heard_for}
use Rattle.tap_lines.proofs.HeardClasses.{idle_symbol}
use Rattle.window_room.specs.Rooms.{captures_with}
use Rattle.segment_engine.specs.declared.apart.Watch.{Watch}
use Rattle.window_room.specs.NeededRoom.{Covers, IsDemandWithin, both_demands, receiver_demand, sender_demand}
use Rattle.segment_engine.specs.StationsApart.{StandsBehind, EndsAt, HearsByLines, IsStillBy, number_on, heard_reception}
use Rattle.segment_engine.proofs.Beginnings.{is_station_of}
use Rattle.segment_engine.proofs.BehindStations.{is_brought, no_reception, idle_now, idle_halves}
use Rattle.segment_engine.proofs.CalmLater.{fewer_over}
use Rattle.segment_engine.proofs.ChangedStations.{regroup, regroup_less}
use Rattle.segment_engine.proofs.QuietRoom.{sender_needs}
use Rattle.segment_engine.proofs.SteadyReceivers.{all_idle}
use Rattle.segment_engine.proofs.StationsLater.{same_captures, same_rows}
use Rattle.segment_engine.proofs.apart.end_one.Goals.{After-ends_at, After-pass}
use Rattle.segment_engine.proofs.apart.end_one.Goals as goal

-- what its receiver makes of the half bit in which a reception ends
ended : (plan : Plan) (x p L t u : ℕ) (ls : List TapLine) (w : Watch) (s : Sender) (k : KeptReception) → StandsBehind plan x p L t ls w s k → u < w.until → EndsAt u w s →
    HearsByLines plan x p L t (u + 1) ls → receiver_step (receiver_at plan x w.since) Idle false ≡ heard_reception plan x u
ended plan x p L t u ls w s k behind until ends right =
    let at = ends.now in
    let from = behind.from_start in
    let told = behind.within in
    let now : w.since + 0 ≡ u = omega (arith, at) in
    let in_it : w.since + 0 < w.told = omega (arith, at, until, told) in
    let idle : heard plan x u ≡ Idle =
    idle_symbol (heard plan x u) (ap is_signal (right.hears u (omega (arith, from, at)) (omega arith)) ∙ sym (right.classes u (omega (arith, from, at)) (omega arith)) ∙ behind.steady u (omega (arith, at)) until ∙ ends.idle) in
    let silent : is_signal (emitted plan x u) ≡ false =
    subst (λ a. is_signal (emitted plan x a) ≡ false) now
    (ap is_signal (right.emits (w.since + 0) (omega (arith, from)) (omega (arith, now)) ∙ behind.line 0 in_it) ∙ behind.signal 0 in_it ∙ ends.silent) in
    ap (λ a. receiver_step (receiver_at plan x a) Idle false) at ∙ ap₂ (receiver_step (receiver_at plan x u)) (sym idle) (sym silent)

-- where none ends there is no event
silent : (c : After-ends_at) → c.ends_at.result ≡ false → (heard_reception c.args.of.now.plan.value (number_on c.args.of.now c.args.p) c.args.u).event ≡ None
silent c none =
    let g = c.args.of.now in
    let p = c.args.p in
    let w = c.args.watch.now in
    let a = c.requires.apart in
    let early = a.since in
    let still : IsStillBy w c.args.sender.now c.args.receiver.now = elim (cases_lt w.since c.args.u) [
      | inl before ↦ a.still before
      | inr now ↦ c.ends_at.ensures.other none (omega (arith, now, early))
    ] in
    no_reception g.plan.value (number_on g p) (is_station_of g p c.requires.station) p g.lookahead c.args.from c.args.u c.args.lines.now w c.args.sender.now c.args.receiver.now a.behind early c.requires.on c.requires.right still

pub returns-then-not-ends_at-clause-rows : goal.returns-then-not-ends_at-clause-rows
returns-then-not-ends_at-clause-rows c =
    let x = number_on c.args.of.now c.args.p in
    let no : c.ends_at.result ≡ false = search rules in
    same_rows c.args.u x (heard_reception c.args.of.now.plan.value x c.args.u).event c.args.room.now.rows (silent (goal.at.returns-then-not-ends_at-clause-rows c).After-ends_at no)

pub returns-then-not-ends_at-clause-captures : goal.returns-then-not-ends_at-clause-captures
returns-then-not-ends_at-clause-captures c =
    let one = heard_reception c.args.of.now.plan.value (number_on c.args.of.now c.args.p) c.args.u in
    let no : c.ends_at.result ≡ false = search rules in
    same_captures c.args.u c.args.p one.event one.octets c.args.room.now.captures c.requires.captures (silent (goal.at.returns-then-not-ends_at-clause-captures c).After-ends_at no)

pub pass-requires-clause-calm : goal.pass-requires-clause-calm
pass-requires-clause-calm c =
    let w = c.args.watch.now in
    let yes : c.ends_at.result ≡ true = search rules in
    let ends = c.ends_at.ensures.ends yes in
    let at = ends.now in
    let on = c.requires.on in
    fewer_over 1 (w.until - w.since) (change_in c.args.sender.now false) (omega (arith, at, on))
    (subst (λ q. AreOverBefore (w.until - w.since) (change_in c.args.sender.now q)) ends.idle c.requires.apart.behind.calm.number)

pub returns-clause-apart : goal.returns-clause-apart
returns-clause-apart c =
    let g = c.args.of.now in
    let p = c.args.p in
    let u = c.args.u in
    let ls = c.args.lines.now in
    let w = c.args.watch.now in
    let s = c.args.sender.now in
    let k = c.args.receiver.now in
    let k' = c.receive.new.self in
    let a = c.requires.apart in
    let b = a.behind in
    let yes : c.ends_at.result ≡ true = search rules in
    let ends = c.ends_at.ensures.ends yes in
    let at = ends.now in
    let on = c.requires.on in
    let hs = heard_for g.lookahead w.since (u + 1 - w.since) ls p in
    let one : hs ≡ Idle ∷ [] = idle_now g.plan.value (number_on g p) p g.lookahead c.args.from u ls w s k b on ends c.requires.right in
    let single : u + 1 - w.since ≡ 1 = omega (arith, at) in
    let is = is_brought g p c.args.from (u + 1) ls w s c.pass.new.self k k' c.requires.station b (omega (arith, at)) (omega (arith, on)) c.requires.right
    (λ xs all size. c.pass.ensures.state xs (subst (λ q. AllHeardAs q xs) ends.idle all) (size ∙ single))
    (c.pass.ensures.time ∙ ap (λ m. s.t + m) (sym single))
    (c.receive.ensures.steps ∙ ap (λ m. m + 1) b.steps ∙ ap (λ m. w.since + m) (sym single))
    (λ r h. subst (λ q. Hears (receiver_after r hs q) k') (sym ends.silent) (subst (λ (xs : List Sym). Hears (receiver_after r xs false) k') (sym one) (c.receive.ensures.state r h))) in
    record {
      behind = is.behind;
      since = omega arith;
      until = omega (arith, on);
      within = (let few = a.within in let early = a.since in omega (arith, few, early));
      still = λ h. absurd (omega (arith, h));
    }

pub returns-clause-still : goal.returns-clause-still
returns-clause-still c = λ idle silent.
    let r = receiver_at c.args.of.now.plan.value (number_on c.args.of.now c.args.p) c.args.watch.now.since in
    let now = c.receive.ensures.state r c.requires.apart.behind.receiver in
    now.count ∙ ap length (idle_halves r)

pub returns-clause-left : goal.returns-clause-left
returns-clause-left c = λ e other h covers.
    let w = c.args.watch.now in
    let s = c.args.sender.now in
    let s' = c.pass.new.self in
    let k = c.args.receiver.now in
    let k' = c.receive.new.self in
    let u = c.args.u in
    let yes : c.ends_at.result ≡ true = search rules in
    let ends = c.ends_at.ensures.ends yes in
    let at = ends.now in
    let n = e - (u + 1) in
    let size : e - w.since ≡ suc n = omega (arith, at, h) in
    let one : n + length (Idle ∷ []) ≡ e - w.since = omega (arith, size) in
    let sent : s' ≡ after_all s (Idle ∷ []) = c.pass.ensures.state (Idle ∷ []) (λ i d l. all_idle 1 i d l) refl in
    let less : IsDemandWithin (sender_demand n s') (sender_demand (e - w.since) s) =
    subst (λ y. IsDemandWithin (sender_demand n y) (sender_demand (e - w.since) s)) (sym sent) (subst (λ m. IsDemandWithin (sender_demand n (after_all s (Idle ∷ []))) (sender_demand m s)) one (sender_needs (Idle ∷ []) s n)) in
    let before = regroup other (sender_demand (e - w.since) s) (receiver_demand (e - w.since) k) c.args.room.now covers in
    let beside = both_demands other (sender_demand (e - w.since) s) in
    let after = c.receive.ensures.left n beside (subst (λ m. Covers (both_demands beside (receiver_demand m k)) c.args.room.now) size before) in
    regroup_less other (sender_demand (e - w.since) s) (receiver_demand n k') (sender_demand n s') c.receive.new.room less after

-- the receiver made what it makes in the network
is_ended : (c : After-pass) → c.ends_at.result ≡ true → receiver_step (receiver_at c.args.of.now.plan.value (number_on c.args.of.now c.args.p) c.args.watch.now.since) Idle false
    ≡ heard_reception c.args.of.now.plan.value (number_on c.args.of.now c.args.p) c.args.u
is_ended c ends =
    let g = c.args.of.now in
    ended g.plan.value (number_on g c.args.p) c.args.p g.lookahead c.args.from c.args.u c.args.lines.now c.args.watch.now c.args.sender.now c.args.receiver.now c.requires.apart.behind c.requires.on (c.ends_at.ensures.ends ends) c.requires.right

pub returns-clause-rows : goal.returns-clause-rows
returns-clause-rows c =
    let g = c.args.of.now in
    let x = number_on g c.args.p in
    let yes : c.ends_at.result ≡ true = search rules in
    let device : c.index-device.result.now ≡ x = get_or_read g.stations.items c.args.p c.index-device.result.now c.requires.station c.index-device.ensures 0 in
    c.receive.ensures.rows (receiver_at g.plan.value x c.args.watch.now.since) c.requires.apart.behind.receiver
    ∙ ap₂ (λ (d : ℕ) (y : Reception). c.args.room.now.rows ++ row_of c.args.u d y.event) device (is_ended (goal.at.returns-clause-rows c).After-pass yes)

pub returns-clause-captures : goal.returns-clause-captures
returns-clause-captures c =
    let g = c.args.of.now in
    let yes : c.ends_at.result ≡ true = search rules in
    c.receive.ensures.captures (receiver_at g.plan.value (number_on g c.args.p) c.args.watch.now.since) c.requires.apart.behind.receiver
    ∙ ap (λ (y : Reception). captures_with c.args.p (taken_by c.args.u y.event y.octets) c.args.room.now.captures) (is_ended (goal.at.returns-clause-captures c).After-pass yes)
