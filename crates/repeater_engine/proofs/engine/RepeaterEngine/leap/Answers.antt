use Rattle.std.proofs.Common.{◌≡◌, ℕ, ◌+◌, ◌-◌, ◌≤◌, List, ◌++◌, map, length, length-take-le, take, drop, get_or, refl, sym, subst, ap, ap₂, ◌∙◌, arith, rules}
use Rattle.std.proofs.Math.Seq.{take-append_seam}
use Rattle.std.proofs.lemmas.List.{length-map}
use Rattle.manchester_line.specs.declared.Sym.{Sym}
use Rattle.manchester_line.specs.declared.Sym.TheVariants.{Idle}
use Rattle.manchester_line.specs.Line.{is_signal}
use Rattle.repeater_core.specs.Counts.{Choice}
use Rattle.repeater_core.specs.Step.{RepeaterDevice, chosen, emitted_by, decided_by}
use Rattle.repeater_core.specs.Steady.{IsSteady}
use Rattle.repeater_core.proofs.Lawful.{length_chosen}
use Rattle.repeater_core.proofs.SteadinessLasts.{lasts}
use Rattle.net_parts.specs.RepeaterParts.{RepeaterState}
use Rattle.net_parts.proofs.RepeaterSteps.{length-span}
use Rattle.repeater_engine.specs.KeptRepeaters.{KeptRepeater, piece_of, row_brought, with_piece}
use Rattle.repeater_engine.specs.LeapedHalfBits.{made_of, rows_brought, AreOfClasses}
use Rattle.repeater_engine.specs.RowWaits.{HasRowRoom}
use Rattle.repeater_engine.proofs.ClassesOfRows.{rows_wide}
use Rattle.repeater_engine.proofs.StandingBehind.{sends_on}
use Rattle.repeater_engine.proofs.SteadyRuns.{HasPorts, steady_run, room_lasts, decided_run, piece_decided, signal_at}
use Rattle.repeater_engine.proofs.engine.RepeaterEngine.leap.Goals.{After-leap_over}
use Rattle.repeater_engine.proofs.engine.RepeaterEngine.leap.Goals as goal

-- a list that is written over from its beginning
overwritten : (n : ℕ) (new old : List Sym) → n ≡ length new → take n (new ++ drop (length new) old) ≡ new
overwritten n new old e = ap (λ m. take m (new ++ drop (length new) old)) e ∙ take-append_seam new (drop (length new) old)

-- the repeater before its half bits
abbrev before : (c : After-leap_over) → RepeaterState
before c = record { t = c.self.inside.t; repeater = c.self.inside.repeater; rows = c.self.inside.log.rows }

wide : (c : After-leap_over) → length (map is_signal (emitted_by c.self.inside.repeater)) ≡ c.self.inside.ports
wide c = length-map (emitted_by c.self.inside.repeater) is_signal ∙ ap length (sym c.leap_over.ensures.emitted) ∙ search rules

has_ports : (c : After-leap_over) → HasPorts c.self.inside.ports c.self.inside.repeater
has_ports c =
    let r = c.self.inside.repeater in
    let heard = c.deref.result.now in
    record {
      guards = c.self.invariant.0.guards;
      counts = sym (length_chosen heard r) ∙ sym (length-map (chosen heard r) (λ (x : Choice). x.symbol)) ∙ ap length (sym c.leap_over.ensures.decided) ∙ search rules;
    }

many : (c : After-leap_over) → length c.args.parcels.now ≡ c.self.inside.ports
many c = c.requires.many ∙ sym (ap (λ (x : KeptRepeater). length x.state.repeater.guards) c.self.view_is) ∙ c.self.invariant.0.guards

emitted_long : (c : After-leap_over) → length c.leap_over.new.emitted ≡ c.self.inside.ports
emitted_long c = search rules

decided_long : (c : After-leap_over) → length c.leap_over.new.decided ≡ c.self.inside.ports
decided_long c = search rules

sent_long : (c : After-leap_over) → length c.leap_over.new.sent ≡ 200
sent_long c = search rules

time_fits : (c : After-leap_over) → length (rows_brought c.args.k c.args.m c.args.parcels.now) ≡ c.args.m
time_fits c = length-span (λ j. row_brought j c.args.parcels.now) c.args.k c.args.m

classes_heard : (c : After-leap_over) → AreOfClasses c.self.inside.heard.items (rows_brought c.args.k c.args.m c.args.parcels.now)
classes_heard c = subst (λ xs. AreOfClasses xs (rows_brought c.args.k c.args.m c.args.parcels.now)) (sym (ap (λ (x : KeptRepeater). x.heard) c.self.view_is ∙ c.requires.heard)) c.requires.alike

-- the repeater stays steady for what is left
stays_steady : (c : After-leap_over) → IsSteady c.self.inside.heard.items c.leap_over.new.repeater (c.self.inside.steady - c.args.m)
stays_steady c =
    let heard = c.self.inside.heard.items in
    let rows = rows_brought c.args.k c.args.m c.args.parcels.now in
    let most : c.args.m ≤ c.self.inside.steady = subst (λ (x : KeptRepeater). c.args.m ≤ x.steady) (sym c.self.view_is) c.requires.steady in
    let count = time_fits c in
    subst (λ (x : RepeaterDevice). IsSteady heard x (c.self.inside.steady - c.args.m)) (sym c.leap_over.ensures.state)
    (lasts heard heard rows c.self.inside.repeater (c.self.inside.steady - c.args.m) (classes_heard c) refl (λ j l. c.self.invariant.1.stays_steady j (omega (arith, count, most, l))))

pub invariant_of-self : goal.invariant_of-self
invariant_of-self c =
    let at = (goal.at.invariant_of-self c).After-leap_over in
    let i = c.self.invariant in
    let q = c.self.inside in (
      record {
        guards = c.leap_over.ensures.ports ∙ i.0.guards;
        few = i.0.few;
        emitting = ap length (overwritten q.emitted.len c.leap_over.new.emitted q.emitted.items (search rules)) ∙ emitted_long at;
        deciding = ap length (overwritten q.decided.len c.leap_over.new.decided q.decided.items (search rules)) ∙ decided_long at;
        sending = ap length (overwritten q.sent.len c.leap_over.new.sent q.sent.items (search rules)) ∙ sent_long at;
        no_captures = i.0.no_captures;
      },
      record {
        hearing = i.1.hearing;
        stays_steady = stays_steady at;
      },
    )

pub returns-clause-state : goal.returns-clause-state
returns-clause-state c =
    let at = (goal.at.returns-clause-state c).After-leap_over in
    let rows = rows_brought c.args.k c.args.m c.args.parcels.now in
    let r = c.self.inside.repeater in
    let run = steady_run c.self.inside.ports (map is_signal (emitted_by r)) (map is_signal c.leap_over.new.decided) (wide at) c.self.inside.device rows (before at) (has_ports at)
    (rows_wide c.args.parcels.now c.self.inside.ports c.args.k c.args.m (many at)) c.leap_over.ensures.steps in
    ap₂ (λ (n : ℕ) (x : RepeaterDevice). let made : RepeaterState = record { t = c.self.inside.t + n; repeater = x; rows = c.self.inside.log.rows } in made) (sym (time_fits at)) c.leap_over.ensures.state
    ∙ sym run
    ∙ ap (λ (x : KeptRepeater). (made_of x.device rows x.state).state) c.self.view_is

pub returns-clause-parcels : goal.returns-clause-parcels
returns-clause-parcels c = λ p d l.
    let at = (goal.at.returns-clause-parcels c).After-leap_over in
    let k = c.args.k in
    let m = c.args.m in
    let rows = rows_brought k m c.args.parcels.now in
    let flags = c.leap_over.new.decided in
    let texts = take m c.leap_over.new.sent in
    let decided : c.deref-2.result.now ≡ flags = c.deref-2.ensures.value ∙ overwritten c.self.inside.decided.len flags c.self.inside.decided.items (search rules) in
    let sent : c.deref-3.result.now ≡ c.leap_over.new.sent = c.deref-3.ensures.value ∙ overwritten c.self.inside.sent.len c.leap_over.new.sent c.self.inside.sent.items (search rules) in
    let long : length texts ≡ length rows = length-take-le m c.leap_over.new.sent (omega (arith, c.requires.few, sent_long at)) ∙ sym (time_fits at) in
    let made = decided_run c.self.inside.device rows (map is_signal flags) texts (before at) long c.leap_over.ensures.decisions in
    let column =
    ap (map (λ row. get_or row p Idle)) made ∙ piece_decided (map is_signal flags) p texts ∙ ap (λ b. piece_of b texts) (signal_at flags p) in
    let old = get_or c.args.parcels.now p d in
    c.put_pieces.ensures p d l
    ∙ ap₂ (λ xs ys. with_piece k (piece_of (is_signal (get_or xs p Idle)) (take m ys)) old) decided sent
    ∙ ap (λ piece. with_piece k piece old) (sym column)
    ∙ ap (λ (x : KeptRepeater). with_piece k (map (λ row. get_or row p Idle) (made_of x.device rows x.state).rows) old) c.self.view_is

pub returns-clause-room : goal.returns-clause-room
returns-clause-room c =
    let at = (goal.at.returns-clause-room c).After-leap_over in
    let rows = rows_brought c.args.k c.args.m c.args.parcels.now in
    let r = c.self.inside.repeater in
    let ports = c.self.inside.ports in
    let room = c.self.inside.log.row_room in
    let given = subst (λ (x : KeptRepeater). HasRowRoom (length x.state.repeater.guards) (c.args.n - c.args.k) x.room x.state.repeater) (sym c.self.view_is) c.requires.room in
    let among = subst (λ n. HasRowRoom n (c.args.n - c.args.k) room r) c.self.invariant.0.guards given in
    let left : c.args.n - c.args.k ≡ c.args.n - (c.args.k + c.args.m) + length rows = omega (arith, c.requires.within, time_fits at) in
    let lasts = room_lasts ports (map is_signal (emitted_by r)) (map is_signal c.leap_over.new.decided) (wide at) rows r (has_ports at) (rows_wide c.args.parcels.now ports c.args.k c.args.m (many at)) c.leap_over.ensures.steps
    (c.args.n - c.args.k) (c.args.n - (c.args.k + c.args.m)) room left among in
    let later = subst (λ (x : RepeaterDevice). HasRowRoom ports (c.args.n - (c.args.k + c.args.m)) room x) (sym c.leap_over.ensures.state) lasts in
    subst (λ n. HasRowRoom n (c.args.n - (c.args.k + c.args.m)) room c.leap_over.new.repeater) (sym (c.leap_over.ensures.ports ∙ c.self.invariant.0.guards)) later

pub returns-clause-sending : goal.returns-clause-sending
returns-clause-sending c = λ some.
    let at = (goal.at.returns-clause-sending c).After-leap_over in
    let q = c.self.inside in
    let flags = overwritten q.decided.len c.leap_over.new.decided q.decided.items (search rules) ∙ c.leap_over.ensures.decided ∙ ap (λ hs. decided_by hs q.repeater) c.deref.ensures.value in
    sends_on _ q.heard.items q.repeater (rows_brought c.args.k c.args.m c.args.parcels.now) q.steady c.leap_over.ensures.state refl c.leap_over.ensures.ports (ap (map is_signal) flags)
    (ap length (sym c.leap_over.ensures.emitted) ∙ emitted_long at ∙ sym c.self.invariant.0.guards) (classes_heard at) (omega (arith, time_fits at, some)) c.self.invariant.1.stays_steady
