use Rattle.std.proofs.Common.{◌≡◌, ℕ, ◌+◌, ◌-◌, ◌*◌, ◌≤◌, ◌++◌, None, Some, Option, List, length, sym, ap, ◌∙◌, arith}
use Rattle.std.proofs.lemmas.List.{append-nil}
use Rattle.std.specs.Prelude.{IfSome}
use Rattle.collision_log.specs.declared.row.Body.{Body}
use Rattle.collision_log.specs.declared.row.Row.{Row}
use Rattle.network.specs.Rows.{row_of}
use Rattle.window_room.specs.NeededRoom.{Covers, Demand, IsDemandWithin, both_demands, receiver_demand, sender_demand}
use Rattle.window_room.specs.Rooms.{Room}
use Rattle.segment_engine.specs.StationsApart.{behind_demand, heard_reception, number_on, sent_event}
use Rattle.segment_engine.proofs.KeptParts.{covers_within}
use Rattle.segment_engine.proofs.QuietRoom.{both_within, same_within}
use Rattle.segment_engine.proofs.StepAll.{anew_none, both_more, emits_so, heard_so, right_on, silent_on, tap_there}
use Rattle.segment_engine.proofs.StationRoom.{second}
use Rattle.segment_engine.proofs.due.take_turn.Goals.{After-look_one}
use Rattle.segment_engine.proofs.due.take_turn.Goals as goal

-- what holds anyway holds of the half bit that is answered
with_answer : (P : ℕ → Type 0) (Q : Type 0) (o : Option ℕ) → Q → IfSome o P → IfSome o (λ f. Q)
with_answer P Q None is h = h
with_answer P Q (Some f) is h = is

-- the rows of a station that sends nothing
rows_quiet : (u device : ℕ) (e : Option Body) (rows rows' taken : List Row) → e ≡ None → rows' ≡ rows ++ taken → rows' ≡ (rows ++ row_of u device e) ++ taken
rows_quiet u device e rows rows' taken none is = is ∙ ap (λ xs. xs ++ taken) (sym (ap (λ x. rows ++ row_of u device x) none ∙ append-nil rows))

-- room for what is needed at most
beside : (other a b : Demand) (room : Room) → IsDemandWithin a b → Covers (both_demands other b) room → Covers (both_demands other a) room
beside other a b room less covers = covers_within (both_demands other a) (both_demands other b) room (both_within other a other b (same_within other) less) covers

pub look_one-requires-clause-tap : goal.look_one-requires-clause-tap
look_one-requires-clause-tap c = tap_there c.args.of.now c.args.u ((c.args.window + 1) * c.args.of.now.lookahead) c.args.p c.args.lines.now c.requires.know c.requires.station

-- it goes on
pub end_one-requires-clause-right : goal.end_one-requires-clause-right
end_one-requires-clause-right c =
    let g = c.args.of.now in
    let ahead = c.requires.ahead in
    right_on g c.args.from c.args.u ((c.args.window + 1) * g.lookahead) c.args.p c.args.lines.now c.look_one.new.watch c.look_one.new.sender c.look_one.new.receiver
    c.requires.know (ahead) c.requires.station c.look_one.ensures.apart c.if-watch-u.true c.requires.right

-- there is room for the half bit
one_more : (c : After-look_one) → Covers (both_demands (sender_demand 1 c.look_one.new.sender) (receiver_demand 1 c.look_one.new.receiver)) c.args.room.now
one_more c =
    let e = c.args.u + 1 in
    let w = c.look_one.new.watch in
    let s = c.look_one.new.sender in
    let k = c.look_one.new.receiver in
    let at = c.look_one.ensures.since in
    let left : 1 ≤ e - w.since = omega (arith, at) in
    let all = covers_within (behind_demand e w s k) (behind_demand e c.args.watch.now c.args.sender.now c.args.receiver.now) c.args.room.now (c.look_one.ensures.left e (omega arith)) c.requires.room in
    covers_within (both_demands (sender_demand 1 s) (receiver_demand 1 k)) (behind_demand e w s k) c.args.room.now (both_more s k 1 (e - w.since) left) all

pub end_one-requires-clause-room : goal.end_one-requires-clause-room
end_one-requires-clause-room c =
    second (sender_demand 1 c.look_one.new.sender) (receiver_demand 1 c.look_one.new.receiver) c.args.room.now (one_more (goal.at.end_one-requires-clause-room c).After-look_one)

pub returns-then-watch-u-clause-still : goal.returns-then-watch-u-clause-still
returns-then-watch-u-clause-still c = λ h. c.end_one.ensures.still

pub returns-then-watch-u-clause-says : goal.returns-then-watch-u-clause-says
returns-then-watch-u-clause-says c =
    let g = c.args.of.now in
    let ahead = c.requires.ahead in
    emits_so g c.args.from c.args.u ((c.args.window + 1) * g.lookahead) c.args.p c.args.lines.now c.look_one.new.watch c.look_one.new.sender c.look_one.new.receiver
    c.requires.know (ahead) c.requires.station c.look_one.ensures.apart c.if-watch-u.true c.requires.right

pub returns-then-watch-u-clause-line : goal.returns-then-watch-u-clause-line
returns-then-watch-u-clause-line c = (anew_none c.args.u (length c.args.of.now.stations.items) c.args.lines.now).told c.args.p c.requires.station

pub returns-then-watch-u-clause-rows : goal.returns-then-watch-u-clause-rows
returns-then-watch-u-clause-rows c =
    let g = c.args.of.now in
    let u = c.args.u in
    let x = number_on g c.args.p in
    let ahead = c.requires.ahead in
    let none = silent_on g c.args.from u ((c.args.window + 1) * g.lookahead) c.args.p c.args.lines.now c.look_one.new.watch c.look_one.new.sender c.look_one.new.receiver
    c.requires.know (ahead) c.requires.station c.look_one.ensures.apart c.if-watch-u.true c.requires.right in
    rows_quiet u x (sent_event g.plan.value x u) c.args.room.now.rows c.end_one.new.room.rows (row_of u x (heard_reception g.plan.value x u).event) none c.end_one.ensures.rows

pub returns-then-watch-u-clause-left : goal.returns-then-watch-u-clause-left
returns-then-watch-u-clause-left c = λ e other h covers.
    c.end_one.ensures.left e other h
    (beside other (behind_demand e c.look_one.new.watch c.look_one.new.sender c.look_one.new.receiver) (behind_demand e c.args.watch.now c.args.sender.now c.args.receiver.now) c.args.room.now
    (c.look_one.ensures.left e (omega (arith, h))) covers)

-- it doesn't
pub step_one-requires-clause-tap : goal.step_one-requires-clause-tap
step_one-requires-clause-tap c = tap_there c.args.of.now c.args.u ((c.args.window + 1) * c.args.of.now.lookahead) c.args.p c.args.lines.now c.requires.know c.requires.station

pub step_one-requires-clause-due : goal.step_one-requires-clause-due
step_one-requires-clause-due c =
    let from = c.look_one.ensures.apart.until in
    let not = c.if-watch-u.false in
    omega (arith, from, not)

pub step_one-requires-clause-classes : goal.step_one-requires-clause-classes
step_one-requires-clause-classes c = λ a below.
    let len = ap length c.args.of.now.station_numbers in
    let on = c.requires.station in
    c.requires.know.classes c.args.p a (omega (arith, on, len)) below

pub step_one-requires-clause-hears : goal.step_one-requires-clause-hears
step_one-requires-clause-hears c =
    let g = c.args.of.now in
    let ahead = c.requires.ahead in
    heard_so g c.args.u ((c.args.window + 1) * g.lookahead) c.args.p c.args.lines.now c.requires.know (ahead) c.requires.station

pub step_one-requires-clause-room : goal.step_one-requires-clause-room
step_one-requires-clause-room c = one_more (goal.at.step_one-requires-clause-room c).After-look_one

pub returns-clause-still : goal.returns-clause-still
returns-clause-still c = λ later.
    let began = c.step_one.ensures.since in
    let due = c.step_one.ensures.until in
    absurd (omega (arith, later, began, due))

pub returns-clause-due : goal.returns-clause-due
returns-clause-due c =
    let w = c.step_one.new.watch in
    with_answer (λ f. f ≡ c.args.u) (w.until ≡ w.since) c.step_one.result (c.step_one.ensures.until ∙ sym c.step_one.ensures.since) c.step_one.ensures.changed

pub returns-clause-left : goal.returns-clause-left
returns-clause-left c = λ e other h covers.
    c.step_one.ensures.left e other h
    (beside other (behind_demand e c.look_one.new.watch c.look_one.new.sender c.look_one.new.receiver) (behind_demand e c.args.watch.now c.args.sender.now c.args.receiver.now) c.args.room.now
    (c.look_one.ensures.left e (omega (arith, h))) covers)
