use Rattle.std.proofs.Common.{◌≡◌, ◌<◌, ◌++◌, ◌∙◌, Some, Option, [], length, ap, ap₂, sym, subst, arith}
use Rattle.collision_log.specs.declared.row.Body.{Body}
use Rattle.collision_log.specs.declared.row.Body.TheVariants.{Dropped}
use Rattle.collision_log.specs.declared.row.Why.TheVariants as why
use Rattle.network.specs.Captures.{taken_by}
use Rattle.network.specs.Rows.{row_of}
use Rattle.window_room.specs.NeededRoom.{Covers, event_demand}
use Rattle.window_room.specs.Receptions.{least_reception}
use Rattle.window_room.specs.Rooms.{KeepsRoom, captures_with}
use Rattle.reception_laws.specs.WholeReceptions.{row_alone}
use Rattle.reception_laws.proofs.ToldOnce.{short_verdict, verdict_fits, verdict_left, verdict_taken}
use Rattle.reception_laws.proofs.teller.keep_told.Goals as goal

pub returns-then-halves-lt-LEAST_RECEPTION-clause-rows : goal.returns-then-halves-lt-LEAST_RECEPTION-clause-rows
returns-then-halves-lt-LEAST_RECEPTION-clause-rows c = λ r h.
    let text = c.args.text.now in
    let short : length text < least_reception = omega (arith, c.if-halves-lt-LEAST_RECEPTION.true) in
    let v = short_verdict c.args.lose c.args.most text c.requires.some short in
    c.keep_reception.ensures.rows ∙ ap (λ e. c.args.room.now.rows ++ row_of c.args.t c.args.device e) (v.event r h)

pub returns-then-halves-lt-LEAST_RECEPTION-clause-captures : goal.returns-then-halves-lt-LEAST_RECEPTION-clause-captures
returns-then-halves-lt-LEAST_RECEPTION-clause-captures c = λ r h.
    let text = c.args.text.now in
    let short : length text < least_reception = omega (arith, c.if-halves-lt-LEAST_RECEPTION.true) in
    let v = short_verdict c.args.lose c.args.most text c.requires.some short in
    c.keep_reception.ensures.captures
    ∙ ap (λ x. captures_with c.args.station x c.args.room.now.captures)
    (verdict_taken c.args.lose c.args.most c.args.t text (row_alone (Dropped why.Fragment (length text))) r v h)

pub keep_reception-requires-2-clause-room : goal.keep_reception-requires-2-clause-room
keep_reception-requires-2-clause-room c =
    let P : Option Body → Type 0 = λ e. Covers (event_demand e) c.args.room.now in
    subst P (sym c.event.ensures) (verdict_fits c.args.lose c.args.most c.args.text.now c.verdict_of-verdict.result.now c.args.room.now c.verdict_of-verdict.ensures c.requires.room)

pub returns-clause-captures : goal.returns-clause-captures
returns-clause-captures c = λ r h.
    c.keep_reception-2.ensures.captures
    ∙ ap (λ x. captures_with c.args.station x c.args.room.now.captures)
    (ap₂ (taken_by c.args.t) c.event.ensures c.octets.ensures
    ∙ verdict_taken c.args.lose c.args.most c.args.t c.args.text.now c.verdict_of-verdict.result.now r c.verdict_of-verdict.ensures h)

pub returns-clause-left : goal.returns-clause-left
returns-clause-left c = λ n other a.
    let P : Option Body → Type 0 = λ e. KeepsRoom (event_demand e).rows (event_demand e).frames (event_demand e).octets c.args.room.now c.keep_reception-2.new.room in
    verdict_left c.args.lose c.args.most n c.args.text.now c.verdict_of-verdict.result.now other c.args.room.now c.keep_reception-2.new.room c.verdict_of-verdict.ensures (subst P c.event.ensures c.keep_reception-2.ensures.room) a
