use Rattle.std.proofs.Common.{◌≡◌, ℕ, take, drop, ◌-◌, List, ◌++◌, length, sym, subst, ap, ◌∙◌, rules}
use Rattle.std.proofs.Math.Seq.{take-append_seam}
use Rattle.manchester_line.specs.declared.Sym.{Sym}
use Rattle.network.specs.Rows.{told_bodies}
use Rattle.net_parts.specs.RepeaterParts.{repeater_step}
use Rattle.repeater_engine.specs.KeptRepeaters.{KeptRepeater, row_brought}
use Rattle.repeater_engine.specs.RowWaits.{HasRowRoom}
use Rattle.repeater_engine.proofs.RowsApart.{Stepped, told, told_fit, told_stay}
use Rattle.repeater_engine.proofs.RepeaterWindows.{stepped}
use Rattle.repeater_engine.proofs.engine.RepeaterEngine.half_bit.Goals.{After-step-events}
use Rattle.repeater_engine.proofs.engine.RepeaterEngine.half_bit.Goals as goal

-- a list that is written over from its beginning
overwritten : (n : ℕ) (new old : List Sym) → n ≡ length new → take n (new ++ drop (length new) old) ≡ new
overwritten n new old e = ap (λ m. take m (new ++ drop (length new) old)) e ∙ take-append_seam new (drop (length new) old)

-- the repeater was stepped by what its ports hear
has_stepped : (c : After-step-events) → Stepped c.deref.result.now c.step-events.new.emits c.step-events.new.decided c.self.inside.ports c.self.inside.repeater c.step-events.new.self c.step-events.result
has_stepped c =
    let step = c.step-events.ensures in
    record {
      half = record { heard_len = search rules; emitted_len = search rules; decided_len = search rules; guards_len = c.self.invariant.0.guards; emits = step.emits; decides = step.decided; state = step.state };
      clash = step.clash;
      closed = step.closed;
      opened = step.opened;
      halted = step.halted;
    }

-- there is room for its rows in the half bits that are left
has_room : (c : After-step-events) → HasRowRoom (length c.self.inside.repeater.guards) (c.args.n - c.args.k) c.self.inside.log.row_room c.self.inside.repeater
has_room c = subst (λ (x : KeptRepeater). HasRowRoom (length x.state.repeater.guards) (c.args.n - c.args.k) x.room x.state.repeater) (sym c.self.view_is) c.requires.room

pub log_events-requires-clause-room : goal.log_events-requires-clause-room
log_events-requires-clause-room c =
    let at = (goal.at.log_events-requires-clause-room c).After-step-events in
    told_fit c.deref.result.now c.step-events.new.emits c.step-events.new.decided c.self.inside.ports c.self.inside.repeater c.step-events.new.self c.step-events.result (has_stepped at) c.args.k c.args.n c.self.inside.log.row_room c.requires.left (has_room at)

pub returns-clause-state : goal.returns-clause-state
returns-clause-state c =
    let r = c.self.inside.repeater in
    let heard = c.deref.result.now in
    let row : heard ≡ row_brought c.args.k c.args.parcels.now = c.deref.ensures.value ∙ overwritten c.self.inside.heard.len c.hear_all.new.heard c.self.inside.heard.items (search rules) ∙ c.hear_all.ensures in
    let same = told heard c.step-events.new.emits c.step-events.new.decided c.self.inside.ports r c.step-events.new.self c.step-events.result (has_stepped (goal.at.returns-clause-state c).After-step-events) in
    stepped c.self.inside.device c.self.inside.t (row_brought c.args.k c.args.parcels.now) heard r c.step-events.new.self c.self.inside.log.rows c.log_events.new.log.rows
    (told_bodies c.self.inside.ports c.step-events.result) row c.step-events.ensures.state same c.log_events.ensures.rows
    ∙ ap (λ (x : KeptRepeater). repeater_step x.device (row_brought c.args.k c.args.parcels.now) x.state) c.self.view_is

pub returns-clause-room : goal.returns-clause-room
returns-clause-room c =
    let at = (goal.at.returns-clause-room c).After-step-events in
    told_stay c.deref.result.now c.step-events.new.emits c.step-events.new.decided c.self.inside.ports c.self.inside.repeater c.step-events.new.self c.step-events.result (has_stepped at) c.args.k c.args.n c.self.inside.log.row_room c.log_events.new.log.row_room c.requires.left c.step-events.ensures.ports (has_room at) c.log_events.ensures.room
