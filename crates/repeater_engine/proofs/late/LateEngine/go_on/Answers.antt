use Rattle.std.proofs.Common.{◌≡◌, ℕ, ◌+◌, ◌-◌, ◌<◌, List, ◌++◌, map, length, length-take-le, take, get_or, refl, sym, subst, ap, ◌∙◌, arith, rules}
use Rattle.manchester_line.specs.declared.Sym.{Sym}
use Rattle.manchester_line.specs.declared.Sym.TheVariants.{Idle}
use Rattle.manchester_line.specs.Line.{is_signal}
use Rattle.repeater_core.specs.Classes.{IsOfSource, IsSource}
use Rattle.repeater_core.specs.Steady.{IsSteady}
use Rattle.net_parts.proofs.RepeaterSteps.{length-span}
use Rattle.repeater_engine.specs.KeptRepeaters.{KeptRepeater, piece_of, row_brought, with_piece}
use Rattle.repeater_engine.specs.LeapedHalfBits.{made_of, rows_brought}
use Rattle.repeater_engine.specs.PutAside.{state_later, GoesOnSteadily, SendsAlike}
use Rattle.repeater_engine.specs.RowWaits.{HasRowRoom}
use Rattle.repeater_engine.proofs.ClassesOfRows.{of_source}
use Rattle.repeater_engine.proofs.SteadyRuns.{piece_decided, signal_at}
use Rattle.repeater_engine.proofs.StandingBehind.{heard_on, text_aside, text_on, length_written, state_on, rows_on, ports_on, room_on}
use Rattle.repeater_engine.proofs.late.LateEngine.go_on.Goals.{After-send_on}
use Rattle.repeater_engine.proofs.late.LateEngine.go_on.Goals as goal

pub goes_on-requires-clause-many : goal.goes_on-requires-clause-many
goes_on-requires-clause-many c = c.requires.many ∙ ap (λ (x : KeptRepeater). length x.state.repeater.guards) (sym c.self.view_is) ∙ c.self.invariant.ports

pub send_on-requires-clause-many : goal.send_on-requires-clause-many
send_on-requires-clause-many c = c.requires.many ∙ ap (λ (x : KeptRepeater). length x.state.repeater.guards) (sym c.self.view_is) ∙ c.self.invariant.ports

-- the half bits that are put aside now
abbrev more : (c : After-send_on) → ℕ
more c = c.args.n - c.args.k

-- what is heard in them, and what was put aside before
abbrev rows : (c : After-send_on) → List (List Sym)
rows c = rows_brought c.args.k (more c) c.args.parcels.now

abbrev begun : (c : After-send_on) → List Sym
begun c = take c.self.inside.late c.self.inside.text.items

long : (c : After-send_on) → length c.send_on.new.text ≡ more c
long c = search rules

begun_long : (c : After-send_on) → length (begun c) ≡ c.self.inside.late
begun_long c = length-take-le c.self.inside.late c.self.inside.text.items (omega (arith, c.self.invariant.hearing, c.self.invariant.few))

goes : (c : After-send_on) → GoesOnSteadily c.self.inside.late c.args.k (more c) c.args.parcels.now c.self.inside.engine
goes c = c.goes_on.ensures.steady c.if-goes_on.true

some : (c : After-send_on) → 0 < length c.send_on.new.text
some c = omega (arith, long c, c.requires.left)

sends : (c : After-send_on) → SendsAlike c.self.inside.engine
sends c = c.self.invariant.sending (omega (arith, (goes c).within, c.requires.left))

steady : (c : After-send_on) → IsSteady c.self.inside.engine.heard c.self.inside.engine.state.repeater (length (begun c) + length c.send_on.new.text)
steady c = λ j l. (goes c).steady j (omega (arith, l, begun_long c, long c))

before : (c : After-send_on) → IsOfSource c.self.inside.engine.state.repeater.mode c.self.inside.engine.heard (begun c)
before c = text_aside c.self.inside.engine c.self.inside.late c.self.inside.text.items (goes c).repeats c.self.invariant.aside

count : (c : After-send_on) → length (rows c) ≡ length c.send_on.new.text
count c = length-span (λ j. row_brought j c.args.parcels.now) c.args.k (more c) ∙ sym (long c)

source : (c : After-send_on) → IsSource c.self.inside.engine.state.repeater.mode c.send_on.new.text (rows c)
source c = subst (λ j. IsSource c.self.inside.engine.state.repeater.mode c.send_on.new.text (rows_brought c.args.k j c.args.parcels.now)) (search rules) c.send_on.ensures.source

written : (c : After-send_on) (post rest : List Sym) → take (c.self.inside.late + more c) (take c.self.inside.text.len ((take c.self.inside.late c.deref_mut.result.now ++ (c.send_on.new.text ++ post)) ++ rest)) ≡ begun c ++ c.send_on.new.text
written c post rest =
    text_on c.self.inside.text.len c.self.inside.late (more c) c.deref_mut.result.now c.send_on.new.text post rest (search rules) (long c) (search rules)
    ∙ ap (λ xs. take c.self.inside.late xs ++ c.send_on.new.text) c.deref_mut.ensures.value

pub invariant_of-self : goal.invariant_of-self
invariant_of-self c =
    let at = (goal.at.invariant_of-self c).After-send_on in
    let e = c.self.inside.engine in
    let is = written at _ _ in
    let ports = ports_on e (begun at) c.send_on.new.text (rows at) c.goes_on.ensures.hearing c.goes_on.ensures.deciding (sends at) (steady at) (goes at).repeats (before at) (count at) (goes at).alike (source at) (some at) in
    record {
      sending = c.self.invariant.sending;
      within = (goes at).within;
      aside = λ l. record {
        repeats = (goes at).repeats;
        source = subst (λ xs. IsOfSource e.state.repeater.mode e.heard xs) (sym is) (heard_on e.state.repeater.mode e.heard (begun at) c.send_on.new.text (goes at).repeats (before at) (of_source e.state.repeater.mode e.heard c.send_on.new.text (rows at) (goes at).alike (source at)));
      };
      ports = ap (λ xs. length (state_later e.heard xs e.state).repeater.guards) is ∙ ports ∙ c.self.invariant.ports;
      few = c.goes_on.ensures.within c.if-goes_on.true;
      hearing = length_written c.self.inside.text.len _ c.self.inside.text.items (search rules) ∙ search rules;
      sending_room = c.self.invariant.sending_room;
    }

pub returns-then-goes_on-clause-state : goal.returns-then-goes_on-clause-state
returns-then-goes_on-clause-state c =
    let at = (goal.at.returns-then-goes_on-clause-state c).After-send_on in
    let e = c.self.inside.engine in
    ap (λ xs. state_later e.heard xs e.state) (written at _ _)
    ∙ state_on e (begun at) c.send_on.new.text (rows at) c.goes_on.ensures.hearing c.goes_on.ensures.deciding (sends at) (steady at) (goes at).repeats (before at) (count at) (goes at).alike (source at) (some at) e.device
    ∙ ap (λ (x : KeptRepeater). (made_of x.device (rows at) x.state).state) c.self.view_is

pub returns-then-goes_on-clause-ports : goal.returns-then-goes_on-clause-ports
returns-then-goes_on-clause-ports c =
    let at = (goal.at.returns-then-goes_on-clause-ports c).After-send_on in
    let e = c.self.inside.engine in
    ap (λ xs. length (state_later e.heard xs e.state).repeater.guards) (written at _ _)
    ∙ ports_on e (begun at) c.send_on.new.text (rows at) c.goes_on.ensures.hearing c.goes_on.ensures.deciding (sends at) (steady at) (goes at).repeats (before at) (count at) (goes at).alike (source at) (some at)
    ∙ ap (λ (x : KeptRepeater). length x.state.repeater.guards) c.self.view_is

pub returns-then-goes_on-clause-parcels : goal.returns-then-goes_on-clause-parcels
returns-then-goes_on-clause-parcels c = λ p d l.
    let at = (goal.at.returns-then-goes_on-clause-parcels c).After-send_on in
    let e = c.self.inside.engine in
    let piece = c.send_on.new.text in
    let old = get_or c.args.parcels.now p d in
    let made = rows_on e (begun at) piece (rows at) c.goes_on.ensures.hearing c.goes_on.ensures.deciding (sends at) (steady at) (goes at).repeats (before at) (count at) (goes at).alike (source at) (some at) e.device in
    let column = ap (map (λ row. get_or row p Idle)) made ∙ piece_decided (map is_signal e.decided) p piece ∙ ap (λ b. piece_of b piece) (signal_at e.decided p) in
    c.send_on.ensures.parcels p d l
    ∙ ap (λ xs. with_piece c.args.k xs old) (sym column)
    ∙ ap (λ (x : KeptRepeater). with_piece c.args.k (map (λ row. get_or row p Idle) (made_of x.device (rows at) x.state).rows) old) c.self.view_is

pub returns-then-goes_on-clause-room : goal.returns-then-goes_on-clause-room
returns-then-goes_on-clause-room c =
    let at = (goal.at.returns-then-goes_on-clause-room c).After-send_on in
    let e = c.self.inside.engine in
    let given = subst (λ (x : KeptRepeater). HasRowRoom (length x.state.repeater.guards) (more at) x.room x.state.repeater) (sym c.self.view_is) c.requires.room in
    subst (λ xs. HasRowRoom (length (state_later e.heard xs e.state).repeater.guards) (c.args.n - (c.args.k + more at)) e.room (state_later e.heard xs e.state).repeater) (sym (written at _ _))
    (room_on e (begun at) c.send_on.new.text (rows at) c.goes_on.ensures.hearing c.goes_on.ensures.deciding (sends at) (steady at) (goes at).repeats (before at) (count at) (goes at).alike (source at) (some at)
    (more at) (c.args.n - (c.args.k + more at)) e.room (omega (arith, long at, c.requires.left)) given)

pub invariant_of-self-2 : goal.invariant_of-self-2
invariant_of-self-2 c = record {
  sending = c.go_on.ensures.sending;
  within = omega arith;
  aside = λ l. absurd (omega (arith, l));
  ports = refl;
  few = omega arith;
  hearing = c.self.invariant.hearing;
  sending_room = length_written c.self.inside.sent.len _ c.self.inside.sent.items (search rules) ∙ search rules;
}
