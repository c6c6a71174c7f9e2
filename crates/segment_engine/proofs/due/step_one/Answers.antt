use Rattle.std.proofs.Common.{◌≡◌, ℕ, ◌+◌, ◌≤◌, ◌++◌, Bool, true, List, length, get_or, set, get_or-set_same, refl, sym, subst, ap, ◌∙◌, arith}
use Rattle.std.proofs.lemmas.List.{get_or_default, get_or-set_other}
use Rattle.manchester_line.specs.declared.Sym.{Sym}
use Rattle.manchester_line.specs.Line.{is_signal}
use Rattle.load_plan.specs.declared.plan.Plan.{Plan}
use Rattle.mac_receive.specs.KeptReceiver.{KeptReception}
use Rattle.mac_transmit.specs.Sender.{Sender, is_sending}
use Rattle.network.specs.Captures.{taken_by}
use Rattle.network.specs.Rows.{row_of}
use Rattle.network.specs.Times.{emitted}
use Rattle.net_parts.specs.Standing.{receiver_at}
use Rattle.tap_lines.specs.TapLines.{TapLine, no_line, class_on, goes_on}
use Rattle.window_room.specs.Rooms.{Room, captures_with}
use Rattle.segment_engine.specs.declared.apart.Watch.{Watch}
use Rattle.segment_engine.specs.declared.segment.Segment.{Segment}
use Rattle.segment_engine.specs.StationsApart.{IsAnew, IsToldAnew, SaysOf, StandsApart, TellsOn, TellsUpTo, heard_reception, most_told, number_on, sent_event}
use Rattle.segment_engine.proofs.AnewLines.{reaches_of}
use Rattle.segment_engine.proofs.StepOne.{StepsOne, alike_anew, captures_one, class_on_now, emits_on, hears_now, if_none_map, keeps, left_one, rows_one, said_now, sends_so, stands_on, tells_on}
use Rattle.segment_engine.proofs.ChangedLines.{unchanged_line}
use Rattle.segment_engine.proofs.due.step_one.Goals as goal
use Rattle.segment_engine.proofs.due.step_one.Goals.{After-step_station-emitted, After-tell_anew-watch}

pub heard_now-heard-requires-clause-listed : goal.heard_now-heard-requires-clause-listed
heard_now-heard-requires-clause-listed c =
    let last = c.requires.in_time in
    record {
      tap = c.requires.tap;
      reach = c.requires.reach;
      loud = c.requires.loud;
      in_time = omega (arith, last);
    }

pub step_station-emitted-requires-clause-hears : goal.step_station-emitted-requires-clause-hears
step_station-emitted-requires-clause-hears c =
    (receiver_at c.args.of.now.plan.value (number_on c.args.of.now c.args.p) c.args.watch.now.since, c.requires.apart.behind.receiver)

pub step_station-emitted-requires-clause-room : goal.step_station-emitted-requires-clause-room
step_station-emitted-requires-clause-room c = c.requires.room

pub tell_anew-watch-requires-clause-line : goal.tell_anew-watch-requires-clause-line
tell_anew-watch-requires-clause-line c =
    subst (λ (y : TapLine). TellsUpTo c.args.u (c.args.u + 1 + most_told) y)
    (sym (get_or_default c.args.lines.now c.args.p c.index-lines-p.result no_line c.requires.tap)) c.requires.line

pub tell_anew-watch-requires-clause-reaches : goal.tell_anew-watch-requires-clause-reaches
tell_anew-watch-requires-clause-reaches c =
    subst (λ (y : TapLine). goes_on y ≡ true → c.args.u ≤ y.base + length y.symbols)
    (sym (get_or_default c.args.lines.now c.args.p c.index-lines-p.result no_line c.requires.tap))
    (reaches_of c.args.u (get_or c.args.lines.now c.args.p no_line) c.requires.classes)

-- the station has made the half bit
module _ (c : After-step_station-emitted) where
  abbrev g : Segment
  g = c.args.of.now

  abbrev plan : Plan
  plan = g.plan.value

  abbrev u : ℕ
  u = c.args.u

  abbrev p : ℕ
  p = c.args.p

  abbrev x : ℕ
  x = number_on g p

  abbrev ls : List TapLine
  ls = c.args.lines.now

  abbrev w : Watch
  w = c.args.watch.now

  abbrev s : Sender
  s = c.args.sender.now

  abbrev k : KeptReception
  k = c.args.receiver.now

  abbrev h : Sym
  h = c.heard_now-heard.result

  abbrev e : Sym
  e = c.step_station-emitted.result

  abbrev s' : Sender
  s' = c.step_station-emitted.new.sender

  abbrev k' : KeptReception
  k' = c.step_station-emitted.new.receiver

  abbrev room' : Room
  room' = c.step_station-emitted.new.room

  one : StepsOne g c.args.from u p ls w s s' k h e
  one = record {
    apart = c.requires.apart;
    since = c.requires.since;
    on = c.requires.station;
    hears = c.requires.hears ∙ sym c.heard_now-heard.ensures;
    sent = c.step_station-emitted.ensures.state;
    said = c.step_station-emitted.ensures.emitted;
  }

  sends : is_signal e ≡ is_sending s'.phase
  sends = sends_so g c.args.from u p ls w s s' k h e one

  says : emitted plan x u ≡ e
  says = said_now g c.args.from u p ls w s s' k h e one

  stands : (ls' : List TapLine) (carrier : Bool) (told : ℕ) → TellsOn u told (get_or ls' p no_line) s' →
      StandsApart g c.args.from (u + 1) p ls' (record { since = u + 1; until = u + 1; carrier = carrier; told = told }) s' k'
  stands ls' carrier told tells =
      let now = c.step_station-emitted.ensures in
      stands_on g c.args.from u p ls w s s' k h e one ls' k' carrier told now.time now.steps now.receiver tells

  rows : room'.rows ≡ (c.args.room.now.rows ++ row_of u x (sent_event plan x u)) ++ row_of u x (heard_reception plan x u).event
  rows =
      rows_one g c.args.from u p ls w s s' k h e one c.index-device.result.now c.args.room.now.rows room'.rows
      (c.index-device.ensures ∙ get_or_default g.stations.items p _ 0 c.requires.station)
      (c.step_station-emitted.ensures.rows (receiver_at plan x u) (hears_now g c.args.from u p ls w s s' k h e one))

  captures : room'.captures ≡ captures_with p (taken_by u (heard_reception plan x u).event (heard_reception plan x u).octets) c.args.room.now.captures
  captures =
      captures_one g c.args.from u p ls w s s' k h e one c.args.room.now.captures room'.captures
      (c.step_station-emitted.ensures.captures (receiver_at plan x u) (hears_now g c.args.from u p ls w s s' k h e one))

pub tell_anew-watch-requires-clause-class : goal.tell_anew-watch-requires-clause-class
tell_anew-watch-requires-clause-class c = sends (goal.at.tell_anew-watch-requires-clause-class c).After-step_station-emitted

-- it goes on with what it did
pub returns-then-goes_on-clause-apart : goal.returns-then-goes_on-clause-apart
returns-then-goes_on-clause-apart c =
    let cc = (goal.at.returns-then-goes_on-clause-apart c).After-step_station-emitted in
    let w = c.args.watch.now in
    stands cc c.args.lines.now _ w.told
    (tells_on (plan cc) (x cc) c.args.p c.args.of.now.lookahead c.args.from c.args.u c.args.lines.now w c.args.sender.now (s' cc) c.args.receiver.now (h cc) c.requires.apart.behind c.requires.since
    c.step_station-emitted.ensures.state c.if-u-before.true (keeps _ _ c.args.sender.now (s' cc) c.phase-was.ensures c.phase.ensures (c.goes_on.ensures c.if-goes_on.true)))

pub returns-then-goes_on-clause-says : goal.returns-then-goes_on-clause-says
returns-then-goes_on-clause-says c =
    let cc = (goal.at.returns-then-goes_on-clause-says c).After-step_station-emitted in
    let w = c.args.watch.now in
    let behind = c.requires.apart.behind in
    let since = c.requires.since in
    let sent = c.step_station-emitted.ensures.state in
    let early = c.if-u-before.true in
    let kept = keeps _ _ c.args.sender.now (s' cc) c.phase-was.ensures c.phase.ensures (c.goes_on.ensures c.if-goes_on.true) in
    record {
      emits =
          says cc
          ∙ c.step_station-emitted.ensures.emitted
          ∙ emits_on (plan cc) (x cc) c.args.p c.args.of.now.lookahead c.args.from c.args.u c.args.lines.now w c.args.sender.now (s' cc) c.args.receiver.now (h cc) behind since sent early kept;
      class = class_on_now (plan cc) (x cc) c.args.p c.args.of.now.lookahead c.args.from c.args.u c.args.lines.now w c.args.sender.now (s' cc) c.args.receiver.now (h cc) behind since sent early;
    }

pub returns-then-goes_on-clause-line : goal.returns-then-goes_on-clause-line
returns-then-goes_on-clause-line c =
    unchanged_line c.args.u (get_or c.args.lines.now c.args.p no_line)

pub returns-then-goes_on-clause-others : goal.returns-then-goes_on-clause-others
returns-then-goes_on-clause-others c = λ r d other.
    refl

pub returns-then-goes_on-clause-alike : goal.returns-then-goes_on-clause-alike
returns-then-goes_on-clause-alike c = λ a.
    refl

pub returns-then-goes_on-clause-rows : goal.returns-then-goes_on-clause-rows
returns-then-goes_on-clause-rows c = rows (goal.at.returns-then-goes_on-clause-rows c).After-step_station-emitted

pub returns-then-goes_on-clause-captures : goal.returns-then-goes_on-clause-captures
returns-then-goes_on-clause-captures c = captures (goal.at.returns-then-goes_on-clause-captures c).After-step_station-emitted

pub returns-then-goes_on-clause-left : goal.returns-then-goes_on-clause-left
returns-then-goes_on-clause-left c = λ a other h covers.
    left_one a c.args.u other c.args.watch.now c.args.sender.now c.step_station-emitted.new.sender c.args.receiver.now c.step_station-emitted.new.receiver c.args.room.now c.step_station-emitted.new.room c.requires.since h c.step_station-emitted.ensures.left covers

-- its line is told anew
module _ (c : After-tell_anew-watch) where
  abbrev old_line : TapLine
  old_line = get_or c.args.lines.now c.args.p no_line

  abbrev new_line : TapLine
  new_line = c.tell_anew-watch.new.line

  abbrev new_lines : List TapLine
  new_lines = set c.args.lines.now c.args.p new_line

  anew : IsAnew c.args.u c.tell_anew-watch.result c.step_station-emitted.result old_line new_line c.step_station-emitted.new.sender
  anew =
      subst (λ y. IsAnew c.args.u c.tell_anew-watch.result c.step_station-emitted.result y new_line c.step_station-emitted.new.sender)
      (get_or_default c.args.lines.now c.args.p c.index-lines-p.result no_line c.requires.tap) c.tell_anew-watch.ensures

  is_new : get_or new_lines c.args.p no_line ≡ new_line
  is_new = get_or-set_same c.args.lines.now c.args.p new_line no_line c.requires.tap

pub returns-clause-apart : goal.returns-clause-apart
returns-clause-apart c =
    let cc = (goal.at.returns-clause-apart c).After-step_station-emitted in
    let cl = (goal.at.returns-clause-apart c).After-tell_anew-watch in
    let told = c.tell_anew-watch.result in
    stands cc (new_lines cl) _ told (subst (λ y. TellsOn c.args.u told y (s' cc)) (sym (is_new cl)) (anew cl).tells)

pub returns-clause-says : goal.returns-clause-says
returns-clause-says c =
    let cc = (goal.at.returns-clause-says c).After-step_station-emitted in
    let cl = (goal.at.returns-clause-says c).After-tell_anew-watch in
    subst (λ y. SaysOf (plan cc) (x cc) c.args.u y) (sym (is_new cl)) (record {
      emits = says cc ∙ sym (anew cl).now;
      class = (anew cl).class ∙ sym (ap is_signal (anew cl).now);
    })

pub returns-clause-line : goal.returns-clause-line
returns-clause-line c =
    let cl = (goal.at.returns-clause-line c).After-tell_anew-watch in
    subst (λ y. IsToldAnew c.args.u (old_line cl) y) (sym (is_new cl)) (anew cl).same

pub returns-clause-others : goal.returns-clause-others
returns-clause-others c = λ r d other.
    get_or-set_other c.args.lines.now c.args.p r c.tell_anew-watch.new.line d other

pub returns-clause-alike : goal.returns-clause-alike
returns-clause-alike c =
    let cc = (goal.at.returns-clause-alike c).After-step_station-emitted in
    let cl = (goal.at.returns-clause-alike c).After-tell_anew-watch in
    if_none_map c.changes_from.result (is_sending c.phase-was.result ≡ is_sending (s' cc).phase) ((b : ℕ) → class_on (get_or (new_lines cl) c.args.p no_line) b ≡ class_on (old_line cl) b)
    (λ as_before b. ap (λ y. class_on y b) (is_new cl)
    ∙ alike_anew (plan cc) (x cc) c.args.p c.args.of.now.lookahead c.args.from c.args.u c.args.lines.now c.args.watch.now c.args.sender.now (s' cc) c.args.receiver.now (h cc) c.requires.apart.behind c.requires.since
    c.step_station-emitted.ensures.state c.tell_anew-watch.result (e cc) (new_line cl) (sends cc) (sym (ap is_sending c.phase-was.ensures) ∙ as_before) (anew cl) b)
    c.changes_from.ensures.none

pub returns-clause-rows : goal.returns-clause-rows
returns-clause-rows c = rows (goal.at.returns-clause-rows c).After-step_station-emitted

pub returns-clause-captures : goal.returns-clause-captures
returns-clause-captures c = captures (goal.at.returns-clause-captures c).After-step_station-emitted

pub returns-clause-left : goal.returns-clause-left
returns-clause-left c = λ a other h covers.
    left_one a c.args.u other c.args.watch.now c.args.sender.now c.step_station-emitted.new.sender c.args.receiver.now c.step_station-emitted.new.receiver c.args.room.now c.step_station-emitted.new.room c.requires.since h c.step_station-emitted.ensures.left covers
