use Rattle.std.proofs.Common.{◌≡◌, ℕ, suc, ◌+◌, ◌*◌, ◌<◌, ◌≤◌, ◌++◌, false, map, length, get_or, refl, sym, subst, ap, ◌∙◌, arith}
use Rattle.manchester_line.specs.Decoding.{new_decoding}
use Rattle.mac_receive.specs.KeptReceiver.{KeptReception}
use Rattle.network.specs.Attempts.{sender_at}
use Rattle.net_parts.specs.SegmentParts.{wiring}
use Rattle.tap_lines.specs.TapLines.{no_line}
use Rattle.net_parts.specs.Standing.{captures_at, rows_of_devices}
use Rattle.segment_engine.specs.declared.apart.Watch.{Watch}
use Rattle.segment_engine.specs.KnownLines.{KnowLines}
use Rattle.segment_engine.specs.StationsApart.{StandAllApart, HearAllByLines, most_told, number_on, heard_reception, rows_of_both, sent_event}
use Rattle.segment_engine.proofs.RowsOfBoth.{rows_next}
use Rattle.segment_engine.proofs.RowsApart.{GoOnTo, a_watch, go_on_to, rows_same, captures_same, captures_stay, kept_later}
use Rattle.segment_engine.proofs.RunsApart.{told_again, reach_anew, all_stand, all_tell, all_known, all_hear, covers_sooner, tells_sooner}
use Rattle.segment_engine.proofs.StepAll.{anew_none}
use Rattle.segment_engine.proofs.apart.run_apart.Goals.{After-loop-u}
use Rattle.segment_engine.proofs.apart.run_apart.Goals as goal

abbrev a_kept : KeptReception
a_kept = record { lose = 0; most = 0; deaf = false; halves = 0; decoder = new_decoding; steps = 0 }

pub step_all-requires-clause-room : goal.step_all-requires-clause-room
step_all-requires-clause-room c =
    let inv = c.loop-u.invariant in
    let few = inv.within in
    let below = c.loop-u-test.true in
    covers_sooner (c.loop-u.u + 1) c.args.end (length c.args.of.now.stations.items) c.loop-u.watches c.loop-u.senders c.loop-u.receivers c.loop-u.room (omega (arith, below))
    (inv.left c.args.end few c.requires.room)

pub step_all-requires-clause-tell : goal.step_all-requires-clause-tell
step_all-requires-clause-tell c = λ r h.
    let inv = c.loop-u.invariant in
    let below = c.loop-u-test.true in
    tells_sooner c.loop-u.u (c.loop-u.u + 1 + most_told) (c.args.end + most_told) (get_or c.loop-u.lines r no_line) (omega (arith, below)) (inv.tell r h)

pub step_all-requires-clause-loud_room : goal.step_all-requires-clause-loud_room
step_all-requires-clause-loud_room c =
    let inv = c.loop-u.invariant in
    let many = inv.lines.many in
    let room = inv.loud_room in
    let enough = c.requires.loud_room in
    omega (arith, many, room, enough)

pub step_all-requires-clause-late_room : goal.step_all-requires-clause-late_room
step_all-requires-clause-late_room c =
    let inv = c.loop-u.invariant in
    let many = inv.lines.many in
    let room = inv.late_room in
    let enough = c.requires.late_room in
    omega (arith, many, room, enough)

pub loop-u-smaller : goal.loop-u-smaller
loop-u-smaller c =
    let below = c.loop-u-test.true in
    let all = c.step_all.ensures.apart in
    let watched = all.watches in
    let ds = sender_at c.args.of.now.plan.value 0 c.args.t in
    let later = c.first_due-u-in-loop-u.ensures.due (c.loop-u.u + 1) (omega (arith, below)) (λ i w h. (all.each i w ds a_kept (omega (arith, h, watched))).until) in
    omega (arith, later, below)

pub loop-u-preserved : goal.loop-u-preserved
loop-u-preserved c =
    let g = c.args.of.now in
    let plan = g.plan.value in
    let t = c.args.from in
    let end = c.args.end in
    let front = (c.args.window + 1) * g.lookahead in
    let old = c.loop-u.lines in
    let ls = c.step_all.new.lines in
    let u = c.loop-u.u in
    let v = c.first_due-u-in-loop-u.result in
    let n = length g.stations.items in
    let ds = sender_at plan 0 t in
    let inv = c.loop-u.invariant in
    let after = inv.after in
    let start = c.requires.begun in
    let below = c.loop-u-test.true in
    let ahead = c.requires.ahead in
    let upto = c.first_due-u-in-loop-u.ensures.within in
    let all = c.step_all.ensures.apart in
    let still = c.step_all.ensures.still in
    let now = c.step_all.ensures.right in
    let known = c.step_all.ensures.know in
    let anew = c.step_all.ensures.lines in
    let watched = all.watches in
    let ws = c.step_all.new.watches in
    let ss = c.step_all.new.senders in
    let ks = c.step_all.new.receivers in
    let later : u + 1 ≤ v = c.first_due-u-in-loop-u.ensures.due (u + 1) (omega (arith, below)) (λ i w h. (all.each i w ds a_kept (omega (arith, h, watched))).until) in
    let first : (i : ℕ) (w : Watch) → i < n → v ≤ (get_or ws i w).until = λ i w h. c.first_due-u-in-loop-u.ensures.first i w (omega (arith, h, watched)) in
    let begun : t ≤ u + 1 = omega (arith, after, start) in
    let ends : v ≤ front = omega (arith, upto, ahead) in
    let w' = λ (i : ℕ). get_or ws i a_watch in
    let s' = λ (i : ℕ). get_or ss i ds in
    let k' = λ (i : ℕ). get_or ks i a_kept in
    let on : GoOnTo g t (u + 1) v ls w' s' k' = go_on_to g t (u + 1) v ls ws ss ks ds a_kept all still first in
    let right : HearAllByLines g t v ls = all_hear g t (u + 1) v later ls w' s' k' on front known begun ends now in
    let next : suc u ≡ u + 1 = omega arith in
    let sent = λ (i : ℕ). sent_event plan (number_on g i) u in
    let received = λ (i : ℕ). (heard_reception plan (number_on g i) u).event in
    record {
      after = omega (arith, after, later);
      within = upto;
      reach = reach_anew c.args.far g.lookahead u n old ls anew inv.reach;
      loud = c.step_all.ensures.loud;
      late = c.step_all.ensures.late;
      loud_room = c.step_all.ensures.loud_room ∙ inv.loud_room;
      late_room = c.step_all.ensures.late_room ∙ inv.late_room;
      lines = told_again c.args.t u n c.args.lines.now old ls after inv.lines anew;
      apart = all_stand g t (u + 1) v ls ws ss ks all later first still;
      still = still;
      know = all_known g t (u + 1) v later ls w' s' k' on front known begun ends now;
      right = right;
      tell = all_tell n u u v (end + most_told) old ls anew inv.tell (omega (arith, later));
      piece_len = c.step_all.auto.piece ∙ inv.piece_len;
      logged =
          c.step_all.ensures.rows
          ∙ ap (λ xs. xs ++ rows_of_both u g.stations.items sent received n) inv.logged
          ∙ sym (rows_next plan g u refl)
          ∙ sym (rows_same g t ls (u + 1) v later w' s' k' on right);
      kept =
          kept_later g t ls u v c.loop-u.room.captures c.step_all.new.room.captures inv.kept c.step_all.ensures.stations c.step_all.ensures.captures
          (λ i h. captures_same g t ls (u + 1) v later w' s' k' on right i h ∙ ap (captures_at plan (number_on g i)) (sym next));
      left = λ e h covers.
          let now : u ≤ e = omega (arith, later, h) in
          c.step_all.ensures.left e (omega (arith, later, h)) (inv.left e now covers);
    }

pub loop-u-init : goal.loop-u-init
loop-u-init c =
    let g = c.args.of.now in
    let plan = g.plan.value in
    let from = c.args.from in
    let t = c.args.t in
    let front = (c.args.window + 1) * g.lookahead in
    let ls = c.args.lines.now in
    let ws = c.args.watches.now in
    let ss = c.args.senders.now in
    let ks = c.args.receivers.now in
    let v = c.first_due-u.result in
    let n = length g.stations.items in
    let ds = sender_at plan 0 from in
    let all = c.requires.apart in
    let still = c.requires.still in
    let watched = all.watches in
    let upto = c.first_due-u.ensures.within in
    let ahead = c.requires.ahead in
    let begun = c.requires.begun in
    let later : t ≤ v = c.first_due-u.ensures.due t c.requires.upto (λ i w h. (all.each i w ds a_kept (omega (arith, h, watched))).until) in
    let first : (i : ℕ) (w : Watch) → i < n → v ≤ (get_or ws i w).until = λ i w h. c.first_due-u.ensures.first i w (omega (arith, h, watched)) in
    let ends : v ≤ front = omega (arith, upto, ahead) in
    let w' = λ (i : ℕ). get_or ws i a_watch in
    let s' = λ (i : ℕ). get_or ss i ds in
    let k' = λ (i : ℕ). get_or ks i a_kept in
    let on : GoOnTo g from t v ls w' s' k' = go_on_to g from t v ls ws ss ks ds a_kept all still first in
    let right : HearAllByLines g from v ls = all_hear g from t v later ls w' s' k' on front c.requires.know begun ends c.requires.right in
    record {
      after = later;
      within = upto;
      reach = c.requires.reach;
      loud = c.requires.loud;
      late = c.requires.late;
      loud_room = refl;
      late_room = refl;
      lines = anew_none t n ls;
      apart = all_stand g from t v ls ws ss ks all later first still;
      still = still;
      know = all_known g from t v later ls w' s' k' on front c.requires.know begun ends c.requires.right;
      right = right;
      tell = all_tell n t t v (c.args.end + most_told) ls ls (anew_none t n ls) c.requires.tell later;
      piece_len = refl;
      logged = c.requires.logged ∙ sym (rows_same g from ls t v later w' s' k' on right);
      kept =
          c.requires.kept
          ∙ captures_stay g from ls t v (λ i h. sym (captures_same g from ls t v later w' s' k' on right i h));
      left = λ e h covers. covers;
    }

-- the last of them is before the end
at_end : (c : After-loop-u) → c.loop-u.u ≡ c.args.end
at_end c =
    let within = c.loop-u.invariant.within in
    let last = c.loop-u-test.false in
    omega (arith, within, last)

pub returns-clause-apart : goal.returns-clause-apart
returns-clause-apart c =
    subst (λ x. StandAllApart c.args.of.now c.args.from x c.loop-u.lines c.loop-u.watches c.loop-u.senders c.loop-u.receivers) (at_end (goal.at.returns-clause-apart c).After-loop-u) c.loop-u.invariant.apart

pub returns-clause-know : goal.returns-clause-know
returns-clause-know c =
    let g = c.args.of.now in
    subst (λ x. KnowLines g.plan.value (wiring g.plan.value.layout g.number) g.lookahead x ((c.args.window + 1) * g.lookahead) c.loop-u.lines) (at_end (goal.at.returns-clause-know c).After-loop-u) c.loop-u.invariant.know

pub returns-clause-right : goal.returns-clause-right
returns-clause-right c = subst (λ x. HearAllByLines c.args.of.now c.args.from x c.loop-u.lines) (at_end (goal.at.returns-clause-right c).After-loop-u) c.loop-u.invariant.right

pub returns-clause-logged : goal.returns-clause-logged
returns-clause-logged c =
    c.loop-u.invariant.logged ∙ ap (rows_of_devices c.args.of.now.plan.value c.args.of.now.stations.items) (at_end (goal.at.returns-clause-logged c).After-loop-u)

pub returns-clause-kept : goal.returns-clause-kept
returns-clause-kept c =
    c.loop-u.invariant.kept ∙ ap (λ v. map (λ x. captures_at c.args.of.now.plan.value x v) c.args.of.now.stations.items) (at_end (goal.at.returns-clause-kept c).After-loop-u)

pub returns-clause-left : goal.returns-clause-left
returns-clause-left c = λ e h covers.
    let within = c.loop-u.invariant.within in
    c.loop-u.invariant.left e (omega (arith, h, within)) covers
