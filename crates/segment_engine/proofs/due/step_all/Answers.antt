use Rattle.std.proofs.Common.{◌≡◌, ◌≢◌, ℕ, ◌+◌, ◌-◌, ◌*◌, ◌^◌, ◌<◌, ◌≤◌, ◌++◌, false, inl, inr, refl, Option, List, [], length, set, get_or, get_or-set_same, length-set, sym, subst, ap, ◌∙◌, arith}
use Rattle.std.proofs.lemmas.Bool.{cases_eq, cases_lt}
use Rattle.std.proofs.lemmas.List.{append-nil, get_or-set_other}
use Rattle.std.specs.Prelude.{IfNone, IfSome}
use Rattle.network.specs.declared.outputs.Taken.{Taken}
use Rattle.network.specs.Captures.{taken_by}
use Rattle.tap_lines.specs.TapLines.{no_line, half_bits_back, class_on}
use Rattle.segment_engine.specs.declared.apart.Watch.{Watch}
use Rattle.segment_engine.specs.StationsApart.{StandsApart, IsStillBy, AreToldAnew, SaysOf, TellsUpTo, behind_demand, lowered_watch, most_told, number_on, rows_of_both}
use Rattle.tap_lines.proofs.LineClasses.{IsAlikeBelow}
use Rattle.tap_lines.proofs.LoudLists.{later_idle}
use Rattle.segment_engine.proofs.ArrivedLines.{stand_alike}
use Rattle.segment_engine.proofs.ChangedLines.{hears_anew, listed_alike}
use Rattle.segment_engine.proofs.ChangedStations.{below_next, covers_one, covers_with, each_set}
use Rattle.segment_engine.proofs.RunsApart.{reach_anew, told_again}
use Rattle.segment_engine.proofs.StepAll.{anew_none, anew_one, alike_to, apart_lowered, class_so, covers_lowered, each_lowered, heard_so, know_anew, know_next, lowered_own, right_next, rows_stepped, tap_there, tells_anew}
use Rattle.segment_engine.proofs.StepPasses.{HaveMade, event, octets, passed, sent}
use Rattle.segment_engine.proofs.due.step_all.Goals.{After-loop-k, In-loop-k}
use Rattle.segment_engine.proofs.due.step_all.Goals as goal

abbrev a_watch : Watch
a_watch = record { since = 0; until = 0; carrier = false; told = 0 }

pub loop-k-init : goal.loop-k-init
loop-k-init c =
    let g = c.args.of.now in
    let u = c.args.u in
    let front = (c.args.window + 1) * g.lookahead in
    let all = c.requires.apart in
    let watched = all.watches in
    let within = c.next_due-k.ensures.within in
    let ahead = c.requires.ahead in
    let first : HaveMade g c.args.from u front 0 c.args.lines.now c.args.watches.now c.args.senders.now c.args.receivers.now c.args.room.now.rows c.args.room.now.rows c.args.room.now.captures c.args.room.now.captures = record {
      know = c.requires.know;
      right = c.requires.right;
      now = λ i l h. absurd (omega (arith, h));
      done = λ i w s r l h. absurd (omega (arith, h));
      still = λ i w s r l h. absurd (omega (arith, h));
      others = λ i w s r l h. all.each i w s r l;
      waits = λ i w s r l h. c.requires.still i w s r l;
      logged = sym (append-nil c.args.room.now.rows);
      kept = λ i h. absurd (omega (arith, h));
      unkept = λ i h. refl;
    } in
    record {
      watches = all.watches;
      senders = all.senders;
      receivers = all.receivers;
      captures = c.requires.captures;
      piece_len = refl;
      within = within;
      reach = c.requires.reach;
      loud = c.requires.loud;
      late = c.requires.late;
      loud_room = refl;
      late_room = refl;
      lines = anew_none u (length g.stations.items) c.args.lines.now;
      tell = c.requires.tell;
      made = passed g c.args.from u front c.args.lines.now c.args.watches.now c.args.senders.now c.args.receivers.now c.args.room.now.rows c.args.room.now.rows c.args.room.now.captures c.args.room.now.captures
          ahead 0 c.next_due-k.result (omega arith) (omega (arith, within, watched)) first (λ i w low high. c.next_due-k.ensures.later i w low high);
      left = λ e h covers. covers;
    }

-- a station that is due
here : (c : In-loop-k) → c.loop-k.k < length c.args.of.now.stations.items
here c =
    let test = c.loop-k-test.true in
    let many = c.loop-k.invariant.senders in
    let len = c.loop-k.auto.senders in
    omega (arith, test, many, len)

pub take_turn-requires-clause-apart : goal.take_turn-requires-clause-apart
take_turn-requires-clause-apart c =
    c.loop-k.invariant.made.others c.loop-k.k a_watch c.index-senders-k.result c.index-receivers-k.result (here (goal.at.take_turn-requires-clause-apart c).In-loop-k) (omega arith)

pub take_turn-requires-clause-loud : goal.take_turn-requires-clause-loud
take_turn-requires-clause-loud c =
    let after = c.requires.after in
    later_idle (c.args.t - c.args.far) (c.args.u - c.args.far) c.loop-k.lines c.loop-k.loud.taps (omega (arith, after)) c.loop-k.invariant.loud

pub take_turn-requires-clause-right : goal.take_turn-requires-clause-right
take_turn-requires-clause-right c = c.loop-k.invariant.made.right c.loop-k.k (here (goal.at.take_turn-requires-clause-right c).In-loop-k)

pub take_turn-requires-clause-line : goal.take_turn-requires-clause-line
take_turn-requires-clause-line c = c.loop-k.invariant.tell c.loop-k.k (here (goal.at.take_turn-requires-clause-line c).In-loop-k)

pub take_turn-requires-clause-room : goal.take_turn-requires-clause-room
take_turn-requires-clause-room c =
    let k = c.loop-k.k in
    let e = c.args.u + 1 in
    let ws = c.loop-k.watches in
    let ss = c.loop-k.senders in
    let ks = c.loop-k.receivers in
    let ds = c.index-senders-k.result in
    let dk = c.index-receivers-k.result in
    covers_one (length c.args.of.now.stations.items) k (λ i. behind_demand e (get_or ws i a_watch) (get_or ss i ds) (get_or ks i dk)) c.loop-k.room (here (goal.at.take_turn-requires-clause-room c).In-loop-k)
    (c.loop-k.invariant.left e (omega arith) c.requires.room a_watch ds dk)

pub list_taps-requires-clause-loud_room : goal.list_taps-requires-clause-loud_room
list_taps-requires-clause-loud_room c =
    let inv = c.loop-k.invariant in
    let size = c.take_turn.auto.lines in
    let many = inv.lines.many in
    let room = inv.loud_room in
    let enough = c.requires.loud_room in
    omega (arith, size, many, room, enough)

pub list_taps-requires-clause-late_room : goal.list_taps-requires-clause-late_room
list_taps-requires-clause-late_room c =
    let inv = c.loop-k.invariant in
    let size = c.take_turn.auto.lines in
    let many = inv.lines.many in
    let room = inv.late_room in
    let enough = c.requires.late_room in
    omega (arith, size, many, room, enough)

pub lower_all-requires-clause-tap : goal.lower_all-requires-clause-tap
lower_all-requires-clause-tap c =
    let there = tap_there c.args.of.now c.args.u ((c.args.window + 1) * c.args.of.now.lookahead) c.loop-k.k c.loop-k.lines c.loop-k.invariant.made.know (here (goal.at.lower_all-requires-clause-tap c).In-loop-k) in
    let size = c.take_turn.auto.lines in
    omega (arith, there, size)

pub lower_all-requires-clause-taps : goal.lower_all-requires-clause-taps
lower_all-requires-clause-taps c =
    let inv = c.loop-k.invariant in
    let watched = inv.watches in
    let taps = c.requires.apart.taps in
    let size = c.take_turn.auto.lines in
    let many = inv.lines.many in
    let set = length-set c.loop-k.watches c.loop-k.k c.take_turn.new.watch in
    omega (arith, watched, taps, size, many, set)

pub lower_all-requires-clause-in_time : goal.lower_all-requires-clause-in_time
lower_all-requires-clause-in_time c = λ i d l.
    let k = c.loop-k.k in
    let ws = c.loop-k.watches in
    let w = c.take_turn.new.watch in
    let s = c.take_turn.new.sender in
    let r = c.take_turn.new.receiver in
    let inv = c.loop-k.invariant in
    let last = c.requires.in_time in
    let until = c.take_turn.ensures.apart.within in
    let now = c.take_turn.ensures.apart.since in
    let size = length-set ws k w in
    let many = inv.watches in
    let here : i < length c.args.of.now.stations.items = omega (arith, l, size, many) in
    let P : Watch → Type 0 = λ x. x.until < 2 ^ 64 in
    elim (cases_lt i k) [
      | inl low ↦
          let one = inv.made.done i d s r here low in
          let within = one.within in
          let since = one.since in
          subst P (sym (get_or-set_other ws k i w d (λ e. omega (arith, e, low)))) (omega (arith, within, since, last))
      | inr high ↦
          elim (cases_lt k i) [
            | inl up ↦
                let one = inv.made.others i d s r here (omega (arith, up)) in
                let within = one.within in
                let since = one.since in
                subst P (sym (get_or-set_other ws k i w d (λ e. omega (arith, e, up)))) (omega (arith, within, since, last))
            | inr same ↦
                let eq : k ≡ i = omega (arith, same, high) in
                let there : k < length ws = omega (arith, here, many, eq) in
                subst (λ z. P (get_or (set ws k w) z d)) eq (subst P (sym (get_or-set_same ws k w d there)) (omega (arith, until, now, last)))
          ]
    ]

pub loop-k-preserved-in_default : goal.loop-k-preserved-in_default
loop-k-preserved-in_default c =
    let g = c.args.of.now in
    let plan = g.plan.value in
    let k = c.loop-k.k in
    let t = c.args.from in
    let u = c.args.u in
    let end = u + 1 + most_told in
    let front = (c.args.window + 1) * g.lookahead in
    let n = length g.stations.items in
    let lines = c.loop-k.lines in
    let lines' = c.take_turn.new.lines in
    let ws = c.loop-k.watches in
    let ss = c.loop-k.senders in
    let ks = c.loop-k.receivers in
    let ds = c.index-senders-k.result in
    let dk = c.index-receivers-k.result in
    let w' = c.take_turn.new.watch in
    let s' = c.take_turn.new.sender in
    let k' = c.take_turn.new.receiver in
    let room = c.loop-k.room in
    let room' = c.take_turn.new.room in
    let inv = c.loop-k.invariant in
    let now = c.take_turn.ensures in
    let test = c.loop-k-test.true in
    let many = inv.senders in
    let heard = inv.receivers in
    let watched = inv.watches in
    let took = inv.captures in
    let len = c.loop-k.auto.senders in
    let ahead = c.requires.ahead in
    let in_it : k < n = omega (arith, test, many, len) in
    let lw : k < length ws = omega (arith, in_it, watched) in
    let ls : k < length ss = omega (arith, in_it, many) in
    let lk : k < length ks = omega (arith, in_it, heard) in
    let lc : k < length room.captures = omega (arith, in_it, took) in
    let anew : AreToldAnew u n lines lines' = anew_one u n k lines lines' in_it c.take_turn.auto.lines now.line now.others in
    let same : (a : ℕ) → class_on (get_or lines' k no_line) a ≡ class_on (get_or lines k no_line) a =
    subst (λ (o : Option ℕ). IfNone o ((a : ℕ) → class_on (get_or lines' k no_line) a ≡ class_on (get_or lines k no_line) a)) c.in_default.is now.alike in
    let alike : (from : ℕ) → IsAlikeBelow k from lines lines' = λ from. alike_to u n k from lines lines' in_it anew now.others (λ a h. same a) in
    let other_captures : (q : ℕ) → q ≢ k → get_or room'.captures q [] ≡ get_or room.captures q [] = λ q e.
    ap (λ (cs : List (List Taken)). get_or cs q []) now.captures ∙ get_or-set_other room.captures k q _ [] e in
    let next : HaveMade g t u front (k + 1) lines' (set ws k w') (set ss k s') (set ks k k') c.args.room.now.rows room'.rows c.args.room.now.captures room'.captures = record {
      know = know_anew g u front lines lines' anew inv.made.know;
      right = λ i l. hears_anew plan (number_on g i) i g.lookahead t u n lines lines' anew (inv.made.right i l);
      now = λ i l h. below_next k (λ i. i < n → SaysOf plan (number_on g i) u (get_or lines' i no_line))
          (λ i b l. subst (λ y. SaysOf plan (number_on g i) u y) (sym (now.others i no_line (λ e. omega (arith, e, b)))) (inv.made.now i l b))
          (λ l. now.says) i h l;
      done = λ i w s r l h. each_set (λ i w s r. i < k + 1 → StandsApart g t (u + 1) i lines' w s r) n k ws ss ks w' s' k' lw ls lk
          (λ i w s r l e h. stand_alike g t (u + 1) i k lines lines' (get_or ws i w) (get_or ss i s) (get_or ks i r) alike e (inv.made.done i w s r l (omega (arith, h, e))))
          (λ h. now.apart) i w s r l h;
      still = λ i w s r l h. each_set (λ i w s r. i < k + 1 → w.since < w.until → IsStillBy w s r) n k ws ss ks w' s' k' lw ls lk
          (λ i w s r l e h. inv.made.still i w s r l (omega (arith, h, e))) (λ h. now.still) i w s r l h;
      others = λ i w s r l h. each_set (λ i w s r. k + 1 ≤ i → StandsApart g t u i lines' w s r) n k ws ss ks w' s' k' lw ls lk
          (λ i w s r l e h. stand_alike g t u i k lines lines' (get_or ws i w) (get_or ss i s) (get_or ks i r) alike e (inv.made.others i w s r l (omega (arith, h))))
          (λ h. absurd (omega (arith, h))) i w s r l h;
      waits = λ i w s r l h. each_set (λ i w s r. k + 1 ≤ i → w.since < w.until → IsStillBy w s r) n k ws ss ks w' s' k' lw ls lk
          (λ i w s r l e h. inv.made.waits i w s r l (omega (arith, h))) (λ h. absurd (omega (arith, h))) i w s r l h;
      logged = rows_stepped u g.stations.items (sent g u) (event g u) k c.args.room.now.rows room.rows room'.rows inv.made.logged now.rows;
      kept = λ q l. below_next k (λ q. get_or room'.captures q [] ≡ get_or c.args.room.now.captures q [] ++ taken_by u (event g u q) (octets g u q))
          (λ q b. other_captures q (λ x. omega (arith, x, b)) ∙ inv.made.kept q b)
          (ap (λ (cs : List (List Taken)). get_or cs k []) now.captures ∙ get_or-set_same room.captures k _ [] lc ∙ ap (λ xs. xs ++ taken_by u (event g u k) (octets g u k)) (inv.made.unkept k (omega arith)))
          q l;
      unkept = λ q l. other_captures q (λ x. omega (arith, x, l)) ∙ inv.made.unkept q (omega (arith, l));
    } in
    let k2 = c.next_due-k-in_default.result in
    let from = c.next_due-k-in_default.ensures.from in
    let few = c.next_due-k-in_default.ensures.within in
    let all_there : n ≡ length (set ws k w') = watched ∙ sym (length-set ws k w') in
    record {
      watches = watched ∙ sym (length-set ws k w');
      senders = length-set ss k s' ∙ many;
      receivers = length-set ks k k' ∙ heard;
      captures = ap length now.captures ∙ length-set room.captures k _ ∙ took;
      piece_len = c.take_turn.auto.piece ∙ inv.piece_len;
      within = few;
      reach = reach_anew c.args.far g.lookahead u n lines lines' anew inv.reach;
      loud = listed_alike (c.args.t - c.args.far) k lines lines' c.loop-k.loud.taps alike inv.loud;
      late = listed_alike (t - c.args.far) k lines lines' c.loop-k.late.taps alike inv.late;
      loud_room = inv.loud_room;
      late_room = inv.late_room;
      lines = told_again u u n c.args.lines.now lines lines' (omega arith) inv.lines anew;
      tell = λ i l. elim (cases_eq i k) [
        | inl own ↦ subst (λ j. TellsUpTo u end (get_or lines' j no_line)) (sym own) (tells_anew u u end (get_or lines k no_line) (get_or lines' k no_line) (inv.tell k in_it) now.line)
        | inr differs ↦ subst (λ x. TellsUpTo u end x) (sym (now.others i no_line differs)) (inv.tell i l)
      ];
      made = passed g t u front lines' (set ws k w') (set ss k s') (set ks k k') c.args.room.now.rows room'.rows c.args.room.now.captures room'.captures ahead
          (k + 1) k2 from (omega (arith, few, all_there)) next (λ i w low high. c.next_due-k-in_default.ensures.later i w low high);
      left = λ e h covers.
          covers_with e n k ws ss ks w' s' k' in_it lw ls lk a_watch ds dk room room' (λ other b. now.left e other h b) (inv.left e h covers);
    }

pub loop-k-preserved : goal.loop-k-preserved
loop-k-preserved c =
    let g = c.args.of.now in
    let plan = g.plan.value in
    let k = c.loop-k.k in
    let t = c.args.from in
    let u = c.args.u in
    let end = u + 1 + most_told in
    let front = (c.args.window + 1) * g.lookahead in
    let n = length g.stations.items in
    let lines = c.loop-k.lines in
    let lines' = c.take_turn.new.lines in
    let ws = c.loop-k.watches in
    let ss = c.loop-k.senders in
    let ks = c.loop-k.receivers in
    let ds = c.index-senders-k.result in
    let dk = c.index-receivers-k.result in
    let w' = c.take_turn.new.watch in
    let s' = c.take_turn.new.sender in
    let k' = c.take_turn.new.receiver in
    let ws' = c.lower_all.new.watches in
    let from = c.in-Some.at in
    let room = c.loop-k.room in
    let room' = c.take_turn.new.room in
    let inv = c.loop-k.invariant in
    let now = c.take_turn.ensures in
    let test = c.loop-k-test.true in
    let many = inv.senders in
    let heard = inv.receivers in
    let watched = inv.watches in
    let took = inv.captures in
    let len = c.loop-k.auto.senders in
    let ahead = c.requires.ahead in
    let in_it : k < n = omega (arith, test, many, len) in
    let lw : k < length ws = omega (arith, in_it, watched) in
    let ls : k < length ss = omega (arith, in_it, many) in
    let lk : k < length ks = omega (arith, in_it, heard) in
    let lc : k < length room.captures = omega (arith, in_it, took) in
    let anew : AreToldAnew u n lines lines' = anew_one u n k lines lines' in_it c.take_turn.auto.lines now.line now.others in
    let known : from ≡ u = subst (λ (o : Option ℕ). IfSome o (λ f. f ≡ u)) c.in-Some.is now.changed in
    let late : u ≤ from = omega (arith, known) in
    let alike : IsAlikeBelow k from lines lines' = alike_to u n k from lines lines' in_it anew now.others (λ a h. now.line.classes a (omega (arith, h, known))) in
    let at = λ (i : ℕ). from + half_bits_back g.lookahead (get_or lines' i no_line).at (get_or lines' k no_line) in
    let size : length ws' ≡ length (set ws k w') = c.lower_all.auto.watches in
    let all : n ≡ length ws' = watched ∙ sym (length-set ws k w') ∙ sym size in
    let low : (i : ℕ) (d : Watch) → i < n → get_or ws' i d ≡ lowered_watch (at i) (get_or (set ws k w') i d) = λ i d h. c.lower_all.ensures i d (omega (arith, h, all)) in
    let due : w'.until ≡ w'.since = subst (λ (o : Option ℕ). IfSome o (λ f. w'.until ≡ w'.since)) c.in-Some.is now.due in
    let own : lowered_watch (at k) w' ≡ w' = lowered_own (at k) w' due in
    let other_captures : (q : ℕ) → q ≢ k → get_or room'.captures q [] ≡ get_or room.captures q [] = λ q e.
    ap (λ (cs : List (List Taken)). get_or cs q []) now.captures ∙ get_or-set_other room.captures k q _ [] e in
    let next : HaveMade g t u front (k + 1) lines' ws' (set ss k s') (set ks k k') c.args.room.now.rows room'.rows c.args.room.now.captures room'.captures = record {
      know = know_anew g u front lines lines' anew inv.made.know;
      right = λ i l. hears_anew plan (number_on g i) i g.lookahead t u n lines lines' anew (inv.made.right i l);
      now = λ i l h. below_next k (λ i. i < n → SaysOf plan (number_on g i) u (get_or lines' i no_line))
          (λ i b l. subst (λ y. SaysOf plan (number_on g i) u y) (sym (now.others i no_line (λ e. omega (arith, e, b)))) (inv.made.now i l b))
          (λ l. now.says) i h l;
      done = λ i w s r l h. each_lowered (λ i w s r. i < k + 1 → StandsApart g t (u + 1) i lines' w s r) n k at ws ws' ss ks w' s' k' lw ls lk low
          (λ i w s r l e h. apart_lowered g t u (u + 1) front i k from lines lines' (get_or ws i w) (get_or ss i s) (get_or ks i r) inv.made.know alike late (omega arith) l in_it e (inv.made.done i w s r l (omega (arith, h, e))))
          (λ h. subst (λ w. StandsApart g t (u + 1) k lines' w s' k') (sym own) now.apart) i w s r l h;
      still = λ i w s r l h. each_lowered (λ i w s r. i < k + 1 → w.since < w.until → IsStillBy w s r) n k at ws ws' ss ks w' s' k' lw ls lk low
          (λ i w s r l e h later. inv.made.still i w s r l (omega (arith, h, e)) (omega (arith, later)))
          (λ h later. absurd (omega (arith, later, due))) i w s r l h;
      others = λ i w s r l h. each_lowered (λ i w s r. k + 1 ≤ i → StandsApart g t u i lines' w s r) n k at ws ws' ss ks w' s' k' lw ls lk low
          (λ i w s r l e h. apart_lowered g t u u front i k from lines lines' (get_or ws i w) (get_or ss i s) (get_or ks i r) inv.made.know alike late (omega arith) l in_it e (inv.made.others i w s r l (omega (arith, h))))
          (λ h. absurd (omega (arith, h))) i w s r l h;
      waits = λ i w s r l h. each_lowered (λ i w s r. k + 1 ≤ i → w.since < w.until → IsStillBy w s r) n k at ws ws' ss ks w' s' k' lw ls lk low
          (λ i w s r l e h later. inv.made.waits i w s r l (omega (arith, h)) (omega (arith, later)))
          (λ h. absurd (omega (arith, h))) i w s r l h;
      logged = rows_stepped u g.stations.items (sent g u) (event g u) k c.args.room.now.rows room.rows room'.rows inv.made.logged now.rows;
      kept = λ q l. below_next k (λ q. get_or room'.captures q [] ≡ get_or c.args.room.now.captures q [] ++ taken_by u (event g u q) (octets g u q))
          (λ q b. other_captures q (λ x. omega (arith, x, b)) ∙ inv.made.kept q b)
          (ap (λ (cs : List (List Taken)). get_or cs k []) now.captures ∙ get_or-set_same room.captures k _ [] lc ∙ ap (λ xs. xs ++ taken_by u (event g u k) (octets g u k)) (inv.made.unkept k (omega arith)))
          q l;
      unkept = λ q l. other_captures q (λ x. omega (arith, x, l)) ∙ inv.made.unkept q (omega (arith, l));
    } in
    let k2 = c.next_due-k-in-loop-k.result in
    let from = c.next_due-k-in-loop-k.ensures.from in
    let few = c.next_due-k-in-loop-k.ensures.within in
    let all_there : n ≡ length ws' = all in
    record {
      watches = all;
      senders = length-set ss k s' ∙ many;
      receivers = length-set ks k k' ∙ heard;
      captures = ap length now.captures ∙ length-set room.captures k _ ∙ took;
      piece_len = c.take_turn.auto.piece ∙ inv.piece_len;
      within = few;
      reach = reach_anew c.args.far g.lookahead u n lines lines' anew inv.reach;
      loud = c.list_taps.ensures.loud;
      late = c.list_taps.ensures.late;
      loud_room = c.list_taps.ensures.loud_room ∙ inv.loud_room;
      late_room = c.list_taps.ensures.late_room ∙ inv.late_room;
      lines = told_again u u n c.args.lines.now lines lines' (omega arith) inv.lines anew;
      tell = λ i l. elim (cases_eq i k) [
        | inl own ↦ subst (λ j. TellsUpTo u end (get_or lines' j no_line)) (sym own) (tells_anew u u end (get_or lines k no_line) (get_or lines' k no_line) (inv.tell k in_it) now.line)
        | inr differs ↦ subst (λ x. TellsUpTo u end x) (sym (now.others i no_line differs)) (inv.tell i l)
      ];
      made = passed g t u front lines' ws' (set ss k s') (set ks k k') c.args.room.now.rows room'.rows c.args.room.now.captures room'.captures ahead
          (k + 1) k2 from (omega (arith, few, all_there)) next (λ i w low high. c.next_due-k-in-loop-k.ensures.later i w low high);
      left = λ e h covers.
          covers_lowered e n at (set ws k w') ws' (set ss k s') (set ks k k') room' low
          (covers_with e n k ws ss ks w' s' k' in_it lw ls lk a_watch ds dk room room' (λ other b. now.left e other h b) (inv.left e h covers));
    }

-- all stations have had their turn
turned : (c : After-loop-k) (i : ℕ) → i < length c.args.of.now.stations.items → i < c.loop-k.k
turned c i h =
    let test = c.loop-k-test.false in
    let many = c.loop-k.invariant.senders in
    let len = c.loop-k.auto.senders in
    omega (arith, h, test, many, len)

pub returns-clause-apart : goal.returns-clause-apart
returns-clause-apart c =
    let inv = c.loop-k.invariant in
    let taps = c.requires.apart.taps in
    let lines = inv.lines.many in
    record {
      senders = inv.senders;
      receivers = inv.receivers;
      watches = inv.watches;
      taps = omega (arith, taps, lines);
      each = λ i w s r h. inv.made.done i w s r h (turned (goal.at.returns-clause-apart c).After-loop-k i h);
    }

pub returns-clause-still : goal.returns-clause-still
returns-clause-still c = λ i w s r h. c.loop-k.invariant.made.still i w s r h (turned (goal.at.returns-clause-still c).After-loop-k i h)

pub returns-clause-know : goal.returns-clause-know
returns-clause-know c =
    let g = c.args.of.now in
    let made = c.loop-k.invariant.made in
    know_next g c.args.u ((c.args.window + 1) * g.lookahead) c.loop-k.lines made.know (λ i h. made.now i h (turned (goal.at.returns-clause-know c).After-loop-k i h))

pub returns-clause-right : goal.returns-clause-right
returns-clause-right c = λ i h.
    let g = c.args.of.now in
    let made = c.loop-k.invariant.made in
    let ahead = c.requires.ahead in
    right_next g.plan.value (number_on g i) i g.lookahead c.args.from c.args.u c.loop-k.lines (made.right i h)
    (heard_so g c.args.u ((c.args.window + 1) * g.lookahead) i c.loop-k.lines made.know ahead h)
    (class_so g c.args.u ((c.args.window + 1) * g.lookahead) i c.loop-k.lines made.know ahead h)
    (made.now i h (turned (goal.at.returns-clause-right c).After-loop-k i h)).emits

pub returns-clause-rows : goal.returns-clause-rows
returns-clause-rows c =
    let g = c.args.of.now in
    let inv = c.loop-k.invariant in
    let test = c.loop-k-test.false in
    let many = inv.senders in
    let len = c.loop-k.auto.senders in
    let upto = inv.within in
    let watched = inv.watches in
    let all : c.loop-k.k ≡ length g.stations.items = omega (arith, test, many, len, upto, watched) in
    subst (λ (m : ℕ). c.loop-k.room.rows ≡ c.args.room.now.rows ++ rows_of_both c.args.u g.stations.items (sent g c.args.u) (event g c.args.u) m) all inv.made.logged

pub returns-clause-captures : goal.returns-clause-captures
returns-clause-captures c = λ i h. c.loop-k.invariant.made.kept i (turned (goal.at.returns-clause-captures c).After-loop-k i h)
