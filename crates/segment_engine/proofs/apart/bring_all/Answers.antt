use Rattle.std.proofs.Common.{◌≡◌, ◌<◌, length, ◌∙◌, false, arith}
use Rattle.segment_engine.specs.declared.apart.Watch.{Watch}
use Rattle.segment_engine.specs.StationsApart.{IsStillBy}
use Rattle.segment_engine.proofs.ChangedStations.{below_set, covers_less, each_set, stand_set}
use Rattle.segment_engine.proofs.apart.bring_all.Goals as goal

abbrev a_watch : Watch
a_watch = record { since = 0; until = 0; carrier = false; told = 0 }

pub loop-k-preserved : goal.loop-k-preserved
loop-k-preserved c =
    let k = c.loop-k.k in
    let inv = c.loop-k.invariant in
    let test = c.loop-k-test.true in
    let many = inv.apart.senders in
    let heard = inv.apart.receivers in
    let watched = inv.apart.watches in
    let len = c.loop-k.auto.senders in
    let in_it : k < length c.args.of.now.stations.items = omega (arith, test, many, len) in
    let one = inv.apart.each k a_watch c.index-senders-k.result c.index-receivers-k.result in_it in
    let now = c.bring_one.ensures in
    let w' = c.bring_one.new.watch in
    let at = now.since in
    let kept = now.until in
    let late = one.until in
    let early = one.since in
    let within = one.within in
    let lw : k < length c.loop-k.watches = omega (arith, in_it, watched) in
    let ls : k < length c.loop-k.senders = omega (arith, in_it, many) in
    let lk : k < length c.loop-k.receivers = omega (arith, in_it, heard) in
    record {
      apart = stand_set c.args.of.now c.args.from c.args.u k c.args.lines.now c.loop-k.watches c.loop-k.senders c.loop-k.receivers w' c.bring_one.new.sender c.bring_one.new.receiver ls inv.apart
          (record {
            behind = now.behind;
            since = omega (arith, at);
            until = omega (arith, kept, late);
            within = omega (arith, kept, within, early, at);
            still = λ h. absurd (omega (arith, h, at));
          });
      still = λ i w s r h. each_set (λ i w s r. w.since < w.until → IsStillBy w s r) (length c.args.of.now.stations.items) k c.loop-k.watches c.loop-k.senders c.loop-k.receivers
          w' c.bring_one.new.sender c.bring_one.new.receiver lw ls lk
          (λ i w s r h e. inv.still i w s r h)
          (λ on. now.still (inv.still k a_watch c.index-senders-k.result c.index-receivers-k.result in_it (omega (arith, on, at, kept, early))))
          i w s r h;
      since = below_set (λ (w : Watch). w.since ≡ c.args.u) k c.loop-k.watches w' lw (λ i w h. inv.since i w h) at;
      piece_len = c.bring_one.auto.piece ∙ inv.piece_len;
      left = λ e room h covers.
          covers_less e (length c.args.of.now.stations.items) k c.loop-k.watches c.loop-k.senders c.loop-k.receivers w' c.bring_one.new.sender c.bring_one.new.receiver in_it lw ls lk
          a_watch c.index-senders-k.result c.index-receivers-k.result room (now.left e h) (inv.left e room h covers);
    }
