use Rattle.std.proofs.Common.{◌≡◌, ◌+◌, ◌<◌, false, replicate, length, get_or, length-set, refl, sym, subst, ap, ◌∙◌, arith}
use Rattle.std.proofs.lemmas.List.{get_or-set_other, get_or_default, length-replicate}
use Rattle.manchester_line.specs.declared.Sym.TheVariants.{Idle}
use Rattle.mac_receive.specs.KeptReceiver.{KeptReception, Hears}
use Rattle.mac_transmit.specs.Sender.{Sender}
use Rattle.mac_transmit.specs.Calm.{after_all}
use Rattle.segment_engine.specs.declared.apart.Watch.{Watch}
use Rattle.segment_engine.specs.QuietHalfBits.{HasLeapt}
use Rattle.segment_engine.proofs.ChangedStations.{each_set}
use Rattle.segment_engine.proofs.SteadyReceivers.{all_idle}
use Rattle.segment_engine.proofs.quiet.leap_all.Goals as goal

pub loop-k-preserved : goal.loop-k-preserved
loop-k-preserved c =
    let k = c.loop-k.k in
    let t = c.args.t in
    let n = c.args.count in
    let u = t + n in
    let ws = c.loop-k.watches in
    let ss = c.loop-k.senders in
    let ks = c.loop-k.receivers in
    let ss0 = c.args.senders.now in
    let ks0 = c.args.receivers.now in
    let inv = c.loop-k.invariant in
    let test = c.loop-k-test.true in
    let many = c.requires.many in
    let watched = c.requires.watched in
    let wlen = inv.watched in
    let slen = inv.senders_len in
    let klen = inv.receivers_len in
    let ds = c.index-senders-k.result in
    let dk = c.index-receivers-k.result in
    let s' = c.pass.new.self in
    let k' = c.leap_quiet.new.self in
    let dw : Watch = record { since = 0; until = 0; carrier = false; told = 0 } in
    let w' : Watch = record { since = u; until = u; carrier = (get_or ws k dw).carrier; told = 18446744073709551615 } in
    let ls : k < length ss = omega (arith, test, slen) in
    let lw : k < length ws = omega (arith, ls, slen, wlen, watched) in
    let lk : k < length ks = omega (arith, ls, slen, klen, many) in
    let small = c.requires.in_time in
    let same_s : (d : Sender) → get_or ss k ds ≡ get_or ss0 k d = λ d. get_or_default ss k ds d ls ∙ inv.senders_left k d (omega arith) in
    let same_k : (d : KeptReception) → get_or ks k dk ≡ get_or ks0 k d = λ d. get_or_default ks k dk d lk ∙ inv.receivers_left k d (omega arith) in
    record {
      watched = length-set ws k w' ∙ wlen;
      senders_len = length-set ss k s' ∙ slen;
      receivers_len = length-set ks k k' ∙ klen;
      done = λ i x y z p q l.
          each_set (λ i w s r. HasLeapt t n w (get_or ss0 i y) s (get_or ks0 i p) r) (k + 1) k ws ss ks w' s' k' lw ls lk (λ i x z q l other. inv.done i x y z p q (omega (arith, l, other)))
          (record {
            since = refl;
            until = refl;
            told = omega (arith, small);
            state = c.pass.ensures.state (replicate n Idle) (all_idle n) (length-replicate n Idle) ∙ ap (λ s. after_all s (replicate n Idle)) (same_s y);
            phase = c.pass.ensures.phase ∙ ap (λ (s : Sender). s.phase) (same_s y);
            time = c.pass.ensures.time ∙ ap (λ (s : Sender). s.t + n) (same_s ds) ∙ ap (λ m. m + n) (c.requires.times k ds (omega (arith, ls, slen)));
            receiver = λ r hears. c.leap_quiet.ensures.state r (subst (λ (x : KeptReception). Hears r x) (sym (same_k p)) hears);
            steps = c.leap_quiet.ensures.steps ∙ ap (λ (x : KeptReception). x.steps + n) (same_k dk) ∙ ap (λ m. m + n) (c.requires.steps k dk (omega (arith, lk, klen)));
          })
          i x z q l;
      senders_left = λ i d l. get_or-set_other ss k i s' d (λ e. omega (arith, e, l)) ∙ inv.senders_left i d (omega (arith, l));
      receivers_left = λ i d l. get_or-set_other ks k i k' d (λ e. omega (arith, e, l)) ∙ inv.receivers_left i d (omega (arith, l));
    }
