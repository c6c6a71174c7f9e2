use Rattle.std.proofs.Common.{◌≡◌, ◌+◌, ◌<◌, ◌≤◌, All, false, length, replicate, get_or, sym, subst, ap, ◌∙◌, arith}
use Rattle.std.proofs.lemmas.List.{length-replicate}
use Rattle.manchester_line.specs.declared.Sym.TheVariants.{Idle}
use Rattle.mac_transmit.specs.Sender.{Sender}
use Rattle.mac_transmit.specs.Calm.{after_all, calm_of}
use Rattle.kept_devices.proofs.ChangedElements.{All-take-set, All-drop-set, All-drop-first}
use Rattle.net_step.specs.CalmNets.{WaitsFor}
use Rattle.net_step.proofs.LeapsStand.{all_idle, map_step}
use Rattle.net_step.proofs.leaps.leap_senders.Goals as goal

pub leap-requires-clause-calm : goal.leap-requires-clause-calm
leap-requires-clause-calm c =
    let d = c.sender-item.result in
    let test = c.loop-sender-test.true in
    (All-drop-first (WaitsFor c.args.count) c.loop-sender.senders c.loop-sender.sender-index d (omega (arith, test, c.loop-sender.auto.senders)) c.loop-sender.invariant.calm).number

pub loop-sender-preserved : goal.loop-sender-preserved
loop-sender-preserved c =
    let k = c.loop-sender.sender-index in
    let ss = c.loop-sender.senders in
    let d = c.sender-item.result in
    let s' = c.leap.new.self in
    let inv = c.loop-sender.invariant in
    let test = c.loop-sender-test.true in
    let h : k < length ss = omega (arith, test, c.loop-sender.auto.senders) in
    let idle = replicate c.args.count Idle in
    record {
      stepped = All-take-set (λ (s : Sender). s.t ≡ c.args.t + c.args.count) ss k s' h inv.stepped (c.leap.ensures.time ∙ ap (λ t. t + c.args.count) (All-drop-first (λ (s : Sender). s.t ≡ c.args.t) ss k d h inv.waiting));
      waiting = All-drop-set (λ (s : Sender). s.t ≡ c.args.t) ss k s' inv.waiting;
      calm = All-drop-set (WaitsFor c.args.count) ss k s' inv.calm;
      states = map_step (λ (s : Sender). after_all s idle) ss k s' d h (c.leap.ensures.state idle (all_idle c.args.count) (length-replicate c.args.count Idle)) ∙ inv.states;
    }
