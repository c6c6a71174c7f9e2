use Rattle.std.proofs.Common.{◌≡◌, get_or, inl, inr, sym, subst, ◌∙◌, arith}
use Rattle.std.proofs.lemmas.List.{get_or_read}
use Rattle.std.proofs.lemmas.Bool.{cases_lt}
use Rattle.repeater_core.specs.Calm.{IsCalm}
use Rattle.repeater_core.specs.Step.{RepeaterDevice}
use Rattle.net_step.proofs.LeapsStand.{calm_for_fewer}
use Rattle.net_step.proofs.leaps.calm_relays.Goals as goal

pub loop-relay-preserved : goal.loop-relay-preserved
loop-relay-preserved c = record {
  within = let m = c.min-calm.ensures in let w = c.loop-relay.invariant.within in omega (arith, m, w);
  so_far = λ q d h.
      let m = c.min-calm.ensures in
      elim (cases_lt q c.loop-relay.relay-index) [
        | inl before ↦ calm_for_fewer c.loop-relay.calm c.min-calm.result (get_or c.args.relays.now q d) (omega (arith, m)) (c.loop-relay.invariant.so_far q d before)
        | inr now ↦
            let test = c.loop-relay-test.true in
            let is : c.relay-item.result ≡ get_or c.args.relays.now c.loop-relay.relay-index d = get_or_read c.args.relays.now c.loop-relay.relay-index c.relay-item.result (omega (arith, test)) c.relay-item.is d in
            let e : c.loop-relay.relay-index ≡ q = omega (arith, h, now) in
            subst (λ k. IsCalm (get_or c.args.relays.now k d) c.min-calm.result) e
            (subst (λ (x : RepeaterDevice). IsCalm x c.min-calm.result) is (calm_for_fewer c.calm.result c.min-calm.result c.relay-item.result (omega (arith, m)) c.calm.ensures))
      ];
}
