use Rattle.std.proofs.Common.{◌≡◌, ℕ, zero, suc, ◌<◌, Bool, false, inl, inr, get_or, refl, sym, subst, ap, ◌∙◌, arith}
use Rattle.std.specs.Prelude.{IsTrue, ◌↔◌}
use Rattle.std.proofs.lemmas.Bool.{cases_lt, false≢true}
use Rattle.std.proofs.lemmas.List.{get_or_default}
use Rattle.mac_receive.specs.KeptReceiver.{KeptReception}
use Rattle.mac_transmit.specs.Sender.{Sender, is_sending}
use Rattle.segment_engine.specs.QuietHalfBits.{IsCalmFor}
use Rattle.segment_engine.specs.SteadyPieces.{IsCalmAs}
use Rattle.segment_engine.proofs.QuietStations.{calm_for_fewer}
use Rattle.segment_engine.proofs.quiet.calm_half_bits.Goals as goal

at_rest : (receiving : Bool) (halves : ℕ) → (IsTrue receiving ↔ (0 < halves)) → receiving ≡ false → halves ≡ 0
at_rest receiving zero is none = refl
at_rest receiving (suc n) is none = absurd (false≢true (sym none ∙ is.1 (omega arith)))

pub loop-k-preserved : goal.loop-k-preserved
loop-k-preserved c =
    let k = c.loop-k.k in
    let ss = c.args.senders.now in
    let ks = c.args.receivers.now in
    let inv = c.loop-k.invariant in
    let test = c.loop-k-test.true in
    let many = c.requires.many in
    let m = c.before_change-calm.result in
    let now = c.before_change-calm.ensures in
    let fewer = now.within in
    let upto = inv.within in
    let s = c.index-senders-k-in-loop-k.result in
    let same : (d : Sender) → s ≡ get_or ss k d = λ d. c.index-senders-k-in-loop-k.is ∙ get_or_default ss k s d test in
    let calm : IsCalmFor m s = record {
      not_sending = ap (λ (x : Sender). is_sending x.phase) (same s ∙ get_or_default ss k s c.index-senders-k.result test ∙ sym c.index-senders-k.is) ∙ sym c.is_sending.ensures ∙ c.if-is_sending.false;
      calm = now.calm;
    } in
    let r = c.index-receivers-k.result in
    record {
      within = omega (arith, fewer, upto);
      calm = λ q d l. elim (cases_lt q k) [
        | inl less ↦ calm_for_fewer c.loop-k.calm m (get_or ss q d) fewer (inv.calm q d less)
        | inr last ↦ let e : k ≡ q = omega (arith, l, last) in subst (λ j. IsCalmFor m (get_or ss j d)) e (subst (IsCalmFor m) (same d) calm)
      ];
      rest = λ q d l. elim (cases_lt q k) [
        | inl less ↦ inv.rest q d less
        | inr last ↦
            let e : k ≡ q = omega (arith, l, last) in
            subst (λ j. (get_or ks j d).halves ≡ 0) e
            (ap (λ (x : KeptReception). x.halves) (sym (c.index-receivers-k.is ∙ get_or_default ks k r d (omega (arith, test, many)))) ∙ at_rest c.is_receiving.result r.halves c.is_receiving.ensures c.if-is_receiving.false)
      ];
      greatest = λ n few all. now.greatest n (inv.greatest n few all) (subst (IsCalmAs n false) (sym (same s)) (all k s test).calm);
    }
