use Rattle.std.proofs.Common.{◌≡◌, true, false, All, sym, subst, ◌∙◌, arith}
use Rattle.mac_transmit.specs.Sender.{Sender, is_sending}
use Rattle.repeater_core.specs.Step.{RepeaterDevice}
use Rattle.repeater_core.specs.declared.modes.Mode.TheVariants as mode
use Rattle.net_step.proofs.QuietAndKept.{IsStillKept, TellsQuiet, not_told, quiet_as_told}
use Rattle.net_step.proofs.plain.PlainNet.quiet.Goals as goal
use Rattle.net_step.proofs.plain.PlainNet.quiet.Goals.{then-not-none_sends-via-then-not-none_sends, then-not-none_sends-via-else-not-none_sends+then-not-all_still}

pub returns-then-self : goal.returns-then-self
returns-then-self c = λ n st. not_told n c.args.self.now st (λ q.
    let p = subst TellsQuiet (sym c.self.view_is) q in
    let over = p.settled in
    let late = c.if-self.true in
    omega (arith, over, late))

pub returns-then-not-none_sends : goal.returns-then-not-none_sends
returns-then-not-none_sends c = λ n st. not_told n c.args.self.now st (λ q.
    let p = subst TellsQuiet (sym c.self.view_is) q in
    elim c.then-not-none_sends.branch [
      | then-not-none_sends-via-then-not-none_sends w ↦
          let none : c.none_sends.result ≡ true = c.none_sends.ensures.1 (subst (All (λ (s : Sender). is_sending s.phase ≡ false)) (sym c.deref.ensures.value) p.senders) in
          let some : c.none_sends.result ≡ false = w.if-not-none_sends.true in
          let both : false ≡ true = sym some ∙ none in
          cc
      | then-not-none_sends-via-else-not-none_sends+then-not-all_still w ↦
          let all : w.all_still.result ≡ true = w.all_still.ensures.1 (subst (All IsStillKept) (sym w.deref-else-not-none_sends.ensures.value) p.receivers) in
          let some : w.all_still.result ≡ false = w.if-not-all_still.true in
          let both : false ≡ true = sym some ∙ all in
          cc
    ])

pub returns : goal.returns
returns c = λ n st.
    let told = quiet_as_told n c.args.self.now st in (
      (λ idle. told.0 (subst TellsQuiet c.self.view_is (record {
        settled = (let early = c.if-self.false in omega (arith, early));
        senders = subst (All (λ (s : Sender). is_sending s.phase ≡ false)) c.deref.ensures.value (c.none_sends.ensures.0 c.if-not-none_sends.false);
        receivers = subst (All IsStillKept) c.deref-else-not-none_sends.ensures.value (c.all_still.ensures.0 c.if-not-all_still.false);
        repeaters = subst (All (λ (r : RepeaterDevice). r.mode ≡ mode.Idle)) c.deref-2.ensures.value (c.all_idle.ensures.0 idle);
      }))),
      (λ q.
          let p = subst TellsQuiet (sym c.self.view_is) (told.1 q) in
          c.all_idle.ensures.1 (subst (All (λ (r : RepeaterDevice). r.mode ≡ mode.Idle)) (sym c.deref-2.ensures.value) p.repeaters)),
    )
