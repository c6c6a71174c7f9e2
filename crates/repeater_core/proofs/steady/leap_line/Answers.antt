use Rattle.std.proofs.Common.{◌≡◌, suc, ◌-◌, length, map, sym, ap, ap₂, subst, ◌∙◌, arith}
use Rattle.std.proofs.lemmas.List.{length-map}
use Rattle.std.specs.Fn.{iterate}
use Rattle.manchester_line.specs.Line.{is_signal}
use Rattle.repeater_core.specs.Delayed.{Delayed, moved_on, oldest}
use Rattle.repeater_core.specs.Modes.{IsMode}
use Rattle.repeater_core.specs.Steady.{line_later, mode_on, sent_text, texted}
use Rattle.repeater_core.proofs.steady.leap_line.Goals as goal

pub loop-left-preserved : goal.loop-left-preserved
loop-left-preserved c =
    let i = c.loop-left.invariant in
    let left = c.loop-left.left in
    let less = left - 1 in
    let more : left ≡ suc less = omega arith in
    let mode = c.loop-left.mode in
    let hears = c.args.hears.now in
    let flags = map is_signal c.args.decided.now in
    let next : c.mode_on-mode.result ≡ mode_on mode = c.mode_on-mode.ensures in
    let text : c.sent_text.result ≡ sent_text (mode_on mode) hears = c.sent_text.ensures ∙ ap (λ m. sent_text m hears) next in
    let row : c.set_text.new.decided ≡ texted flags (sent_text (mode_on mode) hears) = c.set_text.ensures ∙ ap₂ texted i.flags text in
    let ports : c.step.new.self.ports ≡ c.loop-left.line.ports = ap (λ (d : Delayed). d.ports) c.step.ensures.state in
    let long : length c.set_text.new.decided ≡ length c.loop-left.decided =
    ap length c.set_text.ensures ∙ length-map (map is_signal c.loop-left.decided) _ ∙ length-map c.loop-left.decided is_signal in
    record {
      decided_len = long ∙ i.decided_len ∙ sym ports;
      emits_len = (let a = i.emits_len in omega arith);
      flags = ap (map is_signal) row ∙ i.texts 0 (omega arith);
      modes = λ k b. subst (λ m. IsMode (iterate mode_on k m)) (sym next) (i.modes (suc k) (omega arith));
      texts = λ k b. subst (λ m. map is_signal (texted flags (sent_text (mode_on (iterate mode_on k m)) hears)) ≡ flags) (sym next) (i.texts (suc k) (omega arith));
      mode_then = ap (iterate mode_on less) next ∙ sym (ap (λ n. iterate mode_on n mode) more) ∙ i.mode_then;
      line_then =
          ap₂ (λ m d. line_later hears flags less m d) next (c.step.ensures.state ∙ ap (λ ds. moved_on ds c.loop-left.line) row)
          ∙ sym (ap (λ n. line_later hears flags n mode c.loop-left.line) more) ∙ i.line_then;
      within = (let w = i.within in omega arith);
      before = λ some.
          let more' : left - 1 ≡ suc (less - 1) = omega arith in
          ap₂ (λ m d. line_later hears flags (less - 1) m d) next (c.step.ensures.state ∙ ap (λ ds. moved_on ds c.loop-left.line) row)
          ∙ sym (ap (λ n. line_later hears flags n mode c.loop-left.line) more') ∙ i.before (omega arith);
      emitted = λ none some.
          let last : left - 1 ≡ 0 = omega arith in
          c.step.ensures.emits ∙ ap oldest (sym (ap (λ n. line_later hears flags n mode c.loop-left.line) last) ∙ i.before (omega arith));
      sent = λ _. row ∙ sym (ap (λ m. texted flags (sent_text m hears)) next);
    }
