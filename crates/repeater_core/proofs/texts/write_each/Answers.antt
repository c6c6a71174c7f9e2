use Rattle.std.proofs.Common.{◌≡◌, suc, ◌+◌, ◌-◌, ◌<◌, ◌++◌, [], ◌∷◌, length, take, drop, get_or, refl, sym, ap, ap₂, subst, ◌∙◌, append_assoc, drop-cons, arith}
use Rattle.std.proofs.lemmas.Grind.{common_steps, take-set_at}
use Rattle.std.specs.Fn.{iterate}
use Rattle.manchester_line.specs.declared.Sym.TheVariants.{Idle}
use Rattle.repeater_core.specs.Modes.{IsMode}
use Rattle.repeater_core.specs.Steady.{mode_on}
use Rattle.repeater_core.specs.Classes.{text_for, texts_after}
use Rattle.repeater_core.proofs.SteadyLeap.{same_at}
use Rattle.repeater_core.proofs.texts.write_each.Goals as goal

pub loop-k-preserved : goal.loop-k-preserved
loop-k-preserved c =
    let i = c.loop-k.invariant in
    let k = c.loop-k.k in
    let mode = c.loop-k.mode in
    let heard = c.args.heard.now in
    let l : k < length heard = omega arith in
    let m : k < length c.loop-k.sent = (let n = i.len in omega arith) in
    let rest = drop (k + 1) heard in
    let one : suc k ≡ k + 1 = omega arith in
    let more : drop k heard ≡ get_or heard k Idle ∷ rest = drop-cons heard k Idle l ∙ ap (λ n. get_or heard k Idle ∷ drop n heard) one in
    let next : c.mode_on-mode.result ≡ mode_on mode = c.mode_on-mode.ensures in
    let text : c.text_for.result ≡ text_for (mode_on mode) (get_or heard k Idle) = c.text_for.ensures ∙ ap₂ text_for next (same_at k heard heard _ Idle l refl) in
    let left = length heard - (k + 1) in
    let less : length heard - k ≡ suc left = omega arith in
    record {
      len = grind (arith, common_steps);
      modes = λ j b. subst (λ m. IsMode (iterate mode_on j m)) (sym next) (i.modes (suc j) (omega arith));
      mode_then = ap (iterate mode_on left) next ∙ sym (ap (λ n. iterate mode_on n mode) less) ∙ i.mode_then;
      texts =
          ap₂ (λ xs m. xs ++ texts_after m rest) (take-set_at c.loop-k.sent k (k + 1) c.text_for.result (omega arith) m) next
          ∙ append_assoc (take k c.loop-k.sent) (c.text_for.result ∷ []) (texts_after (mode_on mode) rest)
          ∙ ap (λ t. take k c.loop-k.sent ++ t ∷ texts_after (mode_on mode) rest) text
          ∙ sym (ap (λ hs. take k c.loop-k.sent ++ texts_after mode hs) more) ∙ i.texts;
    }
