use Rattle.std.proofs.Common.{All, List, [], ◌∷◌, ℕ, sym, subst, ◌∙◌}
use Rattle.std.proofs.lemmas.List.Elements.{All-append, All-cons, All-nil}
use Rattle.line_probe.specs.Taps.{HasTap, IsWordOf}
use Rattle.line_probe.specs.declared.tap.Tap.{Tap}
use Rattle.netsim.proofs.TapsOfWords.{first_unknown, named_next}
use Rattle.netsim.proofs.aim.taps_of.Goals as goal

pub returns-in_default-clause-stop : goal.returns-in_default-clause-stop
returns-in_default-clause-stop c =
    first_unknown c.args.network.now c.args.words.now c.loop-word.word-index c.word-item.result c.as_str-in_default.result.now c.loop-word.taps c.loop-word-test.true (c.as_str-in_default.ensures ∙ c.word-item.is)
    c.loop-word.invariant.named
    (λ tap named. c.in_default.ensures.none tap (subst (λ (w : List ℕ). IsWordOf c.args.network.now w tap) (c.as_str-in_default.ensures ∙ sym (c.as_bytes.ensures.value ∙ c.as_str.ensures)) named))

pub loop-word-preserved : goal.loop-word-preserved
loop-word-preserved c = record {
  named = named_next c.args.network.now c.args.words.now c.loop-word.word-index c.word-item.result c.as_bytes.result.now c.loop-word.taps c.push.new.self c.in-Some.tap c.loop-word-test.true
      (c.as_bytes.ensures.value ∙ c.as_str.ensures ∙ c.word-item.is) c.loop-word.invariant.named c.in-Some.ensures.some c.in-Ok.ensures.ok;
  there = subst (λ (ts : List Tap). All (HasTap c.args.network.now) ts) (sym c.in-Ok.ensures.ok)
      (All-append (HasTap c.args.network.now) c.loop-word.taps (c.in-Some.tap ∷ []) c.loop-word.invariant.there
      (All-cons (HasTap c.args.network.now) c.in-Some.tap [] c.in-Some.ensures.has (All-nil (HasTap c.args.network.now))));
}
