use Rattle.std.proofs.Common.{◌≡◌, ◌++◌, ◌∷◌, [], ℕ, All, length, eqb-true, refl, inl, inr, ap, sym, subst, ◌∙◌, arith}
use Rattle.std.proofs.lemmas.List.Elements.{All-cons, All-nil, All-same}
use Rattle.layout.specs.Among.{IsAmong}
use Rattle.layout.specs.declared.ways.Attachment.TheVariants.{Station}
use Rattle.layout.specs.declared.ways.Way.TheVariants as way
use Rattle.path_checker.proofs.ShortWalks.{walk_short}
use Rattle.frame_table.specs.Led.{IsLed, StandsThere}
use Rattle.frame_table.proofs.WaysFound.{left_none, left_on}
use Rattle.frame_table.proofs.routes.spread_on.Goals as goal

pub loop-turn-init : goal.loop-turn-init
loop-turn-init c =
    let l = c.args.layout.now in
    let first = c.args.first in
    let heads = c.push.new.self.items in
    let pushed : heads ≡ first ∷ [] = c.in_ok-push.ensures.items ∙ ap (λ xs. xs ++ first ∷ []) c.new-heads.ensures.items in
    record {
      routes = λ a led before. before;
      heads = λ a led. All-same (IsLed l a way.Cable) heads (first ∷ []) pushed (All-cons (IsLed l a way.Cable) first [] led (All-nil (IsLed l a way.Cable)));
      stand = All-same (StandsThere l) heads (first ∷ []) pushed (All-cons (StandsThere l) first [] c.requires.first (All-nil (StandsThere l)));
      left = λ b taps low walk other. inr (record { from = first; among = subst (λ xs. IsAmong first xs) (sym pushed) (inl refl); rest = taps; leads = walk; other = other; short = omega arith });
    }

pub spread_all-requires-clause-heads : goal.spread_all-requires-clause-heads
spread_all-requires-clause-heads c =
    All-same (StandsThere c.args.layout.now) c.as_slice.result.now c.loop-turn.heads.items c.as_slice.ensures.value c.loop-turn.invariant.stand

pub loop-turn-preserved : goal.loop-turn-preserved
loop-turn-preserved c =
    let l = c.args.layout.now in
    let heads : (a : ℕ) → IsLed l a way.Cable c.args.first → All (IsLed l a way.Cable) c.as_slice.result.now =
    λ a led. All-same (IsLed l a way.Cable) c.as_slice.result.now c.loop-turn.heads.items c.as_slice.ensures.value (c.loop-turn.invariant.heads a led) in
    record {
      routes = λ a led before. c.in_ok-heads.ensures.routes a (heads a led) (c.loop-turn.invariant.routes a led before);
      heads = λ a led. c.in_ok-heads.ensures.next a (heads a led);
      stand = c.in_ok-heads.ensures.stand;
      left = λ b taps low walk other.
          left_on l c.loop-turn.heads.items c.in_ok-heads.heads.items (length c.loop-turn.routes) c.loop-turn.routes c.spread_all.new.routes b c.loop-turn._turn (length taps) (omega (arith, low, c.loop-turn.auto.routes))
          c.in_ok-heads.ensures.kept
          (λ h p among step. c.in_ok-heads.ensures.done h p (subst (λ xs. IsAmong h xs) (sym c.as_slice.ensures.value) among) step)
          (c.loop-turn.invariant.left b taps low walk other);
    }

pub returns-then-is_empty-clause-found : goal.returns-then-is_empty-clause-found
returns-then-is_empty-clause-found c = λ b taps low walk other.
    let heads = c.loop-turn.heads in
    let none : heads.len ≡ 0 = eqb-true heads.len 0 (sym c.is_empty.ensures ∙ c.if-is_empty.true) in
    left_none c.args.layout.now heads.items c.loop-turn.routes b c.loop-turn._turn (length taps) (omega (arith, none, heads.ok.0)) (c.loop-turn.invariant.left b taps low walk other)

pub returns-clause-found : goal.returns-clause-found
returns-clause-found c = λ b taps low walk other.
    elim (c.loop-turn.invariant.left b taps low walk other) [
      | inl found ↦ found
      | inr left ↦ absurd (omega (arith, left.short, walk_short c.args.layout.now c.requires.sound way.Cable c.args.first.stop.tap taps (Station b) walk, c.loop-turn-test.false))
    ]
