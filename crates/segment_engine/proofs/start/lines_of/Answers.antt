use Rattle.std.proofs.Common.{◌≡◌, ℕ, ◌+◌, ◌-◌, ◌<◌, ◌++◌, inl, inr, List, [], ◌∷◌, length, length-append, get_or, subst, sym, ap, ◌∙◌, arith}
use Rattle.std.proofs.lemmas.Bool.{cases_lt}
use Rattle.std.proofs.lemmas.List.{get_or_append_left, get_or-append_right}
use Rattle.tap_lines.specs.TapLines.{TapLine}
use Rattle.segment_engine.specs.NewLines.{IsNewLine, new_delay}
use Rattle.segment_engine.proofs.start.lines_of.Goals as goal

-- what holds of each of the lines so far and of one more
one_more : (P : ℕ → TapLine → Type 0) (xs : List TapLine) (x : TapLine) (r : ℕ) → length xs ≡ r → ((q : ℕ) (d : TapLine) → q < r → P q (get_or xs q d)) → P r x →
    (q : ℕ) (d : TapLine) → q < r + 1 → P q (get_or (xs ++ x ∷ []) q d)
one_more P xs x r size before now q d h = elim (cases_lt q r) [
  | inl low ↦ subst (P q) (sym (get_or_append_left xs (x ∷ []) d q (omega (arith, low, size)))) (before q d low)
  | inr high ↦
      let last : q - r ≡ 0 = omega (arith, h) in
      let same : r ≡ q = omega (arith, h, high) in
      subst (P q) (sym (get_or-append_right xs (x ∷ []) r q d size high ∙ ap (λ i. get_or (x ∷ []) i d) last)) (subst (λ j. P j x) same now)
]

pub loop-r-preserved : goal.loop-r-preserved
loop-r-preserved c =
    let r = c.loop-r.r in
    let old = c.loop-r.lines.items in
    let one = c.in_ok-new.field-0 in
    let size = c.loop-r.invariant.count in
    let made = c.in_ok-new.ensures in
    let L = c.args.lookahead in
    let P = λ (q : ℕ) (l : TapLine). IsNewLine (get_or c.args.places.now q 0) (new_delay c.args.stations L c.args.edges.now c.args.delays.now q) c.from-width.result L l in
    let pushed : c.push.new.self.items ≡ old ++ one ∷ [] = c.in_ok-push.ensures.items in
    let delay = c.delay_of-delay.ensures in
    let wide = c.from-width.ensures in
    let wait = c.from.ensures in
    let window = c.from-in-loop-r.ensures in
    let far = c.saturating_sub-far.ensures in
    let least = c.max-backlog.ensures in
    let back = made.backlog in
    let room = made.room in
    let now : P r one = record {
      at_place = made.place;
      with_delay = made.delay ∙ c.delay_of-delay.ensures;
      keeps = omega (arith, back, least, far, wide, wait, window, delay);
      from_first = made.base;
      empty = made.symbols;
      roomy = omega (arith, back, room);
      fits = omega (arith, back, room, least, far, wide, wait, window);
    } in
    record {
      count = ap length pushed ∙ length-append old (one ∷ []) ∙ ap (λ n. n + 1) size;
      each = λ q d h. subst (λ (xs : List TapLine). P q (get_or xs q d)) (sym pushed) (one_more P old one r size c.loop-r.invariant.each now q d h);
    }
