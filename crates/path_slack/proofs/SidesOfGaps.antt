-- The stations on the two sides of a piece of cable, and the pairs over it.
use Rattle.std.proofs.Common.{◌≡◌, refl, sym, ◌∙◌, ap, subst, inl, inr, ℕ, ◌+◌, ◌-◌, ◌*◌, ◌<◌, ◌≤◌, List, [], ◌∷◌, ◌++◌, length, get_or, take, Option, None, Some, arith}
use Rattle.std.proofs.lemmas.List.{take_more, take_all}
use Rattle.std.proofs.lemmas.Option.{same_Some}
use Rattle.mac_parameters.specs.Distances.{distance}
use Rattle.mac_parameters.specs.Parameters.{greatest_place}
use Rattle.layout.specs.declared.lines.Layout.{Layout}
use Rattle.layout.specs.declared.ways.Attachment.{Attachment}
use Rattle.layout.specs.declared.ways.Way.TheVariants as way
use Rattle.layout.specs.Among.{IsAmong}
use Rattle.layout.specs.Paths.{part_by, IsStep, at_of}
use Rattle.layout.specs.Sound.{IsSound}
use Rattle.layout.proofs.ItemsOfLists.{among_more, among_end, among_last, among_at}
use Rattle.layout.proofs.SoundTaps.{at_low}
use Rattle.path_checker.specs.declared.far.Far.{Far}
use Rattle.path_checker.specs.Far.{IsReach, IsFarthest, farther_of, lengthened}
use Rattle.path_checker.proofs.FarthestStation.{farthest_same, farther_both, IsAfter, after_lengthened, reach_low, far_low}
use Rattle.path_checker.proofs.ShortWalks.{has_room}
use Rattle.path_slack.specs.declared.branches.Branch.{Branch}
use Rattle.path_slack.specs.declared.worst.FarthestPair.{FarthestPair}
use Rattle.path_slack.specs.Crossings.{Rises, OverPiece, IsCrossed}
use Rattle.path_slack.specs.Branches.{IsBranch, AreBranchesOf}
use Rattle.path_slack.specs.Pairs.{pair_over, IsWorstPair}
use Rattle.path_slack.proofs.NoRound.{no_round}
use Rattle.path_slack.proofs.WalksJoined.{crossed_turned}
use Rattle.path_slack.proofs.WorstPairs.{worst_same, IsOneWay, IsByBoth, worst_over_both}

-- what the branches reach whose taps S takes, so many half bits farther on
pub record IsFromSide (l : Layout) (S : Attachment → ℕ → Type 0) (bs : List Branch) (n s : ℕ) : Type 0 where
  pub branch : Branch
  pub among : IsAmong branch bs
  pub by : ℕ
  pub side : S branch.tap by
  pub after : IsAfter by (IsReach l way.Repeater branch.tap) n s

-- below the place, and at it or above
abbrev pub Below : Layout → ℕ → Attachment → ℕ → Type 0
Below l high t k = (at_of l t < high) × (k ≡ high - at_of l t)

abbrev pub Above : Layout → ℕ → Attachment → ℕ → Type 0
Above l high t k = (high ≤ at_of l t) × (k ≡ at_of l t - high)

pub side_none : (l : Layout) (S : Attachment → ℕ → Type 0) → IsFarthest (IsFromSide l S []) None
side_none l S = λ n s h. h.among

module _ (l : Layout) (S : Attachment → ℕ → Type 0) (bs : List Branch) (k : ℕ) (d : Branch) (low : k < length bs) where
  side_before : (n s : ℕ) → IsFromSide l S (take k bs) n s → IsFromSide l S (take k bs ++ get_or bs k d ∷ []) n s
  side_before n s h = record { branch = h.branch; among = among_more h.branch (get_or bs k d) (take k bs) h.among; by = h.by; side = h.side; after = h.after }

  pub side_skip : (best : Option Far) → ((by : ℕ) → S (get_or bs k d).tap by → ⊥) → IsFarthest (IsFromSide l S (take k bs)) best → IsFarthest (IsFromSide l S (take (k + 1) bs)) best
  side_skip best not h =
      subst (λ (xs : List Branch). IsFarthest (IsFromSide l S xs) best) (sym (take_more bs k d low))
      (farthest_same (IsFromSide l S (take k bs)) (IsFromSide l S (take k bs ++ get_or bs k d ∷ [])) side_before
      (λ n s v. elim (among_last v.branch (get_or bs k d) (take k bs) v.among) [
        | inl before ↦ record { branch = v.branch; among = before; by = v.by; side = v.side; after = v.after }
        | inr same ↦ absurd (not v.by (subst (λ (b : Branch). S b.tap v.by) (sym same) v.side))
      ]) best h)

  pub side_add : (by : ℕ) (best on far : Option Far) → S (get_or bs k d).tap by → ((j : ℕ) → S (get_or bs k d).tap j → j ≡ by) → IsBranch l (get_or bs k d) → IsFarthest (IsFromSide l S (take k bs)) best
      → on ≡ lengthened by (get_or bs k d).far → far ≡ farther_of best on → IsFarthest (IsFromSide l S (take (k + 1) bs)) far
  side_add by best on far side one branch h on_is far_is =
      let c : Branch = get_or bs k d in
      let here : IsFarthest (IsAfter by (IsReach l way.Repeater c.tap)) on = rw on_is (after_lengthened by (IsReach l way.Repeater c.tap) c.far branch) in
      subst (λ (xs : List Branch). IsFarthest (IsFromSide l S xs) far) (sym (take_more bs k d low))
      (rw far_is (farther_both (IsFromSide l S (take k bs)) (IsAfter by (IsReach l way.Repeater c.tap)) (IsFromSide l S (take k bs ++ c ∷ [])) side_before
      (λ n s v. record { branch = c; among = among_end c (take k bs); by = by; side = side; after = v })
      (λ n s v. elim (among_last v.branch c (take k bs) v.among) [
        | inl before ↦ inl (record { branch = v.branch; among = before; by = v.by; side = v.side; after = v.after })
        | inr same ↦ inr (own v.branch v.by n s (sym same) v.side v.after)
      ]) best on h here))
    where
      own : (b : Branch) (j n s : ℕ) → b ≡ get_or bs k d → S b.tap j → IsAfter j (IsReach l way.Repeater b.tap) n s → IsAfter by (IsReach l way.Repeater (get_or bs k d).tap) n s
      own b j n s e at after =
          let there : S (get_or bs k d).tap j = subst (λ (x : Branch). S x.tap j) e at in
          subst (λ (i : ℕ). IsAfter i (IsReach l way.Repeater (get_or bs k d).tap) n s) (one j there) (subst (λ (x : Branch). IsAfter j (IsReach l way.Repeater x.tap) n s) e after)

-- the loop's steps
module _ (l : Layout) (segment high : ℕ) (bs : List Branch) (sound : IsSound l) (of : AreBranchesOf l segment bs) where
  pub below_more : (k : ℕ) (d : Branch) (at : ℕ) (best on far : Option Far) → k < length bs → at ≡ at_of l (get_or bs k d).tap → at < high → IsFarthest (IsFromSide l (Below l high) (take k bs)) best → on ≡ lengthened (high - at) (get_or bs k d).far → far ≡ farther_of best on → IsFarthest (IsFromSide l (Below l high) (take (k + 1) bs)) far
  below_more k d at best on far low is under h on_is far_is =
      side_add l (Below l high) bs k d low (high - at) best on far (rw (← is) (under, refl)) (λ j s. s.1 ∙ ap (λ (i : ℕ). high - i) (sym is)) (of.far (get_or bs k d) (among_at bs k d low)) h on_is far_is

  pub below_skip : (k : ℕ) (d : Branch) (at : ℕ) (best : Option Far) → k < length bs → at ≡ at_of l (get_or bs k d).tap → high ≤ at → IsFarthest (IsFromSide l (Below l high) (take k bs)) best → IsFarthest (IsFromSide l (Below l high) (take (k + 1) bs)) best
  below_skip k d at best low is over h = side_skip l (Below l high) bs k d low best (λ by s. let under : at_of l (get_or bs k d).tap < high = s.0 in omega arith) h

  pub above_more : (k : ℕ) (d : Branch) (at : ℕ) (best on far : Option Far) → k < length bs → at ≡ at_of l (get_or bs k d).tap → high ≤ at → IsFarthest (IsFromSide l (Above l high) (take k bs)) best → on ≡ lengthened (at - high) (get_or bs k d).far → far ≡ farther_of best on → IsFarthest (IsFromSide l (Above l high) (take (k + 1) bs)) far
  above_more k d at best on far low is over h on_is far_is =
      side_add l (Above l high) bs k d low (at - high) best on far (rw (← is) (over, refl)) (λ j s. s.1 ∙ ap (λ (i : ℕ). i - high) (sym is)) (of.far (get_or bs k d) (among_at bs k d low)) h on_is far_is

  pub above_skip : (k : ℕ) (d : Branch) (at : ℕ) (best : Option Far) → k < length bs → at ≡ at_of l (get_or bs k d).tap → at < high → IsFarthest (IsFromSide l (Above l high) (take k bs)) best → IsFarthest (IsFromSide l (Above l high) (take (k + 1) bs)) best
  above_skip k d at best low is under h = side_skip l (Above l high) bs k d low best (λ by s. let over : high ≤ at_of l (get_or bs k d).tap = s.0 in omega arith) h

  -- no length is too great
  pub branch_fits : (k : ℕ) (d : Branch) (by : ℕ) → k < length bs → by ≤ greatest_place → (f : Far) → (get_or bs k d).far ≡ Some f → by + f.length < 4294967296
  branch_fits k d by low short f e =
      let most : f.length ≤ greatest_place * 5120 = far_low l way.Repeater (get_or bs k d).tap 5120 (get_or bs k d).far f sound (has_room l sound way.Repeater (get_or bs k d).tap) (of.far (get_or bs k d) (among_at bs k d low)) e in
      omega arith

  pub at_fits : (t : Attachment) → at_of l t ≤ greatest_place
  at_fits t = at_low l sound t

  side_low : (S : Attachment → ℕ → Type 0) → ((t : Attachment) (k : ℕ) → S t k → k ≤ greatest_place) → (xs : List Branch) (best : Option Far) → IsFarthest (IsFromSide l S xs) best → (r : Far) → best ≡ Some r → r.length < 1073741824
  side_low S short xs None h r e = absurd (cc)
  side_low S short xs (Some x) h r e =
      let same : x ≡ r = same_Some x r e in
      let by : h.0.by ≤ greatest_place = short h.0.branch.tap h.0.by h.0.side in
      let rest : h.0.after.rest ≤ greatest_place * 5120 = reach_low l way.Repeater h.0.branch.tap 5120 h.0.after.rest x.station sound (has_room l sound way.Repeater h.0.branch.tap) h.0.after.has in
      let sum : h.0.by + h.0.after.rest ≡ x.length = h.0.after.sum in
      let low : x.length < 1073741824 = omega arith in
      subst (λ (y : Far). y.length < 1073741824) same low

  pub below_low : high ≤ greatest_place → (xs : List Branch) (best : Option Far) → IsFarthest (IsFromSide l (Below l high) xs) best → (r : Far) → best ≡ Some r → r.length < 1073741824
  below_low top xs best h = side_low (Below l high) (λ t k s. let is : k ≡ high - at_of l t = s.1 in omega arith) xs best h

  pub above_low : (xs : List Branch) (best : Option Far) → IsFarthest (IsFromSide l (Above l high) xs) best → (r : Far) → best ≡ Some r → r.length < 1073741824
  above_low xs best h = side_low (Above l high) (λ t k s. let is : k ≡ at_of l t - high = s.1 in let low : at_of l t ≤ greatest_place = at_low l sound t in omega arith) xs best h

  step_over : (b c : Branch) → IsAmong b bs → IsAmong c bs → at_of l b.tap < high → high ≤ at_of l c.tap → IsStep l way.Cable b.tap c.tap
  step_over b c in_b in_c low up = record {
    different = λ e. (let same : at_of l b.tap ≡ at_of l c.tap = ap (at_of l) e in omega arith);
    part = segment;
    from = of.on b in_b;
    to = of.on c in_c;
  }

  sides_apart : (p q s : ℕ) → IsFromSide l (Below l high) bs p s → IsFromSide l (Above l high) bs q s → ⊥
  sides_apart p q s x y =
      no_round l sound way.Cable x.branch.tap y.branch.tap x.after.rest y.after.rest s (step_over x.branch y.branch x.among y.among x.side.0 y.side.0) x.after.has y.after.has

  across : (a b : ℕ) (p r q k j n : ℕ) → a < k → k ≤ b → p ≡ (k - a) + r → q ≡ (b - k) + j → p + q ≡ n → r + distance a b + j ≡ n
  across a b p r q k j n low up pe qe sum = omega arith

  one_crossed : (a b n : ℕ) → IsOneWay (IsFromSide l (Below l high) bs) (IsFromSide l (Above l high) bs) a b n → IsCrossed l way.Cable (OverPiece l segment high) a b n
  one_crossed a b n h =
      let x = h.near in
      let y = h.far in
      let p_is : h.p ≡ (high - at_of l h.near.branch.tap) + h.near.after.rest = sym h.near.after.sum ∙ ap (λ (i : ℕ). i + h.near.after.rest) h.near.side.1 in
      let q_is : h.q ≡ (at_of l h.far.branch.tap - high) + h.far.after.rest = sym h.far.after.sum ∙ ap (λ (i : ℕ). i + h.far.after.rest) h.far.side.1 in
      record {
        near = h.near.branch.tap;
        far = h.far.branch.tap;
        step = step_over h.near.branch h.far.branch h.near.among h.far.among h.near.side.0 h.far.side.0;
        over = (of.on h.near.branch h.near.among, inl (h.near.side.0, h.far.side.0));
        before = h.near.after.rest;
        after = h.far.after.rest;
        start = h.near.after.has;
        finish = h.far.after.has;
        sum = across (at_of l h.near.branch.tap) (at_of l h.far.branch.tap) h.p h.near.after.rest h.q high h.far.after.rest n h.near.side.0 h.far.side.0 p_is q_is h.sum;
      }

  -- the same steps go over the piece the other way
  piece_turned : (s t : Attachment) → IsStep l way.Cable s t → OverPiece l segment high s t → OverPiece l segment high t s
  piece_turned s t step over = (step.to ∙ sym step.from ∙ over.0, elim over.1 [ inl rises ↦ inr rises | inr falls ↦ inl falls ])

  -- a tap of the segment on a side
  on_side : (S : Attachment → ℕ → Type 0) (t : Attachment) (by rest s : ℕ) → part_by l way.Cable t ≡ Some segment → S t by → IsReach l way.Repeater t rest s → IsFromSide l S bs (by + rest) s
  on_side S t by rest s on side reach =
      let found : (b : Branch) × IsAmong b bs × (b.tap ≡ t) = of.all t on in
      record {
        branch = found.0;
        among = found.1;
        by = by;
        side = subst (λ (u : Attachment). S u by) (sym found.2) side;
        after = record { rest = rest; has = subst (λ (u : Attachment). IsReach l way.Repeater u rest s) (sym found.2) reach; sum = refl };
      }

  added : (a b r j k n : ℕ) → a < k → k ≤ b → r + distance a b + j ≡ n → (k - a) + r + ((b - k) + j) ≡ n
  added a b r j k n low up sum = omega arith

  rising_way : (a b n : ℕ) → (h : IsCrossed l way.Cable (OverPiece l segment high) a b n) → Rises l high h.near h.far → IsOneWay (IsFromSide l (Below l high) bs) (IsFromSide l (Above l high) bs) a b n
  rising_way a b n h rises =
      let on : part_by l way.Cable h.near ≡ Some segment = h.over.0 in
      let far_on : part_by l way.Cable h.far ≡ Some segment = h.step.to ∙ sym h.step.from ∙ on in
      record {
        p = (high - at_of l h.near) + h.before;
        q = (at_of l h.far - high) + h.after;
        near = on_side (Below l high) h.near (high - at_of l h.near) h.before a on (rises.0, refl) h.start;
        far = on_side (Above l high) h.far (at_of l h.far - high) h.after b far_on (rises.1, refl) h.finish;
        sum = added (at_of l h.near) (at_of l h.far) h.before h.after high n rises.0 rises.1 h.sum;
      }

  crossed_both : (a b n : ℕ) → IsCrossed l way.Cable (OverPiece l segment high) a b n → IsByBoth (IsFromSide l (Below l high) bs) (IsFromSide l (Above l high) bs) a b n
  unfolding crossed_turned
  crossed_both a b n h =
      elim h.over.1 [
        | inl rises ↦ inl (rising_way a b n h rises)
        | inr falls ↦ inr (rising_way b a n (crossed_turned l way.Cable (OverPiece l segment high) piece_turned a b n h) falls)
      ]

  -- the pair of the two sides' farthest stations is the worst one
  pub worst_over_gap : (k : ℕ) (below above : Option Far) (worst : Option FarthestPair) → length bs ≤ k → IsFarthest (IsFromSide l (Below l high) (take k bs)) below → IsFarthest (IsFromSide l (Above l high) (take k bs)) above → worst ≡ pair_over below above → IsWorstPair (IsCrossed l way.Cable (OverPiece l segment high)) worst
  worst_over_gap k below above worst all low up is =
      let lower : IsFarthest (IsFromSide l (Below l high) bs) below = subst (λ (xs : List Branch). IsFarthest (IsFromSide l (Below l high) xs) below) (take_all k bs all) low in
      let upper : IsFarthest (IsFromSide l (Above l high) bs) above = subst (λ (xs : List Branch). IsFarthest (IsFromSide l (Above l high) xs) above) (take_all k bs all) up in
      worst_same (IsByBoth (IsFromSide l (Below l high) bs) (IsFromSide l (Above l high) bs)) (IsCrossed l way.Cable (OverPiece l segment high))
      (λ a b n h. elim h [ inl one ↦ one_crossed a b n one | inr two ↦ crossed_turned l way.Cable (OverPiece l segment high) piece_turned b a n (one_crossed b a n two) ]) crossed_both worst
      (rw is (worst_over_both (IsFromSide l (Below l high) bs) (IsFromSide l (Above l high) bs) sides_apart below above lower upper))
