-- The pairs through a repeater, by the ports so far.
use Rattle.std.proofs.Common.{◌≡◌, ◌≢◌, ◌⊎◌, refl, sym, ◌∙◌, ap, subst, inl, inr, ℕ, ◌+◌, ◌*◌, ◌<◌, ◌≤◌, length, Option, None, Some, slice_get, arith}
use Rattle.std.specs.Option.{option_map, unwrap_or}
use Rattle.std.proofs.lemmas.Bool.{cases_lt}
use Rattle.std.proofs.lemmas.Option.{same_Some, slice_get_within, slice_get-get_or}
use Rattle.mac_parameters.specs.Parameters.{greatest_place, greatest_delay}
use Rattle.layout.specs.declared.lines.Layout.{Layout}
use Rattle.layout.specs.declared.lines.PortLine.{PortLine}
use Rattle.layout.specs.declared.lines.RepeaterLine.{RepeaterLine}
use Rattle.layout.specs.declared.ways.Attachment.{Attachment}
use Rattle.layout.specs.declared.ways.Attachment.TheVariants.{Station, Port}
use Rattle.layout.specs.declared.ways.Way.TheVariants as way
use Rattle.layout.specs.Paths.{place, part_by, IsStep, delay_of}
use Rattle.layout.specs.Sound.{IsSound}
use Rattle.layout.proofs.Cuts.{mapped}
use Rattle.layout.proofs.Sides.{IsPortOf, port_of, port_placed, repeater_number}
use Rattle.layout.proofs.SoundTaps.{sound_repeater}
use Rattle.path_checker.specs.declared.far.Far.{Far}
use Rattle.path_checker.specs.Far.{IsStop, IsReach, IsFarthest, farther_of, lengthened}
use Rattle.path_checker.proofs.FarthestStation.{farther_both, IsAfter, after_lengthened, reach_low, far_low}
use Rattle.path_checker.proofs.ShortWalks.{has_room}
use Rattle.path_slack.specs.declared.worst.FarthestPair.{FarthestPair}
use Rattle.path_slack.specs.Crossings.{ThroughRepeater, IsCrossed}
use Rattle.path_slack.specs.Pairs.{pair_over, worse_of, IsWorstPair}
use Rattle.path_slack.proofs.NoRound.{no_round}
use Rattle.path_slack.proofs.WorstPairs.{worst_same, worst_both, IsOneWay, IsByBoth, worst_over_both}

-- what the first k ports of a repeater reach along their cables
pub record IsBeyond (l : Layout) (r k n s : ℕ) : Type 0 where
  pub port : ℕ
  pub low : port < k
  pub reach : IsReach l way.Cable (Port r port) n s

-- a pair through two of the first k ports of a repeater
pub record IsThrough (l : Layout) (r delay k a b n : ℕ) : Type 0 where
  pub p : ℕ
  pub q : ℕ
  pub low_p : p < k
  pub low_q : q < k
  pub apart : p ≢ q
  pub before : ℕ
  pub after : ℕ
  pub start : IsReach l way.Cable (Port r p) before a
  pub finish : IsReach l way.Cable (Port r q) after b
  pub sum : before + delay + after ≡ n

pub beyond_none : (l : Layout) (r : ℕ) → IsFarthest (IsBeyond l r 0) None
beyond_none l r = λ n s h. (let low : h.port < 0 = h.low in omega arith)

pub through_none : (l : Layout) (r delay : ℕ) → IsWorstPair (IsThrough l r delay 0) None
through_none l r delay = λ a b n low h. (let none : h.p < 0 = h.low_p in omega arith)

up_to : (x k : ℕ) → x < k + 1 → (x < k) ⊎ (x ≡ k)
up_to x k low = elim (cases_lt x k) [ inl less ↦ inl less | inr most ↦ inr (omega arith) ]

beyond_last : (l : Layout) (r k n s : ℕ) → IsBeyond l r (k + 1) n s → IsBeyond l r k n s ⊎ IsReach l way.Cable (Port r k) n s
beyond_last l r k n s h =
    elim (up_to h.port k h.low) [
      | inl less ↦ inl (record { port = h.port; low = less; reach = h.reach })
      | inr same ↦ inr (subst (λ (p : ℕ). IsReach l way.Cable (Port r p) n s) same h.reach)
    ]

pub beyond_more : (l : Layout) (r k : ℕ) (seen far both : Option Far) → IsFarthest (IsBeyond l r k) seen → IsFarthest (IsReach l way.Cable (Port r k)) far → both ≡ farther_of seen far → IsFarthest (IsBeyond l r (k + 1)) both
beyond_more l r k seen far both h reach is =
    rw is (farther_both (IsBeyond l r k) (IsReach l way.Cable (Port r k)) (IsBeyond l r (k + 1))
    (λ n s v. record { port = v.port; low = (let low : v.port < k = v.low in omega arith); reach = v.reach })
    (λ n s v. record { port = k; low = omega arith; reach = v })
    (λ n s v. beyond_last l r k n s v) seen far h reach)

module _ (l : Layout) (sound : IsSound l) (r : ℕ) (row : RepeaterLine) (is_row : slice_get l.repeaters r ≡ Some row) where
  on_row : (p : ℕ) → p < length row.ports → part_by l way.Repeater (Port r p) ≡ Some r
  on_row p low =
      let line : PortLine = record { segment = 0; at = 0 } in
      ap (option_map (λ (q : PortLine). r)) (port_placed l r p _ (record { row = row; of_row = is_row; of_port = slice_get-get_or row.ports p line low }))

  port_step : (p q : ℕ) → p < length row.ports → q < length row.ports → p ≢ q → IsStep l way.Repeater (Port r p) (Port r q)
  port_step p q low_p low_q ne = record { different = λ e. ne (cc); part = r; from = on_row p low_p; to = on_row q low_q }

  delay_is : (p : ℕ) → delay_of l (Port r p) ≡ row.delay
  delay_is p = ap (λ (o : Option RepeaterLine). unwrap_or (option_map (λ (x : RepeaterLine). x.delay) o) 0) is_row

  ends_apart : (k : ℕ) → k < length row.ports → (p q s : ℕ) → IsBeyond l r k p s → IsAfter row.delay (IsReach l way.Cable (Port r k)) q s → ⊥
  ends_apart k low p q s x y =
      let port : x.port < k = x.low in
      no_round l sound way.Repeater (Port r x.port) (Port r k) p y.rest s (port_step x.port k (omega arith) low (omega arith)) x.reach y.has

  through_turned : (k a b n : ℕ) → IsThrough l r row.delay k a b n → IsThrough l r row.delay k b a n
  through_turned k a b n h =
      let whole : h.before + row.delay + h.after ≡ n = h.sum in
      record { p = h.q; q = h.p; low_p = h.low_q; low_q = h.low_p; apart = λ e. h.apart (sym e); before = h.after; after = h.before; start = h.finish; finish = h.start; sum = omega arith }

  through_one : (k a b n : ℕ) → IsOneWay (IsBeyond l r k) (IsAfter row.delay (IsReach l way.Cable (Port r k))) a b n → IsThrough l r row.delay (k + 1) a b n
  through_one k a b n one =
      let port : one.near.port < k = one.near.low in
      let after : row.delay + one.far.rest ≡ one.q = one.far.sum in
      let whole : one.p + one.q ≡ n = one.sum in
      record { p = one.near.port; q = k; low_p = omega arith; low_q = omega arith; apart = omega arith; before = one.p; after = one.far.rest; start = one.near.reach; finish = one.far.has; sum = omega arith }

  through_by : (k a b n : ℕ) → IsByBoth (IsBeyond l r k) (IsAfter row.delay (IsReach l way.Cable (Port r k))) a b n → IsThrough l r row.delay (k + 1) a b n
  through_by k a b n h = elim h [ inl one ↦ through_one k a b n one | inr two ↦ through_turned (k + 1) b a n (through_one k b a n two) ]

  one_last : (k a b n : ℕ) → (h : IsThrough l r row.delay (k + 1) a b n) → h.p < k → h.q ≡ k → IsOneWay (IsBeyond l r k) (IsAfter row.delay (IsReach l way.Cable (Port r k))) a b n
  one_last k a b n h low last =
      let whole : h.before + row.delay + h.after ≡ n = h.sum in
      record {
        p = h.before;
        q = row.delay + h.after;
        near = record { port = h.p; low = low; reach = h.start };
        far = record { rest = h.after; has = subst (λ (p : ℕ). IsReach l way.Cable (Port r p) h.after b) last h.finish; sum = refl };
        sum = omega arith;
      }

  through_last : (k a b n : ℕ) → IsThrough l r row.delay (k + 1) a b n → IsThrough l r row.delay k a b n ⊎ IsByBoth (IsBeyond l r k) (IsAfter row.delay (IsReach l way.Cable (Port r k))) a b n
  unfolding through_turned
  through_last k a b n h =
      elim (up_to h.p k h.low_p) [
        | inl p_low ↦ elim (up_to h.q k h.low_q) [
          | inl q_low ↦ inl (record { p = h.p; q = h.q; low_p = p_low; low_q = q_low; apart = h.apart; before = h.before; after = h.after; start = h.start; finish = h.finish; sum = h.sum })
          | inr q_is ↦ inr (inl (one_last k a b n h p_low q_is))
        ]
        | inr p_is ↦ elim (up_to h.q k h.low_q) [
          | inl q_low ↦ inr (inr (one_last k b a n (through_turned (k + 1) a b n h) q_low p_is))
          | inr q_is ↦ absurd (h.apart (p_is ∙ sym q_is))
        ]
      ]

  pub through_more : (k : ℕ) (worst next both : Option FarthestPair) (seen far on : Option Far) → k < length row.ports → IsWorstPair (IsThrough l r row.delay k) worst → IsFarthest (IsBeyond l r k) seen → IsFarthest (IsReach l way.Cable (Port r k)) far
      → on ≡ lengthened row.delay far → next ≡ pair_over seen on → both ≡ worse_of worst next → IsWorstPair (IsThrough l r row.delay (k + 1)) both
  through_more k worst next both seen far on low h beyond reach on_is next_is is =
      let there : IsFarthest (IsAfter row.delay (IsReach l way.Cable (Port r k))) on = rw on_is (after_lengthened row.delay (IsReach l way.Cable (Port r k)) far reach) in
      let new : IsWorstPair (IsByBoth (IsBeyond l r k) (IsAfter row.delay (IsReach l way.Cable (Port r k)))) next = rw next_is (worst_over_both (IsBeyond l r k) (IsAfter row.delay (IsReach l way.Cable (Port r k))) (ends_apart k low) seen on beyond there) in
      rw is (worst_both (IsThrough l r row.delay k) (IsByBoth (IsBeyond l r k) (IsAfter row.delay (IsReach l way.Cable (Port r k)))) (IsThrough l r row.delay (k + 1))
      (λ a b n v. record { p = v.p; q = v.q; low_p = (let x : v.p < k = v.low_p in omega arith); low_q = (let x : v.q < k = v.low_q in omega arith); apart = v.apart; before = v.before; after = v.after; start = v.start; finish = v.finish; sum = v.sum })
      (λ a b n v. through_by k a b n v) (λ a b n less v. through_last k a b n v) worst next h new)

  pub port_stands : (k : ℕ) (p : PortLine) → slice_get row.ports k ≡ Some p → IsStop l (record { tap = Port r k; segment = p.segment; at = p.at })
  port_stands k p is = port_placed l r k p (record { row = row; of_row = is_row; of_port = is })

  -- no length is too great
  pub port_fits : (k : ℕ) (far : Option Far) (f : Far) → IsFarthest (IsReach l way.Cable (Port r k)) far → far ≡ Some f → row.delay + f.length < 1073741824
  port_fits k far f h e =
      let most : f.length ≤ greatest_place * 5120 = far_low l way.Cable (Port r k) 5120 far f sound (has_room l sound way.Cable (Port r k)) h e in
      let delay : row.delay ≤ greatest_delay = (sound_repeater l sound r row is_row).delay_most in
      omega arith

  pub seen_fits : (k : ℕ) (seen : Option Far) (f : Far) → IsFarthest (IsBeyond l r k) seen → seen ≡ Some f → f.length < 1073741824
  seen_fits k None f h e = absurd (cc)
  seen_fits k (Some x) f h e =
      let same : x ≡ f = same_Some x f e in
      let most : x.length ≤ greatest_place * 5120 = reach_low l way.Cable (Port r h.0.port) 5120 x.length x.station sound (has_room l sound way.Cable (Port r h.0.port)) h.0.reach in
      let low : x.length < 1073741824 = omega arith in
      subst (λ (y : Far). y.length < 1073741824) same low

  pub after_fits : (k : ℕ) (far on : Option Far) (f : Far) → IsFarthest (IsReach l way.Cable (Port r k)) far → on ≡ lengthened row.delay far → on ≡ Some f → f.length < 1073741824
  after_fits k None on f h is e = absurd (let no : None ≡ Some f = sym is ∙ e in cc)
  after_fits k (Some x) on f h is e =
      let low : row.delay + x.length < 1073741824 = port_fits k (Some x) x h refl in
      let same : Some (let y : Far = record { length = row.delay + x.length; station = x.station } in y) ≡ Some f = sym is ∙ e in
      subst (λ (y : Far). y.length < 1073741824) (same_Some (let y : Far = record { length = row.delay + x.length; station = x.station } in y) f same) low

  through_crossed : (k a b n : ℕ) → k ≤ length row.ports → IsThrough l r row.delay k a b n → IsCrossed l way.Repeater (ThroughRepeater l r) a b n
  through_crossed k a b n most h =
      let x : h.p < k = h.low_p in
      let y : h.q < k = h.low_q in
      let delay : delay_of l (Port r h.p) ≡ row.delay = delay_is h.p in
      let whole : h.before + row.delay + h.after ≡ n = h.sum in
      record {
        near = Port r h.p;
        far = Port r h.q;
        step = port_step h.p h.q (omega arith) (omega arith) h.apart;
        over = on_row h.p (omega arith);
        before = h.before;
        after = h.after;
        start = h.start;
        finish = h.finish;
        sum = omega arith;
      }

  -- a port of the repeater
  port_number : (t : Attachment) → part_by l way.Repeater t ≡ Some r → (p : ℕ) × (p < length row.ports) × (t ≡ Port r p)
  port_number (Station k) h = absurd (let none : None ≡ Some r = h in cc)
  port_number (Port s p) h =
      let same : s ≡ r = repeater_number l s p r h in
      let line : (q : PortLine) × (place l (Port s p) ≡ Some q) = mapped (λ (q : PortLine). s) (place l (Port s p)) r h in
      let found : IsPortOf l.repeaters s p line.0 = port_of l s p line.0 line.1 in
      let row_is : found.row ≡ row = same_Some found.row row (sym found.of_row ∙ ap (slice_get l.repeaters) same ∙ is_row) in
      let low : p < length found.row.ports = slice_get_within found.row.ports p line.0 found.of_port in
      (p, subst (λ (x : RepeaterLine). p < length x.ports) row_is low, ap (λ (q : ℕ). Port q p) same)

  crossed_through : (k a b n : ℕ) → length row.ports ≤ k → IsCrossed l way.Repeater (ThroughRepeater l r) a b n → IsThrough l r row.delay k a b n
  crossed_through k a b n most h =
      let on : part_by l way.Repeater h.near ≡ Some r = h.over in
      let far_on : part_by l way.Repeater h.far ≡ Some r = h.step.to ∙ sym h.step.from ∙ on in
      let p : (i : ℕ) × (i < length row.ports) × (h.near ≡ Port r i) = port_number h.near on in
      let q : (i : ℕ) × (i < length row.ports) × (h.far ≡ Port r i) = port_number h.far far_on in
      let p_low = p.1 in
      let q_low = q.1 in
      let delay : delay_of l h.near ≡ row.delay = ap (delay_of l) p.2 ∙ delay_is p.0 in
      let whole : h.before + delay_of l h.near + h.after ≡ n = h.sum in
      record {
        p = p.0;
        q = q.0;
        low_p = omega arith;
        low_q = omega arith;
        apart = λ e. h.step.different (p.2 ∙ ap (λ (i : ℕ). Port r i) e ∙ sym q.2);
        before = h.before;
        after = h.after;
        start = subst (λ (t : Attachment). IsReach l way.Cable t h.before a) p.2 h.start;
        finish = subst (λ (t : Attachment). IsReach l way.Cable t h.after b) q.2 h.finish;
        sum = omega arith;
      }

  pub through_all : (k : ℕ) (worst : Option FarthestPair) → k ≤ length row.ports → length row.ports ≤ k → IsWorstPair (IsThrough l r row.delay k) worst → IsWorstPair (IsCrossed l way.Repeater (ThroughRepeater l r)) worst
  through_all k worst most least h =
      worst_same (IsThrough l r row.delay k) (IsCrossed l way.Repeater (ThroughRepeater l r)) (λ a b n v. through_crossed k a b n most v) (λ a b n v. crossed_through k a b n least v) worst h
