-- The farthest of what lies beside a tap and beyond.
use Rattle.std.proofs.Common.{◌≡◌, ◌≢◌, ◌⊎◌, refl, sym, ◌∙◌, ap, subst, inl, inr, ℕ, suc, ◌+◌, ◌-◌, ◌*◌, ◌<◌, ◌≤◌, Bool, true, false, ltb, eqb, cond, List, [], ◌∷◌, ◌++◌, length, get_or, take, Option, None, Some, arith}
use Rattle.std.proofs.lemmas.Bool.{cond_both, ltb-true, ltb-false, eqb-true, eq-eqb, and_parts, and_from}
use Rattle.std.proofs.lemmas.List.{take_more, take_all}
use Rattle.mac_parameters.specs.Parameters.{greatest_place}
use Rattle.layout.specs.declared.lines.Layout.{Layout}
use Rattle.layout.specs.declared.ways.Attachment.{Attachment}
use Rattle.layout.specs.declared.ways.Attachment.TheVariants.{Station, Port}
use Rattle.layout.specs.declared.ways.Way.{Way}
use Rattle.layout.specs.declared.ways.Way.TheVariants as way
use Rattle.layout.specs.Among.{IsAmong}
use Rattle.layout.specs.Paths.{IsStep, other_way, IsWalk, step_length, walk_length}
use Rattle.layout.specs.Sound.{IsSound}
use Rattle.layout.proofs.ItemsOfLists.{among_more, among_end, among_last, among_at}
use Rattle.layout.proofs.SoundTaps.{step_low, walk_low}
use Rattle.path_checker.specs.declared.far.Far.{Far}
use Rattle.path_checker.specs.declared.stops.Network.{Network}
use Rattle.path_checker.specs.declared.stops.Stop.{Stop}
use Rattle.path_checker.specs.Far.{IsStop, HasRoom, IsReach, IsVia, IsOnward, IsNoFarther, IsFarthest, lengthened, farther_of, is_same_tap}
use Rattle.path_checker.specs.Stops.{IsNetworkOf, stops_by}
use Rattle.path_checker.proofs.TapsBeside.{IsBeside, beside_found, beside_among}

-- the same is the farthest of what holds for the same stations
pub farthest_same : (Q R : ℕ → ℕ → Type 0) → ((n s : ℕ) → Q n s → R n s) → ((n s : ℕ) → R n s → Q n s) → (b : Option Far) → IsFarthest Q b → IsFarthest R b
farthest_same Q R to from None h = λ n s r. h n s (from n s r)
farthest_same Q R to from (Some f) h = (to f.length f.station h.0, λ n s r. h.1 n s (from n s r))

no_farther_on : (n s : ℕ) (x y : Far) → IsNoFarther n s x → IsNoFarther x.length x.station y → IsNoFarther n s y
no_farther_on n s x y (inl low) (inl less) = inl (omega arith)
no_farther_on n s x y (inl low) (inr (same, lower)) = inl (omega arith)
no_farther_on n s x y (inr (equal, above)) (inl less) = inl (omega arith)
no_farther_on n s x y (inr (equal, above)) (inr (same, lower)) = inr (omega arith, omega arith)

module _ (Q R S : ℕ → ℕ → Type 0) (left : (n s : ℕ) → Q n s → S n s) (right : (n s : ℕ) → R n s → S n s) (either : (n s : ℕ) → S n s → Q n s ⊎ R n s) where
  first_farther : (x y : Far) → IsFarthest Q (Some x) → IsFarthest R (Some y) → IsNoFarther y.length y.station x → IsFarthest S (Some x)
  first_farther x y q r near = (left x.length x.station q.0, λ n s h. elim (either n s h) [ inl k ↦ q.1 n s k | inr k ↦ no_farther_on n s y x (r.1 n s k) near ])

  second_farther : (x y : Far) → IsFarthest Q (Some x) → IsFarthest R (Some y) → IsNoFarther x.length x.station y → IsFarthest S (Some y)
  second_farther x y q r near = (right y.length y.station r.0, λ n s h. elim (either n s h) [ inl k ↦ no_farther_on n s x y (q.1 n s k) near | inr k ↦ r.1 n s k ])

  pub farther_both : (a b : Option Far) → IsFarthest Q a → IsFarthest R b → IsFarthest S (farther_of a b)
  farther_both None None q r = λ n s h. elim (either n s h) [ inl k ↦ q n s k | inr k ↦ r n s k ]
  farther_both None (Some y) q r = (right y.length y.station r.0, λ n s h. elim (either n s h) [ inl k ↦ absurd (q n s k) | inr k ↦ r.1 n s k ])
  farther_both (Some x) None q r = (left x.length x.station q.0, λ n s h. elim (either n s h) [ inl k ↦ q.1 n s k | inr k ↦ absurd (r n s k) ])
  farther_both (Some x) (Some y) q r =
      cond_both (ltb x.length y.length) (Some y) (cond (ltb y.length x.length) (Some x) (cond (ltb y.station x.station) (Some y) (Some x))) (IsFarthest S)
      (λ less. second_farther x y q r (inl (ltb-true x.length y.length less)))
      (λ most. cond_both (ltb y.length x.length) (Some x) (cond (ltb y.station x.station) (Some y) (Some x)) (IsFarthest S)
      (λ more. first_farther x y q r (inl (ltb-true y.length x.length more)))
      (λ least.
      let low : y.length ≤ x.length = ltb-false x.length y.length most in
      let high : x.length ≤ y.length = ltb-false y.length x.length least in
      cond_both (ltb y.station x.station) (Some y) (Some x) (IsFarthest S)
      (λ lower. second_farther x y q r (let l : y.station < x.station = ltb-true y.station x.station lower in inr (omega arith, omega arith)))
      (λ higher. first_farther x y q r (inr (omega arith, ltb-false y.station x.station higher)))))

-- the stations that a walk reaches whose first tap is one of these
pub record IsViaOne (l : Layout) (w : Way) (a : Attachment) (xs : List Stop) (n s : ℕ) : Type 0 where
  pub stop : Stop
  pub among : IsAmong stop xs
  pub via : IsVia l w a stop.tap n s

pub via_none : (l : Layout) (w : Way) (a : Attachment) → IsFarthest (IsViaOne l w a []) None
via_none l w a = λ n s h. h.among

via_last : (l : Layout) (w : Way) (a : Attachment) (xs : List Stop) (g : Stop) (n s : ℕ) → IsViaOne l w a (xs ++ g ∷ []) n s → IsViaOne l w a xs n s ⊎ IsVia l w a g.tap n s
via_last l w a xs g n s h =
    elim (among_last h.stop g xs h.among) [
      | inl before ↦ inl (record { stop = h.stop; among = before; via = h.via })
      | inr same ↦ inr (subst (λ (x : Stop). IsVia l w a x.tap n s) (sym same) h.via)
    ]

via_before : (l : Layout) (w : Way) (a : Attachment) (xs : List Stop) (g : Stop) (n s : ℕ) → IsViaOne l w a xs n s → IsViaOne l w a (xs ++ g ∷ []) n s
via_before l w a xs g n s h = record { stop = h.stop; among = among_more h.stop g xs h.among; via = h.via }

skip_last : (l : Layout) (w : Way) (a : Attachment) (xs : List Stop) (g : Stop) (best : Option Far) → g.tap ≡ a → IsFarthest (IsViaOne l w a xs) best → IsFarthest (IsViaOne l w a (xs ++ g ∷ [])) best
skip_last l w a xs g best same h =
    farthest_same (IsViaOne l w a xs) (IsViaOne l w a (xs ++ g ∷ [])) (λ n s v. via_before l w a xs g n s v) (λ n s v.
    elim (via_last l w a xs g n s v) [ inl before ↦ before | inr via ↦ absurd (via.step.different (sym same)) ]) best h

add_last : (l : Layout) (w : Way) (a : Attachment) (xs : List Stop) (g : Stop) (best there : Option Far) → IsFarthest (IsViaOne l w a xs) best → IsFarthest (IsVia l w a g.tap) there → IsFarthest (IsViaOne l w a (xs ++ g ∷ [])) (farther_of best there)
add_last l w a xs g best there h k =
    farther_both (IsViaOne l w a xs) (IsVia l w a g.tap) (IsViaOne l w a (xs ++ g ∷ []))
    (λ n s v. via_before l w a xs g n s v)
    (λ n s v. record { stop = g; among = among_end g xs; via = v })
    (λ n s v. via_last l w a xs g n s v)
    best there h k

pub skip_more : (l : Layout) (w : Way) (a : Attachment) (xs : List Stop) (k : ℕ) (d : Stop) (best : Option Far) → k < length xs → (get_or xs k d).tap ≡ a → IsFarthest (IsViaOne l w a (take k xs)) best → IsFarthest (IsViaOne l w a (take (k + 1) xs)) best
skip_more l w a xs k d best low same h =
    subst (λ (ys : List Stop). IsFarthest (IsViaOne l w a ys) best) (sym (take_more xs k d low)) (skip_last l w a (take k xs) (get_or xs k d) best same h)

pub add_more : (l : Layout) (w : Way) (a : Attachment) (xs : List Stop) (k : ℕ) (d : Stop) (best there : Option Far) → k < length xs → IsFarthest (IsViaOne l w a (take k xs)) best → IsFarthest (IsVia l w a (get_or xs k d).tap) there → IsFarthest (IsViaOne l w a (take (k + 1) xs)) (farther_of best there)
add_more l w a xs k d best there low h v =
    subst (λ (ys : List Stop). IsFarthest (IsViaOne l w a ys) (farther_of best there)) (sym (take_more xs k d low)) (add_last l w a (take k xs) (get_or xs k d) best there h v)

-- what lies k farther on
pub record IsAfter (k : ℕ) (Q : ℕ → ℕ → Type 0) (n s : ℕ) : Type 0 where
  pub rest : ℕ
  pub has : Q rest s
  pub sum : k + rest ≡ n

pub after_lengthened : (k : ℕ) (Q : ℕ → ℕ → Type 0) (there : Option Far) → IsFarthest Q there → IsFarthest (IsAfter k Q) (lengthened k there)
after_lengthened k Q None h = λ n s v. h v.rest s v.has
after_lengthened k Q (Some f) h = (
  record { rest = f.length; has = h.0; sum = refl },
  λ n s v.
      let long : k + v.rest ≡ n = v.sum in
      elim (h.1 v.rest s v.has) [
        | inl less ↦ inl (omega arith)
        | inr (same, lower) ↦ inr (omega arith, lower)
      ],
)

-- from the next tap on
via_lengthened : (l : Layout) (w : Way) (a g : Attachment) (there : Option Far) → IsStep l w a g → IsFarthest (IsReach l (other_way w) g) there → IsFarthest (IsVia l w a g) (lengthened (step_length l w a g) there)
via_lengthened l w a g there step h =
    farthest_same (IsAfter (step_length l w a g) (IsReach l (other_way w) g)) (IsVia l w a g)
    (λ n s v. record { step = step; rest = v.rest; reach = v.has; sum = v.sum })
    (λ n s v. record { rest = v.rest; has = v.reach; sum = v.sum })
    (lengthened (step_length l w a g) there) (after_lengthened (step_length l w a g) (IsReach l (other_way w) g) there h)

no_step : (l : Layout) (j : ℕ) (g : Attachment) → IsStep l way.Repeater (Station j) g → ⊥
no_step l j g step = let none : None ≡ Some step.part = step.from in cc

never_onto : (l : Layout) (a : Attachment) (j : ℕ) → IsStep l way.Repeater a (Station j) → ⊥
never_onto l a j step = let none : None ≡ Some step.part = step.to in cc

own_walk : (l : Layout) (j : ℕ) (ts : List Attachment) (s : ℕ) → IsWalk l way.Repeater (Station j) ts (Station s) → (j ≡ s) × (walk_length l way.Repeater (Station j) ts ≡ 0)
own_walk l j [] s walk = (let e : Station j ≡ Station s = walk in cc, refl)
own_walk l j (t ∷ ts) s walk = absurd (no_step l j t walk.0)

abbrev pub own_far : ℕ → Option Far
own_far j = Some (record { length = 0; station = j })

pub own_reach : (l : Layout) (j : ℕ) → IsFarthest (IsReach l way.Repeater (Station j)) (own_far j)
own_reach l j = (
  record { taps = []; leads = refl; long = refl },
  λ n s h.
      let found : (j ≡ s) × (walk_length l way.Repeater (Station j) h.taps ≡ 0) = own_walk l j h.taps s h.leads in
      let long : walk_length l way.Repeater (Station j) h.taps ≡ n = h.long in
      inr (sym long ∙ found.1, let same : j ≡ s = found.0 in omega arith),
)

-- a step onto a station ends there
pub onto_station : (l : Layout) (w : Way) (a g : Attachment) (j : ℕ) → g ≡ Station j → IsStep l w a g → IsFarthest (IsReach l (other_way w) g) (own_far j)
onto_station l way.Cable a g j e step = subst (λ (t : Attachment). IsFarthest (IsReach l way.Repeater t) (own_far j)) (sym e) (own_reach l j)
onto_station l way.Repeater a g j e step = absurd (never_onto l a j (subst (λ (t : Attachment). IsStep l way.Repeater a t) e step))

reach_onward : (l : Layout) (w : Way) (a : Attachment) (n s : ℕ) → (taps : List Attachment) → IsWalk l w a taps (Station s) → walk_length l w a taps ≡ n → a ≢ Station s → IsOnward l w a n s
reach_onward l w a n s [] leads long ne = absurd (ne leads)
reach_onward l w a n s (t ∷ ts) leads long ne =
    record { first = t; via = record { step = leads.0; rest = walk_length l (other_way w) t ts; reach = record { taps = ts; leads = leads.1; long = refl }; sum = long } }

onward_reach : (l : Layout) (w : Way) (a : Attachment) (n s : ℕ) → IsOnward l w a n s → IsReach l w a n s
onward_reach l w a n s h =
    record {
      taps = h.first ∷ h.via.reach.taps;
      leads = (h.via.step, h.via.reach.leads);
      long = ap (λ (m : ℕ). step_length l w a h.first + m) h.via.reach.long ∙ h.via.sum;
    }

-- from a port every station is farther on
pub onward_all : (l : Layout) (w : Way) (a : Attachment) (there : Option Far) → ((j : ℕ) → a ≡ Station j → ⊥) → IsFarthest (IsOnward l w a) there → IsFarthest (IsReach l w a) there
onward_all l w a there port h =
    farthest_same (IsOnward l w a) (IsReach l w a) (λ n s o. onward_reach l w a n s o) (λ n s r. reach_onward l w a n s r.taps r.leads r.long (port s)) there h

-- all that is beside the tap is all there is
pub onward_from : (l : Layout) (net : Network) (w : Way) (s : Stop) (near : List Stop) (k : ℕ) (best : Option Far) → IsSound l → IsNetworkOf l net → IsStop l s → near ≡ stops_by net w s → length near ≤ k → IsFarthest (IsViaOne l w s.tap (take k near)) best → IsFarthest (IsOnward l w s.tap) best
onward_from l net w s near k best sound of stands is all h =
    farthest_same (IsViaOne l w s.tap near) (IsOnward l w s.tap)
    (λ n t v. record { first = v.stop.tap; via = v.via })
    (λ n t o.
    let found : (x : Stop) × IsAmong x (stops_by net w s) × (x.tap ≡ o.first) = beside_among l net sound of w s o.first stands o.via.step in
    record { stop = found.0; among = subst (λ (xs : List Stop). IsAmong found.0 xs) (sym is) found.1; via = subst (λ (g : Attachment). IsVia l w s.tap g n t) (sym found.2) o.via })
    best (subst (λ (xs : List Stop). IsFarthest (IsViaOne l w s.tap xs) best) (take_all k near all) h)

-- each tap beside is the layout's
pub beside_at : (l : Layout) (net : Network) (w : Way) (s : Stop) (near : List Stop) (k : ℕ) (d : Stop) → IsSound l → IsNetworkOf l net → IsStop l s → near ≡ stops_by net w s → k < length near → IsBeside l w s.tap (get_or near k d)
beside_at l net w s near k d sound of stands is low =
    beside_found l net sound of w s (get_or near k d) stands (subst (λ (xs : List Stop). IsAmong (get_or near k d) xs) is (among_at near k d low))

pub step_to : (l : Layout) (w : Way) (a : Attachment) (g : Stop) → IsBeside l w a g → (g.tap ≡ a → ⊥) → IsStep l w a g.tap
step_to l w a g beside ne = record { different = λ e. ne (sym e); part = beside.part; from = beside.from; to = beside.to }

pub room_on : (l : Layout) (w : Way) (a g : Attachment) (room : ℕ) → HasRoom l w a room → IsStep l w a g → (1 ≤ room) × HasRoom l (other_way w) g (room - 1)
room_on l w a g room has step = (
  has.most (g ∷ []) g (step, refl),
  record { most = λ ts b walk. let low : suc (length ts) ≤ room = has.most (g ∷ ts) b (step, walk) in omega arith },
)

pub reach_low : (l : Layout) (w : Way) (a : Attachment) (room n s : ℕ) → IsSound l → HasRoom l w a room → IsReach l w a n s → n ≤ greatest_place * room
reach_low l w a room n s sound has r =
    let most : length r.taps ≤ room = has.most r.taps (Station s) r.leads in
    let long : walk_length l w a r.taps ≡ n = r.long in
    omega (arith, walk_low l sound w a r.taps)

pub far_low : (l : Layout) (w : Way) (a : Attachment) (room : ℕ) (there : Option Far) (f : Far) → IsSound l → HasRoom l w a room → IsFarthest (IsReach l w a) there → there ≡ Some f → f.length ≤ greatest_place * room
far_low l w a room None f sound has h e = absurd (cc)
far_low l w a room (Some g) f sound has h e =
    let low : g.length ≤ greatest_place * room = reach_low l w a room g.length g.station sound has h.0 in
    let same : g ≡ f = cc in
    subst (λ (x : Far). x.length ≤ greatest_place * room) same low

-- the test of two taps
pub same_tap_true : (a b : Attachment) (t : Bool) → t ≡ is_same_tap a b → t ≡ true → a ≡ b
same_tap_true (Station k) (Station j) t e h = let same : k ≡ j = eqb-true k j (sym e ∙ h) in ap (λ (n : ℕ). Station n) same
same_tap_true (Station k) (Port s q) t e h = let no : false ≡ true = sym e ∙ h in absurd (cc)
same_tap_true (Port r p) (Station j) t e h = let no : false ≡ true = sym e ∙ h in absurd (cc)
same_tap_true (Port r p) (Port s q) t e h =
    let both : (eqb r s ≡ true) × (eqb p q ≡ true) = and_parts (eqb r s) (eqb p q) (sym e ∙ h) in
    let x : r ≡ s = eqb-true r s both.0 in
    let y : p ≡ q = eqb-true p q both.1 in
    let z : Port r p ≡ Port s q = cc in
    z

is_same_tap-self : (a : Attachment) → is_same_tap a a ≡ true
is_same_tap-self (Station k) = eq-eqb k k refl
is_same_tap-self (Port r p) = and_from (eqb r r) (eqb p p) (eq-eqb r r refl) (eq-eqb p p refl)

pub same_tap_false : (a b : Attachment) (t : Bool) → t ≡ is_same_tap a b → t ≡ false → a ≡ b → ⊥
same_tap_false a b t e h same =
    let is : is_same_tap a b ≡ true = subst (λ (x : Attachment). is_same_tap a x ≡ true) same (is_same_tap-self a) in
    let no : false ≡ true = sym h ∙ e ∙ is in
    cc

-- a step onto a tap beside
pub next_step : (l : Layout) (net : Network) (w : Way) (s : Stop) (near : List Stop) (k : ℕ) (d : Stop) (t : Bool) → IsSound l → IsNetworkOf l net → IsStop l s → near ≡ stops_by net w s → k < length near
    → t ≡ is_same_tap (get_or near k d).tap s.tap → t ≡ false → IsStep l w s.tap (get_or near k d).tap
next_step l net w s near k d t sound of stands is low e h =
    step_to l w s.tap (get_or near k d) (beside_at l net w s near k d sound of stands is low) (same_tap_false (get_or near k d).tap s.tap t e h)

-- one more tap, which is a station's
pub station_more : (l : Layout) (w : Way) (a : Attachment) (near : List Stop) (k : ℕ) (d : Stop) (best there : Option Far) (by j : ℕ) (far : Option Far) → k < length near → IsFarthest (IsViaOne l w a (take k near)) best → IsStep l w a (get_or near k d).tap
    → (get_or near k d).tap ≡ Station j → by ≡ step_length l w a (get_or near k d).tap → there ≡ lengthened by (own_far j) → far ≡ farther_of best there → IsFarthest (IsViaOne l w a (take (k + 1) near)) far
station_more l w a near k d best there by j far low h step is by_is there_is far_is =
    let via : IsFarthest (IsVia l w a (get_or near k d).tap) there = rw (there_is, by_is) (via_lengthened l w a (get_or near k d).tap (own_far j) step (onto_station l w a (get_or near k d).tap j is step)) in
    rw far_is (add_more l w a near k d best there low h via)

-- what is farther on from a port
pub port_reach : (l : Layout) (w v : Way) (g : Attachment) (r p : ℕ) (there : Option Far) → v ≡ other_way w → g ≡ Port r p → IsFarthest (IsOnward l v g) there → IsFarthest (IsReach l (other_way w) g) there
port_reach l w v g r p there e is h =
    onward_all l (other_way w) g there (λ j same. let no : Port r p ≡ Station j = sym is ∙ same in cc) (subst (λ (u : Way). IsFarthest (IsOnward l u g) there) e h)

-- one more tap, which is a port
pub port_more : (l : Layout) (w v : Way) (a : Attachment) (near : List Stop) (k : ℕ) (d : Stop) (best there : Option Far) (by r p : ℕ) (beyond far : Option Far) → k < length near → IsFarthest (IsViaOne l w a (take k near)) best → IsStep l w a (get_or near k d).tap
    → v ≡ other_way w → (get_or near k d).tap ≡ Port r p → IsFarthest (IsOnward l v (get_or near k d).tap) beyond → by ≡ step_length l w a (get_or near k d).tap → there ≡ lengthened by beyond → far ≡ farther_of best there → IsFarthest (IsViaOne l w a (take (k + 1) near)) far
port_more l w v a near k d best there by r p beyond far low h step v_is is found by_is there_is far_is =
    let reach : IsFarthest (IsReach l (other_way w) (get_or near k d).tap) beyond = port_reach l w v (get_or near k d).tap r p beyond v_is is found in
    let via : IsFarthest (IsVia l w a (get_or near k d).tap) there = rw (there_is, by_is) (via_lengthened l w a (get_or near k d).tap beyond step reach) in
    rw far_is (add_more l w a near k d best there low h via)

-- no sum of lengths is too large
pub sum_fits : (l : Layout) (w v : Way) (a g : Attachment) (room by r p : ℕ) (there : Option Far) (f : Far) → IsSound l → HasRoom l w a room → room ≤ 5120 → IsStep l w a g → v ≡ other_way w → g ≡ Port r p → IsFarthest (IsOnward l v g) there → by ≡ step_length l w a g → there ≡ Some f → by + f.length < 4294967296
sum_fits l w v a g room by r p there f sound has most step v_is is found by_is e =
    let on : (1 ≤ room) × HasRoom l (other_way w) g (room - 1) = room_on l w a g room has step in
    let low : f.length ≤ greatest_place * (room - 1) = far_low l (other_way w) g (room - 1) there f sound on.1 (port_reach l w v g r p there v_is is found) e in
    let short : step_length l w a g ≤ greatest_place = step_low l sound w a g in
    omega arith
