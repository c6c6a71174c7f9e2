-- That the ways from a station are found, all of them.
use Rattle.std.proofs.Common.{◌≡◌, ◌≢◌, ◌⊎◌, ℕ, ◌+◌, ◌*◌, ◌<◌, ◌≤◌, ◌==◌, cond, true, false, refl, sym, ap, ◌∙◌, subst, inl, inr, List, [], ◌∷◌, ◌++◌, length, get_or, set, take, Option, None, Some, arith, get_or-set_same}
use Rattle.std.specs.Prelude.{is_some}
use Rattle.std.specs.Option.{option_map}
use Rattle.std.proofs.lemmas.Bool.{cases_Bool, cases_lt}
use Rattle.std.proofs.lemmas.List.{get_or_past, take_all, take_more}
use Rattle.std.proofs.lemmas.Option.{slice_get-get_or}
use Rattle.layout.specs.Among.{IsAmong}
use Rattle.layout.specs.Paths.{IsPath, IsStep, IsTap, IsWalk, Path}
use Rattle.layout.specs.Sound.{IsSound}
use Rattle.layout.specs.Taps.{tap_of}
use Rattle.layout.specs.declared.lines.Layout.{Layout}
use Rattle.layout.specs.declared.lines.StationLine.{StationLine}
use Rattle.layout.specs.declared.ways.Attachment.{Attachment}
use Rattle.layout.specs.declared.ways.Attachment.TheVariants.{Station, Port}
use Rattle.layout.specs.declared.ways.Way.{Way}
use Rattle.layout.specs.declared.ways.Way.TheVariants as way
use Rattle.layout.proofs.ItemsOfLists.{among_end, among_last, among_more}
use Rattle.layout.proofs.SoundTaps.{sound_one_path}
use Rattle.path_checker.specs.Far.{IsStop}
use Rattle.path_checker.specs.Stops.{IsNetworkOf, stops_by}
use Rattle.path_checker.specs.declared.stops.Network.{Network}
use Rattle.path_checker.specs.declared.stops.Stop.{Stop}
use Rattle.path_checker.proofs.TapsBeside.{beside_among}
use Rattle.frame_table.specs.Led.{HasCome, IsSearched, IsFound}
use Rattle.frame_table.specs.declared.routes.Led.{Led}
use Rattle.frame_table.proofs.FoundLast.{set_at_either}

-- ---- one more way

pub come_more : (ways new : List Led) (led : Led) (q : Attachment) → new ≡ ways ++ led ∷ [] → HasCome ways q → HasCome new q
come_more ways new led q is h = record { led = h.led; among = subst (IsAmong h.led) (sym is) (among_more h.led led ways h.among); to = h.to }

pub come_end : (ways new : List Led) (led : Led) (q : Attachment) → new ≡ ways ++ led ∷ [] → led.stop.tap ≡ q → HasCome new q
come_end ways new led q is to = record { led = led; among = subst (IsAmong led) (sym is) (among_end led ways); to = to }

pub found_kept : (routes new : List (Option Led)) (b k : ℕ) (led : Led) → new ≡ set routes b (Some led) → IsFound routes k → IsFound new k
found_kept routes new b k led is h =
    elim (cases_lt k (length routes)) [
      | inl low ↦
          let at : get_or new k None ≡ cond (b == k) (Some led) (get_or routes k None) = ap (λ rs. get_or rs k None) is ∙ set_at_either routes b k (Some led) None low in
          elim (cases_Bool (b == k)) [
            | inl same ↦ let here : get_or new k None ≡ Some led = at ∙ ap (λ t. cond t (Some led) (get_or routes k None)) same in ap (λ (o : Option Led). is_some o) here
            | inr other ↦ let here : get_or new k None ≡ get_or routes k None = at ∙ ap (λ t. cond t (Some led) (get_or routes k None)) other in ap (λ (o : Option Led). is_some o) here ∙ h
          ]
      | inr high ↦
          let none : get_or routes k None ≡ None = get_or_past routes k None high in
          let no : false ≡ true = sym (ap (λ (o : Option Led). is_some o) none) ∙ h in
          absurd (cc)
    ]

pub found_new : (routes new : List (Option Led)) (b : ℕ) (led : Led) → new ≡ set routes b (Some led) → b < length routes → IsFound new b
found_new routes new b led is low =
    let here : get_or new b None ≡ Some led = ap (λ rs. get_or rs b None) is ∙ get_or-set_same routes b (Some led) None low in
    ap (λ (o : Option Led). is_some o) here

-- ---- no repeater joins a station to anything

no_repeater_from : (l : Layout) (p q : Attachment) (k : ℕ) → IsStep l way.Repeater p q → p ≡ Station k → ⊥
no_repeater_from l p q k step is =
    let there : IsStep l way.Repeater (Station k) q = subst (λ (t : Attachment). IsStep l way.Repeater t q) is step in
    let none : None ≡ Some there.part = there.from in
    cc

no_repeater_to : (l : Layout) (p q : Attachment) (k : ℕ) → IsStep l way.Repeater p q → q ≡ Station k → ⊥
no_repeater_to l p q k step is =
    let there : IsStep l way.Repeater p (Station k) = subst (λ (t : Attachment). IsStep l way.Repeater p t) is step in
    let none : None ≡ Some there.part = there.to in
    cc

-- ---- nothing is left out at a tap

pub done_on : (l : Layout) (n : ℕ) (routes more_routes : List (Option Led)) (ways more_ways : List Led) (p : Attachment) → ((b : ℕ) → IsFound routes b → IsFound more_routes b) → ((q : Attachment) → HasCome ways q → HasCome more_ways q)
    → IsSearched l n routes ways p → IsSearched l n more_routes more_ways p
done_on l n routes more_routes ways more_ways p kept come h = record { station = λ b is low. kept b (h.station b is low); behind = λ q step. come q (h.behind q step) }

pub done_station : (l : Layout) (n : ℕ) (routes : List (Option Led)) (ways : List Led) (p : Attachment) (k : ℕ) → p ≡ Station k → (k < n → IsFound routes k) → IsSearched l n routes ways p
done_station l n routes ways p k is found = record {
  station = λ b to low.
      let both : Station k ≡ Station b = sym is ∙ to in
      let same : k ≡ b = cc in
      subst (IsFound routes) same (found (omega arith));
  behind = λ q step. absurd (no_repeater_from l p q k step is);
}

pub done_port : (l : Layout) (n : ℕ) (routes : List (Option Led)) (ways : List Led) (p : Attachment) (r k : ℕ) → p ≡ Port r k → ((q : Attachment) → IsStep l way.Repeater p q → HasCome ways q) → IsSearched l n routes ways p
done_port l n routes ways p r k is behind = record {
  station = λ b to low.
      let no : Port r k ≡ Station b = sym is ∙ to in
      absurd (cc);
  behind = behind;
}

-- ---- one more item that was looked at

pub among_taken : {X : Type 0} (x : X) (xs : List X) (k : ℕ) (d : X) → k < length xs → IsAmong x (take (k + 1) xs) → IsAmong x (take k xs) ⊎ (get_or xs k d ≡ x)
among_taken x xs k d low h = among_last x (get_or xs k d) (take k xs) (subst (λ ys. IsAmong x ys) (take_more xs k d low) h)

-- the tap itself is left out
pub skip_taken : (Q : Attachment → Type 0) (near : List Stop) (k : ℕ) (d : Stop) (a : Attachment) → k < length near → (get_or near k d).tap ≡ a → ((x : Stop) → IsAmong x (take k near) → (x.tap ≡ a → ⊥) → Q x.tap)
    → (x : Stop) → IsAmong x (take (k + 1) near) → (x.tap ≡ a → ⊥) → Q x.tap
skip_taken Q near k d a low same before x among other =
    elim (among_taken x near k d low among) [
      | inl early ↦ before x early other
      | inr here ↦ absurd (other (ap (λ (s : Stop). s.tap) (sym here) ∙ same))
    ]

pub one_taken : (Q : Attachment → Type 0) (near : List Stop) (k : ℕ) (d : Stop) (a : Attachment) → k < length near → Q (get_or near k d).tap → ((x : Stop) → IsAmong x (take k near) → (x.tap ≡ a → ⊥) → Q x.tap)
    → (x : Stop) → IsAmong x (take (k + 1) near) → (x.tap ≡ a → ⊥) → Q x.tap
one_taken Q near k d a low here before x among other =
    elim (among_taken x near k d low among) [
      | inl early ↦ before x early other
      | inr same ↦ subst (λ (s : Stop). Q s.tap) same here
    ]

-- what holds of each item that was looked at holds of each tap that a step can lead to
pub each_beside : (Q : Attachment → Type 0) (l : Layout) (net : Network) (w : Way) (s : Stop) (near : List Stop) (k : ℕ) → IsSound l → IsNetworkOf l net → IsStop l s → near ≡ stops_by net w s → length near ≤ k
    → ((x : Stop) → IsAmong x (take k near) → (x.tap ≡ s.tap → ⊥) → Q x.tap) → (g : Attachment) → IsStep l w s.tap g → Q g
each_beside Q l net w s near k sound of stands is all looked g step =
    let found : (x : Stop) × IsAmong x (stops_by net w s) × (x.tap ≡ g) = beside_among l net sound of w s g stands step in
    let among : IsAmong found.0 (take k near) = subst (λ (xs : List Stop). IsAmong found.0 xs) (sym is ∙ sym (take_all k near all)) found.1 in
    subst Q found.2 (looked found.0 among (λ same. step.different (sym same ∙ found.2)))

-- ---- turn by turn

-- after so many turns one of these ways has come so far that a walk leads on from it to station b, of the steps that are left of n
pub record IsLeft (l : Layout) (ways : List Led) (b turn n : ℕ) : Type 0 where
  pub from : Led
  pub among : IsAmong from ways
  pub rest : List Attachment
  pub leads : IsWalk l way.Cable from.stop.tap rest (Station b)
  pub other : from.stop.tap ≢ Station b
  pub short : length rest + 2 * turn ≤ n

left_by : (l : Layout) (ways next : List Led) (count : ℕ) (routes : List (Option Led)) (b turn n : ℕ) → b < count → ((h : Led) (p : Attachment) → IsAmong h ways → IsStep l way.Cable h.stop.tap p → IsSearched l count routes next p)
    → (from : Led) → IsAmong from ways → (rest : List Attachment) → IsWalk l way.Cable from.stop.tap rest (Station b) → from.stop.tap ≢ Station b → length rest + 2 * turn ≤ n → IsFound routes b ⊎ IsLeft l next b (turn + 1) n
left_by l ways next count routes b turn n low done from among [] leads other short = absurd (other leads)
left_by l ways next count routes b turn n low done from among (p ∷ []) leads other short = inl ((done from p among leads.0).station b leads.1 low)
left_by l ways next count routes b turn n low done from among (p ∷ (q ∷ rest)) leads other short =
    let come : HasCome next q = (done from p among leads.0).behind q leads.1.0 in
    inr (record {
      from = come.led;
      among = come.among;
      rest = rest;
      leads = subst (λ (t : Attachment). IsWalk l way.Cable t rest (Station b)) (sym come.to) leads.1.1;
      other = λ same. no_repeater_to l p q b leads.1.0 (sym come.to ∙ same);
      short = omega (arith, short);
    })

pub left_on : (l : Layout) (ways next : List Led) (count : ℕ) (before routes : List (Option Led)) (b turn n : ℕ) → b < count → ((k : ℕ) → IsFound before k → IsFound routes k)
    → ((h : Led) (p : Attachment) → IsAmong h ways → IsStep l way.Cable h.stop.tap p → IsSearched l count routes next p) → IsFound before b ⊎ IsLeft l ways b turn n → IsFound routes b ⊎ IsLeft l next b (turn + 1) n
left_on l ways next count before routes b turn n low kept done h =
    elim h [
      | inl found ↦ inl (kept b found)
      | inr left ↦ left_by l ways next count routes b turn n low done left.from left.among left.rest left.leads left.other left.short
    ]

pub left_none : (l : Layout) (ways : List Led) (routes : List (Option Led)) (b turn n : ℕ) → length ways ≡ 0 → IsFound routes b ⊎ IsLeft l ways b turn n → IsFound routes b
left_none l [] routes b turn n none h = elim h [ inl found ↦ found | inr left ↦ absurd left.among ]
left_none l (w ∷ ws) routes b turn n none h = absurd (omega arith)

-- ---- from station to station

by_cable : (l : Layout) (w : Way) (taps : List Attachment) (a b : ℕ) → IsWalk l w (Station a) taps (Station b) → Station a ≢ Station b → IsWalk l way.Cable (Station a) taps (Station b)
by_cable l way.Cable taps a b walk apart = walk
by_cable l way.Repeater [] a b walk apart = absurd (apart walk)
by_cable l way.Repeater (t ∷ ts) a b walk apart = absurd (no_repeater_from l (Station a) t a walk.0 refl)

station_there : (l : Layout) (k : ℕ) (d : StationLine) → k < length l.stations → IsTap l (Station k)
station_there l k d low = (tap_of (get_or l.stations k d), ap (option_map tap_of) (slice_get-get_or l.stations k d low))

-- some walk that begins along a cable leads from a station to another
pub walk_between : (l : Layout) (a b : ℕ) (d : StationLine) → IsSound l → a < length l.stations → b < length l.stations → (b ≡ a → ⊥) → (taps : List Attachment) × IsWalk l way.Cable (Station a) taps (Station b)
walk_between l a b d sound low high differ =
    let apart : Station a ≢ Station b = λ e. let same : a ≡ b = cc in differ (sym same) in
    let path : (p : Path) × IsPath l (Station a) p (Station b) = (sound_one_path l sound).some (Station a) (Station b) (station_there l a d low) (station_there l b d high) apart in
    (path.0.taps, by_cable l path.0.begins path.0.taps a b path.1 apart)
