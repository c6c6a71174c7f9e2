-- The verdict on a layout of two near stations on one segment is Within, and no other.
use Rattle.std.proofs.Common.{◌≡◌, ◌≢◌, ℕ, zero, suc, ◌+◌, ◌*◌, ◌<◌, ◌≤◌, Option, Some, None, List, [], ◌∷◌, length, slice_get, option_map, refl, sym, ap, subst, ◌∙◌, inr, arith}
use Rattle.std.specs.Option.{option_and_then}
use Rattle.mac_parameters.specs.Parameters.{interframe_gap, preamble_length, slot_time}
use Rattle.layout.specs.declared.lines.Layout.{Layout}
use Rattle.layout.specs.declared.lines.PortLine.{PortLine}
use Rattle.layout.specs.declared.lines.RepeaterLine.{RepeaterLine}
use Rattle.layout.specs.declared.lines.StationLine.{StationLine}
use Rattle.layout.specs.declared.ways.Attachment.{Attachment}
use Rattle.layout.specs.declared.ways.Attachment.TheVariants.{Station, Port}
use Rattle.layout.specs.declared.ways.Way.{Way}
use Rattle.layout.specs.declared.ways.Way.TheVariants as way
use Rattle.layout.specs.Paths.{place, part_by, IsStep, IsWalk, IsDistance, at_of, step_length, walk_length}
use Rattle.layout.specs.Taps.{tap_of}
use Rattle.path_checker.specs.declared.verdict.PathVerdict.{PathVerdict}
use Rattle.path_checker.specs.declared.verdict.PathVerdict.TheVariants.{Within, Over, NoPair}
use Rattle.path_checker.specs.Verdicts.{IsPair, IsRoundTrip, IsNoLater, IsWorst, IsVerdict}
use Rattle.overlap_exists.specs.NearPairs.{IsNearPair, NearPairsAreWithin}
use Rattle.overlap_exists.proofs.NearPairsOverlap.{turned, cable_to, cable_to_long}

-- without repeaters no step leads through one
none_at : (r : ℕ) → slice_get {X = RepeaterLine} [] r ≡ None
none_at zero = refl
none_at (suc r) = refl

no_port : (l : Layout) (r p : ℕ) → l.repeaters ≡ [] → place l (Port r p) ≡ None
no_port l r p e = ap (λ (x : Option RepeaterLine). option_and_then (λ row. slice_get row.ports p) x) (ap (λ (rs : List RepeaterLine). slice_get rs r) e ∙ none_at r)

no_repeater : (l : Layout) (a b : Attachment) → l.repeaters ≡ [] → IsStep l way.Repeater a b → ⊥
no_repeater l (Station k) b e step = let none : None ≡ Some step.part = step.from in cc
no_repeater l (Port r p) b e step =
    let none : None ≡ Some step.part = sym (ap (λ (x : Option PortLine). option_map (λ (q : PortLine). r) x) (no_port l r p e)) ∙ step.from in
    cc

-- so that a walk from one tap to another is one step along a cable
one_step : (l : Layout) (w : Way) (a : Attachment) (ts : List Attachment) (b : Attachment) → l.repeaters ≡ [] → a ≢ b → IsWalk l w a ts b → IsStep l way.Cable a b × (walk_length l w a ts ≡ step_length l way.Cable a b)
one_step l w a [] b e ne walk = absurd (ne walk)
one_step l way.Repeater a (t ∷ ts) b e ne walk = absurd (no_repeater l a t e walk.0)
one_step l way.Cable a (t ∷ []) b e ne walk =
    (subst (λ x. IsStep l way.Cable a x) walk.1 walk.0, (let sum : step_length l way.Cable a t + 0 ≡ step_length l way.Cable a t = omega arith in sum ∙ ap (λ x. step_length l way.Cable a x) walk.1))
one_step l way.Cable a (t ∷ u ∷ us) b e ne walk = absurd (no_repeater l t u e walk.1.0)

-- a station on which a step stands is one of the two
none_past : (a b : StationLine) (k : ℕ) → slice_get (a ∷ b ∷ []) (suc (suc k)) ≡ None
none_past a b zero = refl
none_past a b (suc k) = refl

no_third : (l : Layout) (d k : ℕ) → IsNearPair l d → place l (Station (suc (suc k))) ≡ None
no_third l d k pair = ap (λ (x : Option StationLine). option_map tap_of x) (ap (λ (ss : List StationLine). slice_get ss (suc (suc k))) pair.stations ∙ none_past pair.a pair.b k)

not_there : (l : Layout) (d k part : ℕ) → IsNearPair l d → part_by l way.Cable (Station (suc (suc k))) ≡ Some part → ⊥
not_there l d k part pair e = let none : None ≡ Some part = sym (ap (λ (x : Option PortLine). option_map (λ (q : PortLine). q.segment) x) (no_third l d k pair)) ∙ e in cc

cable_is : (l : Layout) (d x y : ℕ) → IsNearPair l d → x ≢ y → IsStep l way.Cable (Station x) (Station y) → step_length l way.Cable (Station x) (Station y) ≡ d
cable_is l d zero zero pair ne step = absurd (ne refl)
cable_is l d zero (suc zero) pair ne step = cable_to_long l d pair
cable_is l d (suc zero) zero pair ne step = turned (at_of l (Station 0)) (at_of l (Station 1)) ∙ cable_to_long l d pair
cable_is l d (suc zero) (suc zero) pair ne step = absurd (ne refl)
cable_is l d zero (suc (suc k)) pair ne step = absurd (not_there l d k step.part pair step.to)
cable_is l d (suc zero) (suc (suc k)) pair ne step = absurd (not_there l d k step.part pair step.to)
cable_is l d (suc (suc k)) y pair ne step = absurd (not_there l d k step.part pair step.from)

stations_differ : (x y : ℕ) → x ≢ y → Station x ≢ Station y
stations_differ x y ne = λ e. ne (cc)

distance_is : (l : Layout) (d x y n : ℕ) → IsNearPair l d → x ≢ y → IsDistance l (Station x) (Station y) n → n ≡ d
distance_is l d x y n pair ne far =
    let one = one_step l far.path.begins (Station x) far.path.taps (Station y) pair.repeaters (stations_differ x y ne) far.leads in
    sym far.long ∙ one.1 ∙ cable_is l d x y pair ne one.0

trip_is : (l : Layout) (d x y rt : ℕ) → IsNearPair l d → x ≢ y → IsRoundTrip l x y rt → rt ≡ 2 * d + interframe_gap
trip_is l d x y rt pair ne trip = trip.sum ∙ ap (λ n. 2 * n + interframe_gap) (distance_is l d x y trip.distance pair ne trip.apart)

-- the pair is that of stations 0 and 1
many : (l : Layout) (d : ℕ) → IsNearPair l d → length l.stations ≡ 2
many l d pair = ap length pair.stations

pair_is : (l : Layout) (d a b : ℕ) → IsNearPair l d → IsPair l a b → (a ≡ 0) × (b ≡ 1)
pair_is l d a b pair h =
    let two = many l d pair in
    let less : a < b = h.0 in
    let within : b < length l.stations = h.1 in
    (omega (arith, two, less, within), omega (arith, two, less, within))

unequal : (a b : ℕ) → a < b → a ≢ b
unequal a b l e = absurd (omega (arith, l, e))

pub near_worst : (l : Layout) (d : ℕ) → IsNearPair l d → IsWorst l (2 * d + interframe_gap) 0 1
near_worst l d pair =
    let two = many l d pair in
    record {
      pair = (omega arith, omega (arith, two));
      has = record {
        distance = d;
        apart = record { path = record { begins = way.Cable; taps = Station 1 ∷ [] }; leads = (cable_to l d pair, refl); long = (let one = cable_to_long l d pair in omega (arith, one)) };
        sum = refl;
      };
      greatest = λ x y rt ne trip. let is = trip_is l d x y rt pair ne trip in omega (arith, is);
      first = λ x y h _. let is = pair_is l d x y pair h in first_is x y is.0 is.1;
    }
  where
    first_is : (x y : ℕ) → x ≡ 0 → y ≡ 1 → IsNoLater 0 1 x y
    first_is x y e f = inr (sym e, omega (arith, f))

below_slot : (l : Layout) (d : ℕ) → IsNearPair l d → 2 * d + interframe_gap < slot_time
below_slot l d pair = let short : d < preamble_length = pair.short in omega arith

worst_is : (l : Layout) (d w a b : ℕ) → IsNearPair l d → IsWorst l w a b → w ≡ 2 * d + interframe_gap
worst_is l d w a b pair h = trip_is l d a b w pair (unequal a b h.pair.0) h.has

only : (l : Layout) (d : ℕ) → IsNearPair l d → (v : PathVerdict) → IsVerdict l v → v ≡ Within (2 * d + interframe_gap) 0 1
only l d pair (Within w a b) h =
    let is = worst_is l d w a b pair h.0 in
    let ends = pair_is l d a b pair h.0.pair in
    let first : a ≡ 0 = ends.0 in
    let second : b ≡ 1 = ends.1 in
    ap (λ n. Within n a b) is ∙ ap (λ n. Within (2 * d + interframe_gap) n b) first ∙ ap (λ n. Within (2 * d + interframe_gap) 0 n) second
only l d pair (Over w a b) h =
    let is = worst_is l d w a b pair h.0 in
    let below = below_slot l d pair in
    let over : slot_time ≤ w = h.1 in
    absurd (omega (arith, is, below, over))
only l d pair NoPair h = let two = many l d pair in let few : length l.stations < 2 = h in absurd (omega (arith, two, few))

pub near_verdict : (l : Layout) (d : ℕ) → IsNearPair l d → IsVerdict l (Within (2 * d + interframe_gap) 0 1)
near_verdict l d pair = (near_worst l d pair, below_slot l d pair)

pub near_pairs_within : NearPairsAreWithin
near_pairs_within l d pair v = (only l d pair v, λ e. subst (IsVerdict l) (sym e) (near_verdict l d pair))
