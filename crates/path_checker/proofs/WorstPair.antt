-- The worst of the pairs so far, and what the verdict says of it.
use Rattle.std.proofs.Common.{◌≡◌, ◌≢◌, ◌⊎◌, refl, sym, ◌∙◌, ap, subst, inl, inr, ℕ, zero, suc, ◌+◌, ◌*◌, ◌<◌, ◌≤◌, ◌↔◌, ltb, List, [], ◌∷◌, length, Option, None, Some, slice_get, arith}
use Rattle.std.specs.Option.{option_map}
use Rattle.std.proofs.lemmas.Bool.{cond_both, ltb-true, ltb-false, cases_lt}
use Rattle.std.proofs.lemmas.Option.{slice_get_within}
use Rattle.mac_parameters.specs.Parameters.{slot_time, interframe_gap}
use Rattle.layout.specs.declared.lines.Layout.{Layout}
use Rattle.layout.specs.declared.lines.PortLine.{PortLine}
use Rattle.layout.specs.declared.lines.StationLine.{StationLine}
use Rattle.layout.specs.declared.ways.Attachment.{Attachment}
use Rattle.layout.specs.declared.ways.Attachment.TheVariants.{Station}
use Rattle.layout.specs.declared.ways.Way.{Way}
use Rattle.layout.specs.declared.ways.Way.TheVariants as way
use Rattle.layout.specs.Paths.{IsTap, other_way, IsWalk, step_length, walk_length, IsDistance}
use Rattle.layout.specs.Taps.{tap_of}
use Rattle.layout.specs.Sound.{IsSound}
use Rattle.layout.proofs.WalksBack.{distance_back}
use Rattle.layout.proofs.Cuts.{mapped, has_part, never_round}
use Rattle.layout.proofs.SoundTaps.{walk_low, sound_cuts, sound_one_distance}
use Rattle.path_checker.specs.declared.far.Far.{Far}
use Rattle.path_checker.specs.declared.verdict.PathVerdict.{PathVerdict}
use Rattle.path_checker.specs.declared.verdict.PathVerdict.TheVariants.{Within, Over, NoPair}
use Rattle.path_checker.specs.declared.verdict.Worst.{Worst}
use Rattle.path_checker.specs.Far.{IsOnward, IsFarthest}
use Rattle.path_checker.specs.Verdicts.{IsWorst, IsVerdict, IsApart, IsWorstBelow, longer_of, verdict_of_worst}
use Rattle.path_checker.proofs.FarthestStation.{farthest_same}
use Rattle.path_checker.proofs.ShortWalks.{walk_short}

apart_walk : (l : Layout) → IsSound l → (w : Way) (a t : Attachment) (ts : List Attachment) (s n : ℕ) (b : ℕ) → a ≡ Station b → IsWalk l w a (t ∷ ts) (Station s) → b ≢ s
apart_walk l sound w a t ts s n b is walk = λ e. never_round l (sound_cuts l sound) w a t ts (Station s) walk (ap (λ (k : ℕ). Station k) (sym e) ∙ sym is)

onward_apart : (l : Layout) → IsSound l → (a n s : ℕ) → IsOnward l way.Cable (Station a) n s → IsApart l a n s
onward_apart l sound a n s h = (
  apart_walk l sound way.Cable (Station a) h.first h.via.reach.taps s n a refl (h.via.step, h.via.reach.leads),
  record {
    path = record { begins = way.Cable; taps = h.first ∷ h.via.reach.taps };
    leads = (h.via.step, h.via.reach.leads);
    long = ap (λ (m : ℕ). step_length l way.Cable (Station a) h.first + m) h.via.reach.long ∙ h.via.sum;
  },
)

onward_by : (l : Layout) (a n s : ℕ) (w : Way) (ts : List Attachment) → a ≢ s → IsWalk l w (Station a) ts (Station s) → walk_length l w (Station a) ts ≡ n → IsOnward l way.Cable (Station a) n s
onward_by l a n s w [] ne walk long = absurd (ne (let e : Station a ≡ Station s = walk in cc))
onward_by l a n s way.Cable (t ∷ ts) ne walk long =
    record { first = t; via = record { step = walk.0; rest = walk_length l way.Repeater t ts; reach = record { taps = ts; leads = walk.1; long = refl }; sum = long } }
onward_by l a n s way.Repeater (t ∷ ts) ne walk long = absurd (let none : None ≡ Some walk.0.part = walk.0.from in cc)

-- what lies farther on from a station is its distances
pub farthest_apart : (l : Layout) → IsSound l → (a : ℕ) (far : Option Far) → IsFarthest (IsOnward l way.Cable (Station a)) far → IsFarthest (IsApart l a) far
farthest_apart l sound a far h =
    farthest_same (IsOnward l way.Cable (Station a)) (IsApart l a) (λ n s o. onward_apart l sound a n s o)
    (λ n s o. onward_by l a n s o.1.path.begins o.1.path.taps o.0 o.1.leads o.1.long) far h

pub worst_none : (l : Layout) → IsWorstBelow l 0 None
worst_none l = λ x y n low h. omega arith

up_to : (x k : ℕ) → x < k + 1 → (x < k) ⊎ (x ≡ k)
up_to x k low = elim (cases_lt x k) [ inl less ↦ inl less | inr most ↦ inr (omega arith) ]

before_last : (l : Layout) (k x y n : ℕ) → x < k + 1 → IsApart l x n y → ((x < k) × IsApart l x n y) ⊎ ((x ≡ k) × IsApart l k n y)
before_last l k x y n low h =
    elim (up_to x k low) [
      | inl less ↦ inl (less, h)
      | inr same ↦ inr (same, subst (λ (z : ℕ). IsApart l z n y) same h)
    ]

-- one more first station
module _ (l : Layout) (k : ℕ) where
  abbrev pair_of : Far → Worst
  pair_of f = record { length = f.length; a = k; b = f.station }

  none_more : (w : Option Worst) → IsWorstBelow l k w → IsFarthest (IsApart l k) None → IsWorstBelow l (k + 1) w
  none_more None h none = λ x y n low apart. elim (before_last l k x y n low apart) [ inl (less, p) ↦ h x y n less p | inr (same, p) ↦ none n y p ]
  none_more (Some w) h none =
      let low_a : w.a < k = h.0 in
      (omega arith, h.1, λ x y n low apart. elim (before_last l k x y n low apart) [ inl (less, p) ↦ h.2 x y n less p | inr (same, p) ↦ absurd (none n y p) ])

  first_pair : (f : Far) → IsWorstBelow l k None → IsFarthest (IsApart l k) (Some f) → IsWorstBelow l (k + 1) (Some (pair_of f))
  first_pair f h far = (
    omega arith,
    far.0,
    λ x y n low apart.
        elim (before_last l k x y n low apart) [
          | inl (less, p) ↦ absurd (h x y n less p)
          | inr (same, p) ↦ elim (far.1 n y p) [ inl shorter ↦ inl shorter | inr (equal, lower) ↦ inr (equal, inr (sym same, lower)) ]
        ],
  )

  longer_pair : (w : Worst) (f : Far) → IsWorstBelow l k (Some w) → IsFarthest (IsApart l k) (Some f) → w.length < f.length → IsWorstBelow l (k + 1) (Some (pair_of f))
  longer_pair w f h far longer = (
    omega arith,
    far.0,
    λ x y n low apart.
        elim (before_last l k x y n low apart) [
          | inl (less, p) ↦ elim (h.2 x y n less p) [ inl shorter ↦ inl (omega arith) | inr (equal, later) ↦ inl (omega arith) ]
          | inr (same, p) ↦ elim (far.1 n y p) [ inl shorter ↦ inl shorter | inr (equal, lower) ↦ inr (equal, inr (sym same, lower)) ]
        ],
  )

  kept_pair : (w : Worst) (f : Far) → IsWorstBelow l k (Some w) → IsFarthest (IsApart l k) (Some f) → f.length ≤ w.length → IsWorstBelow l (k + 1) (Some w)
  kept_pair w f h far most =
      let low_a : w.a < k = h.0 in (
        omega arith,
        h.1,
        λ x y n low apart.
            elim (before_last l k x y n low apart) [
              | inl (less, p) ↦ h.2 x y n less p
              | inr (same, p) ↦ elim (far.1 n y p) [
                | inl shorter ↦ inl (omega arith)
                | inr (equal, lower) ↦ elim (cases_lt n w.length) [ inl shorter ↦ inl shorter | inr level ↦ inr (omega arith, inl (omega arith)) ]
              ]
            ],
      )

  worst_next : (w : Option Worst) (far : Option Far) → IsWorstBelow l k w → IsFarthest (IsApart l k) far → IsWorstBelow l (k + 1) (longer_of w k far)
  worst_next w None h far = none_more w h far
  worst_next None (Some f) h far = first_pair f h far
  worst_next (Some w) (Some f) h far =
      cond_both (ltb w.length f.length) (Some (pair_of f)) (Some w) (IsWorstBelow l (k + 1))
      (λ longer. longer_pair w f h far (ltb-true w.length f.length longer))
      (λ most. kept_pair w f h far (ltb-false w.length f.length most))

  pub worst_more : (w v : Option Worst) (far : Option Far) → IsWorstBelow l k w → IsFarthest (IsApart l k) far → v ≡ longer_of w k far → IsWorstBelow l (k + 1) v
  worst_more w v far h f e = rw e (worst_next w far h f)

distance_low : (l : Layout) → IsSound l → (a b : Attachment) (n : ℕ) → IsDistance l a b n → n ≤ 10240000
distance_low l sound a b n h =
    let short : length h.path.taps ≤ 5120 = walk_short l sound h.path.begins a h.path.taps b h.leads in
    let long : walk_length l h.path.begins a h.path.taps ≡ n = h.long in
    omega (arith, walk_low l sound h.path.begins a h.path.taps)

pub worst_low : (l : Layout) → IsSound l → (k : ℕ) (worst : Option Worst) → IsWorstBelow l k worst → (w : Worst) → worst ≡ Some w → w.length ≤ 10240000
worst_low l sound k None h w e = absurd (cc)
worst_low l sound k (Some v) h w e =
    let same : v ≡ w = cc in
    subst (λ (x : Worst). x.length ≤ 10240000) same (distance_low l sound (Station v.a) (Station v.b) v.length h.1.1)

-- a walk ends at one of the layout's taps
ends_at : (l : Layout) (w : Way) (a t : Attachment) (ts : List Attachment) (b : Attachment) → IsWalk l w a (t ∷ ts) b → IsTap l b
ends_at l w a t [] b walk = subst (IsTap l) walk.1 (has_part l w t walk.0.part walk.0.to)
ends_at l w a t (u ∷ us) b walk = ends_at l (other_way w) t u us b walk.1

path_ends : (l : Layout) (w : Way) (a : Attachment) (ts : List Attachment) (b : Attachment) → a ≢ b → IsWalk l w a ts b → IsTap l b
path_ends l w a [] b ne walk = absurd (ne walk)
path_ends l w a (t ∷ ts) b ne walk = ends_at l w a t ts b walk

station_within : (l : Layout) (k : ℕ) → IsTap l (Station k) → k < length l.stations
station_within l k is =
    let found : (s : StationLine) × (slice_get l.stations k ≡ Some s) = mapped tap_of (slice_get l.stations k) is.0 is.1 in
    slice_get_within l.stations k found.0 found.1

stations_unlike : (a b : ℕ) → a ≢ b → Station a ≢ Station b
stations_unlike a b ne = λ e. ne (cc)

pub apart_within : (l : Layout) (a n b : ℕ) → IsApart l a n b → b < length l.stations
apart_within l a n b h = station_within l b (path_ends l h.1.path.begins (Station a) h.1.path.taps (Station b) (stations_unlike a b h.0) h.1.leads)

pub apart_back : (l : Layout) (a n b : ℕ) → IsApart l a n b → IsApart l b n a
apart_back l a n b h = (λ e. h.0 (sym e), distance_back l (Station a) (Station b) n h.1)

abbrev worst_of : Worst → ℕ
worst_of w = 2 * w.length + interframe_gap

-- of the two ways round the first pair is the lower one
lower_first : (l : Layout) (w : Worst) → IsWorstBelow l (length l.stations) (Some w) → w.a < w.b
lower_first l w h =
    let ne : w.a ≢ w.b = h.1.0 in
    elim (h.2 w.b w.a w.length (apart_within l w.a w.length w.b h.1) (apart_back l w.a w.length w.b h.1)) [
      | inl shorter ↦ absurd (omega arith)
      | inr (equal, inl low) ↦ low
      | inr (equal, inr (same, most)) ↦ absurd (ne same)
    ]

is_worst : (l : Layout) (w : Worst) → IsWorstBelow l (length l.stations) (Some w) → IsWorst l (worst_of w) w.a w.b
is_worst l w h = record {
  pair = (lower_first l w h, apart_within l w.a w.length w.b h.1);
  has = record { distance = w.length; apart = h.1.1; sum = refl };
  greatest = λ x y rt ne trip.
      let sum : rt ≡ 2 * trip.distance + interframe_gap = trip.sum in
      let low : x < length l.stations = apart_within l y trip.distance x (apart_back l x trip.distance y (ne, trip.apart)) in
      elim (h.2 x y trip.distance low (ne, trip.apart)) [ inl shorter ↦ omega arith | inr (equal, later) ↦ omega arith ];
  first = λ x y pair trip.
      let sum : worst_of w ≡ 2 * trip.distance + interframe_gap = trip.sum in
      let xy : x < y = pair.0 in
      let within : y < length l.stations = pair.1 in
      let ne : x ≢ y = omega arith in
      elim (h.2 x y trip.distance (omega arith) (ne, trip.apart)) [ inl shorter ↦ absurd (omega arith) | inr (equal, later) ↦ later ];
}

placed : (ss : List StationLine) (k : ℕ) → k < length ss → (p : PortLine) × (option_map tap_of (slice_get ss k) ≡ Some p)
placed [] k low = absurd (omega arith)
placed (s ∷ ss) zero low = (tap_of s, refl)
placed (s ∷ ss) (suc k) low = placed ss k (omega arith)

unlike : (a b : ℕ) → a < b → a ≢ b
unlike a b low = λ e. omega arith

-- two stations have a distance
some_pair : (l : Layout) → IsSound l → IsWorstBelow l (length l.stations) None → length l.stations < 2
some_pair l sound h =
    elim (cases_lt (length l.stations) 2) [
      | inl low ↦ low
      | inr two ↦
          let one : (n : ℕ) × IsDistance l (Station 0) (Station 1) n = (sound_one_distance l sound).some (Station 0) (Station 1) (placed l.stations 0 (omega arith)) (placed l.stations 1 (omega arith)) (λ e. cc) in
          absurd (h 0 1 one.0 (omega arith) (unlike 0 1 (omega arith), one.1))
    ]

verdict_is : (l : Layout) → IsSound l → (worst : Option Worst) → IsWorstBelow l (length l.stations) worst → IsVerdict l (verdict_of_worst worst)
verdict_is l sound None h = some_pair l sound h
verdict_is l sound (Some w) h =
    cond_both (ltb (worst_of w) slot_time) (Within (worst_of w) w.a w.b) (Over (worst_of w) w.a w.b) (IsVerdict l)
    (λ low. (is_worst l w h, ltb-true (worst_of w) slot_time low))
    (λ high. (is_worst l w h, ltb-false (worst_of w) slot_time high))

pub is_verdict : (l : Layout) → IsSound l → (worst : Option Worst) (v : PathVerdict) → IsWorstBelow l (length l.stations) worst → v ≡ verdict_of_worst worst → IsVerdict l v
is_verdict l sound worst v h e = rw e (verdict_is l sound worst h)

pub no_pair_only : (l : Layout) (v : PathVerdict) → IsVerdict l v → (v ≡ NoPair) ↔ (length l.stations < 2)
no_pair_only l NoPair h = (λ e. h, λ low. refl)
no_pair_only l (Within worst a b) h =
    let p : a < b = h.0.pair.0 in
    let q : b < length l.stations = h.0.pair.1 in
    (λ e. absurd (cc), λ low. absurd (omega arith))
no_pair_only l (Over worst a b) h =
    let p : a < b = h.0.pair.0 in
    let q : b < length l.stations = h.0.pair.1 in
    (λ e. absurd (cc), λ low. absurd (omega arith))
