-- Stations of which one has changed, and what they can need.
use Rattle.std.proofs.Common.{◌≡◌, ◌≢◌, ℕ, zero, suc, ◌+◌, ◌-◌, ◌<◌, ◌≤◌, inl, inr, List, length, set, get_or, get_or-set_same, length-set, refl, sym, subst, ap, ap₂, ◌∙◌, arith}
use Rattle.std.proofs.lemmas.List.{get_or-set_other, get_or_default}
use Rattle.std.proofs.lemmas.Bool.{cases_lt}
use Rattle.mac_receive.specs.KeptReceiver.{KeptReception}
use Rattle.mac_transmit.specs.Sender.{Sender}
use Rattle.window_room.specs.NeededRoom.{Demand, Covers, IsDemandWithin, both_demands}
use Rattle.window_room.specs.Rooms.{Room}
use Rattle.segment_engine.specs.declared.apart.Watch.{Watch}
use Rattle.segment_engine.specs.declared.segment.Segment.{Segment}
use Rattle.tap_lines.specs.TapLines.{TapLine}
use Rattle.segment_engine.specs.StationsApart.{behind_demand, first_demands, CoversApart, StandsApart, StandAllApart}
use Rattle.segment_engine.proofs.KeptParts.{covers_within}
use Rattle.segment_engine.proofs.QuietRoom.{both_within, same_within}

-- what holds of each station, where one has changed
pub each_set : (P : ℕ → Watch → Sender → KeptReception → Type 0) (n k : ℕ) (ws : List Watch) (ss : List Sender) (ks : List KeptReception) (w' : Watch) (s' : Sender) (k' : KeptReception) →
    k < length ws → k < length ss → k < length ks →
    ((i : ℕ) (w : Watch) (s : Sender) (r : KeptReception) → i < n → i ≢ k → P i (get_or ws i w) (get_or ss i s) (get_or ks i r)) → P k w' s' k' →
    (i : ℕ) (w : Watch) (s : Sender) (r : KeptReception) → i < n → P i (get_or (set ws k w') i w) (get_or (set ss k s') i s) (get_or (set ks k k') i r)
each_set P n k ws ss ks w' s' k' lw ls lk each one i w s r h = elim (cases_lt i k) [
  | inl before ↦ other (λ e. omega (arith, e, before))
  | inr after ↦ elim (cases_lt k i) [
    | inl behind ↦ other (λ e. omega (arith, e, behind))
    | inr same ↦
        let e : k ≡ i = omega (arith, after, same) in
        subst (λ j. P j (get_or (set ws k w') j w) (get_or (set ss k s') j s) (get_or (set ks k k') j r)) e
        (rw (get_or-set_same ws k w' w lw, get_or-set_same ss k s' s ls, get_or-set_same ks k k' r lk) one)
  ]
]
  where
    other : i ≢ k → P i (get_or (set ws k w') i w) (get_or (set ss k s') i s) (get_or (set ks k k') i r)
    other e = rw (get_or-set_other ws k i w' w e, get_or-set_other ss k i s' s e, get_or-set_other ks k i k' r e) (each i w s r h e)

-- what holds below k and at k
pub below_next : (k : ℕ) (P : ℕ → Type 0) → ((q : ℕ) → q < k → P q) → P k → (q : ℕ) → q < k + 1 → P q
below_next k P before now q h = elim (cases_lt q k) [
  | inl below ↦ before q below
  | inr not ↦ let e : k ≡ q = omega (arith, h, not) in subst P e now
]

-- demands of which one has changed
record AreSwapped (n k : ℕ) (f g : ℕ → Demand) : Type 0 where
  rows : (first_demands n f).rows + (g k).rows ≡ (first_demands n g).rows + (f k).rows
  frames : (first_demands n f).frames + (g k).frames ≡ (first_demands n g).frames + (f k).frames
  octets : (first_demands n f).octets + (g k).octets ≡ (first_demands n g).octets + (f k).octets

pub demands_alike : (n : ℕ) (f g : ℕ → Demand) → ((i : ℕ) → i < n → f i ≡ g i) → first_demands n f ≡ first_demands n g
demands_alike zero f g h = refl
demands_alike (suc n) f g h = ap₂ both_demands (demands_alike n f g (λ i l. h i (omega (arith, l)))) (h n (omega arith))

swapped : (n k : ℕ) (f g : ℕ → Demand) → k < n → ((i : ℕ) → i < n → i ≢ k → f i ≡ g i) → AreSwapped n k f g
swapped zero k f g l h = absurd (omega (arith, l))
swapped (suc n) k f g l h = elim (cases_lt k n) [
  | inl before ↦
      let less = swapped n k f g before (λ i c e. h i (omega (arith, c)) e) in
      let last = h n (omega arith) (λ e. omega (arith, e, before)) in
      let a = less.rows in
      let b = less.frames in
      let c = less.octets in
      let x = ap (λ (d : Demand). d.rows) last in
      let y = ap (λ (d : Demand). d.frames) last in
      let z = ap (λ (d : Demand). d.octets) last in
      record { rows = omega (arith, a, x); frames = omega (arith, b, y); octets = omega (arith, c, z) }
  | inr now ↦
      let e : n ≡ k = omega (arith, l, now) in
      let same = demands_alike n f g (λ i c. h i (omega (arith, c)) (λ x. omega (arith, x, c, e))) in
      let a = ap (λ (d : Demand). d.rows) same in
      let b = ap (λ (d : Demand). d.frames) same in
      let c = ap (λ (d : Demand). d.octets) same in
      subst (λ j. AreSwapped (suc n) j f g) e (record { rows = omega (arith, a); frames = omega (arith, b); octets = omega (arith, c) })
]

record IsPart (a b : Demand) : Type 0 where
  rows : a.rows ≤ b.rows
  frames : a.frames ≤ b.frames
  octets : a.octets ≤ b.octets

one_of : (n k : ℕ) (f : ℕ → Demand) → k < n → IsPart (f k) (first_demands n f)
one_of zero k f l = absurd (omega (arith, l))
one_of (suc n) k f l = elim (cases_lt k n) [
  | inl before ↦
      let less = one_of n k f before in
      let a = less.rows in
      let b = less.frames in
      let c = less.octets in
      record { rows = omega (arith, a); frames = omega (arith, b); octets = omega (arith, c) }
  | inr now ↦ let e : n ≡ k = omega (arith, l, now) in subst (λ j. IsPart (f j) (first_demands (suc n) f)) e (record { rows = omega arith; frames = omega arith; octets = omega arith })
]

pub covers_one : (n k : ℕ) (f : ℕ → Demand) (room : Room) → k < n → Covers (first_demands n f) room → Covers (f k) room
covers_one n k f room l c =
    let is = one_of n k f l in
    let a = is.rows in
    let b = is.frames in
    let d = is.octets in
    record {
      for_rows = let y = c.for_rows in omega (arith, y, a);
      for_frames = let y = c.for_frames in omega (arith, y, b);
      for_octets = let y = c.for_octets in omega (arith, y, d);
    }

pub covers_changed : (n k : ℕ) (f g : ℕ → Demand) (room room' : Room) → k < n → ((i : ℕ) → i < n → i ≢ k → f i ≡ g i) →
    ((other : Demand) → Covers (both_demands other (f k)) room → Covers (both_demands other (g k)) room') → Covers (first_demands n f) room → Covers (first_demands n g) room'
covers_changed n k f g room room' l same left c =
    let is = swapped n k f g l same in
    let part = one_of n k f l in
    let p = part.rows in
    let q = part.frames in
    let r = part.octets in
    let all = first_demands n f in
    let other : Demand = record { rows = all.rows - (f k).rows; frames = all.frames - (f k).frames; octets = all.octets - (f k).octets } in
    let before : Covers (both_demands other (f k)) room = record {
      for_rows = let y = c.for_rows in omega (arith, y, p);
      for_frames = let y = c.for_frames in omega (arith, y, q);
      for_octets = let y = c.for_octets in omega (arith, y, r);
    } in
    let after = left other before in
    let a = is.rows in
    let b = is.frames in
    let d = is.octets in
    record {
      for_rows = let y = after.for_rows in omega (arith, y, p, a);
      for_frames = let y = after.for_frames in omega (arith, y, q, b);
      for_octets = let y = after.for_octets in omega (arith, y, r, d);
    }

-- room for stations of which one has changed
module _ (e n k : ℕ) (ws : List Watch) (ss : List Sender) (ks : List KeptReception) (w' : Watch) (s' : Sender) (k' : KeptReception)
    (l : k < n) (lw : k < length ws) (ls : k < length ss) (lk : k < length ks) where
  abbrev old_need : Watch → Sender → KeptReception → ℕ → Demand
  old_need w s r i = behind_demand e (get_or ws i w) (get_or ss i s) (get_or ks i r)

  abbrev new_need : Watch → Sender → KeptReception → ℕ → Demand
  new_need w s r i = behind_demand e (get_or (set ws k w') i w) (get_or (set ss k s') i s) (get_or (set ks k k') i r)

  here : (w : Watch) (s : Sender) (r : KeptReception) → new_need w s r k ≡ behind_demand e w' s' k'
  here w s r = rw (get_or-set_same ws k w' w lw, get_or-set_same ss k s' s ls, get_or-set_same ks k k' r lk) refl

  other_need : (w : Watch) (s : Sender) (r : KeptReception) (i : ℕ) → i ≢ k → old_need w s r i ≡ new_need w s r i
  other_need w s r i d = rw (get_or-set_other ws k i w' w d, get_or-set_other ss k i s' s d, get_or-set_other ks k i k' r d) refl

  pub covers_set : (room room' : Room) →
      ((w : Watch) (s : Sender) (r : KeptReception) (other : Demand) → Covers (both_demands other (behind_demand e (get_or ws k w) (get_or ss k s) (get_or ks k r))) room → Covers (both_demands other (behind_demand e w' s' k')) room') →
      CoversApart e n ws ss ks room → CoversApart e n (set ws k w') (set ss k s') (set ks k k') room'
  covers_set room room' left c = λ w s r.
      covers_changed n k (old_need w s r) (new_need w s r) room room' l (λ i h d. other_need w s r i d)
      (λ other b. subst (λ x. Covers (both_demands other x) room') (sym (here w s r)) (left w s r other b))
      (c w s r)

  pub covers_set_within : (room : Room) →
      ((w : Watch) (s : Sender) (r : KeptReception) → IsDemandWithin (behind_demand e w' s' k') (behind_demand e (get_or ws k w) (get_or ss k s) (get_or ks k r))) →
      CoversApart e n ws ss ks room → CoversApart e n (set ws k w') (set ss k s') (set ks k k') room
  covers_set_within room within c =
      covers_set room room (λ w s r other b.
      let now = behind_demand e w' s' k' in
      let before = behind_demand e (get_or ws k w) (get_or ss k s) (get_or ks k r) in
      covers_within (both_demands other now) (both_demands other before) room (both_within other now other before (same_within other) (within w s r)) b) c

-- the same, where what one can need has not become more
pub covers_less : (e n k : ℕ) (ws : List Watch) (ss : List Sender) (ks : List KeptReception) (w' : Watch) (s' : Sender) (k' : KeptReception) →
    k < n → k < length ws → k < length ss → k < length ks → (dw : Watch) (ds : Sender) (dk : KeptReception) (room : Room) →
    IsDemandWithin (behind_demand e w' s' k') (behind_demand e (get_or ws k dw) (get_or ss k ds) (get_or ks k dk)) →
    CoversApart e n ws ss ks room → CoversApart e n (set ws k w') (set ss k s') (set ks k k') room
covers_less e n k ws ss ks w' s' k' l lw ls lk dw ds dk room within c =
    covers_set_within e n k ws ss ks w' s' k' l lw ls lk room
    (λ w s r. subst (λ x. IsDemandWithin (behind_demand e w' s' k') x)
    (ap₂ (λ x y. behind_demand e x y (get_or ks k dk)) (get_or_default ws k dw w lw) (get_or_default ss k ds s ls) ∙ ap (behind_demand e (get_or ws k w) (get_or ss k s)) (get_or_default ks k dk r lk))
    within) c

-- all stations stand apart, where one has changed
pub stand_set : (of : Segment) (t u k : ℕ) (ls : List TapLine) (ws : List Watch) (ss : List Sender) (ks : List KeptReception) (w' : Watch) (s' : Sender) (k' : KeptReception) →
    k < length ss → StandAllApart of t u ls ws ss ks → StandsApart of t u k ls w' s' k' → StandAllApart of t u ls (set ws k w') (set ss k s') (set ks k k')
stand_set of t u k ls ws ss ks w' s' k' l all one =
    let a = all.senders in
    let b = all.receivers in
    let c = all.watches in
    record {
      senders = length-set ss k s' ∙ a;
      receivers = length-set ks k k' ∙ b;
      watches = c ∙ sym (length-set ws k w');
      taps = all.taps;
      each = each_set (λ i w s r. StandsApart of t u i ls w s r) (length of.stations.items) k ws ss ks w' s' k' (omega (arith, l, a, c)) l (omega (arith, l, a, b)) (λ i w s r h e. all.each i w s r h) one;
    }

-- what holds of the watches below k, where that of station k has changed
pub below_set : (Q : Watch → Type 0) (k : ℕ) (ws : List Watch) (w' : Watch) → k < length ws → ((i : ℕ) (w : Watch) → i < k → Q (get_or ws i w)) → Q w' →
    (i : ℕ) (w : Watch) → i < k + 1 → Q (get_or (set ws k w') i w)
below_set Q k ws w' l before now i w h = elim (cases_lt i k) [
  | inl less ↦ subst Q (sym (get_or-set_other ws k i w' w (λ e. omega (arith, e, less)))) (before i w less)
  | inr last ↦ let e : k ≡ i = omega (arith, h, last) in subst (λ j. Q (get_or (set ws k w') j w)) e (subst Q (sym (get_or-set_same ws k w' w l)) now)
]

-- the same, where something was taken of the room
pub covers_with : (e n k : ℕ) (ws : List Watch) (ss : List Sender) (ks : List KeptReception) (w' : Watch) (s' : Sender) (k' : KeptReception) →
    k < n → k < length ws → k < length ss → k < length ks → (dw : Watch) (ds : Sender) (dk : KeptReception) (room room' : Room) →
    ((other : Demand) → Covers (both_demands other (behind_demand e (get_or ws k dw) (get_or ss k ds) (get_or ks k dk))) room → Covers (both_demands other (behind_demand e w' s' k')) room') →
    CoversApart e n ws ss ks room → CoversApart e n (set ws k w') (set ss k s') (set ks k k') room'
covers_with e n k ws ss ks w' s' k' l lw ls lk dw ds dk room room' left c =
    covers_set e n k ws ss ks w' s' k' l lw ls lk room room'
    (λ w s r other b.
    let same = ap₂ (λ x y. behind_demand e x y (get_or ks k r)) (get_or_default ws k w dw lw) (get_or_default ss k s ds ls) ∙ ap (behind_demand e (get_or ws k dw) (get_or ss k ds)) (get_or_default ks k r dk lk) in
    left other (subst (λ x. Covers (both_demands other x) room) same b)) c

-- demands in another order
pub regroup : (o a b : Demand) (room : Room) → Covers (both_demands o (both_demands a b)) room → Covers (both_demands (both_demands o a) b) room
regroup o a b room c = record {
  for_rows = let y = c.for_rows in omega (arith, y);
  for_frames = let y = c.for_frames in omega (arith, y);
  for_octets = let y = c.for_octets in omega (arith, y);
}

pub regroup_less : (o a b a' : Demand) (room : Room) → IsDemandWithin a' a → Covers (both_demands (both_demands o a) b) room → Covers (both_demands o (both_demands a' b)) room
regroup_less o a b a' room h c = record {
  for_rows = let y = c.for_rows in let x = h.fewer_rows in omega (arith, x, y);
  for_frames = let y = c.for_frames in let x = h.fewer_frames in omega (arith, x, y);
  for_octets = let y = c.for_octets in let x = h.fewer_octets in omega (arith, x, y);
}
