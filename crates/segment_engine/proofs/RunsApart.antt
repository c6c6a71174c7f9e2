-- Stations that go on one by one, from a half bit to the next in which one of them is due.
use Rattle.std.proofs.Common.{◌≡◌, ℕ, zero, suc, ◌+◌, ◌-◌, ◌<◌, ◌≤◌, List, length, get_or, sym, subst, ap, ap₂, ◌∙◌, arith}
use Rattle.mac_parameters.specs.Distances.{distance}
use Rattle.load_plan.specs.declared.plan.Plan.{Plan}
use Rattle.mac_receive.specs.KeptReceiver.{KeptReception}
use Rattle.mac_transmit.specs.Sender.{Sender}
use Rattle.net_parts.specs.Windows.{lookahead}
use Rattle.net_parts.specs.SegmentParts.{Wiring, wiring}
use Rattle.tap_lines.specs.TapLines.{TapLine, IsReachOf, half_bits_back, no_line}
use Rattle.segment_engine.specs.declared.apart.Watch.{Watch}
use Rattle.segment_engine.specs.declared.segment.Segment.{Segment}
use Rattle.segment_engine.specs.KnownLines.{KnowLines}
use Rattle.segment_engine.specs.StationsApart.{StandsBehind, StandAllApart, AreStill, HearsByLines, HearAllByLines, AreToldAnew, TellsUpTo, CoversApart, behind_demand, first_demands}
use Rattle.segment_engine.proofs.KeptParts.{covers_within}
use Rattle.segment_engine.proofs.QuietRoom.{both_within}
use Rattle.segment_engine.proofs.RowsApart.{GoOnTo}
use Rattle.segment_engine.proofs.StepAll.{both_more, tells_anew}
use Rattle.window_room.specs.NeededRoom.{Demand, IsDemandWithin}
use Rattle.window_room.specs.Rooms.{Room}
use Rattle.segment_engine.proofs.ChangedLines.{line_anew}
use Rattle.segment_engine.proofs.LinesApart.{know_below, hears_below}

-- lines that are told anew twice
pub told_again : (u v n : ℕ) (ls ls' ls'' : List TapLine) → u ≤ v → AreToldAnew u n ls ls' → AreToldAnew v n ls' ls'' → AreToldAnew u n ls ls''
told_again u v n ls ls' ls'' later first last = record {
  many = last.many ∙ first.many;
  told = λ r h.
      let x = first.told r h in
      let y = last.told r h in
      record {
        place = y.place ∙ x.place;
        wait = y.wait ∙ x.wait;
        keeps = y.keeps ∙ x.keeps;
        begins = y.begins ∙ x.begins;
        size = y.size ∙ x.size;
        before = λ a l. y.before a (omega (arith, l, later)) ∙ x.before a l;
        classes = λ a l. y.classes a (omega (arith, l, later)) ∙ x.classes a l;
      };
  others = λ r h. last.others r h ∙ first.others r h;
}

-- they reach as far
pub reach_anew : (far L u n : ℕ) (ls ls' : List TapLine) → AreToldAnew u n ls ls' → IsReachOf far L ls → IsReachOf far L ls'
reach_anew far L u n ls ls' anew reach = λ p r hp hr.
    let many = anew.many in
    let one = line_anew u n p ls ls' anew in
    let other = line_anew u n r ls ls' anew in
    let back = reach p r (omega (arith, hp, many)) (omega (arith, hr, many)) in
    let way : half_bits_back L (get_or ls' p no_line).at (get_or ls' r no_line) ≡ half_bits_back L (get_or ls p no_line).at (get_or ls r no_line) =
    ap₂ (λ x y. x + y - L) (ap₂ distance one.place other.place) other.wait in
    omega (arith, back, way)

-- they have room for as much
pub all_tell : (n a u v end : ℕ) (old new : List TapLine) → AreToldAnew a n old new → ((r : ℕ) → r < n → TellsUpTo u end (get_or old r no_line)) → u ≤ v →
    (r : ℕ) → r < n → TellsUpTo v end (get_or new r no_line)
all_tell n a u v end old new anew tell after r h =
    let is = tells_anew a u end (get_or old r no_line) (get_or new r no_line) (tell r h) (anew.told r h) in
    let begun = is.begun in
    record { begun = omega (arith, begun, after); takes = is.takes; fits = is.fits }

pub tells_sooner : (u a b : ℕ) (l : TapLine) → a ≤ b → TellsUpTo u b l → TellsUpTo u a l
tells_sooner u a b l h is = record { begun = is.begun; takes = let x = is.takes in omega (arith, x, h); fits = is.fits }

-- up to an earlier half bit they need no more
first_within : (n : ℕ) (f g : ℕ → Demand) → ((i : ℕ) → i < n → IsDemandWithin (f i) (g i)) → IsDemandWithin (first_demands n f) (first_demands n g)
first_within zero f g h = record { fewer_rows = omega arith; fewer_frames = omega arith; fewer_octets = omega arith }
first_within (suc n) f g h =
    both_within (first_demands n f) (f n) (first_demands n g) (g n) (first_within n f g (λ i l. h i (omega (arith, l)))) (h n (omega arith))

pub covers_sooner : (a b n : ℕ) (ws : List Watch) (ss : List Sender) (ks : List KeptReception) (room : Room) → a ≤ b → CoversApart b n ws ss ks room → CoversApart a n ws ss ks room
covers_sooner a b n ws ss ks room h c = λ w s k.
    let f = λ (i : ℕ). behind_demand a (get_or ws i w) (get_or ss i s) (get_or ks i k) in
    let g = λ (i : ℕ). behind_demand b (get_or ws i w) (get_or ss i s) (get_or ks i k) in
    covers_within (first_demands n f) (first_demands n g) room
    (first_within n f g (λ i l. both_more (get_or ss i s) (get_or ks i k) (a - (get_or ws i w).since) (b - (get_or ws i w).since) (omega (arith, h))))
    (c w s k)

-- no station is due before v
pub all_stand : (of : Segment) (t u v : ℕ) (ls : List TapLine) (ws : List Watch) (ss : List Sender) (ks : List KeptReception) → StandAllApart of t u ls ws ss ks → u ≤ v →
    ((i : ℕ) (w : Watch) → i < length of.stations.items → v ≤ (get_or ws i w).until) → AreStill of ws ss ks → StandAllApart of t v ls ws ss ks
all_stand of t u v ls ws ss ks all later until still = record {
  senders = all.senders;
  receivers = all.receivers;
  watches = all.watches;
  taps = all.taps;
  each = λ i x s k h.
      let one = all.each i x s k h in
      let early = one.since in
      let late = until i x h in
      record {
        behind = one.behind;
        since = omega (arith, early, later);
        until = late;
        within = one.within;
        still = λ before. still i x s k h (omega (arith, before, late));
      };
}

-- their lines are right below v, where they are right below u
module _ (of : Segment) (t u v : ℕ) (later : u ≤ v) (ls : List TapLine) (ws : ℕ → Watch) (ss : ℕ → Sender) (ks : ℕ → KeptReception) (on : GoOnTo of t u v ls ws ss ks)
    (front : ℕ) (know : KnowLines of.plan.value (wiring of.plan.value.layout of.number) of.lookahead u front ls) (from : t ≤ u) (upto : v ≤ front) (right : HearAllByLines of t u ls) where
  abbrev plan : Plan
  plan = of.plan.value

  abbrev w : Wiring
  w = wiring plan.layout of.number

  abbrev L : ℕ
  L = lookahead plan.layout

  abbrev items : List ℕ
  items = of.stations.items

  abbrev Behind : List ℕ → ℕ → Type 0
  Behind xs l = (i : ℕ) → i < length xs → StandsBehind plan (get_or xs i 0) i l t ls (ws i) (ss i) (ks i)

  abbrev RightTo : ℕ → List ℕ → ℕ → Type 0
  RightTo b xs l = (i : ℕ) → i < length xs → HearsByLines plan (get_or xs i 0) i l t b ls

  many : length items ≡ length w.stations
  many = ap length of.station_numbers

  know_there : KnowLines plan w L u front ls
  know_there = subst (λ l. KnowLines plan w l u front ls) of.window_length know

  behind_there : Behind w.stations L
  behind_there = subst (λ xs. Behind xs L) of.station_numbers (subst (λ l. Behind items l) of.window_length on.behind)

  right_there : RightTo u w.stations L
  right_there = subst (λ xs. RightTo u xs L) of.station_numbers (subst (λ l. RightTo u items l) of.window_length right)

  since_there : (i : ℕ) → i < length w.stations → (ws i).since ≤ u
  since_there i h = on.since i (let e = many in omega (arith, h, e))

  until_there : (i : ℕ) → i < length w.stations → v ≤ (ws i).until
  until_there i h = on.until i (let e = many in omega (arith, h, e))

  pub all_known : KnowLines plan w of.lookahead v front ls
  all_known =
      subst (λ l. KnowLines plan w l v front ls) (sym of.window_length)
      (know_below plan of.number u front ls know_there t v from upto ws ss ks behind_there since_there until_there right_there later)

  pub all_hear : HearAllByLines of t v ls
  all_hear =
      let there : RightTo v w.stations L = hears_below plan of.number u front ls know_there t v from upto ws ss ks behind_there since_there until_there right_there later in
      subst (λ l. RightTo v items l) (sym of.window_length) (subst (λ xs. RightTo v xs L) (sym of.station_numbers) there)
