-- A half bit of stations of which some are due: what stands once one of them has had its turn.
use Rattle.std.proofs.Common.{◌≡◌, ◌≢◌, ℕ, suc, ◌+◌, ◌<◌, ◌≤◌, ◌++◌, inl, inr, None, List, length, set, get_or, refl, sym, subst, ap, ◌∙◌, arith, append_assoc}
use Rattle.std.proofs.lemmas.Bool.{cases_lt, cases_eq}
use Rattle.std.proofs.lemmas.List.{append-nil}
use Rattle.std.specs.Prelude.{Option, min, max}
use Rattle.collision_log.specs.declared.row.Body.{Body}
use Rattle.collision_log.specs.declared.row.Row.{Row}
use Rattle.manchester_line.specs.Line.{is_signal}
use Rattle.load_plan.specs.declared.plan.Plan.{Plan}
use Rattle.mac_receive.specs.KeptReceiver.{KeptReception}
use Rattle.mac_transmit.specs.Sender.{Sender}
use Rattle.network.specs.Rows.{row_of}
use Rattle.network.specs.Times.{heard, emitted}
use Rattle.net_parts.specs.Windows.{lookahead}
use Rattle.net_parts.specs.SegmentParts.{wiring}
use Rattle.tap_lines.specs.TapLines.{TapLine, no_line, class_by_lines, class_on, half_bits_back, heard_by_lines, symbol_on}
use Rattle.window_room.specs.NeededRoom.{Covers, IsDemandWithin, both_demands, receiver_demand, sender_demand}
use Rattle.window_room.specs.Rooms.{Room}
use Rattle.tap_lines.proofs.LineClasses.{IsAlikeBelow}
use Rattle.segment_engine.specs.declared.apart.Watch.{Watch}
use Rattle.segment_engine.specs.declared.segment.Segment.{Segment}
use Rattle.segment_engine.specs.KnownLines.{KnowLines}
use Rattle.segment_engine.specs.StationsApart.{StandsBehind, StandsApart, HearsByLines, IsStillBy, IsToldAnew, AreToldAnew, SaysOf, TellsUpTo, CoversApart, behind_demand, heard_reception, lowered_watch, number_on, rows_of_both, sent_event}
use Rattle.segment_engine.proofs.ArrivedLines.{stand_lowered}
use Rattle.segment_engine.proofs.Beginnings.{is_station_of}
use Rattle.segment_engine.proofs.BehindStations.{no_reception, no_sending}
use Rattle.segment_engine.proofs.ChangedLines.{class_known, known_anew, reaches_later, unchanged_line}
use Rattle.segment_engine.proofs.ChangedStations.{demands_alike, each_set}
use Rattle.segment_engine.proofs.LinesApart.{hears_so_far, emits_one}
use Rattle.segment_engine.proofs.QuietRoom.{both_within}
use Rattle.segment_engine.proofs.WindowParcels.{receiver_more}

-- lines of which one is told anew
pub anew_none : (u n : ℕ) (ls : List TapLine) → AreToldAnew u n ls ls
anew_none u n ls = record { many = refl; told = λ r h. unchanged_line u (get_or ls r no_line); others = λ r h. refl }

pub anew_one : (u n p : ℕ) (ls ls' : List TapLine) → p < n → length ls' ≡ length ls → IsToldAnew u (get_or ls p no_line) (get_or ls' p no_line) →
    ((r : ℕ) (d : TapLine) → r ≢ p → get_or ls' r d ≡ get_or ls r d) → AreToldAnew u n ls ls'
anew_one u n p ls ls' few many told others = record {
  many = many;
  told = λ r h. elim (cases_eq r p) [
    | inl own ↦ subst (λ j. IsToldAnew u (get_or ls j no_line) (get_or ls' j no_line)) (sym own) told
    | inr differs ↦ subst (λ l. IsToldAnew u (get_or ls r no_line) l) (sym (others r no_line differs)) (unchanged_line u (get_or ls r no_line))
  ];
  others = λ r h. others r no_line (λ e. omega (arith, e, h, few));
}

pub alike_to : (u n p from : ℕ) (ls ls' : List TapLine) → p < n → AreToldAnew u n ls ls' → ((r : ℕ) (d : TapLine) → r ≢ p → get_or ls' r d ≡ get_or ls r d) →
    ((a : ℕ) → a < from → class_on (get_or ls' p no_line) a ≡ class_on (get_or ls p no_line) a) → IsAlikeBelow p from ls ls'
alike_to u n p from ls ls' few anew others alike =
    let is = anew.told p few in
    record { many = anew.many; place = is.place; wait = is.wait; others = others; alike = alike }

-- one more half bit of what is heard
pub right_next : (plan : Plan) (x p L t u : ℕ) (ls : List TapLine) → HearsByLines plan x p L t u ls → heard plan x u ≡ heard_by_lines L u ls p →
    class_by_lines L u ls p ≡ is_signal (heard_by_lines L u ls p) → emitted plan x u ≡ symbol_on (get_or ls p no_line) u → HearsByLines plan x p L t (u + 1) ls
right_next plan x p L t u ls right hears class emits = record {
  hears = λ a low high. elim (cases_lt a u) [
    | inl before ↦ right.hears a low before
    | inr now ↦ let e : u ≡ a = omega (arith, now, high) in subst (λ b. heard plan x b ≡ heard_by_lines L b ls p) e hears
  ];
  classes = λ a low high. elim (cases_lt a u) [
    | inl before ↦ right.classes a low before
    | inr now ↦ let e : u ≡ a = omega (arith, now, high) in subst (λ b. class_by_lines L b ls p ≡ is_signal (heard_by_lines L b ls p)) e class
  ];
  emits = λ a low high. elim (cases_lt a u) [
    | inl before ↦ right.emits a low before
    | inr now ↦ let e : u ≡ a = omega (arith, now, high) in subst (λ b. emitted plan x b ≡ symbol_on (get_or ls p no_line) b) e emits
  ];
}

module _ (of : Segment) where
  abbrev plan : Plan
  plan = of.plan.value

  abbrev n : ℕ
  n = length of.stations.items

  abbrev Know : ℕ → ℕ → List TapLine → Type 0
  Know u front ls = KnowLines plan (wiring plan.layout of.number) of.lookahead u front ls

  plainly : (u front : ℕ) (ls : List TapLine) → Know u front ls → KnowLines plan (wiring plan.layout of.number) (lookahead plan.layout) u front ls
  plainly u front ls know = subst (λ (L : ℕ). KnowLines plan (wiring plan.layout of.number) L u front ls) of.window_length know

  pub know_anew : (u front : ℕ) (ls ls' : List TapLine) → AreToldAnew u n ls ls' → Know u front ls → Know u front ls'
  know_anew u front ls ls' anew know =
      subst (λ (L : ℕ). KnowLines plan (wiring plan.layout of.number) L u front ls') (sym of.window_length)
      (known_anew plan of.number u front ls ls' (subst (λ (xs : List ℕ). AreToldAnew u (length xs) ls ls') of.station_numbers anew) (plainly u front ls know))

  pub heard_so : (u front r : ℕ) (ls : List TapLine) → Know u front ls → u < front → r < n → heard plan (number_on of r) u ≡ heard_by_lines of.lookahead u ls r
  heard_so u front r ls know below h =
      let len = ap length of.station_numbers in
      subst (λ (xs : List ℕ). heard plan (get_or xs r 0) u ≡ heard_by_lines of.lookahead u ls r) (sym of.station_numbers)
      (subst (λ (L : ℕ). heard plan (get_or (wiring plan.layout of.number).stations r 0) u ≡ heard_by_lines L u ls r) (sym of.window_length)
      (hears_so_far plan of.number u front ls (plainly u front ls know) below r (omega (arith, h, len))))

  pub class_so : (u front r : ℕ) (ls : List TapLine) → Know u front ls → u < front → r < n → class_by_lines of.lookahead u ls r ≡ is_signal (heard_by_lines of.lookahead u ls r)
  class_so u front r ls know below h =
      let len = ap length of.station_numbers in
      subst (λ (L : ℕ). class_by_lines L u ls r ≡ is_signal (heard_by_lines L u ls r)) (sym of.window_length)
      (class_known plan of.number u front ls (plainly u front ls know) below r (omega (arith, h, len)))

  pub emits_so : (t u front r : ℕ) (ls : List TapLine) (w : Watch) (s : Sender) (k : KeptReception) → Know u front ls → u < front → r < n → StandsApart of t u r ls w s k → u < w.until →
      HearsByLines plan (number_on of r) r of.lookahead t u ls → SaysOf plan (number_on of r) u (get_or ls r no_line)
  emits_so t u front r ls w s k know below h is on right =
      let len = ap length of.station_numbers in
      let L = lookahead plan.layout in
      let behind = subst (λ (xs : List ℕ). StandsBehind plan (get_or xs r 0) r L t ls w s k) of.station_numbers (subst (λ (y : ℕ). StandsBehind plan (number_on of r) r y t ls w s k) of.window_length is.behind) in
      let so = subst (λ (xs : List ℕ). HearsByLines plan (get_or xs r 0) r L t u ls) of.station_numbers (subst (λ (y : ℕ). HearsByLines plan (number_on of r) r y t u ls) of.window_length right) in
      subst (λ (xs : List ℕ). SaysOf plan (get_or xs r 0) u (get_or ls r no_line)) (sym of.station_numbers)
      (emits_one plan of.number u front ls (plainly u front ls know) t r (omega (arith, h, len)) w s k behind is.since so u (omega arith) on below (λ r' a i low high. absurd (omega (arith, low, high))))

  pub know_next : (u front : ℕ) (ls : List TapLine) → Know u front ls → ((i : ℕ) → i < n → SaysOf plan (number_on of i) u (get_or ls i no_line)) → Know (u + 1) front ls
  know_next u front ls know now =
      let len = ap length of.station_numbers in
      let says : (r : ℕ) → r < length (wiring plan.layout of.number).stations → SaysOf plan (get_or (wiring plan.layout of.number).stations r 0) u (get_or ls r no_line) =
      λ r l. subst (λ (xs : List ℕ). SaysOf plan (get_or xs r 0) u (get_or ls r no_line)) of.station_numbers (now r (omega (arith, l, len))) in
      record {
        many = know.many;
        places = know.places;
        no_delays = know.no_delays;
        delays = know.delays;
        begins = λ r l. let x = know.begins r l in omega (arith, x);
        near = know.near;
        emissions = λ r a l low high. elim (cases_lt a u) [
          | inl before ↦ know.emissions r a l low before
          | inr after ↦
              let e : u ≡ a = omega (arith, after, high) in
              subst (λ b. symbol_on (get_or ls r no_line) b ≡ emitted plan (get_or (wiring plan.layout of.number).stations r 0) b) e (sym (says r l).emits)
        ];
        arrivals = know.arrivals;
        classes = λ r a l high. elim (cases_lt a u) [
          | inl before ↦ know.classes r a l before
          | inr after ↦
              let e : u ≡ a = omega (arith, after, high) in
              subst (λ b. class_on (get_or ls r no_line) b ≡ is_signal (symbol_on (get_or ls r no_line) b)) e (says r l).class
        ];
        port_classes = know.port_classes;
      }

  -- a station that goes on over half bit u
  pub right_on : (t u front r : ℕ) (ls : List TapLine) (w : Watch) (s : Sender) (k : KeptReception) → Know u front ls → u < front → r < n → StandsApart of t u r ls w s k → u < w.until →
      HearsByLines plan (number_on of r) r of.lookahead t u ls → HearsByLines plan (number_on of r) r of.lookahead t (u + 1) ls
  right_on t u front r ls w s k know below h is on right =
      right_next plan (number_on of r) r of.lookahead t u ls right (heard_so u front r ls know below h) (class_so u front r ls know below h)
      (emits_so t u front r ls w s k know below h is on right).emits

  pub silent_on : (t u front r : ℕ) (ls : List TapLine) (w : Watch) (s : Sender) (k : KeptReception) → Know u front ls → u < front → r < n → StandsApart of t u r ls w s k → u < w.until →
      HearsByLines plan (number_on of r) r of.lookahead t u ls → sent_event plan (number_on of r) u ≡ None
  silent_on t u front r ls w s k know below h is on right =
      no_sending plan (number_on of r) (is_station_of of r h) r of.lookahead t u ls w s k is.behind is.since on (right_on t u front r ls w s k know below h is on right)

  pub nothing_on : (t u front r : ℕ) (ls : List TapLine) (w : Watch) (s : Sender) (k : KeptReception) → Know u front ls → u < front → r < n → StandsApart of t u r ls w s k → u < w.until →
      HearsByLines plan (number_on of r) r of.lookahead t u ls → IsStillBy w s k → (heard_reception plan (number_on of r) u).event ≡ None
  nothing_on t u front r ls w s k know below h is on right still =
      no_reception plan (number_on of r) (is_station_of of r h) r of.lookahead t u ls w s k is.behind is.since on (right_on t u front r ls w s k know below h is on right) still

  pub gone_on : (t u r : ℕ) (ls : List TapLine) (w : Watch) (s : Sender) (k : KeptReception) → StandsApart of t u r ls w s k → u < w.until → (w.since < w.until → IsStillBy w s k) →
      StandsApart of t (u + 1) r ls w s k
  gone_on t u r ls w s k is on still =
      let early = is.since in
      record {
        behind = is.behind;
        since = omega (arith, early);
        until = omega (arith, on);
        within = is.within;
        still = λ h. still (omega (arith, h, on));
      }

  -- another station hears the change in a later half bit
  later_on : (u front q p : ℕ) (ls : List TapLine) → Know u front ls → q < n → p < n → q ≢ p → 1 ≤ half_bits_back of.lookahead (get_or ls q no_line).at (get_or ls p no_line)
  later_on u front q p ls know hq hp other =
      let len = ap length of.station_numbers in
      subst (λ (L : ℕ). 1 ≤ half_bits_back L (get_or ls q no_line).at (get_or ls p no_line)) (sym of.window_length)
      (reaches_later plan of.number u front ls (plainly u front ls know) q p (omega (arith, hq, len)) (omega (arith, hp, len)) other)

  pub tap_there : (u front q : ℕ) (ls : List TapLine) → Know u front ls → q < n → q < length ls
  tap_there u front q ls know h =
      let len = ap length of.station_numbers in
      let many = know.many in
      omega (arith, h, len, many)

  -- another station stands as it stood, where its watch goes no further than it hears the change
  pub apart_lowered : (t u v front q p from : ℕ) (ls ls' : List TapLine) (w : Watch) (s : Sender) (k : KeptReception) → Know u front ls → IsAlikeBelow p from ls ls' → u ≤ from → v ≤ u + 1 →
      q < n → p < n → q ≢ p → StandsApart of t v q ls w s k →
      StandsApart of t v q ls' (lowered_watch (from + half_bits_back of.lookahead (get_or ls' q no_line).at (get_or ls' p no_line)) w) s k
  apart_lowered t u v front q p from ls ls' w s k know alike late few hq hp other is =
      let some = later_on u front q p ls know hq hp other in
      let low = lowered_watch (from + half_bits_back of.lookahead (get_or ls' q no_line).at (get_or ls' p no_line)) w in
      stand_lowered of t v from q p ls ls' w low s k alike (omega (arith, late, few, some)) other refl is

-- the line of a station that is told anew has room for as much as before
pub tells_anew : (u v end : ℕ) (l l' : TapLine) → TellsUpTo v end l → IsToldAnew u l l' → TellsUpTo v end l'
tells_anew u v end l l' before anew =
    let base = anew.begins in
    let size = anew.size in
    let begun = before.begun in
    let takes = before.takes in
    let fits = before.fits in
    record {
      begun = omega (arith, base, begun);
      takes = omega (arith, base, size, takes);
      fits = omega (arith, base, size, fits);
    }

-- the station itself stands where it stood
pub lowered_own : (a : ℕ) (w : Watch) → w.until ≡ w.since → lowered_watch a w ≡ w
lowered_own a w e = let same : min w.until (max a w.since) ≡ w.until = omega (arith, e) in ap (λ (b : ℕ). record w { until = b }) same

-- what holds of each station, where one has changed and all are lowered
pub each_lowered : (P : ℕ → Watch → Sender → KeptReception → Type 0) (n k : ℕ) (a : ℕ → ℕ) (ws ws' : List Watch) (ss : List Sender) (ks : List KeptReception) (w' : Watch) (s' : Sender) (k' : KeptReception) →
    k < length ws → k < length ss → k < length ks → ((i : ℕ) (d : Watch) → i < n → get_or ws' i d ≡ lowered_watch (a i) (get_or (set ws k w') i d)) →
    ((i : ℕ) (w : Watch) (s : Sender) (r : KeptReception) → i < n → i ≢ k → P i (lowered_watch (a i) (get_or ws i w)) (get_or ss i s) (get_or ks i r)) → P k (lowered_watch (a k) w') s' k' →
    (i : ℕ) (w : Watch) (s : Sender) (r : KeptReception) → i < n → P i (get_or ws' i w) (get_or (set ss k s') i s) (get_or (set ks k k') i r)
each_lowered P n k a ws ws' ss ks w' s' k' lw ls lk low each one i w s r h =
    subst (λ x. P i x (get_or (set ss k s') i s) (get_or (set ks k k') i r)) (sym (low i w h))
    (each_set (λ i w s r. P i (lowered_watch (a i) w) s r) n k ws ss ks w' s' k' lw ls lk each one i w s r h)

-- lowered watches need what they needed
pub covers_lowered : (e n : ℕ) (a : ℕ → ℕ) (ws ws' : List Watch) (ss : List Sender) (ks : List KeptReception) (room : Room) →
    ((i : ℕ) (d : Watch) → i < n → get_or ws' i d ≡ lowered_watch (a i) (get_or ws i d)) → CoversApart e n ws ss ks room → CoversApart e n ws' ss ks room
covers_lowered e n a ws ws' ss ks room low c = λ w s k.
    subst (λ x. Covers x room)
    (demands_alike n (λ i. behind_demand e (get_or ws i w) (get_or ss i s) (get_or ks i k)) (λ i. behind_demand e (get_or ws' i w) (get_or ss i s) (get_or ks i k))
    (λ i h. ap (λ x. behind_demand e x (get_or ss i s) (get_or ks i k)) (sym (low i w h))))
    (c w s k)

-- a half bit needs no more than several
sender_more : (s : Sender) (m n : ℕ) → m ≤ n → IsDemandWithin (sender_demand m s) (sender_demand n s)
sender_more s m n h = record { fewer_rows = omega (arith, h); fewer_frames = omega arith; fewer_octets = omega arith }

pub both_more : (s : Sender) (k : KeptReception) (m n : ℕ) → m ≤ n → IsDemandWithin (both_demands (sender_demand m s) (receiver_demand m k)) (both_demands (sender_demand n s) (receiver_demand n k))
both_more s k m n h = both_within (sender_demand m s) (receiver_demand m k) (sender_demand n s) (receiver_demand n k) (sender_more s m n h) (receiver_more k m n h)

-- the rows of one more station
module _ (u : ℕ) (items : List ℕ) (sent received : ℕ → Option Body) (k : ℕ) where
  abbrev before : List Row
  before = rows_of_both u items sent received k

  abbrev own : List Row
  own = row_of u (get_or items k 0) (sent k)

  abbrev taken : List Row
  taken = row_of u (get_or items k 0) (received k)

  next : (rows : List Row) → ((rows ++ before) ++ own) ++ taken ≡ rows ++ rows_of_both u items sent received (k + 1)
  next rows =
      let more : suc k ≡ k + 1 = omega arith in
      ap (λ xs. xs ++ taken) (append_assoc rows before own) ∙ append_assoc rows (before ++ own) taken ∙ ap (λ j. rows ++ rows_of_both u items sent received j) more

  pub rows_stepped : (old rows rows' : List Row) → rows ≡ old ++ before → rows' ≡ (rows ++ own) ++ taken → rows' ≡ old ++ rows_of_both u items sent received (k + 1)
  rows_stepped old rows rows' logged now = now ∙ ap (λ xs. (xs ++ own) ++ taken) logged ∙ next old

  pub rows_silent : (old rows rows' : List Row) → sent k ≡ None → rows ≡ old ++ before → rows' ≡ rows ++ taken → rows' ≡ old ++ rows_of_both u items sent received (k + 1)
  rows_silent old rows rows' none logged now =
      let nothing : rows ++ own ≡ rows = ap (λ e. rows ++ row_of u (get_or items k 0) e) none ∙ append-nil rows in
      rows_stepped old rows rows' logged (now ∙ ap (λ xs. xs ++ taken) (sym nothing))
