-- A half bit of stations of which some are due: those that go on beyond it are passed.
use Rattle.std.proofs.Common.{◌≡◌, ℕ, zero, suc, ◌+◌, ◌-◌, ◌<◌, ◌≤◌, ◌++◌, false, inl, inr, None, Option, List, [], length, get_or, sym, subst, ap, ◌∙◌, arith}
use Rattle.std.proofs.lemmas.Bool.{cases_lt}
use Rattle.std.proofs.lemmas.List.{append-nil}
use Rattle.collision_log.specs.declared.row.Body.{Body}
use Rattle.collision_log.specs.declared.row.Row.{Row}
use Rattle.manchester_line.specs.Decoding.{new_decoding}
use Rattle.load_plan.specs.declared.plan.Plan.{Plan}
use Rattle.mac_receive.specs.KeptReceiver.{KeptReception}
use Rattle.mac_transmit.specs.Sender.{Sender}
use Rattle.network.specs.declared.outputs.Taken.{Taken}
use Rattle.network.specs.Attempts.{sender_at}
use Rattle.network.specs.Captures.{taken_by}
use Rattle.net_parts.specs.SegmentParts.{wiring}
use Rattle.tap_lines.specs.TapLines.{TapLine, no_line}
use Rattle.segment_engine.specs.declared.apart.Watch.{Watch}
use Rattle.segment_engine.specs.declared.segment.Segment.{Segment}
use Rattle.segment_engine.specs.KnownLines.{KnowLines}
use Rattle.segment_engine.specs.StationsApart.{StandsApart, IsStillBy, HearAllByLines, SaysOf, heard_reception, number_on, rows_of_both, sent_event}
use Rattle.segment_engine.proofs.ChangedStations.{below_next}
use Rattle.segment_engine.proofs.StationsLater.{same_rows}
use Rattle.segment_engine.proofs.StepAll.{emits_so, gone_on, nothing_on, rows_silent, silent_on}

abbrev a_watch : Watch
a_watch = record { since = 0; until = 0; carrier = false; told = 0 }

abbrev a_kept : KeptReception
a_kept = record { lose = 0; most = 0; deaf = false; halves = 0; decoder = new_decoding; steps = 0 }

-- what half bit u brings to each station
abbrev pub sent : Segment → ℕ → ℕ → Option Body
sent g u i = sent_event g.plan.value (number_on g i) u

abbrev pub event : Segment → ℕ → ℕ → Option Body
event g u i = (heard_reception g.plan.value (number_on g i) u).event

abbrev pub octets : Segment → ℕ → ℕ → List ℕ
octets g u i = (heard_reception g.plan.value (number_on g i) u).octets

-- The stations below k have made half bit u, or go on beyond it; the lines are still right below u, and those of the
-- stations below k in u too.
pub record HaveMade
    (of : Segment) (t u front k : ℕ) (ls : List TapLine) (ws : List Watch) (ss : List Sender) (ks : List KeptReception)
    (old rows : List Row) (kept_before caps : List (List Taken)) :
    Type 0 where
  pub know : KnowLines of.plan.value (wiring of.plan.value.layout of.number) of.lookahead u front ls
  pub right : HearAllByLines of t u ls
  pub now : (i : ℕ) → i < length of.stations.items → i < k → SaysOf of.plan.value (number_on of i) u (get_or ls i no_line)
  pub done : (i : ℕ) (w : Watch) (s : Sender) (r : KeptReception) → i < length of.stations.items → i < k →
      StandsApart of t (u + 1) i ls (get_or ws i w) (get_or ss i s) (get_or ks i r)
  pub still : (i : ℕ) (w : Watch) (s : Sender) (r : KeptReception) → i < length of.stations.items → i < k →
      (get_or ws i w).since < (get_or ws i w).until → IsStillBy (get_or ws i w) (get_or ss i s) (get_or ks i r)
  pub others : (i : ℕ) (w : Watch) (s : Sender) (r : KeptReception) → i < length of.stations.items → k ≤ i →
      StandsApart of t u i ls (get_or ws i w) (get_or ss i s) (get_or ks i r)
  pub waits : (i : ℕ) (w : Watch) (s : Sender) (r : KeptReception) → i < length of.stations.items → k ≤ i →
      (get_or ws i w).since < (get_or ws i w).until → IsStillBy (get_or ws i w) (get_or ss i s) (get_or ks i r)
  pub logged : rows ≡ old ++ rows_of_both u of.stations.items (sent of u) (event of u) k
  pub kept : (i : ℕ) → i < k → get_or caps i [] ≡ get_or kept_before i [] ++ taken_by u (event of u i) (octets of u i)
  pub unkept : (i : ℕ) → k ≤ i → get_or caps i [] ≡ get_or kept_before i []

module _ (g : Segment) (t u front : ℕ) (ls : List TapLine) (ws : List Watch) (ss : List Sender) (ks : List KeptReception)
    (old rows : List Row) (kept_before caps : List (List Taken)) (below : u < front) where
  abbrev plan : Plan
  plan = g.plan.value

  abbrev n : ℕ
  n = length g.stations.items

  abbrev Made : ℕ → Type 0
  Made k = HaveMade g t u front k ls ws ss ks old rows kept_before caps

  -- one of them
  one_passed : (k : ℕ) → k < n → Made k → ((w : Watch) → u < (get_or ws k w).until) → Made (k + 1)
  one_passed k in_it made later =
      let ds = sender_at plan 0 u in
      let one = made.others k a_watch ds a_kept in_it (omega arith) in
      let w = get_or ws k a_watch in
      let s = get_or ss k ds in
      let r = get_or ks k a_kept in
      let on : u < w.until = later a_watch in
      let early = one.since in
      let quiet : event g u k ≡ None =
      nothing_on g t u front k ls w s r made.know below in_it one on (made.right k in_it) (made.waits k a_watch ds a_kept in_it (omega arith) (omega (arith, early, on))) in
      record {
        know = made.know;
        right = made.right;
        now = λ i l h. below_next k (λ i. i < n → SaysOf plan (number_on g i) u (get_or ls i no_line)) (λ i b l. made.now i l b)
            (λ l. emits_so g t u front k ls w s r made.know below in_it one on (made.right k in_it)) i h l;
        done = λ i w s r l h. elim (cases_lt i k) [
          | inl low ↦ made.done i w s r l low
          | inr high ↦
              let e : k ≡ i = omega (arith, h, high) in
              subst (λ j. StandsApart g t (u + 1) j ls (get_or ws j w) (get_or ss j s) (get_or ks j r)) e
              (gone_on g t u k ls (get_or ws k w) (get_or ss k s) (get_or ks k r) (made.others k w s r in_it (omega arith)) (later w) (made.waits k w s r in_it (omega arith)))
        ];
        still = λ i w s r l h. elim (cases_lt i k) [
          | inl low ↦ made.still i w s r l low
          | inr high ↦ made.waits i w s r l (omega (arith, high))
        ];
        others = λ i w s r l h. made.others i w s r l (omega (arith, h));
        waits = λ i w s r l h. made.waits i w s r l (omega (arith, h));
        logged = rows_silent u g.stations.items (sent g u) (event g u) k old rows rows
            (silent_on g t u front k ls w s r made.know below in_it one on (made.right k in_it)) made.logged (same_rows u (number_on g k) (event g u k) rows quiet);
        kept = λ q l. below_next k (λ q. get_or caps q [] ≡ get_or kept_before q [] ++ taken_by u (event g u q) (octets g u q))
            (λ q b. made.kept q b)
            (made.unkept k (omega arith) ∙ sym (ap (λ x. get_or kept_before k [] ++ taken_by u x (octets g u k)) quiet ∙ append-nil (get_or kept_before k [])))
            q l;
        unkept = λ q l. made.unkept q (omega (arith, l));
      }

  -- m of them
  many_passed : (m k : ℕ) → k + m ≤ n → Made k → ((i : ℕ) (w : Watch) → k ≤ i → i < k + m → u < (get_or ws i w).until) → Made (k + m)
  many_passed zero k few made later = let e : k ≡ k + 0 = omega arith in subst Made e made
  many_passed (suc m) k few made later =
      let e : k + 1 + m ≡ k + suc m = omega arith in
      subst Made e
      (many_passed m (k + 1) (omega (arith, few)) (one_passed k (omega (arith, few)) made (λ w. later k w (omega arith) (omega arith)))
      (λ i w low high. later i w (omega (arith, low)) (omega (arith, high))))

  -- those from k on below k'
  pub passed : (k k' : ℕ) → k ≤ k' → k' ≤ n → Made k → ((i : ℕ) (w : Watch) → k ≤ i → i < k' → u < (get_or ws i w).until) → Made k'
  passed k k' order few made later =
      let m = k' - k in
      let e : k + m ≡ k' = omega (arith, order) in
      subst Made e (many_passed m k (omega (arith, few, order)) made (λ i w low high. later i w low (omega (arith, high, order))))
