-- What came in for the ports is put on their lines, and stations that stand behind are told.
use Rattle.std.proofs.Common.{◌≡◌, ◌≢◌, ℕ, ◌+◌, ◌-◌, ◌<◌, ◌≤◌, inl, inr, List, length, length-append, get_or, refl, sym, subst, ap, ap₂, ◌∙◌, arith}
use Rattle.std.proofs.lemmas.Bool.{cases_lt}
use Rattle.std.proofs.lemmas.List.{get_or_past}
use Rattle.mac_parameters.specs.Distances.{distance}
use Rattle.manchester_line.specs.declared.Sym.{Sym}
use Rattle.manchester_line.specs.declared.Sym.TheVariants.{Idle}
use Rattle.manchester_line.specs.Line.{is_signal}
use Rattle.load_plan.specs.declared.plan.Plan.{Plan}
use Rattle.mac_receive.specs.KeptReceiver.{KeptReception}
use Rattle.mac_transmit.specs.Sender.{Sender}
use Rattle.net_parts.specs.Machines.{span}
use Rattle.net_parts.specs.SegmentParts.{Wiring}
use Rattle.net_parts.specs.Standing.{arrives}
use Rattle.net_parts.proofs.LateRows.{if_false}
use Rattle.net_parts.proofs.RepeaterSteps.{length-span, get_or-span}
use Rattle.tap_lines.specs.TapLines.{TapLine, no_line, class_on, goes_on, half_bits_back, line_extended, symbol_on}
use Rattle.tap_lines.proofs.LineClasses.{IsAlikeBelow, class_alike, class_all_alike, class_before, class_within}
use Rattle.tap_lines.proofs.LinesAhead.{symbol_ahead, symbol_before}
use Rattle.segment_engine.specs.declared.apart.Watch.{Watch}
use Rattle.segment_engine.specs.declared.segment.Segment.{Segment}
use Rattle.segment_engine.specs.KnownLines.{KnowLines}
use Rattle.segment_engine.specs.StationsApart.{AreToldAnew, IsToldAnew, StandsApart, lowered_watch, number_on}
use Rattle.segment_engine.proofs.ChangedLines.{known_with, lowered, unchanged_line, unlowered}

-- one line, which ended at half bit t
before_arrived : (t a : ℕ) (l : TapLine) (ss : List Sym) → l.base + length l.symbols ≡ t → a < t → symbol_on (line_extended l ss) a ≡ symbol_on l a
before_arrived t a l ss end low = elim (cases_lt a l.base) [
  | inl before ↦ if_false {m = l.base} {n = a} _ _ before ∙ sym (if_false {m = l.base} {n = a} _ _ before)
  | inr from ↦ symbol_before l ss a from (omega (arith, end, low))
]

line_arrived : (t : ℕ) (l : TapLine) (ss : List Sym) → l.base + length l.symbols ≡ t → length ss ≤ l.room → IsToldAnew t l (line_extended l ss)
line_arrived t l ss end room = record {
  place = refl;
  wait = refl;
  keeps = refl;
  begins = refl;
  size = let sum = length-append l.symbols ss in omega (arith, sum, room);
  before = λ a low. before_arrived t a l ss end low;
  classes = λ a low. class_before l ss a (omega (arith, end, low));
}

-- lines of which that of tap r has more symbols
module _ (r : ℕ) (ls ls' : List TapLine) (ss : List Sym) (many : length ls' ≡ length ls)
    (own : get_or ls' r no_line ≡ line_extended (get_or ls r no_line) ss)
    (others : (q : ℕ) (d : TapLine) → q ≢ r → get_or ls' q d ≡ get_or ls q d) where
  abbrev l : TapLine
  l = get_or ls r no_line

  alike_with : (from : ℕ) → ((a : ℕ) → a < from → class_on (line_extended l ss) a ≡ class_on l a) → IsAlikeBelow r from ls ls'
  alike_with from alike = record {
    many = many;
    place = ap (λ (y : TapLine). y.at) own;
    wait = ap (λ (y : TapLine). y.delay) own;
    others = others;
    alike = λ a low. ap (λ y. class_on y a) own ∙ alike a low;
  }

  -- where the first of them are as it went on, and where all are
  pub arrived_alike : (t k : ℕ) → l.base + length l.symbols ≡ t → k ≤ length ss → ((j : ℕ) → j < k → is_signal (get_or ss j Idle) ≡ goes_on l) → IsAlikeBelow r (t + k) ls ls'
  arrived_alike t k end few alike = alike_with (t + k) (λ a low. class_alike l ss k a few alike (omega (arith, end, low)))

  pub all_alike : ((j : ℕ) → j < length ss → is_signal (get_or ss j Idle) ≡ goes_on l) → (from : ℕ) → IsAlikeBelow r from ls ls'
  all_alike alike from = alike_with from (λ a low. class_all_alike l ss a alike)

-- a station, where the line of another tap is alike below half bit f, and where it is alike everywhere
pub stand_lowered : (of : Segment) (from t f i r : ℕ) (ls ls' : List TapLine) (w w' : Watch) (s : Sender) (k : KeptReception) → IsAlikeBelow r f ls ls' →
    t ≤ f + half_bits_back of.lookahead (get_or ls i no_line).at (get_or ls r no_line) → i ≢ r → w' ≡ lowered_watch (f + half_bits_back of.lookahead (get_or ls' i no_line).at (get_or ls' r no_line)) w →
    StandsApart of from t i ls w s k → StandsApart of from t i ls' w' s k
stand_lowered of from t f i r ls ls' w w' s k alike late other low is =
    let until = is.until in
    let within = is.within in
    let place : (get_or ls' i no_line).at ≡ (get_or ls i no_line).at = ap (λ (l : TapLine). l.at) (alike.others i no_line other) in
    let way : half_bits_back of.lookahead (get_or ls' i no_line).at (get_or ls' r no_line) ≡ half_bits_back of.lookahead (get_or ls i no_line).at (get_or ls r no_line) =
    ap₂ (λ x y. x + y - of.lookahead) (ap₂ distance place alike.place) alike.wait in
    subst (λ y. StandsApart of from t i ls' y s k) (sym (low ∙ ap (λ b. lowered_watch (f + b) w) way)) (record {
      behind = lowered of.plan.value (number_on of i) i of.lookahead from r f ls ls' w s k alike other is.behind;
      since = is.since;
      until = omega (arith, until, late);
      within = omega (arith, within);
      still = is.still;
    })

pub stand_alike : (of : Segment) (from t i r : ℕ) (ls ls' : List TapLine) (w : Watch) (s : Sender) (k : KeptReception) → ((f : ℕ) → IsAlikeBelow r f ls ls') → i ≢ r →
    StandsApart of from t i ls w s k → StandsApart of from t i ls' w s k
stand_alike of from t i r ls ls' w s k alike other is = record {
  behind = unlowered of.plan.value (number_on of i) i of.lookahead from r ls ls' w s k alike other is.behind;
  since = is.since;
  until = is.until;
  within = is.within;
  still = is.still;
}

-- the lines with what came in for the first k ports in m half bits from t on
pub record HaveArrived (plan : Plan) (w : Wiring) (L t m k : ℕ) (ls ls' : List TapLine) : Type 0 where
  pub many : length ls' ≡ length ls
  pub stations : (r : ℕ) → r < length w.stations → get_or ls' r no_line ≡ get_or ls r no_line
  pub done : (p : ℕ) → p < k → p < length w.edges → get_or ls' (length w.stations + p) no_line
      ≡ line_extended (get_or ls (length w.stations + p) no_line) (span (arrives plan L (get_or w.edges p 0)) t m)
  pub left : (p : ℕ) → k ≤ p → get_or ls' (length w.stations + p) no_line ≡ get_or ls (length w.stations + p) no_line

pub next_arrived : (plan : Plan) (w : Wiring) (L t m k : ℕ) (ls ls' ls'' : List TapLine) → HaveArrived plan w L t m k ls ls' → length ls'' ≡ length ls' →
    get_or ls'' (length w.stations + k) no_line ≡ line_extended (get_or ls' (length w.stations + k) no_line) (span (arrives plan L (get_or w.edges k 0)) t m) →
    ((q : ℕ) (l : TapLine) → q ≢ length w.stations + k → get_or ls'' q l ≡ get_or ls' q l) → HaveArrived plan w L t m (k + 1) ls ls''
next_arrived plan w L t m k ls ls' ls'' is many own others = record {
  many = many ∙ is.many;
  stations = λ r h. others r no_line (λ e. omega (arith, e, h)) ∙ is.stations r h;
  done = λ p h l. elim (cases_lt p k) [
    | inl before ↦ others (length w.stations + p) no_line (λ e. omega (arith, e, before)) ∙ is.done p before l
    | inr now ↦
        let e : k ≡ p = omega (arith, now, h) in
        let P : ℕ → Type 0 = λ j. get_or ls'' (length w.stations + j) no_line ≡ line_extended (get_or ls (length w.stations + j) no_line) (span (arrives plan L (get_or w.edges j 0)) t m) in
        subst P e (own ∙ ap (λ x. line_extended x (span (arrives plan L (get_or w.edges k 0)) t m)) (is.left k (omega arith)))
  ];
  left = λ p h. others (length w.stations + p) no_line (λ e. omega (arith, e, h)) ∙ is.left p (omega (arith, h));
}

-- the lines with all that came in
module _ (plan : Plan) (w : Wiring) (L t m : ℕ) (ls ls' : List TapLine) (know : KnowLines plan w L t t ls)
    (ends : (p : ℕ) → p < length w.edges → (get_or ls (length w.stations + p) no_line).base + length (get_or ls (length w.stations + p) no_line).symbols ≡ t)
    (room : (p : ℕ) → p < length w.edges → m ≤ (get_or ls (length w.stations + p) no_line).room)
    (is : HaveArrived plan w L t m (length w.edges) ls ls') where
  many : length ls' ≡ length ls
  many = is.many

  stations : (r : ℕ) → r < length w.stations → get_or ls' r no_line ≡ get_or ls r no_line
  stations = is.stations

  ports : (p : ℕ) → p < length w.edges → get_or ls' (length w.stations + p) no_line
      ≡ line_extended (get_or ls (length w.stations + p) no_line) (span (arrives plan L (get_or w.edges p 0)) t m)
  ports p h = is.done p h h

  abbrev n : ℕ
  n = length w.stations

  arrival : (p u : ℕ) → p < length w.edges → (get_or ls (n + p) no_line).base ≤ u → u < t + m → symbol_on (get_or ls' (n + p) no_line) u ≡ arrives plan L (get_or w.edges p 0) u
  arrival p u h low high =
      let l = get_or ls (n + p) no_line in
      let f = arrives plan L (get_or w.edges p 0) in
      let ss = span f t m in
      let end = ends p h in
      ap (λ y. symbol_on y u) (ports p h) ∙ elim (cases_lt u t) [
        | inl before ↦ symbol_before l ss u low (omega (arith, end, before)) ∙ know.arrivals p u h low before
        | inr after ↦
            let j = u - t in
            let at : t + j ≡ u = omega (arith, after) in
            symbol_ahead l ss u j (omega (arith, end, at)) ∙ get_or-span f t m j Idle (omega (arith, at, high)) ∙ ap f at
      ]

  -- they are told anew from half bit t on
  pub told_arrived : AreToldAnew t (length ls) ls ls'
  told_arrived = record {
    many = many;
    told = λ r h. elim (cases_lt r n) [
      | inl station ↦ subst (λ y. IsToldAnew t (get_or ls r no_line) y) (sym (stations r station)) (unchanged_line t (get_or ls r no_line))
      | inr port ↦
          let p = r - n in
          let at : n + p ≡ r = omega (arith, port) in
          let all = know.many in
          let in_it : p < length w.edges = omega (arith, h, all, at) in
          let ss = span (arrives plan L (get_or w.edges p 0)) t m in
          let size = length-span (arrives plan L (get_or w.edges p 0)) t m in
          let few = room p in_it in
          subst (λ j. IsToldAnew t (get_or ls j no_line) (get_or ls' j no_line)) at
          (subst (λ y. IsToldAnew t (get_or ls (n + p) no_line) y) (sym (ports p in_it)) (line_arrived t (get_or ls (n + p) no_line) ss (ends p in_it) (omega (arith, few, size))))
    ];
    others = λ r h. get_or_past ls' r no_line (let e = many in omega (arith, h, e)) ∙ sym (get_or_past ls r no_line h);
  }

  pub ends_arrived : (p : ℕ) → p < length w.edges → (get_or ls' (n + p) no_line).base + length (get_or ls' (n + p) no_line).symbols ≡ t + m
  ends_arrived p h =
      let l = get_or ls (n + p) no_line in
      let ss = span (arrives plan L (get_or w.edges p 0)) t m in
      let size = length-span (arrives plan L (get_or w.edges p 0)) t m in
      let sum = length-append l.symbols ss in
      let end = ends p h in
      let there : (line_extended l ss).base + length (line_extended l ss).symbols ≡ t + m = omega (arith, size, sum, end) in
      ap (λ (y : TapLine). y.base + length y.symbols) (ports p h) ∙ there

  pub known_arrived : KnowLines plan w L t (t + m) ls'
  known_arrived =
      known_with plan w L t (length ls) t (t + m) ls ls' told_arrived know
      (λ p u h low high. let base = ap (λ (l : TapLine). l.base) (ports p h) in arrival p u h (omega (arith, base, low)) high)
      (λ p u h high.
      let f = arrives plan L (get_or w.edges p 0) in
      let end = ends p h in
      let size = length-span f t m in
      let sum = length-append (get_or ls (n + p) no_line).symbols (span f t m) in
      subst (λ y. class_on y u ≡ is_signal (symbol_on y u)) (sym (ports p h))
      (class_within (line_extended (get_or ls (n + p) no_line) (span f t m)) u (omega (arith, end, size, sum, high))))
