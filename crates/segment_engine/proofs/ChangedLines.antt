-- What taps hear by lines of which some have changed.
use Rattle.std.proofs.Common.{◌≡◌, ◌≢◌, ℕ, suc, ◌+◌, ◌-◌, ◌<◌, ◌≤◌, ◌∷◌, ◌||◌, Bool, true, false, cond, eqb, leb, inl, inr, List, [], map, max, min, take, length, length-append, get_or, refl, sym, subst, ap, ap₂, ◌∙◌, arith}
use Rattle.std.proofs.lemmas.List.{get_or-map, get_or_append_left}
use Rattle.std.proofs.lemmas.Bool.{cases_lt, cases_eq, cases_order, eq-eqb}
use Rattle.manchester_line.specs.declared.Sym.{Sym}
use Rattle.manchester_line.specs.declared.Sym.TheVariants.{Idle, Hi, Lo, Clash}
use Rattle.manchester_line.specs.Line.{mix_of, is_signal}
use Rattle.mac_parameters.specs.Distances.{distance}
use Rattle.layout.specs.declared.lines.PortLine.{PortLine}
use Rattle.layout.specs.Taps.{tap_of, taps_of, positions_on}
use Rattle.load_plan.specs.declared.plan.Plan.{Plan}
use Rattle.mac_receive.specs.KeptReceiver.{KeptReception}
use Rattle.mac_transmit.specs.Sender.{Sender}
use Rattle.network.specs.Times.{earlier}
use Rattle.network.specs.TapsOnSegments.{count_on}
use Rattle.network.proofs.RunnablePlans.{apart_plan}
use Rattle.network.proofs.TapsOnSegments.{position_at}
use Rattle.net_parts.specs.Windows.{edge_ports, lookahead}
use Rattle.net_parts.specs.SegmentParts.{Wiring, wiring}
use Rattle.net_parts.specs.Standing.{arrives}
use Rattle.net_parts.proofs.LateRows.{if_true, if_false}
use Rattle.net_parts.proofs.StationNumbers.{numbered, count-left}
use Rattle.tap_lines.specs.TapLines.{TapLine, no_line, half_bits_back, heard_of_lines, heard_by_lines, symbol_on, class_on, class_back, class_of_lines, class_by_lines}
use Rattle.tap_lines.specs.TapLists.{AreIdleButFor}
use Rattle.tap_lines.proofs.LineClasses.{IsAlikeBelow, class_same, heard_alike, heard_unchanged, le_false, le_true}
use Rattle.segment_engine.specs.declared.apart.Watch.{Watch}
use Rattle.segment_engine.specs.KnownLines.{KnowLines}
use Rattle.segment_engine.specs.StationsApart.{StandsBehind, HearsByLines, AreToldAnew, IsToldAnew, lowered_watch}
use Rattle.segment_engine.proofs.CalmLater.{calm_fewer}

-- what tap p, at a place, hears of a line that is tap q's
abbrev heard_of_one : ℕ → ℕ → ℕ → ℕ → ℕ → TapLine → Sym
heard_of_one L t p at q l = cond (eqb q p) Idle (earlier (symbol_on l) t (half_bits_back L at l))

-- lines of each of which the tap hears the same
heard_same : (L t p at q : ℕ) (ls ls' : List TapLine) → length ls' ≡ length ls →
    ((i r : ℕ) → i < length ls → r ≡ q + i → heard_of_one L t p at r (get_or ls' i no_line) ≡ heard_of_one L t p at r (get_or ls i no_line)) →
    heard_of_lines L t p at q ls' ≡ heard_of_lines L t p at q ls
heard_same L t p at q [] [] many same = refl
heard_same L t p at q [] (l' ∷ ls') many same = absurd (omega (arith, many))
heard_same L t p at q (l ∷ ls) [] many same = absurd (omega (arith, many))
heard_same L t p at q (l ∷ ls) (l' ∷ ls') many same =
    ap₂ mix_of
    (same 0 q (omega arith) (omega arith))
    (heard_same L t p at (q + 1) ls ls' (omega (arith, many)) (λ i r h e. same (suc i) r (omega (arith, h)) (omega (arith, e))))

-- one line, of which nothing up to the half bit has changed
one_same : (L t p at q : ℕ) (l l' : TapLine) → l'.at ≡ l.at → l'.delay ≡ l.delay → ((a : ℕ) → a ≤ t → symbol_on l' a ≡ symbol_on l a) →
    heard_of_one L t p at q l' ≡ heard_of_one L t p at q l
one_same L t p at q l l' place wait same =
    let back = half_bits_back L at l in
    let way : half_bits_back L at l' ≡ back = ap₂ (λ x d. distance at x + d - L) place wait in
    ap (λ b. cond (eqb q p) Idle (earlier (symbol_on l') t b)) way
    ∙ ap (λ x. cond (eqb q p) Idle (cond (leb back t) x Idle)) (same (t - back) (omega arith))

-- Lines that differ from half bit u on at most say the same of what is heard below it, and of what they are right below.
pub unchanged_line : (u : ℕ) (l : TapLine) → IsToldAnew u l l
unchanged_line u l = record { place = refl; wait = refl; keeps = refl; begins = refl; size = refl; before = λ a h. refl; classes = λ a h. refl }

pub line_anew : (u n q : ℕ) (ls ls' : List TapLine) → AreToldAnew u n ls ls' → IsToldAnew u (get_or ls q no_line) (get_or ls' q no_line)
line_anew u n q ls ls' anew = elim (cases_lt q n) [
  | inl one ↦ anew.told q one
  | inr other ↦ subst (λ l. IsToldAnew u (get_or ls q no_line) l) (sym (anew.others q other)) (unchanged_line u (get_or ls q no_line))
]

pub same_places : (ls ls' : List TapLine) → length ls' ≡ length ls → ((i : ℕ) → (get_or ls' i no_line).at ≡ (get_or ls i no_line).at) →
    map (λ (l : TapLine). l.at) ls' ≡ map (λ (l : TapLine). l.at) ls
same_places [] [] many same = refl
same_places [] (l' ∷ ls') many same = absurd (omega (arith, many))
same_places (l ∷ ls) [] many same = absurd (omega (arith, many))
same_places (l ∷ ls) (l' ∷ ls') many same = ap₂ ◌∷◌ (same 0) (same_places ls ls' (omega (arith, many)) (λ i. same (suc i)))

-- where it is known what their ports' have
pub known_with : (plan : Plan) (w : Wiring) (L u m front front' : ℕ) (ls ls' : List TapLine) → AreToldAnew u m ls ls' → KnowLines plan w L u front ls →
    ((p a : ℕ) → p < length w.edges → (get_or ls' (length w.stations + p) no_line).base ≤ a → a < front' → symbol_on (get_or ls' (length w.stations + p) no_line) a ≡ arrives plan L (get_or w.edges p 0) a) →
    ((p a : ℕ) → p < length w.edges → a < front' → class_on (get_or ls' (length w.stations + p) no_line) a ≡ is_signal (symbol_on (get_or ls' (length w.stations + p) no_line) a)) → KnowLines plan w L u front' ls'
known_with plan w L u m front front' ls ls' anew know arrivals classes =
    let n = length w.stations in
    let many = anew.many in
    record {
      many = many ∙ know.many;
      places = same_places ls ls' many (λ i. (line_anew u m i ls ls' anew).place) ∙ know.places;
      no_delays = λ r h. (line_anew u m r ls ls' anew).wait ∙ know.no_delays r h;
      delays = λ p h. (line_anew u m (n + p) ls ls' anew).wait ∙ know.delays p h;
      begins = λ r h.
          let is = line_anew u m r ls ls' anew in
          let base = is.begins in
          let kept = is.keeps in
          let z = know.begins r (omega (arith, h, many)) in
          omega (arith, base, kept, z);
      near = λ p r hp hr.
          let is = line_anew u m r ls ls' anew in
          let wait = is.wait in
          let kept = is.keeps in
          let z = know.near p r hp (omega (arith, hr, many)) in
          omega (arith, wait, kept, z);
      emissions = λ r a h low high.
          let is = line_anew u m r ls ls' anew in
          let base = is.begins in
          is.before a high ∙ know.emissions r a h (omega (arith, low, base)) high;
      arrivals = arrivals;
      classes = λ r a h low.
          let is = line_anew u m r ls ls' anew in
          is.classes a low ∙ know.classes r a h low ∙ sym (ap is_signal (is.before a low));
      port_classes = classes;
    }

pub known_anew : (plan : Plan) (s u front : ℕ) (ls ls' : List TapLine) → AreToldAnew u (length (wiring plan.layout s).stations) ls ls' →
    KnowLines plan (wiring plan.layout s) (lookahead plan.layout) u front ls → KnowLines plan (wiring plan.layout s) (lookahead plan.layout) u front ls'
known_anew plan s u front ls ls' anew know =
    let n = length (wiring plan.layout s).stations in
    known_with plan (wiring plan.layout s) (lookahead plan.layout) u n front front ls ls' anew know
    (λ p a h low high.
    let is = anew.others (n + p) (omega arith) in
    let base = ap (λ (l : TapLine). l.base) is in
    ap (λ l. symbol_on l a) is ∙ know.arrivals p a h (omega (arith, low, base)) high)
    (λ p a h low. subst (λ l. class_on l a ≡ is_signal (symbol_on l a)) (sym (anew.others (n + p) (omega arith))) (know.port_classes p a h low))

pub heard_anew : (L u n a q : ℕ) (ls ls' : List TapLine) → AreToldAnew u n ls ls' → a < u → heard_by_lines L a ls' q ≡ heard_by_lines L a ls q
heard_anew L u n a q ls ls' anew below =
    let at = (get_or ls q no_line).at in
    ap (λ x. heard_of_lines L a q x 0 ls') (line_anew u n q ls ls' anew).place
    ∙ heard_same L a q at 0 ls ls' anew.many (λ i r h e.
    let is = line_anew u n i ls ls' anew in
    one_same L a q at r (get_or ls i no_line) (get_or ls' i no_line) is.place is.wait (λ b c. is.before b (omega (arith, c, below))))

pub class_anew : (L u n a q : ℕ) (ls ls' : List TapLine) → AreToldAnew u n ls ls' → a < u → class_by_lines L a ls' q ≡ class_by_lines L a ls q
class_anew L u n a q ls ls' anew below =
    class_same L a q ls ls' anew.many (line_anew u n q ls ls' anew).place
    (λ r h e. (line_anew u n r ls ls' anew).place)
    (λ r h e. (line_anew u n r ls ls' anew).wait)
    (λ r h e there. (line_anew u n r ls ls' anew).classes (a - half_bits_back L (get_or ls q no_line).at (get_or ls r no_line)) (omega (arith, below)))

pub hears_anew : (plan : Plan) (x q L t u n : ℕ) (ls ls' : List TapLine) → AreToldAnew u n ls ls' → HearsByLines plan x q L t u ls → HearsByLines plan x q L t u ls'
hears_anew plan x q L t u n ls ls' anew right = record {
  hears = λ a low high. right.hears a low high ∙ sym (heard_anew L u n a q ls ls' anew high);
  classes = λ a low high. class_anew L u n a q ls ls' anew high ∙ right.classes a low high ∙ ap is_signal (sym (heard_anew L u n a q ls ls' anew high));
  emits = λ a low high. right.emits a low high ∙ sym ((line_anew u n q ls ls' anew).before a high);
}

-- Two stations' taps share no place.
nowhere : PortLine
nowhere = record { segment = 0; at = 0 }

-- where the tap of station r of a segment is among all taps
record IsTapOf (plan : Plan) (s r : ℕ) : Type 0 where
  i : ℕ
  within : i < length (taps_of plan.layout)
  on : (get_or (taps_of plan.layout) i nowhere).segment ≡ s
  before : count_on s (take i (taps_of plan.layout)) ≡ r
  place : get_or (wiring plan.layout s).positions r 0 ≡ (get_or (taps_of plan.layout) i nowhere).at

tap_is : (plan : Plan) (s r : ℕ) → r < length (wiring plan.layout s).stations → IsTapOf plan s r
tap_is plan s r h =
    let xs = map tap_of plan.layout.stations in
    let ys = edge_ports plan.layout in
    let all = taps_of plan.layout in
    let is = numbered s 0 xs r nowhere h in
    let in_xs = is.within in
    let both = length-append xs ys in
    let in_all : is.i < length all = omega (arith, in_xs, both) in
    let at : get_or all is.i nowhere ≡ get_or xs is.i nowhere = get_or_append_left xs ys nowhere is.i in_xs in
    let on : (get_or all is.i nowhere).segment ≡ s = ap (λ (x : PortLine). x.segment) at ∙ is.on in
    let before : count_on s (take is.i all) ≡ r = count-left s xs ys is.i (omega (arith, in_xs)) ∙ is.before in
    record {
      i = is.i;
      within = in_all;
      on = on;
      before = before;
      place = ap (λ c. get_or (positions_on s all) c 0) (sym before) ∙ position_at s all is.i nowhere in_all on;
    }

places_apart : (plan : Plan) (s q p : ℕ) → q < length (wiring plan.layout s).stations → p < length (wiring plan.layout s).stations → q ≢ p →
    get_or (wiring plan.layout s).positions q 0 ≢ get_or (wiring plan.layout s).positions p 0
places_apart plan s q p hq hp other same =
    let a = tap_is plan s q hq in
    let b = tap_is plan s p hp in
    apart_plan plan a.i b.i nowhere a.within b.within
    (λ e. other (sym a.before ∙ ap (λ i. count_on s (take i (taps_of plan.layout))) e ∙ b.before))
    (a.on ∙ sym b.on)
    (sym a.place ∙ same ∙ b.place)

some_way : (a b : ℕ) → a ≢ b → 1 ≤ distance a b
some_way a b differs = elim (cases_order a b) [
  | inl e ↦ absurd (differs e)
  | inr less ↦ elim less [ inl l ↦ omega arith | inr l ↦ omega arith ]
]

pub reaches_later : (plan : Plan) (s t front : ℕ) (ls : List TapLine) → KnowLines plan (wiring plan.layout s) (lookahead plan.layout) t front ls →
    (q p : ℕ) → q < length (wiring plan.layout s).stations → p < length (wiring plan.layout s).stations → q ≢ p →
    1 ≤ half_bits_back (lookahead plan.layout) (get_or ls q no_line).at (get_or ls p no_line)
reaches_later plan s t front ls know q p hq hp other =
    let many = know.many in
    let place : (r : ℕ) → r < length ls → (get_or ls r no_line).at ≡ get_or (wiring plan.layout s).positions r 0 =
    λ r h. sym (get_or-map (λ (l : TapLine). l.at) ls r no_line 0 h) ∙ ap (λ xs. get_or xs r 0) know.places in
    let first = place q (omega (arith, hq, many)) in
    let second = place p (omega (arith, hp, many)) in
    let wait = know.no_delays p hp in
    let some = some_way (get_or ls q no_line).at (get_or ls p no_line).at (λ e. places_apart plan s q p hq hp other (sym first ∙ e ∙ second)) in
    omega (arith, wait, some)

-- A tap hears a signal by lines as they go on where it hears one by them.
mix_class : (a b : Sym) → is_signal (mix_of a b) ≡ is_signal a || is_signal b
mix_class Idle b = refl
mix_class Hi Idle = refl
mix_class Hi Hi = refl
mix_class Hi Lo = refl
mix_class Hi Clash = refl
mix_class Lo Idle = refl
mix_class Lo Hi = refl
mix_class Lo Lo = refl
mix_class Lo Clash = refl
mix_class Clash Idle = refl
mix_class Clash Hi = refl
mix_class Clash Lo = refl
mix_class Clash Clash = refl

class_once : (b : Bool) (c : Bool) (x : Sym) → c ≡ is_signal x → cond b false c ≡ is_signal (cond b Idle x)
class_once true c x h = refl
class_once false c x h = h

-- of one line, with a signal where there is one
class_of_one : (L t p at r : ℕ) (l : TapLine) → (half_bits_back L at l ≤ t → class_on l (t - half_bits_back L at l) ≡ is_signal (symbol_on l (t - half_bits_back L at l))) →
    class_back l t (half_bits_back L at l) ≡ is_signal (earlier (symbol_on l) t (half_bits_back L at l))
class_of_one L t p at r l so =
    let back = half_bits_back L at l in
    elim (cases_lt t back) [
      | inl before ↦ le_false {m = back} {n = t} _ _ before ∙ sym (ap is_signal (if_false {m = back} {n = t} _ _ before))
      | inr there ↦ le_true {m = back} {n = t} _ _ there ∙ so there ∙ sym (ap is_signal (if_true {m = back} {n = t} _ _ there))
    ]

class_of_all : (L t p at q : ℕ) (ls : List TapLine) →
    ((i r : ℕ) → i < length ls → r ≡ q + i → r ≢ p → half_bits_back L at (get_or ls i no_line) ≤ t →
    class_on (get_or ls i no_line) (t - half_bits_back L at (get_or ls i no_line)) ≡ is_signal (symbol_on (get_or ls i no_line) (t - half_bits_back L at (get_or ls i no_line)))) →
    class_of_lines L t p at q ls ≡ is_signal (heard_of_lines L t p at q ls)
class_of_all L t p at q [] so = refl
class_of_all L t p at q (l ∷ ls) so =
    let first : cond (eqb q p) false (class_back l t (half_bits_back L at l)) ≡ is_signal (cond (eqb q p) Idle (earlier (symbol_on l) t (half_bits_back L at l))) =
    elim (cases_eq q p) [
      | inl own ↦
          let same : eqb q p ≡ true = eq-eqb q p own in
          ap (λ b. cond b false (class_back l t (half_bits_back L at l))) same ∙ sym (ap (λ b. is_signal (cond b Idle (earlier (symbol_on l) t (half_bits_back L at l)))) same)
      | inr differs ↦ class_once (eqb q p) (class_back l t (half_bits_back L at l)) (earlier (symbol_on l) t (half_bits_back L at l)) (class_of_one L t p at q l (so 0 q (omega arith) (omega arith) differs))
    ] in
    ap₂ ◌||◌ first (class_of_all L t p at (q + 1) ls (λ i r h e. so (suc i) r (omega (arith, h)) (omega (arith, e))))
    ∙ sym (mix_class (cond (eqb q p) Idle (earlier (symbol_on l) t (half_bits_back L at l))) (heard_of_lines L t p at (q + 1) ls))

-- a station of a segment whose lines are right hears a signal by these as they go on where it hears one by them
pub class_known : (plan : Plan) (s t front : ℕ) (ls : List TapLine) → KnowLines plan (wiring plan.layout s) (lookahead plan.layout) t front ls → t < front →
    (q : ℕ) → q < length (wiring plan.layout s).stations → class_by_lines (lookahead plan.layout) t ls q ≡ is_signal (heard_by_lines (lookahead plan.layout) t ls q)
class_known plan s t front ls know below q hq =
    let n = length (wiring plan.layout s).stations in
    let L = lookahead plan.layout in
    let at = (get_or ls q no_line).at in
    class_of_all L t q at 0 ls (λ i r h e differs there.
    let back = half_bits_back L at (get_or ls i no_line) in
    elim (cases_lt i n) [
      | inl station ↦
          let some = reaches_later plan s t front ls know q i hq station (λ e'. differs (omega (arith, e, e'))) in
          know.classes i (t - back) station (omega (arith, some, there))
      | inr port ↦
          let p = i - n in
          let same : n + p ≡ i = omega (arith, port) in
          let many = know.many in
          subst (λ j. class_on (get_or ls j no_line) (t - back) ≡ is_signal (symbol_on (get_or ls j no_line) (t - back))) same
          (know.port_classes p (t - back) (omega (arith, h, many, same)) (omega (arith, below)))
    ])

-- What holds of another station, where its watch goes no further than the change is heard.
pub lowered : (plan : Plan) (x q L t p from : ℕ) (ls ls' : List TapLine) (w : Watch) (s : Sender) (k : KeptReception) → IsAlikeBelow p from ls ls' → q ≢ p →
    StandsBehind plan x q L t ls w s k → StandsBehind plan x q L t ls' (lowered_watch (from + half_bits_back L (get_or ls q no_line).at (get_or ls p no_line)) w) s k
lowered plan x q L t p from ls ls' w s k is apart behind =
    let back = half_bits_back L (get_or ls q no_line).at (get_or ls p no_line) in
    let same : get_or ls' q no_line ≡ get_or ls q no_line = is.others q no_line apart in
    let order = behind.ordered in
    let within = behind.within in
    record {
      from_start = behind.from_start;
      ordered = omega (arith, order);
      within = omega (arith, within);
      sender = behind.sender;
      receiver = behind.receiver;
      time = behind.time;
      steps = behind.steps;
      calm = calm_fewer (min w.until (max (from + back) w.since) - w.since) (w.until - w.since) w.carrier s (omega arith) behind.calm;
      steady = λ a low high. heard_alike L p from a q ls ls' is (omega (arith, low, high)) ∙ behind.steady a low (omega (arith, high));
      line = λ j h. ap (λ l. symbol_on l (w.since + j)) same ∙ behind.line j h;
      signal = behind.signal;
      lasts = behind.lasts;
      goes = λ a low. ap (λ l. class_on l a) same ∙ behind.goes a low;
    }

pub unlowered : (plan : Plan) (x q L t p : ℕ) (ls ls' : List TapLine) (w : Watch) (s : Sender) (k : KeptReception) → ((from : ℕ) → IsAlikeBelow p from ls ls') → q ≢ p →
    StandsBehind plan x q L t ls w s k → StandsBehind plan x q L t ls' w s k
unlowered plan x q L t p ls ls' w s k is apart behind =
    let same : get_or ls' q no_line ≡ get_or ls q no_line = (is 0).others q no_line apart in
    record {
      from_start = behind.from_start;
      ordered = behind.ordered;
      within = behind.within;
      sender = behind.sender;
      receiver = behind.receiver;
      time = behind.time;
      steps = behind.steps;
      calm = behind.calm;
      steady = λ a low high. heard_unchanged L p a q ls ls' is ∙ behind.steady a low high;
      line = λ j h. ap (λ l. symbol_on l (w.since + j)) same ∙ behind.line j h;
      signal = behind.signal;
      lasts = behind.lasts;
      goes = λ a low. ap (λ l. class_on l a) same ∙ behind.goes a low;
    }

-- the list of loud taps stands where no line has a signal in the place of Idle
pub listed_alike : (u p : ℕ) (ls ls' : List TapLine) (ns : List ℕ) → ((from : ℕ) → IsAlikeBelow p from ls ls') → AreIdleButFor u ls ns → AreIdleButFor u ls' ns
listed_alike u p ls ls' ns is idle =
    let many = (is 0).many in
    record {
      within = λ i h. let z = idle.within i h in omega (arith, z, many);
      rising = idle.rising;
      others = λ r h out v late.
          let before : class_on (get_or ls r no_line) v ≡ false = idle.others r (omega (arith, h, many)) out v late in
          elim (cases_eq r p) [
            | inl own ↦
                let one : class_on (get_or ls' r no_line) v ≡ class_on (get_or ls r no_line) v =
                subst (λ j. class_on (get_or ls' j no_line) v ≡ class_on (get_or ls j no_line) v) (sym own) ((is (suc v)).alike v (omega arith)) in
                one ∙ before
            | inr differs ↦ ap (λ l. class_on l v) ((is 0).others r no_line differs) ∙ before
          ];
    }
