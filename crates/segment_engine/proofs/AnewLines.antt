-- A line that ends at a half bit, and has from there on what its station emits.
use Rattle.std.proofs.Common.{◌≡◌, ℕ, zero, suc, ◌+◌, ◌-◌, ◌<◌, ◌≤◌, Bool, true, false, inl, inr, List, [], ◌∷◌, ◌++◌, replicate, length, length-append, get_or, refl, sym, subst, ap, ◌∙◌, arith}
use Rattle.std.proofs.lemmas.Bool.{cases_lt}
use Rattle.manchester_line.specs.declared.Sym.{Sym}
use Rattle.manchester_line.specs.declared.Sym.TheVariants.{Idle}
use Rattle.manchester_line.specs.Line.{is_signal}
use Rattle.mac_transmit.specs.Sender.{Sender, is_sending}
use Rattle.mac_transmit.specs.Emissions.{IsSendingFor, emission_by}
use Rattle.net_parts.proofs.LateRows.{if_false}
use Rattle.net_parts.proofs.RepeaterSteps.{length-span, get_or-span}
use Rattle.tap_lines.specs.TapLines.{TapLine, class_on, goes_on, line_ended, line_extended, symbol_on}
use Rattle.tap_lines.proofs.KeptLines.{ended_place, ended_delay, ended_backlog, ended_base, ended_end, ended_size, ended_symbol, ended_class}
use Rattle.tap_lines.proofs.LineClasses.{class_within, class_behind, class_before, class_all_alike, symbol_behind}
use Rattle.tap_lines.proofs.LinesAhead.{symbol_ahead, symbol_before}
use Rattle.segment_engine.specs.SteadyPieces.{sent_ahead}
use Rattle.segment_engine.specs.StationsApart.{IsAnew, IsToldAnew}
use Rattle.segment_engine.proofs.SteadyCalm.{emits_idle}

last_at : (xs : List Sym) (e : Sym) (i : ℕ) → i ≡ length xs → get_or (xs ++ e ∷ []) i Idle ≡ e
last_at [] e zero h = refl
last_at [] e (suc i) h = absurd (omega (arith, h))
last_at (x ∷ xs) e zero h = absurd (omega (arith, h))
last_at (x ∷ xs) e (suc i) h = last_at xs e i (omega (arith, h))

goes_last : (l : TapLine) (e : Sym) → goes_on (line_extended l (e ∷ [])) ≡ is_signal e
goes_last l e = let sum = length-append l.symbols (e ∷ []) in ap is_signal (last_at l.symbols e _ (omega (arith, sum)))

-- where nothing stands on a line
nothing_before : (l : TapLine) (a : ℕ) → a < l.base → symbol_on l a ≡ Idle
nothing_before l a h = if_false {m = l.base} {n = a} _ _ h

-- the room of a line that ended at half bit u, and with one symbol more
pub ended_room : (u n : ℕ) (l : TapLine) → l.base ≤ u → u + n ≤ l.base + length l.symbols + l.room → n ≤ (line_ended u l).room
ended_room u n l begun takes =
    let size = ended_size u l (omega (arith, takes)) in
    let end = ended_end u l begun in
    omega (arith, size, end, takes)

pub said_room : (u n : ℕ) (e : Sym) (l : TapLine) → l.base ≤ u → u + 1 + n ≤ l.base + length l.symbols + l.room → n ≤ (line_extended (line_ended u l) (e ∷ [])).room
said_room u n e l begun takes = let more = ended_room u (1 + n) l begun (omega (arith, takes)) in omega (arith, more)

-- a line that goes on with a signal reaches to where it is right
pub reaches_of : (u : ℕ) (l : TapLine) → ((a : ℕ) → a < u → class_on l a ≡ is_signal (symbol_on l a)) → goes_on l ≡ true → u ≤ l.base + length l.symbols
reaches_of u l right on = elim (cases_lt (l.base + length l.symbols) u) [
  | inl short ↦
      let a = l.base + length l.symbols in
      let no : true ≡ false = sym on ∙ sym (class_behind l a (omega arith)) ∙ right a short ∙ ap is_signal (symbol_behind l a (omega arith)) in
      absurd (cc)
  | inr there ↦ there
]

-- a line that ended at half bit u, with the symbol of that half bit and those of the later ones
module _ (u : ℕ) (e : Sym) (ss : List Sym) (l : TapLine) (begun : l.base ≤ u) (room : u + 1 + length ss ≤ l.base + length l.symbols + l.room)
    (reaches : goes_on l ≡ true → u ≤ l.base + length l.symbols) where
  abbrev ended : TapLine
  ended = line_ended u l

  abbrev said : TapLine
  said = line_extended ended (e ∷ [])

  abbrev told : TapLine
  told = line_extended said ss

  base_is : ended.base ≡ l.base
  base_is = ended_base u l

  ends : ended.base + length ended.symbols ≡ u
  ends = let base = base_is in let end = ended_end u l begun in omega (arith, base, end)

  said_ends : said.base + length said.symbols ≡ u + 1
  said_ends = let end = ends in let sum = length-append ended.symbols (e ∷ []) in omega (arith, end, sum)

  told_ends : told.base + length told.symbols ≡ u + 1 + length ss
  told_ends = let end = said_ends in let sum = length-append said.symbols ss in omega (arith, end, sum)

  same_size : length told.symbols + told.room ≡ length l.symbols + l.room
  same_size =
      let size = ended_size u l (omega (arith, room)) in
      let one = length-append ended.symbols (e ∷ []) in
      let more = length-append said.symbols ss in
      let end = ends in
      let base = base_is in
      omega (arith, size, one, more, end, base, room)

  same_before : (a : ℕ) → a < u → symbol_on told a ≡ symbol_on l a
  same_before a below = elim (cases_lt a ended.base) [
    | inl before ↦
        (let base = base_is in nothing_before told a before ∙ sym (nothing_before l a (omega (arith, base, before))))
    | inr from ↦
        (let end = ends in
        let next = said_ends in
        symbol_before said ss a from (omega (arith, next, below))
        ∙ symbol_before ended (e ∷ []) a from (omega (arith, end, below))
        ∙ ended_symbol u a l begun below)
  ]

  same_classes : (a : ℕ) → a < u → class_on told a ≡ class_on l a
  same_classes a below =
      let end = ends in
      let next = said_ends in
      class_before said ss a (omega (arith, next, below))
      ∙ class_before ended (e ∷ []) a (omega (arith, end, below))
      ∙ ended_class u a l begun below reaches

  pub told_anew : IsToldAnew u l told
  told_anew = record {
    place = ended_place u l;
    wait = ended_delay u l;
    keeps = ended_backlog u l;
    begins = base_is;
    size = same_size;
    before = same_before;
    classes = same_classes;
  }

  -- what it has in half bit u, and then
  pub told_now : symbol_on told u ≡ e
  told_now =
      let base = base_is in
      let end = ends in
      let next = said_ends in
      symbol_before said ss u (omega (arith, base, begun)) (omega (arith, next))
      ∙ symbol_ahead ended (e ∷ []) u 0 (omega (arith, end))

  pub class_now : class_on told u ≡ is_signal e
  class_now = let end = told_ends in class_within told u (omega (arith, end)) ∙ ap is_signal told_now

  pub told_later : (j : ℕ) → symbol_on told (u + 1 + j) ≡ get_or ss j Idle
  told_later j = let next = said_ends in symbol_ahead said ss (u + 1 + j) j (omega (arith, next))

  -- how it goes on, where all symbols are of one class
  pub told_goes : (c : Bool) → is_signal e ≡ c → ((j : ℕ) → j < length ss → is_signal (get_or ss j Idle) ≡ c) → (a : ℕ) → u + 1 ≤ a → class_on told a ≡ c
  told_goes c first all a late =
      let next = said_ends in
      class_all_alike said ss a (λ j h. all j h ∙ sym first ∙ sym (goes_last ended e))
      ∙ class_behind said a (omega (arith, next, late))
      ∙ goes_last ended e
      ∙ first

-- the line of a station that sends, with what its sending has ahead
pub sends_anew : (u n : ℕ) (e : Sym) (l : TapLine) (s : Sender) → l.base ≤ u → u + 1 + n ≤ l.base + length l.symbols + l.room → (goes_on l ≡ true → u ≤ l.base + length l.symbols) →
    is_signal e ≡ is_sending s.phase → ((j : ℕ) → j < n → is_signal (emission_by s j s.phase) ≡ is_sending s.phase) → (is_sending s.phase ≡ true → IsSendingFor s n s.phase) →
    IsAnew u (u + 1 + n) e l (line_extended (line_extended (line_ended u l) (e ∷ [])) (sent_ahead s n)) s
sends_anew u n e l s begun room reaches first signal lasts =
    let ss = sent_ahead s n in
    let size : length ss ≡ n = length-span (λ j. emission_by s j s.phase) 0 n in
    let enough : u + 1 + length ss ≤ l.base + length l.symbols + l.room = omega (arith, size, room) in
    let left : u + 1 + n - (u + 1) ≡ n = omega arith in
    let symbol : (j : ℕ) → j < n → get_or ss j Idle ≡ emission_by s j s.phase = λ j h.
    let none : 0 + j ≡ j = omega arith in
    get_or-span (λ i. emission_by s i s.phase) 0 n j Idle h ∙ ap (λ i. emission_by s i s.phase) none in
    record {
      same = told_anew u e ss l begun enough reaches;
      now = told_now u e ss l begun enough reaches;
      class = class_now u e ss l begun enough reaches;
      tells = record {
        from = omega arith;
        line = λ j h. told_later u e ss l begun enough reaches j ∙ symbol j (omega (arith, h));
        signal = λ j h. signal j (omega (arith, h));
        goes = told_goes u e ss l begun enough reaches (is_sending s.phase) first (λ j h. let in_it : j < n = omega (arith, h, size) in ap is_signal (symbol j in_it) ∙ signal j in_it);
        lasts = λ sending. subst (λ m. IsSendingFor s m s.phase) (sym left) (lasts sending);
      };
    }

-- the line of a station that doesn't send ends with Idle
pub rests_anew : (u told : ℕ) (e : Sym) (l : TapLine) (s : Sender) → l.base ≤ u → u + 2 ≤ l.base + length l.symbols + l.room → (goes_on l ≡ true → u ≤ l.base + length l.symbols) →
    u + 1 ≤ told → is_signal e ≡ is_sending s.phase → is_sending s.phase ≡ false →
    IsAnew u told e l (line_extended (line_extended (line_ended u l) (e ∷ [])) (replicate 1 Idle)) s
rests_anew u told e l s begun room reaches later first off =
    let ss = replicate 1 Idle in
    let enough : u + 1 + length ss ≤ l.base + length l.symbols + l.room = omega (arith, room) in
    record {
      same = told_anew u e ss l begun enough reaches;
      now = told_now u e ss l begun enough reaches;
      class = class_now u e ss l begun enough reaches;
      tells = record {
        from = later;
        line = λ j h. told_later u e ss l begun enough reaches j ∙ one_idle j ∙ sym (emits_idle s j s.phase off);
        signal = λ j h. ap is_signal (emits_idle s j s.phase off) ∙ sym off;
        goes = told_goes u e ss l begun enough reaches (is_sending s.phase) first (λ j h. ap is_signal (one_idle j) ∙ sym off);
        lasts = λ sending. absurd (let no : true ≡ false = sym sending ∙ off in cc);
      };
    }
  where
    one_idle : (j : ℕ) → get_or (Idle ∷ []) j Idle ≡ Idle
    one_idle zero = refl
    one_idle (suc j) = refl
