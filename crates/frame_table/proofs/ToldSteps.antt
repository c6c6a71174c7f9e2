-- Lists that grow item by item, and what is told of receptions and ports.
use Rattle.std.proofs.Common.{◌≡◌, ℕ, zero, suc, ◌+◌, ◌<◌, ◌≤◌, refl, sym, ap, ◌∙◌, subst, inl, inr, List, [], ◌∷◌, ◌++◌, length, get_or, Option, Some, arith, slice_get}
use Rattle.std.specs.Global.{Vec}
use Rattle.std.specs.List.Sorted.{IsNonDecreasingBy, IsSorted}
use Rattle.std.proofs.lemmas.Bool.{cases_lt}
use Rattle.std.proofs.lemmas.List.{get_or_append_left, get_or_past, get_or_push, length_push}
use Rattle.std.proofs.lemmas.Option.{same_Some, slice_get_past, slice_get_within}
use Rattle.layout.specs.declared.lines.Layout.{Layout}
use Rattle.layout.specs.declared.lines.RepeaterLine.{RepeaterLine}
use Rattle.layout.proofs.Sides.{IsPortOf, port_of}
use Rattle.log_meter.specs.declared.line.LogLine.{LogLine}
use Rattle.frame_table.specs.Devices.{RisesFrom, events_of}
use Rattle.frame_table.specs.Ports.{changes_of}
use Rattle.frame_table.specs.Receptions.{AreReceptions, reception_cmp}
use Rattle.frame_table.specs.Told.{AreChanges, AreOrdered, IsToldByLines, changes_at, items_of, receptions_at}
use Rattle.frame_table.specs.declared.events.Event.{Event}
use Rattle.frame_table.specs.declared.ports.Change.{Change}
use Rattle.frame_table.specs.declared.told.ToldByLog.{ToldByLog}
use Rattle.frame_table.proofs.PortChanges.{changes_rise}

get_old : {X : Type 0} (xs ys : List X) (k : ℕ) → k < length xs → slice_get (xs ++ ys) k ≡ slice_get xs k
get_old [] ys k lt = absurd (omega arith)
get_old (x ∷ xs) ys zero lt = refl
get_old (x ∷ xs) ys (suc k) lt = get_old xs ys k (omega arith)

get_new : {X : Type 0} (xs : List X) (x : X) → slice_get (xs ++ x ∷ []) (length xs) ≡ Some x
get_new [] x = refl
get_new (y ∷ ys) x = get_new ys x

-- what holds of each item that is there holds with one more
pub each_got : {X : Type 0} (P : ℕ → Option X → Type 0) (old new : List X) (x : X) (n : ℕ) → length old ≡ n → new ≡ old ++ x ∷ []
    → ((k : ℕ) → k < n → P k (slice_get old k)) → P n (Some x) → (k : ℕ) → k < n + 1 → P k (slice_get new k)
each_got P old new x n long is before here k lt =
    elim (cases_lt k n) [
      | inl low ↦ subst (P k) (sym (ap (λ xs. slice_get xs k) is ∙ get_old old (x ∷ []) k (omega arith))) (before k low)
      | inr high ↦
          let same : k ≡ n = omega arith in
          let at : slice_get new n ≡ Some x = ap (λ xs. slice_get xs n) is ∙ subst (λ m. slice_get (old ++ x ∷ []) m ≡ Some x) long (get_new old x) in
          subst (λ m. P m (slice_get new m)) (sym same) (subst (P n) (sym at) here)
    ]

-- the same of items with a default
pub each_at : {X : Type 0} (P : ℕ → X → Type 0) (d : X) (old new : List X) (x : X) (n : ℕ) → length old ≡ n → new ≡ old ++ x ∷ []
    → ((k : ℕ) → k < n → P k (get_or old k d)) → P n x → (k : ℕ) → k < n + 1 → P k (get_or new k d)
each_at P d old new x n long is before here k lt =
    elim (cases_lt k n) [
      | inl low ↦ subst (P k) (sym (ap (λ xs. get_or xs k d) is ∙ get_or_append_left old (x ∷ []) d k (omega arith))) (before k low)
      | inr high ↦
          let same : k ≡ n = omega arith in
          subst (λ m. P m (get_or new m d)) (sym same) (subst (P n) (sym (ap (λ xs. get_or xs n d) is ∙ get_or_push old x d n long)) here)
    ]

-- ---- the ports of all repeaters

-- what is kept of the ports of the first n repeaters
pub record ArePorts (l : Layout) (events : List (List Event)) (n : ℕ) (ports : List (List (List Change))) : Type 0 where
  pub count : length ports ≡ n
  pub long : (r : ℕ) → r < n → (row : RepeaterLine) → slice_get l.repeaters r ≡ Some row → length (get_or ports r []) ≡ length row.ports
  pub each : (r : ℕ) → r < n → (p : ℕ) → p < length (get_or ports r []) → changes_at ports r p ≡ changes_of (p + 1) (get_or events (length l.stations + r) [])

pub ports_more : (l : Layout) (events : List (List Event)) (n : ℕ) (old new : List (List (List Change))) (row : RepeaterLine) (ports : List (List Change)) → ArePorts l events n old → new ≡ old ++ ports ∷ []
    → slice_get l.repeaters n ≡ Some row → length ports ≡ length row.ports → ((p : ℕ) → p < length row.ports → get_or ports p [] ≡ changes_of (p + 1) (get_or events (length l.stations + n) []))
    → ArePorts l events (n + 1) new
ports_more l events n old new row ports before is row_is long each = record {
  count = ap length is ∙ omega (arith, length_push old ports, before.count);
  long = each_at (λ r ps. (x : RepeaterLine) → slice_get l.repeaters r ≡ Some x → length ps ≡ length x.ports) [] old new ports n before.count is before.long
      (λ x x_is. long ∙ ap (λ (y : RepeaterLine). length y.ports) (same_Some row x (sym row_is ∙ x_is)));
  each = each_at (λ r ps. (p : ℕ) → p < length ps → get_or ps p [] ≡ changes_of (p + 1) (get_or events (length l.stations + r) [])) [] old new ports n before.count is before.each
      (λ p lt. each p (omega (arith, long)));
}

pub ports_none : (l : Layout) (events : List (List Event)) (ports : List (List (List Change))) → ports ≡ [] → ArePorts l events 0 ports
ports_none l events ports is = record {
  count = ap length is;
  long = λ r lt. absurd (omega arith);
  each = λ r lt. absurd (omega arith);
}

pub all_changes : (l : Layout) (events : List (List Event)) (n : ℕ) (ports : Vec (List (List Change))) → length l.repeaters ≤ n → ArePorts l events n ports.items → AreChanges l events ports
all_changes l events n ports all h = record {
  each = λ r p line placed.
      let found : IsPortOf l.repeaters r p line = port_of l r p line placed in
      let low : r < length l.repeaters = slice_get_within l.repeaters r found.row found.of_row in
      let within : p < length found.row.ports = slice_get_within found.row.ports p line found.of_port in
      h.each r (omega arith) p (omega (arith, h.long r (omega arith) found.row found.of_row));
  order = λ rise r p.
      elim (cases_lt r n) [
        | inl low ↦ elim (cases_lt p (length (get_or ports.items r []))) [
          | inl within ↦ subst (IsNonDecreasingBy (λ (c : Change). c.t)) (sym (h.each r low p within)) (changes_rise (p + 1) (get_or events (length l.stations + r) []) (rise (length l.stations + r)))
          | inr past ↦ subst (IsNonDecreasingBy (λ (c : Change). c.t)) (sym (get_or_past (get_or ports.items r []) p [] past)) (λ i j d le lt. absurd (omega arith))
        ]
        | inr high ↦
            let none : changes_at ports.items r p ≡ [] = ap (λ ps. get_or ps p []) (get_or_past ports.items r [] (omega (arith, h.count))) in
            subst (IsNonDecreasingBy (λ (c : Change). c.t)) (sym none) (λ i j d le lt. absurd (omega arith))
      ];
}

-- ---- what is told

pub told_lines : (l : Layout) (lines : List LogLine) (events : List (List Event)) (told : ToldByLog) → ((k : ℕ) → k < length l.stations → AreReceptions (get_or events k []) (receptions_at told.receptions.items k)) → AreChanges l events told.ports
    → ((k : ℕ) → k < length l.stations + length l.repeaters → get_or events k [] ≡ events_of l k lines) → IsToldByLines l lines told
told_lines l lines events told received changes same = record {
  receptions = λ k low. subst (λ es. AreReceptions es (receptions_at told.receptions.items k)) (same k (omega arith)) (received k low);
  ports = λ r p line placed.
      let found : IsPortOf l.repeaters r p line = port_of l r p line placed in
      let low : r < length l.repeaters = slice_get_within l.repeaters r found.row found.of_row in
      changes.each r p line placed ∙ ap (changes_of (p + 1)) (same (length l.stations + r) (omega arith));
}

pub told_ordered : (l : Layout) (events : List (List Event)) (told : ToldByLog) → length told.receptions.items ≡ length l.stations
    → ((k : ℕ) → k < length l.stations → AreReceptions (get_or events k []) (receptions_at told.receptions.items k)) → AreChanges l events told.ports
    → ((k : ℕ) → RisesFrom (λ e. e.t) 0 (get_or events k [])) → AreOrdered told
told_ordered l events told count received changes rise = record {
  receptions = λ k.
      elim (cases_lt k (length l.stations)) [
        | inl low ↦ (received k low).order
        | inr high ↦
            let none : receptions_at told.receptions.items k ≡ [] = ap items_of (slice_get_past told.receptions.items k (omega arith)) in
            subst (IsSorted reception_cmp) (sym none) (λ i d le lt. absurd (omega arith))
      ];
  ports = changes.order rise;
}
