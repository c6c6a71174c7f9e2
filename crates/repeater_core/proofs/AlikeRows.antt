-- The rows of a ring that have signals at the places of the first, one by one from the oldest on.
use Rattle.std.proofs.Common.{◌≡◌, ℕ, ◌+◌, ◌*◌, ◌<◌, ◌≤◌, false, List, length, map, take, drop, get_or, sym, ap, subst, ◌∙◌, arith, inl, inr, length-drop, length-take-le}
use Rattle.std.proofs.lemmas.Bool.{cases_lt}
use Rattle.std.proofs.lemmas.List.{take-append-le, get_or-map}
use Rattle.std.proofs.lemmas.Grind.{common_steps}
use Rattle.manchester_line.specs.declared.Sym.{Sym}
use Rattle.manchester_line.specs.declared.Sym.TheVariants.{Idle}
use Rattle.manchester_line.specs.Line.{is_signal}
use Rattle.repeater_core.specs.Delayed.{rotated, turn_after}
use Rattle.repeater_core.proofs.NextTurnOfRing.{rotated_turn}
use Rattle.repeater_core.proofs.RingLeaps.{rotated_add, row_in}

-- the ring read further on by so many rows
pub next_ring : (row p delay turn next : ℕ) (items rows : List Sym) → turn < delay → row < delay → length items ≡ delay * p → length rows ≡ delay * p → next ≡ turn_after turn delay
    → rotated (turn * p) items ≡ rotated (row * p) rows → rotated (next * p) items ≡ rotated ((row + 1) * p) rows
next_ring row p delay turn next items rows l m len lr e ring =
    let a = row_in turn delay p l in
    let b = row_in row delay p m in
    let more : row * p + p ≡ (row + 1) * p = omega arith in
    ap (λ t. rotated (t * p) items) e ∙ rotated_turn turn delay p items len ∙ sym (rotated_add p (turn * p) items (omega arith)) ∙ ap (rotated p) ring
    ∙ rotated_add p (row * p) rows (omega arith) ∙ ap (λ h. rotated h rows) more

pub one_alike : (row p delay turn n : ℕ) (items rows front : List Sym) → row < delay → length rows ≡ delay * p → n ≡ p → rotated (turn * p) items ≡ rotated (row * p) rows
    → map is_signal (take n (rotated (turn * p) items)) ≡ map is_signal front
    → ((k : ℕ) → k < row → map is_signal (take p (drop (k * p) rows)) ≡ map is_signal front) → (k : ℕ) → k < row + 1 → map is_signal (take p (drop (k * p) rows)) ≡ map is_signal front
one_alike row p delay turn n items rows front m lr np ring here before k b = elim (cases_lt k row) [
  | inl l ↦ before k l
  | inr l ↦
      let same : row ≡ k = omega arith in
      let room = row_in row delay p m in
      let d = length-drop (row * p) rows in
      let first : take p (drop (row * p) rows) ≡ take n (rotated (turn * p) items) =
      sym (take-append-le p (drop (row * p) rows) (take (row * p) rows) (omega arith)) ∙ ap (take p) (sym ring) ∙ ap (λ i. take i (rotated (turn * p) items)) (sym np) in
      subst (λ i. map is_signal (take p (drop (i * p) rows)) ≡ map is_signal front) same (ap (map is_signal) first ∙ here)
]

-- where a row has its signals at the places of another, each of its symbols is a signal where the other's is
pub flag_at : (k h : ℕ) (slots front : List Sym) (s t : Sym) → k < length front → h + length front ≤ length slots → map is_signal (take (length front) (rotated h slots)) ≡ map is_signal front
    → is_signal (get_or slots (h + k) s) ≡ is_signal (get_or front k t)
flag_at k h slots front s t l m e =
    let d = length-drop h slots in
    let cut : take (length front) (rotated h slots) ≡ take (length front) (drop h slots) = take-append-le (length front) (drop h slots) (take h slots) (omega arith) in
    let long : length (take (length front) (drop h slots)) ≡ length front = length-take-le (length front) (drop h slots) (omega arith) in
    let at : get_or (take (length front) (drop h slots)) k Idle ≡ get_or slots (h + k) Idle = grind (arith, common_steps) in
    let here : get_or slots (h + k) s ≡ get_or slots (h + k) Idle = grind (arith, common_steps) in
    let there : get_or front k t ≡ get_or front k Idle = grind (arith, common_steps) in
    ap is_signal (here ∙ sym at) ∙ sym (get_or-map is_signal (take (length front) (drop h slots)) k Idle false (omega arith))
    ∙ ap (λ xs. get_or xs k false) (ap (map is_signal) (sym cut) ∙ e) ∙ get_or-map is_signal front k Idle false l ∙ sym (ap is_signal there)
