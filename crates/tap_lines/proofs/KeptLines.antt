-- Lines that end at a half bit, or come to one and keep no more than they must.
use Rattle.std.proofs.Common.{◌≡◌, ℕ, min, max, ◌+◌, ◌-◌, ◌<◌, ◌≤◌, Bool, true, false, cond, leb, ltb, inl, inr, replicate, drop, length, length-drop, length-take-le, get_or, refl, sym, subst, ap, ◌∙◌, arith}
use Rattle.std.proofs.lemmas.Bool.{cases_lt, false≢true}
use Rattle.std.proofs.lemmas.Bool.Decides.{nat_tests}
use Rattle.std.proofs.lemmas.List.{length-replicate, get_or-replicate, get_or-take, get_or-drop, get_or_past}
use Rattle.manchester_line.specs.declared.Sym.TheVariants.{Idle}
use Rattle.manchester_line.specs.Line.{is_signal}
use Rattle.net_parts.proofs.LateRows.{if_true, if_false}
use Rattle.tap_lines.specs.TapLines.{TapLine, symbol_on, line_extended, line_cut, dropped_from, passed, line_ended, forgotten, goes_on, class_on}
use Rattle.tap_lines.proofs.ExtendedLines.{unwritten_size}
use Rattle.tap_lines.proofs.LinesAhead.{idle_tail}
use Rattle.tap_lines.proofs.LineClasses.{class_within, class_behind, class_off, class_all_alike}

line_true : {m n : ℕ} (x y : TapLine) → m < n → cond (ltb m n) x y ≡ x
line_true x y h = grind (arith, nat_tests)

line_false : {m n : ℕ} (x y : TapLine) → n ≤ m → cond (ltb m n) x y ≡ y
line_false x y h = grind (arith, nat_tests)

is_off : (b : Bool) → ¬ (b ≡ true) → b ≡ false
is_off true other = absurd (other refl)
is_off false other = refl

-- a line that is let end at a half bit
pub ended_by : (u : ℕ) (l : TapLine) (P : TapLine → Type 0) →
    (l.base + length l.symbols < u → P (line_extended l (replicate (u - (l.base + length l.symbols)) Idle))) →
    (u ≤ l.base + length l.symbols → P (line_cut u l)) → P (line_ended u l)
ended_by u l P longer shorter = elim (cases_lt (l.base + length l.symbols) u) [
  | inl before ↦ subst P (sym (line_true {m = l.base + length l.symbols} {n = u} (line_extended l (replicate (u - (l.base + length l.symbols)) Idle)) (line_cut u l) before)) (longer before)
  | inr behind ↦ subst P (sym (line_false {m = l.base + length l.symbols} {n = u} (line_extended l (replicate (u - (l.base + length l.symbols)) Idle)) (line_cut u l) behind)) (shorter behind)
]

pub ended_place : (u : ℕ) (l : TapLine) → (line_ended u l).at ≡ l.at
ended_place u l = ended_by u l (λ k. k.at ≡ l.at) (λ h. refl) (λ h. refl)

pub ended_delay : (u : ℕ) (l : TapLine) → (line_ended u l).delay ≡ l.delay
ended_delay u l = ended_by u l (λ k. k.delay ≡ l.delay) (λ h. refl) (λ h. refl)

pub ended_backlog : (u : ℕ) (l : TapLine) → (line_ended u l).backlog ≡ l.backlog
ended_backlog u l = ended_by u l (λ k. k.backlog ≡ l.backlog) (λ h. refl) (λ h. refl)

pub ended_base : (u : ℕ) (l : TapLine) → (line_ended u l).base ≡ l.base
ended_base u l = ended_by u l (λ k. k.base ≡ l.base) (λ h. refl) (λ h. refl)

pub ended_end : (u : ℕ) (l : TapLine) → l.base ≤ u → l.base + length (line_ended u l).symbols ≡ u
ended_end u l begun = ended_by u l (λ k. l.base + length k.symbols ≡ u)
    (λ h. let size = unwritten_size (u - (l.base + length l.symbols)) l.symbols in omega (arith, size, h))
    (λ h. let size = length-take-le (u - l.base) l.symbols (omega (arith, h)) in omega (arith, size, begun))

pub ended_size : (u : ℕ) (l : TapLine) → u ≤ l.base + length l.symbols + l.room →
    length (line_ended u l).symbols + (line_ended u l).room ≡ length l.symbols + l.room
ended_size u l room = ended_by u l (λ k. length k.symbols + k.room ≡ length l.symbols + l.room)
    (λ h.
    let n = u - (l.base + length l.symbols) in
    let size = unwritten_size n l.symbols in
    let few = length-replicate n Idle in
    omega (arith, size, few, h, room))
    (λ h. let size = length-take-le (u - l.base) l.symbols (omega (arith, h)) in omega (arith, size, h))

-- what stands on a line with Idle at its end
idle_more : (n a : ℕ) (l : TapLine) → symbol_on (line_extended l (replicate n Idle)) a ≡ symbol_on l a
idle_more n a l = ap (λ s. cond (leb l.base a) s Idle) (idle_tail l.symbols n (a - l.base))

-- on a line that is cut behind it
cut_same : (u a : ℕ) (l : TapLine) → a < u → symbol_on (line_cut u l) a ≡ symbol_on l a
cut_same u a l before = elim (cases_lt a l.base) [
  | inl early ↦ if_false {m = l.base} {n = a} _ _ early ∙ sym (if_false {m = l.base} {n = a} _ _ early)
  | inr low ↦ ap (λ s. cond (leb l.base a) s Idle) (get_or-take (u - l.base) l.symbols (a - l.base) Idle (omega (arith, before, low)))
]

pub ended_symbol : (u a : ℕ) (l : TapLine) → l.base ≤ u → a < u → symbol_on (line_ended u l) a ≡ symbol_on l a
ended_symbol u a l begun before = ended_by u l (λ k. symbol_on k a ≡ symbol_on l a)
    (λ h. idle_more (u - (l.base + length l.symbols)) a l)
    (λ h. cut_same u a l before)

-- one that went on with a signal ends no later than it did
pub ended_class : (u a : ℕ) (l : TapLine) → l.base ≤ u → a < u → (goes_on l ≡ true → u ≤ l.base + length l.symbols) →
    class_on (line_ended u l) a ≡ class_on l a
ended_class u a l begun before on = ended_by u l (λ k. class_on k a ≡ class_on l a)
    (λ h.
    let n = u - (l.base + length l.symbols) in
    let off : goes_on l ≡ false = is_off (goes_on l) (λ yes. let z = on yes in omega (arith, z, h)) in
    let few = length-replicate n Idle in
    class_all_alike l (replicate n Idle) a (λ j m. ap is_signal (get_or-replicate n j Idle Idle (omega (arith, m, few))) ∙ sym off))
    (λ h.
    let size = length-take-le (u - l.base) l.symbols (omega (arith, h)) in
    class_within (line_cut u l) a (omega (arith, size, begun, before)) ∙ ap is_signal (cut_same u a l before) ∙ sym (class_within l a (omega (arith, before, h))))

-- half bits that pass
pass_size : (n : ℕ) (l : TapLine) →
    length (passed n l).symbols ≡ length l.symbols - min (length l.symbols + n - l.backlog) (length l.symbols) + min n l.backlog
pass_size n l =
    let g = min (length l.symbols + n - l.backlog) (length l.symbols) in
    let size = unwritten_size (min n l.backlog) (drop g l.symbols) in
    let rest = length-drop g l.symbols in
    omega (arith, size, rest)

pass_base : (n : ℕ) (l : TapLine) → (passed n l).base ≡ max l.base (l.base + length l.symbols + n - l.backlog)
pass_base n l = omega arith

pass_end : (n : ℕ) (l : TapLine) → (passed n l).base + length (passed n l).symbols ≡ l.base + length l.symbols + n
pass_end n l = let size = pass_size n l in omega (arith, size)

pass_room : (n : ℕ) (l : TapLine) → l.backlog ≤ length l.symbols + l.room →
    length (passed n l).symbols + (passed n l).room ≡ length l.symbols + l.room
pass_room n l room =
    let size = pass_size n l in
    let few = length-replicate (min n l.backlog) Idle in
    omega (arith, size, few, room)

pass_symbol : (n a : ℕ) (l : TapLine) → l.base + length l.symbols + n - l.backlog ≤ a → symbol_on (passed n l) a ≡ symbol_on l a
pass_symbol n a l near =
    let g = min (length l.symbols + n - l.backlog) (length l.symbols) in
    let base = l.base + g + (n - min n l.backlog) in
    elim (cases_lt a l.base) [
      | inl early ↦ if_false {m = base} {n = a} _ _ (omega (arith, early)) ∙ sym (if_false {m = l.base} {n = a} _ _ early)
      | inr low ↦
          let there : get_or l.symbols (g + (a - base)) Idle ≡ get_or l.symbols (a - l.base) Idle = elim (cases_lt l.backlog n) [
            | inl many ↦
                get_or_past l.symbols (g + (a - base)) Idle (omega (arith, many))
                ∙ sym (get_or_past l.symbols (a - l.base) Idle (omega (arith, many, near)))
            | inr few ↦
                let e : g + (a - base) ≡ a - l.base = omega (arith, few, near, low) in
                ap (λ i. get_or l.symbols i Idle) e
          ] in
          if_true {m = base} {n = a} _ _ (omega (arith, low, near))
          ∙ idle_tail (drop g l.symbols) (min n l.backlog) (a - base)
          ∙ get_or-drop g l.symbols (a - base) Idle
          ∙ there
          ∙ sym (if_true {m = l.base} {n = a} _ _ low)
    ]

pass_off : (n : ℕ) (l : TapLine) → 0 < n → goes_on (passed n l) ≡ false
pass_off n l some =
    let g = min (length l.symbols + n - l.backlog) (length l.symbols) in
    let size = pass_size n l in
    let rest = length-drop g l.symbols in
    ap is_signal (idle_tail (drop g l.symbols) (min n l.backlog) (length (passed n l).symbols - 1)
    ∙ get_or_past (drop g l.symbols) (length (passed n l).symbols - 1) Idle (omega (arith, size, rest, some)))

pass_class : (n a : ℕ) (l : TapLine) → 0 < n → goes_on l ≡ false → l.base + length l.symbols + n - l.backlog ≤ a → class_on (passed n l) a ≡ class_on l a
pass_class n a l some off near =
    class_off (passed n l) a (pass_off n l some) ∙ ap is_signal (pass_symbol n a l near) ∙ sym (class_off l a off)

-- a line of which the first symbols are dropped
drop_symbol : (k a : ℕ) (l : TapLine) → (l.base ≤ a → l.base + k ≤ a) → symbol_on (dropped_from k l) a ≡ symbol_on l a
drop_symbol k a l near = elim (cases_lt a l.base) [
  | inl early ↦ if_false {m = l.base + k} {n = a} _ _ (omega (arith, early)) ∙ sym (if_false {m = l.base} {n = a} _ _ early)
  | inr low ↦
      let there = near low in
      let e : k + (a - (l.base + k)) ≡ a - l.base = omega (arith, there) in
      if_true {m = l.base + k} {n = a} _ _ there
      ∙ get_or-drop k l.symbols (a - (l.base + k)) Idle
      ∙ ap (λ i. get_or l.symbols i Idle) e
      ∙ sym (if_true {m = l.base} {n = a} _ _ low)
]

drop_goes : (k : ℕ) (l : TapLine) → (goes_on l ≡ true → k < length l.symbols) → goes_on (dropped_from k l) ≡ goes_on l
drop_goes k l last =
    let rest = length-drop k l.symbols in
    elim (cases_lt k (length l.symbols)) [
      | inl some ↦
          let e : k + (length (drop k l.symbols) - 1) ≡ length l.symbols - 1 = omega (arith, rest, some) in
          ap is_signal (get_or-drop k l.symbols (length (drop k l.symbols) - 1) Idle ∙ ap (λ i. get_or l.symbols i Idle) e)
      | inr none ↦
          let off : goes_on l ≡ false = is_off (goes_on l) (λ yes. let z = last yes in omega (arith, z, none)) in
          ap is_signal (get_or_past (drop k l.symbols) (length (drop k l.symbols) - 1) Idle (omega (arith, rest, none))) ∙ sym off
    ]

-- a line that goes on with a signal has symbols
some_on : (l : TapLine) → goes_on l ≡ true → 0 < length l.symbols
some_on l on = elim (cases_lt 0 (length l.symbols)) [
  | inl some ↦ some
  | inr none ↦ absurd (false≢true (sym (ap is_signal (get_or_past l.symbols (length l.symbols - 1) Idle (omega (arith, none)))) ∙ on))
]

-- a line that has come to a half bit, and keeps no more than it must
pub forgotten_by : (u : ℕ) (l : TapLine) (P : TapLine → Type 0) →
    (l.base + length l.symbols < u → P (passed (u - (l.base + length l.symbols)) l)) →
    (u ≤ l.base + length l.symbols → P (dropped_from (u - l.backlog - l.base) l)) → P (forgotten u l)
forgotten_by u l P longer shorter = elim (cases_lt (l.base + length l.symbols) u) [
  | inl before ↦ subst P (sym (line_true {m = l.base + length l.symbols} {n = u} (passed (u - (l.base + length l.symbols)) l) (dropped_from (u - l.backlog - l.base) l) before)) (longer before)
  | inr behind ↦ subst P (sym (line_false {m = l.base + length l.symbols} {n = u} (passed (u - (l.base + length l.symbols)) l) (dropped_from (u - l.backlog - l.base) l) behind)) (shorter behind)
]

pub forgotten_place : (u : ℕ) (l : TapLine) → (forgotten u l).at ≡ l.at
forgotten_place u l = forgotten_by u l (λ k. k.at ≡ l.at) (λ h. refl) (λ h. refl)

pub forgotten_delay : (u : ℕ) (l : TapLine) → (forgotten u l).delay ≡ l.delay
forgotten_delay u l = forgotten_by u l (λ k. k.delay ≡ l.delay) (λ h. refl) (λ h. refl)

pub forgotten_backlog : (u : ℕ) (l : TapLine) → (forgotten u l).backlog ≡ l.backlog
forgotten_backlog u l = forgotten_by u l (λ k. k.backlog ≡ l.backlog) (λ h. refl) (λ h. refl)

pub forgotten_base : (u : ℕ) (l : TapLine) → (forgotten u l).base ≡ max l.base (u - l.backlog)
forgotten_base u l = forgotten_by u l (λ k. k.base ≡ max l.base (u - l.backlog))
    (λ h. let base = pass_base (u - (l.base + length l.symbols)) l in omega (arith, base, h))
    (λ h. omega arith)

pub forgotten_end : (u : ℕ) (l : TapLine) → (forgotten u l).base + length (forgotten u l).symbols ≡ max (l.base + length l.symbols) u
forgotten_end u l = forgotten_by u l (λ k. k.base + length k.symbols ≡ max (l.base + length l.symbols) u)
    (λ h. let end = pass_end (u - (l.base + length l.symbols)) l in omega (arith, end, h))
    (λ h. let rest = length-drop (u - l.backlog - l.base) l.symbols in omega (arith, rest, h))

pub forgotten_size : (u : ℕ) (l : TapLine) → l.backlog ≤ length l.symbols + l.room →
    length (forgotten u l).symbols + (forgotten u l).room ≡ length l.symbols + l.room
forgotten_size u l room = forgotten_by u l (λ k. length k.symbols + k.room ≡ length l.symbols + l.room)
    (λ h. pass_room (u - (l.base + length l.symbols)) l room)
    (λ h. let rest = length-drop (u - l.backlog - l.base) l.symbols in omega (arith, rest, h))

pub forgotten_symbol : (u a : ℕ) (l : TapLine) → u - l.backlog ≤ a → symbol_on (forgotten u l) a ≡ symbol_on l a
forgotten_symbol u a l near = forgotten_by u l (λ k. symbol_on k a ≡ symbol_on l a)
    (λ h. pass_symbol (u - (l.base + length l.symbols)) a l (omega (arith, near, h)))
    (λ h. drop_symbol (u - l.backlog - l.base) a l (λ low. omega (arith, near, low)))

-- one that goes on with a signal has ended no earlier, and keeps its last symbol
pub forgotten_class : (u a : ℕ) (l : TapLine) → u - l.backlog ≤ a → (goes_on l ≡ true → u ≤ l.base + length l.symbols) →
    (goes_on l ≡ true → u - l.backlog < l.base + length l.symbols) → class_on (forgotten u l) a ≡ class_on l a
forgotten_class u a l near on last = forgotten_by u l (λ k. class_on k a ≡ class_on l a)
    (λ h.
    let off : goes_on l ≡ false = is_off (goes_on l) (λ yes. let z = on yes in omega (arith, z, h)) in
    pass_class (u - (l.base + length l.symbols)) a l (omega (arith, h)) off (omega (arith, near, h)))
    (λ h.
    let k = u - l.backlog - l.base in
    let rest = length-drop k l.symbols in
    let symbol = drop_symbol k a l (λ low. omega (arith, near, low)) in
    elim (cases_lt a (l.base + length l.symbols)) [
      | inl before ↦ class_within (dropped_from k l) a (omega (arith, rest, before, h)) ∙ ap is_signal symbol ∙ sym (class_within l a before)
      | inr behind ↦
          class_behind (dropped_from k l) a (omega (arith, rest, behind, h))
          ∙ drop_goes k l (λ yes. let z = last yes in let some = some_on l yes in omega (arith, z, some))
          ∙ sym (class_behind l a behind)
    ])
