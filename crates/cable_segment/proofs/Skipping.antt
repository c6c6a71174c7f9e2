-- Taps that are skipped, since they were silent.
use Rattle.std.proofs.Common.{◌≡◌, ◌≢◌, ℕ, zero, suc, ◌+◌, ◌-◌, ◌*◌, ◌<◌, ◌≤◌, min, Bool, true, false, List, [], ◌∷◌, ◌++◌, length, take, drop, replicate, get_or, set, eqb, refl, sym, ap, ap₂, subst, ◌∙◌, inl, inr, arith, get_or-set_same, get_or-set_other, get_or-take, drop-cons, length-set, mul-le-mul_right}
use Rattle.std.specs.Prelude.{if◌then◌else◌, ◌⊎◌}
use Rattle.std.proofs.lemmas.Bool.{cases_lt}
use Rattle.std.proofs.lemmas.List.{get_or-append_right, get_or_append_left, get_or-replicate, length-replicate, get_or_past, length-take}
use Rattle.std.proofs.lemmas.Nat.{same_from_place}
use Rattle.manchester_line.specs.declared.Sym.{Sym}
use Rattle.manchester_line.specs.declared.Sym.TheVariants.{Idle, Hi, Lo, Clash}
use Rattle.manchester_line.specs.Line.{mix_of}
use Rattle.cable_segment.specs.Bus.{heard_among}
use Rattle.mac_parameters.specs.Distances.{distance}
use Rattle.cable_segment.specs.Skips.{Skips}

-- a mix of three
pub mix_assoc : (a b c : Sym) → mix_of (mix_of a b) c ≡ mix_of a (mix_of b c)
mix_assoc Idle b c = refl
mix_assoc Hi Idle c = refl
mix_assoc Hi Hi Idle = refl
mix_assoc Hi Hi Hi = refl
mix_assoc Hi Hi Lo = refl
mix_assoc Hi Hi Clash = refl
mix_assoc Hi Lo Idle = refl
mix_assoc Hi Lo Hi = refl
mix_assoc Hi Lo Lo = refl
mix_assoc Hi Lo Clash = refl
mix_assoc Hi Clash Idle = refl
mix_assoc Hi Clash Hi = refl
mix_assoc Hi Clash Lo = refl
mix_assoc Hi Clash Clash = refl
mix_assoc Lo Idle c = refl
mix_assoc Lo Hi Idle = refl
mix_assoc Lo Hi Hi = refl
mix_assoc Lo Hi Lo = refl
mix_assoc Lo Hi Clash = refl
mix_assoc Lo Lo Idle = refl
mix_assoc Lo Lo Hi = refl
mix_assoc Lo Lo Lo = refl
mix_assoc Lo Lo Clash = refl
mix_assoc Lo Clash Idle = refl
mix_assoc Lo Clash Hi = refl
mix_assoc Lo Clash Lo = refl
mix_assoc Lo Clash Clash = refl
mix_assoc Clash Idle c = refl
mix_assoc Clash Hi Idle = refl
mix_assoc Clash Hi Hi = refl
mix_assoc Clash Hi Lo = refl
mix_assoc Clash Hi Clash = refl
mix_assoc Clash Lo Idle = refl
mix_assoc Clash Lo Hi = refl
mix_assoc Clash Lo Lo = refl
mix_assoc Clash Lo Clash = refl
mix_assoc Clash Clash Idle = refl
mix_assoc Clash Clash Hi = refl
mix_assoc Clash Clash Lo = refl
mix_assoc Clash Clash Clash = refl

-- what is heard from tap q on: its own symbol, and the rest
from_one : (told : ℕ → ℕ → Sym) (tap at q : ℕ) (ps : List ℕ) → q < length ps
    → heard_among told tap at q (drop q ps) ≡ mix_of (if eqb q tap then Idle else told (distance at (get_or ps q 0)) q) (heard_among told tap at (q + 1) (drop (q + 1) ps))
from_one told tap at q ps l =
    ap (heard_among told tap at q) (drop-cons ps q 0 l)
    ∙ (let e : suc q ≡ q + 1 = omega arith in ap (λ i. mix_of (if eqb q tap then Idle else told (distance at (get_or ps q 0)) q) (heard_among told tap at (q + 1) (drop i ps))) e)

idle_first : (b : Bool) (s : Sym) → s ≡ Idle → (if b then Idle else s) ≡ Idle
idle_first true s e = refl
idle_first false s e = e

skip_one : (told : ℕ → ℕ → Sym) (tap at q : ℕ) (ps : List ℕ) → q < length ps → ((back : ℕ) → told back q ≡ Idle)
    → heard_among told tap at q (drop q ps) ≡ heard_among told tap at (q + 1) (drop (q + 1) ps)
skip_one told tap at q ps l h =
    from_one told tap at q ps l
    ∙ ap (λ s. mix_of s (heard_among told tap at (q + 1) (drop (q + 1) ps))) (idle_first (eqb q tap) (told (distance at (get_or ps q 0)) q) (h (distance at (get_or ps q 0))))

skip_many : (k : ℕ) (told : ℕ → ℕ → Sym) (tap at q : ℕ) (ps : List ℕ) → q + k ≤ length ps → ((j back : ℕ) → q ≤ j → j < q + k → told back j ≡ Idle)
    → heard_among told tap at q (drop q ps) ≡ heard_among told tap at (q + k) (drop (q + k) ps)
skip_many zero told tap at q ps l h = let e : q ≡ q + 0 = omega arith in ap (λ i. heard_among told tap at i (drop i ps)) e
skip_many (suc k) told tap at q ps l h =
    skip_one told tap at q ps (omega arith) (λ back. h q back (omega arith) (omega arith))
    ∙ skip_many k told tap at (q + 1) ps (omega arith) (λ j back m n. h j back (omega arith) (omega arith))
    ∙ (let e : q + 1 + k ≡ q + suc k = omega arith in ap (λ i. heard_among told tap at i (drop i ps)) e)

pub skip_to : (told : ℕ → ℕ → Sym) (tap at q n : ℕ) (ps : List ℕ) → q ≤ n → n ≤ length ps → ((j back : ℕ) → q ≤ j → j < n → told back j ≡ Idle)
    → heard_among told tap at q (drop q ps) ≡ heard_among told tap at n (drop n ps)
skip_to told tap at q n ps l m h =
    let e : q + (n - q) ≡ n = omega arith in
    skip_many (n - q) told tap at q ps (omega arith) (λ j back a b. h j back a (omega arith)) ∙ ap (λ i. heard_among told tap at i (drop i ps)) e

-- one more tap is heard, and others are skipped
pub hear_more : (told : ℕ → ℕ → Sym) (tap at q n : ℕ) (ps : List ℕ) (sound s whole : Sym) → q < length ps → q + 1 ≤ n → n ≤ length ps → ((j back : ℕ) → q + 1 ≤ j → j < n → told back j ≡ Idle)
    → s ≡ (if eqb q tap then Idle else told (distance at (get_or ps q 0)) q) → mix_of sound (heard_among told tap at q (drop q ps)) ≡ whole
    → mix_of (mix_of sound s) (heard_among told tap at n (drop n ps)) ≡ whole
hear_more told tap at q n ps sound s whole l m k h e w =
    mix_assoc sound s (heard_among told tap at n (drop n ps))
    ∙ ap₂ (λ x y. mix_of sound (mix_of x y)) e (sym (skip_to told tap at (q + 1) n ps m k h))
    ∙ ap (mix_of sound) (sym (from_one told tap at q ps l))
    ∙ w

-- symbols that stay Idle
idle_rows : (m i : ℕ) → get_or (replicate m Idle) i Idle ≡ Idle
idle_rows m i = elim (cases_lt i m) [ inl low ↦ get_or-replicate m i Idle Idle low | inr high ↦ get_or_past (replicate m Idle) i Idle (omega (arith, length-replicate m Idle)) ]

pub skips_new : (taps m : ℕ) → Skips (replicate (taps + 1) taps) (replicate m Idle) taps
skips_new taps m = record {
  count = length-replicate (taps + 1) taps;
  on = λ q l. subst (λ x. q ≤ x) (sym (get_or-replicate (taps + 1) q taps 0 (omega arith))) l;
  within = λ q l. subst (λ x. x ≤ taps) (sym (get_or-replicate (taps + 1) q taps 0 (omega arith))) (omega arith);
  silent = λ q j row l a b. idle_rows m (row * taps + j);
}

row_on : (taps r j : ℕ) → suc r * taps + j ≡ taps + (r * taps + j)
row_on taps r j = let e : suc r ≡ r + 1 = omega arith in ap (λ x. x * taps + j) e ∙ (let f : (r + 1) * taps + j ≡ taps + (r * taps + j) = omega arith in f)

front_silent : (rows : List Sym) (taps j r : ℕ) → j < taps → ((x : ℕ) → get_or rows (x * taps + j) Idle ≡ Idle) → get_or (replicate taps Idle ++ rows) (r * taps + j) Idle ≡ Idle
front_silent rows taps j zero l h =
    let e : 0 * taps + j ≡ j = omega arith in
    ap (λ i. get_or (replicate taps Idle ++ rows) i Idle) e ∙ get_or_append_left (replicate taps Idle) rows Idle j (omega (arith, length-replicate taps Idle)) ∙ get_or-replicate taps j Idle Idle l
front_silent rows taps j (suc r) l h =
    let e = row_on taps r j in
    get_or-append_right (replicate taps Idle) rows taps (suc r * taps + j) Idle (length-replicate taps Idle) (omega (arith, e))
    ∙ (let f : suc r * taps + j - taps ≡ r * taps + j = omega (arith, e) in ap (λ i. get_or rows i Idle) f)
    ∙ h r

taken_silent : (xs : List Sym) (m i : ℕ) → get_or xs i Idle ≡ Idle → get_or (take m xs) i Idle ≡ Idle
taken_silent xs m i h = elim (cases_lt i m) [ inl low ↦ get_or-take m xs i Idle low ∙ h | inr high ↦ get_or_past (take m xs) i Idle (omega (arith, length-take m xs)) ]

pub skips_on : (next : List ℕ) (rows : List Sym) (taps m : ℕ) → Skips next rows taps → Skips next (take m (replicate taps Idle ++ rows)) taps
skips_on next rows taps m k = record {
  count = k.count;
  on = k.on;
  within = k.within;
  silent = λ q j row l a b.
      let most : get_or next q 0 ≤ taps = k.within q l in
      taken_silent (replicate taps Idle ++ rows) m (row * taps + j) (front_silent rows taps j row (omega arith) (λ x. k.silent q j x l a b));
}

set_idle : (rows : List Sym) (i x : ℕ) → get_or rows x Idle ≡ Idle → get_or (set rows i Idle) x Idle ≡ Idle
set_idle [] i x h = h
set_idle (s ∷ ss) zero zero h = refl
set_idle (s ∷ ss) zero (suc x) h = h
set_idle (s ∷ ss) (suc i) zero h = h
set_idle (s ∷ ss) (suc i) (suc x) h = set_idle ss i x h

is_idle : (s : Sym) → (s ≡ Idle) ⊎ (s ≢ Idle)
is_idle Idle = inl refl
is_idle Hi = inr (λ e. absurd (cc))
is_idle Lo = inr (λ e. absurd (cc))
is_idle Clash = inr (λ e. absurd (cc))

other_tap : (rows : List Sym) (taps row tap r j : ℕ) (s : Sym) → tap < taps → j < taps → (j ≡ tap → ⊥) → get_or (set rows (row * taps + tap) s) (r * taps + j) Idle ≡ get_or rows (r * taps + j) Idle
other_tap rows taps row tap r j s lt lj ne =
    get_or-set_other rows (row * taps + tap) (r * taps + j) s Idle (λ e. ne (same_from_place r j row tap taps lj lt e).1)

pub skips_set : (next next' : List ℕ) (rows : List Sym) (taps row tap : ℕ) (s : Sym) → tap < taps → Skips next rows taps → length next' ≡ length next
    → (s ≡ Idle → next' ≡ next) → (s ≢ Idle → (q : ℕ) → q < tap + 1 → get_or next' q 0 ≡ min (get_or next q 0) tap) → ((q : ℕ) → tap + 1 ≤ q → get_or next' q 0 ≡ get_or next q 0)
    → Skips next' (set rows (row * taps + tap) s) taps
skips_set next next' rows taps row tap s t k len idle below above =
    elim (is_idle s) [
      | inl e ↦
          subst (λ x. Skips x (set rows (row * taps + tap) s) taps) (sym (idle e)) (record {
            count = k.count;
            on = k.on;
            within = k.within;
            silent = λ q j r l a b. ap (λ x. get_or (set rows (row * taps + tap) x) (r * taps + j) Idle) e ∙ set_idle rows (row * taps + tap) (r * taps + j) (k.silent q j r l a b);
          })
      | inr ne ↦
          record {
            count = len ∙ k.count;
            on = λ q l. elim (cases_lt q (tap + 1)) [
              | inl low ↦ let f : q ≤ get_or next q 0 = k.on q l in let g : get_or next' q 0 ≡ min (get_or next q 0) tap = below ne q low in omega arith
              | inr high ↦ let f : q ≤ get_or next q 0 = k.on q l in let g : get_or next' q 0 ≡ get_or next q 0 = above q high in omega arith
            ];
            within = λ q l. elim (cases_lt q (tap + 1)) [
              | inl low ↦ let f : get_or next q 0 ≤ taps = k.within q l in let g : get_or next' q 0 ≡ min (get_or next q 0) tap = below ne q low in omega arith
              | inr high ↦ let f : get_or next q 0 ≤ taps = k.within q l in let g : get_or next' q 0 ≡ get_or next q 0 = above q high in omega arith
            ];
            silent = λ q j r l a b. elim (cases_lt q (tap + 1)) [
              | inl low ↦
                  let f : get_or next q 0 ≤ taps = k.within q l in
                  let g : get_or next' q 0 ≡ min (get_or next q 0) tap = below ne q low in
                  other_tap rows taps row tap r j s t (omega arith) (λ e. omega arith) ∙ k.silent q j r l a (omega arith)
              | inr high ↦
                  let f : get_or next q 0 ≤ taps = k.within q l in
                  let g : get_or next' q 0 ≡ get_or next q 0 = above q high in
                  other_tap rows taps row tap r j s t (omega arith) (λ e. omega arith) ∙ k.silent q j r l a (omega arith)
            ];
          }
    ]

-- one place more
at_place : (next : List ℕ) (q v x : ℕ) → q < length next → (x ≡ q → get_or (set next q v) x 0 ≡ v) × ((x ≡ q → ⊥) → get_or (set next q v) x 0 ≡ get_or next x 0)
at_place next q v x l = (λ e. ap (λ i. get_or (set next q v) i 0) e ∙ get_or-set_same next q v 0 l, λ ne. get_or-set_other next q x v 0 ne)

same_place : (x q : ℕ) → (x ≡ q) ⊎ (x ≡ q → ⊥)
same_place x q = elim (cases_lt x q) [ inl low ↦ inr (λ e. omega arith) | inr high ↦ elim (cases_lt q x) [ inl more ↦ inr (λ e. omega arith) | inr same ↦ inl (omega arith) ] ]

pub skips_step : (next : List ℕ) (rows : List Sym) (taps q v : ℕ) → Skips next rows taps → q < taps → q ≤ v → v ≤ taps
    → ((j row : ℕ) → q ≤ j → j < v → get_or rows (row * taps + j) Idle ≡ Idle) → Skips (set next q v) rows taps
skips_step next rows taps q v k l a b h =
    let count : length next ≡ taps + 1 = k.count in
    let in' : q < length next = omega arith in
    record {
      count = length-set next q v ∙ k.count;
      on = λ x m. elim (same_place x q) [
        | inl e ↦ let g : get_or (set next q v) x 0 ≡ v = (at_place next q v x in').0 e in omega arith
        | inr ne ↦ let g : get_or (set next q v) x 0 ≡ get_or next x 0 = (at_place next q v x in').1 ne in let f : x ≤ get_or next x 0 = k.on x m in omega arith
      ];
      within = λ x m. elim (same_place x q) [
        | inl e ↦ let g : get_or (set next q v) x 0 ≡ v = (at_place next q v x in').0 e in omega arith
        | inr ne ↦ let g : get_or (set next q v) x 0 ≡ get_or next x 0 = (at_place next q v x in').1 ne in let f : get_or next x 0 ≤ taps = k.within x m in omega arith
      ];
      silent = λ x j row m c d. elim (same_place x q) [
        | inl e ↦ let g : get_or (set next q v) x 0 ≡ v = (at_place next q v x in').0 e in h j row (omega arith) (omega arith)
        | inr ne ↦ let g : get_or (set next q v) x 0 ≡ get_or next x 0 = (at_place next q v x in').1 ne in k.silent x j row m c (omega arith)
      ];
    }

pub past_rows : (rows : List Sym) (taps count tap row : ℕ) → length rows ≡ count * taps → count ≤ row → get_or rows (row * taps + tap) Idle ≡ Idle
past_rows rows taps count tap row e l = let m : count * taps ≤ row * taps = mul-le-mul_right taps l in get_or_past rows (row * taps + tap) Idle (omega (arith, m, e))

pub skip_tap : (next : List ℕ) (rows : List Sym) (taps q : ℕ) → Skips next rows taps → q < taps → ((row : ℕ) → get_or rows (row * taps + q) Idle ≡ Idle)
    → (j row : ℕ) → q ≤ j → j < get_or next (q + 1) 0 → get_or rows (row * taps + j) Idle ≡ Idle
skip_tap next rows taps q k l h j row a b =
    elim (same_place j q) [
      | inl e ↦ ap (λ x. get_or rows (row * taps + x) Idle) e ∙ h row
      | inr ne ↦ k.silent (q + 1) j row (omega arith) (more j q a ne) b
    ]
  where
    more : (j q : ℕ) → q ≤ j → (j ≡ q → ⊥) → q + 1 ≤ j
    more j q a ne = grind arith

-- the same with equal lists
pub skips_same : {next next' : List ℕ} {rows rows' : List Sym} {n n' : ℕ} → next ≡ next' → rows ≡ rows' → n ≡ n' → Skips next rows n → Skips next' rows' n'
skips_same {next} {next'} {rows} {rows'} {n} {n'} a b e k = subst (λ x. Skips x rows' n') a (subst (λ x. Skips next x n') b (subst (λ x. Skips next rows x) e k))
