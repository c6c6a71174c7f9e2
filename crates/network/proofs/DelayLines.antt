-- What is decided for ports, and what they emit `delay` half bits later.
use Rattle.std.proofs.Common.{◌≡◌, ℕ, zero, suc, ◌+◌, ◌-◌, ◌*◌, ◌<◌, ◌≤◌, inl, inr, All, List, [], ◌∷◌, ◌++◌, map, take, drop, replicate, length, length-append, length-drop, length-take-le, get_or, get_or-take, get_or-drop, refl, sym, subst, ap, ap₂, ◌∙◌, arith, append_assoc}
use Rattle.std.specs.List.{flat_map}
use Rattle.std.proofs.lemmas.Bool.{cases_lt}
use Rattle.std.proofs.lemmas.List.{length-map, length-replicate, get_or-map, get_or_past, get_or-replicate, get_or_append_left, get_or-append_right, replicate-append-replicate}
use Rattle.std.proofs.lemmas.List.Sums.{sum_by-cons}
use Rattle.std.proofs.Math.Seq.{take-append_seam, drop-append_seam}
use Rattle.manchester_line.specs.declared.Sym.{Sym}
use Rattle.manchester_line.specs.declared.Sym.TheVariants.{Idle}
use Rattle.layout.specs.declared.lines.RepeaterLine.{RepeaterLine}
use Rattle.port_partition.specs.Guard.{Guard, new_guard}
use Rattle.repeater_core.specs.Counts.{Choice, resting_count}
use Rattle.repeater_core.specs.Step.{RepeaterDevice, after, chosen, decided_by, emitted_by, guards_after}
use Rattle.repeater_core.proofs.Lawful.{length_chosen}
use Rattle.network.specs.Net.{each_repeater, emitted_before, new_repeater, ports_of}

-- the row decided `back` rows before the latest, and Idle before half bit 0
abbrev pub row_before : ℕ → List (List Sym) → ℕ → List Sym
row_before ports own back = get_or own back (replicate ports Idle)

-- the last rows, the oldest first
abbrev pub lined : ℕ → List (List Sym) → ℕ → List Sym
lined ports own zero = []
lined ports own (suc back) = row_before ports own back ++ lined ports own back

row_length : (ports : ℕ) (own : List (List Sym)) (back : ℕ) → All (λ r. length r ≡ ports) own → length (row_before ports own back) ≡ ports
row_length ports own back all = elim (cases_lt back (length own)) [
  | inl in_it ↦ all back (replicate ports Idle) in_it
  | inr past ↦ ap length (get_or_past own back (replicate ports Idle) past) ∙ length-replicate ports Idle
]

append_nil : (xs : List Sym) → xs ++ [] ≡ xs
append_nil [] = refl
append_nil (x ∷ xs) = ap (λ ys. x ∷ ys) (append_nil xs)

-- one row more comes in at the end
lined_next : (ports : ℕ) (row : List Sym) (own : List (List Sym)) (back : ℕ) → lined ports (row ∷ own) (suc back) ≡ lined ports own back ++ row
lined_next ports row own zero = append_nil row
lined_next ports row own (suc back) = ap (λ rest. row_before ports own back ++ rest) (lined_next ports row own back) ∙ sym (append_assoc (row_before ports own back) (lined ports own back) row)

take_row : (n : ℕ) (xs ys : List Sym) → length xs ≡ n → take n (xs ++ ys) ≡ xs
take_row n xs ys e = subst (λ m. take m (xs ++ ys) ≡ xs) e (take-append_seam xs ys)

drop_row : (n : ℕ) (xs ys : List Sym) → length xs ≡ n → drop n (xs ++ ys) ≡ ys
drop_row n xs ys e = subst (λ m. drop m (xs ++ ys) ≡ ys) e (drop-append_seam xs ys)

length-guards_after : (gs : List Guard) (hs es : List Sym) → length gs ≤ length hs → length gs ≤ length es → length (guards_after gs hs es) ≡ length gs
length-guards_after [] hs es lh le = refl
length-guards_after (g ∷ gs) [] es lh le = absurd (omega arith)
length-guards_after (g ∷ gs) (h ∷ hs) [] lh le = absurd (omega arith)
length-guards_after (g ∷ gs) (h ∷ hs) (e ∷ es) lh le = ap suc (length-guards_after gs hs es (omega arith) (omega arith))

-- a repeater whose own ports had these decisions, the latest first
pub record IsLined (l : RepeaterLine) (r : RepeaterDevice) (own : List (List Sym)) : Type 0 where
  pub guards : length r.guards ≡ length l.ports
  pub counts : length r.counts ≡ length l.ports
  pub ports : r.line.ports ≡ length l.ports
  pub rows : r.line.rows ≡ lined (length l.ports) own l.delay
  pub wide : All (λ row. length row ≡ length l.ports) own

-- it emits what was decided `delay` half bits ago
emits_late : (l : RepeaterLine) (r : RepeaterDevice) (own : List (List Sym)) (back : ℕ) → l.delay ≡ suc back → IsLined l r own → emitted_by r ≡ row_before (length l.ports) own back
emits_late l r own back e is =
    ap₂ take is.ports (is.rows ∙ ap (lined (length l.ports) own) e) ∙ take_row (length l.ports) (row_before (length l.ports) own back) (lined (length l.ports) own back) (row_length (length l.ports) own back is.wide)

length-decided : (l : RepeaterLine) (r : RepeaterDevice) (own : List (List Sym)) (hs : List Sym) → IsLined l r own → length (decided_by hs r) ≡ length l.ports
length-decided l r own hs is = length-map (chosen hs r) (λ (c : Choice). c.symbol) ∙ length_chosen hs r ∙ is.counts

All_cons : {X : Type 0} (P : X → Type 0) (x : X) (xs : List X) → P x → All P xs → All P (x ∷ xs)
All_cons P x xs h rest zero d l = h
All_cons P x xs h rest (suc i) d l = rest i d (omega arith)

-- a half bit later
lined_on : (l : RepeaterLine) (r : RepeaterDevice) (own : List (List Sym)) (hs : List Sym) (back : ℕ) → l.delay ≡ suc back → IsLined l r own → length l.ports ≤ length hs → IsLined l (after hs r) (decided_by hs r ∷ own)
lined_on l r own hs back e is heard =
    let ports = length l.ports in
    let decided = decided_by hs r in
    let oldest_row = row_before ports own back in
    let emits : length (emitted_by r) ≡ ports = ap length (emits_late l r own back e is) ∙ row_length ports own back is.wide in
    record {
      guards = length-guards_after r.guards hs (emitted_by r) (omega (arith, is.guards, heard)) (omega (arith, is.guards, emits)) ∙ is.guards;
      counts = length-map (chosen hs r) (λ (c : Choice). c.count) ∙ length_chosen hs r ∙ is.counts;
      ports = is.ports;
      rows =
          ap₂ (λ n rows. drop n rows ++ decided) is.ports (is.rows ∙ ap (lined ports own) e)
          ∙ ap (λ rest. rest ++ decided) (drop_row ports oldest_row (lined ports own back) (row_length ports own back is.wide))
          ∙ sym (lined_next ports decided own back) ∙ ap (lined ports (decided ∷ own)) (sym e);
      wide = All_cons (λ (row : List Sym). length row ≡ ports) decided own (length-decided l r own hs is) is.wide;
    }

-- the repeaters, one after another, each with its own ports of all
abbrev pub LinesUp : List RepeaterLine → List RepeaterDevice → List (List Sym) → Type 0
LinesUp [] [] h = Unit {0}
LinesUp (l ∷ ls) (r ∷ rs) h = IsLined l r (map (take (length l.ports)) h) × LinesUp ls rs (map (drop (length l.ports)) h)
LinesUp _ _ h = ⊥

abbrev pub AllDelayed : List RepeaterLine → Type 0
AllDelayed [] = Unit {0}
AllDelayed (l ∷ ls) = ((back : ℕ) × (l.delay ≡ suc back)) × AllDelayed ls

pub delayed_from_All : (ls : List RepeaterLine) → All (λ r. 1 ≤ r.delay) ls → AllDelayed ls
delayed_from_All [] h = tt
delayed_from_All (l ∷ ls) h = let some : 1 ≤ l.delay = h 0 l (omega arith) in ((l.delay - 1, omega arith), delayed_from_All ls (λ k d m. h (suc k) d (omega arith)))

abbrev pub all_ports : List RepeaterLine → ℕ
all_ports ls = length (flat_map (λ (l : RepeaterLine). l.ports) ls)

pub ports-lined : (ls : List RepeaterLine) (rs : List RepeaterDevice) (h : List (List Sym)) → LinesUp ls rs h → ports_of rs ≡ all_ports ls
ports-lined [] [] h up = refl
ports-lined [] (r ∷ rs) h up = absurd up
ports-lined (l ∷ ls) [] h up = absurd up
ports-lined (l ∷ ls) (r ∷ rs) h up =
    let rest = ports-lined ls rs (map (drop (length l.ports)) h) up.1 in
    let one = up.0.guards in
    omega (arith, sum_by-cons (λ (x : RepeaterDevice). length x.guards) r rs, rest, one, length-append l.ports (flat_map (λ (x : RepeaterLine). x.ports) ls))

pub lines_next : (ls : List RepeaterLine) (rs : List RepeaterDevice) (h : List (List Sym)) (hs : List Sym) → AllDelayed ls → LinesUp ls rs h → ports_of rs ≤ length hs →
    LinesUp ls (each_repeater after hs rs) (flat_map (λ symbols. symbols) (each_repeater decided_by hs rs) ∷ h)
lines_next [] [] h hs late up m = tt
lines_next [] (r ∷ rs) h hs late up m = absurd up
lines_next (l ∷ ls) [] h hs late up m = absurd up
lines_next (l ∷ ls) (r ∷ rs) h hs late up m =
    let n = length l.ports in
    let g = length r.guards in
    let own = map (take n) h in
    let ears = take g hs in
    let rest = drop g hs in
    let guards = up.0.guards in
    let sum = sum_by-cons (λ (x : RepeaterDevice). length x.guards) r rs in
    let heard : length ears ≡ g = length-take-le g hs (omega (arith, m, sum)) in
    let decided = decided_by ears r in
    let others = flat_map (λ (symbols : List Sym). symbols) (each_repeater decided_by rest rs) in
    let size : length decided ≡ n = length-decided l r own ears up.0 in
    let first : IsLined l (after ears r) (decided ∷ own) = lined_on l r own ears late.0.0 late.0.1 up.0 (omega (arith, heard, guards)) in
    let more : LinesUp ls (each_repeater after rest rs) (others ∷ map (drop n) h) = lines_next ls rs (map (drop n) h) rest late.1 up.1 (omega (arith, m, sum, length-drop g hs)) in
    (subst (λ row. IsLined l (after ears r) (row ∷ own)) (sym (take_row n decided others size)) first, subst (λ row. LinesUp ls (each_repeater after rest rs) (row ∷ map (drop n) h)) (sym (drop_row n decided others size)) more)

-- before half bit 0
idle_rows : (ports back : ℕ) → replicate (back * ports) Idle ≡ lined ports [] back
idle_rows ports zero = let z : zero * ports ≡ 0 = omega arith in ap (λ n. replicate n Idle) z
idle_rows ports (suc back) =
    let more : suc back * ports ≡ ports + back * ports = omega arith in
    ap (λ n. replicate n Idle) more ∙ sym (replicate-append-replicate ports (back * ports) Idle) ∙ ap (λ rest. replicate ports Idle ++ rest) (idle_rows ports back)

pub lines_new : (ls : List RepeaterLine) → LinesUp ls (map new_repeater ls) []
lines_new [] = tt
lines_new (l ∷ ls) = (
  record {
    guards = length-replicate (length l.ports) new_guard;
    counts = length-replicate (length l.ports) (resting_count 0);
    ports = refl;
    rows = idle_rows (length l.ports) l.delay;
    wide = λ k d m. absurd (omega arith);
  },
  lines_new ls,
)

-- a symbol among those of the first ports, and among those of the others
own_symbol : (n : ℕ) (h : List (List Sym)) (back e : ℕ) → e < n → get_or (row_before n (map (take n) h) back) e Idle ≡ get_or (get_or h back []) e Idle
own_symbol n h back e l = elim (cases_lt back (length h)) [
  | inl in_it ↦ ap (λ row. get_or row e Idle) (get_or-map (take n) h back [] (replicate n Idle) in_it) ∙ get_or-take n (get_or h back []) e Idle l
  | inr past ↦
      ap (λ row. get_or row e Idle) (get_or_past (map (take n) h) back (replicate n Idle) (omega (arith, past, length-map h (take n))))
      ∙ get_or-replicate n e Idle Idle l
      ∙ sym (ap (λ row. get_or row e Idle) (get_or_past h back [] past))
]

other_symbol : (n : ℕ) (h : List (List Sym)) (d e : ℕ) → n ≤ e → emitted_before (map (drop n) h) d (e - n) ≡ emitted_before h d e
other_symbol n h zero e m = refl
other_symbol n h (suc back) e m = elim (cases_lt back (length h)) [
  | inl in_it ↦
      let at : n + (e - n) ≡ e = omega arith in
      ap (λ row. get_or row (e - n) Idle) (get_or-map (drop n) h back [] [] in_it) ∙ get_or-drop n (get_or h back []) (e - n) Idle ∙ ap (λ i. get_or (get_or h back []) i Idle) at
  | inr past ↦ ap (λ row. get_or row (e - n) Idle) (get_or_past (map (drop n) h) back [] (omega (arith, past, length-map h (drop n)))) ∙ sym (ap (λ row. get_or row e Idle) (get_or_past h back [] past))
]

abbrev pub delays : List RepeaterLine → List ℕ
delays ls = flat_map (λ (l : RepeaterLine). replicate (length l.ports) l.delay) ls

-- what a port emits was decided as many half bits ago as the delay says
pub lines_emit : (ls : List RepeaterLine) (rs : List RepeaterDevice) (h : List (List Sym)) (e : ℕ) → AllDelayed ls → LinesUp ls rs h → e < all_ports ls → get_or (flat_map emitted_by rs) e Idle ≡ emitted_before h (get_or (delays ls) e 0) e
lines_emit [] [] h e late up m = absurd (omega arith)
lines_emit [] (r ∷ rs) h e late up m = absurd up
lines_emit (l ∷ ls) [] h e late up m = absurd up
lines_emit (l ∷ ls) (r ∷ rs) h e late up m =
    let n = length l.ports in
    let back = late.0.0 in
    let is_back : l.delay ≡ suc back = late.0.1 in
    let own = map (take n) h in
    let emits : emitted_by r ≡ row_before n own back = emits_late l r own back is_back up.0 in
    let size : length (emitted_by r) ≡ n = ap length emits ∙ row_length n own back up.0.wide in
    let few : length (replicate n l.delay) ≡ n = length-replicate n l.delay in
    let sum = length-append l.ports (flat_map (λ (x : RepeaterLine). x.ports) ls) in
    elim (cases_lt e n) [
      | inl own_port ↦
          let late_by : get_or (delays (l ∷ ls)) e 0 ≡ suc back = get_or_append_left (replicate n l.delay) (delays ls) 0 e (omega (arith, own_port, few)) ∙ get_or-replicate n e l.delay 0 own_port ∙ is_back in
          get_or_append_left (emitted_by r) (flat_map emitted_by rs) Idle e (omega (arith, own_port, size))
          ∙ ap (λ row. get_or row e Idle) emits ∙ own_symbol n h back e own_port ∙ sym (ap (λ d. emitted_before h d e) late_by)
      | inr other ↦
          let late_by : get_or (delays (l ∷ ls)) e 0 ≡ get_or (delays ls) (e - n) 0 = get_or-append_right (replicate n l.delay) (delays ls) n e 0 few other in
          get_or-append_right (emitted_by r) (flat_map emitted_by rs) n e Idle size other
          ∙ lines_emit ls rs (map (drop n) h) (e - n) late.1 up.1 (omega (arith, m, other, sum))
          ∙ other_symbol n h (get_or (delays ls) (e - n) 0) e other
          ∙ sym (ap (λ d. emitted_before h d e) late_by)
    ]
