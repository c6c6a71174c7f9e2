-- Rows that are put into a ring one after another, each a text at the same places.
use Rattle.std.proofs.Common.{◌≡◌, ℕ, zero, suc, ◌+◌, ◌-◌, ◌*◌, ◌<◌, ◌≤◌, Bool, true, false, cond, eqb, List, [], ◌∷◌, ◌++◌, length, take, drop, replicate, refl, sym, ap, ap₂, subst, ◌∙◌, inl, inr, arith, length-append, append_assoc, length-drop, length-take-le, mul-le-mul_right}
use Rattle.std.proofs.lemmas.Bool.{cases_eq, cases_lt}
use Rattle.std.proofs.lemmas.Bool.Decides.{nat_tests}
use Rattle.std.proofs.lemmas.Slice.{take-put_mid, drop-put_mid}
use borrow.Rule.Slice.PartMut.{put_mid, mid_of, same_len_mid}
use Rattle.std.proofs.lemmas.List.{drop_all, drop-drop, drop-append-le, take-append-drop, take_all, append-nil, length-replicate}
use Rattle.std.proofs.lemmas.List.Elements.{All-append, All-drop, All-nil, All-replicate, All-take, recursion_from_All}
use Rattle.std.specs.List.{AllByRecursion, flat_map}
use Rattle.mac_parameters.specs.Parameters.{greatest_delay}
use Rattle.manchester_line.specs.declared.Sym.{Sym}
use Rattle.manchester_line.specs.declared.Sym.TheVariants as sy
use Rattle.repeater_core.specs.Delayed.{Delayed, moved_on, rotated, delayed_row, turn_after, IsRing}
use Rattle.repeater_core.specs.Steady.{texted}
use Rattle.repeater_core.specs.Classes.{line_with}
use Rattle.repeater_core.proofs.NextTurnOfRing.{rotated_turn}
use Rattle.repeater_core.proofs.PutRow.{all_idle_texts}
use Rattle.repeater_core.proofs.RingLeaps.{AllIdle, ring, rotated_add, rotated_len, row_in, filled_falls}
use Rattle.repeater_core.proofs.DelayRows.{row_last}
use Rattle.repeater_core.proofs.AlikeNewest.{Lined, lined_on, lined_with, texted_len, NewestAre, KeepSignals, newest_with, newest_same, idle_newest}

-- the newest row of a ring
pub newest_row : (ports delay last turn : ℕ) (xs : List Sym) → length xs ≡ delay * ports → last < delay → turn ≡ turn_after last delay
    → delayed_row (delay - 1) (ring ports delay turn xs) ≡ take ports (rotated (last * ports) xs)
newest_row ports delay last turn xs len l e =
    let before = rotated (last * ports) xs in
    let room = row_in last delay ports l in
    let long = rotated_len (last * ports) xs in
    let on : rotated (turn * ports) xs ≡ drop ports before ++ take ports before =
    ap (λ t. rotated (t * ports) xs) e ∙ rotated_turn last delay ports xs len ∙ sym (rotated_add ports (last * ports) xs (omega arith)) in
    let size : length (take ports before) ≡ ports = length-take-le ports before (omega arith) in
    ap (λ rows. take ports (drop ((delay - 1) * ports) rows)) on ∙ row_last ports delay before (take ports before) (omega arith) (long ∙ len) size

same_line : (p delay : ℕ) (x y : Delayed) → Lined p delay x → Lined p delay y → x.rows ≡ y.rows → x ≡ y
same_line p delay x y h k e = parts x.ports x.delay x.rows y.ports y.delay y.rows (h.ports_are ∙ sym k.ports_are) (h.delay_is ∙ sym k.delay_is) e
  where
    parts : (p d : ℕ) (xs : List Sym) (q e : ℕ) (ys : List Sym) → p ≡ q → d ≡ e → xs ≡ ys → ◌≡◌ {A = Delayed} (record { ports = p; delay = d; rows = xs }) (record { ports = q; delay = e; rows = ys })
    parts p d xs q e ys a b c = cc

-- one row more, of which no more are left out than there are
row_fewer : (m p delay : ℕ) (d : Delayed) (row : List Sym) → Lined p delay d → suc m ≤ delay → drop (m * p) (drop d.ports d.rows ++ row) ≡ drop (suc m * p) d.rows ++ row
row_fewer m p delay d row h l =
    let whole : suc m * p ≡ p + m * p = omega arith in
    let fits : suc m * p ≤ delay * p = mul-le-mul_right p l in
    let size = length-drop p d.rows in
    let all = h.rows_len in
    ap (λ i. drop (m * p) (drop i d.rows ++ row)) h.ports_are
    ∙ drop-append-le (m * p) (drop p d.rows) row (omega arith)
    ∙ ap (λ zs. zs ++ row) (drop-drop (m * p) p d.rows ∙ ap (λ i. drop i d.rows) (sym whole))

-- lines that differ in no more rows than are put in
forgotten : (m p delay : ℕ) (flags : List Bool) (texts : List Sym) (x y : Delayed) → 0 < delay → Lined p delay x → Lined p delay y → length flags ≡ p → m ≤ delay → m ≤ length texts
    → drop (m * p) x.rows ≡ drop (m * p) y.rows → line_with flags texts x ≡ line_with flags texts y
forgotten zero p delay flags texts x y some h k n d l e =
    let none : 0 * p ≡ 0 = omega arith in
    ap (line_with flags texts) (same_line p delay x y h k (ap (λ i. drop i x.rows) (sym none) ∙ e ∙ ap (λ i. drop i y.rows) none))
forgotten (suc m) p delay flags [] x y some h k n d l e = absurd (omega arith)
forgotten (suc m) p delay flags (t ∷ texts) x y some h k n d l e =
    let row = texted_len flags t ∙ n in
    forgotten m p delay flags texts (moved_on (texted flags t) x) (moved_on (texted flags t) y) some (lined_on p delay x (texted flags t) some h row) (lined_on p delay y (texted flags t) some k row) n
    (omega arith) (omega arith) (row_fewer m p delay x (texted flags t) h d ∙ ap (λ zs. zs ++ texted flags t) e ∙ sym (row_fewer m p delay y (texted flags t) k d))

-- rows that are put in at the end
rows_with : (p delay : ℕ) (flags : List Bool) (texts : List Sym) (d : Delayed) → 0 < delay → Lined p delay d → length flags ≡ p → length texts ≤ delay
    → (line_with flags texts d).rows ≡ drop (length texts * p) d.rows ++ flat_map (texted flags) texts
rows_with p delay flags [] d some h n l =
    let none : 0 * p ≡ 0 = omega arith in
    sym (append-nil (drop (0 * p) d.rows) ∙ ap (λ i. drop i d.rows) none)
rows_with p delay flags (t ∷ texts) d some h n l =
    rows_with p delay flags texts (moved_on (texted flags t) d) some (lined_on p delay d (texted flags t) some h (texted_len flags t ∙ n)) n (omega arith)
    ∙ ap (λ zs. zs ++ flat_map (texted flags) texts) (row_fewer (length texts) p delay d (texted flags t) h l)
    ∙ append_assoc (drop (suc (length texts) * p) d.rows) (texted flags t) (flat_map (texted flags) texts)

pub rows_length : (flags : List Bool) (texts : List Sym) → length (flat_map (texted flags) texts) ≡ length texts * length flags
rows_length flags [] = let none : 0 * length flags ≡ 0 = omega arith in sym none
rows_length flags (t ∷ texts) =
    let more : suc (length texts) * length flags ≡ length flags + length texts * length flags = omega arith in
    length-append (texted flags t) (flat_map (texted flags) texts) ∙ ap₂ ◌+◌ (texted_len flags t) (rows_length flags texts) ∙ sym more

pub rows_room : (turn rows delay p : ℕ) → turn + rows ≤ delay → turn * p + rows * p ≤ delay * p
rows_room turn rows delay p l = let m : (turn + rows) * p ≤ delay * p = mul-le-mul_right p l in omega arith

later_ring : (turn rows delay p next : ℕ) (xs : List Sym) → length xs ≡ delay * p → next ≡ cond (eqb (turn + rows) delay) 0 (turn + rows) → rotated (next * p) xs ≡ rotated (turn * p + rows * p) xs
later_ring turn rows delay p next xs len e = elim (cases_eq (turn + rows) delay) [
  | inl is ↦
      let wraps : next ≡ 0 = grind (arith, nat_tests) in
      let none : next * p ≡ 0 = rw wraps (omega arith) in
      let all : turn * p + rows * p ≡ length xs = omega (arith, ap (λ d. d * p) is) in
      ap (λ h. rotated h xs) none ∙ append-nil xs ∙ sym (ap (λ h. rotated h xs) all ∙ ap₂ ◌++◌ (drop_all (length xs) xs (omega arith)) (take_all (length xs) xs (omega arith)))
  | inr ne ↦
      let goes : next ≡ turn + rows = grind (arith, nat_tests) in
      let same : next * p ≡ turn * p + rows * p = rw goes (omega arith) in
      ap (λ h. rotated h xs) same
]

-- rows that are written one after another, up to the ring's end at most
pub stretch_put : (p delay turn next rows k : ℕ) (xs ys : List Sym) (flags : List Bool) (texts : List Sym) → length xs ≡ delay * p → turn < delay → length texts ≡ rows → turn + rows ≤ delay → length flags ≡ p
    → next ≡ cond (eqb (turn + rows) delay) 0 (turn + rows) → k ≡ rows * p → ys ≡ flat_map (texted flags) texts
    → (length (put_mid (turn * p) k xs ys) ≡ length xs) × (ring p delay next (put_mid (turn * p) k xs ys) ≡ line_with flags texts (ring p delay turn xs))
stretch_put p delay turn next rows k xs ys flags texts len below n fits l e ke ye =
    let h = turn * p in
    let zs = put_mid h k xs ys in
    let room = rows_room turn rows delay p fits in
    let size : length ys ≡ rows * p = ap length ye ∙ rows_length flags texts ∙ ap₂ ◌*◌ n l in
    let near : h ≤ length xs = omega arith in
    let first : take (h + rows * p) zs ≡ take h xs ++ ys = take-put_mid h k xs ys (h + rows * p) (omega arith) near in
    let rest : drop (h + rows * p) zs ≡ drop (h + rows * p) xs = drop-put_mid h k xs ys (h + rows * p) (omega arith) near (omega arith) in
    let mid : length ys ≡ length (mid_of h k xs) = (let d = length-drop h xs in let f = length-take-le k (drop h xs) (omega arith) in omega arith) in
    let long : length zs ≡ length xs = same_len_mid h k xs ys mid in
    let some : 0 < delay = omega arith in
    let old = ring p delay turn xs in
    let lined : Lined p delay old = record { ports_are = refl; delay_is = refl; rows_len = rotated_len h xs ∙ len } in
    let after : rotated (h + rows * p) zs ≡ (line_with flags texts old).rows =
    ap₂ ◌++◌ rest first
    ∙ sym (append_assoc (drop (h + rows * p) xs) (take h xs) ys)
    ∙ sym (rows_with p delay flags texts old some lined l (omega arith)
    ∙ ap₂ (λ i bs. drop (i * p) (rotated h xs) ++ bs) n (sym ye)
    ∙ ap (λ cs. cs ++ ys) (drop-append-le (rows * p) (drop h xs) (take h xs) (let s = length-drop h xs in omega arith) ∙ ap (λ cs. cs ++ take h xs) (drop-drop (rows * p) h xs))) in (
      long,
      same_line p delay (ring p delay next zs) (line_with flags texts old) (record { ports_are = refl; delay_is = refl; rows_len = rotated_len (next * p) zs ∙ long ∙ len })
          (lined_with p delay flags texts old some lined l) (later_ring turn rows delay p next zs (long ∙ len) e ∙ after),
    )

pub with_both : (flags : List Bool) (texts more : List Sym) (d : Delayed) → line_with flags (texts ++ more) d ≡ line_with flags more (line_with flags texts d)
with_both flags [] more d = refl
with_both flags (t ∷ texts) more d = with_both flags texts more (moved_on (texted flags t) d)

-- of more texts than the delay has half bits, the first ones leave nothing behind
pub last_written : (p delay : ℕ) (flags : List Bool) (texts : List Sym) (d : Delayed) → 0 < delay → Lined p delay d → length flags ≡ p
    → line_with flags (drop (length texts - delay) texts) d ≡ line_with flags texts d
last_written p delay flags texts d some h n = elim (cases_lt delay (length texts)) [
  | inl l ↦
      let j = length texts - delay in
      let early = line_with flags (take j texts) d in
      let size = length-drop j texts in
      let k = lined_with p delay flags (take j texts) d some h n in
      let a = h.rows_len in
      let b = k.rows_len in
      sym (ap (λ ts. line_with flags ts d) (sym (take-append-drop j texts)) ∙ with_both flags (take j texts) (drop j texts) d
      ∙ forgotten delay p delay flags (drop j texts) early d some k h n (omega arith) (omega arith)
      (drop_all (delay * p) early.rows (omega arith) ∙ sym (drop_all (delay * p) d.rows (omega arith))))
  | inr l ↦ let none : length texts - delay ≡ 0 = omega arith in ap (λ j. line_with flags (drop j texts) d) none
]

-- rows of Idle
idle_falls : (filled : ℕ) (flags : List Bool) (texts : List Sym) (d : Delayed) → AllByRecursion (λ s. s ≡ sy.Idle) texts → AllIdle (drop (filled * d.ports) d.rows)
    → AllIdle (drop ((filled - length texts) * d.ports) (line_with flags texts d).rows)
idle_falls filled flags [] d a h = let none : filled - 0 ≡ filled = omega arith in subst (λ f. AllIdle (drop (f * d.ports) d.rows)) (sym none) h
idle_falls filled flags (t ∷ texts) d a h =
    let less : filled - 1 - length texts ≡ filled - suc (length texts) = omega arith in
    subst (λ f. AllIdle (drop (f * d.ports) (line_with flags texts (moved_on (texted flags t) d)).rows)) less
    (idle_falls (filled - 1) flags texts (moved_on (texted flags t) d) a.1 (filled_falls filled d.ports d.rows (texted flags t) h (all_idle_texts flags t a.0)))

rest_after : (idle : Bool) (filled delay n p : ℕ) (rows : List Sym) → length rows ≡ delay * p → (idle ≡ true → AllIdle (drop ((filled - n) * p) rows)) → AllIdle (drop (cond idle (filled - n) delay * p) rows)
rest_after true filled delay n p rows len h = h refl
rest_after false filled delay n p rows len h = subst AllIdle (sym (drop_all (delay * p) rows (omega arith))) (All-nil (λ s. s ≡ sy.Idle))

within_after : (idle : Bool) (filled delay n : ℕ) → filled ≤ delay → cond idle (filled - n) delay ≤ delay
within_after true filled delay n l = omega arith
within_after false filled delay n l = omega arith

idle_list : (xs ys : List Sym) → AllByRecursion (λ s. s ≡ sy.Idle) xs → AllByRecursion (λ s. s ≡ sy.Idle) ys → length xs ≡ length ys → xs ≡ ys
idle_list [] [] a b l = refl
idle_list [] (y ∷ ys) a b l = absurd (omega arith)
idle_list (x ∷ xs) [] a b l = absurd (omega arith)
idle_list (x ∷ xs) (y ∷ ys) a b l = ap₂ ◌∷◌ (a.0 ∙ sym b.0) (idle_list xs ys a.1 b.1 (omega arith))

idle_stays : (p delay : ℕ) (flags : List Bool) (text : Sym) (d : Delayed) → 0 < delay → Lined p delay d → length flags ≡ p → AllIdle d.rows → text ≡ sy.Idle → moved_on (texted flags text) d ≡ d
idle_stays p delay flags text d some h n a e =
    let k = lined_on p delay d (texted flags text) some h (texted_len flags text ∙ n) in
    let b = All-append (λ s. s ≡ sy.Idle) (drop d.ports d.rows) (texted flags text) (All-drop (λ s. s ≡ sy.Idle) d.ports d.rows a) (all_idle_texts flags text e) in
    same_line p delay (moved_on (texted flags text) d) d k h
    (idle_list (drop d.ports d.rows ++ texted flags text) d.rows (recursion_from_All (λ s. s ≡ sy.Idle) (drop d.ports d.rows ++ texted flags text) b) (recursion_from_All (λ s. s ≡ sy.Idle) d.rows a) (k.rows_len ∙ sym h.rows_len))

idle_with : (p delay : ℕ) (flags : List Bool) (texts : List Sym) (d : Delayed) → 0 < delay → Lined p delay d → length flags ≡ p → AllIdle d.rows → AllByRecursion (λ s. s ≡ sy.Idle) texts → line_with flags texts d ≡ d
idle_with p delay flags [] d some h n a b = refl
idle_with p delay flags (t ∷ texts) d some h n a b = ap (line_with flags texts) (idle_stays p delay flags t d some h n a b.0) ∙ idle_with p delay flags texts d some h n a b.1

-- a ring of a delay line
pub ring_lined : (ports delay turn filled alike : ℕ) (xs : List Sym) → IsRing ports delay turn filled alike xs → Lined ports delay (ring ports delay turn xs)
ring_lined ports delay turn filled alike xs h = record { ports_are = refl; delay_is = refl; rows_len = rotated_len (turn * ports) xs ∙ h.slots_len }

pub idle_ring : (ports delay turn filled alike : ℕ) (xs : List Sym) (flags : List Bool) (texts : List Sym) → IsRing ports delay turn filled alike xs → filled ≡ 0 → length flags ≡ ports → AllIdle texts
    → line_with flags texts (ring ports delay turn xs) ≡ ring ports delay turn xs
idle_ring ports delay turn filled alike xs flags texts h z n a =
    let zero_rows : 0 * ports ≡ 0 = omega arith in
    let none : filled * ports ≡ 0 = ap (λ k. k * ports) z ∙ zero_rows in
    let below = h.turn_below in
    idle_with ports delay flags texts (ring ports delay turn xs) (omega arith) (ring_lined ports delay turn filled alike xs h) n
    (subst (λ k. AllIdle (drop k (rotated (turn * ports) xs))) none h.rest_idle) (recursion_from_All (λ s. s ≡ sy.Idle) texts a)

-- what is known of the newest rows, and of as many more
pub record IsSent (flags : List Bool) (texts : List Sym) (known : ℕ) (idle : Bool) (d : Delayed) : Type 0 where
  pub flags_len : length flags ≡ d.ports
  pub keeps : KeepSignals flags texts
  pub newest : NewestAre flags known d
  pub silent : idle ≡ true → AllIdle texts

-- the line once those texts are put in that stay, as a call of it tells: k, xs' and j are its names for what is given
pub sent_line : (ports delay turn next filled alike k j : ℕ) (xs xs' ys : List Sym) (flags : List Bool) (texts : List Sym) → IsRing ports delay turn filled alike xs → length ys ≡ delay * ports → length flags ≡ ports
    → k ≡ ports → xs' ≡ xs → j ≡ length texts - delay → rotated (next * k) ys ≡ (line_with flags (take (length texts - j) (drop j texts)) (ring k delay turn xs')).rows
    → ring ports delay next ys ≡ line_with flags texts (ring ports delay turn xs)
sent_line ports delay turn next filled alike k j xs xs' ys flags texts h len n ports_are same few put =
    let below = h.turn_below in
    let old = ring ports delay turn xs in
    let some : 0 < delay = omega arith in
    let lined = ring_lined ports delay turn filled alike xs h in
    let size = length-drop j texts in
    let told : rotated (next * ports) ys ≡ (line_with flags (drop j texts) old).rows =
    sym (ap (λ i. rotated (next * i) ys) ports_are) ∙ put
    ∙ ap₂ (λ ts (d : Delayed). (line_with flags ts d).rows) (take_all (length texts - j) (drop j texts) (omega arith)) (ap₂ (λ i zs. ring i delay turn zs) ports_are same) in
    let written = ap (λ i. line_with flags (drop i texts) old) few ∙ last_written ports delay flags texts old some lined n in
    same_line ports delay (ring ports delay next ys) (line_with flags texts old) (record { ports_are = refl; delay_is = refl; rows_len = rotated_len (next * ports) ys ∙ len })
    (lined_with ports delay flags texts old some lined n) (told ∙ ap (λ (d : Delayed). d.rows) written)

pub sent_ring : (ports delay turn next filled filled' alike alike' known : ℕ) (xs ys : List Sym) (flags : List Bool) (texts : List Sym) (idle : Bool) → IsRing ports delay turn filled alike xs
    → length ys ≡ delay * ports → IsSent flags texts known idle (ring ports delay turn xs) → next < delay → ring ports delay next ys ≡ line_with flags texts (ring ports delay turn xs)
    → filled' ≡ cond idle (filled - length texts) delay → alike' ≤ delay → alike' ≤ known + length texts → IsRing ports delay next filled' alike' ys
sent_ring ports delay turn next filled filled' alike alike' known xs ys flags texts idle h len s below is f few most =
    let old = ring ports delay turn xs in
    let turn_below = h.turn_below in
    let some : 0 < delay = omega arith in
    let lined = ring_lined ports delay turn filled alike xs h in
    let all = newest_with flags known texts old some lined.rows_len s.flags_len s.keeps s.newest in
    record {
      turn_below = below;
      slots_len = len;
      delay_at_most = h.delay_at_most;
      filled_at_most = subst (λ k. k ≤ delay) (sym f) (within_after idle filled delay (length texts) h.filled_at_most);
      rest_idle = subst (λ k. AllIdle (drop (k * ports) (rotated (next * ports) ys))) (sym f)
          (rest_after idle filled delay (length texts) ports (rotated (next * ports) ys) (rotated_len (next * ports) ys ∙ len)
          (λ yes. subst (λ (d : Delayed). AllIdle (drop ((filled - length texts) * ports) d.rows)) (sym is)
          (idle_falls filled flags texts old (recursion_from_All (λ s. s ≡ sy.Idle) texts (s.silent yes)) h.rest_idle)));
      alike_at_most = few;
      newest_alike = newest_same flags (known + length texts) alike' (ring ports delay next ys) most (subst (NewestAre flags (known + length texts)) (sym is) all);
    }

-- a new ring
pub new_ring : (ports delay : ℕ) (xs : List Sym) → 0 < delay → delay ≤ greatest_delay → xs ≡ replicate (delay * ports) sy.Idle → IsRing ports delay 0 0 delay xs
new_ring ports delay xs some few e =
    let all : AllIdle xs = subst AllIdle (sym e) (All-replicate (λ s. s ≡ sy.Idle) (delay * ports) sy.Idle refl) in
    let len : length xs ≡ delay * ports = ap length e ∙ length-replicate (delay * ports) sy.Idle in
    let rows : AllIdle (rotated (0 * ports) xs) =
    All-append (λ s. s ≡ sy.Idle) (drop (0 * ports) xs) (take (0 * ports) xs) (All-drop (λ s. s ≡ sy.Idle) (0 * ports) xs all) (All-take (λ s. s ≡ sy.Idle) (0 * ports) xs all) in
    record {
      turn_below = some;
      slots_len = len;
      delay_at_most = few;
      filled_at_most = omega arith;
      rest_idle = All-drop (λ s. s ≡ sy.Idle) (0 * ports) (rotated (0 * ports) xs) rows;
      alike_at_most = omega arith;
      newest_alike = idle_newest delay (ring ports delay 0 xs) rows (rotated_len (0 * ports) xs ∙ len);
    }
