-- A ring of rows turns on by n rows where n rows of Idle are taken out and put in, and keeps what it says of its rows.
use Rattle.std.proofs.Common.{◌≡◌, ℕ, zero, suc, ◌+◌, ◌-◌, ◌*◌, ◌%◌, ◌<◌, ◌≤◌, Bool, true, false, eqb, List, ◌++◌, length, take, drop, replicate, refl, sym, ap, ap₂, subst, ◌∙◌, inl, inr, cond, arith, length-drop, append_assoc, mul-le-mul_right}
use Rattle.std.proofs.lemmas.Bool.{cases_eq, cases_lt}
use Rattle.std.proofs.lemmas.Bool.Decides.{nat_tests}
use Rattle.std.proofs.lemmas.List.{drop_all, drop-drop, take-append-le, drop-append-le}
use Rattle.std.proofs.lemmas.List.Elements.{All-nil, All-append, All-drop, All-replicate}
use Rattle.std.proofs.Math.Seq.{take-add, drop-append-add}
use Rattle.std.proofs.Math.Nat.{mod-eq_of_lt, mul-add-mod_self_left}
use Rattle.std.proofs.lemmas.Grind.{common_steps}
use Rattle.std.specs.List.{All}
use Rattle.std.specs.Fn.{iterate}
use Rattle.mac_parameters.specs.Parameters.{greatest_delay}
use Rattle.manchester_line.specs.declared.Sym.{Sym}
use Rattle.manchester_line.specs.declared.Sym.TheVariants as sy
use Rattle.repeater_core.specs.Delayed.{Delayed, rotated, turn_after, IsRing}
use Rattle.repeater_core.specs.SilentParts.{idle_front, line_calm, silent_line}
use Rattle.repeater_core.proofs.SilentModes.{fallen}
use Rattle.repeater_core.proofs.DelayLineCalm.{IsLine, front_take, first_row_idle, line_falls}
use Rattle.repeater_core.proofs.NextTurnOfRing.{rotated_turn}
use Rattle.repeater_core.proofs.AlikeNewest.{known_newest}

-- all these symbols are Idle
abbrev pub AllIdle : List Sym → Type 0
AllIdle xs = All (λ s. s ≡ sy.Idle) xs

idle_after : (k : ℕ) (xs ys : List Sym) → AllIdle (drop k xs) → AllIdle ys → AllIdle (drop k (xs ++ ys))
idle_after k xs ys h i = elim (cases_lt (length xs) k) [
  | inl l ↦
      let is : length xs + (k - length xs) ≡ k = omega arith in
      subst (λ n. AllIdle (drop n (xs ++ ys))) is (subst AllIdle (sym (drop-append-add xs ys (k - length xs))) (All-drop (λ s. s ≡ sy.Idle) (k - length xs) ys i))
  | inr l ↦ subst AllIdle (sym (drop-append-le k xs ys l)) (All-append (λ s. s ≡ sy.Idle) (drop k xs) ys h i)
]

-- one row more that is Idle
pub filled_falls : (filled ports : ℕ) (rows decided : List Sym) → AllIdle (drop (filled * ports) rows) → AllIdle decided → AllIdle (drop ((filled - 1) * ports) (drop ports rows ++ decided))
filled_falls zero ports rows decided h i =
    let z : (zero - 1) * ports ≡ 0 = omega arith in
    let n : zero * ports ≡ 0 = omega arith in
    let all : AllIdle rows = subst (λ k. AllIdle (drop k rows)) n h in
    idle_after ((zero - 1) * ports) (drop ports rows) decided (All-drop (λ s. s ≡ sy.Idle) ((zero - 1) * ports) (drop ports rows) (All-drop (λ s. s ≡ sy.Idle) ports rows all)) i
filled_falls (suc f) ports rows decided h i =
    let less : ports + (suc f - 1) * ports ≡ suc f * ports = (let e : suc f - 1 ≡ f = omega arith in rw e (omega arith)) in
    idle_after ((suc f - 1) * ports) (drop ports rows) decided
    (subst AllIdle (sym (drop-drop ((suc f - 1) * ports) ports rows)) (subst (λ k. AllIdle (drop k rows)) (sym less) h)) i

-- a ring read further on
pub rotated_add : (n h : ℕ) (xs : List Sym) → h + n ≤ length xs → rotated n (rotated h xs) ≡ rotated (h + n) xs
rotated_add n h xs l =
    let len = length-drop h xs in
    let within : n ≤ length (drop h xs) = omega arith in
    ap₂ ◌++◌ (drop-append-le n (drop h xs) (take h xs) within ∙ ap (λ ys. ys ++ take h xs) (drop-drop n h xs)) (take-append-le n (drop h xs) (take h xs) within)
    ∙ append_assoc (drop (h + n) xs) (take h xs) (take n (drop h xs)) ∙ ap (λ ys. drop (h + n) xs ++ ys) (sym (take-add h n xs))

-- what a ring stands for
abbrev pub ring : ℕ → ℕ → ℕ → List Sym → Delayed
ring ports delay turn slots = record { ports = ports; delay = delay; rows = rotated (turn * ports) slots }

pub row_in : (turn delay ports : ℕ) → turn < delay → turn * ports + ports ≤ delay * ports
row_in turn delay ports l = let m : (turn + 1) * ports ≤ delay * ports = mul-le-mul_right ports (let k : turn + 1 ≤ delay = omega arith in k) in omega arith

pub turned : (turn delay ports : ℕ) (xs : List Sym) → length xs ≡ delay * ports → turn < delay → ports ≤ idle_front (rotated (turn * ports) xs) → silent_line (ring ports delay turn xs) ≡ ring ports delay (turn_after turn delay) xs
turned turn delay ports xs len l f =
    let rows = rotated (turn * ports) xs in
    let within = row_in turn delay ports l in
    let same : drop ports rows ++ replicate ports sy.Idle ≡ rotated (turn_after turn delay * ports) xs =
    ap (λ ys. drop ports rows ++ ys) (sym (front_take ports rows f)) ∙ rotated_add ports (turn * ports) xs (omega arith) ∙ sym (rotated_turn turn delay ports xs len) in
    ap (λ ys. record { ports = ports; delay = delay; rows = ys }) same

turn_within : (turn delay : ℕ) → turn < delay → turn_after turn delay < delay
turn_within turn delay l = grind (arith, nat_tests)

turn_mod : (turn delay n : ℕ) → turn < delay → (turn_after turn delay + n) % delay ≡ (turn + suc n) % delay
turn_mod turn delay n l = elim (cases_eq (turn + 1) delay) [
  | inl e ↦
      let wraps : turn_after turn delay ≡ 0 = grind (arith, nat_tests) in
      let whole : turn + suc n ≡ delay * 1 + n = omega arith in
      let none : 0 + n ≡ n = omega arith in
      ap (λ k. (k + n) % delay) wraps ∙ ap (λ k. k % delay) none ∙ sym (ap (λ k. k % delay) whole ∙ mul-add-mod_self_left delay 1 n)
  | inr ne ↦
      let goes : turn_after turn delay ≡ turn + 1 = grind (arith, nat_tests) in
      let same : turn + 1 + n ≡ turn + suc n = omega arith in
      ap (λ k. (k + n) % delay) goes ∙ ap (λ k. k % delay) same
]

fallen_more : (n a : ℕ) → suc n ≤ a → n ≤ fallen a
fallen_more n a l = grind (arith, nat_tests)

pub rotated_len : (h : ℕ) (xs : List Sym) → length (rotated h xs) ≡ length xs
rotated_len h xs = grind (arith, common_steps)

-- a ring of so many ports
pub record IsRound (ports delay turn : ℕ) (xs : List Sym) : Type 0 where
  pub some_port : 0 < ports
  pub turn_below : turn < delay
  pub slots_len : length xs ≡ delay * ports
  pub delay_at_most : delay ≤ greatest_delay

pub line_of : (ports delay turn : ℕ) (xs : List Sym) → IsRound ports delay turn xs → IsLine (ring ports delay turn xs)
line_of ports delay turn xs h = let l = h.turn_below in record {
  some_port = h.some_port;
  rows_len = rotated_len (turn * ports) xs ∙ h.slots_len;
  some_delay = omega arith;
  delay_at_most = h.delay_at_most;
}

turned_is : (ports delay turn : ℕ) (xs : List Sym) → IsRound ports delay turn xs → 0 < line_calm (ring ports delay turn xs) → silent_line (ring ports delay turn xs) ≡ ring ports delay (turn_after turn delay) xs
turned_is ports delay turn xs h l = turned turn delay ports xs h.slots_len h.turn_below (first_row_idle (ring ports delay turn xs) (line_of ports delay turn xs h) l)

round_on : (ports delay turn : ℕ) (xs : List Sym) → IsRound ports delay turn xs → IsRound ports delay (turn_after turn delay) xs
round_on ports delay turn xs h = record { some_port = h.some_port; turn_below = turn_within turn delay h.turn_below; slots_len = h.slots_len; delay_at_most = h.delay_at_most }

calm_on : (n ports delay turn : ℕ) (xs : List Sym) → IsRound ports delay turn xs → suc n ≤ line_calm (ring ports delay turn xs) → n ≤ line_calm (ring ports delay (turn_after turn delay) xs)
calm_on n ports delay turn xs h l =
    let some : 0 < line_calm (ring ports delay turn xs) = omega arith in
    subst (λ d. n ≤ line_calm d) (turned_is ports delay turn xs h some)
    (subst (λ k. n ≤ k) (sym (line_falls (ring ports delay turn xs) (line_of ports delay turn xs h) some)) (fallen_more n (line_calm (ring ports delay turn xs)) l))

pub ring_leaps : (n ports delay turn : ℕ) (xs : List Sym) → IsRound ports delay turn xs → n ≤ line_calm (ring ports delay turn xs)
    → iterate silent_line n (ring ports delay turn xs) ≡ ring ports delay ((turn + n) % delay) xs
ring_leaps zero ports delay turn xs h l =
    let l' = h.turn_below in
    let same : turn + 0 ≡ turn = omega arith in
    ap (λ t. ring ports delay t xs) (sym (ap (λ k. k % delay) same ∙ mod-eq_of_lt l'))
ring_leaps (suc n) ports delay turn xs h l =
    ap (iterate silent_line n) (turned_is ports delay turn xs h (omega arith))
    ∙ ring_leaps n ports delay (turn_after turn delay) xs (round_on ports delay turn xs h) (calm_on n ports delay turn xs h l)
    ∙ ap (λ t. ring ports delay t xs) (turn_mod turn delay n h.turn_below)

pub ring_filled : (n filled ports delay turn : ℕ) (xs : List Sym) → IsRound ports delay turn xs → n ≤ line_calm (ring ports delay turn xs)
    → AllIdle (drop (filled * ports) (rotated (turn * ports) xs)) → AllIdle (drop ((filled - n) * ports) (rotated ((turn + n) % delay * ports) xs))
ring_filled zero filled ports delay turn xs h l i =
    let l' = h.turn_below in
    let same : turn + 0 ≡ turn = omega arith in
    let none : filled - 0 ≡ filled = omega arith in
    subst (λ t. AllIdle (drop ((filled - 0) * ports) (rotated (t * ports) xs))) (sym (ap (λ k. k % delay) same ∙ mod-eq_of_lt l'))
    (subst (λ f. AllIdle (drop (f * ports) (rotated (turn * ports) xs))) (sym none) i)
ring_filled (suc n) filled ports delay turn xs h l i =
    let some : 0 < line_calm (ring ports delay turn xs) = omega arith in
    let next : AllIdle (drop ((filled - 1) * ports) (rotated (turn_after turn delay * ports) xs)) =
    subst (λ (d : Delayed). AllIdle (drop ((filled - 1) * ports) d.rows)) (turned_is ports delay turn xs h some)
    (filled_falls filled ports (rotated (turn * ports) xs) (replicate ports sy.Idle) i (All-replicate (λ s. s ≡ sy.Idle) ports sy.Idle refl)) in
    let less : filled - 1 - n ≡ filled - suc n = omega arith in
    subst (λ f. AllIdle (drop (f * ports) (rotated ((turn + suc n) % delay * ports) xs))) less
    (subst (λ t. AllIdle (drop ((filled - 1 - n) * ports) (rotated (t * ports) xs))) (turn_mod turn delay n h.turn_below)
    (ring_filled n (filled - 1) ports delay (turn_after turn delay) xs (round_on ports delay turn xs h) (calm_on n ports delay turn xs h l) next))

-- a ring after a half bit
filled_kept : (idle : Bool) (filled delay ports : ℕ) (rows decided : List Sym) → length (drop ports rows ++ decided) ≡ delay * ports → (idle ≡ true → AllIdle decided)
    → AllIdle (drop (filled * ports) rows) → AllIdle (drop (cond idle (filled - 1) delay * ports) (drop ports rows ++ decided))
filled_kept true filled delay ports rows decided len d i = filled_falls filled ports rows decided i (d refl)
filled_kept false filled delay ports rows decided len d i = subst AllIdle (sym (drop_all (delay * ports) (drop ports rows ++ decided) (omega arith))) (All-nil (λ s. s ≡ sy.Idle))

filled_within : (idle : Bool) (filled delay : ℕ) → filled ≤ delay → cond idle (filled - 1) delay ≤ delay
filled_within true filled delay l = omega arith
filled_within false filled delay l = omega arith

-- a row of k symbols, one for each port, is put in where the oldest was, and the ring turns on
pub moved_row : (ports delay turn next k : ℕ) (xs xs' ys decided : List Sym) → k ≡ ports → length ys ≡ delay * ports → next ≡ turn_after turn delay → xs' ≡ xs
    → rotated (turn * ports + k) ys ≡ drop k (rotated (turn * ports) xs') ++ decided → rotated (next * ports) ys ≡ drop ports (rotated (turn * ports) xs) ++ decided
moved_row ports delay turn next k xs xs' ys decided n len e same rows =
    ap (λ t. rotated (t * ports) ys) e ∙ rotated_turn turn delay ports ys len ∙ ap (λ k. rotated (turn * ports + k) ys) (sym n) ∙ rows
    ∙ ap₂ (λ k (xs : List Sym). drop k (rotated (turn * ports) xs) ++ decided) n same

pub stepped_ring : (ports delay turn next filled filled' alike alike' : ℕ) (xs ys decided : List Sym) (idle : Bool) → IsRing ports delay turn filled alike xs → length ys ≡ delay * ports
    → rotated (next * ports) ys ≡ drop ports (rotated (turn * ports) xs) ++ decided
    → next < delay → (idle ≡ true → AllIdle decided) → filled' ≡ cond idle (filled - 1) delay → alike' ≡ cond (eqb filled' 0) delay 0 → IsRing ports delay next filled' alike' ys
stepped_ring ports delay turn next filled filled' alike alike' xs ys decided idle h len moved below d f e =
    let whole : length (drop ports (rotated (turn * ports) xs) ++ decided) ≡ delay * ports = ap length (sym moved) ∙ rotated_len (next * ports) ys ∙ len in
    let rest = subst (λ k. AllIdle (drop (k * ports) (rotated (next * ports) ys))) (sym f)
    (subst (λ zs. AllIdle (drop (cond idle (filled - 1) delay * ports) zs)) (sym moved)
    (filled_kept idle filled delay ports (rotated (turn * ports) xs) decided whole d h.rest_idle)) in
    let known = known_newest ports delay filled' alike' (rotated (next * ports) ys) (rotated_len (next * ports) ys ∙ len) rest e in
    record {
      turn_below = below;
      slots_len = len;
      delay_at_most = h.delay_at_most;
      filled_at_most = subst (λ k. k ≤ delay) (sym f) (filled_within idle filled delay h.filled_at_most);
      rest_idle = rest;
      alike_at_most = known.0;
      newest_alike = known.1;
    }
