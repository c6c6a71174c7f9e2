-- What a silent half bit makes of guards and of ports, and whether anything happens to them in it.
use Rattle.std.proofs.Common.{◌≡◌, ◌≢◌, ℕ, zero, suc, ◌+◌, ◌-◌, ◌^◌, ◌<◌, ◌≤◌, min, Bool, true, false, not, cond, ltb, eqb, ◌&&◌, ◌||◌, List, [], ◌∷◌, length, map, replicate, inl, inr, ◌⊎◌, refl, sym, ap, ap₂, subst, ◌∙◌, arith}
use Rattle.std.proofs.lemmas.Bool.{cond_both, cases_eq, or_parts, or_cases}
use Rattle.std.proofs.lemmas.Bool.Decides.{nat_tests}
use Rattle.std.proofs.lemmas.Nat.{pow_pos}
use Rattle.std.proofs.lemmas.List.Elements.{All-nil, All-cons, All-head, All-tail}
use Rattle.std.specs.List.{All}
use Rattle.mac_parameters.specs.Parameters.{jabber_limit}
use Rattle.repeater_core.specs.Limits.{most_calm}
use Rattle.manchester_line.specs.declared.Sym.{Sym}
use Rattle.manchester_line.specs.declared.Sym.TheVariants as sy
use Rattle.port_partition.specs.Guard.{Guard, event_of}
use Rattle.port_partition.specs.declared.guard.GuardEvent.TheVariants as event
use Rattle.repeater_core.specs.declared.modes.Mode.{Mode}
use Rattle.repeater_core.specs.declared.modes.Mode.TheVariants.{Idle}
use Rattle.repeater_core.specs.declared.modes.Activity.TheVariants.{Nobody, One}
use Rattle.repeater_core.specs.Modes.{joined, activity_at, activity_from, wish_of}
use Rattle.repeater_core.specs.Counts.{Count, Choice, choice, choice_awake, choices_from, resting_count}
use Rattle.repeater_core.specs.Step.{guards_after, guard_events, is_closing, is_opening, mask_from}
use Rattle.repeater_core.specs.SilentParts.{port_calm, ports_calm, any_opens, silent_guard, silent_count, silent_mode, sends_to, sends_for}
use Rattle.repeater_core.proofs.SendsToOthers.{choose, IsWishFor, wish_is, repeatable}
use Rattle.repeater_core.proofs.SilentModes.{fallen, fallen_min, port_falls, port_at_most, sends_next, sends_something, sends_nothing}

-- no port is active
idle_at : (n : ℕ) (g : Guard) → activity_at n g sy.Idle ≡ Nobody
idle_at n g = at n g.closed
  where
    at : (n : ℕ) (b : Bool) → cond (not b && false) (One n sy.Idle) Nobody ≡ Nobody
    at n true = refl
    at n false = refl

pub nobody : (k : ℕ) (gs : List Guard) (n : ℕ) → activity_from k gs (replicate n sy.Idle) ≡ Nobody
nobody k [] n = refl
nobody k (g ∷ gs) zero = refl
nobody k (g ∷ gs) (suc n) = ap₂ joined (idle_at k g) (nobody (k + 1) gs n)

pub idle_is : (ss : List Sym) → All (λ s. s ≡ sy.Idle) ss → ss ≡ replicate (length ss) sy.Idle
idle_is [] h = refl
idle_is (s ∷ ss) h = ap₂ ◌∷◌ (All-head (λ s. s ≡ sy.Idle) s ss h) (idle_is ss (All-tail (λ s. s ≡ sy.Idle) s ss h))

-- the guards
abbrev pub idles : List Guard → List Sym
idles gs = replicate (length gs) sy.Idle

pub guards_silent : (gs : List Guard) → guards_after gs (idles gs) (idles gs) ≡ map silent_guard gs
guards_silent [] = refl
guards_silent (g ∷ gs) = ap (λ hs. silent_guard g ∷ hs) (guards_silent gs)

event_none : (g : Guard) → g.closed && g.mend ≡ false → event_of g false false ≡ event.None
event_none g e = grind (arith, nat_tests)

event_opens : (g : Guard) → g.closed && g.mend ≡ true → event_of g false false ≡ event.Opened
event_opens g e = grind (arith, nat_tests)

pub none_opened : (k : ℕ) (gs : List Guard) → any_opens gs ≡ false → mask_from k (map is_opening (guard_events gs (idles gs) (idles gs))) ≡ 0
none_opened k [] e = refl
none_opened k (g ∷ gs) e =
    let o = or_parts (g.closed && g.mend) (any_opens gs) e in
    let here = ap (λ x. cond (is_opening x) (2 ^ k) 0) (event_none g o.0) in
    let rest = none_opened (k + 1) gs o.1 in omega arith

pub some_opened : (k : ℕ) (gs : List Guard) → any_opens gs ≡ true → mask_from k (map is_opening (guard_events gs (idles gs) (idles gs))) ≡ 0 → ⊥
some_opened k [] e z = absurd (cc)
some_opened k (g ∷ gs) e z = elim (or_cases (g.closed && g.mend) (any_opens gs) e) [
  | inl o ↦ (let here = ap (λ x. cond (is_opening x) (2 ^ k) 0) (event_opens g o) in let some = pow_pos k in omega arith)
  | inr o ↦ some_opened (k + 1) gs o (omega arith)
]

closing_none : (g : Guard) → is_closing (event_of g false false) ≡ false
closing_none g = grind (arith, nat_tests)

pub none_closed : (k : ℕ) (gs : List Guard) → mask_from k (map is_closing (guard_events gs (idles gs) (idles gs))) ≡ 0
none_closed k [] = refl
none_closed k (g ∷ gs) =
    let here = ap (λ b. cond b (2 ^ k) 0) (closing_none g) in
    let rest = none_closed (k + 1) gs in omega arith

guard_stays_shut : (g : Guard) → (silent_guard g).closed && (silent_guard g).mend ≡ false
guard_stays_shut g = grind (arith, nat_tests)

pub none_opens : (gs : List Guard) → any_opens (map silent_guard gs) ≡ false
none_opens [] = refl
none_opens (g ∷ gs) = ap₂ ◌||◌ (guard_stays_shut g) (none_opens gs)

guard_twice : (g : Guard) → silent_guard (silent_guard g) ≡ silent_guard g
guard_twice g = grind (arith, nat_tests)

pub guards_twice : (gs : List Guard) → map silent_guard (map silent_guard gs) ≡ map silent_guard gs
guards_twice [] = refl
guards_twice (g ∷ gs) = ap₂ ◌∷◌ (guard_twice g) (guards_twice gs)

-- what is decided for a port to which nothing happens in a silent half bit
pub record IsSilentChoice (c : Count) (x : Choice) : Type 0 where
  pub symbol : x.symbol ≡ sy.Idle
  pub halted : x.halted ≡ false
  pub count : x.count ≡ silent_count c

-- of a port that rests
abbrev resting : ℕ → Choice
resting n = record { symbol = sy.Idle; rests = true; halted = false; count = record { run = 0; rest = n - 1; after_rest = true } }

silent_choice : (w : Sym) (c : Count) → (c.rest ≡ 0 → w ≡ sy.Idle) → IsSilentChoice c (choice w c)
silent_choice w c h = elim (cases_eq c.rest 0) [
  | inl z ↦
      subst (λ s. IsSilentChoice c (choice s c)) (sym (h z)) (record {
        symbol = ap (λ n. (cond (eqb n 0) (choice_awake sy.Idle c) (resting n)).symbol) z;
        halted = ap (λ n. (cond (eqb n 0) (choice_awake sy.Idle c) (resting n)).halted) z;
        count = ap (λ n. (cond (eqb n 0) (choice_awake sy.Idle c) (resting n)).count) z ∙ sym (ap (λ n. cond (eqb n 0) (resting_count 0) (resting n).count) z);
      })
  | inr nz ↦
      let no : eqb c.rest 0 ≡ false = grind (arith, nat_tests) in
      record {
        symbol = ap (λ b. (cond b (choice_awake w c) (resting c.rest)).symbol) no;
        halted = ap (λ b. (cond b (choice_awake w c) (resting c.rest)).halted) no;
        count = ap (λ b. (cond b (choice_awake w c) (resting c.rest)).count) no ∙ sym (ap (λ b. cond b (resting_count 0) (resting c.rest).count) no);
      }
]

halted_awake : (w : Sym) (c : Count) → w ≢ sy.Idle → (choice_awake w c).symbol ≡ sy.Idle → (choice_awake w c).halted ≡ true
halted_awake sy.Idle c h = absurd (h refl)
halted_awake sy.Hi c h = choose (λ (x : Choice). x.symbol ≡ sy.Idle → x.halted ≡ true) (eqb c.run jabber_limit) _ _ (λ _ _. refl) (λ _ e. absurd (h e))
halted_awake sy.Lo c h = choose (λ (x : Choice). x.symbol ≡ sy.Idle → x.halted ≡ true) (eqb c.run jabber_limit) _ _ (λ _ _. refl) (λ _ e. absurd (h e))
halted_awake sy.Clash c h = choose (λ (x : Choice). x.symbol ≡ sy.Idle → x.halted ≡ true) (eqb c.run jabber_limit) _ _ (λ _ _. refl) (λ _ e. absurd (h e))

halted_choice : (w : Sym) (c : Count) → c.rest ≡ 0 → w ≢ sy.Idle → (choice w c).symbol ≡ sy.Idle → (choice w c).halted ≡ true
halted_choice w c z h = choose (λ (x : Choice). x.symbol ≡ sy.Idle → x.halted ≡ true) (eqb c.rest 0) (choice_awake w c) _ (λ _. halted_awake w c h) (λ no _. absurd (let yes : eqb c.rest 0 ≡ true = grind (arith, nat_tests) in cc))

-- the wishes of a mode after a silent half bit
silent_wish : (mode : Mode) (ss : List Sym) (q : ℕ) → IsWishFor (silent_mode mode) q (wish_of (silent_mode mode) ss q)
silent_wish mode ss q = wish_is ss (silent_mode mode) q (repeatable ss mode Nobody tt)

is_idle : (s : Sym) → (s ≡ sy.Idle) ⊎ (s ≢ sy.Idle)
is_idle sy.Idle = inl refl
is_idle sy.Hi = inr (λ e. cc)
is_idle sy.Lo = inr (λ e. cc)
is_idle sy.Clash = inr (λ e. cc)

wish_none : (mode : Mode) (ss : List Sym) (q : ℕ) → sends_next mode q ≡ false → wish_of (silent_mode mode) ss q ≡ sy.Idle
wish_none mode ss q e = elim (is_idle (wish_of (silent_mode mode) ss q)) [
  | inl i ↦ i
  | inr n ↦ absurd ((silent_wish mode ss q).something n (sends_nothing mode q e))
]

wish_some : (mode : Mode) (ss : List Sym) (q : ℕ) → sends_next mode q ≡ true → wish_of (silent_mode mode) ss q ≢ sy.Idle
wish_some mode ss q e = λ i. sends_something mode q e ((silent_wish mode ss q).nothing i)

shut_at : (b : Bool) (left rest : ℕ) → 0 < cond (b && ltb rest left) rest most_calm → rest ≡ 0 → b && ltb 0 left ≡ false
shut_at b left rest l z = grind (arith, nat_tests)

open_at : (b : Bool) (left rest : ℕ) → cond (b && ltb rest left) rest most_calm ≡ 0 → (rest ≡ 0) × (b && ltb 0 left ≡ true)
open_at b left rest z = (none, sends)
  where
    none : rest ≡ 0
    none = grind (arith, nat_tests)

    sends : b && ltb 0 left ≡ true
    sends = let n = none in grind (arith, nat_tests)

-- what is decided for ports to which nothing happens in a silent half bit
pub record AreSilentChoices (cs : List Count) (xs : List Choice) : Type 0 where
  pub symbols : All (λ s. s ≡ sy.Idle) (map (λ c. c.symbol) xs)
  pub halted : (p : ℕ) → mask_from p (map (λ c. c.halted) xs) ≡ 0
  pub counts : map (λ c. c.count) xs ≡ map silent_count cs

pub silent_ports : (mode : Mode) (ss : List Sym) (q : ℕ) (cs : List Count) → 0 < ports_calm mode q cs → AreSilentChoices cs (choices_from (silent_mode mode) ss q cs)
silent_ports mode ss q [] l = record { symbols = All-nil (λ s. s ≡ sy.Idle); halted = λ p. refl; counts = refl }
silent_ports mode ss q (c ∷ cs) l =
    let here = silent_choice (wish_of (silent_mode mode) ss q) c (λ z. wish_none mode ss q (shut_at (sends_to mode q) (sends_for mode) c.rest (omega arith) z)) in
    let rest = silent_ports mode ss (q + 1) cs (omega arith) in
    record {
      symbols = All-cons (λ s. s ≡ sy.Idle) (choice (wish_of (silent_mode mode) ss q) c).symbol (map (λ c. c.symbol) (choices_from (silent_mode mode) ss (q + 1) cs)) here.symbol rest.symbols;
      halted = λ p. let a = ap (λ b. cond b (2 ^ p) 0) here.halted in let b = rest.halted (p + 1) in omega arith;
      counts = ap₂ ◌∷◌ here.count rest.counts;
    }

pub eventful_ports : (mode : Mode) (ss : List Sym) (q p : ℕ) (cs : List Count) → ports_calm mode q cs ≡ 0
    → All (λ s. s ≡ sy.Idle) (map (λ c. c.symbol) (choices_from (silent_mode mode) ss q cs)) → mask_from p (map (λ c. c.halted) (choices_from (silent_mode mode) ss q cs)) ≡ 0 → ⊥
eventful_ports mode ss q p [] z i m = absurd (omega arith)
eventful_ports mode ss q p (c ∷ cs) z i m =
    let w = wish_of (silent_mode mode) ss q in
    let later = map (λ (c : Choice). c.symbol) (choices_from (silent_mode mode) ss (q + 1) cs) in
    elim (cases_eq (port_calm mode q c.rest) 0) [
      | inl here ↦
          let o = open_at (sends_to mode q) (sends_for mode) c.rest here in
          let h : (choice w c).halted ≡ true = halted_choice w c o.0 (wish_some mode ss q o.1) (All-head (λ s. s ≡ sy.Idle) (choice w c).symbol later i) in
          let bit = ap (λ b. cond b (2 ^ p) 0) h in
          let some = pow_pos p in omega arith
      | inr there ↦ eventful_ports mode ss (q + 1) (p + 1) cs (omega arith) (All-tail (λ s. s ≡ sy.Idle) (choice w c).symbol later i) (omega arith)
    ]

silent_rest : (c : Count) → (silent_count c).rest ≡ c.rest - 1
silent_rest c = grind (arith, nat_tests)

pub ports_at_most : (mode : Mode) (q : ℕ) (cs : List Count) → ports_calm mode q cs ≤ most_calm
ports_at_most mode q [] = omega arith
ports_at_most mode q (c ∷ cs) = let l = port_at_most mode q c.rest in omega arith

pub ports_fall : (mode : Mode) (q : ℕ) (cs : List Count) → 0 < ports_calm mode q cs → ports_calm (silent_mode mode) q (map silent_count cs) ≡ fallen (ports_calm mode q cs)
ports_fall mode q [] l = refl
ports_fall mode q (c ∷ cs) l =
    ap₂ min (ap (port_calm (silent_mode mode) q) (silent_rest c) ∙ port_falls mode q c.rest (omega arith)) (ports_fall mode (q + 1) cs (omega arith))
    ∙ sym (fallen_min (port_calm mode q c.rest) (ports_calm mode (q + 1) cs) (port_at_most mode q c.rest) (ports_at_most mode (q + 1) cs))

-- mode Idle decides nothing
idle_choice : (c : Count) → (choice sy.Idle c).symbol ≡ sy.Idle
idle_choice c = cond_both (eqb c.rest 0) (choice_awake sy.Idle c) _ (λ (x : Choice). x.symbol ≡ sy.Idle) (λ _. refl) (λ _. refl)

idle_choices : (ss : List Sym) (q : ℕ) (cs : List Count) → All (λ s. s ≡ sy.Idle) (map (λ c. c.symbol) (choices_from Idle ss q cs))
idle_choices ss q [] = All-nil (λ s. s ≡ sy.Idle)
idle_choices ss q (c ∷ cs) = All-cons (λ s. s ≡ sy.Idle) (choice sy.Idle c).symbol (map (λ c. c.symbol) (choices_from Idle ss (q + 1) cs)) (idle_choice c) (idle_choices ss (q + 1) cs)

pub idle_decides : (mode : Mode) (ss decided : List Sym) (cs : List Count) → mode ≡ Idle → decided ≡ map (λ c. c.symbol) (choices_from mode ss 0 cs) → All (λ s. s ≡ sy.Idle) decided
idle_decides mode ss decided cs m d =
    subst (All (λ s. s ≡ sy.Idle)) (sym d) (subst (λ m. All (λ s. s ≡ sy.Idle) (map (λ c. c.symbol) (choices_from m ss 0 cs))) (sym m) (idle_choices ss 0 cs))
