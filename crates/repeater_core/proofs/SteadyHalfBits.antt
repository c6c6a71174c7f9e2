-- The state after steady half bits, part by part: the mode, each guard and each port's counts go on by themselves.
use Rattle.std.proofs.Common.{◌≡◌, ℕ, zero, suc, ◌+◌, ◌-◌, ◌^◌, ◌<◌, ◌⊎◌, Bool, true, false, cond, eqb, List, [], ◌∷◌, length, map, refl, sym, ap, ap₂, ◌∙◌, arith, inl, inr}
use Rattle.std.proofs.lemmas.Bool.Decides.{nat_tests}
use Rattle.mac_parameters.specs.Parameters.{jabber_limit}
use Rattle.std.proofs.lemmas.Nat.{pow_pos}
use Rattle.std.specs.Fn.{iterate}
use Rattle.manchester_line.specs.declared.Sym.{Sym}
use Rattle.manchester_line.specs.declared.Sym.TheVariants as sy
use Rattle.manchester_line.specs.Line.{is_signal}
use Rattle.port_partition.specs.Guard.{Guard, guard_after}
use Rattle.repeater_core.specs.declared.modes.Mode.{Mode}
use Rattle.repeater_core.specs.declared.modes.Mode.TheVariants.{Idle, Repeat, Extend, RxClash, TxClash, OnePort}
use Rattle.repeater_core.specs.Modes.{wish_of}
use Rattle.repeater_core.specs.Counts.{Count, Choice, choice, choice_awake, choices_from, resting_count}
use Rattle.repeater_core.specs.Delayed.{moved_on}
use Rattle.repeater_core.specs.Step.{RepeaterDevice, mode_next, chosen, after, emitted_by, guards_after, collides, mask_from}
use Rattle.repeater_core.specs.Steady.{mode_on, IsSteadyStep, sent_text, texted, kind_of, kinds_of, at_each, guard_by, count_by, line_later}
use Rattle.repeater_core.proofs.SendsToOthers.{choose}
use Rattle.repeater_core.proofs.CalmIsExact.{same_state}

-- elements of a list go on by themselves
pub each_length : {A B : Type 0} (f : B → A → A) (bs : List B) (xs : List A) → length bs ≡ length xs → length (at_each f bs xs) ≡ length xs
each_length f [] [] l = refl
each_length f [] (x ∷ xs) l = absurd (omega arith)
each_length f (b ∷ bs) [] l = absurd (omega arith)
each_length f (b ∷ bs) (x ∷ xs) l = ap suc (each_length f bs xs (omega arith))

each_none : {A B : Type 0} (bs : List B) (xs : List A) → length bs ≡ length xs → xs ≡ at_each (λ b x. x) bs xs
each_none [] [] l = refl
each_none [] (x ∷ xs) l = absurd (omega arith)
each_none (b ∷ bs) [] l = absurd (omega arith)
each_none (b ∷ bs) (x ∷ xs) l = ap (λ ys. x ∷ ys) (each_none bs xs (omega arith))

each_more : {A B : Type 0} (f : B → A → A) (n : ℕ) (bs : List B) (xs : List A) → at_each (λ b x. iterate (f b) n x) bs (at_each f bs xs) ≡ at_each (λ b x. iterate (f b) (suc n) x) bs xs
each_more f n [] xs = refl
each_more f n (b ∷ bs) [] = refl
each_more f n (b ∷ bs) (x ∷ xs) = ap (λ ys. iterate (f b) n (f b x) ∷ ys) (each_more f n bs xs)

pub each_later : {A B : Type 0} (f : B → A → A) (n : ℕ) (bs : List B) (xs : List A) → length bs ≡ length xs → iterate (at_each f bs) n xs ≡ at_each (λ b x. iterate (f b) n x) bs xs
each_later f zero bs xs l = each_none bs xs l
each_later f (suc n) bs xs l = each_later f n bs (at_each f bs xs) (l ∙ sym (each_length f bs xs l)) ∙ each_more f n bs xs

-- the guards
guard_kind : (g : Guard) (h e : Sym) → guard_after g (is_signal h) (collides h e) (is_signal e) ≡ guard_by (kind_of h (is_signal e)) g
guard_kind g sy.Idle e = refl
guard_kind g sy.Hi e = refl
guard_kind g sy.Lo e = refl
guard_kind g sy.Clash e = refl

pub guards_by_kind : (gs : List Guard) (hs es : List Sym) → guards_after gs hs es ≡ at_each guard_by (kinds_of hs (map is_signal es)) gs
guards_by_kind [] [] es = refl
guards_by_kind [] (h ∷ hs) [] = refl
guards_by_kind [] (h ∷ hs) (e ∷ es) = refl
guards_by_kind (g ∷ gs) [] es = refl
guards_by_kind (g ∷ gs) (h ∷ hs) [] = refl
guards_by_kind (g ∷ gs) (h ∷ hs) (e ∷ es) = ap₂ ◌∷◌ (guard_kind g h e) (guards_by_kind gs hs es)

-- what is decided for a port, and its counts
wish_text : (mode : Mode) (hears : List Sym) (q : ℕ) → (wish_of mode hears q ≡ sy.Idle) ⊎ (wish_of mode hears q ≡ sent_text mode hears)
wish_text Idle hears q = inl refl
wish_text (Repeat n i) hears q = choose (λ s. (s ≡ sy.Idle) ⊎ (s ≡ sent_text (Repeat n i) hears)) (eqb q n) sy.Idle (sent_text (Repeat n i) hears) (λ _. inl refl) (λ _. inr refl)
wish_text (Extend n i j) hears q = choose (λ s. (s ≡ sy.Idle) ⊎ (s ≡ sent_text (Extend n i j) hears)) (eqb q n) sy.Idle (sent_text (Extend n i j) hears) (λ _. inl refl) (λ _. inr refl)
wish_text (RxClash n i) hears q = choose (λ s. (s ≡ sy.Idle) ⊎ (s ≡ sent_text (RxClash n i) hears)) (eqb q n) sy.Idle (sent_text (RxClash n i) hears) (λ _. inl refl) (λ _. inr refl)
wish_text (TxClash i) hears q = inr refl
wish_text (OnePort n i) hears q = choose (λ s. (s ≡ sy.Idle) ⊎ (s ≡ sent_text (OnePort n i) hears)) (eqb q n) sy.Idle (sent_text (OnePort n i) hears) (λ _. inl refl) (λ _. inr refl)

awake_symbol : (w : Sym) (c : Count) → ((choice_awake w c).symbol ≡ sy.Idle) ⊎ ((choice_awake w c).symbol ≡ w)
awake_symbol sy.Idle c = inl refl
awake_symbol sy.Hi c = choose (λ (x : Choice). (x.symbol ≡ sy.Idle) ⊎ (x.symbol ≡ sy.Hi)) (eqb c.run jabber_limit) _ _ (λ _. inl refl) (λ _. inr refl)
awake_symbol sy.Lo c = choose (λ (x : Choice). (x.symbol ≡ sy.Idle) ⊎ (x.symbol ≡ sy.Lo)) (eqb c.run jabber_limit) _ _ (λ _. inl refl) (λ _. inr refl)
awake_symbol sy.Clash c = choose (λ (x : Choice). (x.symbol ≡ sy.Idle) ⊎ (x.symbol ≡ sy.Clash)) (eqb c.run jabber_limit) _ _ (λ _. inl refl) (λ _. inr refl)

choice_symbol : (w : Sym) (c : Count) → ((choice w c).symbol ≡ sy.Idle) ⊎ ((choice w c).symbol ≡ w)
choice_symbol w c = choose (λ (x : Choice). (x.symbol ≡ sy.Idle) ⊎ (x.symbol ≡ w)) (eqb c.rest 0) (choice_awake w c) _ (λ _. awake_symbol w c) (λ _. inl refl)

idle_or : (s t : Sym) → s ≡ sy.Idle → s ≡ cond (is_signal s) t sy.Idle
idle_or s t e = e ∙ sym (ap (λ x. cond (is_signal x) t sy.Idle) e)

text_or : (s t : Sym) → s ≡ t → s ≡ cond (is_signal s) t sy.Idle
text_or sy.Idle t e = refl
text_or sy.Hi t e = e
text_or sy.Lo t e = e
text_or sy.Clash t e = e

one_text : (w t : Sym) (c : Count) → (w ≡ sy.Idle) ⊎ (w ≡ t) → (choice w c).symbol ≡ cond (is_signal (choice w c).symbol) t sy.Idle
one_text w t c o = elim (choice_symbol w c) [
  | inl i ↦ idle_or (choice w c).symbol t i
  | inr e ↦ elim o [
    | inl i ↦ idle_or (choice w c).symbol t (e ∙ i)
    | inr f ↦ text_or (choice w c).symbol t (e ∙ f)
  ]
]

pub decides_text : (mode : Mode) (hears : List Sym) (q : ℕ) (cs : List Count)
    → map (λ c. c.symbol) (choices_from mode hears q cs) ≡ texted (map is_signal (map (λ c. c.symbol) (choices_from mode hears q cs))) (sent_text mode hears)
decides_text mode hears q [] = refl
decides_text mode hears q (c ∷ cs) = ap₂ ◌∷◌ (one_text (wish_of mode hears q) (sent_text mode hears) c (wish_text mode hears q)) (decides_text mode hears (q + 1) cs)

awake_count : (w : Sym) (c : Count) → c.rest ≡ 0 → (choice_awake w c).halted ≡ false → (choice_awake w c).count ≡ count_by (is_signal (choice_awake w c).symbol) c
awake_count sy.Idle c z h = sym (ap (λ n. cond (eqb n 0) (resting_count 0) (record { run = 0; rest = c.rest - 1; after_rest = true })) z)
awake_count sy.Hi c z h = choose (λ (x : Choice). x.halted ≡ false → x.count ≡ count_by (is_signal x.symbol) c) (eqb c.run jabber_limit) _ _ (λ _ h. absurd (cc)) (λ _ h. refl) h
awake_count sy.Lo c z h = choose (λ (x : Choice). x.halted ≡ false → x.count ≡ count_by (is_signal x.symbol) c) (eqb c.run jabber_limit) _ _ (λ _ h. absurd (cc)) (λ _ h. refl) h
awake_count sy.Clash c z h = choose (λ (x : Choice). x.halted ≡ false → x.count ≡ count_by (is_signal x.symbol) c) (eqb c.run jabber_limit) _ _ (λ _ h. absurd (cc)) (λ _ h. refl) h

none_left : (n : ℕ) → eqb n 0 ≡ true → n ≡ 0
none_left n e = grind (arith, nat_tests)

choice_count : (w : Sym) (c : Count) → (choice w c).halted ≡ false → (choice w c).count ≡ count_by (is_signal (choice w c).symbol) c
choice_count w c = choose (λ (x : Choice). x.halted ≡ false → x.count ≡ count_by (is_signal x.symbol) c) (eqb c.rest 0) (choice_awake w c) _
    (λ e. awake_count w c (none_left c.rest e))
    (λ e h. sym (ap (λ b. cond b (resting_count 0) (record { run = 0; rest = c.rest - 1; after_rest = true })) e))

pub not_one : (b : Bool) (p m : ℕ) → cond b (2 ^ p) 0 + m ≡ 0 → (b ≡ false) × (m ≡ 0)
not_one true p m e = absurd (let some = pow_pos p in omega arith)
not_one false p m e = (refl, omega arith)

counts_by_text : (mode : Mode) (hears : List Sym) (q p : ℕ) (cs : List Count) → mask_from p (map (λ c. c.halted) (choices_from mode hears q cs)) ≡ 0
    → map (λ c. c.count) (choices_from mode hears q cs) ≡ at_each count_by (map is_signal (map (λ c. c.symbol) (choices_from mode hears q cs))) cs
counts_by_text mode hears q p [] z = refl
counts_by_text mode hears q p (c ∷ cs) z =
    let o = not_one (choice (wish_of mode hears q) c).halted p _ z in
    ap₂ ◌∷◌ (choice_count (wish_of mode hears q) c o.0) (counts_by_text mode hears (q + 1) (p + 1) cs o.1)

-- the state after a steady half bit, part by part
abbrev pub steady_parts : List Sym → List Bool → List Bool → RepeaterDevice → RepeaterDevice
steady_parts hears emitting deciding r = record {
  mode = mode_on r.mode;
  guards = at_each guard_by (kinds_of hears emitting) r.guards;
  counts = at_each count_by deciding r.counts;
  line = moved_on (texted deciding (sent_text (mode_on r.mode) hears)) r.line;
}

pub steady_once : (hears : List Sym) (emitting deciding : List Bool) (r : RepeaterDevice) → IsSteadyStep hears emitting deciding r → after hears r ≡ steady_parts hears emitting deciding r
unfolding chosen
steady_once hears emitting deciding r s =
    same_state (after hears r) (steady_parts hears emitting deciding r) s.mode
    (guards_by_kind r.guards hears (emitted_by r) ∙ ap (λ bs. at_each guard_by (kinds_of hears bs) r.guards) s.emits)
    (counts_by_text (mode_next hears r) hears 0 0 r.counts s.none_halted ∙ ap (λ bs. at_each count_by bs r.counts) s.decides)
    (ap (λ xs. moved_on xs r.line) (decides_text (mode_next hears r) hears 0 r.counts ∙ ap₂ texted s.decides (ap (λ m. sent_text m hears) s.mode)))

-- the state after n steady half bits, part by part
abbrev pub steady_later : List Sym → List Bool → List Bool → ℕ → RepeaterDevice → RepeaterDevice
steady_later hears emitting deciding n r = record {
  mode = iterate mode_on n r.mode;
  guards = iterate (at_each guard_by (kinds_of hears emitting)) n r.guards;
  counts = iterate (at_each count_by deciding) n r.counts;
  line = line_later hears deciding n r.mode r.line;
}

pub steady_is : (n : ℕ) (hears : List Sym) (emitting deciding : List Bool) (r : RepeaterDevice)
    → ((k : ℕ) → k < n → IsSteadyStep hears emitting deciding (iterate (after hears) k r)) → iterate (after hears) n r ≡ steady_later hears emitting deciding n r
steady_is zero hears emitting deciding r s = refl
steady_is (suc n) hears emitting deciding r s =
    let is = steady_once hears emitting deciding r (s 0 (omega arith)) in
    steady_is n hears emitting deciding (after hears r) (λ k l. s (suc k) (omega arith)) ∙ ap (steady_later hears emitting deciding n) is
