-- A mode sends to all ports but the one that it repeats, and what it wishes for them is a signal and no clash.
use Rattle.std.proofs.Common.{◌≡◌, ◌≢◌, ℕ, zero, suc, ◌+◌, ◌<◌, Bool, true, false, not, cond, ltb, eqb, ◌&&◌, List, [], ◌∷◌, length, get_or, refl, sym, ap, subst, ◌∙◌, arith}
use Rattle.std.proofs.lemmas.Bool.Decides.{nat_tests}
use Rattle.mac_parameters.specs.Parameters.{fragment_extension, preamble_length}
use Rattle.manchester_line.specs.declared.Sym.{Sym}
use Rattle.manchester_line.specs.declared.Sym.TheVariants as sy
use Rattle.manchester_line.specs.Line.{jam_at, preamble_at, is_signal}
use Rattle.manchester_line.proofs.Levels.{IsLevel, high, low, jam_level, half_level}
use Rattle.port_partition.specs.Guard.{Guard}
use Rattle.repeater_core.specs.declared.modes.Mode.{Mode}
use Rattle.repeater_core.specs.declared.modes.Mode.TheVariants.{Idle, Repeat, Extend, RxClash, TxClash, OnePort}
use Rattle.repeater_core.specs.declared.modes.Activity.{Activity}
use Rattle.repeater_core.specs.declared.modes.Activity.TheVariants.{Nobody, One, Several}
use Rattle.repeater_core.specs.Modes.{joined, activity_from, mode_after, next_count, begun, repeated, wish_of}
use Rattle.repeater_core.specs.Laws.{SendsNothing}

pub choose : {A : Type 0} (P : A → Type 0) (b : Bool) (x y : A) → (b ≡ true → P x) → (b ≡ false → P y) → P (cond b x y)
choose P true x y f g = f refl
choose P false x y f g = g refl

pub carrier : (s : Sym) → s ≢ sy.Idle → is_signal s ≡ true
carrier sy.Idle h = absurd (h refl)
carrier sy.Hi h = refl
carrier sy.Lo h = refl
carrier sy.Clash h = refl

busy_is : (s : Sym) → is_signal s ≡ true → s ≢ sy.Idle
busy_is sy.Idle h = λ _. absurd (cc)
busy_is sy.Hi h = high.0
busy_is sy.Lo h = low.0
busy_is sy.Clash h = λ e. cc

-- the port that alone is active hears the signal that the activity names; ports are counted from k on
abbrev pub HearsAs : List Sym → ℕ → Activity → Type 0
HearsAs ss k Nobody = Unit {0}
HearsAs ss k (One n s) = (p : ℕ) × (n ≡ k + p) × (get_or ss p sy.Idle ≡ s) × (s ≢ sy.Idle)
HearsAs ss k Several = Unit {0}

hears_later : (s : Sym) (ss : List Sym) (k : ℕ) (a : Activity) → HearsAs ss (k + 1) a → HearsAs (s ∷ ss) k a
hears_later s ss k Nobody h = tt
hears_later s ss k (One n x) h = (suc h.0, (let e : n ≡ k + 1 + h.0 = h.1 in omega arith), h.2, h.3)
hears_later s ss k Several h = tt

hears_here : (s : Sym) (ss : List Sym) (k : ℕ) (a : Activity) → is_signal s ≡ true → HearsAs (s ∷ ss) k (joined (One k s) a)
hears_here s ss k Nobody h = (0, omega arith, refl, busy_is s h)
hears_here s ss k (One m x) h = tt
hears_here s ss k Several h = tt

both : (a b : Bool) → a && b ≡ true → b ≡ true
both true b e = e
both false b e = absurd (cc)

pub hears_as : (k : ℕ) (gs : List Guard) (ss : List Sym) → HearsAs ss k (activity_from k gs ss)
hears_as k [] ss = tt
hears_as k (g ∷ gs) [] = tt
hears_as k (g ∷ gs) (s ∷ ss) =
    choose (λ a. HearsAs (s ∷ ss) k (joined a (activity_from (k + 1) gs ss))) (not g.closed && is_signal s) (One k s) Nobody
    (λ e. hears_here s ss k (activity_from (k + 1) gs ss) (both (not g.closed) (is_signal s) e))
    (λ _. hears_later s ss k (activity_from (k + 1) gs ss) (hears_as (k + 1) gs ss))

-- what a mode repeats is a signal, and no clash
abbrev pub IsRepeatable : List Sym → Mode → Type 0
IsRepeatable ss (Repeat n i) = IsLevel (get_or ss n sy.Idle)
IsRepeatable ss _ = Unit {0}

level_heard : (ss : List Sym) (n : ℕ) (s : Sym) → HearsAs ss 0 (One n s) → s ≢ sy.Clash → IsLevel (get_or ss n sy.Idle)
level_heard ss n s h c =
    let same : n ≡ h.0 = (let e : n ≡ 0 + h.0 = h.1 in omega arith) in
    let is : get_or ss n sy.Idle ≡ s = ap (λ m. get_or ss m sy.Idle) same ∙ h.2 in
    (λ e. h.3 (sym is ∙ e), λ e. c (sym is ∙ e))

begun_repeatable : (ss : List Sym) (n : ℕ) (s : Sym) → HearsAs ss 0 (One n s) → IsRepeatable ss (begun n s)
begun_repeatable ss n sy.Idle h = level_heard ss n sy.Idle h (λ e. cc)
begun_repeatable ss n sy.Hi h = level_heard ss n sy.Hi h high.1
begun_repeatable ss n sy.Lo h = level_heard ss n sy.Lo h low.1
begun_repeatable ss n sy.Clash h = tt

repeated_repeatable : (ss : List Sym) (n i : ℕ) (s : Sym) → HearsAs ss 0 (One n s) → IsRepeatable ss (repeated n i s)
repeated_repeatable ss n i sy.Idle h = level_heard ss n sy.Idle h (λ e. cc)
repeated_repeatable ss n i sy.Hi h = level_heard ss n sy.Hi h high.1
repeated_repeatable ss n i sy.Lo h = level_heard ss n sy.Lo h low.1
repeated_repeatable ss n i sy.Clash h = tt

pub same : (m n : ℕ) → eqb m n ≡ true → n ≡ m
same m n e = grind (arith, nat_tests)

one_repeatable : (ss : List Sym) (mode : Mode) (m : ℕ) (s : Sym) → HearsAs ss 0 (One m s) → IsRepeatable ss (mode_after mode (One m s))
one_repeatable ss Idle m s h = begun_repeatable ss m s h
one_repeatable ss (Repeat n i) m s h =
    choose (IsRepeatable ss) (eqb m n) (repeated n i s) (TxClash 0)
    (λ e. subst (λ x. IsRepeatable ss (repeated x i s)) (sym (same m n e)) (repeated_repeatable ss m i s h)) (λ _. tt)
one_repeatable ss (Extend n i j) m s h = choose (IsRepeatable ss) (eqb m n) (RxClash n 0) (TxClash 0) (λ _. tt) (λ _. tt)
one_repeatable ss (RxClash n i) m s h = choose (IsRepeatable ss) (eqb m n) (RxClash n (next_count i)) (TxClash 0) (λ _. tt) (λ _. tt)
one_repeatable ss (TxClash i) m s h = choose (IsRepeatable ss) (ltb (next_count i) fragment_extension) (TxClash (next_count i)) (OnePort m 0) (λ _. tt) (λ _. tt)
one_repeatable ss (OnePort n i) m s h = choose (IsRepeatable ss) (eqb m n) (OnePort n (next_count i)) (TxClash 0) (λ _. tt) (λ _. tt)

pub repeatable : (ss : List Sym) (mode : Mode) (a : Activity) → HearsAs ss 0 a → IsRepeatable ss (mode_after mode a)
repeatable ss Idle Nobody h = tt
repeatable ss (Repeat n i) Nobody h = choose (IsRepeatable ss) (ltb (next_count i) fragment_extension) (Extend n (next_count i) 0) Idle (λ _. tt) (λ _. tt)
repeatable ss (Extend n i j) Nobody h = choose (IsRepeatable ss) (ltb (next_count i) fragment_extension) (Extend n (next_count i) (j + 1)) Idle (λ _. tt) (λ _. tt)
repeatable ss (RxClash n i) Nobody h = choose (IsRepeatable ss) (ltb (next_count i) fragment_extension) (RxClash n (next_count i)) Idle (λ _. tt) (λ _. tt)
repeatable ss (TxClash i) Nobody h = choose (IsRepeatable ss) (ltb (next_count i) fragment_extension) (TxClash (next_count i)) Idle (λ _. tt) (λ _. tt)
repeatable ss (OnePort n i) Nobody h = tt
repeatable ss mode (One m s) h = one_repeatable ss mode m s h
repeatable ss Idle Several h = tt
repeatable ss (Repeat n i) Several h = tt
repeatable ss (Extend n i j) Several h = tt
repeatable ss (RxClash n i) Several h = tt
repeatable ss (TxClash i) Several h = tt
repeatable ss (OnePort n i) Several h = tt

-- a wish is none exactly where the mode sends nothing, and no clash
pub record IsWishFor (mode : Mode) (q : ℕ) (s : Sym) : Type 0 where
  pub no_clash : s ≢ sy.Clash
  pub nothing : s ≡ sy.Idle → SendsNothing mode q
  pub something : s ≢ sy.Idle → ¬ SendsNothing mode q

idle_wish : (mode : Mode) (q : ℕ) → SendsNothing mode q → IsWishFor mode q sy.Idle
idle_wish mode q h = record { no_clash = λ e. cc; nothing = λ _. h; something = λ f. absurd (f refl) }

level_wish : (mode : Mode) (q : ℕ) (s : Sym) → IsLevel s → ¬ SendsNothing mode q → IsWishFor mode q s
level_wish mode q s l h = record { no_clash = l.1; nothing = λ e. absurd (l.0 e); something = λ _. h }

other : (q n : ℕ) → eqb q n ≡ false → ¬ (q ≡ n)
other q n e = grind (arith, nat_tests)

pub wish_is : (ss : List Sym) (mode : Mode) (q : ℕ) → IsRepeatable ss mode → IsWishFor mode q (wish_of mode ss q)
wish_is ss Idle q h = idle_wish Idle q tt
wish_is ss (Repeat n i) q h =
    choose (IsWishFor (Repeat n i) q) (eqb q n) sy.Idle (cond (ltb i preamble_length) (preamble_at i) (get_or ss n sy.Idle))
    (λ e. idle_wish (Repeat n i) q (sym (same q n e)))
    (λ e. level_wish (Repeat n i) q (cond (ltb i preamble_length) (preamble_at i) (get_or ss n sy.Idle)) (choose IsLevel (ltb i preamble_length) (preamble_at i) (get_or ss n sy.Idle) (λ _. half_level _ _) (λ _. h)) (other q n e))
wish_is ss (Extend n i j) q h =
    choose (IsWishFor (Extend n i j) q) (eqb q n) sy.Idle (jam_at j) (λ e. idle_wish (Extend n i j) q (sym (same q n e))) (λ e. level_wish (Extend n i j) q (jam_at j) (jam_level j) (other q n e))
wish_is ss (RxClash n i) q h =
    choose (IsWishFor (RxClash n i) q) (eqb q n) sy.Idle (jam_at i) (λ e. idle_wish (RxClash n i) q (sym (same q n e))) (λ e. level_wish (RxClash n i) q (jam_at i) (jam_level i) (other q n e))
wish_is ss (TxClash i) q h = level_wish (TxClash i) q (jam_at i) (jam_level i) (λ n. n)
wish_is ss (OnePort n i) q h =
    choose (IsWishFor (OnePort n i) q) (eqb q n) sy.Idle (jam_at i) (λ e. idle_wish (OnePort n i) q (sym (same q n e))) (λ e. level_wish (OnePort n i) q (jam_at i) (jam_level i) (other q n e))

-- port n is active
abbrev pub Has : ℕ → Activity → Type 0
Has n Nobody = ⊥
Has n (One m x) = m ≡ n
Has n Several = Unit {0}

has_first : (k : ℕ) (s : Sym) (a : Activity) → Has k (joined (One k s) a)
has_first k s Nobody = refl
has_first k s (One m x) = tt
has_first k s Several = tt

has_later : (n k : ℕ) (x : Sym) (a : Activity) → Has n a → Has n (joined (One k x) a)
has_later n k x Nobody h = absurd h
has_later n k x (One m y) h = tt
has_later n k x Several h = tt

not_closed : (b : Bool) → b ≡ false → not b ≡ true
not_closed true e = absurd (cc)
not_closed false e = refl

and_true : {a b : Bool} → a ≡ true → b ≡ true → a && b ≡ true
and_true e f = cc

-- an open port that hears a signal is active
pub active : (k : ℕ) (gs : List Guard) (ss : List Sym) (p : ℕ) (g : Guard) → p < length gs → p < length ss → (get_or gs p g).closed ≡ false → get_or ss p sy.Idle ≢ sy.Idle → Has (k + p) (activity_from k gs ss)
active k [] ss p g l m o h = absurd (omega arith)
active k (x ∷ gs) [] p g l m o h = absurd (omega arith)
active k (x ∷ gs) (s ∷ ss) zero g l m o h =
    choose (λ a. Has (k + 0) (joined a (activity_from (k + 1) gs ss))) (not x.closed && is_signal s) (One k s) Nobody
    (λ _. subst (λ n. Has n (joined (One k s) (activity_from (k + 1) gs ss))) {x = k} {y = k + 0} (omega arith) (has_first k s (activity_from (k + 1) gs ss)))
    (λ e. absurd (let no : true ≡ false = sym (and_true (not_closed x.closed o) (carrier s h)) ∙ e in cc))
active k (x ∷ gs) (s ∷ ss) (suc p) g l m o h =
    let later = active (k + 1) gs ss p g (omega arith) (omega arith) o h in
    let here : Has (k + suc p) (activity_from (k + 1) gs ss) = subst (λ n. Has n (activity_from (k + 1) gs ss)) {x = k + 1 + p} {y = k + suc p} (omega arith) later in
    choose (λ a. Has (k + suc p) (joined a (activity_from (k + 1) gs ss))) (not x.closed && is_signal s) (One k s) Nobody
    (λ _. has_later (k + suc p) k s (activity_from (k + 1) gs ss) here)
    (λ _. here)

-- a mode that sends to every port but p
abbrev pub SendsFrom : ℕ → Mode → Type 0
SendsFrom p Idle = ⊥
SendsFrom p (Repeat n i) = n ≡ p
SendsFrom p (Extend n i j) = n ≡ p
SendsFrom p (RxClash n i) = n ≡ p
SendsFrom p (TxClash i) = Unit {0}
SendsFrom p (OnePort n i) = n ≡ p

begun_sends : (n : ℕ) (s : Sym) → SendsFrom n (begun n s)
begun_sends n sy.Idle = refl
begun_sends n sy.Hi = refl
begun_sends n sy.Lo = refl
begun_sends n sy.Clash = refl

repeated_sends : (n i : ℕ) (s : Sym) → SendsFrom n (repeated n i s)
repeated_sends n i sy.Idle = refl
repeated_sends n i sy.Hi = refl
repeated_sends n i sy.Lo = refl
repeated_sends n i sy.Clash = refl

mode_one : (mode : Mode) (m : ℕ) (s : Sym) → SendsFrom m (mode_after mode (One m s))
mode_one Idle m s = begun_sends m s
mode_one (Repeat n i) m s = choose (SendsFrom m) (eqb m n) (repeated n i s) (TxClash 0) (λ e. subst (λ x. SendsFrom x (repeated n i s)) (same m n e) (repeated_sends n i s)) (λ _. tt)
mode_one (Extend n i j) m s = choose (SendsFrom m) (eqb m n) (RxClash n 0) (TxClash 0) (λ e. same m n e) (λ _. tt)
mode_one (RxClash n i) m s = choose (SendsFrom m) (eqb m n) (RxClash n (next_count i)) (TxClash 0) (λ e. same m n e) (λ _. tt)
mode_one (TxClash i) m s = choose (SendsFrom m) (ltb (next_count i) fragment_extension) (TxClash (next_count i)) (OnePort m 0) (λ _. tt) (λ _. refl)
mode_one (OnePort n i) m s = choose (SendsFrom m) (eqb m n) (OnePort n (next_count i)) (TxClash 0) (λ e. same m n e) (λ _. tt)

pub mode_sends : (mode : Mode) (p : ℕ) (a : Activity) → Has p a → SendsFrom p (mode_after mode a)
mode_sends mode p Nobody h = absurd h
mode_sends mode p (One m x) h = subst (λ n. SendsFrom n (mode_after mode (One m x))) h (mode_one mode m x)
mode_sends Idle p Several h = tt
mode_sends (Repeat n i) p Several h = tt
mode_sends (Extend n i j) p Several h = tt
mode_sends (RxClash n i) p Several h = tt
mode_sends (TxClash i) p Several h = tt
mode_sends (OnePort n i) p Several h = tt

pub sends_to_others : (mode : Mode) (p q : ℕ) → SendsFrom p mode → p ≢ q → ¬ SendsNothing mode q
sends_to_others Idle p q f d = λ _. f
sends_to_others (Repeat n i) p q f d = λ e. d (sym f ∙ sym e)
sends_to_others (Extend n i j) p q f d = λ e. d (sym f ∙ sym e)
sends_to_others (RxClash n i) p q f d = λ e. d (sym f ∙ sym e)
sends_to_others (TxClash i) p q f d = λ e. e
sends_to_others (OnePort n i) p q f d = λ e. d (sym f ∙ sym e)
