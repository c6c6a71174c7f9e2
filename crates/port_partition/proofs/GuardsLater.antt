-- A guard after half bits alike, in a form that needs no iteration, and the exact number of them before something
-- happens.
use Rattle.std.proofs.Common.{◌≡◌, ◌≢◌, ℕ, zero, suc, ◌+◌, ◌-◌, ◌<◌, ◌≤◌, min, Bool, true, false, cond, eqb, leb, ◌||◌, refl, sym, ◌∙◌, arith}
use Rattle.std.proofs.lemmas.Bool.Decides.{nat_tests}
use Rattle.mac_parameters.specs.Parameters.{partition_in_a_row, partition_collision, reconnection}
use Rattle.port_partition.specs.declared.guard.GuardEvent.TheVariants as event
use Rattle.port_partition.specs.Guard.{Guard, IsGuard, guard_after, event_of, row_with}
use Rattle.port_partition.specs.Alike.{guard_later, HasNoEvent, forever, guard_calm}

-- a guard after n half bits alike, at least one, in which nothing happens
abbrev pub grown : Bool → Bool → Bool → ℕ → Guard → Guard
grown hears true emits n g = record { closed = g.closed; mend = false; struck = true; in_row = row_with g; clash_run = min (g.clash_run + n) partition_collision; clean_run = 0 }
grown hears false emits n g =
    cond (hears || emits)
    (cond (leb reconnection (g.clean_run + n))
    (record { closed = g.closed; mend = g.closed; struck = g.struck; in_row = 0; clash_run = 0; clean_run = reconnection })
    (record { closed = g.closed; mend = g.mend; struck = g.struck; in_row = g.in_row; clash_run = 0; clean_run = g.clean_run + n }))
    (record { closed = g.closed; mend = g.mend; struck = false; in_row = g.in_row; clash_run = 0; clean_run = 0 })

pub guard_kept : (hears clash emits : Bool) (g : Guard) → IsGuard g → IsGuard (guard_after g hears clash emits)
guard_kept hears clash emits g h = record { row_at_most = row; clash_at_most = collided; clean_at_most = clean; mend_if_closed = mend }
  where
    row : (guard_after g hears clash emits).in_row ≤ partition_in_a_row
    row = let a = h.row_at_most in grind (arith, nat_tests)

    collided : (guard_after g hears clash emits).clash_run ≤ partition_collision
    collided = let a = h.clash_at_most in grind (arith, nat_tests)

    clean : (guard_after g hears clash emits).clean_run ≤ reconnection
    clean = let a = h.clean_at_most in grind (arith, nat_tests)

    mend : (guard_after g hears clash emits).mend ≡ true → (guard_after g hears clash emits).closed ≡ true
    mend = λ m. let a = h.mend_if_closed in grind (arith, nat_tests)

grown_once : (hears clash emits : Bool) (g : Guard) → (clash ≡ true → hears ≡ true) → IsGuard g → event_of g hears clash ≡ event.None → guard_after g hears clash emits ≡ grown hears clash emits 1 g
grown_once hears clash emits g p h e = let a = h.clean_at_most in grind (arith, nat_tests)

grown_more : (hears clash emits : Bool) (n : ℕ) (g : Guard) → 0 < n → (clash ≡ true → hears ≡ true) → IsGuard g → event_of g hears clash ≡ event.None → grown hears clash emits n (guard_after g hears clash emits) ≡ grown hears clash emits (suc n) g
grown_more hears clash emits n g l p h e = let a = h.clean_at_most in grind (arith, nat_tests)

pub later_is : (hears clash emits : Bool) (n : ℕ) (g : Guard) → 0 < n → (clash ≡ true → hears ≡ true) → IsGuard g → HasNoEvent hears clash emits n g → guard_later hears clash emits n g ≡ grown hears clash emits n g
later_is hears clash emits zero g l p h e = absurd (omega arith)
later_is hears clash emits (suc zero) g l p h e = grown_once hears clash emits g p h (e 0 (omega arith))
later_is hears clash emits (suc (suc n)) g l p h e =
    later_is hears clash emits (suc n) (guard_after g hears clash emits) (omega arith) p (guard_kept hears clash emits g h) (λ k m. e (suc k) (omega arith))
    ∙ grown_more hears clash emits (suc n) g (omega arith) p h (e 0 (omega arith))

-- one half bit less, where the number is not for good
abbrev pub less : ℕ → ℕ
less a = cond (eqb a forever) forever (a - 1)

none_at : (hears clash emits : Bool) (g : Guard) → (clash ≡ true → hears ≡ true) → IsGuard g → 0 < guard_calm hears clash emits g → event_of g hears clash ≡ event.None
none_at hears clash emits g p h l = grind (arith, nat_tests)

some_at : (hears clash emits : Bool) (g : Guard) → (clash ≡ true → hears ≡ true) → IsGuard g → guard_calm hears clash emits g ≡ 0 → event_of g hears clash ≢ event.None
some_at hears clash emits g p h z e = grind (arith, nat_tests)

falls_clash : (emits : Bool) (g : Guard) → IsGuard g → 0 < guard_calm true true emits g → guard_calm true true emits (guard_after g true true emits) ≡ less (guard_calm true true emits g)
falls_clash emits g h l = grind (arith, nat_tests)

falls_hears : (emits : Bool) (g : Guard) → IsGuard g → guard_calm true false emits (guard_after g true false emits) ≡ less (guard_calm true false emits g)
falls_hears emits g h = grind (arith, nat_tests)

falls_emits : (g : Guard) → IsGuard g → 0 < guard_calm false false true g → guard_calm false false true (guard_after g false false true) ≡ less (guard_calm false false true g)
falls_emits g h l = let a = h.clean_at_most in grind (arith, nat_tests)

falls_idle : (g : Guard) → IsGuard g → 0 < guard_calm false false false g → guard_calm false false false (guard_after g false false false) ≡ less (guard_calm false false false g)
falls_idle g h l = grind (arith, nat_tests)

falls : (hears clash emits : Bool) (g : Guard) → (clash ≡ true → hears ≡ true) → IsGuard g → 0 < guard_calm hears clash emits g → guard_calm hears clash emits (guard_after g hears clash emits) ≡ less (guard_calm hears clash emits g)
falls true true emits g p h l = falls_clash emits g h l
falls false true emits g p h l = absurd (let no : false ≡ true = p refl in cc)
falls true false emits g p h l = falls_hears emits g h
falls false false true g p h l = falls_emits g h l
falls false false false g p h l = falls_idle g h l

less_more : (n a : ℕ) → suc n ≤ a → a ≤ forever → n ≤ less a
less_more n a l m = grind (arith, nat_tests)

less_is : (n a : ℕ) → a ≡ suc n → a < forever → n ≡ less a
less_is n a e l = grind (arith, nat_tests)

calm_most : (hears clash emits : Bool) (g : Guard) → guard_calm hears clash emits g ≤ forever
calm_most hears clash emits g = grind (arith, nat_tests)

-- nothing happens in so many half bits alike
pub none_before : (k : ℕ) (hears clash emits : Bool) (g : Guard) → (clash ≡ true → hears ≡ true) → IsGuard g → k < guard_calm hears clash emits g → event_of (guard_later hears clash emits k g) hears clash ≡ event.None
none_before zero hears clash emits g p h l = none_at hears clash emits g p h l
none_before (suc k) hears clash emits g p h l =
    let more : suc k ≤ less (guard_calm hears clash emits g) = less_more (suc k) (guard_calm hears clash emits g) (omega arith) (calm_most hears clash emits g) in
    let f = falls hears clash emits g p h (omega arith) in
    none_before k hears clash emits (guard_after g hears clash emits) p (guard_kept hears clash emits g h) (omega arith)

-- and in the next something does
pub some_then : (n : ℕ) (hears clash emits : Bool) (g : Guard) → (clash ≡ true → hears ≡ true) → IsGuard g → guard_calm hears clash emits g ≡ n → n < forever → event_of (guard_later hears clash emits n g) hears clash ≢ event.None
some_then zero hears clash emits g p h e l = some_at hears clash emits g p h e
some_then (suc n) hears clash emits g p h e l =
    let few : n ≡ less (guard_calm hears clash emits g) = less_is n (guard_calm hears clash emits g) e (omega arith) in
    let f = falls hears clash emits g p h (omega arith) in
    some_then n hears clash emits (guard_after g hears clash emits) p (guard_kept hears clash emits g h) (f ∙ sym few) (omega arith)
