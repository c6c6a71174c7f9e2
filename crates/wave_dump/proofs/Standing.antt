-- Where each tap stands before a half bit: what it heard in the half bit before, for how long it goes on to hear that,
-- and the runs that follow.
use Rattle.std.proofs.Common.{◌≡◌, ◌≢◌, ℕ, zero, suc, ◌+◌, ◌-◌, ◌<◌, ◌≤◌, ◌==◌, ◌||◌, true, false, cond, List, [], ◌∷◌, ◌++◌, length, get_or, drop, map, replicate, refl, sym, ap, subst, ◌∙◌, arith, length-drop}
use Rattle.std.specs.Bool.{⊤}
use Rattle.std.proofs.lemmas.Bool.{eq-eqb, ne_eqb}
use Rattle.std.specs.List.{list_any}
use Rattle.manchester_line.specs.declared.Sym.{Sym}
use Rattle.manchester_line.specs.declared.Sym.TheVariants.{Idle, Hi, Lo, Clash}
use Rattle.line_probe.specs.Runs.{AreJoined, AreMaximal, AreRunsOf, BeginsOtherwise, symbols_of_runs}
use Rattle.line_probe.specs.declared.run.Run.{Run}
use Rattle.wave_dump.specs.Changes.{all_values, changed_values, do_differ, is_changed, symbol_in}
use Rattle.wave_dump.specs.Heard.{AreTapRuns}
use Rattle.wave_dump.specs.Values.{line_of_value}
use Rattle.wave_dump.specs.Waiting.{begun_value, begun_values, does_begin, runs_after}

-- A tap that hears these symbols from half bit `from` on heard one of them in half bit from + m, hears it in so many
-- more after that one, and then these runs follow.
pub record Stands (from m : ℕ) (symbols : List Sym) (runs : List Run) : Type 0 where
  pub symbol : Sym
  pub more : ℕ
  pub rest : drop m symbols ≡ replicate (suc more) symbol ++ symbols_of_runs runs
  pub joined : AreJoined (from + suc m + more) runs
  pub other : BeginsOtherwise symbol runs
  pub maximal : AreMaximal runs

head_at : (xs ys : List Sym) (m : ℕ) (x d : Sym) → drop m xs ≡ x ∷ ys → get_or xs m d ≡ x
head_at [] ys zero x d h = cc h
head_at [] ys (suc m) x d h = cc h
head_at (a ∷ rest) ys zero x d h = cc h
head_at (a ∷ rest) ys (suc m) x d h = head_at rest ys m x d h

tail_at : (xs ys : List Sym) (m : ℕ) (x : Sym) → drop m xs ≡ x ∷ ys → drop (suc m) xs ≡ ys
tail_at [] ys zero x h = cc h
tail_at [] ys (suc m) x h = cc h
tail_at (a ∷ rest) ys zero x h = cc h
tail_at (a ∷ rest) ys (suc m) x h = tail_at rest ys m x h

differ_not : (s : Sym) → do_differ s s ≡ false
differ_not Idle = refl
differ_not Hi = refl
differ_not Lo = refl
differ_not Clash = refl

pub differ : (a b : Sym) → a ≢ b → do_differ a b ≡ true
differ Idle Idle h = absurd (h refl)
differ Idle Hi h = refl
differ Idle Lo h = refl
differ Idle Clash h = refl
differ Hi Idle h = refl
differ Hi Hi h = absurd (h refl)
differ Hi Lo h = refl
differ Hi Clash h = refl
differ Lo Idle h = refl
differ Lo Hi h = refl
differ Lo Lo h = absurd (h refl)
differ Lo Clash h = refl
differ Clash Idle h = refl
differ Clash Hi h = refl
differ Clash Lo h = refl
differ Clash Clash h = absurd (h refl)

-- what a tap hears in half bit from + m, and whether it hears another symbol in the next one
symbol_is : (from t m : ℕ) (symbols : List Sym) (s : Sym) → t ≡ from + m → get_or symbols m Idle ≡ s → symbol_in from symbols t ≡ s
symbol_is from t m symbols s at is =
    let place : t - from ≡ m = omega arith in
    ap (λ k. get_or symbols k Idle) place ∙ is

changed_is : (from t m : ℕ) (symbols : List Sym) (a b : Sym) → t ≡ from + suc m → get_or symbols m Idle ≡ a → get_or symbols (suc m) Idle ≡ b → is_changed from t symbols ≡ do_differ a b
changed_is from t m symbols a b at before now =
    let one : symbol_in from symbols (t - 1) ≡ a = symbol_is from (t - 1) m symbols a (omega arith) before in
    let two : symbol_in from symbols t ≡ b = symbol_is from t (suc m) symbols b at now in
    ap (λ s. do_differ s (symbol_in from symbols t)) one ∙ ap (do_differ a) two

-- what is told of a tap in half bit t of what it hears is what is told of its runs, and it stands one half bit later
pub record Agrees (from t m : ℕ) (symbols : List Sym) (runs : List Run) : Type 0 where
  pub changes : is_changed from t symbols ≡ does_begin t runs
  pub value : (k : ℕ) → cond (is_changed from t symbols) (line_of_value k (symbol_in from symbols t)) [] ≡ begun_value t k runs
  pub stands : Stands from (suc m) symbols (runs_after t runs)

-- none of these runs begins before its time
not_yet : (t e : ℕ) (runs : List Run) → t < e → AreJoined e runs → does_begin t runs ≡ false
not_yet t e [] early h = refl
not_yet t e (r ∷ rs) early h = ne_eqb r.start t (λ same. absurd (omega (arith, same, h.0)))

no_value : (t k : ℕ) (runs : List Run) → does_begin t runs ≡ false → begun_value t k runs ≡ []
no_value t k [] h = refl
no_value t k (r ∷ rs) h = ap (λ b. cond b (line_of_value k r.symbol) []) h

all_left : (t : ℕ) (runs : List Run) → does_begin t runs ≡ false → runs_after t runs ≡ runs
all_left t [] h = refl
all_left t (r ∷ rs) h = ap (λ b. cond b rs (r ∷ rs)) h

-- the symbol goes on
goes_on : (from t m more : ℕ) (symbols : List Sym) (s : Sym) (runs : List Run) → t ≡ from + suc m → drop m symbols ≡ replicate (suc (suc more)) s ++ symbols_of_runs runs
    → AreJoined (from + suc m + suc more) runs → BeginsOtherwise s runs → AreMaximal runs → Agrees from t m symbols runs
goes_on from t m more symbols s runs at rest joined other maximal =
    let before : get_or symbols m Idle ≡ s = head_at symbols _ m s Idle rest in
    let later : drop (suc m) symbols ≡ replicate (suc more) s ++ symbols_of_runs runs = tail_at symbols _ m s rest in
    let now : get_or symbols (suc m) Idle ≡ s = head_at symbols _ (suc m) s Idle later in
    let same : is_changed from t symbols ≡ false = changed_is from t m symbols s s at before now ∙ differ_not s in
    let none : does_begin t runs ≡ false = not_yet t (from + suc m + suc more) runs (omega arith) joined in
    let ends : from + suc m + suc more ≡ from + suc (suc m) + more = omega arith in
    record {
      changes = same ∙ sym none;
      value = λ k. ap (λ b. cond b (line_of_value k (symbol_in from symbols t)) []) same ∙ sym (no_value t k runs none);
      stands = subst (λ (rs : List Run). Stands from (suc m) symbols rs) (sym (all_left t runs none))
          (record { symbol = s; more = more; rest = later; joined = subst (λ (e : ℕ). AreJoined e runs) ends joined; other = other; maximal = maximal });
    }

-- the first of the runs that follow begins
begins : (from t m c : ℕ) (symbols : List Sym) (s : Sym) (r : Run) (rs : List Run) → t ≡ from + suc m → drop m symbols ≡ s ∷ symbols_of_runs (r ∷ rs)
    → r.count ≡ suc c → AreJoined (from + suc m) (r ∷ rs) → BeginsOtherwise s (r ∷ rs) → AreMaximal (r ∷ rs) → Agrees from t m symbols (r ∷ rs)
begins from t m c symbols s r rs at rest count joined other maximal =
    let before : get_or symbols m Idle ≡ s = head_at symbols _ m s Idle rest in
    let later : drop (suc m) symbols ≡ replicate (suc c) r.symbol ++ symbols_of_runs rs =
    tail_at symbols _ m s rest ∙ ap (λ n. replicate n r.symbol ++ symbols_of_runs rs) count in
    let now : get_or symbols (suc m) Idle ≡ r.symbol = head_at symbols _ (suc m) r.symbol Idle later in
    let new : is_changed from t symbols ≡ true = changed_is from t m symbols s r.symbol at before now ∙ differ s r.symbol other in
    let begun : (r.start == t) ≡ true = eq-eqb r.start t (joined.0 ∙ sym at) in
    let heard : symbol_in from symbols t ≡ r.symbol = symbol_is from t (suc m) symbols r.symbol at now in
    let ends : from + suc m + r.count ≡ from + suc (suc m) + c = omega arith in
    record {
      changes = new ∙ sym begun;
      value = λ k. ap (λ b. cond b (line_of_value k (symbol_in from symbols t)) []) new ∙ ap (line_of_value k) heard
          ∙ sym (ap (λ b. cond b (line_of_value k r.symbol) []) begun);
      stands = subst (λ (xs : List Run). Stands from (suc m) symbols xs) (sym (ap (λ b. cond b rs (r ∷ rs)) begun))
          (record { symbol = r.symbol; more = c; rest = later; joined = subst (λ (e : ℕ). AreJoined e rs) ends joined.2; other = maximal.0; maximal = maximal.1 });
    }

-- a positive number has a number before it
one_less : (n : ℕ) → 1 ≤ n → n ≡ suc (n - 1)
one_less n h = omega arith

ends_here : (symbols : List Sym) (m : ℕ) → drop (suc m) symbols ≡ [] → length symbols ≤ suc m
ends_here symbols m h = omega (arith, length-drop (suc m) symbols, ap length h)

at_end : (from t m : ℕ) (symbols : List Sym) (s : Sym) (runs : List Run) → t ≡ from + suc m → suc m < length symbols → drop m symbols ≡ s ∷ symbols_of_runs runs
    → AreJoined (from + suc m) runs → BeginsOtherwise s runs → AreMaximal runs → Agrees from t m symbols runs
at_end from t m symbols s [] at within rest joined other maximal =
    let over : length symbols ≤ suc m = ends_here symbols m (tail_at symbols [] m s rest) in
    absurd (omega arith)
at_end from t m symbols s (r ∷ rs) at within rest joined other maximal =
    begins from t m (r.count - 1) symbols s r rs at rest (one_less r.count joined.1) joined other maximal

one_tap_at : (from t m more : ℕ) (symbols : List Sym) (s : Sym) (runs : List Run) → t ≡ from + suc m → suc m < length symbols → drop m symbols ≡ replicate (suc more) s ++ symbols_of_runs runs
    → AreJoined (from + suc m + more) runs → BeginsOtherwise s runs → AreMaximal runs → Agrees from t m symbols runs
one_tap_at from t m zero symbols s runs at within rest joined other maximal =
    let ends : from + suc m + 0 ≡ from + suc m = omega arith in
    at_end from t m symbols s runs at within rest (subst (λ (e : ℕ). AreJoined e runs) ends joined) other maximal
one_tap_at from t m (suc more) symbols s runs at within rest joined other maximal =
    goes_on from t m more symbols s runs at rest joined other maximal

one_tap : (from t m : ℕ) (symbols : List Sym) (runs : List Run) → t ≡ from + suc m → suc m < length symbols → Stands from m symbols runs → Agrees from t m symbols runs
one_tap from t m symbols runs at within h =
    one_tap_at from t m h.more symbols h.symbol runs at within h.rest h.joined h.other h.maximal

-- each of these taps, which hear so many symbols, stands at half bit from + m
abbrev pub AllStand : ℕ → ℕ → ℕ → List (List Sym) → List (List Run) → Type 0
AllStand from n m [] [] = ⊤
AllStand from n m (symbols ∷ heard) (runs ∷ waiting) = (length symbols ≡ n) × Stands from m symbols runs × AllStand from n m heard waiting
AllStand from n m _ _ = ⊥

-- what is told in half bit t of what all taps hear is what is told of their runs, and all stand one half bit later
pub record AllAgree (from n t m : ℕ) (heard : List (List Sym)) (waiting : List (List Run)) : Type 0 where
  pub changes : list_any (is_changed from t) heard ≡ list_any (does_begin t) waiting
  pub values : (k : ℕ) → changed_values from t k heard ≡ begun_values t k waiting
  pub stand : AllStand from n (suc m) heard (map (runs_after t) waiting)

pub all_taps : (from n t m : ℕ) (heard : List (List Sym)) (waiting : List (List Run)) → t ≡ from + suc m → suc m < n → AllStand from n m heard waiting → AllAgree from n t m heard waiting
all_taps from n t m [] [] at within h = record { changes = refl; values = λ k. refl; stand = tt }
all_taps from n t m [] (runs ∷ waiting) at within h = absurd h
all_taps from n t m (symbols ∷ heard) [] at within h = absurd h
all_taps from n t m (symbols ∷ heard) (runs ∷ waiting) at within h =
    let one : Agrees from t m symbols runs = one_tap from t m symbols runs at (omega (arith, h.0)) h.1 in
    let more : AllAgree from n t m heard waiting = all_taps from n t m heard waiting at within h.2 in
    record {
      changes = ap (λ b. b || list_any (is_changed from t) heard) one.changes ∙ ap (λ b. does_begin t runs || b) more.changes;
      values = λ k. ap (λ xs. xs ++ changed_values from t (k + 1) heard) (one.value k) ∙ ap (λ xs. begun_value t k runs ++ xs) (more.values (k + 1));
      stand = (h.0, one.stands, more.stand);
    }

-- in the first half bit the first runs begin
first_tap : (from n : ℕ) (symbols : List Sym) (runs : List Run) → 0 < n → length symbols ≡ n → AreRunsOf from symbols runs
    → ((k : ℕ) → line_of_value k (symbol_in from symbols from) ≡ begun_value from k runs) × Stands from 0 symbols (runs_after from runs)
first_tap from n symbols [] some long h = absurd (omega (arith, ap length h.symbols_are, long))
first_tap from n symbols (r ∷ rs) some long h =
    let count : r.count ≡ suc (r.count - 1) = one_less r.count h.joined.1 in
    let all : symbols ≡ replicate (suc (r.count - 1)) r.symbol ++ symbols_of_runs rs = sym h.symbols_are ∙ ap (λ n. replicate n r.symbol ++ symbols_of_runs rs) count in
    let heard : symbol_in from symbols from ≡ r.symbol = symbol_is from from 0 symbols r.symbol (omega arith) (head_at symbols _ 0 r.symbol Idle all) in
    let begun : (r.start == from) ≡ true = eq-eqb r.start from h.joined.0 in
    let ends : from + r.count ≡ from + 1 + (r.count - 1) = omega arith in (
      λ k. ap (line_of_value k) heard ∙ sym (ap (λ b. cond b (line_of_value k r.symbol) []) begun),
      subst (λ (xs : List Run). Stands from 0 symbols xs) (sym (ap (λ b. cond b rs (r ∷ rs)) begun))
          (record { symbol = r.symbol; more = r.count - 1; rest = all; joined = subst (λ (e : ℕ). AreJoined e rs) ends h.joined.2; other = h.maximal.0; maximal = h.maximal.1 }),
    )

pub first_taps : (from to : ℕ) (heard : List (List Sym)) (lists : List (List Run)) → from < to → AreTapRuns from to heard lists
    → ((k : ℕ) → all_values from from k heard ≡ begun_values from k lists) × AllStand from (to - from) 0 heard (map (runs_after from) lists)
first_taps from to [] [] order h = (λ k. refl, tt)
first_taps from to [] (runs ∷ lists) order h = absurd h
first_taps from to (symbols ∷ heard) [] order h = absurd h
first_taps from to (symbols ∷ heard) (runs ∷ lists) order h =
    let one : ((k : ℕ) → line_of_value k (symbol_in from symbols from) ≡ begun_value from k runs) × Stands from 0 symbols (runs_after from runs) =
    first_tap from (to - from) symbols runs (omega arith) h.0 h.1 in
    let more : ((k : ℕ) → all_values from from k heard ≡ begun_values from k lists) × AllStand from (to - from) 0 heard (map (runs_after from) lists) =
    first_taps from to heard lists order h.2 in
    (λ k. ap (λ xs. xs ++ all_values from from (k + 1) heard) (one.0 k) ∙ ap (λ xs. begun_value from k runs ++ xs) (more.0 (k + 1)), (h.0, one.1, more.1))
