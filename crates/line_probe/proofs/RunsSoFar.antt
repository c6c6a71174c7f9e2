-- The runs of symbols, one symbol after the other.
use Rattle.std.proofs.Common.{◌≡◌, ◌≢◌, ℕ, zero, suc, ◌+◌, ◌≤◌, List, [], ◌∷◌, ◌++◌, replicate, refl, sym, ap, ◌∙◌, arith, append_assoc}
use Rattle.manchester_line.specs.declared.Sym.{Sym}
use Rattle.line_probe.specs.Runs.{AreJoined, AreMaximal, AreRunsOf, BeginsOtherwise, symbols_of_runs}
use Rattle.line_probe.specs.declared.run.Run.{Run}

-- the last run with one symbol more
abbrev pub longer : Run → Run
longer r = record { start = r.start; count = r.count + 1; symbol = r.symbol }

joined_longer : (from : ℕ) (runs : List Run) (r : Run) → AreJoined from (runs ++ r ∷ []) → AreJoined from (runs ++ longer r ∷ [])
joined_longer from [] r h = (h.0, omega arith, tt)
joined_longer from (x ∷ xs) r h = (h.0, h.1, joined_longer (from + x.count) xs r h.2)

joined_more : (from : ℕ) (runs : List Run) (r new : Run) → new.start ≡ r.start + r.count → 1 ≤ new.count → AreJoined from (runs ++ r ∷ []) → AreJoined from ((runs ++ r ∷ []) ++ new ∷ [])
joined_more from [] r new start some h = (h.0, h.1, (omega (arith, start, h.0), some, tt))
joined_more from (x ∷ xs) r new start some h = (h.0, h.1, joined_more (from + x.count) xs r new start some h.2)

begins_longer : (s : Sym) (runs : List Run) (r : Run) → BeginsOtherwise s (runs ++ r ∷ []) → BeginsOtherwise s (runs ++ longer r ∷ [])
begins_longer s [] r h = h
begins_longer s (x ∷ xs) r h = h

maximal_longer : (runs : List Run) (r : Run) → AreMaximal (runs ++ r ∷ []) → AreMaximal (runs ++ longer r ∷ [])
maximal_longer [] r h = (tt, tt)
maximal_longer (x ∷ xs) r h = (begins_longer x.symbol xs r h.0, maximal_longer xs r h.1)

begins_more : (s : Sym) (runs : List Run) (r new : Run) → BeginsOtherwise s (runs ++ r ∷ []) → BeginsOtherwise s ((runs ++ r ∷ []) ++ new ∷ [])
begins_more s [] r new h = h
begins_more s (x ∷ xs) r new h = h

maximal_more : (runs : List Run) (r new : Run) → r.symbol ≢ new.symbol → AreMaximal (runs ++ r ∷ []) → AreMaximal ((runs ++ r ∷ []) ++ new ∷ [])
maximal_more [] r new other h = (other, (tt, tt))
maximal_more (x ∷ xs) r new other h = (begins_more x.symbol xs r new h.0, maximal_more xs r new other h.1)

replicate_more : (n : ℕ) (s : Sym) → replicate (suc n) s ++ [] ≡ (replicate n s ++ []) ++ s ∷ []
replicate_more zero s = refl
replicate_more (suc n) s = ap (λ xs. s ∷ xs) (replicate_more n s)

symbols_longer : (runs : List Run) (r : Run) → symbols_of_runs (runs ++ longer r ∷ []) ≡ symbols_of_runs (runs ++ r ∷ []) ++ r.symbol ∷ []
symbols_longer [] r =
    let plus : r.count + 1 ≡ suc r.count = omega arith in
    ap (λ n. replicate n r.symbol ++ []) plus ∙ replicate_more r.count r.symbol
symbols_longer (x ∷ xs) r =
    ap (λ ys. replicate x.count x.symbol ++ ys) (symbols_longer xs r)
    ∙ sym (append_assoc (replicate x.count x.symbol) (symbols_of_runs (xs ++ r ∷ [])) (r.symbol ∷ []))

symbols_more : (runs : List Run) (new : Run) → new.count ≡ 1 → symbols_of_runs (runs ++ new ∷ []) ≡ symbols_of_runs runs ++ new.symbol ∷ []
symbols_more [] new one = ap (λ n. replicate n new.symbol ++ []) one
symbols_more (x ∷ xs) new one =
    ap (λ ys. replicate x.count x.symbol ++ ys) (symbols_more xs new one)
    ∙ sym (append_assoc (replicate x.count x.symbol) (symbols_of_runs xs) (new.symbol ∷ []))

pub first_run : (from : ℕ) (s : Sym) → AreRunsOf from (s ∷ []) (record { start = from; count = 1; symbol = s } ∷ [])
first_run from s = record { joined = (refl, omega arith, tt); maximal = (tt, tt); symbols_are = refl }

-- one more symbol of the last run
pub run_goes_on : (from : ℕ) (symbols : List Sym) (runs : List Run) (r : Run) (s : Sym) → s ≡ r.symbol → AreRunsOf from symbols (runs ++ r ∷ [])
    → AreRunsOf from (symbols ++ s ∷ []) (runs ++ longer r ∷ [])
run_goes_on from symbols runs r s same h =
    record {
      joined = joined_longer from runs r h.joined;
      maximal = maximal_longer runs r h.maximal;
      symbols_are = symbols_longer runs r ∙ ap (λ xs. xs ++ r.symbol ∷ []) h.symbols_are ∙ ap (λ x. symbols ++ x ∷ []) (sym same);
    }

-- another symbol begins a run
pub run_begins : (from : ℕ) (symbols : List Sym) (runs : List Run) (r : Run) (s : Sym) → s ≢ r.symbol → AreRunsOf from symbols (runs ++ r ∷ [])
    → AreRunsOf from (symbols ++ s ∷ []) ((runs ++ r ∷ []) ++ record { start = r.start + r.count; count = 1; symbol = s } ∷ [])
run_begins from symbols runs r s other h =
    let new : Run = record { start = r.start + r.count; count = 1; symbol = s } in
    record {
      joined = joined_more from runs r new refl (omega arith) h.joined;
      maximal = maximal_more runs r new (λ e. other (sym e)) h.maximal;
      symbols_are = symbols_more (runs ++ r ∷ []) new refl ∙ ap (λ xs. xs ++ s ∷ []) h.symbols_are;
    }
