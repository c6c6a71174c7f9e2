-- The text of runs that can be heard is a text that is read back.
use Rattle.std.proofs.Common.{◌≡◌, ℕ, zero, suc, ◌+◌, ◌≤◌, List, [], ◌∷◌, length, refl, sym, ap, subst, ◌∙◌, arith, None, Some, Ok, Err, inl, inr, length-append, replicate}
use Rattle.std.specs.Prelude.{IfOk, Result, ◌⊎◌}
use Rattle.std.specs.List.{AllByRecursion}
use Rattle.mac_parameters.specs.Parameters.{most_half_bits}
use Rattle.manchester_line.specs.declared.Sym.{Sym}
use Rattle.line_probe.specs.ReadBack.{AreTold, FollowOn, AreJudgedRuns, IsTextOf, IsToldRun}
use Rattle.line_probe.specs.RunTexts.{text_of_runs}
use Rattle.line_probe.specs.Runs.{AreHeardRuns, AreJoined, AreMaximal, BeginsOtherwise, end_after_runs, symbols_of_runs}
use Rattle.line_probe.specs.declared.fault.RunsFault.{RunsFault}
use Rattle.line_probe.specs.declared.fault.RunsFault.TheVariants as fault
use Rattle.line_probe.specs.declared.run.Run.{Run}

pub replicate_length : (n : ℕ) (s : Sym) → length (replicate n s) ≡ n
replicate_length zero s = refl
replicate_length (suc n) s = ap suc (replicate_length n s)

-- the symbols of a run, and those of the others
pub symbols_count : (r : Run) (rs : List Run) → length (symbols_of_runs (r ∷ rs)) ≡ r.count + length (symbols_of_runs rs)
symbols_count r rs = length-append (replicate r.count r.symbol) (symbols_of_runs rs) ∙ ap (λ n. n + length (symbols_of_runs rs)) (replicate_length r.count r.symbol)

told_runs : (from : ℕ) (runs : List Run) → AreJoined from runs → from + length (symbols_of_runs runs) ≤ most_half_bits → AllByRecursion IsToldRun runs
told_runs from [] joined within = tt
told_runs from (r ∷ rs) joined within =
    let count = symbols_count r rs in (
      record { start = omega (arith, joined.0, within); some = joined.1; count = omega (arith, within, count) },
      told_runs (from + r.count) rs joined.2 (omega (arith, within, count)),
    )

follow_on : (before : Run) (runs : List Run) → AreJoined (before.start + before.count) runs → BeginsOtherwise before.symbol runs → AreMaximal runs → FollowOn (Some before) runs
follow_on before [] joined other maximal = tt
follow_on before (r ∷ rs) joined other maximal =
    let after : AreJoined (r.start + r.count) rs = subst (λ n. AreJoined (n + r.count) rs) (sym joined.0) joined.2 in
    (joined.0, (λ e. other (sym e)), follow_on r rs after maximal.0 maximal.1)

first_follows : (from : ℕ) (runs : List Run) → AreJoined from runs → AreMaximal runs → FollowOn None runs
first_follows from [] joined maximal = tt
first_follows from (r ∷ rs) joined maximal =
    let after : AreJoined (r.start + r.count) rs = subst (λ n. AreJoined (n + r.count) rs) (sym joined.0) joined.2 in
    (tt, tt, follow_on r rs after maximal.0 maximal.1)

pub heard_is_text : (octets : List ℕ) (runs : List Run) → AreHeardRuns runs → octets ≡ text_of_runs runs → IsTextOf octets runs
heard_is_text octets runs h e =
    let within : h.from + length (symbols_of_runs runs) ≤ most_half_bits = omega (arith, h.within, ap length h.runs_of.symbols_are) in
    record {
      told = record {
        each = told_runs h.from runs h.runs_of.joined within;
        order = first_follows h.from runs h.runs_of.joined h.runs_of.maximal;
      };
      text = e;
    }

-- where the runs that follow end
end_of_told_runs : (before : Run) (runs : List Run) → AllByRecursion IsToldRun runs → FollowOn (Some before) runs → before.start + before.count + length (symbols_of_runs runs) ≡ end_after_runs (before.start + before.count) runs
end_of_told_runs before [] each order = omega arith
end_of_told_runs before (r ∷ rs) each order = omega (arith, symbols_count r rs, end_of_told_runs r rs each.1 order.2, order.0)

joined_after : (before : Run) (runs : List Run) → AllByRecursion IsToldRun runs → FollowOn (Some before) runs → AreJoined (before.start + before.count) runs
joined_after before [] each order = tt
joined_after before (r ∷ rs) each order =
    (order.0, each.0.some, subst (λ n. AreJoined (n + r.count) rs) order.0 (joined_after r rs each.1 order.2))

maximal_after : (before : Run) (runs : List Run) → FollowOn (Some before) runs → BeginsOtherwise before.symbol runs × AreMaximal runs
maximal_after before [] order = (tt, tt)
maximal_after before (r ∷ rs) order = ((λ e. order.1 (sym e)), maximal_after r rs order.2)

-- runs that were read and end soon enough can be heard
pub read_are_heard : (runs : List Run) → AreTold runs → end_after_runs 0 runs ≤ most_half_bits → AreHeardRuns runs
read_are_heard [] told within =
    record { from = 0; symbols = []; runs_of = record { joined = tt; maximal = tt; symbols_are = refl }; within = omega arith }
read_are_heard (r ∷ rs) told within =
    record {
      from = r.start;
      symbols = symbols_of_runs (r ∷ rs);
      runs_of = record {
        joined = (refl, told.each.0.some, joined_after r rs told.each.1 told.order.2);
        maximal = maximal_after r rs told.order.2;
        symbols_are = refl;
      };
      within = omega (arith, symbols_count r rs, end_of_told_runs r rs told.each.1 told.order.2, within);
    }

-- the same of what was answered
pub answer_heard : (octets : List ℕ) (r : Result (List Run) RunsFault) → (r ≡ Err fault.OutOfMemory) ⊎ AreJudgedRuns octets r → IfOk r (λ runs. end_after_runs 0 runs ≤ most_half_bits → AreHeardRuns runs)
answer_heard octets (Ok runs) (inl memory) = cc memory
answer_heard octets (Ok runs) (inr is) = read_are_heard runs is.told
answer_heard octets (Err f) h = tt
