-- The dump as far as it is written, half bit after half bit.
use Rattle.std.proofs.Common.{◌≡◌, ℕ, suc, ◌+◌, ◌-◌, ◌<◌, Bool, true, false, cond, List, [], ◌∷◌, ◌++◌, map, filter, flat_map, codes, refl, sym, ap, subst, ◌∙◌, arith, append_assoc, append-nil}
use Rattle.std.specs.List.{list_any, range_with_len}
use Rattle.manchester_line.specs.declared.Sym.{Sym}
use Rattle.line_probe.specs.declared.run.Run.{Run}
use Rattle.wave_dump.specs.Changes.{all_values, is_changed}
use Rattle.wave_dump.specs.Dump.{dump_of_waves, first_moment, head_of_dump, told_moment}
use Rattle.wave_dump.specs.Heard.{AreTapRuns}
use Rattle.wave_dump.specs.Values.{line_of_time}
use Rattle.wave_dump.specs.Waiting.{begun_moment, begun_values, does_begin, runs_after}
use Rattle.wave_dump.proofs.Standing.{AllAgree, AllStand, all_taps, first_taps}

-- what is told of those of these half bits in which something changes
abbrev pub moments : ℕ → List (List Sym) → List ℕ → List ℕ
moments from heard ts = flat_map (told_moment from heard) (filter (λ t. list_any (is_changed from t) heard) ts)

-- the dump without its last line
abbrev pub dump_to_last : List (List ℕ) → ℕ → ℕ → List (List Sym) → List ℕ
dump_to_last names from to heard =
    head_of_dump names from to ++ first_moment from heard ++ moments from heard (range_with_len (from + 1) (to - (from + 1)))

-- the text is the dump before half bit t, and the taps stand there
pub record IsDumpedTo (names : List (List ℕ)) (from to t : ℕ) (heard : List (List Sym)) (waiting : List (List Run)) (text : List ℕ) : Type 0 where
  pub stand : AllStand from (to - from) (t - (from + 1)) heard waiting
  pub with_rest : text ++ moments from heard (range_with_len t (to - t)) ≡ dump_to_last names from to heard

one_moment : (p : ℕ → Bool) (f : ℕ → List ℕ) (t : ℕ) (ts : List ℕ) → flat_map f (filter p (t ∷ ts)) ≡ cond (p t) (f t) [] ++ flat_map f (filter p ts)
one_moment p f t ts = elim (p t) as (λ b. flat_map f (cond b (t ∷ filter p ts) (filter p ts)) ≡ cond b (f t) [] ++ flat_map f (filter p ts)) [ true ↦ refl | false ↦ refl ]

same_moment : (from n t m : ℕ) (heard : List (List Sym)) (waiting : List (List Run)) → AllAgree from n t m heard waiting
    → cond (list_any (is_changed from t) heard) (told_moment from heard t) [] ≡ begun_moment t waiting
same_moment from n t m heard waiting a =
    ap (λ b. cond b (told_moment from heard t) []) a.changes
    ∙ ap (λ xs. cond (list_any (does_begin t) waiting) (line_of_time t ++ xs) []) (a.values 0)

-- one half bit more
pub dumped_more : (names : List (List ℕ)) (from to t : ℕ) (heard : List (List Sym)) (waiting : List (List Run)) (text : List ℕ) → from < t → t < to
    → IsDumpedTo names from to t heard waiting text → IsDumpedTo names from to (t + 1) heard (map (runs_after t) waiting) (text ++ begun_moment t waiting)
dumped_more names from to t heard waiting text after before h =
    let a : AllAgree from (to - from) t (t - (from + 1)) heard waiting = all_taps from (to - from) t (t - (from + 1)) heard waiting (omega arith) (omega arith) h.stand in
    let next : suc (t - (from + 1)) ≡ t + 1 - (from + 1) = omega arith in
    let left : to - t ≡ suc (to - (t + 1)) = omega arith in
    let rest : moments from heard (range_with_len t (to - t)) ≡ begun_moment t waiting ++ moments from heard (range_with_len (t + 1) (to - (t + 1))) =
    ap (λ n. moments from heard (range_with_len t n)) left
    ∙ one_moment (λ t. list_any (is_changed from t) heard) (told_moment from heard) t (range_with_len (t + 1) (to - (t + 1)))
    ∙ ap (λ xs. xs ++ moments from heard (range_with_len (t + 1) (to - (t + 1)))) (same_moment from (to - from) t (t - (from + 1)) heard waiting a) in
    record {
      stand = subst (λ (k : ℕ). AllStand from (to - from) k heard (map (runs_after t) waiting)) next a.stand;
      with_rest = append_assoc text (begun_moment t waiting) (moments from heard (range_with_len (t + 1) (to - (t + 1))))
          ∙ sym (ap (λ xs. text ++ xs) rest) ∙ h.with_rest;
    }

-- the first half bit
pub dumped_first : (names : List (List ℕ)) (from to : ℕ) (heard : List (List Sym)) (lists : List (List Run)) (text : List ℕ) → from < to → AreTapRuns from to heard lists
    → text ≡ head_of_dump names from to ++ (line_of_time from ++ codes "$dumpvars\n" ++ begun_values from 0 lists ++ codes "$end\n")
    → IsDumpedTo names from to (from + 1) heard (map (runs_after from) lists) text
dumped_first names from to heard lists text order h is =
    let all : ((k : ℕ) → all_values from from k heard ≡ begun_values from k lists) × AllStand from (to - from) 0 heard (map (runs_after from) lists) =
    first_taps from to heard lists order h in
    let none : 0 ≡ from + 1 - (from + 1) = omega arith in
    let first : text ≡ head_of_dump names from to ++ first_moment from heard =
    is ∙ ap (λ xs. head_of_dump names from to ++ (line_of_time from ++ codes "$dumpvars\n" ++ xs ++ codes "$end\n")) (sym (all.0 0)) in
    record {
      stand = subst (λ (k : ℕ). AllStand from (to - from) k heard (map (runs_after from) lists)) none all.1;
      with_rest = ap (λ xs. xs ++ moments from heard (range_with_len (from + 1) (to - (from + 1)))) first;
    }

-- the last half bit
pub dumped_last : (names : List (List ℕ)) (from to : ℕ) (heard : List (List Sym)) (waiting : List (List Run)) (text last : List ℕ) → last ≡ text ++ line_of_time to
    → IsDumpedTo names from to to heard waiting text → last ≡ dump_of_waves names from to heard
dumped_last names from to heard waiting text last is h =
    let none : to - to ≡ 0 = omega arith in
    let whole : text ++ moments from heard (range_with_len to 0) ≡ dump_to_last names from to heard =
    subst (λ (n : ℕ). text ++ moments from heard (range_with_len to n) ≡ dump_to_last names from to heard) none h.with_rest in
    let text_is : text ≡ dump_to_last names from to heard = simp append-nil at whole in
    is ∙ ap (λ xs. xs ++ line_of_time to) text_is
