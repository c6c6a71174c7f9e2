-- The repeaters of demo join one segment after the other to those before it: a tree.
use Rattle.std.proofs.Common.{◌≡◌, ◌≢◌, ◌⊎◌, ℕ, zero, suc, ◌+◌, ◌-◌, ◌/◌, ◌<◌, ◌≤◌, true, false, List, [], ◌∷◌, ◌++◌, map, length, get_or, inl, inr, refl, sym, ap, subst, ◌∙◌, arith}
use Rattle.std.specs.List.{range_with_len}
use Rattle.std.proofs.lemmas.Bool.{cases_lt, eq-eqb, ne_eqb}
use Rattle.std.proofs.lemmas.List.{get_or-map, length-map}
use Rattle.layout.specs.declared.edge.Edge.{Edge}
use Rattle.layout.specs.Joined.{repaint, painted, painted_all, counted_up, colours, is_joined}
use Rattle.layout.specs.Networks.{edge_at, edges_from, CloseNoLoop}
use Rattle.layout.proofs.Joins.{length-counted, counted-at}
use Rattle.demo_layout.specs.Demo.{demo_port_in, demo_port_out, demo_repeater}

-- an edge that paints one colour over by another: its ends have them
record Paints (cs : List ℕ) (e : Edge) (old new : ℕ) : Type 0 where
  pub from : get_or cs e.from 0 ≡ old
  pub to : get_or cs e.to 0 ≡ new

-- what has another colour keeps it
kept : (cs : List ℕ) (e : Edge) (old new c i : ℕ) → Paints cs e old new → i < length cs → get_or cs i 0 ≡ c → c ≢ old → get_or (painted cs e) i 0 ≡ c
kept cs e old new c i ends inside is other =
    get_or-map (repaint (get_or cs e.from 0) (get_or cs e.to 0)) cs i 0 0 inside ∙ rw (ends.from, is, ne_eqb c old other) refl

-- what has that colour changes it
changed : (cs : List ℕ) (e : Edge) (old new i : ℕ) → Paints cs e old new → i < length cs → get_or cs i 0 ≡ old → get_or (painted cs e) i 0 ≡ new
changed cs e old new i ends inside is =
    get_or-map (repaint (get_or cs e.from 0) (get_or cs e.to 0)) cs i 0 0 inside ∙ rw (ends.from, ends.to, is, eq-eqb old old refl) refl

-- of n + 1 segments and n repeaters, k repeaters have joined the first segments: these have the colour k, and the later
-- segments and repeaters have their own
record Reached (n k : ℕ) (cs : List ℕ) : Type 0 where
  pub many : length cs ≡ n + 1 + n
  pub segments : (i : ℕ) → i ≤ n → get_or cs i 0 ≡ i + (k - i)
  pub ahead : (i : ℕ) → n + k < i → i < n + 1 + n → get_or cs i 0 ≡ i

-- the next repeater's two ports
module _ (n k part row : ℕ) (cs : List ℕ) (room : k < n) (of_part : part ≡ n + 1 + k) (of_row : row ≡ k + 1) (so_far : Reached n k cs) where
  first_edge : Paints cs (edge_at part (demo_port_in row)) part k
  first_edge = record {
    from = so_far.ahead part (omega arith) (omega arith);
    to =
        let earlier : (row - 1) / 2 + (k - (row - 1) / 2) ≡ k = omega arith in
        so_far.segments ((row - 1) / 2) (omega arith) ∙ earlier;
  }

  abbrev between : List ℕ
  between = painted cs (edge_at part (demo_port_in row))

  kept_between : (c i : ℕ) → i < n + 1 + n → get_or cs i 0 ≡ c → c ≢ part → get_or between i 0 ≡ c
  kept_between c i inside is other = kept cs (edge_at part (demo_port_in row)) part k c i first_edge (omega (arith, so_far.many)) is other

  second_edge : Paints between (edge_at part (demo_port_out row)) k (k + 1)
  second_edge = record {
    from = changed cs (edge_at part (demo_port_in row)) part k part first_edge (omega (arith, so_far.many)) first_edge.from;
    to =
        let own : row + (k - row) ≡ k + 1 = omega arith in
        kept_between (k + 1) row (omega arith) (so_far.segments row (omega arith) ∙ own) (λ e. omega (arith, e));
  }

  long : length between ≡ n + 1 + n
  long = length-map cs (repaint (get_or cs part 0) (get_or cs ((row - 1) / 2) 0)) ∙ so_far.many

  segment_next : (i : ℕ) → i ≤ n → (k < i) ⊎ (i ≤ k) → get_or (painted between (edge_at part (demo_port_out row))) i 0 ≡ i + (k + 1 - i)
  segment_next i low (inr before) =
      let old : i + (k - i) ≡ k = omega arith in
      let new : k + 1 ≡ i + (k + 1 - i) = omega arith in
      changed between (edge_at part (demo_port_out row)) k (k + 1) i second_edge (omega (arith, long))
      (kept_between k i (omega arith) (so_far.segments i low ∙ old) (λ e. omega (arith, e))) ∙ new
  segment_next i low (inl later) =
      let old : i + (k - i) ≡ i = omega arith in
      let new : i ≡ i + (k + 1 - i) = omega arith in
      kept between (edge_at part (demo_port_out row)) k (k + 1) i i second_edge (omega (arith, long))
      (kept_between i i (omega arith) (so_far.segments i low ∙ old) (λ e. omega (arith, e))) (λ e. omega (arith, e)) ∙ new

  one_more : Reached n (k + 1) (painted between (edge_at part (demo_port_out row)))
  one_more = record {
    many = length-map between (repaint (get_or between part 0) (get_or between row 0)) ∙ long;
    segments = λ i low. segment_next i low (cases_lt k i);
    ahead = λ i high inside.
        kept between (edge_at part (demo_port_out row)) k (k + 1) i i second_edge (omega (arith, long))
        (kept_between i i inside (so_far.ahead i (omega arith) inside) (λ e. omega (arith, e))) (λ e. omega (arith, e));
  }

painted_last : (cs : List ℕ) (es : List Edge) (e : Edge) → painted_all cs (es ++ e ∷ []) ≡ painted (painted_all cs es) e
painted_last cs [] e = refl
painted_last cs (x ∷ es) e = painted_last (painted cs x) es e

colours_last : (parts : ℕ) (es : List Edge) (e : Edge) → colours parts (es ++ e ∷ []) ≡ painted (colours parts es) e
unfolding colours
colours_last parts es e = painted_last (counted_up parts) es e

-- ends of two colours are not joined
apart : (parts : ℕ) (es : List Edge) (cs : List ℕ) (e : Edge) (old new : ℕ) → colours parts es ≡ cs → Paints cs e old new → old ≢ new → is_joined parts es e.from e.to ≡ false
unfolding is_joined
apart parts es cs e old new are ends differ = rw (are, ends.from, ends.to) (ne_eqb old new differ)

-- the repeaters that are left
later_repeaters : (n k m parts part row : ℕ) (before : List Edge) → k + m ≡ n → part ≡ n + 1 + k → row ≡ k + 1 → Reached n k (colours parts before)
    → CloseNoLoop parts before (edges_from part (map demo_repeater (range_with_len row m))) × Reached n n (painted_all (colours parts before) (edges_from part (map demo_repeater (range_with_len row m))))
later_repeaters n k zero parts part row before all of_part of_row so_far = let e : k ≡ n = omega arith in (tt, subst (λ j. Reached n j (colours parts before)) e so_far)
later_repeaters n k (suc m) parts part row before all of_part of_row so_far =
    let first : Edge = edge_at part (demo_port_in row) in
    let second : Edge = edge_at part (demo_port_out row) in
    let cs : List ℕ = colours parts before in
    let room : k < n = omega arith in
    let after : colours parts (before ++ first ∷ []) ≡ painted cs first = colours_last parts before first in
    let after_both : colours parts ((before ++ first ∷ []) ++ second ∷ []) ≡ painted (painted cs first) second =
    colours_last parts (before ++ first ∷ []) second ∙ ap (λ xs. painted xs second) after in
    let later = later_repeaters n (k + 1) m parts (suc part) (row + 1) ((before ++ first ∷ []) ++ second ∷ []) (omega arith) (omega arith) (omega arith)
    (subst (Reached n (k + 1)) (sym after_both) (one_more n k part row cs room of_part of_row so_far)) in (
      (
        apart parts before cs first part k refl (first_edge n k part row cs room of_part of_row so_far) (λ e. omega (arith, e)),
        (apart parts (before ++ first ∷ []) (painted cs first) second k (k + 1) after (second_edge n k part row cs room of_part of_row so_far) (λ e. omega (arith, e)), later.0),
      ),
      subst (λ xs. Reached n n (painted_all xs (edges_from (suc part) (map demo_repeater (range_with_len (row + 1) m))))) after_both later.1,
    )

none_reached : (n parts : ℕ) → parts ≡ n + 1 + n → Reached n 0 (colours parts [])
unfolding colours
none_reached n parts all = record {
  many = length-counted parts ∙ all;
  segments = λ i low. let own : i ≡ i + (0 - i) = omega arith in counted-at parts i 0 (omega arith) ∙ own;
  ahead = λ i high inside. counted-at parts i 0 (omega arith);
}

pub demo_loops : (n parts part : ℕ) → parts ≡ n + 1 + n → part ≡ n + 1 → CloseNoLoop parts [] (edges_from part (map demo_repeater (range_with_len 1 n)))
demo_loops n parts part all of_part = (later_repeaters n 0 n parts part 1 [] (omega arith) (omega arith) refl (none_reached n parts all)).0

pub demo_joined : (n parts part s : ℕ) → parts ≡ n + 1 + n → part ≡ n + 1 → s ≤ n → is_joined parts (edges_from part (map demo_repeater (range_with_len 1 n))) 0 s ≡ true
unfolding is_joined colours
demo_joined n parts part s all of_part low =
    let last = (later_repeaters n 0 n parts part 1 [] (omega arith) (omega arith) refl (none_reached n parts all)).1 in
    eq-eqb _ _ (omega (arith, last.segments 0 (omega arith), last.segments s low))
