-- Entries, spread over rows and captures, and put together again.
use Rattle.std.proofs.Common.{◌≡◌, ◌≢◌, ℕ, zero, suc, ◌+◌, ◌<◌, ◌==◌, true, false, List, [], ◌∷◌, map, Option, Some, refl, sym, ap, ◌∙◌, arith, inl, inr}
use Rattle.std.specs.Prelude.{slice_get, slice_set}
use Rattle.std.specs.List.{range_with_len}
use Rattle.std.proofs.lemmas.Bool.{cases_Bool, ne_eqb}
use Rattle.std.proofs.lemmas.Bool.Decides.{Decides-eqb}
use Rattle.collision_log.specs.declared.row.Row.{Row}
use Rattle.network.specs.declared.outputs.Taken.{Taken}
use Rattle.run_checkpoint.specs.Entries.{StateRow, after_first, captures_of_entries, entries_of, first_octets, is_reception, rows_of_entries, taken_by_station}

-- the frame of an entry
abbrev pub frame_of : StateRow → Taken
frame_of e = record { t = e.row.t; octets = e.octets }

pub same_eqb : (k : ℕ) → (k == k) ≡ true
same_eqb k = (Decides-eqb k k).1 refl

-- what its own station received
pub own_frame : (e : StateRow) (es : List StateRow) → is_reception e.row.body ≡ true → taken_by_station e.row.device (e ∷ es) ≡ frame_of e ∷ taken_by_station e.row.device es
own_frame e es came = rw (came, same_eqb e.row.device) refl

pub other_frame : (k : ℕ) (e : StateRow) (es : List StateRow) → e.row.device ≢ k → taken_by_station k (e ∷ es) ≡ taken_by_station k es
other_frame k e es apart =
    elim (cases_Bool (is_reception e.row.body)) [
      | inl came ↦ rw (came, ne_eqb e.row.device k apart) refl
      | inr other ↦ rw other refl
    ]

pub no_frame : (k : ℕ) (e : StateRow) (es : List StateRow) → is_reception e.row.body ≡ false → taken_by_station k (e ∷ es) ≡ taken_by_station k es
no_frame k e es other = rw other refl

-- values over a range are the same
pub same_values : {X : Type 0} (f g : ℕ → X) (a n : ℕ) → ((k : ℕ) → f k ≡ g k) → map f (range_with_len a n) ≡ map g (range_with_len a n)
same_values f g a zero same = refl
same_values f g a (suc n) same = rw (same a, same_values f g (a + 1) n same) refl

-- one value over a range is set
pub value_set : {X : Type 0} (f g : ℕ → X) (a n j : ℕ) → ((k : ℕ) → a + j ≢ k → f k ≡ g k) → slice_set (map f (range_with_len a n)) j (g (a + j)) ≡ map g (range_with_len a n)
value_set f g a zero j same = refl
value_set f g a (suc n) zero same =
    let e : a + 0 ≡ a = omega arith in
    rw (e, later (a + 1) n (omega arith)) refl
  where
    later : (b m : ℕ) → a < b → map f (range_with_len b m) ≡ map g (range_with_len b m)
    later b zero lt = refl
    later b (suc m) lt = rw (same b (λ e. omega (arith, lt, e)), later (b + 1) m (omega (arith, lt))) refl
value_set f g a (suc n) (suc j) same =
    let e : a + suc j ≡ (a + 1) + j = omega arith in
    rw (same a (λ x. omega (arith, x)), e) (ap (λ (xs : List _). g a ∷ xs) (value_set f g (a + 1) n j (λ k apart. same k (λ x. apart (sym e ∙ x)))))

-- the value at a place of a range
pub value_at : {X : Type 0} (f : ℕ → X) (a n j : ℕ) → j < n → slice_get (map f (range_with_len a n)) j ≡ Some (f (a + j))
value_at f a zero j lt = absurd (omega (arith, lt))
value_at f a (suc n) zero lt = let e : a + 0 ≡ a = omega arith in rw e refl
value_at f a (suc n) (suc j) lt = let e : a + suc j ≡ (a + 1) + j = omega arith in rw e (value_at f (a + 1) n j (omega (arith, lt)))

pub value_in : {X : Type 0} (f : ℕ → X) (n j : ℕ) → j < n → slice_get (map f (range_with_len 0 n)) j ≡ Some (f j)
value_in f n j lt = let z : 0 + j ≡ j = omega arith in value_at f 0 n j lt ∙ ap (λ (i : ℕ). Some (f i)) z

pub set_in : {X : Type 0} (f g : ℕ → X) (n j : ℕ) → ((k : ℕ) → j ≢ k → f k ≡ g k) → slice_set (map f (range_with_len 0 n)) j (g j) ≡ map g (range_with_len 0 n)
set_in f g n j same =
    let z : j ≡ 0 + j = omega arith in
    ap (λ (i : ℕ). slice_set (map f (range_with_len 0 n)) j (g i)) z ∙ value_set f g 0 n j (λ k apart. same k (λ e. apart (sym z ∙ e)))

-- a frame was received by one of so many stations, and no octets came with another row
pub record IsWholeEntry (stations : ℕ) (e : StateRow) : Type 0 where
  pub station : is_reception e.row.body ≡ true → e.row.device < stations
  pub octets : is_reception e.row.body ≡ false → e.octets ≡ []

abbrev pub AreWholeEntries : ℕ → List StateRow → Type 0
AreWholeEntries stations [] = Unit {0}
AreWholeEntries stations (e ∷ es) = IsWholeEntry stations e × AreWholeEntries stations es

abbrev entry_with : Row → List ℕ → StateRow
entry_with row octets = record { row = row; octets = octets }

came_first : (row : Row) (rows : List Row) (w : List (List Taken)) → is_reception row.body ≡ true
    → entries_of (row ∷ rows) w ≡ record { row = row; octets = first_octets (slice_get w row.device) } ∷ entries_of rows (slice_set w row.device (after_first (slice_get w row.device)))
came_first row rows w came = rw came refl

bare_first : (row : Row) (rows : List Row) (w : List (List Taken)) → is_reception row.body ≡ false → entries_of (row ∷ rows) w ≡ record { row = row; octets = [] } ∷ entries_of rows w
bare_first row rows w bare = rw bare refl

-- entries are put together again
pub entries_together : (stations : ℕ) (es : List StateRow) → AreWholeEntries stations es → entries_of (rows_of_entries es) (captures_of_entries stations es) ≡ es
entries_together stations [] whole = refl
entries_together stations (e ∷ es) whole =
    let d = e.row.device in
    let w = captures_of_entries stations (e ∷ es) in
    let rows = rows_of_entries es in
    let more = entries_together stations es whole.1 in
    elim (cases_Bool (is_reception e.row.body)) [
      | inl came ↦
          let at : slice_get w d ≡ Some (frame_of e ∷ taken_by_station d es) =
          value_in (λ k. taken_by_station k (e ∷ es)) stations d (whole.0.station came) ∙ ap Some (own_frame e es came) in
          let taken : slice_set w d (taken_by_station d es) ≡ captures_of_entries stations es =
          set_in (λ k. taken_by_station k (e ∷ es)) (λ k. taken_by_station k es) stations d (λ k apart. other_frame k e es apart) in
          came_first e.row rows w came
          ∙ (ap (λ (o : Option (List Taken)). entry_with e.row (first_octets o) ∷ entries_of rows (slice_set w d (after_first o))) at
          ∙ ap (λ (xs : List StateRow). e ∷ xs) (ap (entries_of rows) taken ∙ more))
      | inr other ↦
          let same : w ≡ captures_of_entries stations es = same_values (λ k. taken_by_station k (e ∷ es)) (λ k. taken_by_station k es) 0 stations (λ k. no_frame k e es other) in
          let none : e.octets ≡ [] = whole.0.octets other in
          bare_first e.row rows w other
          ∙ (ap (λ (os : List ℕ). entry_with e.row os ∷ entries_of rows w) (sym none)
          ∙ ap (λ (xs : List StateRow). e ∷ xs) (ap (entries_of rows) same ∙ more))
    ]
