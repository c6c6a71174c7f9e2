-- The reading of rows, step by step.
use Rattle.std.proofs.Common.{◌≡◌, ◌≢◌, ℕ, zero, suc, ◌+◌, ◌-◌, ◌<◌, ◌≤◌, ◌==◌, ◌&&◌, Bool, true, false, if◌then◌else◌, List, [], ◌∷◌, ◌++◌, drop, map, length, get_or, Option, None, Some, Err, refl, sym, ap, ◌∙◌, arith, inl, inr}
use Rattle.std.specs.Prelude.{nat_le, slice_get, slice_index_or, slice_set, unwrap_or}
use Rattle.std.specs.List.{range_with_len}
use Rattle.std.proofs.lemmas.Bool.{and_parts, cases_Bool, cases_lt, eqb-true, lt-leb, ne_eqb}
use Rattle.std.proofs.lemmas.List.{append-nil}
use Rattle.std.proofs.lemmas.List.FromFn.{get_or-map-range_with_len, length-map-range_with_len, map-range_with_len_more}
use Rattle.std.proofs.lemmas.List.Sums.{sum_by_push}
use Rattle.std.proofs.lemmas.Option.{slice_get_past}
use Rattle.collision_log.specs.declared.row.Row.{Row}
use Rattle.load_plan.specs.declared.plan.Plan.{Plan}
use Rattle.mac_transmit.specs.declared.state.SenderState.{SenderState}
use Rattle.network.specs.declared.outputs.Taken.{Taken}
use Rattle.run_checkpoint.specs.Entries.{StateRow, captures_of_entries, is_reception, rows_of_entries, taken_by_station}
use Rattle.run_checkpoint.specs.Judging.{judged_end, judged_entries, judged_rest}
use Rattle.run_checkpoint.specs.Progress.{IsToldOf, captures_after, count_after, ended_after, ended_counts}
use Rattle.run_checkpoint.specs.Ranges.{do_all_end, does_end_frame, ended_frame, frames_ended, is_next_frame, last_row, queue_place}
use Rattle.run_checkpoint.specs.TextLines.{onto_first_line, text_lines}
use Rattle.run_checkpoint.specs.declared.fault.StateFault.TheVariants as fault
use Rattle.run_checkpoint.specs.declared.told.ToldSoFar.{ToldSoFar}
use Rattle.run_checkpoint.proofs.EntriesJudged.{rows_snoc}
use Rattle.run_checkpoint.proofs.EntriesOfRows.{same_eqb, same_values, set_in, value_in}

last_after : (r : Row) (rows : List Row) (d : Row) → last_row (Some r) rows ≡ Some (get_or (r ∷ rows) (length rows) d)
last_after r [] d = refl
last_after r (x ∷ xs) d = last_after x xs d

-- the last row stands at the last place
pub last_is : (rows : List Row) (d : Row) → (length rows == 0) ≡ false → last_row None rows ≡ Some (get_or rows (length rows - 1) d)
last_is [] d some = cc some
last_is (r ∷ rs) d some = let e : suc (length rs) - 1 ≡ length rs = omega arith in rw e (last_after r rs d)

-- where no frame may end, none is due
no_place : (e : ℕ) (frame : Option ℕ) → is_next_frame e 0 frame ≡ is_next_frame 0 0 frame
no_place e None = refl
no_place e (Some zero) = rw (ne_eqb 0 (e + 1) (λ x. absurd (omega (arith, x))), ne_eqb 0 (0 + 1) (λ x. absurd (omega (arith, x)))) refl
no_place e (Some (suc f)) = rw (lt-leb (suc f) 0 (omega arith)) (never (suc f == e + 1) (suc f == 0 + 1))
  where
    never : (a b : Bool) → a && false ≡ b && false
    never true true = refl
    never true false = refl
    never false true = refl
    never false false = refl

-- the frame that is due, by the counts
pub frame_due : (ended : List ℕ) (senders : List SenderState) (device : ℕ) (before : List Row) (frame : Option ℕ) → ended ≡ ended_counts (length senders) before
    → is_next_frame (unwrap_or (slice_get ended device) 0) (queue_place (slice_get senders device)) frame ≡ is_next_frame (frames_ended device before) (queue_place (slice_get senders device)) frame
frame_due ended senders device before frame is =
    elim (cases_lt device (length senders)) [
      | inl low ↦
          let at : slice_get ended device ≡ Some (frames_ended device before) = ap (λ (xs : List ℕ). slice_get xs device) is ∙ value_in (λ k. frames_ended k before) (length senders) device low in
          rw at refl
      | inr past ↦
          let none : slice_get senders device ≡ None = slice_get_past senders device past in
          rw none (no_place (unwrap_or (slice_get ended device) 0) frame ∙ sym (no_place (frames_ended device before) frame))
    ]

-- one row more
pub counted_more : (k : ℕ) (rows : List Row) (row : Row) → frames_ended k (rows ++ row ∷ []) ≡ frames_ended k rows + (if does_end_frame k row then 1 else 0)
counted_more k rows row = sum_by_push (λ (x : Row). if does_end_frame k x then 1 else 0) rows row

-- a frame more of a station
taken_more : (k : ℕ) (es : List StateRow) (e : StateRow) → taken_by_station k (es ++ e ∷ []) ≡ taken_by_station k es ++ (if is_reception e.row.body && (e.row.device == k) then record { t = e.row.t; octets = e.octets } ∷ [] else [])
taken_more k [] e = refl
taken_more k (x ∷ xs) e =
    elim (cases_Bool (is_reception x.row.body && (x.row.device == k))) [
      | inl own ↦ rw own (ap (λ (ts : List Taken). record { t = x.row.t; octets = x.octets } ∷ ts) (taken_more k xs e))
      | inr other ↦ rw other (taken_more k xs e)
    ]

-- how far the rows were read
pub record SoFar (plan : Plan) (t : ℕ) (senders : List SenderState) (first : ℕ) (octets : List ℕ) (told : ToldSoFar) (number : ℕ) (rest : List ℕ) : Type 0 where
  pub es : List StateRow
  pub told_of : IsToldOf (length senders) told es
  pub judged : judged_entries plan t senders first [] None (text_lines octets) ≡ judged_entries plan t senders number es None (text_lines rest)
  pub room : number + length rest ≤ first + length octets

set_past : {X : Type 0} (xs : List X) (k : ℕ) (v w : X) → length xs ≤ k → slice_set xs k v ≡ slice_set xs k w
set_past [] k v w le = refl
set_past (x ∷ xs) zero v w le = absurd (omega (arith, le))
set_past (x ∷ xs) (suc k) v w le = ap (λ (ys : List _). x ∷ ys) (set_past xs k v w (omega (arith, le)))

-- the captures with one entry more
captures_more : (stations : ℕ) (es : List StateRow) (row : Row) (octets : List ℕ) → captures_of_entries stations (es ++ record { row = row; octets = octets } ∷ []) ≡ captures_after (captures_of_entries stations es) row octets
captures_more stations es row octets =
    let e : StateRow = record { row = row; octets = octets } in
    let one : Taken = record { t = row.t; octets = octets } in
    let f : ℕ → List Taken = λ k. taken_by_station k es in
    let g : ℕ → List Taken = λ k. taken_by_station k (es ++ e ∷ []) in
    let d = row.device in
    elim (cases_Bool (is_reception row.body)) [
      | inr other ↦ rw other (same_values g f 0 stations (λ k. taken_more k es e ∙ rw other (append-nil (taken_by_station k es))))
      | inl came ↦
          let own : g d ≡ f d ++ one ∷ [] = taken_more d es e ∙ rw (came, same_eqb d) refl in
          let apart = λ (k : ℕ) (ne : d ≢ k). sym (taken_more k es e ∙ rw (came, ne_eqb d k ne) (append-nil (taken_by_station k es))) in
          let set : slice_set (map f (range_with_len 0 stations)) d (g d) ≡ map g (range_with_len 0 stations) = set_in f g stations d apart in
          let caps = map f (range_with_len 0 stations) in
          elim (cases_lt d stations) [
            | inl low ↦
                let z : 0 + d ≡ d = omega arith in
                let at : slice_index_or caps d [] ≡ f d = get_or-map-range_with_len f 0 stations d d [] low z in
                rw (came, at, ← own) (sym set)
            | inr past ↦ rw came (sym set ∙ set_past caps d (g d) (slice_index_or caps d [] ++ one ∷ []) (omega (arith, past, length-map-range_with_len f 0 stations)))
          ]
    ]

-- the counts with one row more
counts_more : (stations place : ℕ) (rows : List Row) (row : Row) → is_next_frame (frames_ended row.device rows) place (ended_frame row.body) ≡ true → ended_counts stations (rows ++ row ∷ []) ≡ ended_after (ended_counts stations rows) row
counts_more stations place rows row next = by_frame (ended_frame row.body) refl next
  where
    f : ℕ → ℕ
    f k = frames_ended k rows

    g : ℕ → ℕ
    g k = frames_ended k (rows ++ row ∷ [])

    apart : (k : ℕ) → row.device ≢ k → f k ≡ g k
    apart k ne = sym (counted_more k rows row ∙ rw (ne_eqb row.device k ne) (omega arith))

    no_more : (k : ℕ) → ended_frame row.body ≡ None → g k ≡ f k
    no_more k none = counted_more k rows row ∙ rw none (none_more (row.device == k))
      where
        none_more : (b : Bool) → f k + (if b && false then 1 else 0) ≡ f k
        none_more true = omega arith
        none_more false = omega arith

    by_frame : (o : Option ℕ) → ended_frame row.body ≡ o → is_next_frame (frames_ended row.device rows) place o ≡ true → map g (range_with_len 0 stations) ≡ count_after (map f (range_with_len 0 stations)) row.device o
    by_frame None is h = same_values g f 0 stations (λ k. no_more k is)
    by_frame (Some frame) is h =
        let e : frame ≡ f row.device + 1 = eqb-true frame (f row.device + 1) (and_parts (frame == f row.device + 1) (nat_le frame place) h).0 in
        let own : g row.device ≡ frame = counted_more row.device rows row ∙ rw (is, same_eqb row.device) (sym e) in
        sym (ap (slice_set (map f (range_with_len 0 stations)) row.device) (sym own) ∙ set_in f g stations row.device apart)

-- one entry more is told
pub told_more : (stations place : ℕ) (told new : ToldSoFar) (es : List StateRow) (row : Row) (octets : List ℕ) → IsToldOf stations told es → is_next_frame (frames_ended row.device told.rows) place (ended_frame row.body) ≡ true
    → new.rows ≡ told.rows ++ row ∷ [] → new.captures.items ≡ captures_after told.captures.items row octets → new.ended.items ≡ ended_after told.ended.items row
    → IsToldOf stations new (es ++ record { row = row; octets = octets } ∷ [])
told_more stations place told new es row octets h next rows captures ended =
    let e : StateRow = record { row = row; octets = octets } in
    let all : rows_of_entries (es ++ e ∷ []) ≡ rows_of_entries es ++ row ∷ [] = rows_snoc es e in
    record {
      rows = rows ∙ (ap (λ (xs : List Row). xs ++ row ∷ []) h.rows ∙ sym all);
      captures = captures ∙ (ap (λ (cs : List (List Taken)). captures_after cs row octets) h.captures ∙ sym (captures_more stations es row octets));
      ended =
          ended
          ∙ (ap (λ (ns : List ℕ). ended_after ns row) h.ended
          ∙ (sym (counts_more stations place (rows_of_entries es) row (rw (← h.rows) next)) ∙ ap (ended_counts stations) (sym all)));
    }

-- the count of a station
count_at : (ended : List ℕ) (n k : ℕ) (rows : List Row) → k < n → ended ≡ ended_counts n rows → get_or ended k 0 ≡ frames_ended k rows
count_at ended n k rows lt is = let z : 0 + k ≡ k = omega arith in ap (λ (xs : List ℕ). get_or xs k 0) is ∙ get_or-map-range_with_len (λ j. frames_ended j rows) 0 n k k 0 lt z

-- the k-th sender
step_on : (j k : ℕ) (senders : List SenderState) (rows : List Row) → k < length senders → frames_ended j rows ≡ queue_place (slice_get senders k) → do_all_end j (drop k senders) rows ≡ do_all_end (j + 1) (drop (k + 1) senders) rows
step_on j k [] rows lt same = absurd (omega (arith, lt))
step_on j zero (s ∷ ss) rows lt same = rw (same, same_eqb s.place) refl
step_on j (suc k) (s ∷ ss) rows lt same = let e : suc k + 1 ≡ suc (k + 1) = omega arith in rw e (step_on j k ss rows (omega (arith, lt)) same)

step_other : (j k : ℕ) (senders : List SenderState) (rows : List Row) → k < length senders → frames_ended j rows ≢ queue_place (slice_get senders k) → do_all_end j (drop k senders) rows ≡ false
step_other j k [] rows lt other = absurd (omega (arith, lt))
step_other j zero (s ∷ ss) rows lt other = rw (ne_eqb (frames_ended j rows) s.place other) refl
step_other j (suc k) (s ∷ ss) rows lt other = step_other j k ss rows (omega (arith, lt)) other

-- as many frames of a station end as its place says
pub one_ends : (senders : List SenderState) (ended : List ℕ) (k : ℕ) (rows : List Row) → k < length senders → ended ≡ ended_counts (length senders) rows → get_or ended k 0 ≡ queue_place (slice_get senders k)
    → do_all_end k (drop k senders) rows ≡ do_all_end (k + 1) (drop (k + 1) senders) rows
one_ends senders ended k rows lt is same = step_on k k senders rows lt (sym (count_at ended (length senders) k rows lt is) ∙ same)

-- or another number
pub one_other : (senders : List SenderState) (ended : List ℕ) (k : ℕ) (rows : List Row) → k < length senders → ended ≡ ended_counts (length senders) rows → get_or ended k 0 ≢ queue_place (slice_get senders k)
    → do_all_end k (drop k senders) rows ≡ false
one_other senders ended k rows lt is other = step_other k k senders rows lt (λ x. other (count_at ended (length senders) k rows lt is ∙ x))

-- octets that follow the last line
pub octets_follow : (n : ℕ) (senders : List SenderState) (es : List StateRow) (rest : List ℕ) → do_all_end 0 senders (rows_of_entries es) ≡ true → (length rest == 0) ≡ false → judged_end n senders es (text_lines rest) ≡ Err (fault.BadLine (n + 1))
octets_follow n senders es rest ended some = rw ended (after rest some)
  where
    line_more : (c : ℕ) (ls : List (List ℕ)) → judged_rest n es (onto_first_line c ls) ≡ Err (fault.BadLine (n + 1))
    line_more c [] = refl
    line_more c (l ∷ ls) = refl

    after : (xs : List ℕ) → (length xs == 0) ≡ false → judged_rest n es (text_lines xs) ≡ Err (fault.BadLine (n + 1))
    after [] h = cc h
    after (c ∷ cs) h =
        elim (cases_Bool (c == 10)) [
          | inl feed ↦ rw feed refl
          | inr other ↦ rw other (line_more c (text_lines cs))
        ]

-- one more of the same
pub same_pushed : {X : Type 0} (new old : List X) (y x : X) (n : ℕ) → new ≡ old ++ y ∷ [] → y ≡ x → old ≡ map (λ k. x) (range_with_len 0 n) → new ≡ map (λ k. x) (range_with_len 0 (n + 1))
same_pushed new old y x n pushed is so_far = pushed ∙ rw (so_far, is) (sym (map-range_with_len_more (λ k. x) 0 n n (omega arith)))
