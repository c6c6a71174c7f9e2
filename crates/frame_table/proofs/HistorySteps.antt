-- The histories of frames, event by event.
use Rattle.std.proofs.Common.{◌≡◌, ℕ, zero, suc, ◌+◌, ◌<◌, ◌==◌, cond, true, false, refl, sym, ap, ◌∙◌, inl, inr, List, [], ◌∷◌, ◌++◌, length, get_or, take, Option, None, Some, arith, eqb-true, eq-eqb, ne_eqb, length-set}
use Rattle.std.specs.Option.{option_or}
use Rattle.std.proofs.lemmas.Bool.{cases_Bool}
use Rattle.std.proofs.lemmas.List.{take_more, get_or_default}
use Rattle.frame_table.specs.Devices.{is_number}
use Rattle.frame_table.specs.Found.{first_found, last_found}
use Rattle.frame_table.specs.Histories.{end_at, end_of, frame_named, history, is_attempt, histories_with, start_at, sending_start, with_attempt}
use Rattle.frame_table.specs.declared.events.Event.{Event}
use Rattle.frame_table.specs.declared.history.End.{End}
use Rattle.frame_table.specs.declared.history.History.{History}
use Rattle.frame_table.proofs.FoundLast.{first_push, last_push, count_push_yes, count_push_no, set_at_either}

same_history : (a b : Option ℕ) (c d : Option ℕ) (e f : Option End) (m n : ℕ) → a ≡ b → c ≡ d → e ≡ f → m ≡ n
    → ◌≡◌ {A = History} (record { first = a; start = c; end = e; attempts = m }) (record { first = b; start = d; end = f; attempts = n })
same_history a b c d e f m n p q r s = rw (p, q, r, s) refl

or_first : {X : Type 0} (o : Option X) → option_or o None ≡ o
or_first None = refl
or_first (Some x) = refl

history_yes : (n : ℕ) (events : List Event) (e : Event) → is_attempt n e ≡ true → history n (events ++ e ∷ []) ≡ with_attempt (history n events) e
history_yes n events e so =
    let start : start_at n e ≡ Some (sending_start e.body) = rw so refl in
    let end : end_at n e ≡ end_of e.t e.body = rw so refl in
    same_history _ _ _ _ _ _ _ _
    (first_push (start_at n) events e ∙ ap (option_or (first_found (start_at n) events)) start)
    (last_push (start_at n) events e ∙ ap (λ o. option_or o (last_found (start_at n) events)) start)
    (last_push (end_at n) events e ∙ ap (λ o. option_or o (last_found (end_at n) events)) end)
    (count_push_yes (is_attempt n) events e so)

history_no : (n : ℕ) (events : List Event) (e : Event) → is_attempt n e ≡ false → history n (events ++ e ∷ []) ≡ history n events
history_no n events e not_so =
    let start : start_at n e ≡ None = rw not_so refl in
    let end : end_at n e ≡ None = rw not_so refl in
    same_history _ _ _ _ _ _ _ _
    (first_push (start_at n) events e ∙ ap (option_or (first_found (start_at n) events)) start ∙ or_first (first_found (start_at n) events))
    (last_push (start_at n) events e ∙ ap (λ o. option_or o (last_found (start_at n) events)) start)
    (last_push (end_at n) events e ∙ ap (λ o. option_or o (last_found (end_at n) events)) end)
    (count_push_no (is_attempt n) events e not_so)

history_push : (n : ℕ) (events : List Event) (e : Event) → history n (events ++ e ∷ []) ≡ cond (is_number n (frame_named e.body)) (with_attempt (history n events) e) (history n events)
history_push n events e =
    elim (cases_Bool (is_attempt n e)) [
      | inl so ↦ history_yes n events e so ∙ rw so refl
      | inr not_so ↦ history_no n events e not_so ∙ rw not_so refl
    ]

noted_at : (hs : List History) (frame : Option ℕ) (e : Event) (k : ℕ) (d : History) → k < length hs
    → get_or (histories_with hs frame e) k d ≡ cond (is_number (k + 1) frame) (with_attempt (get_or hs k d) e) (get_or hs k d)
noted_at hs None e k d lt = refl
noted_at hs (Some zero) e k d lt =
    let other : (0 == k + 1) ≡ false = ne_eqb 0 (k + 1) (λ same. absurd (omega arith)) in
    sym (ap (λ b. cond b (with_attempt (get_or hs k d) e) (get_or hs k d)) other)
noted_at hs (Some (suc j)) e k d lt =
    elim (cases_Bool (j == k)) [
      | inl same ↦
          let e1 : j ≡ k = eqb-true j k same in
          let here : (suc j == k + 1) ≡ true = eq-eqb (suc j) (k + 1) (omega arith) in
          set_at_either hs j k (with_attempt (get_or hs j (history 0 [])) e) d lt
          ∙ ap (λ b. cond b (with_attempt (get_or hs j (history 0 [])) e) (get_or hs k d)) same
          ∙ ap (λ h. with_attempt h e) (ap (λ i. get_or hs i (history 0 [])) e1 ∙ get_or_default hs k (history 0 []) d lt)
          ∙ sym (ap (λ b. cond b (with_attempt (get_or hs k d) e) (get_or hs k d)) here)
      | inr other ↦
          let apart : (suc j == k + 1) ≡ false = ne_eqb (suc j) (k + 1) (λ same. let e1 : j ≡ k = omega arith in let t : (j == k) ≡ true = eq-eqb j k e1 in let not_so : false ≡ true = sym other ∙ t in cc) in
          set_at_either hs j k (with_attempt (get_or hs j (history 0 [])) e) d lt
          ∙ ap (λ b. cond b (with_attempt (get_or hs j (history 0 [])) e) (get_or hs k d)) other
          ∙ sym (ap (λ b. cond b (with_attempt (get_or hs k d) e) (get_or hs k d)) apart)
    ]

-- the history of each frame, with one more event
pub each_more : (events : List Event) (i count : ℕ) (at : Event) (old new : List History) → i < length events → length old ≡ count
    → ((k : ℕ) (d : History) → k < count → get_or old k d ≡ history (k + 1) (take i events)) → new ≡ histories_with old (frame_named (get_or events i at).body) (get_or events i at)
    → (k : ℕ) (d : History) → k < count → get_or new k d ≡ history (k + 1) (take (i + 1) events)
each_more events i count at old new lt long before new_is k d below =
    let e : Event = get_or events i at in
    ap (λ hs. get_or hs k d) new_is ∙ noted_at old (frame_named e.body) e k d (omega arith)
    ∙ ap (λ h. cond (is_number (k + 1) (frame_named e.body)) (with_attempt h e) h) (before k d below)
    ∙ sym (ap (history (k + 1)) (take_more events i at lt) ∙ history_push (k + 1) (take i events) e)

pub length-noted : (hs : List History) (frame : Option ℕ) (e : Event) → length (histories_with hs frame e) ≡ length hs
length-noted hs None e = refl
length-noted hs (Some zero) e = refl
length-noted hs (Some (suc k)) e = length-set hs k (with_attempt (get_or hs k (history 0 [])) e)
