-- The devices of lines, line by line.
use Rattle.std.proofs.Common.{◌≡◌, ℕ, ◌+◌, ◌-◌, ◌<◌, ◌≤◌, ◌==◌, cond, refl, sym, ap, ◌∙◌, subst, inl, inr, List, [], ◌∷◌, ◌++◌, length, get_or, take, drop, Option, None, Some, arith, append-nil, eqb-true}
use Rattle.std.specs.Borrow.{Bor}
use Rattle.std.specs.BTreeMap.{BTreeMap, UpdatesBy, get_by}
use Rattle.std.specs.Cmp.Lexicographic.{slice_cmp}
use Rattle.std.specs.List.{cons_option, filter_map, position_from}
use Rattle.std.specs.Ordering.{nat_cmp}
use Rattle.std.specs.Str.{bytes_eq}
use Rattle.std.proofs.lemmas.Bool.{cases_Bool, cases_lt}
use Rattle.std.proofs.lemmas.List.{drop_more, get_or_past, take_more}
use Rattle.std.proofs.lemmas.List.Elements.{filter_map-append}
use Rattle.std.proofs.lemmas.Option.{none-some, same_Some}
use Rattle.std.proofs.lemmas.Map.Text.{btree_map_updates_str}
use Rattle.layout.specs.declared.lines.Layout.{Layout}
use Rattle.log_meter.specs.Logs.{NeverFalls}
use Rattle.log_meter.specs.declared.line.LogLine.{LogLine}
use Rattle.frame_table.specs.Devices.{RisesFrom, device_named, event_at, events_of, is_number, events_with}
use Rattle.frame_table.specs.declared.events.Event.{Event}
use Rattle.frame_table.proofs.FoundLast.{set_at_either}

-- the places of the names from one place earlier on
pub place_grows : (names : List (List ℕ)) (i : ℕ) (m n : BTreeMap (Bor (List ℕ)) ℕ) (key : List ℕ) → 1 ≤ i → i ≤ length names → key ≡ get_or names (i - 1) key
    → ((name : List ℕ) → get_by (λ k. slice_cmp nat_cmp name k.now) m ≡ position_from (λ x. bytes_eq x name) i (drop i names))
    → UpdatesBy (λ x y. slice_cmp nat_cmp x.now y.now) (λ k. slice_cmp nat_cmp key k.now) m n (Some (i - 1))
    → (name : List ℕ) → get_by (λ k. slice_cmp nat_cmp name k.now) n ≡ position_from (λ x. bytes_eq x name) (i - 1) (drop (i - 1) names)
place_grows names i m n key some within is before updates name =
    let lt : i - 1 < length names = omega arith in
    let after : i - 1 + 1 ≡ i = omega arith in
    let here : drop (i - 1) names ≡ key ∷ drop i names = drop_more names (i - 1) key lt ∙ ap (λ x. x ∷ drop (i - 1 + 1) names) (sym is) ∙ ap (λ j. key ∷ drop j names) after in
    btree_map_updates_str key m n (Some (i - 1)) updates name
    ∙ ap (λ o. cond (bytes_eq key name) (Some (i - 1)) o) (before name)
    ∙ ap (λ j. cond (bytes_eq key name) (Some (i - 1)) (position_from (λ x. bytes_eq x name) j (drop i names))) (sym after)
    ∙ sym (ap (position_from (λ x. bytes_eq x name) (i - 1)) here)

abbrev event_in : LogLine → Event
event_in line = record { t = line.t; body = line.body }

events_more : (l : Layout) (k : ℕ) (lines : List LogLine) (i : ℕ) (line : LogLine) → i < length lines → line ≡ get_or lines i line
    → events_of l k (take (i + 1) lines) ≡ cond (is_number k (device_named l line)) (events_of l k (take i lines) ++ record { t = line.t; body = line.body } ∷ []) (events_of l k (take i lines))
events_more l k lines i line lt is =
    let parts : events_of l k (take (i + 1) lines) ≡ events_of l k (take i lines) ++ events_of l k (line ∷ []) =
    ap (events_of l k) (take_more lines i line lt ∙ ap (λ x. take i lines ++ x ∷ []) (sym is)) ∙ filter_map-append (event_at l k) (take i lines) (line ∷ []) in
    elim (cases_Bool (is_number k (device_named l line))) [
      | inl so ↦ parts ∙ rw so refl
      | inr not_so ↦ parts ∙ rw not_so (append-nil (events_of l k (take i lines)))
    ]

noted_at : (events : List (List Event)) (device : Option ℕ) (e : Event) (k : ℕ) → k < length events
    → get_or (events_with events device e) k [] ≡ cond (is_number k device) (get_or events k [] ++ e ∷ []) (get_or events k [])
noted_at events None e k lt = refl
noted_at events (Some j) e k lt =
    elim (cases_Bool (j == k)) [
      | inl same ↦ set_at_either events j k (get_or events j [] ++ e ∷ []) [] lt ∙ rw same (ap (λ i. get_or events i [] ++ e ∷ []) (eqb-true j k same))
      | inr other ↦ set_at_either events j k (get_or events j [] ++ e ∷ []) [] lt ∙ rw other refl
    ]

-- the events of each device, with those of one more line
pub each_more : (l : Layout) (lines : List LogLine) (i n : ℕ) (line : LogLine) (old new : List (List Event)) → i < length lines → line ≡ get_or lines i line → length old ≡ n
    → ((k : ℕ) → k < n → get_or old k [] ≡ events_of l k (take i lines)) → new ≡ events_with old (device_named l line) (record { t = line.t; body = line.body })
    → (k : ℕ) → k < n → get_or new k [] ≡ events_of l k (take (i + 1) lines)
each_more l lines i n line old new lt is long before new_is k below =
    let e : Event = record { t = line.t; body = line.body } in
    ap (λ es. get_or es k []) new_is ∙ noted_at old (device_named l line) e k (omega arith)
    ∙ ap (λ es. cond (is_number k (device_named l line)) (es ++ e ∷ []) es) (before k below) ∙ sym (events_more l k lines i line lt is)

-- ---- half bits never fall

pub rises_lower : {X : Type 0} (at : X → ℕ) (s t : ℕ) (xs : List X) → s ≤ t → RisesFrom at t xs → RisesFrom at s xs
rises_lower at s t [] le h = tt
rises_lower at s t (x ∷ xs) le h = (omega (arith, h.0), h.1)

rises_one : {X Y : Type 0} (at : X → ℕ) (by : Y → ℕ) (f : X → Option Y) → ((x : X) (y : Y) → f x ≡ Some y → by y ≡ at x) → (t : ℕ) (x : X) (ys : List Y) (o : Option Y) → f x ≡ o → t ≤ at x → RisesFrom by (at x) ys → RisesFrom by t (cons_option o ys)
rises_one at by f same t x ys None e le rest = rises_lower by t (at x) ys le rest
rises_one at by f same t x ys (Some y) e le rest = (subst (λ n. t ≤ n) (sym (same x y e)) le, subst (λ n. RisesFrom by n ys) (sym (same x y e)) rest)

-- what is kept of a list in order is in order
pub rises_kept : {X Y : Type 0} (at : X → ℕ) (by : Y → ℕ) (f : X → Option Y) → ((x : X) (y : Y) → f x ≡ Some y → by y ≡ at x) → (t : ℕ) (xs : List X) → RisesFrom at t xs → RisesFrom by t (filter_map f xs)
rises_kept at by f same t [] h = tt
rises_kept at by f same t (x ∷ xs) h = rises_one at by f same t x (filter_map f xs) (f x) refl h.0 (rises_kept at by f same (at x) xs h.1)

lines_rise : (t : ℕ) (lines : List LogLine) → NeverFalls t lines → RisesFrom (λ x. x.t) t lines
lines_rise t [] h = tt
lines_rise t (x ∷ xs) h = (h.0, lines_rise x.t xs h.1)

event_time : (l : Layout) (k : ℕ) (line : LogLine) (e : Event) → event_at l k line ≡ Some e → e.t ≡ line.t
event_time l k line e is =
    elim (cases_Bool (is_number k (device_named l line))) [
      | inl so ↦ let found : Some (event_in line) ≡ Some e = sym (rw so refl) ∙ is in ap (λ (x : Event). x.t) (sym (same_Some (event_in line) e found))
      | inr not_so ↦ let none : None ≡ Some e = sym (rw not_so refl) ∙ is in absurd (none-some e none)
    ]

-- what happens at a device is in order
pub events_rise : (l : Layout) (k : ℕ) (lines : List LogLine) → NeverFalls 0 lines → RisesFrom (λ e. e.t) 0 (events_of l k lines)
events_rise l k lines h = rises_kept (λ x. x.t) (λ e. e.t) (event_at l k) (event_time l k) 0 lines (lines_rise 0 lines h)

-- what happens at each of the devices that there are is in order
pub all_rise : (l : Layout) (lines : List LogLine) (events : List (List Event)) (n : ℕ) → NeverFalls 0 lines → length events ≡ n → ((k : ℕ) → k < n → get_or events k [] ≡ events_of l k lines) → (k : ℕ) → RisesFrom (λ e. e.t) 0 (get_or events k [])
all_rise l lines events n falls long each k =
    elim (cases_lt k n) [
      | inl low ↦ subst (RisesFrom (λ (e : Event). e.t) 0) (sym (each k low)) (events_rise l k lines falls)
      | inr high ↦ subst (RisesFrom (λ (e : Event). e.t) 0) (sym (get_or_past events k [] (omega (arith, long)))) tt
    ]
