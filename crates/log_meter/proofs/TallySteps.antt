-- One more line in front of others, and what the tally of each name becomes.
use Rattle.std.proofs.Common.{◌≡◌, ℕ, Bool, true, false, ◌||◌, List, ◌∷◌, ◌+◌, ◌-◌, ◌<◌, ◌≤◌, drop, length, get_or, max, if◌then◌else◌, refl, sym, ap, subst, ◌∙◌, arith, inl, inr}
use Rattle.std.specs.Borrow.{Bor}
use Rattle.std.specs.BTreeMap.{BTreeMap, UpdatesBy, get_by}
use Rattle.std.specs.Cmp.Lexicographic.{slice_cmp}
use Rattle.std.specs.List.{AllByRecursion, prefix_len, list_any, filter}
use Rattle.std.proofs.lemmas.List.{drop_more}
use Rattle.std.proofs.lemmas.List.Elements.{All-from_recursion}
use Rattle.std.specs.Ordering.{nat_cmp}
use Rattle.std.specs.Prelude.{Some, unwrap_or}
use Rattle.std.specs.Str.{bytes_eq}
use Rattle.std.proofs.lemmas.Bool.{cases_Bool, cond-false, cond-true}
use Rattle.std.proofs.lemmas.Map.Text.{btree_map_updates_str}
use Rattle.std.proofs.lemmas.Slice.Eq.{bytes_eq-Decides}
use Rattle.collision_log.specs.declared.row.Body.{Body}
use Rattle.collision_log.specs.declared.row.Body.TheVariants.{Sent, Collided, GivenUp, Cut, Received, Dropped, Clash, Closed, Opened, Halted}
use Rattle.log_meter.specs.Figures.{is_of_repeater_named, is_of_station, is_sent_body, longest_row, repeater_tally, senders, station_tally}
use Rattle.log_meter.specs.Lines.{IsLogLine, is_of_repeater}
use Rattle.log_meter.specs.Tallies.{AreTalliesOf, IsRow, empty_tally, row_after, tally_at, tally_from, name_tally, with_body, with_repeater_line, with_station_line}
use Rattle.log_meter.specs.declared.device_figures.RepeaterTally.{RepeaterTally}
use Rattle.log_meter.specs.declared.device_figures.StationTally.{StationTally}
use Rattle.log_meter.specs.declared.line.LogLine.{LogLine}
use Rattle.log_meter.specs.declared.tally.Tally.{Tally}

pub same_name : (name : List ℕ) → bytes_eq name name ≡ true
same_name name = (bytes_eq-Decides name name).1 refl

pub other_names : (a b : List ℕ) → bytes_eq a b ≡ false → bytes_eq b a ≡ false
other_names a b h =
    elim (cases_Bool (bytes_eq b a)) [
      | inl same ↦ let e : b ≡ a = (bytes_eq-Decides b a).0 same in cc (sym h, (bytes_eq-Decides a b).1 (sym e))
      | inr other ↦ other
    ]

-- the line of this name, of the kind of device that its body has
abbrev pub line_with : ℕ → List ℕ → Body → LogLine
line_with t name body = record { t = t; repeater = is_of_repeater body; name = name; body = body }

pub line_is_regular : (l : LogLine) → IsLogLine l → l ≡ line_with l.t l.name l.body
line_is_regular l h = ap (λ (b : Bool). let m : LogLine = record { t = l.t; repeater = b; name = l.name; body = l.body } in m) h.device

-- lines of another name leave the longest row
longest_stays : (t : ℕ) (repeater : Bool) (name : List ℕ) (body : Body) (ls : List LogLine) (q : List ℕ) → bytes_eq q name ≡ false
    → longest_row q (senders (record { t = t; repeater = repeater; name = name; body = body } ∷ ls)) ≡ longest_row q (senders ls)
longest_stays t repeater name body ls q h =
    elim (cases_Bool (is_sent_body body)) [
      | inl sent ↦ rw (sent, h) (omega arith)
      | inr not_sent ↦ rw not_sent refl
    ]

pub tally_stays : (l : LogLine) (ls : List LogLine) (q : List ℕ) → bytes_eq q l.name ≡ false → name_tally (l ∷ ls) q ≡ name_tally ls q
tally_stays l ls q h =
    let no_station : is_of_station q l ≡ false = elim (cases_Bool l.repeater) [ inl repeats ↦ rw repeats refl | inr sends ↦ rw (sends, h) refl ] in
    let no_repeater : is_of_repeater_named q l ≡ false = elim (cases_Bool l.repeater) [ inl repeats ↦ rw (repeats, h) refl | inr sends ↦ rw sends refl ] in
    let station : list_any (is_of_station q) (l ∷ ls) ≡ list_any (is_of_station q) ls = ap (λ b. b || list_any (is_of_station q) ls) no_station in
    let repeater : list_any (is_of_repeater_named q) (l ∷ ls) ≡ list_any (is_of_repeater_named q) ls = ap (λ b. b || list_any (is_of_repeater_named q) ls) no_repeater in
    let own : filter (is_of_station q) (l ∷ ls) ≡ filter (is_of_station q) ls = ap (λ b. if b then l ∷ filter (is_of_station q) ls else filter (is_of_station q) ls) no_station in
    let repeating : filter (is_of_repeater_named q) (l ∷ ls) ≡ filter (is_of_repeater_named q) ls = ap (λ b. if b then l ∷ filter (is_of_repeater_named q) ls else filter (is_of_repeater_named q) ls) no_repeater in
    let longest : longest_row q (senders (l ∷ ls)) ≡ longest_row q (senders ls) = longest_stays l.t l.repeater l.name l.body ls q h in
    λ i. tally_from (station i) (repeater i) (own i) (repeating i) (longest i)

-- what happens to repeaters is no sending
repeaters_send_nothing : (body : Body) → is_of_repeater body ≡ true → is_sent_body body ≡ false
repeaters_send_nothing (Sent frame start attempt) h = cc h
repeaters_send_nothing (Collided frame start attempt hit drawn) h = refl
repeaters_send_nothing (GivenUp frame start hit) h = refl
repeaters_send_nothing (Cut frame start attempt hit) h = refl
repeaters_send_nothing (Received octets) h = refl
repeaters_send_nothing (Dropped why halves) h = refl
repeaters_send_nothing Clash h = refl
repeaters_send_nothing (Closed port) h = refl
repeaters_send_nothing (Opened port) h = refl
repeaters_send_nothing (Halted port) h = refl

-- counts with the same fields
same_station : (a b : StationTally) → a.sent ≡ b.sent → a.collided ≡ b.collided → a.given_up ≡ b.given_up → a.cut ≡ b.cut → a.received ≡ b.received → a.dropped ≡ b.dropped → a.half_bits ≡ b.half_bits → a ≡ b
same_station a b sent collided given_up cut received dropped half_bits =
    λ i. record { sent = sent i; collided = collided i; given_up = given_up i; cut = cut i; received = received i; dropped = dropped i; half_bits = half_bits i }

same_repeater : (a b : RepeaterTally) → a.clash ≡ b.clash → a.closed ≡ b.closed → a.opened ≡ b.opened → a.halted ≡ b.halted → a ≡ b
same_repeater a b clash closed opened halted = λ i. record { clash = clash i; closed = closed i; opened = opened i; halted = halted i }

-- what lines of a station count, with one more line in front, and what lines of a repeater count
station_line : (t : ℕ) (name : List ℕ) (body : Body) (own : List LogLine) → station_tally (line_with t name body ∷ own) ≡ with_station_line (station_tally own) t body
station_line t name (Sent frame start attempt) own = same_station _ _ (omega arith) (omega arith) (omega arith) (omega arith) (omega arith) (omega arith) (omega arith)
station_line t name (Collided frame start attempt hit drawn) own = same_station _ _ (omega arith) (omega arith) (omega arith) (omega arith) (omega arith) (omega arith) (omega arith)
station_line t name (GivenUp frame start hit) own = same_station _ _ (omega arith) (omega arith) (omega arith) (omega arith) (omega arith) (omega arith) (omega arith)
station_line t name (Cut frame start attempt hit) own = same_station _ _ (omega arith) (omega arith) (omega arith) (omega arith) (omega arith) (omega arith) (omega arith)
station_line t name (Received octets) own = same_station _ _ (omega arith) (omega arith) (omega arith) (omega arith) (omega arith) (omega arith) (omega arith)
station_line t name (Dropped why halves) own = same_station _ _ (omega arith) (omega arith) (omega arith) (omega arith) (omega arith) (omega arith) (omega arith)
station_line t name Clash own = same_station _ _ refl refl refl refl refl refl (omega arith)
station_line t name (Closed port) own = same_station _ _ refl refl refl refl refl refl (omega arith)
station_line t name (Opened port) own = same_station _ _ refl refl refl refl refl refl (omega arith)
station_line t name (Halted port) own = same_station _ _ refl refl refl refl refl refl (omega arith)

repeater_line : (t : ℕ) (name : List ℕ) (body : Body) (own : List LogLine) → repeater_tally (line_with t name body ∷ own) ≡ with_repeater_line (repeater_tally own) body
repeater_line t name (Sent frame start attempt) own = refl
repeater_line t name (Collided frame start attempt hit drawn) own = refl
repeater_line t name (GivenUp frame start hit) own = refl
repeater_line t name (Cut frame start attempt hit) own = refl
repeater_line t name (Received octets) own = refl
repeater_line t name (Dropped why halves) own = refl
repeater_line t name Clash own = same_repeater _ _ (omega arith) (omega arith) (omega arith) (omega arith)
repeater_line t name (Closed port) own = same_repeater _ _ (omega arith) (omega arith) (omega arith) (omega arith)
repeater_line t name (Opened port) own = same_repeater _ _ (omega arith) (omega arith) (omega arith) (omega arith)
repeater_line t name (Halted port) own = same_repeater _ _ (omega arith) (omega arith) (omega arith) (omega arith)

-- one more line of a station, and one more of a repeater
station_grows : (t : ℕ) (name : List ℕ) (body : Body) (any repeats : Bool) (own repeating : List LogLine) (longest row : ℕ) → is_of_repeater body ≡ false
    → tally_from true repeats (line_with t name body ∷ own) repeating (if is_sent_body body then max row longest else longest) ≡ with_body (tally_from any repeats own repeating longest) t body row
station_grows t name body any repeats own repeating longest row h =
    ap (λ (s : StationTally). let m : Tally = record { station = true; repeater = repeats; of_station = s; longest = if is_sent_body body then max row longest else longest; of_repeater = repeater_tally repeating } in m) (station_line t name body own)
    ∙ sym (cond-false (is_of_repeater body) _ _ h)

repeater_grows : (t : ℕ) (name : List ℕ) (body : Body) (sends any : Bool) (own repeating : List LogLine) (longest row : ℕ) → is_of_repeater body ≡ true
    → tally_from sends true own (line_with t name body ∷ repeating) longest ≡ with_body (tally_from sends any own repeating longest) t body row
repeater_grows t name body sends any own repeating longest row h =
    ap (λ (r : RepeaterTally). let m : Tally = record { station = sends; repeater = true; of_station = station_tally own; longest = longest; of_repeater = r } in m) (repeater_line t name body repeating)
    ∙ sym (cond-true (is_of_repeater body) _ _ h)

-- the longest row of the name, with one more line of it in front
longest_grows : (t : ℕ) (name : List ℕ) (body : Body) (ls : List LogLine) (row : ℕ) → (is_sent_body body ≡ true → prefix_len (bytes_eq name) (senders (line_with t name body ∷ ls)) ≡ row)
    → longest_row name (senders (line_with t name body ∷ ls)) ≡ (if is_sent_body body then max row (longest_row name (senders ls)) else longest_row name (senders ls))
longest_grows t name body ls row h =
    elim (cases_Bool (is_sent_body body)) [
      | inl sent ↦
          let first : prefix_len (bytes_eq name) (senders (line_with t name body ∷ ls)) ≡ row = h sent in
          let begins : senders (line_with t name body ∷ ls) ≡ name ∷ senders ls = rw sent refl in
          ap (longest_row name) begins
          ∙ ap (λ n. max n (longest_row name (senders ls))) (ap (prefix_len (bytes_eq name)) (sym begins) ∙ first)
          ∙ sym (ap (λ b. if b then max row (longest_row name (senders ls)) else longest_row name (senders ls)) sent)
      | inr not_sent ↦ rw not_sent refl
    ]

-- a line of the name itself
pub tally_grows : (t : ℕ) (name : List ℕ) (body : Body) (ls : List LogLine) (row : ℕ)
    → (is_sent_body body ≡ true → prefix_len (bytes_eq name) (senders (line_with t name body ∷ ls)) ≡ row)
    → name_tally (line_with t name body ∷ ls) name ≡ with_body (name_tally ls name) t body row
tally_grows t name body ls row h =
    let l = line_with t name body in
    let own = filter (is_of_station name) ls in
    let repeating = filter (is_of_repeater_named name) ls in
    let longest = longest_grows t name body ls row h in
    elim (cases_Bool (is_of_repeater body)) [
      | inl repeats ↦
          let station : is_of_station name l ≡ false = rw repeats refl in
          let repeater : is_of_repeater_named name l ≡ true = rw (repeats, same_name name) refl in
          let unsent : is_sent_body body ≡ false = repeaters_send_nothing body repeats in
          let stays : longest_row name (senders (l ∷ ls)) ≡ longest_row name (senders ls) = longest ∙ ap (λ b. if b then max row (longest_row name (senders ls)) else longest_row name (senders ls)) unsent in
          (λ i. tally_from (station i || list_any (is_of_station name) ls) (repeater i || list_any (is_of_repeater_named name) ls)
          (if station i then l ∷ own else own) (if repeater i then l ∷ repeating else repeating) (stays i))
          ∙ repeater_grows t name body (list_any (is_of_station name) ls) (list_any (is_of_repeater_named name) ls) own repeating (longest_row name (senders ls)) row repeats
      | inr sends ↦
          let station : is_of_station name l ≡ true = rw (sends, same_name name) refl in
          let repeater : is_of_repeater_named name l ≡ false = rw sends refl in
          (λ i. tally_from (station i || list_any (is_of_station name) ls) (repeater i || list_any (is_of_repeater_named name) ls)
          (if station i then l ∷ own else own) (if repeater i then l ∷ repeating else repeating) (longest i))
          ∙ station_grows t name body (list_any (is_of_station name) ls) (list_any (is_of_repeater_named name) ls) own repeating (longest_row name (senders ls)) row sends
    ]

-- the row of the same sender at the front
pub row_grows : (name : List ℕ) (count : ℕ) (l : LogLine) (ls : List LogLine) → IsRow name count (senders ls)
    → IsRow (row_after (name, count) l).0 (row_after (name, count) l).1 (senders (l ∷ ls))
row_grows name count l ls h other =
    elim (cases_Bool (is_sent_body l.body)) [
      | inr not_sent ↦ rw not_sent (h other)
      | inl sent ↦
          elim (cases_Bool (bytes_eq other l.name)) [
            | inl same ↦
                let e : other ≡ l.name = (bytes_eq-Decides other l.name).0 same in
                rw (sent, same, h other, e) (omega arith)
            | inr apart ↦ rw (sent, apart) refl
          ]
    ]

-- the tallies of the names, after that of the line's name was put in its place
pub tallies_grow : (l : LogLine) (ls : List LogLine) (key : Bor (List ℕ)) (row : List ℕ × ℕ) (m n : BTreeMap (Bor (List ℕ)) Tally)
    → IsLogLine l → key.now ≡ l.name → AreTalliesOf ls m → IsRow row.0 row.1 (senders (l ∷ ls)) → (is_sent_body l.body ≡ true → row.0 ≡ l.name)
    → UpdatesBy (λ x y. slice_cmp nat_cmp x.now y.now) (λ k. slice_cmp nat_cmp key.now k.now) m n (Some (with_body (tally_at m l.name) l.t l.body row.1))
    → AreTalliesOf (l ∷ ls) n
tallies_grow l ls key row m n line is_key before is_row is_own updates q =
    let new : Tally = with_body (tally_at m l.name) l.t l.body row.1 in
    let regular : l ≡ line_with l.t l.name l.body = line_is_regular l line in
    let front : is_sent_body l.body ≡ true → prefix_len (bytes_eq l.name) (senders (l ∷ ls)) ≡ row.1 =
    λ sent. is_row l.name ∙ rw (is_own sent, same_name l.name) refl in
    let grown : name_tally (l ∷ ls) l.name ≡ with_body (name_tally ls l.name) l.t l.body row.1 =
    subst (λ (k : LogLine). name_tally (k ∷ ls) l.name ≡ with_body (name_tally ls l.name) l.t l.body row.1) (sym regular)
    (tally_grows l.t l.name l.body ls row.1 (subst (λ (k : LogLine). is_sent_body l.body ≡ true → prefix_len (bytes_eq l.name) (senders (k ∷ ls)) ≡ row.1) regular front)) in
    let found = btree_map_updates_str key.now m n (Some new) updates q in
    let before_q = get_by (λ (k : Bor (List ℕ)). slice_cmp nat_cmp q k.now) m in
    elim (cases_Bool (bytes_eq key.now q)) [
      | inl same ↦
          let e : q ≡ l.name = sym ((bytes_eq-Decides key.now q).0 same) ∙ is_key in
          ap (λ o. unwrap_or o empty_tally) (found ∙ ap (λ b. if b then Some new else before_q) same)
          ∙ ap (λ x. with_body x l.t l.body row.1) (before l.name) ∙ sym grown ∙ ap (name_tally (l ∷ ls)) (sym e)
      | inr apart ↦
          let other : bytes_eq q l.name ≡ false = subst (λ (k : List ℕ). bytes_eq q k ≡ false) is_key (other_names key.now q apart) in
          ap (λ o. unwrap_or o empty_tally) (found ∙ ap (λ b. if b then Some new else before_q) apart) ∙ before q ∙ sym (tally_stays l ls q other)
    ]

-- after a frame that was sent the row is its sender's
pub row_is_own : (row : List ℕ × ℕ) (l : LogLine) → is_sent_body l.body ≡ true → (row_after row l).0 ≡ l.name
row_is_own row l sent = rw sent refl

-- what is so of the lines from place i on, as the pass goes on to the line before
pub record IsGoneOn (lines : List LogLine) (i : ℕ) (tallies : BTreeMap (Bor (List ℕ)) Tally) (row : List ℕ × ℕ) : Type 0 where
  pub told : AreTalliesOf (drop i lines) tallies
  pub rows : IsRow row.0 row.1 (senders (drop i lines))

pub goes_on : (lines : List LogLine) (i : ℕ) (line : LogLine) (key : Bor (List ℕ)) (before row : List ℕ × ℕ) (m n : BTreeMap (Bor (List ℕ)) Tally) (old new : Tally) → 1 ≤ i → i ≤ length lines
    → AllByRecursion IsLogLine lines → line ≡ get_or lines (i - 1) line → key.now ≡ line.name → row ≡ row_after before line
    → AreTalliesOf (drop i lines) m → IsRow before.0 before.1 (senders (drop i lines))
    → old ≡ tally_at m key.now → new ≡ with_body old line.t line.body row.1
    → UpdatesBy (λ x y. slice_cmp nat_cmp x.now y.now) (λ k. slice_cmp nat_cmp key.now k.now) m n (Some new)
    → IsGoneOn lines (i - 1) n row
goes_on lines i line key before row m n old new some within grammar is is_key row_is told is_row old_is new_is updates =
    let value : new ≡ with_body (tally_at m line.name) line.t line.body row.1 = new_is ∙ ap (λ x. with_body x line.t line.body row.1) (old_is ∙ ap (tally_at m) is_key) in
    let ls : List LogLine = drop i lines in
    let lt : i - 1 < length lines = omega arith in
    let after : i - 1 + 1 ≡ i = omega arith in
    let here : drop (i - 1) lines ≡ line ∷ ls = drop_more lines (i - 1) line lt ∙ ap (λ x. x ∷ drop (i - 1 + 1) lines) (sym is) ∙ ap (λ j. line ∷ drop j lines) after in
    let in_grammar : IsLogLine line = subst IsLogLine (sym is) (All-from_recursion IsLogLine lines grammar (i - 1) line lt) in
    let grown : IsRow row.0 row.1 (senders (line ∷ ls)) = subst (λ (r : List ℕ × ℕ). IsRow r.0 r.1 (senders (line ∷ ls))) (sym row_is) (row_grows before.0 before.1 line ls is_row) in
    let own : is_sent_body line.body ≡ true → row.0 ≡ line.name = λ sent. ap (λ (r : List ℕ × ℕ). r.0) row_is ∙ row_is_own before line sent in
    record {
      told = subst (λ (xs : List LogLine). AreTalliesOf xs n) (sym here) (tallies_grow line ls key row m n in_grammar is_key told grown own (subst (λ (v : Tally). UpdatesBy (λ x y. slice_cmp nat_cmp x.now y.now) (λ k. slice_cmp nat_cmp key.now k.now) m n (Some v)) value updates));
      rows = subst (λ (xs : List LogLine). IsRow row.0 row.1 (senders xs)) (sym here) grown;
    }
