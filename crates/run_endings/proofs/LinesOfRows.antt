-- The line of a row is one line, and tells what happened.
use Rattle.std.proofs.Common.{◌≡◌, ◌≢◌, ℕ, ◌^◌, ◌<◌, ◌≤◌, ◌==◌, Bool, true, false, if◌then◌else◌, List, [], ◌∷◌, ◌++◌, length, slice_get, refl, sym, ap, ◌∙◌, inl, inr, append_assoc, length-append, arith}
use Rattle.std.specs.Prelude.{codes, decimal, nat_le, unwrap_or}
use Rattle.std.proofs.lemmas.Bool.{eqb-false, ne_eqb}
use Rattle.std.proofs.lemmas.Fmt.{decimal_injective}
use Rattle.collision_log.specs.Rows.{body_text, device_word}
use Rattle.collision_log.specs.declared.row.Body.TheVariants.{Collided, GivenUp}
use Rattle.collision_log.specs.declared.row.Row.{Row}
use Rattle.layout.specs.Sound.{device_names}
use Rattle.load_plan.proofs.PlansAreSound.{sound_of_plan}
use Rattle.load_plan.specs.declared.plan.Plan.{Plan}
use Rattle.run_texts.specs.Texts.{line_of_row}
use Rattle.run_endings.specs.LoggedCollisions.{EndsLine, HasLine, IsOneLine, log_line}
use Rattle.run_texts.proofs.HeldOctets.{AreHigh, decimal_high, device_lacks, either, holds, neither, no_feed_octet, number_lacks}
use Rattle.run_texts.proofs.RowLines.{row_feed, row_text}
use Rattle.run_endings.proofs.OctetsOfNames.{all_other, decimal_long, no_space_octet}

-- the first octet of these, and those after it
abbrev pub head : List ℕ → ℕ
head [] = 0
head (x ∷ xs) = x

abbrev tail : List ℕ → List ℕ
tail [] = []
tail (x ∷ xs) = xs

-- the line of a row, by the names of all devices, without its line feed
abbrev pub text_among : List (List ℕ) → ℕ → Row → List ℕ
text_among names stations row = row_text row (nat_le stations row.device) (unwrap_or (slice_get names row.device) [])

pub line_among : (names : List (List ℕ)) (stations : ℕ) (row : Row) → line_of_row names stations row ≡ text_among names stations row ++ codes "\n"
unfolding line_of_row
line_among names stations row = refl

-- whether the device of a row is a repeater, and its name
abbrev pub repeater_of_row : Plan → Row → Bool
repeater_of_row plan row = nat_le (length plan.layout.stations) row.device

abbrev pub name_of_row : Plan → Row → List ℕ
name_of_row plan row = unwrap_or (slice_get (device_names plan.layout) row.device) []

abbrev pub text_of_row : Plan → Row → List ℕ
text_of_row plan row = text_among (device_names plan.layout) (length plan.layout.stations) row

pub line_is : (plan : Plan) (row : Row) → log_line plan row ≡ text_of_row plan row ++ codes "\n"
line_is plan row = line_among (device_names plan.layout) (length plan.layout.stations) row

pub text_none : (plan : Plan) (row : Row) → holds 10 (text_of_row plan row) ≡ false
text_none plan row = row_feed row (repeater_of_row plan row) (name_of_row plan row) (device_lacks 10 row.device plan.layout no_feed_octet (sound_of_plan plan))

pub one_line : (plan : Plan) (row : Row) → IsOneLine (log_line plan row)
one_line plan row = record { text = text_of_row plan row; is = line_is plan row; one = all_other 10 (text_of_row plan row) (text_none plan row) }

-- the first line feed ends a line
first_feed : (xs front rest : List ℕ) → holds 10 xs ≡ false → xs ++ 10 ∷ [] ≡ front ++ 10 ∷ rest → (xs ≡ front) × (rest ≡ [])
first_feed [] [] rest none same = (refl, sym (ap tail same))
first_feed [] (f ∷ fs) rest none same = absurd (omega (arith, ap length same, length-append fs (10 ∷ rest)))
first_feed (x ∷ xs) [] rest none same = absurd (eqb-false x 10 (either (x == 10) (holds 10 xs) none).0 (ap head same))
first_feed (x ∷ xs) (f ∷ fs) rest none same =
    let more : (xs ≡ fs) × (rest ≡ []) = first_feed xs fs rest (either (x == 10) (holds 10 xs) none).1 (ap tail same) in
    (one_more x f xs fs (ap head same) more.0, more.1)
  where
    one_more : (x f : ℕ) (xs fs : List ℕ) → x ≡ f → xs ≡ fs → x ∷ xs ≡ f ∷ fs
    one_more x f xs fs one two = rw (one, two) refl

-- where a line is all that there is, each whole line is that one
pub line_alone : (text other before after : List ℕ) → holds 10 text ≡ false → EndsLine before → text ++ 10 ∷ [] ≡ before ++ (other ++ 10 ∷ []) ++ after → text ≡ other
line_alone text other before after none (inl nothing) same =
    let flat : text ++ 10 ∷ [] ≡ other ++ 10 ∷ after = same ∙ ap (λ xs. xs ++ (other ++ 10 ∷ []) ++ after) nothing ∙ append_assoc other (10 ∷ []) after in
    (first_feed text other after none flat).0
line_alone text other before after none (inr some) same =
    let flat : text ++ 10 ∷ [] ≡ some.0 ++ 10 ∷ ((other ++ 10 ∷ []) ++ after) =
    same ∙ ap (λ xs. xs ++ (other ++ 10 ∷ []) ++ after) some.1 ∙ append_assoc (some.0 ++ 10 ∷ []) (other ++ 10 ∷ []) after ∙ append_assoc some.0 (10 ∷ []) ((other ++ 10 ∷ []) ++ after) in
    let gone : (other ++ 10 ∷ []) ++ after ≡ [] = (first_feed text some.0 ((other ++ 10 ∷ []) ++ after) none flat).1 in
    absurd (omega (arith, ap length gone, length-append (other ++ 10 ∷ []) after, length-append other (10 ∷ [])))

-- the text of a row, as its number and what follows
pub text_split : (row : Row) (repeater : Bool) (name : List ℕ) → row_text row repeater name ≡ decimal row.t ++ 32 ∷ (device_word repeater ++ (name ++ 32 ∷ body_text row.body))
text_split row repeater name =
    let one : List ℕ = decimal row.t ++ codes " " in
    let two : List ℕ = one ++ device_word repeater in
    let three : List ℕ = two ++ name in
    append_assoc three (codes " ") (body_text row.body) ∙ append_assoc two name (32 ∷ body_text row.body) ∙ append_assoc one (device_word repeater) (name ++ 32 ∷ body_text row.body)
    ∙ append_assoc (decimal row.t) (codes " ") (device_word repeater ++ (name ++ 32 ∷ body_text row.body))

-- what follows the first space
abbrev rest_of : List ℕ → List ℕ
rest_of [] = []
rest_of (c ∷ cs) = if c == 32 then cs else rest_of cs

-- what comes before it
abbrev word_of : List ℕ → List ℕ
word_of [] = []
word_of (c ∷ cs) = if c == 32 then [] else c ∷ word_of cs

rest_skip : (xs ys : List ℕ) → holds 32 xs ≡ false → rest_of (xs ++ 32 ∷ ys) ≡ ys
rest_skip [] ys none = refl
rest_skip (x ∷ xs) ys none = let parts : ((x == 32) ≡ false) × (holds 32 xs ≡ false) = either (x == 32) (holds 32 xs) none in rw parts.0 (rest_skip xs ys parts.1)

word_skip : (xs ys : List ℕ) → holds 32 xs ≡ false → word_of (xs ++ 32 ∷ ys) ≡ xs
word_skip [] ys none = refl
word_skip (x ∷ xs) ys none = let parts : ((x == 32) ≡ false) × (holds 32 xs ≡ false) = either (x == 32) (holds 32 xs) none in rw parts.0 (ap (λ zs. x ∷ zs) (word_skip xs ys parts.1))

space : (n : ℕ) → holds 32 (decimal n) ≡ false
space n = number_lacks 32 n (omega arith)

device_rest : (repeater : Bool) (ys : List ℕ) → rest_of (device_word repeater ++ ys) ≡ ys
device_rest true ys = refl
device_rest false ys = refl

-- what happened, from the text of a row
body_of_text : (plan : Plan) (row : Row) → rest_of (rest_of (rest_of (text_of_row plan row))) ≡ body_text row.body
body_of_text plan row =
    let word : Bool = repeater_of_row plan row in
    let name : List ℕ = name_of_row plan row in
    let body : List ℕ = body_text row.body in
    ap (λ xs. rest_of (rest_of (rest_of xs))) (text_split row word name)
    ∙ ap (λ xs. rest_of (rest_of xs)) (rest_skip (decimal row.t) (device_word word ++ (name ++ 32 ∷ body)) (space row.t))
    ∙ ap rest_of (device_rest word (name ++ 32 ∷ body))
    ∙ rest_skip name body (device_lacks 32 row.device plan.layout no_space_octet (sound_of_plan plan))

-- a whole line of a row's line tells what that row does
pub same_body : (plan : Plan) (row line : Row) → HasLine (log_line plan row) (log_line plan line) → body_text row.body ≡ body_text line.body
same_body plan row line has =
    let flat : text_of_row plan row ++ codes "\n" ≡ has.before ++ (text_of_row plan line ++ codes "\n") ++ has.after =
    sym (line_is plan row) ∙ has.is ∙ ap (λ xs. has.before ++ xs ++ has.after) (line_is plan line) in
    let same : text_of_row plan row ≡ text_of_row plan line = line_alone (text_of_row plan row) (text_of_row plan line) has.before has.after (text_none plan row) has.begins flat in
    sym (body_of_text plan row) ∙ ap (λ xs. rest_of (rest_of (rest_of xs))) same ∙ body_of_text plan line

-- the hit in what a collision tells
abbrev hit_word : List ℕ → List ℕ
hit_word xs = word_of (rest_of (rest_of (rest_of (rest_of (rest_of (rest_of (rest_of (rest_of xs))))))))

collided_hit : (frame start attempt hit drawn : ℕ) → hit_word (body_text (Collided frame start attempt hit drawn)) ≡ decimal hit
collided_hit frame start attempt hit drawn =
    let one : List ℕ = codes "collided frame " ++ decimal frame in
    let two : List ℕ = one ++ codes " start " in
    let three : List ℕ = two ++ decimal start in
    let four : List ℕ = three ++ codes " attempt " in
    let five : List ℕ = four ++ decimal attempt in
    let six : List ℕ = five ++ codes " hit " in
    let seven : List ℕ = six ++ decimal hit in
    let end : List ℕ = codes " draw " ++ decimal drawn in
    let hits : List ℕ = codes " hit " ++ (decimal hit ++ end) in
    let attempts : List ℕ = codes " attempt " ++ (decimal attempt ++ hits) in
    let starts : List ℕ = codes " start " ++ (decimal start ++ attempts) in
    ap hit_word (append_assoc seven (codes " draw ") (decimal drawn) ∙ append_assoc six (decimal hit) end ∙ append_assoc five (codes " hit ") (decimal hit ++ end)
    ∙ append_assoc four (decimal attempt) hits ∙ append_assoc three (codes " attempt ") (decimal attempt ++ hits) ∙ append_assoc two (decimal start) attempts
    ∙ append_assoc one (codes " start ") (decimal start ++ attempts) ∙ append_assoc (codes "collided frame ") (decimal frame) starts)
    ∙ ap (λ xs. word_of (rest_of (rest_of (rest_of (rest_of (rest_of xs)))))) (rest_skip (decimal frame) (codes "start " ++ (decimal start ++ attempts)) (space frame))
    ∙ ap (λ xs. word_of (rest_of (rest_of (rest_of xs)))) (rest_skip (decimal start) (codes "attempt " ++ (decimal attempt ++ hits)) (space start))
    ∙ ap (λ xs. word_of (rest_of xs)) (rest_skip (decimal attempt) (codes "hit " ++ (decimal hit ++ end)) (space attempt))
    ∙ word_skip (decimal hit) (codes "draw " ++ decimal drawn) (space hit)

-- collisions that tell the same have the same hit
pub same_hit : (frame start attempt hit drawn f s a h d : ℕ) → hit < 2 ^ 64 → h < 2 ^ 64 → body_text (Collided frame start attempt hit drawn) ≡ body_text (Collided f s a h d) → hit ≡ h
same_hit frame start attempt hit drawn f s a h d one two same =
    decimal_injective hit h one two (sym (collided_hit frame start attempt hit drawn) ∙ ap hit_word same ∙ collided_hit f s a h d)

-- what a collision tells is not what excessive collisions tell
pub not_given_up : (frame start attempt hit drawn f s h : ℕ) → body_text (Collided frame start attempt hit drawn) ≡ body_text (GivenUp f s h) → ⊥
not_given_up frame start attempt hit drawn f s h same = omega (arith, ap head same)

head_high : (xs ys : List ℕ) → AreHigh xs → 0 < length xs → 48 ≤ head (xs ++ ys)
head_high [] ys high long = absurd (omega (arith, long))
head_high (x ∷ xs) ys high long = high.0

-- a row's line behind one octet is no whole line
pub no_infix : (plan : Plan) (first : ℕ) (row line : Row) → first < 48 → first ≢ 10 → HasLine (first ∷ log_line plan row) (log_line plan line) → ⊥
no_infix plan first row line low other has =
    let text : List ℕ = first ∷ text_of_row plan row in
    let none : holds 10 text ≡ false = neither (first == 10) (holds 10 (text_of_row plan row)) (ne_eqb first 10 other) (text_none plan row) in
    let flat : text ++ codes "\n" ≡ has.before ++ (text_of_row plan line ++ codes "\n") ++ has.after =
    ap (λ xs. first ∷ xs) (sym (line_is plan row)) ∙ has.is ∙ ap (λ xs. has.before ++ xs ++ has.after) (line_is plan line) in
    let same : text ≡ text_of_row plan line = line_alone text (text_of_row plan line) has.before has.after none has.begins flat in
    let high : 48 ≤ head (decimal line.t ++ 32 ∷ (device_word (repeater_of_row plan line) ++ (name_of_row plan line ++ 32 ∷ body_text line.body))) =
    head_high (decimal line.t) (32 ∷ (device_word (repeater_of_row plan line) ++ (name_of_row plan line ++ 32 ∷ body_text line.body))) (decimal_high line.t) (decimal_long line.t) in
    omega (arith, low, high, ap head (same ∙ text_split line (repeater_of_row plan line) (name_of_row plan line)))
