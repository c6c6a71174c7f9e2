-- The table, line by line and station by station.
use Rattle.std.proofs.Common.{◌≡◌, ℕ, zero, suc, ◌+◌, ◌<◌, ◌≤◌, refl, sym, ap, ap₂, ◌∙◌, List, [], ◌∷◌, ◌++◌, length, drop, Option, Some, append_assoc, append-nil, arith, slice_get}
use Rattle.std.proofs.lemmas.List.{drop_all}
use Rattle.frame_layout.specs.declared.queue.Ready.{Ready}
use Rattle.layout.specs.Paths.{Path}
use Rattle.layout.specs.declared.lines.StationLine.{StationLine}
use Rattle.load_plan.specs.declared.plan.Plan.{Plan}
use Rattle.log_meter.specs.declared.line.LogLine.{LogLine}
use Rattle.frame_table.specs.Devices.{events_of}
use Rattle.frame_table.specs.Histories.{history}
use Rattle.frame_table.specs.Reached.{half_bits_run, reach_of}
use Rattle.frame_table.specs.Tables.{frames, line_of_frame, line_text, lines_of_frames, table_header, table_lines}
use Rattle.frame_table.specs.declared.history.History.{History}
use Rattle.frame_table.specs.declared.reach.Reach.{Reach}

-- the fields of a frame's attempts, one put behind the other
pub fields_joined : (t a b c d e s t1 t2 t3 t4 t5 t6 : List ℕ) → t1 ≡ t ++ a ++ s → t2 ≡ t1 ++ b ++ s → t3 ≡ t2 ++ c ++ s → t4 ≡ t3 ++ d ++ s → t5 ≡ t4 ++ e → t6 ≡ t5 ++ s
    → t6 ≡ t ++ (a ++ s ++ b ++ s ++ c ++ s ++ d ++ s ++ e ++ s)
fields_joined t a b c d e s t1 t2 t3 t4 t5 t6 one two three four five six =
    rw (six, five, four, three, two, one) (simp append_assoc)

-- the line that was made is that of the frame
pub line_made : (plan : Plan) (paths : ℕ → ℕ → Path) (lines : List LogLine) (a n number half_bits octets : ℕ) (s : StationLine) (r ready : Ready) (name : List ℕ) (past : History) (reach : Option Reach) → name ≡ s.name → number ≡ n → ready ≡ r
    → past ≡ history n (events_of plan.layout a lines) → half_bits ≡ half_bits_run plan → octets ≡ length ready.frame → reach ≡ reach_of half_bits plan.layout paths lines octets a past.end
    → line_text name number ready past reach ≡ line_of_frame plan paths lines a s.name n r
line_made plan paths lines a n number half_bits octets s r ready name past reach name_is number_is ready_is past_is half_is octets_is reach_is =
    rw (reach_is, octets_is, half_is, past_is, ready_is, number_is, name_is) refl

drop_got : {X : Type 0} (xs : List X) (k : ℕ) (x : X) → slice_get xs k ≡ Some x → drop k xs ≡ x ∷ drop (k + 1) xs
drop_got [] k x e = absurd (cc)
drop_got (y ∷ ys) zero x e = let same : y ≡ x = cc in ap (λ z. z ∷ ys) same
drop_got (y ∷ ys) (suc k) x e = let more : suc k + 1 ≡ suc (k + 1) = omega arith in rw more (drop_got ys k x e)

pub got_at : {X : Type 0} (xs : List X) (k : ℕ) → k < length xs → (x : X) × (slice_get xs k ≡ Some x)
got_at [] k lt = absurd (omega arith)
got_at (x ∷ xs) zero lt = (x, refl)
got_at (x ∷ xs) (suc k) lt = got_at xs k (omega arith)

joined : (text line rest new all : List ℕ) → new ≡ text ++ line → text ++ (line ++ rest) ≡ all → new ++ rest ≡ all
joined text line rest new all is before = ap (λ xs. xs ++ rest) is ∙ append_assoc text line rest ∙ before

-- one more line
pub frames_more : (plan : Plan) (paths : ℕ → ℕ → Path) (lines : List LogLine) (a : ℕ) (name : List ℕ) (n : ℕ) (q : List Ready) (r : Ready) (text new all : List ℕ) → slice_get q n ≡ Some r
    → new ≡ text ++ line_of_frame plan paths lines a name (n + 1) r → text ++ lines_of_frames plan paths lines a name (n + 1) (drop n q) ≡ all → new ++ lines_of_frames plan paths lines a name (n + 1 + 1) (drop (n + 1) q) ≡ all
frames_more plan paths lines a name n q r text new all got is before =
    joined text (line_of_frame plan paths lines a name (n + 1) r) (lines_of_frames plan paths lines a name (n + 1 + 1) (drop (n + 1) q)) new all is
    (sym (ap (λ xs. text ++ lines_of_frames plan paths lines a name (n + 1) xs) (drop_got q n r got)) ∙ before)

-- after the last
pub frames_end : (plan : Plan) (paths : ℕ → ℕ → Path) (lines : List LogLine) (a : ℕ) (name : List ℕ) (n : ℕ) (q : List Ready) (text all : List ℕ) → length q ≤ n
    → text ++ lines_of_frames plan paths lines a name (n + 1) (drop n q) ≡ all → text ≡ all
frames_end plan paths lines a name n q text all past before =
    sym (append-nil text) ∙ sym (ap (λ xs. text ++ lines_of_frames plan paths lines a name (n + 1) xs) (drop_all n q past)) ∙ before

-- the lines of one more station
pub stations_more : (plan : Plan) (paths : ℕ → ℕ → Path) (lines : List LogLine) (a : ℕ) (ss : List StationLine) (qs : List (List Ready)) (s : StationLine) (q : List Ready) (text new all : List ℕ) → slice_get ss a ≡ Some s → slice_get qs a ≡ Some q
    → new ≡ text ++ lines_of_frames plan paths lines a s.name 1 q → text ++ table_lines plan paths lines a (drop a ss) (drop a qs) ≡ all → new ++ table_lines plan paths lines (a + 1) (drop (a + 1) ss) (drop (a + 1) qs) ≡ all
stations_more plan paths lines a ss qs s q text new all s_is q_is is before =
    joined text (lines_of_frames plan paths lines a s.name 1 q) (table_lines plan paths lines (a + 1) (drop (a + 1) ss) (drop (a + 1) qs)) new all is
    (sym (ap₂ (λ xs ys. text ++ table_lines plan paths lines a xs ys) (drop_got ss a s s_is) (drop_got qs a q q_is)) ∙ before)

-- after the last station
pub stations_end : (plan : Plan) (paths : ℕ → ℕ → Path) (lines : List LogLine) (a : ℕ) (ss : List StationLine) (qs : List (List Ready)) (text all : List ℕ) → length ss ≤ a
    → text ++ table_lines plan paths lines a (drop a ss) (drop a qs) ≡ all → text ≡ all
stations_end plan paths lines a ss qs text all past before =
    sym (append-nil text) ∙ sym (ap (λ xs. text ++ table_lines plan paths lines a xs (drop a qs)) (drop_all a ss past)) ∙ before

-- the whole table
pub frames_are : (plan : Plan) (paths : ℕ → ℕ → Path) (lines : List LogLine) → table_header ++ table_lines plan paths lines 0 plan.layout.stations plan.queues ≡ frames plan paths lines
unfolding frames
frames_are plan paths lines = refl
