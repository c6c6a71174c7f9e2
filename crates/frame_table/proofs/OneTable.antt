-- A plan and a log have one table.
use Rattle.std.proofs.Common.{◌≡◌, ◌≢◌, ℕ, zero, suc, ◌+◌, ◌<◌, ◌≤◌, ◌==◌, cond, Bool, true, false, refl, sym, ap, ap₂, ◌∙◌, subst, inl, inr, ◌⊎◌, List, [], ◌∷◌, ◌++◌, length, Option, None, Some, option_map, count_by, arith, eq-eqb}
use Rattle.std.proofs.lemmas.Bool.{cases_Bool, cases_eq, cases_lt}
use Rattle.std.proofs.lemmas.Option.{slice_get_cases}
use Rattle.frame_layout.specs.declared.queue.Ready.{Ready}
use Rattle.layout.specs.Paths.{HasOnePath, IsPath, IsTap, Path}
use Rattle.layout.specs.Taps.{tap_of}
use Rattle.layout.specs.declared.lines.Layout.{Layout}
use Rattle.layout.specs.declared.lines.StationLine.{StationLine}
use Rattle.layout.specs.declared.ways.Attachment.TheVariants.{Station}
use Rattle.layout.specs.declared.ways.Way.TheVariants as way
use Rattle.layout.proofs.SoundTaps.{sound_one_path}
use Rattle.load_plan.proofs.PlansAreSound.{sound_of_plan}
use Rattle.load_plan.specs.declared.plan.Plan.{Plan}
use Rattle.log_meter.specs.declared.line.LogLine.{LogLine}
use Rattle.frame_table.specs.Devices.{events_of}
use Rattle.frame_table.specs.Histories.{history}
use Rattle.frame_table.specs.Reached.{half_bits_run, is_missed, is_reached, was_sent, others, reach_among, reach_of}
use Rattle.frame_table.specs.TableLaws.{HaveOneTable}
use Rattle.frame_table.specs.Tables.{frames, table_header, line_text, lines_of_frames, table_lines}
use Rattle.frame_table.specs.Ways.{AreRoutes}
use Rattle.frame_table.specs.declared.history.End.{End}
use Rattle.frame_table.specs.declared.reach.Reach.{Reach}
use Rattle.frame_table.proofs.FoundLast.{count_push_yes, count_push_no}
use Rattle.frame_table.proofs.ReachSteps.{others_same, others_more}

-- ---- there are paths from station to station

station_tap : (l : Layout) (a : ℕ) → a < length l.stations → IsTap l (Station a)
station_tap l a low =
    elim (slice_get_cases l.stations a).1 [
      | inl found ↦ (tap_of found.0, ap (option_map tap_of) found.2)
      | inr past ↦ absurd (omega (arith, past.0))
    ]

stations_differ : (a b : ℕ) → (a ≡ b → ⊥) → Station a ≢ Station b
stations_differ a b differ e = let same : a ≡ b = cc in differ same

chosen : (l : Layout) → HasOnePath l → (a b : ℕ) → (a < length l.stations) ⊎ (length l.stations ≤ a) → (b < length l.stations) ⊎ (length l.stations ≤ b) → (a ≡ b) ⊎ (a ≡ b → ⊥) → Path
chosen l one a b (inl x) (inl y) (inr z) = (one.some (Station a) (Station b) (station_tap l a x) (station_tap l b y) (stations_differ a b z)).0
chosen l one a b (inl x) (inl y) (inl z) = record { begins = way.Cable; taps = [] }
chosen l one a b (inl x) (inr y) z = record { begins = way.Cable; taps = [] }
chosen l one a b (inr x) y z = record { begins = way.Cable; taps = [] }

chosen_leads : (l : Layout) (one : HasOnePath l) (a b : ℕ) (x : (a < length l.stations) ⊎ (length l.stations ≤ a)) (y : (b < length l.stations) ⊎ (length l.stations ≤ b)) (z : (a ≡ b) ⊎ (a ≡ b → ⊥))
    → a < length l.stations → b < length l.stations → a ≢ b → IsPath l (Station a) (chosen l one a b x y z) (Station b)
unfolding chosen
chosen_leads l one a b (inl x) (inl y) (inr z) p q r = (one.some (Station a) (Station b) (station_tap l a x) (station_tap l b y) (stations_differ a b z)).1
chosen_leads l one a b (inl x) (inl y) (inl z) p q r = absurd (r z)
chosen_leads l one a b (inl x) (inr y) z p q r = absurd (omega (arith, q, y))
chosen_leads l one a b (inr x) y z p q r = absurd (omega (arith, p, x))

-- the path from station to station, where there is one
pub routes_of : (l : Layout) → HasOnePath l → ℕ → ℕ → Path
routes_of l one a b = chosen l one a b (cases_lt a (length l.stations)) (cases_lt b (length l.stations)) (cases_eq a b)

pub are_routes : (l : Layout) (one : HasOnePath l) → AreRoutes l (routes_of l one)
unfolding routes_of chosen
are_routes l one a b p q r = chosen_leads l one a b (cases_lt a (length l.stations)) (cases_lt b (length l.stations)) (cases_eq a b) p q r

pub one_path : (plan : Plan) → HasOnePath plan.layout
one_path plan = sound_one_path plan.layout (sound_of_plan plan)

-- ---- other paths give the same table

count_same : (f g : ℕ → Bool) (a m : ℕ) → ((b : ℕ) → b < m → (b == a) ≡ false → f b ≡ g b) → count_by f (others a m) ≡ count_by g (others a m)
count_same f g a zero h = refl
count_same f g a (suc m) h =
    let next : suc m ≡ m + 1 = omega arith in
    let before : count_by f (others a m) ≡ count_by g (others a m) = count_same f g a m (λ b lt apart. h b (omega arith) apart) in
    let more : count_by f (others a (m + 1)) ≡ count_by g (others a (m + 1)) =
    elim (cases_Bool (m == a)) [
      | inl same ↦ ap (count_by f) (others_same a m same) ∙ before ∙ sym (ap (count_by g) (others_same a m same))
      | inr apart ↦
          let at : f m ≡ g m = h m (omega arith) apart in
          let mid : count_by f (others a m ++ m ∷ []) ≡ count_by g (others a m ++ m ∷ []) =
          elim (cases_Bool (f m)) [
            | inl so ↦ count_push_yes f (others a m) m so ∙ ap (λ n. n + 1) before ∙ sym (count_push_yes g (others a m) m (sym at ∙ so))
            | inr not_so ↦ count_push_no f (others a m) m not_so ∙ before ∙ sym (count_push_no g (others a m) m (sym at ∙ not_so))
          ] in
          ap (count_by f) (others_more a m apart) ∙ mid ∙ sym (ap (count_by g) (others_more a m apart))
    ] in
    subst (λ n. count_by f (others a n) ≡ count_by g (others a n)) (sym next) more

-- the two agree on the paths from station a
abbrev Agree : (ℕ → ℕ → Path) → (ℕ → ℕ → Path) → ℕ → ℕ → Type 0
Agree r s n a = (b : ℕ) → b < n → (b == a) ≡ false → r a b ≡ s a b

same_reach : (a b c d : ℕ) → a ≡ b → c ≡ d → ◌≡◌ {A = Reach} (record { reached = a; missed = c }) (record { reached = b; missed = d })
same_reach a b c d p q = rw (p, q) refl

reach_same : (half_bits : ℕ) (l : Layout) (r s : ℕ → ℕ → Path) (lines : List LogLine) (octets t a n : ℕ) → Agree r s n a → reach_among half_bits l r lines octets t a n ≡ reach_among half_bits l s lines octets t a n
reach_same half_bits l r s lines octets t a n agree =
    same_reach _ _ _ _
    (count_same (λ b. is_reached l lines octets t a b (r a b)) (λ b. is_reached l lines octets t a b (s a b)) a n (λ b lt apart. ap (is_reached l lines octets t a b) (agree b lt apart)))
    (count_same (λ b. is_missed half_bits l lines octets t a b (r a b)) (λ b. is_missed half_bits l lines octets t a b (s a b)) a n (λ b lt apart. ap (is_missed half_bits l lines octets t a b) (agree b lt apart)))

reach_of_same : (half_bits : ℕ) (l : Layout) (r s : ℕ → ℕ → Path) (lines : List LogLine) (octets a : ℕ) (end : Option End) → Agree r s (length l.stations) a → reach_of half_bits l r lines octets a end ≡ reach_of half_bits l s lines octets a end
reach_of_same half_bits l r s lines octets a None agree = refl
reach_of_same half_bits l r s lines octets a (Some e) agree = ap (λ x. cond (was_sent e.outcome) (Some x) None) (reach_same half_bits l r s lines octets e.t a (length l.stations) agree)

frames_same : (plan : Plan) (r s : ℕ → ℕ → Path) (lines : List LogLine) (a : ℕ) (name : List ℕ) (n : ℕ) (q : List Ready) → Agree r s (length plan.layout.stations) a → lines_of_frames plan r lines a name n q ≡ lines_of_frames plan s lines a name n q
frames_same plan r s lines a name n [] agree = refl
frames_same plan r s lines a name n (x ∷ xs) agree =
    ap₂ (λ u v. u ++ v)
    (ap (line_text name n x (history n (events_of plan.layout a lines))) (reach_of_same (half_bits_run plan) plan.layout r s lines (length x.frame) a (history n (events_of plan.layout a lines)).end agree))
    (frames_same plan r s lines a name (n + 1) xs agree)

stations_same : (plan : Plan) (r s : ℕ → ℕ → Path) (lines : List LogLine) (a : ℕ) (ss : List StationLine) (qs : List (List Ready)) → a + length ss ≡ length plan.layout.stations
    → ((x : ℕ) → x < length plan.layout.stations → Agree r s (length plan.layout.stations) x) → table_lines plan r lines a ss qs ≡ table_lines plan s lines a ss qs
stations_same plan r s lines a [] qs long agree = refl
stations_same plan r s lines a (x ∷ xs) [] long agree = refl
stations_same plan r s lines a (x ∷ xs) (q ∷ qs) long agree =
    ap₂ (λ u v. u ++ v) (frames_same plan r s lines a x.name 1 q (agree a (omega arith))) (stations_same plan r s lines (a + 1) xs qs (omega arith) agree)

routes_agree : (l : Layout) (r s : ℕ → ℕ → Path) → HasOnePath l → AreRoutes l r → AreRoutes l s → (a : ℕ) → a < length l.stations → Agree r s (length l.stations) a
routes_agree l r s one p q a low b lt apart =
    let differ : a ≢ b = λ e. let t : (b == a) ≡ true = eq-eqb b a (sym e) in let not_so : false ≡ true = sym apart ∙ t in cc in
    one.same (Station a) (Station b) (stations_differ a b differ) (r a b) (s a b) (p a b low lt differ) (q a b low lt differ)

table_same : (plan : Plan) (r s : ℕ → ℕ → Path) (lines : List LogLine) → AreRoutes plan.layout r → AreRoutes plan.layout s → frames plan r lines ≡ frames plan s lines
unfolding frames
table_same plan r s lines p q =
    ap (λ x. table_header ++ x) (stations_same plan r s lines 0 plan.layout.stations plan.queues (omega arith) (routes_agree plan.layout r s (one_path plan) p q))

pub one_table : (plan : Plan) (lines : List LogLine) → HaveOneTable plan lines
one_table plan lines =
    let routes = routes_of plan.layout (one_path plan) in
    let are = are_routes plan.layout (one_path plan) in
    record {
      text = frames plan routes lines;
      is = record { routes = routes; are = are; told = refl };
      only = λ other h. h.told ∙ table_same plan h.routes routes lines h.are are;
    }
