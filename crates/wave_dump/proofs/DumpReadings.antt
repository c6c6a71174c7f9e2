-- A reader of a dump gets back what was heard.
use Rattle.std.proofs.Common.{◌≡◌, ℕ, zero, suc, ◌+◌, ◌-◌, ◌*◌, ◌<◌, ◌≤◌, ◌^◌, Bool, true, false, cond, List, [], ◌∷◌, ◌++◌, length, map, take, replicate, flat_map, codes, Some, None, refl, sym, ap, subst, ◌∙◌, arith, append_assoc, append-nil}
use Rattle.std.specs.Prelude.{Option, decimal}
use Rattle.std.specs.List.{AllByRecursion, filter, list_any, range_with_len}
use Rattle.std.proofs.Math.Seq.{take-suc}
use Rattle.std.proofs.lemmas.List.{take_all}
use Rattle.std.proofs.lemmas.List.Sums.{fold-append}
use Rattle.mac_parameters.specs.Parameters.{nanoseconds_a_half_bit}
use Rattle.manchester_line.specs.declared.Sym.{Sym}
use Rattle.manchester_line.specs.declared.Sym.TheVariants.{Idle}
use Rattle.wave_dump.specs.Changes.{is_changed, symbol_in}
use Rattle.wave_dump.specs.Dump.{first_moment, head_of_dump, lines_of_stretch, lines_of_variables, told_moment}
use Rattle.wave_dump.specs.Reading.{NoCommand, Passed, TapReader, WordReader, after_dump_octet, after_dump_octets, after_half_bits, first_word_reader, half_bits_of_symbol, known_of_dump, read_dump}
use Rattle.wave_dump.specs.WaveLaws.{DumpsAreRead, DumpsOfPlansAreRead, IsDumpName}
use Rattle.wave_dump.specs.Heard.{all_heard}
use Rattle.load_plan.specs.declared.plan.Plan.{Plan}
use Rattle.line_probe.specs.declared.tap.Tap.{Tap}
use Rattle.wave_dump.specs.Values.{line_of_time}
use Rattle.wave_dump.proofs.ProbedTaps.{length-heard_from}
use Rattle.wave_dump.proofs.RisingTimes.{no_difference}
use Rattle.wave_dump.proofs.Taken.{or_first, or_second}
use Rattle.wave_dump.proofs.TapReadings.{all_told, changed_told, names_in, new_are_in, none_settled, same_taps, symbols_in, taps_go_on, taps_in, told_values, values_lead}
use Rattle.wave_dump.proofs.WordReadings.{Leads, between, fixed, go_on, in_word, letters, more_of_name, name_goes, new_tap, new_taps, number_is_name, passed_blank, time_leads, variable_leads}

-- a number in a command that tells nothing of taps, and a blank
number_passed : (taps : List TapReader) (now n : ℕ) → n < 2 ^ 64 → Leads (between Passed taps now) (decimal n ++ 32 ∷ []) (between Passed taps now)
number_passed taps now n h =
    go_on (letters Passed taps now [] (decimal n) (name_goes (decimal n) (number_is_name n h).octets)) (passed_blank taps now (decimal n) (number_is_name n h))

-- after a name, a comma, a blank and a word
comma_passed : (taps : List TapReader) (now : ℕ) (w : List ℕ) → IsDumpName w → Leads (in_word w Passed taps now) (codes ", of ") (between Passed taps now)
comma_passed taps now w h =
    let comma : IsDumpName (w ++ codes ",") = more_of_name w (codes ",") h refl in
    go_on (go_on (letters Passed taps now w (codes ",") refl) (passed_blank taps now (w ++ codes ",") comma)) (fixed (between Passed taps now) (between Passed taps now) (codes "of ") refl)

stretch_leads : (taps : List TapReader) (now from to : ℕ) → from < 2 ^ 64 → to < 2 ^ 64 → Leads (between NoCommand taps now) (lines_of_stretch from to) (between NoCommand taps now)
unfolding lines_of_stretch
stretch_leads taps now from to small less =
    let one = number_is_name from small in
    let two = number_is_name to less in
    let three = number_is_name nanoseconds_a_half_bit (omega arith) in
    go_on (go_on (go_on (go_on (go_on (go_on (go_on (fixed (between NoCommand taps now) (between Passed taps now) (codes "$comment netsim: half bits ") refl)
    (letters Passed taps now [] (decimal from) (name_goes (decimal from) one.octets)))
    (go_on (passed_blank taps now (decimal from) one) (fixed (between Passed taps now) (between Passed taps now) (codes "to ") refl)))
    (letters Passed taps now [] (decimal to) (name_goes (decimal to) two.octets)))
    (comma_passed taps now (decimal to) two))
    (letters Passed taps now [] (decimal nanoseconds_a_half_bit) (name_goes (decimal nanoseconds_a_half_bit) three.octets)))
    (go_on (passed_blank taps now (decimal nanoseconds_a_half_bit) three) (fixed (between Passed taps now) (between NoCommand taps now) (codes "ns each $end\n") refl)))
    (fixed (between NoCommand taps now) (between NoCommand taps now) (codes "$timescale 1 ns $end\n") refl)

variables_lead : (taps : List TapReader) (now k : ℕ) (names : List (List ℕ)) → AllByRecursion IsDumpName names
    → Leads (between NoCommand taps now) (lines_of_variables k names) (between NoCommand (taps ++ new_taps k names) now)
variables_lead taps now k [] h = fixed _ _ [] (ap (λ xs. between NoCommand xs now) (sym (append-nil taps)))
variables_lead taps now k (name ∷ names) h =
    subst (λ xs. Leads (between NoCommand taps now) (lines_of_variables k (name ∷ names)) (between NoCommand xs now)) (append_assoc taps (new_tap k name ∷ []) (new_taps (k + 1) names))
    (go_on (variable_leads taps now k name h.0) (variables_lead (taps ++ new_tap k name ∷ []) now (k + 1) names h.1))

head_leads : (from to : ℕ) (names : List (List ℕ)) → from < 2 ^ 64 → to < 2 ^ 64 → AllByRecursion IsDumpName names
    → Leads (between NoCommand [] 0) (head_of_dump names from to) (between NoCommand (new_taps 0 names) 0)
unfolding head_of_dump
head_leads from to names small less h =
    let taps : List TapReader = new_taps 0 names in
    go_on (go_on (go_on (go_on (stretch_leads [] 0 from to small less)
    (fixed (between NoCommand [] 0) (between NoCommand [] 0) (codes "$scope module net $end\n") refl))
    (variables_lead [] 0 0 names h))
    (fixed (between NoCommand taps 0) (between NoCommand taps 0) (codes "$upscope $end\n") refl))
    (fixed (between NoCommand taps 0) (between NoCommand taps 0) (codes "$enddefinitions $end\n") refl)

-- what a tap was told last where half bit t was, and what it heard before
abbrev last_in : ℕ → ℕ → List Sym → Option Sym
last_in from t s = Some (symbol_in from s t)

abbrev before_in : ℕ → ℕ → List Sym → List Sym
before_in from t s = take (t - from) s

abbrev standing : ℕ → ℕ → List (List ℕ) → List (List Sym) → List TapReader
standing from t names heard = taps_in (last_in from t) (before_in from t) 0 names heard

-- a tap hears the same from half bit t on and before half bit `low`
record Lasts (from t low : ℕ) (s : List Sym) : Type 0 where
  goes : take (t - from) s ++ replicate (low - t) (symbol_in from s t) ≡ take (low - from) s
  same : symbol_in from s (low - 1) ≡ symbol_in from s t

one_half_bit : (from t : ℕ) (s : List Sym) → from ≤ t → t - from < length s → Lasts from t (t + 1) s
one_half_bit from t s order within =
    let one : t + 1 - t ≡ 1 = omega arith in
    let next : suc (t - from) ≡ t + 1 - from = omega arith in
    let back : t + 1 - 1 ≡ t = omega arith in
    record {
      goes = ap (λ n. take (t - from) s ++ replicate n (symbol_in from s t)) one ∙ sym (take-suc s (t - from) Idle within) ∙ ap (λ n. take n s) next;
      same = ap (symbol_in from s) back;
    }

replicate_more : (n : ℕ) (s : Sym) → replicate (suc n) s ≡ replicate n s ++ s ∷ []
replicate_more zero s = refl
replicate_more (suc n) s = ap (λ xs. s ∷ xs) (replicate_more n s)

one_more_half_bit : (from t low : ℕ) (s : List Sym) → from ≤ t → t < low → low - from < length s → is_changed from low s ≡ false → Lasts from t low s → Lasts from t (low + 1) s
one_more_half_bit from t low s order after within unchanged lasts =
    let heard : symbol_in from s low ≡ symbol_in from s t = sym (no_difference (symbol_in from s (low - 1)) (symbol_in from s low) unchanged) ∙ lasts.same in
    let more : low + 1 - t ≡ suc (low - t) = omega arith in
    let next : suc (low - from) ≡ low + 1 - from = omega arith in
    let back : low + 1 - 1 ≡ low = omega arith in
    let x : Sym = symbol_in from s t in
    record {
      goes = ap (λ n. take (t - from) s ++ replicate n x) more ∙ ap (λ xs. take (t - from) s ++ xs) (replicate_more (low - t) x)
          ∙ sym (append_assoc (take (t - from) s) (replicate (low - t) x) (x ∷ []))
          ∙ ap (λ xs. xs ++ x ∷ []) lasts.goes ∙ ap (λ y. take (low - from) s ++ y ∷ []) (sym heard)
          ∙ sym (take-suc s (low - from) Idle within) ∙ ap (λ n. take n s) next;
      same = ap (symbol_in from s) back ∙ heard;
    }

-- all taps hear the same so far
all_one : (from n t : ℕ) (heard : List (List Sym)) → from ≤ t → t - from < n → AllByRecursion (λ s. length s ≡ n) heard → AllByRecursion (Lasts from t (t + 1)) heard
all_one from n t [] order within h = tt
all_one from n t (s ∷ heard) order within h = (one_half_bit from t s order (omega (arith, h.0)), all_one from n t heard order within h.1)

all_more : (from n t low : ℕ) (heard : List (List Sym)) → from ≤ t → t < low → low - from < n → list_any (is_changed from low) heard ≡ false
    → AllByRecursion (λ s. length s ≡ n) heard → AllByRecursion (Lasts from t low) heard → AllByRecursion (Lasts from t (low + 1)) heard
all_more from n t low [] order after within none h lasts = tt
all_more from n t low (s ∷ heard) order after within none h lasts =
    let first = or_first (is_changed from low s) (list_any (is_changed from low) heard) none in
    let others = or_second (is_changed from low s) (list_any (is_changed from low) heard) none in
    (one_more_half_bit from t low s order after (omega (arith, h.0)) first lasts.0, all_more from n t low heard order after within others h.1 lasts.1)

-- the taps after the time of half bit `low`, and after its values
after_its_time : (from t low : ℕ) (heard : List (List Sym)) → AllByRecursion (Lasts from t low) heard
    → AllByRecursion (λ s. (last_in from t s ≡ last_in from t s) × (before_in from t s ++ half_bits_of_symbol (last_in from t s) (low - t) ≡ before_in from low s)) heard
after_its_time from t low [] h = tt
after_its_time from t low (s ∷ heard) h = ((refl, h.0.goes), after_its_time from t low heard h.1)

new_value : (b : Bool) (from t low : ℕ) (s : List Sym) → is_changed from low s ≡ b → Lasts from t low s → cond b (Some (symbol_in from s low)) (Some (symbol_in from s t)) ≡ Some (symbol_in from s low)
new_value true from t low s is lasts = refl
new_value false from t low s is lasts = ap Some (sym lasts.same ∙ no_difference (symbol_in from s (low - 1)) (symbol_in from s low) is)

after_its_values : (from t low : ℕ) (heard : List (List Sym)) → AllByRecursion (Lasts from t low) heard
    → AllByRecursion (λ s. (cond (is_changed from low s) (Some (symbol_in from s low)) (last_in from t s) ≡ last_in from low s) × (before_in from low s ≡ before_in from low s)) heard
after_its_values from t low [] h = tt
after_its_values from t low (s ∷ heard) h = ((new_value (is_changed from low s) from t low s refl h.0, refl), after_its_values from t low heard h.1)

-- one moment that is told
moment_leads : (from t low : ℕ) (names : List (List ℕ)) (heard : List (List Sym)) → nanoseconds_a_half_bit * low < 2 ^ 64 → length names ≡ length heard → AllByRecursion (Lasts from t low) heard
    → Leads (between NoCommand (standing from t names heard) t) (told_moment from heard low) (between NoCommand (standing from low names heard) low)
moment_leads from t low names heard small same lasts =
    let value : List Sym → Option Sym = λ s. cond (is_changed from low s) (Some (symbol_in from s low)) (last_in from t s) in
    let timed : map (after_half_bits (low - t)) (standing from t names heard) ≡ taps_in (last_in from t) (before_in from low) 0 names heard =
    taps_go_on (low - t) (last_in from t) (before_in from t) 0 names heard
    ∙ same_taps (last_in from t) (last_in from t) (λ s. before_in from t s ++ half_bits_of_symbol (last_in from t s) (low - t)) (before_in from low) 0 names heard (after_its_time from t low heard lasts) in
    let valued : taps_in value (before_in from low) 0 names heard ≡ standing from low names heard =
    same_taps value (last_in from low) (before_in from low) (before_in from low) 0 names heard (after_its_values from t low heard lasts) in
    go_on (subst (λ xs. Leads (between NoCommand (standing from t names heard) t) (line_of_time low) (between NoCommand xs low)) timed (time_leads (standing from t names heard) t low small))
    (subst (λ text. Leads (between NoCommand (taps_in (last_in from t) (before_in from low) 0 names heard) low) text (between NoCommand (standing from low names heard) low)) (sym (changed_told from low 0 heard))
    (subst (λ xs. Leads (between NoCommand (taps_in (last_in from t) (before_in from low) 0 names heard) low) (told_values (is_changed from low) (λ s. symbol_in from s low) 0 heard) (between NoCommand xs low)) valued
    (values_lead (is_changed from low) (λ s. symbol_in from s low) (last_in from t) (before_in from low) low 0 [] names heard none_settled same)))

-- from reader r a text is read as what was given
record Gives (r : WordReader) (text : List ℕ) (names : List (List ℕ)) (heard : List (List Sym)) (to : ℕ) : Type 0 where
  gives : known_of_dump (after_dump_octets r text) ≡ record { names = names; heard = heard; to = to }

goes_on_to : {r s : WordReader} {a b : List ℕ} {names : List (List ℕ)} {heard : List (List Sym)} {to : ℕ} → Leads r a s → Gives s b names heard to → Gives r (a ++ b) names heard to
goes_on_to {r} {s} {a} {b} one two = record { gives = ap known_of_dump (fold-append after_dump_octet r a b ∙ ap (λ q. after_dump_octets q b) one.leads) ∙ two.gives }

heard_whole : (from t to : ℕ) (heard : List (List Sym)) → AllByRecursion (λ s. length s ≡ to - from) heard → AllByRecursion (Lasts from t to) heard
    → AllByRecursion (λ s. before_in from t s ++ half_bits_of_symbol (last_in from t s) (to - t) ≡ s) heard
heard_whole from t to [] h lasts = tt
heard_whole from t to (s ∷ heard) h lasts = (lasts.0.goes ∙ take_all (to - from) s (omega (arith, h.0)), heard_whole from t to heard h.1 lasts.1)

-- the last time
last_time : (from t to : ℕ) (names : List (List ℕ)) (heard : List (List Sym)) → nanoseconds_a_half_bit * to < 2 ^ 64 → length names ≡ length heard
    → AllByRecursion (λ s. length s ≡ to - from) heard → AllByRecursion (Lasts from t to) heard → Gives (between NoCommand (standing from t names heard) t) (line_of_time to) names heard to
last_time from t to names heard small same long lasts =
    let after : List Sym → List Sym = λ s. before_in from t s ++ half_bits_of_symbol (last_in from t s) (to - t) in
    let taps : map (after_half_bits (to - t)) (standing from t names heard) ≡ taps_in (last_in from t) after 0 names heard = taps_go_on (to - t) (last_in from t) (before_in from t) 0 names heard in
    record {
      gives = ap known_of_dump ((time_leads (standing from t names heard) t to small).leads ∙ ap (λ xs. between NoCommand xs to) taps)
          ∙ ap (λ xs. record { names = xs; heard = map (λ tap. tap.symbols) (taps_in (last_in from t) after 0 names heard); to = to }) (names_in (last_in from t) after 0 names heard same)
          ∙ ap (λ xs. record { names = names; heard = xs; to = to }) (symbols_in (last_in from t) after 0 names heard same (heard_whole from t to heard long lasts));
    }

-- the moments that are told of so many half bits from `low` on
abbrev moments : ℕ → List (List Sym) → ℕ → ℕ → List ℕ
moments from heard low n = flat_map (told_moment from heard) (filter (λ u. list_any (is_changed from u) heard) (range_with_len low n))

-- half bit `low`, where half bit t was told last, and the moments after it
next_moment : (b : Bool) (n from t low to : ℕ) (names : List (List ℕ)) (heard : List (List Sym)) → list_any (is_changed from low) heard ≡ b → from ≤ t → t < low → low < to → nanoseconds_a_half_bit * to < 2 ^ 64 → length names ≡ length heard
    → AllByRecursion (λ s. length s ≡ to - from) heard → AllByRecursion (Lasts from t low) heard
    → ((u : ℕ) → from ≤ u → u < low + 1 → AllByRecursion (Lasts from u (low + 1)) heard → Gives (between NoCommand (standing from u names heard) u) (moments from heard (low + 1) n ++ line_of_time to) names heard to)
    → Gives (between NoCommand (standing from t names heard) t) (flat_map (told_moment from heard) (cond b (low ∷ filter (λ u. list_any (is_changed from u) heard) (range_with_len (low + 1) n)) (filter (λ u. list_any (is_changed from u) heard) (range_with_len (low + 1) n))) ++ line_of_time to) names heard to
next_moment false n from t low to names heard is order after before small same long lasts more =
    more t order (omega arith) (all_more from (to - from) t low heard order after (omega arith) is long lasts)
next_moment true n from t low to names heard is order after before small same long lasts more =
    subst (λ text. Gives (between NoCommand (standing from t names heard) t) text names heard to) (sym (append_assoc (told_moment from heard low) (moments from heard (low + 1) n) (line_of_time to)))
    (goes_on_to (moment_leads from t low names heard (omega arith) same lasts)
    (more low (omega arith) (omega arith) (all_one from (to - from) low heard (omega arith) (omega arith) long)))

-- the moments from half bit `low` on, and the last time
moments_give : (n from t low to : ℕ) (names : List (List ℕ)) (heard : List (List Sym)) → low + n ≡ to → from ≤ t → t < low → nanoseconds_a_half_bit * to < 2 ^ 64 → length names ≡ length heard
    → AllByRecursion (λ s. length s ≡ to - from) heard → AllByRecursion (Lasts from t low) heard
    → Gives (between NoCommand (standing from t names heard) t) (moments from heard low n ++ line_of_time to) names heard to
moments_give zero from t low to names heard at order after small same long lasts =
    let end : low ≡ to = omega arith in
    last_time from t to names heard small same long (subst (λ u. AllByRecursion (Lasts from t u) heard) end lasts)
moments_give (suc n) from t low to names heard at order after small same long lasts =
    next_moment (list_any (is_changed from low) heard) n from t low to names heard refl order after (omega arith) small same long lasts
    (λ u begun soon stay. moments_give n from u (low + 1) to names heard (omega arith) begun soon small same long stay)

-- the first moment
nothing_yet : (from : ℕ) (heard : List (List Sym)) → AllByRecursion (λ s. (Some (symbol_in from s from) ≡ last_in from from s) × ([] ≡ before_in from from s)) heard
nothing_yet from [] = tt
nothing_yet from (s ∷ heard) = let none : 0 ≡ from - from = omega arith in ((refl, ap (λ n. take n s) none), nothing_yet from heard)

abbrev no_symbol : List Sym → Option Sym
no_symbol s = None

none_last : (n : ℕ) (heard : List (List Sym)) → AllByRecursion (λ s. (no_symbol s ≡ no_symbol s) × ([] ++ half_bits_of_symbol (no_symbol s) n ≡ [])) heard
none_last n [] = tt
none_last n (s ∷ heard) = ((refl, refl), none_last n heard)

first_leads : (from : ℕ) (names : List (List ℕ)) (heard : List (List Sym)) → nanoseconds_a_half_bit * from < 2 ^ 64 → length names ≡ length heard
    → Leads (between NoCommand (new_taps 0 names) 0) (first_moment from heard) (between NoCommand (standing from from names heard) from)
first_leads from names heard small same =
    let none : List Sym → Option Sym = λ s. None in
    let empty : List Sym → List Sym = λ s. [] in
    let start : List TapReader = taps_in none empty 0 names heard in
    let first : List Sym → Option Sym = λ s. Some (symbol_in from s from) in
    let new : new_taps 0 names ≡ start = new_are_in 0 names heard same in
    let timed : map (after_half_bits (from - 0)) start ≡ start =
    taps_go_on (from - 0) none empty 0 names heard ∙ same_taps none none (λ s. [] ++ half_bits_of_symbol None (from - 0)) empty 0 names heard (none_last (from - 0) heard) in
    let valued : taps_in first empty 0 names heard ≡ standing from from names heard = same_taps first (last_in from from) empty (before_in from from) 0 names heard (nothing_yet from heard) in
    subst (λ xs. Leads (between NoCommand xs 0) (first_moment from heard) (between NoCommand (standing from from names heard) from)) (sym new)
    (go_on (go_on (go_on
    (subst (λ xs. Leads (between NoCommand start 0) (line_of_time from) (between NoCommand xs from)) timed (time_leads start 0 from small))
    (fixed (between NoCommand start from) (between NoCommand start from) (codes "$dumpvars\n") refl))
    (subst (λ text. Leads (between NoCommand start from) text (between NoCommand (standing from from names heard) from)) (sym (all_told from from 0 heard))
    (subst (λ xs. Leads (between NoCommand start from) (told_values (λ s. true) (λ s. symbol_in from s from) 0 heard) (between NoCommand xs from)) valued
    (values_lead (λ s. true) (λ s. symbol_in from s from) none empty from 0 [] names heard none_settled same))))
    (fixed (between NoCommand (standing from from names heard) from) (between NoCommand (standing from from names heard) from) (codes "$end\n") refl))

pub dumps_are_read : DumpsAreRead
unfolding read_dump
dumps_are_read names from to heard order small named same long =
    let told : List ℕ = moments from heard (from + 1) (to - (from + 1)) in
    let front : Leads (between NoCommand [] 0) (head_of_dump names from to ++ first_moment from heard) (between NoCommand (standing from from names heard) from) =
    go_on (head_leads from to names (omega arith) (omega arith) named) (first_leads from names heard (omega arith) same) in
    let all : Gives (between NoCommand [] 0) ((head_of_dump names from to ++ first_moment from heard) ++ (told ++ line_of_time to)) names heard to =
    goes_on_to front (moments_give (to - (from + 1)) from from (from + 1) to names heard (omega arith) (omega arith) (omega arith) small same long (all_one from (to - from) from heard (omega arith) (omega arith) long)) in
    ap (λ text. known_of_dump (after_dump_octets first_word_reader text)) (append_assoc (head_of_dump names from to ++ first_moment from heard) told (line_of_time to)) ∙ all.gives

-- what taps hear in the network of a plan
all_long : (plan : Plan) (taps : List Tap) (from to : ℕ) → AllByRecursion (λ s. length s ≡ to - from) (all_heard plan taps from to)
all_long plan [] from to = tt
all_long plan (tap ∷ taps) from to = (length-heard_from plan tap from (to - from), all_long plan taps from to)

as_many : (plan : Plan) (taps : List Tap) (from to : ℕ) → length (all_heard plan taps from to) ≡ length taps
as_many plan [] from to = refl
as_many plan (tap ∷ taps) from to = ap suc (as_many plan taps from to)

pub dumps_of_plans_are_read : DumpsOfPlansAreRead
dumps_of_plans_are_read plan names taps from to order small named same =
    dumps_are_read names from to (all_heard plan taps from to) order small named (same ∙ sym (as_many plan taps from to)) (all_long plan taps from to)
