-- From tallies in order of their names come the figures of the devices that have these names.
use Rattle.std.proofs.Common.{◌≡◌, ℕ, zero, suc, Bool, true, false, List, [], ◌∷◌, ◌++◌, map, if◌then◌else◌, refl, sym, ap, ◌∙◌, arith, inl, inr}
use Rattle.std.specs.Borrow.{Bor}
use Rattle.std.specs.BTreeMap.{BTreeMap, IsOrdered, is_at}
use Rattle.std.specs.Cmp.Lexicographic.{slice_cmp}
use Rattle.std.specs.List.{AllByRecursion, list_any}
use Rattle.std.specs.List.Sorted.{IsStrictlySortedBy}
use Rattle.std.specs.Map.{keys_of, lookup}
use Rattle.std.specs.Ordering.{is_eq, nat_cmp}
use Rattle.std.specs.Prelude.{Contains, unwrap_or}
use Rattle.std.specs.declared.cmp.Ordering.{Ordering}
use Rattle.std.specs.declared.cmp.Ordering.TheVariants.{Less}
use Rattle.std.proofs.lemmas.Bool.{cases_Bool}
use Rattle.std.proofs.lemmas.Cmp.{nat_list_cmp_total, on_total}
use Rattle.std.proofs.lemmas.List.Elements.{All-from_recursion, recursion_from_All, Contains-append_cases, Contains-append_right}
use Rattle.std.proofs.lemmas.Map.Text.{is_eq-slice_cmp}
use Rattle.std.proofs.lemmas.Map.Views.{All-found}
use Rattle.std.proofs.lemmas.Slice.Eq.{bytes_eq-Decides}
use Rattle.log_meter.specs.Figures.{AreFigures, AreNamesOf, is_of_repeater_named, is_of_station, repeater_figures, station_figures}
use Rattle.log_meter.specs.Tallies.{AreTalliesOf, empty_tally, repeaters_named, stations_named, name_tally}
use Rattle.log_meter.specs.declared.device_figures.Figures.{Figures}
use Rattle.log_meter.specs.declared.device_figures.RepeaterFigures.{RepeaterFigures}
use Rattle.log_meter.specs.declared.device_figures.StationFigures.{StationFigures}
use Rattle.log_meter.specs.declared.line.LogLine.{LogLine}
use Rattle.log_meter.specs.declared.tally.Tally.{Tally}

-- a name and its tally
abbrev pub Named : Type 0
Named = Bor (List ℕ) × Tally

-- the order of keys
abbrev pub by_octets : Bor (List ℕ) → Bor (List ℕ) → Ordering
by_octets x y = slice_cmp nat_cmp x.now y.now

-- the tally is that of the name's lines
abbrev pub IsTold : List LogLine → Named → Type 0
IsTold lines e = e.1 ≡ name_tally lines e.0.now

-- the names whose tallies pass the test
abbrev pub names_where : (Tally → Bool) → List Named → List (List ℕ)
names_where pick [] = []
names_where pick (e ∷ es) = (if pick e.1 then e.0.now ∷ [] else []) ++ names_where pick es

-- ---- the figures are those of the names

stations_told : (lines : List LogLine) (es : List Named) → AllByRecursion (IsTold lines) es → AllByRecursion (λ f. f ≡ station_figures lines f.name) (stations_named es)
stations_told lines [] all = tt
stations_told lines (e ∷ es) all =
    elim (cases_Bool e.1.station) [
      | inl is ↦ rw is (rw all.0 refl, stations_told lines es all.1)
      | inr none ↦ rw none (stations_told lines es all.1)
    ]

repeaters_told : (lines : List LogLine) (es : List Named) → AllByRecursion (IsTold lines) es → AllByRecursion (λ f. f ≡ repeater_figures lines f.name) (repeaters_named es)
repeaters_told lines [] all = tt
repeaters_told lines (e ∷ es) all =
    elim (cases_Bool e.1.repeater) [
      | inl is ↦ rw is (rw all.0 refl, repeaters_told lines es all.1)
      | inr none ↦ rw none (repeaters_told lines es all.1)
    ]

names_of_stations : (es : List Named) → map (λ (f : StationFigures). f.name) (stations_named es) ≡ names_where (λ t. t.station) es
names_of_stations [] = refl
names_of_stations (e ∷ es) =
    elim (cases_Bool e.1.station) [
      | inl is ↦ rw is (ap (λ ns. e.0.now ∷ ns) (names_of_stations es))
      | inr none ↦ rw none (names_of_stations es)
    ]

names_of_repeaters : (es : List Named) → map (λ (f : RepeaterFigures). f.name) (repeaters_named es) ≡ names_where (λ t. t.repeater) es
names_of_repeaters [] = refl
names_of_repeaters (e ∷ es) =
    elim (cases_Bool e.1.repeater) [
      | inl is ↦ rw is (ap (λ ns. e.0.now ∷ ns) (names_of_repeaters es))
      | inr none ↦ rw none (names_of_repeaters es)
    ]

-- ---- the names are in order

below_names : (pick : Tally → Bool) (key : Bor (List ℕ)) (es : List Named) → AllByRecursion (λ y. by_octets key y ≡ Less) (keys_of es)
    → AllByRecursion (λ y. slice_cmp nat_cmp key.now y ≡ Less) (names_where pick es)
below_names pick key [] all = tt
below_names pick key (e ∷ es) all =
    elim (cases_Bool (pick e.1)) [
      | inl is ↦ rw is (all.0, below_names pick key es all.1)
      | inr none ↦ rw none (below_names pick key es all.1)
    ]

names_in_order : (pick : Tally → Bool) (es : List Named) → IsStrictlySortedBy by_octets (keys_of es) → IsStrictlySortedBy (slice_cmp nat_cmp) (names_where pick es)
unfolding IsStrictlySortedBy
names_in_order pick [] h = tt
names_in_order pick (e ∷ es) h =
    elim (cases_Bool (pick e.1)) [
      | inl is ↦ rw is (below_names pick e.0 es h.0, names_in_order pick es h.1)
      | inr none ↦ rw none (names_in_order pick es h.1)
    ]

-- ---- the names are those of the devices

no_name : (q : List ℕ) {A : Type 0} → Contains {X = List ℕ} [] q → A
no_name q h = absurd (omega (arith, h.1))

one_name : (n q : List ℕ) → Contains (n ∷ []) q → n ≡ q
one_name n q (zero, lt, e) = e
one_name n q (suc k, lt, e) = absurd (omega arith)

name_is_told : (lines : List LogLine) (pick : Tally → Bool) (q : List ℕ) (es : List Named) → AllByRecursion (IsTold lines) es
    → Contains (names_where pick es) q → pick (name_tally lines q) ≡ true
name_is_told lines pick q [] all h = no_name q h
name_is_told lines pick q (e ∷ es) all h =
    elim (cases_Bool (pick e.1)) [
      | inl is ↦
          elim (Contains-append_cases (e.0.now ∷ []) (names_where pick es) q (rw is at h)) [
            | inl here ↦ rw (← one_name e.0.now q here, ← all.0) is
            | inr later ↦ name_is_told lines pick q es all.1 later
          ]
      | inr none ↦ name_is_told lines pick q es all.1 (rw none at h)
    ]

name_is_listed : (pick : Tally → Bool) (q : List ℕ) (es : List Named) → pick empty_tally ≡ false
    → pick (unwrap_or (lookup (is_at (λ (k : Bor (List ℕ)). slice_cmp nat_cmp q k.now)) es) empty_tally) ≡ true → Contains (names_where pick es) q
name_is_listed pick q [] none h = cc (sym none, h)
name_is_listed pick q (e ∷ es) none h =
    elim (cases_Bool (is_eq (slice_cmp nat_cmp q e.0.now))) [
      | inl same ↦
          let is : q ≡ e.0.now = (bytes_eq-Decides q e.0.now).0 (sym (is_eq-slice_cmp q e.0.now) ∙ same) in
          rw (rw same at h) (0, omega arith, sym is)
      | inr apart ↦ Contains-append_right (if pick e.1 then e.0.now ∷ [] else []) (names_where pick es) q (name_is_listed pick q es none (rw apart at h))
    ]

-- ---- all of it

-- each entry tells of its name
all_told : (lines : List LogLine) (m : BTreeMap (Bor (List ℕ)) Tally) → IsOrdered by_octets m → AreTalliesOf lines m → AllByRecursion (IsTold lines) m.entries
all_told lines m ordered told =
    recursion_from_All (IsTold lines) m.entries
    (λ k d lt. sym (ap (λ o. unwrap_or o empty_tally) (All-found (on_total (λ (x : Bor (List ℕ)). x.now) nat_list_cmp_total) m ordered k d lt)) ∙ told _)

names_listed : (lines : List LogLine) (test : List ℕ → LogLine → Bool) (pick : Tally → Bool) (m : BTreeMap (Bor (List ℕ)) Tally) (names : List (List ℕ))
    → IsOrdered by_octets m → AreTalliesOf lines m → pick empty_tally ≡ false
    → ((q : List ℕ) → pick (name_tally lines q) ≡ list_any (test q) lines)
    → names ≡ names_where pick m.entries → AreNamesOf test lines names
names_listed lines test pick m names ordered told none means is =
    rw is (record {
      order = names_in_order pick m.entries ordered;
      named = λ q. (
        λ h. sym (means q) ∙ name_is_told lines pick q m.entries (all_told lines m ordered told) h,
        λ h. name_is_listed pick q m.entries none (ap pick (told q) ∙ means q ∙ h),
      );
    })

pub figures_listed : (lines : List LogLine) (m : BTreeMap (Bor (List ℕ)) Tally) (figures : Figures) → IsOrdered by_octets m → AreTalliesOf lines m
    → figures.stations ≡ stations_named m.entries → figures.repeaters ≡ repeaters_named m.entries → AreFigures lines figures
figures_listed lines m figures ordered told stations repeaters =
    record {
      stations = names_listed lines is_of_station (λ t. t.station) m _ ordered told refl (λ q. refl) (ap (map (λ (f : StationFigures). f.name)) stations ∙ names_of_stations m.entries);
      repeaters = names_listed lines is_of_repeater_named (λ t. t.repeater) m _ ordered told refl (λ q. refl) (ap (map (λ (f : RepeaterFigures). f.name)) repeaters ∙ names_of_repeaters m.entries);
      of_stations = rw stations (All-from_recursion _ _ (stations_told lines m.entries (all_told lines m ordered told)));
      of_repeaters = rw repeaters (All-from_recursion _ _ (repeaters_told lines m.entries (all_told lines m ordered told)));
    }
