-- The loads of all stations, one after the other.
use Rattle.std.proofs.Common.{◌≡◌, inl, inr, ℕ, suc, ◌+◌, ◌-◌, ◌≤◌, ◌<◌, List, [], ◌∷◌, ◌++◌, drop, length, get_or, Option, None, Some, option_map, Result, Ok, Err, refl, sym, ap, ◌∙◌, arith, append_assoc, append-nil}
use Rattle.std.proofs.Math.Seq.{drop-cons}
use Rattle.std.proofs.lemmas.Option.{slice_get-get_or}
use Rattle.std.specs.Prelude.{IfOk, IfErr, slice_get, min}
use Rattle.outside.specs.Files.{Files, file_of, IsAbsent, Rose}
use Rattle.capture_file.specs.declared.entries.Record.{Record}
use Rattle.capture_file.specs.declared.fault.CaptureFault.{CaptureFault}
use Rattle.layout.specs.declared.lines.StationLine.{StationLine}
use Rattle.load_files.specs.Loaded.{Loaded, Whole, Faulty, Absent, IsFirstAbsent, IsJudgedLoad, IsLoadOf, IsLoaded, IsLoadedSo, IsLongAs, IsStopped, IsUnloaded, IsUnloadedOf, file_then, judged_load, load_of, load_then, loaded, loaded_from, most_after, most_of_load, most_of_loads, stop_at, with_before}
use Rattle.load_files.specs.declared.load.Load.{Load}
use Rattle.load_files.specs.declared.load.Unloaded.{Unloaded}
use Rattle.load_files.specs.declared.load.Unloaded.TheVariants as unloaded

-- the limit of a load
pub most-after : (before most : ℕ) → most ≡ min most_of_load (most_of_loads - before) → most ≡ most_after before
most-after before most is = is

pub station-load : (before : ℕ) (load : Option (List ℕ)) (name : List ℕ) (held : Option Files) (most : ℕ) (r : Result Load Unloaded) → load ≡ Some name → most ≡ most_after before
    → IfOk r (λ l. IsJudgedLoad most name held (Ok l.records)) → IfOk r (λ l. IsLongAs name held l.octets) → IfOk r (λ l. IsLoadOf before load held l)
station-load before load name held most (Ok l) is same judged long = rw is (rw same at judged, long)
station-load before load name held most (Err u) is same judged long = tt

pub station-stopped : (before : ℕ) (load : Option (List ℕ)) (name : List ℕ) (held : Option Files) (most reads risen : ℕ) (r : Result Load Unloaded) → load ≡ Some name → most ≡ most_after before
    → IfErr r (λ u. IsUnloaded most name held reads risen u) → IfErr r (λ u. IsUnloadedOf before load held reads risen u)
station-stopped before load name held most reads risen (Ok l) is same stopped = tt
station-stopped before load name held most reads risen (Err u) is same stopped = rw is (rw same at stopped)

with-twice : (a b : List (List Record)) (l : Loaded) → with_before a (with_before b l) ≡ with_before (a ++ b) l
with-twice a b (Whole rs) = ap Whole (sym (append_assoc a b rs))
with-twice a b (Faulty k f) = refl
with-twice a b (Absent name) = refl

-- a load that was judged
file_good : (most before k : ℕ) (name : List ℕ) (whole : Option (List ℕ)) (rs : List Record) (count : ℕ) (next : ℕ → Loaded) → most ≡ most_after before
    → option_map (judged_load most) whole ≡ Some (Ok rs) → option_map length whole ≡ Some count → file_then before k name whole next ≡ with_before (rs ∷ []) (next count)
file_good most before k name None rs count next same judged long = cc
file_good most before k name (Some octets) rs count next same judged long =
    let good : judged_load most octets ≡ Ok rs = cc in
    let good' : judged_load (most_after before) octets ≡ Ok rs = rw same at good in
    let as_long : length octets ≡ count = cc in
    rw (good', as_long) refl

load_good : (files : Files) (before k : ℕ) (load : Option (List ℕ)) (l : Load) (next : ℕ → Loaded) → IsLoadOf before load (Some files) l → load_then files before k load next ≡ with_before (l.records ∷ []) (next l.octets)
load_good files before k None l next is = rw (is.0, is.1) refl
load_good files before k (Some name) l next is = file_good (most_after before) before k name (file_of name files) l.records l.octets next refl is.0 is.1

-- one more load
pub loaded-next : (held : Option Files) (stations : List StationLine) (so_far : List (List Record)) (before k : ℕ) (s : StationLine) (l : Load) → drop k stations ≡ s ∷ drop (k + 1) stations
    → IsLoadedSo held stations so_far before k → IsLoadOf before s.load held l → IsLoadedSo held stations (so_far ++ l.records ∷ []) (before + l.octets) (k + 1)
loaded-next None stations so_far before k s l at so is = tt
loaded-next (Some files) stations so_far before k s l at so is =
    let here : loaded files stations ≡ with_before so_far (loaded_from files before k (s ∷ drop (k + 1) stations)) = rw at at so in
    let good : load_then files before k s.load (λ count. loaded_from files (before + count) (k + 1) (drop (k + 1) stations)) ≡ with_before (l.records ∷ []) (loaded_from files (before + l.octets) (k + 1) (drop (k + 1) stations)) =
    load_good files before k s.load l (λ count. loaded_from files (before + count) (k + 1) (drop (k + 1) stations)) is in
    here ∙ ap (with_before so_far) good ∙ with-twice so_far (l.records ∷ []) (loaded_from files (before + l.octets) (k + 1) (drop (k + 1) stations))

-- all of them
pub loaded-all : (held : Option Files) (stations : List StationLine) (so_far : List (List Record)) (before k : ℕ) → drop k stations ≡ [] → IsLoadedSo held stations so_far before k → IsLoaded held stations (Whole so_far)
loaded-all None stations so_far before k at so = tt
loaded-all (Some files) stations so_far before k at so = let here : loaded files stations ≡ with_before so_far (Whole []) = rw at at so in here ∙ ap Whole (append-nil so_far)

file_bad : (most before k : ℕ) (name : List ℕ) (whole : Option (List ℕ)) (f : CaptureFault) (next : ℕ → Loaded) → most ≡ most_after before → option_map (judged_load most) whole ≡ Some (Err f) → file_then before k name whole next ≡ Faulty k f
file_bad most before k name None f next same judged = cc
file_bad most before k name (Some octets) f next same judged =
    let bad : judged_load most octets ≡ Err f = cc in
    let bad' : judged_load (most_after before) octets ≡ Err f = rw same at bad in
    rw bad' refl

file_none : (before k : ℕ) (name : List ℕ) (whole : Option (List ℕ)) (next : ℕ → Loaded) → whole ≡ None → file_then before k name whole next ≡ Absent name
file_none before k name whole next none = rw none refl

-- a failed read stays one
rose-before : (a b c : ℕ) → a ≤ b → Rose b c → Rose a c
rose-before a b c le rose = omega (arith, le, rose)

module _ (stations : List StationLine) (so_far : List (List Record)) (before k : ℕ) (s : StationLine) (at : drop k stations ≡ s ∷ drop (k + 1) stations) (name : List ℕ) (named : s.load ≡ Some name) where
  here : (files : Files) → loaded files stations ≡ with_before so_far (loaded_from files before k (drop k stations)) → loaded files stations ≡ with_before so_far (file_then before k name (file_of name files) (λ count. loaded_from files (before + count) (k + 1) (drop (k + 1) stations)))
  here files so =
      let one : loaded files stations ≡ with_before so_far (load_then files before k s.load (λ count. loaded_from files (before + count) (k + 1) (drop (k + 1) stations))) = rw at at so in
      rw named at one

  faulty-all : (held : Option Files) (f : CaptureFault) → IsLoadedSo held stations so_far before k → IsJudgedLoad (most_after before) name held (Err f) → IsLoaded held stations (Faulty k f)
  faulty-all None f so judged = tt
  faulty-all (Some files) f so judged = here files so ∙ ap (with_before so_far) (file_bad (most_after before) before k name (file_of name files) f (λ count. loaded_from files (before + count) (k + 1) (drop (k + 1) stations)) refl judged)

  absent-first : (held : Option Files) → IsLoadedSo held stations so_far before k → IsAbsent name held → IsFirstAbsent held stations name
  absent-first None so absent = absent
  absent-first (Some files) so absent = here files so ∙ ap (with_before so_far) (file_none before k name (file_of name files) (λ count. loaded_from files (before + count) (k + 1) (drop (k + 1) stations)) absent)

  stopped-named : (held : Option Files) (reads mid risen : ℕ) (u : Unloaded) → load_of stations k ≡ Some name → reads ≤ mid → IsLoadedSo held stations so_far before k → IsUnloaded (most_after before) name held mid risen u → IsStopped held stations reads risen (stop_at k u)
  stopped-named held reads mid risen (unloaded.Fault f) of le so stopped = faulty-all held f so stopped
  stopped-named held reads mid risen unloaded.Unread of le so stopped =
      (name, of, elim stopped [ inl absent ↦ inl (absent-first held so absent) | inr rose ↦ inr (rose-before reads mid risen le rose) ])
  stopped-named held reads mid risen unloaded.OutOfMemory of le so stopped = tt

load_at : (stations : List StationLine) (k : ℕ) (s : StationLine) (name : List ℕ) → slice_get stations k ≡ Some s → s.load ≡ Some name → load_of stations k ≡ Some name
load_at stations k s name is named = rw is named

-- the loads stop at one of them
pub loaded-stopped : (held : Option Files) (stations : List StationLine) (so_far : List (List Record)) (before k : ℕ) (s : StationLine) (load : Option (List ℕ)) (reads mid risen : ℕ) (u : Unloaded)
    → drop k stations ≡ s ∷ drop (k + 1) stations → slice_get stations k ≡ Some s → s.load ≡ load → reads ≤ mid → IsLoadedSo held stations so_far before k → IsUnloadedOf before load held mid risen u → IsStopped held stations reads risen (stop_at k u)
loaded-stopped held stations so_far before k s None reads mid risen u at is load le so stopped = rw stopped tt
loaded-stopped held stations so_far before k s (Some name) reads mid risen u at is load le so stopped =
    stopped-named stations so_far before k s at name load held reads mid risen u (load_at stations k s name is load) le so stopped

with-none : (l : Loaded) → l ≡ with_before [] l
with-none (Whole rs) = refl
with-none (Faulty k f) = refl
with-none (Absent name) = refl

-- nothing is read yet
pub loaded-none : (held : Option Files) (stations : List StationLine) → IsLoadedSo held stations [] 0 0
unfolding loaded
loaded-none None stations = tt
loaded-none (Some files) stations = with-none (loaded_from files 0 0 stations)

-- an element, and what follows it
pub element-at : {X : Type 0} (xs : List X) (k : ℕ) (x : X) → k < length xs → x ≡ get_or xs k x → (drop k xs ≡ x ∷ drop (k + 1) xs) × (slice_get xs k ≡ Some x)
element-at xs k x lt is =
    let next : suc k ≡ k + 1 = omega arith in
    let rest : drop k xs ≡ get_or xs k x ∷ drop (k + 1) xs = rw next at (drop-cons xs k x lt) in
    (rest ∙ ap (λ y. y ∷ drop (k + 1) xs) (sym is), slice_get-get_or xs k x lt ∙ ap Some (sym is))

pub held-same : (before : ℕ) (load : Option (List ℕ)) (held same : Option Files) (reads risen : ℕ) (u : Unloaded) → same ≡ held → IsUnloadedOf before load same reads risen u → IsUnloadedOf before load held reads risen u
held-same before load held same reads risen u is stopped = rw is at stopped
