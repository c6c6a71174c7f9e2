-- PREFIX.log among the files that a run writes.
use Rattle.std.proofs.Common.{◌≡◌, ℕ, true, false, List, [], ◌∷◌, ◌++◌, None, Some, refl, sym, ap, subst, ◌∙◌, inl, inr, arith}
use Rattle.std.specs.Prelude.{bytes_eq, codes, unwrap_or}
use Rattle.std.proofs.lemmas.Bool.{cases_Bool}
use Rattle.std.proofs.lemmas.Slice.Eq.{bytes_eq-Decides}
use Rattle.layout.specs.declared.lines.StationLine.{StationLine}
use Rattle.load_plan.specs.declared.plan.Plan.{Plan}
use Rattle.network.specs.Outputs.{captures}
use Rattle.network.specs.declared.outputs.Taken.{Taken}
use Rattle.outside.specs.Files.{Files, file_of, with_file}
use Rattle.outside.specs.declared.file.File.{File}
use Rattle.run_endings.specs.Runs.{capture_files, counters, log, run_files}
use Rattle.program_texts.specs.Texts.{name_of_capture, name_of_counters, name_of_log}
use Rattle.run_endings.specs.Writing.{put_all}
use Rattle.run_endings.proofs.WrittenByPieces.{file_of-with_file}

-- the last octet of these, or d where there is none
abbrev last_or : ℕ → List ℕ → ℕ
last_or d [] = d
last_or d (x ∷ xs) = last_or x xs

last_append : (d : ℕ) (xs : List ℕ) (y : ℕ) (ys : List ℕ) → last_or d (xs ++ y ∷ ys) ≡ last_or y ys
last_append d [] y ys = refl
last_append d (x ∷ xs) y ys = last_append x xs y ys

log_last : (prefix : List ℕ) → last_or 0 (name_of_log prefix) ≡ 103
unfolding name_of_log
log_last prefix = last_append 0 prefix 46 (codes "log")

counters_last : (prefix : List ℕ) → last_or 0 (name_of_counters prefix) ≡ 115
unfolding name_of_counters
counters_last prefix = last_append 0 prefix 46 (codes "counters")

capture_last : (prefix name : List ℕ) → last_or 0 (name_of_capture prefix name) ≡ 112
unfolding name_of_capture
capture_last prefix name = last_append 0 (prefix ++ codes "." ++ name) 46 (codes "pcap")

-- names that differ in their last octets differ
other_name : (a b : List ℕ) → (last_or 0 a ≡ last_or 0 b → ⊥) → bytes_eq a b ≡ false
other_name a b differ = elim (cases_Bool (bytes_eq a b)) [ inl same ↦ absurd (differ (ap (last_or 0) ((bytes_eq-Decides a b).0 same))) | inr other ↦ other ]

counters_other : (prefix : List ℕ) → bytes_eq (name_of_counters prefix) (name_of_log prefix) ≡ false
counters_other prefix = other_name (name_of_counters prefix) (name_of_log prefix) (λ same. omega (arith, same, counters_last prefix, log_last prefix))

capture_other : (prefix name : List ℕ) → bytes_eq (name_of_capture prefix name) (name_of_log prefix) ≡ false
capture_other prefix name = other_name (name_of_capture prefix name) (name_of_log prefix) (λ same. omega (arith, same, capture_last prefix name, log_last prefix))

same_other : (a b name : List ℕ) → bytes_eq a b ≡ true → bytes_eq b name ≡ false → bytes_eq a name ≡ false
same_other a b name same other = subst (λ n. bytes_eq n name ≡ false) (sym ((bytes_eq-Decides a b).0 same)) other

-- a file is as it was where another one is set
pub file_of_other : (name other octets : List ℕ) (files : Files) → bytes_eq other name ≡ false → file_of name (with_file other octets files) ≡ file_of name files
file_of_other name other octets [] apart = rw apart refl
file_of_other name other octets (f ∷ fs) apart =
    elim (cases_Bool (bytes_eq f.name other)) [
      | inl same ↦ rw (same, same_other f.name other name same apart) refl
      | inr else ↦ rw else (elim (cases_Bool (bytes_eq f.name name)) [
        | inl this ↦ rw this refl
        | inr that ↦ rw that (file_of_other name other octets fs apart)
      ])
    ]

-- none of these files has the name
abbrev pub AreOthers : List ℕ → List File → Type 0
AreOthers name [] = Unit {0}
AreOthers name (f ∷ fs) = (bytes_eq f.name name ≡ false) × AreOthers name fs

captures_others : (prefix : List ℕ) (stations : List StationLine) (taken : List (List Taken)) → AreOthers (name_of_log prefix) (capture_files prefix stations taken)
captures_others prefix [] taken = tt
captures_others prefix (s ∷ ss) [] = tt
captures_others prefix (s ∷ ss) (c ∷ cs) = (capture_other prefix s.name, captures_others prefix ss cs)

pub some_same : (a b : List ℕ) → Some a ≡ Some b → a ≡ b
some_same a b same = ap (λ o. unwrap_or o a) same

pub files_same : (a b : Files) → Some a ≡ Some b → a ≡ b
files_same a b same = ap (λ o. unwrap_or o a) same

pub put_others : (name : List ℕ) (fs : List File) (files now : Files) → AreOthers name fs → put_all fs (Some files) ≡ Some now → file_of name now ≡ file_of name files
put_others name [] files now others put = ap (file_of name) (sym (files_same files now put))
put_others name (f ∷ fs) files now others put =
    put_others name fs (with_file f.name f.octets files) now others.1 put ∙ file_of_other name f.name f.octets files others.0

-- nothing is put where nothing is told
pub put_none : (fs : List File) (files : Files) → put_all fs None ≡ Some files → ⊥
put_none [] files put = cc
put_none (f ∷ fs) files put = put_none fs files put

-- the log of a run is held once all its files are
pub log_held : (prefix : List ℕ) (plan : Plan) (old files : Files) → put_all (run_files prefix plan) (Some old) ≡ Some files → file_of (name_of_log prefix) files ≡ Some (log plan)
log_held prefix plan old files put =
    put_others (name_of_log prefix) (record { name = name_of_counters prefix; octets = counters plan } ∷ capture_files prefix plan.layout.stations (captures plan)) (with_file (name_of_log prefix) (log plan) old) files
    (counters_other prefix, captures_others prefix plan.layout.stations (captures plan)) put
    ∙ file_of-with_file (name_of_log prefix) (log plan) old
