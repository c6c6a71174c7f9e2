-- Files that are written one after the other.
use Rattle.std.proofs.Common.{◌≡◌, ◌⊎◌, ℕ, zero, suc, ◌+◌, ◌<◌, ◌≤◌, List, [], ◌∷◌, drop, length, get_or, Option, Result, Ok, Err, OnOk, OnErr, refl, sym, ap, ◌∙◌, inl, inr, arith}
use Rattle.std.specs.Prelude.{min, nat_le}
use Rattle.std.proofs.Math.Seq.{drop-cons}
use Rattle.std.proofs.lemmas.Bool.{cases_Bool, leb-true, leb-false}
use Rattle.layout.specs.declared.lines.StationLine.{StationLine}
use Rattle.network.specs.declared.outputs.Taken.{Taken}
use Rattle.outside.specs.Files.{Files}
use Rattle.outside.specs.declared.file.File.{File}
use Rattle.run_endings.specs.Writing.{IsBroken, IsBrokenAmong, put_file, put_all}
use Rattle.run_endings.specs.Runs.{capture_files}
use Rattle.program_texts.specs.Texts.{name_of_capture}
use Rattle.run_texts.specs.Captures.{pcap_of_taken}

-- by the name and the text that it is asked for
pub broken-same : (E : Type 0) (r : Result (Unit {0}) E) (name called text is : List ℕ) (before now : Option Files) → name ≡ called → text ≡ is → OnErr r (IsBroken name text before now) → OnErr r (IsBroken called is before now)
broken-same E (Ok u) name called text is before now one two broken = tt
broken-same E (Err e) name called text is before now one two broken = rw (one, two) at broken

pub put-same : (E : Type 0) (r : Result (Unit {0}) E) (name called text is : List ℕ) (before now : Option Files) → name ≡ called → text ≡ is → OnOk r (now ≡ put_file name text before) → OnOk r (now ≡ put_file called is before)
put-same E (Ok u) name called text is before now one two done = rw (one, two) at done
put-same E (Err e) name called text is before now one two done = tt

-- what is left of files to be written, once those before are whole
pub record IsLeft (all rest : List File) (before now : Option Files) : Type 0 where
  pub whole : put_all all before ≡ put_all rest now
  pub broken : (after : Option Files) → IsBrokenAmong rest now after → IsBrokenAmong all before after

pub left-all : (all : List File) (before : Option Files) → IsLeft all all before before
left-all all before = record { whole = refl; broken = λ after b. b }

pub left-next : (all rest : List File) (f : File) (before now next : Option Files) → next ≡ put_file f.name f.octets now → IsLeft all (f ∷ rest) before now → IsLeft all rest before next
left-next all rest f before now next is left = rw is (record { whole = left.whole; broken = λ after b. left.broken after (inr b) })

drop-past : {X : Type 0} (xs : List X) (k : ℕ) → length xs ≤ k → drop k xs ≡ []
drop-past [] zero le = refl
drop-past [] (suc k) le = refl
drop-past (x ∷ xs) zero le = absurd (omega arith)
drop-past (x ∷ xs) (suc k) le = drop-past xs k (omega arith)

either-past : (a b k : ℕ) → min a b ≤ k → (a ≤ k) ⊎ (b ≤ k)
either-past a b k past = elim (cases_Bool (nat_le a k)) [ inl t ↦ inl (leb-true a k t) | inr f ↦ inr (omega (arith, past, leb-false a k f)) ]

capture-next : (prefix : List ℕ) (stations ss : List StationLine) (captures cs : List (List Taken)) (s : StationLine) (c : List Taken) → stations ≡ s ∷ ss → captures ≡ c ∷ cs
    → capture_files prefix stations captures ≡ record { name = name_of_capture prefix s.name; octets = pcap_of_taken c } ∷ capture_files prefix ss cs
capture-next prefix stations ss captures cs s c one two = rw (one, two) refl

-- the k-th capture, and what follows it
pub captures-next : (prefix : List ℕ) (stations : List StationLine) (captures : List (List Taken)) (k : ℕ) (s : StationLine) (c : List Taken) → k < length stations → k < length captures
    → s ≡ get_or stations k s → c ≡ get_or captures k c
    → capture_files prefix (drop k stations) (drop k captures) ≡ record { name = name_of_capture prefix s.name; octets = pcap_of_taken c } ∷ capture_files prefix (drop (k + 1) stations) (drop (k + 1) captures)
captures-next prefix stations captures k s c one two ss cs =
    let next : suc k ≡ k + 1 = omega arith in
    let a : drop k stations ≡ get_or stations k s ∷ drop (k + 1) stations = rw next at (drop-cons stations k s one) in
    let b : drop k captures ≡ get_or captures k c ∷ drop (k + 1) captures = rw next at (drop-cons captures k c two) in
    capture-next prefix (drop k stations) (drop (k + 1) stations) (drop k captures) (drop (k + 1) captures) s c (a ∙ ap (λ y. y ∷ drop (k + 1) stations) (sym ss)) (b ∙ ap (λ y. y ∷ drop (k + 1) captures) (sym cs))

no-stations : (prefix : List ℕ) (stations : List StationLine) (captures : List (List Taken)) → stations ≡ [] → capture_files prefix stations captures ≡ []
no-stations prefix stations captures none = rw none refl

no-captures : (prefix : List ℕ) (stations : List StationLine) (captures : List (List Taken)) → captures ≡ [] → capture_files prefix stations captures ≡ []
no-captures prefix [] captures none = refl
no-captures prefix (s ∷ ss) captures none = rw none refl

-- all captures
pub captures-end : (prefix : List ℕ) (stations : List StationLine) (captures : List (List Taken)) (k : ℕ) → min (length stations) (length captures) ≤ k → capture_files prefix (drop k stations) (drop k captures) ≡ []
captures-end prefix stations captures k past =
    elim (either-past (length stations) (length captures) k past) [
      | inl one ↦ no-stations prefix (drop k stations) (drop k captures) (drop-past stations k one)
      | inr two ↦ no-captures prefix (drop k stations) (drop k captures) (drop-past captures k two)
    ]

pub on-err : (E : Type 0) (r : Result (Unit {0}) E) (X : Type 0) → X → OnErr r X
on-err E (Ok u) X x = tt
on-err E (Err e) X x = x

-- the first of what is left is broken
pub left-broken : (all rest rest' : List File) (f : File) (before now after : Option Files) → rest ≡ f ∷ rest' → IsLeft all rest before now → IsBroken f.name f.octets now after → IsBrokenAmong all before after
left-broken all rest rest' f before now after is left broken = left.broken after (rw is (inl broken))

-- nothing is left
pub left-none : (all rest : List File) (before now : Option Files) → rest ≡ [] → IsLeft all rest before now → now ≡ put_all all before
left-none all rest before now none left = let whole : put_all all before ≡ now = rw none at left.whole in sym whole

-- one more is whole
pub left-more : (all rest rest' : List File) (f : File) (before now next : Option Files) → rest ≡ f ∷ rest' → next ≡ put_file f.name f.octets now → IsLeft all rest before now → IsLeft all rest' before next
left-more all rest rest' f before now next is more left = left-next all rest' f before now next more (rw is at left)
