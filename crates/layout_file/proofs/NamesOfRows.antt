-- Names of rows: where the first of a name stands, and that no two are equal.
use Rattle.std.proofs.Common.{◌≡◌, ◌≢◌, ℕ, zero, suc, ◌+◌, ◌/◌, ◌<◌, true, false, not, List, [], ◌∷◌, ◌++◌, length, get_or, Option, None, Some, refl, sym, ap, ◌∙◌, arith, inl, inr, bytes_eq, append_assoc, append-nil, Ordering}
use Rattle.std.specs.Cmp.Lexicographic.{slice_cmp}
use Rattle.std.specs.Ordering.{nat_cmp, is_eq, match_ordering}
use Rattle.std.proofs.lemmas.Bool.{or_parts, not-false, false≢true, true≢false, cases_Bool}
use Rattle.std.proofs.lemmas.List.Quantifiers.{all_pairs_push}
use Rattle.std.proofs.lemmas.Map.Text.{is_eq-slice_cmp}
use Rattle.std.proofs.lemmas.Slice.Eq.{bytes_eq-Decides}
use Rattle.toml.specs.Data.{Data, Members, no_members, member, get_member}
use Rattle.layout_file.specs.declared.rules.Rule.{Rule}
use Rattle.layout_file.specs.JointFaults.{first_same}
use Rattle.layout_file.specs.Lines.{place_from, place_of}
use Rattle.layout_file.specs.RowFaults.{is_among}
use Rattle.layout.specs.Sound.{AreDifferent}
use Rattle.layout_file.specs.TextValues.{octets_of_digits}
use Rattle.layout_file.specs.Tree.{is_listed, has_stranger, names_of}
use Rattle.layout_file.proofs.RowsWithoutFault.{if-none}

-- the first place of a name, where the places are counted from n
record IsPlaced (n : ℕ) (names : List (List ℕ)) (x : List ℕ) : Type 0 where
  place : ℕ
  found : place_from n names x ≡ Some (n + place)
  within : place < length names
  there : get_or names place [] ≡ x

placed_from : (n : ℕ) (names : List (List ℕ)) (x : List ℕ) → is_among x names ≡ true → IsPlaced n names x
placed_from n [] x h = absurd (false≢true h)
placed_from n (y ∷ ys) x h =
    elim (cases_Bool (bytes_eq y x)) [
      | inl same ↦ record {
        place = 0;
        found = let e : n + 0 ≡ n = omega arith in rw (same, e) refl;
        within = omega arith;
        there = (bytes_eq-Decides y x).0 same;
      }
      | inr other ↦
          let p = placed_from (n + 1) ys x (rw other at h) in
          record {
            place = suc p.place;
            found = let e : n + suc p.place ≡ (n + 1) + p.place = omega arith in rw (other, e) p.found;
            within = let h : p.place < length ys = p.within in omega arith;
            there = p.there;
          }
    ]

-- a name among these has its place among them
pub place_within : (names : List (List ℕ)) (x : List ℕ) → is_among x names ≡ true → place_of names x < length names
place_within names x h =
    let p = placed_from 0 names x h in
    let w : p.place < length names = p.within in
    rw p.found (omega arith)

pub place_there : (names : List (List ℕ)) (x : List ℕ) → is_among x names ≡ true → get_or names (place_of names x) [] ≡ x
place_there names x h =
    let p = placed_from 0 names x h in
    let e : 0 + p.place ≡ p.place = omega arith in
    rw (p.found, e) p.there

pub length-names_of : (rows : List Members) → length (names_of rows) ≡ length rows
length-names_of [] = refl
length-names_of (ms ∷ rows) = ap (λ n. suc n) (length-names_of rows)

-- x is none of these names
none_among : (names : List (List ℕ)) (x : List ℕ) → is_among x names ≡ false → (k : ℕ) (d : List ℕ) → k < length names → get_or names k d ≢ x
none_among [] x h k d within = absurd (omega arith)
none_among (y ∷ ys) x h zero d within = λ e. true≢false (sym ((bytes_eq-Decides y x).1 e) ∙ (or_parts (bytes_eq y x) (is_among x ys) h).0)
none_among (y ∷ ys) x h (suc k) d within = none_among ys x (or_parts (bytes_eq y x) (is_among x ys) h).1 k d (omega arith)

different_from : (earlier : List (List ℕ)) (n : ℕ) (names : List (List ℕ)) → first_same earlier n names ≡ None → AreDifferent earlier → AreDifferent (earlier ++ names)
different_from earlier n [] h before = rw append-nil before
different_from earlier n (x ∷ xs) h before =
    let p = if-none (is_among x earlier) n (first_same (earlier ++ x ∷ []) (n + 1) xs) h in
    let more : AreDifferent (earlier ++ x ∷ []) = all_pairs_push (λ a b. a ≢ b) earlier x before (none_among earlier x p.0) in
    rw (← append_assoc earlier (x ∷ []) xs) (different_from (earlier ++ x ∷ []) (n + 1) xs p.1 more)

-- where no name is that of an earlier one, they are different
pub names_different : (names : List (List ℕ)) → first_same [] 1 names ≡ None → AreDifferent names
names_different names h = different_from [] 1 names h (λ i j d less within. absurd (omega arith))

other_order : (o : Ordering) (d : Data) (rest : Option Data) → is_eq o ≡ false → match_ordering o rest (Some d) rest ≡ rest
other_order Ordering.Less d rest h = refl
other_order Ordering.Equal d rest h = absurd (true≢false h)
other_order Ordering.Greater d rest h = refl

-- a table whose keys all have a rule holds nothing at a key without one
pub unlisted_key : (rules : List Rule) (name : List ℕ) (ms : Members) → is_listed rules name ≡ false → has_stranger rules ms ≡ false → get_member name ms ≡ None
unlisted_key rules name no_members free h = refl
unlisted_key rules name (member l d ms) free h =
    let p = or_parts (not (is_listed rules l)) (has_stranger rules ms) h in
    let listed = not-false (is_listed rules l) p.0 in
    let apart : bytes_eq name l ≡ false =
    elim (cases_Bool (bytes_eq name l)) [
      | inl same ↦ absurd (true≢false (sym listed ∙ (let e = (bytes_eq-Decides name l).0 same in rw e at free)))
      | inr other ↦ other
    ] in
    rw (other_order (slice_cmp nat_cmp name l) d (get_member name ms) (is_eq-slice_cmp name l ∙ apart)) (unlisted_key rules name ms free p.1)

-- two digits spell an octet
pub length-octets_of : (s : List ℕ) → length (octets_of_digits s) ≡ length s / 2
length-octets_of [] = refl
length-octets_of (c ∷ []) = refl
length-octets_of (c ∷ d ∷ s) = let e : length (octets_of_digits s) ≡ length s / 2 = length-octets_of s in omega arith
