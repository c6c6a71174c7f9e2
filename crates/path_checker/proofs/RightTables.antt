-- A table has only what is so.
use Rattle.std.proofs.Common.{◌≡◌, ◌⊎◌, refl, sym, ◌∙◌, subst, inl, inr, ℕ, ◌<◌, List, length, get_or, set, replicate, Option, arith}
use Rattle.std.proofs.lemmas.Bool.{cases_eq, cases_lt}
use Rattle.std.proofs.lemmas.List.{get_or-set_same, get_or-set_other, get_or-replicate, get_or_past, set_past, length-replicate}
use Rattle.layout.specs.declared.lines.Layout.{Layout}
use Rattle.layout.specs.declared.ways.Attachment.{Attachment}
use Rattle.layout.specs.declared.ways.Attachment.TheVariants.{Station, Port}
use Rattle.layout.specs.declared.ways.Way.{Way}
use Rattle.layout.specs.declared.ways.Way.TheVariants as way
use Rattle.layout.specs.Sound.{IsSound}
use Rattle.path_checker.specs.declared.far.Far.{Far}
use Rattle.path_checker.specs.declared.stops.Stop.{Stop}
use Rattle.path_checker.specs.declared.table.Entry.{Entry}
use Rattle.path_checker.specs.declared.table.Entry.TheVariants.{Open, Found}
use Rattle.path_checker.specs.Far.{IsStop, IsOnward, IsFarthest, entry_place, entry_of, with_entry, IsRight}
use Rattle.path_checker.proofs.ShortWalks.{IsLow, sound_low}

all_open : (n k : ℕ) → get_or (replicate n Open) k Open ≡ Open
all_open n k =
    elim (cases_lt k n) [
      | inl low ↦ get_or-replicate n k Open Open low
      | inr high ↦ get_or_past (replicate n Open) k Open (rw length-replicate high)
    ]

-- where nothing is known
pub right_open : (l : Layout) (n : ℕ) (table : List Entry) → table ≡ replicate n Open → IsRight l table
right_open l n table e = record {
  right = λ w r p far low known.
      let none : get_or table (entry_place w r p) Open ≡ Open = rw e (all_open n (entry_place w r p)) in
      let no : Open ≡ Found far = sym none ∙ known in
      absurd (cc);
}

right_at : (l : Layout) (table : List Entry) (w : Way) (t : Attachment) (far : Option Far) → IsRight l table → IsLow t → entry_of table w t ≡ Found far → IsFarthest (IsOnward l w t) far
right_at l table w (Station k) far right low known = absurd (cc)
right_at l table w (Port r p) far right low known = right.right w r p far low.1 known

-- what is known is so
pub right_found : (l : Layout) (table : List Entry) (w : Way) (s : Stop) (entry : Entry) (far : Option Far) → IsSound l → IsStop l s → IsRight l table → entry ≡ entry_of table w s.tap → entry ≡ Found far → IsFarthest (IsOnward l w s.tap) far
right_found l table w s entry far sound stands right is known =
    right_at l table w s.tap far right (sound_low l sound s.tap (record { segment = s.segment; at = s.at }, stands)) (sym is ∙ known)

same_place : (v w : Way) (s r q p : ℕ) → q < 32 → p < 32 → entry_place v s q ≡ entry_place w r p → (v ≡ w) × (s ≡ r) × (q ≡ p)
same_place way.Cable way.Cable s r q p low too e = (refl, omega arith, omega arith)
same_place way.Cable way.Repeater s r q p low too e = absurd (omega arith)
same_place way.Repeater way.Cable s r q p low too e = absurd (omega arith)
same_place way.Repeater way.Repeater s r q p low too e = (refl, omega arith, omega arith)

set_found : (table : List Entry) (place : ℕ) (far other : Option Far) → get_or (set table place (Found far)) place Open ≡ Found other → (far ≡ other) ⊎ (get_or table place Open ≡ Found other)
set_found table place far other known =
    elim (cases_lt place (length table)) [
      | inl low ↦
          let is : get_or (set table place (Found far)) place Open ≡ Found far = get_or-set_same table place (Found far) Open low in
          let both : Found far ≡ Found other = sym is ∙ known in
          inl (cc)
      | inr high ↦ inr (rw (set_past table place (Found far) high) at known)
    ]

right_set : (l : Layout) (table : List Entry) (w : Way) (r p : ℕ) (far : Option Far) → p < 32 → IsRight l table → IsFarthest (IsOnward l w (Port r p)) far → (v : Way) (s q : ℕ) (other : Option Far) → q < 32 → get_or (set table (entry_place w r p) (Found far)) (entry_place v s q) Open ≡ Found other → IsFarthest (IsOnward l v (Port s q)) other
right_set l table w r p far low right h v s q other too known =
    elim (cases_eq (entry_place v s q) (entry_place w r p)) [
      | inl same ↦
          let at : get_or (set table (entry_place w r p) (Found far)) (entry_place w r p) Open ≡ Found other = subst (λ (k : ℕ). get_or (set table (entry_place w r p) (Found far)) k Open ≡ Found other) same known in
          elim (set_found table (entry_place w r p) far other at) [
            | inl new ↦
                let is : (v ≡ w) × (s ≡ r) × (q ≡ p) = same_place v w s r q p too low same in
                let here : IsFarthest (IsOnward l w (Port r p)) other = subst (IsFarthest (IsOnward l w (Port r p))) new h in
                same_port l w v r s p q other (sym is.0) (sym is.1) (sym is.2) here
            | inr old ↦ right.right v s q other too (subst (λ (k : ℕ). get_or table k Open ≡ Found other) (sym same) old)
          ]
      | inr unlike ↦ right.right v s q other too (sym (get_or-set_other table (entry_place w r p) (entry_place v s q) (Found far) Open unlike) ∙ known)
    ]
  where
    same_port : (l : Layout) (w v : Way) (r s p q : ℕ) (far : Option Far) → w ≡ v → r ≡ s → p ≡ q → IsFarthest (IsOnward l w (Port r p)) far → IsFarthest (IsOnward l v (Port s q)) far
    same_port l w v r s p q far a b c h = rw (← a, ← b, ← c) h

right_with : (l : Layout) (table : List Entry) (w : Way) (t : Attachment) (far : Option Far) → IsLow t → IsRight l table → IsFarthest (IsOnward l w t) far → IsRight l (with_entry table w t far)
right_with l table w (Station k) far low right h = right
right_with l table w (Port r p) far low right h = record { right = λ v s q other too known. right_set l table w r p far low.1 right h v s q other too known }

-- one more entry
pub right_more : (l : Layout) (table more : List Entry) (w : Way) (s : Stop) (far : Option Far) → IsSound l → IsStop l s → IsRight l table → IsFarthest (IsOnward l w s.tap) far → more ≡ with_entry table w s.tap far → IsRight l more
right_more l table more w s far sound stands right h is =
    rw is (right_with l table w s.tap far (sound_low l sound s.tap (record { segment = s.segment; at = s.at }, stands)) right h)
