-- What a table without a fault holds at each of its keys.
use Rattle.std.proofs.Common.{◌≡◌, ℕ, ◌≤◌, pos, negsuc, true, false, not, nat_le, List, [], ◌∷◌, length, Option, None, Some, is_some, unwrap_or, option_map, option_and_then, refl, arith}
use Rattle.std.specs.Prelude.{IfSome}
use Rattle.std.specs.List.{list_all}
use Rattle.std.proofs.lemmas.Bool.{and_parts, leb-true, not-false, true≢false}
use Rattle.std.proofs.lemmas.List.Sums.{AllPass-from_list_all}
use Rattle.toml.specs.Data.{Data, string, integer, array, Members, as_str}
use Rattle.layout.specs.Limits.{longest_name, longest_load}
use Rattle.layout_file.specs.declared.fault.Key.{Key}
use Rattle.layout_file.specs.declared.rows.RowTest.{RowTest}
use Rattle.layout_file.specs.declared.rows.RowTest.TheVariants as test
use Rattle.layout_file.specs.declared.rules.ValueKind.TheVariants as kind
use Rattle.layout_file.specs.declared.rules.Rule.{Rule}
use Rattle.layout_file.specs.declared.rules.Shape.{Shape}
use Rattle.layout_file.specs.RowFaults.{Around, is_among, is_enough, is_unknown_key, fails, failing_key}
use Rattle.layout_file.specs.Rules.{required, optional, rules_of}
use Rattle.layout.specs.Sound.{IsName, IsLoad}
use Rattle.layout_file.specs.TextValues.{is_name, is_load, is_frame}
use Rattle.layout.specs.NameOctets.{is_name_octet, is_between}
use Rattle.layout_file.specs.Tree.{held, tables, tables_in, natural, has_stranger}
use Rattle.layout_file.proofs.RowsWithoutFault.{Clean, if-none}

-- no test but that of unknown keys fails on what a rule's key holds
abbrev pub RuleHolds : Around → Rule → Option Data → Type 0
RuleHolds around r o = (t : RowTest) → is_unknown_key t ≡ false → fails around t r o ≡ false

abbrev pub EachHolds : Around → Members → List Rule → Type 0
EachHolds around ms [] = Unit {0}
EachHolds around ms (r ∷ rs) = RuleHolds around r (held ms r.key) × EachHolds around ms rs

each_holds : (around : Around) (ms : Members) (rs : List Rule) → ((t : RowTest) → is_unknown_key t ≡ false → failing_key around t rs ms ≡ None) → EachHolds around ms rs
each_holds around ms [] h = tt
each_holds around ms (r ∷ rs) h = (
  λ t other. (if-none (fails around t r (held ms r.key)) r.key (failing_key around t rs ms) (h t other)).0,
  each_holds around ms rs (λ t other. (if-none (fails around t r (held ms r.key)) r.key (failing_key around t rs ms) (h t other)).1),
)

-- each rule of a table without a fault holds
pub clean_holds : (around : Around) (t : Shape) (ms : Members) → Clean around t ms → EachHolds around ms (rules_of around.two t)
clean_holds around t ms h = each_holds around ms (rules_of around.two t) (λ u other. rw other at (h u))

pub clean_keys : (around : Around) (t : Shape) (ms : Members) → Clean around t ms → has_stranger (rules_of around.two t) ms ≡ false
clean_keys around t ms h = (if-none (has_stranger (rules_of around.two t) ms) _ None (h test.UnknownKey)).0

pub between : (least most n : ℕ) → is_between least most n ≡ true → (least ≤ n) × (n ≤ most)
between least most n h =
    let parts = and_parts (nat_le least n) (nat_le n most) h in
    (leb-true least n parts.0, leb-true n most parts.1)

pub whole : (around : Around) (k : Key) (least most : ℕ) (o : Option Data) → RuleHolds around (required k (kind.Whole least most)) o → (least ≤ unwrap_or (option_and_then natural o) 0) × (unwrap_or (option_and_then natural o) 0 ≤ most)
whole around k least most None h = absurd (true≢false (h test.Missing refl))
whole around k least most (Some (integer (pos n))) h = between least most n (not-false (is_between least most n) (h test.OutOfRange refl))
whole around k least most (Some (integer (negsuc n))) h = absurd (true≢false (h test.OutOfRange refl))
whole around k least most (Some d) h = absurd (true≢false (h test.WrongType refl))

pub whole_or_none : (around : Around) (k : Key) (least most : ℕ) (o : Option Data) → RuleHolds around (optional k (kind.Whole least most)) o → unwrap_or (option_and_then natural o) 0 ≤ most
whole_or_none around k least most None h = omega arith
whole_or_none around k least most (Some (integer (pos n))) h = (between least most n (not-false (is_between least most n) (h test.OutOfRange refl))).1
whole_or_none around k least most (Some (integer (negsuc n))) h = absurd (true≢false (h test.OutOfRange refl))
whole_or_none around k least most (Some d) h = absurd (true≢false (h test.WrongType refl))

name_facts : (s : List ℕ) → is_name s ≡ true → IsName s
unfolding is_name
name_facts s h =
    let p = and_parts (is_between 1 longest_name (length s)) (list_all is_name_octet s) h in
    let b = between 1 longest_name (length s) p.0 in
    record { least = b.0; most = b.1; octets = AllPass-from_list_all is_name_octet s p.1 }

load_facts : (s : List ℕ) → is_load s ≡ true → IsLoad s
unfolding is_load
load_facts s h =
    let p = and_parts (is_between 1 longest_load (length s)) (list_all (nat_le 1) s) h in
    let b = between 1 longest_load (length s) p.0 in
    record { least = b.0; most = b.1; octets = λ k d within. leb-true 1 _ (AllPass-from_list_all (nat_le 1) s p.1 k d within) }

pub name : (around : Around) (k : Key) (o : Option Data) → RuleHolds around (required k kind.Name) o → IsName (unwrap_or (option_and_then as_str o) [])
name around k None h = absurd (true≢false (h test.Missing refl))
name around k (Some (string s)) h = name_facts s (not-false (is_name s) (h test.BadName refl))
name around k (Some d) h = absurd (true≢false (h test.WrongType refl))

pub load : (around : Around) (k : Key) (o : Option Data) → RuleHolds around (optional k kind.Load) o → IfSome (option_and_then as_str o) IsLoad
load around k None h = tt
load around k (Some (string s)) h = load_facts s (not-false (is_load s) (h test.BadName refl))
load around k (Some d) h = absurd (true≢false (h test.WrongType refl))

pub segment_name : (around : Around) (k : Key) (o : Option Data) → RuleHolds around (required k kind.SegmentName) o → is_among (unwrap_or (option_and_then as_str o) []) around.segments ≡ true
segment_name around k None h = absurd (true≢false (h test.Missing refl))
segment_name around k (Some (string s)) h = not-false (is_among s around.segments) (h test.NoSuchSegment refl)
segment_name around k (Some d) h = absurd (true≢false (h test.WrongType refl))

pub station_name : (around : Around) (k : Key) (o : Option Data) → RuleHolds around (required k kind.StationName) o → is_among (unwrap_or (option_and_then as_str o) []) around.stations ≡ true
station_name around k None h = absurd (true≢false (h test.Missing refl))
station_name around k (Some (string s)) h = not-false (is_among s around.stations) (h test.NoSuchStation refl)
station_name around k (Some d) h = absurd (true≢false (h test.WrongType refl))

pub frame : (around : Around) (k : Key) (most : ℕ) (o : Option Data) → RuleHolds around (required k (kind.Frame most)) o → is_frame most (unwrap_or (option_and_then as_str o) []) ≡ true
frame around k most None h = absurd (true≢false (h test.Missing refl))
frame around k most (Some (string s)) h = not-false (is_frame most s) (h test.BadFrame refl)
frame around k most (Some d) h = absurd (true≢false (h test.WrongType refl))

enough : (least : ℕ) (o : Option (List Members)) → not (is_some o) ≡ false → not (is_enough least (option_map length o)) ≡ false → least ≤ length (unwrap_or o [])
enough least None h i = absurd (true≢false h)
enough least (Some rows) h i = leb-true least (length rows) (not-false (nat_le least (length rows)) i)

pub rows : (around : Around) (k : Key) (least : ℕ) (o : Option Data) → RuleHolds around (required k (kind.Rows least)) o → least ≤ length (unwrap_or (option_and_then tables_in o) [])
rows around k least None h = absurd (true≢false (h test.Missing refl))
rows around k least (Some (array ds)) h = enough least (tables ds) (h test.WrongType refl) (h test.OutOfRange refl)
rows around k least (Some d) h = absurd (true≢false (h test.WrongType refl))
