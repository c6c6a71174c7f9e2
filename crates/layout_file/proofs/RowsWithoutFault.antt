-- Where a document has no fault, each of its tables passes each test of one row.
use Rattle.std.proofs.Common.{◌≡◌, ℕ, ◌+◌, Bool, true, false, if◌then◌else◌, List, [], ◌∷◌, ◌++◌, length, Option, None, Some, option_map, refl}
use Rattle.std.specs.List.{All}
use Rattle.std.proofs.lemmas.List.Elements.{All-nil, All-cons}
use Rattle.toml.specs.Data.{Members}
use Rattle.layout_file.specs.declared.fault.Key.TheVariants as key
use Rattle.layout_file.specs.declared.rows.RowTest.{RowTest}
use Rattle.layout_file.specs.declared.rows.RowTest.TheVariants as test
use Rattle.layout_file.specs.declared.rules.Shape.{Shape}
use Rattle.layout_file.specs.declared.rules.Shape.TheVariants as shape
use Rattle.layout_file.specs.Faults.{around_of, key_tests, name_tests, frame_tests, first_fault}
use Rattle.layout_file.specs.GraphFaults.{first_graph_fault}
use Rattle.layout_file.specs.JointFaults.{first_crowd, first_same_name, first_taken}
use Rattle.layout_file.specs.RowFaults.{Around, or_else, faulty_key, fault_at, first_at, first_of, code_of_test}
use Rattle.layout_file.specs.Rules.{rules_of}
use Rattle.layout_file.specs.Spots.{Spot, spots_of_rows, ports, repeaters, spots, fault}
use Rattle.layout_file.specs.Tree.{rows_at}

pub or_else-parts : {T : Type 0} (a b : Option T) → or_else a b ≡ None → (a ≡ None) × (b ≡ None)
or_else-parts None b h = (refl, h)
or_else-parts (Some x) b h = absurd (cc)

pub if-none : {T : Type 0} (b : Bool) (x : T) (o : Option T) → (if b then Some x else o) ≡ None → (b ≡ false) × (o ≡ None)
if-none true x o h = absurd (cc)
if-none false x o h = (refl, h)

pub map-none : {S T : Type 0} (f : S → T) (o : Option S) → option_map f o ≡ None → o ≡ None
map-none f None h = refl
map-none f (Some x) h = absurd (cc)

-- what each kind of test says where it finds nothing
pub record Faultless (ms : Members) : Type 0 where
  pub keys : first_of (around_of ms) key_tests (spots ms) ≡ None
  pub crowds : first_crowd ms ≡ None
  pub same : first_same_name ms ≡ None
  pub names : first_of (around_of ms) name_tests (spots ms) ≡ None
  pub taken : first_taken [] (spots ms) ≡ None
  pub graph : first_graph_fault (length (rows_at ms key.Repeater)) (around_of ms).segments (spots ms) ≡ None
  pub frames : first_of (around_of ms) frame_tests (spots ms) ≡ None

pub faultless : (ms : Members) → first_fault ms ≡ None → Faultless ms
unfolding first_fault
faultless ms h =
    let graph = first_graph_fault (length (rows_at ms key.Repeater)) (around_of ms).segments (spots ms) in
    let frames = first_of (around_of ms) frame_tests (spots ms) in
    let taken = first_taken [] (spots ms) in
    let names = first_of (around_of ms) name_tests (spots ms) in
    let a = or_else-parts (first_of (around_of ms) key_tests (spots ms)) (or_else (first_crowd ms) (or_else (first_same_name ms) (or_else names (or_else taken (or_else graph frames))))) h in
    let b = or_else-parts (first_crowd ms) (or_else (first_same_name ms) (or_else names (or_else taken (or_else graph frames)))) a.1 in
    let c = or_else-parts (first_same_name ms) (or_else names (or_else taken (or_else graph frames))) b.1 in
    let d = or_else-parts names (or_else taken (or_else graph frames)) c.1 in
    let e = or_else-parts taken (or_else graph frames) d.1 in
    let f = or_else-parts graph frames e.1 in
    record { keys = a.0; crowds = b.0; same = c.0; names = d.0; taken = e.0; graph = f.0; frames = f.1 }

first_of-parts : (around : Around) (t : RowTest) (ts : List RowTest) (ss : List Spot) → first_of around (t ∷ ts) ss ≡ None → (first_at around t ss ≡ None) × (first_of around ts ss ≡ None)
first_of-parts around t ts ss h = or_else-parts (first_at around t ss) (first_of around ts ss) h

-- no test of one row finds a fault at these tables
abbrev pub Cleared : Around → List Spot → Type 0
Cleared around ss = (t : RowTest) → first_at around t ss ≡ None

cleared_tests : (around : Around) (ss : List Spot) → first_of around key_tests ss ≡ None → first_of around name_tests ss ≡ None → first_of around frame_tests ss ≡ None → Cleared around ss
cleared_tests around ss keys names frames t =
    let a = first_of-parts around test.UnknownKey (test.Missing ∷ test.WrongType ∷ test.BadName ∷ test.OutOfRange ∷ []) ss keys in
    let b = first_of-parts around test.Missing (test.WrongType ∷ test.BadName ∷ test.OutOfRange ∷ []) ss a.1 in
    let c = first_of-parts around test.WrongType (test.BadName ∷ test.OutOfRange ∷ []) ss b.1 in
    let d = first_of-parts around test.BadName (test.OutOfRange ∷ []) ss c.1 in
    let e = first_of-parts around test.OutOfRange [] ss d.1 in
    let f = first_of-parts around test.NoSuchSegment (test.NoSuchStation ∷ []) ss names in
    let g = first_of-parts around test.NoSuchStation [] ss f.1 in
    let i = first_of-parts around test.BadFrame [] ss frames in
    elim t as (λ u. first_at around u ss ≡ None) [
      | test.UnknownKey ↦ a.0
      | test.Missing ↦ b.0
      | test.WrongType ↦ c.0
      | test.BadName ↦ d.0
      | test.OutOfRange ↦ e.0
      | test.NoSuchSegment ↦ f.0
      | test.NoSuchStation ↦ g.0
      | test.BadFrame ↦ i.0
    ]

first_at-parts : (around : Around) (t : RowTest) (xs ys : List Spot) → first_at around t (xs ++ ys) ≡ None → (first_at around t xs ≡ None) × (first_at around t ys ≡ None)
first_at-parts around t [] ys h = (refl, h)
first_at-parts around t (x ∷ xs) ys h =
    let p = or_else-parts (fault_at around t x) (first_at around t (xs ++ ys)) h in
    let q = first_at-parts around t xs ys p.1 in
    (rw p.0 q.0, q.1)

cleared-front : (around : Around) (xs ys : List Spot) → Cleared around (xs ++ ys) → Cleared around xs
cleared-front around xs ys h = λ t. (first_at-parts around t xs ys (h t)).0

cleared-back : (around : Around) (xs ys : List Spot) → Cleared around (xs ++ ys) → Cleared around ys
cleared-back around xs ys h = λ t. (first_at-parts around t xs ys (h t)).1

-- no test finds a fault at the table's keys
abbrev pub Clean : Around → Shape → Members → Type 0
Clean around t ms = (u : RowTest) → faulty_key around u (rules_of around.two t) ms ≡ None

clean_spot : (around : Around) (s : Spot) (ss : List Spot) → Cleared around (s ∷ ss) → Clean around s.shape s.members
unfolding fault_at
clean_spot around s ss h = λ t.
    map-none (fault (code_of_test t) s) (faulty_key around t (rules_of around.two s.shape) s.members) (or_else-parts (fault_at around t s) (first_at around t ss) (h t)).0

cleared-rest : (around : Around) (s : Spot) (ss : List Spot) → Cleared around (s ∷ ss) → Cleared around ss
cleared-rest around s ss h = λ t. (or_else-parts (fault_at around t s) (first_at around t ss) (h t)).1

clean_counted : (around : Around) (t : Shape) (n : ℕ) (rows : List Members) → Cleared around (spots_of_rows t n rows) → All (Clean around t) rows
clean_counted around t n [] h = All-nil (Clean around t)
clean_counted around t n (ms ∷ rows) h =
    let s : Spot = record { shape = t; row = n; port = 0; members = ms } in
    All-cons (Clean around t) ms rows (clean_spot around s (spots_of_rows t (n + 1) rows) h)
    (clean_counted around t (n + 1) rows (cleared-rest around s (spots_of_rows t (n + 1) rows) h))

clean_ports : (around : Around) (n p : ℕ) (rows : List Members) → Cleared around (ports n p rows) → All (Clean around shape.Port) rows
clean_ports around n p [] h = All-nil (Clean around shape.Port)
clean_ports around n p (ms ∷ rows) h =
    let s : Spot = record { shape = shape.Port; row = n; port = p; members = ms } in
    All-cons (Clean around shape.Port) ms rows (clean_spot around s (ports n (p + 1) rows) h)
    (clean_ports around n (p + 1) rows (cleared-rest around s (ports n (p + 1) rows) h))

-- a repeater's row and those of its ports
pub record CleanRepeater (around : Around) (ms : Members) : Type 0 where
  pub row : Clean around shape.Repeater ms
  pub ports : All (Clean around shape.Port) (rows_at ms key.Port)

clean_repeaters : (around : Around) (n : ℕ) (rows : List Members) → Cleared around (repeaters n rows) → All (CleanRepeater around) rows
clean_repeaters around n [] h = All-nil (CleanRepeater around)
clean_repeaters around n (ms ∷ rows) h =
    let s : Spot = record { shape = shape.Repeater; row = n; port = 0; members = ms } in
    let own = cleared-front around (s ∷ ports n 1 (rows_at ms key.Port)) (repeaters (n + 1) rows) h in
    All-cons (CleanRepeater around) ms rows
    (record {
      row = clean_spot around s (ports n 1 (rows_at ms key.Port)) own;
      ports = clean_ports around n 1 (rows_at ms key.Port) (cleared-rest around s (ports n 1 (rows_at ms key.Port)) own);
    })
    (clean_repeaters around (n + 1) rows (cleared-back around (s ∷ ports n 1 (rows_at ms key.Port)) (repeaters (n + 1) rows) h))

-- all tables of a document
pub record CleanRows (ms : Members) : Type 0 where
  pub file : Clean (around_of ms) shape.File ms
  pub segments : All (Clean (around_of ms) shape.Segment) (rows_at ms key.Segment)
  pub stations : All (Clean (around_of ms) shape.Station) (rows_at ms key.Station)
  pub repeaters : All (CleanRepeater (around_of ms)) (rows_at ms key.Repeater)
  pub sends : All (Clean (around_of ms) shape.Send) (rows_at ms key.Send)

clean_spots : (ms : Members) → Cleared (around_of ms) (spots ms) → CleanRows ms
unfolding spots
clean_spots ms h =
    let s : Spot = record { shape = shape.File; row = 0; port = 0; members = ms } in
    let a : List Spot = spots_of_rows shape.Segment 1 (rows_at ms key.Segment) in
    let b : List Spot = spots_of_rows shape.Station 1 (rows_at ms key.Station) in
    let c : List Spot = repeaters 1 (rows_at ms key.Repeater) in
    let d : List Spot = spots_of_rows shape.Send 1 (rows_at ms key.Send) in
    let around : Around = around_of ms in
    let to_c = cleared-front around ((((s ∷ []) ++ a) ++ b) ++ c) d h in
    let to_b = cleared-front around (((s ∷ []) ++ a) ++ b) c to_c in
    let to_a = cleared-front around ((s ∷ []) ++ a) b to_b in
    record {
      file = clean_spot around s a to_a;
      segments = clean_counted around shape.Segment 1 (rows_at ms key.Segment) (cleared-back around (s ∷ []) a to_a);
      stations = clean_counted around shape.Station 1 (rows_at ms key.Station) (cleared-back around ((s ∷ []) ++ a) b to_b);
      repeaters = clean_repeaters around 1 (rows_at ms key.Repeater) (cleared-back around (((s ∷ []) ++ a) ++ b) c to_c);
      sends = clean_counted around shape.Send 1 (rows_at ms key.Send) (cleared-back around ((((s ∷ []) ++ a) ++ b) ++ c) d h);
    }

pub clean_rows : (ms : Members) → Faultless ms → CleanRows ms
clean_rows ms f = clean_spots ms (cleared_tests (around_of ms) (spots ms) f.keys f.names f.frames)
