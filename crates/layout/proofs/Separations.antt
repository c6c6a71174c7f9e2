-- In a network that no port closes to a loop each port's edge separates its ends.
use Rattle.std.proofs.Common.{◌≡◌, ◌≢◌, ◌⊎◌, refl, sym, ◌∙◌, ap, subst, inl, inr, ℕ, zero, suc, ◌+◌, ◌==◌, Bool, true, false, not, if◌then◌else◌, List, [], ◌∷◌, ◌++◌, map, get_or, Some, slice_get, append-nil, append_assoc, arith}
use Rattle.std.proofs.lemmas.List.{map-append}
use Rattle.std.proofs.lemmas.Bool.Decides.{Decides-eqb}
use Rattle.layout.specs.declared.edge.Edge.{Edge}
use Rattle.layout.specs.declared.lines.PortLine.{PortLine}
use Rattle.layout.specs.declared.lines.RepeaterLine.{RepeaterLine}
use Rattle.layout.specs.declared.ways.Attachment.{Attachment}
use Rattle.layout.specs.declared.ways.Attachment.TheVariants.{Port}
use Rattle.layout.specs.Joined.{colours, is_joined}
use Rattle.layout.specs.Networks.{edge_at, edges_from, CloseNoLoop}
use Rattle.layout.specs.Among.{IsAmong}
use Rattle.layout.specs.EdgePaths.{AreNeighbours, HaveEndsBelow}
use Rattle.layout.proofs.ItemsOfLists.{among_left, among_right, among_last}
use Rattle.layout.proofs.Joins.{Tell, told}

-- a port and its edge
pub record PortEdge : Type 0 where
  pub tap : Attachment
  pub edge : Edge

abbrev pub edges_named : List PortEdge → List Edge
edges_named xs = map (λ x. x.edge) xs

abbrev pub named_ports : ℕ → ℕ → ℕ → List PortLine → List PortEdge
named_ports part r p [] = []
named_ports part r p (line ∷ lines) = record { tap = Port r p; edge = edge_at part line } ∷ named_ports part r (suc p) lines

abbrev pub named_from : ℕ → ℕ → List RepeaterLine → List PortEdge
named_from part r [] = []
named_from part r (row ∷ rows) = named_ports part r 0 row.ports ++ named_from (suc part) (suc r) rows

edges_named-ports : (part r p : ℕ) (lines : List PortLine) → edges_named (named_ports part r p lines) ≡ map (edge_at part) lines
edges_named-ports part r p [] = refl
edges_named-ports part r p (line ∷ lines) = ap (λ (es : List Edge). edge_at part line ∷ es) (edges_named-ports part r (suc p) lines)

pub edges_named-from : (part r : ℕ) (rows : List RepeaterLine) → edges_named (named_from part r rows) ≡ edges_from part rows
edges_named-from part r [] = refl
edges_named-from part r (row ∷ rows) =
    map-append (λ (x : PortEdge). x.edge) (named_ports part r 0 row.ports) (named_from (suc part) (suc r) rows)
    ∙ rw (edges_named-ports part r 0 row.ports, edges_named-from (suc part) (suc r) rows) refl

-- each port's edge is one of the network's
port_among : (part r p n j : ℕ) (lines : List PortLine) (line : PortLine) → slice_get lines j ≡ Some line → n ≡ p + j → IsAmong (record { tap = Port r n; edge = edge_at part line }) (named_ports part r p lines)
port_among part r p n j [] line h at = absurd (cc)
port_among part r p n zero (x ∷ xs) line h at =
    let same : x ≡ line = cc in
    let e : p ≡ n = omega arith in
    inl (rw (same, e) refl)
port_among part r p n (suc j) (x ∷ xs) line h at = inr (port_among part r (suc p) n j xs line h (omega arith))

pub edge_among : (part r q n i j : ℕ) (rows : List RepeaterLine) (row : RepeaterLine) (line : PortLine) → slice_get rows i ≡ Some row → slice_get row.ports j ≡ Some line → n ≡ r + i → q ≡ part + i
    → IsAmong (record { tap = Port n j; edge = edge_at q line }) (named_from part r rows)
edge_among part r q n i j [] row line h k at to = absurd (cc)
edge_among part r q n zero j (x ∷ xs) row line h k at to =
    let same : row ≡ x = cc in
    let e : n ≡ r = omega arith in
    let f : q ≡ part = omega arith in
    let here : slice_get x.ports j ≡ Some line = subst (λ (y : RepeaterLine). slice_get y.ports j ≡ Some line) same k in
    rw (e, f) (among_left _ (named_ports part r 0 x.ports) (named_from (suc part) (suc r) xs) (port_among part r 0 j j x.ports line here (omega arith)))
edge_among part r q n (suc i) j (x ∷ xs) row line h k at to =
    among_right _ (named_ports part r 0 x.ports) (named_from (suc part) (suc r) xs) (edge_among (suc part) (suc r) q n i j xs row line h k (omega arith) (omega arith))

-- two colours for the parts, which the edge of port f alone separates
pub record Separates (xs : List PortEdge) (f : PortEdge) (d : ℕ → Bool) : Type 0 where
  pub crosses : d f.edge.from ≢ d f.edge.to
  pub others : (g : PortEdge) → IsAmong g xs → g.tap ≢ f.tap → d g.edge.from ≡ d g.edge.to

abbrev pub AllSeparate : List PortEdge → Type 0
AllSeparate xs = (f : PortEdge) → IsAmong f xs → (d : ℕ → Bool) × Separates xs f d

pub neighbours_among : (g : PortEdge) (xs : List PortEdge) → IsAmong g xs → AreNeighbours (edges_named xs) g.edge.from g.edge.to
neighbours_among g [] h = absurd h
neighbours_among g (x ∷ xs) h =
    elim h [
      | inl e ↦ inl (inl (ap (λ (y : PortEdge). y.edge.from) e, ap (λ (y : PortEdge). y.edge.to) e))
      | inr k ↦ inr (neighbours_among g xs k)
    ]

same_colour : (cs : List ℕ) (xs : List PortEdge) → Tell (edges_named xs) cs → (g : PortEdge) → IsAmong g xs → get_or cs g.edge.from 0 ≡ get_or cs g.edge.to 0
same_colour cs xs tells g h = (tells.kept g.edge.from g.edge.to (neighbours_among g xs h)).2

flip : Bool → Bool → Bool
flip b x = if b then not x else x

flip_ne : (b x y : Bool) → x ≢ y → flip b x ≢ flip b y
unfolding flip
flip_ne true true true h = λ e. h refl
flip_ne true true false h = λ e. cc
flip_ne true false true h = λ e. cc
flip_ne true false false h = λ e. h refl
flip_ne false x y h = h

flip_one : (x y : Bool) → x ≢ y → flip false x ≡ flip true y
unfolding flip
flip_one true true h = absurd (h refl)
flip_one true false h = refl
flip_one false true h = refl
flip_one false false h = absurd (h refl)

bool_cases : (x y : Bool) → (x ≡ y) ⊎ (x ≢ y)
bool_cases true true = inl refl
bool_cases true false = inr (λ e. cc)
bool_cases false true = inr (λ e. cc)
bool_cases false false = inl refl

eqb_self : (x : ℕ) → (x == x) ≡ true
eqb_self x = (Decides-eqb x x).1 refl

module _ (cs : List ℕ) (xs : List PortEdge) (e : PortEdge) (tells : Tell (edges_named xs) cs) (apart : (get_or cs e.edge.from 0 == get_or cs e.edge.to 0) ≡ false) where
  abbrev beyond : ℕ → Bool
  beyond x = get_or cs x 0 == get_or cs e.edge.to 0

  beyond_same : (g : PortEdge) → IsAmong g xs → beyond g.edge.from ≡ beyond g.edge.to
  beyond_same g h = ap (λ c. c == get_or cs e.edge.to 0) (same_colour cs xs tells g h)

  -- the new edge by the colours so far
  newest : (f : PortEdge) → e ≡ f → Separates (xs ++ e ∷ []) f beyond
  newest f is = record {
    crosses = λ same.
        let at : beyond e.edge.from ≡ beyond e.edge.to = subst (λ (x : PortEdge). beyond x.edge.from ≡ beyond x.edge.to) (sym is) same in
        let no : false ≡ true = sym apart ∙ at ∙ eqb_self (get_or cs e.edge.to 0) in
        cc;
    others = λ g h ne.
        elim (among_last g e xs h) [
          | inl old ↦ beyond_same g old
          | inr new ↦ absurd (ne (ap (λ (y : PortEdge). y.tap) (sym new ∙ is)))
        ];
  }

  -- an edge of before whose colours give the new edge's ends one colour
  whole : (f : PortEdge) (d : ℕ → Bool) → Separates xs f d → d e.edge.from ≡ d e.edge.to → Separates (xs ++ e ∷ []) f d
  whole f d parts same = record {
    crosses = parts.crosses;
    others = λ g h ne.
        elim (among_last g e xs h) [
          | inl old ↦ parts.others g old ne
          | inr new ↦ subst (λ (x : PortEdge). d x.edge.from ≡ d x.edge.to) new same
        ];
  }

  abbrev turned : (ℕ → Bool) → ℕ → Bool
  turned d x = flip (beyond x) (d x)

  -- and one whose colours do not: those beyond the new edge are turned
  turned_whole : (f : PortEdge) (d : ℕ → Bool) → IsAmong f xs → Separates xs f d → d e.edge.from ≢ d e.edge.to → Separates (xs ++ e ∷ []) f (turned d)
  turned_whole f d old parts differ = record {
    crosses = rw (beyond_same f old) (flip_ne (beyond f.edge.to) (d f.edge.from) (d f.edge.to) parts.crosses);
    others = λ g h ne.
        elim (among_last g e xs h) [
          | inl before ↦ rw (beyond_same g before, parts.others g before ne) refl
          | inr new ↦ subst (λ (x : PortEdge). turned d x.edge.from ≡ turned d x.edge.to) new (rw (apart, eqb_self (get_or cs e.edge.to 0)) (flip_one (d e.edge.from) (d e.edge.to) differ))
        ];
  }

  one_more : AllSeparate xs → AllSeparate (xs ++ e ∷ [])
  one_more all f h =
      elim (among_last f e xs h) [
        | inr new ↦ (beyond, newest f new)
        | inl old ↦
            let d : ℕ → Bool = (all f old).0 in
            let parts : Separates xs f d = (all f old).1 in
            elim (bool_cases (d e.edge.from) (d e.edge.to)) [
              | inl same ↦ (d, whole f d parts same)
              | inr differ ↦ (turned d, turned_whole f d old parts differ)
            ]
      ]

within_left : (n : ℕ) (es fs : List Edge) → HaveEndsBelow n (es ++ fs) → HaveEndsBelow n es
within_left n [] fs h = tt
within_left n (e ∷ es) fs h = (h.0, h.1, within_left n es fs h.2)

apart_by : (parts : ℕ) (es : List Edge) (a b : ℕ) → is_joined parts es a b ≡ false → (get_or (colours parts es) a 0 == get_or (colours parts es) b 0) ≡ false
unfolding is_joined
apart_by parts es a b h = h

separate_all : (parts : ℕ) (before after : List PortEdge) → HaveEndsBelow parts (edges_named (before ++ after)) → CloseNoLoop parts (edges_named before) (edges_named after) → AllSeparate before → AllSeparate (before ++ after)
separate_all parts before [] within loops all = rw append-nil all
separate_all parts before (e ∷ es) within loops all =
    let split : edges_named (before ++ e ∷ es) ≡ edges_named before ++ edges_named (e ∷ es) = map-append (λ (x : PortEdge). x.edge) before (e ∷ es) in
    let w : HaveEndsBelow parts (edges_named before) = within_left parts (edges_named before) (edges_named (e ∷ es)) (rw split at within) in
    let last : edges_named (before ++ e ∷ []) ≡ edges_named before ++ e.edge ∷ [] = map-append (λ (x : PortEdge). x.edge) before (e ∷ []) in
    let more : AllSeparate (before ++ e ∷ []) = one_more (colours parts (edges_named before)) before e (told parts (edges_named before) w) (apart_by parts (edges_named before) e.edge.from e.edge.to loops.0) all in
    let joined : before ++ e ∷ [] ++ es ≡ before ++ (e ∷ es) = append_assoc before (e ∷ []) es in
    subst (λ (xs : List PortEdge). AllSeparate xs) joined
    (separate_all parts (before ++ e ∷ []) es (subst (λ (xs : List PortEdge). HaveEndsBelow parts (edges_named xs)) (sym joined) within)
    (subst (λ (es' : List Edge). CloseNoLoop parts es' (edges_named es)) (sym last) loops.1) more)

pub edges_separate : (parts : ℕ) (xs : List PortEdge) → HaveEndsBelow parts (edges_named xs) → CloseNoLoop parts [] (edges_named xs) → AllSeparate xs
edges_separate parts xs within loops = separate_all parts [] xs within loops (λ f h. absurd h)
