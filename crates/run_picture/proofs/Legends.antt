-- The legend has an entry for each kind of shape that is drawn, and no other.
use Rattle.std.proofs.Common.{◌≡◌, ℕ, zero, suc, ◌+◌, ◌<◌, ◌||◌, Bool, true, false, cond, List, [], ◌∷◌, ◌++◌, length, filter, codes, refl, sym, ap, subst, ◌∙◌, arith}
use Rattle.std.specs.Prelude.{Contains, slice_index_or}
use Rattle.std.specs.List.{list_any}
use Rattle.std.proofs.lemmas.Bool.{true≢false}
use Rattle.std.proofs.lemmas.List.Folds.{list_any_at}
use Rattle.log_meter.specs.declared.line.LogLine.{LogLine}
use Rattle.run_picture.specs.Axis.{axis}
use Rattle.run_picture.specs.Bands.{bands_text}
use Rattle.run_picture.specs.Elements.{EntriesHaveShapes, ShapesHaveEntries}
use Rattle.run_picture.specs.Head.{head}
use Rattle.run_picture.specs.Kinds.{does_draw, every_kind, is_drawn}
use Rattle.run_picture.specs.Lanes.{page_of}
use Rattle.run_picture.specs.Legend.{entries, entry, legend}
use Rattle.run_picture.specs.Marks.{marks}
use Rattle.run_picture.specs.Pictures.{picture_on}
use Rattle.run_picture.specs.declared.kinds.ShapeKind.{ShapeKind}
use Rattle.run_picture.specs.declared.kinds.ShapeKind.TheVariants.{Bar, Front, Point}
use Rattle.run_picture.specs.declared.lanes.Page.{Page}
use Rattle.run_picture.specs.declared.signs.Outcome.TheVariants as outcome
use Rattle.run_picture.specs.declared.signs.Sign.TheVariants as the_sign
use Rattle.run_picture.specs.declared.window.Window.{Window}
use Rattle.run_picture.proofs.Drawn.{Has, in_first, in_second, whole}

-- every kind is among them
every : (kind : ShapeKind) → Contains every_kind kind
every (Bar outcome.Sent) = (0, omega arith, refl)
every (Bar outcome.Collided) = (1, omega arith, refl)
every (Bar outcome.GivenUp) = (2, omega arith, refl)
every (Bar outcome.Cut) = (3, omega arith, refl)
every Front = (4, omega arith, refl)
every (Point the_sign.Hit) = (5, omega arith, refl)
every (Point the_sign.Received) = (6, omega arith, refl)
every (Point the_sign.Dropped) = (7, omega arith, refl)
every (Point the_sign.Clash) = (8, omega arith, refl)
every (Point the_sign.Closed) = (9, omega arith, refl)
every (Point the_sign.Opened) = (10, omega arith, refl)
every (Point the_sign.Halted) = (11, omega arith, refl)

-- an entry of a kind stands in a text
abbrev HasOne : List ℕ → ShapeKind → Type 0
HasOne text kind = (n : ℕ) × Has text (entry n kind)

-- it stands in what has one entry more in front, or hasn't
behind : (n : ℕ) (first kind : ShapeKind) (rest : List ShapeKind) (b : Bool) → ((m : ℕ) → HasOne (entries m rest) kind) → HasOne (entries n (cond b (first ∷ rest) rest)) kind
behind n first kind rest true more =
    let h = more (n + 1) in
    (h.0, in_second (entry n first) (entries (n + 1) rest) (entry h.0 kind) h.1)
behind n first kind rest false more = more n

in_front : (n : ℕ) (kind : ShapeKind) (rest : List ShapeKind) (b : Bool) → b ≡ true → HasOne (entries n (cond b (kind ∷ rest) rest)) kind
in_front n kind rest true holds = (n, in_first (entry n kind) (entries (n + 1) rest) (entry n kind) (whole (entry n kind)))
in_front n kind rest false holds = absurd (true≢false (sym holds))

-- the entry of a kind that is kept
first_kept : (p : ShapeKind → Bool) (n : ℕ) (first : ShapeKind) (kinds : List ShapeKind) (kind : ShapeKind) → first ≡ kind → p kind ≡ true → HasOne (entries n (filter p (first ∷ kinds))) kind
first_kept p n first kinds kind same holds =
    subst (λ (z : ShapeKind). HasOne (entries n (filter p (z ∷ kinds))) kind) (sym same) (in_front n kind (filter p kinds) (p kind) holds)

kept : (p : ShapeKind → Bool) (kind : ShapeKind) → p kind ≡ true → (n : ℕ) (kinds : List ShapeKind) (k : ℕ) → k < length kinds → slice_index_or kinds k kind ≡ kind → HasOne (entries n (filter p kinds)) kind
kept p kind holds n [] k within at = absurd (omega (arith, within))
kept p kind holds n (first ∷ kinds) zero within at = first_kept p n first kinds kind at holds
kept p kind holds n (first ∷ kinds) (suc k) within at =
    behind n first kind (filter p kinds) (p first) (λ m. kept p kind holds m kinds k (omega (arith, within)) at)

-- a line of these has what was asked for
first_or_later : (p : LogLine → Bool) (first : LogLine) (lines : List LogLine) (b : Bool) → p first ≡ b → (b || list_any p lines) ≡ true
    → (list_any p lines ≡ true → (line : LogLine) × Contains lines line × (p line ≡ true)) → (line : LogLine) × Contains (first ∷ lines) line × (p line ≡ true)
first_or_later p first lines true is h more = (first, (0, omega arith, refl), is)
first_or_later p first lines false is h more =
    let m = more h in
    (m.0, (suc m.1.0, omega (arith, m.1.1), m.1.2), m.2)

some_line : (p : LogLine → Bool) (lines : List LogLine) → list_any p lines ≡ true → (line : LogLine) × Contains lines line × (p line ≡ true)
some_line p [] h = absurd (true≢false (sym h))
some_line p (first ∷ lines) h = first_or_later p first lines (p first) refl h (some_line p lines)

-- if a line has it, one of them has
one_has : (p : LogLine → Bool) (lines : List LogLine) (line : LogLine) (k : ℕ) → k < length lines → slice_index_or lines k line ≡ line → p line ≡ true → list_any p lines ≡ true
one_has p lines line k within at holds = list_any_at p lines k line within (ap p at ∙ holds)

-- what is kept was asked for
kept_step : (p : ShapeKind → Bool) (first kind : ShapeKind) (rest : List ShapeKind) (b : Bool) → p first ≡ b → ((j : ℕ) → j < length rest → slice_index_or rest j kind ≡ kind → p kind ≡ true)
    → (k : ℕ) → k < length (cond b (first ∷ rest) rest) → slice_index_or (cond b (first ∷ rest) rest) k kind ≡ kind → p kind ≡ true
kept_step p first kind rest true is more zero within at = subst (λ z. p z ≡ true) at is
kept_step p first kind rest true is more (suc k) within at = more k (omega arith) at
kept_step p first kind rest false is more k within at = more k within at

kept_holds : (p : ShapeKind → Bool) (kinds : List ShapeKind) (kind : ShapeKind) (k : ℕ) → k < length (filter p kinds) → slice_index_or (filter p kinds) k kind ≡ kind → p kind ≡ true
kept_holds p [] kind k within at = absurd (omega arith)
kept_holds p (first ∷ kinds) kind k within at = kept_step p first kind (filter p kinds) (p first) refl (kept_holds p kinds kind) k within at

pub shapes_have_entries : ShapesHaveEntries
shapes_have_entries l lines from to line kind among draws =
    let window : Window = record { from = from; to = to } in
    let page : Page = page_of l in
    let e = every kind in
    let drawn : is_drawn window lines kind ≡ true = one_has (λ x. does_draw window x kind) lines line among.0 among.1 among.2 draws in
    let one = kept (is_drawn window lines) kind drawn 0 every_kind e.0 e.1 e.2 in
    let standing : List ℕ = entry one.0 kind in
    let h : Has (picture_on page window l lines) standing =
    in_first (head page.height ++ legend window lines ++ axis window page.height ++ bands_text l l.segments page.bands ++ marks window l page.bands lines) (codes "</svg>\n") standing
    (in_first (head page.height ++ legend window lines ++ axis window page.height ++ bands_text l l.segments page.bands) (marks window l page.bands lines) standing
    (in_first (head page.height ++ legend window lines ++ axis window page.height) (bands_text l l.segments page.bands) standing
    (in_first (head page.height ++ legend window lines) (axis window page.height) standing
    (in_second (head page.height) (legend window lines) standing one.1)))) in
    record { number = one.0; before = h.before; after = h.after; stands = h.stands }

pub entries_have_shapes : EntriesHaveShapes
entries_have_shapes lines from to kind among =
    let window : Window = record { from = from; to = to } in
    let m = some_line (λ x. does_draw window x kind) lines (kept_holds (is_drawn window lines) every_kind kind among.0 among.1 among.2) in
    record { line = m.0; among = m.1; draws = m.2 }
