-- The first and the last place of a segment, by its branches.
use Rattle.std.proofs.Common.{◌≡◌, ◌⊎◌, refl, sym, ◌∙◌, ap, subst, inl, inr, ℕ, ◌+◌, ◌<◌, ◌≤◌, ltb, List, [], ◌∷◌, ◌++◌, length, get_or, take, Option, None, Some, arith}
use Rattle.std.specs.Option.{option_map, unwrap_or}
use Rattle.std.proofs.lemmas.Bool.{cond_both, ltb-true, ltb-false}
use Rattle.std.proofs.lemmas.List.{take_more, take_all}
use Rattle.std.proofs.lemmas.Option.{same_Some}
use Rattle.layout.specs.declared.lines.Layout.{Layout}
use Rattle.layout.specs.declared.lines.PortLine.{PortLine}
use Rattle.layout.specs.declared.ways.Attachment.{Attachment}
use Rattle.layout.specs.declared.ways.Way.TheVariants as way
use Rattle.layout.specs.Among.{IsAmong}
use Rattle.layout.specs.Paths.{place, part_by, at_of}
use Rattle.layout.specs.Sound.{IsSound}
use Rattle.layout.proofs.Cuts.{mapped}
use Rattle.layout.proofs.ItemsOfLists.{among_more, among_end, among_last}
use Rattle.layout.proofs.SoundTaps.{sound_place}
use Rattle.mac_parameters.specs.Parameters.{greatest_place}
use Rattle.path_slack.specs.declared.branches.Branch.{Branch}
use Rattle.path_slack.specs.Branches.{AreBranchesOf}
use Rattle.path_slack.specs.Slacks.{HasTapAt, lower_place, IsFirstPlace, IsLastPlace}

-- a tap of the segment stands at its place
pub has_at : (l : Layout) (t : Attachment) (segment : ℕ) → part_by l way.Cable t ≡ Some segment → HasTapAt l segment (at_of l t)
has_at l t segment on =
    let line : (p : PortLine) × (place l t ≡ Some p) = mapped (λ (p : PortLine). p.segment) (place l t) segment on in
    let same : line.0.segment ≡ segment = same_Some line.0.segment segment (sym (ap (option_map (λ (p : PortLine). p.segment)) line.1) ∙ on) in
    let at : line.0.at ≡ at_of l t = sym (ap (λ (o : Option PortLine). unwrap_or (option_map (λ (p : PortLine). p.at) o) 0) line.1) in
    record { tap = t; stands = line.1 ∙ ap (λ (n : ℕ). Some (let p : PortLine = record { segment = n; at = line.0.at } in p)) same ∙ ap (λ (n : ℕ). Some (let p : PortLine = record { segment = segment; at = n } in p)) at }

pub tap_on : (l : Layout) (segment at : ℕ) → (h : HasTapAt l segment at) → part_by l way.Cable h.tap ≡ Some segment
tap_on l segment at h = ap (option_map (λ (p : PortLine). p.segment)) h.stands

pub tap_at : (l : Layout) (segment at : ℕ) → (h : HasTapAt l segment at) → at_of l h.tap ≡ at
tap_at l segment at h = ap (λ (o : Option PortLine). unwrap_or (option_map (λ (p : PortLine). p.at) o) 0) h.stands

-- of these branches' places from a place on the first one
abbrev pub IsFirstOf : Layout → ℕ → List Branch → Option ℕ → Type 0
IsFirstOf l from bs None = (b : Branch) → IsAmong b bs → from ≤ at_of l b.tap → ⊥
IsFirstOf l from bs (Some p) = ((b : Branch) × IsAmong b bs × (at_of l b.tap ≡ p)) × (from ≤ p) × ((b : Branch) → IsAmong b bs → from ≤ at_of l b.tap → p ≤ at_of l b.tap)

pub first_none : (l : Layout) (from : ℕ) → IsFirstOf l from [] None
first_none l from = λ b h low. h

module _ (l : Layout) (from : ℕ) (bs : List Branch) (k : ℕ) (d : Branch) (low : k < length bs) where
  skip_last : (first : Option ℕ) → at_of l (get_or bs k d).tap < from → IsFirstOf l from (take k bs) first → IsFirstOf l from (take k bs ++ get_or bs k d ∷ []) first
  skip_last None under h = λ b among up.
      elim (among_last b (get_or bs k d) (take k bs) among) [
        | inl before ↦ h b before up
        | inr same ↦ (let e : at_of l (get_or bs k d).tap ≡ at_of l b.tap = ap (λ (x : Branch). at_of l x.tap) same in omega arith)
      ]
  skip_last (Some p) under h = (
    (h.0.0, among_more h.0.0 (get_or bs k d) (take k bs) h.0.1, h.0.2),
    h.1,
    λ b among up.
        elim (among_last b (get_or bs k d) (take k bs) among) [
          | inl before ↦ h.2 b before up
          | inr same ↦ absurd (let e : at_of l (get_or bs k d).tap ≡ at_of l b.tap = ap (λ (x : Branch). at_of l x.tap) same in omega arith)
        ],
  )

  pub first_skip : (at : ℕ) (first : Option ℕ) → at ≡ at_of l (get_or bs k d).tap → at < from → IsFirstOf l from (take k bs) first → IsFirstOf l from (take (k + 1) bs) first
  first_skip at first is under h =
      subst (λ (xs : List Branch). IsFirstOf l from xs first) (sym (take_more bs k d low)) (skip_last first (rw (← is) under) h)

  own_place : (b : Branch) → get_or bs k d ≡ b → at_of l b.tap ≡ at_of l (get_or bs k d).tap
  own_place b same = ap (λ (x : Branch). at_of l x.tap) (sym same)

  add_last : (at : ℕ) (first : Option ℕ) → at ≡ at_of l (get_or bs k d).tap → from ≤ at → IsFirstOf l from (take k bs) first → IsFirstOf l from (take k bs ++ get_or bs k d ∷ []) (lower_place first at)
  add_last at None is up h = (
    (get_or bs k d, among_end (get_or bs k d) (take k bs), sym is),
    up,
    λ b among over.
        elim (among_last b (get_or bs k d) (take k bs) among) [
          | inl before ↦ absurd (h b before over)
          | inr same ↦ (let e : at_of l b.tap ≡ at_of l (get_or bs k d).tap = own_place b same in omega arith)
        ],
  )
  add_last at (Some p) is up h =
      cond_both (ltb at p) (Some at) (Some p) (λ (o : Option ℕ). IsFirstOf l from (take k bs ++ get_or bs k d ∷ []) o)
      (λ less.
      let under : at < p = ltb-true at p less in (
        (get_or bs k d, among_end (get_or bs k d) (take k bs), sym is),
        up,
        λ b among over.
            elim (among_last b (get_or bs k d) (take k bs) among) [
              | inl before ↦ (let q : p ≤ at_of l b.tap = h.2 b before over in omega arith)
              | inr same ↦ (let e : at_of l b.tap ≡ at_of l (get_or bs k d).tap = own_place b same in omega arith)
            ],
      ))
      (λ most.
      let over_p : p ≤ at = ltb-false at p most in (
        (h.0.0, among_more h.0.0 (get_or bs k d) (take k bs) h.0.1, h.0.2),
        h.1,
        λ b among over.
            elim (among_last b (get_or bs k d) (take k bs) among) [
              | inl before ↦ h.2 b before over
              | inr same ↦ (let e : at_of l b.tap ≡ at_of l (get_or bs k d).tap = own_place b same in omega arith)
            ],
      ))

  pub first_more : (at : ℕ) (first next : Option ℕ) → at ≡ at_of l (get_or bs k d).tap → from ≤ at → IsFirstOf l from (take k bs) first → next ≡ lower_place first at → IsFirstOf l from (take (k + 1) bs) next
  first_more at first next is up h next_is =
      subst (λ (xs : List Branch). IsFirstOf l from xs next) (sym (take_more bs k d low)) (rw next_is (add_last at first is up h))

first_whole : (l : Layout) (segment from : ℕ) (bs : List Branch) (first : Option ℕ) → AreBranchesOf l segment bs → IsFirstOf l from bs first → IsFirstPlace l segment from first
first_whole l segment from bs None of h = λ at up has.
    let on : part_by l way.Cable has.tap ≡ Some segment = tap_on l segment at has in
    let found : (b : Branch) × IsAmong b bs × (b.tap ≡ has.tap) = of.all has.tap on in
    let is : at_of l found.0.tap ≡ at = ap (at_of l) found.2 ∙ tap_at l segment at has in
    h found.0 found.1 (omega arith)
first_whole l segment from bs (Some p) of h = (
  subst (HasTapAt l segment) h.0.2 (has_at l h.0.0.tap segment (of.on h.0.0 h.0.1)),
  h.1,
  λ at up has.
      let on : part_by l way.Cable has.tap ≡ Some segment = tap_on l segment at has in
      let found : (b : Branch) × IsAmong b bs × (b.tap ≡ has.tap) = of.all has.tap on in
      let is : at_of l found.0.tap ≡ at = ap (at_of l) found.2 ∙ tap_at l segment at has in
      let least : p ≤ at_of l found.0.tap = h.2 found.0 found.1 (omega arith) in
      omega arith,
)

pub first_all : (l : Layout) (segment from : ℕ) (bs : List Branch) (k : ℕ) (first : Option ℕ) → AreBranchesOf l segment bs → length bs ≤ k → IsFirstOf l from (take k bs) first → IsFirstPlace l segment from first
first_all l segment from bs k first of all h = first_whole l segment from bs first of (subst (λ (xs : List Branch). IsFirstOf l from xs first) (take_all k bs all) h)

-- of these branches' places the last one
pub record IsLastOf (l : Layout) (bs : List Branch) (last : ℕ) : Type 0 where
  pub least : (b : Branch) → IsAmong b bs → at_of l b.tap ≤ last
  pub has : ((b : Branch) × IsAmong b bs × (at_of l b.tap ≡ last)) ⊎ (last ≡ 0)

pub last_none : (l : Layout) → IsLastOf l [] 0
last_none l = record { least = λ b h. absurd h; has = inr refl }

module _ (l : Layout) (bs : List Branch) (k : ℕ) (d : Branch) (low : k < length bs) where
  pub last_skip : (at last : ℕ) → at ≡ at_of l (get_or bs k d).tap → at ≤ last → IsLastOf l (take k bs) last → IsLastOf l (take (k + 1) bs) last
  last_skip at last is under h =
      subst (λ (xs : List Branch). IsLastOf l xs last) (sym (take_more bs k d low))
      record {
        least = λ b among.
            elim (among_last b (get_or bs k d) (take k bs) among) [
              | inl before ↦ h.least b before
              | inr same ↦ (let e : at_of l (get_or bs k d).tap ≡ at_of l b.tap = ap (λ (x : Branch). at_of l x.tap) same in omega arith)
            ];
        has = elim h.has [ inl found ↦ inl (found.0, among_more found.0 (get_or bs k d) (take k bs) found.1, found.2) | inr none ↦ inr none ];
      }

  pub last_more : (at last : ℕ) → at ≡ at_of l (get_or bs k d).tap → last < at → IsLastOf l (take k bs) last → IsLastOf l (take (k + 1) bs) at
  last_more at last is over h =
      subst (λ (xs : List Branch). IsLastOf l xs at) (sym (take_more bs k d low))
      record {
        least = λ b among.
            elim (among_last b (get_or bs k d) (take k bs) among) [
              | inl before ↦ (let under : at_of l b.tap ≤ last = h.least b before in omega arith)
              | inr same ↦ (let e : at_of l (get_or bs k d).tap ≡ at_of l b.tap = ap (λ (x : Branch). at_of l x.tap) same in omega arith)
            ];
        has = inl (get_or bs k d, among_end (get_or bs k d) (take k bs), sym is);
      }

pub last_all : (l : Layout) (segment : ℕ) (bs : List Branch) (k last : ℕ) → AreBranchesOf l segment bs → length bs ≤ k → IsLastOf l (take k bs) last → IsLastPlace l segment last
last_all l segment bs k last of all h =
    let whole : IsLastOf l bs last = subst (λ (xs : List Branch). IsLastOf l xs last) (take_all k bs all) h in
    record {
      least = λ at has.
          let found : (b : Branch) × IsAmong b bs × (b.tap ≡ has.tap) = of.all has.tap (tap_on l segment at has) in
          let is : at_of l found.0.tap ≡ at = ap (at_of l) found.2 ∙ tap_at l segment at has in
          let most : at_of l found.0.tap ≤ last = whole.least found.0 found.1 in
          omega arith;
      has = elim whole.has [
        | inl found ↦ inl (subst (HasTapAt l segment) found.2 (has_at l found.0.tap segment (of.on found.0 found.1)))
        | inr none ↦ inr none
      ];
    }

-- a tap's place keeps its bound
pub tap_low : (l : Layout) → IsSound l → (segment at : ℕ) → HasTapAt l segment at → at ≤ greatest_place
tap_low l sound segment at has = (sound_place l sound has.tap (record { segment = segment; at = at }) has.stands).at
