-- Two parts of a network have one colour exactly where some path of edges joins them.
use Rattle.std.proofs.Common.{◌≡◌, ◌⊎◌, ℕ, ◌<◌, true, List, [], ◌∷◌, ◌++◌, length, get_or, refl, sym, ◌∙◌, ap, append-nil, length-append, zero, suc, ◌==◌, inl, inr, arith, append_assoc}
use Rattle.std.proofs.lemmas.List.{get_or-map, length-map}
use Rattle.std.proofs.lemmas.Bool.{cases_Bool}
use Rattle.std.proofs.lemmas.Bool.Decides.{Decides-eqb}
use Rattle.std.proofs.lemmas.Grind.{common_steps}
use Rattle.layout.specs.declared.edge.Edge.{Edge}
use Rattle.layout.specs.EdgePaths.{GoesBetween, AreNeighbours, EdgePath, stay, go_on, HaveEndsBelow, ColoursTellPaths}
use Rattle.layout.specs.Joined.{repaint, painted, painted_all, counted_up, colours, is_joined}

pub joined-trans : {edges : List Edge} {a b c : ℕ} → EdgePath edges a b → EdgePath edges b c → EdgePath edges a c
joined-trans stay q = q
joined-trans (go_on t p) q = go_on t (joined-trans p q)

pub neighbours-more : (es fs : List Edge) (a b : ℕ) → AreNeighbours es a b → AreNeighbours (es ++ fs) a b
neighbours-more [] fs a b t = absurd t
neighbours-more (e ∷ es) fs a b t = elim t [ inl l ↦ inl l | inr r ↦ inr (neighbours-more es fs a b r) ]

neighbours-last : (es : List Edge) (e : Edge) (a b : ℕ) → GoesBetween e a b → AreNeighbours (es ++ e ∷ []) a b
neighbours-last [] e a b l = inl l
neighbours-last (f ∷ es) e a b l = inr (neighbours-last es e a b l)

pub neighbours-cases : (es : List Edge) (e : Edge) (a b : ℕ) → AreNeighbours (es ++ e ∷ []) a b → AreNeighbours es a b ⊎ GoesBetween e a b
neighbours-cases [] e a b t = elim t [ inl l ↦ inr l | inr none ↦ absurd none ]
neighbours-cases (f ∷ es) e a b t =
    elim t [
      | inl l ↦ inl (inl l)
      | inr r ↦ elim (neighbours-cases es e a b r) [ inl s ↦ inl (inr s) | inr l ↦ inr l ]
    ]

joined-more : (es fs : List Edge) {a b : ℕ} → EdgePath es a b → EdgePath (es ++ fs) a b
joined-more es fs stay = stay
joined-more es fs (go_on {a} {b} t p) = go_on (neighbours-more es fs a b t) (joined-more es fs p)

same_part : {edges : List Edge} (a b : ℕ) → a ≡ b → EdgePath edges a b
same_part {edges} a b e = rw e stay

-- the colours tell the paths over the edges
pub record Tell (edges : List Edge) (cs : List ℕ) : Type 0 where
  pub sound : (a b : ℕ) → a < length cs → b < length cs → get_or cs a 0 ≡ get_or cs b 0 → EdgePath edges a b
  pub kept : (a b : ℕ) → AreNeighbours edges a b → (a < length cs) × (b < length cs) × (get_or cs a 0 ≡ get_or cs b 0)

repaint-cases : (x y p q : ℕ) → repaint x y p ≡ repaint x y q → (p ≡ q) ⊎ (((p ≡ x) × (q ≡ y)) ⊎ ((p ≡ y) × (q ≡ x)))
repaint-cases x y p q same =
    elim (cases_Bool (p == x)) [
      | inl px ↦ elim (cases_Bool (q == x)) [
        | inl qx ↦ inl ((Decides-eqb p x).0 px ∙ sym ((Decides-eqb q x).0 qx))
        | inr nq ↦ inr (inl ((Decides-eqb p x).0 px, sym (rw (px, nq) at same)))
      ]
      | inr np ↦ elim (cases_Bool (q == x)) [
        | inl qx ↦ inr (inr (rw (np, qx) at same, (Decides-eqb q x).0 qx))
        | inr nq ↦ inl (rw (np, nq) at same)
      ]
    ]

repaint-ends : (x y : ℕ) → (repaint x y x ≡ y) × (repaint x y y ≡ y)
repaint-ends x y =
    (rw ((Decides-eqb x x).1 refl), elim (cases_Bool (y == x)) [ inl yx ↦ rw yx | inr ny ↦ rw ny ])

painted-at : (cs : List ℕ) (e : Edge) (i : ℕ) → i < length cs → get_or (painted cs e) i 0 ≡ repaint (get_or cs e.from 0) (get_or cs e.to 0) (get_or cs i 0)
painted-at cs e i h = get_or-map (repaint (get_or cs e.from 0) (get_or cs e.to 0)) cs i 0 0 h

module _ (es : List Edge) (cs : List ℕ) (e : Edge) (from : e.from < length cs) (to : e.to < length cs) (told : Tell es cs) where
  across : EdgePath (es ++ e ∷ []) e.from e.to
  across = go_on (neighbours-last es e e.from e.to (inl (refl, refl))) stay

  back : EdgePath (es ++ e ∷ []) e.to e.from
  back = go_on (neighbours-last es e e.to e.from (inr (refl, refl))) stay

  old : (a b : ℕ) → a < length cs → b < length cs → get_or cs a 0 ≡ get_or cs b 0 → EdgePath (es ++ e ∷ []) a b
  old a b ha hb same = joined-more es (e ∷ []) (told.sound a b ha hb same)

  sound_next : (a b : ℕ) → a < length cs → b < length cs → repaint (get_or cs e.from 0) (get_or cs e.to 0) (get_or cs a 0) ≡ repaint (get_or cs e.from 0) (get_or cs e.to 0) (get_or cs b 0) → EdgePath (es ++ e ∷ []) a b
  sound_next a b ha hb same =
      elim (repaint-cases (get_or cs e.from 0) (get_or cs e.to 0) (get_or cs a 0) (get_or cs b 0) same) [
        | inl equal ↦ old a b ha hb equal
        | inr crossed ↦ elim crossed [
          | inl (p, q) ↦ joined-trans (old a e.from ha from p) (joined-trans across (old e.to b to hb (sym q)))
          | inr (p, q) ↦ joined-trans (old a e.to ha to p) (joined-trans back (old e.from b from hb (sym q)))
        ]
      ]

  link_next : (a b : ℕ) → GoesBetween e a b → (a < length cs) × (b < length cs) × (repaint (get_or cs e.from 0) (get_or cs e.to 0) (get_or cs a 0) ≡ repaint (get_or cs e.from 0) (get_or cs e.to 0) (get_or cs b 0))
  link_next a b l =
      let ends = repaint-ends (get_or cs e.from 0) (get_or cs e.to 0) in
      elim l [
        | inl (p, q) ↦ rw (← p, ← q) (from, to, ends.0 ∙ sym ends.1)
        | inr (p, q) ↦ rw (← p, ← q) (to, from, ends.1 ∙ sym ends.0)
      ]

  kept_next : (a b : ℕ) → AreNeighbours (es ++ e ∷ []) a b → (a < length cs) × (b < length cs) × (repaint (get_or cs e.from 0) (get_or cs e.to 0) (get_or cs a 0) ≡ repaint (get_or cs e.from 0) (get_or cs e.to 0) (get_or cs b 0))
  kept_next a b t =
      elim (neighbours-cases es e a b t) [
        | inl before ↦ let k = told.kept a b before in (k.0, k.1, ap (repaint (get_or cs e.from 0) (get_or cs e.to 0)) k.2)
        | inr l ↦ link_next a b l
      ]

  tell-painted : Tell (es ++ e ∷ []) (painted cs e)
  tell-painted = record {
    sound = λ a b ha hb same.
        let ha' : a < length cs = rw length-map at ha in
        let hb' : b < length cs = rw length-map at hb in
        sound_next a b ha' hb' (sym (painted-at cs e a ha') ∙ same ∙ painted-at cs e b hb');
    kept = λ a b t. let k = kept_next a b t in rw length-map (k.0, k.1, painted-at cs e a k.0 ∙ k.2 ∙ sym (painted-at cs e b k.1));
  }

tell-all : (before after : List Edge) (cs : List ℕ) → HaveEndsBelow (length cs) after → Tell before cs → Tell (before ++ after) (painted_all cs after)
tell-all before [] cs within told = rw append-nil told
tell-all before (e ∷ es) cs within told =
    let more : HaveEndsBelow (length (painted cs e)) es = rw length-map within.2 in
    rw append_assoc at (tell-all (before ++ e ∷ []) es (painted cs e) more (tell-painted before cs e within.0 within.1 told))

-- two parts have one colour exactly where some path joins them
pub joined-same : (edges : List Edge) (cs : List ℕ) → Tell edges cs → {a b : ℕ} → EdgePath edges a b → get_or cs a 0 ≡ get_or cs b 0
joined-same edges cs told stay = refl
joined-same edges cs told (go_on {a} {b} t p) = (told.kept a b t).2 ∙ joined-same edges cs told p

pub length-counted : (n : ℕ) → length (counted_up n) ≡ n
length-counted zero = refl
length-counted (suc n) = rw (length-append (counted_up n) (n ∷ [])) (omega (arith, length-counted n))

counted_last : (xs : List ℕ) (n i d : ℕ) → length xs ≡ n → (i < n → get_or xs i d ≡ i) → i < suc n → get_or (xs ++ n ∷ []) i d ≡ i
counted_last xs n i d len before h = grind (arith, common_steps)

pub counted-at : (n i d : ℕ) → i < n → get_or (counted_up n) i d ≡ i
counted-at zero i d h = absurd (omega arith)
counted-at (suc n) i d h = counted_last (counted_up n) n i d (length-counted n) (counted-at n i d) h

tell-none : (n : ℕ) → Tell [] (counted_up n)
tell-none n = record {
  sound = λ a b ha hb same.
      let la : get_or (counted_up n) a 0 ≡ a = counted-at n a 0 (rw length-counted at ha) in
      let lb : get_or (counted_up n) b 0 ≡ b = counted-at n b 0 (rw length-counted at hb) in
      same_part a b (sym la ∙ same ∙ lb);
  kept = λ a b t. absurd t;
}

-- the colours of all edges tell their paths
pub told : (n : ℕ) (edges : List Edge) → HaveEndsBelow n edges → Tell edges (colours n edges)
unfolding colours
told n edges within = let w : HaveEndsBelow (length (counted_up n)) edges = rw (length-counted n) within in tell-all [] edges (counted_up n) w (tell-none n)

length-painted_all : (cs : List ℕ) (es : List Edge) → length (painted_all cs es) ≡ length cs
length-painted_all cs [] = refl
length-painted_all cs (e ∷ es) = length-painted_all (painted cs e) es ∙ length-map cs (repaint (get_or cs e.from 0) (get_or cs e.to 0))

pub length-colours : (n : ℕ) (edges : List Edge) → length (colours n edges) ≡ n
unfolding colours
length-colours n edges = length-painted_all (counted_up n) edges ∙ length-counted n

pub joined_from : (n : ℕ) (edges : List Edge) (a b : ℕ) → HaveEndsBelow n edges → a < n → b < n → is_joined n edges a b ≡ true → EdgePath edges a b
unfolding is_joined
joined_from n edges a b within ha hb same = (told n edges within).sound a b (rw length-colours ha) (rw length-colours hb) ((Decides-eqb (get_or (colours n edges) a 0) (get_or (colours n edges) b 0)).0 same)

pub joined_to : (n : ℕ) (edges : List Edge) (a b : ℕ) → HaveEndsBelow n edges → EdgePath edges a b → is_joined n edges a b ≡ true
unfolding is_joined
joined_to n edges a b within path = (Decides-eqb (get_or (colours n edges) a 0) (get_or (colours n edges) b 0)).1 (joined-same edges (colours n edges) (told n edges within) path)

pub colours_tell_paths : (n : ℕ) (edges : List Edge) → HaveEndsBelow n edges → ColoursTellPaths n edges
colours_tell_paths n edges within a b ha hb = (joined_from n edges a b within ha hb, joined_to n edges a b within)
