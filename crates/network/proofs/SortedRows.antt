-- The rows of one half bit are in the order of a log: those of the stations, then those of the repeaters.
use Rattle.std.proofs.Common.{◌≡◌, ℕ, zero, suc, ◌+◌, ◌-◌, ◌<◌, ◌≤◌, inl, inr, All, Option, Some, None, List, [], ◌∷◌, ◌++◌, length, length-append, get_or, refl, sym, subst, ◌∙◌, arith}
use Rattle.std.specs.List.{AllPairs}
use Rattle.std.proofs.lemmas.List.{get_or_append_left, get_or-append_right}
use Rattle.std.proofs.lemmas.List.Elements.{All-append}
use Rattle.std.proofs.lemmas.Bool.{cases_lt}
use Rattle.collision_log.specs.declared.row.Body.{Body}
use Rattle.collision_log.specs.declared.row.Row.{Row}
use Rattle.collision_log.specs.Merged.{IsNotAfter, IsLogOrder}
use Rattle.mac_transmit.specs.Sender.{Sender, cut_of}
use Rattle.network.specs.Rows.{row_of, rows_of, rows_of_bodies, repeater_rows}
use Rattle.network.specs.Outputs.{cut_rows}

-- one list in order behind another
pub pairs_append : {X : Type 0} (R : X → X → Type 0) (P Q : X → Type 0) (xs ys : List X) → AllPairs R xs → AllPairs R ys → All P xs → All Q ys → ((x y : X) → P x → Q y → R x y) → AllPairs R (xs ++ ys)
pairs_append R P Q xs ys rx ry px qy both i j d l h =
    let sum = length-append xs ys in
    elim (cases_lt j (length xs)) [
      | inl first ↦
          subst (λ x. R x (get_or (xs ++ ys) j d)) (sym (get_or_append_left xs ys d i (omega (arith, l, first))))
          (subst (R (get_or xs i d)) (sym (get_or_append_left xs ys d j first)) (rx i j d l first))
      | inr later ↦
          let at : get_or (xs ++ ys) j d ≡ get_or ys (j - length xs) d = get_or-append_right xs ys (length xs) j d refl later in
          let in_ys : j - length xs < length ys = omega (arith, h, sum, later) in
          elim (cases_lt i (length xs)) [
            | inl first ↦
                subst (λ x. R x (get_or (xs ++ ys) j d)) (sym (get_or_append_left xs ys d i first))
                (subst (R (get_or xs i d)) (sym at) (both (get_or xs i d) (get_or ys (j - length xs) d) (px i d first) (qy (j - length xs) d in_ys)))
            | inr too ↦
                subst (λ x. R x (get_or (xs ++ ys) j d)) (sym (get_or-append_right xs ys (length xs) i d refl too))
                (subst (R (get_or ys (i - length xs) d)) (sym at) (ry (i - length xs) (j - length xs) d (omega (arith, l, too)) in_ys))
          ]
    ]

-- rows of half bit t, of devices from this one to below that one
pub record Between (t low high : ℕ) (r : Row) : Type 0 where
  pub time : r.t ≡ t
  pub low_end : low ≤ r.device
  pub high_end : r.device < high

pub record IsSorted (t low high : ℕ) (rs : List Row) : Type 0 where
  pub between : All (Between t low high) rs
  pub order : IsLogOrder rs

pub wider : (t low high l h : ℕ) (rs : List Row) → l ≤ low → high ≤ h → All (Between t low high) rs → All (Between t l h) rs
wider t low high l h rs le he all = λ i d m. let b = all i d m in record { time = b.time; low_end = let x = b.low_end in omega (arith, x, le); high_end = let x = b.high_end in omega (arith, x, he) }

pub in_order : (t low mid high : ℕ) (xs ys : List Row) → IsSorted t low mid xs → IsSorted t mid high ys → mid ≤ high → low ≤ mid → IsSorted t low high (xs ++ ys)
in_order t low mid high xs ys sx sy h l = record {
  between = All-append (Between t low high) xs ys (wider t low mid low high xs (omega arith) h sx.between) (wider t mid high low high ys l (omega arith) sy.between);
  order = pairs_append IsNotAfter (Between t low mid) (Between t mid high) xs ys sx.order sy.order sx.between sy.between
      (λ x y p q. inr (p.time ∙ sym q.time, let a = p.high_end in let b = q.low_end in omega (arith, a, b)));
}

pub no_rows : (t low high : ℕ) → IsSorted t low high []
no_rows t low high = record { between = λ i d m. absurd (omega arith); order = λ i j d l m. absurd (omega arith) }

pub one_row : (t k : ℕ) (e : Option Body) → IsSorted t k (k + 1) (row_of t k e)
one_row t k None = no_rows t k (k + 1)
one_row t k (Some body) = record { between = λ i d m. here i d m; order = λ i j d l m. absurd (omega (arith, l, m)) }
  where
    here : (i : ℕ) (d : Row) → i < length (row_of t k (Some body)) → Between t k (k + 1) (get_or (row_of t k (Some body)) i d)
    here zero d m = record { time = refl; low_end = omega arith; high_end = omega arith }
    here (suc i) d m = absurd (omega arith)

-- rows of one device, one after the other
pub same_device : (t k : ℕ) (xs ys : List Row) → IsSorted t k (k + 1) xs → IsSorted t k (k + 1) ys → IsSorted t k (k + 1) (xs ++ ys)
same_device t k xs ys sx sy = record {
  between = All-append (Between t k (k + 1)) xs ys sx.between sy.between;
  order = pairs_append IsNotAfter (Between t k (k + 1)) (Between t k (k + 1)) xs ys sx.order sy.order sx.between sy.between
      (λ x y p q. inr (p.time ∙ sym q.time, let a = p.high_end in let b = q.low_end in omega (arith, a, b)));
}

pub stations_sorted : (t k n : ℕ) (es rs : List (Option Body)) → n ≡ k + length es → IsSorted t k n (rows_of t k es rs)
stations_sorted t k n [] rs e = no_rows t k n
stations_sorted t k n (e ∷ es) [] is = no_rows t k n
stations_sorted t k n (e ∷ es) (r ∷ rs) is =
    in_order t k (k + 1) n (row_of t k e ++ row_of t k r) (rows_of t (k + 1) es rs) (same_device t k _ _ (one_row t k e) (one_row t k r)) (stations_sorted t (k + 1) n es rs (omega arith)) (omega arith) (omega arith)

pub cut_sorted : (t k n : ℕ) (ss : List Sender) → n ≡ k + length ss → IsSorted t k n (cut_rows t k ss)
cut_sorted t k n [] e = no_rows t k n
cut_sorted t k n (s ∷ ss) e = in_order t k (k + 1) n (row_of t k (cut_of s)) (cut_rows t (k + 1) ss) (one_row t k (cut_of s)) (cut_sorted t (k + 1) n ss (omega arith)) (omega arith) (omega arith)

pub bodies_sorted : (t k : ℕ) (bodies : List Body) → IsSorted t k (k + 1) (rows_of_bodies t k bodies)
bodies_sorted t k [] = no_rows t k (k + 1)
bodies_sorted t k (body ∷ bodies) = same_device t k (record { t = t; device = k; body = body } ∷ []) (rows_of_bodies t k bodies) (one_row t k (Some body)) (bodies_sorted t k bodies)

pub repeaters_sorted : (t k n : ℕ) (all : List (List Body)) → n ≡ k + length all → IsSorted t k n (repeater_rows t k all)
repeaters_sorted t k n [] e = no_rows t k n
repeaters_sorted t k n (bodies ∷ all) e = in_order t k (k + 1) n (rows_of_bodies t k bodies) (repeater_rows t (k + 1) all) (bodies_sorted t k bodies) (repeaters_sorted t (k + 1) n all (omega arith)) (omega arith) (omega arith)
