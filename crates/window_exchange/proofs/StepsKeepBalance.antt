-- Each kind of step keeps the rule of a box.
use Rattle.std.proofs.Common.{◌≡◌, ℕ, zero, suc, ◌+◌, List, [], ◌∷◌, ◌++◌, set, sym, refl, ap, subst, map, arith}
use Rattle.std.specs.List.{AllByRecursion}
use Rattle.std.specs.Prelude.{Option}
use mathlib.Core.Option.{some, some-injective, some-ne-none}
use lib.ListN.{get_elem?}
use Rattle.crossbeam_queue.specs.Fifo.{Pushes, Pops, Forks}
use Rattle.load_plan.specs.declared.plan.Plan.{Plan}
use Rattle.net_parts.specs.declared.parcel.Parcel.{Parcel}
use Rattle.window_exchange.specs.declared.mail.Name.{Name}
use Rattle.window_exchange.specs.declared.mail.Lists.{Lists}
use Rattle.window_exchange.specs.MailNames.{parcel_name, IsHonest}
use Rattle.window_exchange.specs.Balance.{weigh, sum_of_views, name_lists, IsBalanced, IsFair}

total_set : (f : Lists → ℕ) (views : List Lists) (port : ℕ) (v w : Lists) → get_elem? views port ≡ some v → sum_of_views f (set views port w) + f v ≡ sum_of_views f views + f w
total_set f [] port v w e = absurd (some-ne-none v (sym e))
total_set f (u ∷ us) zero v w e = let is : f u ≡ f v = ap f (some-injective u v e) in omega arith
total_set f (u ∷ us) (suc port) v w e = omega (arith, total_set f us port v w e)

total_snoc : (f : Lists → ℕ) (views : List Lists) (v : Lists) → sum_of_views f (views ++ v ∷ []) ≡ sum_of_views f views + f v
total_snoc f [] v = omega arith
total_snoc f (u ∷ us) v = omega (arith, total_snoc f us v)

weigh_snoc : (h : Name → ℕ) (xs : List Name) (x : Name) → weigh h (xs ++ x ∷ []) ≡ weigh h xs + h x
weigh_snoc h [] x = omega arith
weigh_snoc h (y ∷ ys) x = omega (arith, weigh_snoc h ys x)

all_snoc : {X : Type 0} (P : X → Type 0) (xs : List X) (x : X) → AllByRecursion P xs → P x → AllByRecursion P (xs ++ x ∷ [])
all_snoc P [] x a p = (p, tt)
all_snoc P (y ∷ ys) x a p = (a.0, all_snoc P ys x a.1 p)

module _ (n : Option Plan) where
  weigh_parcels : (h : Name → ℕ) (items : List Parcel) (x : Parcel) → weigh h (map parcel_name (items ++ x ∷ [])) ≡ weigh h (map parcel_name items) + h (parcel_name x)
  weigh_parcels h [] x = omega arith
  weigh_parcels h (y ∷ ys) x = omega (arith, weigh_parcels h ys x)

  pub begins : IsBalanced n [] (name_lists [] [] ∷ [])
  begins = record { honest = tt; even = λ h. omega arith }

  pub sends : (room port : ℕ) (v : Lists) (x : Parcel) → IsHonest n x
      → Pushes (IsBalanced n) room port v x (λ w. w ≡ name_lists (v.put ++ parcel_name x ∷ []) v.taken)
  sends room port v x good items views _ h at =
      let w : Lists = name_lists (v.put ++ parcel_name x ∷ []) v.taken in (
        w,
        record {
          honest = all_snoc (IsHonest n) items x h.honest good;
          even = λ k.
              let a = total_set (λ (u : Lists). weigh k u.put) views port v w at in
              let b = total_set (λ (u : Lists). weigh k u.taken) views port v w at in
              let e = h.even k in
              omega (arith, weigh_snoc k v.put (parcel_name x), weigh_parcels k items x);
        },
        refl,
      )

  pub gets : (port : ℕ) (v : Lists) → Pops (IsBalanced n) port v (λ x w. (w ≡ name_lists v.put (v.taken ++ parcel_name x ∷ [])) × IsHonest n x)
  gets port v x items views h at =
      let w : Lists = name_lists v.put (v.taken ++ parcel_name x ∷ []) in (
        w,
        record {
          honest = h.honest.1;
          even = λ k.
              let a = total_set (λ (u : Lists). weigh k u.put) views port v w at in
              let b = total_set (λ (u : Lists). weigh k u.taken) views port v w at in
              let e = h.even k in
              omega (arith, weigh_snoc k v.taken (parcel_name x));
        },
        (refl, h.honest.0),
      )

  pub forks : (port : ℕ) (v : Lists) → Forks (IsBalanced n) port v v (name_lists [] [])
  forks port v items views h at =
      record {
        honest = h.honest;
        even = λ k.
            let a = total_set (λ (u : Lists). weigh k u.put) views port v v at in
            let b = total_set (λ (u : Lists). weigh k u.taken) views port v v at in
            let e = h.even k in
            omega (arith, total_snoc (λ (u : Lists). weigh k u.put) (set views port v) (name_lists [] []), total_snoc (λ (u : Lists). weigh k u.taken) (set views port v) (name_lists [] []));
      }

  first_honest : (x : Parcel) (items rest : List Parcel) → items ≡ x ∷ rest → AllByRecursion (IsHonest n) items → IsHonest n x
  first_honest x items rest e h = (subst (AllByRecursion (IsHonest n)) e h).0

  pub fair : (items : List Parcel) (views : List Lists) → IsBalanced n items views → IsFair n items views
  fair items views b = record {
    so_far = λ h. let e = b.even h in omega (arith, e);
    next = λ x rest is. (
      first_honest x items rest is b.honest,
      λ h.
          let e = b.even h in
          let w : weigh h (map parcel_name items) ≡ h (parcel_name x) + weigh h (map parcel_name rest) = ap (λ (xs : List Parcel). weigh h (map parcel_name xs)) is in
          omega (arith, e, w),
    );
  }
