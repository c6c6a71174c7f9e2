-- The rule of a box, over the parcels that it holds, oldest first, and over what each of its passes has put and taken
-- (profile).
use Rattle.std.specs.Prelude.{◌≡◌, ℕ, ◌≤◌, ◌+◌, List, [], ◌∷◌, map, Option}
use Rattle.std.specs.List.{AllByRecursion}
use Rattle.load_plan.specs.declared.plan.Plan.{Plan}
use Rattle.net_parts.specs.declared.parcel.Parcel.{Parcel}
use Rattle.window_exchange.specs.declared.mail.Name.{Name}
use Rattle.window_exchange.specs.declared.mail.Lists.{Lists}
use Rattle.window_exchange.specs.MailNames.{parcel_name, IsHonest}

-- The weights of names, added up (profile).
abbrev pub weigh : (Name → ℕ) → List Name → ℕ
weigh h [] = 0
weigh h (x ∷ xs) = h x + weigh h xs

-- A number of each pass's view, added up over all of them (profile).
abbrev pub sum_of_views : (Lists → ℕ) → List Lists → ℕ
sum_of_views f [] = 0
sum_of_views f (v ∷ vs) = f v + sum_of_views f vs

-- The view of a pass that has put and taken parcels of these names, in this order (profile).
abbrev pub name_lists : List Name → List Name → Lists
name_lists put taken = record { put = put; taken = taken }

-- All parcels in the box are honest; and all passes that the box ever gave out have put each name as often as they have
-- taken it or it is in the box, in that it comes out even however the names are weighed (profile).
pub record IsBalanced (boxed : Option Plan) (items : List Parcel) (views : List Lists) : Type 0 where
  pub honest : AllByRecursion (IsHonest boxed) items
  pub even : (h : Name → ℕ) → sum_of_views (λ (v : Lists). weigh h v.put) views
      ≡ sum_of_views (λ (v : Lists). weigh h v.taken) views + weigh h (map parcel_name items)

-- Over all passes that the box ever gave out, and however names are weighed, no name was taken more often than it was
-- put; and so it stays when the next parcel is taken, which is honest (profile).
pub record IsFair (boxed : Option Plan) (items : List Parcel) (views : List Lists) : Type 0 where
  pub so_far : (h : Name → ℕ) → sum_of_views (λ (v : Lists). weigh h v.taken) views
      ≤ sum_of_views (λ (v : Lists). weigh h v.put) views
  pub next : (x : Parcel) (rest : List Parcel) → items ≡ x ∷ rest
      → IsHonest boxed x
      × ((h : Name → ℕ) → sum_of_views (λ (v : Lists). weigh h v.taken) views + h (parcel_name x)
      ≤ sum_of_views (λ (v : Lists). weigh h v.put) views)
