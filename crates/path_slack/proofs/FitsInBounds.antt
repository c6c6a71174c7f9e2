-- Where each place comes to lie within its bound, so far.
use Rattle.std.proofs.Common.{◌≡◌, sym, subst, ℕ, ◌+◌, List, take, Some, slice_get, All}
use Rattle.std.proofs.lemmas.List.Elements.{All-more}
use Rattle.std.proofs.lemmas.Option.{slice_get_within, get_or_from_slice_get}

-- one more item for which P holds
pub all_more : {X : Type 0} (P : X → Type 0) (xs : List X) (k : ℕ) (x : X) → slice_get xs k ≡ Some x → All P (take k xs) → P x → All P (take (k + 1) xs)
all_more P xs k x is all here =
    All-more P xs k x (slice_get_within xs k x is) all (subst P (sym (get_or_from_slice_get xs k x x is)) here)
