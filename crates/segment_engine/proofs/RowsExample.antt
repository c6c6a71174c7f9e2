-- An example of rows of a half bit: in half bit 9 the sender of the first of two stations, device 4, is done, and the
-- receivers of both, the other of them device 6, have received something.
use Rattle.std.proofs.Common.{◌≡◌, ℕ, zero, suc, Some, None, [], ◌∷◌, refl}
use Rattle.std.specs.Prelude.{Option}
use Rattle.collision_log.specs.declared.row.Body.{Body}
use Rattle.collision_log.specs.declared.row.Body.TheVariants.{Sent, Received}
use Rattle.collision_log.specs.declared.row.Row.{Row}
use Rattle.segment_engine.specs.StationsApart.{rows_of_both}

abbrev row : ℕ → Body → Row
row device body = record { t = 9; device = device; body = body }

abbrev sent : ℕ → Option Body
sent zero = Some (Sent 2 1 3)
sent (suc k) = None

abbrev received : ℕ → Option Body
received zero = Some (Received 64)
received (suc k) = Some (Received 80)

-- of the first, its sender's row is before its receiver's
pub of_the_first : rows_of_both 9 (4 ∷ 6 ∷ []) sent received 1 ≡ row 4 (Sent 2 1 3) ∷ row 4 (Received 64) ∷ []
of_the_first = refl

pub of_both : rows_of_both 9 (4 ∷ 6 ∷ []) sent received 2 ≡ row 4 (Sent 2 1 3) ∷ row 4 (Received 64) ∷ row 6 (Received 80) ∷ []
of_both = refl
