-- Whole shares and the events of a board (profile). Parts, edges and windows count from 0.
use Rattle.std.specs.Prelude.{◌≡◌, ℕ, Bool, true, false, Some, IfSome}
use Rattle.load_plan.specs.declared.plan.Plan.{Plan}
use Rattle.net_parts.specs.declared.parcel.Parcel.{Parcel}
use Rattle.net_parts.specs.Parts.{is_segment_part}
use Rattle.net_parts.specs.Parcels.{arrived}
use Rattle.net_parts.specs.Boards.{Board, Mail, Run, Spoil, Post, Take, opening_board, IsEnabled, happens}
use Rattle.exchange_core.specs.Holdings.{Holding, IsHoldingReady, IsHoldingClean, added_segment, added_repeater, reserved_holding, refused_holding, run_holding, spoil_holding}
use Rattle.exchange_core.specs.Shares.{Held, nothing_held, part_of, owns, change, is_refilled, posted_parcel, post_held, has_place_for, take_held, with_segment, with_repeater, part_of_kind_on, IsOfPlan, IsSoundShare}
use Rattle.exchange_core.specs.Ties.{Agrees, parcel_on_board}

-- A share is on a board: all its parts are of the plan, and the board has each of them, and the parcels at it, as the
-- share has them (profile).
pub record IsOnBoard (plan : Plan) (s : Held) (b : Board) : Type 0 where
  pub plans : IsOfPlan plan s
  pub agree : (kind : Bool) (u : ℕ) (h : Holding) → part_of_kind_on kind u s ≡ Some h → Agrees h b

-- A share without parts is on the opening board. So is one with one more segment, which has its opening parcels, or
-- with one more repeater, whose parcels are away (profile).
abbrev pub SharesBegin : Type 0
SharesBegin =
    (plan : Plan) → IsOnBoard plan nothing_held (opening_board plan)
    × ((u : ℕ) (s : Held) → is_segment_part plan u ≡ true → IsOnBoard plan s (opening_board plan)
    → IsOnBoard plan (with_segment (added_segment plan u 0 (arrived plan u 0)) s) (opening_board plan))
    × ((u : ℕ) (s : Held) → is_segment_part plan u ≡ false → IsOnBoard plan s (opening_board plan)
    → IsOnBoard plan (with_repeater (added_repeater plan u 0) s) (opening_board plan))

-- A share in which room was made for a window, or was refused, stays on the board as it is (profile).
abbrev pub SharesReserve : Type 0
SharesReserve =
    (plan : Plan) (u : ℕ) (s : Held) (b : Board) → IsOnBoard plan s b
    → IsOnBoard plan (change reserved_holding u s) b × IsOnBoard plan (change refused_holding u s) b

-- A part that may run in a share may run on the board, and then the whole share is on the board (profile).
abbrev pub SharesRun : Type 0
SharesRun =
    (plan : Plan) (u : ℕ) (s : Held) (b : Board) → IsSoundShare s → IsOnBoard plan s b → owns u s ≡ true
    → IfSome (part_of u s) IsHoldingReady → IfSome (part_of u s) IsHoldingClean
    → IfSome (part_of u s) (λ h. h.lost ≡ false)
    → IsEnabled plan b (Run u) × IsOnBoard plan (change run_holding u s) (happens plan b (Run u))

-- The same of a part that is given up (profile).
abbrev pub SharesSpoil : Type 0
SharesSpoil =
    (plan : Plan) (u : ℕ) (s : Held) (b : Board) → IsSoundShare s → IsOnBoard plan s b → owns u s ≡ true
    → IfSome (part_of u s) IsHoldingReady
    → IsEnabled plan b (Spoil u) × IsOnBoard plan (change spoil_holding u s) (happens plan b (Spoil u))

-- The same of a parcel that leaves a share; it is then in mail as it was handed out (profile).
abbrev pub SharesPost : Type 0
SharesPost =
    (plan : Plan) (e : ℕ) (s : Held) (b : Board) → IsSoundShare s → IsOnBoard plan s b → is_refilled e s ≡ true
    → IsEnabled plan b (Post e) × IsOnBoard plan (post_held e s) (happens plan b (Post e))
    × ((happens plan b (Post e)).parcel e ≡ parcel_on_board Mail (posted_parcel e s))

-- The same of a parcel that comes into a share, where it is so in mail (profile).
abbrev pub SharesTake : Type 0
SharesTake =
    (plan : Plan) (p : Parcel) (s : Held) (b : Board) → IsSoundShare s → IsOnBoard plan s b
    → has_place_for p s ≡ true → b.parcel p.edge ≡ parcel_on_board Mail p
    → IsEnabled plan b (Take p.edge) × IsOnBoard plan (take_held p s) (happens plan b (Take p.edge))

-- No part is in both shares (profile).
abbrev pub HaveNoPartInCommon : Held → Held → Type 0
HaveNoPartInCommon s t = (u : ℕ) → owns u s ≡ true → owns u t ≡ false

-- What happens to one share leaves another on the board, where both are on it and have no part in common (profile).
abbrev pub OthersStay : Type 0
OthersStay =
    (plan : Plan) (s t : Held) (b : Board) → IsSoundShare s → IsSoundShare t → HaveNoPartInCommon s t
    → IsOnBoard plan s b → IsOnBoard plan t b
    → ((u : ℕ) → owns u s ≡ true → IfSome (part_of u s) IsHoldingReady
    → IsOnBoard plan t (happens plan b (Run u)) × IsOnBoard plan t (happens plan b (Spoil u)))
    × ((e : ℕ) → is_refilled e s ≡ true → IsOnBoard plan t (happens plan b (Post e)))
    × ((e : ℕ) → (b.parcel e).spot ≡ Mail → IsOnBoard plan t (happens plan b (Take e)))
