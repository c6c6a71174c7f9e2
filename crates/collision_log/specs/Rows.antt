-- The text of a row of the log (profile).
use Rattle.std.specs.Prelude.{ℕ, Bool, List, ◌++◌, decimal, codes, if◌then◌else◌, Option, None, Some}
use Rattle.collision_log.specs.declared.row.Body.{Body}
use Rattle.collision_log.specs.declared.row.Body.TheVariants.{Sent, Collided, GivenUp, Cut, Received, Dropped, Clash, Closed, Opened, Halted}
use Rattle.collision_log.specs.declared.row.Row.{Row}
use Rattle.collision_log.specs.declared.row.Why.{Why}
use Rattle.collision_log.specs.declared.row.Why.TheVariants.{Fragment, TooLong, FcsError, AlignError, Damaged}

-- the half bit of a sending, from 0, at which a collision was heard
abbrev pub hit_text : Option ℕ → List ℕ
hit_text None = codes "none"
hit_text (Some hit) = decimal hit

-- the word for what was wrong with a reception
abbrev pub why_text : Why → List ℕ
why_text Fragment = codes "fragment"
why_text TooLong = codes "too_long"
why_text FcsError = codes "fcs"
why_text AlignError = codes "align"
why_text Damaged = codes "damaged"

-- what happened, with frames, attempts and ports counted from 1
abbrev pub body_text : Body → List ℕ
body_text (Sent frame start attempt) =
    codes "sent frame " ++ decimal frame ++ codes " start " ++ decimal start ++ codes " attempt " ++ decimal attempt
body_text (Collided frame start attempt hit drawn) =
    codes "collided frame " ++ decimal frame ++ codes " start " ++ decimal start ++ codes " attempt " ++ decimal attempt
    ++ codes " hit " ++ decimal hit ++ codes " draw " ++ decimal drawn
body_text (GivenUp frame start hit) =
    codes "given_up frame " ++ decimal frame ++ codes " start " ++ decimal start ++ codes " hit " ++ decimal hit
body_text (Cut frame start attempt hit) =
    codes "cut frame " ++ decimal frame ++ codes " start " ++ decimal start ++ codes " attempt " ++ decimal attempt
    ++ codes " hit " ++ hit_text hit
body_text (Received octets) = codes "received octets " ++ decimal octets
body_text (Dropped why halves) = codes "dropped " ++ why_text why ++ codes " halves " ++ decimal halves
body_text Clash = codes "clash"
body_text (Closed port) = codes "closed port " ++ decimal port
body_text (Opened port) = codes "opened port " ++ decimal port
body_text (Halted port) = codes "halted port " ++ decimal port

-- the word for a repeater or a station
abbrev pub device_word : Bool → List ℕ
device_word repeater = if repeater then codes "repeater " else codes "station "

-- the line of a row of a repeater or a station with this name; half bits are counted from 0
abbrev pub row_line : Row → Bool → List ℕ → List ℕ
row_line row repeater name =
    decimal row.t ++ codes " " ++ device_word repeater ++ name ++ codes " " ++ body_text row.body ++ codes "\n"
