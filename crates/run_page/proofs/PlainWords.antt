-- Words, numbers, names and rows of the log in which no octet means something in HTML.
use Rattle.std.proofs.Common.{◌≡◌, ℕ, zero, suc, Bool, true, false, List, [], ◌∷◌, ◌++◌, codes, map, refl}
use Rattle.std.specs.Prelude.{decimal, Option, None, Some, option_map, slice_get, unwrap_or}
use Rattle.std.specs.List.{AllByRecursion, flat_map}
use Rattle.std.proofs.lemmas.List.Elements.{All-append, All-map, recursion_from_All}
use Rattle.collision_log.specs.Rows.{body_text, device_word, hit_text, row_line, why_text}
use Rattle.collision_log.specs.declared.row.Body.{Body}
use Rattle.collision_log.specs.declared.row.Body.TheVariants as body
use Rattle.collision_log.specs.declared.row.Row.{Row}
use Rattle.layout.specs.Sound.{IsName, IsSound, device_names}
use Rattle.layout.specs.declared.lines.Layout.{Layout}
use Rattle.run_picture.specs.Markup.{is_plain}
use Rattle.run_picture.proofs.Plain.{decimal_plain, name_plain, plain_append}
use Rattle.run_picture.proofs.PlainPieces.{why_plain}

-- no octet of the text means something in HTML
pub record IsPlain (text : List ℕ) : Type 0 where
  pub is : is_plain text ≡ true

pub words : (text : List ℕ) → is_plain text ≡ true → IsPlain text
words text h = record { is = h }

pub nothing : IsPlain []
nothing = words [] refl

pub number : (n : ℕ) → IsPlain (decimal n)
number n = words (decimal n) (decimal_plain n)

pub name : (text : List ℕ) → IsName text → IsPlain text
name text h = words text (name_plain text h)

pub joined : {a b : List ℕ} → IsPlain a → IsPlain b → IsPlain (a ++ b)
joined {a} {b} one two = words (a ++ b) (plain_append a b one.is two.is)

-- a word and a number after a plain text
pub field : {a : List ℕ} → IsPlain a → (word : List ℕ) → is_plain word ≡ true → (n : ℕ) → IsPlain (a ++ word ++ decimal n)
field a word plain n = joined (joined a (words word plain)) (number n)

-- a word, a text and a word after it
pub between : {a : List ℕ} → (before : List ℕ) → is_plain before ≡ true → IsPlain a → (after : List ℕ) → is_plain after ≡ true → IsPlain (before ++ a ++ after)
between before h a after k = joined (joined (words before h) a) (words after k)

pub all_plain : {X : Type 0} (P : X → Type 0) (f : X → List ℕ) → ((x : X) → P x → IsPlain (f x)) → (xs : List X) → AllByRecursion P xs → IsPlain (flat_map f xs)
all_plain P f plain [] h = nothing
all_plain P f plain (x ∷ xs) h = joined (plain x h.0) (all_plain P f plain xs h.1)

-- the name of the k-th of these, or no octets
pub name_at : {X : Type 0} (name_of : X → List ℕ) (xs : List X) → AllByRecursion (λ x. IsName (name_of x)) xs → (k : ℕ) → IsPlain (unwrap_or (option_map name_of (slice_get xs k)) [])
name_at name_of [] h zero = nothing
name_at name_of [] h (suc k) = nothing
name_at name_of (x ∷ xs) h zero = name (name_of x) h.0
name_at name_of (x ∷ xs) h (suc k) = name_at name_of xs h.1 k

name_among : (names : List (List ℕ)) → AllByRecursion IsName names → (k : ℕ) → IsPlain (unwrap_or (slice_get names k) [])
name_among [] h zero = nothing
name_among [] h (suc k) = nothing
name_among (x ∷ xs) h zero = name x h.0
name_among (x ∷ xs) h (suc k) = name_among xs h.1 k

names_are_names : (l : Layout) → IsSound l → AllByRecursion IsName (device_names l)
names_are_names l sound =
    recursion_from_All IsName (device_names l)
    (All-append IsName (map (λ s. s.name) l.stations) (map (λ r. r.name) l.repeaters)
    (All-map IsName (λ s. s.name) l.stations (λ k d lt. (sound.stations k d lt).name))
    (All-map IsName (λ r. r.name) l.repeaters (λ k d lt. (sound.repeaters k d lt).name)))

hit : (at : Option ℕ) → IsPlain (hit_text at)
hit None = words (codes "none") refl
hit (Some at) = number at

body_plain : (b : Body) → IsPlain (body_text b)
body_plain (body.Sent frame start attempt) =
    field (field (joined (words (codes "sent frame ") refl) (number frame)) (codes " start ") refl start) (codes " attempt ") refl attempt
body_plain (body.Collided frame start attempt at drawn) =
    field (field (field (field (joined (words (codes "collided frame ") refl) (number frame)) (codes " start ") refl start) (codes " attempt ") refl attempt) (codes " hit ") refl at) (codes " draw ") refl drawn
body_plain (body.GivenUp frame start at) =
    field (field (joined (words (codes "given_up frame ") refl) (number frame)) (codes " start ") refl start) (codes " hit ") refl at
body_plain (body.Cut frame start attempt at) =
    joined (joined (field (field (joined (words (codes "cut frame ") refl) (number frame)) (codes " start ") refl start) (codes " attempt ") refl attempt) (words (codes " hit ") refl)) (hit at)
body_plain (body.Received octets) = joined (words (codes "received octets ") refl) (number octets)
body_plain (body.Dropped why halves) = field (joined (words (codes "dropped ") refl) (words (why_text why) (why_plain why))) (codes " halves ") refl halves
body_plain body.Clash = words (codes "clash") refl
body_plain (body.Closed port) = joined (words (codes "closed port ") refl) (number port)
body_plain (body.Opened port) = joined (words (codes "opened port ") refl) (number port)
body_plain (body.Halted port) = joined (words (codes "halted port ") refl) (number port)

device : (repeater : Bool) → IsPlain (device_word repeater)
device true = words (codes "repeater ") refl
device false = words (codes "station ") refl

-- the line of a row by the names of a sound layout's devices
pub row_plain : (l : Layout) → IsSound l → (row : Row) (repeater : Bool) → IsPlain (row_line row repeater (unwrap_or (slice_get (device_names l) row.device) []))
row_plain l sound row repeater =
    joined (joined (joined (joined (joined (joined (number row.t) (words (codes " ") refl)) (device repeater)) (name_among (device_names l) (names_are_names l sound) row.device)) (words (codes " ") refl)) (body_plain row.body)) (words (codes "\n") refl)
