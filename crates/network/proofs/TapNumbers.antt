-- The taps of a layout among all taps.
use Rattle.std.proofs.Common.{◌≡◌, refl, ◌∙◌, ap, ap₂, subst, ℕ, zero, suc, ◌+◌, ◌<◌, List, [], ◌∷◌, ◌++◌, map, replicate, length, get_or, Option, Some, option_map, option_and_then, unwrap_or, slice_get, arith}
use Rattle.std.specs.List.{flat_map}
use Rattle.std.proofs.lemmas.List.{length-map, length-replicate, get_or_append_left, get_or-append-add, get_or-replicate}
use Rattle.std.proofs.lemmas.Option.{none-some, slice_get-map, slice_get_within, get_or_from_slice_get}
use Rattle.layout.specs.declared.lines.Layout.{Layout}
use Rattle.layout.specs.declared.lines.PortLine.{PortLine}
use Rattle.layout.specs.declared.lines.RepeaterLine.{RepeaterLine}
use Rattle.layout.specs.declared.ways.Attachment.{Attachment}
use Rattle.layout.specs.declared.ways.Attachment.TheVariants.{Station, Port}
use Rattle.layout.specs.Paths.{place}
use Rattle.network.specs.Attempts.{port_number, tap_number}
use Rattle.layout.specs.Taps.{taps_of, tap_of}
use Rattle.network.proofs.DelayLines.{all_ports, delays}

-- an element of one of two lists that follow each other
get_before : {X : Type 0} (xs ys : List X) (k : ℕ) (x : X) → slice_get xs k ≡ Some x → slice_get (xs ++ ys) k ≡ Some x
get_before [] ys k x h = absurd (none-some x h)
get_before (y ∷ xs) ys zero x h = h
get_before (y ∷ xs) ys (suc k) x h = get_before xs ys k x h

get_behind : {X : Type 0} (xs ys : List X) (k j : ℕ) (x : X) → j ≡ length xs + k → slice_get ys k ≡ Some x → slice_get (xs ++ ys) j ≡ Some x
get_behind [] ys k j x e h = let same : k ≡ j = omega arith in subst (λ i. slice_get ys i ≡ Some x) same h
get_behind (y ∷ xs) ys k zero x e h = absurd (omega arith)
get_behind (y ∷ xs) ys k (suc j) x e h = get_behind xs ys k j x (omega arith) h

pub read_behind : {X : Type 0} (xs ys : List X) (n k : ℕ) (d : X) → length xs ≡ n → get_or (xs ++ ys) (n + k) d ≡ get_or ys k d
read_behind xs ys n k d e = subst (λ m. get_or (xs ++ ys) (m + k) d ≡ get_or ys k d) e (get_or-append-add xs ys k d)

-- port p of repeater r, if these have it
abbrev pub port_in : List RepeaterLine → ℕ → ℕ → Option PortLine
port_in rs r p = option_and_then (λ (row : RepeaterLine). slice_get row.ports p) (slice_get rs r)

abbrev ports_in : List RepeaterLine → List PortLine
ports_in rs = flat_map (λ (row : RepeaterLine). row.ports) rs

-- it stands at its number among all ports
port_at : (rs : List RepeaterLine) (r p : ℕ) (x : PortLine) → port_in rs r p ≡ Some x → slice_get (ports_in rs) (port_number rs r p) ≡ Some x
port_at [] r p x h = absurd (none-some x h)
port_at (y ∷ rs) zero p x h = get_before y.ports (ports_in rs) p x h
port_at (y ∷ rs) (suc r) p x h = get_behind y.ports (ports_in rs) (port_number rs r p) (length y.ports + port_number rs r p) x refl (port_at rs r p x h)

pub port_below : (rs : List RepeaterLine) (r p : ℕ) (x : PortLine) → port_in rs r p ≡ Some x → port_number rs r p < all_ports rs
port_below rs r p x h = slice_get_within (ports_in rs) (port_number rs r p) x (port_at rs r p x h)

-- its delay is that of its repeater
pub delay_at : (rs : List RepeaterLine) (r p : ℕ) (x : PortLine) → port_in rs r p ≡ Some x
    → get_or (delays rs) (port_number rs r p) 0 ≡ unwrap_or (option_map (λ (row : RepeaterLine). row.delay) (slice_get rs r)) 0
delay_at [] r p x h = absurd (none-some x h)
delay_at (y ∷ rs) zero p x h =
    let within : p < length y.ports = slice_get_within y.ports p x h in
    let same : length (replicate (length y.ports) y.delay) ≡ length y.ports = length-replicate (length y.ports) y.delay in
    get_or_append_left (replicate (length y.ports) y.delay) (delays rs) 0 p (omega (arith, within, same)) ∙ get_or-replicate (length y.ports) p y.delay 0 within
delay_at (y ∷ rs) (suc r) p x h =
    read_behind (replicate (length y.ports) y.delay) (delays rs) (length y.ports) (port_number rs r p) 0 (length-replicate (length y.ports) y.delay) ∙ delay_at rs r p x h

-- different ports have different numbers
ports_differ : (rs : List RepeaterLine) (r p s q : ℕ) (x y : PortLine) → port_in rs r p ≡ Some x → port_in rs s q ≡ Some y → port_number rs r p ≡ port_number rs s q → (r ≡ s) × (p ≡ q)
ports_differ [] r p s q x y h k e = absurd (none-some x h)
ports_differ (z ∷ rs) zero p zero q x y h k e = (refl, e)
ports_differ (z ∷ rs) zero p (suc s) q x y h k e = let within : p < length z.ports = slice_get_within z.ports p x h in absurd (omega arith)
ports_differ (z ∷ rs) (suc r) p zero q x y h k e = let within : q < length z.ports = slice_get_within z.ports q y k in absurd (omega arith)
ports_differ (z ∷ rs) (suc r) p (suc s) q x y h k e =
    let rest : (r ≡ s) × (p ≡ q) = ports_differ rs r p s q x y h k (omega arith) in (ap suc rest.0, rest.1)

-- a tap stands at its number among all taps
station_at : (l : Layout) (k : ℕ) (x : PortLine) → place l (Station k) ≡ Some x → slice_get (map tap_of l.stations) k ≡ Some x
station_at l k x h = slice_get-map tap_of l.stations k ∙ h

station_below : (l : Layout) (k : ℕ) (x : PortLine) → place l (Station k) ≡ Some x → k < length l.stations
station_below l k x h =
    let within : k < length (map tap_of l.stations) = slice_get_within (map tap_of l.stations) k x (station_at l k x h) in
    let size : length (map tap_of l.stations) ≡ length l.stations = length-map l.stations tap_of in
    omega (arith, within, size)

tap_at : (l : Layout) (t : Attachment) (x : PortLine) → place l t ≡ Some x → slice_get (taps_of l) (tap_number l t) ≡ Some x
tap_at l (Station k) x h = get_before (map tap_of l.stations) (ports_in l.repeaters) k x (station_at l k x h)
tap_at l (Port r p) x h =
    let size : length (map tap_of l.stations) ≡ length l.stations = length-map l.stations tap_of in
    get_behind (map tap_of l.stations) (ports_in l.repeaters) (port_number l.repeaters r p) (length l.stations + port_number l.repeaters r p) x (omega (arith, size)) (port_at l.repeaters r p x h)

pub tap_below : (l : Layout) (t : Attachment) (x : PortLine) → place l t ≡ Some x → tap_number l t < length (taps_of l)
tap_below l t x h = slice_get_within (taps_of l) (tap_number l t) x (tap_at l t x h)

pub tap_read : (l : Layout) (t : Attachment) (x d : PortLine) → place l t ≡ Some x → get_or (taps_of l) (tap_number l t) d ≡ x
tap_read l t x d h = get_or_from_slice_get (taps_of l) (tap_number l t) x d (tap_at l t x h)

-- different taps have different numbers
pub taps_differ : (l : Layout) (a b : Attachment) (x y : PortLine) → place l a ≡ Some x → place l b ≡ Some y → tap_number l a ≡ tap_number l b → a ≡ b
taps_differ l (Station k) (Station j) x y h i e = ap (λ n. Station n) e
taps_differ l (Station k) (Port s q) x y h i e = let below : k < length l.stations = station_below l k x h in absurd (omega arith)
taps_differ l (Port r p) (Station j) x y h i e = let below : j < length l.stations = station_below l j y i in absurd (omega arith)
taps_differ l (Port r p) (Port s q) x y h i e =
    let same : (r ≡ s) × (p ≡ q) = ports_differ l.repeaters r p s q x y h i (omega arith) in ap₂ (λ n m. Port n m) same.0 same.1
