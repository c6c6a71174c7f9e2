-- The text of what happened is read back.
use Rattle.std.proofs.Common.{◌≡◌, ℕ, ◌^◌, ◌<◌, Bool, true, false, List, [], ◌∷◌, ◌++◌, eqb, refl, sym, ◌∙◌, arith, inl, inr, Some, None}
use Rattle.std.proofs.lemmas.Bool.{cases_Bool, eqb-true}
use Rattle.std.proofs.lemmas.Option.{none-some}
use Rattle.std.specs.Fmt.{decimal}
use Rattle.std.specs.Prelude.{Option, IfSome, codes, ◌≢◌}
use Rattle.collision_log.specs.Rows.{hit_text, why_text}
use Rattle.collision_log.specs.declared.row.Body.{Body}
use Rattle.collision_log.specs.declared.row.Body.TheVariants.{Sent, Collided, GivenUp, Cut, Received, Dropped, Clash, Closed, Opened, Halted}
use Rattle.collision_log.specs.declared.row.Why.{Why}
use Rattle.collision_log.specs.declared.row.Why.TheVariants.{Fragment, TooLong, FcsError, AlignError, Damaged}
use Rattle.log_meter.specs.Lines.{IsInRange, is_of_repeater}
use Rattle.text_fields.specs.Reading.{after_word, digits_on, field_at, decimal_at, else_read}
use Rattle.log_meter.specs.Reading.{body_at, clash_at, closed_at, collided_at, cut_at, dropped_at, given_up_at, halted_at, logged_hit_at, opened_at, received_at, repeater_body_at, sent_at, station_body_at, why_at}
use Rattle.log_meter.proofs.BodyTexts.{body_onto}
use Rattle.text_fields.proofs.FoundFields.{field_again, half_bit_again}
use Rattle.text_fields.proofs.Numbers.{begins_with_digit, number_again}

sent_again : (t frame start attempt : ℕ) (more : List ℕ) → t < 2 ^ 32 → IsInRange t (Sent frame start attempt) → begins_with_digit more ≡ false
    → sent_at t (body_onto (Sent frame start attempt) more) ≡ Some (Sent frame start attempt, more)
unfolding sent_at
sent_again t frame start attempt more small range stops =
    let rest2 = codes " attempt " ++ (decimal attempt ++ more) in
    let rest1 = codes " start " ++ (decimal start ++ rest2) in
    rw (field_again (codes "sent frame ") frame rest1 range.0 refl, half_bit_again t (codes " start ") start rest2 range.1 (omega arith) refl, field_again (codes " attempt ") attempt more range.2 stops) refl

collided_again : (t frame start attempt hit drawn : ℕ) (more : List ℕ) → t < 2 ^ 32 → IsInRange t (Collided frame start attempt hit drawn)
    → begins_with_digit more ≡ false
    → collided_at t (body_onto (Collided frame start attempt hit drawn) more) ≡ Some (Collided frame start attempt hit drawn, more)
unfolding collided_at
collided_again t frame start attempt hit drawn more small range stops =
    let rest4 = codes " draw " ++ (decimal drawn ++ more) in
    let rest3 = codes " hit " ++ (decimal hit ++ rest4) in
    let rest2 = codes " attempt " ++ (decimal attempt ++ rest3) in
    let rest1 = codes " start " ++ (decimal start ++ rest2) in
    rw (
      field_again (codes "collided frame ") frame rest1 range.0 refl,
      half_bit_again t (codes " start ") start rest2 range.1 (omega arith) refl,
      field_again (codes " attempt ") attempt rest3 range.2 refl,
      field_again (codes " hit ") hit rest4 range.3 refl,
      field_again (codes " draw ") drawn more range.4 stops,
    ) refl

given_up_again : (t frame start hit : ℕ) (more : List ℕ) → t < 2 ^ 32 → IsInRange t (GivenUp frame start hit) → begins_with_digit more ≡ false
    → given_up_at t (body_onto (GivenUp frame start hit) more) ≡ Some (GivenUp frame start hit, more)
unfolding given_up_at
given_up_again t frame start hit more small range stops =
    let rest2 = codes " hit " ++ (decimal hit ++ more) in
    let rest1 = codes " start " ++ (decimal start ++ rest2) in
    rw (
      field_again (codes "given_up frame ") frame rest1 range.0 refl,
      half_bit_again t (codes " start ") start rest2 range.1 (omega arith) refl,
      field_again (codes " hit ") hit more range.2 stops,
    ) refl

-- a number doesn't begin with the word for none
no_none : (xs : List ℕ) → decimal_at xs ≢ None → after_word (codes "none") xs ≡ None
unfolding digits_on
no_none [] h = refl
no_none (x ∷ xs) h =
    elim (cases_Bool (eqb x 110)) [
      | inl same ↦ absurd (h (rw (eqb-true x 110 same) refl))
      | inr other ↦ rw other refl
    ]

hit_again : (hit : Option ℕ) (more : List ℕ) → IfSome hit (λ p. p < 2 ^ 32) → begins_with_digit more ≡ false → logged_hit_at (hit_text hit ++ more) ≡ Some (hit, more)
unfolding logged_hit_at
hit_again None more range stops = refl
hit_again (Some p) more range stops =
    let again = number_again p more range stops in
    rw (no_none (decimal p ++ more) (λ e. none-some (p, more) (sym e ∙ again)), again) refl

cut_again : (t frame start attempt : ℕ) (hit : Option ℕ) (more : List ℕ) → t < 2 ^ 32 → IsInRange t (Cut frame start attempt hit) → begins_with_digit more ≡ false
    → cut_at t (body_onto (Cut frame start attempt hit) more) ≡ Some (Cut frame start attempt hit, more)
unfolding cut_at
cut_again t frame start attempt hit more small range stops =
    let rest3 = codes " hit " ++ (hit_text hit ++ more) in
    let rest2 = codes " attempt " ++ (decimal attempt ++ rest3) in
    let rest1 = codes " start " ++ (decimal start ++ rest2) in
    rw (
      field_again (codes "cut frame ") frame rest1 range.0 refl,
      half_bit_again t (codes " start ") start rest2 range.1 (omega arith) refl,
      field_again (codes " attempt ") attempt rest3 range.2 refl,
      hit_again hit more range.3 stops,
    ) refl

received_again : (octets : ℕ) (more : List ℕ) → octets < 2 ^ 32 → begins_with_digit more ≡ false
    → received_at (body_onto (Received octets) more) ≡ Some (Received octets, more)
unfolding received_at
received_again octets more fits stops = rw (field_again (codes "received octets ") octets more fits stops) refl

why_again : (why : Why) (more : List ℕ) → why_at (why_text why ++ more) ≡ Some (why, more)
unfolding why_at
why_again Fragment more = refl
why_again TooLong more = refl
why_again FcsError more = refl
why_again AlignError more = refl
why_again Damaged more = refl

dropped_again : (why : Why) (halves : ℕ) (more : List ℕ) → halves < 2 ^ 32 → begins_with_digit more ≡ false
    → dropped_at (body_onto (Dropped why halves) more) ≡ Some (Dropped why halves, more)
unfolding dropped_at
dropped_again why halves more fits stops =
    rw (why_again why (codes " halves " ++ (decimal halves ++ more)), field_again (codes " halves ") halves more fits stops) refl

closed_again : (port : ℕ) (more : List ℕ) → port < 2 ^ 32 → begins_with_digit more ≡ false → closed_at (body_onto (Closed port) more) ≡ Some (Closed port, more)
unfolding closed_at
closed_again port more fits stops = rw (field_again (codes "closed port ") port more fits stops) refl

opened_again : (port : ℕ) (more : List ℕ) → port < 2 ^ 32 → begins_with_digit more ≡ false → opened_at (body_onto (Opened port) more) ≡ Some (Opened port, more)
unfolding opened_at
opened_again port more fits stops = rw (field_again (codes "opened port ") port more fits stops) refl

halted_again : (port : ℕ) (more : List ℕ) → port < 2 ^ 32 → begins_with_digit more ≡ false → halted_at (body_onto (Halted port) more) ≡ Some (Halted port, more)
unfolding halted_at
halted_again port more fits stops = rw (field_again (codes "halted port ") port more fits stops) refl

-- the first reading found nothing
skip : {A : Type 0} (a b : Option A) (y : Option A) → a ≡ None → b ≡ y → else_read a b ≡ y
skip a b y e h = rw e h

-- the first reading found this
here : {A : Type 0} (a b : Option A) (y : A) → a ≡ Some y → else_read a b ≡ Some y
here a b y e = rw e refl

-- of stations
abbrev StationAgain : ℕ → Body → List ℕ → Type 0
StationAgain t b more = station_body_at t (body_onto b more) ≡ Some (b, more)

station_again : (t : ℕ) (b : Body) (more : List ℕ) → t < 2 ^ 32 → IsInRange t b → is_of_repeater b ≡ false → begins_with_digit more ≡ false → StationAgain t b more
unfolding station_body_at received_at sent_at collided_at dropped_at given_up_at field_at
station_again t (Received octets) more small range device stops =
    here (received_at (body_onto (Received octets) more)) _ (Received octets, more) (received_again octets more range stops)
station_again t (Sent frame start attempt) more small range device stops =
    let xs = body_onto (Sent frame start attempt) more in
    skip (received_at xs) _ _ refl
    (here (sent_at t xs) _ _ (sent_again t frame start attempt more small range stops))
station_again t (Collided frame start attempt hit drawn) more small range device stops =
    let xs = body_onto (Collided frame start attempt hit drawn) more in
    skip (received_at xs) _ _ refl
    (skip (sent_at t xs) _ _ refl
    (here (collided_at t xs) _ _ (collided_again t frame start attempt hit drawn more small range stops)))
station_again t (Dropped why halves) more small range device stops =
    let xs = body_onto (Dropped why halves) more in
    skip (received_at xs) _ _ refl
    (skip (sent_at t xs) _ _ refl
    (skip (collided_at t xs) _ _ refl
    (here (dropped_at xs) _ _ (dropped_again why halves more range stops))))
station_again t (GivenUp frame start hit) more small range device stops =
    let xs = body_onto (GivenUp frame start hit) more in
    skip (received_at xs) _ _ refl
    (skip (sent_at t xs) _ _ refl
    (skip (collided_at t xs) _ _ refl
    (skip (dropped_at xs) _ _ refl
    (here (given_up_at t xs) _ _ (given_up_again t frame start hit more small range stops)))))
station_again t (Cut frame start attempt hit) more small range device stops =
    let xs = body_onto (Cut frame start attempt hit) more in
    skip (received_at xs) _ _ refl
    (skip (sent_at t xs) _ _ refl
    (skip (collided_at t xs) _ _ refl
    (skip (dropped_at xs) _ _ refl
    (skip (given_up_at t xs) _ _ refl (cut_again t frame start attempt hit more small range stops)))))
station_again t Clash more small range device stops = cc device
station_again t (Closed port) more small range device stops = cc device
station_again t (Opened port) more small range device stops = cc device
station_again t (Halted port) more small range device stops = cc device

-- of repeaters
repeater_again : (t : ℕ) (b : Body) (more : List ℕ) → IsInRange t b → is_of_repeater b ≡ true → begins_with_digit more ≡ false
    → repeater_body_at (body_onto b more) ≡ Some (b, more)
unfolding repeater_body_at clash_at closed_at opened_at field_at
repeater_again t Clash more range device stops = refl
repeater_again t (Closed port) more range device stops =
    let xs = body_onto (Closed port) more in
    skip (clash_at xs) _ _ refl (here (closed_at xs) _ _ (closed_again port more range stops))
repeater_again t (Opened port) more range device stops =
    let xs = body_onto (Opened port) more in
    skip (clash_at xs) _ _ refl (skip (closed_at xs) _ _ refl (here (opened_at xs) _ _ (opened_again port more range stops)))
repeater_again t (Halted port) more range device stops =
    let xs = body_onto (Halted port) more in
    skip (clash_at xs) _ _ refl (skip (closed_at xs) _ _ refl (skip (opened_at xs) _ _ refl (halted_again port more range stops)))
repeater_again t (Received octets) more range device stops = cc device
repeater_again t (Sent frame start attempt) more range device stops = cc device
repeater_again t (Collided frame start attempt hit drawn) more range device stops = cc device
repeater_again t (Dropped why halves) more range device stops = cc device
repeater_again t (GivenUp frame start hit) more range device stops = cc device
repeater_again t (Cut frame start attempt hit) more range device stops = cc device

pub body_again : (t : ℕ) (repeater : Bool) (b : Body) (more : List ℕ) → t < 2 ^ 32 → IsInRange t b → repeater ≡ is_of_repeater b → begins_with_digit more ≡ false
    → body_at t repeater (body_onto b more) ≡ Some (b, more)
unfolding body_at
body_again t true b more small range device stops = repeater_again t b more range (sym device) stops
body_again t false b more small range device stops = station_again t b more small range (sym device) stops
