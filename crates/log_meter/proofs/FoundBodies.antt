-- What happened that was read is its text with numbers in range.
use Rattle.std.proofs.Common.{◌≡◌, ℕ, ◌^◌, ◌<◌, Bool, true, false, List, ◌++◌, refl, ap, subst, inl, inr, Some, None}
use Rattle.std.specs.Prelude.{Option, IfSome, codes, ◌⊎◌}
use Rattle.std.proofs.lemmas.Option.{same_Some}
use Rattle.collision_log.specs.Rows.{hit_text, why_text}
use Rattle.collision_log.specs.declared.row.Body.{Body}
use Rattle.collision_log.specs.declared.row.Body.TheVariants.{Sent, Collided, GivenUp, Cut, Received, Dropped, Clash, Closed, Opened, Halted}
use Rattle.collision_log.specs.declared.row.Why.{Why}
use Rattle.collision_log.specs.declared.row.Why.TheVariants.{Fragment, TooLong, FcsError, AlignError, Damaged}
use Rattle.log_meter.specs.Lines.{IsInRange, is_of_repeater}
use Rattle.text_fields.specs.Reading.{Read, after_word, field_at, half_bit_at, decimal_at, else_read}
use Rattle.log_meter.specs.Reading.{body_at, clash_at, closed_at, collided_at, cut_at, dropped_at, given_up_at, halted_at, logged_hit_at, no_number, opened_at, received_at, repeater_body_at, sent_at, some_number, station_body_at, why_at, why_found}
use Rattle.text_fields.proofs.FoundFields.{bind_some, field_text, half_bit_text, word_text}
use Rattle.text_fields.proofs.Numbers.{number_text}
use Rattle.log_meter.proofs.BodyTexts.{body_onto}

-- what was read in half bit t of a device, before the rest, is its text with numbers in range
pub record IsBodyBefore (t : ℕ) (repeater : Bool) (octets : List ℕ) (b : Body) (rest : List ℕ) : Type 0 where
  pub text : octets ≡ body_onto b rest
  pub range : IsInRange t b
  pub device : repeater ≡ is_of_repeater b

-- two equal answers have equal parts
parts : {A : Type 0} (x : A) (xs : List ℕ) (y : A) (ys : List ℕ) → ◌≡◌ {A = Read A} (Some (x, xs)) (Some (y, ys)) → (x ≡ y) × (xs ≡ ys)
parts {A} x xs y ys h = let e = same_Some _ _ h in (ap (λ (p : A × List ℕ). p.0) e, ap (λ (p : A × List ℕ). p.1) e)

-- what was found, seen as the answer
as_read : (t : ℕ) (repeater : Bool) (octets : List ℕ) (b : Body) (rest : List ℕ) (y : Body × List ℕ) → IsBodyBefore t repeater octets b rest
    → ◌≡◌ {A = Read Body} (Some (b, rest)) (Some y) → IsBodyBefore t repeater octets y.0 y.1
as_read t repeater octets b rest y before e = subst (λ (p : Body × List ℕ). IsBodyBefore t repeater octets p.0 p.1) (same_Some _ _ e) before

sent_text : (t : ℕ) (octets : List ℕ) (y : Body × List ℕ) → sent_at t octets ≡ Some y → IsBodyBefore t false octets y.0 y.1
unfolding sent_at
sent_text t octets y h =
    let frame = bind_some (field_at (codes "sent frame ") octets) _ y h in
    let start = bind_some (half_bit_at t (codes " start ") frame.0.1) _ y frame.2 in
    let attempt = bind_some (field_at (codes " attempt ") start.0.1) _ y start.2 in
    let f = field_text (codes "sent frame ") octets frame.0.0 frame.0.1 frame.1 in
    let s = half_bit_text t (codes " start ") frame.0.1 start.0.0 start.0.1 start.1 in
    let a = field_text (codes " attempt ") start.0.1 attempt.0.0 attempt.0.1 attempt.1 in
    as_read t false octets (Sent frame.0.0 start.0.0 attempt.0.0) attempt.0.1 y
    (record { text = rw (← a.0, ← s.0) f.0; range = (f.1, s.1, a.1); device = refl })
    attempt.2

collided_text : (t : ℕ) (octets : List ℕ) (y : Body × List ℕ) → collided_at t octets ≡ Some y → IsBodyBefore t false octets y.0 y.1
unfolding collided_at
collided_text t octets y h =
    let frame = bind_some (field_at (codes "collided frame ") octets) _ y h in
    let start = bind_some (half_bit_at t (codes " start ") frame.0.1) _ y frame.2 in
    let attempt = bind_some (field_at (codes " attempt ") start.0.1) _ y start.2 in
    let hit = bind_some (field_at (codes " hit ") attempt.0.1) _ y attempt.2 in
    let drawn = bind_some (field_at (codes " draw ") hit.0.1) _ y hit.2 in
    let f = field_text (codes "collided frame ") octets frame.0.0 frame.0.1 frame.1 in
    let s = half_bit_text t (codes " start ") frame.0.1 start.0.0 start.0.1 start.1 in
    let a = field_text (codes " attempt ") start.0.1 attempt.0.0 attempt.0.1 attempt.1 in
    let p = field_text (codes " hit ") attempt.0.1 hit.0.0 hit.0.1 hit.1 in
    let r = field_text (codes " draw ") hit.0.1 drawn.0.0 drawn.0.1 drawn.1 in
    as_read t false octets (Collided frame.0.0 start.0.0 attempt.0.0 hit.0.0 drawn.0.0) drawn.0.1 y
    (record { text = rw (← r.0, ← p.0, ← a.0, ← s.0) f.0; range = (f.1, s.1, a.1, p.1, r.1); device = refl })
    drawn.2

given_up_text : (t : ℕ) (octets : List ℕ) (y : Body × List ℕ) → given_up_at t octets ≡ Some y → IsBodyBefore t false octets y.0 y.1
unfolding given_up_at
given_up_text t octets y h =
    let frame = bind_some (field_at (codes "given_up frame ") octets) _ y h in
    let start = bind_some (half_bit_at t (codes " start ") frame.0.1) _ y frame.2 in
    let hit = bind_some (field_at (codes " hit ") start.0.1) _ y start.2 in
    let f = field_text (codes "given_up frame ") octets frame.0.0 frame.0.1 frame.1 in
    let s = half_bit_text t (codes " start ") frame.0.1 start.0.0 start.0.1 start.1 in
    let p = field_text (codes " hit ") start.0.1 hit.0.0 hit.0.1 hit.1 in
    as_read t false octets (GivenUp frame.0.0 start.0.0 hit.0.0) hit.0.1 y
    (record { text = rw (← p.0, ← s.0) f.0; range = (f.1, s.1, p.1); device = refl })
    hit.2

-- a hit that was read
hit_found : (octets : List ℕ) (a : Option (List ℕ)) (n : Read ℕ) (hit : Option ℕ) (rest : List ℕ) → after_word (codes "none") octets ≡ a → decimal_at octets ≡ n
    → else_read (no_number a) (some_number n) ≡ Some (hit, rest) → (octets ≡ hit_text hit ++ rest) × IfSome hit (λ p. p < 2 ^ 32)
hit_found octets (Some tail) n hit rest none number h =
    let p = parts None tail hit rest h in
    rw (← p.0, ← p.1) (word_text (codes "none") octets tail none, tt)
hit_found octets None (Some x) hit rest none number h =
    let p = parts (Some x.0) x.1 hit rest h in
    let text = number_text octets x.0 x.1 number in
    rw (← p.0, ← p.1) text
hit_found octets None None hit rest none number h = cc h

cut_text : (t : ℕ) (octets : List ℕ) (y : Body × List ℕ) → cut_at t octets ≡ Some y → IsBodyBefore t false octets y.0 y.1
unfolding cut_at logged_hit_at
cut_text t octets y h =
    let frame = bind_some (field_at (codes "cut frame ") octets) _ y h in
    let start = bind_some (half_bit_at t (codes " start ") frame.0.1) _ y frame.2 in
    let attempt = bind_some (field_at (codes " attempt ") start.0.1) _ y start.2 in
    let word = bind_some (after_word (codes " hit ") attempt.0.1) _ y attempt.2 in
    let hit = bind_some (logged_hit_at word.0) _ y word.2 in
    let f = field_text (codes "cut frame ") octets frame.0.0 frame.0.1 frame.1 in
    let s = half_bit_text t (codes " start ") frame.0.1 start.0.0 start.0.1 start.1 in
    let a = field_text (codes " attempt ") start.0.1 attempt.0.0 attempt.0.1 attempt.1 in
    let w = word_text (codes " hit ") attempt.0.1 word.0 word.1 in
    let p = hit_found word.0 (after_word (codes "none") word.0) (decimal_at word.0) hit.0.0 hit.0.1 refl refl hit.1 in
    as_read t false octets (Cut frame.0.0 start.0.0 attempt.0.0 hit.0.0) hit.0.1 y
    (record { text = rw (← p.0, ← w, ← a.0, ← s.0) f.0; range = (f.1, s.1, a.1, p.1); device = refl })
    hit.2

received_text : (t : ℕ) (octets : List ℕ) (y : Body × List ℕ) → received_at octets ≡ Some y → IsBodyBefore t false octets y.0 y.1
unfolding received_at
received_text t octets y h =
    let count = bind_some (field_at (codes "received octets ") octets) _ y h in
    let f = field_text (codes "received octets ") octets count.0.0 count.0.1 count.1 in
    as_read t false octets (Received count.0.0) count.0.1 y (record { text = f.0; range = f.1; device = refl }) count.2

-- a reason that was read by its word
why_found_text : (w : Why) (octets : List ℕ) (a : Option (List ℕ)) (why : Why) (rest : List ℕ) → after_word (why_text w) octets ≡ a
    → why_found w a ≡ Some (why, rest) → octets ≡ why_text why ++ rest
why_found_text w octets (Some tail) why rest e h =
    let p = parts w tail why rest h in
    rw (← p.0, ← p.1) (word_text (why_text w) octets tail e)
why_found_text w octets None why rest e h = cc h

-- one of two readings found it
either : {A : Type 0} (a b : Option A) (y : A) → else_read a b ≡ Some y → (a ≡ Some y) ⊎ (b ≡ Some y)
either (Some x) b y h = inl h
either None b y h = inr h

why_text_found : (octets : List ℕ) (why : Why) (rest : List ℕ) → why_at octets ≡ Some (why, rest) → octets ≡ why_text why ++ rest
unfolding why_at
why_text_found octets why rest h =
    elim (either (why_found Fragment (after_word (codes "fragment") octets)) _ (why, rest) h) [
      | inl a ↦ why_found_text Fragment octets (after_word (codes "fragment") octets) why rest refl a
      | inr b ↦ elim (either (why_found TooLong (after_word (codes "too_long") octets)) _ (why, rest) b) [
        | inl a ↦ why_found_text TooLong octets (after_word (codes "too_long") octets) why rest refl a
        | inr b ↦ elim (either (why_found FcsError (after_word (codes "fcs") octets)) _ (why, rest) b) [
          | inl a ↦ why_found_text FcsError octets (after_word (codes "fcs") octets) why rest refl a
          | inr b ↦ elim (either (why_found AlignError (after_word (codes "align") octets)) _ (why, rest) b) [
            | inl a ↦ why_found_text AlignError octets (after_word (codes "align") octets) why rest refl a
            | inr b ↦ why_found_text Damaged octets (after_word (codes "damaged") octets) why rest refl b
          ]
        ]
      ]
    ]

dropped_text : (t : ℕ) (octets : List ℕ) (y : Body × List ℕ) → dropped_at octets ≡ Some y → IsBodyBefore t false octets y.0 y.1
unfolding dropped_at
dropped_text t octets y h =
    let word = bind_some (after_word (codes "dropped ") octets) _ y h in
    let why = bind_some (why_at word.0) _ y word.2 in
    let halves = bind_some (field_at (codes " halves ") why.0.1) _ y why.2 in
    let w = word_text (codes "dropped ") octets word.0 word.1 in
    let r = why_text_found word.0 why.0.0 why.0.1 why.1 in
    let n = field_text (codes " halves ") why.0.1 halves.0.0 halves.0.1 halves.1 in
    as_read t false octets (Dropped why.0.0 halves.0.0) halves.0.1 y
    (record { text = rw (← n.0, ← r) w; range = n.1; device = refl })
    halves.2

clash_text : (t : ℕ) (octets : List ℕ) (y : Body × List ℕ) → clash_at octets ≡ Some y → IsBodyBefore t true octets y.0 y.1
unfolding clash_at
clash_text t octets y h =
    let word = bind_some (after_word (codes "clash") octets) _ y h in
    as_read t true octets Clash word.0 y (record { text = word_text (codes "clash") octets word.0 word.1; range = tt; device = refl }) word.2

closed_text : (t : ℕ) (octets : List ℕ) (y : Body × List ℕ) → closed_at octets ≡ Some y → IsBodyBefore t true octets y.0 y.1
unfolding closed_at
closed_text t octets y h =
    let port = bind_some (field_at (codes "closed port ") octets) _ y h in
    let f = field_text (codes "closed port ") octets port.0.0 port.0.1 port.1 in
    as_read t true octets (Closed port.0.0) port.0.1 y (record { text = f.0; range = f.1; device = refl }) port.2

opened_text : (t : ℕ) (octets : List ℕ) (y : Body × List ℕ) → opened_at octets ≡ Some y → IsBodyBefore t true octets y.0 y.1
unfolding opened_at
opened_text t octets y h =
    let port = bind_some (field_at (codes "opened port ") octets) _ y h in
    let f = field_text (codes "opened port ") octets port.0.0 port.0.1 port.1 in
    as_read t true octets (Opened port.0.0) port.0.1 y (record { text = f.0; range = f.1; device = refl }) port.2

halted_text : (t : ℕ) (octets : List ℕ) (y : Body × List ℕ) → halted_at octets ≡ Some y → IsBodyBefore t true octets y.0 y.1
unfolding halted_at
halted_text t octets y h =
    let port = bind_some (field_at (codes "halted port ") octets) _ y h in
    let f = field_text (codes "halted port ") octets port.0.0 port.0.1 port.1 in
    as_read t true octets (Halted port.0.0) port.0.1 y (record { text = f.0; range = f.1; device = refl }) port.2

station_text : (t : ℕ) (octets : List ℕ) (y : Body × List ℕ) → station_body_at t octets ≡ Some y → IsBodyBefore t false octets y.0 y.1
unfolding station_body_at
station_text t octets y h =
    elim (either (received_at octets) _ y h) [
      | inl a ↦ received_text t octets y a
      | inr b ↦ elim (either (sent_at t octets) _ y b) [
        | inl a ↦ sent_text t octets y a
        | inr b ↦ elim (either (collided_at t octets) _ y b) [
          | inl a ↦ collided_text t octets y a
          | inr b ↦ elim (either (dropped_at octets) _ y b) [
            | inl a ↦ dropped_text t octets y a
            | inr b ↦ elim (either (given_up_at t octets) _ y b) [
              | inl a ↦ given_up_text t octets y a
              | inr b ↦ cut_text t octets y b
            ]
          ]
        ]
      ]
    ]

repeater_text : (t : ℕ) (octets : List ℕ) (y : Body × List ℕ) → repeater_body_at octets ≡ Some y → IsBodyBefore t true octets y.0 y.1
unfolding repeater_body_at
repeater_text t octets y h =
    elim (either (clash_at octets) _ y h) [
      | inl a ↦ clash_text t octets y a
      | inr b ↦ elim (either (closed_at octets) _ y b) [
        | inl a ↦ closed_text t octets y a
        | inr b ↦ elim (either (opened_at octets) _ y b) [
          | inl a ↦ opened_text t octets y a
          | inr b ↦ halted_text t octets y b
        ]
      ]
    ]

pub body_found : (t : ℕ) (repeater : Bool) (octets : List ℕ) (b : Body) (rest : List ℕ) → body_at t repeater octets ≡ Some (b, rest) → IsBodyBefore t repeater octets b rest
unfolding body_at
body_found t true octets b rest h = repeater_text t octets (b, rest) h
body_found t false octets b rest h = station_text t octets (b, rest) h
