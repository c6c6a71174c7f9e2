-- A line that was read is the text of what it was read as, and the text of a line of the grammar is read back.
use Rattle.std.proofs.Common.{◌≡◌, ℕ, ◌^◌, ◌<◌, Bool, true, false, List, [], ◌++◌, refl, sym, ap, subst, ◌∙◌, arith, Some, None, append_assoc}
use Rattle.std.specs.Fmt.{decimal}
use Rattle.std.specs.Prelude.{Option, codes}
use Rattle.std.proofs.lemmas.Option.{same_Some}
use Rattle.mac_parameters.specs.Parameters.{most_half_bits}
use Rattle.collision_log.specs.Rows.{body_text, device_word}
use Rattle.log_meter.specs.Lines.{IsLogLine}
use Rattle.text_fields.specs.Reading.{after_word, half_bit_at, name_at, else_read}
use Rattle.log_meter.specs.Reading.{body_at, device_at, device_found, log_line_at}
use Rattle.log_meter.specs.declared.line.LogLine.{LogLine}
use Rattle.log_meter.proofs.BodiesAgain.{body_again}
use Rattle.log_meter.proofs.BodyTexts.{body_onto, body_onto_is, last_two}
use Rattle.log_meter.proofs.FoundBodies.{body_found}
use Rattle.text_fields.proofs.FoundFields.{bind_some, half_bit_again, half_bit_text, name_again, name_text, word_text}
use Rattle.text_fields.proofs.Numbers.{begins_with_digit}

-- a line's text without its line feed
abbrev pub bare_line : LogLine → List ℕ
bare_line l = decimal l.t ++ codes " " ++ device_word l.repeater ++ l.name ++ codes " " ++ body_text l.body

-- a line before more octets
abbrev pub line_onto : LogLine → List ℕ → List ℕ
line_onto l more = decimal l.t ++ (codes " " ++ (device_word l.repeater ++ (l.name ++ (codes " " ++ body_onto l.body more))))

pub line_onto_is : (l : LogLine) (more : List ℕ) → bare_line l ++ more ≡ line_onto l more
line_onto_is l more =
    let time = decimal l.t in
    let blank = codes " " in
    let word = device_word l.repeater in
    let front = ((time ++ blank) ++ word) ++ l.name in
    append_assoc (front ++ blank) (body_text l.body) more
    ∙ ap (λ r. (front ++ blank) ++ r) (body_onto_is l.body more)
    ∙ append_assoc front blank (body_onto l.body more)
    ∙ last_two (time ++ blank) word l.name (blank ++ body_onto l.body more)
    ∙ append_assoc time blank (word ++ (l.name ++ (blank ++ body_onto l.body more)))

-- a device that was read
device_text : (octets : List ℕ) (a b : Option (List ℕ)) (repeater : Bool) (rest : List ℕ) → after_word (codes " station ") octets ≡ a → after_word (codes " repeater ") octets ≡ b
    → else_read (device_found false a) (device_found true b) ≡ Some (repeater, rest) → octets ≡ codes " " ++ (device_word repeater ++ rest)
device_text octets (Some tail) b repeater rest first second h =
    let e = same_Some _ _ h in
    rw (← ap (λ (p : Bool × List ℕ). p.0) e, ← ap (λ (p : Bool × List ℕ). p.1) e) (word_text (codes " station ") octets tail first)
device_text octets None (Some tail) repeater rest first second h =
    let e = same_Some _ _ h in
    rw (← ap (λ (p : Bool × List ℕ). p.0) e, ← ap (λ (p : Bool × List ℕ). p.1) e) (word_text (codes " repeater ") octets tail second)
device_text octets None None repeater rest first second h = cc h

device_again : (repeater : Bool) (rest : List ℕ) → device_at (codes " " ++ (device_word repeater ++ rest)) ≡ Some (repeater, rest)
unfolding device_at
device_again true rest = refl
device_again false rest = refl

-- a line of the grammar, before the rest
pub record IsLineBefore (octets : List ℕ) (l : LogLine) (rest : List ℕ) : Type 0 where
  pub text : octets ≡ bare_line l ++ rest
  pub grammar : IsLogLine l

pub line_found : (octets : List ℕ) (y : LogLine × List ℕ) → log_line_at octets ≡ Some y → IsLineBefore octets y.0 y.1
unfolding log_line_at device_at
line_found octets y h =
    let t = bind_some (half_bit_at most_half_bits [] octets) _ y h in
    let repeater = bind_some (device_at t.0.1) _ y t.2 in
    let name = bind_some (name_at repeater.0.1) _ y repeater.2 in
    let blank = bind_some (after_word (codes " ") name.0.1) _ y name.2 in
    let body = bind_some (body_at t.0.0 repeater.0.0 blank.0) _ y blank.2 in
    let l : LogLine = record { t = t.0.0; repeater = repeater.0.0; name = name.0.0; body = body.0.0 } in
    let tt' = half_bit_text most_half_bits [] octets t.0.0 t.0.1 t.1 in
    let d = device_text t.0.1 (after_word (codes " station ") t.0.1) (after_word (codes " repeater ") t.0.1) repeater.0.0 repeater.0.1 refl refl repeater.1 in
    let n = name_text repeater.0.1 name.0.0 name.0.1 name.1 in
    let w = word_text (codes " ") name.0.1 blank.0 blank.1 in
    let b = body_found t.0.0 repeater.0.0 blank.0 body.0.0 body.0.1 body.1 in
    let text : octets ≡ line_onto l body.0.1 = rw (← b.text, ← w, ← n.0, ← d) tt'.0 in
    let before : IsLineBefore octets l body.0.1 =
    record {
      text = text ∙ sym (line_onto_is l body.0.1);
      grammar = record { time = tt'.1; name = n.1; device = b.device; numbers = b.range };
    } in
    subst (λ (p : LogLine × List ℕ). IsLineBefore octets p.0 p.1) (same_Some _ _ body.2) before

onto_again : (l : LogLine) (more : List ℕ) → IsLogLine l → begins_with_digit more ≡ false → log_line_at (line_onto l more) ≡ Some (l, more)
unfolding log_line_at
onto_again l more h stops =
    let small : l.t < 2 ^ 32 = omega (arith, h.time) in
    let rest4 = body_onto l.body more in
    let rest3 = l.name ++ (codes " " ++ rest4) in
    let rest1 = codes " " ++ (device_word l.repeater ++ rest3) in
    rw (
      half_bit_again most_half_bits [] l.t rest1 h.time small refl,
      device_again l.repeater rest3,
      name_again l.name rest4 h.name,
      body_again l.t l.repeater l.body more small h.numbers h.device stops,
    ) refl

pub line_again : (l : LogLine) (more : List ℕ) → IsLogLine l → begins_with_digit more ≡ false → log_line_at (bare_line l ++ more) ≡ Some (l, more)
line_again l more h stops = ap log_line_at (line_onto_is l more) ∙ onto_again l more h stops
