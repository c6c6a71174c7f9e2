-- The line of a row, without its line feed, has no other line feed.
use Rattle.std.proofs.Common.{◌≡◌, ℕ, suc, ◌+◌, Bool, true, false, List, ◌++◌, Option, None, Some, refl, arith}
use Rattle.std.specs.Prelude.{codes, decimal}
use Rattle.collision_log.specs.Rows.{body_text, device_word, hit_text, why_text}
use Rattle.collision_log.specs.declared.row.Body.{Body}
use Rattle.collision_log.specs.declared.row.Body.TheVariants.{Sent, Collided, GivenUp, Cut, Received, Dropped, Clash, Closed, Opened, Halted}
use Rattle.collision_log.specs.declared.row.Row.{Row}
use Rattle.collision_log.specs.declared.row.Why.{Why}
use Rattle.collision_log.specs.declared.row.Why.TheVariants.{Fragment, TooLong, FcsError, AlignError, Damaged}
use Rattle.run_texts.proofs.HeldOctets.{holds, holds_append, number_lacks, then_number, then_words}

hit_feed : (text words : List ℕ) (hit : Option ℕ) → holds 10 text ≡ false → holds 10 words ≡ false → holds 10 (text ++ words ++ hit_text hit) ≡ false
hit_feed text words None none word = holds_append 10 (text ++ words) (codes "none") (holds_append 10 text words none word) refl
hit_feed text words (Some hit) none word = then_words text words hit none word

why_feed : (why : Why) → holds 10 (codes "dropped " ++ why_text why) ≡ false
why_feed Fragment = refl
why_feed TooLong = refl
why_feed FcsError = refl
why_feed AlignError = refl
why_feed Damaged = refl

body_feed : (b : Body) → holds 10 (body_text b) ≡ false
body_feed (Sent frame start attempt) =
    let one : List ℕ = codes "sent frame " ++ decimal frame in
    let two : List ℕ = one ++ codes " start " ++ decimal start in
    then_words two (codes " attempt ") attempt (then_words one (codes " start ") start (then_number (codes "sent frame ") frame refl) refl) refl
body_feed (Collided frame start attempt hit drawn) =
    let one : List ℕ = codes "collided frame " ++ decimal frame in
    let two : List ℕ = one ++ codes " start " ++ decimal start in
    let three : List ℕ = two ++ codes " attempt " ++ decimal attempt in
    let four : List ℕ = three ++ codes " hit " ++ decimal hit in
    then_words four (codes " draw ") drawn (then_words three (codes " hit ") hit (then_words two (codes " attempt ") attempt
    (then_words one (codes " start ") start (then_number (codes "collided frame ") frame refl) refl) refl) refl) refl
body_feed (GivenUp frame start hit) =
    let one : List ℕ = codes "given_up frame " ++ decimal frame in
    let two : List ℕ = one ++ codes " start " ++ decimal start in
    then_words two (codes " hit ") hit (then_words one (codes " start ") start (then_number (codes "given_up frame ") frame refl) refl) refl
body_feed (Cut frame start attempt hit) =
    let one : List ℕ = codes "cut frame " ++ decimal frame in
    let two : List ℕ = one ++ codes " start " ++ decimal start in
    let three : List ℕ = two ++ codes " attempt " ++ decimal attempt in
    hit_feed three (codes " hit ") hit (then_words two (codes " attempt ") attempt (then_words one (codes " start ") start (then_number (codes "cut frame ") frame refl) refl) refl) refl
body_feed (Received octets) = then_number (codes "received octets ") octets refl
body_feed (Dropped why halves) = then_words (codes "dropped " ++ why_text why) (codes " halves ") halves (why_feed why) refl
body_feed Clash = refl
body_feed (Closed port) = then_number (codes "closed port ") port refl
body_feed (Opened port) = then_number (codes "opened port ") port refl
body_feed (Halted port) = then_number (codes "halted port ") port refl

word_feed : (repeater : Bool) → holds 10 (device_word repeater) ≡ false
word_feed true = refl
word_feed false = refl

-- the line of a row without its line feed
abbrev pub row_text : Row → Bool → List ℕ → List ℕ
row_text row repeater name = decimal row.t ++ codes " " ++ device_word repeater ++ name ++ codes " " ++ body_text row.body

pub row_feed : (row : Row) (repeater : Bool) (name : List ℕ) → holds 10 name ≡ false → holds 10 (row_text row repeater name) ≡ false
row_feed row repeater name none =
    let one : List ℕ = decimal row.t ++ codes " " in
    let two : List ℕ = one ++ device_word repeater in
    let three : List ℕ = two ++ name in
    let four : List ℕ = three ++ codes " " in
    holds_append 10 four (body_text row.body) (holds_append 10 three (codes " ") (holds_append 10 two name
    (holds_append 10 one (device_word repeater) (holds_append 10 (decimal row.t) (codes " ") (number_lacks 10 row.t (omega arith)) refl) (word_feed repeater)) none) refl) (body_feed row.body)
