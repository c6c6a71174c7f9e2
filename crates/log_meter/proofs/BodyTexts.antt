-- The text of what happened, before more octets.
use Rattle.std.proofs.Common.{◌≡◌, ℕ, List, ◌++◌, refl, ◌∙◌, append_assoc}
use Rattle.std.specs.Fmt.{decimal}
use Rattle.std.specs.Prelude.{codes}
use Rattle.collision_log.specs.Rows.{body_text, hit_text, why_text}
use Rattle.collision_log.specs.declared.row.Body.{Body}
use Rattle.collision_log.specs.declared.row.Body.TheVariants.{Sent, Collided, GivenUp, Cut, Received, Dropped, Clash, Closed, Opened, Halted}

-- what happened, before more octets, with each number before what follows it
abbrev pub body_onto : Body → List ℕ → List ℕ
body_onto (Sent frame start attempt) more =
    codes "sent frame " ++ (decimal frame ++ (codes " start " ++ (decimal start ++ (codes " attempt " ++ (decimal attempt ++ more)))))
body_onto (Collided frame start attempt hit drawn) more =
    codes "collided frame " ++ (decimal frame ++ (codes " start " ++ (decimal start ++ (codes " attempt " ++ (decimal attempt
    ++ (codes " hit " ++ (decimal hit ++ (codes " draw " ++ (decimal drawn ++ more)))))))))
body_onto (GivenUp frame start hit) more =
    codes "given_up frame " ++ (decimal frame ++ (codes " start " ++ (decimal start ++ (codes " hit " ++ (decimal hit ++ more)))))
body_onto (Cut frame start attempt hit) more =
    codes "cut frame " ++ (decimal frame ++ (codes " start " ++ (decimal start ++ (codes " attempt " ++ (decimal attempt
    ++ (codes " hit " ++ (hit_text hit ++ more)))))))
body_onto (Received octets) more = codes "received octets " ++ (decimal octets ++ more)
body_onto (Dropped why halves) more = codes "dropped " ++ (why_text why ++ (codes " halves " ++ (decimal halves ++ more)))
body_onto Clash more = codes "clash" ++ more
body_onto (Closed port) more = codes "closed port " ++ (decimal port ++ more)
body_onto (Opened port) more = codes "opened port " ++ (decimal port ++ more)
body_onto (Halted port) more = codes "halted port " ++ (decimal port ++ more)

-- a word and a number at the end of a text
pub last_two : (x w d more : List ℕ) → ((x ++ w) ++ d) ++ more ≡ x ++ (w ++ (d ++ more))
last_two x w d more = append_assoc (x ++ w) d more ∙ append_assoc x w (d ++ more)

-- three words with numbers
three : (a b c d e f more : List ℕ) → (((((a ++ b) ++ c) ++ d) ++ e) ++ f) ++ more ≡ a ++ (b ++ (c ++ (d ++ (e ++ (f ++ more)))))
three a b c d e f more =
    last_two (((a ++ b) ++ c) ++ d) e f more ∙ last_two (a ++ b) c d (e ++ (f ++ more)) ∙ append_assoc a b (c ++ (d ++ (e ++ (f ++ more))))

pub body_onto_is : (b : Body) (more : List ℕ) → body_text b ++ more ≡ body_onto b more
body_onto_is (Sent frame start attempt) more =
    three (codes "sent frame ") (decimal frame) (codes " start ") (decimal start) (codes " attempt ") (decimal attempt) more
body_onto_is (Collided frame start attempt hit drawn) more =
    last_two (codes "collided frame " ++ decimal frame ++ codes " start " ++ decimal start ++ codes " attempt " ++ decimal attempt ++ codes " hit " ++ decimal hit) (codes " draw ") (decimal drawn) more
    ∙ last_two (codes "collided frame " ++ decimal frame ++ codes " start " ++ decimal start ++ codes " attempt " ++ decimal attempt) (codes " hit ") (decimal hit) (codes " draw " ++ (decimal drawn ++ more))
    ∙ three (codes "collided frame ") (decimal frame) (codes " start ") (decimal start) (codes " attempt ") (decimal attempt) (codes " hit " ++ (decimal hit ++ (codes " draw " ++ (decimal drawn ++ more))))
body_onto_is (GivenUp frame start hit) more =
    three (codes "given_up frame ") (decimal frame) (codes " start ") (decimal start) (codes " hit ") (decimal hit) more
body_onto_is (Cut frame start attempt hit) more =
    last_two (codes "cut frame " ++ decimal frame ++ codes " start " ++ decimal start ++ codes " attempt " ++ decimal attempt) (codes " hit ") (hit_text hit) more
    ∙ three (codes "cut frame ") (decimal frame) (codes " start ") (decimal start) (codes " attempt ") (decimal attempt) (codes " hit " ++ (hit_text hit ++ more))
body_onto_is (Received octets) more = append_assoc (codes "received octets ") (decimal octets) more
body_onto_is (Dropped why halves) more =
    last_two (codes "dropped " ++ why_text why) (codes " halves ") (decimal halves) more ∙ append_assoc (codes "dropped ") (why_text why) (codes " halves " ++ (decimal halves ++ more))
body_onto_is Clash more = refl
body_onto_is (Closed port) more = append_assoc (codes "closed port ") (decimal port) more
body_onto_is (Opened port) more = append_assoc (codes "opened port ") (decimal port) more
body_onto_is (Halted port) more = append_assoc (codes "halted port ") (decimal port) more
