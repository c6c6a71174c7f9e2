-- Texts of several pieces, with each piece before what follows it.
use Rattle.std.proofs.Common.{◌≡◌, ℕ, List, ◌++◌, append_assoc}
use Rattle.std.specs.Fmt.{decimal}
use Rattle.std.specs.Prelude.{codes}
use Rattle.mac_transmit.specs.declared.state.SenderState.{SenderState}
use Rattle.port_partition.specs.Guard.{Guard}
use Rattle.run_checkpoint.specs.LineTexts.{count_words, defer_words, line_of_guard, line_of_sender, phase_words, yes_or_no}

pub five : (a b c d e : List ℕ) → a ++ b ++ c ++ d ++ e ≡ a ++ (b ++ (c ++ (d ++ e)))
five a b c d e = simp append_assoc

nine : (a b c d e f g h i : List ℕ) → a ++ b ++ c ++ d ++ e ++ f ++ g ++ h ++ i ≡ a ++ (b ++ (c ++ (d ++ (e ++ (f ++ (g ++ (h ++ i)))))))
nine a b c d e f g h i = simp append_assoc

eleven : (a b c d e f g h i j k : List ℕ) → a ++ b ++ c ++ d ++ e ++ f ++ g ++ h ++ i ++ j ++ k ≡ a ++ (b ++ (c ++ (d ++ (e ++ (f ++ (g ++ (h ++ (i ++ (j ++ k)))))))))
eleven a b c d e f g h i j k = simp append_assoc

-- the line of a sender
abbrev pub sender_pieces : List ℕ → SenderState → List ℕ
sender_pieces name s =
    codes "station " ++ (name ++ (phase_words s.phase ++ (defer_words s.defer ++ (codes " attempt " ++ (decimal s.attempt
    ++ (codes " place " ++ (decimal s.place ++ (codes " drawn " ++ (decimal s.drawn ++ codes "\n")))))))))

pub sender_line_is : (name : List ℕ) (s : SenderState) → line_of_sender name s ≡ sender_pieces name s
unfolding line_of_sender
sender_line_is name s =
    eleven (codes "station ") name (phase_words s.phase) (defer_words s.defer) (codes " attempt ") (decimal s.attempt) (codes " place ") (decimal s.place) (codes " drawn ") (decimal s.drawn) (codes "\n")

-- the counts of a guard
abbrev pub count_pieces : Guard → ℕ → List ℕ
count_pieces g rest =
    codes " in_row " ++ (decimal g.in_row ++ (codes " clash_run " ++ (decimal g.clash_run ++ (codes " clean_run "
    ++ (decimal g.clean_run ++ (codes " rest " ++ (decimal rest ++ codes "\n")))))))

count_words_are : (g : Guard) (rest : ℕ) → count_words g rest ≡ count_pieces g rest
unfolding count_words
count_words_are g rest =
    nine (codes " in_row ") (decimal g.in_row) (codes " clash_run ") (decimal g.clash_run) (codes " clean_run ") (decimal g.clean_run) (codes " rest ") (decimal rest) (codes "\n")

-- the answers of a guard, before more octets
abbrev pub answer_pieces : Guard → List ℕ → List ℕ
answer_pieces g more =
    codes " closed " ++ (yes_or_no g.closed ++ (codes " mend " ++ (yes_or_no g.mend ++ (codes " struck " ++ (yes_or_no g.struck ++ more)))))

-- the line of a guard
abbrev pub guard_pieces : List ℕ → ℕ → Guard → ℕ → List ℕ
guard_pieces name port g rest =
    codes "guard " ++ (name ++ (codes " port " ++ (decimal port ++ answer_pieces g (count_pieces g rest))))

pub guard_line_is : (name : List ℕ) (port : ℕ) (g : Guard) (rest : ℕ) → line_of_guard name port g rest ≡ guard_pieces name port g rest
unfolding line_of_guard
guard_line_is name port g rest =
    rw (← count_words_are g rest) (eleven (codes "guard ") name (codes " port ") (decimal port) (codes " closed ") (yes_or_no g.closed) (codes " mend ") (yes_or_no g.mend) (codes " struck ") (yes_or_no g.struck) (count_words g rest))

-- nine pieces that were put at the end of a text, all but the last two by two
pub nine_put : (t a b c d e f g h i t1 t2 t3 t4 t5 : List ℕ) → t1 ≡ t ++ a ++ b → t2 ≡ t1 ++ c ++ d → t3 ≡ t2 ++ e ++ f → t4 ≡ t3 ++ g ++ h → t5 ≡ t4 ++ i
    → t5 ≡ t ++ (a ++ b ++ c ++ d ++ e ++ f ++ g ++ h ++ i)
nine_put t a b c d e f g h i t1 t2 t3 t4 t5 one two three four five = rw (five, four, three, two, one) (simp append_assoc)
