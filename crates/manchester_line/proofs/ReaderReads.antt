-- A reader with room for all bits answers what the definition of a reading says.
use Rattle.std.proofs.Common.{◌≡◌, Bool, true, false, Option, Some, None, List, [], ◌∷◌, ◌++◌, refl, sym, ap, ◌∙◌, append_assoc}
use Rattle.std.proofs.lemmas.List.{append-nil}
use Rattle.std.specs.Option.{option_map}
use Rattle.manchester_line.specs.declared.Sym.{Sym}
use Rattle.std.specs.Prelude.{◌&&◌}
use Rattle.manchester_line.specs.Reading.{bit_of_pair, add_bit, bits_of, after_delimiter, reading}
use Rattle.manchester_line.proofs.Reader.{Reader, new_reader, read_bit, all_read, answer}

-- what is read from here on: everything once the delimiter was found
abbrev rest_of : Bool → Bool → List Bool → List Bool
rest_of true last bs = bs
rest_of false last bs = after_delimiter last bs

abbrev reader : Bool → Bool → Bool → List Bool → Reader
reader spoiled found last bits = record { half = None; spoiled = spoiled; found = found; last = last; bits = bits }

spoiled_pair : (rest : List Sym) → ((f l : Bool) (bs : List Bool) → answer (all_read (reader true f l bs) rest) ≡ None) → (found last : Bool) (bits : List Bool) (p : Option Bool) → answer (all_read (read_bit (reader true found last bits) p) rest) ≡ None
spoiled_pair rest ih found last bits None = ih found last bits
spoiled_pair rest ih true last bits (Some x) = ih true last (bits ++ x ∷ [])
spoiled_pair rest ih false last bits (Some x) = ih (last && x) x bits

-- once spoiled, always
spoiled_stays : (xs : List Sym) (found last : Bool) (bits : List Bool) → answer (all_read (reader true found last bits) xs) ≡ None
spoiled_stays [] found last bits = refl
spoiled_stays (a ∷ []) found last bits = refl
spoiled_stays (a ∷ b ∷ rest) found last bits = spoiled_pair rest (λ f l bs. spoiled_stays rest f l bs) found last bits (bit_of_pair a b)

one_more : (bits : List Bool) (x : Bool) (o : Option (List Bool)) → option_map (λ b. (bits ++ x ∷ []) ++ b) o ≡ option_map (λ b. bits ++ b) (add_bit (Some x) o)
one_more bits x None = refl
one_more bits x (Some b) = ap Some (append_assoc bits (x ∷ []) b)

rest_is : (last x : Bool) (b : List Bool) → rest_of (last && x) x b ≡ after_delimiter last (x ∷ b)
rest_is true true b = refl
rest_is true false b = refl
rest_is false true b = refl
rest_is false false b = refl

passed : (bits : List Bool) (last x : Bool) (o : Option (List Bool)) → option_map (λ b. bits ++ rest_of (last && x) x b) o ≡ option_map (λ b. bits ++ after_delimiter last b) (add_bit (Some x) o)
passed bits last x None = refl
passed bits last x (Some b) = ap (λ c. Some (bits ++ c)) (rest_is last x b)

answer_pair : (rest : List Sym) → ((f l : Bool) (bs : List Bool) → answer (all_read (reader false f l bs) rest) ≡ option_map (λ b. bs ++ rest_of f l b) (bits_of rest)) → (found last : Bool) (bits : List Bool) (p : Option Bool) →
    answer (all_read (read_bit (reader false found last bits) p) rest) ≡ option_map (λ b. bits ++ rest_of found last b) (add_bit p (bits_of rest))
answer_pair rest ih found last bits None = spoiled_stays rest found last bits
answer_pair rest ih true last bits (Some x) = ih true last (bits ++ x ∷ []) ∙ one_more bits x (bits_of rest)
answer_pair rest ih false last bits (Some x) = ih (last && x) x bits ∙ passed bits last x (bits_of rest)

-- what the machine answers in the end, from any state
pub answer_is : (xs : List Sym) (found last : Bool) (bits : List Bool) → answer (all_read (reader false found last bits) xs) ≡ option_map (λ b. bits ++ rest_of found last b) (bits_of xs)
answer_is [] true last bits = ap Some (sym (append-nil bits))
answer_is [] false last bits = ap Some (sym (append-nil bits))
answer_is (a ∷ []) found last bits = refl
answer_is (a ∷ b ∷ rest) found last bits = answer_pair rest (λ f l bs. answer_is rest f l bs) found last bits (bit_of_pair a b)

pub law : (xs : List Sym) → answer (all_read new_reader xs) ≡ reading xs
law xs = answer_is xs false false []
