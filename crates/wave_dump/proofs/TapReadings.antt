-- What the reader of dumps knows of taps, and how lines change it.
use Rattle.std.proofs.Common.{◌≡◌, ℕ, ◌+◌, ◌<◌, ◌≤◌, ◌&&◌, Bool, true, false, cond, List, [], ◌∷◌, ◌++◌, length, map, Some, None, refl, ap, subst, ◌∙◌, arith, append_assoc}
use Rattle.std.specs.Prelude.{Option}
use Rattle.std.specs.List.{AllByRecursion}
use Rattle.std.proofs.lemmas.Bool.{eq-eqb, ne_eqb}
use Rattle.manchester_line.specs.declared.Sym.{Sym}
use Rattle.wave_dump.specs.Changes.{all_values, changed_values, is_changed, symbol_in}
use Rattle.wave_dump.specs.Reading.{NoCommand, TapReader, after_half_bits, after_symbol, half_bits_of_symbol}
use Rattle.wave_dump.specs.Values.{code_of_tap, line_of_value}
use Rattle.wave_dump.proofs.WordReadings.{Leads, between, fixed, go_on, new_taps, value_leads}

-- taps from the k-th on, of which each was told this symbol last and heard these symbols before
abbrev pub taps_in : (List Sym → Option Sym) → (List Sym → List Sym) → ℕ → List (List ℕ) → List (List Sym) → List TapReader
taps_in last before k [] heard = []
taps_in last before k (name ∷ names) [] = []
taps_in last before k (name ∷ names) (symbols ∷ heard) =
    record { code = code_of_tap k; name = name; symbol = last symbols; symbols = before symbols } ∷ taps_in last before (k + 1) names heard

-- taps of which only declarations were read
pub new_are_in : (k : ℕ) (names : List (List ℕ)) (heard : List (List Sym)) → length names ≡ length heard → new_taps k names ≡ taps_in (λ s. None) (λ s. []) k names heard
new_are_in k [] heard h = refl
new_are_in k (name ∷ names) [] h = cc h
new_are_in k (name ∷ names) (symbols ∷ heard) h =
    ap (λ taps. record { code = code_of_tap k; name = name; symbol = None; symbols = [] } ∷ taps) (new_are_in (k + 1) names heard (omega arith))

-- the same taps told otherwise
pub same_taps : (v w : List Sym → Option Sym) (a b : List Sym → List Sym) (k : ℕ) (names : List (List ℕ)) (heard : List (List Sym))
    → AllByRecursion (λ s. (v s ≡ w s) × (a s ≡ b s)) heard → taps_in v a k names heard ≡ taps_in w b k names heard
same_taps v w a b k [] heard h = refl
same_taps v w a b k (name ∷ names) [] h = refl
same_taps v w a b k (name ∷ names) (s ∷ heard) h =
    ap (λ x. record { code = code_of_tap k; name = name; symbol = x; symbols = a s } ∷ taps_in v a (k + 1) names heard) h.0.0
    ∙ ap (λ x. record { code = code_of_tap k; name = name; symbol = w s; symbols = x } ∷ taps_in v a (k + 1) names heard) h.0.1
    ∙ ap (λ taps. record { code = code_of_tap k; name = name; symbol = w s; symbols = b s } ∷ taps) (same_taps v w a b (k + 1) names heard h.1)

-- after half bits in which nothing new was told
pub taps_go_on : (n : ℕ) (v : List Sym → Option Sym) (a : List Sym → List Sym) (k : ℕ) (names : List (List ℕ)) (heard : List (List Sym))
    → map (after_half_bits n) (taps_in v a k names heard) ≡ taps_in v (λ s. a s ++ half_bits_of_symbol (v s) n) k names heard
taps_go_on n v a k [] heard = refl
taps_go_on n v a k (name ∷ names) [] = refl
taps_go_on n v a k (name ∷ names) (s ∷ heard) =
    ap (λ taps. record { code = code_of_tap k; name = name; symbol = v s; symbols = a s ++ half_bits_of_symbol (v s) n } ∷ taps) (taps_go_on n v a (k + 1) names heard)

-- the names and the symbols of taps
pub names_in : (v : List Sym → Option Sym) (a : List Sym → List Sym) (k : ℕ) (names : List (List ℕ)) (heard : List (List Sym)) → length names ≡ length heard
    → map (λ tap. tap.name) (taps_in v a k names heard) ≡ names
names_in v a k [] heard h = refl
names_in v a k (name ∷ names) [] h = cc h
names_in v a k (name ∷ names) (s ∷ heard) h = ap (λ xs. name ∷ xs) (names_in v a (k + 1) names heard (omega arith))

pub symbols_in : (v : List Sym → Option Sym) (a : List Sym → List Sym) (k : ℕ) (names : List (List ℕ)) (heard : List (List Sym)) → length names ≡ length heard
    → AllByRecursion (λ s. a s ≡ s) heard → map (λ tap. tap.symbols) (taps_in v a k names heard) ≡ heard
symbols_in v a k [] [] h all = refl
symbols_in v a k [] (s ∷ heard) h all = cc h
symbols_in v a k (name ∷ names) [] h all = cc
symbols_in v a k (name ∷ names) (s ∷ heard) h all =
    ap (λ x. x ∷ map (λ tap. tap.symbols) (taps_in v a (k + 1) names heard)) all.0 ∙ ap (λ xs. s ∷ xs) (symbols_in v a (k + 1) names heard (omega arith) all.1)

-- a value of one tap changes no other
other_tap : (j k : ℕ) (symbol : Sym) (name : List ℕ) (v : Option Sym) (a : List Sym) → (k ≡ j → ⊥)
    → after_symbol (code_of_tap j) symbol (record { code = code_of_tap k; name = name; symbol = v; symbols = a }) ≡ record { code = code_of_tap k; name = name; symbol = v; symbols = a }
unfolding code_of_tap
other_tap j k symbol name v a h =
    ap (λ (b : Bool). cond (b && true) (record { code = code_of_tap k; name = name; symbol = Some symbol; symbols = a }) (record { code = code_of_tap k; name = name; symbol = v; symbols = a }))
    (ne_eqb (33 + k) (33 + j) (λ e. h (omega arith)))

this_tap : (k : ℕ) (symbol : Sym) (name : List ℕ) (v : Option Sym) (a : List Sym)
    → after_symbol (code_of_tap k) symbol (record { code = code_of_tap k; name = name; symbol = v; symbols = a }) ≡ record { code = code_of_tap k; name = name; symbol = Some symbol; symbols = a }
unfolding code_of_tap
this_tap k symbol name v a =
    ap (λ (b : Bool). cond (b && true) (record { code = code_of_tap k; name = name; symbol = Some symbol; symbols = a }) (record { code = code_of_tap k; name = name; symbol = v; symbols = a }))
    (eq-eqb (33 + k) (33 + k) refl)

later_taps : (j : ℕ) (symbol : Sym) (v : List Sym → Option Sym) (a : List Sym → List Sym) (k : ℕ) (names : List (List ℕ)) (heard : List (List Sym)) → j < k
    → map (after_symbol (code_of_tap j) symbol) (taps_in v a k names heard) ≡ taps_in v a k names heard
later_taps j symbol v a k [] heard h = refl
later_taps j symbol v a k (name ∷ names) [] h = refl
later_taps j symbol v a k (name ∷ names) (s ∷ heard) h =
    ap (λ tap. tap ∷ map (after_symbol (code_of_tap j) symbol) (taps_in v a (k + 1) names heard)) (other_tap j k symbol name (v s) (a s) (λ e. omega arith))
    ∙ ap (λ taps. record { code = code_of_tap k; name = name; symbol = v s; symbols = a s } ∷ taps) (later_taps j symbol v a (k + 1) names heard (omega arith))

-- no value of the k-th tap or a later one changes these
abbrev Settled : ℕ → List TapReader → Type 0
Settled k front = (j : ℕ) (symbol : Sym) → k ≤ j → map (after_symbol (code_of_tap j) symbol) front ≡ front

more_append : {A B : Type 0} (f : A → B) (a b : List A) → map f (a ++ b) ≡ map f a ++ map f b
more_append f [] b = refl
more_append f (x ∷ a) b = ap (λ xs. f x ∷ xs) (more_append f a b)

one_more_settled : (k : ℕ) (front : List TapReader) (name : List ℕ) (v : Option Sym) (a : List Sym) → Settled k front
    → Settled (k + 1) (front ++ record { code = code_of_tap k; name = name; symbol = v; symbols = a } ∷ [])
one_more_settled k front name v a h j symbol up =
    let tap : TapReader = record { code = code_of_tap k; name = name; symbol = v; symbols = a } in
    more_append (after_symbol (code_of_tap j) symbol) front (tap ∷ [])
    ∙ ap (λ xs. xs ++ after_symbol (code_of_tap j) symbol tap ∷ []) (h j symbol (omega arith))
    ∙ ap (λ x. front ++ x ∷ []) (other_tap j k symbol name v a (λ e. omega arith))

-- the values of those taps from the k-th on of which one is told
abbrev pub told_values : (List Sym → Bool) → (List Sym → Sym) → ℕ → List (List Sym) → List ℕ
told_values told value k [] = []
told_values told value k (s ∷ heard) = cond (told s) (line_of_value k (value s)) [] ++ told_values told value (k + 1) heard

pub all_told : (from t k : ℕ) (heard : List (List Sym)) → all_values from t k heard ≡ told_values (λ s. true) (λ s. symbol_in from s t) k heard
all_told from t k [] = refl
all_told from t k (s ∷ heard) = ap (λ xs. line_of_value k (symbol_in from s t) ++ xs) (all_told from t (k + 1) heard)

pub changed_told : (from t k : ℕ) (heard : List (List Sym)) → changed_values from t k heard ≡ told_values (is_changed from t) (λ s. symbol_in from s t) k heard
changed_told from t k [] = refl
changed_told from t k (s ∷ heard) = ap (λ xs. cond (is_changed from t s) (line_of_value k (symbol_in from s t)) [] ++ xs) (changed_told from t (k + 1) heard)

-- the tap after its value, if it is told
one_value : (b : Bool) (now k : ℕ) (front : List TapReader) (name : List ℕ) (value : Sym) (v : List Sym → Option Sym) (a : List Sym → List Sym) (s : List Sym) (names : List (List ℕ)) (heard : List (List Sym)) → Settled k front
    → Leads (between NoCommand (front ++ record { code = code_of_tap k; name = name; symbol = v s; symbols = a s } ∷ taps_in v a (k + 1) names heard) now) (cond b (line_of_value k value) [])
    (between NoCommand (front ++ record { code = code_of_tap k; name = name; symbol = cond b (Some value) (v s); symbols = a s } ∷ taps_in v a (k + 1) names heard) now)
one_value false now k front name value v a s names heard h = fixed _ _ [] refl
one_value true now k front name value v a s names heard h =
    let tap : TapReader = record { code = code_of_tap k; name = name; symbol = v s; symbols = a s } in
    let later : List TapReader = taps_in v a (k + 1) names heard in
    let f = after_symbol (code_of_tap k) value in
    let taps : map f (front ++ tap ∷ later) ≡ front ++ record { code = code_of_tap k; name = name; symbol = Some value; symbols = a s } ∷ later =
    more_append f front (tap ∷ later) ∙ ap (λ xs. xs ++ map f (tap ∷ later)) (h k value (omega arith))
    ∙ ap (λ x. front ++ x ∷ map f later) (this_tap k value name (v s) (a s))
    ∙ ap (λ xs. front ++ record { code = code_of_tap k; name = name; symbol = Some value; symbols = a s } ∷ xs) (later_taps k value v a (k + 1) names heard (omega arith)) in
    subst (λ xs. Leads (between NoCommand (front ++ tap ∷ later) now) (line_of_value k value) (between NoCommand xs now)) taps (value_leads (front ++ tap ∷ later) now k value)

pub values_lead : (told : List Sym → Bool) (value : List Sym → Sym) (v : List Sym → Option Sym) (a : List Sym → List Sym) (now k : ℕ) (front : List TapReader) (names : List (List ℕ)) (heard : List (List Sym))
    → Settled k front → length names ≡ length heard
    → Leads (between NoCommand (front ++ taps_in v a k names heard) now) (told_values told value k heard) (between NoCommand (front ++ taps_in (λ s. cond (told s) (Some (value s)) (v s)) a k names heard) now)
values_lead told value v a now k front [] [] h same = fixed _ _ [] refl
values_lead told value v a now k front [] (s ∷ heard) h same = cc same
values_lead told value v a now k front (name ∷ names) [] h same = cc same
values_lead told value v a now k front (name ∷ names) (s ∷ heard) h same =
    let w : List Sym → Option Sym = λ x. cond (told x) (Some (value x)) (v x) in
    let tap : TapReader = record { code = code_of_tap k; name = name; symbol = w s; symbols = a s } in
    let more : Leads (between NoCommand ((front ++ tap ∷ []) ++ taps_in v a (k + 1) names heard) now) (told_values told value (k + 1) heard) (between NoCommand ((front ++ tap ∷ []) ++ taps_in w a (k + 1) names heard) now) =
    values_lead told value v a now (k + 1) (front ++ tap ∷ []) names heard (one_more_settled k front name (w s) (a s) h) (omega arith) in
    go_on (one_value (told s) now k front name (value s) v a s names heard h)
    (subst (λ xs. Leads (between NoCommand xs now) (told_values told value (k + 1) heard) (between NoCommand (front ++ tap ∷ taps_in w a (k + 1) names heard) now)) (append_assoc front (tap ∷ []) (taps_in v a (k + 1) names heard))
    (subst (λ xs. Leads (between NoCommand ((front ++ tap ∷ []) ++ taps_in v a (k + 1) names heard) now) (told_values told value (k + 1) heard) (between NoCommand xs now)) (append_assoc front (tap ∷ []) (taps_in w a (k + 1) names heard)) more))

-- where no tap stands before
pub none_settled : (j : ℕ) (symbol : Sym) → 0 ≤ j → map (after_symbol (code_of_tap j) symbol) [] ≡ []
none_settled j symbol h = refl
