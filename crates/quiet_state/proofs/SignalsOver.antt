-- When the last signal of a tap has passed the others.
use Rattle.std.proofs.Common.{◌≡◌, ◌≢◌, ℕ, zero, suc, ◌+◌, ◌-◌, ◌<◌, ◌≤◌, true, false, cond, eqb, inl, inr, Option, Some, None, List, [], ◌∷◌, length, get_or, refl, sym, ap, ◌∙◌, arith}
use Rattle.std.proofs.lemmas.Bool.{cond_both, cases_lt, cases_eq, eq-eqb, ne_eqb}
use Rattle.manchester_line.specs.declared.Sym.{Sym}
use Rattle.manchester_line.specs.declared.Sym.TheVariants.{Idle, Hi, Lo, Clash}
use Rattle.manchester_line.specs.Line.{is_signal}
use Rattle.mac_parameters.specs.Distances.{distance}
use Rattle.layout.specs.declared.lines.PortLine.{PortLine}
use Rattle.quiet_state.specs.LastSignals.{last_signal, reach_over, IsOverBy}

abbrev pub at_back : List (List Sym) → ℕ → ℕ → Sym
at_back rows b q = get_or (get_or rows b []) q Idle

not_signal : (s : Sym) → is_signal s ≡ false → s ≡ Idle
not_signal Idle e = refl
not_signal Hi e = absurd (cc)
not_signal Lo e = absurd (cc)
not_signal Clash e = absurd (cc)

signal : (s : Sym) → is_signal s ≡ true → s ≢ Idle
signal s e i = absurd (let idle : is_signal s ≡ false = ap is_signal i in let both : true ≡ false = sym e ∙ idle in cc)

-- this is the last signal of tap q, b + 1 half bits ago
record IsLastAt (t u q : ℕ) (rows : List (List Sym)) : Type 0 where
  ago : ℕ
  time : u + suc ago ≡ t
  sent : at_back rows ago q ≢ Idle
  none_since : (b : ℕ) → b < ago → at_back rows b q ≡ Idle

abbrev IsLast : ℕ → ℕ → List (List Sym) → Option ℕ → Type 0
IsLast t q rows None = (b : ℕ) → at_back rows b q ≡ Idle
IsLast t q rows (Some u) = IsLastAt t u q rows

one_more : (t q : ℕ) (row : List Sym) (rows : List (List Sym)) (o : Option ℕ) → 1 ≤ t → get_or row q Idle ≡ Idle → IsLast (t - 1) q rows o → IsLast t q (row ∷ rows) o
one_more t q row rows None l e h = λ b. each b
  where
    each : (b : ℕ) → at_back (row ∷ rows) b q ≡ Idle
    each zero = e
    each (suc b) = h b
one_more t q row rows (Some u) l e h =
    let time = h.time in
    record { ago = suc h.ago; time = omega (arith, time); sent = h.sent; none_since = λ b m. since b m }
  where
    since : (b : ℕ) → b < suc h.ago → at_back (row ∷ rows) b q ≡ Idle
    since zero m = e
    since (suc b) m = h.none_since b (omega arith)

last_is : (t q : ℕ) (rows : List (List Sym)) → length rows ≤ t → IsLast t q rows (last_signal t rows q)
last_is t q [] l = λ b. refl
last_is t q (row ∷ rows) l =
    cond_both (is_signal (get_or row q Idle)) (Some (t - 1)) (last_signal (t - 1) rows q) (IsLast t q (row ∷ rows))
    (λ e. record { ago = 0; time = omega arith; sent = signal (get_or row q Idle) e; none_since = λ b m. absurd (omega arith) })
    (λ e. one_more t q row rows (last_signal (t - 1) rows q) (omega arith) (not_signal (get_or row q Idle) e) (last_is (t - 1) q rows (omega arith)))

-- the last signal is over exactly where none of the last so many symbols is one
over_by : (t q needs : ℕ) (rows : List (List Sym)) (o : Option ℕ) → IsLast t q rows o → ((b : ℕ) → b < needs → at_back rows b q ≡ Idle) → IsOverBy t needs o
over_by t q needs rows None l h = tt
over_by t q needs rows (Some u) l h = elim (cases_lt l.ago needs) [
  | inl soon ↦ absurd (l.sent (h l.ago soon))
  | inr past ↦ (let time = l.time in omega (arith, time, past))
]

none_by : (t q needs : ℕ) (rows : List (List Sym)) (o : Option ℕ) → IsLast t q rows o → IsOverBy t needs o → (b : ℕ) → b < needs → at_back rows b q ≡ Idle
none_by t q needs rows None l h b m = l b
none_by t q needs rows (Some u) l h b m = let time = l.time in l.none_since b (omega (arith, time))

pub is_over : (t q needs : ℕ) (rows : List (List Sym)) → length rows ≤ t → ((b : ℕ) → b < needs → at_back rows b q ≡ Idle) → IsOverBy t needs (last_signal t rows q)
is_over t q needs rows l h = over_by t q needs rows (last_signal t rows q) (last_is t q rows l) h

pub over_none : (t q needs : ℕ) (rows : List (List Sym)) → length rows ≤ t → IsOverBy t needs (last_signal t rows q) → (b : ℕ) → b < needs → at_back rows b q ≡ Idle
over_none t q needs rows l h b m = none_by t q needs rows (last_signal t rows q) (last_is t q rows l) h b m

-- the farthest tap of a segment
abbrev reach_to : PortLine → PortLine → ℕ
reach_to here x = cond (eqb x.segment here.segment) (distance x.at here.at) 0

pub within_reach : (here : PortLine) (xs : List PortLine) (i : ℕ) (d : PortLine) → i < length xs → (get_or xs i d).segment ≡ here.segment → distance (get_or xs i d).at here.at ≤ reach_over here xs
within_reach here [] i d l e = absurd (omega arith)
within_reach here (x ∷ xs) zero d l e =
    let one : reach_to here x ≡ distance x.at here.at = ap (λ b. cond b (distance x.at here.at) 0) (eq-eqb x.segment here.segment e) in omega (arith, one)
within_reach here (x ∷ xs) (suc i) d l e = let more = within_reach here xs i d (omega arith) e in omega (arith, more)

-- a tap at that distance
pub record IsFarthest (here : PortLine) (xs : List PortLine) (d : PortLine) : Type 0 where
  pub tap : ℕ
  pub low : tap < length xs
  pub segment : (get_or xs tap d).segment ≡ here.segment
  pub far : distance (get_or xs tap d).at here.at ≡ reach_over here xs

pub farthest : (here : PortLine) (xs : List PortLine) (d : PortLine) → 0 < reach_over here xs → IsFarthest here xs d
farthest here [] d l = absurd (omega arith)
farthest here (x ∷ xs) d l = elim (cases_lt (reach_over here xs) (reach_to here x)) [
  | inl nearer ↦ elim (cases_eq x.segment here.segment) [
    | inl on ↦
        let one : reach_to here x ≡ distance x.at here.at = ap (λ b. cond b (distance x.at here.at) 0) (eq-eqb x.segment here.segment on) in
        record { tap = 0; low = omega arith; segment = on; far = omega (arith, one, nearer) }
    | inr off ↦
        let none : reach_to here x ≡ 0 = ap (λ b. cond b (distance x.at here.at) 0) (ne_eqb x.segment here.segment off) in
        absurd (omega (arith, none, nearer))
  ]
  | inr farther ↦
      let same : reach_over here (x ∷ xs) ≡ reach_over here xs = omega (arith, farther) in
      let rest : IsFarthest here xs d = farthest here xs d (omega (arith, l, same)) in
      let low = rest.low in
      record { tap = suc rest.tap; low = omega (arith, low); segment = rest.segment; far = (let far = rest.far in omega (arith, far, same)) }
]
