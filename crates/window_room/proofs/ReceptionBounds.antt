-- What reception_bodies weigh in all, where each weighs at most what its reception took.
use Rattle.std.proofs.Common.{◌≡◌, ℕ, suc, ◌+◌, ◌*◌, ◌/◌, ◌<◌, ◌≤◌, Bool, Option, Some, None, List, [], ◌∷◌, length, refl, sym, ap, subst, ◌∙◌, arith, All}
use Rattle.std.proofs.lemmas.List.Elements.{All-cons}
use Rattle.std.specs.Prelude.{min, map}
use Rattle.mac_parameters.specs.Parameters.{check_sequence, half_bits_an_octet}
use Rattle.manchester_line.specs.declared.Sym.{Sym}
use Rattle.collision_log.specs.declared.row.Body.{Body}
use Rattle.collision_log.specs.declared.row.Body.TheVariants.{Sent, Collided, GivenUp, Cut, Received, Dropped, Closed, Opened, Halted}
use Rattle.collision_log.specs.declared.row.Body.TheVariants as body
use Rattle.mac_receive.specs.Receiver.{Receiving, receiver_step, with_event, receiver_bodies}
use Rattle.window_room.specs.Receptions.{HeardHalf, heard_half, reception_bodies, count_received, least_reception, frame_octets, octets_received}
use Rattle.window_room.proofs.ReceptionSteps.{RowFits, FrameFits, Steps, steps}

abbrev pub weigh : (Body → ℕ) → List Body → ℕ
weigh w [] = 0
weigh w (body ∷ bodies) = w body + weigh w bodies

-- a row weighs at most one more than its reception has half bits, and at most one more than k
abbrev IsWeight : (Body → ℕ) → ℕ → ℕ → Type 0
IsWeight w most k = (h : ℕ) (body : Body) → 0 < h → RowFits h most body → (w body ≤ h + 1) × (w body ≤ k + 1)

pub record Few (total n h k : ℕ) : Type 0 where
  pub of_halves : total ≤ n + h
  pub of_cap : total ≤ n + k

one_event : (w : Body → ℕ) (k most h after n : ℕ) (e : Option Body) (bodies : List Body) → IsWeight w most k → Steps h most after e → Few (weigh w bodies) n after k → Few (weigh w (with_event e bodies)) (suc n) h k
one_event w k most h after n None bodies is s f = record { of_halves = omega (arith, s, f.of_halves); of_cap = omega (arith, f.of_cap) }
one_event w k most h after n (Some body) bodies is s f =
    let light : (w body ≤ h + 1) × (w body ≤ k + 1) = is h body s.some s.fits in
    record {
      of_halves = omega (arith, light.0, s.none_left, f.of_halves);
      of_cap = omega (arith, light.1, s.none_left, f.of_halves);
    }

weights : (w : Body → ℕ) (k most : ℕ) (r : Receiving) (hs : List HeardHalf) → r.most ≡ most → IsWeight w most k → Few (weigh w (reception_bodies r hs)) (length hs) (length r.halves) k
weights w k most r [] e is = record { of_halves = omega arith; of_cap = omega arith }
weights w k most r (h ∷ hs) e is =
    let step : _ = steps r h.heard h.sending in
    let P : ℕ → Type 0 = λ m. IsWeight w m k in
    one_event w k r.most (length r.halves) (length (receiver_step r h.heard h.sending).state.halves) (length hs) (receiver_step r h.heard h.sending).event (reception_bodies (receiver_step r h.heard h.sending).state hs)
    (subst P (sym e) is) step.1
    (weights w k most (receiver_step r h.heard h.sending).state hs (step.0 ∙ e) is)

-- what a row of a frame weighs, by the frame's octets
weight_of : (ℕ → ℕ) → Body → ℕ
weight_of w (Received octets) = w octets
weight_of w _ = 0

is_weight : (w : ℕ → ℕ) (most k : ℕ) → ((h n : ℕ) → FrameFits h most n → (w n ≤ h + 1) × (w n ≤ k + 1)) → IsWeight (weight_of w) most k
unfolding weight_of
is_weight w most k l h (Sent f s a) some fits = (omega arith, omega arith)
is_weight w most k l h (Collided f s a h' d) some fits = (omega arith, omega arith)
is_weight w most k l h (GivenUp f s h') some fits = (omega arith, omega arith)
is_weight w most k l h (Cut f s a h') some fits = (omega arith, omega arith)
is_weight w most k l h (Received n) some fits = l h n fits
is_weight w most k l h (Dropped y h') some fits = (omega arith, omega arith)
is_weight w most k l h body.Clash some fits = (omega arith, omega arith)
is_weight w most k l h (Closed p) some fits = (omega arith, omega arith)
is_weight w most k l h (Opened p) some fits = (omega arith, omega arith)
is_weight w most k l h (Halted p) some fits = (omega arith, omega arith)

count_is : (bodies : List Body) → weigh (weight_of (λ _. 1029)) bodies ≡ 1029 * count_received bodies
unfolding weight_of
count_is [] = refl
count_is (Sent f s a ∷ bodies) = let ih : weigh (weight_of (λ _. 1029)) bodies ≡ 1029 * count_received bodies = count_is bodies in omega (arith, ih)
count_is (Collided f s a h' d ∷ bodies) = let ih : weigh (weight_of (λ _. 1029)) bodies ≡ 1029 * count_received bodies = count_is bodies in omega (arith, ih)
count_is (GivenUp f s h' ∷ bodies) = let ih : weigh (weight_of (λ _. 1029)) bodies ≡ 1029 * count_received bodies = count_is bodies in omega (arith, ih)
count_is (Cut f s a h' ∷ bodies) = let ih : weigh (weight_of (λ _. 1029)) bodies ≡ 1029 * count_received bodies = count_is bodies in omega (arith, ih)
count_is (Received n ∷ bodies) = let ih : weigh (weight_of (λ _. 1029)) bodies ≡ 1029 * count_received bodies = count_is bodies in omega (arith, ih)
count_is (Dropped y h' ∷ bodies) = let ih : weigh (weight_of (λ _. 1029)) bodies ≡ 1029 * count_received bodies = count_is bodies in omega (arith, ih)
count_is (body.Clash ∷ bodies) = let ih : weigh (weight_of (λ _. 1029)) bodies ≡ 1029 * count_received bodies = count_is bodies in omega (arith, ih)
count_is (Closed p ∷ bodies) = let ih : weigh (weight_of (λ _. 1029)) bodies ≡ 1029 * count_received bodies = count_is bodies in omega (arith, ih)
count_is (Opened p ∷ bodies) = let ih : weigh (weight_of (λ _. 1029)) bodies ≡ 1029 * count_received bodies = count_is bodies in omega (arith, ih)
count_is (Halted p ∷ bodies) = let ih : weigh (weight_of (λ _. 1029)) bodies ≡ 1029 * count_received bodies = count_is bodies in omega (arith, ih)

octets_weigh : (body : Body) → 16 * frame_octets body ≤ weight_of (λ n. 16 * n) body
unfolding weight_of
octets_weigh (Sent f s a) = omega arith
octets_weigh (Collided f s a h' d) = omega arith
octets_weigh (GivenUp f s h') = omega arith
octets_weigh (Cut f s a h') = omega arith
octets_weigh (Received n) = omega arith
octets_weigh (Dropped y h') = omega arith
octets_weigh body.Clash = omega arith
octets_weigh (Closed p) = omega arith
octets_weigh (Opened p) = omega arith
octets_weigh (Halted p) = omega arith

octets_within : (bodies : List Body) → 16 * octets_received bodies ≤ weigh (weight_of (λ n. 16 * n)) bodies
octets_within [] = omega arith
octets_within (body ∷ bodies) = let ih : _ = octets_within bodies in omega (arith, ih, octets_weigh body)

rows_are : (bodies : List Body) → weigh (λ _. 2) bodies ≡ 2 * length bodies
rows_are [] = refl
rows_are (body ∷ bodies) = let ih : weigh (λ _. 2) bodies ≡ 2 * length bodies = rows_are bodies in omega (arith, ih)

octets_fit : (h most : ℕ) (body : Body) → RowFits h most body → frame_octets body ≤ most + check_sequence
octets_fit h most (Sent f s a) fits = omega arith
octets_fit h most (Collided f s a h' d) fits = omega arith
octets_fit h most (GivenUp f s h') fits = omega arith
octets_fit h most (Cut f s a h') fits = omega arith
octets_fit h most (Received n) fits = fits.few
octets_fit h most (Dropped y h') fits = omega arith
octets_fit h most body.Clash fits = omega arith
octets_fit h most (Closed p) fits = omega arith
octets_fit h most (Opened p) fits = omega arith
octets_fit h most (Halted p) fits = omega arith

received_few : (r : Receiving) (hs : List HeardHalf) → Few (1029 * count_received (reception_bodies r hs)) (length hs) (length r.halves) 1028
received_few r hs =
    let f : Few (weigh (weight_of (λ _. 1029)) (reception_bodies r hs)) (length hs) (length r.halves) 1028 =
    weights (weight_of (λ _. 1029)) 1028 r.most r hs refl (is_weight (λ _. 1029) r.most 1028 (λ h n fits. (omega (arith, fits.least, fits.halves), omega arith))) in
    record { of_halves = omega (arith, f.of_halves, count_is (reception_bodies r hs)); of_cap = omega (arith, f.of_cap, count_is (reception_bodies r hs)) }

pub count : (r : Receiving) (hs : List HeardHalf) → count_received (reception_bodies r hs) ≤ 1 + length hs / least_reception
count r hs = omega (arith, (received_few r hs).of_cap)

pub exact : (r : Receiving) (hs : List HeardHalf) → 1029 * count_received (reception_bodies r hs) ≤ length hs + min 1028 (length r.halves)
exact r hs = grind (arith, (received_few r hs).of_cap, (received_few r hs).of_halves)

pub octets : (r : Receiving) (hs : List HeardHalf) → octets_received (reception_bodies r hs) ≤ r.most + check_sequence + length hs / half_bits_an_octet
octets r hs =
    let f : Few (weigh (weight_of (λ n. 16 * n)) (reception_bodies r hs)) (length hs) (length r.halves) (16 * r.most + 64) =
    weights (weight_of (λ n. 16 * n)) (16 * r.most + 64) r.most r hs refl
    (is_weight (λ n. 16 * n) r.most (16 * r.most + 64) (λ h n fits. (omega (arith, fits.halves), omega (arith, fits.few)))) in
    omega (arith, f.of_cap, octets_within (reception_bodies r hs))

pub rows : (r : Receiving) (hs : List HeardHalf) → length (reception_bodies r hs) ≤ (length hs + 1) / 2
rows r hs =
    let f : Few (weigh (λ _. 2) (reception_bodies r hs)) (length hs) (length r.halves) 1 =
    weights (λ _. 2) 1 r.most r hs refl (λ h body some fits. (omega (arith, some), omega arith)) in
    omega (arith, f.of_cap, rows_are (reception_bodies r hs))

each_with : (most h after : ℕ) (e : Option Body) (bodies : List Body) → Steps h most after e → All (λ body. frame_octets body ≤ most + check_sequence) bodies → All (λ body. frame_octets body ≤ most + check_sequence) (with_event e bodies)
each_with most h after None bodies s all = all
each_with most h after (Some body) bodies s all = All-cons (λ body. frame_octets body ≤ most + check_sequence) body bodies (octets_fit h most body s.fits) all

each_of : (most : ℕ) (r : Receiving) (hs : List HeardHalf) → r.most ≡ most → All (λ body. frame_octets body ≤ most + check_sequence) (reception_bodies r hs)
each_of most r [] e = λ k d p. absurd (omega (arith, p))
each_of most r (h ∷ hs) e =
    let P : ℕ → Type 0 = λ m. Steps (length r.halves) m (length (receiver_step r h.heard h.sending).state.halves) (receiver_step r h.heard h.sending).event in
    each_with most (length r.halves) (length (receiver_step r h.heard h.sending).state.halves) (receiver_step r h.heard h.sending).event (reception_bodies (receiver_step r h.heard h.sending).state hs)
    (subst P e (steps r h.heard h.sending).1)
    (each_of most (receiver_step r h.heard h.sending).state hs ((steps r h.heard h.sending).0 ∙ e))

pub each : (r : Receiving) (hs : List HeardHalf) → All (λ body. frame_octets body ≤ r.most + check_sequence) (reception_bodies r hs)
each r hs = each_of r.most r hs refl

pub leaps : (r : Receiving) (heard : List Sym) (sending : Bool) → receiver_bodies r heard sending ≡ reception_bodies r (map (heard_half sending) heard)
leaps r [] sending = refl
leaps r (s ∷ ss) sending = ap (with_event (receiver_step r s sending).event) (leaps (receiver_step r s sending).state ss sending)
