-- What a network's stations capture is short.
use Rattle.std.proofs.Common.{◌≡◌, ℕ, zero, suc, ◌+◌, ◌-◌, ◌<◌, ◌≤◌, Bool, true, false, cond, eqb, ltb, Option, Some, None, List, [], ◌∷◌, ◌++◌, map, length, take, All, refl, subst, arith}
use Rattle.std.proofs.lemmas.Bool.{ltb-false}
use Rattle.std.proofs.lemmas.List.{length-take}
use Rattle.std.proofs.lemmas.List.Elements.{All-append, All-cons, All-head, All-map, All-nil, All-tail}
use Rattle.manchester_line.specs.Reading.{reading, octets_of_bits, spare_of_bits}
use Rattle.manchester_line.specs.declared.Sym.{Sym}
use Rattle.manchester_line.specs.declared.Sym.TheVariants as sym
use Rattle.frame_layout.specs.Frame.{verdict_of}
use Rattle.frame_layout.specs.declared.verdict.Verdict.{Verdict}
use Rattle.frame_layout.specs.declared.verdict.Verdict.TheVariants.{Good, Fragment, TooLong, FcsError, AlignError}
use Rattle.collision_log.specs.declared.row.Body.{Body}
use Rattle.collision_log.specs.declared.row.Body.TheVariants.{Sent, Collided, GivenUp, Cut, Received, Dropped, Clash, Closed, Opened, Halted}
use Rattle.load_plan.proofs.PlansAreSound.{sound_of_plan}
use Rattle.load_plan.specs.declared.plan.Plan.{Plan}
use Rattle.manchester_line.specs.Line.{is_signal}
use Rattle.mac_receive.specs.Receiver.{Receiving, Reception, reception_ended, extended, judged_octets, left_halves, new_receiving, quiet, reading_octets, receiver_step}
use Rattle.network.specs.Net.{Net, net, next, receptions, receptions_in, stations_emit, stations_hear}
use Rattle.mac_parameters.specs.Parameters.{check_sequence, greatest_frame, most_octets, most_octets_tagged}
use Rattle.network.specs.Captures.{captured, taken_by}
use Rattle.network.specs.Outputs.{captures, half_bits}
use Rattle.network.specs.declared.outputs.Taken.{Taken}
use Rattle.run_texts.specs.Captures.{AreShort}

-- octets that are judged good are no more than the most and a check sequence
judged_few : (v : Verdict) (octets : List ℕ) (most : ℕ) → (v ≡ Good → length octets ≤ most + 4) → length (judged_octets v octets) ≤ most + 4
judged_few Good octets most few = few refl
judged_few Fragment octets most few = omega arith
judged_few TooLong octets most few = omega arith
judged_few FcsError octets most few = omega arith
judged_few AlignError octets most few = omega arith

good_few : (octets : List ℕ) (spare most : ℕ) → verdict_of octets spare most ≡ Good → length octets ≤ most + 4
unfolding verdict_of
good_few octets spare most good = judged _ (ltb (length octets) 64) (ltb (most + 4) (length octets)) (λ e. ltb-false _ _ e) good
  where
    judged : (rest : Verdict) (small large : Bool) → (large ≡ false → length octets ≤ most + 4) → cond small Fragment (cond large TooLong rest) ≡ Good → length octets ≤ most + 4
    judged rest true large few is = absurd (cc)
    judged rest false true few is = absurd (cc)
    judged rest false false few is = few refl

reading_few : (read : Option (List Bool)) (most : ℕ) → length (reading_octets read most) ≤ most + 4
reading_few None most = omega arith
reading_few (Some bits) most =
    judged_few (verdict_of (octets_of_bits bits) (spare_of_bits bits) most) (octets_of_bits bits) most (good_few (octets_of_bits bits) (spare_of_bits bits) most)

-- a half bit of a receiver: the most stays, and it gives no more octets
record IsMild (r : Receiving) (o : Reception) : Type 0 where
  most : o.state.most ≡ r.most
  few : length o.octets ≤ r.most + check_sequence

ended_mild : (r : Receiving) (halves : List Sym) → IsMild r (reception_ended r halves)
ended_mild r [] = record { most = refl; few = omega arith }
ended_mild r (s ∷ ss) = record { most = refl; few = reading_few (reading (left_halves r.lose (s ∷ ss))) r.most }

idle_mild : (deaf : Bool) (r : Receiving) → IsMild r (cond deaf (quiet (record r { deaf = false; halves = [] })) (reception_ended r r.halves))
idle_mild true r = record { most = refl; few = omega arith }
idle_mild false r = ended_mild r r.halves

loud_mild : (deaf : Bool) (r : Receiving) (s : Sym) → IsMild r (cond deaf (quiet r) (extended r s))
loud_mild true r s = record { most = refl; few = omega arith }
loud_mild false r s = record { most = refl; few = omega arith }

received_mild : (r : Receiving) (heard : Sym) (sending : Bool) → IsMild r (receiver_step r heard sending)
received_mild r sym.Idle true = record { most = refl; few = omega arith }
received_mild r sym.Hi true = record { most = refl; few = omega arith }
received_mild r sym.Lo true = record { most = refl; few = omega arith }
received_mild r sym.Clash true = record { most = refl; few = omega arith }
received_mild r sym.Idle false = idle_mild r.deaf r
received_mild r sym.Hi false = loud_mild r.deaf r sym.Hi
received_mild r sym.Lo false = loud_mild r.deaf r sym.Lo
received_mild r sym.Clash false = loud_mild r.deaf r sym.Clash

abbrev pub IsBounded : Receiving → Type 0
IsBounded r = r.most ≤ most_octets_tagged

abbrev AreFew : List ℕ → Type 0
AreFew octets = length octets ≤ greatest_frame

-- what each reception has that begins with a bounded receiver
receptions_have : {X : Type 0} (P : X → Type 0) (part : Reception → X) → ((r : Receiving) (heard : Sym) (sending : Bool) → IsBounded r → P (part (receiver_step r heard sending)))
    → (hs es : List Sym) (rs : List Receiving) → All IsBounded rs → All P (map part (receptions hs es rs))
receptions_have P part step [] es rs h = All-nil P
receptions_have P part step (x ∷ hs) [] rs h = All-nil P
receptions_have P part step (x ∷ hs) (e ∷ es) [] h = All-nil P
receptions_have P part step (x ∷ hs) (e ∷ es) (r ∷ rs) h =
    All-cons P (part (receiver_step r x (is_signal e))) (map part (receptions hs es rs)) (step r x (is_signal e) (All-head IsBounded r rs h)) (receptions_have P part step hs es rs (All-tail IsBounded r rs h))

receivers_stay : (hs es : List Sym) (rs : List Receiving) → All IsBounded rs → All IsBounded (map (λ (o : Reception). o.state) (receptions hs es rs))
receivers_stay hs es rs h = receptions_have IsBounded (λ (o : Reception). o.state) (λ r heard sending first. omega (arith, (received_mild r heard sending).most)) hs es rs h

octets_few : (hs es : List Sym) (rs : List Receiving) → All IsBounded rs → All AreFew (map (λ (o : Reception). o.octets) (receptions hs es rs))
octets_few hs es rs h = receptions_have AreFew (λ (o : Reception). o.octets) (λ r heard sending first. omega (arith, (received_mild r heard sending).few)) hs es rs h

-- taken before half bit t, and of at most 1,518 octets
pub record IsTaken (t : ℕ) (x : Taken) : Type 0 where
  pub few : length x.octets ≤ most_octets_tagged
  pub time : x.t < t

abbrev pub AreTaken : ℕ → List Taken → Type 0
AreTaken t taken = All (IsTaken t) taken

later : (t : ℕ) (taken : List Taken) → AreTaken t taken → AreTaken (t + 1) taken
later t taken h = λ k d lt. let x = h k d lt in record { few = x.few; time = omega (arith, x.time) }

taken_whole : (t : ℕ) (octets : List ℕ) → AreFew octets → AreTaken (t + 1) (record { t = t; octets = take (length octets - check_sequence) octets } ∷ [])
taken_whole t octets few =
    let short : length (take (length octets - check_sequence) octets) ≤ most_octets_tagged = rw (length-take (length octets - check_sequence) octets) (omega arith) in
    All-cons (IsTaken (t + 1)) (record { t = t; octets = take (length octets - check_sequence) octets }) [] (record { few = short; time = omega arith }) (All-nil (IsTaken (t + 1)))

taken_now : (t : ℕ) (event : Option Body) (octets : List ℕ) → AreFew octets → AreTaken (t + 1) (taken_by t event octets)
taken_now t None octets few = All-nil (IsTaken (t + 1))
taken_now t (Some (Received n)) octets few = taken_whole t octets few
taken_now t (Some (Sent frame start attempt)) octets few = All-nil (IsTaken (t + 1))
taken_now t (Some (Collided frame start attempt hit drawn)) octets few = All-nil (IsTaken (t + 1))
taken_now t (Some (GivenUp frame start hit)) octets few = All-nil (IsTaken (t + 1))
taken_now t (Some (Cut frame start attempt hit)) octets few = All-nil (IsTaken (t + 1))
taken_now t (Some (Dropped why halves)) octets few = All-nil (IsTaken (t + 1))
taken_now t (Some Clash) octets few = All-nil (IsTaken (t + 1))
taken_now t (Some (Closed port)) octets few = All-nil (IsTaken (t + 1))
taken_now t (Some (Opened port)) octets few = All-nil (IsTaken (t + 1))
taken_now t (Some (Halted port)) octets few = All-nil (IsTaken (t + 1))

captured_taken : (t : ℕ) (es : List (Option Body)) (os : List (List ℕ)) (cs : List (List Taken)) → All AreFew os → All (AreTaken t) cs → All (AreTaken (t + 1)) (captured t es os cs)
captured_taken t [] os cs few h = All-nil (AreTaken (t + 1))
captured_taken t (e ∷ es) [] cs few h = All-nil (AreTaken (t + 1))
captured_taken t (e ∷ es) (o ∷ os) [] few h = All-nil (AreTaken (t + 1))
captured_taken t (e ∷ es) (o ∷ os) (c ∷ cs) few h =
    All-cons (AreTaken (t + 1)) (c ++ taken_by t e o) (captured t es os cs)
    (All-append (IsTaken (t + 1)) c (taken_by t e o) (later t c (All-head (AreTaken t) c cs h)) (taken_now t e o (All-head AreFew o os few)))
    (captured_taken t es os cs (All-tail AreFew o os few) (All-tail (AreTaken t) c cs h))

-- what stays so in a network
pub record Captures (n : Net) : Type 0 where
  pub bounded : All IsBounded n.receivers
  pub taken : All (AreTaken n.t) n.captures

pub captures_next : (n : Net) → Captures n → Captures (next n)
captures_next n h =
    let hs = stations_hear n in
    let es = stations_emit n in
    record {
      bounded = receivers_stay hs es n.receivers h.bounded;
      taken = captured_taken n.t (map (λ (o : Reception). o.event) (receptions_in n)) (map (λ (o : Reception). o.octets) (receptions_in n)) n.captures (octets_few hs es n.receivers h.bounded) h.taken;
    }

pub most_bounded : (tagged : Bool) → most_octets tagged ≤ most_octets_tagged
most_bounded true = omega arith
most_bounded false = omega arith

captures_hold : (plan : Plan) (t : ℕ) → Captures (net plan t)
captures_hold plan zero = record {
  bounded = All-map IsBounded (λ s. new_receiving s.lose (most_octets (eqb plan.layout.format 2))) plan.layout.stations (λ k d lt. most_bounded (eqb plan.layout.format 2));
  taken = All-map (AreTaken 0) (λ s. []) plan.layout.stations (λ k d lt. All-nil (IsTaken 0));
}
captures_hold plan (suc t) = captures_next (net plan t) (captures_hold plan t)

time_of : (plan : Plan) (t : ℕ) → (net plan t).t ≡ t
time_of plan zero = refl
time_of plan (suc t) = omega (arith, time_of plan t)

pub captures_taken : (plan : Plan) → All (AreTaken (half_bits plan)) (captures plan)
unfolding captures
captures_taken plan = subst (λ t. All (AreTaken t) (net plan (half_bits plan)).captures) (time_of plan (half_bits plan)) (captures_hold plan (half_bits plan)).taken

pub captures_before : (plan : Plan) → All (All (λ x. x.t < half_bits plan)) (captures plan)
captures_before plan = λ k d lt i e within. (captures_taken plan k d lt i e within).time

pub captures_are_short : (plan : Plan) → All AreShort (captures plan)
captures_are_short plan = λ k d lt i e within.
    let x = captures_taken plan k d lt i e within in
    record { few = x.few; time = omega (arith, x.time, (sound_of_plan plan).bits_most) }
