-- What a network captures that goes on from a state of a plan is short.
use Rattle.std.proofs.Common.{◌≡◌, ℕ, zero, suc, ◌+◌, ◌-◌, ◌≤◌, Bool, true, false, cond, eqb, ◌&&◌, List, [], ◌∷◌, ◌++◌, length, get_or, All, refl, sym, subst, arith}
use Rattle.std.specs.List.{range_with_len}
use Rattle.std.proofs.lemmas.Bool.{and_parts, eqb-true, leb-true}
use Rattle.std.proofs.lemmas.List.Elements.{All-cons, All-map, All-nil}
use Rattle.collision_log.specs.declared.row.Body.{Body}
use Rattle.collision_log.specs.declared.row.Body.TheVariants.{Sent, Collided, GivenUp, Cut, Received, Dropped, Clash, Closed, Opened, Halted}
use Rattle.collision_log.specs.declared.row.Row.{Row}
use Rattle.load_plan.proofs.PlansAreSound.{sound_of_plan}
use Rattle.load_plan.specs.declared.plan.Plan.{Plan}
use Rattle.mac_parameters.specs.Parameters.{most_octets, most_octets_tagged}
use Rattle.mac_receive.specs.Receiver.{new_receiving}
use Rattle.mac_transmit.specs.declared.state.SenderState.{SenderState}
use Rattle.network.specs.Net.{Net}
use Rattle.network.specs.Outputs.{half_bits}
use Rattle.network.specs.declared.outputs.Taken.{Taken}
use Rattle.quiet_state.specs.Resumed.{captures_from, end_net, later_net, net_of}
use Rattle.quiet_state.specs.declared.state.NetState.{NetState}
use Rattle.run_checkpoint.specs.Entries.{StateRow, captures_of_entries, is_length_of, is_reception, taken_by_station}
use Rattle.run_checkpoint.specs.Ranges.{is_body_in, is_row_in}
use Rattle.run_checkpoint.specs.States.{AreEntriesAfter, IsStateOfPlan, entries_of_state}
use Rattle.run_texts.proofs.ShortCaptures.{AreTaken, Captures, IsBounded, IsTaken, captures_next, most_bounded}
use Rattle.run_texts.specs.Captures.{AreShort}
use Rattle.resumed_runs.proofs.ResumedFrames.{IsIn, in_after}

-- so many half bits later
later_captures : (n : Net) (k : ℕ) → Captures n → Captures (later_net n k)
later_captures n zero h = h
later_captures n (suc k) h = captures_next (later_net n k) (later_captures n k h)

later_time : (n : Net) (k : ℕ) → (later_net n k).t ≡ n.t + k
later_time n zero = omega arith
later_time n (suc k) = omega (arith, later_time n k)

-- the octets of a frame that was received
body_few : (most frames ports : ℕ) (body : Body) (len : ℕ) → most ≤ most_octets_tagged → is_reception body ≡ true → is_body_in most frames ports body ≡ true → is_length_of body len ≡ true → len ≤ most_octets_tagged
body_few most frames ports (Received octets) len le there range many =
    let two = and_parts _ _ range in
    omega (arith, le, leb-true octets (most + 4) two.1, eqb-true (len + 4) octets many)
body_few most frames ports (Sent frame start attempt) len le there range many = absurd (cc)
body_few most frames ports (Collided frame start attempt hit drawn) len le there range many = absurd (cc)
body_few most frames ports (GivenUp frame start hit) len le there range many = absurd (cc)
body_few most frames ports (Cut frame start attempt hit) len le there range many = absurd (cc)
body_few most frames ports (Dropped why halves) len le there range many = absurd (cc)
body_few most frames ports Clash len le there range many = absurd (cc)
body_few most frames ports (Closed port) len le there range many = absurd (cc)
body_few most frames ports (Opened port) len le there range many = absurd (cc)
body_few most frames ports (Halted port) len le there range many = absurd (cc)

row_few : (plan : Plan) (row : Row) (len : ℕ) → is_reception row.body ≡ true → is_row_in plan row ≡ true → is_length_of row.body len ≡ true → len ≤ most_octets_tagged
unfolding is_row_in
row_few plan row len there range many = body_few (most_octets (eqb plan.layout.format 2)) _ _ row.body len (most_bounded (eqb plan.layout.format 2)) there range many

taken_if : (b : Bool) (t : ℕ) (x : Taken) (xs : List Taken) → (b ≡ true → IsTaken t x) → AreTaken t xs → AreTaken t (cond b (x ∷ xs) xs)
taken_if true t x xs one all = All-cons (IsTaken t) x xs (one refl) all
taken_if false t x xs one all = all

taken_few : (plan : Plan) (t : ℕ) (senders : List SenderState) (before : List Row) (k : ℕ) (es : List StateRow) → AreEntriesAfter plan t senders before es → AreTaken t (taken_by_station k es)
taken_few plan t senders before k [] h = All-nil (IsTaken t)
taken_few plan t senders before k (e ∷ es) h =
    let known : IsIn plan t e.row = in_after plan t senders before e.row h.0.after in
    taken_if (is_reception e.row.body && eqb e.row.device k) t (record { t = e.row.t; octets = e.octets }) (taken_by_station k es)
    (λ there. record { few = row_few plan e.row (length e.octets) (and_parts _ _ there).0 known.range h.0.length; time = known.time })
    (taken_few plan t senders (before ++ e.row ∷ []) k es h.1)

first_captures : (plan : Plan) (s : NetState) → IsStateOfPlan plan s → Captures (net_of plan s)
first_captures plan s h =
    let es = entries_of_state s in
    let taken : All (AreTaken s.t) (captures_of_entries (length plan.layout.stations) es) =
    All-map (AreTaken s.t) (λ k. taken_by_station k es) (range_with_len 0 (length plan.layout.stations)) (λ k d lt. taken_few plan s.t s.senders [] (get_or (range_with_len 0 (length plan.layout.stations)) k d) es h.entries) in
    record {
      bounded = All-map IsBounded (λ l. new_receiving l.lose (most_octets (eqb plan.layout.format 2))) plan.layout.stations (λ k d lt. most_bounded (eqb plan.layout.format 2));
      taken = subst (λ (cs : List (List Taken)). All (AreTaken s.t) cs) (sym h.captures) taken;
    }

-- what is captured can be written
pub resumed_captures_are_short : (plan : Plan) (s : NetState) → IsStateOfPlan plan s → All AreShort (captures_from plan s)
unfolding captures_from
resumed_captures_are_short plan s h = λ k d lt i e within.
    let n = end_net (half_bits plan) (net_of plan s) in
    let all = later_captures (net_of plan s) (half_bits plan - s.t) (first_captures plan s h) in
    let x = all.taken k d lt i e within in
    record { few = x.few; time = omega (arith, x.time, later_time (net_of plan s) (half_bits plan - s.t), h.time, (sound_of_plan plan).bits_most) }
