-- Room that is enough stays so.
use Rattle.std.proofs.Common.{◌≡◌, ℕ, suc, ◌+◌, ◌*◌, ◌/◌, ◌<◌, ◌≤◌, Bool, Option, Some, None, List, [], ◌∷◌, length, refl, ◌∙◌, arith, suc-mul, All}
use Rattle.std.specs.Prelude.{min}
use Rattle.mac_parameters.specs.Parameters.{check_sequence, half_bits_an_octet, least_frame}
use Rattle.window_room.specs.Receptions.{least_reception}
use Rattle.std.proofs.Math.Nat.{min-le_left}
use Rattle.manchester_line.specs.declared.Sym.{Sym}
use Rattle.collision_log.specs.declared.row.Body.{Body}
use Rattle.collision_log.specs.declared.row.Body.TheVariants.{Sent, Collided, GivenUp, Cut, Received, Dropped, Closed, Opened, Halted}
use Rattle.collision_log.specs.declared.row.Body.TheVariants as body
use Rattle.mac_receive.specs.Receiver.{Receiving, receiver_step}
use Rattle.mac_parameters.specs.Parameters.{preamble_length}
use Rattle.mac_receive.specs.KeptReceiver.{KeptReception}
use Rattle.mac_transmit.specs.Sender.{Sender, sender_step}
use Rattle.window_room.specs.NeededRoom.{Demand, IsDemandWithin, both_demands, event_demand, row_demand, reception_demand, receiver_demand, sender_demand, window_demand, station_demand, stations_demand, demand_times}
use Rattle.window_room.specs.Sendings.{elapsed}
use Rattle.window_room.proofs.SendingBounds.{StepsOn, steps_on}
use Rattle.window_room.proofs.ReceptionSteps as step

-- what an event weighs and the half bits after it are no more than the half bits before it and one
record Pays (most h after : ℕ) (e : Option Body) : Type 0 where
  rows : 2 * (event_demand e).rows + min 1 after ≤ min 1 h + 1
  frames : suc least_reception * (event_demand e).frames + min least_reception after ≤ min least_reception h + 1
  octets : half_bits_an_octet * (event_demand e).octets + min (half_bits_an_octet * (most + check_sequence)) after ≤ min (half_bits_an_octet * (most + check_sequence)) h + 1

goes_on : (k h after : ℕ) → after ≤ h + 1 → min k after ≤ min k h + 1
goes_on k h after l = grind (arith, l)

pays_frame : (most h after k : ℕ) → after ≡ 0 → step.FrameFits h most k → Pays most h after (Some (Received k))
pays_frame most h after k none f =
    let least : least_frame ≤ k = f.least in
    let few : k ≤ most + check_sequence = f.few in
    let halves : 16 * k + 4 ≤ h = f.halves in
    record { rows = grind (arith, least, halves, none); frames = grind (arith, least, halves, none); octets = grind (arith, few, halves, none) }

pays_row : (most h after : ℕ) → 0 < h → after ≡ 0 → (2 + min 1 after ≤ min 1 h + 1) × (min least_reception after ≤ min least_reception h + 1) × (min (half_bits_an_octet * (most + check_sequence)) after ≤ min (half_bits_an_octet * (most + check_sequence)) h + 1)
pays_row most h after some none = (grind (arith, some, none), goes_on least_reception h after (omega (arith, none)), goes_on (half_bits_an_octet * (most + check_sequence)) h after (omega (arith, none)))

pays_end : (most h after : ℕ) (b : Body) → 0 < h → after ≡ 0 → step.RowFits h most b → Pays most h after (Some b)
pays_end most h after (Sent f s a) some none fit = let r = pays_row most h after some none in record { rows = r.0; frames = omega (arith, r.1); octets = omega (arith, r.2) }
pays_end most h after (Collided f s a h' d) some none fit = let r = pays_row most h after some none in record { rows = r.0; frames = omega (arith, r.1); octets = omega (arith, r.2) }
pays_end most h after (GivenUp f s h') some none fit = let r = pays_row most h after some none in record { rows = r.0; frames = omega (arith, r.1); octets = omega (arith, r.2) }
pays_end most h after (Cut f s a h') some none fit = let r = pays_row most h after some none in record { rows = r.0; frames = omega (arith, r.1); octets = omega (arith, r.2) }
pays_end most h after (Received k) some none f = pays_frame most h after k none f
pays_end most h after (Dropped y h') some none fit = let r = pays_row most h after some none in record { rows = r.0; frames = omega (arith, r.1); octets = omega (arith, r.2) }
pays_end most h after body.Clash some none fit = let r = pays_row most h after some none in record { rows = r.0; frames = omega (arith, r.1); octets = omega (arith, r.2) }
pays_end most h after (Closed p) some none fit = let r = pays_row most h after some none in record { rows = r.0; frames = omega (arith, r.1); octets = omega (arith, r.2) }
pays_end most h after (Opened p) some none fit = let r = pays_row most h after some none in record { rows = r.0; frames = omega (arith, r.1); octets = omega (arith, r.2) }
pays_end most h after (Halted p) some none fit = let r = pays_row most h after some none in record { rows = r.0; frames = omega (arith, r.1); octets = omega (arith, r.2) }

pays_step : (most h after : ℕ) (e : Option Body) → step.Steps h most after e → Pays most h after e
pays_step most h after None s = record { rows = omega (arith, goes_on 1 h after s); frames = omega (arith, goes_on least_reception h after s); octets = omega (arith, goes_on (half_bits_an_octet * (most + check_sequence)) h after s) }
pays_step most h after (Some b) s = pays_end most h after b s.some s.none_left s.fits

pays : (r : Receiving) (heard : Sym) (sending : Bool) → Pays r.most (length r.halves) (length (receiver_step r heard sending).state.halves) (receiver_step r heard sending).event
pays r heard sending = pays_step r.most (length r.halves) (length (receiver_step r heard sending).state.halves) (receiver_step r heard sending).event (step.steps r heard sending).1

pub any : (most h n : ℕ) → IsDemandWithin (reception_demand most h n) (window_demand most n)
any most h n = record {
  fewer_rows = omega (arith, min-le_left 1 h);
  fewer_frames = omega (arith, min-le_left least_reception h);
  fewer_octets = omega (arith, min-le_left (half_bits_an_octet * (most + check_sequence)) h);
}

paid_of : (most h after n : ℕ) (e : Option Body) → Pays most h after e → IsDemandWithin (both_demands (reception_demand most after n) (event_demand e)) (reception_demand most h (suc n))
paid_of most h after n e p = record {
  fewer_rows = omega (arith, p.rows);
  fewer_frames = omega (arith, p.frames);
  fewer_octets = omega (arith, p.octets);
}

pub paid : (r : Receiving) (heard : Sym) (sending : Bool) (n : ℕ)
    → IsDemandWithin (both_demands (reception_demand r.most (length (receiver_step r heard sending).state.halves) n) (event_demand (receiver_step r heard sending).event)) (reception_demand r.most (length r.halves) (suc n))
paid r heard sending n = paid_of r.most (length r.halves) (length (receiver_step r heard sending).state.halves) n (receiver_step r heard sending).event (pays r heard sending)

sent_paid : (before after n : ℕ) (e : Option Body) (s s' : Sender) → elapsed s.t s.phase ≡ before → elapsed s'.t s'.phase ≡ after → StepsOn s s' e → IsDemandWithin (both_demands (sender_demand n s') (row_demand e)) (sender_demand (suc n) s)
sent_paid before after n None s s' b a k =
    let more : after ≤ before + 1 = omega (arith, k, a, b) in
    let rows : min preamble_length (elapsed s'.t s'.phase) ≤ min preamble_length (elapsed s.t s.phase) + 1 = goes_on preamble_length (elapsed s.t s.phase) (elapsed s'.t s'.phase) (omega (arith, more, a, b)) in
    record { fewer_rows = omega (arith, rows); fewer_frames = omega arith; fewer_octets = omega arith }
sent_paid before after n (Some body) s s' b a k =
    let rows : preamble_length + min preamble_length (elapsed s'.t s'.phase) ≤ min preamble_length (elapsed s.t s.phase) + 1 = grind (arith, k.0, k.1) in
    record { fewer_rows = omega (arith, rows); fewer_frames = omega arith; fewer_octets = omega arith }

pub sendings_paid : (s : Sender) (heard : Sym) (n : ℕ) → IsDemandWithin (both_demands (sender_demand n (sender_step s heard).state) (row_demand (sender_step s heard).event)) (sender_demand (suc n) s)
sendings_paid s heard n = sent_paid (elapsed s.t s.phase) (elapsed (sender_step s heard).state.t (sender_step s heard).state.phase) n (sender_step s heard).event s (sender_step s heard).state refl refl (steps_on s heard)

pub any_sender : (s : Sender) (n : ℕ) → (sender_demand n s).rows ≤ 1 + n / preamble_length
any_sender s n = omega (arith, min-le_left preamble_length (elapsed s.t s.phase))

suc-mul' : (n m : ℕ) → suc n * m ≡ m + n * m
suc-mul' n m = suc-mul n m ∙ omega arith

any_station : (s : Sender) (k : KeptReception) (n most : ℕ) → k.most ≡ most → IsDemandWithin (both_demands (sender_demand n s) (receiver_demand n k)) (station_demand most n)
any_station s k n most e =
    let a : IsDemandWithin (reception_demand k.most k.halves n) (window_demand k.most n) = any k.most k.halves n in
    record {
      fewer_rows = omega (arith, a.fewer_rows, any_sender s n);
      fewer_frames = omega (arith, a.fewer_frames);
      fewer_octets = omega (arith, a.fewer_octets, e);
    }

add_within : (a b c d : Demand) (m : ℕ) → IsDemandWithin a c → IsDemandWithin b (demand_times m c) → demand_times (suc m) c ≡ d → IsDemandWithin (both_demands a b) (demand_times (suc m) c)
add_within a b c d m x y e = record {
  fewer_rows = omega (arith, x.fewer_rows, y.fewer_rows, suc-mul' m c.rows);
  fewer_frames = omega (arith, x.fewer_frames, y.fewer_frames, suc-mul' m c.frames);
  fewer_octets = omega (arith, x.fewer_octets, y.fewer_octets, suc-mul' m c.octets);
}

pub any_stations : (ss : List Sender) (ks : List KeptReception) (n most : ℕ) → All (λ k. k.most ≡ most) ks → IsDemandWithin (stations_demand n ss ks) (demand_times (length ks) (station_demand most n))
any_stations [] ks n most all = record { fewer_rows = omega arith; fewer_frames = omega arith; fewer_octets = omega arith }
any_stations (s ∷ ss) [] n most all = record { fewer_rows = omega arith; fewer_frames = omega arith; fewer_octets = omega arith }
any_stations (s ∷ ss) (k ∷ ks) n most all =
    add_within (both_demands (sender_demand n s) (receiver_demand n k)) (stations_demand n ss ks) (station_demand most n) (demand_times (suc (length ks)) (station_demand most n)) (length ks)
    (any_station s k n most (all 0 k (omega arith))) (any_stations ss ks n most (λ i d p. all (suc i) d (omega (arith, p)))) refl
