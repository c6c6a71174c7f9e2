-- The example of two near stations is a sound layout, and has a plan.
use Rattle.std.proofs.Common.{◌≡◌, ◌≢◌, ℕ, zero, suc, ◌<◌, ◌≤◌, true, List, [], ◌∷◌, length, refl, ap, inl, arith}
use Rattle.std.proofs.lemmas.List.Elements.{All-nil, All-cons}
use Rattle.frame_layout.specs.declared.queue.Ready.{Ready}
use Rattle.frame_layout.specs.Frame.{frame_of}
use Rattle.layout.specs.declared.lines.PortLine.{PortLine}
use Rattle.layout.specs.declared.lines.SegmentLine.{SegmentLine}
use Rattle.layout.specs.declared.lines.SendLine.{SendLine}
use Rattle.layout.specs.declared.lines.StationLine.{StationLine}
use Rattle.layout.specs.Joined.{is_joined, colours}
use Rattle.layout.specs.Networks.{parts_of, network_edges}
use Rattle.layout.specs.Sound.{IsName, IsSound, IsSoundStation, IsSoundSend, IsSoundRepeater, AreDifferent}
use Rattle.layout.specs.NameOctets.{is_name_octet}
use Rattle.load_plan.specs.Loads.{planned_queues, planned_skips, queue_of_load}
use Rattle.load_plan.specs.declared.plan.Plan.{Plan}
use Rattle.mac_parameters.specs.Parameters.{greatest_place}
use Rattle.overlap_exists.specs.DetectedCollisions.{near_station, sends_at_once, near_distance, near_example, no_loads}

-- names
letter : (c : ℕ) → is_name_octet c ≡ true → IsName (c ∷ [])
letter c e = record {
  least = omega arith;
  most = omega arith;
  octets = All-cons (λ x. is_name_octet x ≡ true) c [] e (All-nil (λ x. is_name_octet x ≡ true));
}

a_letter : is_name_octet 97 ≡ true
unfolding is_name_octet
a_letter = refl

b_letter : is_name_octet 98 ≡ true
unfolding is_name_octet
b_letter = refl

x_letter : is_name_octet 120 ≡ true
unfolding is_name_octet
x_letter = refl

-- one of one, and two of two
no_two : {X : Type 0} (x : X) → AreDifferent (x ∷ [])
no_two x i j d l m = absurd (omega arith)

two_differ : {X : Type 0} (x y : X) → x ≢ y → AreDifferent (x ∷ y ∷ [])
two_differ x y h zero zero d l m = absurd (omega arith)
two_differ x y h zero (suc zero) d l m = h
two_differ x y h zero (suc (suc j)) d l m = absurd (omega arith)
two_differ x y h (suc i) j d l m = absurd (omega arith)

heads : (x y : ℕ) (xs ys : List ℕ) → (x ∷ xs) ≡ (y ∷ ys) → x ≡ y
heads x y xs ys e = cc

joined : (s : ℕ) → s < 1 → is_joined (parts_of near_example) (network_edges near_example) 0 s ≡ true
unfolding is_joined colours
joined zero l = refl
joined (suc s) l = absurd (omega arith)

station_sound : (c at : ℕ) → is_name_octet c ≡ true → at ≤ greatest_place → IsSoundStation 1 1 (near_station c at)
station_sound c at e l = record { name = letter c e; segment = omega arith; at = l; load = tt; lose = omega arith; lose_of_one = λ _. refl }

send_sound : (k : ℕ) → k < 2 → IsSoundSend 1 2 (sends_at_once k)
send_sound k l = record { station = l; at = omega arith; least = omega arith; most = omega arith }

abbrev StationIsSound : StationLine → Type 0
StationIsSound s = IsSoundStation 1 1 s

abbrev SendIsSound : SendLine → Type 0
SendIsSound s = IsSoundSend 1 2 s

abbrev SegmentIsSound : SegmentLine → Type 0
SegmentIsSound s = IsName s.name

abbrev pub a_station : StationLine
a_station = near_station 97 0

abbrev pub b_station : StationLine
b_station = near_station 98 near_distance

abbrev x_segment : SegmentLine
x_segment = record { name = 120 ∷ [] }

pub near_example_sound : IsSound near_example
near_example_sound = record {
  format = inl refl;
  seed = omega arith;
  bits_least = omega arith;
  bits_most = omega arith;
  device_bits = omega arith;
  segments_least = omega arith;
  segments_most = omega arith;
  stations_most = omega arith;
  repeaters_most = omega arith;
  sends_most = omega arith;
  segments = All-cons SegmentIsSound x_segment [] (letter 120 x_letter) (All-nil SegmentIsSound);
  stations =
      All-cons StationIsSound a_station (b_station ∷ []) (station_sound 97 0 a_letter (omega arith))
      (All-cons StationIsSound b_station [] (station_sound 98 near_distance b_letter (omega arith)) (All-nil StationIsSound));
  repeaters = All-nil (IsSoundRepeater 1);
  sends =
      All-cons SendIsSound (sends_at_once 0) (sends_at_once 1 ∷ []) (send_sound 0 (omega arith))
      (All-cons SendIsSound (sends_at_once 1) [] (send_sound 1 (omega arith)) (All-nil SendIsSound));
  segment_names = no_two (120 ∷ []);
  device_names = two_differ (97 ∷ []) (98 ∷ []) (λ e. let n = heads 97 98 [] [] e in absurd (omega (arith, n)));
  taps =
      two_differ (record { segment = 0; at = 0 }) (record { segment = 0; at = near_distance })
      (λ e. let n : 0 ≡ near_distance = ap (λ (t : PortLine). t.at) e in absurd (omega (arith, n)));
  tree = record { loops = tt; joined = joined };
}

-- the queues
abbrev pub ready_of : ℕ → Ready
ready_of k = record { at = 0; frame = frame_of (sends_at_once k).octets }

pub queues_are : planned_queues near_example no_loads ≡ (ready_of 0 ∷ []) ∷ (ready_of 1 ∷ []) ∷ []
unfolding planned_queues queue_of_load
queues_are = refl

pub skips_many : length (planned_skips near_example no_loads) ≡ 2
unfolding planned_skips
skips_many = refl

unfoldable pub near_plan : Plan
near_plan = record {
  layout = near_example;
  queues = planned_queues near_example no_loads;
  skips = planned_skips near_example no_loads;
  queued = ap length queues_are;
  counted = skips_many;
  sound = ∣ near_example_sound ∣₁;
}
