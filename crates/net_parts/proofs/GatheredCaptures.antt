-- The captures of a run are those of its segments' stations.
use Rattle.std.proofs.Common.{◌≡◌, ℕ, ◌<◌, true, ltb, List, [], map, length, get_or, refl, sym, ap, ◌∙◌, arith, subst, None}
use Rattle.std.proofs.lemmas.List.{length-map, get_or-map}
use Rattle.std.proofs.lemmas.Bool.Decides.{nat_tests}
use Rattle.layout.specs.declared.lines.PortLine.{PortLine}
use Rattle.layout.specs.declared.lines.StationLine.{StationLine}
use Rattle.layout.specs.Taps.{tap_of}
use Rattle.load_plan.specs.declared.plan.Plan.{Plan}
use Rattle.network.specs.declared.outputs.Taken.{Taken}
use Rattle.network.specs.Outputs.{captures, half_bits}
use Rattle.network.specs.TapsOnSegments.{numbers_on}
use Rattle.network.proofs.RunnablePlans.{runnable_plan}
use Rattle.network.proofs.TapsOnSegments.{number_at, count_below, length-numbers}
use Rattle.net_parts.specs.OutputsOfParts.{stations_of_kind, captures_of_part, tap_of_station, place_of_station}
use Rattle.net_parts.specs.PartLaws.{CapturesAreGathered}
use Rattle.net_parts.proofs.NetworkFacts.{station_facts}
use Rattle.net_parts.proofs.DeviceSteps as devices

less : (a b : ℕ) → a < b → ltb a b ≡ true
less a b h = grind (arith, nat_tests)

module _ (plan : Plan) where
  abbrev xs : List PortLine
  xs = map tap_of plan.layout.stations

  abbrev no_tap : PortLine
  no_tap = record { segment = 0; at = 0 }

  size : length xs ≡ length plan.layout.stations
  size = length-map plan.layout.stations tap_of

  on : (k : ℕ) → k < length plan.layout.stations → (tap_of_station plan k).segment < length plan.layout.segments
  on k h =
      let none : StationLine = record { name = []; segment = 0; at = 0; load = None; lose = 0 } in
      subst (λ (p : PortLine). p.segment < length plan.layout.segments) (sym (get_or-map tap_of plan.layout.stations k none no_tap h)) ((runnable_plan plan).stations_on k none h)

  many : length (captures plan) ≡ length plan.layout.stations
  unfolding captures
  many = devices.captures plan (station_facts plan) (half_bits plan)

  each : (k : ℕ) → k < length plan.layout.stations → get_or (captures_of_part plan (tap_of_station plan k).segment) (place_of_station plan k) [] ≡ get_or (captures plan) k []
  each k h =
      let s = (tap_of_station plan k).segment in
      let ks = numbers_on s 0 xs in
      let f = λ (j : ℕ). get_or (captures plan) j (let none : List Taken = [] in none) in
      let in_it : k < length xs = omega (arith, h, size) in
      let below = count_below s xs k no_tap in_it refl in
      let long = length-numbers s 0 xs in
      let within : place_of_station plan k < length ks = omega (arith, below, long) in
      let number : get_or ks (place_of_station plan k) 0 ≡ k = number_at s 0 xs k no_tap in_it refl ∙ omega arith in
      ap (λ b. get_or (map f (stations_of_kind plan b s)) (place_of_station plan k) []) (less s (length plan.layout.segments) (on k h))
      ∙ get_or-map f ks (place_of_station plan k) 0 [] within
      ∙ ap f number

pub captures_are_gathered : CapturesAreGathered
captures_are_gathered plan = record { many = many plan; segments = on plan; each = each plan }
