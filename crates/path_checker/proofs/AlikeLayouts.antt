-- Layouts with the same stations and repeaters have the same walks, and a verdict within the slot time bounds them all.
use Rattle.std.proofs.Common.{◌≡◌, ◌≢◌, refl, sym, ◌∙◌, ap, ℕ, ◌+◌, ◌*◌, ◌<◌, ◌≤◌, List, [], ◌∷◌, Option, arith}
use Rattle.std.specs.Option.{option_map, unwrap_or}
use Rattle.mac_parameters.specs.Parameters.{slot_time, interframe_gap}
use Rattle.layout.specs.declared.lines.Layout.{Layout}
use Rattle.layout.specs.declared.lines.PortLine.{PortLine}
use Rattle.layout.specs.declared.ways.Attachment.{Attachment}
use Rattle.layout.specs.declared.ways.Attachment.TheVariants.{Station, Port}
use Rattle.layout.specs.declared.ways.Way.{Way}
use Rattle.layout.specs.declared.ways.Way.TheVariants as way
use Rattle.layout.specs.Paths.{place, part_by, IsStep, other_way, IsWalk, at_of, delay_of, step_length, walk_length, Path, IsPath, length_of}
use Rattle.mac_parameters.specs.Distances.{distance}
use Rattle.network.specs.Signals.{CablesCarry, RepeatersRepeat, StationAttemptsAreLawful}
use Rattle.path_checker.specs.declared.verdict.PathVerdict.{PathVerdict}
use Rattle.path_checker.specs.declared.verdict.PathVerdict.TheVariants.{Within, Over, NoPair}
use Rattle.path_checker.specs.Propagation.{IsKept}
use Rattle.path_checker.specs.Verdicts.{IsRoundTrip, IsVerdict}
use Rattle.path_checker.proofs.OverlapsAreHit.{both_detected}

module _ (m l : Layout) (stations : m.stations ≡ l.stations) (repeaters : m.repeaters ≡ l.repeaters) where
  same_place : (t : Attachment) → place m t ≡ place l t
  same_place (Station k) = rw stations refl
  same_place (Port r p) = rw repeaters refl

  same_at : (t : Attachment) → at_of m t ≡ at_of l t
  same_at t = ap (λ (p : Option PortLine). unwrap_or (option_map (λ (x : PortLine). x.at) p) 0) (same_place t)

  same_delay : (t : Attachment) → delay_of m t ≡ delay_of l t
  same_delay (Station k) = refl
  same_delay (Port r p) = rw repeaters refl

  same_part : (w : Way) (t : Attachment) → part_by m w t ≡ part_by l w t
  same_part way.Cable t = ap (λ (p : Option PortLine). option_map (λ (x : PortLine). x.segment) p) (same_place t)
  same_part way.Repeater (Station k) = refl
  same_part way.Repeater (Port r p) = ap (λ (q : Option PortLine). option_map (λ (x : PortLine). r) q) (same_place (Port r p))

  same_step : (w : Way) (a b : Attachment) → IsStep m w a b → IsStep l w a b
  same_step w a b s = record { different = s.different; part = s.part; from = sym (same_part w a) ∙ s.from; to = sym (same_part w b) ∙ s.to }

  same_length : (w : Way) (a b : Attachment) → step_length m w a b ≡ step_length l w a b
  same_length way.Cable a b = ap (λ (x : ℕ). distance x (at_of m b)) (same_at a) ∙ ap (λ (y : ℕ). distance (at_of l a) y) (same_at b)
  same_length way.Repeater a b = same_delay a

  same_walk : (w : Way) (a : Attachment) (ts : List Attachment) (b : Attachment) → IsWalk m w a ts b → IsWalk l w a ts b
  same_walk w a [] b walk = walk
  same_walk w a (t ∷ ts) b walk = (same_step w a t walk.0, same_walk (other_way w) t ts b walk.1)

  same_sum : (w : Way) (a : Attachment) (ts : List Attachment) → walk_length l w a ts ≡ walk_length m w a ts
  same_sum w a [] = refl
  same_sum w a (t ∷ ts) =
      ap (λ (x : ℕ). x + walk_length l (other_way w) t ts) (sym (same_length w a t)) ∙ ap (λ (y : ℕ). step_length m w a t + y) (same_sum (other_way w) t ts)

  -- no round trip in m is greater than the worst of l
  path_below :
      (worst a b : ℕ) → ((x y rt : ℕ) → x ≢ y → IsRoundTrip l x y rt → rt ≤ worst) → a ≢ b
      → (path : Path) → IsPath m (Station a) path (Station b) → 2 * length_of m (Station a) path + interframe_gap ≤ worst
  path_below worst a b greatest ne path leads =
      greatest a b (2 * length_of m (Station a) path + interframe_gap) ne
      record {
        distance = length_of m (Station a) path;
        apart = record { path = path; leads = same_walk path.begins (Station a) path.taps (Station b) leads; long = same_sum path.begins (Station a) path.taps };
        sum = refl;
      }

below_slot : (n worst : ℕ) → n ≤ worst → worst < slot_time → n < slot_time
below_slot n worst l m = omega arith

-- A verdict keeps what it promises.
pub is_kept : CablesCarry → RepeatersRepeat → StationAttemptsAreLawful → (l : Layout) (v : PathVerdict) → IsVerdict l v → IsKept l v
is_kept carries repeats lawful l (Within worst u v) verdict = λ plan net a b x y h.
    both_detected carries repeats lawful plan net.frames a b x y h
    (below_slot (2 * length_of plan.layout (Station a) h.path + interframe_gap) worst
    (path_below plan.layout l net.stations net.repeaters worst a b verdict.0.greatest h.different h.path h.leads) verdict.1)
is_kept carries repeats lawful l (Over worst u v) verdict = tt
is_kept carries repeats lawful l NoPair verdict = tt
