-- A sender whose sending has ended either rests or backs off.
use Rattle.std.proofs.Common.{ℕ, ◌+◌, ◌*◌, Option, Some, None, eqb}
use Rattle.std.proofs.lemmas.Bool.{cond_both}
use Rattle.mac_parameters.specs.Parameters.{attempt_limit, slot_time}
use Rattle.backoff_draw.specs.Draws.{draw_of, drawn}
use Rattle.mac_transmit.specs.declared.phase.Phase.TheVariants.{Rest, Backoff}
use Rattle.mac_transmit.specs.Sender.{Sender, sending_ended}

-- what holds of it in both cases
pub ended_either : (P : Sender → Type 0) (s : Sender) (hit : Option ℕ) → P (record s { place = s.place + 1; phase = Rest; last_end = Some s.t })
    → P (record s {
      phase = Backoff (s.t + slot_time * draw_of s.draws.seed s.draws.station s.draws.made s.attempt);
      attempt = s.attempt + 1;
      draws = drawn s.draws;
      last_end = Some s.t;
    }) → P (sending_ended s hit)
ended_either P s None rests backs_off = rests
ended_either P s (Some hit) rests backs_off = cond_both (eqb s.attempt attempt_limit) _ _ P (λ _. rests) (λ _. backs_off)
