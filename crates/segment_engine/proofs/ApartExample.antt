-- An example of two stations that go on one by one: one at rest, which hears Idle from half bit 7 on, and one that
-- stands before half bit 9, with three half bits of a reception. Of two taps 3 half bits apart, the second emits one
-- signal, in half bit 1.
use Rattle.std.proofs.Common.{◌≡◌, ℕ, Bool, true, false, ◌≤◌, List, [], ◌∷◌, get_or, refl, sym, arith}
use Rattle.std.proofs.lemmas.Bool.{false≢true}
use Rattle.manchester_line.specs.declared.Sym.TheVariants.{Idle, Hi}
use Rattle.manchester_line.specs.Decoding.{new_decoding}
use Rattle.backoff_draw.specs.Draws.{Drawing}
use Rattle.load_plan.specs.declared.plan.Plan.{Plan}
use Rattle.mac_receive.specs.KeptReceiver.{KeptReception}
use Rattle.mac_transmit.specs.Sender.{Sender, new_sender}
use Rattle.tap_lines.specs.TapLines.{TapLine, no_line}
use Rattle.window_room.specs.Rooms.{Room}
use Rattle.segment_engine.specs.declared.apart.Watch.{Watch}
use Rattle.segment_engine.specs.StationsApart.{StandsBehind, IsStillBy, EndsAt, TellsUpTo, CoversApart, behind_demand, first_demands, lowered_watch}

abbrev watch : ℕ → ℕ → Bool → Watch
watch since until carrier = record { since = since; until = until; carrier = carrier; told = until }

abbrev resting : Drawing → ℕ → Sender
resting d t = record (new_sender [] d) { t = t }

abbrev kept : ℕ → ℕ → KeptReception
kept halves steps = record { lose = 0; most = 1500; deaf = false; halves = halves; decoder = new_decoding; steps = steps }

abbrev watches : List Watch
watches = watch 7 20 false ∷ watch 9 30 true ∷ []

abbrev senders : Drawing → List Sender
senders d = resting d 7 ∷ resting d 9 ∷ []

abbrev receivers : List KeptReception
receivers = kept 0 7 ∷ kept 3 9 ∷ []

abbrev room_for : ℕ → Room
room_for rows = record { rows = []; captures = [] ∷ [] ∷ []; row_room = rows; frame_room = 0; octet_room = 2; fresh_rows = 0; fresh_frames = 0 }

-- up to half bit 27 the first has 20 half bits to go, and so at most 10 rows; the other has 18, and at most 9
pub both_need : (d : Drawing) (w : Watch) (s : Sender) (k : KeptReception) →
    first_demands 2 (λ i. behind_demand 27 (get_or watches i w) (get_or (senders d) i s) (get_or receivers i k)) ≡ record { rows = 19; frames = 0; octets = 2 }
both_need d w s k = refl

pub enough : (d : Drawing) → CoversApart 27 2 watches (senders d) receivers (room_for 19)
enough d = λ w s k. record { for_rows = omega arith; for_frames = omega arith; for_octets = omega arith }

pub not_enough : (d : Drawing) → ¬ CoversApart 27 2 watches (senders d) receivers (room_for 18)
not_enough d covers = let few : 19 ≤ 18 = (covers (watch 0 0 false) (resting d 0) (kept 0 0)).for_rows in absurd (omega (arith, few))

-- a reception of the first can end in half bit 7, and not in a later one
pub can_end : (d : Drawing) → EndsAt 7 (watch 7 20 false) (resting d 7)
can_end d = record { now = refl; idle = refl; silent = refl }

pub not_later : (d : Drawing) → ¬ EndsAt 8 (watch 7 20 false) (resting d 7)
not_later d ends = let same : 7 ≡ 8 = ends.now in absurd (omega (arith, same))

-- with a reception under way it doesn't go over half bits of Idle
pub at_rest : (d : Drawing) → IsStillBy (watch 7 20 false) (resting d 7) (kept 0 7)
at_rest d = λ idle silent. refl

pub not_at_rest : (d : Drawing) → ¬ IsStillBy (watch 7 20 false) (resting d 7) (kept 3 7)
not_at_rest d still = let none : 3 ≡ 0 = still refl refl in absurd (omega (arith, none))

abbrev lines : List TapLine
lines =
    record { at = 0; delay = 20; backlog = 10; base = 0; symbols = []; room = 0 }
    ∷ record { at = 3; delay = 20; backlog = 10; base = 0; symbols = Idle ∷ Hi ∷ []; room = 0 } ∷ []

-- the first hears the other's signal in half bit 4, so that it doesn't stand behind over it
pub not_over_a_signal : (plan : Plan) (x t : ℕ) (s : Sender) (k : KeptReception) → ¬ StandsBehind plan x 0 20 t lines (watch 2 5 false) s k
not_over_a_signal plan x t s k stands = false≢true (sym (stands.steady 4 (omega arith) (omega arith)))

-- its own line has symbols for half bits 0 and 1 alone, and no room
pub tells : TellsUpTo 2 2 (get_or lines 1 no_line)
tells = record { begun = omega arith; takes = omega arith; fits = omega arith }

pub tells_no_more : ¬ TellsUpTo 2 3 (get_or lines 1 no_line)
tells_no_more tell = let room : 3 ≤ 2 = tell.takes in absurd (omega (arith, room))

-- a watch that goes no further than half bit 12, and one that goes nowhere
pub lowered_to : lowered_watch 12 (watch 7 20 false) ≡ record (watch 7 20 false) { until = 12 }
lowered_to = refl

pub lowered_to_begin : lowered_watch 3 (watch 7 20 false) ≡ record (watch 7 20 false) { until = 7 }
lowered_to_begin = refl
