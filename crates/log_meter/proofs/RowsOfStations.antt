-- What a station does in a half bit of a run has numbers in range.
use Rattle.std.proofs.Common.{◌≡◌, ℕ, suc, ◌+◌, ◌-◌, ◌*◌, ◌^◌, ◌<◌, ◌≤◌, Bool, true, false, eqb, Option, Some, None, List, [], ◌∷◌, ◌++◌, length, length-append, length-drop, refl, arith}
use Rattle.std.specs.Prelude.{IfSome, ⊤, if◌then◌else◌, nat_lt}
use Rattle.std.specs.Option.{option_map}
use Rattle.mac_parameters.specs.Parameters.{attempt_limit, shortest_line_text, most_half_bits}
use Rattle.manchester_line.specs.declared.Sym.{Sym}
use Rattle.manchester_line.specs.declared.Sym.TheVariants.{Idle, Hi, Lo, Clash}
use Rattle.manchester_line.specs.Line.{is_signal}
use Rattle.manchester_line.specs.Reading.{add_bit, after_delimiter, bit_of_pair, bits_of, octets_of_bits, reading, spare_of_bits}
use Rattle.frame_layout.specs.Frame.{verdict_of}
use Rattle.frame_layout.specs.declared.verdict.Verdict.{Verdict}
use Rattle.frame_layout.specs.declared.verdict.Verdict.TheVariants.{Good, Fragment, TooLong, FcsError, AlignError}
use Rattle.collision_log.specs.declared.row.Body.{Body}
use Rattle.collision_log.specs.declared.row.Body.TheVariants.{Dropped}
use Rattle.collision_log.specs.declared.row.Why.TheVariants as why
use Rattle.mac_transmit.specs.declared.phase.Phase.{Phase}
use Rattle.mac_transmit.specs.declared.phase.Phase.TheVariants.{Rest, Waiting, Sending, Backoff}
use Rattle.mac_transmit.specs.Sender.{Sender, before_emission, cut_from, cut_of, deferring, emitting, end_event, event_from, finished, finished_from, has_ended, hit_at, is_free, phase_after, phase_started, promoted, promoted_from, sender_step, sending_ended, sending_started}
use Rattle.mac_transmit.proofs.SenderInvariant.{choose, draw_below}
use Rattle.mac_receive.specs.Receiver.{Receiving, Reception, extended, judged_row, left_halves, quiet, reading_row, receiver_step, reception_ended}
use Rattle.log_meter.specs.Lines.{IsInRange, IsLogNumber, is_of_repeater}

-- what happens to a station in half bit t, with numbers in range
pub record IsStationBody (t : ℕ) (body : Body) : Type 0 where
  pub kind : is_of_repeater body ≡ false
  pub numbers : IsInRange t body

-- ---- senders

-- a sending under way began no later than half bit t, and so did its hit
abbrev pub HasBegun : ℕ → Phase → Type 0
HasBegun t (Sending start hit) = (start ≤ t) × IfSome hit (λ h. h ≤ t)
HasBegun t _ = ⊤

-- a sender before half bit t: at most one frame was done with in each half bit
pub record IsSenderBefore (t : ℕ) (s : Sender) : Type 0 where
  pub time : s.t ≡ t
  pub place : s.place ≤ t
  pub attempt : s.attempt ≤ attempt_limit
  pub begun : HasBegun t s.phase

-- a sender in half bit t
record IsSenderIn (t : ℕ) (s : Sender) : Type 0 where
  time : s.t ≡ t
  place : s.place ≤ t + 1
  attempt : s.attempt ≤ attempt_limit
  begun : HasBegun t s.phase

nothing_yet : (t : ℕ) (s : Sender) → IsSenderBefore t s → IsSenderIn t s
nothing_yet t s h = record { time = h.time; place = omega (arith, h.place); attempt = h.attempt; begun = h.begun }

one_more : (n : ℕ) → n ≤ attempt_limit → eqb n attempt_limit ≡ false → n + 1 ≤ attempt_limit
one_more n h e = grind arith

ended : (t : ℕ) (s : Sender) (hit : Option ℕ) → IsSenderBefore t s → IsSenderIn t (sending_ended s hit)
ended t s None h = record { time = h.time; place = omega (arith, h.place); attempt = h.attempt; begun = tt }
ended t s (Some hit) h =
    choose (IsSenderIn t) (eqb s.attempt attempt_limit) _ _
    (λ _. record { time = h.time; place = omega (arith, h.place); attempt = h.attempt; begun = tt })
    (λ e. record { time = h.time; place = omega (arith, h.place); attempt = one_more s.attempt h.attempt e; begun = tt })

finished_in : (t : ℕ) (s : Sender) (p : Phase) → IsSenderBefore t s → IsSenderIn t (finished_from s p)
finished_in t s Rest h = nothing_yet t s h
finished_in t s Waiting h = nothing_yet t s h
finished_in t s (Backoff until) h = nothing_yet t s h
finished_in t s (Sending start hit) h =
    choose (IsSenderIn t) (has_ended s start hit) (sending_ended s hit) s (λ _. ended t s hit h) (λ _. nothing_yet t s h)

waits : (t : ℕ) (s : Sender) (attempt : ℕ) → attempt ≤ attempt_limit → IsSenderIn t s → IsSenderIn t (record s { phase = Waiting; attempt = attempt })
waits t s attempt few h = record { time = h.time; place = h.place; attempt = few; begun = tt }

promoted_in : (t : ℕ) (s : Sender) (p : Phase) → IsSenderIn t s → IsSenderIn t (promoted_from s p)
promoted_in t s Rest h = choose (IsSenderIn t) _ _ s (λ _. waits t s 1 (omega arith) h) (λ _. h)
promoted_in t s Waiting h = h
promoted_in t s (Sending start hit) h = h
promoted_in t s (Backoff until) h = choose (IsSenderIn t) _ _ s (λ _. waits t s s.attempt h.attempt h) (λ _. h)

deferring_in : (t : ℕ) (s : Sender) (c : Bool) → IsSenderIn t s → IsSenderIn t (deferring s c)
unfolding deferring
deferring_in t s c h = record { time = h.time; place = h.place; attempt = h.attempt; begun = h.begun }

starts : (t u : ℕ) (p : Phase) (free : Bool) → u ≡ t → HasBegun t p → HasBegun t (phase_started u p free)
starts t u Waiting true e h = (omega (arith, e), tt)
starts t u Waiting false e h = h
starts t u Rest free e h = h
starts t u (Sending start hit) free e h = h
starts t u (Backoff until) free e h = h

started_in : (t : ℕ) (s : Sender) (free : Bool) → IsSenderIn t s → IsSenderIn t (sending_started s free)
unfolding sending_started
started_in t s free h = record { time = h.time; place = h.place; attempt = h.attempt; begun = starts t s.t s.phase free h.time h.begun }

hit_begun : (t u start : ℕ) (hit : Option ℕ) (c : Bool) → u ≡ t → IfSome hit (λ h. h ≤ t) → IfSome (hit_at hit c (u - start)) (λ h. h ≤ t + 1)
hit_begun t u start None true e h = omega (arith, e)
hit_begun t u start None false e h = tt
hit_begun t u start (Some n) true e h = omega (arith, h)
hit_begun t u start (Some n) false e h = omega (arith, h)

goes_on : (t u : ℕ) (p : Phase) (c : Bool) → u ≡ t → HasBegun t p → HasBegun (t + 1) (phase_after u p c)
goes_on t u (Sending start hit) c e h = (omega (arith, h.0), hit_begun t u start hit c e h.1)
goes_on t u Rest c e h = tt
goes_on t u Waiting c e h = tt
goes_on t u (Backoff until) c e h = tt

emitted_after : (t : ℕ) (s : Sender) (c : Bool) → IsSenderIn t s → IsSenderBefore (t + 1) (emitting s c)
unfolding emitting
emitted_after t s c h = record { time = omega (arith, h.time); place = h.place; attempt = h.attempt; begun = goes_on t s.t s.phase c h.time h.begun }

turned_in : (t : ℕ) (s : Sender) (c : Bool) → IsSenderBefore t s → IsSenderIn t (before_emission s c)
unfolding finished promoted
turned_in t s c h =
    let f : IsSenderIn t (finished s) = finished_in t s s.phase h in
    let p : IsSenderIn t (promoted (finished s)) = promoted_in t (finished s) (finished s).phase f in
    started_in t (deferring (promoted (finished s)) c) (is_free (promoted (finished s)) c) (deferring_in t (promoted (finished s)) c p)

pub sender_goes_on : (t : ℕ) (s : Sender) (heard : Sym) → IsSenderBefore t s → IsSenderBefore (t + 1) (sender_step s heard).state
unfolding sender_step
sender_goes_on t s heard h = emitted_after t (before_emission s (is_signal heard)) (is_signal heard) (turned_in t s (is_signal heard) h)

end_in_range : (t : ℕ) (s : Sender) (start : ℕ) (hit : Option ℕ) → t ≤ most_half_bits → IsSenderBefore t s → start ≤ t → IfSome hit (λ h. h ≤ t) → IsStationBody t (end_event s start hit)
end_in_range t s start None late h began hits = record { kind = refl; numbers = (omega (arith, late, h.place), began, omega (arith, h.attempt)) }
end_in_range t s start (Some hit) late h began hits =
    choose (IsStationBody t) (eqb s.attempt attempt_limit) _ _
    (λ _. record { kind = refl; numbers = (omega (arith, late, h.place), began, omega (arith, late, hits)) })
    (λ _. record { kind = refl; numbers = (omega (arith, late, h.place), began, omega (arith, h.attempt), omega (arith, late, hits), omega (arith, draw_below s.draws.seed s.draws.station s.draws.made s.attempt)) })

event_in_range : (t : ℕ) (s : Sender) (p : Phase) → t ≤ most_half_bits → IsSenderBefore t s → HasBegun t p → IfSome (event_from s p) (IsStationBody t)
unfolding event_from
event_in_range t s Rest late h began = tt
event_in_range t s Waiting late h began = tt
event_in_range t s (Backoff until) late h began = tt
event_in_range t s (Sending start hit) late h began =
    choose (λ (e : Option Body). IfSome e (IsStationBody t)) (has_ended s start hit) (Some (end_event s start hit)) None
    (λ _. end_in_range t s start hit late h began.0 began.1) (λ _. tt)

pub sender_in_range : (t : ℕ) (s : Sender) (heard : Sym) → t ≤ most_half_bits → IsSenderBefore t s → IfSome (sender_step s heard).event (IsStationBody t)
unfolding sender_step
sender_in_range t s heard late h = event_in_range t s s.phase late h h.begun

hit_in_range : (t : ℕ) (hit : Option ℕ) → t ≤ most_half_bits → IfSome hit (λ h. h ≤ t) → IfSome hit IsLogNumber
hit_in_range t None late h = tt
hit_in_range t (Some n) late h = omega (arith, late, h)

cut_in : (t : ℕ) (s : Sender) (p : Phase) → t ≤ most_half_bits → IsSenderBefore t s → HasBegun t p → IfSome (cut_from s p) (IsStationBody t)
cut_in t s Rest late h began = tt
cut_in t s Waiting late h began = tt
cut_in t s (Backoff until) late h began = tt
cut_in t s (Sending start hit) late h began =
    record { kind = refl; numbers = (omega (arith, late, h.place), began.0, omega (arith, h.attempt), hit_in_range t hit late began.1) }

pub cut_in_range : (t : ℕ) (s : Sender) → t ≤ most_half_bits → IsSenderBefore t s → IfSome (cut_of s) (IsStationBody t)
unfolding cut_of
cut_in_range t s late h = cut_in t s s.phase late h h.begun

-- ---- receivers

-- a receiver before half bit t: a reception has at most one symbol from each half bit
abbrev pub IsReceiverBefore : ℕ → Receiving → Type 0
IsReceiverBefore t r = length r.halves ≤ t

add_short : (o : Option Bool) (p : Option (List Bool)) (n : ℕ) → IfSome p (λ bs. length bs ≤ n) → IfSome (add_bit o p) (λ bs. length bs ≤ n + 1)
add_short None p n h = tt
add_short (Some b) None n h = tt
add_short (Some b) (Some bs) n h = omega (arith, h)

longer : (p : Option (List Bool)) (n m : ℕ) → n ≤ m → IfSome p (λ bs. length bs ≤ n) → IfSome p (λ bs. length bs ≤ m)
longer None n m le h = tt
longer (Some bs) n m le h = omega (arith, le, h)

bits_short : (xs : List Sym) → IfSome (bits_of xs) (λ bs. length bs ≤ length xs)
bits_short [] = omega arith
bits_short (a ∷ []) = tt
bits_short (a ∷ b ∷ rest) =
    longer (add_bit (bit_of_pair a b) (bits_of rest)) (length rest + 1) (suc (suc (length rest))) (omega arith)
    (add_short (bit_of_pair a b) (bits_of rest) (length rest) (bits_short rest))

after_short : (last : Bool) (bs : List Bool) → length (after_delimiter last bs) ≤ length bs
after_short true [] = omega arith
after_short false [] = omega arith
after_short true (true ∷ bs) = omega arith
after_short true (false ∷ bs) = omega (arith, after_short false bs)
after_short false (true ∷ bs) = omega (arith, after_short true bs)
after_short false (false ∷ bs) = omega (arith, after_short false bs)

read_short : (o : Option (List Bool)) (n : ℕ) → IfSome o (λ bs. length bs ≤ n) → IfSome (option_map (after_delimiter false) o) (λ bs. length bs ≤ n)
read_short None n h = tt
read_short (Some bs) n h = omega (arith, h, after_short false bs)

octets_short : (bs : List Bool) → length (octets_of_bits bs) ≤ length bs
octets_short [] = omega arith
octets_short (a ∷ []) = omega arith
octets_short (a ∷ b ∷ []) = omega arith
octets_short (a ∷ b ∷ c ∷ []) = omega arith
octets_short (a ∷ b ∷ c ∷ d ∷ []) = omega arith
octets_short (a ∷ b ∷ c ∷ d ∷ e ∷ []) = omega arith
octets_short (a ∷ b ∷ c ∷ d ∷ e ∷ f ∷ []) = omega arith
octets_short (a ∷ b ∷ c ∷ d ∷ e ∷ f ∷ g ∷ []) = omega arith
octets_short (a ∷ b ∷ c ∷ d ∷ e ∷ f ∷ g ∷ h ∷ rest) = let ih : length (octets_of_bits rest) ≤ length rest = octets_short rest in omega (arith, ih)

judged_in_range : (t : ℕ) (v : Verdict) (octets halves : ℕ) → octets < 2 ^ 32 → halves < 2 ^ 32 → IsStationBody t (judged_row v octets halves)
judged_in_range t Good octets halves few short = record { kind = refl; numbers = few }
judged_in_range t Fragment octets halves few short = record { kind = refl; numbers = short }
judged_in_range t TooLong octets halves few short = record { kind = refl; numbers = short }
judged_in_range t FcsError octets halves few short = record { kind = refl; numbers = short }
judged_in_range t AlignError octets halves few short = record { kind = refl; numbers = short }

reading_in_range : (t : ℕ) (o : Option (List Bool)) (most halves : ℕ) → halves < 2 ^ 32 → IfSome o (λ bs. length bs ≤ halves) → IsStationBody t (reading_row o most halves)
reading_in_range t None most halves short h =
    choose (IsStationBody t) (nat_lt halves shortest_line_text) (Dropped why.Fragment halves) (Dropped why.Damaged halves)
    (λ _. record { kind = refl; numbers = short }) (λ _. record { kind = refl; numbers = short })
reading_in_range t (Some bits) most halves short h =
    judged_in_range t (verdict_of (octets_of_bits bits) (spare_of_bits bits) most) (length (octets_of_bits bits)) halves
    (omega (arith, octets_short bits, h, short)) short

end_of_reception : (t : ℕ) (r : Receiving) (halves : List Sym) → t ≤ most_half_bits → length halves ≤ t → IfSome (reception_ended r halves).event (IsStationBody t)
end_of_reception t r [] late h = tt
end_of_reception t r (s ∷ ss) late h =
    let left = left_halves r.lose (s ∷ ss) in
    let cut : length left ≤ length (s ∷ ss) = omega (arith, length-drop (2 * r.lose) (s ∷ ss)) in
    reading_in_range t (reading left) r.most (length (s ∷ ss)) (omega (arith, late, h))
    (longer (reading left) (length left) (length (s ∷ ss)) cut (read_short (bits_of left) (length left) (bits_short left)))

after_reception : (t : ℕ) (r : Receiving) (halves : List Sym) → IsReceiverBefore t r → IsReceiverBefore (t + 1) (reception_ended r halves).state
after_reception t r [] h = omega (arith, h)
after_reception t r (s ∷ ss) h = omega arith

heard_more : (t : ℕ) (r : Receiving) (s : Sym) → IsReceiverBefore t r → length (r.halves ++ s ∷ []) ≤ t + 1
heard_more t r s h = omega (arith, h, length-append r.halves (s ∷ []))

-- what holds of what happens in a half bit holds of it where the receiver is deaf and where it isn't
abbrev pub IsSoundReception : ℕ → Reception → Type 0
IsSoundReception t r = IsReceiverBefore (t + 1) r.state × IfSome r.event (IsStationBody t)

extended_or_deaf : (t : ℕ) (r : Receiving) (s : Sym) → IsReceiverBefore t r → IsSoundReception t (if r.deaf then quiet r else extended r s)
extended_or_deaf t r s h =
    choose (IsSoundReception t) r.deaf (quiet r) (extended r s) (λ _. (omega (arith, h), tt)) (λ _. (heard_more t r s h, tt))

while_sending : (t : ℕ) (r : Receiving) (heard : Sym) → IsSoundReception t (receiver_step r heard true)
while_sending t r Idle = (omega arith, tt)
while_sending t r Hi = (omega arith, tt)
while_sending t r Lo = (omega arith, tt)
while_sending t r Clash = (omega arith, tt)

pub receiver_goes_on : (t : ℕ) (r : Receiving) (heard : Sym) (sending : Bool) → t ≤ most_half_bits → IsReceiverBefore t r → IsSoundReception t (receiver_step r heard sending)
receiver_goes_on t r heard true late h = while_sending t r heard
receiver_goes_on t r Idle false late h =
    choose (IsSoundReception t) r.deaf (quiet (record r { deaf = false; halves = [] })) (reception_ended r r.halves)
    (λ _. (omega arith, tt)) (λ _. (after_reception t r r.halves h, end_of_reception t r r.halves late h))
receiver_goes_on t r Hi false late h = extended_or_deaf t r Hi h
receiver_goes_on t r Lo false late h = extended_or_deaf t r Lo h
receiver_goes_on t r Clash false late h = extended_or_deaf t r Clash h
