-- Each receiver and each capture of a network, half bit by half bit.
use Rattle.std.proofs.Common.{◌≡◌, eqb, ℕ, zero, suc, ◌<◌, ◌≤◌, true, List, [], ◌∷◌, ◌++◌, map, length, get_or, get_or-take, Option, None, refl, sym, ap, ap₂, ◌∙◌, arith}
use Rattle.std.specs.List.{flat_map}
use Rattle.std.proofs.lemmas.List.{length-map, get_or-map, get_or_append_left}
use Rattle.manchester_line.specs.declared.Sym.{Sym}
use Rattle.manchester_line.specs.declared.Sym.TheVariants.{Idle}
use Rattle.collision_log.specs.declared.row.Body.{Body}
use Rattle.load_plan.specs.declared.plan.Plan.{Plan}
use Rattle.layout.specs.declared.lines.StationLine.{StationLine}
use Rattle.mac_transmit.specs.Sender.{Sender, SendOutcome, sender_step}
use Rattle.manchester_line.specs.Line.{is_signal}
use Rattle.mac_receive.specs.Receiver.{Receiving, Reception, new_receiving, receiver_step}
use Rattle.repeater_core.specs.Step.{emitted_by}
use Rattle.network.specs.declared.outputs.Taken.{Taken}
use Rattle.network.specs.Net.{net, new_receiver, heard_in, stations_hear, stations_emit, sendings, sendings_in, receptions, receptions_in}
use Rattle.mac_parameters.specs.Parameters.{most_octets}
use Rattle.network.specs.Captures.{captured, taken_by}
use Rattle.network.specs.Times.{heard, emitted}
use Rattle.net_parts.specs.Standing.{receiver_at, captures_at}
use Rattle.network.proofs.LoggedAttempts.{length-receptions}
use Rattle.network.proofs.StationAttempts.{no_sender}
use Rattle.net_parts.proofs.NetworkFacts.{StationFacts}

no_sending : SendOutcome
no_sending = sender_step no_sender Idle

no_reception : Reception
no_reception = receiver_step (new_receiving 0 0) Idle true

-- over the devices of these numbers
pub sendings_of : (f : ℕ → Sym) (g : ℕ → Sender) (ks : List ℕ) → sendings (map f ks) (map g ks) ≡ map (λ k. sender_step (g k) (f k)) ks
sendings_of f g [] = refl
sendings_of f g (k ∷ ks) = ap (λ os. sender_step (g k) (f k) ∷ os) (sendings_of f g ks)

pub receptions_of : (f e : ℕ → Sym) (g : ℕ → Receiving) (ks : List ℕ) → receptions (map f ks) (map e ks) (map g ks) ≡ map (λ k. receiver_step (g k) (f k) (is_signal (e k))) ks
receptions_of f e g [] = refl
receptions_of f e g (k ∷ ks) = ap (λ os. receiver_step (g k) (f k) (is_signal (e k)) ∷ os) (receptions_of f e g ks)

pub captured_of : (t : ℕ) (e : ℕ → Option Body) (o : ℕ → List ℕ) (c : ℕ → List Taken) (ks : List ℕ) → captured t (map e ks) (map o ks) (map c ks) ≡ map (λ k. c k ++ taken_by t (e k) (o k)) ks
captured_of t e o c [] = refl
captured_of t e o c (k ∷ ks) = ap (λ cs. (c k ++ taken_by t (e k) (o k)) ∷ cs) (captured_of t e o c ks)

reception_at : (hs es : List Sym) (rs : List Receiving) (k : ℕ) (o : Reception) (d : Receiving) → k < length rs → length rs ≤ length hs → length rs ≤ length es → get_or (receptions hs es rs) k o ≡ receiver_step (get_or rs k d) (get_or hs k Idle) (is_signal (get_or es k Idle))
reception_at hs es [] k o d h lh le = absurd (omega arith)
reception_at [] es (r ∷ rs) k o d h lh le = absurd (omega arith)
reception_at (x ∷ hs) [] (r ∷ rs) k o d h lh le = absurd (omega arith)
reception_at (x ∷ hs) (e ∷ es) (r ∷ rs) zero o d h lh le = refl
reception_at (x ∷ hs) (e ∷ es) (r ∷ rs) (suc k) o d h lh le = reception_at hs es rs k o d (omega arith) (omega arith) (omega arith)

length-captured : (t : ℕ) (es : List (Option Body)) (os : List (List ℕ)) (cs : List (List Taken)) → length cs ≤ length es → length cs ≤ length os → length (captured t es os cs) ≡ length cs
length-captured t [] os [] le lo = refl
length-captured t (e ∷ es) [] [] le lo = refl
length-captured t (e ∷ es) (o ∷ os) [] le lo = refl
length-captured t [] os (c ∷ cs) le lo = absurd (omega arith)
length-captured t (e ∷ es) [] (c ∷ cs) le lo = absurd (omega arith)
length-captured t (e ∷ es) (o ∷ os) (c ∷ cs) le lo = ap suc (length-captured t es os cs (omega arith) (omega arith))

capture_at : (t : ℕ) (es : List (Option Body)) (os : List (List ℕ)) (cs : List (List Taken)) (k : ℕ) → k < length cs → length cs ≤ length es → length cs ≤ length os → get_or (captured t es os cs) k [] ≡ get_or cs k [] ++ taken_by t (get_or es k None) (get_or os k [])
capture_at t es os [] k h le lo = absurd (omega arith)
capture_at t [] os (c ∷ cs) k h le lo = absurd (omega arith)
capture_at t (e ∷ es) [] (c ∷ cs) k h le lo = absurd (omega arith)
capture_at t (e ∷ es) (o ∷ os) (c ∷ cs) zero h le lo = refl
capture_at t (e ∷ es) (o ∷ os) (c ∷ cs) (suc k) h le lo = capture_at t es os cs k (omega arith) (omega arith) (omega arith)

pub time_is : (plan : Plan) (t : ℕ) → (net plan t).t ≡ t
time_is plan zero = refl
time_is plan (suc t) = let before = time_is plan t in omega (arith, before)

module _ (plan : Plan) (facts : StationFacts plan) where
  abbrev many : ℕ
  many = length plan.layout.stations

  emit_all : (t : ℕ) → length (stations_emit (net plan t)) ≡ many
  emit_all t = length-map (sendings_in (net plan t)) (λ (o : SendOutcome). o.emitted) ∙ facts.send_all t

  receive_with : (t : ℕ) → length (net plan t).receivers ≡ many → length (receptions_in (net plan t)) ≡ many
  receive_with t rs = let hs = facts.hear_all t in let es = emit_all t in length-receptions (stations_hear (net plan t)) (stations_emit (net plan t)) (net plan t).receivers (omega (arith, rs, hs)) (omega (arith, rs, es)) ∙ rs

  pub receivers : (t : ℕ) → length (net plan t).receivers ≡ many
  receivers zero = length-map plan.layout.stations (new_receiver (most_octets (eqb plan.layout.format 2)))
  receivers (suc t) = length-map (receptions_in (net plan t)) (λ (r : Reception). r.state) ∙ receive_with t (receivers t)

  pub receive_all : (t : ℕ) → length (receptions_in (net plan t)) ≡ many
  receive_all t = receive_with t (receivers t)

  hears_at : (k t : ℕ) → k < many → get_or (stations_hear (net plan t)) k Idle ≡ heard plan k t
  hears_at k t h = get_or-take (length (net plan t).senders) (heard_in (net plan t)) k Idle (let n = facts.senders t in omega (arith, n, h))

  emits_at : (k t : ℕ) → k < many → get_or (stations_emit (net plan t)) k Idle ≡ emitted plan k t
  emits_at k t h = sym (get_or_append_left (stations_emit (net plan t)) (flat_map emitted_by (net plan t).repeaters) Idle k (let n = emit_all t in omega (arith, n, h)))

  -- what the receiver of station k makes of half bit t
  pub reception_is : (k t : ℕ) (o : Reception) → k < many → get_or (receptions_in (net plan t)) k o ≡ receiver_step (receiver_at plan k t) (heard plan k t) (is_signal (emitted plan k t))
  reception_is k t o h =
      let rs = receivers t in
      let hs = facts.hear_all t in
      let es = emit_all t in
      reception_at (stations_hear (net plan t)) (stations_emit (net plan t)) (net plan t).receivers k o (new_receiving 0 0) (omega (arith, rs, h)) (omega (arith, rs, hs)) (omega (arith, rs, es))
      ∙ ap₂ (λ a b. receiver_step (receiver_at plan k t) a (is_signal b)) (hears_at k t h) (emits_at k t h)

  pub receiver_next : (k t : ℕ) → k < many → receiver_at plan k (suc t) ≡ (receiver_step (receiver_at plan k t) (heard plan k t) (is_signal (emitted plan k t))).state
  receiver_next k t h =
      get_or-map (λ (r : Reception). r.state) (receptions_in (net plan t)) k no_reception (new_receiving 0 0) (let n = receive_all t in omega (arith, n, h))
      ∙ ap (λ (r : Reception). r.state) (reception_is k t no_reception h)

  pub captures : (t : ℕ) → length (net plan t).captures ≡ many
  captures zero = length-map plan.layout.stations (λ (s : StationLine). let c : List Taken = [] in c)
  captures (suc t) =
      let n = net plan t in
      let cs = captures t in
      let rs = receive_all t in
      let es = length-map (receptions_in n) (λ (r : Reception). r.event) in
      let os = length-map (receptions_in n) (λ (r : Reception). r.octets) in
      length-captured n.t (map (λ (r : Reception). r.event) (receptions_in n)) (map (λ (r : Reception). r.octets) (receptions_in n)) n.captures (omega (arith, cs, rs, es)) (omega (arith, cs, rs, os)) ∙ cs

  pub capture_next : (k t : ℕ) → k < many → captures_at plan k (suc t) ≡
      captures_at plan k t ++ taken_by t (receiver_step (receiver_at plan k t) (heard plan k t) (is_signal (emitted plan k t))).event (receiver_step (receiver_at plan k t) (heard plan k t) (is_signal (emitted plan k t))).octets
  capture_next k t h =
      let n = net plan t in
      let cs = captures t in
      let rs = receive_all t in
      let es = length-map (receptions_in n) (λ (r : Reception). r.event) in
      let os = length-map (receptions_in n) (λ (r : Reception). r.octets) in
      let is = reception_is k t no_reception h in
      capture_at n.t (map (λ (r : Reception). r.event) (receptions_in n)) (map (λ (r : Reception). r.octets) (receptions_in n)) n.captures k (omega (arith, cs, h)) (omega (arith, cs, rs, es)) (omega (arith, cs, rs, os))
      ∙ ap (λ v. captures_at plan k t ++ taken_by v (get_or (map (λ (r : Reception). r.event) (receptions_in n)) k None) (get_or (map (λ (r : Reception). r.octets) (receptions_in n)) k [])) (time_is plan t)
      ∙ ap₂ (λ e o. captures_at plan k t ++ taken_by t e o)
      (get_or-map (λ (r : Reception). r.event) (receptions_in n) k no_reception None (omega (arith, rs, h)) ∙ ap (λ (r : Reception). r.event) is)
      (get_or-map (λ (r : Reception). r.octets) (receptions_in n) k no_reception [] (omega (arith, rs, h)) ∙ ap (λ (r : Reception). r.octets) is)
