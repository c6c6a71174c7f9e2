-- Receivers and what they stand for, one after another.
use Rattle.std.proofs.Common.{◌≡◌, ℕ, zero, suc, ◌+◌, ◌<◌, All, List, [], ◌∷◌, ◌++◌, length, map, take, set, get_or, Option, Some, None, refl, sym, subst, ap, ap₂, ◌∙◌, arith}
use Rattle.std.proofs.lemmas.List.{take_more_set, take_more, map-append}
use Rattle.layout.specs.declared.lines.StationLine.{StationLine}
use Rattle.manchester_line.specs.declared.Sym.{Sym}
use Rattle.collision_log.specs.declared.row.Body.{Body}
use Rattle.collision_log.specs.declared.row.Body.TheVariants.{Sent, Collided, GivenUp, Cut, Received, Dropped, Clash, Closed, Opened, Halted}
use Rattle.manchester_line.specs.Line.{is_signal}
use Rattle.mac_receive.specs.Receiver.{Receiving, Reception, receiver_step}
use Rattle.mac_receive.specs.KeptReceiver.{KeptReception, Hears, kept_octets}
use Rattle.network.specs.declared.outputs.Taken.{Taken}
use Rattle.network.specs.Net.{new_receiver, receptions}
use Rattle.network.specs.Captures.{captured, taken_by}
use Rattle.kept_devices.proofs.Receivers.{AllHear-more, receptions-more}
use Rattle.kept_devices.specs.KeptReceivers.{AllHear}
use Rattle.net_step.specs.KeptNet.{AllGive, Gives, Lends}

-- what a receiver lends where it received a frame, in each case
pub Lends-from : (event : Option Body) (octets kept : List ℕ) → ((n : ℕ) → event ≡ Some (Received n) → kept ≡ octets) → Lends event octets kept
Lends-from None octets kept h = tt
Lends-from (Some (Received n)) octets kept h = h n refl
Lends-from (Some (Sent f s a)) octets kept h = tt
Lends-from (Some (Collided f s a p d)) octets kept h = tt
Lends-from (Some (GivenUp f s p)) octets kept h = tt
Lends-from (Some (Cut f s a p)) octets kept h = tt
Lends-from (Some (Dropped w n)) octets kept h = tt
Lends-from (Some Clash) octets kept h = tt
Lends-from (Some (Closed p)) octets kept h = tt
Lends-from (Some (Opened p)) octets kept h = tt
Lends-from (Some (Halted p)) octets kept h = tt

-- one receiver more that gave something
pub AllGive-more : (rs : List Reception) (ks : List KeptReception) (os : List (Option Body)) (r : Reception) (k : KeptReception) (o : Option Body) → AllGive rs ks os → Gives r k o → AllGive (rs ++ r ∷ []) (ks ++ k ∷ []) (os ++ o ∷ [])
AllGive-more [] [] [] r k o h g = (g, tt)
AllGive-more [] [] (x ∷ os) r k o h g = absurd h
AllGive-more [] (y ∷ ks) os r k o h g = absurd h
AllGive-more (z ∷ rs) [] os r k o h g = absurd h
AllGive-more (z ∷ rs) (y ∷ ks) [] r k o h g = absurd h
AllGive-more (z ∷ rs) (y ∷ ks) (x ∷ os) r k o h g = (h.0, AllGive-more rs ks os r k o h.1 g)

-- one step more of the receivers
pub AllGive-next : (hs es : List Sym) (rs : List Receiving) (ks : List KeptReception) (os : List (Option Body)) (i : ℕ) (a b : Sym) (d : Receiving) (k : KeptReception) (o : Option Body) →
    i < length hs → i < length es → i < length rs → i < length ks → i < length os →
    AllGive (receptions (take i hs) (take i es) (take i rs)) (take i ks) (take i os) → Gives (receiver_step (get_or rs i d) (get_or hs i a) (is_signal (get_or es i b))) k o →
    AllGive (receptions (take (i + 1) hs) (take (i + 1) es) (take (i + 1) rs)) (take (i + 1) (set ks i k)) (take (i + 1) (set os i o))
AllGive-next hs es rs ks os i a b d k o lh le lr lk lo before now =
    rw (receptions-more hs es rs i a b d lh le lr, take_more_set ks i k lk, take_more_set os i o lo) (AllGive-more _ _ _ _ _ _ before now)

-- what receivers stand for after what they gave
pub AllHear-given : (rs : List Reception) (ks : List KeptReception) (os : List (Option Body)) → AllGive rs ks os → AllHear (map (λ r. r.state) rs) ks
AllHear-given [] [] os h = tt
AllHear-given [] (y ∷ ks) os h = absurd h
AllHear-given (z ∷ rs) [] os h = absurd h
AllHear-given (z ∷ rs) (y ∷ ks) [] h = absurd h
AllHear-given (z ∷ rs) (y ∷ ks) (x ∷ os) h = (h.0.hears, AllHear-given rs ks os h.1)

-- the events that they gave
pub events-given : (rs : List Reception) (ks : List KeptReception) (os : List (Option Body)) → AllGive rs ks os → os ≡ map (λ r. r.event) rs
events-given [] [] [] h = refl
events-given [] [] (x ∷ os) h = absurd h
events-given [] (y ∷ ks) os h = absurd h
events-given (z ∷ rs) [] os h = absurd h
events-given (z ∷ rs) (y ∷ ks) [] h = absurd h
events-given (z ∷ rs) (y ∷ ks) (x ∷ os) h = ap₂ ◌∷◌ h.0.event (events-given rs ks os h.1)

taken-lent : (t : ℕ) (event : Option Body) (octets kept : List ℕ) → Lends event octets kept → taken_by t event kept ≡ taken_by t event octets
taken-lent t None octets kept h = refl
taken-lent t (Some (Received n)) octets kept h = ap (λ os. taken_by t (Some (Received n)) os) h
taken-lent t (Some (Sent f s a)) octets kept h = refl
taken-lent t (Some (Collided f s a p d)) octets kept h = refl
taken-lent t (Some (GivenUp f s p)) octets kept h = refl
taken-lent t (Some (Cut f s a p)) octets kept h = refl
taken-lent t (Some (Dropped w n)) octets kept h = refl
taken-lent t (Some Clash) octets kept h = refl
taken-lent t (Some (Closed p)) octets kept h = refl
taken-lent t (Some (Opened p)) octets kept h = refl
taken-lent t (Some (Halted p)) octets kept h = refl

-- the captures get what was given
pub captured-given : (t : ℕ) (rs : List Reception) (ks : List KeptReception) (os : List (Option Body)) (cs : List (List Taken)) → AllGive rs ks os →
    captured t os (map kept_octets ks) cs ≡ captured t (map (λ r. r.event) rs) (map (λ r. r.octets) rs) cs
captured-given t [] [] [] cs h = refl
captured-given t [] [] (x ∷ os) cs h = absurd h
captured-given t [] (y ∷ ks) os cs h = absurd h
captured-given t (z ∷ rs) [] os cs h = absurd h
captured-given t (z ∷ rs) (y ∷ ks) [] cs h = absurd h
captured-given t (z ∷ rs) (y ∷ ks) (x ∷ os) [] h = refl
captured-given t (z ∷ rs) (y ∷ ks) (x ∷ os) (c ∷ cs) h =
    ap₂ (λ (one : List Taken) (rest : List (List Taken)). (c ++ one) ∷ rest) (ap (λ e. taken_by t e (kept_octets y)) h.0.event ∙ taken-lent t z.event z.octets (kept_octets y) h.0.lends) (captured-given t rs ks os cs h.1)

-- one new receiver more
pub AllHear-new : (most : ℕ) (stations : List StationLine) (ks : List KeptReception) (i : ℕ) (d : StationLine) (k : KeptReception) → i < length stations → AllHear (map (new_receiver most) (take i stations)) ks → Hears (new_receiver most (get_or stations i d)) k →
    AllHear (map (new_receiver most) (take (i + 1) stations)) (ks ++ k ∷ [])
AllHear-new most stations ks i d k l h g =
    rw (take_more stations i d l, map-append (new_receiver most) (take i stations) (get_or stations i d ∷ [])) (AllHear-more _ ks _ k h g)

-- the same with other names for what is heard, emitted and kept
pub given-alike : (hs hs' es es' : List Sym) (ks ks' kn kn' : List KeptReception) (os : List (Option Body)) → hs ≡ hs' → es ≡ es' → ks ≡ ks' → kn ≡ kn' →
    ((rs : List Receiving) → AllHear rs ks → AllGive (receptions hs es rs) kn os) → (rs : List Receiving) → AllHear rs ks' → AllGive (receptions hs' es' rs) kn' os
given-alike hs hs' es es' ks ks' kn kn' os eh ee ek en given rs h =
    let first : AllHear rs ks = subst (λ xs. AllHear rs xs) (sym ek) h in
    subst (λ xs. AllGive (receptions hs' es' rs) xs os) en (subst (λ xs. AllGive (receptions hs' xs rs) kn os) ee (subst (λ xs. AllGive (receptions xs es rs) kn os) eh (given rs first)))

-- one receiver that has made so many steps
pub All-stepped : (k : KeptReception) (t : ℕ) → k.steps ≡ t → All (λ (r : KeptReception). r.steps ≡ t) (k ∷ [])
All-stepped k t h zero d l = h
All-stepped k t h (suc i) d l = absurd (omega arith)
