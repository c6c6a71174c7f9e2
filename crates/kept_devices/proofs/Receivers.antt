-- Receivers and what they stand for, one after another.
use Rattle.std.proofs.Common.{◌≡◌, ℕ, zero, suc, ◌+◌, ◌<◌, All, List, [], ◌∷◌, ◌++◌, length, take, get_or, refl, ap, arith}
use Rattle.manchester_line.specs.declared.Sym.{Sym}
use Rattle.manchester_line.specs.Line.{is_signal}
use Rattle.mac_receive.specs.Receiver.{Receiving, receiver_step}
use Rattle.mac_receive.specs.KeptReceiver.{KeptReception, Hears}
use Rattle.network.specs.Net.{receptions}
use Rattle.kept_devices.specs.KeptReceivers.{AllHear}

pub length-AllHear : (rs : List Receiving) (ks : List KeptReception) → AllHear rs ks → length rs ≡ length ks
length-AllHear [] [] h = refl
length-AllHear [] (k ∷ ks) h = absurd h
length-AllHear (r ∷ rs) [] h = absurd h
length-AllHear (r ∷ rs) (k ∷ ks) h = ap suc (length-AllHear rs ks h.1)

-- the receiver at a place
pub AllHear-at : (rs : List Receiving) (ks : List KeptReception) (i : ℕ) (d : Receiving) (e : KeptReception) → AllHear rs ks → i < length ks → Hears (get_or rs i d) (get_or ks i e)
AllHear-at [] [] i d e h l = absurd (omega arith)
AllHear-at [] (k ∷ ks) i d e h l = absurd h
AllHear-at (r ∷ rs) [] i d e h l = absurd h
AllHear-at (r ∷ rs) (k ∷ ks) zero d e h l = h.0
AllHear-at (r ∷ rs) (k ∷ ks) (suc i) d e h l = AllHear-at rs ks i d e h.1 (omega arith)

receptions-suc : (hs es : List Sym) (rs : List Receiving) (i : ℕ) (a b : Sym) (d : Receiving) → i < length hs → i < length es → i < length rs →
    receptions (take (suc i) hs) (take (suc i) es) (take (suc i) rs) ≡ receptions (take i hs) (take i es) (take i rs) ++ receiver_step (get_or rs i d) (get_or hs i a) (is_signal (get_or es i b)) ∷ []
receptions-suc [] es rs i a b d lh le lr = absurd (omega arith)
receptions-suc (h ∷ hs) [] rs i a b d lh le lr = absurd (omega arith)
receptions-suc (h ∷ hs) (e ∷ es) [] i a b d lh le lr = absurd (omega arith)
receptions-suc (h ∷ hs) (e ∷ es) (r ∷ rs) zero a b d lh le lr = refl
receptions-suc (h ∷ hs) (e ∷ es) (r ∷ rs) (suc i) a b d lh le lr = ap (λ xs. receiver_step r h (is_signal e) ∷ xs) (receptions-suc hs es rs i a b d (omega arith) (omega arith) (omega arith))

-- the receptions of one station more
pub receptions-more : (hs es : List Sym) (rs : List Receiving) (i : ℕ) (a b : Sym) (d : Receiving) → i < length hs → i < length es → i < length rs →
    receptions (take (i + 1) hs) (take (i + 1) es) (take (i + 1) rs) ≡ receptions (take i hs) (take i es) (take i rs) ++ receiver_step (get_or rs i d) (get_or hs i a) (is_signal (get_or es i b)) ∷ []
receptions-more hs es rs i a b d lh le lr = let e : i + 1 ≡ suc i = omega arith in rw e (receptions-suc hs es rs i a b d lh le lr)

-- one receiver more that stands for one
pub AllHear-more : (rs : List Receiving) (ks : List KeptReception) (r : Receiving) (k : KeptReception) → AllHear rs ks → Hears r k → AllHear (rs ++ r ∷ []) (ks ++ k ∷ [])
AllHear-more [] [] r k h g = (g, tt)
AllHear-more [] (y ∷ ks) r k h g = absurd h
AllHear-more (z ∷ rs) [] r k h g = absurd h
AllHear-more (z ∷ rs) (y ∷ ks) r k h g = (h.0, AllHear-more rs ks r k h.1 g)

-- one receiver that has made no step
pub All-one : (k : KeptReception) → k.steps ≡ 0 → All (λ (r : KeptReception). r.steps ≡ 0) (k ∷ [])
All-one k h zero d l = h
All-one k h (suc i) d l = absurd (omega arith)
