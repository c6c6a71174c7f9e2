-- Parcels that are taken out of a box one after another.
use Rattle.std.proofs.Common.{◌≡◌, Bool, true, List, [], ◌∷◌, ◌++◌, map, refl, sym, ap, ◌∙◌, append_assoc}
use Rattle.std.specs.Prelude.{Option, if◌then◌else◌}
use Rattle.std.proofs.lemmas.List.{map-append}
use Rattle.load_plan.specs.declared.plan.Plan.{Plan}
use Rattle.net_parts.specs.declared.parcel.Parcel.{Parcel}
use Rattle.exchange_core.specs.Shares.{Held, has_place_for, take_held, received}
use Rattle.window_exchange.specs.MailNames.{IsHonest, parcel_name}
use Rattle.window_exchange.specs.Balance.{name_lists}
use Rattle.window_exchange.specs.declared.mail.Lists.{Lists}
use Rattle.worker_gate.specs.ReceivedParcels.{is_some_parcel, received_all, HasEmptied}
use Rattle.worker_gate.proofs.GatheredParts.{each_snoc}

some_last : (ps : List Parcel) (p : Parcel) → is_some_parcel (ps ++ p ∷ []) ≡ true
some_last [] p = refl
some_last (q ∷ ps) p = refl

received_last : (ps : List Parcel) (p : Parcel) (s : Held) → received_all (ps ++ p ∷ []) s ≡ received p (received_all ps s)
received_last [] p s = refl
received_last (q ∷ ps) p s = received_last ps p (received q s)

-- one more
pub one_taken : (boxed : Option Plan) (came : Bool) (s s' s'' : Held) (v v' v'' : Lists) (p : Parcel) → HasEmptied boxed came s s' v v' → IsHonest boxed p
    → s'' ≡ (if has_place_for p s' then take_held p s' else s') → v'' ≡ name_lists v'.put (v'.taken ++ parcel_name p ∷ []) → HasEmptied boxed true s s'' v v''
one_taken boxed came s s' s'' v v' v'' p t honest is seen =
    let ps = t.0 in (
      ps ++ p ∷ [],
      record {
        honest = each_snoc (λ _. IsHonest boxed) ps p t.1.honest honest;
        some = sym (some_last ps p);
        share = is ∙ ap (received p) t.1.share ∙ sym (received_last ps p s);
      },
      seen ∙ ap (λ (u : Lists). name_lists u.put (u.taken ++ parcel_name p ∷ [])) t.2
          ∙ ap (name_lists v.put) (append_assoc v.taken (map parcel_name ps) (parcel_name p ∷ []) ∙ ap (λ names. v.taken ++ names) (sym (map-append parcel_name ps (p ∷ [])))),
    )
