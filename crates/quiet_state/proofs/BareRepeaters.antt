-- Whether an output comes right after a rest, which a repeater keeps for its laws alone, bears on nothing that it does.
use Rattle.std.proofs.Common.{◌≡◌, ℕ, ◌+◌, ◌-◌, Bool, true, false, cond, eqb, List, [], ◌∷◌, ◌++◌, map, take, drop, length, refl, sym, ap, ap₂, ◌∙◌}
use Rattle.std.specs.List.{flat_map}
use Rattle.std.proofs.lemmas.Simd.{map-map}
use Rattle.mac_parameters.specs.Parameters.{jabber_limit, jabber_rest}
use Rattle.manchester_line.specs.declared.Sym.{Sym}
use Rattle.manchester_line.specs.declared.Sym.TheVariants as sy
use Rattle.collision_log.specs.declared.row.Body.TheVariants.{Clash}
use Rattle.repeater_core.specs.declared.modes.Mode.{Mode}
use Rattle.repeater_core.specs.Counts.{Count, Choice, choice, choice_awake, choices_from}
use Rattle.repeater_core.specs.Delayed.{moved_on}
use Rattle.repeater_core.specs.Modes.{wish_of}
use Rattle.repeater_core.specs.Step.{RepeaterDevice, after, chosen, mode_next, decided_by, emitted_by, guard_events, clash_begins}
use Rattle.network.specs.Net.{each_repeater}
use Rattle.network.specs.Rows.{repeater_bodies, port_bodies, happened}

-- counts, a choice and a repeater without what is kept for the laws alone
abbrev pub bare_count : Count → Count
bare_count c = record c { after_rest = false }

abbrev bare_choice : Choice → Choice
bare_choice x = record x { count = bare_count x.count }

abbrev pub bare_state : RepeaterDevice → RepeaterDevice
bare_state r = record r { counts = map bare_count r.counts }

either_bare : (b : Bool) (x y u v : Choice) → bare_choice x ≡ bare_choice u → bare_choice y ≡ bare_choice v → bare_choice (cond b x y) ≡ bare_choice (cond b u v)
either_bare true x y u v h k = h
either_bare false x y u v h k = k

abbrev halted_choice : Choice
halted_choice = record {
  symbol = sy.Idle;
  rests = true;
  halted = true;
  count = record { run = 0; rest = jabber_rest - 1; after_rest = true };
}

abbrev sent_choice : Sym → Count → Choice
sent_choice s c = record { symbol = s; rests = false; halted = false; count = record { run = c.run + 1; rest = 0; after_rest = c.after_rest } }

awake_bare : (s : Sym) (c : Count) → bare_choice (choice_awake s c) ≡ bare_choice (choice_awake s (bare_count c))
awake_bare sy.Idle c = refl
awake_bare sy.Hi c = either_bare (eqb c.run jabber_limit) halted_choice (sent_choice sy.Hi c) halted_choice (sent_choice sy.Hi (bare_count c)) refl refl
awake_bare sy.Lo c = either_bare (eqb c.run jabber_limit) halted_choice (sent_choice sy.Lo c) halted_choice (sent_choice sy.Lo (bare_count c)) refl refl
awake_bare sy.Clash c = either_bare (eqb c.run jabber_limit) halted_choice (sent_choice sy.Clash c) halted_choice (sent_choice sy.Clash (bare_count c)) refl refl

abbrev rested_choice : Count → Choice
rested_choice c = record { symbol = sy.Idle; rests = true; halted = false; count = record { run = 0; rest = c.rest - 1; after_rest = true } }

choice_bare : (s : Sym) (c : Count) → bare_choice (choice s c) ≡ bare_choice (choice s (bare_count c))
choice_bare s c = either_bare (eqb c.rest 0) (choice_awake s c) (rested_choice c) (choice_awake s (bare_count c)) (rested_choice (bare_count c)) (awake_bare s c) refl

choices_bare : (m : Mode) (hs : List Sym) (q : ℕ) (cs : List Count) → map bare_choice (choices_from m hs q cs) ≡ map bare_choice (choices_from m hs q (map bare_count cs))
choices_bare m hs q [] = refl
choices_bare m hs q (c ∷ cs) = ap₂ (λ (x : Choice) (xs : List Choice). x ∷ xs) (choice_bare (wish_of m hs q) c) (choices_bare m hs (q + 1) cs)

mode_bare : (hs : List Sym) (r : RepeaterDevice) → mode_next hs r ≡ mode_next hs (bare_state r)
unfolding mode_next
mode_bare hs r = refl

chosen_bare : (hs : List Sym) (r : RepeaterDevice) → map bare_choice (chosen hs r) ≡ map bare_choice (chosen hs (bare_state r))
unfolding chosen mode_next
chosen_bare hs r = choices_bare (mode_next hs r) hs 0 r.counts

-- what f says of each choice
chosen_alike : {X : Type 0} (f : Choice → X) → ((x : Choice) → f x ≡ f (bare_choice x)) → (hs : List Sym) (r : RepeaterDevice) → map f (chosen hs r) ≡ map f (chosen hs (bare_state r))
chosen_alike {X} f same hs r = each (chosen hs r) ∙ ap (map f) (chosen_bare hs r) ∙ sym (each (chosen hs (bare_state r)))
  where
    each : (xs : List Choice) → map f xs ≡ map f (map bare_choice xs)
    each [] = refl
    each (x ∷ xs) = ap₂ (λ (y : X) (ys : List X). y ∷ ys) (same x) (each xs)

pub decided_bare : (hs : List Sym) (r : RepeaterDevice) → decided_by hs r ≡ decided_by hs (bare_state r)
decided_bare hs r = chosen_alike (λ x. x.symbol) (λ x. refl) hs r

counts_bare : (hs : List Sym) (r : RepeaterDevice) → map bare_count (map (λ c. c.count) (chosen hs r)) ≡ map bare_count (map (λ c. c.count) (chosen hs (bare_state r)))
counts_bare hs r =
    map-map bare_count (λ (x : Choice). x.count) (chosen hs r)
    ∙ chosen_alike (λ x. bare_count x.count) (λ x. refl) hs r
    ∙ sym (map-map bare_count (λ (x : Choice). x.count) (chosen hs (bare_state r)))

pub joined_bare : (r s : RepeaterDevice) → r.mode ≡ s.mode → r.guards ≡ s.guards → map bare_count r.counts ≡ map bare_count s.counts → r.line ≡ s.line → bare_state r ≡ bare_state s
joined_bare r s m g c l = cc

pub after_bare : (hs : List Sym) (r : RepeaterDevice) → bare_state (after hs r) ≡ bare_state (after hs (bare_state r))
after_bare hs r =
    joined_bare (after hs r) (after hs (bare_state r)) (mode_bare hs r) refl (counts_bare hs r) (ap (λ row. moved_on row r.line) (decided_bare hs r))

begins_bare : (hs : List Sym) (r : RepeaterDevice) → clash_begins hs r ≡ clash_begins hs (bare_state r)
unfolding mode_next
begins_bare hs r = refl

pub bodies_bare : (hs : List Sym) (r : RepeaterDevice) → repeater_bodies hs r ≡ repeater_bodies hs (bare_state r)
bodies_bare hs r =
    ap₂ (λ b (xs : List Bool). happened b Clash ++ port_bodies 1 xs (guard_events r.guards hs (emitted_by r))) (begins_bare hs r) (chosen_alike (λ x. x.halted) (λ x. refl) hs r)

-- all repeaters
pub each_bare : {X : Type 0} (f : List Sym → RepeaterDevice → X) → ((hs : List Sym) (r : RepeaterDevice) → f hs r ≡ f hs (bare_state r)) → (hs : List Sym) (rs : List RepeaterDevice) → each_repeater f hs rs ≡ each_repeater f hs (map bare_state rs)
each_bare f same hs [] = refl
each_bare f same hs (r ∷ rs) =
    ap₂ (λ x xs. x ∷ xs) (same (take (length r.guards) hs) r) (each_bare f same (drop (length r.guards) hs) rs)

pub map-each : {X Y : Type 0} (g : X → Y) (f : List Sym → RepeaterDevice → X) (hs : List Sym) (rs : List RepeaterDevice) → map g (each_repeater f hs rs) ≡ each_repeater (λ x r. g (f x r)) hs rs
map-each g f hs [] = refl
map-each g f hs (r ∷ rs) = ap (λ xs. g (f (take (length r.guards) hs) r) ∷ xs) (map-each g f (drop (length r.guards) hs) rs)

pub emit_bare : (rs : List RepeaterDevice) → flat_map emitted_by rs ≡ flat_map emitted_by (map bare_state rs)
emit_bare [] = refl
emit_bare (r ∷ rs) = ap (λ xs. emitted_by r ++ xs) (emit_bare rs)
