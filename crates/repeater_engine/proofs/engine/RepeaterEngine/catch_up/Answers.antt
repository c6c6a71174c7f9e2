use Rattle.std.proofs.Common.{◌≡◌, ℕ, ◌+◌, ◌-◌, ◌<◌, ◌≤◌, List, ◌++◌, map, length, take, drop, refl, sym, subst, ap, ◌∙◌, arith, rules}
use Rattle.std.proofs.Math.Seq.{take-append_seam}
use Rattle.std.proofs.lemmas.Grind.{common_steps}
use Rattle.manchester_line.specs.declared.Sym.{Sym}
use Rattle.manchester_line.specs.Line.{is_signal}
use Rattle.repeater_core.specs.Classes.{AreHeardAs}
use Rattle.repeater_core.specs.Step.{RepeaterDevice, decided_by}
use Rattle.repeater_core.specs.Steady.{IsSteady}
use Rattle.repeater_core.proofs.SteadinessLasts.{lasts}
use Rattle.net_parts.specs.RepeaterParts.{RepeaterState}
use Rattle.repeater_engine.specs.KeptRepeaters.{KeptRepeater}
use Rattle.repeater_engine.specs.PutAside.{row_hearing, state_later, IsPutAside}
use Rattle.repeater_engine.proofs.StandingBehind.{aside_as, sends_on}
use Rattle.repeater_engine.proofs.engine.RepeaterEngine.catch_up.Goals.{After-leap_classes}
use Rattle.repeater_engine.proofs.engine.RepeaterEngine.catch_up.Goals as goal

-- a list that is written over from its beginning
overwritten : (n : ℕ) (new old : List Sym) → n ≡ length new → take n (new ++ drop (length new) old) ≡ new
overwritten n new old e = ap (λ m. take m (new ++ drop (length new) old)) e ∙ take-append_seam new (drop (length new) old)

some_text : (c : After-leap_classes) → 0 < length c.args.text.now
some_text c = grind (arith, common_steps)

-- the rows that are made
abbrev rows : (c : After-leap_classes) → List (List Sym)
rows c = map (row_hearing c.self.inside.repeater.mode c.self.inside.heard.items) c.args.text.now

are_heard : (c : After-leap_classes) → AreHeardAs c.self.inside.heard.items c.self.inside.repeater.mode c.args.text.now (rows c)
are_heard c =
    let aside = subst (λ (x : KeptRepeater). IsPutAside x c.args.text.now) (sym c.self.view_is) (c.requires.aside (some_text c)) in
    aside_as c.self.inside.repeater.mode c.self.inside.heard.items c.args.text.now aside.repeats aside.source

heard_now : (c : After-leap_classes) → AreHeardAs c.deref.result.now c.self.inside.repeater.mode c.args.text.now (rows c)
heard_now c = subst (λ hs. AreHeardAs hs c.self.inside.repeater.mode c.args.text.now (rows c)) (sym c.deref.ensures.value) (are_heard c)

within : (c : After-leap_classes) → length c.args.text.now ≤ c.self.inside.steady
within c = subst (λ (x : KeptRepeater). length c.args.text.now ≤ x.steady) (sym c.self.view_is) c.requires.within

pub invariant_of-self : goal.invariant_of-self
invariant_of-self c =
    let at = (goal.at.invariant_of-self c).After-leap_classes in
    let i = c.self.invariant in
    let q = c.self.inside in
    let heard = are_heard at in
    let most = within at in (
      record {
        guards = c.leap_classes.ensures.ports ∙ i.0.guards;
        few = i.0.few;
        emitting = ap length (overwritten q.emitted.len c.leap_classes.new.emits q.emitted.items (search rules)) ∙ search rules;
        deciding = ap length (overwritten q.decided.len c.leap_classes.new.decided q.decided.items (search rules)) ∙ search rules;
        sending = i.0.sending;
        no_captures = i.0.no_captures;
      },
      record {
        hearing = i.1.hearing;
        stays_steady = subst (λ (x : RepeaterDevice). IsSteady q.heard.items x (q.steady - length c.args.text.now)) (sym (c.leap_classes.ensures.state (rows at) (heard_now at)))
            (lasts q.heard.items q.heard.items (rows at) q.repeater (q.steady - length c.args.text.now) heard.classes refl (λ j l. i.1.stays_steady j (omega (arith, heard.count, most, l))));
      },
    )

pub returns-clause-state : goal.returns-clause-state
returns-clause-state c =
    let at = (goal.at.returns-clause-state c).After-leap_classes in
    let q = c.self.inside in
    ap (λ (x : RepeaterDevice). let s : RepeaterState = record { t = q.t + length c.args.text.now; repeater = x; rows = q.log.rows } in s) (c.leap_classes.ensures.state (rows at) (heard_now at))
    ∙ ap (λ (x : KeptRepeater). state_later x.heard c.args.text.now x.state) c.self.view_is

pub returns-clause-sending : goal.returns-clause-sending
returns-clause-sending c = λ some.
    let at = (goal.at.returns-clause-sending c).After-leap_classes in
    let q = c.self.inside in
    let heard = are_heard at in
    let flags = overwritten q.decided.len c.leap_classes.new.decided q.decided.items (search rules) ∙ c.leap_classes.ensures.decided (some_text at) ∙ ap (λ hs. decided_by hs q.repeater) c.deref.ensures.value in
    sends_on _ q.heard.items q.repeater (rows at) q.steady (c.leap_classes.ensures.state (rows at) (heard_now at)) refl c.leap_classes.ensures.ports (ap (map is_signal) flags)
    (ap length (sym (c.leap_classes.ensures.emits (some_text at))) ∙ search rules) heard.classes (omega (arith, heard.count, some, within at)) c.self.invariant.1.stays_steady
