use Rattle.std.proofs.Common.{◌≡◌, ℕ, ◌+◌, List, ◌++◌, length, map, codes, sym, ap, subst, ◌∙◌, arith}
use Rattle.std.proofs.lemmas.List.{length-map}
use denote.Ref.{Bor}
use Rattle.line_probe.specs.declared.run.Run.{Run}
use Rattle.wave_dump.specs.Dump.{head_of_dump}
use Rattle.wave_dump.specs.Values.{line_of_time}
use Rattle.wave_dump.specs.Waiting.{begun_moment, begun_values, runs_after}
use Rattle.wave_dump.specs.Heard.{all_heard}
use Rattle.wave_dump.proofs.Joined.{one_and_four}
use Rattle.wave_dump.proofs.ProbedTaps.{probed_are_heard}
use Rattle.wave_dump.proofs.SoFar.{IsDumpedTo, dumped_first, dumped_more, dumped_last}
use Rattle.wave_dump.proofs.Taken.{written_back}
use Rattle.wave_dump.proofs.dump.waves_text.Goals as goal

-- the runs behind references
abbrev runs_behind : List (Bor (List Run)) → List (List Run)
runs_behind waiting = map (λ runs. runs.now) waiting

pub told-init : goal.told-init
told-init c =
    let back = written_back c.take_begun.new.waiting c.in_ok-waiting.waiting.items c.in_ok-waiting.waiting.len (c.take_begun.auto.waiting ∙ c.deref_mut.ensures.len) (ap length (sym c.deref_mut.ensures.value) ∙ c.deref_mut.ensures.len) in
    let all : runs_behind c.in_ok-waiting.waiting.items ≡ c.args.lists.now = c.in_ok-waiting.ensures ∙ c.as_slice.ensures in
    let taken = c.take_begun.ensures ∙ ap (λ xs. map (runs_after c.args.from) (runs_behind xs)) c.deref_mut.ensures.value ∙ ap (map (runs_after c.args.from)) all in
    let waiting = ap runs_behind back ∙ taken in
    let text = one_and_four (head_of_dump c.args.names.now c.args.from c.args.to) (line_of_time c.args.from) (codes "$dumpvars\n") (begun_values c.args.from 0 c.args.lists.now) (codes "$end\n")
    c.new-text.result c.add_head.new.text c.add_time.new.text c.extend.new.self c.add_all_begun.new.text c.extend-2.new.self
    c.new-text.ensures c.in_ok-add_head.ensures c.in_ok-add_time.ensures c.in_ok-extend.ensures.ok
    (c.in_ok-add_all_begun.ensures ∙ ap (λ xs. c.extend.new.self ++ begun_values c.args.from 0 (runs_behind xs)) c.deref.ensures.value ∙ ap (λ xs. c.extend.new.self ++ begun_values c.args.from 0 xs) all)
    c.in_ok-extend-2.ensures.ok in
    record {
      taps = ap length back ∙ c.take_begun.auto.waiting ∙ ap length c.deref_mut.ensures.value ∙ sym (length-map c.in_ok-waiting.waiting.items (λ (runs : Bor (List Run)). runs.now)) ∙ ap length all;
      dumped = λ heard h. subst (λ (ws : List (List Run)). IsDumpedTo c.args.names.now c.args.from c.args.to (c.args.from + 1) heard ws c.extend-2.new.self) (sym waiting)
          (dumped_first c.args.names.now c.args.from c.args.to heard c.args.lists.now c.extend-2.new.self c.requires.order h text);
    }

pub told-preserved : goal.told-preserved
told-preserved c =
    let back = written_back c.tell.new.waiting c.told.waiting.items c.told.waiting.len (c.tell.auto.waiting ∙ c.deref_mut-in-told.ensures.len) (ap length (sym c.deref_mut-in-told.ensures.value) ∙ c.deref_mut-in-told.ensures.len) in
    let waiting = ap runs_behind back ∙ c.in_ok-tell.ensures.waiting ∙ ap (λ xs. map (runs_after c.told.t) (runs_behind xs)) c.deref_mut-in-told.ensures.value in
    let text = c.in_ok-tell.ensures.text ∙ ap (λ xs. c.told.text ++ begun_moment c.told.t (runs_behind xs)) c.deref_mut-in-told.ensures.value in
    record {
      taps = ap length back ∙ c.tell.auto.waiting ∙ ap length c.deref_mut-in-told.ensures.value ∙ c.told.invariant.taps;
      dumped = λ heard h. subst (λ (ws : List (List Run)). IsDumpedTo c.args.names.now c.args.from c.args.to (c.told.t + 1) heard ws c.tell.new.text) (sym waiting)
          (subst (λ (xs : List ℕ). IsDumpedTo c.args.names.now c.args.from c.args.to (c.told.t + 1) heard (map (runs_after c.told.t) (runs_behind c.told.waiting.items)) xs) (sym text)
          (dumped_more c.args.names.now c.args.from c.args.to c.told.t heard (runs_behind c.told.waiting.items) c.told.text (omega arith) c.told-test.true (c.told.invariant.dumped heard h)));
    }

pub returns-clause-text : goal.returns-clause-text
returns-clause-text c heard h =
    let last : c.told.t ≡ c.args.to = omega arith in
    dumped_last c.args.names.now c.args.from c.args.to heard (runs_behind c.told.waiting.items) c.told.text c.add_time-2.new.text c.in_ok-add_time-2.ensures
    (subst (λ (t : ℕ). IsDumpedTo c.args.names.now c.args.from c.args.to t heard (runs_behind c.told.waiting.items) c.told.text) last (c.told.invariant.dumped heard h))

pub returns-clause-probed : goal.returns-clause-probed
returns-clause-probed c plan taps h =
    returns-clause-text c (all_heard plan taps c.args.from c.args.to) (probed_are_heard plan c.args.from c.args.to taps c.args.lists.now h)
