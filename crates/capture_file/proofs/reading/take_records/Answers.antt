use Rattle.std.proofs.Common.{◌≡◌, ◌≤◌, ◌+◌, ◌++◌, ◌∷◌, [], length, drop, ap, arith, rules, append_assoc, length-append, length-drop, length-take, true}
use Rattle.std.proofs.lemmas.List.{take-append-le}
use Rattle.capture_file.specs.Captures.{is_whole, records_in, record_at, captured_length}
use Rattle.capture_file.specs.declared.entries.Record.{Record}
use Rattle.capture_file.proofs.Walk.{records_step, rest_step}
use Rattle.capture_file.proofs.reading.take_records.Goals as goal

pub whole-preserved : goal.whole-preserved
whole-preserved c =
    let form = c.args.form in
    let front = c.whole.rest.now in
    let behind = c.split_at.result.1.now in
    let w : is_whole form front ≡ true = grind arith in
    let first = record_at form front in
    let records = records_step form front w in
    let rest = rest_step form front w in
    let pushed : c.push.new.self ≡ c.whole.records ++ first ∷ [] = search rules in
    let after : behind ≡ drop (16 + captured_length form front) front = grind arith in
    let joined = append_assoc c.whole.records (first ∷ []) (records_in form 0 behind) in
    record {
      records = cc joined;
      rest = cc;
      room = omega (arith, ap (length {A = Record}) pushed, length-append c.whole.records (first ∷ []), ap length after, length-drop (16 + captured_length form front) front);
      same = let few : length c.args.records.now ≤ length c.whole.records = omega (arith, length-take (length c.args.records.now) c.whole.records, ap (length {A = Record}) c.whole.invariant.same) in cc (take-append-le (length c.args.records.now) c.whole.records (first ∷ []) few);
    }
