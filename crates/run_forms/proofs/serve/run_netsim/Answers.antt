use Rattle.std.proofs.Common.{ℕ, Option, ap}
use Rattle.std.specs.Prelude.{unwrap_or}
use Rattle.run_endings.proofs.DoneByRunForm.{detected, done}
use Rattle.run_forms.proofs.serve.run_netsim.Goals as goal

pub returns-clause-done : goal.returns-clause-done
returns-clause-done g c is =
    done c.args.words.now _ _ c.status.result (record { by = c.in_ok-run_words.field-0; is = c.status.ensures; allowed = c.in_ok-run_words.ensures.ended }) (ap (λ (o : Option ℕ). unwrap_or o 1) is)

pub returns-clause-detected : goal.returns-clause-detected
returns-clause-detected g c is =
    detected c.args.words.now _ _ c.status.result (record { by = c.in_ok-run_words.field-0; is = c.status.ensures; allowed = c.in_ok-run_words.ensures.ended }) (ap (λ (o : Option ℕ). unwrap_or o 1) is)
