use Rattle.program_endings.proofs.EveryForm.{words_of_none, refused, failed}
use Rattle.program_endings.proofs.DoneByForm.{done}
use Rattle.program_endings.proofs.FilesAfterRuns.{broken, memory}
use Rattle.program_endings.proofs.LoadsDecideStatus.{complete}
use Rattle.program_endings.proofs.CollisionsAreTold.{collisions_are_told}
use Rattle.netsim.proofs.top_call.netsim.Goals as goal

pub returns-clause-detected : goal.returns-clause-detected
returns-clause-detected g c = collisions_are_told c.args.words.now _ _ _ (record { by = c.run_words.result; is = c.status.ensures; allowed = c.run_words.ensures })

pub returns-clause-words : goal.returns-clause-words
returns-clause-words g c = words_of_none c.args.words.now _ _ _ (record { by = c.run_words.result; is = c.status.ensures; allowed = c.run_words.ensures })

pub returns-clause-done : goal.returns-clause-done
returns-clause-done g c = done c.args.words.now _ _ _ (record { by = c.run_words.result; is = c.status.ensures; allowed = c.run_words.ensures })

pub returns-clause-refused : goal.returns-clause-refused
returns-clause-refused g c = refused c.args.words.now _ _ _ (record { by = c.run_words.result; is = c.status.ensures; allowed = c.run_words.ensures })

pub returns-clause-failed : goal.returns-clause-failed
returns-clause-failed g c = failed c.args.words.now _ _ _ (record { by = c.run_words.result; is = c.status.ensures; allowed = c.run_words.ensures })

pub returns-clause-broken : goal.returns-clause-broken
returns-clause-broken g c = broken c.args.words.now _ _ _ (record { by = c.run_words.result; is = c.status.ensures; allowed = c.run_words.ensures })

pub returns-clause-memory : goal.returns-clause-memory
returns-clause-memory g c = memory c.args.words.now _ _ _ (record { by = c.run_words.result; is = c.status.ensures; allowed = c.run_words.ensures })

pub returns-clause-complete : goal.returns-clause-complete
returns-clause-complete g c = complete c.args.words.now _ _ _ (record { by = c.run_words.result; is = c.status.ensures; allowed = c.run_words.ensures })
