use Rattle.log_meter.specs.Entries.{line_of}
use Rattle.log_meter.proofs.LinesApart.{feed_found, no_feed_read, no_line_read}
use Rattle.log_meter.proofs.log.line_with_feed.Goals as goal

pub returns-in_default-clause-none : goal.returns-in_default-clause-none
returns-in_default-clause-none c = no_line_read c.args.octets.now c.in_default.ensures

pub returns-in_default-after_word-clause-none : goal.returns-in_default-after_word-clause-none
returns-in_default-after_word-clause-none c = no_feed_read c.args.octets.now (line_of c.in-Some.entry) c.in-Some.rest.now c.in-Some.ensures c.in_default-after_word.ensures

pub returns-clause-grammar : goal.returns-clause-grammar
returns-clause-grammar c = (feed_found c.args.octets.now (line_of c.in-Some.entry) c.in-Some.rest.now c.in-Some-after_word.rest.now c.in-Some.ensures c.in-Some-after_word.ensures).grammar

pub returns-clause-text : goal.returns-clause-text
returns-clause-text c = (feed_found c.args.octets.now (line_of c.in-Some.entry) c.in-Some.rest.now c.in-Some-after_word.rest.now c.in-Some.ensures c.in-Some-after_word.ensures).text

pub returns-clause-shorter : goal.returns-clause-shorter
returns-clause-shorter c = (feed_found c.args.octets.now (line_of c.in-Some.entry) c.in-Some.rest.now c.in-Some-after_word.rest.now c.in-Some.ensures c.in-Some-after_word.ensures).shorter
