use Rattle.concon_run.specs.Commands.{check, prove, selftest, query}
use Rattle.concon_run.proofs.top.run.Goals as goal

pub returns-clause-answer : goal.returns-clause-answer
returns-clause-answer g c = c.run_known.ensures.answer

pub returns-clause-yes_is_sound : goal.returns-clause-yes_is_sound
returns-clause-yes_is_sound g c = c.run_known.ensures.yes_is_sound

pub returns-clause-no_is_sound : goal.returns-clause-no_is_sound
returns-clause-no_is_sound g c = c.run_known.ensures.no_is_sound

pub returns-clause-exactly : goal.returns-clause-exactly
returns-clause-exactly g c = c.run_known.ensures.exactly

pub returns-clause-complete : goal.returns-clause-complete
returns-clause-complete g c = c.run_known.ensures.complete

pub returns-clause-searched : goal.returns-clause-searched
returns-clause-searched g c = c.run_known.ensures.searched

pub returns-clause-searched_whole : goal.returns-clause-searched_whole
returns-clause-searched_whole g c = c.run_known.ensures.searched_whole

pub returns-clause-enough : goal.returns-clause-enough
returns-clause-enough g c = c.run_known.ensures.enough

pub returns-clause-enough_whole : goal.returns-clause-enough_whole
returns-clause-enough_whole g c = c.run_known.ensures.enough_whole

pub returns-clause-self_tested : goal.returns-clause-self_tested
returns-clause-self_tested g c = c.run_known.ensures.self_tested

pub returns-clause-usage : goal.returns-clause-usage
returns-clause-usage g c = c.run_known.ensures.usage

pub returns-clause-usage_exactly : goal.returns-clause-usage_exactly
returns-clause-usage_exactly g c = c.run_known.ensures.usage_exactly

pub returns-clause-file_refused : goal.returns-clause-file_refused
returns-clause-file_refused g c = c.run_known.ensures.file_refused

pub returns-clause-cert_refused : goal.returns-clause-cert_refused
returns-clause-cert_refused g c = c.run_known.ensures.cert_refused

pub returns-clause-rejected : goal.returns-clause-rejected
returns-clause-rejected g c = c.run_known.ensures.rejected

pub returns-clause-yes : goal.returns-clause-yes
returns-clause-yes g c = c.run_known.ensures.yes

pub returns-clause-no : goal.returns-clause-no
returns-clause-no g c = c.run_known.ensures.no

pub returns-clause-proved : goal.returns-clause-proved
returns-clause-proved g c = c.run_known.ensures.proved

pub returns-clause-undecided : goal.returns-clause-undecided
returns-clause-undecided g c = c.run_known.ensures.undecided

pub returns-clause-read_fault : goal.returns-clause-read_fault
returns-clause-read_fault g c = c.run_known.ensures.read_fault

pub returns-clause-write_fault : goal.returns-clause-write_fault
returns-clause-write_fault g c = c.run_known.ensures.write_fault

pub returns-clause-no_memory : goal.returns-clause-no_memory
returns-clause-no_memory g c = c.run_known.ensures.no_memory

pub returns-clause-of_check : goal.returns-clause-of_check
returns-clause-of_check g c = c.run_known.ensures.of_check

pub returns-clause-of_prove : goal.returns-clause-of_prove
returns-clause-of_prove g c = c.run_known.ensures.of_prove

pub returns-clause-nothing_begun : goal.returns-clause-nothing_begun
returns-clause-nothing_begun g c none = (c.run_known.ensures.nothing_asked none).begun

pub returns-clause-nothing_given : goal.returns-clause-nothing_given
returns-clause-nothing_given g c none = (c.run_known.ensures.nothing_asked none).given

pub returns-clause-test_begins_nothing : goal.returns-clause-test_begins_nothing
returns-clause-test_begins_nothing g c n form = (c.run_known.ensures.asked (selftest n) form).begun

pub returns-clause-test_gives_nothing : goal.returns-clause-test_gives_nothing
returns-clause-test_gives_nothing g c n form = (c.run_known.ensures.asked (selftest n) form).given

pub returns-clause-search_begins_file : goal.returns-clause-search_begins_file
returns-clause-search_begins_file g c file budget form = c.run_known.ensures.asked (prove file budget) form

pub returns-clause-check_begins_files : goal.returns-clause-check_begins_files
returns-clause-check_begins_files g c file cert form = c.run_known.ensures.asked (check file cert) form

pub returns-clause-queried : goal.returns-clause-queried
returns-clause-queried g c = c.run_known.ensures.queried

pub returns-clause-query_complete : goal.returns-clause-query_complete
returns-clause-query_complete g c = c.run_known.ensures.query_complete

pub returns-clause-query_proved : goal.returns-clause-query_proved
returns-clause-query_proved g c = c.run_known.ensures.query_proved

pub returns-clause-query_refused : goal.returns-clause-query_refused
returns-clause-query_refused g c = c.run_known.ensures.query_refused

pub returns-clause-of_query : goal.returns-clause-of_query
returns-clause-of_query g c = c.run_known.ensures.of_query

pub returns-clause-query_begins_files : goal.returns-clause-query_begins_files
returns-clause-query_begins_files g c file text budget form = c.run_known.ensures.asked (query file text budget) form
