use Rattle.concon_run.specs.Replies.{reply_said}
use Rattle.concon_run.specs.Run.{run_of}
use Rattle.concon_run.proofs.Runs.{known_systems, known_certificates, known_queries, is_run}
use Rattle.concon_run.proofs.top.run_known.Goals as goal

pub returns : goal.returns
returns g c =
    is_run (known_systems c.one_reading.ensures.one c.one_reading.ensures.refusal c.one_reading.ensures.either)
    (known_certificates c.one_answer.ensures.refusal c.one_answer.ensures.never_both c.certificates_have_one_answer.ensures)
    (known_queries c.one_query.ensures.one c.one_query.ensures.refusal c.one_query.ensures.either c.query_spaces_are_searchable.ensures.searchable c.query_spaces_are_searchable.ensures.prices)
    (run_of g.S.Shelf g.K.Sink g.E.Sink c.args.words.now c.deliver.result c.args.shelf.now c.decide-reply.new.shelf c.args.out.now c.deliver.new.out c.args.err.now c.deliver.new.err)
    (reply_said c.decide-reply.result, c.decide-reply.ensures, c.deliver.ensures)
    c.proof_spaces_are_searchable.ensures.whole c.proof_spaces_are_searchable.ensures.same
