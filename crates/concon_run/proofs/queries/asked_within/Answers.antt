use Rattle.concon_run.proofs.Asking.{bytes_replied}
use Rattle.concon_run.proofs.queries.asked_within.Goals as goal

pub ask-requires : goal.ask-requires
ask-requires c = c.one_reading.ensures.named c.requires.0 c.args.sys.now c.args.names.now c.requires.1

pub returns : goal.returns
returns c =
    bytes_replied c.query_spaces_are_searchable.ensures.searchable c.args.sys.now c.args.names.now c.args.bytes.now c.args.units _ _ c.new-budget.ensures.left c.ask.result c.ask.ensures.answered
