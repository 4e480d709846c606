use Rattle.concon_run.proofs.Searches.{ended}
use Rattle.concon_run.proofs.Shown.{shown}
use Rattle.concon_run.proofs.prove.outcome_within.Goals as goal

pub returns : goal.returns
returns c =
    ended c.args.names.now c.args.sys.now (c.proof_spaces_are_searchable.ensures.whole c.args.names.now c.args.sys.now)
    (λ d. shown c.valid_certificates_are_confluent.ensures c.valid_measured_systems_are_confluent.ensures c.valid_peaks_reach_apart.ensures c.args.names.now
    c.join_systems_keep_their_rules.ensures.confluent c.args.sys.now d c.rules_are_sound.ensures
    (c.one_reading.ensures.named c.requires.0 c.args.sys.now c.args.names.now c.requires.1) (c.one_reading.ensures.told c.requires.0 c.args.sys.now c.args.names.now c.requires.1))
    c.args.units _ _ c.new-budget.ensures.left c.prove.result c.prove.ensures.searched c.prove.ensures.written c.prove.ensures.exhausted
