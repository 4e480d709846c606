use Rattle.cert_check.proofs.FileYes.{file_yes}
use Rattle.cert_check.proofs.Texts.{exact_refusal}
use Rattle.cert_check.proofs.bytes.check_bytes.Goals as goal

pub returns-clause-file : goal.returns-clause-file
returns-clause-file c = file_yes c.join_systems_keep_their_rules.ensures.confluent c.args.sys.now c.judge_bytes.result c.judge_bytes.ensures.yes

pub returns-clause-exact_refusal : goal.returns-clause-exact_refusal
returns-clause-exact_refusal c = exact_refusal c.one_answer.ensures.never_both c.args.sys.now c.args.names.now c.args.bytes.now c.judge_bytes.result c.judge_bytes.ensures.answers
