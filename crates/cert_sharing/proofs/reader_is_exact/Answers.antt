use Rattle.cert_sharing.proofs.ExactShared.{read_text_is, answers_are_read}
use Rattle.cert_sharing.proofs.reader_is_exact.Goals as goal

pub returns-clause-exact : goal.returns-clause-exact
returns-clause-exact c = read_text_is

pub returns-clause-found : goal.returns-clause-found
returns-clause-found c = answers_are_read
