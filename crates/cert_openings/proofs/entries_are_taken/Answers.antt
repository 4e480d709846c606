use Rattle.cert_openings.proofs.OneReading.{one_reading}
use Rattle.cert_openings.proofs.Entries.{entry_is_taken, number_tells}
use Rattle.cert_openings.proofs.entries_are_taken.Goals as goal

pub returns-clause-taken : goal.returns-clause-taken
returns-clause-taken c = entry_is_taken

pub returns-clause-told : goal.returns-clause-told
returns-clause-told c = number_tells

pub returns-clause-one : goal.returns-clause-one
returns-clause-one c = one_reading
