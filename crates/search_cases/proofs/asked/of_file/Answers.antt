use Rattle.cops_read.proofs.Laws.{named}
use Rattle.search_cases.proofs.asked.of_file.Goals as goal

pub of_system-requires : goal.of_system-requires
of_system-requires c = named _ _ _ c.in-Ok.ensures
