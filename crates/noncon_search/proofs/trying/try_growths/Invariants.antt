use Rattle.std.proofs.Common.{map}
use Rattle.term_core.specs.RuleView.{condition_view}
use Rattle.noncon_search.proofs.Firsts.{IsBehind}
use Rattle.noncon_search.proofs.trying.try_growths.Given as goal

abbrev pub invariant-growths : goal.invariant-growths
invariant-growths l = IsBehind l.sys (map condition_view l.conds) l.before l.count
