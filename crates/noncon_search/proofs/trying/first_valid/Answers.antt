use Rattle.std.proofs.Common.{map, length}
use Rattle.term_core.specs.RuleView.{condition_view}
use Rattle.search_spaces.specs.Refuting.{try_caps, growths}
use Rattle.noncon_search.proofs.Firsts.{first_gives, rest_gives}
use Rattle.noncon_search.proofs.trying.first_valid.Goals as goal

pub returns-in-Some : goal.returns-in-Some
returns-in-Some c =
    first_gives c.args.sys.now (map condition_view c.args.conds.now) try_caps (growths (length c.args.conds.now)) c.in-Some.evidence (rw c.in-Some.is at c.in_ok-evidence.ensures)

pub returns-in-None : goal.returns-in-None
returns-in-None c =
    rest_gives c.args.sys.now (map condition_view c.args.conds.now) try_caps (growths (length c.args.conds.now)) (rw c.in-None.is at c.in_ok-evidence.ensures)
    c.try_growths.result c.try_growths.ensures
