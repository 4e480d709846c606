use Rattle.std.proofs.Common.{◌∷◌, [], map, length, sym, ap, subst}
use Rattle.std.proofs.lemmas.List.{length-map}
use Rattle.term_core.specs.RuleView.{condition_view}
use Rattle.search_spaces.specs.Refuting.{growths, try_caps}
use Rattle.query_space.specs.Items.{try_refuting, query_item_cost, GivesAnswer}
use Rattle.search_answers.proofs.Walking.{two_parts, first_part}
use Rattle.query_search.specs.Answers.{reply_view, WalkAnswers}
use Rattle.query_search.proofs.Ending.{not_nothing}
use Rattle.query_search.proofs.refuting.try_evidences.Goals as goal

pub returns-in-Exhausted : goal.returns-in-Exhausted
returns-in-Exhausted c =
    let sys = c.args.sys.now in
    let cs = map condition_view c.args.conds.now in
    two_parts (query_item_cost sys cs) (GivesAnswer sys cs) (try_refuting try_caps ∷ []) (map try_refuting (growths (length cs))) c.args.budget.now c.try_evidence.new.budget reply_view
    c.try_growths.new.budget (reply_view c.in_ok-end.end) (ap reply_view c.in-Exhausted.is) c.in_ok-end.ensures c.try_growths.result
    (subst (λ n. WalkAnswers sys cs (map try_refuting (growths n)) c.try_evidence.new.budget c.try_growths.new.budget c.try_growths.result)
    (sym (length-map c.args.conds.now condition_view)) c.try_growths.ensures)

pub returns-in_default : goal.returns-in_default
returns-in_default c =
    let sys = c.args.sys.now in
    let cs = map condition_view c.args.conds.now in
    first_part (query_item_cost sys cs) (GivesAnswer sys cs) (try_refuting try_caps ∷ []) (map try_refuting (growths (length cs))) c.args.budget.now c.try_evidence.new.budget
    (reply_view c.in_ok-end.end) (not_nothing c.in_ok-end.end c.in_default.not-Exhausted) c.in_ok-end.ensures
