use Rattle.std.proofs.Common.{Ok, map, sym, subst}
use Rattle.rewriting.specs.Systems.{AreRules}
use Rattle.term_core.specs.View.{view}
use Rattle.search_spaces.specs.PeakItems.{peak_items}
use Rattle.search_answers.specs.Given.{IsOverlapList}
use Rattle.noncon_search.specs.Answers.{WalkAnswers}
use Rattle.noncon_search.proofs.Listed.{lefts_fit, sources_fit}
use Rattle.noncon_search.proofs.Ending.{items_of_rules, starts_end, starts_fail, starts_over}
use Rattle.noncon_search.proofs.try_starts.Goals as goal

pub try_each-requires : goal.try_each-requires
try_each-requires c = record { fit = lefts_fit c.args.sys.now.arities c.rules.result.now (subst (AreRules c.args.sys.now.arities) (sym c.rules.ensures.rules) c.rules.ensures.sound.rules) }

pub returns-in_err-end : goal.returns-in_err-end
returns-in_err-end c =
    starts_fail c.args.sys.now c.rules.result.now c.rules.ensures.rules c.args.names.now c.args.budget.now c.try_each.new.budget c.args.overlaps c.requires.overlaps
    c.from_residual.result c.from_residual.ensures.0 c.in_err-end.ensures

pub returns-in_default : goal.returns-in_default
returns-in_default c =
    starts_end c.args.sys.now c.rules.result.now c.rules.ensures.rules c.args.names.now c.args.budget.now c.try_each.new.budget c.args.overlaps c.requires.overlaps c.in_ok-end.end
    c.in_default.not-Nothing c.in_ok-end.ensures

pub try_each-requires-in-Some : goal.try_each-requires-in-Some
try_each-requires-in-Some c = record { fit = sources_fit c.args.sys.now c.in-Some.overlaps.now (subst (IsOverlapList c.args.sys.now) c.in-Some.is c.requires.overlaps) }

pub returns-in-Some : goal.returns-in-Some
returns-in-Some c =
    let sys = c.args.sys.now in
    starts_over sys c.rules.result.now c.rules.ensures.rules c.args.names.now c.args.budget.now c.try_each.new.budget c.in-Some.overlaps.now
    (subst (IsOverlapList sys) c.in-Some.is c.requires.overlaps)
    (subst (λ z. WalkAnswers c.args.names.now sys (peak_items sys (map (λ r. view r.left) c.rules.result.now)) c.args.budget.now c.try_each.new.budget (Ok z)) c.in-Nothing.is c.in_ok-end.ensures)
    c.try_each-in-Some.new.budget c.try_each-in-Some.result c.try_each-in-Some.ensures

pub returns-in-None : goal.returns-in-None
returns-in-None c =
    let sys = c.args.sys.now in (
      peak_items sys (map (λ r. view r.left) c.rules.result.now),
      items_of_rules sys c.rules.result.now c.rules.ensures.rules (subst (IsOverlapList sys) c.in-None.is c.requires.overlaps),
      subst (λ z. WalkAnswers c.args.names.now sys (peak_items sys (map (λ r. view r.left) c.rules.result.now)) c.args.budget.now c.try_each.new.budget (Ok z)) c.in-Nothing.is c.in_ok-end.ensures,
    )
