use Rattle.std.proofs.Common.{refl, ap, ◌∙◌, map, length}
use Rattle.rewriting.specs.Overlaps.{conditions_under}
use Rattle.term_core.specs.RuleView.{condition_view}
use Rattle.redex_conditions.specs.Judged.{match_or_new}
use Rattle.redex_conditions.proofs.Completing.{few_instances}
use Rattle.search_spaces.specs.Refuting.{refutings}
use Rattle.noncon_search.proofs.Firsts.{first_same, large_gives}
use Rattle.noncon_search.proofs.entries.EntryMaker.evidence_for.Goals as goal

pub first_valid-requires-clause-few : goal.first_valid-requires-clause-few
first_valid-requires-clause-few c =
    let h = rw c.in-Some.is at c.in_ok-conds.ensures in few_instances _ _ c.requires.sound _ _ _ refl (ap (map condition_view) c.deref.ensures.value ∙ h.0)

pub returns-in-Some : goal.returns-in-Some
returns-in-Some c =
    let h = rw c.in-Some.is at c.in_ok-conds.ensures in
    first_same c.args.self.now.sys.now c.deref.result.now (match_or_new c.args.self.now.own c.args.values) (map condition_view c.args.rule.now.conds.items) c.first_valid.result
    (ap (map condition_view) c.deref.ensures.value ∙ h.0) c.first_valid.ensures

pub returns-in-None : goal.returns-in-None
returns-in-None c =
    let cs = map condition_view c.args.rule.now.conds.items in
    large_gives c.args.self.now.sys.now (conditions_under (match_or_new c.args.self.now.own c.args.values) cs) (rw c.in-None.is at c.in_ok-conds.ensures) (refutings (length cs))
