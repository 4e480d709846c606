use Rattle.std.proofs.Common.{map, sym}
use Rattle.term_core.specs.RuleView.{condition_view}
use Rattle.evidence_offers.proofs.Growing.{condition_fits}
use Rattle.evidence_offers.proofs.offer_growth.Goals as goal

pub grown-requires : goal.grown-requires
grown-requires c = record {
  fits = condition_fits (map condition_view c.args.conds.now) c.args.cond (condition_view c.in-Some.asked.now) c.requires.fit (sym c.in-Some.ensures);
}
