use Rattle.std.proofs.Common.{sym, subst}
use Rattle.rewriting.specs.Systems.{AreRules}
use Rattle.search_answers.specs.Given.{IsOverlapList}
use Rattle.noncon_search.proofs.Listed.{lefts_fit, sources_fit}
use Rattle.wide_search.proofs.starts.Peaks.try_all.Goals as goal

pub try_each-requires : goal.try_each-requires
try_each-requires c = record { fit = sources_fit c.args.self.now.sys.now c.in-Some.overlaps.now (subst (IsOverlapList c.args.self.now.sys.now) c.in-Some.is c.requires.overlaps) }

pub try_each-requires-2 : goal.try_each-requires-2
try_each-requires-2 c = record {
  fit = lefts_fit c.args.self.now.sys.now.arities c.rules.result.now
      (subst (AreRules c.args.self.now.sys.now.arities) (sym c.rules.ensures.rules) c.rules.ensures.sound.rules);
}
