use Rattle.std.proofs.Common.{length, sym, ap, subst}
use Rattle.unravel.specs.RuleAnswers.{DoTermsFit}
use Rattle.unravel.proofs.Progress.{terms_fit}
use Rattle.lpo.proofs.FirstReason.{of_system}
use Rattle.lpo.proofs.reasons.first_reason.Goals as goal

pub reason_of-requires-clause-fits : goal.reason_of-requires-clause-fits
reason_of-requires-clause-fits c = let rules = c.rules-rules.ensures in subst DoTermsFit (sym rules.rules) (terms_fit c.args.sys.now.arities c.args.sys.now.rules rules.sound.rules)

pub returns : goal.returns
returns c = of_system c.args.sys.now (length c.arities.result.now) c.rules-rules.result.now c.args.shape c.args.places.now c.reason_of.result c.rules-rules.ensures.rules
    (ap length c.arities.ensures) c.reason_of.ensures
