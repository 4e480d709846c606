use Rattle.std.proofs.Common.{◌∙◌, sym}
use Rattle.std.proofs.lemmas.Bool.{or_left}
use Rattle.rewriting.proofs.Variables.{linear_in_parts}
use Rattle.term_core.specs.View.{view}
use Rattle.tcap_infeasible.proofs.Linear.{AreLinearApart, clash_outcome, unifier_outcome}
use Rattle.tcap_infeasible.proofs.capping.judge_left.Goals as goal
use Rattle.tcap_infeasible.proofs.capping.judge_left.Goals.{After-clashes}

linear_apart : (c : After-clashes) → AreLinearApart (view c.args.left.now) (view c.args.part.now)
linear_apart c =
    record {
      left = linear_in_parts _ (c.requires.left_linear c.if-is_linear.true);
      right = linear_in_parts _ c.requires.linear;
      apart = λ x o p. c.requires.apart x o (or_left _ _ p);
      left_fits = c.requires.left_fits;
      right_fits = c.requires.fits;
    }

pub returns-then-clashes : goal.returns-then-clashes
returns-then-clashes c = clash_outcome _ _ (linear_apart (goal.at.returns-then-clashes c).After-clashes) (sym c.clashes.ensures ∙ c.if-clashes.true)

pub returns-else-clashes : goal.returns-else-clashes
returns-else-clashes c = unifier_outcome _ _ (linear_apart (goal.at.returns-else-clashes c).After-clashes) (sym c.clashes.ensures ∙ c.if-clashes.false)
