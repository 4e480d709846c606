use Rattle.std.proofs.Common.{◌∙◌, ◌+◌, ◌*◌, refl, sym, subst}
use Rattle.rewriting.specs.Prelude.{Fits, odd}
use Rattle.rewriting.proofs.Instances.{apply-agree}
use Rattle.unifier_run.proofs.Renamed.{fits_with_names}
use Rattle.term_core.specs.View.{view}
use Rattle.unification.specs.Answers.{renaming}
use Rattle.irreducible.proofs.judge_small.Goals as goal

pub judge-requires : goal.judge-requires
judge-requires c = subst Fits (sym c.in_ok-apart.ensures) (fits_with_names (λ k. 2 * k + 1) (view c.args.t.now) c.requires.fits)

pub returns : goal.returns
returns c = c.judge.ensures (view c.args.t.now) (c.in_ok-apart.ensures ∙ apply-agree (renaming 2 1) odd (view c.args.t.now) (λ x o. refl))
