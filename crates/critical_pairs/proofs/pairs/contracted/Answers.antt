use Rattle.std.proofs.Common.{sym, subst}
use Rattle.rewriting.specs.Substitutions.{apply, values_of}
use Rattle.term_core.specs.Prelude.{view, ReplaceAnswers}
use Rattle.critical_pairs.specs.Building.{ContractedAnswers}
use Rattle.term_core.proofs.Rules.{handed_on}
use Rattle.critical_pairs.proofs.Sizes.{contracted_whole, contracted_error}
use Rattle.critical_pairs.proofs.pairs.contracted.Goals as goal

pub returns : goal.returns
returns c = contracted_whole _ c.args.pos.now _ c.replace.result c.requires.there
    (subst (λ z. ReplaceAnswers (view c.args.source.now) c.args.pos.now z c.replace.result) c.in_ok-part.ensures.0 c.replace.ensures)

pub returns-in_err-part : goal.returns-in_err-part
returns-in_err-part c =
    let u = apply (values_of c.args.m.now) (view c.args.right.now) in
    subst (ContractedAnswers (view c.args.source.now) c.args.pos.now u) (sym (handed_on _ _ c.from_residual.ensures.1))
    (contracted_error (view c.args.source.now) c.args.pos.now u _ c.in_err-part.ensures)
