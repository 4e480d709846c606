use Rattle.std.proofs.Common.{◌≡◌, ap, subst, Ok}
use Rattle.rewriting.specs.Prelude.{cons, nil, apply, even, odd}
use Rattle.term_core.specs.View.{view}
use Rattle.unification.specs.Answers.{UnifyAnswers}
use Rattle.critical_pairs.proofs.Runs.{part_renamed, has_part, refused_there}
use Rattle.critical_pairs.proofs.Spot.{clash_there, too_large_there, unifier_there}
use Rattle.critical_pairs.proofs.spots.unifier_at.Goals as goal
use Rattle.critical_pairs.proofs.spots.unifier_at.Goals.{In-Some}

-- the renamed terms of the triple
low : (c : In-Some) → view c.rules_at.result.0.now.left ≡ apply even c.requires.inner.left
low c = ap (λ z. z.left) (c.rules_at.ensures.renamed c.requires).0

part : (c : In-Some) → view c.in-Some.part.now ≡ apply odd c.requires.part
part c = part_renamed _ _ _ _ c.requires _ _ c.rules_at.ensures.renamed (view c.in-Some.part.now) c.in-Some.ensures

pub unreachable-requires : goal.unreachable-requires
unreachable-requires c = has_part _ _ _ _ c.requires _ _ c.rules_at.ensures.renamed c.in_default.ensures

pub returns-in-Clash : goal.returns-in-Clash
returns-in-Clash c =
    let at = (goal.at.returns-in-Clash c).In-Some in
    let a = subst (λ z. UnifyAnswers (cons (view c.rules_at.result.0.now.left) nil) (cons (view c.in-Some.part.now) nil) (Ok z)) c.in-Clash.is c.in_ok-unify_terms.ensures in
    clash_there _ _ _ _ c.requires _ _ (low at) (part at) a.0

pub returns-in-TooLarge : goal.returns-in-TooLarge
returns-in-TooLarge c =
    let at = (goal.at.returns-in-TooLarge c).In-Some in
    let a = subst (λ z. UnifyAnswers (cons (view c.rules_at.result.0.now.left) nil) (cons (view c.in-Some.part.now) nil) (Ok z)) c.in-TooLarge.is c.in_ok-unify_terms.ensures in
    refused_there _ _ _ _ c.too_large.result (too_large_there _ _ _ _ c.requires _ _ (low at) (part at) a) c.too_large.ensures

pub returns-in-Mgu : goal.returns-in-Mgu
returns-in-Mgu c =
    let at = (goal.at.returns-in-Mgu c).In-Some in
    let a = subst (λ z. UnifyAnswers (cons (view c.rules_at.result.0.now.left) nil) (cons (view c.in-Some.part.now) nil) (Ok z)) c.in-Mgu.is c.in_ok-unify_terms.ensures in
    unifier_there _ _ _ _ c.requires _ _ (low at) (part at) a.0.0 c.in-Mgu.m a.0.1 a.0.2
