-- A code, by which a program's type may have listed terms as its value: a derivation is told by a term, and that by its code.
use Rattle.std.specs.Prelude.{◌≡◌, List, [], ◌∷◌, refl}
use Rattle.std.specs.Coded.{Coded, code_by, coded×, coded_list}
use base.Stored.{coded_via}
use Rattle.rewriting.specs.Prelude.{Term, var, app, Terms, nil, cons, Position, coded_term}
use Rattle.certificates.specs.Derivations.{Derivation, no_steps, first_step, Step, by_rule, by_hypothesis, Derivations, no_derivations, first_derivation}
use Rattle.reach_lists.specs.Solutions.{Reached}

-- a position's numbers as variables
abbrev place_terms : Position → Terms
place_terms [] = nil
place_terms (k ∷ p) = cons (var k) (place_terms p)

-- a derivation by a term for each step
abbrev mutual
  step_terms : Derivation → Terms
  step_terms no_steps = nil
  step_terms (first_step s d) = cons (step_term s) (step_terms d)

  step_term : Step → Term
  step_term (by_rule i p ds) = app 0 (cons (var i) (cons (app 0 (place_terms p)) (derivation_terms ds)))
  step_term (by_hypothesis k p) = app 1 (cons (var k) (place_terms p))

  derivation_terms : Derivations → Terms
  derivation_terms no_derivations = nil
  derivation_terms (first_derivation d ds) = cons (app 0 (step_terms d)) (derivation_terms ds)

place_terms-injective : (p q : Position) → place_terms p ≡ place_terms q → p ≡ q
place_terms-injective [] [] e = refl
place_terms-injective [] (l ∷ q) e = cc
place_terms-injective (k ∷ p) [] e = cc
place_terms-injective (k ∷ p) (l ∷ q) e = let rest = place_terms-injective p q cc in cc

mutual
  step_terms-injective : (d e : Derivation) → step_terms d ≡ step_terms e → d ≡ e
  step_terms-injective no_steps no_steps h = refl
  step_terms-injective no_steps (first_step s e) h = cc
  step_terms-injective (first_step r d) no_steps h = cc
  step_terms-injective (first_step r d) (first_step s e) h = let first = step_term-injective r s cc in let rest = step_terms-injective d e cc in cc

  step_term-injective : (r s : Step) → step_term r ≡ step_term s → r ≡ s
  step_term-injective (by_rule i p ds) (by_rule j q es) h = let place = place_terms-injective p q cc in let rest = derivation_terms-injective ds es cc in cc
  step_term-injective (by_rule i p ds) (by_hypothesis l q) h = cc
  step_term-injective (by_hypothesis k p) (by_rule j q es) h = cc
  step_term-injective (by_hypothesis k p) (by_hypothesis l q) h = let place = place_terms-injective p q cc in cc

  derivation_terms-injective : (ds es : Derivations) → derivation_terms ds ≡ derivation_terms es → ds ≡ es
  derivation_terms-injective no_derivations no_derivations h = refl
  derivation_terms-injective no_derivations (first_derivation e es) h = cc
  derivation_terms-injective (first_derivation d ds) no_derivations h = cc
  derivation_terms-injective (first_derivation d ds) (first_derivation e es) h =
      let first = step_terms-injective d e cc in let rest = derivation_terms-injective ds es cc in cc

pub derivation_term : Derivation → Term
derivation_term d = app 0 (step_terms d)

pub derivation_term-injective : (d e : Derivation) → derivation_term d ≡ derivation_term e → d ≡ e
unfolding derivation_term
derivation_term-injective d e h = step_terms-injective d e cc

abbrev pub coded_derivation : Coded Derivation
coded_derivation = coded_via coded_term derivation_term derivation_term-injective

abbrev pub coded_reached : Coded Reached
coded_reached = code_by (Term × Derivation) (coded× coded_term coded_derivation) (λ r. (r.term, r.by)) (λ p. record { term = p.0; by = p.1 }) (λ _. refl)

abbrev pub coded_listed : Coded (List Reached)
coded_listed = coded_list coded_reached
