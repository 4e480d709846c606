-- A run of two terms with other roots clashes at once.
use Rattle.std.proofs.Common.{ℕ, ◌≢◌, inl, [], sym, subst₂}
use Rattle.rewriting.specs.Terms.{Terms, app, nil, cons, Fits}
use Rattle.unifier_run.specs.Run.{clash, Takes, ends, roots_differ, last_equation, IsOutcome}
use Rattle.unifier_run.proofs.Values.{apply_nothing}

pub heads_clash : (f g : ℕ) (ts us : Terms) → f ≢ g → Fits (app f ts) → Fits (app g us) → IsOutcome (cons (app f ts) nil) (cons (app g us) nil) clash
heads_clash f g ts us differ first second =
    last_equation (subst₂ (λ x y. Takes [] x y (ends clash)) (sym (apply_nothing (app f ts))) (sym (apply_nothing (app g us))) (roots_differ (first, second) (inl differ)))
