-- Where a run that does not end in a clash decides.
use Rattle.std.proofs.Common.{◌≡◌, ◌⊎◌, inl, inr, Ok}
use Rattle.rewriting.specs.Prelude.{Term, System}
use Rattle.unifier_run.specs.Run.{Outcome, unifier, clash, too_large}
use Rattle.unifier_run.specs.Irreducible.{DoAllClash, IsFirstOutcome}
use Rattle.unifier_run.proofs.Unique.{runs_same}
use Rattle.irreducible.specs.declared.Irreducible.{Irreducible}
use Rattle.irreducible.specs.declared.Irreducible.TheVariants.{Yes, No, TooLarge}
use Rattle.irreducible.specs.Answers.{IrreducibleAnswers}

does_not_clash : (sys : System) (t : Term) (o : Outcome) → (o ≡ clash → ⊥) → IsFirstOutcome sys t o → DoAllClash sys t → ⊥
does_not_clash sys t o other h all = other (runs_same h.outcome (all h.position h.number h.part h.rule h.trial))

pub not_all_clash : (sys : System) (t : Term) (i : Irreducible) → (i ≡ No) ⊎ (i ≡ TooLarge) → IrreducibleAnswers sys t (Ok i) → DoAllClash sys t → ⊥
not_all_clash sys t Yes (inl e) h all = cc
not_all_clash sys t Yes (inr e) h all = cc
not_all_clash sys t No e h all = does_not_clash sys t (unifier h.0.0) (λ d. cc) h.0.1 all
not_all_clash sys t TooLarge e h all = does_not_clash sys t too_large (λ d. cc) h all
