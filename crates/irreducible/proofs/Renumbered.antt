-- Where variables of a term have other numbers, one to one, the runs by which it is judged have the same outcomes, renamed.
use Rattle.std.proofs.Common.{ℕ, zero, suc, ◌≡◌, ◌<◌, true, List, [], ◌∷◌, length, Some, Result, Ok, Err, refl, sym, ap, ◌∙◌, subst, subst₂}
use Rattle.rewriting.specs.Prelude.{Term, Terms, var, app, nil, cons, IsVariable, Position, subterm, argument, apply, apply_all, occurs, Rule, System, AreDistinct}
use Rattle.rewriting.proofs.Positions.{within}
use Rattle.rewriting.proofs.Places.{subterm-apply}
use Rattle.rewriting.proofs.Instances.{apply-agree}
use Rattle.unifier_run.specs.Run.{Outcome, unifier, clash, too_large, Runs}
use Rattle.unifier_run.specs.Overlaps.{IsOutcomeOf}
use Rattle.unifier_run.specs.Irreducible.{IsTrial, DoAllClash, IsFirstOutcome}
use Rattle.unifier_run.proofs.Renamed.{names, stays, renamed_outcome as outcome_under, runs_with_names}
use Rattle.unifier_run.proofs.Woven.{woven, woven_evens, woven_odds, woven_one_to_one}
use Rattle.renumbering.specs.Rows.{naming}
use Rattle.renumbering.proofs.Filling.{filling, filling_within, filling_one}
use Rattle.term_core.specs.declared.terms.NoMemory.{NoMemory}
use Rattle.irreducible.specs.declared.Irreducible.{Irreducible}
use Rattle.irreducible.specs.declared.Irreducible.TheVariants.{Yes, No, TooLarge}
use Rattle.irreducible.specs.Judging.{JudgeAnswers}

module _ (phi : ℕ → ℕ) (one : (x y : ℕ) → phi x ≡ phi y → x ≡ y) where
  abbrev pub moved : Term → Term
  moved t = apply (names phi) t

  abbrev renamed_outcome : Outcome → Outcome
  renamed_outcome o = outcome_under (woven phi) stays o

  -- the outcome for a part is that for the part with its new numbers
  outcome_there : (l u : Term) (o : Outcome) → IsOutcomeOf l u o → IsOutcomeOf l (moved u) (renamed_outcome o)
  outcome_there l u o h = subst₂ (λ p q. Runs [] (cons p nil) (cons q nil) (renamed_outcome o)) (woven_evens phi l) (woven_odds phi u) (runs_with_names (woven phi) (woven_one_to_one phi one) h)

  argument_from : (ts : Terms) (k : ℕ) (s : Term) → argument (apply_all (names phi) ts) k ≡ Some s → (t : Term) × (argument ts k ≡ Some t) × (s ≡ moved t)
  argument_from nil k s e = absurd (cc)
  argument_from (cons t ts) zero s e = absurd (cc)
  argument_from (cons t ts) (suc zero) s e = (t, refl, cc)
  argument_from (cons t ts) (suc (suc k)) s e = argument_from ts (suc k) s e

  part_from : (p : Position) (t v : Term) → subterm (moved t) p ≡ Some v → (u : Term) × (subterm t p ≡ Some u) × (v ≡ moved u)
  part_from [] t v e = (t, refl, cc)
  part_from (k ∷ p) (var x) v e = absurd (cc)
  part_from (k ∷ p) (app f ts) v e =
      let w = within (app f (apply_all (names phi) ts)) k p v e in
      let a = argument_from ts k w.part w.here in
      let r = part_from p a.0 v (subst (λ z. subterm z p ≡ Some v) a.2 w.inside) in
      let there = a.1 in
      (r.0, rw there r.1, r.2)

  no_variable_there : (u v : Term) → v ≡ moved u → (IsVariable v → ⊥) → IsVariable u → ⊥
  no_variable_there (var x) v e n h = n (subst IsVariable (sym e) tt)
  no_variable_there (app f ts) v e n h = h

  variable_from : (u : Term) → (IsVariable u → ⊥) → IsVariable (moved u) → ⊥
  variable_from (var x) n h = n tt
  variable_from (app f ts) n h = h

  -- a trial on the moved term is one on the term
  trial_from : (sys : System) (t : Term) (p : Position) (i : ℕ) (v : Term) (r : Rule) → IsTrial sys (moved t) p i v r → (u : Term) × IsTrial sys t p i u r × (v ≡ moved u)
  trial_from sys t p i v r h =
      let u = part_from p t v h.is_part in
      (u.0, record { is_part = u.1; no_variable = no_variable_there u.0 v u.2 h.no_variable; is_rule = h.is_rule }, u.2)

  part_there : (p : Position) (t u : Term) → subterm t p ≡ Some u → subterm (moved t) p ≡ Some (moved u)
  part_there p t u e = subterm-apply (names phi) t p u e

  clash_there : (sys : System) (t : Term) → DoAllClash sys t → DoAllClash sys (moved t)
  clash_there sys t all p i v r h = let k = trial_from sys t p i v r h in subst (λ z. IsOutcomeOf r.left z clash) (sym k.2) (outcome_there r.left k.0 clash (all p i k.0 r k.1))

  first_there : (sys : System) (t : Term) (o : Outcome) → IsFirstOutcome sys t o → IsFirstOutcome sys (moved t) (renamed_outcome o)
  first_there sys t o h =
      record {
        position = h.position;
        number = h.number;
        part = moved h.part;
        rule = h.rule;
        trial = record { is_part = part_there h.position t h.part h.trial.is_part; no_variable = variable_from h.part h.trial.no_variable; is_rule = h.trial.is_rule };
        outcome = outcome_there h.rule.left h.part o h.outcome;
        before = λ p i v r k earlier. (let q = trial_from sys t p i v r k in subst (λ z. IsOutcomeOf r.left z clash) (sym q.2) (outcome_there r.left q.0 clash (h.before p i q.0 r q.1 earlier)));
      }

  judged_there : (sys : System) (t : Term) (r : Result Irreducible NoMemory) → JudgeAnswers sys t r → JudgeAnswers sys (moved t) r
  judged_there sys t (Ok Yes) h = clash_there sys t h
  judged_there sys t (Ok No) (b, h) = (_, first_there sys t (unifier b) h)
  judged_there sys t (Ok TooLarge) h = first_there sys t too_large h
  judged_there sys t (Err e) h = tt

-- a term with places of a row for its variables is judged as the term
pub judged_numbered : (sys : System) (row : List ℕ) (t u : Term) (r : Result Irreducible NoMemory) → AreDistinct row → t ≡ apply (naming row) u
    → ((m : ℕ) → occurs m u ≡ true → m < length row) → JudgeAnswers sys u r → JudgeAnswers sys t r
judged_numbered sys row t u r distinct names-of below h =
    let same : t ≡ apply (names (filling row)) u = names-of ∙ apply-agree (naming row) (names (filling row)) u (λ m o. ap var (sym (filling_within row m (below m o)))) in
    subst (λ z. JudgeAnswers sys z r) (sym same) (judged_there (filling row) (filling_one row distinct) sys u r h)
