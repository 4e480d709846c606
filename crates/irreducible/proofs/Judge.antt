-- Judging the whole from its parts.
use Rattle.std.proofs.Common.{ℕ, suc, ◌≡◌, ◌<◌, ◌≤◌, ◌⊎◌, inl, inr, [], ◌∷◌, Some, refl, sym, ap, ◌∙◌, subst, arith}
use Rattle.std.proofs.lemmas.Option.{same_Some}
use Rattle.rewriting.specs.Prelude.{Term, Terms, var, app, IsVariable, Position, subterm, argument, IsBefore, Rule, System}
use Rattle.rewriting.proofs.Positions.{within}
use Rattle.unifier_run.specs.Run.{Outcome, clash}
use Rattle.unifier_run.specs.Overlaps.{IsOutcomeOf}
use Rattle.unifier_run.specs.Irreducible.{IsTrial, DoAllClash, IsFirstOutcome, DoRulesClash, IsFirstRule}

pub variable_clash : (sys : System) (x : ℕ) → DoAllClash sys (var x)
variable_clash sys x [] i u r h = absurd (h.no_variable (subst IsVariable (same_Some (var x) u h.is_part) tt))
variable_clash sys x (k ∷ p) i u r h = (let e = h.is_part in absurd (cc))

-- the arguments before a number all clash
abbrev pub DoArgumentsClash : System → Terms → ℕ → Type 0
DoArgumentsClash sys ts n = (k : ℕ) (s : Term) → argument ts k ≡ Some s → k ≤ n → DoAllClash sys s

pub whole_clash : (sys : System) (f : ℕ) (ts : Terms) → DoRulesClash sys (app f ts) → ((k : ℕ) (s : Term) → argument ts k ≡ Some s → DoAllClash sys s) → DoAllClash sys (app f ts)
whole_clash sys f ts root parts [] i u r h = subst (λ z. IsOutcomeOf r.left z clash) (same_Some (app f ts) u h.is_part) (root i r h.is_rule)
whole_clash sys f ts root parts (k ∷ p) i u r h =
    let w = within (app f ts) k p u h.is_part in
    parts k w.part w.here p i u r (record { is_part = w.inside; no_variable = h.no_variable; is_rule = h.is_rule })

pub first_root : (sys : System) (f : ℕ) (ts : Terms) (o : Outcome) → IsFirstRule sys (app f ts) o → IsFirstOutcome sys (app f ts) o
first_root sys f ts o h =
    record {
      position = [];
      number = h.number;
      part = app f ts;
      rule = h.rule;
      trial = record { is_part = refl; no_variable = λ k. k; is_rule = h.is_rule };
      outcome = h.outcome;
      before = earlier;
    }
  where
    earlier : (p : Position) (i : ℕ) (u : Term) (r : Rule) → IsTrial sys (app f ts) p i u r → IsBefore p [] ⊎ ((p ≡ []) × (i < h.number)) → IsOutcomeOf r.left u clash
    earlier p i u r t (inl b) = absurd b
    earlier p i u r t (inr (e, l)) =
        let here : app f ts ≡ u = same_Some (app f ts) u (subst (λ z. subterm (app f ts) z ≡ Some u) e t.is_part) in
        subst (λ z. IsOutcomeOf r.left z clash) here (h.before i r t.is_rule l)

pub first_part : (sys : System) (f : ℕ) (ts : Terms) (n : ℕ) (s : Term) (o : Outcome) → DoRulesClash sys (app f ts) → DoArgumentsClash sys ts n → argument ts (suc n) ≡ Some s
    → IsFirstOutcome sys s o → IsFirstOutcome sys (app f ts) o
first_part sys f ts n s o root parts at h =
    record {
      position = suc n ∷ h.position;
      number = h.number;
      part = h.part;
      rule = h.rule;
      trial = record { is_part = rw at h.trial.is_part; no_variable = h.trial.no_variable; is_rule = h.trial.is_rule };
      outcome = h.outcome;
      before = earlier;
    }
  where
    same_part : (a b : Term) → Some a ≡ Some b → a ≡ b
    same_part a b e = cc

    rest_of : (k : ℕ) (p q : Position) → k ∷ p ≡ suc n ∷ q → (k ≡ suc n) × (p ≡ q)
    rest_of k p q e = (cc, cc)

    inside : (k : ℕ) (p : Position) (i : ℕ) (u : Term) (r : Rule) → IsTrial sys (app f ts) (k ∷ p) i u r → k ≡ suc n
        → IsBefore p h.position ⊎ ((p ≡ h.position) × (i < h.number)) → IsOutcomeOf r.left u clash
    inside k p i u r t e b =
        let w = within (app f ts) k p u t.is_part in
        let same : w.part ≡ s = same_part w.part s (sym w.here ∙ (ap (argument ts) e ∙ at)) in
        h.before p i u r (record { is_part = subst (λ z. subterm z p ≡ Some u) same w.inside; no_variable = t.no_variable; is_rule = t.is_rule }) b

    earlier : (p : Position) (i : ℕ) (u : Term) (r : Rule) → IsTrial sys (app f ts) p i u r → IsBefore p (suc n ∷ h.position) ⊎ ((p ≡ suc n ∷ h.position) × (i < h.number)) → IsOutcomeOf r.left u clash
    earlier [] i u r t b = subst (λ z. IsOutcomeOf r.left z clash) (same_part (app f ts) u t.is_part) (root i r t.is_rule)
    earlier (k ∷ p) i u r t (inl (inl l)) =
        let w = within (app f ts) k p u t.is_part in
        parts k w.part w.here (omega (arith, l)) p i u r (record { is_part = w.inside; no_variable = t.no_variable; is_rule = t.is_rule })
    earlier (k ∷ p) i u r t (inl (inr (e, b))) = inside k p i u r t e (inl b)
    earlier (k ∷ p) i u r t (inr (e, l)) = let q = rest_of k p h.position e in inside k p i u r t q.0 (inr (q.1, l))
