-- The runs by which a term is judged to be absolutely irreducible: its subterms in preorder, each with the rules in order
-- (after Avenhaus and Loria-Saenz 1994).
use Rattle.std.specs.Prelude.{ℕ, ◌≡◌, ◌⊎◌, ◌<◌, Some}
use Rattle.rewriting.specs.Prelude.{Term, IsVariable, Position, IsBefore, subterm, Rule, System, rule_at}
use Rattle.unifier_run.specs.Run.{Outcome, clash}
use Rattle.unifier_run.specs.Overlaps.{IsOutcomeOf}

-- rule i is tried on the subterm u at p, which is no variable
pub record IsTrial (sys : System) (t : Term) (p : Position) (i : ℕ) (u : Term) (r : Rule) : Type 0 where
  pub is_part : subterm t p ≡ Some u
  pub no_variable : IsVariable u → ⊥
  pub is_rule : rule_at sys i ≡ Some r

-- trials are in order by the position, then the rule
abbrev pub IsEarlierTrial : Position × ℕ → Position × ℕ → Type 0
IsEarlierTrial (p, i) (q, k) = IsBefore p q ⊎ ((p ≡ q) × (i < k))

-- every run ends in a clash
abbrev pub DoAllClash : System → Term → Type 0
DoAllClash sys t = (p : Position) (i : ℕ) (u : Term) (r : Rule) → IsTrial sys t p i u r → IsOutcomeOf r.left u clash

-- the first run that does not end in a clash has this outcome
pub record IsFirstOutcome (sys : System) (t : Term) (o : Outcome) : Type 0 where
  pub position : Position
  pub number : ℕ
  pub part : Term
  pub rule : Rule
  pub trial : IsTrial sys t position number part rule
  pub outcome : IsOutcomeOf rule.left part o
  pub before : (p : Position) (i : ℕ) (u : Term) (r : Rule) → IsTrial sys t p i u r → IsEarlierTrial (p, i) (position, number) → IsOutcomeOf r.left u clash

-- the first rule whose run on the whole term does not clash has this outcome
pub record IsFirstRule (sys : System) (t : Term) (o : Outcome) : Type 0 where
  pub number : ℕ
  pub rule : Rule
  pub is_rule : rule_at sys number ≡ Some rule
  pub outcome : IsOutcomeOf rule.left t o
  pub before : (i : ℕ) (r : Rule) → rule_at sys i ≡ Some r → i < number → IsOutcomeOf r.left t clash

-- every rule's run on the whole term clashes
abbrev pub DoRulesClash : System → Term → Type 0
DoRulesClash sys t = (i : ℕ) (r : Rule) → rule_at sys i ≡ Some r → IsOutcomeOf r.left t clash
