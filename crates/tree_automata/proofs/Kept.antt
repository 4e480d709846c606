-- Right sides that are kept, and the first that is not.
use Rattle.std.proofs.Common.{◌≡◌, ◌↔◌, ℕ, ◌<◌, List, Option, Some, None, refl, sym, subst, arith}
use Rattle.std.specs.List.{All}
use Rattle.rewriting.specs.Prelude.{Term, var, app, Terms, Rule, variable_occurrences}
use Rattle.automata.specs.Runs.{ReachBy}
use Rattle.automata.specs.Closed.{IsChoice, state_of, IsKept, IsRuleKept}
use Rattle.number_sets.specs.Relation.{Relates}
use Rattle.number_sets.specs.declared.rows.NumberRelation.{NumberRelation}
use Rattle.automaton_runs.specs.Counted.{Indexed, Finds}
use Rattle.automaton_runs.specs.Choices.{Batch, choice_of}
use Rattle.automaton_runs.specs.Reached.{AreWhere, Reaches}
use Rattle.automaton_runs.specs.declared.runs.Arrival.{Arrival}
use Rattle.automata.proofs.Asked.{state_below}
use Rattle.tree_automata.specs.Kept.{IsInclusion, IsVariable, IsKeptBy}
use Rattle.tree_automata.specs.Batches.{FailureAnswers}
use Rattle.tree_automata.specs.Open.{OpenAnswers}
use Rattle.tree_automata.proofs.Open.{reached_state}

module _ (a : Indexed) (r : NumberRelation) where
  kept_at : (names cs : List ℕ) (right : Term) (q : ℕ) → (IsVariable right → IsInclusion a r) → All (λ p. p < a.automaton.states) cs → q < a.automaton.states
      → IsKeptBy r a names right cs q ↔ IsKept (Finds a) (state_of names cs) right q
  kept_at names cs (app f ts) q asked all low = (λ h. h, λ h. h)
  kept_at names cs (var x) q asked all low =
      let is = asked tt (state_of names cs x) q in
      (λ h. (is.0 h).2, λ twins. is.1 (state_below a.automaton.states (omega arith) names cs all x, low, twins))

  module _ (rule : Rule) (asked : IsVariable rule.right → IsInclusion a r) where
    pub kept_is : (cs : List ℕ) (q : ℕ) → IsChoice a.automaton.states rule.left cs → ReachBy (Finds a) rule.left cs q
        → IsKeptBy r a (variable_occurrences rule.left) rule.right cs q ↔ IsRuleKept (Finds a) rule cs q
    kept_is cs q choice reach = kept_at (variable_occurrences rule.left) cs rule.right q asked choice.states (reached_state a rule.left cs q choice reach)

    pub open_answers : (o : Option Arrival) → FailureAnswers a rule.left (IsKeptBy r a (variable_occurrences rule.left) rule.right) o → OpenAnswers a rule o
    open_answers None all = λ cs q choice reach. (kept_is cs q choice reach).0 (all cs q choice reach)
    open_answers (Some arrival) first =
        record {
          choice = first.choice;
          reached = first.reached;
          fails = λ h. first.fails ((kept_is arrival.choice.items arrival.state first.choice first.reached).1 h);
          earlier = λ ds p choice reach before. (kept_is ds p choice reach).0 (first.earlier ds p choice reach before);
        }

-- the choices of a batch by which a right side is kept
module _ (r : NumberRelation) (a : Indexed) (b : Batch) (names : List ℕ) where
  pub kept_variable : (t : Term) (x : ℕ) (reached carried : NumberRelation) → t ≡ var x → AreWhere b (Reaches a names t) reached
      → ((p q : ℕ) → Relates carried p q ↔ ((s : ℕ) × Relates r s p × Relates reached s q)) → AreWhere b (IsKeptBy r a names t) carried
  kept_variable t x reached carried e where_ step =
      let own = subst (λ (u : Term). AreWhere b (Reaches a names u) reached) e where_ in
      subst (λ (u : Term). AreWhere b (IsKeptBy r a names u) carried) (sym e)
      (λ q k. (
        λ h.
            let s = (step q k).0 h in
            let there = (own s.0 k).0 s.2 in (there.0, subst (λ (p : ℕ). Relates r p q) there.1 s.1),
        λ h. (step q k).1 (state_of names (choice_of b k) x, h.1, (own (state_of names (choice_of b k) x) k).1 (h.0, refl)),
      ))

  pub kept_function : (t : Term) (f : ℕ) (ts : Terms) (reached : NumberRelation) → t ≡ app f ts → AreWhere b (Reaches a names t) reached → AreWhere b (IsKeptBy r a names t) reached
  kept_function t f ts reached e where_ = subst (λ (u : Term). AreWhere b (IsKeptBy r a names u) reached) (sym e) (subst (λ (u : Term). AreWhere b (Reaches a names u) reached) e where_)
