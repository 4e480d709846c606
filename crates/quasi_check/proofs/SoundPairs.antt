-- The critical pair under the unifier of a run is over the symbols.
use Rattle.std.proofs.Common.{ℕ, List, [], ◌∷◌, ◌++◌, sym, subst}
use Rattle.rewriting.specs.Prelude.{Each, IsWellFormed, IsPlace, CriticalPair, IsCriticalPair, conditions_under}
use Rattle.rewriting.proofs.Common.{Term, cons, Position, Substitution, apply, compose, Signature, IsOver, AreValuesOver, Condition, Rule, System, sides, even, odd}
use Rattle.rewriting.proofs.Over.{IsOver-apply}
use Rattle.rewriting.proofs.Unraveled.{replace_over, subterm_over}
use Rattle.certificates.specs.Soundness.{AreConditionsOver}
use Rattle.unifier_run.specs.Run.{Binding, value, unifier}
use Rattle.unifier_run.specs.Overlaps.{IsOutcomeOf}
use Rattle.quasi_check.proofs.SoundRuns.{unifier_over}

conditions_under_over : (ar : Signature) (s : Substitution) (cs : List Condition) → AreValuesOver ar s → Each (IsOver ar) (sides cs) → AreConditionsOver ar (conditions_under s cs)
conditions_under_over ar s [] values h = tt
conditions_under_over ar s (c ∷ cs) values (left, (right, rest)) = (IsOver-apply ar s c.left values left, IsOver-apply ar s c.right values right, conditions_under_over ar s cs values rest)

behind_over : (ar : Signature) (cs ds : List Condition) → AreConditionsOver ar cs → AreConditionsOver ar ds → AreConditionsOver ar (cs ++ ds)
behind_over ar [] ds h k = k
behind_over ar (c ∷ cs) ds (left, right, h) k = (left, right, behind_over ar cs ds h k)

-- both sides and all conditions of a critical pair are over the symbols
pub record IsPairOver (ar : Signature) (pair : CriticalPair) : Type 0 where
  pub left : IsOver ar pair.left
  pub right : IsOver ar pair.right
  pub conditions : AreConditionsOver ar pair.conditions

module _ (sys : System) (good : IsWellFormed sys) (i : ℕ) (p : Position) (j : ℕ) (inner outer : Rule) (part : Term) (place : IsPlace sys i p j inner outer part) (by : List Binding)
    (run : IsOutcomeOf inner.left part (unifier by)) where
  inner_over : Each (IsOver sys.arities) (cons inner.left (cons inner.right (sides inner.conditions)))
  inner_over = (good i inner place.is_inner).over

  outer_over : Each (IsOver sys.arities) (cons outer.left (cons outer.right (sides outer.conditions)))
  outer_over = (good j outer place.is_outer).over

  even_over : (t : Term) → IsOver sys.arities t → IsOver sys.arities (apply even t)
  even_over t h = IsOver-apply sys.arities even t (λ x. tt) h

  odd_over : (t : Term) → IsOver sys.arities t → IsOver sys.arities (apply odd t)
  odd_over t h = IsOver-apply sys.arities odd t (λ x. tt) h

  values : AreValuesOver sys.arities (value by)
  values = unifier_over sys.arities _ _ by run (even_over inner.left inner_over.0, tt) (odd_over part (subterm_over sys.arities outer.left p part place.is_part outer_over.0), tt)

  under : (t : Term) → IsOver sys.arities t → IsOver sys.arities (apply (value by) t)
  under t h = IsOver-apply sys.arities (value by) t values h

  pub pair_over : (pair : CriticalPair) → IsCriticalPair (value by) p inner outer part pair → IsPairOver sys.arities pair
  pair_over pair is =
      record {
        left = replace_over sys.arities _ p _ pair.left is.left (under _ (odd_over outer.left outer_over.0)) (under _ (even_over inner.right inner_over.1.0));
        right = subst (IsOver sys.arities) (sym is.right) (under _ (odd_over outer.right outer_over.1.0));
        conditions =
            subst (AreConditionsOver sys.arities) (sym is.conditions)
            (behind_over sys.arities (conditions_under (compose even (value by)) inner.conditions) (conditions_under (compose odd (value by)) outer.conditions)
            (conditions_under_over sys.arities (compose even (value by)) inner.conditions (λ x. values _) inner_over.1.1)
            (conditions_under_over sys.arities (compose odd (value by)) outer.conditions (λ x. values _) outer_over.1.1));
      }
