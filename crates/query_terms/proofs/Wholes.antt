-- From the parts of a query's tree to the query.
use Rattle.std.proofs.Common.{◌≡◌, ℕ, List, [], sym, subst, ◌∙◌}
use Rattle.rewriting.specs.Rules as rules
use Rattle.query_text.specs.Grammar.{QueryTree, conditions_of}
use Rattle.query_text.specs.Meaning.{variables_of, cause_at, refusal_of, IsMeantBy}
use Rattle.query_terms.specs.Steps.{Tells}
use Rattle.cops_read.specs.Walks.{conditions_refusal, AreConditionsRead}
use Rattle.query_terms.specs.declared.errors.MeaningError.{MeaningError}
use Rattle.query_terms.proofs.Events.{refusal_is}

module _ (table : List (List ℕ × ℕ)) (tree : QueryTree) (block names : List (List ℕ)) (is : block ≡ variables_of tree) (none : names ≡ []) where
  pub meaning_told : (e : MeaningError) → Tells e (conditions_refusal (cause_at block) block table names 1 1 (conditions_of tree)) → Tells e (refusal_of table tree)
  meaning_told e t =
      subst (Tells e) (sym (refusal_is table tree))
      (subst (λ (ns : List (List ℕ)). Tells e (conditions_refusal (cause_at (variables_of tree)) (variables_of tree) table ns 1 1 (conditions_of tree))) none
      (subst (λ (b : List (List ℕ)). Tells e (conditions_refusal (cause_at b) b table names 1 1 (conditions_of tree))) is t))

  pub meaning_read : (later : List (List ℕ)) (ds : List rules.Condition) (texts : List (List ℕ)) → texts ≡ later
      → AreConditionsRead (cause_at block) block table names 1 (conditions_of tree) table later ds → IsMeantBy table tree ds texts
  meaning_read later ds texts e h =
      let a = subst (λ (b : List (List ℕ)). AreConditionsRead (cause_at b) b table names 1 (conditions_of tree) table later ds) is h in
      let b = subst (λ (ns : List (List ℕ)). AreConditionsRead (cause_at (variables_of tree)) (variables_of tree) table ns 1 (conditions_of tree) table later ds) none a in
      let c = subst (λ (l : List (List ℕ)). AreConditionsRead (cause_at (variables_of tree)) (variables_of tree) table [] 1 (conditions_of tree) table l ds) (sym e) b in
      record { accepted = refusal_is table tree ∙ c.accepted; variables = c.variables; conditions = c.mean }
