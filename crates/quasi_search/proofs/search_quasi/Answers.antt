use Rattle.std.proofs.Common.{subst, ◌∙◌}
use Rattle.certificates.specs.Certificates.{Certificate}
use Rattle.valid_certificates.specs.Certificates.{IsValid}
use Rattle.search_answers.specs.Answers.{Searches, ending_of, IfNothing}
use Rattle.quasi_space.specs.Endings.{MayEndLast}
use Rattle.quasi_space.specs.Measures.{pruned_measures}
use Rattle.quasi_space.specs.Quasi.{quasi_space, quasi_space_by}
use Rattle.quasi_search.proofs.search_quasi.Goals as goal

pub returns-clause-searched : goal.returns-clause-searched
returns-clause-searched c =
    subst (λ s. Searches ending_of (MayEndLast (quasi_space c.args.names.now s)) c.args.budget.now c.search_quasi_over.new.budget c.search_quasi_over.result)
    (c.in_ok-prepared.ensures ∙ c.in_ok-indexed.ensures)
    c.search_quasi_over.ensures.searched

pub returns-clause-pruned : goal.returns-clause-pruned
returns-clause-pruned c =
    subst (λ s. Searches ending_of (MayEndLast (quasi_space_by (pruned_measures s) c.args.names.now s)) c.args.budget.now c.search_quasi_over.new.budget c.search_quasi_over.result)
    (c.in_ok-prepared.ensures ∙ c.in_ok-indexed.ensures) c.search_quasi_over.ensures.pruned

pub returns-clause-nothing : goal.returns-clause-nothing
returns-clause-nothing c =
    subst (λ s. IfNothing ending_of c.search_quasi_over.result ((d : Certificate) → (quasi_space c.args.names.now s).Holds d → IsValid s d → ⊥)) (c.in_ok-prepared.ensures ∙ c.in_ok-indexed.ensures)
    c.search_quasi_over.ensures.nothing
