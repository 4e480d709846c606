use Rattle.std.proofs.Common.{ℕ, ◌∙◌, subst}
use Rattle.cc_count.specs.Counts.{Spends}
use Rattle.search_spaces.specs.Ortho.{IsOrthoPaid}
use Rattle.search_answers.specs.Answers.{ending_of, IfNothing}
use Rattle.ortho_search.proofs.search_ortho.Goals as goal

pub returns-clause-paid : goal.returns-clause-paid
returns-clause-paid c =
    subst (λ s. IfNothing ending_of c.search_ortho_over.result ((n : ℕ) × Spends c.args.budget.now n c.search_ortho_over.new.budget × IsOrthoPaid c.args.names.now s n))
    (c.in_ok-prepared.ensures ∙ c.in_ok-indexed.ensures)
    c.search_ortho_over.ensures.paid
