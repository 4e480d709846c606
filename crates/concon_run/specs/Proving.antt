-- What the parts of a search answer.
use Rattle.std.specs.Prelude.{ℕ, Option, Some, None, Result, Ok, Err}
use Rattle.rewriting.specs.Rules.{System}
use Rattle.cops_names.specs.NameTable.{NameTable}
use Rattle.cert_model.specs.CertificateView.{certificate_view}
use Rattle.proof_spaces.specs.Endings.{IsTooLittle}
use Rattle.term_core.specs.declared.terms.NoMemory.{NoMemory}
use Rattle.portfolio.specs.declared.Outcome.{Outcome}
use Rattle.portfolio.specs.declared.Outcome.TheVariants as outcome
use Rattle.cert_check.specs.Kinds.{verdict_of}
use Rattle.concon_run.specs.Verdicts.{IsShown}
use Rattle.concon_run.specs.Files.{no_system_answer}
use Rattle.concon_run.specs.Prove.{SearchOutcome, bad_file, found, over_budget, exhausted, IsFirstValid, HoldsNone, ProveAnswer, searched, file_unread}
use Rattle.concon_run.specs.declared.prove.NoOutcome.{NoOutcome}
use Rattle.concon_run.specs.declared.prove.NoOutcome.TheVariants as why
use Rattle.concon_run.specs.declared.prove.Searched.{Searched}

-- the first valid certificate and what it shows, that the budget is too small, or that none is valid
abbrev pub SearchAnswers : System → NameTable → ℕ → Result Outcome NoMemory → Type 0
SearchAnswers sys names budget (Ok (outcome.Found c)) = IsFirstValid names sys (certificate_view c) × IsShown sys (certificate_view c) (verdict_of (certificate_view c))
SearchAnswers sys names budget (Ok outcome.Exhausted) = HoldsNone names sys
SearchAnswers sys names budget (Ok outcome.Spent) = IsTooLittle names sys budget
SearchAnswers sys names budget (Err e) = Unit {0}

-- how the search ended, with the names of the file
abbrev pub outcome_of : NameTable → Outcome → SearchOutcome
outcome_of names (outcome.Found c) = found names (certificate_view c)
outcome_of names outcome.Exhausted = exhausted
outcome_of names outcome.Spent = over_budget

-- what is answered; for want of memory nothing
abbrev pub prove_answer : Result Searched NoOutcome → Option ProveAnswer
prove_answer (Ok s) = Some (searched (outcome_of s.names s.outcome))
prove_answer (Err (why.NoSystem e)) = no_system_answer file_unread (λ r. searched (bad_file r)) e
prove_answer (Err why.NoMemory) = None
