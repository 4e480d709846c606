-- Words are one command at most, and what is said of a run is said to that.
use Rattle.std.proofs.Common.{◌≡◌, ◌⊎◌, ℕ, List, inl, inr, ap, ap₂, sym, ◌∙◌, subst, arith}
use Rattle.run_parts.specs.Devices.{AsksNothing}
use Rattle.concon_run.specs.Run.{Run}
use Rattle.concon_run.specs.Said.{Said, Tells, TellsIfMemory, no_memory_said}
use Rattle.concon_run.specs.Check.{IsCheck}
use Rattle.concon_run.specs.Prove.{IsProve}
use Rattle.concon_run.specs.Selftest.{IsSelftest}
use Rattle.concon_run.specs.Query.{IsQuery}
use Rattle.concon_run.specs.Commands.{Command, check, prove, selftest, query, IsCommand, IsNoCommand, AnswerTo, said_to, IsAnswerTo, AsksFor, IsSaidTo, IsSaidFor, IsAnswered}
use Rattle.concon_run.proofs.Letters.{first_letter}
use Rattle.concon_run.proofs.Checks.{letter_of_check, same_file, same_cert}
use Rattle.concon_run.proofs.Searches.{letter_of_prove, prove_once}
use Rattle.concon_run.proofs.Tests.{letter_of_test, test_once}
use Rattle.concon_run.proofs.Asking.{letter_of_query, query_once}

pub no_command : (words : List (List ℕ)) → ((file cert : List ℕ) → IsCheck words file cert → ⊥) → ((file : List ℕ) (budget : ℕ) → IsProve words file budget → ⊥)
    → ((n : ℕ) → IsSelftest words n → ⊥) → ((file text : List ℕ) (budget : ℕ) → IsQuery words file text budget → ⊥) → IsNoCommand words
no_command words unchecked unproved untested unasked (check file cert) h = unchecked file cert h
no_command words unchecked unproved untested unasked (prove file budget) h = unproved file budget h
no_command words unchecked unproved untested unasked (selftest n) h = untested n h
no_command words unchecked unproved untested unasked (query file text budget) h = unasked file text budget h

-- the first letter of the word for a command
abbrev letter : Command → ℕ
letter (check file cert) = 99
letter (prove file budget) = 112
letter (selftest n) = 115
letter (query file text budget) = 113

first_is : (words : List (List ℕ)) (c : Command) → IsCommand words c → first_letter words ≡ letter c
first_is words (check file cert) h = letter_of_check words file cert h
first_is words (prove file budget) h = letter_of_prove words file budget h
first_is words (selftest n) h = letter_of_test words n h
first_is words (query file text budget) h = letter_of_query words file text budget h

apart : (words : List (List ℕ)) (c d : Command) → IsCommand words c → IsCommand words d → (letter c ≡ letter d → ⊥) → ⊥
apart words c d h k differ = differ (sym (first_is words c h) ∙ first_is words d k)

same_query : (file text other others : List ℕ) (a b : ℕ) → other ≡ file → others ≡ text → b ≡ a → query other others b ≡ query file text a
same_query file text other others a b e f g = ap (λ (x : List ℕ). query x others b) e ∙ ap₂ (query file) f g

pub command_once : (words : List (List ℕ)) (c d : Command) → IsCommand words c → IsCommand words d → d ≡ c
command_once words (check file cert) (check other others) h k = ap₂ check (same_file words file cert other others h k) (same_cert words file cert other others h k)
command_once words (prove file a) (prove other b) h k = let same = prove_once words file other a b h k in ap₂ prove same.0 same.1
command_once words (selftest n) (selftest m) h k = ap selftest (test_once words n m h k)
command_once words (query file text a) (query other others b) h k = let same = query_once words file text other others a b h k in same_query file text other others a b same.0 same.1 same.2
command_once words c d h k = absurd (apart words c d h k (λ e. omega (arith, e)))

module _ (run : Run) (h : IsAnswered run) where
  -- where the words are this command, what is said is said to it
  pub said_to_it : (command : Command) → IsCommand run.words command → IsSaidFor run.words run.shelf h.0 → IsSaidTo run.shelf command h.0
  said_to_it command form (inl none) = absurd (none.0 command form)
  said_to_it command form (inr (other, asked, says)) = subst (λ c. IsSaidTo run.shelf c h.0) (command_once run.words command other form asked) says

  pub asked_for : (command : Command) → IsCommand run.words command → AsksFor run.shelf command
  asked_for command form = (said_to_it command form h.1).asks

  -- where each answer to it tells this, this is told, unless memory was refused
  pub told_to_it : (command : Command) → IsCommand run.words command → (wanted : Said)
      → ((answer : AnswerTo command) → IsAnswerTo run.shelf command answer → Tells run (said_to command answer) → TellsIfMemory run wanted) → TellsIfMemory run wanted
  told_to_it command form wanted go = by_case (said_to_it command form h.1).says
    where
      by_case : ((answer : AnswerTo command) × IsAnswerTo run.shelf command answer × (h.0 ≡ said_to command answer)) ⊎ (h.0 ≡ no_memory_said) → TellsIfMemory run wanted
      by_case (inl (answer, good, same)) = go answer good (subst (Tells run) same h.2)
      by_case (inr none) = inr (subst (Tells run) none h.2)

  pub nothing_asked : IsNoCommand run.words → AsksNothing run.shelf
  nothing_asked none = by_case h.1
    where
      by_case : IsSaidFor run.words run.shelf h.0 → AsksNothing run.shelf
      by_case (inl usage) = usage.1
      by_case (inr (command, form, says)) = absurd (none command form)
