-- What unification and renaming answer.
use Rattle.std.specs.Prelude.{ℕ, ◌≡◌, ◌+◌, ◌*◌, List, Result, Ok, Err}
use Rattle.rewriting.specs.Terms as math
use Rattle.rewriting.specs.Prelude.{Substitution, apply, apply_all, values_of, IsMostGeneralOfAll}
use Rattle.unifier_run.specs.Run.{Binding, unifier, clash, too_large, IsOutcome}
use Rattle.unifier_run.specs.Laws.{as_map}
use Rattle.term_core.specs.View.{view}
use Rattle.term_core.specs.declared.terms.Term.{Term}
use Rattle.term_core.specs.declared.terms.NoMemory.{NoMemory}
use Rattle.term_core.specs.declared.terms.TermError.{TermError}
use Rattle.term_core.specs.declared.terms.TermError.TheVariants.{NoPosition, TooLarge as TermTooLarge, NoMemory as OutOfMemory}
use Rattle.unification.specs.declared.Unified.{Unified}
use Rattle.unification.specs.declared.Unified.TheVariants.{Mgu, Clash, TooLarge}

-- no substitution makes the lists equal
abbrev pub HasNoUnifier : math.Terms → math.Terms → Type 0
HasNoUnifier ts us = (s : Substitution) → apply_all s ts ≡ apply_all s us → ⊥

-- the unifier of the run, which is most general; a clash of the run, where there is none; or the run passes the size
abbrev pub UnifyAnswers : math.Terms → math.Terms → Result Unified NoMemory → Type 0
UnifyAnswers ts us (Ok (Mgu s)) = ((b : List Binding) × IsOutcome ts us (unifier b) × (s ≡ as_map b)) × IsMostGeneralOfAll (values_of s) ts us
UnifyAnswers ts us (Ok Clash) = IsOutcome ts us clash × HasNoUnifier ts us
UnifyAnswers ts us (Ok TooLarge) = IsOutcome ts us too_large
UnifyAnswers ts us (Err e) = Unit {0}

-- variable k as mul * k + add
abbrev pub renaming : ℕ → ℕ → Substitution
renaming mul add k = math.var (mul * k + add)

-- the renamed term
abbrev pub RenameAnswers : ℕ → ℕ → math.Term → Result Term TermError → Type 0
RenameAnswers mul add t (Ok u) = view u ≡ apply (renaming mul add) t
RenameAnswers mul add t (Err NoPosition) = ⊥
RenameAnswers mul add t (Err TermTooLarge) = ⊥
RenameAnswers mul add t (Err OutOfMemory) = Unit {0}
