-- Laws of runs.
use Rattle.std.specs.Prelude.{ℕ, ◌≡◌, List, map}
use Rattle.std.specs.FinMap.{from_entries}
use Rattle.rewriting.specs.Prelude.{Term, Terms, Substitution, apply, apply_all, Bindings, values_of, IsMostGeneralOfAll}
use Rattle.unifier_run.specs.Run.{Binding, value, Outcome, unifier, clash, IsOutcome}

-- bindings as a finite map
abbrev pub as_map : List Binding → Bindings
as_map b = from_entries (map (λ e. (e.variable, e.term)) b)

-- the finite map gives each variable what the bindings give it
abbrev pub MapsHaveTheValues : Type 0
MapsHaveTheValues = (b : List Binding) (x : ℕ) → values_of (as_map b) x ≡ value b x

-- a run has at most one outcome
abbrev pub OutcomesAreUnique : Type 0
OutcomesAreUnique = (ts us : Terms) (o p : Outcome) → IsOutcome ts us o → IsOutcome ts us p → o ≡ p

-- its unifier makes the lists equal, and each substitution that does so is that unifier followed by itself, at every variable
abbrev pub UnifiersAreMostGeneral : Type 0
UnifiersAreMostGeneral = (ts us : Terms) (m : List Binding) → IsOutcome ts us (unifier m) → IsMostGeneralOfAll (value m) ts us

-- no variable that the unifier binds occurs in a term that it gives
abbrev pub UnifiersAreIdempotent : Type 0
UnifiersAreIdempotent = (ts us : Terms) (m : List Binding) → IsOutcome ts us (unifier m) → (t : Term) → apply (value m) (apply (value m) t) ≡ apply (value m) t

-- where the run clashes, no substitution makes the lists equal
abbrev pub ClashesHaveNoUnifier : Type 0
ClashesHaveNoUnifier = (ts us : Terms) → IsOutcome ts us clash → (s : Substitution) → apply_all s ts ≡ apply_all s us → ⊥
