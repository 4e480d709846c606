-- Pools: for each variable occurrence of a term, the states that stand at its place in transitions. By no other state does the term arrive.
use Rattle.std.specs.Prelude.{ℕ, zero, suc, Bool, false, ◌||◌, List, [], ◌∷◌, ◌++◌, filter, slice_get}
use Rattle.rewriting.specs.Terms.{Term, var, app, Terms, nil, cons}
use Rattle.certificates.specs.Evidence.{Transition}
use Rattle.number_sets.specs.Sets.{below}
use Rattle.automaton_runs.specs.Counted.{Indexed}
use Rattle.automaton_runs.specs.Counting.{chosen, symbol_key, is_number}

-- one of the transitions has the state at an argument place, from 0
abbrev pub stands_in : ℕ → ℕ → List Transition → Bool
stands_in place q [] = false
stands_in place q (t ∷ ts) = is_number (slice_get t.arguments place) q || stands_in place q ts

-- the transitions that count and have the symbol
abbrev pub with_symbol : Indexed → ℕ → List Transition
with_symbol a f = filter (chosen a.symbols symbol_key a.automaton.states f) a.automaton.transitions

-- the states at an argument place of a symbol
abbrev pub states_at : Indexed → ℕ → ℕ → List ℕ
states_at a f place = filter (λ q. stands_in place q (with_symbol a f)) (below a.automaton.states)

abbrev mutual
  -- of a term at an argument place of a symbol
  pub pools_at : Indexed → ℕ → ℕ → Term → List (List ℕ)
  pools_at a f place (var x) = states_at a f place ∷ []
  pools_at a f place (app g ts) = pools_from a g zero ts

  -- of terms at the argument places of a symbol from one on
  pub pools_from : Indexed → ℕ → ℕ → Terms → List (List ℕ)
  pools_from a f place nil = []
  pools_from a f place (cons t ts) = pools_at a f place t ++ pools_from a f (suc place) ts

-- a term that is a variable may have each state
abbrev pub pools_of : Indexed → Term → List (List ℕ)
pools_of a (var x) = below a.automaton.states ∷ []
pools_of a (app f ts) = pools_from a f zero ts
