-- The lists for a query's conditions are those for the conditions of a rule, with condition depth 3.
use Rattle.std.proofs.Common.{◌≡◌, List, [], ◌∷◌, ◌++◌, flat_map, filter_map, refl, ap, ◌∙◌}
use Rattle.general_lemmas.proofs.Lists.{flat_map_same}
use Rattle.rewriting.specs.Prelude.{Term, Bindings, Condition, System}
use Rattle.reach_lists.specs.Solutions.{Reached, Solution, starts, extended, extensions, solutions, asked}
use Rattle.reach_lists.specs.Lists.{unconditional, condition_list, condition_cost, total}
use Rattle.reach_lists.proofs.Equations.{one_deeper, deeper_cost}
use Rattle.reach_lists.proofs.Each.{total_same}
use Rattle.query_space.specs.Items.{query_list, query_list_cost, full_under, asked_under}

module _ (inner other : Term → List Reached) (same : (t : Term) → inner t ≡ other t) where
  extensions_agree : (c : Condition) (s : Solution) → extensions inner c s ≡ extensions other c s
  extensions_agree c s =
      flat_map_same (λ t. filter_map (extended c s) (inner t)) (λ t. filter_map (extended c s) (other t)) (λ t. ap (filter_map (extended c s)) (same t)) (starts c s)

  solutions_agree : (cs : List Condition) (ss : List Solution) → solutions inner cs ss ≡ solutions other cs ss
  solutions_agree [] ss = refl
  solutions_agree (c ∷ cs) ss =
      ap (solutions inner cs) (flat_map_same (extensions inner c) (extensions other c) (extensions_agree c) ss) ∙ solutions_agree cs (flat_map (extensions other c) ss)

  asked_agree : (cs : List Condition) (ss : List Solution) → asked inner cs ss ≡ asked other cs ss
  asked_agree [] ss = refl
  asked_agree (c ∷ cs) ss =
      ap (λ zs. flat_map (starts c) ss ++ zs)
      (ap (asked inner cs) (flat_map_same (extensions inner c) (extensions other c) (extensions_agree c) ss) ∙ asked_agree cs (flat_map (extensions other c) ss))

module _ (sys : System) (cs : List Condition) (b : Bindings) where
  pub full_is : solutions (condition_list sys [] 3) cs (unconditional b ∷ []) ≡ full_under sys cs b
  full_is = solutions_agree (condition_list sys [] 3) (query_list sys) (λ t. one_deeper sys [] 2 t) cs (unconditional b ∷ [])

  pub asked_is : asked (condition_list sys [] 3) cs (unconditional b ∷ []) ≡ asked_under sys cs b
  asked_is = asked_agree (condition_list sys [] 3) (query_list sys) (λ t. one_deeper sys [] 2 t) cs (unconditional b ∷ [])

  pub total_is : total (condition_cost sys [] 3) (asked (condition_list sys [] 3) cs (unconditional b ∷ [])) ≡ total (query_list_cost sys) (asked_under sys cs b)
  total_is = total_same (condition_cost sys [] 3) (query_list_cost sys) (λ t. deeper_cost sys [] 2 t) (asked (condition_list sys [] 3) cs (unconditional b ∷ []))
      ∙ ap (total (query_list_cost sys)) asked_is
