-- Values that are tried.
use Rattle.std.proofs.Common.{ℕ, ◌≡◌, ◌+◌, ◌<◌, List, [], ◌∷◌, Option, None, Some, Result, Ok, Err, refl, sym, ap, ◌∙◌, subst, arith}
use Rattle.rewriting.specs.Prelude.{Bindings, Condition, System}
use Rattle.term_core.specs.declared.terms.NoMemory.{NoMemory}
use Rattle.cc_count.specs.Counts.{Counts, Spends}
use Rattle.cc_count.proofs.Spending.{spends_both, spends_same}
use Rattle.first_found.specs.Items.{GivesNothing}
use Rattle.reach_lists.specs.Solutions.{Solution, solutions, asked}
use Rattle.reach_lists.specs.Lists.{unconditional, condition_list, condition_cost, total}
use Rattle.query_space.specs.Items.{try_values, full_under, assignment_cost, answer_of, query_item_cost, GivesAnswer}
use Rattle.query_space.proofs.Depths.{full_is, total_is}
use Rattle.reach.specs.SolutionView.{first_of}
use Rattle.search_answers.specs.Walks.{EndsSo}
use Rattle.search_answers.proofs.Walking.{item_gives, item_bare}
use Rattle.query_search.specs.Answers.{FirstAnswers, WalkAnswers}
use Rattle.query_search.specs.declared.reply.Reply.{Reply}
use Rattle.query_search.specs.declared.reply.Reply.TheVariants.{Spent}

module _ (sys : System) (cs : List Condition) (b : Bindings) (start mid end : Counts) (paid : Spends start 1 mid) where
  -- what the lists cost
  abbrev pub lists_cost : ℕ
  lists_cost = total (condition_cost sys [] 3) (asked (condition_list sys [] 3) cs (unconditional b ∷ []))

  all_paid : Spends mid lists_cost end → Spends start (1 + lists_cost) end
  all_paid s = spends_both start mid end 1 lists_cost paid s

  cost_is : 1 + lists_cost ≡ assignment_cost sys cs b
  cost_is = let same = total_is sys cs b in omega (arith, same)

  item_paid : Spends mid lists_cost end → Spends start (query_item_cost sys cs (try_values b)) end
  item_paid s = spends_same start end (1 + lists_cost) (assignment_cost sys cs b) cost_is (all_paid s)

  none_under : full_under sys cs b ≡ [] → GivesNothing (GivesAnswer sys cs) (try_values b)
  none_under e a (s, (rest, h), is) = (let wrong = sym e ∙ h in cc)

  no_first : (ss : List Solution) → None ≡ first_of ss → ss ≡ []
  no_first [] e = refl
  no_first (s ∷ ss) e = absurd cc

  some_first : (ss : List Solution) (x : Solution) → Some x ≡ first_of ss → (rest : List Solution) × (ss ≡ x ∷ rest)
  some_first [] x e = absurd cc
  some_first (s ∷ ss) x e = (let same : s ≡ x = cc in (ss, ap (λ y. y ∷ ss) same))

  pub values_end : (full : Option Solution) → full ≡ first_of (solutions (condition_list sys [] 3) cs (unconditional b ∷ [])) → Spends mid lists_cost end
      → (r : Result Reply NoMemory) → FirstAnswers cs full r
      → WalkAnswers sys cs (try_values b ∷ []) start end r
  values_end None e s (Ok r) h =
      subst (EndsSo (query_item_cost sys cs) (GivesAnswer sys cs) (try_values b ∷ []) start end) (sym h)
      (item_bare (query_item_cost sys cs) (GivesAnswer sys cs) (try_values b) start end (item_paid s)
      (none_under (sym (full_is sys cs b) ∙ no_first (solutions (condition_list sys [] 3) cs (unconditional b ∷ [])) e)))
  values_end (Some x) e s (Ok r) h =
      let first = some_first (solutions (condition_list sys [] 3) cs (unconditional b ∷ [])) x e in
      subst (EndsSo (query_item_cost sys cs) (GivesAnswer sys cs) (try_values b ∷ []) start end) (sym h)
      (item_gives (query_item_cost sys cs) (GivesAnswer sys cs) (try_values b) start end (item_paid s) (answer_of cs x) (x, (first.0, sym (full_is sys cs b) ∙ first.1), refl))
  values_end None e s (Err w) h = (1 + lists_cost, all_paid s)
  values_end (Some x) e s (Err w) h = (1 + lists_cost, all_paid s)

  pub values_stop : (mid.left < lists_cost) × Spends mid mid.left end → WalkAnswers sys cs (try_values b ∷ []) start end (Ok Spent)
  values_stop (short, s) =
      let left = s.left in
      let cost = cost_is in (
        1 + mid.left,
        spends_both start mid end 1 mid.left paid s,
        omega (arith, left),
        record { before = []; item = try_values b; behind = []; split = refl; none = tt; short = omega (arith, short, cost) },
      )

  pub values_fail : (n : ℕ) × Spends mid n end → (n : ℕ) × Spends start n end
  values_fail (n, s) = (1 + n, spends_both start mid end 1 n paid s)
