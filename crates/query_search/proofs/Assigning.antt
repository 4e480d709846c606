-- One assignment after the other.
use Rattle.std.proofs.Common.{ℕ, ◌≡◌, List, [], ◌∷◌, ◌++◌, map, true, false, Ok, refl, sym, ap, ◌∙◌}
use Rattle.std.specs.FinMap.{empty}
use Rattle.rewriting.specs.Prelude.{Term, Bindings, Condition, System}
use Rattle.cc_count.specs.Counts.{Counts}
use Rattle.query_space.specs.Items.{QueryItem, query_item_cost, try_values, GivesAnswer}
use Rattle.search_answers.proofs.Walking.{Walking, goes_on, ends, finishes}
use Rattle.query_search.specs.Answers.{reply_view, WalkAnswers}
use Rattle.query_search.specs.Choices.{chosen, chosen_from, TurnAnswers}
use Rattle.query_search.specs.declared.reply.Reply.{Reply}
use Rattle.query_search.specs.declared.reply.Reply.TheVariants.{Exhausted}
use Rattle.query_search.proofs.Turning.{head_split}
use Rattle.query_search.proofs.Ending.{not_nothing}

module _ (sys : System) (cs : List Condition) (items : List QueryItem) (a b c : Counts) (ts : List Term) (xs ns : List ℕ) (v : Bindings)
    (is : v ≡ chosen ts empty xs ns) (w : Walking (query_item_cost sys cs) (GivesAnswer sys cs) items a b (map try_values (chosen_from ts empty xs ns))) where
  with_first : (others : List Bindings) → chosen_from ts empty xs ns ≡ chosen ts empty xs ns ∷ others → map try_values (chosen_from ts empty xs ns) ≡ (try_values v ∷ []) ++ map try_values others
  with_first others e = ap (map try_values) e ∙ ap (λ u. try_values u ∷ map try_values others) (sym is)

  module _ (r : Reply) (h : WalkAnswers sys cs (try_values v ∷ []) b c (Ok r)) where
    pub value_ends : (r ≡ Exhausted → ⊥) → WalkAnswers sys cs items a c (Ok r)
    value_ends other =
        let split = head_split ts empty xs ns in ends w c (try_values v ∷ []) (map try_values split.0) (with_first split.0 split.1) (reply_view r) (not_nothing r other) h

    pub value_goes_on : (ms : List ℕ) → TurnAnswers ts xs ns ms true → r ≡ Exhausted → Walking (query_item_cost sys cs) (GivesAnswer sys cs) items a c (map try_values (chosen_from ts empty xs ms))
    value_goes_on ms next none = goes_on w c (try_values v ∷ []) (map try_values (chosen_from ts empty xs ms)) (with_first (chosen_from ts empty xs ms) next) (reply_view r) (ap reply_view none) h

    pub value_last : (ms : List ℕ) → TurnAnswers ts xs ns ms false → r ≡ Exhausted → WalkAnswers sys cs items a c (Ok Exhausted)
    value_last ms last none = finishes (goes_on w c (try_values v ∷ []) [] (with_first [] last) (reply_view r) (ap reply_view none) h) refl
