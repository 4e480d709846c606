-- How the search ends.
use Rattle.std.proofs.Common.{ℕ, ◌≡◌, ◌+◌, ◌*◌, ◌^◌, ◌<◌, ◌≤◌, length, ◌++◌, List, [], ◌∷◌, filter, cond, Bool, Result, Ok, Err, refl, ap, ◌∙◌, subst, arith}
use Rattle.std.specs.List.{range_with_len}
use Rattle.std.proofs.lemmas.List.Elements.{filter-append}
use Rattle.search_spaces.proofs.Growths.{range_more}
use Rattle.rewriting.specs.Prelude.{with_variables, with_variables_of, variables_of, Condition, System, sides, IsWellFormed}
use Rattle.rewriting.proofs.Lengths.{variables_length}
use Rattle.certificates.specs.Prelude.{DoConditionsFit, AreConditionsOver}
use Rattle.term_core.specs.declared.terms.NoMemory.{NoMemory}
use Rattle.cc_count.specs.Counts.{Counts, Spends}
use Rattle.first_found.specs.Items.{cost_of}
use Rattle.first_found.specs.Spaces.{Ending, found, nothing, spent}
use Rattle.query_space.specs.Items.{QueryAnswer, query_items, query_item_cost, GivesAnswer}
use Rattle.query_space.specs.Endings.{MayEndQuery}
use Rattle.query_space.proofs.Searchable.{searchable, prices_are, ends_found, ends_none, ends_spent}
use Rattle.query_space.proofs.True.{answers_true}
use Rattle.search_answers.specs.Walks.{EndsSo}
use Rattle.query_search.specs.Answers.{reply_view, WalkAnswers, SearchAnswers, IsTrueEnding, IsTrueReply, IsEmptyEnding, IsEmptyReply, IsAnswer, HasAnswerWithin}
use Rattle.query_search.specs.declared.reply.Reply.{Reply}
use Rattle.query_search.specs.declared.reply.Reply.TheVariants.{Infeasible, Meets, Exhausted, Spent}

-- a reply that is an answer, or the end of the budget
pub not_nothing : (r : Reply) → (r ≡ Exhausted → ⊥) → reply_view r ≡ nothing → ⊥
not_nothing (Infeasible e) other = λ e. cc
not_nothing (Meets ts ds) other = λ e. cc
not_nothing Exhausted other = λ e. other refl
not_nothing Spent other = λ e. cc

-- the numbers that pass a test, up to one more
pub filter_more : (p : ℕ → Bool) (a n j : ℕ) → a + n ≡ j → filter p (range_with_len a (n + 1)) ≡ filter p (range_with_len a n) ++ cond (p j) (j ∷ []) []
filter_more p a n j e = ap (filter p) (range_more a n j e) ∙ filter-append p (range_with_len a n) (j ∷ [])

module _ (sys : System) (cs : List Condition) (before after : Counts) where
  ended : (e : Ending QueryAnswer) → EndsSo (query_item_cost sys cs) (GivesAnswer sys cs) (query_items sys cs) before after e → (n : ℕ) × Spends before n after × MayEndQuery sys cs before.left n e
  ended (found a) (n, s, f) = (n, s, ends_found sys cs before.left n a f)
  ended nothing (s, none) = (cost_of (query_item_cost sys cs) (query_items sys cs), s, ends_none sys cs before.left none)
  ended spent (n, s, end, stopped) =
      let units = s.left in
      let all : n ≡ before.left = omega (arith, units, end) in
      (n, s, subst (λ left. MayEndQuery sys cs left n spent) all (ends_spent sys cs n stopped))

  pub searched : (r : Result Reply NoMemory) → WalkAnswers sys cs (query_items sys cs) before after r → SearchAnswers sys cs before after r
  searched (Ok r) h = ended (reply_view r) h
  searched (Err e) h = h

  true_ending : IsWellFormed sys → AreConditionsOver sys.arities cs → (e : Ending QueryAnswer) (n : ℕ) → MayEndQuery sys cs before.left n e → IsTrueEnding sys cs e
  true_ending well over (found a) n h = (let held = (searchable sys cs).searched.held a n h in answers_true sys cs a well over held.0 held.1)
  true_ending well over nothing n h = tt
  true_ending well over spent n h = tt

  pub says_true : IsWellFormed sys → AreConditionsOver sys.arities cs → (r : Result Reply NoMemory) → SearchAnswers sys cs before after r → IsTrueReply sys cs r
  says_true well over (Ok r) (n, s, h) = true_ending well over (reply_view r) n h
  says_true well over (Err e) h = tt

  empty_ending : (e : Ending QueryAnswer) (n : ℕ) → MayEndQuery sys cs before.left n e → IsEmptyEnding sys cs e
  empty_ending (found a) n h = tt
  empty_ending nothing n (barren, paid) = (searchable sys cs).searched.barren barren
  empty_ending spent n h = tt

  pub says_nothing : (r : Result Reply NoMemory) → SearchAnswers sys cs before after r → IsEmptyReply sys cs r
  says_nothing (Ok r) (n, s, h) = empty_ending (reply_view r) n h
  says_nothing (Err e) h = tt

-- with a good answer and its price one is found
module _ (sys : System) (cs : List Condition) (before after : Counts) (h : HasAnswerWithin sys cs before.left) where
  pub enough : (r : Result Reply NoMemory) → SearchAnswers sys cs before after r → IsAnswer r
  enough (Ok (Infeasible e)) s = tt
  enough (Ok (Meets ts ds)) s = tt
  enough (Ok Exhausted) (n, s, (barren, paid)) = (searchable sys cs).searched.barren barren h.answer h.held h.good
  enough (Ok Spent) (n, s, (all, dearer)) = let more = dearer h.price ((prices_are sys cs h.price).1 h.is_price) in let within = h.within in absurd (omega (arith, more, within))
  enough (Err e) s = tt

-- how many variables conditions have, whose terms fit
few_variables : (cs : List Condition) (xs : List ℕ) → DoConditionsFit cs → length (with_variables_of xs (sides cs)) ≤ length xs + 20000 * length cs
few_variables [] xs h = omega arith
few_variables (c ∷ cs) xs (l, r, h) =
    let left = variables_length xs c.left in
    let right = variables_length (with_variables xs c.left) c.right in
    let rest = few_variables cs (with_variables (with_variables xs c.left) c.right) h in
    let small = l.nodes in
    let low = r.nodes in
    omega (arith, left, right, rest, small, low)

pub few_numbers : (cs : List Condition) → DoConditionsFit cs → length cs ≤ 200 → length (variables_of (sides cs)) < 2 ^ 32
few_numbers cs h few = let most = few_variables cs [] h in omega (arith, most, few)
