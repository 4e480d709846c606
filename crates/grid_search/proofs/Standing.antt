-- One turn of the walk, over the entries that the program holds.
use Rattle.std.proofs.Common.{ℕ, ◌≡◌, ◌<◌, List, [], ◌∷◌, ◌++◌, map, length, get_or, slice_get, option_map, Some, Ok, true, false, refl, sym, ap, ◌∙◌, subst, arith}
use Rattle.std.proofs.lemmas.List.{length-map, map_push}
use Rattle.std.proofs.lemmas.Option.{slice_get-map, slice_get-get_or}
use Rattle.rewriting.specs.Prelude.{System, Head, heads, unraveled, IsSystem}
use Rattle.rewriting.proofs.Laws.{well_formed}
use Rattle.interpretations.specs.Judgement.{good}
use Rattle.interpretations.specs.Judged.{IsInterpretationJudged}
use Rattle.interpretations.specs.Size.{DoesUnravelingFit}
use Rattle.interpretations.proofs.Bound.{length-heads}
use Rattle.interpretations.specs.Linear.{Interpretation}
use Rattle.term_core.specs.HeadView.{head_view}
use Rattle.term_core.specs.declared.systems.Head as program
use Rattle.measure.specs.declared.Partial.{Partial}
use Rattle.measure.specs.declared.Partial.TheVariants.{Unknown}
use Rattle.grid_search.specs.Prefix.{PrefixAnswers}
use Rattle.grid_search.proofs.Prefixes.{whole_prefix_good}
use Rattle.cert_model.specs.CertificateView.{linear_entry_view}
use Rattle.cert_model.specs.declared.model.LinearEntry.{LinearEntry}
use Rattle.measure_grid.specs.Dead.{IsDead}
use Rattle.measure_grid.specs.Pruned.{IsPrunedBarren}
use Rattle.grid_search.specs.Columns.{IsFirstOf, AdvanceAnswers}
use Rattle.grid_search.specs.Walks.{HasComeTo, HasDoneWith, HasOneMore}
use Rattle.grid_search.proofs.Walking.{go_across, go_up, all_done, is_prefix}

abbrev views : List LinearEntry → Interpretation
views es = map linear_entry_view es

pub with_last : (es before : List LinearEntry) (e : LinearEntry) → es ≡ before ++ e ∷ [] → views es ≡ views before ++ linear_entry_view e ∷ []
with_last es before e is = ap views is ∙ map_push linear_entry_view before e

none_of : (es : List LinearEntry) → length es ≡ 0 → es ≡ []
none_of [] e = refl
none_of (x ∷ es) e = absurd (omega (arith, e))

module _ (start now : List LinearEntry) (done : (sys : System) (n : ℕ) → HasDoneWith sys (views start) n → HasDoneWith sys (views now) n) where
  module _ (before : List LinearEntry) (e next : LinearEntry) (is : now ≡ before ++ e ∷ []) (sys : System) (n : ℕ) (first : HasDoneWith sys (views start) n) where
    here : HasDoneWith sys (views before ++ linear_entry_view e ∷ []) n
    here = subst (λ (z : Interpretation). HasDoneWith sys z n) (with_last now before e is) (done sys n first)

    pub goes_across : (after : List LinearEntry) → after ≡ before ++ next ∷ [] → AdvanceAnswers (linear_entry_view e) (linear_entry_view next) true → HasComeTo sys (views after) n
    goes_across after e_last follows =
        subst (λ (z : Interpretation). HasComeTo sys z n) (sym (with_last after before next e_last)) (go_across sys (views before) (linear_entry_view e) (linear_entry_view next) n here follows)

    pub goes_up : AdvanceAnswers (linear_entry_view e) (linear_entry_view next) false → HasDoneWith sys (views before) n
    goes_up last = go_up sys (views before) (linear_entry_view e) (linear_entry_view next) n here last

  pub ends : length now ≡ 0 → (sys : System) (n : ℕ) → HasDoneWith sys (views start) n → IsPrunedBarren sys n
  ends none sys n first = all_done sys n (subst (λ (z : List LinearEntry). HasDoneWith sys (views z) n) (none_of now none) (done sys n first))

-- what was judged
pub unknown_alive : (sys : System) (es : Interpretation) (p : Partial) → p ≡ Unknown → PrefixAnswers sys es (Ok p) → IsDead sys es → ⊥
unknown_alive sys es p is h = subst (λ (z : Partial). PrefixAnswers sys es (Ok z)) is h

module _ (sys : System) (es : List LinearEntry) (hs : List program.Head) (are : map head_view hs ≡ heads sys) where
  views_many : length (views es) ≡ length es
  views_many = length-map es linear_entry_view

  heads_many : length hs ≡ length (heads sys)
  heads_many = sym (length-map hs head_view) ∙ ap (λ (z : List Head). length z) are

  pub some_left : (n : ℕ) → HasComeTo sys (views es) n → (length es ≡ length hs → ⊥) → length (views es) < length (heads sys)
  some_left n w not_all = let few = (is_prefix sys (views es) n w).few in let a = views_many in let b = heads_many in omega (arith, few, a, b, not_all)

  none_further : length es ≡ length hs → length (views es) ≡ length (heads sys)
  none_further all = let a = views_many in let b = heads_many in omega (arith, all, a, b)

  -- a whole prefix that is not dead
  pub good_seen : (n : ℕ) → HasComeTo sys (views es) n → IsSystem sys → DoesUnravelingFit sys → (p : Partial) → p ≡ Unknown → PrefixAnswers sys (views es) (Ok p) → length es ≡ length hs
      → (length (views es) ≡ length (heads sys)) × IsInterpretationJudged sys (views es) good
  good_seen n w sound fits p is answer all =
      let whole = none_further all in
      (whole, whole_prefix_good sys (views es) (well_formed sys sound) fits (is_prefix sys (views es) n w) whole (unknown_alive sys (views es) p is answer))

  -- one symbol further
  pub within_arities : (ns : List ℕ) (k : ℕ) → ns ≡ (unraveled sys).arities → k ≡ length es → length es < length (heads sys) → k < length ns
  within_arities ns k ns_are k_is less =
      let long = length-heads sys in let same : length ns ≡ length (unraveled sys).arities = ap (λ (z : List ℕ). length z) ns_are in omega (arith, long, same, k_is, less)

  pub one_more : (ns : List ℕ) (k : ℕ) (d : program.Head) (m : ℕ) → ns ≡ (unraveled sys).arities → k ≡ length es → length es < length (heads sys) → (e : LinearEntry)
      → IsFirstOf (head_view (get_or hs k d)) (get_or ns k m) (linear_entry_view e) → (after : List LinearEntry) → after ≡ es ++ e ∷ [] → HasOneMore sys (views es) (views after)
  one_more ns k d m ns_are k_is less e first after last =
      let many = heads_many in
      let count = views_many in
      let place : k ≡ length (views es) = omega (arith, count, k_is) in
      record {
        head = head_view (get_or hs k d);
        arity = get_or ns k m;
        entry = linear_entry_view e;
        is_head =
            subst (λ (z : ℕ). slice_get (heads sys) z ≡ Some (head_view (get_or hs k d))) place
            (ap (λ (z : List Head). slice_get z k) (sym are) ∙ (slice_get-map head_view hs k ∙ ap (option_map head_view) (slice_get-get_or hs k d (omega (arith, many, k_is, less)))));
        is_arity =
            subst (λ (z : ℕ). slice_get (unraveled sys).arities z ≡ Some (get_or ns k m)) place
            (ap (λ (z : List ℕ). slice_get z k) (sym ns_are) ∙ slice_get-get_or ns k m (within_arities ns k ns_are k_is less));
        is_first = first;
        last = with_last after es e last;
      }
