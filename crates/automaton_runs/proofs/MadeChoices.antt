-- The choices by which a term may arrive: of its pools, or, where there is one state, that state for each occurrence.
use Rattle.std.proofs.Common.{◌≡◌, ℕ, zero, suc, ◌-◌, ◌<◌, ◌≤◌, inl, inr, ⊎_elim, List, [], ◌∷◌, ◌++◌, length, take, drop, replicate, All, AllPairs, refl, ap, ap₂, sym, subst, ◌∙◌}
use Rattle.std.proofs.Common.{length-append, length-drop, length-take-le, take-append-drop, arith}
use Rattle.std.proofs.lemmas.List.{length-replicate}
use Rattle.std.proofs.lemmas.List.Elements.{All-nil, All-cons, All-head, All-tail, All-replicate}
use Rattle.rewriting.specs.Prelude.{Term, IsAmong, IsBefore, variable_occurrences}
use Rattle.rewriting.proofs.Lists.{among_left, among_right}
use Rattle.automata.specs.Runs.{ReachBy}
use Rattle.automata.specs.Closed.{IsChoice}
use Rattle.automaton_runs.specs.Counted.{Indexed, Finds}
use Rattle.automaton_runs.specs.Choices.{AreOf, choices_of, AreChoices}
use Rattle.automaton_runs.specs.Pools.{pools_of}
use Rattle.automaton_runs.specs.Possible.{AreAscending, AreFronts}
use Rattle.automaton_runs.proofs.ChoiceLists.{in_choices, of_choices, of_parts, of_both, of_long, ordered_choices}
use Rattle.automaton_runs.proofs.PoolStates.{pools_complete, pools_long, pools_are}
use Rattle.automaton_runs.proofs.Ordered.{pairs_from_ordered}

among_first : {X : Type 0} (n : ℕ) (xs : List X) (x : X) → IsAmong x (take n xs) → IsAmong x xs
among_first {X = X} n xs x h = subst (λ (l : List X). IsAmong x l) (take-append-drop n xs) (among_left x (take n xs) (drop n xs) h)

among_last : {X : Type 0} (n : ℕ) (xs : List X) (x : X) → IsAmong x (drop n xs) → IsAmong x xs
among_last {X = X} n xs x h = subst (λ (l : List X). IsAmong x l) (take-append-drop n xs) (among_right x (take n xs) (drop n xs) h)

-- choices of pools of states
of_below_pools : (n : ℕ) (pools : List (List ℕ)) (cs : List ℕ) → ((qs : List ℕ) → IsAmong qs pools → (q : ℕ) → IsAmong q qs → q < n) → AreOf pools cs → All (λ q. q < n) cs
of_below_pools n [] [] low z = All-nil (λ q. q < n)
of_below_pools n [] (c ∷ cs) low z = absurd z
of_below_pools n (qs ∷ pools) [] low z = absurd z
of_below_pools n (qs ∷ pools) (c ∷ cs) low z = All-cons (λ q. q < n) c cs (low qs (inl refl) c z.0) (of_below_pools n pools cs (λ ps i. low ps (inr i)) z.1)

module _ (a : Indexed) (t : Term) (pools : List (List ℕ)) (is : pools ≡ pools_of a t) (start : ℕ) (within : start ≤ length pools) where
  long : length pools ≡ length (variable_occurrences t)
  long = ap length is ∙ pools_long a t

  pool_states : (qs : List ℕ) → IsAmong qs pools → (q : ℕ) → IsAmong q qs → q < a.automaton.states
  pool_states qs i = (pools_are a t qs (subst (IsAmong qs) is i)).0

  ascending : AreAscending pools
  ascending qs i = (pools_are a t qs (subst (IsAmong qs) is i)).1

  first_long : (front : List ℕ) → AreOf (take start pools) front → length front ≡ start
  first_long front of = of_long (take start pools) front of ∙ length-take-le start pools within

  last_long : (tail : List ℕ) → AreOf (drop start pools) tail → length tail ≡ length pools - start
  last_long tail of = of_long (drop start pools) tail of ∙ length-drop start pools

  both : (front tail : List ℕ) → AreOf (take start pools) front → AreOf (drop start pools) tail → AreOf pools (front ++ tail)
  both front tail f s = subst (λ (ps : List (List ℕ)). AreOf ps (front ++ tail)) (take-append-drop start pools) (of_both (take start pools) (drop start pools) front tail f s)

  pub choices_are : (fronts tails : List (List ℕ)) → AreFronts a t (take start pools) (drop start pools) fronts → tails ≡ choices_of (drop start pools)
      → AreChoices a t (record { fronts = fronts; width = length pools - start; tails = tails })
  choices_are fronts tails firsts last = record {
    long = λ front i. let here = first_long front (firsts.among front i) in let all = long in omega arith;
    wide = λ tail i. last_long tail (of_tails tail i);
    choices = λ front tail i j. of_choice front tail (firsts.among front i) (of_tails tail j);
    complete = λ cs q choice r.
        let of = subst (λ (ps : List (List ℕ)). AreOf ps cs) (sym is) (pools_complete a t cs q choice r) in
        let parts = of_parts start pools cs of in
        let whole : cs ≡ take start cs ++ drop start cs = sym (take-append-drop start cs) in (
          take start cs,
          drop start cs,
          firsts.complete (take start cs) (drop start cs) q parts.0 parts.1 (subst (λ (l : List ℕ). ReachBy (Finds a) t l q) whole r),
          subst (λ (l : List (List ℕ)). IsAmong (drop start cs) l) (sym last) (in_choices (drop start pools) (drop start cs) parts.1),
          whole,
        );
    fronts_ordered = firsts.ordered (λ qs i. ascending qs (among_first start pools qs i));
    tails_ordered = subst (AllPairs IsBefore) (sym last)
        (pairs_from_ordered IsBefore (choices_of (drop start pools)) (ordered_choices (drop start pools) (λ qs i. ascending qs (among_last start pools qs i))));
  }
    where
      of_tails : (tail : List ℕ) → IsAmong tail tails → AreOf (drop start pools) tail
      of_tails tail i = of_choices (drop start pools) tail (subst (λ (l : List (List ℕ)). IsAmong tail l) last i)

      of_choice : (front tail : List ℕ) → AreOf (take start pools) front → AreOf (drop start pools) tail → IsChoice a.automaton.states t (front ++ tail)
      of_choice front tail f s = record {
        each = let one = first_long front f in let two = last_long tail s in let all = long in omega (arith, length-append front tail);
        states = of_below_pools a.automaton.states pools (front ++ tail) pool_states (both front tail f s);
      }

-- where there is one state
zeros_only : (m : ℕ) (cs : List ℕ) → length cs ≡ m → All (λ q. q < 1) cs → cs ≡ replicate m 0
zeros_only zero [] long all = refl
zeros_only zero (c ∷ cs) long all = absurd (omega arith)
zeros_only (suc m) [] long all = absurd (omega arith)
zeros_only (suc m) (c ∷ cs) long all =
    let first : c < 1 = All-head (λ q. q < 1) c cs all in
    let here : c ≡ 0 = omega arith in
    ap₂ (λ (x : ℕ) (xs : List ℕ). x ∷ xs) here (zeros_only m cs (omega arith) (All-tail (λ q. q < 1) c cs all))

pub zeros_are : (a : Indexed) (t : Term) (m : ℕ) → a.automaton.states ≡ 1 → m ≡ length (variable_occurrences t) → AreChoices a t (record { fronts = [] ∷ []; width = m; tails = replicate m 0 ∷ [] })
zeros_are a t m one long = record {
  long = λ front i. ⊎_elim (λ (e : front ≡ []). let none = ap length e in omega arith) (λ f. absurd f) i;
  wide = λ tail i. ⊎_elim (λ e. ap length e ∙ length-replicate m 0) (λ f. absurd f) i;
  choices = λ front tail i j. ⊎_elim (λ e. ⊎_elim (λ f. subst (λ (l : List ℕ). IsChoice a.automaton.states t l) (sym (ap₂ (λ (x y : List ℕ). x ++ y) e f)) zero_choice)
      (λ f. absurd f) j) (λ f. absurd f) i;
  complete = λ cs q choice r. ([], replicate m 0, inl refl, inl refl, zeros_only m cs (choice.each ∙ sym long) (subst (λ (n : ℕ). All (λ q. q < n) cs) one choice.states));
  fronts_ordered = λ i j d l h. absurd (omega arith);
  tails_ordered = λ i j d l h. absurd (omega arith);
}
  where
    zero_choice : IsChoice a.automaton.states t (replicate m 0)
    zero_choice = record { each = length-replicate m 0 ∙ long; states = subst (λ (n : ℕ). All (λ q. q < n) (replicate m 0)) (sym one) (All-replicate (λ q. q < 1) m 0 (omega arith)) }
