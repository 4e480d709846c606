-- A term with its variable occurrences numbered: a state for each number is a choice.
use Rattle.std.proofs.Common.{◌≡◌, ◌≢◌, ◌↔◌, ℕ, ◌+◌, ◌<◌, List, [], ◌∷◌, ◌++◌, length, get_or, take, drop, refl, ap, sym, subst, ◌∙◌}
use Rattle.std.proofs.Common.{arith, length-append, length-drop}
use Rattle.std.proofs.lemmas.List.{get_or_append_left, get_or-append-add, take-append-drop}
use Rattle.std.proofs.lemmas.Option.{get_or_from_slice_get}
use Rattle.std.proofs.Math.Seq.{length-take-le}
use Rattle.rewriting.specs.Prelude.{Term, Terms, var, app, nil, cons, variable_occurrences, variable_occurrences_of}
use Rattle.automata.specs.Runs.{Moves, Reach, ReachAll, at, ReachBy, ReachAllBy}
use Rattle.automata.specs.Closed.{state_of}
use Rattle.number_sets.specs.Sets.{below}
use Rattle.number_sets.proofs.Members.{length-below, get_or-below}
use Rattle.automaton_runs.specs.Linear.{linear, linear_all}
use Rattle.automaton_runs.proofs.Arguments.{choice_length}
use Rattle.automaton_runs.proofs.BatchParts.{found_state}

-- the variables from the number i on may have the states of a choice
abbrev pub AreGiven : (ℕ → ℕ → Type 0) → ℕ → List ℕ → Type 0
AreGiven At i cs = (k : ℕ) → k < length cs → At (i + k) (get_or cs k 0)

given_below : (cs : List ℕ) → AreGiven (at (state_of (below (length cs)) cs)) 0 cs
given_below cs k h =
    let n = length cs in
    let low : k < length (below (length cs)) = omega (arith, h, length-below (length cs)) in
    let earlier : (j : ℕ) → j < k → get_or (below (length cs)) j 0 ≢ k = λ j l e. let same = get_or-below (length cs) j (omega (arith, h, l)) in omega (arith, l, same, e) in
    let found = found_state (below n) cs k k h low (get_or-below n k h) earlier in
    let place : k ≡ 0 + k = omega arith in
    get_or_from_slice_get cs k (state_of (below n) cs k) 0 found ∙ ap (state_of (below n) cs) place

module _ (At : ℕ → ℕ → Type 0) where
  given_left : (i : ℕ) (cs ds : List ℕ) → AreGiven At i (cs ++ ds) → AreGiven At i cs
  given_left i cs ds g k h = subst (At (i + k)) (get_or_append_left cs ds 0 k h) (g k (omega (arith, length-append cs ds)))

  given_right : (i n : ℕ) (cs ds : List ℕ) → length cs ≡ n → AreGiven At i (cs ++ ds) → AreGiven At (i + n) ds
  given_right i n cs ds l g k h =
      let place : i + (length cs + k) ≡ (i + n) + k = omega arith in
      subst (λ (p : ℕ). At p (get_or ds k 0)) place (subst (At (i + (length cs + k))) (get_or-append-add cs ds k 0) (g (length cs + k) (omega (arith, length-append cs ds))))

  given_one : (i : ℕ) (cs : List ℕ) (q : ℕ) → AreGiven At i cs → cs ≡ q ∷ [] → At i q
  given_one i cs q g h =
      let one : length cs ≡ 1 = ap length h in
      let place : i + 0 ≡ i = omega arith in
      subst (λ (p : ℕ). At p q) place (subst (At (i + 0)) (ap (λ (l : List ℕ). get_or l 0 0) h) (g 0 (omega arith)))

  -- what a term reaches by a choice, its numbered term reaches where the variables may have its states
  module _ (M : Moves) where
    mutual
      pub linear_reach : (i : ℕ) (t : Term) (cs : List ℕ) (q : ℕ) → AreGiven At i cs → ReachBy M t cs q → Reach M At (linear i t) q
      linear_reach i (var x) cs q g h = given_one i cs q g h
      linear_reach i (app f ts) cs q g (qs, m, r) = (qs, m, linear_reach_all i ts cs qs g r)

      linear_reach_all : (i : ℕ) (ts : Terms) (cs qs : List ℕ) → AreGiven At i cs → ReachAllBy M ts cs qs → ReachAll M At (linear_all i ts) qs
      linear_reach_all i nil cs qs g h = h.1
      linear_reach_all i (cons t ts) cs [] g h = absurd h
      linear_reach_all i (cons t ts) cs (q ∷ qs) g (before, after, is, one, others) =
          let g2 : AreGiven At i (before ++ after) = subst (AreGiven At i) is g in (
            linear_reach i t before q (given_left i before after g2) one,
            linear_reach_all (i + length (variable_occurrences t)) ts after qs (given_right i (length (variable_occurrences t)) before after (choice_length M t before q one) g2) others,
          )

to_variable : (e : ℕ → ℕ) (i : ℕ) (cs : List ℕ) (q : ℕ) → length cs ≡ 1 → AreGiven (at e) i cs → q ≡ e i → cs ≡ q ∷ []
to_variable e i [] q l g h = absurd (omega arith)
to_variable e i (c ∷ []) q l g h =
    let place : i ≡ i + 0 = omega arith in ap (λ (p : ℕ). p ∷ []) (sym (h ∙ ap e place ∙ sym (g 0 (omega arith))))
to_variable e i (c ∷ d ∷ cs) q l g h = absurd (omega arith)

mutual
  linear_to : (M : Moves) (e : ℕ → ℕ) (i : ℕ) (t : Term) (cs : List ℕ) (q : ℕ) → length cs ≡ length (variable_occurrences t) → AreGiven (at e) i cs → Reach M (at e) (linear i t) q → ReachBy M t cs q
  linear_to M e i (var x) cs q l g h = to_variable e i cs q l g h
  linear_to M e i (app f ts) cs q l g (qs, m, r) = (qs, m, linear_to_all M e i ts cs qs l g r)

  linear_to_all : (M : Moves) (e : ℕ → ℕ) (i : ℕ) (ts : Terms) (cs qs : List ℕ) → length cs ≡ length (variable_occurrences_of ts) → AreGiven (at e) i cs
      → ReachAll M (at e) (linear_all i ts) qs → ReachAllBy M ts cs qs
  linear_to_all M e i nil [] qs l g h = (refl, h)
  linear_to_all M e i nil (c ∷ cs) qs l g h = absurd (omega arith)
  linear_to_all M e i (cons t ts) cs [] l g h = absurd h
  linear_to_all M e i (cons t ts) cs (q ∷ qs) l g (one, others) =
      let n = length (variable_occurrences t) in
      let all = length-append (variable_occurrences t) (variable_occurrences_of ts) in
      let whole : take n cs ++ drop n cs ≡ cs = take-append-drop n cs in
      let first : length (take n cs) ≡ n = length-take-le n cs (omega arith) in
      let rest : length (drop n cs) ≡ length (variable_occurrences_of ts) = omega (arith, length-drop n cs) in
      let g2 : AreGiven (at e) i (take n cs ++ drop n cs) = subst (AreGiven (at e) i) (sym whole) g in (
        take n cs,
        drop n cs,
        sym whole,
        linear_to M e i t (take n cs) q first (given_left (at e) i (take n cs) (drop n cs) g2) one,
        linear_to_all M e (i + n) ts (drop n cs) qs rest (given_right (at e) i n (take n cs) (drop n cs) first g2) others,
      )

-- a term reaches a state by a choice just where the numbered term reaches it with the choice's states for the numbers
pub reach_linear : (M : Moves) (t : Term) (cs : List ℕ) (q : ℕ) → length cs ≡ length (variable_occurrences t)
    → Reach M (at (state_of (below (length cs)) cs)) (linear 0 t) q ↔ ReachBy M t cs q
reach_linear M t cs q l = (
  linear_to M (state_of (below (length cs)) cs) 0 t cs q l (given_below cs),
  linear_reach (at (state_of (below (length cs)) cs)) M 0 t cs q (given_below cs),
)
