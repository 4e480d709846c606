-- A term with its occurrences numbered, argument by argument, and the states that it reaches.
use Rattle.std.proofs.Common.{◌≡◌, ◌↔◌, ℕ, ◌+◌, ◌<◌, ◌≤◌, List, [], ◌∷◌, ◌++◌, length, get_or, take, drop, Vec, Global, refl, ap, ap₂, sym, subst, ◌∙◌, arith, append_assoc, length-append}
use Rattle.std.proofs.lemmas.List.{take-append-drop}
use Rattle.general_lemmas.proofs.Places.{take_read}
use Rattle.rewriting.specs.Terms as math
use Rattle.rewriting.specs.Prelude.{size, size_all, variable_occurrences, variable_occurrences_of}
use Rattle.automata.specs.Runs.{Reach, at, ReachBy}
use Rattle.automata.specs.Closed.{state_of}
use Rattle.term_core.specs.View.{view, views}
use Rattle.term_core.specs.declared.terms.Term.{Term, Fun}
use Rattle.term_core.proofs.Views.{view-Fun}
use Rattle.number_sets.specs.Sets.{below}
use Rattle.number_sets.specs.declared.rows.NumberRelation.{NumberRelation}
use Rattle.automaton_runs.specs.Counted.{Indexed, Finds}
use Rattle.automaton_runs.specs.Choices.{Batch, Holds, choice_of, occurrences_of}
use Rattle.automaton_runs.specs.Linear.{linear, linear_all}
use Rattle.automaton_runs.specs.Reached.{AreWhere, Reaches}
use Rattle.automaton_runs.proofs.NumberedLeaves.{reach_linear}

-- with the numbers of its occurrences for names
pub where_occurrences : (a : Indexed) (b : Batch) (t u : math.Term) (names : List ℕ) (r : NumberRelation) → occurrences_of b ≡ length (variable_occurrences t)
    → ((k : ℕ) → Holds b k → length (choice_of b k) ≡ occurrences_of b)
    → names ≡ below (occurrences_of b) → u ≡ linear 0 t → AreWhere b (Reaches a names u) r → AreWhere b (ReachBy (Finds a) t) r
where_occurrences a b t u names r long wide is numbered h q k =
    (λ x. let y = (h q k).0 x in (y.0, (same y.0).0 y.1), λ y. (h q k).1 (y.0, (same y.0).1 y.1))
  where
    same : Holds b k → Reach (Finds a) (at (state_of names (choice_of b k))) u q ↔ ReachBy (Finds a) t (choice_of b k) q
    same holds =
        let named : names ≡ below (length (choice_of b k)) = is ∙ ap below (sym (wide k holds)) in
        subst (λ (l : List ℕ). Reach (Finds a) (at (state_of l (choice_of b k))) u q ↔ ReachBy (Finds a) t (choice_of b k) q) (sym named)
        (subst (λ (w : math.Term). Reach (Finds a) (at (state_of (below (length (choice_of b k))) (choice_of b k))) w q ↔ ReachBy (Finds a) t (choice_of b k) q) (sym numbered)
        (reach_linear (Finds a) t (choice_of b k) q (wide k holds ∙ long)))

-- there are no more occurrences than nodes
mutual
  pub leaves_few : (t : math.Term) → length (variable_occurrences t) ≤ size t
  leaves_few (math.var x) = omega arith
  leaves_few (math.app f ts) = let few = leaves_of_few ts in omega arith

  leaves_of_few : (ts : math.Terms) → length (variable_occurrences_of ts) ≤ size_all ts
  leaves_of_few math.nil = omega arith
  leaves_of_few (math.cons t ts) =
      let first = leaves_few t in
      let rest = leaves_of_few ts in
      omega (arith, length-append (variable_occurrences t) (variable_occurrences_of ts))

leaves_joined : (ts us : List Term) → variable_occurrences_of (views (ts ++ us)) ≡ variable_occurrences_of (views ts) ++ variable_occurrences_of (views us)
leaves_joined [] us = refl
leaves_joined (t ∷ ts) us = ap (λ (l : List ℕ). variable_occurrences (view t) ++ l) (leaves_joined ts us)
    ∙ sym (append_assoc (variable_occurrences (view t)) (variable_occurrences_of (views ts)) (variable_occurrences_of (views us)))

pub count_more : (ts : List Term) (i : ℕ) (u : Term) → i < length ts → u ≡ get_or ts i u
    → length (variable_occurrences_of (views (take (i + 1) ts))) ≡ length (variable_occurrences_of (views (take i ts))) + length (variable_occurrences (view u))
count_more ts i u inside is =
    let joined : variable_occurrences_of (views (take (i + 1) ts)) ≡ variable_occurrences_of (views (take i ts)) ++ variable_occurrences_of (views (u ∷ [])) = ap
    (λ (l : List Term). variable_occurrences_of (views l)) (take_read ts i u inside is) ∙ leaves_joined (take i ts) (u ∷ []) in
    let long = ap length joined in
    omega (arith, length-append (variable_occurrences_of (views (take i ts))) (variable_occurrences_of (views (u ∷ []))), length-append (variable_occurrences (view u)) [])

pub count_within : (ts : List Term) (i : ℕ) → length (variable_occurrences_of (views (take i ts))) ≤ length (variable_occurrences_of (views ts))
count_within ts i =
    let joined = ap (λ (l : List Term). length (variable_occurrences_of (views l))) (take-append-drop i ts) in
    let parts = ap length (leaves_joined (take i ts) (drop i ts)) in
    omega (arith, length-append (variable_occurrences_of (views (take i ts))) (variable_occurrences_of (views (drop i ts))))

pub leaves_shown : (t : Term) (f : ℕ) (v : Vec Term Global) → t ≡ Fun f v → variable_occurrences (view t) ≡ variable_occurrences_of (views v.items)
leaves_shown t f v is = ap variable_occurrences (ap view is ∙ view-Fun f v)

-- one more numbered argument
numbered_push : (n : ℕ) (ts made : List Term) (u v : Term) → views made ≡ linear_all n (views ts) → view v ≡ linear (n + length (variable_occurrences_of (views ts))) (view u)
    → views (made ++ v ∷ []) ≡ linear_all n (views (ts ++ u ∷ []))
numbered_push n [] [] u v e h = let same : n + 0 ≡ n = omega arith in ap (λ (w : math.Term). math.cons w math.nil) (h ∙ ap (λ (m : ℕ). linear m (view u)) same)
numbered_push n [] (m ∷ ms) u v e h = absurd (cc)
numbered_push n (t ∷ ts) [] u v e h = absurd (cc)
numbered_push n (t ∷ ts) (m ∷ ms) u v e h =
    let first : view m ≡ linear n (view t) = cc in
    let rest : views ms ≡ linear_all (n + length (variable_occurrences (view t))) (views ts) = cc in
    let long = length-append (variable_occurrences (view t)) (variable_occurrences_of (views ts)) in
    let place : n + length (variable_occurrences (view t) ++ variable_occurrences_of (views ts)) ≡ n + length (variable_occurrences (view t)) + length
    (variable_occurrences_of (views ts)) = omega arith in
    ap₂ math.cons first (numbered_push (n + length (variable_occurrences (view t))) ts ms u v rest (h ∙ ap (λ (k : ℕ). linear k (view u)) place))

pub numbered_more : (n next i : ℕ) (ts made new : List Term) (u v : Term) → i < length ts → u ≡ get_or ts i u → next ≡ n + length (variable_occurrences_of (views (take i ts))) → new ≡ made ++ v ∷ []
    → views made ≡ linear_all n (views (take i ts)) → view v ≡ linear next (view u) → views new ≡ linear_all n (views (take (i + 1) ts))
numbered_more n next i ts made new u v inside is place put e h =
    ap views put ∙ numbered_push n (take i ts) made u v e (h ∙ ap (λ (k : ℕ). linear k (view u)) place) ∙ ap (λ (l : List Term). linear_all n (views l)) (sym (take_read ts i u inside is))

pub numbered_symbol : (n : ℕ) (t : Term) (f : ℕ) (v made : Vec Term Global) (ts : List Term) → t ≡ Fun f v → ts ≡ v.items → views made.items ≡ linear_all n (views ts)
    → view (Fun f made) ≡ linear n (view t)
numbered_symbol n t f v made ts is same e =
    view-Fun f made ∙ ap (math.app f) (e ∙ ap (λ (l : List Term). linear_all n (views l)) same) ∙ sym (ap (linear n) (ap view is ∙ view-Fun f v))
