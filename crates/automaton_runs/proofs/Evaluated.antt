-- What is evaluated is what the terms reach, choice by choice.
use Rattle.std.proofs.Common.{◌≡◌, ◌↔◌, ℕ, List, [], ◌∷◌, Vec, Global, refl, ap, sym, subst, ◌∙◌}
use Rattle.std.specs.List.{AllZip}
use Rattle.rewriting.specs.Terms as math
use Rattle.automata.specs.Runs.{Moves, Reach, ReachAll, at}
use Rattle.automata.specs.Closed.{state_of}
use Rattle.term_core.specs.View.{view, views}
use Rattle.term_core.specs.declared.terms.Term.{Term, Var, Fun}
use Rattle.term_core.proofs.Views.{view-Var, view-Fun}
use Rattle.rewriting.specs.Lists.{IsAmong}
use Rattle.number_sets.specs.Relation.{Relates}
use Rattle.number_sets.specs.declared.rows.NumberRelation.{NumberRelation}
use Rattle.automaton_runs.specs.Counted.{Indexed, Finds}
use Rattle.automaton_runs.specs.Choices.{Batch, Holds, choice_of}
use Rattle.automaton_runs.specs.Reached.{AreWhere, Reaches, AreRelated, IsOneOf, IsReachedFrom}
use Rattle.automaton_runs.specs.Relations.{relation_of, relations}
use Rattle.automaton_runs.specs.declared.relations.Evaluated.{Evaluated}
use Rattle.automaton_runs.proofs.Shared.{one_of_all}

-- the terms reach the states that the relations relate to a choice
abbrev pub AreEvaluated : Batch → Indexed → List ℕ → List Term → List NumberRelation → Type 0
AreEvaluated b a names ts rs = AllZip (λ t r. AreWhere b (Reaches a names (view t)) r) ts rs

-- of what was evaluated the relations
pub zip_relations : {X : Type 0} (R : X → NumberRelation → Type 0) (xs : List X) (es : List Evaluated) → AllZip (λ x e. R x (relation_of e)) xs es → AllZip R xs (relations es)
zip_relations R [] [] z = tt
zip_relations R [] (e ∷ es) z = absurd z
zip_relations R (x ∷ xs) [] z = absurd z
zip_relations R (x ∷ xs) (e ∷ es) z = (z.0, zip_relations R xs es z.1)

-- the numbers are those of the choices
number_holds : (b : Batch) (a : Indexed) (names : List ℕ) (ts : List Term) (rs : List NumberRelation) (qs all : List ℕ) (k : ℕ) → AreEvaluated b a names ts rs
    → ((k : ℕ) → IsAmong k all ↔ Holds b k) → IsOneOf rs all k → AreRelated rs qs k → Holds b k
number_holds b a names [] [] qs all k z numbers one h = (numbers k).0 one
number_holds b a names (t ∷ ts) [] qs all k z numbers one h = absurd z
number_holds b a names [] (r ∷ rs) qs all k z numbers one h = absurd z
number_holds b a names (t ∷ ts) (r ∷ rs) [] all k z numbers one h = absurd h
number_holds b a names (t ∷ ts) (r ∷ rs) (q ∷ qs) all k z numbers one h = ((z.0 q k).0 h.0).0

module _ (b : Batch) (a : Indexed) (names : List ℕ) (k : ℕ) (holds : Holds b k) where
  related_reach : (ts : List Term) (rs : List NumberRelation) (qs : List ℕ) → AreEvaluated b a names ts rs → AreRelated rs qs k → ReachAll (Finds a) (at (state_of names (choice_of b k))) (views ts) qs
  related_reach [] [] [] z h = refl
  related_reach [] [] (q ∷ qs) z h = absurd h
  related_reach [] (r ∷ rs) qs z h = absurd z
  related_reach (t ∷ ts) [] qs z h = absurd z
  related_reach (t ∷ ts) (r ∷ rs) [] z h = absurd h
  related_reach (t ∷ ts) (r ∷ rs) (q ∷ qs) z h = (((z.0 q k).0 h.0).1, related_reach ts rs qs z.1 h.1)

-- where a relation relates each state that its term reaches to k, the relations of some terms relate the states that they reach to k
pub reach_related : (M : Moves) (At : ℕ → ℕ → Type 0) (E : Term → NumberRelation → Type 0) (k : ℕ) → ((t : Term) (r : NumberRelation) (q : ℕ) → E t r → Reach M At (view t) q → Relates r q k)
    → (ts : List Term) (rs : List NumberRelation) (qs : List ℕ) → AllZip E ts rs → ReachAll M At (views ts) qs → AreRelated rs qs k
reach_related M At E k each [] [] [] z h = tt
reach_related M At E k each [] [] (q ∷ qs) z h = absurd (cc)
reach_related M At E k each [] (r ∷ rs) qs z h = absurd z
reach_related M At E k each (t ∷ ts) [] qs z h = absurd z
reach_related M At E k each (t ∷ ts) (r ∷ rs) [] z h = absurd h
reach_related M At E k each (t ∷ ts) (r ∷ rs) (q ∷ qs) z h = (each t r q z.0 h.0, reach_related M At E k each ts rs qs z.1 h.1)

pub symbol_reached : (b : Batch) (a : Indexed) (names : List ℕ) (t : Term) (f : ℕ) (v : Vec Term Global) (ts : List Term) (rs : List NumberRelation) (all : List ℕ)
    (r : NumberRelation) → t ≡ Fun f v → ts ≡ v.items
    → AreEvaluated b a names ts rs → ((k : ℕ) → IsAmong k all ↔ Holds b k) → ((q k : ℕ) → Relates r q k ↔ (IsOneOf rs all k × IsReachedFrom a f rs q k)) → AreWhere b (Reaches a names (view t)) r
symbol_reached b a names t f v ts rs all r is items z numbers from q k =
    let shown : view t ≡ math.app f (views ts) = ap view is ∙ view-Fun f v ∙ ap (λ (l : List Term). math.app f (views l)) (sym items) in (
      λ h.
          let p = (from q k).0 h in
          let holds = number_holds b a names ts rs p.1.0 all k z numbers p.0 p.1.2 in
          (holds, subst (λ (u : math.Term). Reach (Finds a) (at (state_of names (choice_of b k))) u q) (sym shown) (p.1.0, p.1.1, related_reach b a names k holds ts rs p.1.0 z p.1.2)),
      λ (holds, reach).
          let p = subst (λ (u : math.Term). Reach (Finds a) (at (state_of names (choice_of b k))) u q) shown reach in
          (from q k).1 (
            one_of_all rs all k ((numbers k).1 holds),
            (
              p.0,
              p.1,
              reach_related (Finds a) (at (state_of names (choice_of b k))) (λ t r. AreWhere b (Reaches a names (view t)) r) k
                  (λ t r q w h. (w q k).1 (holds, h)) ts rs p.0 z p.2,
            ),
          ),
    )

pub variable_reached : (b : Batch) (a : Indexed) (names : List ℕ) (t : Term) (x : ℕ) (r : NumberRelation) → t ≡ Var x
    → ((q k : ℕ) → Relates r q k ↔ (Holds b k × (q ≡ state_of names (choice_of b k) x)))
    → AreWhere b (Reaches a names (view t)) r
variable_reached b a names t x r is states q k =
    let shown : view t ≡ math.var x = ap view is ∙ view-Var x in
    subst (λ (u : math.Term). Relates r q k ↔ (Holds b k × Reach (Finds a) (at (state_of names (choice_of b k))) u q)) (sym shown) (states q k)

pub copied : (b : Batch) (P : List ℕ → ℕ → Type 0) (r s : NumberRelation) → AreWhere b P r → ((q k : ℕ) → Relates s q k ↔ Relates r q k) → AreWhere b P s
copied b P r s is same q k = (λ h. (is q k).0 ((same q k).0 h), λ h. (same q k).1 ((is q k).1 h))
