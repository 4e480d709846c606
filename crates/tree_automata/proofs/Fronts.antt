-- Right sides that have no variable of the fronts.
use Rattle.std.proofs.Common.{◌≡◌, ℕ, ◌+◌, List, [], ◌∷◌, ◌++◌, Option, None, Some, length, get_or, take, inl, inr, refl, sym, subst, ◌∙◌, arith}
use Rattle.std.specs.Prelude.{IfSome}
use Rattle.std.specs.Borrow.{Bor}
use Rattle.std.specs.Option.{option_copied}
use Rattle.rewriting.specs.Prelude.{Term, Terms, var, app, nil, cons, variable_occurrences, variable_occurrences_of, IsAmong}
use Rattle.rewriting.proofs.Lists.{among_left, among_right}
use Rattle.automata.specs.Runs.{Moves, Reach, ReachAll, at}
use Rattle.automata.specs.Closed.{state_of}
use Rattle.number_sets.specs.Relation.{Relates}
use Rattle.number_sets.specs.declared.rows.NumberRelation.{NumberRelation}
use Rattle.automaton_runs.specs.Counted.{Indexed, Finds}
use Rattle.automaton_runs.specs.Choices.{Choices}
use Rattle.automaton_runs.specs.Reached.{AreWhere}
use Rattle.automaton_runs.proofs.BatchParts.{other_name}
use Rattle.tree_automata.specs.Batches.{batch_at, AreWhereAlways, IfAlways}
use Rattle.tree_automata.specs.Kept.{IsKeptBy}

-- a name that has no state in the fronts
state_behind : (names f g tail : List ℕ) (x : ℕ) → length f ≡ length g → (IsAmong x (take (length f) names) → ⊥) → state_of names (f ++ tail) x ≡ state_of names (g ++ tail) x
state_behind [] f g tail x long none = refl
state_behind (y ∷ ys) [] [] tail x long none = refl
state_behind (y ∷ ys) [] (d ∷ g) tail x long none = absurd (omega arith)
state_behind (y ∷ ys) (c ∷ f) [] tail x long none = absurd (omega arith)
state_behind (y ∷ ys) (c ∷ f) (d ∷ g) tail x long none =
    other_name x y c (state_of ys (f ++ tail) x) (λ e. none (inl (sym e))) ∙ state_behind ys f g tail x (omega arith) (λ i. none (inr i))
    ∙ sym (other_name x y d (state_of ys (g ++ tail) x) (λ e. none (inl (sym e))))

-- what a term reaches depends on the states of its variables
module _ (M : Moves) (e d : ℕ → ℕ) where
  mutual
    reach_alike : (t : Term) (q : ℕ) → ((x : ℕ) → IsAmong x (variable_occurrences t) → e x ≡ d x) → Reach M (at e) t q → Reach M (at d) t q
    reach_alike (var x) q same h = h ∙ same x (inl refl)
    reach_alike (app f ts) q same (qs, m, r) = (qs, m, reach_all_alike ts qs same r)

    reach_all_alike : (ts : Terms) (qs : List ℕ) → ((x : ℕ) → IsAmong x (variable_occurrences_of ts) → e x ≡ d x) → ReachAll M (at e) ts qs → ReachAll M (at d) ts qs
    reach_all_alike nil qs same h = h
    reach_all_alike (cons t ts) [] same h = absurd h
    reach_all_alike (cons t ts) (q ∷ qs) same (h, hs) = (
      reach_alike t q (λ x i. same x (among_left x (variable_occurrences t) (variable_occurrences_of ts) i)) h,
      reach_all_alike ts qs (λ x i. same x (among_right x (variable_occurrences t) (variable_occurrences_of ts) i)) hs,
    )

kept_alike : (r : NumberRelation) (a : Indexed) (names cs ds : List ℕ) (t : Term) (q : ℕ)
    → ((x : ℕ) → IsAmong x (variable_occurrences t) → state_of names cs x ≡ state_of names ds x) → IsKeptBy r a names t cs q → IsKeptBy r a names t ds q
kept_alike r a names cs ds (var x) q same h = subst (λ (p : ℕ). Relates r p q) (same x (inl refl)) h
kept_alike r a names cs ds (app f ts) q same h = reach_alike (Finds a) (state_of names cs) (state_of names ds) (app f ts) q same h

-- it is kept with every front as it is with one
pub kept_with_all : (r : NumberRelation) (a : Indexed) (names : List ℕ) (t : Term) (c : Choices) (first : List ℕ) (right : NumberRelation)
    → ((front : List ℕ) → IsAmong front c.fronts → length front + c.width ≡ length names) → IsAmong first c.fronts
    → ((x : ℕ) → IsAmong x (take (length first) names) → IsAmong x (variable_occurrences t) → ⊥) → AreWhere (batch_at c first) (IsKeptBy r a names t) right
    → AreWhereAlways c (IsKeptBy r a names t) right
kept_with_all r a names t c first right long here apart is front i q k = (
  λ h. let g = (is q k).0 h in (
    g.0,
    kept_alike r a names (first ++ get_or c.tails k []) (front ++ get_or c.tails k []) t q
        (λ x j. state_behind names first front (get_or c.tails k []) x same (λ s. apart x s j)) g.1,
  ),
  λ h. (is q k).1 (
    h.0,
    kept_alike r a names (front ++ get_or c.tails k []) (first ++ get_or c.tails k []) t q
        (λ x j. sym (state_behind names first front (get_or c.tails k []) x same (λ s. apart x s j))) h.1,
  ),
)
  where
    same : length first ≡ length front
    same = let one = long first here in let two = long front i in omega arith

-- what is known always is known with each front
pub known_at : (c : Choices) (P : List ℕ → ℕ → Type 0) (o : Option (Bor NumberRelation)) (known : Option NumberRelation) → option_copied o ≡ known → IfAlways c P known
    → (front : List ℕ) → IsAmong front c.fronts → IfSome o (λ r. AreWhere (batch_at c front) P r.now)
known_at c P None known e h front i = tt
known_at c P (Some r) known e h front i = subst (IfAlways c P) (sym e) h front i
