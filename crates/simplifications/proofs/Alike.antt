-- Systems in which the same terms are reached at every level.
use Rattle.std.proofs.Common.{ℕ, sym, subst}
use Rattle.rewriting.specs.Prelude.{IsConfluent, AreApart, Commute}
use Rattle.rewriting.proofs.Common.{Term, done, more, IsOver, System, Steps, Reaches}
use Rattle.rewriting.proofs.Closures.{Star-one, Star-trans}
use Rattle.rewriting.proofs.Levels.{reaches_of_steps}
use Rattle.simplifications.specs.Laws.{AreSameByLevels, SystemsOfOneLevelsAreAlike}

pub same_back : (sys other : System) → AreSameByLevels sys other → AreSameByLevels other sys
same_back sys other h = record { arities = sym h.arities; own = sym h.own; levels = λ n u v. ((h.levels n u v).1, (h.levels n u v).0) }

pub reaches_to : (sys other : System) → AreSameByLevels sys other → {u v : Term} → Reaches sys u v → Reaches other u v
reaches_to sys other h done = done
reaches_to sys other h (more s p) = Star-trans (reaches_of_steps other s.0 _ _ ((h.levels s.0 _ _).0 (Star-one s.1))) (reaches_to sys other h p)

confluent_to : (sys other : System) → AreSameByLevels sys other → IsConfluent sys → IsConfluent other
confluent_to sys other h c t u v over_t over_u over_v p q =
    let e = h.arities in
    let back = same_back sys other h in
    let j = c t u v (subst (λ a. IsOver a t) e over_t) (subst (λ a. IsOver a u) e over_u) (subst (λ a. IsOver a v) e over_v) (reaches_to other sys back p) (reaches_to other sys back q) in
    (j.0, subst (λ a. IsOver a j.0) (sym e) j.1, reaches_to sys other h j.2, reaches_to sys other h j.3)

apart_to : (sys other : System) → AreSameByLevels sys other → (u v : Term) → AreApart sys u v → AreApart other u v
apart_to sys other h u v a w p q = let back = same_back sys other h in a w (reaches_to other sys back p) (reaches_to other sys back q)

commute_to : (sys other : System) → AreSameByLevels sys other → (m n : ℕ) → Commute (Steps sys m) (Steps sys n) → Commute (Steps other m) (Steps other n)
commute_to sys other h m n c a b d p q =
    let j = c a b d ((h.levels m a b).1 p) ((h.levels n a d).1 q) in
    (j.0, (h.levels n b j.0).0 j.1, (h.levels m d j.0).0 j.2)

pub alike : SystemsOfOneLevelsAreAlike
alike sys other h =
    let back = same_back sys other h in
    record {
      reaches = λ u v. ((λ p. reaches_to sys other h p), (λ p. reaches_to other sys back p));
      confluent = (confluent_to sys other h, confluent_to other sys back);
      apart = λ u v. (apart_to sys other h u v, apart_to other sys back u v);
      commute = λ m n. (commute_to sys other h m n, commute_to other sys back m n);
    }
