-- Runs of a term over the symbols of a signature are by transitions under these symbols.
use Rattle.std.proofs.Common.{ℕ, ◌≡◌, List, [], ◌∷◌, Option, None, Some, length, slice_get, sym, ap, suc, ◌∙◌}
use Rattle.rewriting.specs.Prelude.{Term, var, app, Terms, nil, cons, count, Signature, IsOver, AreOver}
use Rattle.certificates.specs.Prelude.{Automaton, EvidenceReason, auto_wide_right, auto_reaches}
use Rattle.automata.specs.Runs.{Moves, Has, Reach, ReachAll, ReachBy, ReachAllBy, at}
use Rattle.automata.specs.Evidence.{IsExclusionJudged}
use Rattle.automata.specs.Laws.{AreRunsSame}
use Rattle.automata.proofs.Asked.{by-mono}

-- there are as many states as arguments
length_states : (M : Moves) (At : ℕ → ℕ → Type 0) (ts : Terms) (qs : List ℕ) → ReachAll M At ts qs → count ts ≡ length qs
length_states M At nil qs h = sym (ap length h)
length_states M At (cons t ts) [] h = absurd h
length_states M At (cons t ts) (q ∷ qs) h = ap suc (length_states M At ts qs h.1)

length_states_by : (M : Moves) (ts : Terms) (cs qs : List ℕ) → ReachAllBy M ts cs qs → count ts ≡ length qs
length_states_by M nil cs qs h = sym (ap length h.1)
length_states_by M (cons t ts) cs [] h = absurd h
length_states_by M (cons t ts) cs (q ∷ qs) (before, after, e, h, hs) = ap suc (length_states_by M ts after qs hs)

module _ (arities : Signature) (a : Automaton) where
  -- a transition counts by all symbols where it counts by those of the signature, and the other way under one of them
  by_all : (symbol : Option ℕ) (qs : List ℕ) (q : ℕ) → Has (Some arities) a symbol qs q → Has None a symbol qs q
  by_all None qs q m = record { listed = m.listed; head = m.head; arguments = m.arguments; target = m.target }
  by_all (Some f) qs q m = record { listed = m.listed; head = tt; arguments = m.arguments; target = m.target }

  by_these : (f n : ℕ) (qs : List ℕ) (q : ℕ) → slice_get arities f ≡ Some n → n ≡ length qs → Has None a (Some f) qs q → Has (Some arities) a (Some f) qs q
  by_these f n qs q is e m = record { listed = m.listed; head = is ∙ ap Some e; arguments = m.arguments; target = m.target }

  module _ (At : ℕ → ℕ → Type 0) where
    mutual
      to_these : (t : Term) (q : ℕ) → IsOver arities t → Reach (Has None a) At t q → Reach (Has (Some arities) a) At t q
      to_these (var x) q o h = h
      to_these (app f ts) q (o, os) (qs, m, h) = (qs, by_these f (count ts) qs q o (length_states (Has None a) At ts qs h) m, all_to_these ts qs os h)

      all_to_these : (ts : Terms) (qs : List ℕ) → AreOver arities ts → ReachAll (Has None a) At ts qs → ReachAll (Has (Some arities) a) At ts qs
      all_to_these nil qs o h = h
      all_to_these (cons t ts) [] o h = absurd h
      all_to_these (cons t ts) (q ∷ qs) (o, os) (h, hs) = (to_these t q o h, all_to_these ts qs os hs)

    mutual
      to_all : (t : Term) (q : ℕ) → Reach (Has (Some arities) a) At t q → Reach (Has None a) At t q
      to_all (var x) q h = h
      to_all (app f ts) q (qs, m, h) = (qs, by_all (Some f) qs q m, all_to_all ts qs h)

      all_to_all : (ts : Terms) (qs : List ℕ) → ReachAll (Has (Some arities) a) At ts qs → ReachAll (Has None a) At ts qs
      all_to_all nil qs h = h
      all_to_all (cons t ts) [] h = absurd h
      all_to_all (cons t ts) (q ∷ qs) (h, hs) = (to_all t q h, all_to_all ts qs hs)

  mutual
    by_to_these : (t : Term) (cs : List ℕ) (q : ℕ) → IsOver arities t → ReachBy (Has None a) t cs q → ReachBy (Has (Some arities) a) t cs q
    by_to_these (var x) cs q o h = h
    by_to_these (app f ts) cs q (o, os) (qs, m, h) = (qs, by_these f (count ts) qs q o (length_states_by (Has None a) ts cs qs h) m, all_by_to_these ts cs qs os h)

    all_by_to_these : (ts : Terms) (cs qs : List ℕ) → AreOver arities ts → ReachAllBy (Has None a) ts cs qs → ReachAllBy (Has (Some arities) a) ts cs qs
    all_by_to_these nil cs qs o h = h
    all_by_to_these (cons t ts) cs [] o h = absurd h
    all_by_to_these (cons t ts) cs (q ∷ qs) (o, os) (before, after, e, h, hs) = (before, after, e, by_to_these t before q o h, all_by_to_these ts after qs os hs)

  by_to_all : (t : Term) (cs : List ℕ) (q : ℕ) → ReachBy (Has (Some arities) a) t cs q → ReachBy (Has None a) t cs q
  by_to_all = by-mono (Has (Some arities) a) (Has None a) by_all

  exclusion_to : (t : Term) (o : Option EvidenceReason) → IsOver arities t → IsExclusionJudged None a t o → IsExclusionJudged (Some arities) a t o
  exclusion_to t None over (narrow, none) = (narrow, λ cs q choice accepts h. none cs q choice accepts (by_to_all t cs q h))
  exclusion_to t (Some auto_wide_right) over h = h
  exclusion_to t (Some auto_reaches) over (narrow, some) = (narrow, λ none. some (λ cs q choice accepts h. none cs q choice accepts (by_to_these t cs q over h)))
  exclusion_to t (Some _) over h = absurd h

  exclusion_from : (t : Term) (o : Option EvidenceReason) → IsOver arities t → IsExclusionJudged (Some arities) a t o → IsExclusionJudged None a t o
  exclusion_from t None over (narrow, none) = (narrow, λ cs q choice accepts h. none cs q choice accepts (by_to_these t cs q over h))
  exclusion_from t (Some auto_wide_right) over h = h
  exclusion_from t (Some auto_reaches) over (narrow, some) = (narrow, λ none. some (λ cs q choice accepts h. none cs q choice accepts (by_to_all t cs q h)))
  exclusion_from t (Some _) over h = absurd h

  pub runs_same : (t : Term) → IsOver arities t → AreRunsSame arities a t
  runs_same t over = record {
    from_0 = λ q. (λ h. (h.0, to_these (at (λ x. 0)) t q over h.1), λ h. (h.0, to_all (at (λ x. 0)) t q h.1));
    accepted = (
      λ (q, accepts, h). (q, accepts, (h.0, to_these (at (λ x. 0)) t q over h.1)),
      λ (q, accepts, h). (q, accepts, (h.0, to_all (at (λ x. 0)) t q h.1)),
    );
    excluded = λ o. (exclusion_to t o over, exclusion_from t o over);
  }
