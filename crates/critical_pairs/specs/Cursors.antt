-- Where a search stands: in an outer rule, at one of its places, before one of the inner rules with the root there.
use Rattle.std.specs.Prelude.{ℕ, zero, suc, ◌≡◌, ◌≢◌, ◌≤◌, ◌<◌, ◌⊎◌, ◌-◌, List, [], ◌∷◌, ◌++◌, map, length, drop, get_or, slice_get, Option, None, Some, Result, Ok, Err}
use Rattle.rewriting.specs.Prelude.{IsAmong, Position, Term, System}
use Rattle.rule_index.specs.Roots.{rules_with_root}
use Rattle.unifier_run.specs.Overlaps.{Triple}
use Rattle.unifier_run.specs.Triples.{triples_at, counted, triples_from}
use Rattle.critical_pairs.specs.Places.{RootAt, place_view, places_of, triples_of, IsRootAt}
use Rattle.critical_pairs.specs.declared.cursor.Cursor.{Cursor}
use Rattle.critical_pairs.specs.declared.pairs.Triple as Named
use Rattle.term_core.specs.declared.terms.NoMemory.{NoMemory}

-- of the rules up to number m, those up to this number are done, where so many of the candidates are
abbrev pub done : List ℕ → ℕ → ℕ → ℕ
done ns m zero = 0
done ns m (suc c) = get_or ns c m

-- the triples at a position of outer rule j behind inner rule a, up to inner rule m
abbrev pub triples_behind : ℕ → Position → ℕ → ℕ → List Triple
triples_behind j p a m = triples_at j p a (m - a)

-- the triples at some places, of the first without those of its first c candidates
abbrev pub rest_of_places : System → ℕ → List RootAt → ℕ → List Triple
rest_of_places sys j [] c = []
rest_of_places sys j ((p, f) ∷ qs) c =
    triples_behind j p (done (rules_with_root sys f) (counted (j - 1) (length sys.rules) p) c) (counted (j - 1) (length sys.rules) p) ++ triples_of j (length sys.rules) qs

-- the triples that are still to come
abbrev pub rest_of : System → Cursor → List Triple
rest_of sys c = rest_of_places sys c.outer (drop c.place (map place_view c.places.items)) c.candidate ++ triples_from (length sys.rules) c.outer (drop c.outer sys.rules)

-- the places are some of the outer rule
pub record IsCursor (sys : System) (c : Cursor) : Type 0 where
  pub within : c.outer ≤ length sys.rules
  pub places : (q : RootAt) → IsAmong q (map place_view c.places.items) → IsRootAt sys c.outer q

-- it stands before inner rule i
pub record StandsBefore (sys : System) (c : Cursor) (i : ℕ) : Type 0 where
  pub at : RootAt
  pub is_place : slice_get (map place_view c.places.items) c.place ≡ Some at
  pub is_candidate : slice_get (rules_with_root sys at.1) c.candidate ≡ Some i
  pub counts : (at.0 ≢ []) ⊎ (i < c.outer)

-- the triple of an inner rule and the place at which the cursor stands
pub record IsTripleAt (c : Cursor) (i : ℕ) (t : Named.Triple) : Type 0 where
  pub inner : t.inner ≡ i
  pub position : (at : RootAt) → slice_get (map place_view c.places.items) c.place ≡ Some at → t.pos.now ≡ at.0
  pub outer : t.outer ≡ c.outer

-- the candidate number c, from 0, for the outer rule j; at the root only one before the outer rule
abbrev pub CandidateAnswers : List ℕ → Position → ℕ → ℕ → Option ℕ → Type 0
CandidateAnswers ns p j c None = (i : ℕ) → slice_get ns c ≡ Some i → (p ≡ []) × (j ≤ i)
CandidateAnswers ns p j c (Some i) = (slice_get ns c ≡ Some i) × ((p ≢ []) ⊎ (i < j))

-- the inner rule that it stands before, or none where the outer rule's places are done
abbrev pub StandAnswers : System → Cursor → Option ℕ → Type 0
StandAnswers sys c None = length c.places.items ≤ c.place
StandAnswers sys c (Some i) = StandsBefore sys c i

-- the inner rule that it stands before, or none where no triple is still to come
abbrev pub SettleAnswers : System → Cursor → Result (Option ℕ) NoMemory → Type 0
SettleAnswers sys c (Ok None) = rest_of sys c ≡ []
SettleAnswers sys c (Ok (Some i)) = StandsBefore sys c i
SettleAnswers sys c (Err e) = Unit {0}

-- it stands before the first place of the next outer rule, which has this left side
pub record IsEntered (before : Cursor) (left : Term) (after : Cursor) : Type 0 where
  pub outer : after.outer ≡ suc before.outer
  pub places : map place_view after.places.items ≡ places_of left
  pub place : after.place ≡ 0
  pub candidate : after.candidate ≡ 0

abbrev pub EnterAnswers : Cursor → Term → Cursor → Result (Unit {0}) NoMemory → Type 0
EnterAnswers before left after (Ok u) = IsEntered before left after
EnterAnswers before left after (Err e) = after ≡ before
