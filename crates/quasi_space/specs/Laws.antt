-- Laws of the space of certificates with a measure.
use Rattle.std.specs.Prelude.{ℕ, ◌≡◌, ◌↔◌, None, Some}
use Rattle.rewriting.specs.Prelude.{IsAmong, cons, nil, Condition, System}
use Rattle.unifier_run.specs.Run.{clash, IsOutcome}
use Rattle.unifier_run.specs.Irreducible.{DoAllClash}
use Rattle.unifier_run.specs.Overlaps.{Overlap}
use Rattle.certificates.specs.Prelude.{joined_pair, unfeasible_pair, hypothesis_at, Certificate}
use Rattle.cops_names.specs.NameTable.{NameTable}
use Rattle.valid_certificates.specs.Kinds.{quasi}
use Rattle.valid_certificates.specs.PairEvidence.{IsPairJudged}
use Rattle.reach_lists.specs.Solutions.{Reached}
use Rattle.first_found.specs.Spaces.{Ending}
use Rattle.search_spaces.specs.Listings.{listing}
use Rattle.search_spaces.specs.Laws.{IsSearchable}
use Rattle.quasi_space.specs.Endings.{MayEndLast}
use Rattle.quasi_space.specs.Measures.{pruned_measures}
use Rattle.quasi_space.specs.Quasi.{quasi_space, quasi_space_by}
use Rattle.quasi_space.specs.AllSpaces.{all_spaces, pruned_spaces}

-- x is on the listing of the overlap's left side, and y on that of its right side
pub record AreListedAt (sys : System) (o : Overlap) (x y : Reached) : Type 0 where
  pub left : IsAmong x (listing sys o.pair.conditions o.pair.left)
  pub right : IsAmong y (listing sys o.pair.conditions o.pair.right)

-- derivations of two such terms join the sides exactly where these are one term
abbrev pub JoinsAreSharedTerms : Type 0
JoinsAreSharedTerms =
    (sys : System) (o : Overlap) (x y : Reached) → AreListedAt sys o x y → IsPairJudged quasi sys o (joined_pair x.by y.by) None ↔ (x.term ≡ y.term)

-- x is on the listing of the left side of condition k of the overlap
pub record IsReductAt (sys : System) (o : Overlap) (k : ℕ) (x : Reached) : Type 0 where
  pub condition : Condition
  pub is_condition : hypothesis_at o.pair.conditions k ≡ Some condition
  pub listed : IsAmong x (listing sys o.pair.conditions condition.left)

-- derivations of two such terms show that condition k is never met exactly where these are absolutely irreducible, and their
-- run of unification ends in a clash
abbrev pub ClashingReductsAreUnfeasible : Type 0
ClashingReductsAreUnfeasible =
    (sys : System) (o : Overlap) (k : ℕ) (x y : Reached) → IsReductAt sys o k x → IsReductAt sys o k y
    → IsPairJudged quasi sys o (unfeasible_pair k x.by y.by) None ↔ (DoAllClash sys x.term × DoAllClash sys y.term × IsOutcome (cons x.term nil) (cons y.term nil) clash)

abbrev pub QuasiSpacesAreSearchable : Type 0
QuasiSpacesAreSearchable = (names : NameTable) (sys : System) → IsSearchable sys (quasi_space names sys)

-- the same with the pruned grid
abbrev pub PrunedSpacesAreSearchable : Type 0
PrunedSpacesAreSearchable = (names : NameTable) (sys : System) → IsSearchable sys (quasi_space_by (pruned_measures sys) names sys)

-- the three, one behind the other, with the whole grid and with the pruned one
abbrev pub AllSpacesAreSearchable : Type 0
AllSpacesAreSearchable = (names : NameTable) (sys : System) → IsSearchable sys (all_spaces names sys)

abbrev pub AllPrunedSpacesAreSearchable : Type 0
AllPrunedSpacesAreSearchable = (names : NameTable) (sys : System) → IsSearchable sys (pruned_spaces names sys)

-- a search with the pruned grid answers what one with the whole grid may answer
abbrev pub PrunedSearchesAreSearches : Type 0
PrunedSearchesAreSearches =
    (names : NameTable) (sys : System) (left paid : ℕ) (e : Ending Certificate)
    → MayEndLast (quasi_space_by (pruned_measures sys) names sys) left paid e → MayEndLast (quasi_space names sys) left paid e

-- and so does one of all three spaces
abbrev pub AllPrunedSearchesAreSearches : Type 0
AllPrunedSearchesAreSearches =
    (names : NameTable) (sys : System) (left paid : ℕ) (e : Ending Certificate)
    → MayEndLast (pruned_spaces names sys) left paid e → MayEndLast (all_spaces names sys) left paid e
