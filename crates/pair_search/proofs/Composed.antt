-- Walks through the items of an overlap, one behind the other.
use Rattle.std.proofs.Common.{ℕ, ◌≡◌, List, ◌++◌, Result, Ok, Err, refl, ap}
use Rattle.certificates.specs.Evidence as math
use Rattle.term_core.specs.declared.terms.NoMemory.{NoMemory}
use Rattle.cert_model.specs.EvidenceView.{pair_evidence_view}
use Rattle.cert_model.specs.declared.evidence.PairEvidence.{PairEvidence}
use Rattle.cc_count.specs.Counts.{Counts}
use Rattle.cc_count.specs.declared.Sought.{Sought}
use Rattle.cc_count.specs.declared.Sought.TheVariants.{Nothing}
use Rattle.first_found.specs.Spaces.{nothing}
use Rattle.search_answers.specs.Walks.{sought_ending}
use Rattle.search_answers.proofs.Walking as walk
use Rattle.search_answers.proofs.Walking.{Walking, begins, last_ends, first_part, not_nothing}
use Rattle.pair_search.specs.Answers.{WalkAnswers}

module _ {A : Type 0} (cost : A → ℕ) (Gives : A → math.PairEvidence → Type 0) (xs ys : List A) (a b : Counts) where
  -- a walk that ended ends there, whatever stands behind
  pub ends_early : (w : Sought PairEvidence) → (w ≡ Nothing → ⊥) → WalkAnswers cost Gives xs a b (Ok w) → WalkAnswers cost Gives (xs ++ ys) a b (Ok w)
  ends_early w other = first_part cost Gives xs ys a b (sought_ending pair_evidence_view w) (not_nothing pair_evidence_view w other)

  -- behind items that give nothing the walk goes on
  pub goes_behind : (c : Counts) (r : Result (Sought PairEvidence) NoMemory) → WalkAnswers cost Gives xs a b (Ok Nothing) → WalkAnswers cost Gives ys b c r → WalkAnswers cost Gives (xs ++ ys) a c r
  goes_behind c (Ok w) h k = last_ends (walk.goes_on (begins {rest = xs ++ ys} refl) b xs ys refl nothing refl h) c (sought_ending pair_evidence_view w) k
  goes_behind c (Err e) h k = tt

module _ {A : Type 0} {cost : A → ℕ} {Gives : A → math.PairEvidence → Type 0} {items : List A} {start here : Counts} {rest : List A} (w : Walking cost Gives items start here rest) (next : Counts)
    (xs ys : List A) (split : rest ≡ xs ++ ys) (r : Sought PairEvidence) where
  -- the next of them gave nothing
  pub goes_on : r ≡ Nothing → WalkAnswers cost Gives xs here next (Ok r) → Walking cost Gives items start next ys
  goes_on none = walk.goes_on w next xs ys split (sought_ending pair_evidence_view r) (ap (sought_ending pair_evidence_view) none)

  -- the walk ended in them
  pub ends : (r ≡ Nothing → ⊥) → WalkAnswers cost Gives xs here next (Ok r) → WalkAnswers cost Gives items start next (Ok r)
  ends other = walk.ends w next xs ys split (sought_ending pair_evidence_view r) (not_nothing pair_evidence_view r other)
