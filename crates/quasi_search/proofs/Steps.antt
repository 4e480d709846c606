-- One step of a walk through the items of an overlap.
use Rattle.std.proofs.Common.{ℕ, ◌≡◌, List, ◌++◌, Ok}
use Rattle.certificates.specs.Evidence as math
use Rattle.cert_model.specs.declared.evidence.PairEvidence.{PairEvidence}
use Rattle.cc_count.specs.Counts.{Counts}
use Rattle.cc_count.specs.declared.Sought.{Sought}
use Rattle.cc_count.specs.declared.Sought.TheVariants.{Nothing}
use Rattle.search_answers.proofs.Walking.{Walking}
use Rattle.pair_search.specs.Answers.{WalkAnswers}
use Rattle.pair_search.proofs.Composed as composed

-- the next items were tried: the walk goes on where they gave nothing, and else it ended in them
pub record Tried {A : Type 0} (cost : A → ℕ) (Gives : A → math.PairEvidence → Type 0) (items : List A) (start next : Counts) (rest : List A) (r : Sought PairEvidence) : Type 0 where
  pub goes_on : r ≡ Nothing → Walking cost Gives items start next rest
  pub ends : (r ≡ Nothing → ⊥) → WalkAnswers cost Gives items start next (Ok r)

pub tried : {A : Type 0} {cost : A → ℕ} {Gives : A → math.PairEvidence → Type 0} {items rest : List A} {start here : Counts} → Walking cost Gives items start here rest → (next : Counts)
    (xs ys : List A) → rest ≡ xs ++ ys → (r : Sought PairEvidence) → WalkAnswers cost Gives xs here next (Ok r) → Tried cost Gives items start next ys r
tried w next xs ys split r h = record { goes_on = λ none. composed.goes_on w next xs ys split r none h; ends = λ other. composed.ends w next xs ys split r other h }
