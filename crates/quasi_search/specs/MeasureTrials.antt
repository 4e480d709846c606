-- What the search for a measure answers.
use Rattle.std.specs.Prelude.{ℕ, ◌<◌, ◌≤◌, Result}
use Rattle.rewriting.specs.Rules.{System}
use Rattle.certificates.specs.Certificates.{MeasureCertificate}
use Rattle.term_core.specs.declared.terms.NoMemory.{NoMemory}
use Rattle.cert_model.specs.CertificateView.{measure_view}
use Rattle.cert_model.specs.declared.model.MeasureCert.{MeasureCert}
use Rattle.cc_count.specs.Counts.{Counts}
use Rattle.cc_count.specs.Sought.{Seeks}
use Rattle.cc_count.specs.declared.Sought.{Sought}
use Rattle.precedence_walks.specs.Pruned as path
use Rattle.precedence_search.specs.Answers as path_search
use Rattle.quasi_space.specs.PrunedMeasures.{IsPrunedFirst, IsPrunedWhole}

-- no measure is good, and n units are no more than those of the whole
pub record IsNoneGood (sys : System) (n : ℕ) : Type 0 where
  pub none : (m : MeasureCertificate) (k : ℕ) → IsPrunedFirst sys m k → ⊥
  pub within : (k : ℕ) → IsPrunedWhole sys k → n ≤ k

-- n units are fewer than those of the whole
abbrev pub AreTooFew : System → ℕ → Type 0
AreTooFew sys n = (k : ℕ) → IsPrunedWhole sys k → n < k

abbrev pub MeasureAnswers : System → Counts → Counts → Result (Sought MeasureCert) NoMemory → Type 0
MeasureAnswers sys = Seeks (λ m n. IsPrunedFirst sys (measure_view m) n) (IsNoneGood sys) (AreTooFew sys)

-- the same of the precedences alone
abbrev pub PrecedenceAnswers : System → Counts → Counts → Result (Sought MeasureCert) NoMemory → Type 0
PrecedenceAnswers sys = Seeks (λ m n. path.IsPrunedFirst sys (measure_view m) n) (path_search.IsNoneGood sys) (path.PrunedStops sys)
