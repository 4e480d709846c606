-- What the searches of the last system answer, behind the steps that left it.
use Rattle.std.specs.Prelude.{ℕ, ◌≡◌, ◌+◌, List, [], map, Result, Ok, Err}
use Rattle.rewriting.specs.Rules.{System}
use Rattle.certificates.specs.Certificates as math
use Rattle.certificates.specs.Certificates.{Simplification, ortho_certificate, quasi_certificate, peak_certificate, simplified_certificate}
use Rattle.cert_model.specs.CertificateView.{simp_view, certificate_view}
use Rattle.cops_names.specs.NameTable.{NameTable}
use Rattle.term_core.specs.declared.terms.NoMemory.{NoMemory}
use Rattle.validity.specs.declared.Search.{Search}
use Rattle.validity.specs.declared.Search.TheVariants as search
use Rattle.first_found.specs.Spaces.{Space, Ending, found, nothing, spent}
use Rattle.search_spaces.specs.Texts.{HasText}
use Rattle.quasi_space.specs.Endings.{MayEndLast}
use Rattle.quasi_space.specs.AllSpaces.{pruned_spaces}
use Rattle.quasi_space.specs.Measures.{pruned_measures}
use Rattle.quasi_space.specs.Quasi.{quasi_space_by}
use Rattle.proof_spaces.specs.Proofs.{with_steps}
use Rattle.proof_spaces.specs.Endings.{MayProofEnd}
use Rattle.portfolio.specs.declared.behind.Behind.{Behind}
use Rattle.portfolio.specs.declared.behind.Behind.TheVariants.{Found, Nothing, Spent}

-- a certificate with steps before its body, and those steps
abbrev pub HasSteps : math.Certificate → Type 0
HasSteps (ortho_certificate pairs) = ⊥
HasSteps (quasi_certificate measure pairs) = ⊥
HasSteps (peak_certificate peak) = ⊥
HasSteps (simplified_certificate steps body) = Unit {0}

abbrev pub steps_before : math.Certificate → List Simplification
steps_before (ortho_certificate pairs) = []
steps_before (quasi_certificate measure pairs) = []
steps_before (peak_certificate peak) = []
steps_before (simplified_certificate steps body) = steps

abbrev pub behind_ending : Behind → Ending math.Certificate
behind_ending (Found c) = found (certificate_view c)
behind_ending (Nothing steps) = nothing
behind_ending Spent = spent

-- the steps are handed back where nothing was found
abbrev pub HandsBack : List Simplification → Behind → Type 0
HandsBack steps (Found c) = Unit {0}
HandsBack steps (Nothing again) = map simp_view again.items ≡ steps
HandsBack steps Spent = Unit {0}

-- the body behind the steps, or the steps again where it cannot be written so
abbrev pub WritesBehind : NameTable → List Simplification → math.Certificate → Result Behind NoMemory → Type 0
WritesBehind names steps body (Ok (Found c)) = (certificate_view c ≡ simplified_certificate steps body) × HasText names (simplified_certificate steps body)
WritesBehind names steps body (Ok (Nothing again)) = (map simp_view again.items ≡ steps) × (HasText names (simplified_certificate steps body) → ⊥)
WritesBehind names steps body (Ok Spent) = ⊥
WritesBehind names steps body (Err e) = Unit {0}

-- what a search of the last system answered, behind the steps
abbrev pub AnswersBehind : NameTable → List Simplification → Search → Result Behind NoMemory → Type 0
AnswersBehind names steps (search.Found body) r = WritesBehind names steps (certificate_view body) r
AnswersBehind names steps search.Nothing (Ok b) = (behind_ending b ≡ nothing) × HandsBack steps b
AnswersBehind names steps search.Spent (Ok b) = behind_ending b ≡ spent
AnswersBehind names steps search.Nothing (Err e) = Unit {0}
AnswersBehind names steps search.Spent (Err e) = Unit {0}

-- the last of the three spaces behind the steps, over the pruned measures
abbrev pub quasi_with_steps : NameTable → List Simplification → System → Space math.Certificate
quasi_with_steps names steps last = with_steps names steps (quasi_space_by (pruned_measures last) names last)

-- so the proof may end where the three spaces of the system hold nothing, and so much more is paid out of what they left
abbrev pub MayEndSimplified : NameTable → System → ℕ → ℕ → Ending math.Certificate → Type 0
MayEndSimplified names sys rest more e = (left paid : ℕ) → MayEndLast (pruned_spaces names sys) left paid nothing → left ≡ paid + rest → MayProofEnd names sys left (paid + more) e
