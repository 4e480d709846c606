-- What the steps of the check of a peak answer.
use Rattle.std.specs.Prelude.{◌≡◌, ℕ, Bool, true, false, [], List, Result, Ok, Err}
use Rattle.rewriting.specs.Terms as math
use Rattle.rewriting.specs.Rules.{System}
use Rattle.certificates.specs.Prelude.{Apartness, Redex, Derivation, Derives, IsFirstBad, Rejection, foreign, first_bad, second_bad, BadStep}
use Rattle.term_core.specs.View.{view}
use Rattle.term_core.specs.declared.terms.Term.{Term}
use Rattle.cert_model.specs.ReasonView.{rejected_view}
use Rattle.validity.specs.declared.CheckError.{CheckError}
use Rattle.validity.specs.declared.CheckError.TheVariants.{Rejected, NoMemory}
use Rattle.valid_certificates.specs.Peaks.{RedexPlace, IsRedexJudged, AreShownApart, AreNotShownApart, HasFileSymbols, AreValidEnds, AreNoValidEnds}
use Rattle.redex_conditions.specs.Redexes.{AreRedexesOf}
use Rattle.noncon_check.specs.Walks.{PlacesAnswer}

-- the derivation leads to the end, which fits
pub record IsEnd (derives : math.Term → Type 0) (end : math.Term) : Type 0 where
  pub derived : derives end
  pub fits : math.Fits end

-- how a bad step of the first, or of the second, derivation is told
abbrev pub bad_of : Bool → BadStep → Rejection
bad_of false bad = first_bad bad
bad_of true bad = second_bad bad

abbrev pub DerivesAnswers : (BadStep → Rejection) → System → math.Term → Derivation → Result Term CheckError → Type 0
DerivesAnswers told sys start d (Ok end) = IsEnd (λ t. Derives sys [] start d t) (view end)
DerivesAnswers told sys start d (Err (Rejected reason)) = (bad : BadStep) × (rejected_view reason ≡ told bad) × IsFirstBad sys [] start d bad
DerivesAnswers told sys start d (Err NoMemory) = Unit {0}

-- two ends are shown to be apart, or the first reason why not
abbrev pub ApartAnswers : System → math.Term → math.Term → Apartness → Result (Unit {0}) CheckError → Type 0
ApartAnswers sys u v apart (Ok _) = AreShownApart sys u v apart
ApartAnswers sys u v apart (Err (Rejected reason)) = AreNotShownApart sys u v apart (rejected_view reason)
ApartAnswers sys u v apart (Err NoMemory) = Unit {0}

-- a term has only symbols of the file
abbrev pub SymbolAnswers : System → ℕ → math.Term → Result (Unit {0}) CheckError → Type 0
SymbolAnswers sys which t (Ok _) = HasFileSymbols sys t
SymbolAnswers sys which t (Err (Rejected reason)) = (HasFileSymbols sys t → ⊥) × (rejected_view reason ≡ foreign which)
SymbolAnswers sys which t (Err NoMemory) = ⊥

-- two ends are valid, or the first reason why not
abbrev pub EndsAnswers : System → math.Term → math.Term → Apartness → Result (Unit {0}) CheckError → Type 0
EndsAnswers sys u v apart (Ok _) = AreValidEnds sys u v apart
EndsAnswers sys u v apart (Err (Rejected reason)) = AreNoValidEnds sys u v apart (rejected_view reason)
EndsAnswers sys u v apart (Err NoMemory) = Unit {0}

-- the redexes of the end with this number are judged by the entries from a number on
pub record AreJudgedFrom (sys : System) (which : ℕ) (t : math.Term) (es : List Redex) (at : ℕ) (result : Result ℕ CheckError) : Type 0 where
  pub places : List RedexPlace
  pub are : AreRedexesOf sys which t places
  pub answer : PlacesAnswer (IsRedexJudged sys t) es at places result

abbrev pub EndAnswers : System → ℕ → math.Term → List Redex → ℕ → Result ℕ CheckError → Type 0
EndAnswers sys which t es at (Err NoMemory) = Unit {0}
EndAnswers sys which t es at (Err (Rejected reason)) = AreJudgedFrom sys which t es at (Err (Rejected reason))
EndAnswers sys which t es at (Ok after) = AreJudgedFrom sys which t es at (Ok after)
