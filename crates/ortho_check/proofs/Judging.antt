-- The answer for a certificate, from those for the classes and for the overlaps, and what a valid one shows.
use Rattle.std.proofs.Common.{Result, Ok, Err, sym, subst}
use Rattle.rewriting.specs.Prelude.{System, IsLeftLinear, IsType3, IsExtendedOriented}
use Rattle.certificates.specs.Reasons.{left_linear, type3, extended_oriented, right_stable}
use Rattle.cert_model.specs.ReasonView.{rejected_view}
use Rattle.validity.specs.declared.CheckError.{CheckError}
use Rattle.validity.specs.declared.CheckError.TheVariants.{Rejected, NoMemory}
use Rattle.valid_certificates.specs.Kinds.{ortho}
use Rattle.valid_certificates.specs.Confluence.{IsInOrthoClasses, IsOrthoRejected, not_left_linear, not_type3, not_oriented, not_right_stable, ortho_pairs_fail}
use Rattle.pair_check.specs.Runs.{StartAnswers as PairStart}
use Rattle.tallies.specs.Runs.{PairRun}
use Rattle.ortho_check.specs.Runs.{StartAnswers}
use Rattle.ortho_check.specs.Answers.{ClassAnswers, ClassesAnswer}

-- a class that is missed, where the system is in those before it
module _ (sys : System) where
  pub not_in_first : (e : CheckError) → ClassAnswers sys left_linear (Err e) → ClassesAnswer sys (Err e)
  not_in_first (Rejected reason) (blame, is, by) = λ es. subst (IsOrthoRejected sys es) (sym is) (not_left_linear blame by)
  not_in_first NoMemory h = absurd h

  pub not_in_second : IsLeftLinear sys → (e : CheckError) → ClassAnswers sys type3 (Err e) → ClassesAnswer sys (Err e)
  not_in_second linear (Rejected reason) (blame, is, by) = λ es. subst (IsOrthoRejected sys es) (sym is) (not_type3 blame linear by)
  not_in_second linear NoMemory h = absurd h

  pub not_in_third : IsLeftLinear sys → IsType3 sys → (e : CheckError) → ClassAnswers sys extended_oriented (Err e) → ClassesAnswer sys (Err e)
  not_in_third linear known (Rejected reason) (blame, is, by) = λ es. subst (IsOrthoRejected sys es) (sym is) (not_oriented blame linear known by)
  not_in_third linear known NoMemory h = absurd h

  pub last_class : IsLeftLinear sys → IsType3 sys → IsExtendedOriented sys → (a : Result (Unit {0}) CheckError) → ClassAnswers sys right_stable a → ClassesAnswer sys a
  last_class linear known oriented (Ok _) h = record { left_linear = linear; type3 = known; oriented = oriented; right_stable = h }
  last_class linear known oriented (Err (Rejected reason)) (blame, is, by) =
      λ es. subst (IsOrthoRejected sys es) (sym is) (not_right_stable blame linear known oriented by)
  last_class linear known oriented (Err NoMemory) h = absurd h

  -- the run over the entries, where the system is in the classes
  pub pairs_started : (a : Result PairRun CheckError) → IsInOrthoClasses sys → PairStart ortho sys a → StartAnswers sys a
  pairs_started (Ok run) classes h = (classes, h)
  pairs_started (Err (Rejected reason)) classes h = λ es. ortho_pairs_fail (rejected_view reason) classes (h es)
  pairs_started (Err NoMemory) classes h = tt
