-- Entries for a list of redexes, part by part.
use Rattle.std.proofs.Common.{ℕ, suc, inl, inr, List, [], ◌∷◌, ◌++◌, Option, None, Some, Result, Ok, Err, refl, sym, subst}
use Rattle.rewriting.specs.Lists.{IsAmong}
use Rattle.certificates.specs.Prelude.{Redex, InfeasibilityEvidence, EvidenceReason, Rejection}
use Rattle.cert_model.specs.ReasonView.{rejected_view}
use Rattle.validity.specs.declared.CheckError.{CheckError}
use Rattle.validity.specs.declared.CheckError.TheVariants.{Rejected, NoMemory}
use Rattle.valid_certificates.specs.Peaks.{RedexPlace}
use Rattle.noncon_check.specs.Walks.{Judgement, IsEntry, Pass, Fail, PlacesAnswer}

module _ (J : Judgement) (es : List Redex) where
  pub pass_append : (at : ℕ) (rs : List RedexPlace) (mid : ℕ) (ss : List RedexPlace) (after : ℕ) → Pass J es at rs mid → Pass J es mid ss after → Pass J es at (rs ++ ss) after
  pass_append at [] mid ss after e h = subst (λ n. Pass J es n ss after) (sym e) h
  pass_append at (r ∷ rs) mid ss after (e, hs) h = (e, pass_append (suc at) rs mid ss after hs h)

  pub pass_fail : (at : ℕ) (rs : List RedexPlace) (mid : ℕ) (ss : List RedexPlace) (reason : Rejection) → Pass J es at rs mid → Fail J es mid ss reason → Fail J es at (rs ++ ss) reason
  pass_fail at [] mid ss reason e h = subst (λ n. Fail J es n ss reason) (sym e) h
  pass_fail at (r ∷ rs) mid ss reason (e, hs) h = inr (inr (e, pass_fail (suc at) rs mid ss reason hs h))

  pub fail_append : (at : ℕ) (rs ss : List RedexPlace) (reason : Rejection) → Fail J es at rs reason → Fail J es at (rs ++ ss) reason
  fail_append at [] ss reason h = absurd h
  fail_append at (r ∷ rs) ss reason (inl h) = inl h
  fail_append at (r ∷ rs) ss reason (inr (inl h)) = inr (inl h)
  fail_append at (r ∷ rs) ss reason (inr (inr (e, h))) = inr (inr (e, fail_append (suc at) rs ss reason h))

  -- what is answered for the rest, is for the whole
  pub rest_answers : (at : ℕ) (rs : List RedexPlace) (mid : ℕ) (ss : List RedexPlace) (a : Result ℕ CheckError) → Pass J es at rs mid → PlacesAnswer J es mid ss a → PlacesAnswer J es at (rs ++ ss) a
  rest_answers at rs mid ss (Ok after) h k = pass_append at rs mid ss after h k
  rest_answers at rs mid ss (Err (Rejected reason)) h k = pass_fail at rs mid ss (rejected_view reason) h k
  rest_answers at rs mid ss (Err NoMemory) h k = tt

  pub first_answers : (at : ℕ) (rs ss : List RedexPlace) (e : CheckError) → PlacesAnswer J es at rs (Err e) → PlacesAnswer J es at (rs ++ ss) (Err e)
  first_answers at rs ss (Rejected reason) h = fail_append at rs ss (rejected_view reason) h
  first_answers at rs ss NoMemory h = tt

-- a judgement that says more
module _ (J K : Judgement) (es : List Redex) where
  entry_to : (at : ℕ) (r : RedexPlace) (o : Option EvidenceReason) → ((e : InfeasibilityEvidence) → J r e o → K r e o) → IsEntry J es at r o → IsEntry K es at r o
  entry_to at r o f h = record { entry = h.entry; stands = h.stands; place = h.place; judged = f h.entry.evidence h.judged }

  pub pass_to : (at : ℕ) (rs : List RedexPlace) (after : ℕ) → ((r : RedexPlace) → IsAmong r rs → (e : InfeasibilityEvidence) (o : Option EvidenceReason) → J r e o → K r e o)
      → Pass J es at rs after → Pass K es at rs after
  pass_to at [] after f h = h
  pass_to at (r ∷ rs) after f (e, h) = (entry_to at r None (λ x j. f r (inl refl) x None j) e, pass_to (suc at) rs after (λ q l. f q (inr l)) h)

  pub fail_to : (at : ℕ) (rs : List RedexPlace) (reason : Rejection) → ((r : RedexPlace) → IsAmong r rs → (e : InfeasibilityEvidence) (o : Option EvidenceReason) → J r e o
      → K r e o) → Fail J es at rs reason → Fail K es at rs reason
  fail_to at [] reason f h = absurd h
  fail_to at (r ∷ rs) reason f (inl h) = inl h
  fail_to at (r ∷ rs) reason f (inr (inl (why, e, is))) = inr (inl (why, entry_to at r (Some why) (λ x j. f r (inl refl) x (Some why) j) e, is))
  fail_to at (r ∷ rs) reason f (inr (inr (e, h))) = inr (inr (entry_to at r None (λ x j. f r (inl refl) x None j) e, fail_to (suc at) rs reason (λ q l. f q (inr l)) h))

  pub answers_to : (at : ℕ) (rs : List RedexPlace) (a : Result ℕ CheckError) → ((r : RedexPlace) → IsAmong r rs → (e : InfeasibilityEvidence) (o : Option EvidenceReason) → J r e o
      → K r e o) → PlacesAnswer J es at rs a → PlacesAnswer K es at rs a
  answers_to at rs (Ok after) f h = pass_to at rs after f h
  answers_to at rs (Err (Rejected reason)) f h = fail_to at rs (rejected_view reason) f h
  answers_to at rs (Err NoMemory) f h = tt
