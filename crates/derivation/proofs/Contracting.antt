-- Contracting a redex, and steps by hypotheses, from their parts.
use Rattle.std.proofs.Common.{◌≡◌, ℕ, List, [], Some, None, refl, sym, ◌∙◌, subst, inl, inr}
use Rattle.rewriting.specs.Terms as math
use Rattle.rewriting.specs.Prelude.{Position, subterm, replace, Bindings, Condition}
use Rattle.rewriting.proofs.Positions.{replaceable, replace-twice, subterm-replace}
use Rattle.certificates.specs.Prelude.{HypothesisFails, no_hypothesis, left_differs, large_result, hypothesis_at, StepReason, no_such_hypothesis, no_redex, too_large}
use Rattle.certificates.proofs.Growth.{part_fits}
use Rattle.derivation.specs.Judged.{HasNoInstance, IsContracted, HasNoContractum, HasSizeAt}

-- where the right side has no instance there is no contractum
pub none_from_instance : (right : math.Term) (values : Bindings) (t : math.Term) (p : Position) (path : List ℕ) (reason : StepReason) → (path ≡ []) × HasNoInstance values right reason
    → (path ≡ []) × HasNoContractum right values t p reason
none_from_instance right values t p path reason (e, inl h) = (e, inl h)
none_from_instance right values t p path reason (e, inr (r, covered, large)) = (e, inr (r, covered, λ u put fits. large (part_fits t p _ u put fits)))

pub hypothesis_absent : (hyps : List Condition) (t : math.Term) (k : ℕ) (p : Position) → None ≡ hypothesis_at hyps k → HypothesisFails hyps t k p no_such_hypothesis
hypothesis_absent hyps t k p e = no_hypothesis (sym e)

pub hypothesis_elsewhere : (hyps : List Condition) (t : math.Term) (k : ℕ) (p : Position) (h : Condition) → Some h ≡ hypothesis_at hyps k → (subterm t p ≡ Some h.left → ⊥)
    → HypothesisFails hyps t k p no_redex
hypothesis_elsewhere hyps t k p h is not = left_differs h (sym is) not

pub hypothesis_large : (hyps : List Condition) (t : math.Term) (k : ℕ) (p : Position) (h : Condition) (part : math.Term) → Some h ≡ hypothesis_at hyps k → subterm t p ≡ Some h.left
    → part ≡ h.right → ((v : math.Term) → replace t p part ≡ Some v → math.Fits v → ⊥) → HypothesisFails hyps t k p too_large
hypothesis_large hyps t k p h part is stands same large =
    let whole = replaceable t p h.left h.right stands in
    large_result h whole.0 (sym is) stands whole.1 (large whole.0 (subst (λ z. replace t p z ≡ Some whole.0) (sym same) whole.1))

-- the term with a variable in place of the redex has the same contracta
module _ (t rest part : math.Term) (p : Position) (stands : subterm t p ≡ Some part) (opened : replace t p (math.var 0) ≡ Some rest) where
  pub open_size : HasSizeAt rest p 1
  open_size = (math.var 0, subterm-replace t p (math.var 0) rest opened, refl)

  put_back : (u v : math.Term) → replace rest p u ≡ Some v → replace t p u ≡ Some v
  put_back u v e =
      let whole = replaceable t p part u stands in
      whole.1 ∙ sym (replace-twice t p (math.var 0) rest u whole.0 opened whole.1) ∙ e

  pub contracted_back : (right : math.Term) (values : Bindings) (u : math.Term) → IsContracted right values rest p u → IsContracted right values t p u
  contracted_back right values u h = record { covered = h.covered; result = put_back _ u h.result }

  pub uncontracted_back : (right : math.Term) (values : Bindings) (reason : StepReason) → HasNoContractum right values rest p reason → HasNoContractum right values t p reason
  uncontracted_back right values reason (inl h) = inl h
  uncontracted_back right values reason (inr (e, covered, large)) = inr (e, covered, λ u put fits. large u (replace-twice t p (math.var 0) rest _ u opened put) fits)
