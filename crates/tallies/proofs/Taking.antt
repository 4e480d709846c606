-- How the tally of entries goes on with further entries, and what it says in the end.
use Rattle.std.proofs.Common.{◌≡◌, ◌≢◌, inl, inr, ℕ, suc, ◌+◌, List, [], ◌∷◌, ◌++◌, length, Some, None, refl, sym, ◌∙◌, ap, subst, arith}
use Rattle.std.proofs.lemmas.List.{append-nil}
use Rattle.rewriting.specs.Prelude.{System, IsDeterministic}
use Rattle.unifier_run.specs.Overlaps.{Overlap, triple, AreOverlaps}
use Rattle.interpretations.specs.Judgement.{Judgement, good}
use Rattle.certificates.specs.Prelude.{PairEntry, EvidenceReason, Rejection, pair_missing, pair_extra, evidence_fails}
use Rattle.valid_certificates.specs.Kinds.{Kind, ortho, quasi}
use Rattle.valid_certificates.specs.PairEvidence.{IsPairJudged}
use Rattle.valid_certificates.specs.Entries.{triple_of, AreSettled, AreNotSettled, DoSettle, DoNotSettle, entry_fails}
use Rattle.valid_certificates.specs.Confluence.{IsInOrthoClasses, IsValidOrtho, IsOrthoRejected, ortho_pairs_fail, AreRightSidesIrreducible, IsValidQuasi, IsQuasiRejected, quasi_pairs_fail}
use Rattle.valid_certificates.proofs.OneOverlaps.{overlaps_once}
use Rattle.tallies.specs.Tally.{Tally, passed, failed, AreTallied, IsTally, whatever_they_are, one_by_one, IsOrthoTally, IsQuasiTally}

-- lists that are equal and begin with as many are equal behind these
same_rest : (os ps qs rs : List Overlap) → os ++ ps ≡ qs ++ rs → length os ≡ length qs → ps ≡ rs
same_rest [] ps [] rs e l = e
same_rest [] ps (q ∷ qs) rs e l = cc
same_rest (o ∷ os) ps [] rs e l = cc
same_rest (o ∷ os) ps (q ∷ qs) rs e l =
    let behind : os ++ ps ≡ qs ++ rs = cc in
    let long : length os ≡ length qs = omega (arith, l) in
    same_rest os ps qs rs behind long

module _ (kind : Kind) (sys : System) where
  -- the first reason stays
  pub failure_stays : (n : ℕ) (os : List Overlap) (es fs : List PairEntry) (r : Rejection) → AreTallied kind sys n os es (failed r) → AreTallied kind sys n os (es ++ fs) (failed r)
  failure_stays n os [] fs r h = cc
  failure_stays n [] (e ∷ es) fs r h = h
  failure_stays n (o ∷ os) (e ∷ es) fs r (inl h) = inl h
  failure_stays n (o ∷ os) (e ∷ es) fs r (inr (inl h)) = inr (inl h)
  failure_stays n (o ∷ os) (e ∷ es) fs r (inr (inr (same, j, h))) = inr (inr (same, j, failure_stays (suc n) os es fs r h))

  -- entries that have passed: each has settled one of the first overlaps, and further ones go on behind these
  pub record HavePassed (n m : ℕ) (os : List Overlap) (es : List PairEntry) : Type 0 where
    pub count : m ≡ n + length es
    pub done : List Overlap
    pub later : List Overlap
    pub split : os ≡ done ++ later
    pub as_many : length done ≡ length es
    pub goes_on : (fs : List PairEntry) (t : Tally) → AreTallied kind sys m later fs t → AreTallied kind sys n os (es ++ fs) t
    pub settled : AreSettled kind sys done es
    pub missed : (o : Overlap) (rest : List Overlap) → later ≡ o ∷ rest → AreNotSettled kind sys (suc n) os es (pair_missing o.inner o.position o.outer)

  pub going_on : (n m : ℕ) (os : List Overlap) (es : List PairEntry) → AreTallied kind sys n os es (passed m) → HavePassed n m os es
  going_on n m os [] h =
      let same : m ≡ n = cc in
      record {
        count = omega (arith, same);
        done = [];
        later = os;
        split = refl;
        as_many = refl;
        goes_on = λ fs t k. subst (λ i. AreTallied kind sys i os fs t) same k;
        settled = tt;
        missed = λ o rest e. subst (λ qs. AreNotSettled kind sys (suc n) qs [] (pair_missing o.inner o.position o.outer)) (sym e) refl;
      }
  going_on n m [] (e ∷ es) h = cc
  going_on n m (o ∷ os) (e ∷ es) (inl h) = (let clash = h.1 in cc)
  going_on n m (o ∷ os) (e ∷ es) (inr (inl (same, (why, bad, h)))) = cc
  going_on n m (o ∷ os) (e ∷ es) (inr (inr (same, j, h))) =
      let rest = going_on (suc n) m os es h in
      let count = rest.count in
      record {
        count = omega (arith, count);
        done = o ∷ rest.done;
        later = rest.later;
        split = ap (λ qs. o ∷ qs) rest.split;
        as_many = ap suc rest.as_many;
        goes_on = λ fs t k. inr (inr (same, j, rest.goes_on fs t k));
        settled = (same, j, rest.settled);
        missed = λ q behind e. inr (inr (same, j, rest.missed q behind e));
      }

  -- an entry that fails is the first reason why overlaps are not settled
  pub failed_not_settled : (n : ℕ) (os : List Overlap) (es : List PairEntry) (r : Rejection) → AreTallied kind sys n os es (failed r) → AreNotSettled kind sys (suc n) os es r
  failed_not_settled n os [] r h = cc
  failed_not_settled n [] (e ∷ es) r h = cc
  failed_not_settled n (o ∷ os) (e ∷ es) r (inl (other, h)) = inl (other, cc)
  failed_not_settled n (o ∷ os) (e ∷ es) r (inr (inl (same, (why, bad, h)))) = inr (inl (same, (why, bad, cc)))
  failed_not_settled n (o ∷ os) (e ∷ es) r (inr (inr (same, j, h))) = inr (inr (same, j, failed_not_settled (suc n) os es r h))

  -- where it is known which overlaps are left behind entries that have passed, further entries go on with these
  pub more_taken : (os front later : List Overlap) (m : ℕ) → os ≡ front ++ later → length front ≡ m → (es fs : List PairEntry) (t : Tally)
      → AreTallied kind sys 0 os es (passed m) → AreTallied kind sys m later fs t → AreTallied kind sys 0 os (es ++ fs) t
  more_taken os front later m split long es fs t h k =
      let p = going_on 0 m os es h in
      let same : later ≡ p.later = same_rest front later p.done p.later (sym split ∙ p.split) (omega (arith, long, p.as_many, p.count)) in
      p.goes_on fs t (subst (λ qs. AreTallied kind sys m qs fs t) same k)

  -- no overlap is left behind them
  module _ (os : List Overlap) (m : ℕ) (long : length os ≡ m) (es : List PairEntry) (h : AreTallied kind sys 0 os es (passed m)) where
    pub extra_taken : (e : PairEntry) → AreTallied kind sys 0 os (es ++ e ∷ []) (failed (pair_extra (suc m)))
    extra_taken e = more_taken os os [] m (sym (append-nil os)) long es (e ∷ []) (failed (pair_extra (suc m))) h refl

    pub all_settled : AreSettled kind sys os es
    all_settled =
        let p = going_on 0 m os es h in
        let none : [] ≡ p.later = same_rest os [] p.done p.later (append-nil os ∙ p.split) (omega (arith, long, p.as_many, p.count)) in
        subst (λ qs. AreSettled kind sys qs es) (sym (p.split ∙ ap (λ qs. p.done ++ qs) (sym none) ∙ append-nil p.done)) p.settled

  -- an overlap is left, and the next entry is for it or not
  module _ (os front rest : List Overlap) (o : Overlap) (m : ℕ) (split : os ≡ front ++ o ∷ rest) (long : length front ≡ m) (es : List PairEntry) (h : AreTallied kind sys 0 os es (passed m)) where
    next_taken : (e : PairEntry) (t : Tally) → AreTallied kind sys m (o ∷ rest) (e ∷ []) t → AreTallied kind sys 0 os (es ++ e ∷ []) t
    next_taken e t k = more_taken os front (o ∷ rest) m split long es (e ∷ []) t h k

    pub other_taken : (e : PairEntry) → triple_of e ≢ triple o → AreTallied kind sys 0 os (es ++ e ∷ []) (failed (pair_missing o.inner o.position o.outer))
    other_taken e n = next_taken e _ (inl (n, refl))

    pub bad_taken : (e : PairEntry) (why : EvidenceReason) → triple_of e ≡ triple o → IsPairJudged kind sys o e.evidence (Some why)
        → AreTallied kind sys 0 os (es ++ e ∷ []) (failed (evidence_fails (suc m) why))
    bad_taken e why same j = next_taken e _ (inr (inl (same, (why, j, refl))))

    pub good_taken : (e : PairEntry) → triple_of e ≡ triple o → IsPairJudged kind sys o e.evidence None → AreTallied kind sys 0 os (es ++ e ∷ []) (passed (suc m))
    good_taken e same j = next_taken e _ (inr (inr (same, j, refl)))

    pub next_missed : AreNotSettled kind sys 1 os es (pair_missing o.inner o.position o.outer)
    next_missed =
        let p = going_on 0 m os es h in
        p.missed o rest (sym (same_rest front (o ∷ rest) p.done p.later (sym split ∙ p.split) (omega (arith, long, p.as_many, p.count))))

  -- the same of all overlaps of the system
  module _ (os : List Overlap) (are : AreOverlaps sys os) (es : List PairEntry) where
    pub do_not_settle : (r : Rejection) → AreTallied kind sys 0 os es (failed r) → DoNotSettle kind sys es r
    do_not_settle r h = entry_fails os r are (failed_not_settled 0 os es r h)

    pub do_settle : (m : ℕ) → length os ≡ m → AreTallied kind sys 0 os es (passed m) → DoSettle kind sys es
    do_settle m long h = (os, are, all_settled os m long es h)

    pub do_miss : (front rest : List Overlap) (o : Overlap) (m : ℕ) → os ≡ front ++ o ∷ rest → length front ≡ m → AreTallied kind sys 0 os es (passed m)
        → DoNotSettle kind sys es (pair_missing o.inner o.position o.outer)
    do_miss front rest o m split long h = entry_fails os _ are (next_missed os front rest o m split long es h)

-- the entries of a certificate of a kind
module _ (kind : Kind) (sys : System) (Before : Type 0) (IsRejected : List PairEntry → Rejection → Type 0) where
  -- one more entry is taken, after which a tally that has failed is the same
  pub tally_takes : (es : List PairEntry) (e : PairEntry) (t u : Tally) → ((r : Rejection) → t ≡ failed r → u ≡ failed r)
      → ((os : List Overlap) → AreOverlaps sys os → AreTallied kind sys 0 os es t → AreTallied kind sys 0 os (es ++ e ∷ []) u) → IsTally kind sys Before IsRejected es t
      → IsTally kind sys Before IsRejected (es ++ e ∷ []) u
  tally_takes es e t u stays goes (whatever_they_are r all) = subst (IsTally kind sys Before IsRejected (es ++ e ∷ [])) (sym (stays r refl)) (whatever_they_are r all)
  tally_takes es e t u stays goes (one_by_one os x before are h) = one_by_one os u before are (goes os are h)

  -- of entries that pass all is judged that is judged before them
  pub passed_before : (es : List PairEntry) (n : ℕ) → IsTally kind sys Before IsRejected es (passed n) → Before
  passed_before es n (one_by_one os t before are h) = before

  -- and they have that tally for the overlaps of the system
  pub passed_taken : (es : List PairEntry) (n : ℕ) → IsTally kind sys Before IsRejected es (passed n) → (os : List Overlap) → AreOverlaps sys os → AreTallied kind sys 0 os es (passed n)
  passed_taken es n (one_by_one qs t before all h) os are = subst (λ x. AreTallied kind sys 0 x es (passed n)) (overlaps_once sys qs os all are) h

-- what the tally of a certificate of an almost orthogonal system says of it
module _ (sys : System) (es : List PairEntry) where
  pub ortho_failed : (r : Rejection) → IsOrthoTally sys es (failed r) → IsOrthoRejected sys es r
  ortho_failed r (whatever_they_are x all) = all es
  ortho_failed r (one_by_one os t all are h) = ortho_pairs_fail r all (do_not_settle ortho sys os are es r h)

  module _ (n : ℕ) (h : IsOrthoTally sys es (passed n)) where
    pub ortho_classes : IsInOrthoClasses sys
    ortho_classes = passed_before ortho sys (IsInOrthoClasses sys) (IsOrthoRejected sys) es n h

    pub ortho_settled : DoSettle ortho sys es → IsValidOrtho sys es
    ortho_settled s = record { classes = ortho_classes; pairs = s }

    pub ortho_not_settled : (r : Rejection) → DoNotSettle ortho sys es r → IsOrthoRejected sys es r
    ortho_not_settled r s = ortho_pairs_fail r ortho_classes s

    module _ (os : List Overlap) (are : AreOverlaps sys os) where
      ortho_taken : AreTallied ortho sys 0 os es (passed n)
      ortho_taken = passed_taken ortho sys (IsInOrthoClasses sys) (IsOrthoRejected sys) es n h os are

      pub ortho_all : length os ≡ n → IsValidOrtho sys es
      ortho_all long = ortho_settled (do_settle ortho sys os are es n long ortho_taken)

      pub ortho_missing : (front rest : List Overlap) (o : Overlap) → os ≡ front ++ o ∷ rest → length front ≡ n → IsOrthoRejected sys es (pair_missing o.inner o.position o.outer)
      ortho_missing front rest o split long = ortho_not_settled _ (do_miss ortho sys os are es front rest o n split long ortho_taken)

-- and that of a certificate with a measure
module _ (Is : Judgement → Type 0) (sys : System) (es : List PairEntry) where
  pub quasi_failed : (r : Rejection) → IsQuasiTally Is sys es (failed r) → IsQuasiRejected Is sys es r
  quasi_failed r (whatever_they_are x all) = all es
  quasi_failed r (one_by_one os t (a, b, g) are h) = quasi_pairs_fail r a b g (do_not_settle quasi sys os are es r h)

  module _ (n : ℕ) (h : IsQuasiTally Is sys es (passed n)) where
    pub quasi_before : IsDeterministic sys × AreRightSidesIrreducible sys × Is good
    quasi_before = passed_before quasi sys (IsDeterministic sys × AreRightSidesIrreducible sys × Is good) (IsQuasiRejected Is sys) es n h

    pub quasi_settled : DoSettle quasi sys es → IsValidQuasi Is sys es
    quasi_settled s = (let all = quasi_before in record { deterministic = all.0; irreducible = all.1; measure = all.2; pairs = s })

    pub quasi_not_settled : (r : Rejection) → DoNotSettle quasi sys es r → IsQuasiRejected Is sys es r
    quasi_not_settled r s = (let all = quasi_before in quasi_pairs_fail r all.0 all.1 all.2 s)

    module _ (os : List Overlap) (are : AreOverlaps sys os) where
      quasi_taken : AreTallied quasi sys 0 os es (passed n)
      quasi_taken = passed_taken quasi sys (IsDeterministic sys × AreRightSidesIrreducible sys × Is good) (IsQuasiRejected Is sys) es n h os are

      pub quasi_all : length os ≡ n → IsValidQuasi Is sys es
      quasi_all long = quasi_settled (do_settle quasi sys os are es n long quasi_taken)

      pub quasi_missing : (front rest : List Overlap) (o : Overlap) → os ≡ front ++ o ∷ rest → length front ≡ n → IsQuasiRejected Is sys es (pair_missing o.inner o.position o.outer)
      quasi_missing front rest o split long = quasi_not_settled _ (do_miss quasi sys os are es front rest o n split long quasi_taken)
