-- The answers that the space holds say what is true.
use Rattle.std.proofs.Common.{◌≡◌, ◌⊎◌, inl, inr, List, map, length, refl, sym, subst}
use Rattle.rewriting.specs.Prelude.{IsAmong, Term, Bindings, Condition, System}
use Rattle.rewriting.proofs.Lists.{among_either, among_of_map}
use Rattle.certificates.specs.Derivations.{Derivation}
use Rattle.judged_evidence.proofs.Judged.{judged_infeasible}
use Rattle.search_spaces.specs.Refuting.{refutings}
use Rattle.reach_lists.specs.Solutions.{Solution}
use Rattle.query_space.specs.Assignments.{assignments}
use Rattle.query_space.specs.Items.{never_met, met_by, QueryItem, try_refuting, try_values, query_items, full_under, values_by_number, HoldsAnswer}
use Rattle.query_space.specs.Met.{IsMet}
use Rattle.query_space.specs.Laws.{EvidenceShows, AnswersAreTrue, AnswersAgree}
use Rattle.query_space.proofs.Full.{full, met_by_values}

pub evidence_shows : EvidenceShows
evidence_shows sys cs e good = judged_infeasible sys cs e good

-- a full substitution that an item of the space holds
pub record IsOfItem (sys : System) (cs : List Condition) (ts : List Term) (ds : List Derivation) : Type 0 where
  pub given : Bindings
  pub values : Solution
  pub is_given : IsAmong given (assignments sys cs)
  pub is_full : IsAmong values (full_under sys cs given)
  pub terms : ts ≡ values_by_number cs values.values
  pub derivations : ds ≡ values.by

same_values : (b : QueryItem) (c : Bindings) → b ≡ try_values c → (d : Bindings) → b ≡ try_values d → c ≡ d
same_values b c e d h = cc

module _ (sys : System) (cs : List Condition) (ts : List Term) (ds : List Derivation) where
  of_values : (b : Bindings) → IsAmong (try_values b) (query_items sys cs) → IsAmong b (assignments sys cs)
  of_values b l = go (among_either (try_values b) (map try_refuting (refutings (length cs))) (map try_values (assignments sys cs)) l)
    where
      go : IsAmong (try_values b) (map try_refuting (refutings (length cs))) ⊎ IsAmong (try_values b) (map try_values (assignments sys cs)) → IsAmong b (assignments sys cs)
      go (inl m) = let r = among_of_map try_refuting (try_values b) (refutings (length cs)) m in let e = r.2 in absurd (cc)
      go (inr m) = let r = among_of_map try_values (try_values b) (assignments sys cs) m in let same : b ≡ r.0 = same_values (try_values b) b refl r.0 r.2 in
          subst (λ z. IsAmong z (assignments sys cs)) (sym same) r.1

  pub of_item : (item : QueryItem) → IsAmong item (query_items sys cs) → HoldsAnswer sys cs item (met_by ts ds) → IsOfItem sys cs ts ds
  of_item (try_refuting r) l (e, t, is) = absurd (cc)
  of_item (try_values b) l (s, m, is) = record { given = b; values = s; is_given = of_values b l; is_full = m; terms = cc; derivations = cc }

pub answers_true : AnswersAreTrue
answers_true sys cs (never_met e) well all held good = judged_infeasible sys cs e good
answers_true sys cs (met_by ts ds) well all held good =
    let o = of_item sys cs ts ds held.item held.listed held.holds in
    let met = (full sys cs o.given o.values well all o.is_given o.is_full).met in
    subst (λ z. IsMet sys cs z ds) (sym o.terms) (subst (IsMet sys cs (values_by_number cs o.values.values)) (sym o.derivations) met)

pub answers_agree : AnswersAgree
answers_agree sys cs e ts ds well all good held =
    let o = of_item sys cs ts ds held.item held.listed held.holds in
    let met = met_by_values sys cs o.given o.values well all o.is_given o.is_full in
    judged_infeasible sys cs e good met.level o.values.values met.over met.meets
