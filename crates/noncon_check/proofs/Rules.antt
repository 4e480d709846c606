-- Entries of a certificate by their numbers, and those for a rule at a part.
use Rattle.std.proofs.Common.{◌≡◌, ℕ, ◌<◌, List, [], ◌∷◌, length, map, Option, Some, slice_get, refl, sym, subst, arith, inl, inr, Result}
use Rattle.std.proofs.lemmas.Option.{slice_get_within}
use Rattle.std.proofs.lemmas.List.{length-map}
use Rattle.std.specs.FinMap.{empty}
use Rattle.rewriting.specs.Prelude.{IsAmong, IsLeastMatch, HasNoMatch, Position, conditions_under}
use Rattle.rewriting.proofs.Common.{Term, Bindings, Rule, System, rule_at}
use Rattle.certificates.specs.Certificates as math
use Rattle.cert_model.specs.CertificateView.{redex_view}
use Rattle.cert_model.specs.declared.model.Redex as program_redex
use Rattle.rule_index.specs.Parts.{part}
use Rattle.certificates.specs.Prelude.{InfeasibilityEvidence, EvidenceReason}
use Rattle.validity.specs.declared.CheckError.{CheckError}
use Rattle.valid_certificates.specs.Peaks.{RedexPlace}
use Rattle.redex_conditions.specs.Judged.{match_or_new, AreJudged, IsJudgedOn}
use Rattle.noncon_check.specs.Walks.{Judgement, Pass, PlacesAnswer}
use Rattle.noncon_check.proofs.Walks.{answers_to}
use Rattle.redex_conditions.specs.Redexes.{place, places}
use Rattle.redex_conditions.proofs.Rules.{hit_yes, hit_no}

-- entries
pub entry_low : (es : List program_redex.Redex) (at : ℕ) (e : math.Redex) → slice_get (map redex_view es) at ≡ Some e → at < length es
entry_low es at e h = let low = slice_get_within (map redex_view es) at e h in let long = length-map es redex_view in omega (arith, low, long)

-- where a rule matches, and where it does not
module _ (sys : System) (t : Term) (n : ℕ) (r : Rule) (is : rule_at sys n ≡ Some r) where
  -- nothing is asked where the rule does not match
  pub unmatched_pass : (J : Judgement) (p : Position) (es : List math.Redex) (w at : ℕ) → HasNoMatch empty r.left t → Pass J es at (places sys w (part p t) (n ∷ [])) at
  unmatched_pass J p es w at none = subst (λ is. Pass J es at (map (place w p) is) at) (sym (hit_no sys t n r is none)) refl

  judged_here : (own w : ℕ) (p : Position) (m : Bindings) → IsLeastMatch empty m r.left t → (q : RedexPlace) → IsAmong q (place w p n ∷ []) → (e : InfeasibilityEvidence) (o : Option EvidenceReason)
      → AreJudged sys (conditions_under (match_or_new own m) r.conditions) e o → IsJudgedOn sys own t q e o
  judged_here own w p m h q (inl s) e o j = subst (λ z. IsJudgedOn sys own t z e o) (sym s) (record { rule = r; match = m; is_rule = is; matches = h; judged = j })
  judged_here own w p m h q (inr l) e o j = absurd l

  -- where it matches, the next entry is judged
  pub matched_answers : (p : Position) (es : List math.Redex) (own w at : ℕ) (m : Bindings) (a : Result ℕ CheckError) → IsLeastMatch empty m r.left t
      → PlacesAnswer (λ q e o. AreJudged sys (conditions_under (match_or_new own m) r.conditions) e o) es at (place w p n ∷ []) a
      → PlacesAnswer (IsJudgedOn sys own t) es at (places sys w (part p t) (n ∷ [])) a
  matched_answers p es own w at m a h k =
      subst (λ is. PlacesAnswer (IsJudgedOn sys own t) es at (map (place w p) is) a) (sym (hit_yes sys t n r is m h))
      (answers_to (λ q e o. AreJudged sys (conditions_under (match_or_new own m) r.conditions) e o) (IsJudgedOn sys own t) es at (place w p n ∷ []) a (judged_here own w p m h) k)
