-- What is tried for a redex of a numbered term is tried for the redex of the term.
use Rattle.std.proofs.Common.{ℕ, ◌≡◌, List, length, None, sym, ap, subst}
use Rattle.rewriting.specs.Prelude.{AreDistinct, Condition, Rule, System, rule_at, Bindings, apply, conditions_under, Term}
use Rattle.certificates.specs.Prelude.{Redex, InfeasibilityEvidence, RuleMatches}
use Rattle.renumbering.specs.Rows.{naming}
use Rattle.renumbering.specs.Spread.{spread}
use Rattle.renumbering.proofs.Spreads.{spread_one_to_one}
use Rattle.valid_certificates.specs.Peaks.{RedexPlace, AreConditionsAt, chosen}
use Rattle.redex_conditions.specs.Judged.{match_or_new, AreJudged}
use Rattle.redex_conditions.proofs.Renaming.{conditions_renamed, are_judged_to, are_judged_from}
use Rattle.redex_conditions.proofs.Numbers.{AreBelow, redex_conditions}
use Rattle.first_found.specs.Items.{NoneGives, IsFirst, one}
use Rattle.first_found.specs.Rows.{HasNone}
use Rattle.first_found.proofs.Items.{not_both}
use Rattle.search_spaces.specs.Refuting.{Refuting, Tries, refutings}
use Rattle.search_spaces.specs.PeakItems.{conditions_of, RefutesRedex, IsFirstRefuted}
use Rattle.valid_certificates.proofs.OneAnswer.{conditions_once}
use Rattle.noncon_search.specs.Trying.{Refutes}
use Rattle.noncon_search.specs.Entries.{entry_at}
use Rattle.noncon_search.proofs.Moving.{none_as, first_as, chosen_same}
use Rattle.noncon_search.proofs.Tries.{tries_to, tries_from}

module _ (row : List ℕ) (distinct : AreDistinct row) (t n : Term) (is : t ≡ apply (naming row) n) (below : AreBelow (length row) n)
    (sys : System) (r : RedexPlace) (rule : Rule) (match : Bindings) (matches : RuleMatches sys n r.rule r.position rule match) where
  -- the conditions of the numbered redex, and of the redex
  abbrev numbered : List Condition
  numbered = conditions_under (match_or_new (length row) match) rule.conditions

  abbrev there : List Condition
  there = conditions_renamed (spread row) numbered

  are_there : AreConditionsAt sys (chosen t t r.which) r there
  are_there = subst (λ u. AreConditionsAt sys u r there) (sym (chosen_same t r.which)) (redex_conditions row distinct t n is below sys r rule match matches)

  one_there : (cs : List Condition) → AreConditionsAt sys (chosen t t r.which) r cs → cs ≡ there
  one_there cs h = conditions_once sys (chosen t t r.which) r cs there h are_there

  refutes_to : (item : Refuting) (e : InfeasibilityEvidence) → Refutes sys numbered item e → RefutesRedex sys t t r item e
  refutes_to item e (tried, judged) = (
    there,
    are_there,
    tries_to (spread row) sys numbered item e tried,
    (there, are_there, are_judged_to (spread row) (spread_one_to_one row distinct) sys numbered e None judged),
  )

  refutes_from : (item : Refuting) (e : InfeasibilityEvidence) → RefutesRedex sys t t r item e → Refutes sys numbered item e
  refutes_from item e (cs, at, tried, (ds, ats, judged)) = (
    tries_from (spread row) sys numbered item e (subst (λ z. Tries sys z item e) (one_there cs at) tried),
    are_judged_from (spread row) (spread_one_to_one row distinct) sys numbered e None (subst (λ z. AreJudged sys z e None) (one_there ds ats) judged),
  )

  same_items : refutings (length rule.conditions) ≡ refutings (conditions_of (rule_at sys r.rule))
  same_items = ap (λ o. refutings (conditions_of o)) (sym matches.is_rule)

  pub refuted_there : (e : InfeasibilityEvidence) (m : ℕ) → IsFirst one (Refutes sys numbered) (refutings (length rule.conditions)) e m → (entry : Redex) → entry ≡ entry_at r e
      → IsFirstRefuted sys t t r entry m
  refuted_there e m f entry same = (
    e,
    subst (λ items. IsFirst one (RefutesRedex sys t t r) items e m) same_items
        (first_as one (Refutes sys numbered) (RefutesRedex sys t t r) refutes_to refutes_from (refutings (length rule.conditions)) e m f),
    same,
  )

  pub unrefuted_there : NoneGives (Refutes sys numbered) (refutings (length rule.conditions)) → HasNone (IsFirstRefuted sys t t) r
  unrefuted_there none entry m (e, f, same) =
      not_both (RefutesRedex sys t t r) one (refutings (conditions_of (rule_at sys r.rule))) e m
      (subst (NoneGives (RefutesRedex sys t t r)) same_items
      (none_as one (Refutes sys numbered) (RefutesRedex sys t t r) refutes_to refutes_from (refutings (length rule.conditions)) none))
      f
