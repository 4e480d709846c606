-- What is tried for conditions is tried for renamed ones.
use Rattle.std.proofs.Common.{ℕ, zero, suc, ◌≡◌, List, [], ◌∷◌, Option, None, Some, option_map, slice_get, refl, sym, ap, ◌∙◌, subst}
use Rattle.rewriting.specs.Prelude.{Substitution, Condition, System, condition_under, conditions_under}
use Rattle.unifier_run.proofs.Renamed.{names}
use Rattle.certificates.specs.Prelude.{Automaton, InfeasibilityEvidence, by_automaton, hypothesis_at}
use Rattle.redex_conditions.proofs.Renaming.{conditions_renamed}
use Rattle.search_spaces.specs.Grown.{GrowsTo}
use Rattle.search_spaces.specs.Refuting.{Refuting, try_caps, try_growth, Tries}
use Rattle.noncon_search.proofs.Growth.{grows_to, grows_from}

slice-under : (s : Substitution) (cs : List Condition) (k : ℕ) → slice_get (conditions_under s cs) k ≡ option_map (condition_under s) (slice_get cs k)
slice-under s [] k = refl
slice-under s (c ∷ cs) zero = refl
slice-under s (c ∷ cs) (suc k) = slice-under s cs k

hypothesis-under : (s : Substitution) (cs : List Condition) (k : ℕ) → hypothesis_at (conditions_under s cs) k ≡ option_map (condition_under s) (hypothesis_at cs k)
hypothesis-under s cs zero = refl
hypothesis-under s cs (suc k) = slice-under s cs k

module _ (rho : ℕ → ℕ) (sys : System) (cs : List Condition) where
  abbrev renamed : Condition → Condition
  renamed c = condition_under (names rho) c

  pub tries_to : (item : Refuting) (e : InfeasibilityEvidence) → Tries sys cs item e → Tries sys (conditions_renamed rho cs) item e
  tries_to try_caps e h = h
  tries_to (try_growth k) e (c, a, at, g, is) = (renamed c, a, hypothesis-under (names rho) cs k ∙ ap (option_map renamed) at, grows_to rho sys c.left a g, is)

  growth_from : (k : ℕ) (e : InfeasibilityEvidence) (d : Condition) (a : Automaton) → GrowsTo sys d.left a → e ≡ by_automaton k a
      → (o : Option Condition) → hypothesis_at cs k ≡ o → option_map renamed o ≡ Some d → Tries sys cs (try_growth k) e
  growth_from k e d a g is None at same = absurd (cc)
  growth_from k e d a g is (Some c) at same =
      let there : d ≡ renamed c = cc in (c, a, at, grows_from rho sys c.left a (subst (λ z. GrowsTo sys z.left a) there g), is)

  pub tries_from : (item : Refuting) (e : InfeasibilityEvidence) → Tries sys (conditions_renamed rho cs) item e → Tries sys cs item e
  tries_from try_caps e h = h
  tries_from (try_growth k) e (d, a, at, g, is) = growth_from k e d a g is (hypothesis_at cs k) refl (sym (hypothesis-under (names rho) cs k) ∙ at)
