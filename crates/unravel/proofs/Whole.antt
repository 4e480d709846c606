-- The unraveled system as a whole.
use Rattle.std.proofs.Common.{◌≡◌, ℕ, zero, suc, ◌+◌, ◌<◌, sym, ap₂, ◌∙◌, subst, List, [], ◌∷◌, map, length, take, arith, slice_get, Some}
use Rattle.rewriting.specs.Rules as rules
use Rattle.rewriting.specs.Prelude.{rule_at, system_of, condition_count, DoSidesFit, unraveled, heads, unraveled_rule, unraveled_rules}
use Rattle.interpretations.specs.Size.{DoesRuleFit, DoesUnravelingFit, IsFirstTooLarge}
use Rattle.term_core.specs.Prelude.{rule_view, head_view}
use Rattle.term_core.specs.declared.systems.Rule.{Rule}
use Rattle.unravel.specs.declared.Unraveled.{Unraveled}
use Rattle.unravel.specs.Answers.{IsUnraveled}
use Rattle.unravel.specs.RuleAnswers.{IsLargeAt}
use Rattle.unravel.proofs.Progress.{sides_fit-first, sides_fit-second}

-- the sides that come from each rule fit
fits_at : (f : ℕ) (qs : List rules.Rule) (j : ℕ) (q : rules.Rule) → DoSidesFit (unraveled_rules f qs) → slice_get qs j ≡ Some q → DoSidesFit (unraveled_rule (f + condition_count (take j qs)) q)
fits_at f [] j q h e = absurd (cc)
fits_at f (p ∷ qs) zero q h e =
    let same : p ≡ q = cc in
    let start : f ≡ f + 0 = omega arith in
    subst (λ n. DoSidesFit (unraveled_rule n q)) start (subst (λ z. DoSidesFit (unraveled_rule f z)) same (sides_fit-first (unraveled_rule f p) (unraveled_rules (f + length p.conditions) qs) h))
fits_at f (p ∷ qs) (suc j) q h e =
    let rest = fits_at (f + length p.conditions) qs j q (sides_fit-second (unraveled_rule f p) (unraveled_rules (f + length p.conditions) qs) h) e in
    let start : (f + length p.conditions) + condition_count (take j qs) ≡ f + (length p.conditions + condition_count (take j qs)) = omega arith in
    subst (λ n. DoSidesFit (unraveled_rule n q)) start rest

fits_before : (f : ℕ) (qs : List rules.Rule) (k j : ℕ) (q : rules.Rule) → DoSidesFit (unraveled_rules f (take k qs)) → j < k → slice_get qs j ≡ Some q
    → DoSidesFit (unraveled_rule (f + condition_count (take j qs)) q)
fits_before f [] k j q h lt e = absurd (cc)
fits_before f (p ∷ qs) zero j q h lt e = absurd (omega (arith, lt))
fits_before f (p ∷ qs) (suc k) zero q h lt e =
    let same : p ≡ q = cc in
    let start : f ≡ f + 0 = omega arith in
    subst (λ n. DoSidesFit (unraveled_rule n q)) start
    (subst (λ z. DoSidesFit (unraveled_rule f z)) same (sides_fit-first (unraveled_rule f p) (unraveled_rules (f + length p.conditions) (take k qs)) h))
fits_before f (p ∷ qs) (suc k) (suc j) q h lt e =
    let rest = fits_before (f + length p.conditions) qs k j q (sides_fit-second (unraveled_rule f p) (unraveled_rules (f + length p.conditions) (take k qs)) h) (omega (arith, lt)) e in
    let start : (f + length p.conditions) + condition_count (take j qs) ≡ f + (length p.conditions + condition_count (take j qs)) = omega arith in
    subst (λ n. DoSidesFit (unraveled_rule n q)) start rest

pub all_fit : (sys : rules.System) → DoSidesFit (unraveled_rules (length sys.arities) sys.rules) → DoesUnravelingFit sys
all_fit sys h zero q e = absurd (cc)
all_fit sys h (suc i) q e = fits_at (length sys.arities) sys.rules i q h e

before_fit : (sys : rules.System) (k : ℕ) → DoSidesFit (unraveled_rules (length sys.arities) (take k sys.rules)) → (j : ℕ) (q : rules.Rule) → j < suc k → rule_at sys j ≡ Some q → DoesRuleFit sys j q
before_fit sys k h zero q lt e = absurd (cc)
before_fit sys k h (suc j) q lt e = fits_before (length sys.arities) sys.rules k j q h (omega (arith, lt)) e

pub first_large : (sys : rules.System) (n : ℕ) → IsLargeAt (length sys.arities) sys.rules n → IsFirstTooLarge sys n
first_large sys n h =
    let e : n ≡ suc h.place = (let m = h.is_number in omega (arith, m)) in
    subst (IsFirstTooLarge sys) (sym e) record { rule = h.rule; is_rule = h.is_rule; before = before_fit sys h.place h.before; here = h.here }

pub is_unraveled : (sys : rules.System) (u : Unraveled) (v : List Rule) (arities : List ℕ) → map rule_view v ≡ unraveled_rules (length sys.arities) sys.rules
    → DoSidesFit (unraveled_rules (length sys.arities) sys.rules)
    → arities ≡ (unraveled sys).arities → u.system ≡ system_of arities (map rule_view v) → map head_view u.heads.items ≡ heads sys → IsUnraveled sys u
is_unraveled sys u v arities r fit a s h = record { system = s ∙ ap₂ system_of a r; heads = h; fits = all_fit sys fit }
