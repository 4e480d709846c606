-- Derivations that are made of origins, step by step.
use Rattle.std.proofs.Common.{◌≡◌, ℕ, List, [], ◌∷◌, ◌++◌, map, Vec, Global, refl, sym, ap, ap₂, ◌∙◌, rules}
use Rattle.std.proofs.lemmas.List.{map_push}
use Rattle.certificates.specs.Derivations as math
use Rattle.certificates.specs.Derivations.{first_step, by_rule, by_hypothesis, derivation_of, derivations_of}
use Rattle.reach_lists.specs.Solutions.{then_step}
use Rattle.cert_model.specs.DerivationView.{derivation_view, step_view}
use Rattle.cert_model.specs.declared.derivations.Step.{Step}
use Rattle.cert_model.specs.declared.derivations.Step as program
use Rattle.cert_model.specs.declared.derivations.Derivation.{Derivation, roll-Derivation}
use Rattle.cert_model.proofs.DerivationViews.{step_of_rule, step_of_hypothesis, derivation_of_steps}
use Rattle.origins.specs.OriginView.{origin_view, way_view}
use Rattle.origins.specs.declared.Way.{Way}
use Rattle.origins.specs.declared.Way as way
use Rattle.origins.specs.declared.Origin.{Origin}

-- what a way tells
pub rule_way : (from : Origin) (i : ℕ) (p : Vec ℕ Global) (conds : Vec Origin Global)
    → way_view (way.Rule from i p conds) ≡ then_step (origin_view from) (by_rule i p.items (derivations_of (map origin_view conds.items)))
rule_way from i p conds = search (rules, way.the_lemmas)

pub hypothesis_way : (from : Origin) (k : ℕ) (p : Vec ℕ Global) → way_view (way.Hyp from k p) ≡ then_step (origin_view from) (by_hypothesis k p.items)
hypothesis_way from k p = search (rules, way.the_lemmas)

-- one step more
then_last : (ss : List math.Step) (s : math.Step) → derivation_of (ss ++ s ∷ []) ≡ then_step (derivation_of ss) s
then_last [] s = refl
then_last (x ∷ ss) s = ap (first_step x) (then_last ss s)

made_longer : (before after : Vec Step Global) (s : Step) (by : math.Derivation) → derivation_view (roll-Derivation record { steps = before }) ≡ by
    → after.items ≡ before.items ++ s ∷ [] → derivation_view (roll-Derivation record { steps = after }) ≡ then_step by (step_view s)
made_longer before after s by e pushed =
    derivation_of_steps (roll-Derivation record { steps = after }) ∙ ap (λ xs. derivation_of (map step_view xs)) pushed ∙ ap derivation_of (map_push step_view before.items s)
    ∙ then_last (map step_view before.items) (step_view s) ∙ ap (λ d. then_step d (step_view s)) (sym (derivation_of_steps (roll-Derivation record { steps = before })) ∙ e)

pub rule_made : (w : Way) (from : Origin) (i : ℕ) (p q : Vec ℕ Global) (conds : Vec Origin Global) (ds : Vec Derivation Global) (before after : Vec Step Global)
    → w ≡ way.Rule from i p conds → derivation_view (roll-Derivation record { steps = before }) ≡ origin_view from → q.items ≡ p.items
    → map derivation_view ds.items ≡ map origin_view conds.items → after.items ≡ before.items ++ program.Rule i q ds ∷ []
    → derivation_view (roll-Derivation record { steps = after }) ≡ way_view w
rule_made w from i p q conds ds before after is by same met pushed =
    made_longer before after (program.Rule i q ds) (origin_view from) by pushed
    ∙ ap (then_step (origin_view from)) (step_of_rule i q ds ∙ ap₂ (λ r xs. by_rule i r (derivations_of xs)) same met)
    ∙ sym (ap way_view is ∙ rule_way from i p conds)

pub hypothesis_made : (w : Way) (from : Origin) (k : ℕ) (p q : Vec ℕ Global) (before after : Vec Step Global)
    → w ≡ way.Hyp from k p → derivation_view (roll-Derivation record { steps = before }) ≡ origin_view from → q.items ≡ p.items → after.items ≡ before.items ++ program.Hyp k q ∷ []
    → derivation_view (roll-Derivation record { steps = after }) ≡ way_view w
hypothesis_made w from k p q before after is by same pushed =
    made_longer before after (program.Hyp k q) (origin_view from) by pushed
    ∙ ap (then_step (origin_view from)) (step_of_hypothesis k q ∙ ap (λ r. by_hypothesis k r) same)
    ∙ sym (ap way_view is ∙ hypothesis_way from k p)
