-- What a run at a triple says of the system's overlaps.
use Rattle.std.proofs.Common.{ℕ, ◌≡◌, ◌+◌, ◌<◌, inl, inr, List, [], ◌∷◌, ◌++◌, length, Some, refl, sym, ap, ap₂, ◌∙◌, subst, subst₂, arith, ◌^◌, ◌*◌}
use Rattle.std.proofs.lemmas.List.{length-map}
use Rattle.rewriting.proofs.Once.{same_some}
use Rattle.rewriting.specs.Prelude.{Term, nil, cons, Fits, Position, subterm, replace, Substitution, apply, compose, Bindings}
use Rattle.rewriting.specs.Prelude.{values_of, even, odd, Condition, Rule, System, rule_at, sides, Each, terms_of_rule, IsSystem, CriticalPair, IsCriticalPair, conditions_under}
use Rattle.rewriting.proofs.Leaves.{GivesLeaves, fits_under, variables_are_leaves}
use Rattle.rewriting.proofs.Instances.{apply-apply, apply-agree}
use Rattle.rewriting.proofs.Positions.{replaceable}
use Rattle.rewriting.proofs.Places.{subterm-apply}
use Rattle.rewriting.proofs.Unifiers.{of_list}
use Rattle.rewriting.proofs.Conditions.{length-conditions_under}
use Rattle.rewriting.proofs.Systems.{numbered_rule}
use Rattle.unifier_run.specs.Run.{Binding, value, Outcome, unifier, clash, too_large, IsOutcome}
use Rattle.unifier_run.specs.Laws.{as_map}
use Rattle.unifier_run.specs.Overlaps.{Overlap, IsOutcomeOf, DoesPairFit, IsTooLargeAt}
use Rattle.unifier_run.proofs.General.{most_general}
use Rattle.unifier_run.proofs.Maps.{values_of-as_map}
use Rattle.unifier_run.specs.Triples.{DoesClash}
use Rattle.critical_pairs.specs.Building.{IsMade, IsNumbered}
use Rattle.prepared_system.specs.Renamed.{rule_under}
use Rattle.critical_pairs.specs.Spots.{IsSpotOf, IsUnifierAt, IsOverlapAt}
use Rattle.critical_pairs.specs.View.{overlap_view}
use Rattle.critical_pairs.specs.declared.Overlap as Made
use Rattle.term_core.specs.RuleView.{condition_view, rule_view}
use Rattle.term_core.specs.declared.systems.Rule as Program

-- a condition list under two substitutions in a row
under_under : (r m : Substitution) (cs : List Condition) → conditions_under m (conditions_under r cs) ≡ conditions_under (compose r m) cs
under_under r m [] = refl
under_under r m (c ∷ cs) = ap₂ (λ x y. x ∷ y) (ap₂ (λ x y. record { left = x; right = y }) (apply-apply r m c.left) (apply-apply r m c.right)) (under_under r m cs)

pub under_agree : (s t : Substitution) (cs : List Condition) → ((x : ℕ) → s x ≡ t x) → conditions_under s cs ≡ conditions_under t cs
under_agree s t [] h = refl
under_agree s t (c ∷ cs) h = ap₂ (λ x y. x ∷ y) (ap₂ (λ x y. record { left = x; right = y }) (apply-agree s t c.left (λ x o. h x)) (apply-agree s t c.right (λ x o. h x))) (under_agree s t cs h)

-- the same substitution makes the same pair
made_agree : (s t : Substitution) (p : Position) (inner outer : Rule) (pair : CriticalPair) → ((x : ℕ) → s x ≡ t x) → IsMade s p inner outer pair → IsMade t p inner outer pair
made_agree s t p inner outer pair h m =
    record {
      source = m.source ∙ apply-agree s t outer.left (λ x o. h x);
      left = subst₂ (λ x y. replace x p y ≡ Some pair.left) (apply-agree s t outer.left (λ x o. h x)) (apply-agree s t inner.right (λ x o. h x)) m.left;
      right = m.right ∙ apply-agree s t outer.right (λ x o. h x);
      conditions = m.conditions ∙ ap₂ (λ x y. x ++ y) (under_agree s t inner.conditions h) (under_agree s t outer.conditions h);
    }

same_overlap : {a b k n c d : ℕ} {p q : Position} (pair : CriticalPair) → a ≡ b → p ≡ q → k ≡ n → c ≡ d
    → ◌≡◌ {A = Overlap} (record { inner = a; position = p; outer = k; pair = pair; inner_conditions = c }) (record { inner = b; position = q; outer = n; pair = pair; inner_conditions = d })
same_overlap pair e f g h = cc

-- the outcome of a run of the renamed terms of a spot
module _ (sys : System) (i : ℕ) (p : Position) (j : ℕ) (spot : IsSpotOf sys i p j) (left part : Term) (low : left ≡ apply even spot.inner.left) (high : part ≡ apply odd spot.part) where
  outcome_there : (o : Outcome) → IsOutcome (cons left nil) (cons part nil) o → IsOutcomeOf spot.inner.left spot.part o
  outcome_there o h = subst₂ (λ x y. IsOutcome (cons x nil) (cons y nil) o) low high h

  pub clash_there : IsOutcome (cons left nil) (cons part nil) clash → DoesClash sys (i, (p, j))
  clash_there h r q t k =
      let same_inner = same_some (rule_at sys i) spot.inner r spot.place.is_inner k.is_inner in
      let same_outer = same_some (rule_at sys j) spot.outer q spot.place.is_outer k.is_outer in
      let same_part = same_some (subterm q.left p) spot.part t (subst (λ z. subterm z.left p ≡ Some spot.part) same_outer spot.place.is_part) k.is_part in
      subst₂ (λ x y. IsOutcomeOf x.left y clash) same_inner same_part (outcome_there clash h)

  pub too_large_there : IsOutcome (cons left nil) (cons part nil) too_large → IsTooLargeAt sys i p j
  too_large_there h = record { inner = spot.inner; outer = spot.outer; part = spot.part; place = spot.place; why = inl (outcome_there too_large h) }

  pub unifier_there : (b : List Binding) (m : Bindings) → IsOutcome (cons left nil) (cons part nil) (unifier b) → m ≡ as_map b → IsUnifierAt sys i p j m
  unifier_there b m h e = record { spot = spot; by = b; outcome = outcome_there (unifier b) h; is = e }

-- what the unifier of a run makes of the renamed rules
module _ (sys : System) (i : ℕ) (p : Position) (j : ℕ) (m : Bindings) (u : IsUnifierAt sys i p j m) (inner outer : Rule) (low : inner ≡ rule_under even u.spot.inner)
    (high : outer ≡ rule_under odd u.spot.outer) where
  abbrev R : Rule
  R = u.spot.inner

  abbrev Q : Rule
  Q = u.spot.outer

  abbrev T : Term
  T = u.spot.part

  values : (x : ℕ) → values_of m x ≡ value u.by x
  values x = ap (λ z. values_of z x) u.is ∙ values_of-as_map u.by x

  critical : (pair : CriticalPair) → IsMade (values_of m) p inner outer pair → IsCriticalPair (value u.by) p R Q T pair
  critical pair made0 =
      let made = subst₂ (λ x y. IsMade (value u.by) p x y pair) low high (made_agree (values_of m) (value u.by) p inner outer pair values made0) in
      record {
        most_general = of_list (value u.by) (apply even R.left) (apply odd T) (most_general _ _ u.by u.outcome);
        source = made.source;
        left = made.left;
        right = made.right;
        conditions = made.conditions ∙ ap₂ (λ x y. x ++ y) (under_under even (value u.by) R.conditions) (under_under odd (value u.by) Q.conditions);
      }

  -- an overlap whose pair was made, and fits
  made_there : (pair : CriticalPair) → IsMade (values_of m) p inner outer pair → DoesPairFit pair
      → IsOverlapAt sys i p j (record { inner = i; position = p; outer = j; pair = pair; inner_conditions = length inner.conditions })
  made_there pair made fit = (
    record {
      inner = R;
      outer = Q;
      part = T;
      place = u.spot.place;
      by = u.by;
      outcome = u.outcome;
      pair = critical pair made;
      fits = fit;
      counted = ap (λ z. length z.conditions) low ∙ length-conditions_under even R.conditions;
    },
    refl,
  )

  pub overlap_there : (o : Made.Overlap) → IsMade (values_of m) p inner outer (overlap_view o).pair → DoesPairFit (overlap_view o).pair
      → IsNumbered i p j (length inner.conditions) o → IsOverlapAt sys i p j (overlap_view o)
  overlap_there o made fit n =
      subst (IsOverlapAt sys i p j) (sym (same_overlap (overlap_view o).pair n.inner n.position n.outer n.counted)) (made_there (overlap_view o).pair made fit)

  -- the pair that m makes
  made_pair : (pair : CriticalPair) × IsMade (values_of m) p inner outer pair
  made_pair =
      let here : subterm outer.left p ≡ Some (apply odd T) = subst (λ z. subterm z.left p ≡ Some (apply odd T)) (sym high) (subterm-apply odd Q.left p T u.spot.place.is_part) in
      let r = replaceable (apply (values_of m) outer.left) p _ (apply (values_of m) inner.right) (subterm-apply (values_of m) outer.left p _ here) in (
        record {
          source = apply (values_of m) outer.left;
          left = r.0;
          right = apply (values_of m) outer.right;
          conditions = conditions_under (values_of m) inner.conditions ++ conditions_under (values_of m) outer.conditions;
        },
        record { source = refl; left = r.1; right = refl; conditions = refl },
      )

  pub pair_too_large : ((pair : CriticalPair) → IsMade (values_of m) p inner outer pair → DoesPairFit pair → ⊥) → IsTooLargeAt sys i p j
  pair_too_large n =
      let q = made_pair in
      record { inner = R; outer = Q; part = T; place = u.spot.place; why = inr (u.by, q.0, u.outcome, critical q.0 q.1, n q.0 q.1) }

  -- that the pair fits is that there is an overlap
  pub measured_there : ((pair : CriticalPair) → IsMade (values_of m) p inner outer pair → DoesPairFit pair) → (o : Overlap) × IsOverlapAt sys i p j o
  measured_there f = let q = made_pair in (_, made_there q.0 q.1 (f q.0 q.1))

-- what is renamed fits
sides_fit : (s : Substitution) → GivesLeaves s → (cs : List Condition) → Each Fits (sides cs) → Each Fits (sides (conditions_under s cs))
sides_fit s h [] f = tt
sides_fit s h (c ∷ cs) f = (fits_under s h c.left f.0, (fits_under s h c.right f.1.0, sides_fit s h cs f.1.1))

rule_fits : (s : Substitution) → GivesLeaves s → (r : Rule) → Each Fits (terms_of_rule r) → Each Fits (terms_of_rule (rule_under s r))
rule_fits s h r f = (fits_under s h r.left f.0, (fits_under s h r.right f.1.0, sides_fit s h r.conditions f.1.1))

module _ (sys : System) (h : IsSystem sys) (i : ℕ) (p : Position) (j : ℕ) (spot : IsSpotOf sys i p j) (inner outer : Program.Rule)
    (low : rule_view inner ≡ rule_under even spot.inner) (high : rule_view outer ≡ rule_under odd spot.outer) where
  pub inner_fits : Each Fits (terms_of_rule (rule_view inner))
  inner_fits = subst (λ z. Each Fits (terms_of_rule z)) (sym low) (rule_fits even (variables_are_leaves (λ x. 2 * x)) spot.inner (numbered_rule sys i spot.inner h spot.place.is_inner).fits)

  pub outer_fits : Each Fits (terms_of_rule (rule_view outer))
  outer_fits = subst (λ z. Each Fits (terms_of_rule z)) (sym high) (rule_fits odd (variables_are_leaves (λ x. 2 * x + 1)) spot.outer (numbered_rule sys j spot.outer h spot.place.is_outer).fits)

  pub few_conditions : length inner.conds.items < 2 ^ 32
  few_conditions =
      let few = (numbered_rule sys i spot.inner h spot.place.is_inner).few_conditions in
      let same : length inner.conds.items ≡ length spot.inner.conditions = sym (length-map inner.conds.items condition_view)
      ∙ (ap (λ z. length z.conditions) low ∙ length-conditions_under even spot.inner.conditions) in
      omega (arith, few, same)
