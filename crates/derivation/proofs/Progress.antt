-- Loops over the steps of a derivation and over conditions, item by item.
use Rattle.std.proofs.Common.{◌≡◌, ℕ, suc, ◌+◌, ◌<◌, List, ◌∷◌, map, drop, length, get_or, refl, sym, ap, subst, subst₂, inl, inr, arith}
use Rattle.general_lemmas.proofs.Places.{map-drop_read}
use Rattle.rewriting.specs.Terms as math
use Rattle.rewriting.specs.Prelude.{Bindings, Condition, System}
use Rattle.certificates.specs.Derivations as plain
use Rattle.certificates.specs.Prelude.{derivation_of, derivations_of, first_step, first_derivation, Derives, StepsTo, StepFails, AreMet, FailsFrom, FailFrom, StepReason, AreStepsShort, AreShort}
use Rattle.certificates.specs.Prelude.{DoConditionsFit}
use Rattle.term_core.specs.RuleView.{condition_view}
use Rattle.term_core.specs.declared.systems.Cond.{Cond}
use Rattle.cert_model.specs.DerivationView.{derivation_view, step_view}
use Rattle.cert_model.specs.declared.derivations.Step.{Step}
use Rattle.cert_model.specs.declared.derivations.Derivation.{Derivation}
use Rattle.derivation.specs.Judged.{Fulfils, Misses}

module _ (sys : System) (hyps : List Condition) where
  -- what the rest of the steps, numbered from n, say from t, the whole derivation says from the start
  pub record Running (n : ℕ) (t : math.Term) (rest : plain.Derivation) (start : math.Term) (whole : plain.Derivation) : Type 0 where
    pub ends : (u : math.Term) → Derives sys hyps t rest u → Derives sys hyps start whole u
    pub fails : (path : List ℕ) (reason : StepReason) → FailsFrom sys hyps n t rest path reason → FailsFrom sys hyps 1 start whole path reason

  pub run_begins : (t : math.Term) (d : plain.Derivation) → Running 1 t d t d
  run_begins t d = record { ends = λ u h. h; fails = λ path reason h. h }

  -- what the rest of the conditions, numbered from n, say from b, all conditions say from the start
  pub record Meeting (n : ℕ) (b : Bindings) (cs : List Condition) (ds : plain.Derivations) (start : Bindings) (all : List Condition) (whole : plain.Derivations) : Type 0 where
    pub met : (e : Bindings) → AreMet sys hyps b cs ds e → AreMet sys hyps start all whole e
    pub fails : (path : List ℕ) (reason : StepReason) → FailFrom sys hyps n b cs ds path reason → FailFrom sys hyps 1 start all whole path reason

module _ (xs : List Step) (i : ℕ) (x : Step) (low : i < length xs) (is : x ≡ get_or xs i x) where
  steps_open : derivation_of (map step_view (drop i xs)) ≡ first_step (step_view x) (derivation_of (map step_view (drop (i + 1) xs)))
  steps_open = ap derivation_of (map-drop_read step_view xs i x low is)

  pub short_rest : AreStepsShort (derivation_of (map step_view (drop i xs))) → AreStepsShort (derivation_of (map step_view (drop (i + 1) xs)))
  short_rest h = (subst AreStepsShort steps_open h).1

  module _ (sys : System) (hyps : List Condition) (t start : math.Term) (whole : plain.Derivation) (r : Running sys hyps (i + 1) t (derivation_of (map step_view (drop i xs))) start whole) where
    opened : Running sys hyps (i + 1) t (first_step (step_view x) (derivation_of (map step_view (drop (i + 1) xs)))) start whole
    opened = subst (λ d. Running sys hyps (i + 1) t d start whole) steps_open r

    pub next_running : (u : math.Term) → StepsTo sys hyps t (step_view x) u → Running sys hyps (i + 1 + 1) u (derivation_of (map step_view (drop (i + 1) xs))) start whole
    next_running u h =
        let next : suc (i + 1) ≡ i + 1 + 1 = omega arith in
        subst (λ n. Running sys hyps n u (derivation_of (map step_view (drop (i + 1) xs))) start whole) next
        (record { ends = λ w k. opened.ends w (u, h, k); fails = λ path reason k. opened.fails path reason (inr (u, h, k)) })

    pub failing_step : (n : ℕ) → n ≡ i → (path : List ℕ) (reason : StepReason) → StepFails sys hyps t (step_view x) path reason → FailsFrom sys hyps 1 start whole ((n + 1) ∷ path) reason
    failing_step n same path reason h =
        subst (λ m. FailsFrom sys hyps 1 start whole ((m + 1) ∷ path) reason) (sym same) (opened.fails ((i + 1) ∷ path) reason (inl (path, refl, h)))

module _ (cs : List Cond) (ds : List Derivation) (k : ℕ) (c : Cond) (d : Derivation) (low : k < length ds) (paired : length ds ≡ length cs) (c_is : c ≡ get_or cs k c) (d_is : d ≡ get_or ds k d) where
  conditions_open : map condition_view (drop k cs) ≡ condition_view c ∷ map condition_view (drop (k + 1) cs)
  conditions_open = map-drop_read condition_view cs k c (omega (arith, low, paired)) c_is

  derivations_open : derivations_of (map derivation_view (drop k ds)) ≡ first_derivation (derivation_view d) (derivations_of (map derivation_view (drop (k + 1) ds)))
  derivations_open = ap derivations_of (map-drop_read derivation_view ds k d low d_is)

  pub fits_rest : DoConditionsFit (map condition_view (drop k cs)) → DoConditionsFit (map condition_view (drop (k + 1) cs))
  fits_rest h = (subst DoConditionsFit conditions_open h).2

  pub short_derivations : AreShort (derivations_of (map derivation_view (drop k ds))) → AreShort (derivations_of (map derivation_view (drop (k + 1) ds)))
  short_derivations h = (subst AreShort derivations_open h).2

  module _ (sys : System) (hyps : List Condition) (b start : Bindings) (all : List Condition) (whole : plain.Derivations)
      (m : Meeting sys hyps (k + 1) b (map condition_view (drop k cs)) (derivations_of (map derivation_view (drop k ds))) start all whole) where
    opened_meeting :
        Meeting sys hyps (k + 1) b (condition_view c ∷ map condition_view (drop (k + 1) cs))
        (first_derivation (derivation_view d) (derivations_of (map derivation_view (drop (k + 1) ds)))) start all whole
    opened_meeting = subst₂ (λ x y. Meeting sys hyps (k + 1) b x y start all whole) conditions_open derivations_open m

    pub next_meeting : (after : Bindings) → Fulfils sys hyps (derivation_view d) b (condition_view c) after
        → Meeting sys hyps (k + 1 + 1) after (map condition_view (drop (k + 1) cs)) (derivations_of (map derivation_view (drop (k + 1) ds))) start all whole
    next_meeting after h =
        let next : suc (k + 1) ≡ k + 1 + 1 = omega arith in
        subst (λ n. Meeting sys hyps n after (map condition_view (drop (k + 1) cs)) (derivations_of (map derivation_view (drop (k + 1) ds))) start all whole) next
        (record { met = λ e q. opened_meeting.met e (after, h, q); fails = λ path reason q. opened_meeting.fails path reason (inr (after, h, q)) })

    pub failing_condition : (path : List ℕ) (reason : StepReason) → Misses sys hyps (derivation_view d) b (condition_view c) path reason
        → FailFrom sys hyps 1 start all whole ((k + 1) ∷ path) reason
    failing_condition path reason h = opened_meeting.fails ((k + 1) ∷ path) reason (inl (path, refl, h))
