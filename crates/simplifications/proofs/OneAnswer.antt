-- Each list of steps leads to one system, or fails at one step for one reason.
use Rattle.std.proofs.Common.{◌≡◌, ℕ, zero, suc, ◌⊎◌, inl, inr, Bool, true, false, refl, sym, ap, ◌∙◌, subst, List, [], ◌∷◌, take, drop, slice_get, Option, Some, None}
use Rattle.std.proofs.lemmas.Bool.{both_ways}
use Rattle.rewriting.specs.Prelude.{Condition, Rule, System, rule_at, right_sides, sides, Each, terms_of_rule, Term, var, app, Fits, occurs, occurs_in}
use Rattle.rewriting.proofs.Equality.{all_fit}
use Rattle.rewriting.proofs.Once.{same_some, some_or_none}
use Rattle.certificates.specs.Prelude.{InfeasibilityEvidence, hypothesis_at, Simplification, dropped, inlined, EvidenceReason, SimplificationReason, missing_rule, missing_condition}
use Rattle.certificates.specs.Prelude.{not_inline, inlined_large, bad_evidence}
use Rattle.judged_evidence.specs.Evidence.{IsInfeasibilityJudged}
use Rattle.judged_evidence.proofs.Judged.{infeasibility_total, evidence_once}
use Rattle.simplifications.specs.Inlining.{Names, inlined_rule, numbered}
use Rattle.simplifications.specs.Simplifying.{with_in_place, Simplifies, IsRefused, no_rule_to_drop, evidence_fails, no_rule_to_change, no_condition, names_nothing, result_large}
use Rattle.simplifications.specs.Simplifying.{AllSimplify, FailsFrom}
use Rattle.simplifications.specs.Laws.{SimplificationsHaveOneAnswer}

same_name : (r : Rule) (k : ℕ) (c : Condition) (x y : ℕ) → Names r k c x → Names r k c y → x ≡ y
same_name r k c x y h g = let e = h.variable in let f = g.variable in let s : var x ≡ var y = sym e ∙ f in cc

evidence_apart : (sys : System) (q r : Rule) (e : InfeasibilityEvidence) (why : EvidenceReason) → q ≡ r → IsInfeasibilityJudged sys q.conditions e None
    → IsInfeasibilityJudged sys r.conditions e (Some why) → ⊥
evidence_apart sys q r e why same h g =
    let one : None ≡ Some why = evidence_once sys r.conditions e None (Some why) (subst (λ z. IsInfeasibilityJudged sys z.conditions e None) same h) g in cc

module _ (sys : System) where
  -- one condition of one rule, and its name
  same_condition : (q r : Rule) (k : ℕ) (c d : Condition) → q ≡ r → slice_get q.conditions k ≡ Some c → slice_get r.conditions k ≡ Some d → c ≡ d
  same_condition q r k c d e at there = same_some (slice_get r.conditions k) c d (subst (λ z. slice_get z.conditions k ≡ Some c) e at) there

  names_moved : (q r : Rule) (k : ℕ) (c d : Condition) (x : ℕ) → q ≡ r → c ≡ d → Names q k c x → Names r k d x
  names_moved q r k c d x e f h = subst (λ z. Names z k d x) e (subst (λ z. Names q k z x) f h)

  fits_moved : (q r : Rule) (k : ℕ) (c d : Condition) (x y : ℕ) → q ≡ r → c ≡ d → x ≡ y → Each Fits (terms_of_rule (inlined_rule q k c.left x)) → Each Fits (terms_of_rule (inlined_rule r k d.left y))
  fits_moved q r k c d x y e f g h =
      subst (λ z. Each Fits (terms_of_rule (inlined_rule z k d.left y))) e
      (subst (λ z. Each Fits (terms_of_rule (inlined_rule q k z.left y))) f (subst (λ z. Each Fits (terms_of_rule (inlined_rule q k c.left z))) g h))

  result_moved : (n : ℕ) (q r : Rule) (k : ℕ) (c d : Condition) (x y : ℕ) → q ≡ r → c ≡ d → x ≡ y
      → with_in_place sys n (numbered (inlined_rule q k c.left x) ∷ []) ≡ with_in_place sys n (numbered (inlined_rule r k d.left y) ∷ [])
  result_moved n q r k c d x y e f g =
      ap (λ z. with_in_place sys n (numbered (inlined_rule q k c.left z) ∷ [])) g
      ∙ ap (λ z. with_in_place sys n (numbered (inlined_rule q k z.left y) ∷ [])) f
      ∙ ap (λ z. with_in_place sys n (numbered (inlined_rule z k d.left y) ∷ [])) e

  pub step_once : (s : Simplification) (a b : System) → Simplifies sys s a → Simplifies sys s b → a ≡ b
  step_once (dropped zero e) a b h g = absurd h
  step_once (dropped (suc n) e) a b h g = h.result ∙ sym g.result
  step_once (inlined zero k) a b h g = absurd h
  step_once (inlined (suc n) zero) a b h g = absurd h
  step_once (inlined (suc n) (suc k)) a b h g =
      let r = same_some (slice_get sys.rules n) h.rule g.rule h.is_rule g.is_rule in
      let c = same_condition h.rule g.rule k h.condition g.condition r h.is_condition g.is_condition in
      let x = same_name g.rule k g.condition h.name g.name (names_moved h.rule g.rule k h.condition g.condition h.name r c h.names) g.names in
      h.result ∙ result_moved n h.rule g.rule k h.condition g.condition h.name g.name r c x ∙ sym g.result

  refused_once : (s : Simplification) (v w : SimplificationReason) → IsRefused sys s v → IsRefused sys s w → v ≡ w
  refused_once s v w (no_rule_to_drop i e n) (no_rule_to_drop j f m) = refl
  refused_once s v w (no_rule_to_drop i e n) (evidence_fails j f r why is h) = absurd (some_or_none (rule_at sys i) r is n)
  refused_once s v w (evidence_fails i e r why is h) (no_rule_to_drop j f n) = absurd (some_or_none (rule_at sys i) r is n)
  refused_once s v w (evidence_fails i e r why is h) (evidence_fails j f q who at g) =
      let same = same_some (rule_at sys i) r q is at in
      let one : Some why ≡ Some who = evidence_once sys q.conditions e (Some why) (Some who) (subst (λ z. IsInfeasibilityJudged sys z.conditions e (Some why)) same h) g in cc
  refused_once s v w (no_rule_to_change i k n) (no_rule_to_change j l m) = refl
  refused_once s v w (no_rule_to_change i k n) (no_condition j l r is m) = absurd (some_or_none (rule_at sys i) r is n)
  refused_once s v w (no_rule_to_change i k n) (names_nothing j l r c is at m) = absurd (some_or_none (rule_at sys i) r is n)
  refused_once s v w (no_rule_to_change i k n) (result_large j l r c x is at names m) = absurd (some_or_none (rule_at sys i) r is n)
  refused_once s v w (no_condition i k r is n) (no_rule_to_change j l m) = absurd (some_or_none (rule_at sys i) r is m)
  refused_once s v w (no_condition i k r is n) (no_condition j l q its m) = refl
  refused_once s v w (no_condition i k r is n) (names_nothing j l q c its at m) =
      absurd (some_or_none (slice_get r.conditions l) c (subst (λ z. slice_get z.conditions l ≡ Some c) (same_some (rule_at sys i) q r its is) at) n)
  refused_once s v w (no_condition i k r is n) (result_large j l q c x its at names m) =
      absurd (some_or_none (slice_get r.conditions l) c (subst (λ z. slice_get z.conditions l ≡ Some c) (same_some (rule_at sys i) q r its is) at) n)
  refused_once s v w (names_nothing i k r c is at n) (no_rule_to_change j l m) = absurd (some_or_none (rule_at sys i) r is m)
  refused_once s v w (names_nothing i k r c is at n) (no_condition j l q its m) =
      absurd (some_or_none (slice_get q.conditions k) c (subst (λ z. slice_get z.conditions k ≡ Some c) (same_some (rule_at sys i) r q is its) at) m)
  refused_once s v w (names_nothing i k r c is at n) (names_nothing j l q d its there m) = refl
  refused_once s v w (names_nothing i k r c is at n) (result_large j l q d x its there names m) =
      let e = same_some (rule_at sys i) q r its is in absurd (n x (names_moved q r k d c x e (same_condition q r k d c e there at) names))
  refused_once s v w (result_large i k r c x is at names n) (no_rule_to_change j l m) = absurd (some_or_none (rule_at sys i) r is m)
  refused_once s v w (result_large i k r c x is at names n) (no_condition j l q its m) =
      absurd (some_or_none (slice_get q.conditions k) c (subst (λ z. slice_get z.conditions k ≡ Some c) (same_some (rule_at sys i) r q is its) at) m)
  refused_once s v w (result_large i k r c x is at names n) (names_nothing j l q d its there m) =
      let e = same_some (rule_at sys i) r q is its in absurd (m x (names_moved r q k c d x e (same_condition r q k c d e at there) names))
  refused_once s v w (result_large i k r c x is at names n) (result_large j l q d y its there others m) = refl

  pub never_both_steps : (s : Simplification) (a : System) (why : SimplificationReason) → Simplifies sys s a → IsRefused sys s why → ⊥
  never_both_steps s a why h (no_rule_to_drop zero e n) = h
  never_both_steps s a why h (no_rule_to_drop (suc i) e n) = some_or_none (slice_get sys.rules i) h.rule h.is_rule n
  never_both_steps s a why h (evidence_fails zero e r reason is g) = h
  never_both_steps s a why h (evidence_fails (suc i) e r reason is g) = evidence_apart sys h.rule r e reason (same_some (slice_get sys.rules i) h.rule r h.is_rule is) h.never_met g
  never_both_steps s a why h (no_rule_to_change zero k n) = h
  never_both_steps s a why h (no_rule_to_change (suc i) zero n) = h
  never_both_steps s a why h (no_rule_to_change (suc i) (suc k) n) = some_or_none (slice_get sys.rules i) h.rule h.is_rule n
  never_both_steps s a why h (no_condition zero k r is n) = h
  never_both_steps s a why h (no_condition (suc i) zero r is n) = h
  never_both_steps s a why h (no_condition (suc i) (suc k) r is n) =
      some_or_none (slice_get r.conditions k) h.condition (subst (λ z. slice_get z.conditions k ≡ Some h.condition) (same_some (slice_get sys.rules i) h.rule r h.is_rule is) h.is_condition) n
  never_both_steps s a why h (names_nothing zero k r c is at n) = h
  never_both_steps s a why h (names_nothing (suc i) k r c is at n) =
      let e = same_some (slice_get sys.rules i) h.rule r h.is_rule is in
      n h.name (names_moved h.rule r k h.condition c h.name e (same_condition h.rule r k h.condition c e h.is_condition at) h.names)
  never_both_steps s a why h (result_large zero k r c x is at names n) = h
  never_both_steps s a why h (result_large (suc i) k r c x is at names n) =
      let e = same_some (slice_get sys.rules i) h.rule r h.is_rule is in
      let f = same_condition h.rule r k h.condition c e h.is_condition at in
      let g = same_name r k c h.name x (names_moved h.rule r k h.condition c h.name e f h.names) names in
      n (fits_moved h.rule r k h.condition c h.name x e f g h.fits)

-- whether a condition names a term
or_variable : (t : Term) → ((x : ℕ) × (t ≡ var x)) ⊎ ((x : ℕ) → t ≡ var x → ⊥)
or_variable (var x) = inl (x, refl)
or_variable (app f ts) = inr (λ x e. cc)

or_true : (b : Bool) → (b ≡ false) ⊎ (b ≡ true)
or_true true = inr refl
or_true false = inl refl

module _ (r : Rule) (k : ℕ) (c : Condition) where
  abbrev NamesOrNot : Type 0
  NamesOrNot = ((x : ℕ) × Names r k c x) ⊎ ((x : ℕ) → Names r k c x → ⊥)

  other_name : (x : ℕ) → c.right ≡ var x → (Names r k c x → ⊥) → NamesOrNot
  other_name x e none = inr (λ y h. none (subst (Names r k c) (let f = h.variable in let s : var y ≡ var x = sym f ∙ e in cc) h))

  fourth : (x : ℕ) → c.right ≡ var x → occurs x r.left ≡ false → occurs x c.left ≡ false → occurs_in x (sides (take k r.conditions)) ≡ false
      → (occurs_in x (right_sides (drop (suc k) r.conditions)) ≡ false) ⊎ (occurs_in x (right_sides (drop (suc k) r.conditions)) ≡ true) → NamesOrNot
  fourth x e a b d (inl f) = inl (x, record { variable = e; not_in_left = a; not_in_own = b; not_before = d; not_asked_behind = f })
  fourth x e a b d (inr f) = other_name x e (λ h. both_ways _ h.not_asked_behind f)

  third : (x : ℕ) → c.right ≡ var x → occurs x r.left ≡ false → occurs x c.left ≡ false
      → (occurs_in x (sides (take k r.conditions)) ≡ false) ⊎ (occurs_in x (sides (take k r.conditions)) ≡ true) → NamesOrNot
  third x e a b (inl f) = fourth x e a b f (or_true _)
  third x e a b (inr f) = other_name x e (λ h. both_ways _ h.not_before f)

  second : (x : ℕ) → c.right ≡ var x → occurs x r.left ≡ false → (occurs x c.left ≡ false) ⊎ (occurs x c.left ≡ true) → NamesOrNot
  second x e a (inl f) = third x e a f (or_true _)
  second x e a (inr f) = other_name x e (λ h. both_ways _ h.not_in_own f)

  first : (x : ℕ) → c.right ≡ var x → (occurs x r.left ≡ false) ⊎ (occurs x r.left ≡ true) → NamesOrNot
  first x e (inl f) = second x e f (or_true _)
  first x e (inr f) = other_name x e (λ h. both_ways _ h.not_in_left f)

  names_or_not : NamesOrNot
  names_or_not = go (or_variable c.right)
    where
      go : ((x : ℕ) × (c.right ≡ var x)) ⊎ ((x : ℕ) → c.right ≡ var x → ⊥) → NamesOrNot
      go (inl (x, e)) = first x e (or_true _)
      go (inr none) = inr (λ x h. none x h.variable)

module _ (sys : System) where
  abbrev Answer : Simplification → Type 0
  Answer s = ((a : System) × Simplifies sys s a) ⊎ ((why : SimplificationReason) × IsRefused sys s why)

  drop_total : (i : ℕ) (e : InfeasibilityEvidence) (o : Option Rule) → rule_at sys i ≡ o → Answer (dropped i e)
  drop_total i e None h = inr (missing_rule, no_rule_to_drop i e h)
  drop_total zero e (Some r) h = absurd (cc)
  drop_total (suc n) e (Some r) h = go (infeasibility_total sys r.conditions e)
    where
      go : (o : Option EvidenceReason) × IsInfeasibilityJudged sys r.conditions e o → Answer (dropped (suc n) e)
      go (None, j) = inl (with_in_place sys n [], record { rule = r; is_rule = h; never_met = j; result = refl })
      go (Some why, j) = inr (bad_evidence why, evidence_fails (suc n) e r why h j)

  large_or_not : (n k : ℕ) (r : Rule) (c : Condition) (x : ℕ) → slice_get sys.rules n ≡ Some r → slice_get r.conditions k ≡ Some c → Names r k c x
      → Dec (Each Fits (terms_of_rule (inlined_rule r k c.left x)))
      → Answer (inlined (suc n) (suc k))
  large_or_not n k r c x is at names (yes f) =
      inl (with_in_place sys n (numbered (inlined_rule r k c.left x) ∷ []), record { rule = r; is_rule = is; condition = c; is_condition = at; name = x; names = names; fits = f; result = refl })
  large_or_not n k r c x is at names (no f) = inr (inlined_large, result_large (suc n) k r c x is at names f)

  name_total : (n k : ℕ) (r : Rule) (c : Condition) → slice_get sys.rules n ≡ Some r → slice_get r.conditions k ≡ Some c → ((x : ℕ) × Names r k c x) ⊎ ((x : ℕ) → Names r k c x → ⊥)
      → Answer (inlined (suc n) (suc k))
  name_total n k r c is at (inl (x, names)) = large_or_not n k r c x is at names (all_fit (terms_of_rule (inlined_rule r k c.left x)))
  name_total n k r c is at (inr none) = inr (not_inline, names_nothing (suc n) k r c is at none)

  condition_total : (n k : ℕ) (r : Rule) → slice_get sys.rules n ≡ Some r → (o : Option Condition) → hypothesis_at r.conditions k ≡ o → Answer (inlined (suc n) k)
  condition_total n k r is None h = inr (missing_condition, no_condition (suc n) k r is h)
  condition_total n zero r is (Some c) h = absurd (cc)
  condition_total n (suc k) r is (Some c) h = name_total n k r c is h (names_or_not r k c)

  inline_total : (i k : ℕ) (o : Option Rule) → rule_at sys i ≡ o → Answer (inlined i k)
  inline_total i k None h = inr (missing_rule, no_rule_to_change i k h)
  inline_total zero k (Some r) h = absurd (cc)
  inline_total (suc n) k (Some r) h = condition_total n k r h (hypothesis_at r.conditions k) refl

  pub step_total : (s : Simplification) → Answer s
  step_total (dropped i e) = drop_total i e (rule_at sys i) refl
  step_total (inlined i k) = inline_total i k (rule_at sys i) refl

-- lists of steps
pub all_once : (sys : System) (ss : List Simplification) (a b : System) → AllSimplify sys ss a → AllSimplify sys ss b → a ≡ b
all_once sys [] a b h g = h ∙ sym g
all_once sys (s ∷ ss) a b (p, h, hs) (q, g, gs) = all_once q ss a b (subst (λ z. AllSimplify z ss a) (step_once sys s p q h g) hs) gs

fails_once : (n : ℕ) (sys : System) (ss : List Simplification) (i j : ℕ) (v w : SimplificationReason) → FailsFrom n sys ss i v → FailsFrom n sys ss j w → (i ≡ j) × (v ≡ w)
fails_once n sys [] i j v w h g = absurd h
fails_once n sys (s ∷ ss) i j v w (inl (h, e)) (inl (g, f)) = (e ∙ sym f, refused_once sys s v w h g)
fails_once n sys (s ∷ ss) i j v w (inl (h, e)) (inr (q, g, gs)) = absurd (never_both_steps sys s q v g h)
fails_once n sys (s ∷ ss) i j v w (inr (p, h, hs)) (inl (g, f)) = absurd (never_both_steps sys s p w h g)
fails_once n sys (s ∷ ss) i j v w (inr (p, h, hs)) (inr (q, g, gs)) = fails_once (suc n) q ss i j v w (subst (λ z. FailsFrom (suc n) z ss i v) (step_once sys s p q h g) hs) gs

never_both : (n : ℕ) (sys : System) (ss : List Simplification) (a : System) (i : ℕ) (why : SimplificationReason) → AllSimplify sys ss a → FailsFrom n sys ss i why → ⊥
never_both n sys [] a i why h g = g
never_both n sys (s ∷ ss) a i why (p, h, hs) (inl (g, e)) = never_both_steps sys s p why h g
never_both n sys (s ∷ ss) a i why (p, h, hs) (inr (q, g, gs)) = never_both (suc n) q ss a i why (subst (λ z. AllSimplify z ss a) (step_once sys s p q h g) hs) gs

all_total : (n : ℕ) (sys : System) (ss : List Simplification) → ((a : System) × AllSimplify sys ss a) ⊎ ((i : ℕ) × (why : SimplificationReason) × FailsFrom n sys ss i why)
all_total n sys [] = inl (sys, refl)
all_total n sys (s ∷ ss) = go (λ p. all_total (suc n) p ss) (step_total sys s)
  where
    on : (p : System) → Simplifies sys s p → ((a : System) × AllSimplify p ss a) ⊎ ((i : ℕ) × (why : SimplificationReason) × FailsFrom (suc n) p ss i why)
        → ((a : System) × AllSimplify sys (s ∷ ss) a) ⊎ ((i : ℕ) × (why : SimplificationReason) × FailsFrom n sys (s ∷ ss) i why)
    on p h (inl (a, hs)) = inl (a, (p, h, hs))
    on p h (inr (i, why, f)) = inr (i, why, inr (p, h, f))

    go : ((p : System) → ((a : System) × AllSimplify p ss a) ⊎ ((i : ℕ) × (why : SimplificationReason) × FailsFrom (suc n) p ss i why))
        → ((a : System) × Simplifies sys s a) ⊎ ((why : SimplificationReason) × IsRefused sys s why)
        → ((a : System) × AllSimplify sys (s ∷ ss) a) ⊎ ((i : ℕ) × (why : SimplificationReason) × FailsFrom n sys (s ∷ ss) i why)
    go rest (inl (p, h)) = on p h (rest p)
    go rest (inr (why, h)) = inr (n, why, inl (h, refl))

pub one_answer : SimplificationsHaveOneAnswer
one_answer sys ss =
    record { one_system = all_once sys ss; one_reason = λ i j v w. fails_once 1 sys ss i j v w; never_both = never_both 1 sys ss; some = all_total 1 sys ss }
