-- Where the conditions of each redex are infeasible, a term has no step.
use Rattle.std.proofs.Common.{◌≡◌, ◌≢◌, ◌⊎◌, inl, inr, ℕ, zero, suc, true, List, [], ◌∷◌, Option, Some, None, unwrap_or, nat_cmp, refl, sym, ap, ◌∙◌, subst, subst₂}
use Rattle.std.specs.FinMap.{get, empty, get-empty}
use Rattle.rewriting.specs.Prelude.{AreApart, IsInfeasible, IsIrreducible, conditions_under}
use Rattle.rewriting.proofs.Common.{Relation, Star, done, more, Term, var, Position, subterm, Substitution, Bindings, apply, values_of, occurs, Condition, Rule, System, Meets}
use Rattle.rewriting.proofs.Common.{Contraction, Step, Steps, Rewrites}
use Rattle.rewriting.proofs.Instances.{apply-apply, apply-agree, apply-agree_back, apply-var}
use Rattle.rewriting.proofs.Levels.{level, Meets-mono, levels_of_steps}
use Rattle.rewriting.proofs.Conditions.{no_feasible}
use Rattle.rewriting.proofs.Matching.{solved_instance}
use Rattle.rewriting.proofs.Unifiers.{both, apply-even, apply-odd, both_over}
use Rattle.rewriting.proofs.LeastMatches.{least_needs}
use Rattle.certificates.specs.Judging.{RuleMatches}
use Rattle.valid_certificates.specs.Peaks.{MatchesAt, RedexPlace, value_or_own, at_redex, AreConditionsAt}

-- what meets conditions, met through r and d
meets_through : (S : Relation Term) (r s d : Substitution) → ((u : Term) → apply s u ≡ apply d (apply r u)) → (cs : List Condition) → Meets S s cs → Meets S d (conditions_under r cs)
meets_through S r s d same [] h = tt
meets_through S r s d same (c ∷ cs) (h, hs) = (subst₂ S (same c.left) (same c.right) h, meets_through S r s d same cs hs)

-- the values of a step at the even variables, and the term's variables themselves at the odd ones, turn the values at a redex into those of the step
value_there : (by : Substitution) (k : ℕ) (o : Option Term) → ((t : Term) → o ≡ Some t → t ≡ by k) → apply (both by var) (value_or_own k o) ≡ by k
value_there by k (Some t) h = apply-odd by var t ∙ apply-var t ∙ h t refl
value_there by k None h = apply-even by var (var k)

module _ (p : Term) (m : Bindings) (by : Substitution) (same : apply (values_of m) p ≡ apply by p) (within : (x : ℕ) (t : Term) → get m x ≡ Some t → occurs x p ≡ true) where
  value_is : (k : ℕ) (t : Term) → get m k ≡ Some t → t ≡ by k
  value_is k t e = sym (ap (λ o. unwrap_or o (var k)) e) ∙ apply-agree_back (values_of m) by p same k (within k t e)

  through : (u : Term) → apply by u ≡ apply (both by var) (apply (at_redex m) u)
  through u =
      sym (apply-apply (at_redex m) (both by var) u
      ∙ apply-agree (λ k. apply (both by var) (at_redex m k)) by u (λ k o. value_there by k (get m k) (value_is k)))

-- the variables of a left side's match are those of the left side
match_within : (sys : System) (t : Term) (i : ℕ) (q : Position) (rule : Rule) (m : Bindings) → RuleMatches sys t i q rule m → (x : ℕ) (v : Term) → get m x ≡ Some v → occurs x rule.left ≡ true
match_within sys t i q rule m at x v e = go (least_needs empty m rule.left at.redex at.matches x v e)
  where
    go : (get (empty {R = nat_cmp}) x ≡ Some v) ⊎ (occurs x rule.left ≡ true) → occurs x rule.left ≡ true
    go (inl h) = (let none = get-empty {X = Term} nat_cmp x in cc)
    go (inr o) = o

-- the step's substitution agrees with the match on the left side
same_left : (sys : System) (t : Term) (i : ℕ) (p : Position) (q rule : Rule) (m : Bindings) (by : Substitution) → RuleMatches sys t i p q m → q ≡ rule
    → subterm t p ≡ Some (apply by rule.left) → apply (values_of m) q.left ≡ apply by q.left
same_left sys t i p q rule m by at same stands =
    let here : at.redex ≡ apply by rule.left = (let e = at.stands in cc) in
    solved_instance m q.left at.redex at.matches.solves ∙ here ∙ sym (ap (λ r. apply by r.left) same)

-- a place where a step is made has conditions that are feasible
pub no_step_there : (sys : System) (t v : Term) (n : ℕ) (s : Contraction (Steps sys n) sys t v) (r : RedexPlace) → r.position ≡ s.position → r.rule ≡ s.number
    → (cs : List Condition) → AreConditionsAt sys t r cs
    → IsInfeasible sys cs → ⊥
no_step_there sys t v n s r here number cs at never =
    let rule = at.rule in
    let m = at.match in
    let by = values_of s.by in
    let there : RuleMatches sys t s.number s.position rule m = subst₂ (λ i p. RuleMatches sys t i p rule m) number here at.matches in
    let one : rule ≡ s.rule = (let a = there.is_rule in let b = s.is_rule in cc) in
    let same = same_left sys t s.number s.position rule s.rule m by there one s.redex in
    let met : Meets (Steps sys n) by rule.conditions = subst (λ q. Meets (Steps sys n) by q.conditions) (sym one) s.meets in
    let judged =
    meets_through (Star (level sys n)) (at_redex m) by (both by var) (through rule.left m by same (match_within sys t s.number s.position rule m there)) rule.conditions
    (Meets-mono (levels_of_steps sys n) by rule.conditions met) in
    no_feasible sys cs n (both by var) (both_over sys.arities by var s.values (λ x. tt)) (subst (Meets (Star (level sys n)) (both by var)) (sym at.are) judged) never

-- the conditions of the rule that matches at a position are infeasible
pub record IsNeverMet (sys : System) (t : Term) (p : Position) (i : ℕ) : Type 0 where
  pub place : RedexPlace
  pub stands : place.position ≡ p
  pub number : place.rule ≡ i
  pub conditions : List Condition
  pub are : AreConditionsAt sys t place conditions
  pub never : IsInfeasible sys conditions

-- so it is everywhere in the term
abbrev pub HasNoRedex : System → Term → Type 0
HasNoRedex sys t = (p : Position) (i : ℕ) → MatchesAt sys t p i → IsNeverMet sys t p i

no_step : (sys : System) (t v : Term) (n : ℕ) → HasNoRedex sys t → Step sys n t v → ⊥
no_step sys t v zero h s = s
no_step sys t v (suc n) h s =
    let r = h s.position s.number (record { rule = s.rule; part = _; is_rule = s.is_rule; stands = s.redex; matches = (values_of s.by, refl) }) in
    no_step_there sys t v n s r.place r.stands r.number r.conditions r.are r.never

irreducible : (sys : System) (t : Term) → HasNoRedex sys t → IsIrreducible sys t
irreducible sys t h v (n, s) = no_step sys t v n h s

stays : {sys : System} {t w : Term} → IsIrreducible sys t → Star (Rewrites sys) t w → t ≡ w
stays h done = refl
stays h (more s p) = absurd (h _ s)

-- two different terms whose redexes all have infeasible conditions have no common reduct
pub normal_apart : (sys : System) (u v : Term) → u ≢ v → HasNoRedex sys u → HasNoRedex sys v → AreApart sys u v
normal_apart sys u v differ hu hv w p q = differ (stays (irreducible sys u hu) p ∙ sym (stays (irreducible sys v hv) q))
