-- Evidence judged for a redex of a numbered end is judged for the redex of the end.
use Rattle.std.proofs.Common.{ℕ, suc, ◌≡◌, ◌⊎◌, inl, inr, ◌+◌, ◌-◌, ◌*◌, ◌<◌, true, List, [], ◌∷◌, map, length, Option, None, Some, option_map, cond, Bool, false, nat_cmp, refl}
use Rattle.std.proofs.Common.{sym, ap, ap₂, ◌∙◌, subst, arith, eqb-true, zero}
use Rattle.std.specs.Ordering.{eq_by_cmp}
use Rattle.std.specs.Cmp.{nat_cmp_total}
use Rattle.std.specs.FinMap.{get, empty, entries, find, from_entries, get-entries, get-from_entries}
use Rattle.std.proofs.lemmas.Bool.{or_right, or_left}
use Rattle.rewriting.specs.Prelude.{Solves, SolvesAll, IsLeastMatch, conditions_under, AreDistinct, index_in}
use Rattle.rewriting.proofs.Common.{Term, Terms, var, app, nil, cons, Position, argument, subterm, Substitution, Bindings, apply, apply_all, compose, occurs, occurs_in, Condition, Rule, System}
use Rattle.rewriting.proofs.Instances.{apply-apply, apply-agree, or_cases, apply-var}
use Rattle.rewriting.proofs.Positions.{within}
use Rattle.rewriting.proofs.Places.{subterm-apply}
use Rattle.certificates.specs.Prelude.{InfeasibilityEvidence, RuleMatches, EvidenceReason}
use Rattle.rewriting.proofs.LeastMatches.{least_needs}
use Rattle.matching.proofs.Least.{values_have, Inherits, nothing_bound}
use Rattle.renumbering.specs.Spread.{spread, spreading}
use Rattle.renumbering.specs.Rows.{naming}
use Rattle.renumbering.proofs.Rows.{index_at}
use Rattle.renumbering.proofs.Spreads.{spread_past, spread_one_to_one, odd_is_spread}
use Rattle.valid_certificates.specs.Peaks.{RedexPlace, MatchesAt, value_or_own, at_redex, AreConditionsAt, IsRedexJudged}
use Rattle.redex_conditions.specs.Judged.{value_or_new, match_or_new, IsJudgedAt}
use Rattle.redex_conditions.specs.Redexes.{AreRedexesOf}
use Rattle.redex_conditions.proofs.Renaming.{conditions_renamed, are_judged_to}

-- a finite map with the instance of each value
module _ (s : Substitution) where
  abbrev entry : ℕ × Term → ℕ × Term
  entry e = (e.0, apply s e.1)

  abbrev moved : Bindings → Bindings
  moved m = from_entries (map entry (entries m))

  picked : (b : Bool) (t : Term) (o p : Option Term) → o ≡ option_map (apply s) p → cond b (Some (apply s t)) o ≡ option_map (apply s) (cond b (Some t) p)
  picked true t o p e = refl
  picked false t o p e = e

  find-moved : (es : List (ℕ × Term)) (x : ℕ) → find nat_cmp x (map entry es) ≡ option_map (apply s) (find nat_cmp x es)
  find-moved [] x = refl
  find-moved (e ∷ es) x = picked (eq_by_cmp nat_cmp x e.0) e.1 _ _ (find-moved es x)

  get-moved : (m : Bindings) (x : ℕ) → get (moved m) x ≡ option_map (apply s) (get m x)
  get-moved m x = get-from_entries nat_cmp_total (map entry (entries m)) x ∙ find-moved (entries m) x ∙ ap (option_map (apply s)) (sym (get-entries m x))

  moved_value : (m : Bindings) (x : ℕ) (t : Term) → get m x ≡ Some t → get (moved m) x ≡ Some (apply s t)
  moved_value m x t e = get-moved m x ∙ ap (option_map (apply s)) e

  value_moved : (m : Bindings) (x : ℕ) (u : Term) → get (moved m) x ≡ Some u → (t : Term) × (get m x ≡ Some t) × (u ≡ apply s t)
  value_moved m x u e = go (get m x) refl
    where
      go : (o : Option Term) → get m x ≡ o → (t : Term) × (get m x ≡ Some t) × (u ≡ apply s t)
      go None q = (let none : get (moved m) x ≡ None = get-moved m x ∙ ap (option_map (apply s)) q in cc)
      go (Some t) q = (let there : get (moved m) x ≡ Some (apply s t) = moved_value m x t q in (t, q, (let same : u ≡ apply s t = cc in same)))

  mutual
    moved_solves : (m : Bindings) (p t : Term) → Solves m p t → Solves (moved m) p (apply s t)
    moved_solves m (var x) t h = moved_value m x t h
    moved_solves m (app f ps) (var y) h = absurd h
    moved_solves m (app f ps) (app g ts) (e, h) = (e, moved_solves_all m ps ts h)

    moved_solves_all : (m : Bindings) (ps ts : Terms) → SolvesAll m ps ts → SolvesAll (moved m) ps (apply_all s ts)
    moved_solves_all m nil nil h = tt
    moved_solves_all m nil (cons t ts) h = absurd h
    moved_solves_all m (cons p ps) nil h = absurd h
    moved_solves_all m (cons p ps) (cons t ts) (h, hs) = (moved_solves m p t h, moved_solves_all m ps ts hs)

-- two solutions have the same values at the variables of the pattern
module _ (c d : Bindings) (x : ℕ) where
  mutual
    solved_same : (p t : Term) → Solves c p t → Solves d p t → occurs x p ≡ true → get c x ≡ get d x
    solved_same (var y) t h k o = (let same : x ≡ y = eqb-true x y o in ap (get c) same ∙ h ∙ sym k ∙ ap (get d) (sym same))
    solved_same (app f ps) (var y) h k o = absurd h
    solved_same (app f ps) (app g ts) (_, h) (_, k) o = solved_all_same ps ts h k o

    solved_all_same : (ps ts : Terms) → SolvesAll c ps ts → SolvesAll d ps ts → occurs_in x ps ≡ true → get c x ≡ get d x
    solved_all_same nil nil h k o = cc
    solved_all_same nil (cons t ts) h k o = absurd h
    solved_all_same (cons p ps) nil h k o = absurd h
    solved_all_same (cons p ps) (cons t ts) (h, hs) (k, ks) o = or_cases (occurs x p) (occurs_in x ps) o (λ l. solved_same p t h k l) (λ r. solved_all_same ps ts hs ks r)

needed : (m : Bindings) (p t : Term) → IsLeastMatch empty m p t → (x : ℕ) (u : Term) → get m x ≡ Some u → occurs x p ≡ true
needed m p t least x u e = go (least_needs empty m p t least x u e)
  where
    go : (get (empty {R = nat_cmp}) x ≡ Some u) ⊎ (occurs x p ≡ true) → occurs x p ≡ true
    go (inl h) = absurd (nothing_bound x u h)
    go (inr o) = o

-- the least match onto an instance of the subject
moved_least : (s : Substitution) (m : Bindings) (p t : Term) → IsLeastMatch empty m p t → IsLeastMatch empty (moved s m) p (apply s t)
moved_least s m p t h =
    let solves = moved_solves s m p t h.solves in
    record {
      extends = λ x u e. absurd (nothing_bound x u e);
      solves = solves;
      least = λ d f k x u e. let v = value_moved s m x u e in sym (solved_same (moved s m) d x p (apply s t) solves k (needed m p t h x v.0 v.1)) ∙ e;
    }

moved_matches : (s : Substitution) (sys : System) (t : Term) (i : ℕ) (p : Position) (r : Rule) (m : Bindings) → RuleMatches sys t i p r m → RuleMatches sys (apply s t) i p r (moved s m)
moved_matches s sys t i p r m h =
    record { is_rule = h.is_rule; redex = apply s h.redex; stands = subterm-apply s t p h.redex h.stands; matches = moved_least s m r.left h.redex h.matches }

-- a match stays under a substitution
moved_match : (s : Substitution) (sys : System) (t : Term) (p : Position) (i : ℕ) → MatchesAt sys t p i → MatchesAt sys (apply s t) p i
moved_match s sys t p i m =
    record {
      rule = m.rule;
      part = apply s m.part;
      is_rule = m.is_rule;
      stands = subterm-apply s t p m.part m.stands;
      matches = (compose m.matches.0 s, sym (apply-apply m.matches.0 s m.rule.left) ∙ ap (apply s) m.matches.1);
    }

-- every variable of the term is below n
abbrev pub AreBelow : ℕ → Term → Type 0
AreBelow n t = (x : ℕ) → occurs x t ≡ true → x < n

argument_occurs : (ts : Terms) (k x : ℕ) (u : Term) → argument ts k ≡ Some u → occurs x u ≡ true → occurs_in x ts ≡ true
argument_occurs nil k x u e o = cc
argument_occurs (cons t ts) zero x u e o = cc
argument_occurs (cons t ts) (suc zero) x u e o = or_left (occurs x t) (occurs_in x ts) (let same : t ≡ u = cc in ap (occurs x) same ∙ o)
argument_occurs (cons t ts) (suc (suc k)) x u e o = or_right (occurs x t) (occurs_in x ts) (argument_occurs ts (suc k) x u e o)

below_inherits : (n : ℕ) → Inherits (AreBelow n)
below_inherits n f ts k u h e x o = h x (argument_occurs ts k x u e o)

part_below : (n : ℕ) (t : Term) (p : Position) (u : Term) → subterm t p ≡ Some u → AreBelow n t → AreBelow n u
part_below n t [] u e h = subst (AreBelow n) (let same : t ≡ u = cc in same) h
part_below n (var y) (k ∷ p) u e h = cc
part_below n (app f ts) (k ∷ p) u e h = let w = within (app f ts) k p u e in part_below n w.part p u w.inside (below_inherits n f ts k w.part h w.here)

module _ (row : List ℕ) (distinct : AreDistinct row) (t n : Term) (is : t ≡ apply (naming row) n) (below : AreBelow (length row) n) where
  -- the values at the redex are those at the numbered one, spread
  value_spread : (m : Bindings) (k : ℕ) (o : Option Term) → get m k ≡ o → ((u : Term) → get m k ≡ Some u → AreBelow (length row) u)
      → value_or_own k (option_map (apply (naming row)) o) ≡ apply (spreading row) (value_or_new (length row) k o)
  value_spread m k None e h = (let past = spread_past row (length row + k) (omega arith) in let double : 2 * (length row + k - length row) ≡ 2 * k = omega arith in ap var (sym (past ∙ double)))
  value_spread m k (Some u) e h = odd_is_spread row (apply (naming row) u) u refl (h u e)

  values_spread : (sys : System) (i : ℕ) (p : Position) (r : Rule) (m : Bindings) → RuleMatches sys n i p r m → (k : ℕ)
      → at_redex (moved (naming row) m) k ≡ apply (spreading row) (match_or_new (length row) m k)
  values_spread sys i p r m h k =
      ap (value_or_own k) (get-moved (naming row) m k)
      ∙ value_spread m k (get m k) refl
      (λ u e. values_have (AreBelow (length row)) (below_inherits (length row)) empty m r.left h.redex h.matches (part_below (length row) n p h.redex h.stands below)
      (λ x v q. absurd (nothing_bound x v q)) k u e)

  spread_conditions : (a b : Substitution) → ((k : ℕ) → a k ≡ apply (spreading row) (b k)) → (cs : List Condition) → conditions_under a cs ≡ conditions_under (spreading row) (conditions_under b cs)
  spread_conditions a b same [] = refl
  spread_conditions a b same (c ∷ cs) = ap₂ (λ (d : Condition) (ds : List Condition). d ∷ ds) (ap₂ (λ (l r : Term). record { left = l; right = r }) (side c.left) (side c.right))
      (spread_conditions a b same cs)
    where
      side : (u : Term) → apply a u ≡ apply (spreading row) (apply b u)
      side u = apply-agree a (compose b (spreading row)) u (λ x o. same x) ∙ sym (apply-apply b (spreading row) u)

  -- so the conditions at the redex are those at the numbered one, with other variables
  pub redex_conditions : (sys : System) (r : RedexPlace) (q : Rule) (m : Bindings) → RuleMatches sys n r.rule r.position q m
      → AreConditionsAt sys t r (conditions_renamed (spread row) (conditions_under (match_or_new (length row) m) q.conditions))
  redex_conditions sys r q m h =
      record {
        rule = q;
        match = moved (naming row) m;
        matches = subst (λ z. RuleMatches sys z r.rule r.position q (moved (naming row) m)) (sym is) (moved_matches (naming row) sys n r.rule r.position q m h);
        are = sym (spread_conditions (at_redex (moved (naming row) m)) (match_or_new (length row) m) (values_spread sys r.rule r.position q m h) q.conditions);
      }

  -- and evidence is judged alike
  pub redex_judged : (sys : System) (r : RedexPlace) (e : InfeasibilityEvidence) (o : Option EvidenceReason) → IsJudgedAt sys (length row) n r e o → IsRedexJudged sys t r e o
  redex_judged sys r e o h =
      let cs = conditions_under (match_or_new (length row) h.match) h.rule.conditions in
      (conditions_renamed (spread row) cs, redex_conditions sys r h.rule h.match h.matches, are_judged_to (spread row) (spread_one_to_one row distinct) sys cs e o h.judged)

  -- matches of the numbered term are those of the term
  match_back : (sys : System) (p : Position) (i : ℕ) → MatchesAt sys n p i → MatchesAt sys t p i
  match_back sys p i m = subst (λ z. MatchesAt sys z p i) (sym is) (moved_match (naming row) sys n p i m)

  -- and the other way round, since a renaming can be undone
  undone : apply (λ x. var (index_in row x)) t ≡ n
  undone =
      ap (apply (λ x. var (index_in row x))) is ∙ apply-apply (naming row) (λ x. var (index_in row x)) n
      ∙ apply-agree (compose (naming row) (λ x. var (index_in row x))) var n (λ x o. ap var (index_at row distinct x (below x o))) ∙ apply-var n

  match_there : (sys : System) (p : Position) (i : ℕ) → MatchesAt sys t p i → MatchesAt sys n p i
  match_there sys p i m = subst (λ z. MatchesAt sys z p i) undone (moved_match (λ x. var (index_in row x)) sys t p i m)

  pub same_redexes : (sys : System) (w : ℕ) (rs : List RedexPlace) → AreRedexesOf sys w n rs → AreRedexesOf sys w t rs
  same_redexes sys w rs h =
      record {
        each = λ r l. let e = h.each r l in (e.0, match_back sys r.position r.rule e.1);
        whole = λ p i m. h.whole p i (match_there sys p i m);
        sorted = h.sorted;
      }
