-- Each run has an outcome, and each question on a system's runs an answer: whether a term is absolutely irreducible, which
-- rule is the first that does not clash, and which overlaps there are.
use Rattle.std.proofs.Common.{ℕ, suc, ◌≡◌, ◌≢◌, ◌<◌, ◌≤◌, ◌⊎◌, inl, inr, true, List, [], ◌∷◌, ◌++◌, length, Option, Some, None, refl, sym, ap, ◌∙◌, subst, subst₂, arith, append_assoc}
use Rattle.std.proofs.lemmas.Bool.{or_right, or_left}
use native.Mathlib.Decide.{dec_le}
use Rattle.general_lemmas.proofs.Decisions.{dec_and}
use Rattle.rewriting.specs.Prelude.{Term, var, app, Terms, nil, cons, count, Fits, IsVariable, Position, subterm, apply, compose, occurs_in, variables_of, even, odd, Rule, System, rule_at}
use Rattle.rewriting.specs.Prelude.{sides, Each, IsPlace, IsEarlierOverlap, conditions_under, CriticalPair, IsCriticalPair, IsAmong}
use Rattle.rewriting.proofs.Variables.{variables_have_all}
use Rattle.rewriting.proofs.Positions.{replaceable}
use Rattle.rewriting.proofs.Places.{subterm-apply}
use Rattle.rewriting.proofs.Unifiers.{of_list}
use Rattle.rewriting.proofs.Search.{FirstRule, search_rules, FirstSubterm, AllSubterms, search_subterms}
use Rattle.rewriting.proofs.Equality.{fits_decided, all_fit}
use Rattle.unifier_run.specs.Run.{Binding, value, Outcome, unifier, clash, too_large, IsOutcome}
use Rattle.unifier_run.specs.Overlaps.{Triple, IsOutcomeOf, Overlap, triple, DoesPairFit, IsOverlapOf, IsTooLargeAt, AreOverlapsAt, AreOverlaps, IsPairTooLarge, AreTooManyOverlaps}
use Rattle.unifier_run.specs.Irreducible.{IsTrial, IsEarlierTrial, DoAllClash, IsFirstOutcome, IsFirstRule, DoRulesClash}
use Rattle.unifier_run.proofs.Values.{apply_all_nothing}
use Rattle.unifier_run.proofs.General.{settled_empty, most_general}
use Rattle.unifier_run.proofs.Unique.{runs_same}
use Rattle.unifier_run.proofs.Terminates.{by_variables}
use Rattle.unifier_run.proofs.Triples.{AreInOrder, AreThose, those_append, overlaps_at, overlaps_before}
use Rattle.unifier_run.proofs.Spots.{has_all, order_all}
use Rattle.unifier_run.specs.Triples.{all_triples, DoesClash}

-- every run between lists of one length has an outcome
pub outcome_exists : (ts us : Terms) → count ts ≡ count us → (o : Outcome) × IsOutcome ts us o
outcome_exists ts us c =
    let vs = variables_of (cons (app 0 ts) (cons (app 0 us) nil)) in
    by_variables (suc (length vs)) vs (omega arith) [] settled_empty ts us c
    (λ x o. variables_have_all x [] (cons (app 0 ts) (cons (app 0 us) nil)) (or_left _ _ (subst (λ k. occurs_in x k ≡ true) (apply_all_nothing ts) o)))
    (λ x o. variables_have_all x [] (cons (app 0 ts) (cons (app 0 us) nil)) (or_right _ _ (or_left _ _ (subst (λ k. occurs_in x k ≡ true) (apply_all_nothing us) o))))

-- so has the run between two terms
pub outcome_of : (l r : Term) → (o : Outcome) × IsOutcome (cons l nil) (cons r nil) o
outcome_of l r = outcome_exists (cons l nil) (cons r nil) refl

-- a run that does not clash
abbrev pub DoesNotClash : Term → Term → Type 0
DoesNotClash left part = (o : Outcome) × (o ≢ clash) × IsOutcomeOf left part o

pub clash_or_not : (left part : Term) → IsOutcomeOf left part clash ⊎ DoesNotClash left part
clash_or_not left part = go (outcome_of (apply even left) (apply odd part))
  where
    go : (o : Outcome) × IsOutcomeOf left part o → IsOutcomeOf left part clash ⊎ DoesNotClash left part
    go (clash, r) = inl r
    go (unifier b, r) = inr (unifier b, (λ e. cc), r)
    go (too_large, r) = inr (too_large, (λ e. cc), r)

-- the rules tried on a whole term
pub first_rule : (sys : System) (t : Term) → DoRulesClash sys t ⊎ ((o : Outcome) × (o ≢ clash) × IsFirstRule sys t o)
first_rule sys t = go (search_rules (λ i r. IsOutcomeOf r.left t clash) (λ i r. DoesNotClash r.left t) sys (λ i r e. clash_or_not r.left t))
  where
    go : ((i : ℕ) (r : Rule) → rule_at sys i ≡ Some r → IsOutcomeOf r.left t clash) ⊎ FirstRule (λ i r. IsOutcomeOf r.left t clash) (λ i r. DoesNotClash r.left t) sys
        → DoRulesClash sys t ⊎ ((o : Outcome) × (o ≢ clash) × IsFirstRule sys t o)
    go (inl all) = inl all
    go (inr f) =
        inr (f.has.0, f.has.1, record { number = f.number; rule = f.found; is_rule = f.is_rule; outcome = f.has.2; before = λ i r e less. f.before i r less e })

-- the rules tried on each subterm
abbrev Clashes : System → Position → Term → Type 0
Clashes sys p u = (IsVariable u → ⊥) → DoRulesClash sys u

abbrev Stops : System → Position → Term → Type 0
Stops sys p u = (IsVariable u → ⊥) × ((o : Outcome) × (o ≢ clash) × IsFirstRule sys u o)

tried : (sys : System) (p : Position) (u : Term) → Clashes sys p u ⊎ Stops sys p u
tried sys p (var x) = inl (λ n. absurd (n tt))
tried sys p (app f ts) = go (first_rule sys (app f ts))
  where
    go : DoRulesClash sys (app f ts) ⊎ ((o : Outcome) × (o ≢ clash) × IsFirstRule sys (app f ts) o) → Clashes sys p (app f ts) ⊎ Stops sys p (app f ts)
    go (inl all) = inl (λ n. all)
    go (inr h) = inr ((λ v. v), h)

same_part : (t : Term) (p q : Position) (u v : Term) → p ≡ q → subterm t p ≡ Some u → subterm t q ≡ Some v → u ≡ v
same_part t p q u v e h k = (let both : subterm t p ≡ subterm t q = ap (subterm t) e in cc)

-- each trial clashes, or there is a first that does not
pub first_trial : (sys : System) (t : Term) → DoAllClash sys t ⊎ ((o : Outcome) × (o ≢ clash) × IsFirstOutcome sys t o)
first_trial sys t = go (search_subterms (Clashes sys) (Stops sys) (tried sys) t)
  where
    before : (f : FirstSubterm (Clashes sys) (Stops sys) t) (first : IsFirstRule sys f.part f.has.1.0) (p : Position) (i : ℕ) (u : Term) (r : Rule) → IsTrial sys t p i u r
        → IsEarlierTrial (p, i) (f.position, first.number) → IsOutcomeOf r.left u clash
    before f first p i u r h (inl b) = f.before p u b h.is_part h.no_variable i r h.is_rule
    before f first p i u r h (inr (e, less)) = subst (λ z. IsOutcomeOf r.left z clash) (sym (same_part t p f.position u f.part e h.is_part f.is_part)) (first.before i r h.is_rule less)

    go : AllSubterms (Clashes sys) t ⊎ FirstSubterm (Clashes sys) (Stops sys) t → DoAllClash sys t ⊎ ((o : Outcome) × (o ≢ clash) × IsFirstOutcome sys t o)
    go (inl all) = inl (λ p i u r h. all p u h.is_part h.no_variable i r h.is_rule)
    go (inr f) =
        let first = f.has.1.2 in
        inr (
          f.has.1.0,
          f.has.1.1,
          record {
            position = f.position;
            number = first.number;
            part = f.part;
            rule = first.rule;
            trial = record { is_part = f.is_part; no_variable = f.has.0; is_rule = first.is_rule };
            outcome = first.outcome;
            before = before f first;
          },
        )

pub all_clash_decided : (sys : System) (t : Term) → DoAllClash sys t ⊎ (DoAllClash sys t → ⊥)
all_clash_decided sys t = go (first_trial sys t)
  where
    go : DoAllClash sys t ⊎ ((o : Outcome) × (o ≢ clash) × IsFirstOutcome sys t o) → DoAllClash sys t ⊎ (DoAllClash sys t → ⊥)
    go (inl all) = inl all
    go (inr (o, differs, f)) = inr (λ all. differs (runs_same f.outcome (all f.position f.number f.part f.rule f.trial)))

pair_fits : (pair : CriticalPair) → Dec (DoesPairFit pair)
pair_fits pair = go (dec_and (fits_decided pair.source) (fits_decided pair.left)) (dec_and (fits_decided pair.right) (all_fit (sides pair.conditions)))
  where
    go : Dec (Fits pair.source × Fits pair.left) → Dec (Fits pair.right × Each Fits (sides pair.conditions)) → Dec (DoesPairFit pair)
    go (yes a) (yes b) = yes (record { source = a.0; left = a.1; right = b.0; conditions = b.1 })
    go (yes a) (no h) = no (λ f. h (f.right, f.conditions))
    go (no h) d = no (λ f. h (f.source, f.left))

-- what there is at a triple
data AtTriple (sys : System) (i : ℕ) (p : Position) (j : ℕ) : Type 0 where
  clashes : DoesClash sys (i, (p, j)) → AtTriple sys i p j
  overlaps : (o : Overlap) → IsOverlapOf sys o → triple o ≡ (i, (p, j)) → AtTriple sys i p j
  is_large : IsTooLargeAt sys i p j → AtTriple sys i p j

module _ (sys : System) (i : ℕ) (p : Position) (j : ℕ) (inner outer : Rule) (part : Term) (place : IsPlace sys i p j inner outer part) where
  -- the critical pair that a unifier makes
  made : (by : List Binding) → IsOutcomeOf inner.left part (unifier by) → (pair : CriticalPair) × IsCriticalPair (value by) p inner outer part pair
  made by run =
      let m = value by in
      let here = subterm-apply m (apply odd outer.left) p (apply odd part) (subterm-apply odd outer.left p part place.is_part) in
      let r = replaceable (apply m (apply odd outer.left)) p (apply m (apply odd part)) (apply m (apply even inner.right)) here in (
        record {
          source = apply m (apply odd outer.left);
          left = r.0;
          right = apply m (apply odd outer.right);
          conditions = conditions_under (compose even m) inner.conditions ++ conditions_under (compose odd m) outer.conditions;
        },
        record {
          most_general = of_list m (apply even inner.left) (apply odd part) (most_general _ _ by run);
          source = refl;
          left = r.1;
          right = refl;
          conditions = refl;
        },
      )

  only_place : IsOutcomeOf inner.left part clash → DoesClash sys (i, (p, j))
  only_place run r q t k =
      subst₂ (λ x y. IsOutcomeOf x.left y clash) (same_rule (rule_at sys i) inner r place.is_inner k.is_inner)
      (same_part outer.left p p part t refl place.is_part (subst (λ z. subterm z.left p ≡ Some t) (same_rule (rule_at sys j) q outer k.is_outer place.is_outer) k.is_part)) run
    where
      same_rule : (o : Option Rule) (a b : Rule) → o ≡ Some a → o ≡ Some b → a ≡ b
      same_rule o a b e h = (let k : Some a ≡ Some b = sym e ∙ h in cc)

  with_pair : (by : List Binding) → IsOutcomeOf inner.left part (unifier by) → (pair : CriticalPair) → IsCriticalPair (value by) p inner outer part pair → Dec (DoesPairFit pair) → AtTriple sys i p j
  with_pair by run pair critical (yes fits) =
      overlaps (record { inner = i; position = p; outer = j; pair = pair; inner_conditions = length inner.conditions })
      (record { inner = inner; outer = outer; part = part; place = place; by = by; outcome = run; pair = critical; fits = fits; counted = refl }) refl
  with_pair by run pair critical (no h) = is_large (record { inner = inner; outer = outer; part = part; place = place; why = inr (by, pair, run, critical, h) })

  with_outcome : (o : Outcome) → IsOutcomeOf inner.left part o → AtTriple sys i p j
  with_outcome clash run = clashes (only_place run)
  with_outcome too_large run = is_large (record { inner = inner; outer = outer; part = part; place = place; why = inl run })
  with_outcome (unifier by) run = let q = made by run in with_pair by run q.0 q.1 (pair_fits q.0)

  at_place : AtTriple sys i p j
  at_place = let r = outcome_of (apply even inner.left) (apply odd part) in with_outcome r.0 r.1

abbrev root : Position
root = []

-- whether an inner rule counts at a position
does_count : (i : ℕ) (p : Position) (j : ℕ) → Dec ((p ≢ []) ⊎ (i < j))
does_count i (k ∷ p) j = yes (inl (λ e. cc))
does_count i [] j = go (dec_le (suc i) j)
  where
    not_there : (i < j → ⊥) → (p : Position) → p ≡ [] → (p ≢ []) ⊎ (i < j) → ⊥
    not_there h p e (inl n) = n e
    not_there h p e (inr l) = h l

    go : Dec (suc i ≤ j) → Dec ((root ≢ []) ⊎ (i < j))
    go (yes h) = yes (inr (omega (arith, h)))
    go (no h) = no (not_there (λ l. h (omega (arith, l))) root refl)

-- whether the triple is a place
at_triple : (sys : System) (i : ℕ) (p : Position) (j : ℕ) → AtTriple sys i p j
at_triple sys i p j = with_rules (rule_at sys i) refl (rule_at sys j) refl
  where
    is_variable : (t : Term) → Dec (IsVariable t)
    is_variable (var x) = yes tt
    is_variable (app f ts) = no (λ v. v)

    with_part : (inner outer : Rule) (o : Option Term) → rule_at sys i ≡ Some inner → rule_at sys j ≡ Some outer → subterm outer.left p ≡ o → Dec ((p ≢ []) ⊎ (i < j)) → AtTriple sys i p j
    with_part inner outer None ei ej ep d =
        clashes (λ r q t k. absurd (let e : q ≡ outer = (let h : Some q ≡ Some outer = sym k.is_outer ∙ ej in cc) in let h = subst (λ z. subterm z.left p ≡ Some t) e k.is_part in cc))
    with_part inner outer (Some part) ei ej ep (no n) = clashes (λ r q t k. absurd (n k.counts))
    with_part inner outer (Some part) ei ej ep (yes c) = go (is_variable part)
      where
        go : Dec (IsVariable part) → AtTriple sys i p j
        go (no n) = at_place sys i p j inner outer part (record { is_inner = ei; is_outer = ej; is_part = ep; no_variable = n; counts = c })
        go (yes v) =
            clashes (λ r q t k. absurd (k.no_variable
            (subst IsVariable (let e : q ≡ outer = (let h : Some q ≡ Some outer = sym k.is_outer ∙ ej in cc) in let h = subst (λ z. subterm z.left p ≡ Some t) e k.is_part in
            (let both : Some part ≡ Some t = sym ep ∙ h in cc)) v)))

    with_rules : (o : Option Rule) → rule_at sys i ≡ o → (q : Option Rule) → rule_at sys j ≡ q → AtTriple sys i p j
    with_rules None ei q ej = clashes (λ r q t k. absurd (let h = k.is_inner in cc))
    with_rules (Some inner) ei None ej = clashes (λ r q t k. absurd (let h = k.is_outer in cc))
    with_rules (Some inner) ei (Some outer) ej = with_part inner outer (subterm outer.left p) ei ej refl (does_count i p j)

-- the list of overlaps, or why there is none
abbrev pub Listing : System → Type 0
Listing sys = ((os : List Overlap) × AreOverlaps sys os) ⊎ (((i : ℕ) × (p : Position) × (j : ℕ) × IsPairTooLarge sys i p j) ⊎ AreTooManyOverlaps sys)

module _ (sys : System) where
  -- the triples before, with their overlaps, and the triples that are left
  record Reached (ts us : List Triple) (os : List Overlap) : Type 0 where
    pub all : ts ++ us ≡ all_triples sys
    pub those : AreThose sys ts os
    pub few : length os ≤ 20000

  ordered : (ts : List Triple) → ts ≡ all_triples sys → AreInOrder ts
  ordered ts e = subst AreInOrder (sym e) (order_all sys)

  whole : (ts : List Triple) → ts ≡ all_triples sys → (i : ℕ) (p : Position) (j : ℕ) (inner outer : Rule) (part : Term) → IsPlace sys i p j inner outer part → IsAmong (i, (p, j)) ts
  whole ts e i p j inner outer part place = subst (IsAmong (i, (p, j))) (sym e) (has_all sys i p j inner outer part place)

  at_end : (ts : List Triple) (os : List Overlap) → Reached ts [] os → Listing sys
  at_end ts os r =
      let e : ts ≡ all_triples sys = sym (append-nothing ts) ∙ r.all in
      inl (os, record { are = overlaps_at sys (λ t. Unit {0}) ts os (ordered ts e) (λ t m. tt) (λ i p j inner outer part place u. whole ts e i p j inner outer part place) r.those; few = r.few })
    where
      append-nothing : (ts : List Triple) → ts ++ [] ≡ ts
      append-nothing [] = refl
      append-nothing (t ∷ ts) = ap (λ z. t ∷ z) (append-nothing ts)

  large_here : (ts us : List Triple) (i : ℕ) (p : Position) (j : ℕ) (os : List Overlap) → Reached ts ((i, (p, j)) ∷ us) os → IsTooLargeAt sys i p j → Listing sys
  large_here ts us i p j os r h =
      inr (inl (i, p, j, record { is_large = h; before = os; are_before = overlaps_before sys ts us (i, (p, j)) os (ordered _ r.all) (whole _ r.all) r.those; few = r.few }))

  many_here : (ts us : List Triple) (t : Triple) (os : List Overlap) → Reached ts (t ∷ us) os → (o : Overlap) → IsOverlapOf sys o → triple o ≡ t → 20000 ≤ length os → Listing sys
  many_here ts us t os r o is at many =
      inr (inr (record {
        next = o;
        is_overlap = is;
        before = os;
        are_before = subst (λ z. AreOverlapsAt sys (λ u. IsEarlierOverlap u z) os) (sym at) (overlaps_before sys ts us t os (ordered _ r.all) (whole _ r.all) r.those);
        many = (let few = r.few in omega (arith, few, many));
      }))

  one_on : (ts us : List Triple) (t : Triple) (os qs : List Overlap) → Reached ts (t ∷ us) os → AreThose sys (t ∷ []) qs → length (os ++ qs) ≤ 20000 → Reached (ts ++ t ∷ []) us (os ++ qs)
  one_on ts us t os qs r those few = record { all = append_assoc ts (t ∷ []) us ∙ r.all; those = those_append sys ts (t ∷ []) os qs r.those those; few = few }

  appended : (os : List Overlap) (o : Overlap) → length (os ++ o ∷ []) ≡ suc (length os)
  appended [] o = refl
  appended (q ∷ os) o = ap suc (appended os o)

  no_more : (os : List Overlap) → length (os ++ []) ≡ length os
  no_more [] = refl
  no_more (q ∷ os) = ap suc (no_more os)

  walk : (ts us : List Triple) (os : List Overlap) → Reached ts us os → Listing sys
  walk ts [] os r = at_end ts os r
  walk ts ((i, (p, j)) ∷ us) os r = go (at_triple sys i p j) (λ qs. walk (ts ++ (i, (p, j)) ∷ []) us (os ++ qs))
    where
      more : (o : Overlap) → IsOverlapOf sys o → triple o ≡ (i, (p, j)) → Dec (suc (length os) ≤ 20000)
          → ((qs : List Overlap) → Reached (ts ++ (i, (p, j)) ∷ []) us (os ++ qs) → Listing sys) → Listing sys
      more o is at (yes few) on = on (o ∷ []) (one_on ts us (i, (p, j)) os (o ∷ []) r (inr (o, [], refl, is, at, refl)) (subst (λ z. z ≤ 20000) (sym (appended os o)) few))
      more o is at (no h) on = many_here ts us (i, (p, j)) os r o is at (not_few (length os) h)
        where
          not_few : (n : ℕ) → (suc n ≤ 20000 → ⊥) → 20000 ≤ n
          not_few n h = pick (dec_le 20000 n)
            where
              pick : Dec (20000 ≤ n) → 20000 ≤ n
              pick (yes k) = k
              pick (no k) = absurd (h (omega (arith, k)))

      go : AtTriple sys i p j → ((qs : List Overlap) → Reached (ts ++ (i, (p, j)) ∷ []) us (os ++ qs) → Listing sys) → Listing sys
      go (clashes h) on = on [] (one_on ts us (i, (p, j)) os [] r (inl (h, refl)) (subst (λ z. z ≤ 20000) (sym (no_more os)) r.few))
      go (is_large h) on = large_here ts us i p j os r h
      go (overlaps o is at) on = more o is at (dec_le (suc (length os)) 20000) on

  -- for each system, whatever its size, the list of overlaps is defined, or there is a first refusal
  pub overlaps_total : Listing sys
  overlaps_total = walk [] (all_triples sys) [] (record { all = refl; those = refl; few = omega arith })
