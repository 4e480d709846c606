-- The rules tried on a term: those of its root symbol in order; all others clash at once.
use Rattle.std.proofs.Common.{ℕ, zero, suc, ◌≡◌, ◌+◌, ◌*◌, ◌^◌, ◌<◌, ◌≤◌, ◌⊎◌, inl, inr, Bool, true, false, List, [], ◌∷◌, length, drop, Some, refl}
use Rattle.std.proofs.Common.{sym, ap, ap₂, ◌∙◌, subst, subst₂, arith, slice_get, eq-eqb, eqb-true, length-drop}
use Rattle.std.proofs.lemmas.Bool.{false≢true, or_left}
use Rattle.std.proofs.lemmas.Option.{slice_get_within}
use Rattle.general_lemmas.proofs.Numbers.{le_or_next}
use Rattle.rewriting.specs.Prelude.{Term, var, app, nil, cons, IsVariable, Fits, apply, apply_all, even, odd, occurs, Signature, Rule, System, rule_at, terms_of_rule, rule_variables}
use Rattle.rewriting.specs.Prelude.{IsRule, IsSystem}
use Rattle.rewriting.proofs.Variables.{variables_have_all}
use Rattle.rewriting.proofs.Instances.{apply-agree}
use Rattle.rewriting.proofs.Lists.{counted_below}
use Rattle.rewriting.proofs.Systems.{is_rule_at}
use Rattle.unifier_run.specs.Run.{Outcome, clash, Takes, roots_differ, ends, last_equation, IsOutcome}
use Rattle.unifier_run.specs.Overlaps.{IsOutcomeOf}
use Rattle.unifier_run.specs.Irreducible.{DoRulesClash}
use Rattle.unifier_run.proofs.Renamed.{renamed_outcome, stays, names, runs_with_names}
use Rattle.unifier_run.proofs.Values.{apply_nothing}
use Rattle.rule_index.specs.Roots.{has_root, numbers_with_root, rules_with_root}
use Rattle.caps.specs.Caps.{Cap, Caps, hole, kept, node, no_caps, caps, holes, holes_in, filled, all_filled, constants, frozen_from, frozen}
use Rattle.tcap_infeasible.specs.Frozen.{IsHeld}
use Rattle.renumbering.proofs.Parted.{parted, parted_below, parted_past, parted_one}
use Rattle.tcap_infeasible.proofs.Rebased.{HasLike, alike_renamed, clash_like, lowered}

-- numbers below n become even, those from n on odd
abbrev pub split : ℕ → ℕ → ℕ
split n = parted n (λ k. 2 * k) (λ m. 2 * m + 1)

pub split_below : (n k : ℕ) → k < n → split n k ≡ 2 * k
split_below n = parted_below n (λ k. 2 * k) (λ m. 2 * m + 1)

pub split_from : (n k : ℕ) → split n (n + k) ≡ 2 * k + 1
split_from n = parted_past n (λ k. 2 * k) (λ m. 2 * m + 1)

pub split_one : (n x y : ℕ) → split n x ≡ split n y → x ≡ y
split_one n = parted_one n (λ k. 2 * k) (λ m. 2 * m + 1) (λ x y a b e. omega (arith, e)) (λ x y e. omega (arith, e)) (λ x y a e. omega (arith, e))

pub left_small : (arities : Signature) (r : Rule) → IsRule arities r → (k : ℕ) → occurs k r.left ≡ true → k < 2 ^ 31
left_small arities r h k o =
    let below = counted_below 0 (rule_variables r) k h.numbered (variables_have_all k [] (terms_of_rule r) (or_left _ _ o)) in
    let few = h.few_variables in
    omega (arith, below, few)

left_split : (arities : Signature) (r : Rule) (n : ℕ) → IsRule arities r → 2 ^ 31 ≤ n → apply (names (split n)) r.left ≡ apply even r.left
left_split arities r n h low = apply-agree (names (split n)) even r.left (λ k o. ap var (split_below n k (let s = left_small arities r h k o in omega (arith, s, low))))

-- a cap whose holes are numbered from a number on, which become what they are to be
module _ (base : ℕ) (rho g : ℕ → ℕ) (start limit : ℕ) (same : (j : ℕ) → j < limit → rho (start + j) ≡ g j) where
  mutual
    pub filled_to : (j : ℕ) (c : Cap) → j + holes c ≤ limit → apply (names rho) (filled (constants base) (start + j) c) ≡ apply (λ k. var (g k)) (filled (constants base) j c)
    filled_to j hole h = ap var (same j (omega (arith, h)))
    filled_to j (kept x) h = refl
    filled_to j (node f cs) h = ap (app f) (all_filled_to j cs h)

    all_filled_to : (j : ℕ) (cs : Caps) → j + holes_in cs ≤ limit → apply_all (names rho) (all_filled (constants base) (start + j) cs) ≡ apply_all (λ k. var (g k)) (all_filled (constants base) j cs)
    all_filled_to j no_caps h = refl
    all_filled_to j (caps c cs) h =
        (let more : start + j + holes c ≡ start + (j + holes c) = omega arith in
        ap₂ cons (filled_to j c (omega (arith, h))) (ap (λ z. apply_all (names rho) (all_filled (constants base) z cs)) more ∙ all_filled_to (j + holes c) cs (omega (arith, h))))

-- the cap from its first hole on
pub filled_from : (base start : ℕ) (rho g : ℕ → ℕ) (c : Cap) → ((j : ℕ) → j < holes c → rho (start + j) ≡ g j)
    → apply (names rho) (filled (constants base) start c) ≡ apply (λ k. var (g k)) (frozen_from base c)
filled_from base start rho g c same =
    let none : start ≡ start + 0 = omega arith in
    ap (λ z. apply (names rho) (filled (constants base) z c)) none ∙ filled_to base rho g start (holes c) same 0 c (omega arith)

-- the outcome of a run on a held cap is of the kind of that on the frozen cap
pub outcome_of : (sys : System) (r : Rule) (f : ℕ) (t : Term) (n : ℕ) (c : Cap) (o : Outcome) → IsRule sys.arities r → IsHeld sys f t n c
    → IsOutcome (cons r.left nil) (cons t nil) o → HasLike r.left (frozen sys c) o
outcome_of sys r f t n c o is held run =
    let shown : apply (names (split n)) t ≡ apply odd (frozen_from held.base c) =
    ap (apply (names (split n))) held.shown ∙ filled_from held.base n (split n) (λ k. 2 * k + 1) c (λ j less. split_from n j) in
    let on_base : IsOutcomeOf r.left (frozen_from held.base c) (renamed_outcome (split n) stays o) =
    subst₂ (λ x y. IsOutcome (cons x nil) (cons y nil) (renamed_outcome (split n) stays o)) (left_split sys.arities r n is held.low) shown (runs_with_names (split n) (split_one n) run) in
    lowered sys r.left is.is_over.over.0 c held.base held.far o (renamed_outcome (split n) stays o, alike_renamed (split n) stays o, on_base)

other_run : (f : ℕ) (l t : Term) → (IsVariable l → ⊥) → has_root f l ≡ false → has_root f t ≡ true → Fits l → Fits t → IsOutcome (cons l nil) (cons t nil) clash
other_run f (var x) t v a b p q = absurd (v tt)
other_run f (app g ts) (var x) v a b p q = absurd (false≢true b)
other_run f (app g ts) (app h us) v a b p q =
    last_equation (subst₂ (λ x y. Takes [] x y (ends clash)) (sym (apply_nothing (app g ts))) (sym (apply_nothing (app h us)))
    (roots_differ (p, q) (inl (λ e. false≢true (sym a ∙ eq-eqb f g (eqb-true f h b ∙ sym e))))))

other_clash : (sys : System) (r : Rule) (f : ℕ) (t : Term) (n : ℕ) (c : Cap) → IsRule sys.arities r → IsHeld sys f t n c → has_root f r.left ≡ false → IsOutcomeOf r.left (frozen sys c) clash
other_clash sys r f t n c is held root = clash_like r.left (frozen sys c) (outcome_of sys r f t n c clash is held (other_run f r.left t is.is_over.left root held.root is.fits.0 held.fits))

-- the first n rules clash
abbrev pub AreBefore : System → Term → ℕ → Type 0
AreBefore sys t n = (i : ℕ) (r : Rule) → rule_at sys i ≡ Some r → i ≤ n → IsOutcomeOf r.left t clash

no_rule : (sys : System) (r : Rule) → rule_at sys 0 ≡ Some r → ⊥
no_rule sys r e = cc

none_before : (sys : System) (t : Term) → AreBefore sys t 0
none_before sys t zero r e l = absurd (no_rule sys r e)
none_before sys t (suc i) r e l = absurd (omega (arith, l))

pub one_more : (sys : System) (t : Term) (n : ℕ) (q : Rule) → slice_get sys.rules n ≡ Some q → IsOutcomeOf q.left t clash → AreBefore sys t n → AreBefore sys t (suc n)
one_more sys t n q at run before i r e l = go (le_or_next i n l)
  where
    same_rule : Some q ≡ Some r → q ≡ r
    same_rule h = cc

    go : (i ≤ n) ⊎ (i ≡ suc n) → IsOutcomeOf r.left t clash
    go (inl a) = before i r e a
    go (inr k) = subst (λ z. IsOutcomeOf z.left t clash) (same_rule (sym at ∙ subst (λ z. rule_at sys z ≡ Some r) k e)) run

all_before : (sys : System) (t : Term) (n : ℕ) → length sys.rules ≤ n → AreBefore sys t n → DoRulesClash sys t
all_before sys t n h before zero r e = absurd (no_rule sys r e)
all_before sys t n h before (suc i) r e = before (suc i) r e (let k = slice_get_within sys.rules i r e in omega (arith, h, k))

-- how far the rules with root f have come: before the numbers from place k on, the first n rules clash
pub record Tried (sys : System) (f : ℕ) (t : Term) (numbers : List ℕ) (k : ℕ) : Type 0 where
  pub passed : ℕ
  pub rest : drop k numbers ≡ numbers_with_root f (suc passed) (drop passed sys.rules)
  pub clash : (n : ℕ) (c : Cap) → IsHeld sys f t n c → AreBefore sys (frozen sys c) passed

-- the next rule with root f
pub record Next (sys : System) (f : ℕ) (t : Term) (number : ℕ) (rest : List ℕ) : Type 0 where
  pub passed : ℕ
  pub rule : Rule
  pub number_is : number ≡ suc passed
  pub is_rule : slice_get sys.rules passed ≡ Some rule
  pub rest_is : rest ≡ numbers_with_root f (suc number) (drop number sys.rules)
  pub clash : (n : ℕ) (c : Cap) → IsHeld sys f t n c → AreBefore sys (frozen sys c) passed

drop_next : (rs : List Rule) (n : ℕ) (q : Rule) (qs : List Rule) → drop n rs ≡ q ∷ qs → (slice_get rs n ≡ Some q) × (drop (suc n) rs ≡ qs)
drop_next [] zero q qs e = absurd (cc)
drop_next [] (suc n) q qs e = absurd (cc)
drop_next (r ∷ rs) zero q qs e = (cc, cc)
drop_next (r ∷ rs) (suc n) q qs e = drop_next rs n q qs e

pub next : (sys : System) (f : ℕ) (t : Term) (number : ℕ) (rest : List ℕ) → IsSystem sys → (qs : List Rule) (n : ℕ) → drop n sys.rules ≡ qs → number ∷ rest ≡ numbers_with_root f (suc n) qs
    → ((m : ℕ) (c : Cap) → IsHeld sys f t m c → AreBefore sys (frozen sys c) n) → Next sys f t number rest
next sys f t number rest sound [] n left e before = absurd (cc)
next sys f t number rest sound (q ∷ qs) n left e before =
    go (has_root f q.left) refl (next sys f t number rest sound qs (suc n))
  where
    at : slice_get sys.rules n ≡ Some q
    at = (drop_next sys.rules n q qs left).0

    after : drop (suc n) sys.rules ≡ qs
    after = (drop_next sys.rules n q qs left).1

    go : (b : Bool) → has_root f q.left ≡ b
        → (drop (suc n) sys.rules ≡ qs → number ∷ rest ≡ numbers_with_root f (suc (suc n)) qs
        → ((m : ℕ) (c : Cap) → IsHeld sys f t m c → AreBefore sys (frozen sys c) (suc n)) → Next sys f t number rest)
        → Next sys f t number rest
    go true h later =
        (let whole : number ∷ rest ≡ suc n ∷ numbers_with_root f (suc (suc n)) qs = rw h at e in
        let first : number ≡ suc n = cc in
        let tail : rest ≡ numbers_with_root f (suc (suc n)) qs = cc in
        record {
          passed = n;
          rule = q;
          number_is = first;
          is_rule = at;
          rest_is = subst (λ z. rest ≡ numbers_with_root f (suc z) (drop z sys.rules)) (sym first) (tail ∙ ap (numbers_with_root f (suc (suc n))) (sym after));
          clash = before;
        })
    go false h later =
        (let whole : number ∷ rest ≡ numbers_with_root f (suc (suc n)) qs = rw h at e in
        later after whole (λ m c held. one_more sys (frozen sys c) n q at (other_clash sys q f t m c (is_rule_at sys.arities sys.rules n q sound.rules at) held h) (before m c held)))

none_left : (sys : System) (f : ℕ) (t : Term) → IsSystem sys → (qs : List Rule) (n : ℕ) → drop n sys.rules ≡ qs → [] ≡ numbers_with_root f (suc n) qs → (m : ℕ) (c : Cap)
    → IsHeld sys f t m c → AreBefore sys (frozen sys c) n → DoRulesClash sys (frozen sys c)
none_left sys f t sound [] n left e m c held before = all_before sys (frozen sys c) n (omega (arith, ap length left, length-drop n sys.rules)) before
none_left sys f t sound (q ∷ qs) n left e m c held before =
    go (has_root f q.left) refl (none_left sys f t sound qs (suc n))
  where
    at : slice_get sys.rules n ≡ Some q
    at = (drop_next sys.rules n q qs left).0

    go : (b : Bool) → has_root f q.left ≡ b
        → (drop (suc n) sys.rules ≡ qs → [] ≡ numbers_with_root f (suc (suc n)) qs → (m : ℕ) (c : Cap) → IsHeld sys f t m c → AreBefore sys (frozen sys c) (suc n) → DoRulesClash sys (frozen sys c))
        → DoRulesClash sys (frozen sys c)
    go true h later = (let whole : [] ≡ suc n ∷ numbers_with_root f (suc (suc n)) qs = rw h at e in absurd (cc))
    go false h later =
        (let whole : [] ≡ numbers_with_root f (suc (suc n)) qs = rw h at e in
        later (drop_next sys.rules n q qs left).1 whole m c held (one_more sys (frozen sys c) n q at (other_clash sys q f t m c (is_rule_at sys.arities sys.rules n q sound.rules at) held h) before))

pub tried_none : (sys : System) (f : ℕ) (t : Term) (numbers : List ℕ) → numbers ≡ rules_with_root sys f → Tried sys f t numbers 0
tried_none sys f t numbers e = record { passed = 0; rest = e; clash = λ n c held. none_before sys (frozen sys c) }

pub tried_next : (sys : System) (f : ℕ) (t : Term) (numbers : List ℕ) (k number : ℕ) → IsSystem sys → Tried sys f t numbers k → drop k numbers ≡ number ∷ drop (suc k) numbers
    → Next sys f t number (drop (suc k) numbers)
tried_next sys f t numbers k number sound tried e = next sys f t number (drop (suc k) numbers) sound (drop tried.passed sys.rules) tried.passed refl (sym e ∙ tried.rest) tried.clash

pub tried_all : (sys : System) (f : ℕ) (t : Term) (numbers : List ℕ) (k : ℕ) → IsSystem sys → Tried sys f t numbers k → drop k numbers ≡ [] → (n : ℕ) (c : Cap) → IsHeld sys f t n c
    → DoRulesClash sys (frozen sys c)
tried_all sys f t numbers k sound tried e n c held = none_left sys f t sound (drop tried.passed sys.rules) tried.passed refl (sym e ∙ tried.rest) n c held (tried.clash n c held)
