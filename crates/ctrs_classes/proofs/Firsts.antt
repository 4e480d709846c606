-- The first variable that passes a test.
use Rattle.std.proofs.Common.{ℕ, suc, ◌≡◌, inl, inr, ◌+◌, Bool, true, false, ◌||◌, if◌then◌else◌, List, [], ◌∷◌, ◌++◌, take, map, Option, None, Some, refl, sym, ap, ◌∙◌, subst, arith}
use Rattle.std.proofs.lemmas.Bool.{false≢true, or_left, or_right, not-true, not-false}
use Rattle.std.specs.List.{take-map}
use Rattle.rewriting.specs.Terms as math
use Rattle.rewriting.specs.Prelude.{cons, occurs, occurs_in, variable_occurrences, Condition, left_sides, right_sides, sides, known, IsAmong}
use Rattle.rewriting.proofs.Instances.{or_cases}
use Rattle.term_core.specs.declared.systems.Cond.{Cond}
use Rattle.term_core.specs.declared.systems.Rule.{Rule}
use Rattle.term_core.specs.Prelude.{view, condition_view, rule_view}
use Rattle.rewriting.proofs.Variables.{occurring}
use Rattle.certificates.specs.Blames.{IsFirstVariable, IsOld, IsFresh}
use Rattle.ctrs_classes.specs.Walks.{first_where, same}
use Rattle.ctrs_classes.specs.Faults.{UndeterminedAnswers}

-- what the walk found, and that it passed over nothing before
pub record Found (test : ℕ → Bool) (xs : List ℕ) (x : ℕ) : Type 0 where
  pub before : List ℕ
  pub after : List ℕ
  pub split : xs ≡ before ++ x ∷ after
  pub passed : (y : ℕ) → IsAmong y before → test y ≡ false
  pub here : test x ≡ true

found_cons : (test : ℕ → Bool) (z : ℕ) (zs : List ℕ) (x : ℕ) (b : Bool) → test z ≡ b → first_where test (z ∷ zs) ≡ Some x → (first_where test zs ≡ Some x → Found test zs x) → Found test (z ∷ zs) x
found_cons test z zs x true q e f =
    let is : Some z ≡ Some x = subst (λ b. (if b then Some z else first_where test zs) ≡ Some x) q e in
    let at : z ≡ x = cc in
    record { before = []; after = zs; split = ap (λ u. u ∷ zs) at; passed = λ y a. absurd a; here = subst (λ u. test u ≡ true) at q }
found_cons test z zs x false q e f =
    let r = f (subst (λ b. (if b then Some z else first_where test zs) ≡ Some x) q e) in
    record { before = z ∷ r.before; after = r.after; split = ap (λ us. z ∷ us) r.split; passed = go r.before r.passed; here = r.here }
  where
    go : (before : List ℕ) → ((y : ℕ) → IsAmong y before → test y ≡ false) → (y : ℕ) → IsAmong y (z ∷ before) → test y ≡ false
    go before h y (inl same) = subst (λ u. test u ≡ false) (sym same) q
    go before h y (inr a) = h y a

pub found : (test : ℕ → Bool) (xs : List ℕ) (x : ℕ) → first_where test xs ≡ Some x → Found test xs x
found test [] x e = absurd (cc)
found test (z ∷ zs) x e = found_cons test z zs x (test z) refl e (λ h. found test zs x h)

none_cons : (test : ℕ → Bool) (z : ℕ) (zs : List ℕ) (b : Bool) → test z ≡ b → first_where test (z ∷ zs) ≡ None → (first_where test zs ≡ None → (y : ℕ) → IsAmong y zs → test y ≡ false)
    → (y : ℕ) → IsAmong y (z ∷ zs) → test y ≡ false
none_cons test z zs true q e f y a = absurd (let is : Some z ≡ None = subst (λ b. (if b then Some z else first_where test zs) ≡ None) q e in cc)
none_cons test z zs false q e f y (inl same) = subst (λ u. test u ≡ false) (sym same) q
none_cons test z zs false q e f y (inr a) = f (subst (λ b. (if b then Some z else first_where test zs) ≡ None) q e) y a

pub none_found : (test : ℕ → Bool) (xs : List ℕ) → first_where test xs ≡ None → (y : ℕ) → IsAmong y xs → test y ≡ false
none_found test [] e y a = absurd a
none_found test (z ∷ zs) e y a = none_cons test z zs (test z) refl e (λ h. none_found test zs h) y a

-- a walk for variables outside: it finds the first, or all are inside
pub outside_found : (inside stands : ℕ → Bool) (t : math.Term) (x : ℕ) → ((y : ℕ) → inside y ≡ stands y) → first_where (λ y. same false (inside y)) (variable_occurrences t) ≡ Some x
    → IsFirstVariable (λ y. stands y ≡ false) t x
outside_found inside stands t x agree e =
    let f = found (λ y. same false (inside y)) (variable_occurrences t) x e in
    record {
      before = f.before;
      after = f.after;
      split = f.split;
      none_before = λ y a out. false≢true (sym out ∙ sym (agree y) ∙ not-false (inside y) (f.passed y a));
      here = sym (agree x) ∙ not-true (inside x) f.here;
    }

pub all_inside : (inside stands : ℕ → Bool) (t : math.Term) → ((y : ℕ) → inside y ≡ stands y) → first_where (λ y. same false (inside y)) (variable_occurrences t) ≡ None
    → (x : ℕ) → occurs x t ≡ true → stands x ≡ true
all_inside inside stands t agree e x o =
    sym (agree x) ∙ not-false (inside x) (none_found (λ y. same false (inside y)) (variable_occurrences t) e x (occurring x t o))

or_swap : (a b L R : Bool) → (a || (b || (L || R))) ≡ ((a || L) || (b || R))
or_swap true b L R = refl
or_swap false true true R = refl
or_swap false true false R = refl
or_swap false false L R = refl

all_sides : (x : ℕ) (cs : List Condition) → occurs_in x (sides cs) ≡ (occurs_in x (left_sides cs) || occurs_in x (right_sides cs))
all_sides x [] = refl
all_sides x (c ∷ cs) =
    ap (λ b. occurs x c.left || (occurs x c.right || b)) (all_sides x cs) ∙ or_swap (occurs x c.left) (occurs x c.right) (occurs_in x (left_sides cs)) (occurs_in x (right_sides cs))

-- a rule's left side with all sides of its conditions
pub everywhere : (l : math.Term) (cs : List Condition) (x : ℕ) → (occurs x l || (occurs_in x (left_sides cs) || occurs_in x (right_sides cs))) ≡ occurs_in x (cons l (sides cs))
everywhere l cs x = ap (λ b. occurs x l || b) (sym (all_sides x cs))

viewed : (rule : Rule) (i : ℕ) (before : List Cond) → before ≡ take i rule.conds.items → map condition_view before ≡ take i (map condition_view rule.conds.items)
viewed rule i before e = ap (map condition_view) e ∙ sym (take-map condition_view i rule.conds.items)

-- what is known before a condition
pub known_before : (rule : Rule) (i : ℕ) (before : List Cond) (x : ℕ) → before ≡ take i rule.conds.items
    → (occurs x (view rule.left) || (false || occurs_in x (right_sides (map condition_view before)))) ≡ occurs_in x (known (rule_view rule) i)
known_before rule i before x e = ap (λ cs. occurs x (view rule.left) || occurs_in x (right_sides cs)) (viewed rule i before e)

pub undetermined_answers : (rule : Rule) (cond : Cond) (i : ℕ) (before : List Cond) (o : Option ℕ) → before ≡ take i rule.conds.items
    → o ≡ first_where (λ x. same false (occurs x (view rule.left) || (false || occurs_in x (right_sides (map condition_view before))))) (variable_occurrences (view cond.left))
    → UndeterminedAnswers (rule_view rule) i (condition_view cond) o
undetermined_answers rule cond i before None e h =
    all_inside (λ x. occurs x (view rule.left) || (false || occurs_in x (right_sides (map condition_view before)))) (λ y. occurs_in y (known (rule_view rule) i)) (view cond.left)
    (λ y. known_before rule i before y e) (sym h)
undetermined_answers rule cond i before (Some x) e h =
    outside_found (λ x. occurs x (view rule.left) || (false || occurs_in x (right_sides (map condition_view before)))) (λ y. occurs_in y (known (rule_view rule) i))
    (view cond.left) x (λ y. known_before rule i before y e) (sym h)

-- what stands before the right side of a condition
abbrev pub stood : Rule → List Cond → List Cond → ℕ → Bool
stood rule first before x = occurs x (view rule.left) || (occurs_in x (left_sides (map condition_view first)) || occurs_in x (right_sides (map condition_view before)))

module _ (rule : Rule) (i : ℕ) (first before : List Cond) (is_first : first ≡ take (i + 1) rule.conds.items) (is_before : before ≡ take i rule.conds.items) where
  one : take (i + 1) rule.conds.items ≡ take (suc i) rule.conds.items
  one = (let e : i + 1 ≡ suc i = omega arith in ap (λ n. take n rule.conds.items) e)

  lefts : map condition_view first ≡ take (suc i) (map condition_view rule.conds.items)
  lefts = ap (map condition_view) (is_first ∙ one) ∙ sym (take-map condition_view (suc i) rule.conds.items)

  rights : map condition_view before ≡ take i (map condition_view rule.conds.items)
  rights = viewed rule i before is_before

  old_stands : (x : ℕ) → IsOld (rule_view rule) i x → stood rule first before x ≡ true
  old_stands x (inl e) =
      or_cases (occurs x (view rule.left)) (occurs_in x (right_sides (take i (map condition_view rule.conds.items)))) e (λ h. or_left _ _ h)
      (λ h. or_right _ _ (or_right _ _ (subst (λ cs. occurs_in x (right_sides cs) ≡ true) (sym rights) h)))
  old_stands x (inr e) = or_right _ _ (or_left _ _ (subst (λ cs. occurs_in x (left_sides cs) ≡ true) (sym lefts) e))

  stands_old : (x : ℕ) → stood rule first before x ≡ true → IsOld (rule_view rule) i x
  stands_old x e =
      or_cases (occurs x (view rule.left)) (occurs_in x (left_sides (map condition_view first)) || occurs_in x (right_sides (map condition_view before))) e (λ h. inl (or_left _ _ h))
      (λ h. or_cases (occurs_in x (left_sides (map condition_view first))) (occurs_in x (right_sides (map condition_view before))) h
      (λ k. inr (subst (λ cs. occurs_in x (left_sides cs) ≡ true) lefts k))
      (λ k. inl (or_right _ _ (subst (λ cs. occurs_in x (right_sides cs) ≡ true) rights k))))

  pub old_found : (t : math.Term) (x : ℕ) → Some x ≡ first_where (λ y. same true (stood rule first before y)) (variable_occurrences t) → IsFirstVariable (IsOld (rule_view rule) i) t x
  old_found t x e =
      let f = found (λ y. same true (stood rule first before y)) (variable_occurrences t) x (sym e) in
      record {
        before = f.before;
        after = f.after;
        split = f.split;
        none_before = λ y a old. false≢true (sym (f.passed y a) ∙ old_stands y old);
        here = stands_old x f.here;
      }

  pub none_old : (cond : Cond) → None ≡ first_where (λ y. same true (stood rule first before y)) (variable_occurrences (view cond.right)) → IsFresh (rule_view rule) i (condition_view cond)
  none_old cond e =
      let h : (x : ℕ) → occurs x (view cond.right) ≡ true → stood rule first before x ≡ false = λ x o. none_found (λ y. same true (stood rule first before y))
      (variable_occurrences (view cond.right)) (sym e) x (occurring x (view cond.right) o) in
      (λ x o k. false≢true (sym (h x o) ∙ old_stands x (inl k)), λ x o k. false≢true (sym (h x o) ∙ old_stands x (inr k)))
