-- Join rules: what fits below one symbol, and that their oriented system is one.
use Rattle.std.proofs.Common.{◌≡◌, ◌<◌, ◌≤◌, ◌+◌, ◌-◌, ◌^◌, ◌⊎◌, inl, inr, Option, None, IfSome, IfNone, is_some, IsTrue, ℕ, zero, suc, max, List, [], ◌∷◌, ◌++◌, append_assoc, map}
use Rattle.std.proofs.Common.{length, take, drop, get_or, refl, sym, ap, ap₂, ◌∙◌, subst, arith, add-one, zero-add, Some}
use Rattle.std.proofs.lemmas.List.{length-map}
use Rattle.std.proofs.Math.Nat.{le-max_left, le-max_right, max-le}
use Rattle.rewriting.specs.Prelude.{size, depth, System, system_of, Signature, IsSystem, condition_count, rule_variables}
use Rattle.rewriting.specs.Rules as math
use Rattle.join_systems.specs.Joined.{joined, joined_rule, last_rule}
use Rattle.join_systems.proofs.Sound.{rule_variables_stay, joined_is_system}
use Rattle.term_core.proofs.Rules.{sound_rules}
use Rattle.term_core.specs.RuleView.{condition_view, rule_view, vars_of, AreCounted}
use Rattle.term_core.specs.SystemView.{AreSound}
use Rattle.term_core.specs.JoinAnswers.{DoesJoinFit, DoJoinsFit, DoAllJoinsFit, IsFirstLarge}
use Rattle.term_core.specs.declared.systems.Rule.{Rule}
use Rattle.term_core.specs.declared.systems.Cond.{Cond}

pub joint_fits : (c : math.Condition) (room left : ℕ) → room + size c.left ≡ 9999 → depth c.left ≤ 399 → left + size c.right ≡ room → depth c.right ≤ 399 → DoesJoinFit c
joint_fits c room left a d b e f =
    let deep : max (depth c.left) (max (depth c.right) 0) ≤ 399 = max-le d (max-le e (omega arith)) in
    record { nodes = omega (arith, a, b); levels = omega (arith, deep) }

large_size : (c : math.Condition) → 9999 < size c.left + size c.right → DoesJoinFit c → ⊥
large_size c lt h = let n = (h 0).nodes in omega (arith, n, lt)

large_depth : (c : math.Condition) → (399 < depth c.left) ⊎ (399 < depth c.right) → DoesJoinFit c → ⊥
large_depth c (inl lt) h = let n = (h 0).levels in let m = le-max_left (depth c.left) (max (depth c.right) 0) in omega (arith, n, m, lt)
large_depth c (inr lt) h =
    let n = (h 0).levels in
    let m = le-max_left (depth c.right) 0 in
    let k = le-max_right (depth c.left) (max (depth c.right) 0) in
    omega (arith, n, m, k, lt)

pub left_large : (c : math.Condition) → (9999 < size c.left) ⊎ (399 < depth c.left) → DoesJoinFit c → ⊥
left_large c (inl lt) h = large_size c (omega (arith, lt)) h
left_large c (inr lt) h = large_depth c (inl lt) h

pub right_large : (c : math.Condition) (room : ℕ) → room + size c.left ≡ 9999 → (room < size c.right) ⊎ (399 < depth c.right) → DoesJoinFit c → ⊥
right_large c room a (inl lt) h = large_size c (omega (arith, a, lt)) h
right_large c room a (inr lt) h = large_depth c (inr lt) h

-- rules whose conditions were found to fit, one after another
fit_step : (rs : List Rule) (i : ℕ) (r : Rule) → i < length rs → r ≡ get_or rs i r → DoJoinsFit (rule_view r).conditions → DoAllJoinsFit (map rule_view (take i rs))
    → DoAllJoinsFit (map rule_view (take (suc i) rs))
fit_step [] i r h e good before = absurd (omega arith)
fit_step (s ∷ rs) zero r h e good before = (subst (λ q. DoJoinsFit (rule_view q).conditions) e good, tt)
fit_step (s ∷ rs) (suc i) r h e good before = (before.0, fit_step rs i r (omega arith) e good before.1)

pub fit_more : (rs : List Rule) (i : ℕ) (r : Rule) → i < length rs → r ≡ get_or rs i r → DoJoinsFit (rule_view r).conditions → DoAllJoinsFit (map rule_view (take i rs))
    → DoAllJoinsFit (map rule_view (take (i + 1) rs))
fit_more rs i r h e good before = rw add-one (fit_step rs i r h e good before)

pub all_fit : (rs : List Rule) (i : ℕ) → length rs ≤ i → DoAllJoinsFit (map rule_view (take i rs)) → DoAllJoinsFit (map rule_view rs)
all_fit [] i h all = tt
all_fit (r ∷ rs) zero h all = absurd (omega arith)
all_fit (r ∷ rs) (suc i) h all = (all.0, all_fit rs i (omega arith) all.1)

first : (rs : List Rule) (i : ℕ) (r : Rule) → i < length rs → r ≡ get_or rs i r → DoAllJoinsFit (map rule_view (take i rs)) → (DoJoinsFit (rule_view r).conditions → ⊥)
    → IsFirstLarge (map rule_view rs) (suc i)
first [] i r h e before large = absurd (omega arith)
first (s ∷ rs) zero r h e before large =
    let split = ap (λ q. rule_view q ∷ map rule_view rs) (sym e) in
    record { before = []; rule = rule_view r; after = map rule_view rs; split = split; numbered = sym (zero-add 1); fit_before = tt; large = large }
first (s ∷ rs) (suc i) r h e before large =
    let f = first rs i r (omega arith) e before.1 large in
    let split = ap (λ q. rule_view s ∷ q) f.split in
    record { before = rule_view s ∷ f.before; rule = f.rule; after = f.after; split = split; numbered = omega (arith, f.numbered); fit_before = (before.0, f.fit_before); large = f.large }

pub first_at : (rs : List Rule) (i : ℕ) (r : Rule) → i < length rs → r ≡ get_or rs i r → DoAllJoinsFit (map rule_view (take i rs)) → (DoJoinsFit (rule_view r).conditions → ⊥)
    → IsFirstLarge (map rule_view rs) (i + 1)
first_at rs i r h e before large = rw add-one (first rs i r h e before large)

-- sound rules make a system
pub sound_is_system : (ar : Signature) (rs : List Rule) → AreSound ar rs → length ar + condition_count (map rule_view rs) < 2 ^ 31 - 2
    → length rs + condition_count (map rule_view rs) < 2 ^ 31 - 2 → IsSystem (system_of ar (map rule_view rs))
sound_is_system ar rs sound symbols number =
    let views = length-map rs rule_view in
    record { rules = sound_rules ar rs sound; few_symbols = omega (arith, symbols); few_rules = omega (arith, views, number) }

-- each rule of the oriented system tells the number of its variables
pub joined_counted : (f : ℕ) (rs new : List Rule) (last : Rule) → AreCounted rs → map rule_view new ≡ map (joined_rule f) (map rule_view rs) → map vars_of new ≡ map vars_of rs
    → rule_view last ≡ last_rule f → last.vars ≡ 1 → AreCounted (new ++ last ∷ [])
joined_counted f [] [] last h views vars e one = (one ∙ ap (λ r. length (rule_variables r)) (sym e), tt)
joined_counted f [] (q ∷ qs) last h views vars e one = absurd (cc)
joined_counted f (r ∷ rs) [] last h views vars e one = absurd (cc)
joined_counted f (r ∷ rs) (q ∷ qs) last h views vars e one =
    let same : rule_view q ≡ joined_rule f (rule_view r) = cc in
    let number : q.vars ≡ r.vars = cc in
    (number ∙ h.0 ∙ ap length (sym (ap rule_variables same ∙ rule_variables_stay f (rule_view r))), joined_counted f rs qs last h.1 (cc) (cc) e one)

-- what `does_join_fit` tells
pub told_by : (c : math.Condition) (room : ℕ) → room + size c.left ≡ 9999 → depth c.left ≤ 399 → (o : Option ℕ)
    → IfSome o (λ left. left + size c.right ≡ room) → IfSome o (λ _. depth c.right ≤ 399) → IfNone o ((room < size c.right) ⊎ (399 < depth c.right))
    → (IsTrue (is_some o) → DoesJoinFit c) × (DoesJoinFit c → IsTrue (is_some o))
told_by c room a d None nodes levels large = ((λ e. absurd (cc)), (λ h. absurd (right_large c room a large h)))
told_by c room a d (Some left) nodes levels large = ((λ _. joint_fits c room left a d nodes levels), (λ _. refl))

-- the conditions from one on
pub conditions_drop : (cs : List Cond) (i : ℕ) (c : Cond) → i < length cs → c ≡ get_or cs i c → map condition_view (drop i cs) ≡ condition_view c ∷ map condition_view (drop (i + 1) cs)
conditions_drop cs i c h e = rw add-one (go cs i h e)
  where
    go : (ds : List Cond) (k : ℕ) → k < length ds → c ≡ get_or ds k c → map condition_view (drop k ds) ≡ condition_view c ∷ map condition_view (drop (suc k) ds)
    go [] k h e = absurd (omega arith)
    go (d ∷ ds) zero h e = ap (λ q. condition_view q ∷ map condition_view ds) (sym e)
    go (d ∷ ds) (suc k) h e = go ds k (omega arith) e

-- what `join_system` makes is the oriented system
views_of_more : (rs : List Rule) (r : Rule) → map rule_view (rs ++ r ∷ []) ≡ map rule_view rs ++ rule_view r ∷ []
views_of_more [] r = refl
views_of_more (q ∷ rs) r = ap (λ z. rule_view q ∷ z) (views_of_more rs r)

module _ (list : System) (ar one two : List ℕ) (rs new all : List Rule) (last : Rule) (own : ℕ)
    (arities_are : ar ≡ list.arities) (rules_are : map rule_view rs ≡ list.rules) (first_more : one ≡ ar ++ 2 ∷ []) (second_more : two ≡ one ++ 0 ∷ []) (count_is : own ≡ length ar)
    (views : map rule_view new ≡ map (joined_rule own) (map rule_view rs)) (last_is : rule_view last ≡ last_rule own) (all_are : all ≡ new ++ last ∷ []) where
  symbols_are : two ≡ list.arities ++ 2 ∷ 0 ∷ []
  symbols_are =
      second_more ∙ ap (λ (z : List ℕ). z ++ 0 ∷ []) first_more ∙ append_assoc ar (2 ∷ []) (0 ∷ []) ∙ ap (λ (z : List ℕ). z ++ 2 ∷ 0 ∷ []) arities_are

  own_is : own ≡ length list.arities
  own_is = count_is ∙ ap (λ (z : List ℕ). length z) arities_are

  with_last : map rule_view all ≡ map (joined_rule (length list.arities)) list.rules ++ last_rule (length list.arities) ∷ []
  with_last =
      ap (map rule_view) all_are ∙ views_of_more new last ∙ ap₂ (λ (z : List math.Rule) (q : math.Rule). z ++ q ∷ []) views last_is
      ∙ ap₂ (λ (n : ℕ) (z : List math.Rule). map (joined_rule n) z ++ last_rule n ∷ []) own_is rules_are

  pub made_is : record { arities = two; rules = map rule_view all; own = own } ≡ joined list
  made_is =
      ap₂ (λ (a : List ℕ) (w : List math.Rule × ℕ). record { arities = a; rules = w.0; own = w.1 }) symbols_are (ap₂ (λ (r : List math.Rule) (n : ℕ). (r, n)) with_last own_is)

  pub made_is_system : IsSystem list → DoAllJoinsFit list.rules → length list.arities + condition_count list.rules < 2 ^ 31 - 2 → length list.rules + condition_count list.rules < 2 ^ 31 - 2
      → IsSystem (record { arities = two; rules = map rule_view all; own = own })
  made_is_system sound fit symbols number = subst IsSystem (sym made_is) (joined_is_system list sound.rules fit symbols number)
