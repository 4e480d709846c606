-- Rules put behind others, rule by rule.
use Rattle.std.proofs.Common.{◌≡◌, ℕ, zero, suc, ◌+◌, ◌<◌, ◌≤◌, refl, sym, ap, ap₂, ◌∙◌, subst, List, [], ◌∷◌, ◌++◌, map, length, get_or, take, arith, append_assoc, append-nil}
use Rattle.std.proofs.Common.{slice_get, Some, Ok, Err, Vec, Global}
use Rattle.std.proofs.lemmas.List.{length-map, take_all}
use Rattle.general_lemmas.proofs.Places.{slice_get-map_read}
use Rattle.rewriting.specs.Prelude.{Fits, Each, terms_of_rule, condition_count, AreRules, DoSidesFit, unraveled_rule, unraveled_rules, Signature}
use Rattle.rewriting.specs.Rules as rules
use Rattle.term_core.specs.RuleView.{rule_view, condition_view, AreCounted}
use Rattle.term_core.specs.declared.systems.Rule.{Rule}
use Rattle.unravel.specs.declared.rules.RuleError.TheVariants as cause
use Rattle.unravel.specs.RuleAnswers.{DoTermsFit, IsLargeAt, AppendAnswers, RulesAnswers}

pub sides_fit-append : (xs ys : List rules.Rule) → DoSidesFit xs → DoSidesFit ys → DoSidesFit (xs ++ ys)
sides_fit-append [] ys h k = k
sides_fit-append (x ∷ xs) ys h k = (h.0, h.1, sides_fit-append xs ys h.2 k)

pub sides_fit-first : (xs ys : List rules.Rule) → DoSidesFit (xs ++ ys) → DoSidesFit xs
sides_fit-first [] ys h = tt
sides_fit-first (x ∷ xs) ys h = (h.0, h.1, sides_fit-first xs ys h.2)

pub sides_fit-second : (xs ys : List rules.Rule) → DoSidesFit (xs ++ ys) → DoSidesFit ys
sides_fit-second [] ys h = h
sides_fit-second (x ∷ xs) ys h = sides_fit-second xs ys h.2

rules_take : (f : ℕ) (rs : List rules.Rule) (i : ℕ) (q : rules.Rule) → slice_get rs i ≡ Some q
    → unraveled_rules f (take (suc i) rs) ≡ unraveled_rules f (take i rs) ++ unraveled_rule (f + condition_count (take i rs)) q
rules_take f [] i q e = absurd (cc)
rules_take f (r ∷ rs) zero q e =
    let same : r ≡ q = cc in
    let start : f + 0 ≡ f = omega arith in
    append-nil (unraveled_rule f r) ∙ ap₂ unraveled_rule (sym start) same
rules_take f (r ∷ rs) (suc i) q e =
    let rest = rules_take (f + length r.conditions) rs i q e in
    let start : (f + length r.conditions) + condition_count (take i rs) ≡ f + (length r.conditions + condition_count (take i rs)) = omega arith in
    ap (λ z. unraveled_rule f r ++ z) rest ∙ sym (append_assoc (unraveled_rule f r) _ _)
    ∙ ap (λ n. (unraveled_rule f r ++ unraveled_rules (f + length r.conditions) (take i rs)) ++ unraveled_rule n q) start

count_take : (rs : List rules.Rule) (i : ℕ) (q : rules.Rule) → slice_get rs i ≡ Some q → condition_count (take (suc i) rs) ≡ condition_count (take i rs) + length q.conditions
count_take [] i q e = absurd (cc)
count_take (r ∷ rs) zero q e = let same : r ≡ q = cc in let k = ap (λ r. length r.conditions) same in omega (arith, k)
count_take (r ∷ rs) (suc i) q e = let k = count_take rs i q e in omega (arith, k)

pub count_within : (rs : List rules.Rule) (i : ℕ) → condition_count (take i rs) ≤ condition_count rs
count_within [] zero = omega arith
count_within [] (suc i) = omega arith
count_within (r ∷ rs) zero = omega arith
count_within (r ∷ rs) (suc i) = let k = count_within rs i in omega (arith, k)

terms_fit_at : (rs : List rules.Rule) (i : ℕ) (q : rules.Rule) → DoTermsFit rs → slice_get rs i ≡ Some q → Each Fits (terms_of_rule q)
terms_fit_at [] i q h e = absurd (cc)
terms_fit_at (r ∷ rs) zero q h e = let same : r ≡ q = cc in subst (λ z. Each Fits (terms_of_rule z)) same h.0
terms_fit_at (r ∷ rs) (suc i) q h e = terms_fit_at rs i q h.1 e

pub terms_fit_here : (rs : List Rule) (i : ℕ) (r : Rule) → DoTermsFit (map rule_view rs) → i < length rs → r ≡ get_or rs i r → Each Fits (terms_of_rule (rule_view r))
terms_fit_here rs i r fit h is = terms_fit_at (map rule_view rs) i (rule_view r) fit (slice_get-map_read rule_view rs i r h is)

-- the rules of the first i rules fit, and the next auxiliary symbol has this number
pub record Front (f : ℕ) (rs : List Rule) (i symbol : ℕ) : Type 0 where
  pub symbol_is : symbol ≡ f + condition_count (take i (map rule_view rs))
  pub fit : DoSidesFit (unraveled_rules f (take i (map rule_view rs)))

pub front_begin : (f : ℕ) (rs : List Rule) → Front f rs 0 f
front_begin f rs = record { symbol_is = omega arith; fit = tt }

pub front_all : (rs : List Rule) (i : ℕ) → length rs ≤ i → take i (map rule_view rs) ≡ map rule_view rs
front_all rs i h = take_all i (map rule_view rs) (let same = length-map rs rule_view in omega (arith, same, h))

-- one rule more
module _ (f : ℕ) (rs : List Rule) (i symbol : ℕ) (r : Rule) (p : Front f rs i symbol) (h : i < length rs) (is : r ≡ get_or rs i r) where
  there : slice_get (map rule_view rs) i ≡ Some (rule_view r)
  there = slice_get-map_read rule_view rs i r h is

  next_count : condition_count (take (suc i) (map rule_view rs)) ≡ condition_count (take i (map rule_view rs)) + length r.conds.items
  next_count =
      let next = count_take (map rule_view rs) i (rule_view r) there in
      let same = length-map r.conds.items condition_view in
      omega (arith, next, same)

  pub front_room : symbol + length r.conds.items ≤ f + condition_count (map rule_view rs)
  front_room = let s = p.symbol_is in let next = next_count in let most = count_within (map rule_view rs) (suc i) in omega (arith, s, next, most)

  pub front_rules : unraveled_rules f (take (i + 1) (map rule_view rs)) ≡ unraveled_rules f (take i (map rule_view rs)) ++ unraveled_rule symbol (rule_view r)
  front_rules =
      let one : i + 1 ≡ suc i = omega arith in
      ap (λ k. unraveled_rules f (take k (map rule_view rs))) one ∙ rules_take f (map rule_view rs) i (rule_view r) there
      ∙ ap (λ n. unraveled_rules f (take i (map rule_view rs)) ++ unraveled_rule n (rule_view r)) (sym p.symbol_is)

  pub front_next : DoSidesFit (unraveled_rule symbol (rule_view r)) → Front f rs (i + 1) (symbol + length r.conds.items)
  front_next fits =
      let one : i + 1 ≡ suc i = omega arith in
      record {
        symbol_is = (let s = p.symbol_is in let next = next_count in let same = ap (λ k. condition_count (take k (map rule_view rs))) one in omega (arith, s, next, same));
        fit = subst DoSidesFit (sym front_rules) (sides_fit-append (unraveled_rules f (take i (map rule_view rs))) _ p.fit fits);
      }

  pub front_fail : (DoSidesFit (unraveled_rule symbol (rule_view r)) → ⊥) → IsLargeAt f (map rule_view rs) (i + 1)
  front_fail large =
      record {
        place = i;
        is_number = refl;
        rule = rule_view r;
        is_rule = there;
        before = p.fit;
        here = λ k. large (subst (λ n. DoSidesFit (unraveled_rule n (rule_view r))) (sym p.symbol_is) k);
      }

-- the rules of the first i rules stand
pub record Progress (f : ℕ) (rs : List Rule) (i symbol : ℕ) (out : List Rule) : Type 0 where
  pub front : Front f rs i symbol
  pub out_is : map rule_view out ≡ unraveled_rules f (take i (map rule_view rs))
  pub counted : AreCounted out

pub begin : (f : ℕ) (rs out : List Rule) → out ≡ [] → Progress f rs 0 f out
begin f rs out e = record { front = front_begin f rs; out_is = ap (map rule_view) e; counted = subst AreCounted (sym e) tt }

pub room : (f : ℕ) (rs : List Rule) (i symbol : ℕ) (out : List Rule) (r : Rule) → Progress f rs i symbol out → i < length rs → r ≡ get_or rs i r
    → symbol + length r.conds.items ≤ f + condition_count (map rule_view rs)
room f rs i symbol out r p h is = front_room f rs i symbol r p.front h is

pub advance : (f : ℕ) (rs : List Rule) (i symbol : ℕ) (out after : List Rule) (r : Rule) (done : Unit {0}) → Progress f rs i symbol out → i < length rs → r ≡ get_or rs i r
    → AppendAnswers (unraveled_rule symbol (rule_view r)) out after (Ok done) → (AreCounted out → AreCounted after) → Progress f rs (i + 1) (symbol + length r.conds.items) after
advance f rs i symbol out after r done p h is a counts =
    record {
      front = front_next f rs i symbol r p.front h is a.1;
      out_is = a.0 ∙ ap (λ x. x ++ unraveled_rule symbol (rule_view r)) p.out_is ∙ sym (front_rules f rs i symbol r p.front h is);
      counted = counts p.counted;
    }

pub finish : (f : ℕ) (rs : List Rule) (i symbol : ℕ) (v : Vec Rule Global) → Progress f rs i symbol v.items → length rs ≤ i → RulesAnswers f (map rule_view rs) (Ok v)
finish f rs i symbol v p h = let all = front_all rs i h in (p.out_is ∙ ap (unraveled_rules f) all, subst (λ z. DoSidesFit (unraveled_rules f z)) all p.front.fit)

pub finish_counted : (f : ℕ) (rs : List Rule) (i symbol : ℕ) (out : List Rule) → Progress f rs i symbol out → AreCounted out
finish_counted f rs i symbol out p = p.counted

pub fail : (f : ℕ) (rs : List Rule) (i symbol : ℕ) (out after : List Rule) (r : Rule) → Progress f rs i symbol out → i < length rs → r ≡ get_or rs i r
    → AppendAnswers (unraveled_rule symbol (rule_view r)) out after (Err cause.TooLarge) → IsLargeAt f (map rule_view rs) (i + 1)
fail f rs i symbol out after r p h is a = front_fail f rs i symbol r p.front h is a

-- the terms of a system's rules fit
pub terms_fit : (arities : Signature) (rs : List rules.Rule) → AreRules arities rs → DoTermsFit rs
terms_fit arities [] h = tt
terms_fit arities (r ∷ rs) h = (h.0.fits, terms_fit arities rs h.1)
