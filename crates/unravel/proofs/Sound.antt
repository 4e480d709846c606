-- The unraveling of a system is again a system as files give it: its rules are over its symbols, numbered anew, and few.
use Rattle.std.proofs.Common.{◌≡◌, ℕ, zero, suc, ◌+◌, ◌^◌, ◌<◌, refl, sym, ap, ap₂, ◌∙◌, subst, List, [], ◌∷◌, ◌++◌, map, length, arith, slice_get, Some, Result, Ok, Err, IfOk, OnOk, Vec, Global}
use Rattle.std.proofs.lemmas.List.{length-append, length-map}
use Rattle.rewriting.specs.Prelude.{Term, nil, cons, Fits, apply, Signature, with_variables, variables, variables_of, system_of, condition_count, rule_variables, IsRuleOver, IsWellFormed}
use Rattle.rewriting.specs.Prelude.{IsRule, AreRules, IsSystem, DoSidesFit, unraveled, unraveled_from, unraveled_rule, unraveled_rules, numbered_anew, index_in, keeper, keeper_arities}
use Rattle.rewriting.specs.Prelude.{all_keeper_arities, heads}
use Rattle.rewriting.specs.Rules as rules
use Rattle.interpretations.proofs.Bound.{length-heads}
use Rattle.rewriting.proofs.Unraveled.{unraveled_well_formed}
use Rattle.rewriting.proofs.Variables.{variables_have_all}
use Rattle.simplifications.proofs.Anew.{numbered_counts, list_renamed, places_differ}
use Rattle.term_core.specs.Prelude.{rule_view, AreCounted, head_view}
use Rattle.term_core.specs.declared.systems.Head.{Head}
use Rattle.term_core.specs.declared.systems.Rule.{Rule}
use Rattle.unravel.specs.declared.UnravelError.{UnravelError}
use Rattle.unravel.specs.declared.rules.RuleError.{RuleError}
use Rattle.unravel.specs.SideView.{numbered}
use Rattle.unravel.specs.RuleAnswers.{RulesAnswers}
use Rattle.unravel.proofs.Kept.{few_variables}

-- the unraveled rules have no conditions, and there are as many as rules and conditions
count-append : (xs ys : List rules.Rule) → condition_count (xs ++ ys) ≡ condition_count xs + condition_count ys
count-append [] ys = omega arith
count-append (x ∷ xs) ys = let h = count-append xs ys in omega (arith, h)

count-from : (f : ℕ) (xs : List ℕ) (head : Term) (cs : List rules.Condition) (r : Term) → condition_count (unraveled_from f xs head cs r) ≡ 0
count-from f xs head [] r = omega arith
count-from f xs head (c ∷ cs) r = let h = count-from (suc f) (with_variables xs c.right) (keeper f c.right xs) cs r in omega (arith, h)

count-rules : (f : ℕ) (qs : List rules.Rule) → condition_count (unraveled_rules f qs) ≡ 0
count-rules f [] = refl
count-rules f (q ∷ qs) =
    let a = count-append (unraveled_rule f q) (unraveled_rules (f + length q.conditions) qs) in
    let b = count-from f (variables q.left) q.left q.conditions q.right in
    let c = count-rules (f + length q.conditions) qs in
    omega (arith, a, b, c)

length-from : (f : ℕ) (xs : List ℕ) (head : Term) (cs : List rules.Condition) (r : Term) → length (unraveled_from f xs head cs r) ≡ suc (length cs)
length-from f xs head [] r = refl
length-from f xs head (c ∷ cs) r = ap suc (length-from (suc f) (with_variables xs c.right) (keeper f c.right xs) cs r)

pub length-rules : (f : ℕ) (qs : List rules.Rule) → length (unraveled_rules f qs) ≡ length qs + condition_count qs
length-rules f [] = refl
length-rules f (q ∷ qs) =
    let a = length-append (unraveled_rule f q) (unraveled_rules (f + length q.conditions) qs) in
    let b = length-from f (variables q.left) q.left q.conditions q.right in
    let c = length-rules (f + length q.conditions) qs in
    omega (arith, a, b, c)

length-keepers : (xs : List ℕ) (cs : List rules.Condition) → length (keeper_arities xs cs) ≡ length cs
length-keepers xs [] = refl
length-keepers xs (c ∷ cs) = ap suc (length-keepers (with_variables xs c.right) cs)

length-all_keepers : (qs : List rules.Rule) → length (all_keeper_arities qs) ≡ condition_count qs
length-all_keepers [] = refl
length-all_keepers (q ∷ qs) =
    let a = length-append (keeper_arities (variables q.left) q.conditions) (all_keeper_arities qs) in
    let b = length-keepers (variables q.left) q.conditions in
    let c = length-all_keepers qs in
    omega (arith, a, b, c)

-- so there are few symbols, also where some side does not fit
pub few_heads : (sys : rules.System) (hs : List Head) → IsSystem sys → map head_view hs ≡ heads sys → length hs < 2 ^ 31
few_heads sys hs h same =
    let few = h.few_symbols in
    let symbols = length-append sys.arities (all_keeper_arities sys.rules) in
    let keepers = length-all_keepers sys.rules in
    let whole = length-heads sys in
    let many = length-map hs head_view in
    let as_many = ap length same in
    omega (arith, few, symbols, keepers, whole, many, as_many)

-- each rule is one of two sides, its variables numbered anew
record IsAnew (q : rules.Rule) : Type 0 where
  left : Term
  right : Term
  is : q ≡ numbered_anew left right

abbrev AreAnew : List rules.Rule → Type 0
AreAnew [] = Unit {0}
AreAnew (q ∷ qs) = IsAnew q × AreAnew qs

anew-append : (ps qs : List rules.Rule) → AreAnew ps → AreAnew qs → AreAnew (ps ++ qs)
anew-append [] qs h k = k
anew-append (p ∷ ps) qs (h, hs) k = (h, anew-append ps qs hs k)

from_anew : (f : ℕ) (xs : List ℕ) (head : Term) (cs : List rules.Condition) (r : Term) → AreAnew (unraveled_from f xs head cs r)
from_anew f xs head [] r = (record { left = head; right = r; is = refl }, tt)
from_anew f xs head (c ∷ cs) r = (record { left = head; right = keeper f c.left xs; is = refl }, from_anew (suc f) (with_variables xs c.right) (keeper f c.right xs) cs r)

rules_anew : (f : ℕ) (qs : List rules.Rule) → AreAnew (unraveled_rules f qs)
rules_anew f [] = tt
rules_anew f (q ∷ qs) =
    anew-append (unraveled_rule f q) (unraveled_rules (f + length q.conditions) qs) (from_anew f (variables q.left) q.left q.conditions q.right) (rules_anew (f + length q.conditions) qs)

anew_rule : (arities : Signature) (l r : Term) → IsRuleOver arities (numbered_anew l r) → Fits (numbered_anew l r).left → Fits (numbered_anew l r).right → IsRule arities (numbered_anew l r)
anew_rule arities l r over a b = record {
  is_over = over;
  numbered = numbered_counts (cons l (cons r nil));
  few_variables = (let few = few_variables (numbered_anew l r).left (numbered_anew l r).right (rule_variables (numbered_anew l r)) a b refl in omega (arith, few));
  few_conditions = omega arith;
  fits = (a, (b, tt));
}

are_rules : (arities : Signature) (qs : List rules.Rule) → AreAnew qs → ((i : ℕ) (q : rules.Rule) → slice_get qs i ≡ Some q → IsRuleOver arities q) → DoSidesFit qs → AreRules arities qs
are_rules arities [] a over fit = tt
are_rules arities (q ∷ qs) (a, each) over (fit_left, fit_right, fit) = (
  subst (IsRule arities) (sym a.is)
      (anew_rule arities a.left a.right (subst (IsRuleOver arities) a.is (over 0 q refl)) (subst (λ z. Fits z.left) a.is fit_left) (subst (λ z. Fits z.right) a.is fit_right)),
  are_rules arities qs each (λ i p e. over (suc i) p e) fit,
)

over_at : (arities : Signature) (qs : List rules.Rule) → AreRules arities qs → (i : ℕ) (q : rules.Rule) → slice_get qs i ≡ Some q → IsRuleOver arities q
over_at arities [] h i q e = absurd (cc)
over_at arities (p ∷ qs) (h, hs) zero q e = let same : p ≡ q = cc in subst (IsRuleOver arities) same h.is_over
over_at arities (p ∷ qs) (h, hs) (suc i) q e = over_at arities qs hs i q e

well_formed : (sys : rules.System) → IsSystem sys → IsWellFormed sys
well_formed sys h zero q e = absurd (cc)
well_formed sys h (suc i) q e = over_at sys.arities sys.rules h.rules i q e

unraveled_system : (sys : rules.System) → IsSystem sys → DoSidesFit (unraveled_rules (length sys.arities) sys.rules) → IsSystem (unraveled sys)
unraveled_system sys h fit =
    let plain = count-rules (length sys.arities) sys.rules in
    let symbols = length-append sys.arities (all_keeper_arities sys.rules) in
    let keepers = length-all_keepers sys.rules in
    let several = length-rules (length sys.arities) sys.rules in
    record {
      rules = are_rules (unraveled sys).arities (unraveled sys).rules (rules_anew (length sys.arities) sys.rules) (λ i q e. unraveled_well_formed sys (well_formed sys h) (suc i) q e) fit;
      few_symbols = (let few = h.few_symbols in omega (arith, few, plain, symbols, keepers));
      few_rules = (let few = h.few_rules in omega (arith, few, plain, several));
    }

pub sound_where_ok : (sys : rules.System) (f : ℕ) (r : Result (Vec Rule Global) UnravelError) → IsSystem sys → f ≡ length sys.arities → RulesAnswers f sys.rules r
    → IfOk r (λ v. IsSystem (unraveled sys))
sound_where_ok sys f (Ok v) s e h = unraveled_system sys s (subst (λ n. DoSidesFit (unraveled_rules n sys.rules)) e h.1)
sound_where_ok sys f (Err e) s same h = tt

pub made_sound : (sys : rules.System) (v : List Rule) (arities : List ℕ) → map rule_view v ≡ unraveled_rules (length sys.arities) sys.rules → arities ≡ (unraveled sys).arities
    → IsSystem (unraveled sys) → IsSystem (system_of arities (map rule_view v))
made_sound sys v arities r a h = subst IsSystem (sym (ap₂ system_of a r)) h

-- the sides of a rule that is numbered anew have as many variables as before
pub counted_anew : (l r : Term) (order : List ℕ) (u v : Term) → order ≡ with_variables (with_variables [] l) r → u ≡ apply (numbered order) l → v ≡ apply (numbered order) r
    → length order ≡ length (variables_of (cons u (cons v nil)))
counted_anew l r order u v e a b =
    let ts = cons l (cons r nil) in
    let xs = variables_of ts in
    let first : u ≡ apply (numbered xs) l = a ∙ ap (λ (o : List ℕ). apply (numbered o) l) e in
    let second : v ≡ apply (numbered xs) r = b ∙ ap (λ (o : List ℕ). apply (numbered o) r) e in
    ap length e ∙ sym (length-map xs (index_in xs)) ∙ ap length (sym (list_renamed xs (index_in xs) (places_differ xs) ts (λ z o. variables_have_all z [] ts o)))
    ∙ ap₂ (λ (s t : Term). length (variables_of (cons s (cons t nil)))) (sym first) (sym second)

pub counted_more : (rs : List Rule) (q : Rule) (after : List Rule) → after ≡ rs ++ q ∷ [] → q.vars ≡ length (rule_variables (rule_view q)) → AreCounted rs → AreCounted after
counted_more rs q after e one h = subst AreCounted (sym e) (go rs h)
  where
    go : (ps : List Rule) → AreCounted ps → AreCounted (ps ++ q ∷ [])
    go [] h = (one, tt)
    go (p ∷ ps) h = (h.0, go ps h.1)

pub counted_through : (result : Result (Unit {0}) RuleError) (before mid after : List Rule) → (AreCounted before → AreCounted mid) → OnOk result (AreCounted mid → AreCounted after)
    → OnOk result (AreCounted before → AreCounted after)
counted_through (Ok _) before mid after f g = λ h. g (f h)
counted_through (Err e) before mid after f g = tt
