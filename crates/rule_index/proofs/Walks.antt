-- The numbers of the rules with one root, walked in order.
use Rattle.std.proofs.Common.{◌≡◌, ℕ, zero, suc, ◌+◌, ◌<◌, true, eq-eqb, length, get_or, Some, refl, ap, subst, ◌∙◌, arith}
use Rattle.rewriting.specs.Prelude.{Term, Terms, app, Rule, System, rule_at}
use Rattle.rewriting.proofs.NumbersWhere as numbers
use Rattle.rewriting.proofs.NumbersWhere.{Stands}
use Rattle.rule_index.specs.Roots.{has_root, rules_with_root}

-- a term with a root is that symbol over arguments, and the other way round
pub root_of : (f : ℕ) (ts : Terms) (t : Term) → t ≡ app f ts → has_root f t ≡ true
root_of f ts t e = ap (has_root f) e ∙ eq-eqb f f refl

module _ (sys : System) (f : ℕ) where
  -- the numbers stand in order, none twice
  pub ascending : (j k : ℕ) → j < k → k < length (rules_with_root sys f) → get_or (rules_with_root sys f) j 0 < get_or (rules_with_root sys f) k 0
  ascending j k l h = numbers.rising (λ r. has_root f r.left) 1 sys.rules j k l h

  -- the number of each rule with the root stands in the list
  pub is_listed : (i : ℕ) (r : Rule) → rule_at sys i ≡ Some r → has_root f r.left ≡ true → Stands i (rules_with_root sys f)
  is_listed zero r e h = absurd (cc)
  is_listed (suc j) r e h =
      let next : 1 + j ≡ suc j = omega arith in
      subst (λ (i : ℕ). Stands i (rules_with_root sys f)) next (numbers.stands (λ r. has_root f r.left) 1 sys.rules j r e h)

  -- each number in the list is that of a rule with the root
  pub listed_rule : (k : ℕ) → k < length (rules_with_root sys f) → (r : Rule) × (rule_at sys (get_or (rules_with_root sys f) k 0) ≡ Some r) × (has_root f r.left ≡ true)
  listed_rule k h =
      let o = numbers.of_rule (λ r. has_root f r.left) 1 sys.rules k h in
      let e = o.is_number in
      let next : suc o.place ≡ get_or (rules_with_root sys f) k 0 = omega (arith, e) in
      (o.rule, subst (λ (i : ℕ). rule_at sys i ≡ Some o.rule) next o.is_rule, o.passes)
