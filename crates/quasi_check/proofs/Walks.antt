-- The walks over right sides of conditions.
use Rattle.std.proofs.Common.{◌≡◌, ◌⊎◌, inl, inr, ℕ, ◌+◌, ◌<◌, ◌≤◌, List, Some, None, Option, length, map, get_or, sym, subst, arith, ap, ◌∙◌, option_map, slice_get, Bool, true, false, IsTrue, ◌↔◌}
use Rattle.std.proofs.lemmas.Bool.{false≢true}
use Rattle.std.proofs.lemmas.List.{length-map}
use Rattle.std.proofs.lemmas.Option.{slice_get-get_or, slice_get-map}
use Rattle.rewriting.specs.Prelude.{Condition, Rule, System, rule_at, IsAt}
use Rattle.unifier_run.specs.Irreducible.{DoAllClash}
use Rattle.valid_certificates.specs.Confluence.{IsFirstReducible}
use Rattle.term_core.specs.declared.systems.Cond.{Cond}
use Rattle.term_core.specs.RuleView.{condition_view}
use Rattle.quasi_check.specs.declared.sides.SidePlace.{SidePlace}
use Rattle.quasi_check.specs.Sides.{DoSidesClash, IsFirstCondition, ConditionAnswers, SideAnswers}

-- the first condition of a rule whose earlier rules have none
pub first_of_all : (sys : System) (i : ℕ) (r : Rule) (k : ℕ) → rule_at sys (i + 1) ≡ Some r → ((j : ℕ) (q : Rule) → j ≤ i → rule_at sys j ≡ Some q → DoSidesClash sys q.conditions)
    → IsFirstCondition sys r.conditions k → IsFirstReducible sys (i + 1) k
first_of_all sys i r k is before f =
    record {
      rule = r;
      condition = f.condition;
      place = f.place;
      number = f.number;
      is_rule = is;
      is_condition = f.is_condition;
      earlier = go;
      fails = f.fails;
    }
  where
    go : (j : ℕ) (q : Rule) (n : ℕ) (c : Condition) → rule_at sys j ≡ Some q → IsAt q.conditions n c → (j < i + 1) ⊎ ((j ≡ i + 1) × (n < f.place)) → DoAllClash sys c.right
    go j q n c h at (inl less) = before j q (omega (arith, less)) h n c at
    go j q n c h at (inr (e, less)) =
        let there : rule_at sys (i + 1) ≡ Some q = subst (λ z. rule_at sys z ≡ Some q) e h in
        let same : q ≡ r = cc in
        f.earlier n c less (subst (λ z. IsAt z.conditions n c) same at)

-- the conditions of a list one after another
pub condition_here : (items : List Cond) (i : ℕ) (c : Cond) → i < length items → c ≡ get_or items i c → IsAt (map condition_view items) i (condition_view c)
condition_here items i c low is =
    let there : slice_get items i ≡ Some c = slice_get-get_or items i c low ∙ ap Some (sym is) in
    slice_get-map condition_view items i ∙ ap (option_map condition_view) there

pub none_left : (items : List Cond) (i : ℕ) → length items ≤ i → length (map condition_view items) ≤ i
none_left items i h = rw (length-map items condition_view) h

pub found_at : (sys : System) (cs ds : List Condition) (o : Option ℕ) (k : ℕ) → ConditionAnswers sys cs o → o ≡ Some k → cs ≡ ds → IsFirstCondition sys ds k
found_at sys cs ds o k h e same = subst (λ z. IsFirstCondition sys z k) same (subst (ConditionAnswers sys cs) e h)

pub none_found : (sys : System) (cs ds : List Condition) (o : Option ℕ) → ConditionAnswers sys cs o → o ≡ None → cs ≡ ds → DoSidesClash sys ds
none_found sys cs ds o h e same = subst (DoSidesClash sys) same (subst (ConditionAnswers sys cs) e h)

pub side_found : (sys : System) (o : Option SidePlace) (place : SidePlace) → SideAnswers sys o → o ≡ Some place → IsFirstReducible sys place.rule place.cond
side_found sys o place h e = subst (SideAnswers sys) e h

-- a test that decides a fact
pub fails_where : (b : Bool) (P : Type 0) → IsTrue b ↔ P → b ≡ false → P → ⊥
fails_where b P h e p = false≢true (sym e ∙ h.1 p)

pub holds_where : (b : Bool) (P : Type 0) → IsTrue b ↔ P → b ≡ true → P
holds_where b P h e = h.0 e
