-- When the variables of a `Rule` are numbered.
use Rattle.std.proofs.Common.{◌≡◌, ℕ, ◌↔◌, ◌<◌, ◌^◌, ◌∙◌, sym, subst, nat_eq, eqb-true, eq-eqb, IsTrue}
use Rattle.rewriting.specs.Systems.{rule_variables}
use Rattle.term_core.specs.RuleView.{rule_view}
use Rattle.term_core.specs.Numbering.{IsNumbered, AreFirst}
use Rattle.term_core.specs.declared.systems.Rule.{Rule}
use Rattle.term_core.proofs.Numbers.{counts_first, first_counts, first_length}

module _ (r : Rule) where
  told : IsNumbered r → AreFirst (rule_variables (rule_view r)) r.vars
  told h = subst (AreFirst (rule_variables (rule_view r))) (sym h.counted) (counts_first _ h.numbered (subst (λ n. n < 2 ^ 31) h.counted h.few))

  pub numbered_where : (n : ℕ) → AreFirst (rule_variables (rule_view r)) n → IsTrue (nat_eq n r.vars) ↔ IsNumbered r
  numbered_where n f = (to, from)
    where
      to : IsTrue (nat_eq n r.vars) → IsNumbered r
      to e =
          let same : n ≡ r.vars = eqb-true n r.vars e in
          record { numbered = first_counts _ n f; counted = sym same ∙ sym (first_length _ n f); few = subst (λ m. m < 2 ^ 31) same f.few }

      from : IsNumbered r → IsTrue (nat_eq n r.vars)
      from h = eq-eqb n r.vars (sym (first_length _ n f) ∙ sym h.counted)

  pub not_numbered : ((m : ℕ) → AreFirst (rule_variables (rule_view r)) m → ⊥) → IsNumbered r → ⊥
  not_numbered none h = none r.vars (told h)
