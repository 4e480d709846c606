-- A rule with a condition inlined contracts what the rule contracts, up to steps that the condition asked for.
use Rattle.std.proofs.Common.{◌≡◌, ℕ, suc, Bool, true, false, refl, sym, ap, ◌∙◌, subst, subst₂, List, [], ◌∷◌, ◌++◌, map, take, drop, slice_get, Some, nat_eq, eqb-true, eq-eqb, if◌then◌else◌}
use Rattle.std.proofs.lemmas.Bool.{or_parts}
use Rattle.rewriting.specs.Prelude.{replacing}
use Rattle.rewriting.proofs.Common.{Relation, Term, var, Substitution, apply, compose, occurs, occurs_in, Signature, IsOver, Condition, Rule, right_sides, sides, Meets}
use Rattle.rewriting.proofs.Instances.{apply-apply, apply-agree}
use Rattle.rewriting.proofs.Levels.{Meets-agree}
use Rattle.rewriting.proofs.Conditions.{Meets-append}
use Rattle.rewriting.proofs.Over.{IsOver-apply}
use Rattle.simplifications.specs.Inlining.{Names, left_under, inlined_rule}
use Rattle.simplifications.proofs.Rules.{split_at}
use Rattle.simplifications.proofs.ByRule.{ByRule}

meets_front : (S : Relation Term) (s : Substitution) (cs ds : List Condition) → Meets S s (cs ++ ds) → Meets S s cs
meets_front S s [] ds h = tt
meets_front S s (c ∷ cs) ds h = (h.0, meets_front S s cs ds h.1)

meets_behind : (S : Relation Term) (s : Substitution) (cs ds : List Condition) → Meets S s (cs ++ ds) → Meets S s ds
meets_behind S s [] ds h = h
meets_behind S s (c ∷ cs) ds h = meets_behind S s cs ds h.1

-- a number without a property is another than one that has it
other_number : (p : ℕ → Bool) (x y : ℕ) → p x ≡ false → p y ≡ true → nat_eq y x ≡ false
other_number p x y none there = go (nat_eq y x) refl
  where
    go : (b : Bool) → nat_eq y x ≡ b → nat_eq y x ≡ false
    go false e = e
    go true e = (let same : y ≡ x = eqb-true y x e in let bad : true ≡ false = sym there ∙ ap p same ∙ none in cc)

module _ (ar : Signature) (S : Relation Term) (r : Rule) (k : ℕ) (c : Condition) (x : ℕ) (is : slice_get r.conditions k ≡ Some c) (names : Names r k c x) where
  abbrev front : List Condition
  front = take k r.conditions

  abbrev behind : List Condition
  behind = drop (suc k) r.conditions

  -- the condition's left side for its variable, and then s
  abbrev named : Substitution → Substitution
  named s = compose (replacing x c.left) s

  named_here : (s : Substitution) → named s x ≡ apply s c.left
  named_here s = rw (eq-eqb x x refl) refl

  named_other : (s : Substitution) (y : ℕ) → nat_eq y x ≡ false → named s y ≡ s y
  named_other s y e = rw e refl

  -- from the rule with the condition inlined to the rule
  module _ (over : IsOver ar c.left) (here : (a : Term) → S a a) where
    named_over : (s : Substitution) → ((y : ℕ) → IsOver ar (s y)) → (y : ℕ) → IsOver ar (named s y)
    named_over s values y = go (nat_eq y x)
      where
        go : (b : Bool) → IsOver ar (apply s (if b then c.left else var y))
        go true = IsOver-apply ar s c.left values over
        go false = values y

    meets_later : (s : Substitution) (cs : List Condition) → occurs_in x (right_sides cs) ≡ false → Meets S s (map (left_under (replacing x c.left)) cs) → Meets S (named s) cs
    meets_later s [] none h = tt
    meets_later s (d ∷ cs) none (h, hs) = (
      subst₂ S (apply-apply (replacing x c.left) s d.left)
          (sym (apply-agree (named s) s d.right (λ y o. named_other s y (other_number (λ z. occurs z d.right) x y (or_parts _ _ none).0 o)))) h,
      meets_later s cs (or_parts (occurs x d.right) _ none).1 hs,
    )

    own_met : (s : Substitution) → S (apply (named s) c.left) (apply (named s) c.right)
    own_met s =
        let to_left : apply (named s) c.left ≡ apply s c.left = apply-agree (named s) s c.left (λ y o. named_other s y (other_number (λ z. occurs z c.left) x y names.not_in_own o)) in
        let to_right : apply (named s) c.right ≡ apply s c.left = ap (apply (named s)) names.variable ∙ named_here s in
        subst₂ S (sym to_left) (sym to_right) (here (apply s c.left))

    pub from_inlined : (u v : Term) → ByRule ar S (inlined_rule r k c.left x) u v → ByRule ar S r u v
    from_inlined u v b =
        record {
          by = named b.by;
          values = named_over b.by b.values;
          holds = subst (Meets S (named b.by)) (sym (split_at r.conditions k c is))
              (Meets-append S (named b.by) front (c ∷ behind)
              (Meets-agree S b.by (named b.by) front (λ y o. sym (named_other b.by y (other_number (λ z. occurs_in z (sides front)) x y names.not_before o))) (meets_front S b.by front _ b.holds))
              (own_met b.by, meets_later b.by behind names.not_asked_behind (meets_behind S b.by front _ b.holds)));
          left = b.left ∙ sym (apply-agree (named b.by) b.by r.left (λ y o. named_other b.by y (other_number (λ z. occurs z r.left) x y names.not_in_left o)));
          right = b.right ∙ apply-apply (replacing x c.left) b.by r.right;
        }

  -- from the rule to the one with the condition inlined, and then on
  module _ (here : (a : Term) → S a a) (on : (p q w : Term) → S p q → S q w → S p w)
      (instances : (s t : Substitution) (u : Term) → ((y : ℕ) → occurs y u ≡ true → S (s y) (t y)) → S (apply s u) (apply t u)) where
    values_reached : (s : Substitution) → S (apply s c.left) (s x) → (y : ℕ) → S (named s y) (s y)
    values_reached s h y = go (nat_eq y x) refl
      where
        go : (b : Bool) → nat_eq y x ≡ b → S (named s y) (s y)
        go true e = (let same : y ≡ x = eqb-true y x e in subst (λ z. S (named s z) (s z)) (sym same) (subst (λ w. S w (s x)) (sym (named_here s)) h))
        go false e = subst (λ w. S w (s y)) (sym (named_other s y e)) (here (s y))

    instance_reached : (s : Substitution) → S (apply s c.left) (s x) → (t : Term) → S (apply s (apply (replacing x c.left) t)) (apply s t)
    instance_reached s h t = subst (λ w. S w (apply s t)) (sym (apply-apply (replacing x c.left) s t)) (instances (named s) s t (λ y o. values_reached s h y))

    meets_inlined : (s : Substitution) → S (apply s c.left) (s x) → (cs : List Condition) → Meets S s cs → Meets S s (map (left_under (replacing x c.left)) cs)
    meets_inlined s h [] m = tt
    meets_inlined s h (d ∷ cs) (m, ms) = (on _ _ _ (instance_reached s h d.left) m, meets_inlined s h cs ms)

    pub to_inlined : (u v : Term) → ByRule ar S r u v → (w : Term) × ByRule ar S (inlined_rule r k c.left x) u w × S w v
    to_inlined u v b =
        let met : Meets S b.by (front ++ c ∷ behind) = subst (Meets S b.by) (split_at r.conditions k c is) b.holds in
        let own : S (apply b.by c.left) (apply b.by c.right) = (meets_behind S b.by front (c ∷ behind) met).0 in
        let h : S (apply b.by c.left) (b.by x) = subst (λ w. S (apply b.by c.left) w) (ap (apply b.by) names.variable) own in (
          apply b.by (apply (replacing x c.left) r.right),
          record {
            by = b.by;
            values = b.values;
            holds = Meets-append S b.by front (map (left_under (replacing x c.left)) behind) (meets_front S b.by front (c ∷ behind) met)
                (meets_inlined b.by h behind (meets_behind S b.by front (c ∷ behind) met).1);
            left = b.left;
            right = refl;
          },
          subst (S (apply b.by (apply (replacing x c.left) r.right))) (sym b.right) (instance_reached b.by h r.right),
        )
