-- Each term has a cap, or a run inside passes the size; so conditions have a judgement, and two terms an outcome.
use Rattle.std.proofs.Common.{ℕ, ◌≡◌, ◌≢◌, ◌+◌, ◌⊎◌, inl, inr, refl, sym, ap, ◌∙◌, suc, List, [], ◌∷◌, Option, None, Some}
use Rattle.rewriting.specs.Prelude.{Term, var, app, Terms, nil, cons, count, Substitution, apply, apply_all, even, odd, Condition, System, left_sides, right_sides}
use Rattle.certificates.specs.Reasons.{EvidenceReason, tcap_unifies, tcap_large}
use Rattle.unifier_run.specs.Run.{Outcome, unifier, clash, too_large, IsOutcome}
use Rattle.unifier_run.specs.Irreducible.{DoRulesClash, IsFirstRule}
use Rattle.rewriting.proofs.Over.{count-apply}
use Rattle.unifier_run.proofs.Total.{outcome_exists, outcome_of, first_rule}
use Rattle.caps.specs.Caps.{Cap, hole, node, Caps, no_caps, caps, holes, any, all_filled, frozen_from, frozen, IsCapOf, AreCapsOf, IsCapLarge, AreCapsLarge}
use Rattle.caps.specs.Evidence.{JudgedByCaps, past_both, IsPairOutcome}

-- a symbol over capped arguments
at_node : (sys : System) (leaf : ℕ → Cap) (f : ℕ) (ts : Terms) (cs : Caps) → AreCapsOf sys leaf ts cs
    → DoRulesClash sys (frozen sys (node f cs)) ⊎ ((o : Outcome) × (o ≢ clash) × IsFirstRule sys (frozen sys (node f cs)) o)
    → ((c : Cap) × IsCapOf sys leaf (app f ts) c) ⊎ IsCapLarge sys leaf (app f ts)
at_node sys leaf f ts cs are (inl all) = inl (node f cs, (cs, are, inl (all, refl)))
at_node sys leaf f ts cs are (inr (unifier b, n, first)) = inl (hole, (cs, are, inr ((b, first), refl)))
at_node sys leaf f ts cs are (inr (clash, n, first)) = absurd (n refl)
at_node sys leaf f ts cs are (inr (too_large, n, first)) = inr (inr (cs, are, first))

both_caps : (sys : System) (leaf : ℕ → Cap) (t : Term) (ts : Terms) → ((c : Cap) × IsCapOf sys leaf t c) ⊎ IsCapLarge sys leaf t → ((cs : Caps) × AreCapsOf sys leaf ts cs) ⊎ AreCapsLarge sys leaf ts
    → ((cs : Caps) × AreCapsOf sys leaf (cons t ts) cs) ⊎ AreCapsLarge sys leaf (cons t ts)
both_caps sys leaf t ts (inl (c, is)) (inl (cs, are)) = inl (caps c cs, (c, cs, refl, is, are))
both_caps sys leaf t ts (inl (c, is)) (inr h) = inr (inr h)
both_caps sys leaf t ts (inr h) r = inr (inl h)

mutual
  pub cap_exists : (sys : System) (leaf : ℕ → Cap) (t : Term) → ((c : Cap) × IsCapOf sys leaf t c) ⊎ IsCapLarge sys leaf t
  cap_exists sys leaf (var x) = inl (leaf x, refl)
  cap_exists sys leaf (app f ts) = go (caps_exist sys leaf ts)
    where
      go : ((cs : Caps) × AreCapsOf sys leaf ts cs) ⊎ AreCapsLarge sys leaf ts → ((c : Cap) × IsCapOf sys leaf (app f ts) c) ⊎ IsCapLarge sys leaf (app f ts)
      go (inl (cs, are)) = at_node sys leaf f ts cs are (first_rule sys (frozen sys (node f cs)))
      go (inr h) = inr (inl h)

  pub caps_exist : (sys : System) (leaf : ℕ → Cap) (ts : Terms) → ((cs : Caps) × AreCapsOf sys leaf ts cs) ⊎ AreCapsLarge sys leaf ts
  caps_exist sys leaf nil = inl (no_caps, refl)
  caps_exist sys leaf (cons t ts) = both_caps sys leaf t ts (cap_exists sys leaf t) (caps_exist sys leaf ts)

-- there are as many caps as terms
count_caps : (sys : System) (leaf : ℕ → Cap) (s : Substitution) (ts : Terms) (cs : Caps) (n : ℕ) → AreCapsOf sys leaf ts cs → count (all_filled s n cs) ≡ count ts
count_caps sys leaf s nil cs n e = ap (λ z. count (all_filled s n z)) e
count_caps sys leaf s (cons t ts) cs n (d, ds, e, is, are) = ap (λ z. count (all_filled s n z)) e ∙ ap suc (count_caps sys leaf s ts ds (n + holes d) are)

count_sides : (cs : List Condition) → count (left_sides cs) ≡ count (right_sides cs)
count_sides [] = refl
count_sides (c ∷ cs) = ap suc (count_sides cs)

-- conditions have a judgement by caps
pub caps_total : (sys : System) (cs : List Condition) → (o : Option EvidenceReason) × JudgedByCaps sys cs o
caps_total sys cs = go (caps_exist sys any (left_sides cs))
  where
    judged : (lefts : Caps) → AreCapsOf sys any (left_sides cs) lefts → (o : Outcome) × IsOutcome (apply_all even (all_filled var 0 lefts)) (apply_all odd (right_sides cs)) o
        → (o : Option EvidenceReason) × JudgedByCaps sys cs o
    judged lefts are (clash, r) = (None, record { lefts = lefts; are = are; outcome = r })
    judged lefts are (unifier b, r) = (Some tcap_unifies, (b, record { lefts = lefts; are = are; outcome = r }))
    judged lefts are (too_large, r) = (Some tcap_large, inr (record { lefts = lefts; are = are; outcome = r }))

    go : ((lefts : Caps) × AreCapsOf sys any (left_sides cs) lefts) ⊎ AreCapsLarge sys any (left_sides cs) → (o : Option EvidenceReason) × JudgedByCaps sys cs o
    go (inl (lefts, are)) = judged lefts are (outcome_exists _ _
        (count-apply even (all_filled var 0 lefts) ∙ (count_caps sys any var (left_sides cs) lefts 0 are ∙ (count_sides cs ∙ sym (count-apply odd (right_sides cs))))))
    go (inr h) = (Some tcap_large, inl h)

-- two terms have an outcome, or one of them has no cap; `leaf` is `any` for caps, and `kept` for rigid ones
pub pair_total : (sys : System) (leaf : ℕ → Cap) (u v : Term) → ((o : Outcome) × IsPairOutcome sys leaf u v o) ⊎ (IsCapLarge sys leaf u ⊎ IsCapLarge sys leaf v)
pair_total sys leaf u v = go (cap_exists sys leaf u) (cap_exists sys leaf v)
  where
    go : ((c : Cap) × IsCapOf sys leaf u c) ⊎ IsCapLarge sys leaf u → ((c : Cap) × IsCapOf sys leaf v c) ⊎ IsCapLarge sys leaf v
        → ((o : Outcome) × IsPairOutcome sys leaf u v o) ⊎ (IsCapLarge sys leaf u ⊎ IsCapLarge sys leaf v)
    go (inl (c, is)) (inl (d, at)) = let base = past_both sys c d in let r = outcome_of (apply even (frozen_from base c)) (apply odd (frozen_from base d)) in
        inl (r.0, record { first = c; second = d; is_first = is; is_second = at; outcome = r.1 })
    go (inl c) (inr h) = inr (inr h)
    go (inr h) d = inr (inl h)
