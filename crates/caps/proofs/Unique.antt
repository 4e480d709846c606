-- A term has at most one cap, conditions have one judgement, and two terms one outcome.
use Rattle.std.proofs.Common.{ℕ, ◌≡◌, ◌⊎◌, inl, inr, refl, sym, ap, ap₂, ◌∙◌, subst, subst₂, List, Option, None, Some}
use Rattle.rewriting.specs.Prelude.{Term, var, app, Terms, nil, cons, apply, apply_all, even, odd, Condition, Rule, System, rule_at, left_sides, right_sides}
use Rattle.rewriting.proofs.Conditions.{Order, is_smaller, is_equal, is_greater, order}
use Rattle.certificates.specs.Reasons.{EvidenceReason, tcap_unifies, tcap_large}
use Rattle.unifier_run.specs.Run.{Binding, Outcome, unifier, clash, too_large, IsOutcome}
use Rattle.unifier_run.specs.Overlaps.{IsOutcomeOf}
use Rattle.unifier_run.specs.Irreducible.{DoRulesClash, IsFirstRule}
use Rattle.unifier_run.proofs.Unique.{runs_same}
use Rattle.caps.specs.Caps.{Cap, node, Caps, caps, any, all_filled, frozen_from, frozen, IsTop, IsCapOf, AreCapsOf, IsCapLarge, AreCapsLarge}
use Rattle.caps.specs.Evidence.{IsCapOutcome, JudgedByCaps, past_both, IsPairOutcome}
use Rattle.caps.specs.Laws.{IsOneCap, IsOneOutcome}

-- the first rule whose run does not clash
same_rule : (sys : System) (i k : ℕ) (q r : Rule) → rule_at sys i ≡ Some q → rule_at sys k ≡ Some r → i ≡ k → q ≡ r
same_rule sys i k q r e h s = (let both : rule_at sys i ≡ rule_at sys k = ap (rule_at sys) s in cc)

pub first_rule_same : (sys : System) (t : Term) (o p : Outcome) → (o ≡ clash → ⊥) → (p ≡ clash → ⊥) → IsFirstRule sys t o → IsFirstRule sys t p → o ≡ p
first_rule_same sys t o p not_o not_p h k = go (order h.number k.number)
  where
    go : Order h.number k.number → o ≡ p
    go (is_smaller l) = absurd (not_o (runs_same h.outcome (k.before h.number h.rule h.is_rule l)))
    go (is_greater l) = absurd (not_p (runs_same k.outcome (h.before k.number k.rule k.is_rule l)))
    go (is_equal e) = runs_same (subst (λ r. IsOutcomeOf r.left t o) (same_rule sys h.number k.number h.rule k.rule h.is_rule k.is_rule e) h.outcome) k.outcome

pub clash_or_first : (sys : System) (t : Term) (o : Outcome) → (o ≡ clash → ⊥) → DoRulesClash sys t → IsFirstRule sys t o → ⊥
clash_or_first sys t o not_o all h = not_o (runs_same h.outcome (all h.number h.rule h.is_rule))

pub unifier_no_clash : (b : List Binding) → unifier b ≡ clash → ⊥
unifier_no_clash b e = cc

pub large_no_clash : too_large ≡ clash → ⊥
large_no_clash e = cc

pub unifier_or_large : (b : List Binding) → unifier b ≡ too_large → ⊥
unifier_or_large b e = cc

top_same : (sys : System) (a b c d : Cap) → a ≡ b → IsTop sys a c → IsTop sys b d → c ≡ d
top_same sys a b c d s (inl (h, e)) (inl (k, q)) = e ∙ (s ∙ sym q)
top_same sys a b c d s (inl (h, e)) (inr ((m, k), q)) = absurd (clash_or_first sys (frozen sys b) (unifier m) (unifier_no_clash m) (subst (λ z. DoRulesClash sys (frozen sys z)) s h) k)
top_same sys a b c d s (inr ((m, h), e)) (inl (k, q)) = absurd (clash_or_first sys (frozen sys b) (unifier m) (unifier_no_clash m) k (subst (λ z. IsFirstRule sys (frozen sys z) (unifier m)) s h))
top_same sys a b c d s (inr (h, e)) (inr (k, q)) = e ∙ sym q

top_never_large : (sys : System) (a b c : Cap) → a ≡ b → IsTop sys a c → IsFirstRule sys (frozen sys b) too_large → ⊥
top_never_large sys a b c s (inl (h, e)) k = clash_or_first sys (frozen sys b) too_large large_no_clash (subst (λ z. DoRulesClash sys (frozen sys z)) s h) k
top_never_large sys a b c s (inr ((m, h), e)) k =
    unifier_or_large m (first_rule_same sys (frozen sys b) (unifier m) too_large (unifier_no_clash m) large_no_clash (subst (λ z. IsFirstRule sys (frozen sys z) (unifier m)) s h) k)

mutual
  pub cap_same : (sys : System) (leaf : ℕ → Cap) (t : Term) (c d : Cap) → IsCapOf sys leaf t c → IsCapOf sys leaf t d → c ≡ d
  cap_same sys leaf (var x) c d h k = h ∙ sym k
  cap_same sys leaf (app f ts) c d (cs, hs, h) (ds, ks, k) = top_same sys (node f cs) (node f ds) c d (ap (node f) (caps_same sys leaf ts cs ds hs ks)) h k

  pub caps_same : (sys : System) (leaf : ℕ → Cap) (ts : Terms) (cs ds : Caps) → AreCapsOf sys leaf ts cs → AreCapsOf sys leaf ts ds → cs ≡ ds
  caps_same sys leaf nil cs ds h k = h ∙ sym k
  caps_same sys leaf (cons t ts) cs ds (c, cs', e, h, hs) (d, ds', q, k, ks) = e ∙ (ap₂ caps (cap_same sys leaf t c d h k) (caps_same sys leaf ts cs' ds' hs ks) ∙ sym q)

mutual
  pub cap_never_large : (sys : System) (leaf : ℕ → Cap) (t : Term) (c : Cap) → IsCapOf sys leaf t c → IsCapLarge sys leaf t → ⊥
  cap_never_large sys leaf (var x) c h k = k
  cap_never_large sys leaf (app f ts) c (cs, hs, h) (inl k) = caps_never_large sys leaf ts cs hs k
  cap_never_large sys leaf (app f ts) c (cs, hs, h) (inr (ds, ks, k)) = top_never_large sys (node f cs) (node f ds) c (ap (node f) (caps_same sys leaf ts cs ds hs ks)) h k

  pub caps_never_large : (sys : System) (leaf : ℕ → Cap) (ts : Terms) (cs : Caps) → AreCapsOf sys leaf ts cs → AreCapsLarge sys leaf ts → ⊥
  caps_never_large sys leaf nil cs h k = k
  caps_never_large sys leaf (cons t ts) cs (d, ds, e, h, hs) (inl k) = cap_never_large sys leaf t d h k
  caps_never_large sys leaf (cons t ts) cs (d, ds, e, h, hs) (inr k) = caps_never_large sys leaf ts ds hs k

pub one_cap : (sys : System) (leaf : ℕ → Cap) (t : Term) → IsOneCap sys leaf t
one_cap sys leaf t = record { one = cap_same sys leaf t; never_both = cap_never_large sys leaf t }

-- judgements
cap_outcome_same : (sys : System) (cs : List Condition) (o p : Outcome) → IsCapOutcome sys cs o → IsCapOutcome sys cs p → o ≡ p
cap_outcome_same sys cs o p h k =
    runs_same (subst (λ z. IsOutcome (apply_all even (all_filled var 0 z)) (apply_all odd (right_sides cs)) o) (caps_same sys any (left_sides cs) h.lefts k.lefts h.are k.are) h.outcome) k.outcome

-- a judgement with what it comes from
data Judgement (sys : System) (cs : List Condition) (o : Option EvidenceReason) : Type 0 where
  clashes : IsCapOutcome sys cs clash → o ≡ None → Judgement sys cs o
  unifies : (b : List Binding) → IsCapOutcome sys cs (unifier b) → o ≡ Some tcap_unifies → Judgement sys cs o
  cap_is_large : AreCapsLarge sys any (left_sides cs) → o ≡ Some tcap_large → Judgement sys cs o
  run_is_large : IsCapOutcome sys cs too_large → o ≡ Some tcap_large → Judgement sys cs o

either_large : (sys : System) (cs : List Condition) → AreCapsLarge sys any (left_sides cs) ⊎ IsCapOutcome sys cs too_large → Judgement sys cs (Some tcap_large)
either_large sys cs (inl h) = cap_is_large h refl
either_large sys cs (inr h) = run_is_large h refl

judgement : (sys : System) (cs : List Condition) (o : Option EvidenceReason) → JudgedByCaps sys cs o → Judgement sys cs o
judgement sys cs None h = clashes h refl
judgement sys cs (Some tcap_unifies) (b, h) = unifies b h refl
judgement sys cs (Some tcap_large) h = either_large sys cs h
judgement sys cs (Some _) h = absurd h

never_large : (sys : System) (cs : List Condition) (o : Outcome) → IsCapOutcome sys cs o → AreCapsLarge sys any (left_sides cs) → ⊥
never_large sys cs o h k = caps_never_large sys any (left_sides cs) h.lefts h.are k

judgement_same : (sys : System) (cs : List Condition) (o p : Option EvidenceReason) → Judgement sys cs o → Judgement sys cs p → o ≡ p
judgement_same sys cs o p (clashes h e) (clashes k q) = e ∙ sym q
judgement_same sys cs o p (clashes h e) (unifies b k q) = absurd (unifier_no_clash b (cap_outcome_same sys cs (unifier b) clash k h))
judgement_same sys cs o p (clashes h e) (cap_is_large k q) = absurd (never_large sys cs clash h k)
judgement_same sys cs o p (clashes h e) (run_is_large k q) = absurd (large_no_clash (cap_outcome_same sys cs too_large clash k h))
judgement_same sys cs o p (unifies b h e) (clashes k q) = absurd (unifier_no_clash b (cap_outcome_same sys cs (unifier b) clash h k))
judgement_same sys cs o p (unifies b h e) (unifies c k q) = e ∙ sym q
judgement_same sys cs o p (unifies b h e) (cap_is_large k q) = absurd (never_large sys cs (unifier b) h k)
judgement_same sys cs o p (unifies b h e) (run_is_large k q) = absurd (unifier_or_large b (cap_outcome_same sys cs (unifier b) too_large h k))
judgement_same sys cs o p (cap_is_large h e) (clashes k q) = absurd (never_large sys cs clash k h)
judgement_same sys cs o p (cap_is_large h e) (unifies b k q) = absurd (never_large sys cs (unifier b) k h)
judgement_same sys cs o p (cap_is_large h e) (cap_is_large k q) = e ∙ sym q
judgement_same sys cs o p (cap_is_large h e) (run_is_large k q) = e ∙ sym q
judgement_same sys cs o p (run_is_large h e) (clashes k q) = absurd (large_no_clash (cap_outcome_same sys cs too_large clash h k))
judgement_same sys cs o p (run_is_large h e) (unifies b k q) = absurd (unifier_or_large b (cap_outcome_same sys cs (unifier b) too_large k h))
judgement_same sys cs o p (run_is_large h e) (cap_is_large k q) = e ∙ sym q
judgement_same sys cs o p (run_is_large h e) (run_is_large k q) = e ∙ sym q

pub one_judgement : (sys : System) (cs : List Condition) (o p : Option EvidenceReason) → JudgedByCaps sys cs o → JudgedByCaps sys cs p → o ≡ p
one_judgement sys cs o p h k = judgement_same sys cs o p (judgement sys cs o h) (judgement sys cs p k)

-- outcomes of two terms
abbrev pair_run : System → Outcome → Cap → Cap → Type 0
pair_run sys o c d = IsOutcome (cons (apply even (frozen_from (past_both sys c d) c)) nil) (cons (apply odd (frozen_from (past_both sys c d) d)) nil) o

pair_same : (sys : System) (leaf : ℕ → Cap) (u v : Term) (o p : Outcome) → IsPairOutcome sys leaf u v o → IsPairOutcome sys leaf u v p → o ≡ p
pair_same sys leaf u v o p h k =
    runs_same (subst₂ (pair_run sys o) (cap_same sys leaf u h.first k.first h.is_first k.is_first) (cap_same sys leaf v h.second k.second h.is_second k.is_second) h.outcome) k.outcome

pub one_outcome : (sys : System) (leaf : ℕ → Cap) (u v : Term) → IsOneOutcome sys leaf u v
one_outcome sys leaf u v =
    record {
      one = pair_same sys leaf u v;
      never_both = λ o h. (cap_never_large sys leaf u h.first h.is_first, cap_never_large sys leaf v h.second h.is_second);
    }
