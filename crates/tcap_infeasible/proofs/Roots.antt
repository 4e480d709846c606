-- The tries of a root's rules, as the program makes them.
use Rattle.std.proofs.Common.{ℕ, zero, suc, ◌≡◌, ◌+◌, ◌-◌, ◌<◌, ◌≤◌, ◌↔◌, Bool, false, true, IsTrue, IsSome, List, [], ◌∷◌, map, length, drop, get_or, Some, refl, sym, ap, ◌∙◌}
use Rattle.std.proofs.Common.{subst, arith, slice_get, add-one}
use Rattle.std.proofs.Math.Seq.{drop-cons}
use Rattle.std.proofs.lemmas.List.{length-map}
use Rattle.rewriting.specs.Prelude.{Term, cons, nil, Fits, occurs, IsLinear, IsDisjoint, System, rule_at, IsSystem}
use Rattle.rewriting.proofs.Instances.{or_cases}
use Rattle.rewriting.specs.Rules as math
use Rattle.rewriting.proofs.Systems.{is_rule_at}
use Rattle.unifier_run.specs.Run.{Outcome, clash, IsOutcome}
use Rattle.caps.specs.Caps.{Cap, frozen}
use Rattle.term_core.specs.Prelude.{view, rule_view}
use Rattle.term_core.specs.declared.systems.Rule.{Rule}
use Rattle.tcap_infeasible.specs.Frozen.{IsHeld}
use Rattle.tcap_infeasible.proofs.Rebased.{HasLike, HasFirstLike, clash_like}
use Rattle.tcap_infeasible.proofs.Filled.{held_from}
use Rattle.tcap_infeasible.proofs.Tried.{left_small, outcome_of, AreBefore, one_more, Tried, Next, tried_next}

within : (rs : List math.Rule) (i : ℕ) (r : math.Rule) → slice_get rs i ≡ Some r → i < length rs
within [] i r e = absurd (cc)
within (q ∷ rs) zero r e = omega arith
within (q ∷ rs) (suc i) r e = let k = within rs i r e in omega (arith, k)

rule_there : (rs : List Rule) (i : ℕ) (d : Rule) → i < length rs → slice_get (map rule_view rs) i ≡ Some (rule_view (get_or rs i d))
rule_there [] i d h = absurd (omega (arith, h))
rule_there (q ∷ rs) zero d h = refl
rule_there (q ∷ rs) (suc i) d h = rule_there rs i d (omega (arith, h))

module _ (sys : System) (f : ℕ) (t : Term) (numbers : List ℕ) (k : ℕ) (sound : IsSystem sys) where
  pub following : Tried sys f t numbers k → k < length numbers → Next sys f t (get_or numbers k 0) (drop (suc k) numbers)
  following tried h = tried_next sys f t numbers k (get_or numbers k 0) sound tried (drop-cons numbers k 0 h)

  pub number_low : Tried sys f t numbers k → k < length numbers → 1 ≤ get_or numbers k 0
  number_low tried h = let e = (following tried h).number_is in omega (arith, e)

  pub number_high : (rules : List Rule) → map rule_view rules ≡ sys.rules → Tried sys f t numbers k → k < length numbers → get_or numbers k 0 - 1 < length rules
  number_high rules same tried h =
      let n = following tried h in
      let e = n.number_is in
      let w = within sys.rules n.passed n.rule n.is_rule in
      let l : length sys.rules ≡ length rules = ap length (sym same) ∙ simp length-map in
      omega (arith, e, w, l)

  at_place : (rules : List Rule) (d : Rule) → map rule_view rules ≡ sys.rules → (n : Next sys f t (get_or numbers k 0) (drop (suc k) numbers))
      → n.rule ≡ rule_view (get_or rules (get_or numbers k 0 - 1) d)
  at_place rules d same n =
      let before : n.passed ≡ get_or numbers k 0 - 1 = (let i = n.number_is in omega (arith, i)) in
      let w = within sys.rules n.passed n.rule n.is_rule in
      let l : length sys.rules ≡ length rules = ap length (sym same) ∙ simp length-map in
      let there = rule_there rules n.passed d (omega (arith, w, l)) in
      same_rule (sym n.is_rule ∙ (ap (λ z. slice_get z n.passed) (sym same) ∙ (there ∙ ap (λ z. Some (rule_view (get_or rules z d))) before)))
    where
      same_rule : {p q : math.Rule} → Some p ≡ Some q → p ≡ q
      same_rule h = cc

  outcome_at : (rules : List Rule) (d : Rule) (o : Outcome) → map rule_view rules ≡ sys.rules → (next : Next sys f t (get_or numbers k 0) (drop (suc k) numbers))
      → IsOutcome (cons (view (get_or rules (get_or numbers k 0 - 1) d).left) nil) (cons t nil) o → (n : ℕ) (c : Cap) → IsHeld sys f t n c → HasLike next.rule.left (frozen sys c) o
  outcome_at rules d o same next run n c held =
      outcome_of sys next.rule f t n c o (is_rule_at sys.arities sys.rules next.passed next.rule sound.rules next.is_rule) held
      (subst (λ z. IsOutcome (cons z.left nil) (cons t nil) o) (sym (at_place rules d same next)) run)

  pub first_at : (rules : List Rule) (d : Rule) (o : Outcome) → map rule_view rules ≡ sys.rules → Tried sys f t numbers k → k < length numbers
      → IsOutcome (cons (view (get_or rules (get_or numbers k 0 - 1) d).left) nil) (cons t nil) o → (n : ℕ) (c : Cap) → IsHeld sys f t n c → HasFirstLike sys (frozen sys c) o
  first_at rules d o same tried h run n c held =
      let next = following tried h in
      let like = outcome_at rules d o same next run n c held in (
        like.0,
        like.1,
        record {
          number = get_or numbers k 0;
          rule = next.rule;
          is_rule = subst (λ z. rule_at sys z ≡ Some next.rule) (sym next.number_is) next.is_rule;
          outcome = like.2;
          before = λ i q at less. next.clash n c held i q at (let m = next.number_is in omega (arith, m, less));
        },
      )

  pub one_tried : (rules : List Rule) (d : Rule) → map rule_view rules ≡ sys.rules → Tried sys f t numbers k → k < length numbers
      → IsOutcome (cons (view (get_or rules (get_or numbers k 0 - 1) d).left) nil) (cons t nil) clash → Tried sys f t numbers (k + 1)
  one_tried rules d same tried h run =
      let next = following tried h in
      record {
        passed = get_or numbers k 0;
        rest = rw add-one next.rest_is;
        clash = λ n c held. subst (AreBefore sys (frozen sys c)) (sym next.number_is)
            (one_more sys (frozen sys c) next.passed next.rule next.is_rule
            (clash_like next.rule.left (frozen sys c) (outcome_at rules d clash same next run n c held)) (next.clash n c held));
      }

  -- the rule's number, and what its left side has
  pub is_number : Tried sys f t numbers k → k < length numbers → IsSome (rule_at sys (get_or numbers k 0))
  is_number tried h = let next = following tried h in subst (λ z. IsSome (rule_at sys z)) (sym next.number_is) (subst IsSome (sym next.is_rule) refl)

  pub left_fits : (rules : List Rule) (d : Rule) → map rule_view rules ≡ sys.rules → Tried sys f t numbers k → k < length numbers → Fits (view (get_or rules (get_or numbers k 0 - 1) d).left)
  left_fits rules d same tried h =
      let next = following tried h in subst (λ z. Fits z.left) (at_place rules d same next) (is_rule_at sys.arities sys.rules next.passed next.rule sound.rules next.is_rule).fits.0

  pub left_linear : (rules : List Rule) (d : Rule) (b : Bool) → map rule_view rules ≡ sys.rules → Tried sys f t numbers k → k < length numbers
      → ((r : math.Rule) → rule_at sys (get_or numbers k 0) ≡ Some r → (IsTrue b ↔ IsLinear r.left)) → IsTrue b → IsLinear (view (get_or rules (get_or numbers k 0 - 1) d).left)
  left_linear rules d b same tried h tells sure =
      let next = following tried h in
      subst (λ z. IsLinear z.left) (at_place rules d same next) ((tells next.rule (subst (λ z. rule_at sys z ≡ Some next.rule) (sym next.number_is) next.is_rule)).0 sure)

  pub left_apart : (rules : List Rule) (d : Rule) → map rule_view rules ≡ sys.rules → Tried sys f t numbers k → k < length numbers → (n : ℕ) (c : Cap) → IsHeld sys f t n c
      → IsDisjoint (view (get_or rules (get_or numbers k 0 - 1) d).left) (cons t nil)
  left_apart rules d same tried h n c held x o p =
      let next = following tried h in
      let small = left_small sys.arities next.rule (is_rule_at sys.arities sys.rules next.passed next.rule sound.rules next.is_rule) x
      (subst (λ z. occurs x z.left ≡ true) (sym (at_place rules d same next)) o) in
      or_cases (occurs x t) false p (λ q. (let large = held_from sys f t n c held x q in omega (arith, small, large))) (λ q. absurd (cc))
