-- Terms that do not fit, whose first run passes the size, and how many variables a term that fits has.
use Rattle.std.proofs.Common.{ℕ, zero, suc, ◌≡◌, ◌+◌, ◌*◌, ◌<◌, ◌^◌, ◌⊎◌, inl, inr, Bool, true, false, List, [], ◌∷◌, length, refl, sym, ap, ◌∙◌, subst, arith, slice_get, ◌==◌, map, Vec, Global}
use Rattle.rewriting.specs.Prelude.{Term, IsVariable, Fits, Position, IsBefore, apply, with_variables, odd, Rule, System}
use Rattle.term_core.specs.Prelude.{view, rule_view}
use Rattle.term_core.specs.declared.terms.Term as program
use Rattle.term_core.specs.declared.terms.Term.{Fun}
use Rattle.term_core.specs.declared.systems.Rule as program_rules
use Rattle.term_core.proofs.Views.{view-Fun}
use Rattle.rewriting.proofs.Lengths.{variables_length}
use Rattle.unifier_run.specs.Run.{clash, too_large, side_too_large, last_equation}
use Rattle.unifier_run.specs.Overlaps.{IsOutcomeOf}
use Rattle.unifier_run.specs.Irreducible.{IsTrial, IsFirstOutcome}
use Rattle.unifier_run.proofs.Values.{apply_nothing}
use Rattle.unifier_run.proofs.Renamed.{fits_without_names}

-- the first rule is tried on the whole term, and its run passes the size
pub judged_large : (sys : System) (t : Term) → (Fits t → ⊥) → (IsVariable t → ⊥) → 0 < length sys.rules → IsFirstOutcome sys t too_large
judged_large sys t n v some = go sys.rules refl
  where
    go : (rs : List Rule) → sys.rules ≡ rs → IsFirstOutcome sys t too_large
    go [] e = absurd (let none : length sys.rules ≡ 0 = ap length e in omega (arith, none, some))
    go (r ∷ rs) e =
        record {
          position = [];
          number = 1;
          part = t;
          rule = r;
          trial = record { is_part = refl; no_variable = v; is_rule = ap (λ z. slice_get z 0) e };
          outcome = last_equation (side_too_large (λ f. n (fits_without_names (λ k. 2 * k + 1) t (subst Fits (apply_nothing (apply odd t)) f.1))));
          before = before;
        }
      where
        before : (p : Position) (i : ℕ) (u : Term) (q : Rule) → IsTrial sys t p i u q → IsBefore p [] ⊎ ((p ≡ []) × (i < 1)) → IsOutcomeOf q.left u clash
        before [] i u q h (inl b) = absurd b
        before (k ∷ p) i u q h (inl b) = absurd b
        before p zero u q h (inr (e, l)) = (let none = h.is_rule in absurd (cc))
        before p (suc i) u q h (inr (e, l)) = absurd (omega (arith, l))

not_none : (n : ℕ) (empty : Bool) → empty ≡ (n == 0) → empty ≡ false → 0 < n
not_none zero empty e f = absurd (let both : true ≡ false = sym e ∙ f in cc)
not_none (suc n) empty e f = omega arith

length_views : (rs : List program_rules.Rule) → length (map rule_view rs) ≡ length rs
length_views [] = refl
length_views (r ∷ rs) = ap suc (length_views rs)

-- a symbol with arguments, where the program has found a rule
pub large_function : (sys : System) (t : program.Term) (f : ℕ) (v : Vec program.Term Global) (rs : List program_rules.Rule) (empty : Bool) → t ≡ Fun f v
    → map rule_view rs ≡ sys.rules → empty ≡ (length rs == 0) → empty ≡ false
    → (Fits (view t) → ⊥) → IsFirstOutcome sys (view t) too_large
large_function sys t f v rs empty is rules e some n =
    let count : length sys.rules ≡ length rs = sym (ap length rules) ∙ length_views rs in
    judged_large sys (view t) n (λ h. subst IsVariable (ap view is ∙ view-Fun f v) h) (subst (λ z. 0 < z) (sym count) (not_none (length rs) empty e some))

-- a term that fits has few variables
pub few_variables : (t : Term) (before row : List ℕ) (k : ℕ) → Fits t → before ≡ [] → row ≡ with_variables before t → k < length row → k < 2 ^ 31
few_variables t before row k fit none e h =
    let few = variables_length before t in
    let start : length before ≡ 0 = ap length none in
    let same : length row ≡ length (with_variables before t) = ap length e in
    let nodes = fit.nodes in
    omega (arith, few, start, same, nodes, h)
