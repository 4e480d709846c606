-- Parts of terms that fit, and answers carried from parts to wholes.
use Rattle.std.proofs.Common.{ℕ, zero, suc, ◌≡◌, ◌<◌, ◌≤◌, List, [], ◌∷◌, map, length, get_or, Option, Some, None, IsSome, refl, sym, ap, ◌∙◌, subst, arith, Result, Ok, Err}
use Rattle.std.proofs.lemmas.Bool.{false≢true}
use Rattle.std.proofs.lemmas.Option.{none-some, same_Some}
use Rattle.rewriting.specs.Terms as terms
use Rattle.rewriting.specs.Prelude.{var, app, Terms, nil, cons, size, size_all, depth, depth_all, Fits, Position, argument, subterm, Substitution, apply, conditions_under}
use Rattle.rewriting.specs.Rules as math
use Rattle.rewriting.proofs.Positions.{within, subterm-replace, replaceable}
use Rattle.term_core.specs.Prelude.{condition_view, ApplyAnswers, ReplaceAnswers}
use Rattle.term_core.specs.declared.terms.Term.{Term}
use Rattle.term_core.specs.declared.terms.TermError.{TermError}
use Rattle.term_core.specs.declared.terms.TermError.TheVariants.{NoPosition, TooLarge, NoMemory}
use Rattle.term_core.specs.declared.systems.Cond.{Cond}
use Rattle.critical_pairs.specs.Building.{InstanceAnswers, InstancesAnswers, ContractedAnswers, ConditionsAnswers}
use Rattle.critical_pairs.proofs.Conditions.{one_fits, fit_left, fit_right}
use Rattle.rewriting.proofs.Places.{subterm-apply}

pub record IsSmaller (u t : terms.Term) : Type 0 where
  pub nodes : size u ≤ size t
  pub levels : depth u ≤ depth t

pub argument_small : (ts : Terms) (k : ℕ) (s : terms.Term) → argument ts k ≡ Some s → (size s ≤ size_all ts) × (depth s ≤ depth_all ts)
argument_small nil k s e = absurd (cc)
argument_small (cons t ts) zero s e = absurd (cc)
argument_small (cons t ts) (suc zero) s e = (let same : t ≡ s = cc in let a = ap size same in let b = ap depth same in (omega (arith, a), omega (arith, b)))
argument_small (cons t ts) (suc (suc k)) s e = let h = argument_small ts (suc k) s e in (omega (arith, h.0), omega (arith, h.1))

pub part_small : (t : terms.Term) (p : Position) (u : terms.Term) → subterm t p ≡ Some u → IsSmaller u t
part_small t [] u e = (let same : t ≡ u = cc in let a = ap size same in let b = ap depth same in record { nodes = omega (arith, a); levels = omega (arith, b) })
part_small (var x) (k ∷ p) u e = absurd (cc)
part_small (app f ts) (k ∷ p) u e =
    let w = within (app f ts) k p u e in
    let h = part_small w.part p u w.inside in
    let a = argument_small ts k w.part w.here in
    record { nodes = omega (arith, a.0, h.nodes); levels = omega (arith, a.1, h.levels) }

pub fits_part : (t : terms.Term) (p : Position) (u : terms.Term) → subterm t p ≡ Some u → Fits t → Fits u
fits_part t p u e f = let h = part_small t p u e in record { nodes = omega (arith, h.nodes, f.nodes); levels = omega (arith, h.levels, f.levels) }

pub some_is : {A : Type 0} (o : Option A) → IsSome o → (a : A) × (o ≡ Some a)
some_is None h = absurd (false≢true h)
some_is (Some a) h = (a, refl)

pub instances_error : (m : Substitution) (cs : List Cond) (i : ℕ) (c : Cond) (before after : List math.Condition) (e : TermError) → i < length cs → c ≡ get_or cs i c
    → InstanceAnswers m (condition_view c) (Err e)
    → InstancesAnswers m (map condition_view cs) before after (Err e)
instances_error m cs i c before after NoPosition h k a = a
instances_error m cs i c before after TooLarge h k a = λ f. a (one_fits m cs i c h k f)
instances_error m cs i c before after NoMemory h k a = tt

pub contracted_error : (t : terms.Term) (p : Position) (u : terms.Term) (e : TermError) → ApplyAnswers u (Err e) → ContractedAnswers t p u (Err e)
contracted_error t p u NoPosition a = a
contracted_error t p u TooLarge a = λ v r f. a (fits_part v p u (subterm-replace t p u v r) f)
contracted_error t p u NoMemory a = tt

pub contracted_whole : (t : terms.Term) (p : Position) (u : terms.Term) (r : Result Term TermError) → IsSome (subterm t p) → ReplaceAnswers t p u r → ContractedAnswers t p u r
contracted_whole t p u (Ok v) h a = a
contracted_whole t p u (Err NoPosition) h a =
    let s = some_is (subterm t p) h in
    let q = replaceable t p s.0 u s.1 in
    none-some q.0 (sym a ∙ q.1)
contracted_whole t p u (Err TooLarge) h (v, e, n) = λ w k f. n (subst Fits (same_Some w v (sym k ∙ e)) f)
contracted_whole t p u (Err NoMemory) h a = tt

pub there_under : (m : Substitution) (t s : terms.Term) (p : Position) → s ≡ apply m t → IsSome (subterm t p) → IsSome (subterm s p)
there_under m t s p e h =
    let u = some_is (subterm t p) h in
    subst (λ z. IsSome (subterm z p)) (sym e) (subst IsSome (sym (subterm-apply m t p u.0 u.1)) refl)

pub first_error : (m : Substitution) (cs ds before after : List math.Condition) (e : TermError) → InstancesAnswers m cs before after (Err e) → ConditionsAnswers m cs ds (Err e)
first_error m cs ds before after NoPosition a = a
first_error m cs ds before after TooLarge a = λ f. a (fit_left _ _ f)
first_error m cs ds before after NoMemory a = tt

pub second_error : (m : Substitution) (cs ds before after : List math.Condition) (e : TermError) → InstancesAnswers m ds before after (Err e) → ConditionsAnswers m cs ds (Err e)
second_error m cs ds before after NoPosition a = a
second_error m cs ds before after TooLarge a = λ f. a (fit_right (conditions_under m cs) _ f)
second_error m cs ds before after NoMemory a = tt

-- the same conditions
pub same_conditions : (m : Substitution) (cs ds before after : List math.Condition) (r : Result (Unit {0}) TermError) → ds ≡ cs → InstancesAnswers m ds before after r
    → InstancesAnswers m cs before after r
same_conditions m cs ds before after r e h = subst (λ z. InstancesAnswers m z before after r) e h
