-- The terms of an overlap fit, and the conditions of two rules of a system are at most 200.
use Rattle.std.proofs.Common.{ℕ, zero, suc, ◌≡◌, ◌+◌, ◌≤◌, length, Some, ap, ◌∙◌, arith}
use Rattle.std.proofs.lemmas.List.{length-append, length-map}
use Rattle.rewriting.specs.Prelude.{compose, even, odd, Rule, System, rule_at, IsSystem, conditions_under}
use Rattle.rewriting.proofs.Conditions.{length-conditions_under}
use Rattle.unifier_run.specs.Run.{value}
use Rattle.unifier_run.specs.Overlaps.{Overlap, IsOverlapOf}
use Rattle.rewriting.proofs.Systems.{is_rule_at}
use Rattle.certificates.proofs.Sizes.{conditions_fit}
use Rattle.term_core.specs.RuleView.{condition_view}
use Rattle.critical_pairs.specs.View.{overlap_view}
use Rattle.critical_pairs.specs.declared.Overlap as made
use Rattle.pair_check.specs.Judges.{IsReady}

few_at : (sys : System) (i : ℕ) (r : Rule) → IsSystem sys → rule_at sys i ≡ Some r → length r.conditions ≤ 100
few_at sys zero r sound e = absurd (cc)
few_at sys (suc i) r sound e = (is_rule_at sys.arities sys.rules i r sound.rules e).few_conditions

pub ready : (sys : System) (o : Overlap) → IsSystem sys → IsOverlapOf sys o → IsReady o
ready sys o sound h =
    let inner = few_at sys o.inner h.inner sound h.place.is_inner in
    let outer = few_at sys o.outer h.outer sound h.place.is_outer in
    let firsts = conditions_under (compose even (value h.by)) h.inner.conditions in
    let seconds = conditions_under (compose odd (value h.by)) h.outer.conditions in
    let long : length o.pair.conditions ≡ length firsts + length seconds = ap length h.pair.conditions ∙ length-append firsts seconds in
    let first_long = length-conditions_under (compose even (value h.by)) h.inner.conditions in
    let second_long = length-conditions_under (compose odd (value h.by)) h.outer.conditions in
    let counted = h.counted in
    record {
      left = h.fits.left;
      right = h.fits.right;
      conditions = conditions_fit o.pair.conditions h.fits.conditions;
      few = omega (arith, inner, outer, long, first_long, second_long);
      counted = omega (arith, counted, long, first_long, second_long);
    }

-- the conditions of one that was made are few, and as many as the overlap of the definitions has
module _ (sys : System) (o : made.Overlap) (sound : IsSystem sys) (is : IsOverlapOf sys (overlap_view o)) where
  pub few_conditions : length o.conds.items ≤ 200
  few_conditions = let few = (ready sys (overlap_view o) sound is).few in let long = length-map o.conds.items condition_view in omega (arith, few, long)

  pub counted : (n : ℕ) → n ≡ length o.conds.items → n ≡ length (overlap_view o).pair.conditions
  counted n e = let long = length-map o.conds.items condition_view in omega (arith, e, long)
