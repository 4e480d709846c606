-- What a run of two rules of a system says, where they are renamed apart.
use Rattle.std.proofs.Common.{ℕ, ◌≡◌, ◌-◌, List, map, get_or, Some, None, IsSome, refl, sym, ap, ◌∙◌, subst}
use Rattle.std.proofs.lemmas.Option.{none-some, same_Some}
use Rattle.rewriting.specs.Prelude.{Term, Position, subterm, apply, even, odd, Rule, System}
use Rattle.rewriting.proofs.Places.{subterm-apply}
use Rattle.unifier_run.specs.Overlaps.{IsTooLargeAt}
use Rattle.term_core.specs.Prelude.{rule_view}
use Rattle.term_core.specs.declared.systems.Rule as Program
use Rattle.prepared_system.specs.Renamed.{rule_under, inner_rules, outer_rules}
use Rattle.prepared_system.proofs.Renamed.{renamed_rule}
use Rattle.critical_pairs.specs.Spots.{IsSpotOf, AreRulesAt, IsRefusedAt, IsRefusal}
use Rattle.critical_pairs.specs.declared.OverlapError.{OverlapError}
use Rattle.critical_pairs.specs.declared.OverlapError.TheVariants.{PairTooLarge, TooManyPairs, NoMemory}

pub rules_there : (sys : System) (i : ℕ) (p : Position) (j : ℕ) (inners outers : List Program.Rule) → map rule_view inners ≡ inner_rules sys → map rule_view outers ≡ outer_rules sys
    → (low high : Program.Rule) → low ≡ get_or inners (i - 1) low → high ≡ get_or outers (j - 1) high → AreRulesAt sys i p j (rule_view low) (rule_view high)
rules_there sys i p j inners outers are_inners are_outers low high at_low at_high spot = (
  renamed_rule sys (rule_under even) inners i low spot.inner are_inners spot.place.is_inner at_low,
  renamed_rule sys (rule_under odd) outers j high spot.outer are_outers spot.place.is_outer at_high,
)

module _ (sys : System) (i : ℕ) (p : Position) (j : ℕ) (spot : IsSpotOf sys i p j) (low high : Rule) (are : AreRulesAt sys i p j low high) where
  part_there : subterm high.left p ≡ Some (apply odd spot.part)
  part_there = ap (λ z. subterm z.left p) (are spot).1 ∙ subterm-apply odd spot.outer.left p spot.part spot.place.is_part

  pub has_part : None ≡ subterm high.left p → ⊥
  has_part e = none-some (apply odd spot.part) (e ∙ part_there)

  pub part_renamed : (t : Term) → Some t ≡ subterm high.left p → t ≡ apply odd spot.part
  part_renamed t e = same_Some t (apply odd spot.part) (e ∙ part_there)

  pub has_position : IsSome (subterm high.left p)
  has_position = subst IsSome (sym part_there) refl

-- the refusal of a triple that is too large
pub refused_there : (sys : System) (i : ℕ) (p : Position) (j : ℕ) (e : OverlapError) → IsTooLargeAt sys i p j → IsRefusal i p j e → IsRefusedAt sys i p j e
refused_there sys i p j (PairTooLarge k q l) large h = (large, h)
refused_there sys i p j TooManyPairs large h = h
refused_there sys i p j NoMemory large h = tt
