use Rattle.std.proofs.Common.{◌++◌, ◌∷◌, [], map, sym, ap, ap₂, ◌∙◌, arith}
use Rattle.std.proofs.lemmas.List.{map-append}
use Rattle.std.proofs.lemmas.List.FromFn.{map-range_with_len_more}
use Rattle.rewriting.specs.Substitutions.{values_of}
use Rattle.term_core.specs.View.{view}
use Rattle.query_search.proofs.values.listed_values.Goals as goal

pub numbers-preserved : goal.numbers-preserved
numbers-preserved c =
    ap (map view) c.in_ok-push.ensures.items ∙ map-append view c.numbers.out.items (c.in_ok-value_of.field-0 ∷ [])
    ∙ ap₂ (λ xs ys. xs ++ ys) c.numbers.invariant (ap (λ t. t ∷ []) c.in_ok-value_of.ensures)
    ∙ sym (map-range_with_len_more (values_of c.args.values.now) 0 c.numbers.x c.numbers.x (omega arith))
