use Rattle.std.proofs.Common.{◌∙◌, List, [], ◌∷◌, ap, length, length-append, arith}
use Rattle.number_sets.specs.declared.words.NumberSet.{NumberSet}
use Rattle.number_sets.proofs.Related.{members_in, put_empty}
use Rattle.number_sets.proofs.rows.NumberRelation.lengthen.Goals as goal

pub rows-preserved : goal.rows-preserved
rows-preserved c = record {
  long = omega (arith, ap length c.in_ok-push.ensures.items, length-append c.rows.self.rows.items (c.new.result ∷ []), c.rows.invariant.long);
  same = λ p.
      ap (λ (l : List NumberSet). members_in l p) c.in_ok-push.ensures.items ∙ put_empty c.rows.self.rows.items c.new.result p c.new.ensures ∙ c.rows.invariant.same p;
}
