use Rattle.std.proofs.Common.{arith, subst, sym, ◌∙◌, ℕ, Some}
use Rattle.ari_text.specs.Reads.{AreConditionsSoFar}
use Rattle.ari_text.proofs.Conditions.{one_condition_more}
use Rattle.ari_text.proofs.rules.read_conditions.Goals as goal

pub conditions-preserved : goal.conditions-preserved
conditions-preserved c = record {
  read = subst (λ (b : ℕ). AreConditionsSoFar c.args.reader.now c.read_condition.new.reader (Some b) c.push.new.self.items) (sym c.unwrap_or.ensures)
      (rw c.in_ok-push-in-Some-Open.ensures.items (one_condition_more c.args.reader.now c.conditions.reader c.next.new.self c.read_condition.new.reader c.conditions.bar
      c.in-Some-Open.at c.conditions.conditions.items c.in_ok-read_condition-in-Some-Open.field-0
      c.conditions.invariant.read (rw c.in-Some-Open.field-0-is at c.in-Some-Open.ensures.word) c.in_ok-read_condition-in-Some-Open.ensures.condition));
  onward = omega (arith, c.conditions.invariant.onward, c.in-Some-Open.ensures.onward, c.in_ok-read_condition-in-Some-Open.ensures.onward);
  functions = c.in_ok-read_condition-in-Some-Open.ensures.functions ∙ c.conditions.invariant.functions;
}
