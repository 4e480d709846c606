use Rattle.std.proofs.Common.{rules, ◌∙◌, arith, add-one}
use Rattle.file_text.specs.Syntax.{ConditionTree}
use Rattle.cops_syntax.specs.View.{IsCondition}
use Rattle.cops_read.specs.Walks.{ConditionsAnswers}
use Rattle.cops_read.proofs.Repeats.{next_condition, conditions_length, conditions_fail, conditions_step, conditions_end_here}
use Rattle.cops_read.proofs.Firsts.{handed}
use Rattle.cops_read.proofs.conditions.read_conditions.Goals as goal

pub read_condition-requires : goal.read_condition-requires
read_condition-requires g c κs =
    let n = next_condition c.args.texts.now c.requires.texts.0 c.conditions.i c.index-texts-i.result c.requires.texts.1 c.conditions-test.true c.index-texts-i.is in
    let is : (t : ConditionTree) × IsCondition c.index-texts-i.result t = (n.item, n.is) in
    let few = c.conditions.invariant.few in
    let nodes = c.requires.nodes in search rules

pub returns-in_err-cond-clause-conditions : goal.returns-in_err-cond-clause-conditions
returns-in_err-cond-clause-conditions g c cs h =
    let H = g.H.HeadReader in
    let n = next_condition c.args.texts.now cs c.conditions.i c.index-texts-i.result h c.conditions-test.true c.index-texts-i.is in
    let read = rw c.conditions.invariant.kept at (c.in_err-cond.ensures.condition n.item n.is) in
    handed (ConditionsAnswers (H.cause (H.kept c.args.reader.now)) (H.block (H.kept c.args.reader.now)) H.tells (H.symbols c.args.reader.now) (H.variables c.args.reader.now) c.args.rule cs
    (H.symbols c.read_condition.new.reader) (H.variables c.read_condition.new.reader)) c.in_err-cond.field-0.0 c.from_residual.result c.from_residual.ensures.1
    (conditions_fail (c.conditions.invariant.read cs h) c.in_err-cond.ensures.told n c.in_err-cond.field-0.0 read)

pub conditions-preserved : goal.conditions-preserved
conditions-preserved g c = record {
  read = λ cs h.
      let n = next_condition c.args.texts.now cs c.conditions.i c.index-texts-i.result h c.conditions-test.true c.index-texts-i.is in
      let read = rw c.conditions.invariant.kept at (c.in_ok-cond.ensures.condition n.item n.is) in
      let next = conditions_step (c.conditions.invariant.read cs h) n (g.H.HeadReader.symbols c.read_condition.new.reader) (g.H.HeadReader.variables c.read_condition.new.reader)
      c.in_ok-cond.cond read in
      rw (add-one, c.push.ensures.items, c.if-is_err.ensures.negation) next;
  kept = c.in_ok-cond.ensures.kept ∙ c.conditions.invariant.kept;
  few = c.in_ok-cond.ensures.few;
}

pub returns-clause-conditions : goal.returns-clause-conditions
returns-clause-conditions g c cs h =
    let many = conditions_length c.args.texts.now cs h in
    conditions_end_here (c.conditions.invariant.read cs h) (let test = c.conditions-test.false in omega (arith, many))
