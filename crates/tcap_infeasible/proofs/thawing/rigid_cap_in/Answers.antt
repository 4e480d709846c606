use Rattle.std.proofs.Common.{◌+◌, ap₂, subst, arith}
use Rattle.term_core.specs.View.{view}
use Rattle.tcap_infeasible.specs.Keys.{IsKeyed}
use Rattle.tcap_infeasible.proofs.Pairs.{none_distinct, short_row}
use Rattle.tcap_infeasible.proofs.Thawed.{keeps_own_reducts}
use Rattle.tcap_infeasible.proofs.thawing.rigid_cap_in.Goals as goal

pub thawed_rigid-requires-clause-places : goal.thawed_rigid-requires-clause-places
thawed_rigid-requires-clause-places c =
    let foreign = short_row c.new-foreign.result c.keyed.new.foreign (view c.args.t.now) c.new-foreign.ensures c.in_ok-places.ensures.foreign_grown c.requires.fit in
    let variables = short_row c.new-variables.result c.keyed.new.variables (view c.args.t.now) c.new-variables.ensures c.in_ok-places.ensures.grown c.requires.fit in
    record {
      foreign = c.keyed.new.foreign;
      row = c.keyed.new.variables;
      foreign_distinct = c.in_ok-places.ensures.foreign_distinct (none_distinct c.new-foreign.result c.new-foreign.ensures);
      distinct = c.in_ok-places.ensures.distinct (none_distinct c.new-variables.result c.new-variables.ensures);
      few_foreign = omega (arith, foreign);
      few = omega (arith, variables);
      base_is = ap₂ (λ a b. a + b) c.symbol_count-symbols.ensures.count c.len.ensures.len;
      keyed = subst (λ z. IsKeyed z c.keyed.new.foreign c.keyed.new.variables (view c.args.t.now) (view c.in_ok-places.places)) c.symbol_count-symbols.ensures.count c.in_ok-places.ensures.keys;
    }

pub returns-clause-reducts : goal.returns-clause-reducts
returns-clause-reducts c = keeps_own_reducts c.args.sys.now (view c.args.t.now) c.args.fresh c.thawed_rigid.result c.symbol_count-symbols.ensures.sound c.requires.below c.thawed_rigid.ensures
