use Rattle.std.proofs.Common.{◌+◌, ap₂, arith}
use Rattle.term_core.specs.View.{view}
use Rattle.tcap_infeasible.proofs.Keyed.{keyed_fits}
use Rattle.tcap_infeasible.proofs.Pairs.{places_base, places_answer, answer_apart, none_distinct, short_row, longer}
use Rattle.rewriting.proofs.Lists.{front_length}
use Rattle.tcap_infeasible.proofs.comparing.compare_rigid_caps.Goals as goal

pub compare_frozen-requires-clause-first : goal.compare_frozen-requires-clause-first
compare_frozen-requires-clause-first c = keyed_fits c.symbol_count-symbols.result c.keyed.new.foreign c.keyed.new.variables (view c.args.u.now) (view c.in_ok-first.first)
    c.in_ok-first.ensures.keys c.requires.first

pub compare_frozen-requires-clause-second : goal.compare_frozen-requires-clause-second
compare_frozen-requires-clause-second c = keyed_fits c.symbol_count-symbols.result c.keyed-2.new.foreign c.keyed-2.new.variables (view c.args.v.now) (view c.in_ok-second.second)
    c.in_ok-second.ensures.keys c.requires.second

pub compare_frozen-requires-clause-first_constants : goal.compare_frozen-requires-clause-first_constants
compare_frozen-requires-clause-first_constants c =
    let foreign = longer c.keyed.new.foreign c.keyed-2.new.foreign (view c.args.v.now)
    (short_row c.new-foreign.result c.keyed.new.foreign (view c.args.u.now) c.new-foreign.ensures c.in_ok-first.ensures.foreign_grown c.requires.first)
    c.in_ok-second.ensures.foreign_grown c.requires.second in
    let variables = short_row c.new-variables.result c.keyed.new.variables (view c.args.u.now) c.new-variables.ensures c.in_ok-first.ensures.grown c.requires.first in
    places_base c.args.sys.now c.symbol_count-symbols.result _ c.keyed.new.foreign c.keyed-2.new.foreign c.keyed.new.variables (view c.args.u.now) (view c.in_ok-first.first)
    c.symbol_count-symbols.ensures.count (ap₂ (λ a b. a + b) c.symbol_count-symbols.ensures.count c.len.ensures.len)
    c.symbol_count-symbols.ensures.sound (front_length c.keyed.new.foreign c.keyed-2.new.foreign c.in_ok-second.ensures.foreign_front) (omega (arith, foreign))
    (omega (arith, variables)) c.in_ok-first.ensures.keys

pub compare_frozen-requires-clause-second_constants : goal.compare_frozen-requires-clause-second_constants
compare_frozen-requires-clause-second_constants c =
    let foreign = longer c.keyed.new.foreign c.keyed-2.new.foreign (view c.args.v.now)
    (short_row c.new-foreign.result c.keyed.new.foreign (view c.args.u.now) c.new-foreign.ensures c.in_ok-first.ensures.foreign_grown c.requires.first)
    c.in_ok-second.ensures.foreign_grown c.requires.second in
    let variables = longer c.keyed.new.variables c.keyed-2.new.variables (view c.args.v.now)
    (short_row c.new-variables.result c.keyed.new.variables (view c.args.u.now) c.new-variables.ensures c.in_ok-first.ensures.grown c.requires.first)
    c.in_ok-second.ensures.grown c.requires.second in
    places_base c.args.sys.now c.symbol_count-symbols.result _ c.keyed-2.new.foreign c.keyed-2.new.foreign c.keyed-2.new.variables (view c.args.v.now) (view c.in_ok-second.second)
    c.symbol_count-symbols.ensures.count (ap₂ (λ a b. a + b) c.symbol_count-symbols.ensures.count c.len.ensures.len)
    c.symbol_count-symbols.ensures.sound (omega arith) (omega (arith, foreign)) (omega (arith, variables)) c.in_ok-second.ensures.keys

pub returns-clause-answer : goal.returns-clause-answer
returns-clause-answer c =
    places_answer c.args.sys.now c.symbol_count-symbols.result _ c.keyed.new.foreign c.keyed-2.new.foreign c.keyed.new.variables c.keyed-2.new.variables (view c.args.u.now)
    (view c.args.v.now) (view c.in_ok-first.first) (view c.in_ok-second.second) c.compare_frozen.result
    c.symbol_count-symbols.ensures.count (ap₂ (λ a b. a + b) c.symbol_count-symbols.ensures.count c.len.ensures.len) c.symbol_count-symbols.ensures.sound
    (c.in_ok-second.ensures.foreign_distinct (c.in_ok-first.ensures.foreign_distinct (none_distinct c.new-foreign.result c.new-foreign.ensures)))
    (c.in_ok-second.ensures.distinct (c.in_ok-first.ensures.distinct (none_distinct c.new-variables.result c.new-variables.ensures)))
    c.in_ok-second.ensures.foreign_front c.in_ok-second.ensures.front c.in_ok-first.ensures.keys c.in_ok-second.ensures.keys c.compare_frozen.ensures

pub returns-clause-apart : goal.returns-clause-apart
returns-clause-apart c = answer_apart c.args.sys.now (view c.args.u.now) (view c.args.v.now) c.compare_frozen.result c.symbol_count-symbols.ensures.sound (returns-clause-answer c)
