use Rattle.std.proofs.Common.{◌<◌, length, arith}
use Rattle.check_cases.proofs.NoRules.{empty_rules}
use Rattle.check_cases.proofs.measures.NoRulesMeasure.shows.Goals as goal

pub returns-in-empty : goal.returns-in-empty
returns-in-empty c =
    let sys = c.args.sys.now in
    let few : length c.rules.result.now < 1 = omega (arith, c.in-empty.len_below) in
    empty_rules c.rules.result.now sys.rules c.rules.ensures.rules few
