use Rattle.std.proofs.Common.{arith}
use Rattle.noncon_check.proofs.Apart.{end_answers}
use Rattle.redex_conditions.proofs.Ends.{few_names, numbered_size}
use Rattle.noncon_check.proofs.ends.judge_end.Goals as goal

pub overflow_cast-own : goal.overflow_cast-own
overflow_cast-own c = let few = few_names _ _ _ c.len-own.result c.new-numbering.ensures c.in_ok-numbered.ensures.row c.requires.fits.nodes c.len-own.ensures.len in omega (arith, few)

pub judge_parts-requires-clause-ready : goal.judge_parts-requires-clause-ready
judge_parts-requires-clause-ready c =
    record {
      system = c.requires.ready.system;
      rules = c.requires.ready.rules;
      sound = c.requires.ready.sound;
      few = c.requires.ready.few;
      own = few_names _ _ _ _ c.new-numbering.ensures c.in_ok-numbered.ensures.row c.requires.fits.nodes c.len-own.ensures.len;
    }

pub judge_parts-requires-clause-size : goal.judge_parts-requires-clause-size
judge_parts-requires-clause-size c = numbered_size _ _ _ c.in_ok-numbered.ensures.names c.requires.fits.nodes

pub returns : goal.returns
returns c =
    end_answers c.args.judge.now.sys.now c.requires.ready.system _ _ c.len-own.ensures.len c.in_ok-numbered.ensures.distinct _ _ c.in_ok-numbered.ensures.names c.in_ok-numbered.ensures.below
    _ _ _ _ c.judge_parts.ensures
