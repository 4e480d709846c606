use Rattle.std.proofs.Common.{refl, arith}
use Rattle.run_parts.proofs.FewWords.{other_word, two_words}
use Rattle.run_parts.proofs.words.one_word.Goals as goal

pub returns-then-ne-clause-none : goal.returns-then-ne-clause-none
returns-then-ne-clause-none c file = other_word c.args.words.now _ 0 c.args.command.now _ (omega arith) c.if-ne.ensures refl

pub returns-clause-found : goal.returns-clause-found
returns-clause-found c = two_words c.args.words.now _ c.args.command.now c.in-len2.len_at_least c.in-len2.len_below c.if-ne.ensures
