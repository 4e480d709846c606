use Rattle.std.proofs.Common.{refl, arith}
use Rattle.run_parts.proofs.FewWords.{other_word, four_words_last}
use Rattle.run_parts.proofs.words.before_option.Goals as goal

pub returns-then-ne-clause-none : goal.returns-then-ne-clause-none
returns-then-ne-clause-none c file other = other_word c.args.words.now _ 0 c.args.command.now _ (omega arith) c.if-ne.ensures refl

pub returns-then-ne-2-clause-none : goal.returns-then-ne-2-clause-none
returns-then-ne-2-clause-none c file other = other_word c.args.words.now _ 3 c.args.option.now _ (omega arith) c.if-ne-2.ensures refl

pub returns-clause-found : goal.returns-clause-found
returns-clause-found c = four_words_last _ c.args.command.now c.args.option.now c.args.words.now c.in-len4.len_at_least c.in-len4.len_below c.if-ne.ensures c.if-ne-2.ensures
