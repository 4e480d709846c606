use Rattle.run_parts.specs.Words.{texts}
use Rattle.lens_run.proofs.Commands.{no_command}
use Rattle.lens_run.proofs.asked.asked_of.Goals as goal

pub returns-clause-none : goal.returns-clause-none
returns-clause-none c =
    no_command (texts c.args.words.now) c.in_default.ensures.none c.in_default-two_words.ensures.none c.in_default-before_option.ensures.none c.in_default-one_word.ensures.none
    c.in_default-seek_of.ensures.none c.skeleton_of.result c.skeleton_of.ensures.none
