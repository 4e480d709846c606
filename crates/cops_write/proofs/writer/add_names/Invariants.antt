use Rattle.std.proofs.Common.{◌≡◌, ◌-◌, map}
use Rattle.term_core.specs.Numbering.{numbers_from}
use Rattle.cops_names.specs.NameLists.{with_names}
use Rattle.cops_write.specs.Text.{variable_text}
use Rattle.cops_write.proofs.writer.add_names.Given as goal

abbrev pub invariant-variables : goal.invariant-variables
invariant-variables l =
    with_names l.set (map (variable_text l.names l.number) (numbers_from l.x (l.x-end - l.x))) ≡ with_names l.fn.set (map (variable_text l.names l.number) (numbers_from 0 l.x-end))
