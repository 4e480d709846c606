-- The choices that a `Choices` stands for.
use Rattle.automaton_runs.specs.Choices as choices
use Rattle.automaton_runs.specs.Choices.{as_lists}
use Rattle.automaton_runs.specs.declared.choices.Choices.TheInside.{Inside}

abbrev pub choices_view : Inside → choices.Choices
choices_view i = record { fronts = as_lists i.fronts.items; width = i.tails.width; tails = i.tails.lists }
