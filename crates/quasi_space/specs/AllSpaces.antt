-- The three spaces, one behind the other.
use Rattle.rewriting.specs.Rules.{System}
use Rattle.certificates.specs.Certificates.{Certificate}
use Rattle.cops_names.specs.NameTable.{NameTable}
use Rattle.first_found.specs.Spaces.{Space, followed_by}
use Rattle.search_spaces.specs.OrthoThenPeak.{ortho_then_peak_space}
use Rattle.quasi_space.specs.Measures.{MeasureTrials, each_measure, pruned_measures}
use Rattle.quasi_space.specs.Quasi.{quasi_space_by}

abbrev pub all_spaces_by : MeasureTrials → NameTable → System → Space Certificate
all_spaces_by by names sys = followed_by (ortho_then_peak_space names sys) (quasi_space_by by names sys)

-- each measure of the grid is tried
abbrev pub all_spaces : NameTable → System → Space Certificate
all_spaces names sys = all_spaces_by (each_measure sys) names sys

-- nothing behind a dead prefix of the grid is tried
abbrev pub pruned_spaces : NameTable → System → Space Certificate
pruned_spaces names sys = all_spaces_by (pruned_measures sys) names sys
