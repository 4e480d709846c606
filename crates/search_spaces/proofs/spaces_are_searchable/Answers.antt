use Rattle.search_spaces.proofs.OrthoThenPeak.{ortho_searchable, peak_searchable, whole_searchable}
use Rattle.search_spaces.proofs.FewUnits.{ortho_costs_few}
use Rattle.search_spaces.proofs.spaces_are_searchable.Goals as goal

pub returns-clause-ortho : goal.returns-clause-ortho
returns-clause-ortho c = ortho_searchable

pub returns-clause-peak : goal.returns-clause-peak
returns-clause-peak c = peak_searchable

pub returns-clause-whole : goal.returns-clause-whole
returns-clause-whole c = whole_searchable

pub returns-clause-few_units : goal.returns-clause-few_units
returns-clause-few_units c = ortho_costs_few
