-- The relations that evaluated terms have.
use Rattle.std.specs.Prelude.{List, map}
use Rattle.number_sets.specs.declared.rows.NumberRelation.{NumberRelation}
use Rattle.automaton_runs.specs.declared.relations.Evaluated.{Evaluated}
use Rattle.automaton_runs.specs.declared.relations.Evaluated.TheVariants.{Stored, Made}

abbrev pub relation_of : Evaluated → NumberRelation
relation_of (Stored relation) = relation.now
relation_of (Made relation) = relation

abbrev pub relations : List Evaluated → List NumberRelation
relations es = map relation_of es
