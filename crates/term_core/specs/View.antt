-- The term of the definitions that a `Term` stands for.
use Rattle.std.specs.Prelude.{List, map}
use Rattle.rewriting.specs.Terms as math
use Rattle.rewriting.specs.Terms.{var, app, terms_of}
use Rattle.term_core.specs.declared.terms.Term.{Term, fold-Term}
use Rattle.term_core.specs.declared.terms.Term.TheOpen.{Term-F}

abbrev pub view_step : Term-F math.Term → math.Term
view_step (Term-F.Var x) = var x
view_step (Term-F.Fun f v) = app f (terms_of v.items)

abbrev pub view : Term → math.Term
view = fold-Term math.Term view_step

abbrev pub views : List Term → math.Terms
views ts = terms_of (map view ts)
