-- The sides of the rules of an unraveled system that `Side` stands for.
use Rattle.std.specs.Prelude.{ℕ, List}
use Rattle.rewriting.specs.Terms as math
use Rattle.rewriting.specs.Prelude.{Substitution, keeper, index_in}
use Rattle.term_core.specs.View.{view}
use Rattle.unravel.specs.declared.sides.Side.{Side}
use Rattle.unravel.specs.declared.sides.Side.TheVariants.{Plain, Kept}

abbrev pub side_view : Side → math.Term
side_view (Plain t) = view t.now
side_view (Kept symbol term known) = keeper symbol (view term.now) known.now

-- the term of the side fits
abbrev pub DoesPartFit : Side → Type 0
DoesPartFit (Plain t) = math.Fits (view t.now)
DoesPartFit (Kept symbol term known) = math.Fits (view term.now)

-- each variable becomes its place in the list
abbrev pub numbered : List ℕ → Substitution
numbered order = λ x. math.var (index_in order x)
