-- What stands behind a symbol's argument: a comma and the next one, or the bracket.
use Rattle.std.specs.Prelude.{Bool, true, false, ℕ, List, ◌∷◌, codes}
use Rattle.cert_grammar.specs.Prelude.{Mark, fixed, Frame, Item, node, term_closed, with_next}

abbrev pub argument_end : Bool → Mark
argument_end true = fixed (codes ",")
argument_end false = fixed (codes ")")

abbrev pub behind_argument : Bool → ℕ → Frame → List Frame → Item
behind_argument true n f fs = node n (with_next f ∷ fs)
behind_argument false n f fs = term_closed n f.name f.argument fs
