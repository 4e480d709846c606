-- The places of a left side: its positions where no variable stands, in preorder, each with the root of the subterm there.
use Rattle.std.specs.Prelude.{ℕ, ◌≡◌, ◌-◌, List, [], ◌∷◌, ◌++◌, flat_map, Some}
use Rattle.rewriting.specs.Prelude.{Term, Terms, var, app, Position, subterm, Rule, System, rule_at}
use Rattle.rule_index.specs.Parts.{Part, parts}
use Rattle.unifier_run.specs.Overlaps.{Triple}
use Rattle.unifier_run.specs.Triples.{triples_at, counted}
use Rattle.critical_pairs.specs.declared.places.Place.{Place}

-- a position and a symbol
abbrev pub RootAt : Type 0
RootAt = Position × ℕ

abbrev pub place_view : Place → RootAt
place_view q = (q.pos.items, q.root)

-- the place of a term that stands at a position, unless it is a variable
abbrev pub root_at : Position → Term → List RootAt
root_at p (var x) = []
root_at p (app f ts) = (p, f) ∷ []

abbrev pub part_places : Part → List RootAt
part_places q = root_at q.position q.term

-- the places of a term, part by part
abbrev pub places_of : Term → List RootAt
places_of t = flat_map part_places (parts t)

-- the triples at places of the outer rule number j, in a system of n rules
abbrev pub triples_of : ℕ → ℕ → List RootAt → List Triple
triples_of j n [] = []
triples_of j n ((p, f) ∷ qs) = triples_at j p 0 (counted (j - 1) n p) ++ triples_of j n qs

-- a place of the left side of rule number j
pub record IsRootAt (sys : System) (j : ℕ) (q : RootAt) : Type 0 where
  pub rule : Rule
  pub is_rule : rule_at sys j ≡ Some rule
  pub arguments : Terms
  pub here : subterm rule.left q.0 ≡ Some (app q.1 arguments)
