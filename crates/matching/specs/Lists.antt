-- Matching of lists, and terms of which no part is an instance.
use Rattle.std.specs.Prelude.{List, [], ◌∷◌}
use Rattle.rewriting.specs.Prelude.{Term, Terms, var, app, nil, cons, Bindings, Matches, Extends, SolvesAll, Rule}

-- c is the least extension of b that makes each pattern equal its subject
pub record AreLeastMatches (b c : Bindings) (patterns subjects : Terms) : Type 0 where
  pub extends : Extends b c
  pub solves : SolvesAll c patterns subjects
  pub least : (d : Bindings) → Extends b d → SolvesAll d patterns subjects → Extends c d

-- no extension does
abbrev pub HaveNoMatches : Bindings → Terms → Terms → Type 0
HaveNoMatches b patterns subjects = (d : Bindings) → Extends b d → SolvesAll d patterns subjects → ⊥

-- no part of the term is an instance of the pattern
abbrev mutual
  pub HasNoInstance : Term → Term → Type 0
  HasNoInstance pattern (var x) = Matches pattern (var x) → ⊥
  HasNoInstance pattern (app f ts) = (Matches pattern (app f ts) → ⊥) × NoneHasInstance pattern ts

  pub NoneHasInstance : Term → Terms → Type 0
  NoneHasInstance pattern nil = Unit {0}
  NoneHasInstance pattern (cons t ts) = HasNoInstance pattern t × NoneHasInstance pattern ts

-- the same for each left side
abbrev pub HaveNoInstance : List Rule → Term → Type 0
HaveNoInstance [] t = Unit {0}
HaveNoInstance (r ∷ rs) t = HasNoInstance r.left t × HaveNoInstance rs t
